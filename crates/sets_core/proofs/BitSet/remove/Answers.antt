use Rattle.std.proofs.Common.{◌≡◌, ◌<◌, ◌-◌, ◌*◌, ◌%◌, ◌^◌, sym, ◌∙◌, length, set, length-set, bit_and, arith}
use Rattle.std.proofs.lemmas.List.{get_or_read, get_or-set_same}
use Rattle.sets_core.proofs.InsertedRemoved.{number_lt, word_listed, emptied_stored, emptied_members, removed_stored, removed_members}
use Rattle.sets_core.proofs.BitSet.remove.Goals as goal

pub index_mut-requires : goal.index_mut-requires
index_mut-requires c =
    let i_lt = number_lt c.self.inside.size c.self.inside.words.items c.args.number (rw (← c.self.view_is) at c.requires) in
    let listed = word_listed c.self.inside.size c.self.inside.filled c.self.inside.words.items c.args.number c.self.invariant i_lt in
    omega (arith, c.from-word.ensures, listed)

pub index-requires : goal.index-requires
index-requires c =
    let i_lt = number_lt c.self.inside.size c.self.inside.words.items c.args.number (rw (← c.self.view_is) at c.requires) in
    let listed = word_listed c.self.inside.size c.self.inside.filled c.self.inside.words.items c.args.number c.self.invariant i_lt in
    omega (arith, c.from-word.ensures, listed)

pub overflow_shl-self : goal.overflow_shl-self
overflow_shl-self c =
    let i_lt = number_lt c.self.inside.size c.self.inside.words.items c.args.number (rw (← c.self.view_is) at c.requires) in
    omega (arith, c.from-word.ensures, c.self.invariant.room, c.self.invariant.few, i_lt)

pub invariant_of-self : goal.invariant_of-self
invariant_of-self c =
    let words = c.self.inside.words.items in
    let i_lt = number_lt c.self.inside.size words c.args.number (rw (← c.self.view_is) at c.requires) in
    let listed : c.from-word.result < length words
    = omega (arith, c.from-word.ensures, word_listed c.self.inside.size c.self.inside.filled words c.args.number c.self.invariant i_lt) in
    let old = get_or_read words c.from-word.result c.index_mut.result.now listed c.index_mut.ensures.value 0 in
    let v = bit_and c.index_mut.result.now (18446744073709551615 - 1 * 2 ^ (c.args.number % 64) % 18446744073709551616) in
    let new : c.index.result.now ≡ v
    = get_or_read (set words c.from-word.result v) c.from-word.result c.index.result.now (omega (arith, length-set words c.from-word.result v, listed)) c.index.ensures 0
    ∙ get_or-set_same words c.from-word.result v 0 listed in
    let none = rw (old, c.from-word.ensures) at (sym new ∙ c.if-index-eq0.true) in
    rw (old, c.from-word.ensures) (emptied_stored c.self.inside.size c.self.inside.filled words c.args.number c.self.invariant i_lt none)

pub invariant_of-self-else-index-eq0 : goal.invariant_of-self-else-index-eq0
invariant_of-self-else-index-eq0 c =
    let words = c.self.inside.words.items in
    let i_lt = number_lt c.self.inside.size words c.args.number (rw (← c.self.view_is) at c.requires) in
    let listed : c.from-word.result < length words
    = omega (arith, c.from-word.ensures, word_listed c.self.inside.size c.self.inside.filled words c.args.number c.self.invariant i_lt) in
    let old = get_or_read words c.from-word.result c.index_mut.result.now listed c.index_mut.ensures.value 0 in
    let v = bit_and c.index_mut.result.now (18446744073709551615 - 1 * 2 ^ (c.args.number % 64) % 18446744073709551616) in
    let new : c.index.result.now ≡ v
    = get_or_read (set words c.from-word.result v) c.from-word.result c.index.result.now (omega (arith, length-set words c.from-word.result v, listed)) c.index.ensures 0
    ∙ get_or-set_same words c.from-word.result v 0 listed in
    let some : v ≡ 0 → ⊥ = λ none. c.if-index-eq0.false (new ∙ none) in
    let left = rw (old, c.from-word.ensures) at some in
    rw (old, c.from-word.ensures) (removed_stored c.self.inside.size c.self.inside.filled words c.args.number c.self.invariant i_lt left)

pub returns-then-index-eq0 : goal.returns-then-index-eq0
returns-then-index-eq0 c =
    let words = c.self.inside.words.items in
    let i_lt = number_lt c.self.inside.size words c.args.number (rw (← c.self.view_is) at c.requires) in
    let listed : c.from-word.result < length words
    = omega (arith, c.from-word.ensures, word_listed c.self.inside.size c.self.inside.filled words c.args.number c.self.invariant i_lt) in
    let old = get_or_read words c.from-word.result c.index_mut.result.now listed c.index_mut.ensures.value 0 in
    let v = bit_and c.index_mut.result.now (18446744073709551615 - 1 * 2 ^ (c.args.number % 64) % 18446744073709551616) in
    let new : c.index.result.now ≡ v
    = get_or_read (set words c.from-word.result v) c.from-word.result c.index.result.now (omega (arith, length-set words c.from-word.result v, listed)) c.index.ensures 0
    ∙ get_or-set_same words c.from-word.result v 0 listed in
    let none = rw (old, c.from-word.ensures) at (sym new ∙ c.if-index-eq0.true) in
    rw (← c.self.view_is, old, c.from-word.ensures) (emptied_members c.self.inside.size c.self.inside.filled words c.args.number c.self.invariant i_lt none)

pub returns-else-index-eq0 : goal.returns-else-index-eq0
returns-else-index-eq0 c =
    let words = c.self.inside.words.items in
    let i_lt = number_lt c.self.inside.size words c.args.number (rw (← c.self.view_is) at c.requires) in
    let listed : c.from-word.result < length words
    = omega (arith, c.from-word.ensures, word_listed c.self.inside.size c.self.inside.filled words c.args.number c.self.invariant i_lt) in
    let old = get_or_read words c.from-word.result c.index_mut.result.now listed c.index_mut.ensures.value 0 in
    let v = bit_and c.index_mut.result.now (18446744073709551615 - 1 * 2 ^ (c.args.number % 64) % 18446744073709551616) in
    let new : c.index.result.now ≡ v
    = get_or_read (set words c.from-word.result v) c.from-word.result c.index.result.now (omega (arith, length-set words c.from-word.result v, listed)) c.index.ensures 0
    ∙ get_or-set_same words c.from-word.result v 0 listed in
    let some : v ≡ 0 → ⊥ = λ none. c.if-index-eq0.false (new ∙ none) in
    let left = rw (old, c.from-word.ensures) at some in
    rw (← c.self.view_is, old, c.from-word.ensures) (removed_members c.self.inside.size c.self.inside.filled words c.args.number c.self.invariant i_lt left)
