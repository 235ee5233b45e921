use Rattle.std.proofs.Common.{arith}
use Rattle.std.proofs.lemmas.List.{get_or_read}
use Rattle.sets_core.proofs.InsertedRemoved.{number_lt, word_listed, inserted_stored, inserted_members}
use Rattle.sets_core.proofs.BitSet.insert.Goals as goal

pub index_mut-requires : goal.index_mut-requires
index_mut-requires c =
    let i_lt = number_lt c.self.inside.size c.self.inside.words.items c.args.number (rw (← c.self.view_is) at c.requires) in
    let listed = word_listed c.self.inside.size c.self.inside.filled c.self.inside.words.items c.args.number c.self.invariant i_lt in
    omega (arith, c.from-word.ensures, listed)

pub overflow_shl-self : goal.overflow_shl-self
overflow_shl-self c =
    let i_lt = number_lt c.self.inside.size c.self.inside.words.items c.args.number (rw (← c.self.view_is) at c.requires) in
    omega (arith, c.from-word.ensures, c.self.invariant.room, c.self.invariant.few, i_lt)

pub invariant_of-self : goal.invariant_of-self
invariant_of-self c =
    let words = c.self.inside.words.items in
    let i_lt = number_lt c.self.inside.size words c.args.number (rw (← c.self.view_is) at c.requires) in
    let listed = word_listed c.self.inside.size c.self.inside.filled words c.args.number c.self.invariant i_lt in
    let old = get_or_read words c.from-word.result c.index_mut.result.now (omega (arith, c.from-word.ensures, listed)) c.index_mut.ensures.value 0 in
    rw (old, c.from-word.ensures) (inserted_stored c.self.inside.size c.self.inside.filled words c.args.number c.self.invariant i_lt)

pub returns : goal.returns
returns c =
    let words = c.self.inside.words.items in
    let i_lt = number_lt c.self.inside.size words c.args.number (rw (← c.self.view_is) at c.requires) in
    let listed = word_listed c.self.inside.size c.self.inside.filled words c.args.number c.self.invariant i_lt in
    let old = get_or_read words c.from-word.result c.index_mut.result.now (omega (arith, c.from-word.ensures, listed)) c.index_mut.ensures.value 0 in
    rw (← c.self.view_is, old, c.from-word.ensures) (inserted_members c.self.inside.size c.self.inside.filled words c.args.number c.self.invariant i_lt)
