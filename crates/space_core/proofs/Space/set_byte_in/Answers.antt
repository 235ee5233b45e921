use Rattle.std.proofs.Common.{◌≡◌, ◌≢◌, ℕ, ◌%◌, ◌/◌, List, Option, Some, None, [], length, get_or, ap, refl, sym, subst, ◌∙◌, arith}
use Rattle.std.proofs.Math.ListN.{set}
use Rattle.std.proofs.lemmas.List.{length-set}
use Rattle.space_core.specs.Content.{Content, IsSpace, owner_at}
use Rattle.space_core.specs.Windows.{banks_with_byte}
use Rattle.space_core.specs.Storage.{shown_banks}
use Rattle.space_core.specs.contracts.Space.{the_view}
use Rattle.space_core.proofs.TableLemmas.{lists_of, length-lists_of}
use Rattle.space_core.proofs.Mapping.{superblock-lt}
use Rattle.space_core.proofs.BankLemmas.{with_banks, with_bank-IsSpace}
use Rattle.space_core.proofs.StoredBytes.{length-shown, bank-shown_full, shown-set_byte, IsStored, stored_out}
use Rattle.space_core.proofs.Space.set_byte_in.Goals as goal
use Rattle.space_core.proofs.Space.set_byte_in.Goals.{After-write_out}

-- after `write_out`, the bytes of the superblock are stored
in_store : (c : After-write_out) → IsStored (the_view c.self.inside) (lists_of c.write_out.new.banks.items) c.from-m.result
in_store c =
    let s = the_view c.self.inside in
    let facts = c.self.invariant.0 in
    let m : ℕ = c.from-m.result in
    let under = rw (← c.self.view_is) at c.requires ∙ ap Some (sym c.from-m.ensures) in
    stored_out facts (lists_of c.self.inside.banks.items) (lists_of c.write_out.new.banks.items) m refl c.write_out.ensures.banks (superblock-lt facts c.args.t (c.args.place / s.unit) m under)

pub invariant_of-self : goal.invariant_of-self
invariant_of-self c =
    let s = the_view c.self.inside in
    let facts = c.self.invariant.0 in
    let m : ℕ = c.from-m.result in
    let i : ℕ = c.within-at.result in
    let stored = lists_of c.write_out.new.banks.items in
    let under = rw (← c.self.view_is) at c.requires ∙ ap Some (sym c.from-m.ensures) in
    let within = superblock-lt facts c.args.t (c.args.place / s.unit) m under in
    let owned = (facts.agree c.args.t (c.args.place / s.unit) m).0 under in
    let has_owner : owner_at s.owners m ≢ None = λ none. cc in
    let kept = in_store (goal.at.invariant_of-self c).After-write_out in
    let written = shown-set_byte s.unit stored m i c.args.byte kept.full ∙ ap (λ (banks : List (List ℕ)). set banks m (set (get_or banks m []) i c.args.byte)) kept.whole in
    let size : length (set (get_or s.banks m []) i c.args.byte) ≡ s.unit = length-set (get_or s.banks m []) i c.args.byte ∙ facts.sized m (omega (arith, facts.paired)) in
    let same = ap (shown_banks s.unit) c.set_byte_at.ensures.bytes ∙ written in (
      subst (λ bs. IsSpace (with_banks s bs)) (sym same) (with_bank-IsSpace facts m has_owner within (set (get_or s.banks m []) i c.args.byte) size),
      record { few = c.self.invariant.1.few; size = c.self.invariant.1.size; capacity = c.set_byte_at.ensures.capacity s.unit c.write_out.ensures.capacity; blank = c.self.invariant.1.blank },
      c.self.invariant.2,
      c.self.invariant.3,
    )

pub returns : goal.returns
returns c =
    let s = the_view c.self.inside in
    let facts = c.self.invariant.0 in
    let m : ℕ = c.from-m.result in
    let i : ℕ = c.within-at.result in
    let stored = lists_of c.write_out.new.banks.items in
    let under = rw (← c.self.view_is) at c.requires ∙ ap Some (sym c.from-m.ensures) in
    let kept = in_store (goal.at.returns c).After-write_out in
    let written = shown-set_byte s.unit stored m i c.args.byte kept.full ∙ ap (λ (banks : List (List ℕ)). set banks m (set (get_or banks m []) i c.args.byte)) kept.whole in
    let same = ap (shown_banks s.unit) c.set_byte_at.ensures.bytes ∙ written in
    let place = c.within-at.ensures ∙ ap (λ (x : Content). c.args.place % x.unit) (sym c.self.view_is) in
    rw (← c.self.view_is) (ap (with_banks s) same ∙ ap (λ (o : Option ℕ). with_banks s (banks_with_byte s.banks i c.args.byte o)) (sym under) ∙ ap (λ n. with_banks s (banks_with_byte s.banks n c.args.byte (get_or (get_or s.slots c.args.t []) (c.args.place / s.unit) None))) place)

pub set_byte_at-requires-clause-byte : goal.set_byte_at-requires-clause-byte
set_byte_at-requires-clause-byte c =
    let s = the_view c.self.inside in
    let facts = c.self.invariant.0 in
    let m : ℕ = c.from-m.result in
    let stored = lists_of c.write_out.new.banks.items in
    let under = rw (← c.self.view_is) at c.requires ∙ ap Some (sym c.from-m.ensures) in
    let within = superblock-lt facts c.args.t (c.args.place / s.unit) m under in
    let kept = in_store (goal.at.set_byte_at-requires-clause-byte c).After-write_out in
    let size : length (get_or stored m []) ≡ s.unit = ap length (sym (bank-shown_full s.unit stored m kept.full) ∙ ap (λ (banks : List (List ℕ)). get_or banks m []) kept.whole) ∙ facts.sized m (omega (arith, within, facts.paired)) in
    let place = c.within-at.ensures ∙ ap (λ (x : Content). c.args.place % x.unit) (sym c.self.view_is) in
    omega (arith, size, place, facts.some)

pub write_out-requires-clause-bank : goal.write_out-requires-clause-bank
write_out-requires-clause-bank c =
    let s = the_view c.self.inside in
    let facts = c.self.invariant.0 in
    let banks = c.self.inside.banks in
    let below = superblock-lt facts c.args.t (c.args.place / s.unit) c.args.m (rw (← c.self.view_is) at c.requires) in
    omega (arith, below, c.from-m.ensures, facts.paired, length-shown s.unit (lists_of banks.items), length-lists_of banks.items, banks.ok.0)

pub set_byte_at-requires-clause-bank : goal.set_byte_at-requires-clause-bank
set_byte_at-requires-clause-bank c =
    let s = the_view c.self.inside in
    let facts = c.self.invariant.0 in
    let after = c.write_out.new.banks in
    let below = superblock-lt facts c.args.t (c.args.place / s.unit) c.args.m (rw (← c.self.view_is) at c.requires) in
    let stored = ap length (in_store (goal.at.set_byte_at-requires-clause-bank c).After-write_out).whole in
    omega (arith, below, c.from-m.ensures, facts.paired, stored, length-shown s.unit (lists_of after.items), length-lists_of after.items, after.ok.0)
