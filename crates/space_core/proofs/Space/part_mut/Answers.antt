use Rattle.std.proofs.Common.{◌≡◌, ℕ, List, [], length, get_or, ap, sym, ◌∙◌, refl, subst, arith, slice_range, ◌+◌, ◌<◌, ◌≤◌}
use Rattle.std.specs.Global.{Vec}
use Rattle.std.proofs.Math.ListN.{set}
use Rattle.std.specs.Vec.{with_items_from}
use Rattle.space_core.specs.Content.{Content, IsSpace}
use Rattle.space_core.specs.Storage.{shown_banks}
use Rattle.space_core.specs.Windows.{put_within}
use Rattle.space_core.specs.contracts.Space.{the_view}
use Rattle.space_core.proofs.TableLemmas.{lists_of, lists_of-set, length-lists_of}
use Rattle.space_core.proofs.BankLemmas.{with_banks, with_bank-IsSpace, items-with_items_from, length-put_within}
use Rattle.space_core.proofs.StoredBytes.{shown-read, length-shown, length-shown_read, shown-set, or_zeros-full, full-from_length, stored_out}
use Rattle.std.proofs.lemmas.List.Elements.{All-set}
use Rattle.space_core.proofs.Space.part_mut.Goals as goal
use Rattle.space_core.proofs.Space.part_mut.Goals.{After-index_mut-bank}

-- the vectors `banks` show the bytes of s, and `read` has the `unit` bytes of superblock m
record IsRead (s : Content) (banks : List (Vec ℕ)) (m : ℕ) (read : Vec ℕ) : Type 0 where
  whole : shown_banks s.unit (lists_of banks) ≡ s.banks
  listed : m < length banks
  items : get_or s.banks m [] ≡ read.items
  size : read.len ≡ s.unit

found : (c : After-index_mut-bank) → IsRead (the_view c.self.inside) c.write_out.new.banks.items c.args.m c.index_mut-bank.result.now
found c =
    let s = the_view c.self.inside in
    let facts = c.self.invariant.0 in
    let owned = rw (← c.self.view_is) at c.requires.in_bounds in
    let banks = c.write_out.new.banks.items in
    let read = c.index_mut-bank.result.now in
    let stored = stored_out facts (lists_of c.self.inside.banks.items) (lists_of banks) c.args.m refl c.write_out.ensures.banks owned in
    let listed : c.args.m < length banks = omega (arith, facts.paired, ap length stored.whole, length-shown s.unit (lists_of banks), length-lists_of banks) in
    let items = ap (λ (bs : List (List ℕ)). get_or bs c.args.m []) (sym stored.whole) ∙ shown-read s.unit banks c.args.m read listed c.index_mut-bank.ensures.value stored.full in
    record { whole = stored.whole; listed = listed; items = items; size = read.ok.0 ∙ length-shown_read facts banks (sym stored.whole) c.args.m read owned items }

-- if w is written into the vector of superblock m from i on, the vectors show w there, and all other bytes as before
shown-written : {s : Content} {banks : List (Vec ℕ)} {m : ℕ} {read : Vec ℕ} → IsSpace s → IsRead s banks m read → (i : ℕ) (w : List ℕ) → i ≤ s.unit
    → shown_banks s.unit (lists_of (set banks m (with_items_from read i w))) ≡ set s.banks m (put_within read.items i w)
shown-written {s} {banks} {m} {read} facts r i w within =
    let items = items-with_items_from read i w (omega (arith, r.size)) in
    let full = full-from_length (put_within read.items i w) (omega (arith, facts.some, r.size, read.ok.0, length-put_within read.items i w (omega (arith, r.size, read.ok.0)))) in
    ap (shown_banks s.unit) (lists_of-set banks m (with_items_from read i w) ∙ ap (λ bytes. set (lists_of banks) m bytes) items)
    ∙ (shown-set s.unit (lists_of banks) m (put_within read.items i w) ∙ ap (λ bytes. set (shown_banks s.unit (lists_of banks)) m bytes) (or_zeros-full s.unit (put_within read.items i w) full))
    ∙ ap (λ (bs : List (List ℕ)). set bs m (put_within read.items i w)) r.whole

pub invariant_of-self-lent : goal.invariant_of-self-lent
invariant_of-self-lent c = λ w.
    let s = the_view c.self.inside in
    let facts = c.self.invariant.0 in
    let owned = rw (← c.self.view_is) at c.requires.in_bounds in
    let has_owner = rw (← c.self.view_is) at c.requires.owned in
    let within = rw (← c.self.view_is) at c.requires.within in
    let banks = c.write_out.new.banks.items in
    let read = c.index_mut-bank.result.now in
    let r = found (goal.at.invariant_of-self-lent c).After-index_mut-bank in
    let capacity = subst (λ (bank : Vec ℕ). s.unit ≤ bank.cap) (sym c.index_mut-bank.ensures.value) (c.write_out.ensures.capacity c.args.m read r.listed) in
    let long = length-put_within read.items c.args.from w (omega (arith, read.ok.0)) in (
      subst (λ bs. IsSpace (with_banks s bs)) (sym (shown-written facts r c.args.from w (omega (arith, within))))
          (with_bank-IsSpace facts c.args.m has_owner owned (put_within read.items c.args.from w) (long ∙ (sym read.ok.0 ∙ r.size))),
      record {
        capacity = All-set (λ (bank : Vec ℕ). s.unit ≤ bank.cap) banks c.args.m (with_items_from read c.args.from w) capacity c.write_out.ensures.capacity;
        blank = c.self.invariant.1.blank;
        few = c.self.invariant.1.few;
        size = c.self.invariant.1.size;
      },
      c.self.invariant.2,
      c.self.invariant.3,
    )

pub returns : goal.returns
returns c =
    let s = the_view c.self.inside in
    let within = rw (← c.self.view_is) at c.requires.within in
    let r = found (goal.at.returns c).After-index_mut-bank in
    rw (← c.self.view_is) (
      (refl, λ w. ap (with_banks s) (shown-written c.self.invariant.0 r c.args.from w (omega (arith, within)) ∙ ap (λ xs. set s.banks c.args.m (put_within xs c.args.from w)) (sym r.items))),
      record {
        writes_back = tt;
        value = c.slice_mut.ensures.value ∙ ap (λ xs. slice_range xs c.args.from (c.args.from + c.args.len)) (sym r.items);
        len = c.slice_mut.ensures.len ∙ omega arith;
      },
    )

pub slice_mut-requires-clause-in_bounds : goal.slice_mut-requires-clause-in_bounds
slice_mut-requires-clause-in_bounds c =
    let within = rw (← c.self.view_is) at c.requires.within in
    let r = found (goal.at.slice_mut-requires-clause-in_bounds c).After-index_mut-bank in
    let read = c.index_mut-bank.result.now in
    omega (arith, within, r.size, read.ok.0)
