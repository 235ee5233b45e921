-- A range in reach lies in a held slot, and at each place of the range the machine has the memory's byte.
use Rattle.std.proofs.Common.{◌≡◌, ℕ, suc, ◌+◌, ◌-◌, ◌*◌, ◌/◌, ◌%◌, ◌^◌, ◌<◌, ◌≤◌, true, false, List, [], ◌∷◌, Some, None, length, refl, sym, ap, ◌∙◌, subst, ⊎_elim, arith}
use Rattle.std.specs.Prelude.{Option, IsSome, is_some, nat_lt, nat_le, slice_index, filter_map}
use Rattle.std.specs.List.{range_with_len}
use Rattle.std.proofs.lemmas.Bool.{false≢true, lt-ltb, le-leb, and_from, false_from_ne_true}
use Rattle.std.proofs.lemmas.Nat.{row_fits}
use Rattle.model_core.specs.Blocks.{block, HasFrame}
use Rattle.model_core.specs.Layouts.{Layout, in_object}
use Rattle.model_core.specs.Machine.{Machine, slot_of}
use Rattle.model_core.proofs.BlocksApart.{in_block-true, in_block-from}
use Rattle.model_core.proofs.BlocksByNumber.{number_of_frame, same_slot}
use Rattle.layout_core.proofs.ObjectByChunk.{is_at}
use Rattle.space_core.specs.Content as spaces
use Rattle.space_core.specs.Windows.{home_of, byte_at}
use Rattle.space_core.proofs.Ranges.{range_held}
use Rattle.buddy_core.specs.Content as buddies
use Rattle.slab_tables.specs.declared.cache.Cache as own
use Rattle.slab_tables.specs.Content.{Content, kept_at, layout_numbers}
use Rattle.machine_changes.specs.Shows.{machine_frame_of, has_slab, is_inside, IsSlab, ShowsMachine}
use Rattle.machine_changes.specs.Steady.{IsSteady}
use Rattle.machine_changes.specs.Changes.{Found}
use Rattle.machine_changes.proofs.SlabFacts.{has_it}
use Rattle.machine_changes.proofs.LiveObjects.{fit_of}
use Rattle.machine_changes.specs.Objects.{HasRange}
use Rattle.machine_changes.specs.Pages.{IsInPage, IsInReach, ReachHeld, ReachBytes, ReachReads}
use Rattle.machine_changes.proofs.PageReachByBlock.{frame_in}

-- Objects

-- an object of the slab has a byte at this offset, which is below `room` and inside the slab
pub record IsObjectByte (l : Layout) (size colour off z : ℕ) : Type 0 where
  pub below : off < 4096 * z
  pub room : off < l.room
  pub object : in_object l size colour off ≡ true

object_byte : (l : Layout) (size colour i j off : ℕ) → 16 ≤ l.chunk → colour + l.count * l.chunk ≤ l.room → l.room ≤ 4096 * 2 ^ l.order → size ≤ l.chunk
    → i < l.count → j < size → colour + i * l.chunk + j ≡ off → IsObjectByte l size colour off (2 ^ l.order)
object_byte l size colour i j off wide inside within sized less few e =
    let at = is_at colour off l.chunk i j e (omega arith) in
    let row : i * l.chunk + l.chunk ≤ l.count * l.chunk = row_fits i l.chunk l.count l.chunk less (omega arith) in
    let index : (off - colour) / l.chunk ≡ i = at.chunk_of in
    let byte : (off - colour) % l.chunk ≡ j = at.byte_of in
    record {
      below = omega arith;
      room = omega arith;
      object = and_from (nat_le colour off) _ (le-leb colour off at.behind)
          (and_from (nat_lt ((off - colour) / l.chunk) l.count) (nat_lt ((off - colour) % l.chunk) size)
          (lt-ltb ((off - colour) / l.chunk) l.count (omega arith)) (lt-ltb ((off - colour) % l.chunk) size (omega arith)));
    }

module _ (r : spaces.Content) (b : buddies.Content) (s : Content) (t place len : ℕ) (st : IsSteady r b s t) (o : Found) (g : HasRange r s t place len o) where
  -- an object of the slab has a byte at each place of the range
  pub byte_of : (p : ℕ) → place ≤ p → p < place + len
      → (4096 * o.first ≤ p) × IsObjectByte (layout_numbers o.cache) o.cache.layout.size (kept_at s.kept o.machine_frame).colour (p - 4096 * o.first) (2 ^ (layout_numbers o.cache).order)
  byte_of p low high =
      let fit = fit_of r b s t g.number st o.first o.machine_frame o.cache g.object.slab in
      let begins = g.object.begins in
      let from = g.from in
      let to = g.to in
      let base : 4096 * o.first ≤ p = omega arith in (
        base,
        object_byte (layout_numbers o.cache) o.cache.layout.size (kept_at s.kept o.machine_frame).colour o.index (p - g.begin) (p - 4096 * o.first)
            fit.chunked fit.inside fit.within (st.stands g.number o.first o.machine_frame o.cache g.object.slab).layout.chunked g.object.index (omega arith) (omega arith),
      )

-- Ranges inside one taken block

record IsInBlock (b : buddies.Content) (t place len : ℕ) : Type 0 where
  first : ℕ
  order : ℕ
  taken : buddies.taken_of (buddies.holding_of t b) first ≡ Some order
  begins : 4096 * first ≤ place
  ends : place + len ≤ 4096 * (first + 2 ^ order)

ends_within : (first z p : ℕ) → 4096 * first ≤ p → p - 4096 * first < 4096 * z → p + 1 ≤ 4096 * (first + z)
ends_within first z p low high = omega arith

page_block : (r : spaces.Content) (b : buddies.Content) (s : Content) (t place len : ℕ) → IsInPage r b s t place len → IsInBlock b t place len
page_block r b s t place len p = record { first = p.first; order = p.order; taken = p.taken; begins = p.begins; ends = p.ends }

object_block : (r : spaces.Content) (b : buddies.Content) (s : Content) (t place len : ℕ) → IsSteady r b s t → (o : Found) → HasRange r s t place len o
    → IsInBlock b t place len
object_block r b s t place len st o g =
    let some = g.some in
    let low = byte_of r b s t place len st o g place (omega arith) (omega arith) in
    let last : ℕ = place + len - 1 in
    let high = byte_of r b s t place len st o g last (omega arith) (omega arith) in
    let ends = ends_within o.first (2 ^ (layout_numbers o.cache).order) last high.0 high.1.below in
    record {
      first = o.first;
      order = (layout_numbers o.cache).order;
      taken = (st.stands g.number o.first o.machine_frame o.cache g.object.slab).taken;
      begins = low.0;
      ends = omega arith;
    }

module _ (r : spaces.Content) (b : buddies.Content) (s : Content) (t place len : ℕ) (st : IsSteady r b s t) (x : IsInBlock b t place len) where
  -- the range lies in one held slot
  home_some : 0 < len → r.unit ≡ 4096 * 2 ^ s.top → IsSome (home_of r t place len)
  home_some some unit =
      let placed = st.sound.placed x.first x.order x.taken in
      range_held r t s.top x.first x.order place len unit placed.0.0 placed.0.1 placed.1 some x.begins x.ends

  -- each place of the range lies in a held slot
  held : (p : ℕ) → place ≤ p → p < place + len → is_some (spaces.superblock_at r.slots t (slot_of s.top p)) ≡ true
  held p low high =
      let placed = st.sound.placed x.first x.order x.taken in
      let frame : HasFrame (block x.first x.order) (p / 4096) = frame_in x.first (2 ^ x.order) place len p x.begins x.ends low high in
      let same : p / 4096 / 2 ^ s.top ≡ x.first / 2 ^ s.top =
      same_slot s.top x.order (p / 4096) x.first placed.0.0 (number_of_frame x.first x.order (p / 4096) placed.0.1 frame) in
      ap (λ u. is_some (spaces.superblock_at r.slots t u)) same ∙ placed.1

pub reach_held : ReachHeld
reach_held r b s t place len a st is =
    let x : IsInBlock b t place len =
    ⊎_elim (λ page. page_block r b s t place len page) (λ object. object_block r b s t place len st object.0 object.1) is.inside in
    home_some r b s t place len st x is.some a.unit

-- Which places of a range lie in slabs

module _ (r : spaces.Content) (b : buddies.Content) (s : Content) (t place len : ℕ) (st : IsSteady r b s t) where
  -- no place of a range inside a page block lies in a slab
  pub page_outside : IsInPage r b s t place len → (p : ℕ) → place ≤ p → p < place + len
      → (c f n : ℕ) (cache : own.Cache) → IsSlab r s t c f n cache → is_inside p f cache ≡ false
  page_outside g p low high c f n cache q =
      false_from_ne_true (is_inside p f cache) (λ inside.
      let frame : HasFrame (block g.first g.order) (p / 4096) = frame_in g.first (2 ^ g.order) place len p g.begins g.ends low high in
      let same : f ≡ g.first =
      st.sound.apart f (layout_numbers cache).order g.first g.order (p / 4096) (st.stands c f n cache q).taken g.taken
      (in_block-true p (block f (layout_numbers cache).order) inside) frame in
      false≢true (sym g.page ∙ subst (λ x. has_slab s (machine_frame_of s.top r.slots t x) ≡ true) same (has_it r s t c f n cache q)))

  -- each place of a range inside a live object lies in the object's slab
  pub object_inside : (o : Found) (g : HasRange r s t place len o) (p : ℕ) → place ≤ p → p < place + len → is_inside p o.first o.cache ≡ true
  object_inside o g p low high =
      let is = byte_of r b s t place len st o g p low high in
      let z : ℕ = 2 ^ (layout_numbers o.cache).order in
      in_block-from p (block o.first (layout_numbers o.cache).order)
      (frame_in o.first z p 1 p is.0 (ends_within o.first z p is.0 is.1.below) (omega arith) (omega arith))

-- Bytes

module _ (r : spaces.Content) (b : buddies.Content) (s : Content) (t place len : ℕ) (st : IsSteady r b s t) (is : IsInReach r b s t place len)
    (m : Machine) (h : ShowsMachine r b s t m) where
  -- the machine has a byte at each place of a range in reach
  pub mapped_in_reach : (p : ℕ) → place ≤ p → p < place + len → is_some (m.bytes p) ≡ true
  mapped_in_reach p low high =
      ⊎_elim
      (λ page.
      h.mapped p (page_outside r b s t place len st page p low high)
      ∙ (h.slots (slot_of s.top p) ∙ held r b s t place len st (page_block r b s t place len page) p low high))
      (λ object.
      h.in_slab p object.1.number object.0.first object.0.machine_frame object.0.cache object.1.object.slab
      (object_inside r b s t place len st object.0 object.1 p low high)
      ∙ (byte_of r b s t place len st object.0 object.1 p low high).1.object)
      is.inside

  byte_told : (p : ℕ) → is_some (m.bytes p) ≡ true → m.bytes p ≡ byte_at r t p
  byte_told p some = go (m.bytes p) refl some
    where
      go : (o : Option ℕ) → m.bytes p ≡ o → is_some o ≡ true → m.bytes p ≡ byte_at r t p
      go None e some = absurd (false≢true some)
      go (Some x) e some = e ∙ sym (h.bytes p x e)

pub reach_bytes : ReachBytes
reach_bytes r b s t place len m st h is p low high = byte_told r b s t place len st is m h p (mapped_in_reach r b s t place len st is m h p low high)

-- Reading

cons_some : {A : Type 0} (o : Option A) (x : A) (f : ℕ → Option A) (is : List ℕ) → o ≡ Some x → (n : ℕ) → f n ≡ o → filter_map f (n ∷ is) ≡ x ∷ filter_map f is
cons_some o x f is some n here = rw here (rw some refl)

-- if the bytes at the places from `place` on are xs, reading these places returns xs
range_reads : (bytes : ℕ → Option ℕ) (place : ℕ) (xs : List ℕ) → ((i : ℕ) → i < length xs → bytes (place + i) ≡ Some (slice_index xs i))
    → filter_map bytes (range_with_len place (length xs)) ≡ xs
range_reads bytes place [] each = refl
range_reads bytes place (x ∷ xs) each =
    let at : place + 0 ≡ place = omega arith in
    let first : bytes place ≡ Some x = subst (λ p. bytes p ≡ Some x) at (each 0 (omega arith)) in
    cons_some (bytes place) x bytes (range_with_len (place + 1) (length xs)) first place refl
    ∙ ap (λ ys. x ∷ ys) (range_reads bytes (place + 1) xs (λ i below.
    let shift : place + suc i ≡ place + 1 + i = omega arith in
    subst (λ p. bytes p ≡ Some (slice_index xs i)) shift (each (suc i) (omega arith))))

pub reach_reads : ReachReads
reach_reads r b s t place len bytes m st h is read =
    let count = read.count in
    subst (λ n. filter_map m.bytes (range_with_len place n) ≡ bytes) read.count
    (range_reads m.bytes place bytes (λ i below.
    reach_bytes r b s t place len m st h is (place + i) (omega arith) (omega arith) ∙ read.each i (omega arith)))
