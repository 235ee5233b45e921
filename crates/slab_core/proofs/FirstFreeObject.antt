-- The first free object of a slab, read from its record.
use Rattle.std.proofs.Common.{◌≡◌, ℕ, suc, ◌+◌, ◌*◌, ◌/◌, ◌%◌, ◌^◌, ◌<◌, ◌≤◌, Bool, true, false, not, List, [], ◌∷◌, Option, Some, None, length, get_or, refl, sym, ap, ◌∙◌, subst, arith}
use Rattle.std.specs.Prelude.{IsSome, None, if◌then◌else◌}
use Rattle.std.proofs.lemmas.Bool.{false≢true}
use Rattle.std.specs.List.{position_or_len}
use Rattle.model_core.specs.Layouts.{is_small}
use Rattle.space_core.specs.Content as spaces
use Rattle.space_core.specs.Laws.{OwnBytes}
use Rattle.space_core.specs.Windows.{byte_at, is_in_slot, home_of, window_of}
use Rattle.space_core.proofs.Ranges.{range_held}
use Rattle.slab_tables.specs.declared.cache.Cache as own
use Rattle.slab_tables.specs.declared.cache.Kept.{Kept}
use Rattle.slab_tables.specs.Content.{Content, layout_numbers}
use Rattle.machine_changes.specs.Records.{is_set}
use Rattle.machine_changes.specs.Shows.{byte_or_zero, record_byte, is_live, live_of, IsSlab}
use Rattle.machine_changes.proofs.SlabFacts.{under_is}
use Rattle.slab_core.proofs.RecordBitTurned.{live_small, live_large}
use Rattle.machine_changes.proofs.ObjectFlags.{length_flags, flag_at}
use Rattle.slab_core.specs.Objects.{HasClear, IsRecordRaised}
use Rattle.slab_core.proofs.SlabPlaces.{record_under}
use Rattle.slab_core.proofs.FirstClearBit.{IsClear, full_byte, least_of}

-- the last 32 bytes of a slab's first frame lie in the superblock of the slab
pub record_home : {r : spaces.Content} {s : Content} {t c f n place : ℕ} {cache : own.Cache} → IsSlab r s t c f n cache → r.unit ≡ 4096 * 2 ^ s.top
    → place ≡ 4096 * f + 4064 → home_of r t place 32 ≡ Some (n / 2 ^ s.top)
record_home {r = r} {s = s} {t = t} {c = c} {f = f} {n = n} {place = place} {cache = cache} q unit at =
    let m = under_is s.top f n (spaces.superblock_at r.slots t (f / 2 ^ s.top)) q.under in
    let held = range_held r t s.top f 0 place 32 unit (omega arith) (omega arith) (subst (λ (o : Option ℕ). IsSome o) (sym m.1) refl) (omega arith) (omega arith) (omega arith) in
    let under = record_under r s t c f n 0 cache q unit (omega arith) in
    go (is_in_slot r.unit place 32) (spaces.superblock_at r.slots t (place / r.unit)) held
    (subst (λ p. spaces.superblock_at r.slots t (p / r.unit) ≡ Some (n / 2 ^ s.top)) (omega (arith, at)) under)
  where
    go : (b : Bool) (o : Option ℕ) → IsSome (if b then o else None) → o ≡ Some (n / 2 ^ s.top) → (if b then o else None) ≡ Some (n / 2 ^ s.top)
    go true o some under = under
    go false o none under = absurd (false≢true none)

-- a read of the 32 bytes at the record's place returns the bytes of the control record in frame f
pub record_read : (r : spaces.Content) (t f place : ℕ) (bytes : List ℕ) → OwnBytes r → place ≡ 4096 * f + 4064 → window_of r t place 32 ≡ Some bytes
    → (j : ℕ) → j < 32 → record_byte r t f j ≡ get_or bytes j 0
record_read r t f place bytes mine at e j less =
    let x = (mine.read t place 32 bytes e).each j less in
    ap (λ p. byte_or_zero (byte_at r t p)) (let same : 4096 * f + 4064 + j ≡ place + j = omega arith in same) ∙ ap byte_or_zero x

-- if the search for a false flag ends before the end of the list, the flag at which it ends is false
clear_found : (xs : List Bool) → position_or_len not xs < length xs → get_or xs (position_or_len not xs) false ≡ false
clear_found [] less = absurd (omega arith)
clear_found (true ∷ xs) less =
    let next : position_or_len not (true ∷ xs) ≡ suc (position_or_len not xs) = omega arith in
    rw next (clear_found xs (omega arith))
clear_found (false ∷ xs) less = refl

module _ (r : spaces.Content) (t : ℕ) (cache : own.Cache) (kept : Kept) (f : ℕ) (free : position_or_len not (live_of r t cache kept f) < (layout_numbers cache).count) where
  abbrev least : ℕ
  least = position_or_len not (live_of r t cache kept f)

  long : length (live_of r t cache kept f) ≡ (layout_numbers cache).count
  long = length_flags 0 (layout_numbers cache).count (is_live r t cache kept f)

  pub least_free : is_live r t cache kept f least ≡ false
  least_free = sym (flag_at (layout_numbers cache).count least (is_live r t cache kept f) false free) ∙ clear_found (live_of r t cache kept f) (omega (arith, long))

  -- for a slab of small objects, which has its record in its frame
  module _ (small : is_small (layout_numbers cache).chunk ≡ true) (few : (layout_numbers cache).count ≤ 256) (mine : OwnBytes r) (place : ℕ) (at : place ≡ 4096 * f + 4064) where
    bit : (bytes : List ℕ) → window_of r t place 32 ≡ Some bytes → (j : ℕ) → j < 256 → is_live r t cache kept f j ≡ is_set (get_or bytes (j / 8) 0) (j % 8)
    bit bytes e j less = live_small r t cache kept f j small ∙ ap (λ x. is_set x (j % 8)) (record_read r t f place bytes mine at e (j / 8) (omega arith))

    pub has_clear : (bytes : List ℕ) → window_of r t place 32 ≡ Some bytes → HasClear bytes
    has_clear bytes e =
        let read = mine.read t place 32 bytes e in record {
          at = least / 8;
          within = omega (arith, read.count);
          clear = λ full. false≢true (sym least_free ∙ (bit bytes e least (omega arith) ∙ full_byte (get_or bytes (least / 8) 0) (least % 8) full (omega arith)));
        }

    pub claimed_inside : (r' : spaces.Content) (k : ℕ) → IsRecordRaised r r' t place k → k ≡ least
    claimed_inside r' k x =
        let read = mine.read t place 32 x.before x.read in
        let below : k < 256 = omega (arith, x.raised.below, read.count) in
        let is = least_of (layout_numbers cache).count 256 k (is_live r t cache kept f) few (omega arith)
        (λ j low. bit x.before x.read j (omega arith) ∙ x.raised.ones j low) (λ low. bit x.before x.read k low ∙ x.raised.clear) in
        omega (arith, is, free)

  -- if the record is stored outside the slab, its first clear bit has the index of the first free object
  pub claimed_outside : (k : ℕ) → is_small (layout_numbers cache).chunk ≡ false → (layout_numbers cache).count ≤ 16 → IsClear 16 kept.outside k → k ≡ least
  claimed_outside k large few x =
      let is = least_of (layout_numbers cache).count 16 k (is_live r t cache kept f) few x.below
      (λ j low. live_large r t cache kept f j large ∙ x.ones j low) (λ low. live_large r t cache kept f k large ∙ x.clear low) in
      omega (arith, is, free)
