-- If one bit of a slab's control record is flipped, in the frame or in the stored state, `IsTurned` is true of the bit's object.
use Rattle.std.proofs.Common.{◌≡◌, ◌≢◌, ℕ, ◌+◌, ◌-◌, ◌*◌, ◌/◌, ◌%◌, ◌^◌, ◌<◌, true, false, not, cond, Some, length, get_or, refl, sym, ap, ◌∙◌, subst, ◌⊎◌, inl, inr, arith}
use Rattle.std.specs.Prelude.{List, IsSome, ◌==◌, if◌then◌else◌, slice_index, slice_set}
use Rattle.std.specs.Int.Bits.{bit_xor}
use Rattle.std.proofs.lemmas.Bool.{cases_eq, cases_lt, eq-eqb, ne_eqb}
use Rattle.std.proofs.lemmas.List.{length-set, get_or-set_same, get_or-set_other}
use Rattle.std.proofs.lemmas.Nat.{one_shl}
use Rattle.model_core.specs.Layouts.{is_small}
use Rattle.space_core.specs.Content as spaces
use Rattle.space_core.specs.Laws.{SpaceLaws, IsSameFor, SpareStays, AreBytesAt}
use Rattle.space_core.specs.Windows.{byte_at, home_of, window_of, with_window}
use Rattle.slab_tables.specs.declared.cache.Cache as own
use Rattle.slab_tables.specs.declared.cache.Kept.{Kept}
use Rattle.slab_tables.specs.Content.{Content, blank, kept_at, layout_numbers}
use Rattle.slab_tables.specs.Changes.{with_outside}
use Rattle.machine_changes.specs.Records.{is_set}
use Rattle.machine_changes.specs.Shows.{byte_or_zero, record_byte, is_live}
use Rattle.machine_changes.specs.Changes.{Found}
use Rattle.slab_core.specs.Objects.{IsTurned, IsRecordRaised}
use Rattle.slab_core.proofs.ConstructedObjects.{in_range, out_of_range}
use Rattle.slab_core.proofs.RecordBits.{bit_turned, bit_stays}

-- The bit of object i is bit i % 8 of byte i / 8 of the record in the frame if the objects are small. If they are large, it is
-- bit i of the stored record.
pub live_small : (r : spaces.Content) (t : ℕ) (cache : own.Cache) (kept : Kept) (f i : ℕ) → is_small (layout_numbers cache).chunk ≡ true
    → is_live r t cache kept f i ≡ is_set (record_byte r t f (i / 8)) (i % 8)
live_small r t cache kept f i small = ap (λ b. cond b (is_set (record_byte r t f (i / 8)) (i % 8)) (is_set kept.outside i)) small

pub live_large : (r : spaces.Content) (t : ℕ) (cache : own.Cache) (kept : Kept) (f i : ℕ) → is_small (layout_numbers cache).chunk ≡ false
    → is_live r t cache kept f i ≡ is_set kept.outside i
live_large r t cache kept f i large = ap (λ b. cond b (is_set (record_byte r t f (i / 8)) (i % 8)) (is_set kept.outside i)) large

module _ (r : spaces.Content) (s : Content) (t : ℕ) (o : Found) where
  -- `after` is the memory after a write that flips the bit of object o in the record and changes nothing else. The lemmas do not
  -- depend on how the code writes.
  module _ (after : spaces.Content) (few : o.index < 256) (small : is_small (layout_numbers o.cache).chunk ≡ true) (place byte word : ℕ)
      (at : place ≡ 4096 * o.first + 4064 + o.index / 8) (reads : byte_at r t place ≡ Some byte) (is_flipped : word ≡ bit_xor byte (2 ^ (o.index % 8)))
      (now : (p : ℕ) → byte_at after t p ≡ (if p == place then Some word else byte_at r t p)) (same : after ≡ record r { banks = after.banks })
      (others : (u : ℕ) → u ≢ t → IsSameFor u r after) (spare : SpareStays r after) where
    here : byte_at after t place ≡ Some word
    here = now place ∙ ap (λ b. cond b (Some word) (byte_at r t place)) (eq-eqb place place refl)

    elsewhere : (p : ℕ) → p ≢ place → byte_at after t p ≡ byte_at r t p
    elsewhere p other = now p ∙ ap (λ b. cond b (Some word) (byte_at r t p)) (ne_eqb p place other)

    was_byte : record_byte r t o.first (o.index / 8) ≡ byte
    was_byte = ap (λ p. byte_or_zero (byte_at r t p)) (sym at) ∙ ap byte_or_zero reads

    now_byte : record_byte after t o.first (o.index / 8) ≡ word
    now_byte = ap (λ p. byte_or_zero (byte_at after t p)) (sym at) ∙ ap byte_or_zero here

    stay : (i : ℕ) → i < 256 → i ≢ o.index → is_live after t o.cache (kept_at s.kept o.machine_frame) o.first i ≡ is_live r t o.cache (kept_at s.kept o.machine_frame) o.first i
    stay i less other =
        live_small after t o.cache (kept_at s.kept o.machine_frame) o.first i small
        ∙ word_of (cases_eq (i / 8) (o.index / 8))
        ∙ sym (live_small r t o.cache (kept_at s.kept o.machine_frame) o.first i small)
      where
        word_of : ◌⊎◌ (i / 8 ≡ o.index / 8) (i / 8 ≢ o.index / 8) → is_set (record_byte after t o.first (i / 8)) (i % 8) ≡ is_set (record_byte r t o.first (i / 8)) (i % 8)
        word_of (inl same) =
            ap (λ j. is_set (record_byte after t o.first j) (i % 8)) same ∙ ap (λ w. is_set w (i % 8)) (now_byte ∙ is_flipped)
            ∙ bit_stays byte (o.index % 8) (i % 8) (λ e. other (omega arith))
            ∙ ap (λ w. is_set w (i % 8)) (sym was_byte) ∙ ap (λ j. is_set (record_byte r t o.first j) (i % 8)) (sym same)
        word_of (inr differ) = ap (λ x. is_set (byte_or_zero x) (i % 8)) (elsewhere (4096 * o.first + 4064 + i / 8) (λ e. differ (omega arith)))

    pub turned_by : IsTurned r after s s t o
    turned_by = record {
      turned = live_small after t o.cache (kept_at s.kept o.machine_frame) o.first o.index small
          ∙ ap (λ w. is_set w (o.index % 8)) (now_byte ∙ is_flipped) ∙ bit_turned byte (o.index % 8)
          ∙ ap (λ w. not (is_set w (o.index % 8))) (sym was_byte)
          ∙ ap not (sym (live_small r t o.cache (kept_at s.kept o.machine_frame) o.first o.index small));
      stay = stay;
      space = same;
      others = others;
      spare = spare;
      bytes = λ p out. elsewhere p (λ e. out (o.index / 8) (omega arith) (e ∙ at));
      large = λ big. absurd (big small);
      tables = refl;
      machine_frames = refl;
      kept = λ n other. refl;
      colour = refl;
      live = refl;
    }

  -- the 32 bytes of the record are written back, with the bit of object o flipped
  module _ (after : spaces.Content) (laws : SpaceLaws r) (few : o.index < 256) (small : is_small (layout_numbers o.cache).chunk ≡ true) (place : ℕ)
      (at : place ≡ 4096 * o.first + 4064) (home : IsSome (home_of r t place 32)) (before changed : List ℕ) (is_read : window_of r t place 32 ≡ Some before)
      (is_turned : changed ≡ slice_set before (o.index / 8) (bit_xor (slice_index before (o.index / 8)) (2 ^ (o.index % 8))))
      (written : after ≡ with_window r t place 32 changed) where
    read : AreBytesAt r t place 32 before
    read = laws.own_bytes.read t place 32 before is_read

    abbrev byte : ℕ
    byte = get_or before (o.index / 8) 0

    abbrev word : ℕ
    word = bit_xor byte (2 ^ (o.index % 8))

    long : length changed ≡ 32
    long = ap length is_turned ∙ length-set before (o.index / 8) word ∙ read.count

    abbrev bit_place : ℕ
    bit_place = place + o.index / 8

    index_of : (p j : ℕ) → p ≡ place + j → p - place ≡ j
    index_of p j e = omega arith

    turned_there : get_or changed (o.index / 8) 0 ≡ word
    turned_there = ap (λ bytes. get_or bytes (o.index / 8) 0) is_turned ∙ get_or-set_same before (o.index / 8) word 0 (omega (arith, read.count))

    stays_there : (j : ℕ) → j ≢ o.index / 8 → get_or changed j 0 ≡ get_or before j 0
    stays_there j differ = ap (λ bytes. get_or bytes j 0) is_turned ∙ get_or-set_other before (o.index / 8) j word 0 differ

    other : (p : ℕ) → p ≢ bit_place → byte_at (with_window r t place 32 changed) t p ≡ byte_at r t p
    other p differ = elim (cases_lt p place) [
      | inl before ↦ out_of_range r t place 32 changed laws.own_bytes home long p (λ low high. omega arith)
      | inr low ↦ elim (cases_lt p (place + 32)) [
        | inl high ↦
            let whole : place + (p - place) ≡ p = omega arith in
            in_range r t place 32 changed laws.own_bytes home long p low high
            ∙ ap (λ (x : ℕ). Some x) (stays_there (p - place) (λ e. differ (omega arith)))
            ∙ sym (ap (byte_at r t) (sym whole) ∙ read.each (p - place) (omega arith))
        | inr past ↦ out_of_range r t place 32 changed laws.own_bytes home long p (λ low high. omega arith)
      ]
    ]

    after_now : (p : ℕ) → byte_at (with_window r t place 32 changed) t p ≡ (if p == bit_place then Some word else byte_at r t p)
    after_now p = elim (cases_eq p bit_place) [
      | inl same ↦
          in_range r t place 32 changed laws.own_bytes home long p (omega arith) (omega arith)
          ∙ ap (λ (x : ℕ). Some x) (ap (λ j. get_or changed j 0) (index_of p (o.index / 8) same) ∙ turned_there)
          ∙ sym (ap (λ b. cond b (Some word) (byte_at r t p)) (eq-eqb p bit_place same))
      | inr differ ↦ other p differ ∙ sym (ap (λ b. cond b (Some word) (byte_at r t p)) (ne_eqb p bit_place differ))
    ]

    pub turned_record : IsTurned r after s s t o
    turned_record =
        subst (λ (x : spaces.Content). IsTurned r x s s t o) (sym written)
        (turned_by (with_window r t place 32 changed) few small bit_place byte word (omega (arith, at)) (read.each (o.index / 8) (omega arith)) refl
        after_now refl (λ u other. laws.others.window t place 32 changed u other) (laws.spare.window t place 32 changed))

  -- if the first clear bit of the record is the bit of object o, setting it flips the bit of o
  pub turned_window : (after : spaces.Content) → SpaceLaws r → o.index < 256 → is_small (layout_numbers o.cache).chunk ≡ true → (place : ℕ)
      → place ≡ 4096 * o.first + 4064 → IsSome (home_of r t place 32) → IsRecordRaised r after t place o.index → IsTurned r after s s t o
  turned_window after laws few small place at home k = turned_record after laws few small place at home k.before k.after k.read k.raised.turned k.written

  module _ (large : is_small (layout_numbers o.cache).chunk ≡ false) (few : o.index < 16) (within : o.machine_frame < length s.kept) (word : ℕ)
      (is : word ≡ bit_xor (kept_at s.kept o.machine_frame).outside (1 * 2 ^ o.index % 65536)) where
    now_kept : kept_at (with_outside s o.machine_frame word).kept o.machine_frame ≡ record (kept_at s.kept o.machine_frame) { outside = word }
    now_kept = get_or-set_same s.kept o.machine_frame (record (kept_at s.kept o.machine_frame) { outside = word }) blank within

    is_word : (kept_at (with_outside s o.machine_frame word).kept o.machine_frame).outside ≡ bit_xor (kept_at s.kept o.machine_frame).outside (2 ^ o.index)
    is_word = ap (λ (k : Kept). k.outside) now_kept ∙ is ∙ ap (bit_xor (kept_at s.kept o.machine_frame).outside) (one_shl o.index 16 few)

    pub turned_outside : IsTurned r r s (with_outside s o.machine_frame word) t o
    turned_outside = record {
      turned = live_large r t o.cache (kept_at (with_outside s o.machine_frame word).kept o.machine_frame) o.first o.index large
          ∙ ap (λ w. is_set w o.index) is_word ∙ bit_turned (kept_at s.kept o.machine_frame).outside o.index
          ∙ ap not (sym (live_large r t o.cache (kept_at s.kept o.machine_frame) o.first o.index large));
      stay = λ i less other. live_large r t o.cache (kept_at (with_outside s o.machine_frame word).kept o.machine_frame) o.first i large
          ∙ ap (λ w. is_set w i) is_word ∙ bit_stays (kept_at s.kept o.machine_frame).outside o.index i other
          ∙ sym (live_large r t o.cache (kept_at s.kept o.machine_frame) o.first i large);
      space = refl;
      others = λ u other. record { slots = λ v. refl; banks = λ v m e. refl; bytes = λ p. refl; windows = λ p len. refl };
      spare = λ m none. refl;
      bytes = λ p out. refl;
      large = λ big p. refl;
      tables = refl;
      machine_frames = length-set s.kept o.machine_frame (record (kept_at s.kept o.machine_frame) { outside = word });
      kept = λ n other. get_or-set_other s.kept o.machine_frame n (record (kept_at s.kept o.machine_frame) { outside = word }) blank other;
      colour = ap (λ (k : Kept). k.colour) now_kept;
      live = ap (λ (k : Kept). k.live) now_kept;
    }
