-- What a tenant reads depends only on the bytes of its slots.
use Rattle.std.proofs.Common.{◌≡◌, ◌≢◌, ℕ, ◌+◌, ◌%◌, ◌/◌, Bool, true, false, List, Option, Some, None, option_map, get_or, slice_range, refl, sym, ap, ◌∙◌}
use Rattle.std.specs.Prelude.{if◌then◌else◌}
use Rattle.space_core.specs.Content.{Content, IsSpace, bank, owner_at, superblock_at}
use Rattle.space_core.specs.Windows.{slot_bytes, is_in_slot, bytes_under, byte_under}
use Rattle.space_core.specs.Laws.{IsSameFor, ReadsSame}

-- the byte at an offset of a slot, and a range of a slot, depend only on the bytes of the slot
byte_from_slot : (banks : List (List ℕ)) (i : ℕ) (o : Option ℕ) → byte_under banks i o ≡ option_map (λ xs. get_or xs i 0) (option_map (bank banks) o)
byte_from_slot banks i None = refl
byte_from_slot banks i (Some m) = refl

abbrev range_of : ℕ → ℕ → ℕ → Option (List ℕ) → Option (List ℕ)
range_of unit place len slot = if is_in_slot unit place len then option_map (λ xs. slice_range xs (place % unit) (place % unit + len)) slot else None

range_from_slot : (unit place len : ℕ) (banks : List (List ℕ)) (o : Option ℕ) → bytes_under banks (place % unit) len (if is_in_slot unit place len then o else None) ≡ range_of unit place len (option_map (bank banks) o)
range_from_slot unit place len banks o = go (is_in_slot unit place len) o
  where
    go : (b : Bool) (o : Option ℕ) → bytes_under banks (place % unit) len (if b then o else None) ≡ (if b then option_map (λ xs. slice_range xs (place % unit) (place % unit + len)) (option_map (bank banks) o) else None)
    go true None = refl
    go true (Some m) = refl
    go false o = refl

-- if the unit and the bytes of each slot of tenant t are the same in s' as in s, the tenant reads the same
pub reads_same : (t : ℕ) (s s' : Content) → s'.unit ≡ s.unit → ((u : ℕ) → slot_bytes s' t u ≡ slot_bytes s t u) → ReadsSame t s s'
reads_same t s s' unit slots = record {
  slots = slots;
  bytes = λ place.
      ap (λ n. byte_under s'.banks (place % n) (superblock_at s'.slots t (place / n))) unit
      ∙ (byte_from_slot s'.banks (place % s.unit) (superblock_at s'.slots t (place / s.unit))
      ∙ (ap (λ (slot : Option (List ℕ)). option_map (λ xs. get_or xs (place % s.unit) 0) slot) (slots (place / s.unit))
      ∙ sym (byte_from_slot s.banks (place % s.unit) (superblock_at s.slots t (place / s.unit)))));
  windows = λ place len.
      ap (λ n. bytes_under s'.banks (place % n) len (if is_in_slot n place len then superblock_at s'.slots t (place / n) else None)) unit
      ∙ (range_from_slot s.unit place len s'.banks (superblock_at s'.slots t (place / s.unit))
      ∙ (ap (range_of s.unit place len) (slots (place / s.unit))
      ∙ sym (range_from_slot s.unit place len s.banks (superblock_at s.slots t (place / s.unit)))));
}

pub bank_kept : (banks banks' : List (List ℕ)) (o : Option ℕ) → ((m : ℕ) → o ≡ Some m → bank banks' m ≡ bank banks m) → option_map (bank banks') o ≡ option_map (bank banks) o
bank_kept banks banks' None kept = refl
bank_kept banks banks' (Some m) kept = ap (λ (xs : List ℕ). Some xs) (kept m refl)

-- if each slot of tenant t keeps its superblock, and these superblocks keep their bytes, the tenant reads the same as before
pub same_for : (t : ℕ) (s s' : Content) → s'.unit ≡ s.unit → ((u : ℕ) → superblock_at s'.slots t u ≡ superblock_at s.slots t u) → ((u m : ℕ) → superblock_at s.slots t u ≡ Some m → bank s'.banks m ≡ bank s.banks m) → IsSameFor t s s'
same_for t s s' unit slots banks =
    let reads = reads_same t s s' unit (λ u. ap (option_map (bank s'.banks)) (slots u) ∙ bank_kept s.banks s'.banks (superblock_at s.slots t u) (banks u)) in
    record { slots = slots; banks = banks; bytes = reads.bytes; windows = reads.windows }

-- if a and b are the same for tenant t, and b and c are too, then a and c are the same for tenant t
pub same_twice : (t : ℕ) (a b c : Content) → IsSameFor t a b → IsSameFor t b c → IsSameFor t a c
same_twice t a b c first second = record {
  slots = λ u. second.slots u ∙ first.slots u;
  banks = λ u m under. second.banks u m (first.slots u ∙ under) ∙ first.banks u m under;
  bytes = λ place. second.bytes place ∙ first.bytes place;
  windows = λ place len. second.windows place len ∙ first.windows place len;
}

-- a superblock in a slot differs from every superblock that has no owner
pub not_unowned : {s : Content} → IsSpace s → (t u n m : ℕ) → superblock_at s.slots t u ≡ Some n → owner_at s.owners m ≡ None → n ≢ m
not_unowned {s} facts t u n m under unowned same = let owned = (facts.agree t u n).0 under in let here = ap (owner_at s.owners) same in absurd (cc)
