-- What the tenant of a call reads at each place after the call.
use Rattle.std.proofs.Common.{◌≡◌, ℕ, ◌+◌, ◌-◌, ◌/◌, ◌%◌, ◌<◌, ◌≤◌, zero, Bool, true, false, List, [], Option, Some, None, option_map, IsSome, length, get_or, drop, replicate, slice_range, sym, ◌∙◌, ap, inl, inr, refl, arith}
use Rattle.std.specs.Prelude.{◌&&◌, nat_lt, nat_le, ◌==◌, if◌then◌else◌}
use Rattle.std.proofs.Math.ListN.{set}
use Rattle.std.proofs.lemmas.List.{get_or-set_same, get_or-set_other, length-take-le, length-drop}
use Rattle.std.proofs.lemmas.Bool.{cases_eq, cases_lt}
use Rattle.std.proofs.lemmas.Bool.Decides.{nat_tests}
use Rattle.space_core.specs.Content.{Content, IsSpace, bank, owner_at, superblock_at}
use Rattle.space_core.specs.Windows.{slot_bytes, is_in_slot, home_of, bytes_under, window_of, put_within, banks_with, with_window, byte_under, byte_at, banks_with_byte, with_byte}
use Rattle.space_core.specs.Changes.{with_grant, with_take_back, with_move, with_entry}
use Rattle.space_core.specs.Laws.{AreBytesAt, ReadsSame, OwnBytes}
use Rattle.space_core.proofs.BankLemmas.{with_bank, with_banks}
use Rattle.space_core.proofs.InvariantKept.{same_parts, tenant-lt}
use Rattle.space_core.proofs.Mapping.{superblock-lt, within_from_some}
use Rattle.space_core.proofs.MappingKept.{if_true, if_false, superblock_at-with_entry, superblock_at_other-with_entry}
use Rattle.space_core.proofs.BytesUnderSlots.{reads_same, bank_kept, not_unowned}
use Rattle.space_core.proofs.Places.{place-add, same_slot, get_or-slice_range, put_within-before, put_within-at, put_within-after}
use Rattle.model_core.proofs.Lists.{everywhere}

test_inside : (a p e : ℕ) → a ≤ p → p < e → (nat_le a p && nat_lt p e) ≡ true
test_inside a p e low high = grind (arith, nat_tests)

test_below : (a p e : ℕ) → p < a → (nat_le a p && nat_lt p e) ≡ false
test_below a p e low = grind (arith, nat_tests)

test_above : (a p e : ℕ) → e ≤ p → (nat_le a p && nat_lt p e) ≡ false
test_above a p e high = grind (arith, nat_tests)

in_slot : (unit place len : ℕ) → is_in_slot unit place len ≡ true → (0 < len) × (place % unit + len ≤ unit)
in_slot unit place len e = (grind (arith, nat_tests), grind (arith, nat_tests))

-- if superblock m is the home of a range, the range is not empty, lies in one slot, and m is in that slot
pub home_is : (s : Content) (t place len m : ℕ) → home_of s t place len ≡ Some m → (0 < len) × (place % s.unit + len ≤ s.unit) × (superblock_at s.slots t (place / s.unit) ≡ Some m)
home_is s t place len m = go (is_in_slot s.unit place len) refl
  where
    go : (b : Bool) → is_in_slot s.unit place len ≡ b → (if b then superblock_at s.slots t (place / s.unit) else None) ≡ Some m → (0 < len) × (place % s.unit + len ≤ s.unit) × (superblock_at s.slots t (place / s.unit) ≡ Some m)
    go true passes e = let both = in_slot s.unit place len passes in (both.0, both.1, e)
    go false no_home e = absurd (cc)

-- if superblock m is in the slot of place p, the byte at p is the byte of m at the offset of p
byte_is : (s : Content) (t p i m : ℕ) → superblock_at s.slots t (p / s.unit) ≡ Some m → p % s.unit ≡ i → byte_at s t p ≡ Some (get_or (bank s.banks m) i 0)
byte_is s t p i m under place = ap (byte_under s.banks (p % s.unit)) under ∙ ap (λ (j : ℕ). Some (get_or (bank s.banks m) j 0)) place

-- a superblock is in only one slot of a tenant
same_slot_number : {s : Content} → IsSpace s → (t u v m : ℕ) → superblock_at s.slots t u ≡ Some m → superblock_at s.slots t v ≡ Some m → u ≡ v
same_slot_number facts t u v m here there = (same_parts t u t v (sym ((facts.agree t u m).0 here) ∙ (facts.agree t v m).0 there)).1

size_of : {s : Content} → IsSpace s → (t u m : ℕ) → superblock_at s.slots t u ≡ Some m → (m < length s.banks) × (length (bank s.banks m) ≡ s.unit)
size_of {s} facts t u m under =
    let within : m < length s.banks = omega (arith, superblock-lt facts t u m under, facts.paired) in
    (within, facts.sized m within)

pub own_read : {s : Content} → IsSpace s → (t place len : ℕ) (bytes : List ℕ) → window_of s t place len ≡ Some bytes → AreBytesAt s t place len bytes
own_read {s} facts t place len bytes = go (home_of s t place len) refl
  where
    go : (o : Option ℕ) → home_of s t place len ≡ o → bytes_under s.banks (place % s.unit) len o ≡ Some bytes → AreBytesAt s t place len bytes
    go None h e = absurd (cc)
    go (Some m) h e =
        let home = home_is s t place len m h in
        let size = size_of facts t (place / s.unit) m home.2 in
        let from = place % s.unit in
        let xs = bank s.banks m in
        let is : slice_range xs from (from + len) ≡ bytes = cc in
        record {
          count = ap length (sym is) ∙ (length-take-le (from + len - from) (drop from xs) (omega (arith, length-drop from xs, size.1, home.1)) ∙ omega arith);
          each = λ i lt.
              let at = place-add s.unit place i facts.some (omega (arith, home.1)) in
              byte_is s t (place + i) (from + i) m (ap (superblock_at s.slots t) at.0 ∙ home.2) at.1 ∙ ap Some (sym (get_or-slice_range xs from len i lt) ∙ ap (λ ys. get_or ys i 0) is);
        }

-- after superblock m gets the bytes xs, a place reads as before if it is not in m, or if xs has the old byte at its offset
byte_at_kept-with_bank : (s : Content) (t m : ℕ) (xs : List ℕ) (p : ℕ) → m < length s.banks → (superblock_at s.slots t (p / s.unit) ≡ Some m → get_or xs (p % s.unit) 0 ≡ get_or (bank s.banks m) (p % s.unit) 0) → byte_at (with_bank s m xs) t p ≡ byte_at s t p
byte_at_kept-with_bank s t m xs p within kept = go (superblock_at s.slots t (p / s.unit)) refl
  where
    go : (o : Option ℕ) → superblock_at s.slots t (p / s.unit) ≡ o → byte_under (set s.banks m xs) (p % s.unit) o ≡ byte_under s.banks (p % s.unit) o
    go None e = refl
    go (Some n) e =
        elim (cases_eq n m) [
          | inl same ↦ ap (λ (k : ℕ). Some (get_or (bank (set s.banks m xs) k) (p % s.unit) 0)) same ∙ (ap (λ (ys : List ℕ). Some (get_or ys (p % s.unit) 0)) (get_or-set_same s.banks m xs [] within) ∙ (ap Some (kept (e ∙ ap Some same)) ∙ ap (λ (k : ℕ). Some (get_or (bank s.banks k) (p % s.unit) 0)) (sym same)))
          | inr differ ↦ ap (λ (ys : List ℕ). Some (get_or ys (p % s.unit) 0)) (get_or-set_other s.banks m n xs [] differ)
        ]

-- after superblock m gets the bytes xs, a place in m at offset i reads byte i of xs
byte_at-with_bank : (s : Content) (t m i : ℕ) (xs : List ℕ) (p : ℕ) → m < length s.banks → superblock_at s.slots t (p / s.unit) ≡ Some m → p % s.unit ≡ i → byte_at (with_bank s m xs) t p ≡ Some (get_or xs i 0)
byte_at-with_bank s t m i xs p within under place =
    byte_is (with_bank s m xs) t p i m under place ∙ ap (λ (ys : List ℕ). Some (get_or ys i 0)) (get_or-set_same s.banks m xs [] within)

pub own_window : {s : Content} → IsSpace s → (t place len : ℕ) (w : List ℕ) → IsSome (home_of s t place len) → length w ≡ len → (p : ℕ) → byte_at (with_window s t place len w) t p ≡ (if nat_le place p && nat_lt p (place + len) then Some (get_or w (p - place) 0) else byte_at s t p)
own_window {s} facts t place len w has_home size p = go (home_of s t place len) refl has_home
  where
    go : (o : Option ℕ) → home_of s t place len ≡ o → IsSome o → byte_at (with_banks s (banks_with s.banks (place % s.unit) w o)) t p ≡ (if nat_le place p && nat_lt p (place + len) then Some (get_or w (p - place) 0) else byte_at s t p)
    go None h some = cc
    go (Some m) h some =
        let from = place % s.unit in
        let xs = bank s.banks m in
        let home = home_is s t place len m h in
        let sized = size_of facts t (place / s.unit) m home.2 in
        let test = nat_le place p && nat_lt p (place + len) in
        let apart : superblock_at s.slots t (p / s.unit) ≡ Some m → p + from ≡ place + p % s.unit = λ e. same_slot s.unit place p facts.some (same_slot_number facts t (p / s.unit) (place / s.unit) m e home.2) in
        elim (cases_lt p place) [
          | inl below ↦
              byte_at_kept-with_bank s t m (put_within xs from w) p sized.0 (λ e. put_within-before xs from w (p % s.unit) (omega (arith, sized.1, home.1)) (omega (arith, apart e)))
              ∙ sym (if_false test _ _ (test_below place p (place + len) below))
          | inr low ↦ elim (cases_lt p (place + len)) [
            | inl high ↦
                let at = place-add s.unit place (p - place) facts.some (omega (arith, home.1)) in
                let there : place + (p - place) ≡ p = omega arith in
                let slot : p / s.unit ≡ place / s.unit = ap (λ q. q / s.unit) (sym there) ∙ at.0 in
                let offset : p % s.unit ≡ from + (p - place) = ap (λ q. q % s.unit) (sym there) ∙ at.1 in
                byte_at-with_bank s t m (from + (p - place)) (put_within xs from w) p sized.0 (ap (superblock_at s.slots t) slot ∙ home.2) offset
                ∙ (ap Some (put_within-at xs from w (from + (p - place)) (omega (arith, sized.1, home.1, size)) (omega arith) (omega (arith, size)) ∙ ap (λ n. get_or w n 0) (omega arith))
                ∙ sym (if_true test _ _ (test_inside place p (place + len) low high)))
            | inr above ↦
                byte_at_kept-with_bank s t m (put_within xs from w) p sized.0 (λ e. put_within-after xs from w (p % s.unit) (omega (arith, apart e, size)) (omega (arith, sized.1, facts.some)))
                ∙ sym (if_false test _ _ (test_above place p (place + len) above))
          ]
        ]

pub own_byte : {s : Content} → IsSpace s → (t place b : ℕ) → IsSome (byte_at s t place) → (p : ℕ) → byte_at (with_byte s t place b) t p ≡ (if p == place then Some b else byte_at s t p)
own_byte {s} facts t place b held p = go (superblock_at s.slots t (place / s.unit)) refl held
  where
    go : (o : Option ℕ) → superblock_at s.slots t (place / s.unit) ≡ o → IsSome (byte_under s.banks (place % s.unit) o) → byte_at (with_banks s (banks_with_byte s.banks (place % s.unit) b o)) t p ≡ (if p == place then Some b else byte_at s t p)
    go None h some = cc
    go (Some m) h some =
        let i = place % s.unit in
        let xs = bank s.banks m in
        let sized = size_of facts t (place / s.unit) m h in
        let within : i < length xs = omega (arith, sized.1, facts.some) in
        elim (cases_eq p place) [
          | inl same ↦
              byte_at-with_bank s t m i (set xs i b) p sized.0 (ap (λ q. superblock_at s.slots t (q / s.unit)) same ∙ h) (ap (λ q. q % s.unit) same)
              ∙ (ap Some (get_or-set_same xs i b 0 within) ∙ sym (if_true (p == place) _ _ (grind (arith, nat_tests))))
          | inr differ ↦
              byte_at_kept-with_bank s t m (set xs i b) p sized.0 (λ e.
              let apart = same_slot s.unit place p facts.some (same_slot_number facts t (p / s.unit) (place / s.unit) m e h) in
              get_or-set_other xs i (p % s.unit) b 0 (λ q. differ (omega (arith, apart, q))))
              ∙ sym (if_false (p == place) _ _ (grind (arith, nat_tests)))
        ]

-- a place keeps its byte if its superblock keeps its bytes
byte_under_kept : (banks banks' : List (List ℕ)) (i : ℕ) (o : Option ℕ) → ((m : ℕ) → o ≡ Some m → bank banks' m ≡ bank banks m) → byte_under banks' i o ≡ byte_under banks i o
byte_under_kept banks banks' i None kept = refl
byte_under_kept banks banks' i (Some m) kept = ap (λ (ys : List ℕ). Some (get_or ys i 0)) (kept m refl)

pub own_grant : {s : Content} → IsSpace s → (t u m : ℕ) → t < length s.slots → u < length s.owners → m < length s.owners → owner_at s.owners m ≡ None → (p : ℕ) → byte_at (with_grant s t u m) t p ≡ (if p / s.unit == u then Some 0 else byte_at s t p)
own_grant {s} facts t u m tenant slot within unowned p =
    let short : u < length (get_or s.slots t []) = omega (arith, facts.rows t tenant) in
    let zeroes = replicate s.unit zero in
    let i = p % s.unit in
    elim (cases_eq (p / s.unit) u) [
      | inl same ↦
          byte_is (with_grant s t u m) t p i m (ap (superblock_at (with_entry s.slots t u (Some m)) t) same ∙ superblock_at-with_entry s.slots t u (Some m) tenant short) refl
          ∙ (ap (λ (ys : List ℕ). Some (get_or ys i 0)) (get_or-set_same s.banks m zeroes [] (omega (arith, facts.paired)))
          ∙ (ap Some (everywhere 0 s.unit i) ∙ sym (if_true (p / s.unit == u) _ _ (grind (arith, nat_tests)))))
      | inr differ ↦
          ap (byte_under (set s.banks m zeroes) i) (superblock_at_other-with_entry s.slots t u (Some m) t (p / s.unit) tenant (λ e. differ e.1))
          ∙ (byte_under_kept s.banks (set s.banks m zeroes) i (superblock_at s.slots t (p / s.unit)) (λ n e. get_or-set_other s.banks m n zeroes [] (λ same. let owned = (facts.agree t (p / s.unit) n).0 e in let here = ap (owner_at s.owners) same in absurd (cc)))
          ∙ sym (if_false (p / s.unit == u) _ _ (grind (arith, nat_tests))))
    ]

pub own_take_back : {s : Content} → IsSpace s → (t u m : ℕ) → superblock_at s.slots t u ≡ Some m → (p : ℕ) → byte_at (with_take_back s t u m) t p ≡ (if p / s.unit == u then None else byte_at s t p)
own_take_back {s} facts t u m under p =
    let tenant = tenant-lt s.slots t u m under in
    let short = within_from_some (get_or s.slots t []) u m under in
    let i = p % s.unit in
    elim (cases_eq (p / s.unit) u) [
      | inl same ↦
          ap (byte_under s.banks i) (ap (superblock_at (with_entry s.slots t u None) t) same ∙ superblock_at-with_entry s.slots t u None tenant short)
          ∙ sym (if_true (p / s.unit == u) _ _ (grind (arith, nat_tests)))
      | inr differ ↦
          ap (byte_under s.banks i) (superblock_at_other-with_entry s.slots t u None t (p / s.unit) tenant (λ e. differ e.1))
          ∙ sym (if_false (p / s.unit == u) _ _ (grind (arith, nat_tests)))
    ]

-- after a move, tenant t holds the same slots as before and reads the same bytes in them
pub own_move : {s : Content} → IsSpace s → (t u from to : ℕ) → superblock_at s.slots t u ≡ Some from → to < length s.owners → owner_at s.owners to ≡ None → ReadsSame t s (with_move s t u from to)
own_move {s} facts t u from to under within unowned =
    let tenant = tenant-lt s.slots t u from under in
    let short = within_from_some (get_or s.slots t []) u from under in
    let bytes = bank s.banks from in
    let banks = set s.banks to bytes in
    reads_same t s (with_move s t u from to) refl (λ v. elim (cases_eq v u) [
      | inl same ↦
          ap (slot_bytes (with_move s t u from to) t) same
          ∙ (ap (option_map (bank banks)) (superblock_at-with_entry s.slots t u (Some to) tenant short)
          ∙ (ap (λ (xs : List ℕ). Some xs) (get_or-set_same s.banks to bytes [] (omega (arith, facts.paired)))
          ∙ sym (ap (slot_bytes s t) same ∙ ap (option_map (bank s.banks)) under)))
      | inr differ ↦
          ap (option_map (bank banks)) (superblock_at_other-with_entry s.slots t u (Some to) t v tenant (λ e. differ e.1))
          ∙ bank_kept s.banks banks (superblock_at s.slots t v) (λ n here. get_or-set_other s.banks to n bytes [] (not_unowned facts t v n to here unowned))
    ])

pub own_bytes : {s : Content} → IsSpace s → OwnBytes s
own_bytes facts = record { read = own_read facts; window = own_window facts; byte = own_byte facts; grant = own_grant facts; take_back = own_take_back facts; move = own_move facts }
