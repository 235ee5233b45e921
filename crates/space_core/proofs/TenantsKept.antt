-- A call for one tenant changes no other tenant's slots or bytes, and changes only one slot of its own tenant.
use Rattle.std.proofs.Common.{◌≡◌, ◌≢◌, ℕ, ◌%◌, ◌/◌, List, [], Option, Some, None, get_or, refl, sym, ap, ◌∙◌, arith}
use Rattle.std.specs.Prelude.{◌==◌, if◌then◌else◌}
use Rattle.std.proofs.lemmas.List.{get_or-set_other}
use Rattle.space_core.specs.Content.{Content, IsSpace, owner_at, slots_of, superblock_at}
use Rattle.space_core.specs.Windows.{home_of, banks_with, with_window, banks_with_byte, with_byte}
use Rattle.space_core.specs.Changes.{with_grant, with_take_back, with_move, with_entry}
use Rattle.space_core.specs.Laws.{IsSameFor, OthersStay, OwnSlots}
use Rattle.space_core.proofs.BankLemmas.{with_bank, with_banks}
use Rattle.space_core.proofs.InvariantKept.{same_parts, tenant-lt}
use Rattle.space_core.proofs.Mapping.{within_from_some}
use Rattle.space_core.proofs.MappingKept.{slot_put, row_of_other-with_slot}
use Rattle.space_core.proofs.OwnBytes.{home_is}
use Rattle.space_core.proofs.BytesUnderSlots.{same_for, not_unowned}

-- superblocks of different tenants differ
not_others : {s : Content} → IsSpace s → (other v n t u m : ℕ) → other ≢ t → superblock_at s.slots other v ≡ Some n → superblock_at s.slots t u ≡ Some m → n ≢ m
not_others {s} facts other v n t u m differ theirs mine same =
    differ (same_parts other v t u (sym ((facts.agree other v n).0 theirs) ∙ (ap (owner_at s.owners) same ∙ (facts.agree t u m).0 mine))).0

others_written : {s : Content} → IsSpace s → (t u m other : ℕ) (xs : List ℕ) → superblock_at s.slots t u ≡ Some m → other ≢ t → IsSameFor other s (with_bank s m xs)
others_written {s} facts t u m other xs under differ =
    same_for other s (with_bank s m xs) refl (λ v. refl) (λ v n theirs. get_or-set_other s.banks m n xs [] (not_others facts other v n t u m differ theirs under))

others_stay_window : {s : Content} → IsSpace s → (t place len : ℕ) (w : List ℕ) (other : ℕ) → other ≢ t → IsSameFor other s (with_window s t place len w)
others_stay_window {s} facts t place len w other differ = go (home_of s t place len) refl
  where
    go : (o : Option ℕ) → home_of s t place len ≡ o → IsSameFor other s (with_banks s (banks_with s.banks (place % s.unit) w o))
    go None e = same_for other s s refl (λ v. refl) (λ v n theirs. refl)
    go (Some m) e = others_written facts t (place / s.unit) m other _ (home_is s t place len m e).2 differ

others_stay_byte : {s : Content} → IsSpace s → (t place b other : ℕ) → other ≢ t → IsSameFor other s (with_byte s t place b)
others_stay_byte {s} facts t place b other differ = go (superblock_at s.slots t (place / s.unit)) refl
  where
    go : (o : Option ℕ) → superblock_at s.slots t (place / s.unit) ≡ o → IsSameFor other s (with_banks s (banks_with_byte s.banks (place % s.unit) b o))
    go None e = same_for other s s refl (λ v. refl) (λ v n theirs. refl)
    go (Some m) e = others_written facts t (place / s.unit) m other _ e differ

slots_stay : (slots : List (List (Option ℕ))) (t u : ℕ) (x : Option ℕ) (other v : ℕ) → other ≢ t → superblock_at (with_entry slots t u x) other v ≡ superblock_at slots other v
slots_stay slots t u x other v differ = ap (λ (row : List (Option ℕ)). get_or row v None) (row_of_other-with_slot slots t u x other differ)

pub others_stay : {s : Content} → IsSpace s → OthersStay s
others_stay {s} facts = record {
  window = others_stay_window facts;
  byte = others_stay_byte facts;
  grant = λ t u m other unowned differ. same_for other s (with_grant s t u m) refl (λ v. slots_stay s.slots t u (Some m) other v differ) (λ v n theirs. get_or-set_other s.banks m n _ [] (not_unowned facts other v n m theirs unowned));
  take_back = λ t u m other differ. same_for other s (with_take_back s t u m) refl (λ v. slots_stay s.slots t u None other v differ) (λ v n theirs. refl);
  move = λ t u from to other unowned differ. same_for other s (with_move s t u from to) refl (λ v. slots_stay s.slots t u (Some to) other v differ) (λ v n theirs. get_or-set_other s.banks to n _ [] (not_unowned facts other v n to theirs unowned));
}

held_put : (slots : List (List (Option ℕ))) (t u m : ℕ) (x : Option ℕ) → superblock_at slots t u ≡ Some m → (v : ℕ) → superblock_at (with_entry slots t u x) t v ≡ (if v == u then x else superblock_at slots t v)
held_put slots t u m x under = slot_put slots t u x (tenant-lt slots t u m under) (within_from_some (slots_of slots t) u m under)

pub own_slots : {s : Content} → IsSpace s → OwnSlots s
own_slots {s} facts = record {
  grant = λ t u m tenant slot. slot_put s.slots t u (Some m) tenant (omega (arith, facts.rows t tenant));
  take_back = λ t u m under. held_put s.slots t u m None under;
  move = λ t u from to under. held_put s.slots t u from (Some to) under;
}
