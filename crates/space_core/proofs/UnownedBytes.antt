-- A call changes no byte of a superblock that has no owner after the call.
use Rattle.std.proofs.Common.{◌≡◌, ℕ, ◌%◌, ◌/◌, List, [], Option, Some, None, refl, ap, ◌∙◌, inl, inr, arith}
use Rattle.std.proofs.Math.ListN.{set}
use Rattle.std.proofs.lemmas.List.{get_or-set_same, get_or-set_other, length-set}
use Rattle.std.proofs.lemmas.Bool.{cases_eq}
use Rattle.model_core.specs.declared.owner.Owner.{Owner}
use Rattle.model_core.specs.Owners.{owned_by}
use Rattle.space_core.specs.Content.{Content, IsSpace, bank, owner_at, superblock_at}
use Rattle.space_core.specs.Windows.{home_of, banks_with, with_window, banks_with_byte, with_byte}
use Rattle.space_core.specs.Changes.{with_grant, with_move}
use Rattle.space_core.specs.Laws.{SpareStays, SpareBytes}
use Rattle.space_core.proofs.BankLemmas.{with_bank, with_banks}
use Rattle.space_core.proofs.OwnBytes.{home_is}

-- if only the bytes of superblock m change, and m has an owner afterwards, superblocks without an owner keep their bytes
spare_written : (s s' : Content) (m : ℕ) (o : Owner) (xs : List ℕ) → owner_at s'.owners m ≡ Some o → s'.banks ≡ set s.banks m xs → SpareStays s s'
spare_written s s' m o xs owned written n none = elim (cases_eq n m) [
  | inl same ↦ let here = ap (owner_at s'.owners) same in absurd (cc)
  | inr differ ↦ ap (λ banks. bank banks n) written ∙ get_or-set_other s.banks m n xs [] differ
]

-- if superblock m is in a slot, writing it changes no byte of a superblock without an owner
under_written : {s : Content} → IsSpace s → (t u m : ℕ) (xs : List ℕ) → superblock_at s.slots t u ≡ Some m → SpareStays s (with_bank s m xs)
under_written {s} facts t u m xs under = spare_written s (with_bank s m xs) m (owned_by t u) xs ((facts.agree t u m).0 under) refl

spare_window : {s : Content} → IsSpace s → (t place len : ℕ) (w : List ℕ) → SpareStays s (with_window s t place len w)
spare_window {s} facts t place len w = go (home_of s t place len) refl
  where
    go : (o : Option ℕ) → home_of s t place len ≡ o → SpareStays s (with_banks s (banks_with s.banks (place % s.unit) w o))
    go None e = λ n none. refl
    go (Some m) e = under_written facts t (place / s.unit) m _ (home_is s t place len m e).2

spare_byte : {s : Content} → IsSpace s → (t place b : ℕ) → SpareStays s (with_byte s t place b)
spare_byte {s} facts t place b = go (superblock_at s.slots t (place / s.unit)) refl
  where
    go : (o : Option ℕ) → superblock_at s.slots t (place / s.unit) ≡ o → SpareStays s (with_banks s (banks_with_byte s.banks (place % s.unit) b o))
    go None e = λ n none. refl
    go (Some m) e = under_written facts t (place / s.unit) m _ e

pub spare_bytes : {s : Content} → IsSpace s → SpareBytes s
spare_bytes {s} facts = record {
  window = spare_window facts;
  byte = spare_byte facts;
  grant = λ t u m within. spare_written s (with_grant s t u m) m (owned_by t u) _ (get_or-set_same s.owners m (Some (owned_by t u)) None within) refl;
  take_back = λ t u m n none. refl;
  move = λ t u from to within. spare_written s (with_move s t u from to) to (owned_by t u) _ (get_or-set_same (set s.owners from None) to (Some (owned_by t u)) None (omega (arith, length-set s.owners from None))) refl;
}
