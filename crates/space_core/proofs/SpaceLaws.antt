-- The laws follow from `IsSpace`, which stays true when a range of a slot is written.
use Rattle.std.proofs.Common.{◌≡◌, ℕ, ◌/◌, ◌%◌, Option, Some, None, List, length, ◌∙◌, refl, arith}
use Rattle.std.specs.Prelude.{IsSome}
use Rattle.space_core.specs.Content.{Content, IsSpace, bank}
use Rattle.space_core.specs.Windows.{home_of, put_within, banks_with, with_window}
use Rattle.space_core.specs.Laws.{SpaceLaws}
use Rattle.space_core.proofs.BankLemmas.{with_bank-IsSpace, length-put_within}
use Rattle.space_core.proofs.InvariantKept.{space-IsApart}
use Rattle.space_core.proofs.Mapping.{superblock-lt}
use Rattle.space_core.proofs.BytesUnderSlots.{not_unowned}
use Rattle.space_core.proofs.OwnBytes.{home_is, own_bytes}
use Rattle.space_core.proofs.TenantsKept.{others_stay, own_slots}
use Rattle.space_core.proofs.UnownedBytes.{spare_bytes}

pub laws_of : {s : Content} → IsSpace s → SpaceLaws s
laws_of facts = record {
  facts = facts;
  apart = space-IsApart facts;
  others = others_stay facts;
  own_bytes = own_bytes facts;
  own_slots = own_slots facts;
  spare = spare_bytes facts;
}

pub with_window-IsSpace : {s : Content} → IsSpace s → (t place : ℕ) (bytes : List ℕ) → IsSome (home_of s t place (length bytes)) → IsSpace (with_window s t place (length bytes) bytes)
with_window-IsSpace {s} facts t place bytes has_home = go (home_of s t place (length bytes)) refl has_home
  where
    go : (o : Option ℕ) → home_of s t place (length bytes) ≡ o → IsSome o → IsSpace (record s { banks = banks_with s.banks (place % s.unit) bytes o })
    go None h some = cc
    go (Some m) h some =
        let home = home_is s t place (length bytes) m h in
        let within = superblock-lt facts t (place / s.unit) m home.2 in
        let size = facts.sized m (omega (arith, facts.paired)) in
        with_bank-IsSpace facts m (λ none. not_unowned facts t (place / s.unit) m m home.2 none refl) within (put_within (bank s.banks m) (place % s.unit) bytes)
        (length-put_within (bank s.banks m) (place % s.unit) bytes (omega (arith, size, home.1)) ∙ size)
