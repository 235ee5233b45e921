-- After a write the machine stays well formed.
use Rattle.std.proofs.Common.{◌≡◌, ℕ, ◌+◌, ◌-◌, ◌<◌, ◌≤◌, Bool, true, false, ◌&&◌, ltb, leb, List, length, refl, sym, ap, ◌∙◌, arith}
use Rattle.std.specs.Prelude.{if◌then◌else◌, is_some, slice_get}
use Rattle.std.proofs.lemmas.Option.{slice_get-get_or}
use Rattle.std.proofs.lemmas.Bool.{and_parts, leb-true, ltb-true}
use Rattle.model_core.specs.Machine.{Machine, taken_blocks}
use Rattle.model_core.specs.Reach.{in_reach}
use Rattle.model_core.specs.Operations.{written}
use Rattle.model_core.specs.WellFormed.{IsWellFormed}
use Rattle.model_core.proofs.Objects.{reached, reached_mapped}

-- after a write in reach, exactly the places that had a byte before have one
written_some : {limit : ℕ} (order place : ℕ) (new : List ℕ) (m : Machine) → IsWellFormed limit order m → in_reach m place (length new) ≡ true → (p : ℕ) → is_some (written place new m.bytes p) ≡ is_some (m.bytes p)
written_some order place new m w e p = go (leb place p && ltb p (place + length new)) refl
  where
    go : (b : Bool) → (leb place p && ltb p (place + length new)) ≡ b → is_some (if b then slice_get new (p - place) else m.bytes p) ≡ is_some (m.bytes p)
    go false i = refl
    go true i =
        let low : place ≤ p = leb-true place p (and_parts (leb place p) (ltb p (place + length new)) i).0 in
        let high : p < place + length new = ltb-true p (place + length new) (and_parts (leb place p) (ltb p (place + length new)) i).1 in
        ap is_some (slice_get-get_or new (p - place) 0 (omega (arith, low, high))) ∙ sym (reached_mapped order m p w (reached m place (length new) p e low high))

pub written_kept : {limit : ℕ} (order place : ℕ) (new : List ℕ) (m : Machine) → IsWellFormed limit order m → in_reach m place (length new) ≡ true
    → IsWellFormed limit order (record m { bytes = written place new m.bytes })
unfolding taken_blocks
written_kept order place new m w e = record {
  slots_rise = w.slots_rise;
  blocks_rise = w.blocks_rise;
  caches_rise = w.caches_rise;
  numbered = w.numbered;
  caches = w.caches;
  placed = w.placed;
  apart = w.apart;
  mapped = λ p. written_some order place new m w e p ∙ w.mapped p;
}
