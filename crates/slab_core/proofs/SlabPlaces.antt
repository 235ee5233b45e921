-- The slot in which the places of a frame lie, and the superblock in which a slab's control record lies.
use Rattle.std.proofs.Common.{◌≡◌, ℕ, ◌+◌, ◌*◌, ◌/◌, ◌^◌, ◌<◌, Some, subst, sym, ap, ◌∙◌, arith}
use Rattle.std.proofs.lemmas.Nat.{div-mul-add}
use Rattle.std.proofs.Math.Nat.{div-div-eq-div-mul}
use Rattle.space_core.specs.Content as spaces
use Rattle.slab_tables.specs.declared.cache.Cache as own
use Rattle.slab_tables.specs.Content.{Content, IsSlabs, layout_numbers}
use Rattle.machine_changes.specs.Shows.{IsSlab}
use Rattle.machine_changes.proofs.SlabFacts.{under_is, superblock_of_machine_frame}
use Rattle.slab_core.proofs.SlabFacts.{slab_cache}

-- each place of a frame lies in the frame's slot
pub place_slot : (unit top f j : ℕ) → unit ≡ 4096 * 2 ^ top → j < 4096 → (4096 * f + j) / unit ≡ f / 2 ^ top
place_slot unit top f j e less =
    ap (λ u. (4096 * f + j) / u) e
    ∙ (sym (div-div-eq-div-mul (4096 * f + j) 4096 (2 ^ top))
    ∙ ap (λ x. x / 2 ^ top) (ap (λ x. (x + j) / 4096) (omega arith) ∙ div-mul-add f 4096 j less))

-- each byte of a slab's control record lies in the superblock of the slab's machine frame
pub record_under : (r : spaces.Content) (s : Content) (t c f n j : ℕ) (cache : own.Cache) → IsSlab r s t c f n cache → r.unit ≡ 4096 * 2 ^ s.top → j < 32
    → spaces.superblock_at r.slots t ((4096 * f + 4064 + j) / r.unit) ≡ Some (n / 2 ^ s.top)
record_under r s t c f n j cache q unit less =
    let m = under_is s.top f n (spaces.superblock_at r.slots t (f / 2 ^ s.top)) q.under in
    let slot : (4096 * f + 4064 + j) / r.unit ≡ f / 2 ^ s.top = ap (λ x. x / r.unit) (omega arith) ∙ place_slot r.unit s.top f (4064 + j) unit (omega arith) in
    let same : n / 2 ^ s.top ≡ m.0 = ap (λ x. x / 2 ^ s.top) m.2 ∙ superblock_of_machine_frame s.top m.0 f in
    ap (spaces.superblock_at r.slots t) slot ∙ (m.1 ∙ ap (λ x. Some x) (sym same))

-- the byte of the record that has the bit of object i lies in the superblock of the slab's machine frame too
module _ {r : spaces.Content} {s : Content} {t c f n i : ℕ} {cache : own.Cache} (q : IsSlab r s t c f n cache) (w : IsSlabs s) (less : i < (layout_numbers cache).count) where
  pub object_under : {place m : ℕ} → r.unit ≡ 4096 * 2 ^ s.top → place ≡ 4096 * f + 4064 + i / 8 → m ≡ n / 2 ^ s.top
      → spaces.superblock_at r.slots t (place / r.unit) ≡ Some m
  object_under {m = m} unit at under =
      let few = (slab_cache q w).few in
      subst (λ p. spaces.superblock_at r.slots t (p / r.unit) ≡ Some m) (sym at)
      (record_under r s t c f n (i / 8) cache q unit (omega (arith, few, less)) ∙ ap (λ x. Some x) (sym under))
