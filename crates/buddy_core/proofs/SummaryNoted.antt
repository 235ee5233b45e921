-- What a tenant's summary says of a slot before the superblock in the slot changes, and how a change of a block is noted.
use Rattle.std.proofs.Common.{◌≡◌, sym, ◌∙◌, ap, ℕ, ◌<◌, ◌==◌, Bool, false, Option, Some, None, List, [], length, get_or, arith}
use Rattle.std.specs.Int.{bit_at}
use Rattle.std.specs.Prelude.{slice_index}
use Rattle.std.proofs.lemmas.Nat.Bits.{bit_at-zero}
use Rattle.buddy_core.specs.Tree.{Shows}
use Rattle.buddy_core.specs.Stored.{StoredSuperblock, StoredTenant, superblock_of, stored_tenant, superblock_at}
use Rattle.buddy_core.specs.Summary.{is_source, summary_of}
use Rattle.buddy_core.specs.Kept.{IsKept, HasTenantSizes}
use Rattle.buddy_core.proofs.ExactSummaries.{root_within, word_in, summary_size, IsNoted, source_here}
use Rattle.buddy_core.proofs.BlockSteps.{IsStep}

module _ {top count : ℕ} (superblocks : List StoredSuperblock) (tenant : StoredTenant) {sets : List (List Bool)} (sizes : HasTenantSizes top count tenant) (is : sets ≡ summary_of superblocks tenant) where
  -- the sets have an empty slot in none
  pub none_before : (u : ℕ) → superblock_at tenant u ≡ None → (j : ℕ) → get_or (get_or sets j []) u false ≡ (bit_at 0 j == 1)
  none_before u empty j =
      ap (λ (ss : List (List Bool)). get_or (get_or ss j []) u false) is
      ∙ word_in superblocks tenant u 0 (λ i. ap (is_source superblocks i) empty ∙ sym (ap (λ n. n == 1) (bit_at-zero i))) (λ i bit. absurd (let off = bit_at-zero i in omega arith)) j

  -- the sets have the slot of superblock m as its root word says
  pub word_before : (u m old : ℕ) (ok : ℕ → Bool) → superblock_at tenant u ≡ Some m → Shows top ok (superblock_of m superblocks).tree.words → old ≡ slice_index (superblock_of m superblocks).tree.words 0
      → (j : ℕ) → get_or (get_or sets j []) u false ≡ (bit_at old j == 1)
  word_before u m old ok at shows root j =
      ap (λ (ss : List (List Bool)). get_or (get_or ss j []) u false) is
      ∙ word_in superblocks tenant u old (λ i. ap (is_source superblocks i) at ∙ ap (λ n. bit_at n i == 1) (sym root)) (λ i bit.
      let le = root_within ok top i (superblock_of m superblocks).tree.words shows (ap (λ n. bit_at n i) (sym root) ∙ bit) in
      omega (arith, sizes.free)) j

  -- there is a set for each order that a root word has
  pub orders_listed : (ok : ℕ → Bool) (words : List ℕ) (new : ℕ) → Shows top ok words → new ≡ slice_index words 0 → (j : ℕ) → bit_at new j ≡ 1 → j < length sets
  orders_listed ok words new shows root j bit =
      let le = root_within ok top j words shows (ap (λ n. bit_at n j) (sym root) ∙ bit) in
      omega (arith, ap length is, summary_size superblocks tenant, sizes.free)

-- a change of a taken block is noted with the new root word of its superblock
pub step_noted : (top : ℕ) (superblocks : List StoredSuperblock) (tenants : List StoredTenant) → IsKept top superblocks tenants → (t u m x : ℕ) (s : StoredSuperblock) (tenant : StoredTenant) (o : Option ℕ)
    → IsStep top superblocks tenants t u m x s tenant o → (new : ℕ) → new ≡ slice_index s.tree.words 0 → IsNoted superblocks tenants t m u s tenant new
step_noted top superblocks tenants kept t u m x s tenant o step new root = record {
  listed = step.listed;
  slots = ap length step.slots;
  free = step.free_size ∙ sym (kept.each t step.listed).sizes.free;
  others = λ v w ne at. ne (kept.apart v w t u m at step.at).0;
  same = λ v ne. slot_same v;
  apart = λ v ne at. ne (kept.apart t v t u m (sym (slot_same v) ∙ at) step.at).1;
  here = λ j. source_here superblocks m s (superblock_at tenant u) j new (slot_same u ∙ step.at) ((kept.each t step.listed).within u m step.at) (sym root);
}
  where
    slot_same : (v : ℕ) → superblock_at tenant v ≡ superblock_at (stored_tenant t tenants) v
    slot_same v = ap (λ (ss : List (Option ℕ)). get_or ss v None) step.slots
