use Rattle.std.proofs.Common.{◌≡◌, ℕ, ◌*◌, ◌/◌, ◌^◌, ◌==◌, cond, None, sym, ap, ◌∙◌, subst}
use Rattle.model_core.specs.declared.limits.TheConstants.{MAX_CACHES}
use Rattle.klist_core.specs.Places.{place_at}
use Rattle.space_core.specs.Content as spaces
use Rattle.buddy_core.specs.Content as buddies
use Rattle.slab_tables.specs.Content.{Content, kept_at, cache_in}
use Rattle.slab_tables.specs.Changes.{IsReset}
use Rattle.machine_changes.specs.Records.{count_true}
use Rattle.machine_changes.specs.Shows.{machine_frame_of, is_live, live_of, Agree}
use Rattle.machine_changes.proofs.TenantEmptied.{unless_some}
use Rattle.slab_core.proofs.Slabs.reset.Goals as goal

agrees : (r : spaces.Content) (b : buddies.Content) (s s' : Content) (t : ℕ) → IsReset s s' t → Agree r b s → Agree r b s'
agrees r b s s' t k a = record {
  order = a.order ∙ sym k.top;
  unit = a.unit ∙ ap (λ top. 4096 * 2 ^ top) (sym k.top);
  superblocks = a.superblocks;
  machine_frames = k.machine_frames ∙ a.machine_frames ∙ ap (λ top. b.superblocks * 2 ^ top) (sym k.top);
  rows = a.rows;
  tenants = k.tenants ∙ a.tenants;
  slots = a.slots;
  slabs = λ n head key cache placed cached.
      let was = unless_some (λ i. i / MAX_CACHES == t) (place_at s.lists.places n) (head, key) (sym (k.places n) ∙ placed) in
      let left : cache_in s'.caches (head / 3) ≡ cache_in s.caches (head / 3) = k.caches (head / 3) ∙ ap (λ v. cond v None (cache_in s.caches (head / 3))) was.1 in
      let g = a.slabs n head key cache was.0 (sym left ∙ cached) in
      let u : ℕ = head / 3 / MAX_CACHES in
      record {
        under = ap (λ top. machine_frame_of top r.slots u key) k.top ∙ g.under;
        taken = g.taken;
        counted = ap (λ kept. (kept_at kept n).live) k.kept ∙ g.counted ∙ ap (λ kept. count_true (live_of r u cache (kept_at kept n) key)) (sym k.kept);
        rest = λ i low high. ap (λ kept. is_live r u cache (kept_at kept n) key i) k.kept ∙ g.rest i low high;
      };
}

pub returns-clause-agree : goal.returns-clause-agree
returns-clause-agree c = λ r b a. agrees r b _ _ c.args.t c.reset.ensures (subst (λ s. Agree r b s) (sym c.self.view_is) a)
