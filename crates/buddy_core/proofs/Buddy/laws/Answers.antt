use Rattle.std.proofs.Common.{◌*◌, ◌^◌, ◌≤◌, refl, sym, subst, ap, ◌∙◌, length}
use Rattle.std.proofs.lemmas.List.{length-map}
use Rattle.std.proofs.lemmas.List.FromFn.{length-map-range_with_len}
use Rattle.model_core.specs.declared.limits.TheConstants.{WIDE_TENANTS}
use Rattle.model_core.specs.Blocks.{IsSound}
use Rattle.buddy_core.specs.Content.{Content, Holding, BuddyLaws}
use Rattle.buddy_core.specs.Stored.{stored_tenant, taken_by, holding_shown, content_shown}
use Rattle.buddy_core.proofs.ContentShown.{shown_is, slot_at, by_shown}
use Rattle.buddy_core.proofs.Buddy.laws.Goals as goal

pub returns : goal.returns
returns c =
    let a = c.self.inside in
    let top = a.order in
    let superblocks = a.superblocks.items in
    let tenants = a.tenants.items in
    let kept = c.self.invariant.0 in
    subst (λ (k : Content). BuddyLaws k) c.self.view_is record {
      sizes = record {
        small = kept.small;
        few = kept.few;
        frames = kept.frames;
        tenants = subst (λ n. n ≤ WIDE_TENANTS) (sym (length-map tenants (holding_shown top superblocks))) kept.few_tenants;
        slots = λ t lt.
            let s = shown_is top superblocks tenants t (content_shown top superblocks tenants) refl lt in
            ap (λ (h : Holding). length h.slots) s.holding ∙ (kept.each t s.listed).sizes.slots;
        taken = λ t lt.
            let s = shown_is top superblocks tenants t (content_shown top superblocks tenants) refl lt in
            ap (λ (h : Holding). length h.taken) s.holding
            ∙ length-map-range_with_len (taken_by top superblocks (stored_tenant t tenants)) 0 (length (stored_tenant t tenants).slots * 2 ^ top)
            ∙ ap (λ n. n * 2 ^ top) (kept.each t s.listed).sizes.slots;
      };
      sound = λ t lt.
          let s = shown_is top superblocks tenants t (content_shown top superblocks tenants) refl lt in
          by_shown IsSound top superblocks tenants t (content_shown top superblocks tenants) s (kept.each t s.listed).sound;
      apart = λ t u v w m x y.
          let at = slot_at top superblocks tenants (content_shown top superblocks tenants) refl in
          kept.apart t u v w m (sym (at t u) ∙ x) (sym (at v w) ∙ y);
    }
