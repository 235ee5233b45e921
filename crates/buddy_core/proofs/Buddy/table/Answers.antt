use Rattle.std.proofs.Common.{◌≡◌, refl, sym, ◌∙◌, ap, subst, ℕ, List, length, ◌+◌, ◌-◌, ◌*◌, ◌^◌, ◌<◌, ◌≤◌}
use Rattle.std.specs.Prelude.{◌↔◌, slice_index, All}
use Rattle.std.proofs.lemmas.List.Elements.{All-replicate}
use Rattle.std.specs.Int.{bit_at}
use Rattle.std.proofs.lemmas.List.{get_or_read}
use Rattle.model_core.specs.Blocks.{block, IsFree}
use Rattle.buddy_core.specs.Table.{IsTable}
use Rattle.buddy_core.specs.Content.{Content}
use Rattle.buddy_core.specs.Stored.{StoredTree, StoredSuperblock, stored_tenant, superblock_of, held_by, taken_by}
use Rattle.buddy_core.proofs.ContentShown.{shown_within, tenant_within, slot_at, by_shown, bare_of}
use Rattle.buddy_core.proofs.TreeSlots.{slot_tells}
use Rattle.buddy_core.proofs.Buddy.table.Goals as goal

pub returns : goal.returns
returns c =
    let a = c.self.inside in
    let kept = c.self.invariant.0 in
    let order = ap (λ (x : Content). x.top) (sym c.self.view_is) in
    let count = ap (λ (x : Content). x.superblocks) (sym c.self.view_is) in
    let m_lt : c.args.m < length a.superblocks.items = subst (λ n. c.args.m < n) count c.requires in
    let superblock = get_or_read a.superblocks.items c.args.m c.index.result.now m_lt c.index.ensures bare_of in
    let tree = c.tree.ensures ∙ ap (λ (s : StoredSuperblock). s.tree) superblock in
    let words : c.words.result.now ≡ (superblock_of c.args.m a.superblocks.items).tree.words = c.words.ensures.same ∙ ap (λ (t : StoredTree). t.words) tree in
    let top = ap (λ (t : StoredTree). t.order) tree ∙ kept.order c.args.m m_lt ∙ sym order in
    let at = slot_at a.order a.superblocks.items a.tenants.items c.args.self.now c.self.view_is in
    subst (IsTable c.args.self.now c.args.m) (sym words) (record {
      size = ap (λ (ws : List ℕ). length ws + 1) (sym words) ∙ c.words.ensures.size ∙ ap (λ n. 2 ^ (n + 1)) top;
      under = λ t u here.
          let slot = sym (at t u) ∙ here in
          let within = tenant_within a.tenants.items t u c.args.m slot in
          let s = shown_within a.order a.superblocks.items a.tenants.items t c.args.self.now c.self.view_is within in
          by_shown (λ top held taken. (d q j : ℕ) → d ≤ top → q < 2 ^ d → (bit_at (slice_index (superblock_of c.args.m a.superblocks.items).tree.words (2 ^ d + q - 1)) j ≡ 1)
          ↔ ((f : ℕ) × IsFree top held taken (block f j) × ((u * 2 ^ top + q * 2 ^ (top - d) ≤ f) × (f + 2 ^ j ≤ u * 2 ^ top + q * 2 ^ (top - d) + 2 ^ (top - d)))))
          a.order a.superblocks.items a.tenants.items t c.args.self.now s
          (slot_tells a.order (held_by (stored_tenant t a.tenants.items)) (taken_by a.order a.superblocks.items (stored_tenant t a.tenants.items)) u
          (superblock_of c.args.m a.superblocks.items).tree.words ((kept.each t within).shows u c.args.m slot));
      bare = λ unused. subst (All (λ w. w ≡ 0)) (sym (ap (λ (x : StoredSuperblock). x.tree.words) (kept.bare c.args.m m_lt (λ t u here. unused t u (at t u ∙ here)))))
          (All-replicate (λ w. w ≡ 0) (2 ^ (a.order + 1) - 1) 0 refl);
    })
