use Rattle.std.proofs.Common.{sym, ◌∙◌, ap, subst, ◌≡◌, ◌*◌, ◌/◌, ◌^◌, ◌≤◌, Some, None}
use Rattle.std.proofs.lemmas.Option.{none-some}
use Rattle.std.specs.Option.{MatchOption}
use Rattle.model_core.specs.Blocks.{HasFrame, IsTaken, block, IsSound}
use Rattle.buddy_core.specs.Content.{superblock_at as held_at, holding_of, taken_of}
use Rattle.buddy_core.specs.Stored.{stored_tenant, superblock_at}
use Rattle.buddy_core.proofs.ContentShown.{shown_is, by_shown, slot_at, slot_read}
use Rattle.buddy_core.proofs.Releasing.{begins_at}
use Rattle.buddy_core.proofs.BlocksAround.{begins_around, same_slot}
use Rattle.buddy_core.proofs.Buddy.block_of.Goals as goal

pub returns-in_err-m : goal.returns-in_err-m
returns-in_err-m c =
    let a = c.self.inside in
    let s = shown_is a.order a.superblocks.items a.tenants.items c.args.t c.args.self.now c.self.view_is c.requires in
    subst (λ o. MatchOption o (IsTaken (taken_of (holding_of c.args.t c.args.self.now)) c.args.frame → ⊥) (λ b. (taken_of (holding_of c.args.t c.args.self.now) b.0 ≡ Some b.1) × HasFrame (block b.0 b.1) c.args.frame)) (sym c.from_residual.ensures)
    (λ (f, k, e, has).
    let sound = by_shown IsSound a.order a.superblocks.items a.tenants.items c.args.t c.args.self.now s (c.self.invariant.0.each c.args.t s.listed).sound in
    let placed = (sound.placed f k e).0 in
    let around = begins_around (taken_of (holding_of c.args.t c.args.self.now)) c.args.frame f k placed.1 e has in
    let slot = same_slot a.order c.args.frame k (subst (λ n. k ≤ n) s.order placed.0) in
    none-some k (begins_at a.order a.superblocks.items a.tenants.items c.self.invariant.0.small c.args.t c.args.self.now s (c.args.frame / 2 ^ k * 2 ^ k) None
    (ap (superblock_at (stored_tenant c.args.t a.tenants.items)) slot
    ∙ slot_read a.tenants.items c.args.t c.index.result.now s.listed c.index.ensures (c.args.frame / 2 ^ a.order) None c.in_err-m.ensures) ∙ around))

pub block_in-requires-clause-under : goal.block_in-requires-clause-under
block_in-requires-clause-under c =
    let a = c.self.inside in
    let s = shown_is a.order a.superblocks.items a.tenants.items c.args.t c.args.self.now c.self.view_is c.requires in
    ap (λ n. held_at (holding_of c.args.t c.args.self.now) (c.args.frame / 2 ^ n)) s.order
    ∙ (slot_at a.order a.superblocks.items a.tenants.items c.args.self.now c.self.view_is c.args.t (c.args.frame / 2 ^ a.order)
    ∙ slot_read a.tenants.items c.args.t c.index.result.now s.listed c.index.ensures (c.args.frame / 2 ^ a.order) (Some c.in_ok-m.m) c.in_ok-m.ensures)
