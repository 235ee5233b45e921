use Rattle.std.proofs.Common.{◌∙◌, ap, ◌/◌, ◌^◌, Some, None}
use Rattle.buddy_core.specs.Content.{superblock_at as held_at, holding_of}
use Rattle.buddy_core.proofs.ContentShown.{shown_is, slot_at, slot_read}
use Rattle.buddy_core.proofs.Releasing.{begins_at}
use Rattle.buddy_core.proofs.Buddy.release.Goals as goal

pub returns-in_err-m-clause-answer : goal.returns-in_err-m-clause-answer
returns-in_err-m-clause-answer c =
    let a = c.self.inside in
    let s = shown_is a.order a.superblocks.items a.tenants.items c.args.t c.args.self.now c.self.view_is c.requires in
    c.from_residual.ensures
    ∙ begins_at a.order a.superblocks.items a.tenants.items c.self.invariant.0.small c.args.t c.args.self.now s c.args.frame None
    (slot_read a.tenants.items c.args.t c.index.result.now s.listed c.index.ensures (c.args.frame / 2 ^ a.order) None c.in_err-m.ensures)

pub release_in-requires-clause-under : goal.release_in-requires-clause-under
release_in-requires-clause-under c =
    let a = c.self.inside in
    let s = shown_is a.order a.superblocks.items a.tenants.items c.args.t c.args.self.now c.self.view_is c.requires in
    ap (λ n. held_at (holding_of c.args.t c.args.self.now) (c.args.frame / 2 ^ n)) s.order
    ∙ (slot_at a.order a.superblocks.items a.tenants.items c.args.self.now c.self.view_is c.args.t (c.args.frame / 2 ^ a.order)
    ∙ slot_read a.tenants.items c.args.t c.index.result.now s.listed c.index.ensures (c.args.frame / 2 ^ a.order) (Some c.in_ok-m.m) c.in_ok-m.ensures)
