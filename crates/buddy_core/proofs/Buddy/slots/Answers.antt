use Rattle.std.proofs.Common.{sym, ◌∙◌, ap}
use Rattle.std.proofs.lemmas.List.{get_or_read}
use Rattle.std.specs.Prelude.{count_by, is_some}
use Rattle.buddy_core.specs.Content.{held_slots}
use Rattle.buddy_core.specs.Stored.{StoredTenant}
use Rattle.buddy_core.proofs.ContentShown.{shown_is, blank_of}
use Rattle.buddy_core.proofs.Buddy.slots.Goals as goal

pub returns : goal.returns
returns c =
    let a = c.self.inside in
    let s = shown_is a.order a.superblocks.items a.tenants.items c.args.t c.args.self.now c.self.view_is c.requires in
    let tenant = get_or_read a.tenants.items c.args.t c.index.result.now s.listed c.index.ensures blank_of in
    c.held_slots.ensures ∙ ap (λ (r : StoredTenant). count_by is_some r.slots) tenant ∙ ap held_slots (sym s.holding)
