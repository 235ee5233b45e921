use Rattle.std.proofs.Common.{◌≡◌, true, ap, subst, ◌∙◌}
use Rattle.std.specs.Prelude.{◌==◌, filter, slice_index_or, false}
use Rattle.std.specs.Option.{option_map_or}
use Rattle.reply_judge.specs.Emptied.{frames_due, least_empty}
use Rattle.reply_judge.specs.Seen.{Seen, state_of}
use Rattle.reply_judge.proofs.EmptiedFrames.{some_due}
use Rattle.reply_judge.proofs.tenant.Tenant.frames_due.Goals as goal

pub returns-in-Some : goal.returns-in-Some
returns-in-Some c =
    let x : Seen = record { has = c.self.inside.held; left = c.self.inside.left; may_have_empty = c.self.inside.may_have_empty; last_report = c.self.inside.last_report } in
    subst (λ (y : Seen). c.vacant_slabs.result ≡ frames_due c.args.order (state_of y) (filter (λ d. option_map_or (λ number. d.number == number) c.args.only true) y.has.caches) c.args.frames) c.self.view_is
    (c.vacant_slabs.ensures
    ∙ some_due c.args.order (state_of x) (filter (λ d. option_map_or (λ number. d.number == number) c.args.only true) x.has.caches) c.args.frames c.in-Some.least c.count_vacant.result
    c.if-frames-eq0.false c.count_vacant.ensures
    (c.in-Some.ensures.value ∙ ap (λ caches. least_empty c.args.order (λ n. slice_index_or x.may_have_empty n false) (filter (λ d. option_map_or (λ number. d.number == number) c.args.only true) caches)) c.caches.ensures))
