use Rattle.std.proofs.Common.{true}
use Rattle.model_core.specs.CacheOperations.{reap_step}
use Rattle.slab_core.specs.Calls.{idle_at}
use Rattle.slab_core.proofs.ReturnEmptySlabs.{idle_empty}
use Rattle.machine_changes.proofs.Reaped.{reaped_shows}
use Rattle.slab_core.proofs.Slabs.reap.Goals as goal

pub returns-clause-answer : goal.returns-clause-answer
unfolding reap_step
returns-clause-answer c = λ m h.
    c.empty_frames-frames.ensures c.args.space.now c.args.buddy.now m c.requires.agree c.laws_with.ensures.steady h

pub returns-clause-shows : goal.returns-clause-shows
unfolding reap_step
returns-clause-shows c = λ m h.
    rw (c.lower.ensures, c.self.view_is)
    (reaped_shows c.args.space.now c.give_back_all.new.space c.args.buddy.now c.give_back_all.new.buddy c.args.self.now c.give_back_all.new.self
    c.args.t (idle_at (λ i. true) c.args.space.now c.args.self.now c.args.t) m c.give_back_all.ensures.returned c.laws_with.ensures.steady h
    (idle_empty c.args.space.now c.args.buddy.now c.args.self.now c.args.t m c.laws_with.ensures.parts.slabs c.requires.agree h))
