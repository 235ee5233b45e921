use Rattle.std.proofs.Common.{sym, ap, ◌∙◌}
use Rattle.words_core.specs.Refusals.{take_refusal}
use Rattle.words_core.specs.declared.event.Command.TheVariants as Command
use Rattle.words_core.specs.declared.reply.Body.TheVariants.{Object}
use Rattle.world_core.specs.PrivateStep.{take_body}
use Rattle.slab_core.specs.Taking.{place_taken}
use Rattle.kernel_core.specs.Content.{content_of}
use Rattle.kernel_core.specs.Steps.{StepsMachine}
use Rattle.kernel_core.proofs.CacheCalls.{taken, untaken}
use Rattle.kernel_core.proofs.CallsAsCommands.{passed}
use Rattle.kernel_core.proofs.kernel.Kernel.take_object.Goals as goal
use Rattle.kernel_core.proofs.kernel.Kernel.take_object.Goals.{After-take_object}

tried : (c : After-take_object) → StepsMachine (content_of c.self.inside.space c.self.inside.buddy c.self.inside.slabs) c.args.t (Command.Take c.args.cache)
    (content_of c.take_object.new.space c.take_object.new.buddy c.take_object.new.self) (take_body (place_taken c.take_object.result))
tried c =
    taken _ _ _ _ _ _ c.args.t c.self.invariant c.take_object.ensures.spares c.args.cache (place_taken c.take_object.result) c.take_object.ensures.answer
    c.take_object.ensures.shows (untaken _ c.take_object.result c.take_object.ensures.refused)

pub returns-in_err-take_object-clause-steps : goal.returns-in_err-take_object-clause-steps
returns-in_err-take_object-clause-steps c =
    rw (passed (λ taken. Object taken.place) take_refusal _ _ c.from_residual.ensures.1 ∙ sym (ap (λ told. take_body (place_taken told)) c.in_err-take_object.was), ← c.self.view_is)
    (tried (goal.at.returns-in_err-take_object-clause-steps c).After-take_object)

pub returns-clause-steps : goal.returns-clause-steps
returns-clause-steps c =
    rw (← ap (λ told. take_body (place_taken told)) c.in_ok-take_object.was, ← c.self.view_is) (tried (goal.at.returns-clause-steps c).After-take_object)
