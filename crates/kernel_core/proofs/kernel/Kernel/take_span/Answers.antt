use Rattle.std.proofs.Common.{◌<◌, inr, ap, ◌∙◌, subst, arith}
use Rattle.std.specs.Prelude.{Err}
use Rattle.std.proofs.lemmas.Result.{err_from_is_err_and}
use Rattle.model_core.specs.Machine.{Machine}
use Rattle.words_core.specs.declared.event.Command.TheVariants as Command
use Rattle.words_core.specs.declared.reply.Body.TheVariants.{Object}
use Rattle.machine_changes.specs.Changes.{Found}
use Rattle.machine_changes.specs.Objects.{HasRange}
use Rattle.machine_changes.specs.Steady.{IsSteady}
use Rattle.slab_core.specs.Lending.{HasObject}
use Rattle.slab_core.proofs.ObjectBytes.{has_object, has_range}
use Rattle.kernel_core.specs.Shows.{ShowsMachine}
use Rattle.kernel_core.proofs.CallEffects.{steady}
use Rattle.kernel_core.proofs.LendSpans.{reply_unknown, reply_known, reply_refused}
use Rattle.kernel_core.proofs.kernel.Kernel.take_span.Goals as goal
use Rattle.kernel_core.proofs.kernel.Kernel.take_span.Goals.{After-laws-2}

-- the tenant still exists after the take
there : (c : After-laws-2) → c.in-Some.t < c.take_object.new.self.tenants
there c = let same = c.in_ok-taken.ensures.steps.does.sizes.tenants in let before = c.in-Some.ensures.1 in omega arith

steady_now : (c : After-laws-2) → IsSteady c.take_object.new.self.space c.take_object.new.self.buddy c.take_object.new.self.slabs c.in-Some.t
steady_now c = let known = there c in let all = c.laws-2.ensures.agree.holdings in steady _ _ _ c.in-Some.t c.laws-2.ensures.together (omega arith)

range : (c : After-laws-2) → (o : Found)
    × HasRange c.take_object.new.self.space c.take_object.new.self.slabs c.in-Some.t c.in_ok-taken.taken.place c.in_ok-taken.taken.size o
range c =
    let is = c.in_ok-taken.ensures.object in
    has_range _ _ _ c.in-Some.t c.args.cache c.in_ok-taken.taken.place c.in_ok-taken.taken.size is.object (steady_now c) is.live is.size

pub returns-in_default-clause-steps : goal.returns-in_default-clause-steps
returns-in_default-clause-steps c = reply_unknown c.args.self.now c.args.tenant (Command.Take c.args.cache) c.in_default.ensures

pub returns-in_err-taken-clause-steps : goal.returns-in_err-taken-clause-steps
returns-in_err-taken-clause-steps c =
    let x = c.args in
    let told = err_from_is_err_and c.from_residual.result c.from_residual.ensures.1 in
    rw (told.1 ∙ ap Err told.2)
    (reply_refused x.self.now c.take_object.new.self c.in-Some.t x.tenant (Command.Take x.cache) c.in_err-taken.field-0.0 c.in-Some.ensures.0 c.in-Some.ensures.1
    c.laws.ensures.agree c.in_err-taken.ensures.steps)

pub returns-clause-steps : goal.returns-clause-steps
returns-clause-steps c =
    reply_known c.args.self.now c.take_object.new.self c.in-Some.t c.args.tenant (Command.Take c.args.cache) (Object c.in_ok-taken.taken.place) c.in-Some.ensures.0 c.in-Some.ensures.1
    c.laws-2.ensures.agree c.in_ok-taken.ensures.steps

pub returns-clause-object : goal.returns-clause-object
returns-clause-object c =
    let a = (goal.at.returns-clause-object c).After-laws-2 in
    let is = c.in_ok-taken.ensures.object in (
      c.in-Some.ensures.0,
      subst (λ u. (m : Machine) → ShowsMachine c.take_object.new.self u m → HasObject m c.args.cache c.in_ok-taken.taken.place c.in_ok-taken.taken.size) c.in-Some.ensures.0
          (λ m shown. has_object _ _ _ c.in-Some.t c.args.cache c.in_ok-taken.taken.place c.in_ok-taken.taken.size is.object m (steady_now a) shown is.live is.size),
    )

pub returns-clause-live : goal.returns-clause-live
returns-clause-live c =
    let a = (goal.at.returns-clause-live c).After-laws-2 in
    let object = range a in record {
      tenant = there a;
      reach = record { some = object.1.some; inside = inr object };
      home = c.in_ok-taken.ensures.object.home;
    }
