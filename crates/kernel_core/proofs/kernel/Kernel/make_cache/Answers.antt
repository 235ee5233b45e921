use Rattle.std.proofs.Common.{◌≡◌, Err, ok_or, refl, sym, ap, ◌∙◌}
use Rattle.model_core.specs.declared.refusals.CacheRefusal.{CacheRefusal}
use Rattle.words_core.specs.declared.event.Command.TheVariants as Command
use Rattle.world_core.specs.PrivateStep.{cache_body}
use Rattle.kernel_core.specs.Content.{content_of}
use Rattle.kernel_core.specs.Steps.{StepsMachine}
use Rattle.kernel_core.proofs.CacheCalls.{cut_is, cache_refused, created}
use Rattle.kernel_core.proofs.CallsAsCommands.{made}
use Rattle.kernel_core.proofs.kernel.Kernel.make_cache.Goals as goal
use Rattle.kernel_core.proofs.kernel.Kernel.make_cache.Goals.{After-create}

pub returns-in-Err-BadSize-clause-steps : goal.returns-in-Err-BadSize-clause-steps
returns-in-Err-BadSize-clause-steps c =
    cache_refused c.args.self.now c.args.t c.args.size c.args.align c.args.pattern.now _ CacheRefusal.BadSize
    (sym (ap (λ x. Err x) c.in-Err-BadSize.field-0-is) ∙ c.in-Err-BadSize.ensures) (λ m. refl)

pub returns-in-Err-BadAlign-clause-steps : goal.returns-in-Err-BadAlign-clause-steps
returns-in-Err-BadAlign-clause-steps c =
    cache_refused c.args.self.now c.args.t c.args.size c.args.align c.args.pattern.now _ CacheRefusal.BadAlign
    (sym (ap (λ x. Err x) c.in-Err-BadAlign.field-0-is) ∙ c.in-Err-BadAlign.ensures) (λ m. refl)

-- After `create`, the command `cache` was run: the cache was made, or the command was refused because all cache numbers are
-- in use.
tried : (c : After-create) → StepsMachine (content_of c.self.inside.space c.self.inside.buddy c.self.inside.slabs) c.args.t
    (Command.Cache c.args.size c.args.align (record { items = c.args.pattern.now })) (content_of c.self.inside.space c.self.inside.buddy c.create.new.self)
    (cache_body c.args.size c.args.align (ok_or c.create.result CacheRefusal.NoCacheSlot))
tried c =
    let held : c.unwrap-pattern.result ≡ c.args.pattern.now = rw c.unwrap-pattern.ensures at c.new.ensures.value in
    rw (← held) (created _ _ _ _ c.args.t (c.create.ensures.others _ _) c.args.size c.args.align c.unwrap-pattern.result c.in-Ok.layout c.create.result c.in-Ok.ensures
    (c.create.ensures.answer _ _) (c.create.ensures.shows _ _) c.create.ensures.refused)

pub returns-in_default-clause-steps : goal.returns-in_default-clause-steps
returns-in_default-clause-steps c =
    let told = ap (λ o. cache_body c.args.size c.args.align (ok_or o CacheRefusal.NoCacheSlot)) c.in_default.is in
    rw (← told, ← c.self.view_is) (tried (goal.at.returns-in_default-clause-steps c).After-create)

pub invariant_of-self-2 : goal.invariant_of-self-2
invariant_of-self-2 c = c.create.ensures.agree _ _ c.self.invariant

pub returns-clause-steps : goal.returns-clause-steps
returns-clause-steps c =
    let told = ap (λ o. cache_body c.args.size c.args.align (ok_or o CacheRefusal.NoCacheSlot)) c.in-Some.is
    ∙ made c.args.size c.args.align c.in-Some.cache c.chunk.result c.order.result c.count.result c.colours.result c.in-Ok.layout
    (cut_is c.args.size c.args.align c.in-Ok.layout c.in-Ok.ensures) c.chunk.ensures c.order.ensures c.count.ensures c.colours.ensures in
    rw (← told, ← c.self.view_is) (tried (goal.at.returns-clause-steps c).After-create)
