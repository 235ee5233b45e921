use Rattle.std.proofs.Common.{◌≡◌, Result, refl, sym, ◌∙◌, subst, arith}
use Rattle.std.specs.Prelude.{IfSome}
use Rattle.slab_tables.specs.Content as tables
use Rattle.words_core.specs.declared.event.Command.TheVariants as Command
use Rattle.words_core.specs.declared.reply.Body.TheVariants.{Given}
use Rattle.words_core.specs.declared.reply.Refusal.{Refusal}
use Rattle.kernel_core.specs.Content.{KernelContent}
use Rattle.kernel_core.specs.Steps.{StepsMachine, body_of}
use Rattle.kernel_core.proofs.Releases.{object_freed}
use Rattle.kernel_core.proofs.kernel.Kernel.give_at.Goals as goal

pub returns : goal.returns
returns c =
    let k = c.args.self.now in
    let t = c.args.t in
    let place = c.args.place in
    let cache = c.in_ok-cache.cache in
    let bytes = c.object_size-bytes.result in
    object_freed k t place c.args.sizes.now c.give.new.self cache bytes (tables.cache_at k.slabs t cache)
    (record { together = c.laws.ensures.together; tenant = omega (arith, c.requires, c.laws.ensures.agree.holdings) })
    refl c.in_ok-cache.ensures
    (subst (λ (x : KernelContent). IfSome (tables.cache_at x.slabs t cache) (λ it. bytes ≡ it.layout.size)) c.self.view_is c.object_size-bytes.ensures)
    (sym c.size_for.ensures ∙ c.if-size_for-bytes.false)
    (subst (λ (r : Result (Unit {0}) Refusal). StepsMachine k t (Command.Give cache place) c.give.new.self (body_of (λ done. Given) r)) c.in-Ok.is c.give.ensures)
