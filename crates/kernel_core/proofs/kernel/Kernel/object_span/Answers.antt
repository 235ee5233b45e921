use Rattle.std.proofs.Common.{◌≡◌, ◌/◌, ◌^◌, refl, sym, ap, ◌∙◌, subst}
use Rattle.std.specs.Prelude.{IsSome, Err}
use Rattle.std.proofs.lemmas.Result.{err_from_is_err_and}
use Rattle.space_core.specs.Content.{superblock_at}
use Rattle.kernel_core.specs.Content.{KernelContent}
use Rattle.kernel_core.proofs.CallEffects.{opened, known}
use Rattle.kernel_core.proofs.PageCalls.{IsRequested}
use Rattle.kernel_core.proofs.LendSpans.{object_live, object_held}
use Rattle.kernel_core.proofs.LookupAnswers.{object_answers, no_object_answers}
use Rattle.kernel_core.proofs.kernel.Kernel.object_span.Goals as goal
use Rattle.kernel_core.proofs.kernel.Kernel.object_span.Goals.{After-machine_of}

asked : (c : After-machine_of) → IsRequested c.self.inside.space c.self.inside.buddy c.self.inside.slabs c.in-Some.t
asked c = record { together = opened _ _ _ _ c.self.view_is c.laws.ensures.together; tenant = known _ _ _ _ c.in-Some.t c.self.view_is c.in-Some.ensures.1 }

-- `machine_of` returned the superblock in the slot of the place
read : (c : After-machine_of) → superblock_at c.self.inside.space.slots c.in-Some.t (c.args.place / 4096 / 2 ^ c.self.inside.slabs.top) ≡ c.machine_of.result
read c =
    let top = sym c.self.invariant.order ∙ (ap (λ (x : KernelContent). x.order) c.self.view_is ∙ sym c.order.ensures) in
    ap (λ n. superblock_at c.self.inside.space.slots c.in-Some.t (c.args.place / 4096 / 2 ^ n)) top ∙ sym c.machine_of.ensures.value

pub unwrap-superblock-requires : goal.unwrap-superblock-requires
unwrap-superblock-requires c =
    let a = (goal.at.unwrap-superblock-requires c).After-machine_of in
    let there = object_held _ _ _ c.in-Some.t c.args.place (asked a) c.in_ok-bytes.bytes c.in_ok-bytes.ensures.range c.machine_of.result (read a) in
    subst IsSome (sym there.1) refl

pub returns-clause-live : goal.returns-clause-live
returns-clause-live c =
    let a = (goal.at.returns-clause-live c).After-machine_of in
    rw (← c.self.view_is) (object_live _ _ _ c.in-Some.t c.args.place (asked a) c.in_ok-bytes.bytes c.in_ok-bytes.ensures.range c.unwrap-superblock.result (read a ∙ c.unwrap-superblock.ensures))

pub returns-in_err-bytes-clause-answers : goal.returns-in_err-bytes-clause-answers
returns-in_err-bytes-clause-answers c =
    let told = err_from_is_err_and c.from_residual.result c.from_residual.ensures.1 in
    rw (told.1 ∙ ap Err told.2)
    (no_object_answers c.args.self.now c.in-Some.t c.args.tenant c.in-Some.ensures (record { agree = c.laws.ensures.agree; together = c.laws.ensures.together })
    c.args.cache c.args.place c.in_err-bytes.field-0.0 (rw (← c.self.view_is) c.in_err-bytes.ensures.refused))

pub returns-clause-answers : goal.returns-clause-answers
returns-clause-answers c =
    object_answers c.args.self.now c.in-Some.t c.args.tenant c.in-Some.ensures (record { agree = c.laws.ensures.agree; together = c.laws.ensures.together })
    c.args.cache c.args.place c.in_ok-bytes.bytes (rw (← c.self.view_is) c.in_ok-bytes.ensures.object)
