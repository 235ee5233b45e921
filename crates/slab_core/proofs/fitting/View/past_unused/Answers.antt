use Rattle.std.proofs.Common.{ℕ, ◌+◌, ◌≤◌, sym, ◌∙◌, subst, arith}
use Rattle.model_core.specs.declared.limits.TheConstants.{WIDE_ORDER}
use Rattle.slab_core.specs.Fitting.{IsUnusedTo}
use Rattle.buddy_core.proofs.ContentShown.{size_is}
use Rattle.slab_core.proofs.IdleFrames.{small_size, order_small, unused_to, not_unused}
use Rattle.slab_core.proofs.fitting.View.past_unused.Goals as goal

pub overflow_add-result-then-is_idle : goal.overflow_add-result-then-is_idle
overflow_add-result-then-is_idle c =
    let taken = sym c.requires.begins ∙ c.in-Some.is in
    let small : c.in-Some.order ≤ WIDE_ORDER =
    order_small c.args.self.space.now c.args.self.buddy.now c.args.self.tables.now c.args.self.tenant c.requires.steady c.requires.parts.slabs c.args.frame c.in-Some.order taken in
    omega (arith, size_is c.in-Some.order small, small_size c.in-Some.order small, c.requires.steady.few c.args.frame c.in-Some.order taken)

pub returns-then-is_idle : goal.returns-then-is_idle
returns-then-is_idle c =
    let taken = sym c.requires.begins ∙ c.in-Some.is in
    let small : c.in-Some.order ≤ WIDE_ORDER =
    order_small c.args.self.space.now c.args.self.buddy.now c.args.self.tables.now c.args.self.tenant c.requires.steady c.requires.parts.slabs c.args.frame c.in-Some.order taken in
    subst (λ (n : ℕ). IsUnusedTo c.args.self.space.now c.args.self.buddy.now c.args.self.tables.now c.args.self.tenant c.args.frame (c.args.frame + n))
    (sym (size_is c.in-Some.order small))
    (unused_to c.args.self.space.now c.args.self.buddy.now c.args.self.tables.now c.args.self.tenant c.requires.steady c.args.frame c.in-Some.order taken
    c.requires.border (sym c.is_idle.ensures ∙ c.if-is_idle.true))

pub returns-else-is_idle : goal.returns-else-is_idle
returns-else-is_idle c =
    not_unused c.args.self.space.now c.args.self.buddy.now c.args.self.tables.now c.args.self.tenant c.requires.steady c.args.frame c.in-Some.order
    (sym c.requires.begins ∙ c.in-Some.is) c.requires.border (sym c.is_idle.ensures ∙ c.if-is_idle.false)
