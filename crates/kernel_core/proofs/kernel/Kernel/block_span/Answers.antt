use Rattle.std.proofs.Common.{◌≡◌, ℕ, ◌<◌, inr, ◌*◌, ◌/◌, ◌%◌, ◌^◌, Some, refl, sym, ap, ◌∙◌, subst, arith}
use Rattle.model_core.specs.Blocks.{IsTaken}
use Rattle.model_core.specs.Machine.{Machine, order_in}
use Rattle.words_core.specs.declared.reply.Refusal.{Refusal}
use Rattle.words_core.specs.declared.reply.Refusal.TheVariants.{OutOfReach}
use Rattle.kernel_core.specs.Shows.{ShowsMachine}
use Rattle.kernel_core.specs.Lending.{IsNotLent, HasBlock}
use Rattle.space_core.specs.Content.{superblock_at}
use Rattle.machine_changes.specs.Shows.{machine_frame_of, has_slab}
use Rattle.kernel_core.specs.Content as content
use Rattle.kernel_core.specs.Content.{KernelContent}
use Rattle.kernel_core.proofs.CallEffects.{steady, opened, known}
use Rattle.kernel_core.proofs.PageCalls.{block_slot, IsRequested}
use Rattle.kernel_core.proofs.LendSpans.{refused_for, unheld_no_page, free_no_page, slab_no_page, few, block_live, has_block}
use Rattle.kernel_core.specs.Stores.{IsKernel}
use Rattle.kernel_core.proofs.LookupAnswers.{page_answers, no_page_answers}
use Rattle.kernel_core.proofs.kernel.Kernel.block_span.Goals as goal
use Rattle.kernel_core.proofs.kernel.Kernel.block_span.Goals.{After-machine_of, After-is_slab_in}

asked : (c : After-machine_of) → IsRequested c.self.inside.space c.self.inside.buddy c.self.inside.slabs c.in-Some.t
asked c = record { together = opened _ _ _ _ c.self.view_is c.laws.ensures.together; tenant = known _ _ _ _ c.in-Some.t c.self.view_is c.in-Some.ensures.1 }

-- if the tenant exists and has no page block around the place, `OutOfReach` is the right refusal
not_lent : (k : KernelContent) (t tenant place : ℕ) → (t ≡ tenant) × (t < k.tenants)
    → ((m : Machine) → ShowsMachine k t m → IsTaken (order_in m.blocks) (place / 4096) → ⊥)
    → IsNotLent k tenant (λ refusal. (refusal ≡ OutOfReach) × ((m : Machine) → ShowsMachine k tenant m → IsTaken (order_in m.blocks) (place / 4096) → ⊥)) OutOfReach
not_lent k t tenant place same none =
    inr (refused_for k t tenant
    (λ u. (◌≡◌ {A = Refusal} OutOfReach OutOfReach) × ((m : Machine) → ShowsMachine k u m → IsTaken (order_in m.blocks) (place / 4096) → ⊥)) same.0 same.1 (refl, none))

-- `machine_of` returned the superblock in the slot of the place
read : (c : After-machine_of) → superblock_at c.self.inside.space.slots c.in-Some.t (c.args.place / 4096 / 2 ^ c.self.inside.slabs.top) ≡ c.machine_of.result
read c =
    let top = sym c.self.invariant.order ∙ (ap (λ (x : KernelContent). x.order) c.self.view_is ∙ sym c.order.ensures) in
    ap (λ n. superblock_at c.self.inside.space.slots c.in-Some.t (c.args.place / 4096 / 2 ^ n)) top ∙ sym c.machine_of.ensures.value

pub returns-in_default-machine_of-clause-refused : goal.returns-in_default-machine_of-clause-refused
returns-in_default-machine_of-clause-refused c =
    let a = (goal.at.returns-in_default-machine_of-clause-refused c).After-machine_of in
    not_lent c.args.self.now c.in-Some.t c.args.tenant c.args.place c.in-Some.ensures
    (rw (← c.self.view_is) (unheld_no_page _ _ _ c.in-Some.t c.args.place (asked a) (read a ∙ c.in_default-machine_of.is)))

pub returns-in_default-block_in-clause-refused : goal.returns-in_default-block_in-clause-refused
returns-in_default-block_in-clause-refused c =
    let a = (goal.at.returns-in_default-block_in-clause-refused c).After-machine_of in
    not_lent c.args.self.now c.in-Some.t c.args.tenant c.args.place c.in-Some.ensures
    (rw (← c.self.view_is) (free_no_page _ _ _ c.in-Some.t c.args.place (asked a) c.in_default-block_in.ensures))

pub machine_frame_in-machine_frame-requires : goal.machine_frame_in-machine_frame-requires
machine_frame_in-machine_frame-requires c =
    let a = (goal.at.machine_frame_in-machine_frame-requires c).After-machine_of in
    let k = c.self.inside in
    let same = block_slot k.space k.buddy k.slabs c.in-Some.t c.in-Some-block_in.first c.in-Some-block_in.order (c.args.place / 4096)
    (steady k.space k.buddy k.slabs c.in-Some.t (asked a).together (asked a).tenant) c.in-Some-block_in.ensures.0 c.in-Some-block_in.ensures.1 in
    subst (λ (x : KernelContent). content.superblock_at x c.in-Some.t (c.in-Some-block_in.first / 2 ^ x.order) ≡ Some c.in-Some-machine_of.superblock) c.self.view_is
    (ap (λ n. superblock_at k.space.slots c.in-Some.t (c.in-Some-block_in.first / 2 ^ n)) c.self.invariant.order
    ∙ (ap (superblock_at k.space.slots c.in-Some.t) same ∙ (read a ∙ c.in-Some-machine_of.is)))

-- `is_slab_in` returned whether a slab begins at the first frame of the block
told : (c : After-is_slab_in) → has_slab c.self.inside.slabs (machine_frame_of c.self.inside.slabs.top c.self.inside.space.slots c.in-Some.t c.in-Some-block_in.first) ≡ c.is_slab_in.result
told c =
    ap (has_slab c.self.inside.slabs) (ap (λ (k : KernelContent). machine_frame_of k.slabs.top k.space.slots c.in-Some.t c.in-Some-block_in.first) c.self.view_is ∙ c.machine_frame_in-machine_frame.ensures.value)
    ∙ sym c.is_slab_in.ensures

pub returns-then-is_slab_in-clause-refused : goal.returns-then-is_slab_in-clause-refused
returns-then-is_slab_in-clause-refused c =
    let g = goal.at.returns-then-is_slab_in-clause-refused c in
    not_lent c.args.self.now c.in-Some.t c.args.tenant c.args.place c.in-Some.ensures
    (rw (← c.self.view_is) (slab_no_page _ _ _ c.in-Some.t c.args.place (asked g.After-machine_of) c.in-Some-block_in.first c.in-Some-block_in.order c.in-Some-block_in.ensures.0 c.in-Some-block_in.ensures.1
    (told g.After-is_slab_in ∙ c.if-is_slab_in.true)))

pub overflow_shl-result : goal.overflow_shl-result
overflow_shl-result c =
    let small = few _ _ _ c.in-Some.t c.args.place (asked (goal.at.overflow_shl-result c).After-machine_of) c.in-Some-block_in.first c.in-Some-block_in.order c.in-Some-block_in.ensures.0 c.in-Some-block_in.ensures.1 in
    omega arith

pub returns-clause-live : goal.returns-clause-live
returns-clause-live c =
    let g = goal.at.returns-clause-live c in
    rw (← c.self.view_is) (block_live _ _ _ c.in-Some.t c.args.place (asked g.After-machine_of) c.in-Some-block_in.first c.in-Some-block_in.order c.in-Some-block_in.ensures.0 c.in-Some-block_in.ensures.1
    (told g.After-is_slab_in ∙ c.if-is_slab_in.false) c.in-Some-machine_of.superblock (read g.After-machine_of ∙ c.in-Some-machine_of.is))

pub returns-clause-block : goal.returns-clause-block
returns-clause-block c =
    let g = goal.at.returns-clause-block c in
    let first = c.in-Some-block_in.first in
    let order = c.in-Some-block_in.order in (
      c.in-Some.ensures.0,
      subst (λ u. (m : Machine) → ShowsMachine c.args.self.now u m → HasBlock m c.args.place (4096 * first) (4096 * 2 ^ order % 4294967296)) c.in-Some.ensures.0
          (rw (← c.self.view_is) (has_block _ _ _ c.in-Some.t c.args.place (asked g.After-machine_of) first order c.in-Some-block_in.ensures.0 c.in-Some-block_in.ensures.1
          (told g.After-is_slab_in ∙ c.if-is_slab_in.false))),
    )

is_kernel : (c : After-machine_of) → IsKernel c.args.self.now
is_kernel c = record { agree = c.laws.ensures.agree; together = c.laws.ensures.together }

pub returns-in_default-machine_of-clause-answers : goal.returns-in_default-machine_of-clause-answers
returns-in_default-machine_of-clause-answers c =
    let a = (goal.at.returns-in_default-machine_of-clause-answers c).After-machine_of in
    no_page_answers c.args.self.now c.in-Some.t c.args.tenant c.in-Some.ensures (is_kernel a) c.args.place
    (rw (← c.self.view_is) (unheld_no_page _ _ _ c.in-Some.t c.args.place (asked a) (read a ∙ c.in_default-machine_of.is)))

pub returns-in_default-block_in-clause-answers : goal.returns-in_default-block_in-clause-answers
returns-in_default-block_in-clause-answers c =
    let a = (goal.at.returns-in_default-block_in-clause-answers c).After-machine_of in
    no_page_answers c.args.self.now c.in-Some.t c.args.tenant c.in-Some.ensures (is_kernel a) c.args.place
    (rw (← c.self.view_is) (free_no_page _ _ _ c.in-Some.t c.args.place (asked a) c.in_default-block_in.ensures))

pub returns-then-is_slab_in-clause-answers : goal.returns-then-is_slab_in-clause-answers
returns-then-is_slab_in-clause-answers c =
    let g = goal.at.returns-then-is_slab_in-clause-answers c in
    no_page_answers c.args.self.now c.in-Some.t c.args.tenant c.in-Some.ensures (is_kernel g.After-machine_of) c.args.place
    (rw (← c.self.view_is) (slab_no_page _ _ _ c.in-Some.t c.args.place (asked g.After-machine_of) c.in-Some-block_in.first c.in-Some-block_in.order c.in-Some-block_in.ensures.0 c.in-Some-block_in.ensures.1
    (told g.After-is_slab_in ∙ c.if-is_slab_in.true)))

pub returns-clause-answers : goal.returns-clause-answers
returns-clause-answers c =
    let g = goal.at.returns-clause-answers c in
    let first = c.in-Some-block_in.first in
    let order = c.in-Some-block_in.order in
    page_answers c.args.self.now c.in-Some.t c.args.tenant c.in-Some.ensures (is_kernel g.After-machine_of) c.args.place
    (4096 * first) (4096 * 2 ^ order % 4294967296)
    (rw (← c.self.view_is) (has_block _ _ _ c.in-Some.t c.args.place (asked g.After-machine_of) first order c.in-Some-block_in.ensures.0 c.in-Some-block_in.ensures.1
    (told g.After-is_slab_in ∙ c.if-is_slab_in.false)))
