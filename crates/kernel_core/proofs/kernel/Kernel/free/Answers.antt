use Rattle.std.proofs.Common.{◌≡◌, sym, ap, ◌∙◌, ◌/◌, ◌^◌, None}
use Rattle.space_core.specs.Content as spaces
use Rattle.machine_changes.specs.Shows.{machine_frame_of, has_slab}
use Rattle.words_core.specs.declared.reply.Body.TheVariants.{Freed}
use Rattle.kernel_core.specs.Content.{KernelContent}
use Rattle.kernel_core.specs.Steps.{body_of}
use Rattle.kernel_core.proofs.CallEffects.{steady, opened, known}
use Rattle.kernel_core.proofs.PageCalls.{free_unheld, free_slab, free_agrees, free_done}
use Rattle.kernel_core.proofs.kernel.Kernel.free.Goals as goal
use Rattle.kernel_core.proofs.kernel.Kernel.free.Goals.{After-is_slab_in}

pub returns-in_default : goal.returns-in_default
returns-in_default c =
    let k = c.self.inside in
    let together = opened _ _ _ _ c.self.view_is c.laws.ensures.together in
    let none : spaces.superblock_at k.space.slots c.args.t (c.args.frame / 2 ^ k.slabs.top) ≡ None
    = ap (λ n. spaces.superblock_at k.space.slots c.args.t (c.args.frame / 2 ^ n)) (sym together.agree.order ∙ (ap (λ (x : KernelContent). x.order) c.self.view_is ∙ sym c.order.ensures))
    ∙ sym c.in_default.ensures.value in
    rw (← c.self.view_is) (free_unheld k.space k.buddy k.slabs c.args.t c.args.frame (steady _ _ _ c.args.t together (known _ _ _ _ c.args.t c.self.view_is c.requires)) none)

-- `is_slab_in` returned whether a slab begins at the frame
told : (c : After-is_slab_in) → has_slab c.self.inside.slabs (machine_frame_of c.self.inside.slabs.top c.self.inside.space.slots c.args.t c.args.frame) ≡ c.is_slab_in.result
told c =
    ap (has_slab c.self.inside.slabs) (ap (λ (k : KernelContent). machine_frame_of k.slabs.top k.space.slots c.args.t c.args.frame) c.self.view_is ∙ c.machine_frame_in-machine_frame.ensures.value)
    ∙ sym c.is_slab_in.ensures

pub returns-then-is_slab_in : goal.returns-then-is_slab_in
returns-then-is_slab_in c = rw (← c.self.view_is)
    (free_slab _ c.args.t c.args.frame (told (goal.at.returns-then-is_slab_in c).After-is_slab_in ∙ c.if-is_slab_in.true))

pub invariant_of-self : goal.invariant_of-self
invariant_of-self c =
    free_agrees c.self.inside.space c.self.inside.buddy c.release_in.new.self c.self.inside.slabs c.args.t c.args.frame c.release_in.result c.self.invariant
    (told (goal.at.invariant_of-self c).After-is_slab_in ∙ c.if-is_slab_in.false) c.release_in.ensures.refused c.release_in.ensures.done

pub returns : goal.returns
returns c =
    rw (ap (body_of Freed) c.ok_or.ensures.value, ← c.self.view_is)
    (free_done c.self.inside.space c.self.inside.buddy c.release_in.new.self c.self.inside.slabs c.args.t c.args.frame c.release_in.result c.self.invariant
    (told (goal.at.returns c).After-is_slab_in ∙ c.if-is_slab_in.false) c.release_in.ensures.answer c.release_in.ensures.refused c.release_in.ensures.done)
