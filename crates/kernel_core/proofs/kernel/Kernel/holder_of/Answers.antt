use Rattle.std.proofs.Common.{◌≡◌, ◌/◌, ◌^◌, Some, sym, ap, ◌∙◌, subst, arith}
use Rattle.space_core.specs.Content.{superblock_at}
use Rattle.machine_changes.specs.Shows.{machine_frame_of, has_slab}
use Rattle.kernel_core.specs.Content as content
use Rattle.kernel_core.specs.Content.{KernelContent}
use Rattle.kernel_core.proofs.CallEffects.{steady, opened, known}
use Rattle.kernel_core.proofs.PageCalls.{block_slot, IsRequested}
use Rattle.kernel_core.proofs.LendSpans.{few, has_block}
use Rattle.kernel_core.proofs.ByteHolders.{unheld_beyond, free_beyond, dead_beyond, object_around}
use Rattle.kernel_core.proofs.kernel.Kernel.holder_of.Goals as goal
use Rattle.kernel_core.proofs.kernel.Kernel.holder_of.Goals.{After-machine_of, After-is_slab_in}

asked : (c : After-machine_of) → IsRequested c.self.inside.space c.self.inside.buddy c.self.inside.slabs c.args.t
asked c = record { together = opened _ _ _ _ c.self.view_is c.laws.ensures.together; tenant = known _ _ _ _ c.args.t c.self.view_is c.requires }

-- `machine_of` returned the superblock in the slot of the place
read : (c : After-machine_of) → superblock_at c.self.inside.space.slots c.args.t (c.args.place / 4096 / 2 ^ c.self.inside.slabs.top) ≡ c.machine_of.result
read c =
    let top = sym c.self.invariant.order ∙ (ap (λ (x : KernelContent). x.order) c.self.view_is ∙ sym c.order.ensures) in
    ap (λ n. superblock_at c.self.inside.space.slots c.args.t (c.args.place / 4096 / 2 ^ n)) top ∙ sym c.machine_of.ensures.value

pub returns-in_err-superblock : goal.returns-in_err-superblock
returns-in_err-superblock c =
    let a = (goal.at.returns-in_err-superblock c).After-machine_of in
    rw (c.from_residual.ensures, ← c.self.view_is) (unheld_beyond _ _ _ c.args.t c.args.place (asked a) (read a ∙ c.in_err-superblock.was))

pub returns-in_err-first : goal.returns-in_err-first
returns-in_err-first c =
    let a = (goal.at.returns-in_err-first c).After-machine_of in
    rw (c.from_residual-in_err-first.ensures, ← c.self.view_is) (free_beyond _ _ _ c.args.t c.args.place (asked a) c.in_err-first.ensures)

pub machine_frame_in-machine_frame-requires : goal.machine_frame_in-machine_frame-requires
machine_frame_in-machine_frame-requires c =
    let a = (goal.at.machine_frame_in-machine_frame-requires c).After-machine_of in
    let k = c.self.inside in
    let same = block_slot k.space k.buddy k.slabs c.args.t c.in_ok-first.first c.in_ok-first.order (c.args.place / 4096)
    (steady k.space k.buddy k.slabs c.args.t (asked a).together (asked a).tenant) c.in_ok-first.ensures.0 c.in_ok-first.ensures.1 in
    subst (λ (x : KernelContent). content.superblock_at x c.args.t (c.in_ok-first.first / 2 ^ x.order) ≡ Some c.in_ok-superblock.superblock) c.self.view_is
    (ap (λ n. superblock_at k.space.slots c.args.t (c.in_ok-first.first / 2 ^ n)) c.self.invariant.order
    ∙ (ap (superblock_at k.space.slots c.args.t) same ∙ (read a ∙ c.in_ok-superblock.was)))

-- `is_slab_in` returned whether a slab begins at the first frame of the block
told : (c : After-is_slab_in) → has_slab c.self.inside.slabs (machine_frame_of c.self.inside.slabs.top c.self.inside.space.slots c.args.t c.in_ok-first.first) ≡ c.is_slab_in.result
told c =
    ap (has_slab c.self.inside.slabs) (ap (λ (k : KernelContent). machine_frame_of k.slabs.top k.space.slots c.args.t c.in_ok-first.first) c.self.view_is ∙ c.machine_frame_in-machine_frame.ensures.value)
    ∙ sym c.is_slab_in.ensures

pub returns-in_err-object : goal.returns-in_err-object
returns-in_err-object c =
    let g = goal.at.returns-in_err-object c in
    rw (c.from_residual-in_err-object.ensures, ← c.self.view_is) (dead_beyond _ _ _ c.args.t c.args.place (asked g.After-machine_of) c.in_ok-first.first c.in_ok-first.order c.in_ok-first.ensures.0 c.in_ok-first.ensures.1
    (told g.After-is_slab_in ∙ c.if-is_slab_in.true) c.in_err-object.ensures)

pub returns-then-is_slab_in : goal.returns-then-is_slab_in
returns-then-is_slab_in c =
    let g = goal.at.returns-then-is_slab_in c in
    rw (← c.self.view_is) (object_around _ _ _ c.args.t c.args.place (asked g.After-machine_of) c.in_ok-object.object c.in_ok-object.ensures)

pub overflow_shl-result : goal.overflow_shl-result
overflow_shl-result c =
    let small = few _ _ _ c.args.t c.args.place (asked (goal.at.overflow_shl-result c).After-machine_of) c.in_ok-first.first c.in_ok-first.order c.in_ok-first.ensures.0 c.in_ok-first.ensures.1 in
    omega arith

pub returns : goal.returns
returns c =
    let g = goal.at.returns c in
    rw (← c.self.view_is) (has_block _ _ _ c.args.t c.args.place (asked g.After-machine_of) c.in_ok-first.first c.in_ok-first.order c.in_ok-first.ensures.0 c.in_ok-first.ensures.1
    (told g.After-is_slab_in ∙ c.if-is_slab_in.false))
