-- A free at a place where no frame begins is refused.
use Rattle.std.proofs.Common.{◌≡◌, ℕ, ◌^◌, ◌<◌, ◌≤◌, Bool, true, false, if◌then◌else◌, Option, Some, None, get_or, slice_get, refl, ap, ◌∙◌, arith}
use Rattle.std.proofs.lemmas.List.{get_or_past}
use Rattle.std.proofs.lemmas.Option.{slice_get-get_or}
use Rattle.model_core.specs.Machine.{Machine, empty_machine, order_in}
use Rattle.model_core.specs.Operations.{free_step, free_at}
use Rattle.world_core.specs.Limits.{cache_limit}
use Rattle.world_core.specs.PrivateStep.{command_step, free_body}
use Rattle.world_core.specs.World.{world_step, tenant_step}
use Rattle.words_core.specs.declared.event.Command.TheVariants.{Free}
use Rattle.words_core.specs.declared.reply.Addressee.TheVariants as To
use Rattle.words_core.specs.declared.reply.Reply.{Reply}
use Rattle.machine_changes.specs.Shows.{machine_frame_of, has_slab}
use Rattle.buddy_core.specs.Content.{holding_of, taken_of}
use Rattle.kernel_core.specs.Content.{KernelContent}
use Rattle.kernel_core.specs.Shows.{ShowsMachine}
use Rattle.kernel_core.specs.Stores.{IsKernel}
use Rattle.partmem_c.specs.Calls.{frame_at_place, OffsetsAreRefused}

neither_none : (b : Bool) (x : Option ℕ) → x ≡ None → (if b then None else x) ≡ None
neither_none true x none = refl
neither_none false x none = none

abbrev reply_of : ℕ → Option ℕ → Reply
reply_of t freed = record { addressee = To.Tenant t; body = free_body freed }

-- a tenant has no taken block that begins at frame 2 ^ 20 or above
none_taken : (k : KernelContent) (t frame : ℕ) → IsKernel k → t < k.tenants → 2 ^ 20 ≤ frame → taken_of (holding_of t k.buddy) frame ≡ None
none_taken k t frame is here large =
    let sizes = is.together.buddy.sizes in
    let listed = sizes.taken t (omega (arith, here, is.agree.holdings)) in
    get_or_past (holding_of t k.buddy).taken frame None (omega (arith, listed, sizes.frames, large))

no_block : (k : KernelContent) (t frame : ℕ) (m : Machine) → IsKernel k → t < k.tenants → 2 ^ 20 ≤ frame → ShowsMachine k t m → order_in m.blocks frame ≡ None
no_block k t frame m is here large shown =
    shown.blocks frame
    ∙ neither_none (has_slab k.slabs (machine_frame_of k.slabs.top k.space.slots t frame)) (taken_of (holding_of t k.buddy) frame) (none_taken k t frame is here large)

pub offsets_refused : OffsetsAreRefused
unfolding world_step tenant_step command_step free_step
offsets_refused k w t place is shows here offset =
    let m : Machine = get_or w.machines t empty_machine in
    let there : slice_get w.machines t ≡ Some m = slice_get-get_or w.machines t empty_machine (omega (arith, here, shows.tenants)) in
    let none = no_block k t (frame_at_place place) m is here (omega (arith, offset)) (shows.machines t m there) in
    ap (λ (o : Option Machine). (tenant_step cache_limit k.order t (Free (frame_at_place place)) w o).reply) there
    ∙ ap (λ (o : Option ℕ). reply_of t (free_at (frame_at_place place) m o).answer) none
