-- A store in place is a step of the command `write`, and a load in place returns the byte of the private machine.
use Rattle.std.proofs.Common.{◌≡◌, ℕ, ◌<◌, List, length, refl, sym, ◌∙◌, subst, arith}
use Rattle.words_core.specs.declared.event.Event.{Event}
use Rattle.words_core.specs.declared.event.Event.TheVariants.{Tenant}
use Rattle.words_core.specs.declared.event.Command.{Command}
use Rattle.words_core.specs.declared.event.Command.TheVariants.{Write}
use Rattle.words_core.specs.declared.reply.Addressee.TheVariants as To
use Rattle.words_core.specs.declared.reply.Body.TheVariants.{Written}
use Rattle.words_core.specs.declared.reply.Reply.{Reply}
use Rattle.space_core.specs.Content as spaces
use Rattle.space_core.proofs.SpaceLaws.{laws_of, with_window-IsSpace}
use Rattle.buddy_core.specs.Content as buddies
use Rattle.slab_tables.specs.Content as tables
use Rattle.machine_changes.specs.Pages.{IsInReach, stored}
use Rattle.machine_changes.specs.Slots.{HoldTogether}
use Rattle.machine_changes.proofs.PageReachHeld.{reach_bytes}
use Rattle.kernel_core.specs.Content.{KernelContent, content_of}
use Rattle.kernel_core.proofs.CallEffects.{parts_agree, steady, with_space}
use Rattle.kernel_core.proofs.PageCalls.{IsRequested, held, write_agrees, write_done}
use Rattle.kernel_core.specs.Steps.{Steps}
use Rattle.kernel_core.specs.Stores.{IsKernel, StoresAreWrites, LoadsAreOwn}
use Rattle.kernel_core.proofs.KernelToWorld.{steps_asked}

abbrev write_of : ℕ → List ℕ → Command
write_of place bytes = Write place (record { items = bytes })

abbrev written_reply : ℕ → List ℕ → Reply
written_reply t bytes = record { addressee = To.Tenant t; body = Written (length bytes) }

module _ (r : spaces.Content) (b : buddies.Content) (s : tables.Content) (t place : ℕ) (bytes : List ℕ) (asked : IsRequested r b s t)
    (reach : IsInReach r b s t place (length bytes)) where
  stored_together : HoldTogether (stored t place bytes r) b s
  stored_together = record {
    space = laws_of (with_window-IsSpace asked.together.space.facts t place bytes (held r b s t place (length bytes) asked reach));
    buddy = asked.together.buddy;
    slabs = asked.together.slabs;
    agree = (write_agrees r b s t place bytes asked reach).agree;
  }

  stored_kernel : IsKernel (content_of (stored t place bytes r) b s)
  stored_kernel = record { agree = parts_agree (stored t place bytes r) b s stored_together; together = stored_together }

  stored_steps : Steps (content_of r b s) (Tenant t (write_of place bytes)) (content_of (stored t place bytes r) b s) (written_reply t bytes)
  stored_steps =
      let old = content_of r b s in
      let new = content_of (stored t place bytes r) b s in
      steps_asked old new t t (write_of place bytes) (Written (length bytes)) refl asked.tenant (λ w shown. stored_kernel.agree)
      (write_done r b s t place bytes asked reach)

known : (k : KernelContent) (t : ℕ) → IsKernel k → t < k.tenants → t < length k.buddy.tenants
known k t is here = omega (arith, is.agree.holdings)

pub stores_are_writes : StoresAreWrites
stores_are_writes k k' t place bytes is did =
    let asked : IsRequested k.space k.buddy k.slabs t = record { together = is.together; tenant = known k t is did.tenant } in
    let event : Event = Tenant t (write_of place bytes) in
    let new : KernelContent = content_of (stored t place bytes k.space) k.buddy k.slabs in
    let after : new ≡ k' = with_space k (stored t place bytes k.space) is.agree ∙ sym did.is in
    subst (λ (x : KernelContent). IsKernel x × Steps k event x (written_reply t bytes)) after (
      stored_kernel k.space k.buddy k.slabs t place bytes asked did.reach,
      subst (λ (x : KernelContent). Steps x event new (written_reply t bytes)) (with_space k k.space is.agree)
          (stored_steps k.space k.buddy k.slabs t place bytes asked did.reach),
    )

pub loads_are_own : LoadsAreOwn
loads_are_own k w m t place byte is shown here loads =
    reach_bytes k.space k.buddy k.slabs t place 1 m (steady k.space k.buddy k.slabs t is.together (known k t is loads.tenant))
    (shown.machines t m here) loads.reach place (omega arith) (omega arith)
    ∙ loads.is
