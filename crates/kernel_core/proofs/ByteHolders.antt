-- A byte lies in a live object or page block of the parts exactly if the private machine has the same object or block there.
use Rattle.std.proofs.Common.{◌≡◌, inr, ℕ, ◌/◌, ◌^◌, ◌<◌, false, true, Option, Some, None, ok_or, IfOk, IfErr, refl, sym, ◌∙◌, ⊎_elim, subst, arith}
use Rattle.std.specs.Prelude.{MatchOption}
use Rattle.std.proofs.lemmas.Bool.{false≢true}
use Rattle.model_core.specs.Blocks.{block, HasFrame, IsTaken}
use Rattle.model_core.specs.Machine.{Machine}
use Rattle.model_core.specs.Reach.{in_reach}
use Rattle.space_core.specs.Content as spaces
use Rattle.buddy_core.specs.Content as buddies
use Rattle.slab_tables.specs.Content as tables
use Rattle.machine_changes.specs.Shows.{machine_frame_of, has_slab}
use Rattle.machine_changes.specs.Steady.{IsSteady}
use Rattle.machine_changes.specs.Objects.{HasNone}
use Rattle.machine_changes.proofs.SteadyParts.{in_table}
use Rattle.machine_changes.proofs.PageReachByBlock.{block_decides, no_block_decides}
use Rattle.slab_core.specs.declared.reaching.ObjectSpan.{ObjectSpan}
use Rattle.slab_core.specs.Reaching.{IsAround}
use Rattle.slab_core.proofs.ObjectBytes.{has_object}
use Rattle.slab_core.proofs.ObjectsInRange.{no_block}
use Rattle.words_core.specs.declared.reply.Refusal.{Refusal}
use Rattle.words_core.specs.declared.reply.Refusal.TheVariants.{OutOfReach}
use Rattle.kernel_core.specs.declared.holders.Holder.{Holder}
use Rattle.kernel_core.specs.Content.{KernelContent, content_of}
use Rattle.kernel_core.specs.Shows.{ShowsMachine}
use Rattle.kernel_core.specs.Lending.{IsNotLent}
use Rattle.kernel_core.specs.Holders.{HasObjectAround, IsHolder}
use Rattle.kernel_core.proofs.CallEffects.{steady}
use Rattle.kernel_core.proofs.PageCalls.{IsRequested, not_held, out_of_reach}
use Rattle.kernel_core.proofs.LendSpans.{refused_for}

module _ (r : spaces.Content) (b : buddies.Content) (s : tables.Content) (t place : ℕ) (asked : IsRequested r b s t) where
  st : IsSteady r b s t
  st = steady r b s t asked.together asked.tenant

  -- if the tenant does not hold the slot of the place, the place is not in reach
  pub unheld_beyond : spaces.superblock_at r.slots t (place / 4096 / 2 ^ s.top) ≡ None → (m : Machine) → ShowsMachine (content_of r b s) t m
      → in_reach m place 1 ≡ false
  unheld_beyond none m shown = out_of_reach r b s t place 1 asked m shown (not_held r b s t place 1 asked none)

  -- if the frame of the place is not taken, the place is not in reach
  pub free_beyond : (IsTaken (buddies.taken_of (buddies.holding_of t b)) (place / 4096) → ⊥) → (m : Machine) → ShowsMachine (content_of r b s) t m
      → in_reach m place 1 ≡ false
  free_beyond none m shown = out_of_reach r b s t place 1 asked m shown (λ reach. ⊎_elim
      (no_block_decides r b s t place 1 reach.some none)
      (λ o. no_block r b s t place 1 st none o.0 o.1)
      reach.inside)

  module _ (first order : ℕ) (taken : buddies.taken_of (buddies.holding_of t b) first ≡ Some order) (here : HasFrame (block first order) (place / 4096)) where
    -- if the taken block around the place is a slab, and no live object contains the place, the place is not in reach
    pub dead_beyond : has_slab s (machine_frame_of s.top r.slots t first) ≡ true → HasNone r s t place 1
        → (m : Machine) → ShowsMachine (content_of r b s) t m → in_reach m place 1 ≡ false
    dead_beyond slab none m shown = out_of_reach r b s t place 1 asked m shown (λ reach. ⊎_elim
        (λ page. false≢true (sym ((block_decides r b s t place 1 first order st reach.some taken here).0 page).0 ∙ slab))
        (λ o. none o.0 o.1)
        reach.inside)

  -- if a live object of the parts contains the place, the machine has the same live object there
  pub object_around : (o : ObjectSpan) → IsAround r s t place 1 o → (m : Machine) → ShowsMachine (content_of r b s) t m
      → HasObjectAround m place o.cache o.place o.bytes
  object_around o is m shown = record {
    number = (in_table s t o.cache is.object.cache is.live.slab.cached).number;
    object = has_object r b s t o.cache o.place o.bytes is.object m st shown is.live is.size;
    from = is.from;
    below = omega (arith, is.to);
  }

-- The result of `holder`, which takes the number of a tenant
module _ (k : KernelContent) (t tenant place : ℕ) (same : t ≡ tenant) (less : t < k.tenants) where
  abbrev Told : ℕ → Option Holder → Type 0
  Told u o = (m : Machine) → ShowsMachine k u m → MatchOption o (in_reach m place 1 ≡ false) (IsHolder m place)

  pub known_for : (o : Option Holder) → IfOk (ok_or o OutOfReach) (λ holder. tenant < k.tenants)
  known_for None = tt
  known_for (Some holder) = subst (λ u. u < k.tenants) same less

  pub holder_for : (o : Option Holder) → Told t o → IfOk (ok_or o OutOfReach) (λ holder. (m : Machine) → ShowsMachine k tenant m → IsHolder m place holder)
  holder_for None told = tt
  holder_for (Some holder) told = subst (λ u. (m : Machine) → ShowsMachine k u m → IsHolder m place holder) same told

  pub beyond_for : (o : Option Holder) → Told t o → IfErr (ok_or o OutOfReach) (IsNotLent k tenant (λ refusal. (refusal ≡ OutOfReach)
      × ((m : Machine) → ShowsMachine k tenant m → in_reach m place 1 ≡ false)))
  beyond_for None told =
      inr (refused_for k t tenant (λ u. (◌≡◌ {A = Refusal} OutOfReach OutOfReach) × ((m : Machine) → ShowsMachine k u m → in_reach m place 1 ≡ false))
      same less (refl, told))
  beyond_for (Some holder) told = tt
