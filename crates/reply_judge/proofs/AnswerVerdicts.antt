-- The verdicts on answers to an alloc, a free, a take, a read and a write follow from the results of the judge's tests.
use Rattle.std.proofs.Common.{◌≡◌, ℕ, ◌<◌, ◌≤◌, Bool, true, false, not, ◌&&◌, [], ◌∷◌, length, Option, Some, None, Err, refl, ap, sym, ◌∙◌}
use Rattle.std.specs.Prelude.{◌==◌, is_none, find, nat_le, option_map}
use Rattle.std.specs.Option.{option_map_or, option_eq}
use Rattle.std.proofs.lemmas.Bool.{lt-ltb, le-ltb}
use Rattle.arrayvec.specs.ArrayVec.{ArrayVec}
use Rattle.model_core.specs.Blocks.{Block, block}
use Rattle.model_core.specs.declared.limits.TheConstants.{MAX_BYTES}
use Rattle.words_core.specs.declared.event.Event.TheVariants as On
use Rattle.words_core.specs.declared.event.AdminCommand.TheVariants as Do
use Rattle.words_core.specs.declared.event.Command.TheVariants as Command
use Rattle.words_core.specs.declared.reply.Body.TheVariants as Say
use Rattle.words_core.specs.declared.reply.Refusal.{Refusal}
use Rattle.promise_core.specs.declared.promise.Promise.{Promise}
use Rattle.promise_core.specs.Bytes.{Holder, holder_of, may_all_be}
use Rattle.promise_core.specs.Holdings.{KnownCache, known_cache, can_be_taken, can_stand, has_slot, is_slot_busy}
use Rattle.promise_core.specs.Promises.{due, first_due}
use Rattle.promise_core.specs.State.{Known, state_after}
use Rattle.known_holdings.proofs.ComputedTests.{order_found}
use Rattle.shadow_memory.specs.Left.{left_at}
use Rattle.reply_judge.specs.Judged.{broken, known_at, tenant_verdict}
use Rattle.reply_judge.specs.Seen.{Seen, state_of}

-- An answer to an alloc

module _ (t k f : ℕ) (w : Known) (x : Seen) where
  pub too_large : x.left.order < k → tenant_verdict (On.Tenant t (Command.Alloc k)) (Say.Frame f) w x ≡ Err Promise.Refusals
  unfolding due state_after
  too_large lt = ap (λ b. broken ((Promise.Refusals, is_none (first_due ((b, Refusal.BadOrder) ∷ [])))
      ∷ (Promise.Blocks, can_stand x.left.order x.has (block f k)) ∷ [])) (lt-ltb x.left.order k lt)

  pub stands : k ≤ x.left.order → (b : Bool) → can_stand x.left.order x.has (block f k) ≡ b
      → tenant_verdict (On.Tenant t (Command.Alloc k)) (Say.Frame f) w x ≡ broken ((Promise.Blocks, b) ∷ [])
  unfolding due state_after
  stands le b is = λ i. broken ((Promise.Refusals, is_none (first_due ((le-ltb x.left.order k le i, Refusal.BadOrder) ∷ []))) ∷ (Promise.Blocks, is i) ∷ [])

-- An answer to a free

module _ (t f k : ℕ) (w : Known) (x : Seen) where
  pub freed_if : (o : Option Block) → find (λ b. b.first == f) x.has.pages ≡ o → tenant_verdict (On.Tenant t (Command.Free f)) (Say.Freed k) w x
      ≡ broken ((Promise.Refusals, not (is_none o)) ∷ (Promise.Gives, option_map_or (λ b. b.order == k) o false) ∷ [])
  unfolding due state_after
  freed_if o is = ap (λ p. broken ((Promise.Refusals, is_none (first_due ((is_none p, Refusal.NotABlock) ∷ []))) ∷ (Promise.Gives, option_eq (λ i j. i == j) p (Some k)) ∷ []))
      (order_found f x.has.pages ∙ ap (option_map (λ b. b.order)) is) ∙ go o
    where
      go : (o : Option Block) → broken ((Promise.Refusals, is_none (first_due ((is_none (option_map (λ b. b.order) o), Refusal.NotABlock) ∷ [])))
          ∷ (Promise.Gives, option_eq (λ i j. i == j) (option_map (λ b. b.order) o) (Some k)) ∷ [])
          ≡ broken ((Promise.Refusals, not (is_none o)) ∷ (Promise.Gives, option_map_or (λ b. b.order == k) o false) ∷ [])
      go None = refl
      go (Some b) = refl

-- An answer to a take

module _ (t number : ℕ) (w : Known) (x : Seen) (o : Option KnownCache) (is : known_cache x.has number ≡ o) where
  pub taken_if : (place : ℕ) → tenant_verdict (On.Tenant t (Command.Take number)) (Say.Object place) w x
      ≡ broken ((Promise.Refusals, is_none (first_due ((is_none o, Refusal.NoCache) ∷ [])))
      ∷ (Promise.Objects, option_map_or (λ c. can_be_taken x.left.order x.has c place) o false) ∷ [])
  unfolding due state_after
  taken_if place = ap (λ p. broken ((Promise.Refusals, is_none (first_due ((is_none p, Refusal.NoCache) ∷ [])))
      ∷ (Promise.Objects, option_map_or (λ c. can_be_taken x.left.order x.has c place) p false) ∷ [])) is

-- Answers to a read and to a write

module _ (t place len : ℕ) (bytes : ArrayVec ℕ) (w : Known) (x : Seen) where
  pub read_if : (o : Option Holder) → holder_of x.has place len ≡ o → tenant_verdict (On.Tenant t (Command.Read place len)) (Say.Bytes bytes) w x
      ≡ broken ((Promise.Refusals, is_none (first_due ((not (nat_le 1 len && nat_le len MAX_BYTES), Refusal.BadLength) ∷ (is_none o, Refusal.OutOfReach) ∷ [])))
      ∷ (Promise.Bytes, length bytes.items == len && option_map_or (λ h. may_all_be x.has (left_at x.left) h place bytes.items) o false) ∷ [])
  unfolding due state_after
  read_if o is = ap (λ p. broken ((Promise.Refusals, is_none (first_due ((not (nat_le 1 len && nat_le len MAX_BYTES), Refusal.BadLength) ∷ (is_none p, Refusal.OutOfReach) ∷ [])))
      ∷ (Promise.Bytes, length bytes.items == len && option_map_or (λ h. may_all_be x.has (left_at x.left) h place bytes.items) p false) ∷ [])) is

  pub written_if : (o : Option Holder) → holder_of x.has place (length bytes.items) ≡ o → tenant_verdict (On.Tenant t (Command.Write place bytes)) (Say.Written len) w x
      ≡ broken ((Promise.Refusals, is_none (first_due ((is_none o, Refusal.OutOfReach) ∷ []))) ∷ (Promise.Bytes, length bytes.items == len) ∷ [])
  unfolding due state_after
  written_if o is = ap (λ p. broken ((Promise.Refusals, is_none (first_due ((is_none p, Refusal.OutOfReach) ∷ []))) ∷ (Promise.Bytes, length bytes.items == len) ∷ [])) is

-- if a range has no holder, an answer with bytes breaks the promise `Refusals`
pub unread : (b is_right : Bool) → broken ((Promise.Refusals, is_none (first_due ((not b, Refusal.BadLength) ∷ (true, Refusal.OutOfReach) ∷ []))) ∷ (Promise.Bytes, is_right) ∷ []) ≡ Err Promise.Refusals
unread true is_right = refl
unread false is_right = refl

-- The refusal that is due in reply to a take-back

module _ (t slot : ℕ) (w : Known) (x : Seen) (b : Bool) (is : has_slot x.has slot ≡ b) where
  pub due_of_slot : first_due ((not b, Refusal.NoSlot) ∷ (is_slot_busy x.left.order x.has slot, Refusal.SlotBusy) ∷ [])
      ≡ due (On.Admin (Do.TakeBack t slot)) (known_at x w) (state_of x)
  unfolding due
  due_of_slot = ap (λ c. first_due ((not c, Refusal.NoSlot) ∷ (is_slot_busy x.left.order x.has slot, Refusal.SlotBusy) ∷ [])) (sym is)
