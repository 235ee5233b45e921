-- Calls that free by place: each gives the live object, or frees the live page block, that begins at a place.
use Rattle.std.specs.Prelude.{◌≡◌, ℕ, ◌/◌, ◌==◌, ◌&&◌, false, if◌then◌else◌, List, slice_index_or, Option, Some, None, Result, Ok, Err, MatchOption}
use Rattle.model_core.specs.declared.limits.TheConstants.{FRAME_BYTES}
use Rattle.model_core.specs.Machine.{Machine}
use Rattle.model_core.specs.Reach.{in_reach}
use Rattle.words_core.specs.declared.reply.Body.{Body}
use Rattle.words_core.specs.declared.event.Command.{Command}
use Rattle.words_core.specs.declared.event.Event.{Event}
use Rattle.words_core.specs.declared.reply.Refusal.{Refusal}
use Rattle.world_core.specs.OwnList.{is_refused}
use Rattle.kernel_core.specs.Content.{KernelContent}
use Rattle.kernel_core.specs.Shows.{ShowsMachine}
use Rattle.kernel_core.specs.Steps.{Steps, StepsMachine}
use Rattle.kernel_core.specs.Lending.{IsNotLent, reply_for}
use Rattle.kernel_core.specs.Lookups.{HolderOf, Outcome, FoundHolder, AnswersLookup}
use Rattle.kernel_core.specs.Holders.{IsHolder, holder_at}
use Rattle.kernel_core.specs.declared.holders.Holder.{Holder}

-- The command that frees a live page block or a live object, or the refusal. The block or the object has to begin at the place. An
-- object also has to have the size in `sizes` at the number of its cache, so no object of a cache whose size there is 0 is freed.
abbrev pub freeing : List ℕ → ℕ → Option ℕ → ℕ → ℕ → Result Command Refusal
freeing sizes place None begin bytes =
    if begin == place then Ok (Command.Free (place / FRAME_BYTES)) else Err Refusal.NotABlock
freeing sizes place (Some c) begin bytes =
    if begin == place && slice_index_or sizes c 0 == bytes then Ok (Command.Give c place) else Err Refusal.NotAnObject

abbrev pub freeing_holder : List ℕ → ℕ → Option Holder → Result Command Refusal
freeing_holder sizes place None = Err Refusal.OutOfReach
freeing_holder sizes place (Some holder) = freeing sizes place holder.cache holder.place holder.bytes

-- the command that frees the live page block or live object of the machine that has the byte at the place, or the refusal
abbrev pub freeing_in : List ℕ → ℕ → Machine → Result Command Refusal
freeing_in sizes place m = freeing_holder sizes place (holder_at m place)

-- The call frees this holder, which has the byte at the place in each machine that the kernel shows for tenant t. The call is the
-- step of the command that frees the holder, and the command is not refused.
pub record FreesOf (old : KernelContent) (t place : ℕ) (sizes : List ℕ) (new : KernelContent) (holder : Holder) : Type 0 where
  pub command : Command
  pub body : Body
  pub steps : StepsMachine old t command new body
  pub done : is_refused body ≡ false
  pub holds : (m : Machine) → ShowsMachine old t m → IsHolder m place holder
  pub frees : freeing sizes place holder.cache holder.place holder.bytes ≡ Ok command

-- The call changes nothing, and its refusal is that of each machine that the kernel shows for tenant t. The call looked up the
-- holder of the byte at the place.
pub record RefusesOf (old : KernelContent) (t place : ℕ) (sizes : List ℕ) (new : KernelContent) (refusal : Refusal) : Type 0 where
  pub kept : new ≡ old
  pub why : (m : Machine) → ShowsMachine old t m → freeing_in sizes place m ≡ Err refusal
  pub holder : Option Holder
  pub holds : (m : Machine) → ShowsMachine old t m → MatchOption holder (in_reach m place 1 ≡ false) (IsHolder m place)

abbrev pub ReleasesOf : KernelContent → ℕ → ℕ → List ℕ → KernelContent → Result Holder Refusal → Type 0
ReleasesOf old t place sizes new (Ok holder) = FreesOf old t place sizes new holder
ReleasesOf old t place sizes new (Err refusal) = RefusesOf old t place sizes new refusal

-- The tenant's live page block or live object is freed: a lookup of its place finds it in the kernel before the call. The call is
-- the step of the event by which the tenant frees it. The reply to the event is not a refusal.
pub record Frees (old : KernelContent) (tenant place : ℕ) (sizes : List ℕ) (new : KernelContent) (holder : Holder) : Type 0 where
  pub found : AnswersLookup old tenant (HolderOf place) (FoundHolder holder)
  pub command : Command
  pub frees : freeing sizes place holder.cache holder.place holder.bytes ≡ Ok command
  pub body : Body
  pub steps : Steps old (Event.Tenant tenant command) new (reply_for old tenant body)
  pub done : is_refused body ≡ false

-- Nothing changes, and the call is a lookup of the place. If there is no such tenant, the refusal is `NoTenant`. Otherwise the
-- refusal is that of the tenant's private machine.
pub record RefusesRelease (old : KernelContent) (tenant place : ℕ) (sizes : List ℕ) (new : KernelContent) (refusal : Refusal) : Type 0 where
  pub kept : new ≡ old
  pub found : (outcome : Outcome) × AnswersLookup old tenant (HolderOf place) outcome
  pub why : IsNotLent old tenant (λ it. (m : Machine) → ShowsMachine old tenant m → freeing_in sizes place m ≡ Err it) refusal

abbrev pub Releases : KernelContent → ℕ → ℕ → List ℕ → KernelContent → Result Holder Refusal → Type 0
Releases old tenant place sizes new (Ok holder) = Frees old tenant place sizes new holder
Releases old tenant place sizes new (Err refusal) = RefusesRelease old tenant place sizes new refusal
