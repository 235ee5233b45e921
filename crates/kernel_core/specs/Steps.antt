-- What an event does to a kernel, and what a tenant's command does to the tenant's part of the kernel.
use Rattle.std.specs.Prelude.{◌≡◌, ℕ, ◌≤◌, true, false, Result, Ok, Err}
use Rattle.model_core.specs.declared.limits.TheConstants.{MAX_SUPERBLOCKS}
use Rattle.words_core.specs.declared.event.AdminCommand.{AdminCommand}
use Rattle.words_core.specs.declared.reply.Addressee.{Addressee}
use Rattle.words_core.specs.declared.answer.Answer.{Answer}
use Rattle.words_core.specs.declared.reply.Body.{Body}
use Rattle.words_core.specs.declared.event.Command.{Command}
use Rattle.words_core.specs.declared.event.Event.{Event}
use Rattle.words_core.specs.declared.reply.Refusal.{Refusal}
use Rattle.words_core.specs.declared.reply.Reply.{Reply}
use Rattle.world_core.specs.Limits.{cache_limit}
use Rattle.world_core.specs.PrivateStep.{command_step}
use Rattle.world_core.specs.World.{World, world_step}
use Rattle.world_core.specs.OwnList.{is_refused}
use Rattle.world_core.specs.Locks.{is_named}
use Rattle.words_core.specs.Requests.{AsksPattern, body_of_answer}
use Rattle.space_core.specs.Laws.{SpareStays}
use Rattle.kernel_core.specs.Content.{KernelContent, SameSizes, MarksFollow, Keeps}
use Rattle.kernel_core.specs.Does.{Does}
use Rattle.kernel_core.specs.Shows.{Shows}

-- if the event requests a new cache, the pattern has 1 to 16 bytes
abbrev pub HasPattern : Event → Type 0
HasPattern (Event.Tenant t command) = AsksPattern command
HasPattern (Event.Admin command) = Unit {0}

-- if the event requests the table of owners, the machine has no more superblocks than a reply can list
abbrev pub FitsReply : KernelContent → Event → Type 0
FitsReply k (Event.Admin AdminCommand.Pool) = k.superblocks ≤ MAX_SUPERBLOCKS
FitsReply k (Event.Admin (AdminCommand.Grant t)) = Unit {0}
FitsReply k (Event.Admin (AdminCommand.TakeBack t slot)) = Unit {0}
FitsReply k (Event.Admin (AdminCommand.Reset t)) = Unit {0}
FitsReply k (Event.Admin (AdminCommand.Move t slot)) = Unit {0}
FitsReply k (Event.Tenant t command) = Unit {0}

-- The event, with this reply, is the step of every world that the parts show. If the event is refused, nothing changes. A tenant
-- that the event does not name keeps everything.
pub record Steps (old : KernelContent) (event : Event) (new : KernelContent) (reply : Reply) : Type 0 where
  pub sizes : SameSizes old new
  pub shows : (w : World) → Shows old w → Shows new (world_step cache_limit old.order event w).world
  pub answer : (w : World) → Shows old w → reply ≡ (world_step cache_limit old.order event w).reply
  pub refused : is_refused reply.body ≡ true → new ≡ old
  pub others : (t : ℕ) → is_named t event ≡ false → Keeps old new t
  pub marks : MarksFollow old.space new.space
  pub spare : SpareStays old.space new.space

-- The command, with this body of its reply, is the step of every machine that the parts show for tenant t. If the command is
-- refused, nothing changes.
pub record StepsMachine (old : KernelContent) (t : ℕ) (command : Command) (new : KernelContent) (body : Body) : Type 0 where
  pub does : Does old t (command_step cache_limit old.order command) old.space.owners new body
  pub refused : is_refused body ≡ true → new ≡ old

-- the body of the reply to a command: what the command returned, or the refusal
abbrev pub body_of : {A : Type 0} → (A → Body) → Result A Refusal → Body
body_of said (Ok given) = said given
body_of said (Err refusal) = Body.Refused refusal

-- the reply to the administrator: what the administrator's command returned, or the refusal
abbrev pub to_admin : Result Answer Refusal → Reply
to_admin result = record { addressee = Addressee.Admin; body = body_of body_of_answer result }
