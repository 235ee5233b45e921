-- Bytes that are lent in place: which bytes a call finds, and what it returns.
use Rattle.std.specs.Prelude.{◌≡◌, ◌≢◌, ℕ, ◌*◌, ◌/◌, ◌^◌, ◌<◌, ◌==◌, Bool, true, false, Option, Some, None, Result, Ok, Err, IfOk}
use denote.RawPtr.{null_ptr}
use Rattle.words_core.specs.declared.reply.Body.{Body}
use Rattle.words_core.specs.declared.event.Command.{Command}
use Rattle.words_core.specs.declared.event.Event.{Event}
use Rattle.words_core.specs.declared.reply.Refusal.{Refusal}
use Rattle.words_core.specs.declared.reply.Reply.{Reply}
use Rattle.model_core.specs.declared.limits.TheConstants.{FRAME_BYTES}
use Rattle.world_core.specs.PrivateStep.{give_body}
use Rattle.model_core.specs.Blocks.{IsTaken}
use Rattle.model_core.specs.CacheOperations.{give_step}
use Rattle.model_core.specs.Machine.{Machine, order_in}
use Rattle.model_core.specs.Reach.{in_reach}
use Rattle.machine_changes.specs.Pages.{IsInReach}
use Rattle.slab_core.specs.Lending.{HasObject}
use Rattle.kernel_core.specs.Content.{KernelContent}
use Rattle.kernel_core.specs.Shows.{ShowsMachine}
use Rattle.kernel_core.specs.Steps.{Steps, body_of}
use Rattle.kernel_core.specs.Lending.{HasBlock, IsNotLent, reply_for}
use Rattle.kernel_core.specs.Lookups.{RangeAt, PageAround, ObjectAt, Outcome, FoundHolder, FoundRange, found_or_refused, AnswersLookup}
use Rattle.partmem_c.specs.declared.kinds.TheConstants.{FRAME, OBJECT}
use Rattle.partmem_c.specs.declared.lent.Lent.{Lent}
use Rattle.partmem_c.specs.declared.telling.ReplyNumbers.{ReplyNumbers}

abbrev pub no_lent : Lent
no_lent = record { at = null_ptr; place = 0; bytes = 0; tenant = 0 }

-- `lent` has this tenant, this place and this number of bytes, and its address is not null
pub record IsLentAt (t place bytes : ℕ) (lent : Lent) : Type 0 where
  pub owned : lent.tenant ≡ t
  pub begins : lent.place ≡ place
  pub counted : lent.bytes ≡ bytes
  pub somewhere : lent.at ≢ null_ptr

-- Lookups of bytes to lend. Each has an outcome that is lent bytes of the tenant or a refusal. The place and the number of the
-- bytes are those that the tenant's private machine gives.

abbrev pub lent_range : Lent → Outcome
lent_range lent = FoundRange lent.place lent.bytes

abbrev pub lent_page : Lent → Outcome
lent_page lent = FoundHolder (record { cache = None; place = lent.place; bytes = lent.bytes })

abbrev pub lent_object : ℕ → Lent → Outcome
lent_object cache lent = FoundHolder (record { cache = Some cache; place = lent.place; bytes = lent.bytes })

-- `len` bytes from a place on, inside one live page block or one live object
abbrev pub IsRangeLent : KernelContent → ℕ → ℕ → ℕ → Result Lent Refusal → Type 0
IsRangeLent k t place len (Ok lent) = (t < k.tenants) × IsInReach k.space k.buddy k.slabs t place len × IsLentAt t place len lent
IsRangeLent k t place len (Err refusal) =
    IsNotLent k t (λ why. (why ≡ Refusal.OutOfReach) × ((m : Machine) → ShowsMachine k t m → in_reach m place len ≡ false)) refusal

abbrev pub FindsRange : KernelContent → ℕ → ℕ → ℕ → Result Lent Refusal → Type 0
FindsRange k t place len outcome = IsRangeLent k t place len outcome × AnswersLookup k t (RangeAt place len) (found_or_refused lent_range outcome)

-- the whole live page block that contains a place
abbrev pub IsWholeBlockLent : KernelContent → ℕ → ℕ → Result Lent Refusal → Type 0
IsWholeBlockLent k t place (Ok lent) = (t < k.tenants)
    × ((m : Machine) → ShowsMachine k t m → HasBlock m place lent.place lent.bytes) × IsLentAt t lent.place lent.bytes lent
IsWholeBlockLent k t place (Err refusal) =
    IsNotLent k t (λ why. (why ≡ Refusal.OutOfReach)
    × ((m : Machine) → ShowsMachine k t m → IsTaken (order_in m.blocks) (place / FRAME_BYTES) → ⊥)) refusal

abbrev pub FindsWholeBlock : KernelContent → ℕ → ℕ → Result Lent Refusal → Type 0
FindsWholeBlock k t place outcome =
    IsWholeBlockLent k t place outcome × AnswersLookup k t (PageAround place) (found_or_refused lent_page outcome)

-- the cache's live object that begins at a place
abbrev pub IsObjectLentAt : KernelContent → ℕ → ℕ → ℕ → Result Lent Refusal → Type 0
IsObjectLentAt k t cache place (Ok lent) = (t < k.tenants)
    × ((m : Machine) → ShowsMachine k t m → HasObject m cache place lent.bytes) × IsLentAt t place lent.bytes lent
IsObjectLentAt k t cache place (Err refusal) =
    IsNotLent k t (λ why. (m : Machine) → ShowsMachine k t m → give_body (give_step cache place m).answer ≡ Body.Refused why) refusal

abbrev pub FindsObject : KernelContent → ℕ → ℕ → ℕ → Result Lent Refusal → Type 0
FindsObject k t cache place outcome =
    IsObjectLentAt k t cache place outcome × AnswersLookup k t (ObjectAt cache place) (found_or_refused (lent_object cache) outcome)

-- Commands that lend what they allocate: the reply follows from the outcome.

abbrev pub alloc_reply : KernelContent → ℕ → Result Lent Refusal → Reply
alloc_reply k t outcome = reply_for k t (body_of (λ lent. Body.Frame (lent.place / FRAME_BYTES)) outcome)

-- the kernel ran an alloc of this order; unless the alloc was refused, its block is lent
pub record AllocLends (old : KernelContent) (t order : ℕ) (new : KernelContent) (outcome : Result Lent Refusal) : Type 0 where
  pub steps : Steps old (Event.Tenant t (Command.Alloc order)) new (alloc_reply old t outcome)
  pub block : IfOk outcome (λ lent. IsLentAt t (FRAME_BYTES * (lent.place / FRAME_BYTES)) (FRAME_BYTES * 2 ^ order) lent)

abbrev pub take_reply : KernelContent → ℕ → Result Lent Refusal → Reply
take_reply k t outcome = reply_for k t (body_of (λ lent. Body.Object lent.place) outcome)

-- if bytes are lent, they are a live object of the tenant's cache
abbrev pub IsObjectOf : KernelContent → ℕ → ℕ → Lent → Type 0
IsObjectOf k t cache lent = lent.at ≢ null_ptr → (m : Machine) → ShowsMachine k t m → HasObject m cache lent.place lent.bytes

-- the kernel ran a take from this cache; unless the take was refused, its object is lent
pub record TakeLends (old : KernelContent) (t cache : ℕ) (new : KernelContent) (outcome : Result Lent Refusal) : Type 0 where
  pub steps : Steps old (Event.Tenant t (Command.Take cache)) new (take_reply old t outcome)
  pub lent : IfOk outcome (λ lent. IsLentAt t lent.place lent.bytes lent)
  pub object : IfOk outcome (IsObjectOf new t cache)

-- if the condition is true, this number of bytes of the tenant from the place on are lent; otherwise nothing is lent
abbrev pub IsLentIf : Bool → ℕ → ℕ → ℕ → Lent → Type 0
IsLentIf true t place bytes lent = IsLentAt t place bytes lent
IsLentIf false t place bytes lent = lent ≡ no_lent

-- an alloc lends the tenant the block in its reply, or nothing if the reply has no block
abbrev pub IsBlockLent : (t order : ℕ) → Option ReplyNumbers → Lent → Type 0
IsBlockLent t order None lent = lent ≡ no_lent
IsBlockLent t order (Some numbers) lent =
    IsLentIf (numbers.kind == FRAME) t (FRAME_BYTES * numbers.first) (FRAME_BYTES * 2 ^ order) lent

-- a take lends the tenant the object in its reply, or nothing if the reply has no object
abbrev pub IsObjectLent : ℕ → Option ReplyNumbers → Lent → Type 0
IsObjectLent t None lent = lent ≡ no_lent
IsObjectLent t (Some numbers) lent = IsLentIf (numbers.kind == OBJECT) t numbers.first lent.bytes lent
