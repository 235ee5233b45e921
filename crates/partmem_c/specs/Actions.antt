-- Everything that is done with a machine of the library, in calls and between calls, as actions of its kernel.
use Rattle.std.specs.Prelude.{◌≡◌, ℕ, ◌<◌, List, [], ◌∷◌, ◌++◌, length, drop, Option, Some, None, Result, Ok, Err}
use Rattle.model_core.specs.Machine.{empty_machine}
use Rattle.words_core.specs.declared.event.Event as events
use Rattle.words_core.specs.declared.reply.Addressee.{Addressee}
use Rattle.words_core.specs.declared.reply.Body.{Body}
use Rattle.words_core.specs.declared.event.LineFault.{LineFault}
use Rattle.words_core.specs.declared.reply.Refusal.{Refusal}
use Rattle.words_core.specs.declared.reply.Reply.{Reply}
use Rattle.world_core.specs.Limits.{cache_limit}
use Rattle.words_core.specs.Grammar.{reading_of}
use Rattle.words_core.specs.Texts.{text_of}
use Rattle.kernel_core.specs.Content.{KernelContent}
use Rattle.kernel_core.specs.declared.holders.Holder.{Holder}
use Rattle.kernel_core.specs.Lookups.{BlockUse, HolderOf, RangeAt, PageAround, ObjectAt, BlockAround, Outcome, FoundHolder, FoundBlock, Refused, found_or_refused}
use Rattle.kernel_core.specs.Actions.{Action, Runs, Finds, Acts, AllAct, sights_of, own_actions, own_seen, IsBooted}
use Rattle.kernel_core.specs.Stores.{IsKernel}
use Rattle.partmem_c.specs.declared.events.RequestNumbers.{RequestNumbers}
use Rattle.partmem_c.specs.declared.telling.ReplyNumbers.{ReplyNumbers}
use Rattle.partmem_c.specs.Lines.{AnswersLine}
use Rattle.partmem_c.specs.Events.{requested_event, numbers_of_body, answered_bytes, AnswersEvent}
use Rattle.partmem_c.specs.Calls.{numbers_in_reply, call_status}
use Rattle.partmem_c.specs.declared.holders.HolderNumbers.{HolderNumbers}
use Rattle.partmem_c.specs.declared.lookups.Block.{Block}
use Rattle.partmem_c.specs.declared.lent.Lent.{Lent}
use Rattle.partmem_c.specs.Holders.{numbers_of_holder, FindsHolder}
use Rattle.partmem_c.specs.Lends.{lent_range, lent_page, lent_object, FindsRange, FindsWholeBlock, FindsObject}
use Rattle.partmem_c.specs.Finding.{number_of_use, FindsBlock}

pub data Done : Type 0 where
  -- a line was run by `partmem_line`: the line, and the text that was written
  Line : List ℕ → List ℕ → Done
  -- an event was run by `partmem_event`: its numbers and bytes, the numbers of its reply, and the buffer before and after
  Event : RequestNumbers → List ℕ → ReplyNumbers → List ℕ → List ℕ → Done
  -- A direct call ran an event: the event, the reply and the status. All other results of the call follow from the reply, except
  -- the address and the size of lent bytes.
  Call : events.Event → Reply → ℕ → Done
  -- A lookup call, with its tenant, its further arguments and its outcome. The status and the numbers that the call returns follow
  -- from the outcome. These are `partmem_find_object`, `partmem_find_block`, `partmem_lend`, `partmem_lend_block` and
  -- `partmem_lend_object`.
  FindObject : ℕ → ℕ → Result HolderNumbers Refusal → Done
  FindBlock : ℕ → ℕ → Result Block Refusal → Done
  Lend : ℕ → ℕ → ℕ → Result Lent Refusal → Done
  LendBlock : ℕ → ℕ → Result Lent Refusal → Done
  LendObject : ℕ → ℕ → ℕ → Result Lent Refusal → Done
  -- an action of the kernel without a call of the library: an event, a store, a load or a lookup
  Direct : Action → Done

-- what was done turns kernel k into k', as the contract of the function that does it says
abbrev pub Did : KernelContent → Done → KernelContent → Type 0
Did k (Line line text) k' = AnswersLine k (reading_of line) k' text × IsKernel k'
Did k (Event a bytes numbers buffer buffer') k' =
    (event : events.Event) × (requested_event a bytes ≡ Some event) × AnswersEvent k event k' numbers buffer buffer' × IsKernel k'
Did k (Call event reply status) k' = Acts k (Runs event reply) k' × (status ≡ call_status (numbers_in_reply (Some reply)))
Did k (FindObject t place outcome) k' = FindsHolder k t place outcome × (k' ≡ k)
Did k (FindBlock t place outcome) k' = FindsBlock k t place outcome × (k' ≡ k)
Did k (Lend t place len outcome) k' = FindsRange k t place len outcome × (k' ≡ k)
Did k (LendBlock t place outcome) k' = FindsWholeBlock k t place outcome × (k' ≡ k)
Did k (LendObject t cache place outcome) k' = FindsObject k t cache place outcome × (k' ≡ k)
Did k (Direct action) k' = Acts k action k'

abbrev pub AllDid : KernelContent → List Done → KernelContent → Type 0
AllDid k [] k' = k' ≡ k
AllDid k (done ∷ all) k' = (next : KernelContent) × Did k done next × AllDid next all k'

-- `actions` are the actions of a line with this reading, and `text` is what the line writes. A line with an event is one action,
-- and the text is that of the reply. A line without an event is no action, and its text goes to no tenant.
abbrev pub IsOfReading : Result (Option events.Event) LineFault → List ℕ → List Action → Type 0
IsOfReading (Ok (Some event)) text actions = (reply : Reply) × (actions ≡ Runs event reply ∷ []) × (text ≡ text_of reply)
IsOfReading (Ok None) text actions = (actions ≡ []) × (text ≡ [])
IsOfReading (Err fault) text actions = (actions ≡ []) × (text ≡ text_of (record { addressee = Addressee.Nobody; body = Body.Fault fault }))

-- what a call of `partmem_find_object` with this outcome finds
abbrev pub IsHolderFound : Result HolderNumbers Refusal → Outcome → Type 0
IsHolderFound (Ok numbers) found = (holder : Holder) × (numbers ≡ numbers_of_holder holder) × (found ≡ FoundHolder holder)
IsHolderFound (Err refusal) found = found ≡ Refused refusal

-- what a call of `partmem_find_block` with this outcome finds
abbrev pub IsBlockFound : Result Block Refusal → Outcome → Type 0
IsBlockFound (Ok block) found =
    (usage : BlockUse) × (block.usage ≡ number_of_use usage) × (found ≡ FoundBlock usage block.place block.bytes)
IsBlockFound (Err refusal) found = found ≡ Refused refusal

-- `actions` are the actions of the kernel in one thing that was done: in a line, an event, a call or an action
abbrev pub IsOf : Done → List Action → Type 0
IsOf (Line line text) actions = IsOfReading (reading_of line) text actions
IsOf (Event a bytes numbers buffer buffer') actions = (event : events.Event) × (reply : Reply)
    × (requested_event a bytes ≡ Some event) × (actions ≡ Runs event reply ∷ []) × (numbers ≡ numbers_of_body reply.body)
    × (buffer' ≡ answered_bytes reply.body ++ drop (length (answered_bytes reply.body)) buffer)
IsOf (Call event reply status) actions = (actions ≡ Runs event reply ∷ []) × (status ≡ call_status (numbers_in_reply (Some reply)))
IsOf (FindObject t place outcome) actions =
    (found : Outcome) × IsHolderFound outcome found × (actions ≡ Finds t (HolderOf place) found ∷ [])
IsOf (FindBlock t place outcome) actions =
    (found : Outcome) × IsBlockFound outcome found × (actions ≡ Finds t (BlockAround place) found ∷ [])
IsOf (Lend t place len outcome) actions = actions ≡ Finds t (RangeAt place len) (found_or_refused lent_range outcome) ∷ []
IsOf (LendBlock t place outcome) actions = actions ≡ Finds t (PageAround place) (found_or_refused lent_page outcome) ∷ []
IsOf (LendObject t cache place outcome) actions = actions ≡ Finds t (ObjectAt cache place) (found_or_refused (lent_object cache) outcome) ∷ []
IsOf (Direct action) actions = actions ≡ action ∷ []

abbrev pub AreOf : List Done → List Action → Type 0
AreOf [] actions = actions ≡ []
AreOf (done ∷ all) actions = (first rest : List Action) × IsOf done first × AreOf all rest × (actions ≡ first ++ rest)

-- Lines, events, calls, lookups, stores and loads, done with a machine from boot on in any order, are a list of actions of its
-- kernel.
-- Over these actions, a tenant sees what its private machine returns for the tenant's own list, whatever the other tenants do.
abbrev pub OwnSightsOfCalls : Type 0
OwnSightsOfCalls = (k k' : KernelContent) (superblocks tenants t : ℕ) (all : List Done) →
    IsBooted k superblocks tenants → t < tenants → AllDid k all k' →
    (actions : List Action) × AreOf all actions × AllAct k actions k'
    × (sights_of t actions ≡ (own_seen cache_limit k.order (own_actions t actions) empty_machine).sights)
