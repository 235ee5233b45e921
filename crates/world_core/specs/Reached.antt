-- The machines that private runs leave, and what the model's laws say about them.
use Rattle.std.specs.Prelude.{◌≡◌, ◌↔◌, ℕ, ◌+◌, ◌*◌, ◌/◌, ◌^◌, ◌<◌, ◌≤◌, true, List, [], ◌∷◌, ◌++◌, Some, Ok, slice_get}
use Rattle.std.specs.List.{flat_map}
use Rattle.words_core.specs.declared.reply.Addressee.{Addressee}
use Rattle.words_core.specs.declared.reply.Body.{Body}
use Rattle.words_core.specs.declared.event.Command.{Command}
use Rattle.words_core.specs.declared.event.Event.{Event}
use Rattle.model_core.specs.declared.limits.TheConstants.{FRAME_BYTES, RECORD_OFFSET}
use Rattle.model_core.specs.Blocks.{Block, block, HasFrame, IsTaken, IsFree, IsChoice, IsSound}
use Rattle.model_core.specs.Layouts.{is_small, pattern_byte}
use Rattle.model_core.specs.Machine.{Cache, Machine, empty_machine, holds, taken_in, layout}
use Rattle.model_core.specs.Slabs.{cache_of, by_need}
use Rattle.model_core.specs.Operations.{alloc_step, free_step}
use Rattle.model_core.specs.Runs.{Operation, ArePossible, run}
use Rattle.model_core.specs.WellFormed.{IsWellFormed}
use Rattle.model_core.specs.BlockLaws.{IsFreeOnceSplit, JoinsTo, IsFreeOnceJoined}
use Rattle.model_core.specs.Laws.{Object, IsObject, place_of, HasByte, hand_outs}
use Rattle.model_core.specs.Room.{IsAmple}
use Rattle.words_core.specs.Cutting.{lines_of_trace}
use Rattle.world_core.specs.PrivateStep.{Entry, command_step}
use Rattle.world_core.specs.World.{opening_world, world_step, world_after}
use Rattle.world_core.specs.OwnList.{own_list}
use Rattle.world_core.specs.Output.{events_of}
use Rattle.world_core.specs.Laws.{opening_history}
use Rattle.world_core.specs.PrivateRun.{private_run}

-- the model's operation for an entry, in a list; the list is empty if the entry is a read or a report
abbrev pub operations_in : Entry → List Operation
operations_in (Entry.Ask (Command.Alloc k)) = Operation.Alloc k ∷ []
operations_in (Entry.Ask (Command.Free first)) = Operation.Free first ∷ []
operations_in (Entry.Ask (Command.Read place len)) = []
operations_in (Entry.Ask (Command.Write place bytes)) = Operation.Write place bytes.items ∷ []
operations_in (Entry.Ask (Command.Cache size align pattern)) = Operation.Create size align pattern.items ∷ []
operations_in (Entry.Ask (Command.Destroy number)) = Operation.Destroy number ∷ []
operations_in (Entry.Ask (Command.Take number)) = Operation.Take number ∷ []
operations_in (Entry.Ask (Command.Give number place)) = Operation.Give number place ∷ []
operations_in (Entry.Ask Command.Reap) = Operation.Reap ∷ []
operations_in (Entry.Ask Command.Report) = []
operations_in Entry.Grant = Operation.Grant ∷ []
operations_in (Entry.TakeBack slot) = Operation.TakeBack slot ∷ []
operations_in Entry.Reset = Operation.Reset ∷ []

-- running the operations of a list of entries leaves the same machine as the private run of the entries
abbrev pub EntriesAreOperations : Type 0
EntriesAreOperations = (limit order : ℕ) (entries : List Entry) (m : Machine) →
    (private_run limit order entries m).machine ≡ run limit order (flat_map operations_in entries) m

-- the machine after the private run of these entries from the empty machine
abbrev pub reached_machine : ℕ → ℕ → List Entry → Machine
reached_machine limit order entries = (private_run limit order entries empty_machine).machine

-- Each entry is a possible request: if it makes a cache, the pattern has 1 to 16 bytes.
abbrev pub AreRequests : List Entry → Type 0
AreRequests entries = ArePossible (flat_map operations_in entries)

-- In every trace, the entries of every tenant's own list are possible requests.
abbrev pub OwnListsAreRequests : Type 0
OwnListsAreRequests = (limit order superblocks tenants t : ℕ) (trace : List ℕ) →
    AreRequests (own_list t (opening_history limit order superblocks tenants (events_of (lines_of_trace trace))))

-- The machine that a private run of possible requests leaves is well formed ..
abbrev pub ReachedWellFormed : Type 0
ReachedWellFormed = (limit order : ℕ) (entries : List Entry) → AreRequests entries
    → IsWellFormed limit order (reached_machine limit order entries)

-- .. so its taken blocks (page blocks and the blocks of slabs) are aligned, lie in held slots and share no frame.
abbrev pub ReachedSound : Type 0
ReachedSound = (limit order : ℕ) (entries : List Entry) → AreRequests entries →
    IsSound order (holds (reached_machine limit order entries)) (taken_in (reached_machine limit order entries))

-- the block is free in this machine
abbrev pub IsFreeIn : ℕ → Machine → Block → Type 0
IsFreeIn order m b = IsFree order (holds m) (taken_in m) b

-- each frame that is in a held slot and not taken lies in exactly one free block
abbrev pub ReachedFreeOnce : Type 0
ReachedFreeOnce = (limit order x : ℕ) (entries : List Entry) → let m = reached_machine limit order entries in
    holds m (x / 2 ^ order) ≡ true → (IsTaken (taken_in m) x → ⊥) →
    (b : Block) × IsFreeIn order m b × HasFrame b x × ((c : Block) → IsFreeIn order m c → HasFrame c x → c ≡ b)

-- If an `alloc` of order k returns a frame, it splits the chosen free block, which begins at this frame and has some order j.
-- Empty slabs are freed first if no block can be chosen without that.
abbrev pub ReachedSplits : Type 0
ReachedSplits = (limit order k first : ℕ) (entries : List Entry) → AreRequests entries →
    let m = reached_machine limit order entries in
    let n = by_need order k m in
    (alloc_step order k m).answer ≡ Ok first →
    (j : ℕ) × IsChoice order (holds n) (taken_in n) k (block first j) × ((b : Block) →
    (IsFreeIn order (alloc_step order k m).machine b ↔ IsFreeOnceSplit (IsFreeIn order n) first j k b))

-- If a `free` returns an order, it joins the block with its buddies as long as they are free, up to some order j.
abbrev pub ReachedJoins : Type 0
ReachedJoins = (limit order first k : ℕ) (entries : List Entry) → AreRequests entries →
    let m = reached_machine limit order entries in
    (free_step first m).answer ≡ Some k →
    (j : ℕ) × JoinsTo order (holds m) (taken_in m) first k j × ((b : Block) →
    (IsFreeIn order (free_step first m).machine b ↔ IsFreeOnceJoined (IsFreeIn order m) first k j b))

-- if two objects of the machine share a byte, they are the same object
abbrev pub ReachedApart : Type 0
ReachedApart = (limit order : ℕ) (entries : List Entry) → AreRequests entries → let m = reached_machine limit order entries in
    (a b : Object) → IsObject m a → IsObject m b → (place : ℕ) → HasByte a place → HasByte b place → a ≡ b

-- an object of a small slab lies in the slab's frame, below the control record
abbrev pub ReachedRecordsFree : Type 0
ReachedRecordsFree = (limit order : ℕ) (entries : List Entry) → AreRequests entries → let m = reached_machine limit order entries in
    (object : Object) → IsObject m object → is_small (layout object.cache).chunk ≡ true
    → (place : ℕ) → HasByte object place
    → (FRAME_BYTES * object.slab.first ≤ place) × (place < FRAME_BYTES * object.slab.first + RECORD_OFFSET)

-- An object that was not taken since its slab was made has the bytes of its cache's pattern ..
abbrev pub ReachedConstructed : Type 0
ReachedConstructed = (limit order : ℕ) (entries : List Entry) (object : Object) (j : ℕ) → AreRequests entries
    → let m = reached_machine limit order entries in IsObject m object → j < object.cache.size
    → hand_outs limit order (place_of object) (flat_map operations_in entries) empty_machine 0 ≡ 0
    → m.bytes (place_of object + j) ≡ Some (pattern_byte object.cache.pattern j)

-- .. and so does an object that a `take` has just returned for the first time since its slab was made.
abbrev pub ReachedConstructedWhenTaken : Type 0
ReachedConstructedWhenTaken = (limit order number : ℕ) (entries : List Entry) (object : Object) (j : ℕ) → AreRequests entries
    → let step = command_step limit order (Command.Take number) (reached_machine limit order entries) in
    step.answer ≡ Body.Object (place_of object) → IsObject step.machine object → j < object.cache.size
    → hand_outs limit order (place_of object) (flat_map operations_in entries ++ Operation.Take number ∷ []) empty_machine 0 ≡ 1
    → step.machine.bytes (place_of object + j) ≡ Some (pattern_byte object.cache.pattern j)

-- If the machine's slots have more aligned blocks of order k than it has taken frames outside empty slabs, it does not refuse an
-- `alloc` of order k ..
abbrev pub ReachedBlock : Type 0
ReachedBlock = (limit order k : ℕ) (entries : List Entry) → AreRequests entries → let m = reached_machine limit order entries in
    IsAmple order k m → (first : ℕ) × ((command_step limit order (Command.Alloc k) m).answer ≡ Body.Frame first)

-- .. nor a `take` from a cache whose slabs have order k.
abbrev pub ReachedObject : Type 0
ReachedObject = (limit order number : ℕ) (entries : List Entry) (c : Cache) → AreRequests entries →
    let m = reached_machine limit order entries in
    cache_of m number ≡ Some c → IsAmple order (layout c).order m
    → (place : ℕ) × ((command_step limit order (Command.Take number) m).answer ≡ Body.Object place)

-- So nobody is starved by others: after any trace, if a tenant's machine meets the condition of `ReachedBlock`, the tenant gets a
-- block of order k, whatever the others did.
abbrev pub NobodyStarves : Type 0
NobodyStarves = (limit order superblocks tenants t k : ℕ) (trace : List ℕ) (m : Machine) → t < tenants →
    let w = world_after limit order (opening_world superblocks tenants) (events_of (lines_of_trace trace)) in
    slice_get w.machines t ≡ Some m → IsAmple order k m
    → (first : ℕ) × ((world_step limit order (Event.Tenant t (Command.Alloc k)) w).reply
    ≡ record { addressee = Addressee.Tenant t; body = Body.Frame first })
