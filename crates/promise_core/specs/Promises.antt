-- The promises. Each is a test of an event, its reply, what is known before the event, and the state of the tenant that it names.
use Rattle.std.specs.Prelude.{ℕ, ◌+◌, ◌-◌, ◌*◌, ◌%◌, ◌^◌, Bool, true, false, not, List, [], ◌∷◌, map, filter, drop, length, Option, Some, None, Result, Ok, Err, is_some, is_none, slice_get, slice_index, slice_set, unwrap_or, count_by, sum_by, nat_le, nat_lt, if◌then◌else◌, ◌&&◌, ◌||◌, ◌==◌}
use Rattle.std.specs.List.{list_any, list_all, zip, range_with_len}
use Rattle.std.specs.Option.{option_map_or, option_eq}
use Rattle.model_core.specs.declared.owner.Owner.{Owner}
use Rattle.model_core.specs.declared.report.CacheRow.{CacheRow}
use Rattle.words_core.specs.declared.reply.Addressee.{Addressee}
use Rattle.words_core.specs.declared.event.AdminCommand.{AdminCommand}
use Rattle.words_core.specs.declared.reply.Body.{Body}
use Rattle.words_core.specs.declared.event.Command.{Command}
use Rattle.words_core.specs.declared.event.Event.{Event}
use Rattle.words_core.specs.declared.reply.Refusal.{Refusal}
use Rattle.words_core.specs.declared.reply.Reply.{Reply}
use Rattle.words_core.specs.declared.report.Report.{Report}
use Rattle.model_core.specs.declared.limits.TheConstants.{MAX_BYTES, FRAME_BYTES}
use Rattle.world_core.specs.World.{Exchange}
use Rattle.model_core.specs.Blocks.{block}
use Rattle.model_core.specs.Layouts.{is_size, is_alignment}
use Rattle.model_core.specs.Machine.{order_in}
use Rattle.model_core.specs.Owners.{is_of, is_owner}
use Rattle.model_core.specs.Reports.{greatest, split_share}
use Rattle.words_core.specs.Texts.{number_of_refusal}
use Rattle.promise_core.specs.declared.promise.Promise.{Promise}
use Rattle.promise_core.specs.Holdings.{KnownCache, Holdings, has_slot, known_cache, can_stand, vacant_blocks, has_vacant_block, is_slot_busy, live_beside, is_slab_full, can_be_taken}
use Rattle.promise_core.specs.Bytes.{may_all_be, holder_of}
use Rattle.promise_core.specs.State.{State, Known, opening_state, is_in_use, state_after, owners_after}

-- this is the right addressee of a reply to the event; the `Bool` is true if the tenant that the event names exists
abbrev pub is_for : Event → Bool → Addressee → Bool
is_for (Event.Tenant t command) true (Addressee.Tenant named) = named == t
is_for (Event.Tenant t command) false Addressee.Nobody = true
is_for (Event.Admin command) exists Addressee.Admin = true
is_for event exists addressee = false

-- the reply has the right addressee, and is a refusal or an answer to this event
abbrev pub form : Event → Reply → Known → State → Bool
form event reply w s = is_for event true reply.addressee && is_some (state_after w.order event reply.body s)

-- the first refusal whose test passes
abbrev pub first_due : List (Bool × Refusal) → Option Refusal
first_due [] = None
first_due ((stands, refusal) ∷ tests) = if stands then Some refusal else first_due tests

-- the refusal that the reply has to be, if there is one
unfoldable pub due : Event → Known → State → Option Refusal
due (Event.Tenant t (Command.Alloc k)) w s = first_due ((nat_lt w.order k, Refusal.BadOrder) ∷ [])
due (Event.Tenant t (Command.Free f)) w s = first_due ((is_none (order_in s.has.pages f), Refusal.NotABlock) ∷ [])
due (Event.Tenant t (Command.Read place len)) w s = first_due ((not (nat_le 1 len && nat_le len MAX_BYTES), Refusal.BadLength)
    ∷ (is_none (holder_of s.has place len), Refusal.OutOfReach) ∷ [])
due (Event.Tenant t (Command.Write place bytes)) w s =
    first_due ((is_none (holder_of s.has place (length bytes.items)), Refusal.OutOfReach) ∷ [])
due (Event.Tenant t (Command.Cache size align pattern)) w s = first_due ((not (is_size size), Refusal.BadSize)
    ∷ (not (is_alignment align), Refusal.BadAlign) ∷ (nat_le w.limit (length s.has.caches), Refusal.NoCacheSlot) ∷ [])
due (Event.Tenant t (Command.Destroy number)) w s = let cache = known_cache s.has number in
    first_due ((is_none cache, Refusal.NoCache) ∷ (is_in_use cache, Refusal.CacheInUse) ∷ [])
due (Event.Tenant t (Command.Take number)) w s = first_due ((is_none (known_cache s.has number), Refusal.NoCache) ∷ [])
due (Event.Tenant t (Command.Give number place)) w s = let cache = known_cache s.has number in first_due ((is_none cache, Refusal.NoCache)
    ∷ (not (option_map_or (λ c. list_any (λ p. p == place) c.live) cache false), Refusal.NotAnObject) ∷ [])
due (Event.Admin (AdminCommand.Grant t)) w s = first_due ((list_all is_some w.owners, Refusal.PoolEmpty) ∷ [])
due (Event.Admin (AdminCommand.TakeBack t u)) w s =
    first_due ((not (has_slot s.has u), Refusal.NoSlot) ∷ (is_slot_busy w.order s.has u, Refusal.SlotBusy) ∷ [])
due (Event.Admin (AdminCommand.Move t u)) w s =
    first_due ((not (has_slot s.has u), Refusal.NoSlot) ∷ (list_all is_some w.owners, Refusal.PoolEmpty) ∷ [])
due (Event.Tenant t Command.Reap) w s = None
due (Event.Tenant t Command.Report) w s = None
due (Event.Admin (AdminCommand.Reset t)) w s = None
due (Event.Admin AdminCommand.Pool) w s = None

abbrev pub is_one : Refusal → Refusal → Bool
is_one a b = number_of_refusal a == number_of_refusal b

-- the refusal that the body is, if it is one
abbrev pub refusal_in : Body → Option Refusal
refusal_in (Body.Refused refusal) = Some refusal
refusal_in body = None

-- if a refusal is due, the reply is that refusal; if none is due, it is an answer, `NoFrames` or `SlotBusy`
abbrev pub refusals : Event → Body → Known → State → Bool
refusals event body w s = option_map_or
    (λ refusal. option_map_or (is_one refusal) (due event w s) (is_one refusal Refusal.NoFrames || is_one refusal Refusal.SlotBusy))
    (refusal_in body) (is_none (due event w s))

-- every slab of the cache that has live objects is full, and no block is vacant for one more slab
abbrev pub is_used_up : ℕ → Holdings → KnownCache → Bool
is_used_up order h c = list_all (is_slab_full c) c.live && not (has_vacant_block order h c.order)

-- No free block is large enough for the command: for an `alloc` no block of its order is vacant, and for a `take` its cache is used
-- up. No other command needs frames.
abbrev pub is_short : Event → Known → State → Bool
is_short (Event.Tenant t (Command.Alloc k)) w s = not (has_vacant_block w.order s.has k)
is_short (Event.Tenant t (Command.Take number)) w s = option_map_or (is_used_up w.order s.has) (known_cache s.has number) false
is_short event w s = false

-- `NoFrames` is the reply only if the command is short of frames
abbrev pub room : Event → Body → Known → State → Bool
room event body w s = option_map_or (λ refusal. not (is_one refusal Refusal.NoFrames) || is_short event w s) (refusal_in body) true

-- a take-back finds a taken frame in the slot, or some cache may have a slab without live objects
abbrev pub may_be_busy : Event → Known → State → Bool
may_be_busy (Event.Admin (AdminCommand.TakeBack t u)) w s =
    is_slot_busy w.order s.has u || list_any (λ c. s.may_have_empty c.number) s.has.caches
may_be_busy event w s = false

-- `SlotBusy` is the reply only to such a take-back
abbrev pub busy : Event → Body → Known → State → Bool
busy event body w s = option_map_or (λ refusal. not (is_one refusal Refusal.SlotBusy) || may_be_busy event w s) (refusal_in body) true

-- The empty slabs of these caches may have this number of frames: it is 0, or a multiple of the slab size of one of these caches
-- that may have an empty slab. It is at most the number of frames that are not taken.
abbrev pub can_come_back : ℕ → List KnownCache → ℕ → State → Bool
can_come_back order caches frames s = frames == 0 || (nat_le frames (length (vacant_blocks order s.has 0))
    && list_any (λ c. s.may_have_empty c.number && frames % 2 ^ c.order == 0) caches)

abbrev pub has_owner : (Option Owner → Bool) → ℕ → Known → Bool
has_owner test superblock w = option_map_or test (slice_get w.owners superblock) false

-- the total number of frames of some blocks; the list says how many of them have each order, from order 0 on
abbrev pub frames_of_counts : List ℕ → ℕ
frames_of_counts [] = 0
frames_of_counts (n ∷ ns) = n + 2 * frames_of_counts ns

-- the number of the cache's slabs that have live objects and whose first live object passes the test
abbrev pub count_slabs : (ℕ → Bool) → KnownCache → ℕ
count_slabs test c = length (filter (λ p. slice_index (live_beside c p) 0 == p && test p) c.live)

abbrev pub is_row : (ℕ → Bool) → KnownCache × CacheRow → Bool
is_row may_have_empty (c, row) = ((row.cache == c.number && row.live == length c.live) && (row.empty == 0 || may_have_empty c.number))
    && (row.full == count_slabs (is_slab_full c) c && row.partial == count_slabs (λ p. not (is_slab_full c p)) c)

-- the number of taken blocks of order k: page blocks, and slabs as the rows of a report count them
abbrev pub known_count : Holdings → List CacheRow → ℕ → ℕ
known_count h rows k = length (filter (λ b. b.order == k) h.pages)
    + sum_by (λ p. if p.0.order == k then p.1.full + p.1.partial + p.1.empty else 0) (zip h.caches rows)

-- A report has a row for each order and for each cache, and its figures agree with the state. For each order, the free blocks of
-- that order and above fit into the vacant blocks of that order.
abbrev pub agrees : Report → Known → State → Bool
agrees r w s =
    let orders = range_with_len 0 (w.order + 1) in
    let free = map (λ row. row.free) r.orders.items in
    let taken = map (λ row. row.taken) r.orders.items in
    list_all (λ has_slot. has_slot) ((length free == w.order + 1) ∷ (length r.caches.items == length s.has.caches)
    ∷ (r.frames == length s.has.slots * 2 ^ w.order) ∷ (r.live + r.free == r.frames) ∷ (r.free == frames_of_counts free)
    ∷ (r.live == frames_of_counts taken)
    ∷ option_eq (λ i j. i == j) r.top (greatest (slice_index free) (w.order + 1)) ∷ (r.split == split_share r.free r.top)
    ∷ list_all (is_row s.may_have_empty) (zip s.has.caches r.caches.items)
    ∷ list_all (λ k. slice_index taken k == known_count s.has r.caches.items k) orders
    ∷ list_all (λ k. nat_le (frames_of_counts (drop k free)) (length (vacant_blocks w.order s.has k))) orders ∷ [])

-- the number of frames that a report counts in empty slabs of the caches whose number passes the test
abbrev pub empty_frames : (ℕ → Bool) → Holdings → Report → ℕ
empty_frames test h r = sum_by (λ p. if test p.0.number then p.1.empty * 2 ^ p.0.order else 0) (zip h.caches r.caches.items)

-- What the promises from Blocks on say of a reply: a field is true if the reply keeps its promise.
pub record Tests : Type 0 where
  pub in_blocks : Bool
  pub in_objects : Bool
  pub in_layout : Bool
  pub in_gives : Bool
  pub in_owners : Bool
  pub in_bytes : Bool
  pub in_report : Bool
  pub in_still : Bool

abbrev pub passed : Tests
passed = record {
  in_blocks = true;
  in_objects = true;
  in_layout = true;
  in_gives = true;
  in_owners = true;
  in_bytes = true;
  in_report = true;
  in_still = true;
}

-- Each command has a row for its answer and a row for all other bodies, so that a new command has to be added here. Only
-- `state_after` says which body is an answer to which command, and only `form` tests this.
abbrev pub tests : Event → Body → Known → State → Tests
tests (Event.Tenant t (Command.Alloc k)) (Body.Frame f) w s = record passed { in_blocks = can_stand w.order s.has (block f k) }
tests (Event.Tenant t (Command.Free f)) (Body.Freed k) w s = record passed { in_gives = option_eq (λ i j. i == j) (order_in s.has.pages f) (Some k) }
-- Each byte that a read returns may be the byte at its place. A read returns as many bytes as it requests, and a write reports as
-- many bytes as it has.
tests (Event.Tenant t (Command.Read place len)) (Body.Bytes read) w s = record passed {
  in_bytes = length read.items == len
      && option_map_or (λ holder. may_all_be s.has s.cells holder place read.items) (holder_of s.has place len) false;
}
tests (Event.Tenant t (Command.Write place new)) (Body.Written n) w s = record passed { in_bytes = length new.items == n }
-- a new cache has an unused number, which is below the limit, and at each colour a slab's objects fit into the slab
tests (Event.Tenant t (Command.Cache size align pattern)) (Body.Cache number chunk q n colours) w s = record passed {
  in_layout =
      (nat_lt number w.limit && is_none (known_cache s.has number)) && ((nat_le size chunk && (chunk % align == 0 && nat_le q w.order))
      && ((nat_le 1 n && nat_le 1 colours) && nat_le (align * (colours - 1) + n * chunk) (FRAME_BYTES * 2 ^ q)));
}
-- While the last report is valid, a reap frees as many frames as the report counts in empty slabs, and a destroy as many as it
-- counts in empty slabs of the cache.
tests (Event.Tenant t (Command.Destroy number)) (Body.Destroyed frames) w s = record passed {
  in_gives = can_come_back w.order (filter (λ c. c.number == number) s.has.caches) frames s;
  in_still = option_map_or (λ r. frames == empty_frames (λ n. n == number) s.has r) s.last_report true;
}
tests (Event.Tenant t (Command.Take number)) (Body.Object place) w s = record passed {
  in_objects =
      option_map_or (λ c. can_be_taken w.order s.has c place) (known_cache s.has number) false;
}
tests (Event.Tenant t Command.Reap) (Body.Reaped frames) w s = record passed {
  in_gives = can_come_back w.order s.has.caches frames s;
  in_still = option_map_or (λ r. frames == empty_frames (λ n. true) s.has r) s.last_report true;
}
-- A new report counts the same free blocks and empty slabs as the last report. (Its other figures follow from the state.)
tests (Event.Tenant t Command.Report) (Body.Report r) w s = record passed {
  in_report = agrees r w s;
  in_still = option_map_or (λ q. list_all (λ p. p.0.free == p.1.free) (zip q.orders.items r.orders.items)
      && list_all (λ p. p.0.empty == p.1.empty) (zip q.caches.items r.caches.items)) s.last_report true;
}
-- A superblock that the tenant gets had no owner, and one that it loses was its own. A granted slot was not held and ends at most
-- at byte 2 ^ 32. A reset reports the number of the tenant's superblocks, and the reported table of owners is the known one.
tests (Event.Admin (AdminCommand.Grant t)) (Body.Granted named u superblock) w s = record passed {
  in_owners =
      (named == t && has_owner is_none superblock w)
      && (not (has_slot s.has u) && nat_le ((u + 1) * 2 ^ w.order * FRAME_BYTES) (2 ^ 32));
}
tests (Event.Admin (AdminCommand.TakeBack t u)) (Body.TakenBack superblock) w s =
    record passed { in_owners = has_owner (is_owner t u) superblock w }
tests (Event.Admin (AdminCommand.Reset t)) (Body.WasReset named superblocks) w s =
    record passed { in_owners = named == t && superblocks == count_by (is_of t) w.owners }
tests (Event.Admin (AdminCommand.Move t u)) (Body.Moved named slot superblock) w s =
    record passed { in_owners = (named == t && slot == u) && has_owner is_none superblock w }
tests (Event.Admin AdminCommand.Pool) (Body.Owners table) w s = record passed {
  in_owners = length table.items == length w.owners
      && list_all (λ p. option_eq (λ x y. x.tenant == y.tenant && x.slot == y.slot) p.0 p.1) (zip table.items w.owners);
}
tests (Event.Tenant t (Command.Alloc k)) body w s = passed
tests (Event.Tenant t (Command.Free f)) body w s = passed
tests (Event.Tenant t (Command.Read place len)) body w s = passed
tests (Event.Tenant t (Command.Write place new)) body w s = passed
tests (Event.Tenant t (Command.Cache size align pattern)) body w s = passed
tests (Event.Tenant t (Command.Destroy number)) body w s = passed
tests (Event.Tenant t (Command.Take number)) body w s = passed
tests (Event.Tenant t (Command.Give number place)) body w s = passed
tests (Event.Tenant t Command.Reap) body w s = passed
tests (Event.Tenant t Command.Report) body w s = passed
tests (Event.Admin (AdminCommand.Grant t)) body w s = passed
tests (Event.Admin (AdminCommand.TakeBack t u)) body w s = passed
tests (Event.Admin (AdminCommand.Reset t)) body w s = passed
tests (Event.Admin (AdminCommand.Move t u)) body w s = passed
tests (Event.Admin AdminCommand.Pool) body w s = passed

abbrev pub blocks : Event → Body → Known → State → Bool
blocks event body w s = (tests event body w s).in_blocks

abbrev pub objects : Event → Body → Known → State → Bool
objects event body w s = (tests event body w s).in_objects

abbrev pub new_layout : Event → Body → Known → State → Bool
new_layout event body w s = (tests event body w s).in_layout

abbrev pub gives : Event → Body → Known → State → Bool
gives event body w s = (tests event body w s).in_gives

abbrev pub owners : Event → Body → Known → State → Bool
owners event body w s = (tests event body w s).in_owners

abbrev pub bytes : Event → Body → Known → State → Bool
bytes event body w s = (tests event body w s).in_bytes

abbrev pub report : Event → Body → Known → State → Bool
report event body w s = (tests event body w s).in_report

abbrev pub still : Event → Body → Known → State → Bool
still event body w s = (tests event body w s).in_still

-- The step

-- the tenant that an event names, whether it exists or not
abbrev pub named : Event → Option ℕ
named (Event.Tenant t command) = Some t
named (Event.Admin (AdminCommand.Grant t)) = Some t
named (Event.Admin (AdminCommand.TakeBack t u)) = Some t
named (Event.Admin (AdminCommand.Reset t)) = Some t
named (Event.Admin (AdminCommand.Move t u)) = Some t
named (Event.Admin AdminCommand.Pool) = None

-- what is known after an event and its reply, if s is the new state of the tenant that the event names
abbrev pub known_after : Event → Body → Known → State → Known
known_after event body w s = record w {
  owners = owners_after event body w.owners;
  states = option_map_or (λ t. slice_set w.states t s) (named event) w.states;
}

-- the first promise that is not kept, as an error, or what is known after the reply
abbrev pub verdict : List (Promise × Bool) → Known → Result Known Promise
verdict [] after = Ok after
verdict ((promise, kept) ∷ rest) after = if kept then verdict rest after else Err promise

-- each promise, and whether the reply keeps it
abbrev pub kept : Event → Reply → Known → State → List (Promise × Bool)
kept event reply w s = let body = reply.body in
    (Promise.Form, form event reply w s) ∷ (Promise.Refusals, refusals event body w s) ∷ (Promise.Room, room event body w s)
    ∷ (Promise.Busy, busy event body w s) ∷ (Promise.Blocks, blocks event body w s) ∷ (Promise.Objects, objects event body w s)
    ∷ (Promise.Layout, new_layout event body w s) ∷ (Promise.Gives, gives event body w s) ∷ (Promise.Owners, owners event body w s)
    ∷ (Promise.Bytes, bytes event body w s) ∷ (Promise.Report, report event body w s) ∷ (Promise.Still, still event body w s) ∷ []

abbrev pub is_no_tenant : Body → Bool
is_no_tenant body = option_map_or (λ refusal. is_one refusal Refusal.NoTenant) (refusal_in body) false

-- The verdict on a reply. The `Option State` is the state of the named tenant. If it is None, that tenant does not exist, and the
-- reply has to be `NoTenant`.
abbrev pub judged : Event → Reply → Known → Option State → Result Known Promise
judged event reply w None =
    verdict ((Promise.Form, is_for event false reply.addressee) ∷ (Promise.Refusals, is_no_tenant reply.body) ∷ []) w
judged event reply w (Some s) =
    verdict (kept event reply w s) (known_after event reply.body w (unwrap_or (state_after w.order event reply.body s) s))

-- What is known after the event and its reply, if the reply is allowed; otherwise the first promise that the reply breaks.
unfoldable pub allowed : Event → Reply → Known → Result Known Promise
allowed event reply w = judged event reply w (option_map_or (slice_get w.states) (named event) (Some opening_state))

-- what is known after these events with their replies, or the first promise that one of them breaks
abbrev pub all_allowed : List Exchange → Result Known Promise → Result Known Promise
all_allowed exchanges (Err promise) = Err promise
all_allowed [] (Ok w) = Ok w
all_allowed (e ∷ es) (Ok w) = all_allowed es (allowed e.event e.reply w)
