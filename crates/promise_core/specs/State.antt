-- What is known after the events and replies so far, and how one more exchange changes it.
use Rattle.std.specs.Prelude.{ℕ, Bool, false, not, List, [], map, filter, length, Option, Some, None, slice_set, replicate, nat_lt, ◌&&◌, ◌||◌, ◌==◌}
use Rattle.std.specs.List.{list_any}
use Rattle.std.specs.Option.{option_map_or}
use Rattle.model_core.specs.declared.owner.Owner.{Owner}
use Rattle.words_core.specs.declared.event.AdminCommand.{AdminCommand}
use Rattle.words_core.specs.declared.reply.Body.{Body}
use Rattle.words_core.specs.declared.event.Command.{Command}
use Rattle.words_core.specs.declared.event.Event.{Event}
use Rattle.words_core.specs.declared.report.Report.{Report}
use Rattle.world_core.specs.World.{given_up}
use Rattle.model_core.specs.Blocks.{block}
use Rattle.model_core.specs.Machine.{in_block, slot_of, put_rising}
use Rattle.model_core.specs.Owners.{owned_by, is_of, is_owner}
use Rattle.promise_core.specs.Holdings.{KnownCache, Holdings, known_cache, with_live_places, slab_around, are_apart}
use Rattle.promise_core.specs.Bytes.{Holder, is_object, is_same, Cells, with_bytes, doubted, without, holder_of}

-- What is known of a tenant. A cache whose number passes `may_have_empty` may have a slab without live objects. `last_report` is the
-- last report, or None if it is no longer valid.
pub record State : Type 0 where
  pub has : Holdings
  pub cells : Cells
  pub may_have_empty : ℕ → Bool
  pub last_report : Option Report

unfoldable pub opening_state : State
opening_state =
    record { has = record { slots = []; pages = []; caches = [] }; cells = λ place. None; may_have_empty = λ n. false; last_report = None }

-- the owner of each superblock (a tenant and one of its slots, or None), and the state of each tenant; a tenant may have at most
-- `limit` caches, and slots have 2 ^ order frames
pub record Known : Type 0 where
  pub limit : ℕ
  pub order : ℕ
  pub owners : List (Option Owner)
  pub states : List State

unfoldable pub opening : ℕ → ℕ → ℕ → ℕ → Known
opening limit order superblocks tenants =
    record { limit = limit; order = order; owners = replicate superblocks None; states = replicate tenants opening_state }

-- the cache exists and has a live object
abbrev pub is_in_use : Option KnownCache → Bool
is_in_use cache = option_map_or (λ c. nat_lt 0 (length c.live)) cache false

abbrev pub with_range : ℕ → List ℕ → State → Option Holder → State
with_range place bytes s holder = record s { cells = option_map_or (λ x. with_bytes x place bytes s.cells) holder s.cells }

-- The cells after an object of this cache is taken at place `first`. In the object's slab, a byte is still known only if its
-- holder is this object, or an object of this cache that shares no byte with it.
abbrev pub with_object : ℕ → Option KnownCache → Cells → Cells
with_object first cache cells = option_map_or (λ c. without (λ place holder. in_block place (slab_around c first)
    && not (is_object (λ n p. n == c.number && (p == first || are_apart c first p)) holder)) cells) cache cells

-- the object is in no slab that has a live object of its cache
abbrev pub is_in_no_slab : Holdings → ℕ → ℕ → Bool
is_in_no_slab h n p = not (list_any (λ c. c.number == n && list_any (λ q. in_block p (slab_around c q)) c.live) h.caches)

-- the state after a reply to an event: unchanged after a refusal, None if the body is not an answer to the event; slots have
-- 2 ^ order frames
unfoldable pub state_after : ℕ → Event → Body → State → Option State
state_after order event (Body.Refused refusal) s = Some s
state_after order (Event.Tenant t (Command.Alloc k)) (Body.Frame f) s = let b = block f k in
    let cells = without (λ place holder. in_block place b && not (is_same Holder.Page holder)) s.cells in
    Some (record s { has = record s.has { pages = put_rising (λ x. x.first) b s.has.pages }; cells = cells; last_report = None })
state_after order (Event.Tenant t (Command.Free f)) (Body.Freed k) s =
    let cells = doubted (λ place holder. in_block place (block f k) && is_same Holder.Page holder) s.cells in
    Some (record s { has = record s.has { pages = filter (λ x. not (x.first == f)) s.has.pages }; cells = cells; last_report = None })
state_after order (Event.Tenant t (Command.Read place len)) (Body.Bytes bytes) s =
    Some (with_range place bytes.items s (holder_of s.has place len))
state_after order (Event.Tenant t (Command.Write place bytes)) (Body.Written n) s =
    Some (with_range place bytes.items s (holder_of s.has place n))
state_after order (Event.Tenant t (Command.Cache size align pattern)) (Body.Cache number chunk q n colours) s =
    let c : KnownCache = record {
      number = number;
      size = size;
      align = align;
      pattern = pattern.items;
      chunk = chunk;
      order = q;
      count = n;
      live = [];
    } in
    Some (record s { has = record s.has { caches = put_rising (λ x. x.number) c s.has.caches }; last_report = None })
state_after order (Event.Tenant t (Command.Destroy number)) (Body.Destroyed frames) s =
    let caches = filter (λ c. not (c.number == number)) s.has.caches in
    let cells = without (λ place. is_object (λ n p. n == number)) s.cells in
    Some (record { has = record s.has { caches = caches }; cells = cells; may_have_empty = λ n. not (n == number) && s.may_have_empty n; last_report = None })
state_after order (Event.Tenant t (Command.Take number)) (Body.Object place) s =
    let has = with_live_places number (put_rising (λ p. p) place) s.has in
    let cells = with_object place (known_cache s.has number) s.cells in
    Some (record { has = has; cells = cells; may_have_empty = λ n. n == number || s.may_have_empty n; last_report = None })
state_after order (Event.Tenant t (Command.Give number place)) Body.Given s =
    let has = with_live_places number (filter (λ p. not (p == place))) s.has in
    Some (record s { has = has; cells = doubted (λ p. is_same (Holder.Object number place)) s.cells; last_report = None })
state_after order (Event.Tenant t Command.Reap) (Body.Reaped frames) s =
    let cells = without (λ place. is_object (is_in_no_slab s.has)) s.cells in
    Some (record s { cells = cells; may_have_empty = λ n. is_in_use (known_cache s.has n); last_report = None })
state_after order (Event.Tenant t Command.Report) (Body.Report r) s = Some (record s { last_report = Some r })
state_after order (Event.Admin (AdminCommand.Grant t)) (Body.Granted named u superblock) s =
    Some (record s { has = record s.has { slots = put_rising (λ v. v) u s.has.slots }; last_report = None })
state_after order (Event.Admin (AdminCommand.TakeBack t u)) (Body.TakenBack superblock) s =
    let cells = without (λ place holder. slot_of order place == u) s.cells in
    Some (record s { has = record s.has { slots = filter (λ v. not (v == u)) s.has.slots }; cells = cells; last_report = None })
state_after order (Event.Admin (AdminCommand.Reset t)) (Body.WasReset named superblocks) s = Some opening_state
state_after order (Event.Admin (AdminCommand.Move t u)) (Body.Moved named slot superblock) s = Some s
state_after order (Event.Admin AdminCommand.Pool) (Body.Owners owners) s = Some s
state_after order event body s = None

-- the owners after a reply to an event; only these four answers change them
unfoldable pub owners_after : Event → Body → List (Option Owner) → List (Option Owner)
owners_after (Event.Admin (AdminCommand.Grant t)) (Body.Granted named u superblock) owners = slice_set owners superblock (Some (owned_by t u))
owners_after (Event.Admin (AdminCommand.TakeBack t u)) (Body.TakenBack superblock) owners = map (given_up (is_owner t u)) owners
owners_after (Event.Admin (AdminCommand.Reset t)) (Body.WasReset named superblocks) owners = map (given_up (is_of t)) owners
owners_after (Event.Admin (AdminCommand.Move t u)) (Body.Moved named slot superblock) owners =
    slice_set (map (given_up (is_owner t u)) owners) superblock (Some (owned_by t u))
owners_after event body owners = owners
