-- What the promises see of a private machine, and what it means to keep them.
use Rattle.std.specs.Prelude.{◌≡◌, ℕ, ◌+◌, ◌<◌, ◌==◌, ◌&&◌, Bool, true, false, List, map, Option, Some, Contains}
use Rattle.std.specs.List.{list_any, list_all}
use Rattle.model_core.specs.declared.owner.Owner.{Owner}
use Rattle.words_core.specs.declared.reply.Addressee.{Addressee}
use Rattle.words_core.specs.declared.reply.Body.{Body}
use Rattle.words_core.specs.declared.event.Command.{Command}
use Rattle.words_core.specs.declared.event.Event.{Event}
use Rattle.words_core.specs.declared.report.Report.{Report}
use Rattle.world_core.specs.PrivateStep.{command_step}
use Rattle.model_core.specs.Layouts.{pattern_byte}
use Rattle.model_core.specs.Machine.{Slab, Cache, Machine, layout, in_block}
use Rattle.model_core.specs.Slabs.{live_objects}
use Rattle.model_core.specs.WellFormed.{in_slab}
use Rattle.model_core.specs.Reports.{rows_of_caches, order_rows}
use Rattle.model_core.specs.Laws.{Object, IsObject, place_of}
use Rattle.promise_core.specs.Holdings.{KnownCache, Holdings}
use Rattle.promise_core.specs.Bytes.{Holder, Cell, may_be}
use Rattle.promise_core.specs.State.{State, state_after}
use Rattle.promise_core.specs.Promises.{kept}

abbrev pub cache_as_known : Cache → KnownCache
cache_as_known c = record {
  number = c.number;
  size = c.size;
  align = c.align;
  pattern = c.pattern;
  chunk = (layout c).chunk;
  order = (layout c).order;
  count = (layout c).count;
  live = map (λ o. o.place) (live_objects c);
}

-- the holdings of the tenant of this machine; they show no empty slabs and no colours
unfoldable pub holdings_of : Machine → Holdings
holdings_of m = record { slots = m.slots; pages = m.blocks; caches = map cache_as_known m.caches }

-- the holder is live: if it is a page block, a live page block contains the place; if it is an object, this object is live
abbrev pub is_object_live : Holdings → Holder → ℕ → Bool
is_object_live h Holder.Page place = list_any (in_block place) h.pages
is_object_live h (Holder.Object number first) place = list_any (λ c. c.number == number && list_any (λ p. p == first) c.live) h.caches

-- The known state s is true of machine m. Slots have 2 ^ order frames.
pub record Meets (order : ℕ) (s : State) (m : Machine) : Type 0 where
  pub has : s.has ≡ holdings_of m
  -- if a cache has any slab, what is known allows it to have an empty one
  pub may_have_empty : (c : Cache) (slab : Slab) → Contains m.caches c → Contains c.slabs slab → s.may_have_empty c.number ≡ true
  -- a byte whose holder is not live is in doubt
  pub lives : (place : ℕ) (cell : Cell) → s.cells place ≡ Some cell → cell.sure ≡ true → is_object_live s.has cell.holder place ≡ true
  -- each byte outside slabs has a value that a page block may have there
  pub page_bytes : (place byte : ℕ) → in_slab m place ≡ false → m.bytes place ≡ Some byte → may_be Holder.Page 0 (s.cells place) byte ≡ true
  -- each byte of an object, live or not, has a value that the object may have there
  pub object_bytes : (o : Object) (j byte : ℕ) → IsObject m o → j < o.cache.size → m.bytes (place_of o + j) ≡ Some byte
      → may_be (Holder.Object o.cache.number (place_of o)) (pattern_byte o.cache.pattern j) (s.cells (place_of o + j)) byte ≡ true
  -- a valid report has the empty slabs and the free blocks of the machine
  pub empty_told : (r : Report) → s.last_report ≡ Some r → map (λ row. row.empty) r.caches.items ≡ map (λ row. row.empty) (rows_of_caches m)
  pub free_told : (r : Report) → s.last_report ≡ Some r → map (λ row. row.free) r.orders.items ≡ map (λ row. row.free) (order_rows order m (order + 1))

-- The reply `body` to a tenant's command keeps each promise, and what is known after the reply is true of the machine `after`.
pub record IsKeptBy (limit order : ℕ) (command : Command) (s : State) (body : Body) (after : Machine) : Type 0 where
  pub allowed : (t : ℕ) (owners : List (Option Owner)) (states : List State)
      → list_all (λ p. p.1) (kept (Event.Tenant t command) (record { addressee = Addressee.Tenant t; body = body })
      (record { limit = limit; order = order; owners = owners; states = states }) s) ≡ true
  pub meets : (t : ℕ) → (next : State) × (state_after order (Event.Tenant t command) body s ≡ Some next) × Meets order next after

-- The private machine's reply to the command keeps each promise, and what is then known is true of the machine after the command.
abbrev pub IsPromiseKept : ℕ → ℕ → Command → Machine → State → Type 0
IsPromiseKept limit order command m s =
    IsKeptBy limit order command s (command_step limit order command m).answer (command_step limit order command m).machine
