-- The steps on the caches and objects of a private machine. Each step returns an answer and the machine after it. A refused step
-- leaves the machine unchanged.
use Rattle.std.specs.Prelude.{ℕ, ◌+◌, ◌^◌, true, false, not, List, [], ◌∷◌, map, find, flat_map, Option, Some, None, Result, Ok, ok_or, if◌then◌else◌, nat_le, ◌==◌}
use Rattle.std.specs.List.{list_any}
use Rattle.model_core.specs.declared.refusals.CacheRefusal.{CacheRefusal}
use Rattle.model_core.specs.declared.refusals.TakeRefusal.{TakeRefusal}
use Rattle.model_core.specs.declared.refusals.GiveRefusal.{GiveRefusal}
use Rattle.model_core.specs.declared.refusals.DestroyRefusal.{DestroyRefusal}
use Rattle.model_core.specs.Blocks.{Block}
use Rattle.model_core.specs.Layouts.{is_size, is_alignment, object_place}
use Rattle.model_core.specs.Machine.{Slab, Cache, Machine, put_rising, least_missing, layout, slab_blocks}
use Rattle.model_core.specs.Slabs.{LiveObject, live_objects, is_partial, is_empty, cache_of, with_cache, with_slab, with_live, new_slab, grown_cache, grown, slab_to_use, next_object, empty_blocks, reaped, by_need, choice_by_need, destroyed}
use Rattle.model_core.specs.Operations.{Step, refuse}

abbrev pub created : ℕ → ℕ → ℕ → List ℕ → Machine → Machine
created number size align pattern m = record m {
  caches = put_rising (λ c. c.number)
      (record { number = number; size = size; align = align; pattern = pattern; made = 0; slabs = [] }) m.caches;
}

-- the least number that no cache has
unfoldable pub next_number : Machine → ℕ
next_number m = least_missing 0 (map (λ c. c.number) m.caches)

-- Makes a cache, whose size and alignment were checked before. The answer is the cache's number, or None if all numbers below the
-- limit are used.
unfoldable pub create_step : ℕ → ℕ → ℕ → List ℕ → Machine → Step (Option ℕ)
create_step limit size align pattern m =
    if nat_le limit (next_number m) then record { answer = None; machine = m }
    else record { answer = Some (next_number m); machine = created (next_number m) size align pattern m }

abbrev pub cache_answer : Step (Option ℕ) → Step (Result ℕ CacheRefusal)
cache_answer step = record { answer = ok_or step.answer CacheRefusal.NoCacheSlot; machine = step.machine }

-- Makes a cache. Refuses a size or an alignment that is not allowed. It also refuses if all numbers below the limit are used.
unfoldable pub cache_step : ℕ → ℕ → ℕ → List ℕ → Machine → Step (Result ℕ CacheRefusal)
cache_step limit size align pattern m =
    if not (is_size size) then refuse CacheRefusal.BadSize m
    else (if not (is_alignment align) then refuse CacheRefusal.BadAlign m
    else cache_answer (create_step limit size align pattern m))

-- hands out the slab's first object that is not live
abbrev pub hand_out : Cache → Slab → Machine → Step (Result ℕ TakeRefusal)
hand_out c s m = record {
  answer = Ok (object_place (layout c) s.first s.colour (next_object s));
  machine = with_cache (with_slab (with_live (next_object s) true s) c) m;
}

-- hands out the first object of a new slab on the chosen block, or refuses if no block was chosen
abbrev pub take_new : Cache → Machine → Option ℕ → Step (Result ℕ TakeRefusal)
take_new c m None = refuse TakeRefusal.NoFrames m
take_new c m (Some first) = hand_out (grown_cache first c) (new_slab c first) (grown first c m)

abbrev pub take_from : ℕ → Cache → Machine → Option Slab → Step (Result ℕ TakeRefusal)
take_from order c m (Some s) = hand_out c s m
take_from order c m None = take_new c (by_need order (layout c).order m) (choice_by_need order (layout c).order m)

abbrev pub take_of : ℕ → Machine → Option Cache → Step (Result ℕ TakeRefusal)
take_of order m None = refuse TakeRefusal.NoCache m
take_of order m (Some c) = take_from order c m (slab_to_use (find is_partial c.slabs) (find is_empty c.slabs))

-- Takes an object of the cache with this number. The answer is the object's first place. If a new slab is needed, empty slabs are
-- freed on demand. Slots have 2 ^ order frames.
unfoldable pub take_step : ℕ → ℕ → Machine → Step (Result ℕ TakeRefusal)
take_step order number m = take_of order m (cache_of m number)

abbrev pub give_object : Cache → Machine → Option LiveObject → Step (Result (Unit {0}) GiveRefusal)
give_object c m None = refuse GiveRefusal.NotAnObject m
give_object c m (Some object) = record {
  answer = Ok tt;
  machine = with_cache (with_slab (with_live object.index false object.slab) c) m;
}

abbrev pub give_of : ℕ → Machine → Option Cache → Step (Result (Unit {0}) GiveRefusal)
give_of place m None = refuse GiveRefusal.NoCache m
give_of place m (Some c) = give_object c m (find (λ object. object.place == place) (live_objects c))

-- gives back the live object that begins at this place to the cache with this number; the bytes of the object stay
unfoldable pub give_step : ℕ → ℕ → Machine → Step (Result (Unit {0}) GiveRefusal)
give_step number place m = give_of place m (cache_of m number)

-- the number of frames of these blocks
abbrev pub frames_of : List Block → ℕ
frames_of [] = 0
frames_of (b ∷ bs) = 2 ^ b.order + frames_of bs

abbrev pub destroy_of : Machine → Option Cache → Step (Result ℕ DestroyRefusal)
destroy_of m None = refuse DestroyRefusal.NoCache m
destroy_of m (Some c) =
    if list_any (λ s. not (is_empty s)) c.slabs then refuse DestroyRefusal.CacheInUse m
    else record { answer = Ok (frames_of (slab_blocks c)); machine = destroyed c m }

-- destroys the cache with this number if it has no live object, and frees its slabs; the answer is the number of their frames
unfoldable pub destroy_step : ℕ → Machine → Step (Result ℕ DestroyRefusal)
destroy_step number m = destroy_of m (cache_of m number)

-- frees all empty slabs of all caches; the answer is the number of their frames
unfoldable pub reap_step : Machine → Step ℕ
reap_step m = record { answer = frames_of (flat_map empty_blocks m.caches); machine = reaped m }
