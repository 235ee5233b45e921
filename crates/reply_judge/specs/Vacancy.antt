-- What is left for a request, so that it may not be refused for lack of frames.
use Rattle.std.specs.Prelude.{ℕ, not, List, [], ◌∷◌, find, option_map, Option, Some, None}
use Rattle.std.specs.Option.{option_map_or, option_or}
use Rattle.model_core.specs.Blocks.{Block}
use Rattle.promise_core.specs.Holdings.{KnownCache, Holdings, blocks_of_slot, is_slab_full, is_vacant, known_cache}
use Rattle.reply_judge.specs.declared.vacancy.Vacancy.{Vacancy}

-- the first aligned block of order k in these slots that has no taken frame; slots have 2 ^ order frames
abbrev pub vacant_in : ℕ → Holdings → ℕ → List ℕ → Option Block
vacant_in order h k [] = None
vacant_in order h k (u ∷ us) = option_or (find (is_vacant h) (blocks_of_slot order k u)) (vacant_in order h k us)

-- a vacant block for a block of order k
unfoldable pub left_for_block : ℕ → Holdings → ℕ → Option Vacancy
left_for_block order h k = option_map (λ b. Vacancy.Block b) (vacant_in order h k h.slots)

-- the first live object of the cache whose slab is not full, or else a vacant block for a new slab
unfoldable pub left_for_cache : ℕ → Holdings → KnownCache → Option Vacancy
left_for_cache order h c = option_map_or (λ p. Some (Vacancy.Slab p)) (find (λ p. not (is_slab_full c p)) c.live) (left_for_block order h c.order)

-- what is left for an object of the cache with this number
abbrev pub left_for_object : ℕ → Holdings → ℕ → Option Vacancy
left_for_object order h number = option_map_or (λ c. left_for_cache order h c) (known_cache h number) None
