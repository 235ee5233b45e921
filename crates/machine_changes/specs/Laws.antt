-- Laws of caches and objects: what each change of the parts does to the private machine that the parts show.
use Rattle.std.specs.Prelude.{◌≡◌, ◌↔◌, ℕ, ◌<◌, ◌≤◌, ◌==◌, Bool, true, false, if◌then◌else◌, Some, None, Ok, is_some, map, filter, find, length}
use Rattle.model_core.specs.Blocks.{block, HasFrame, with_taken}
use Rattle.model_core.specs.Layouts.{IsLayout}
use Rattle.model_core.specs.Machine.{Slab, Cache, Machine, taken_in, choice}
use Rattle.model_core.specs.Slabs.{cache_of, slab_of, with_cache, with_slab, with_live, is_full, is_partial, is_empty, grown, reaped, slab_to_use}
use Rattle.model_core.specs.CacheOperations.{give_step}
use Rattle.model_core.specs.Operations.{refuse, with_block}
use Rattle.model_core.specs.declared.refusals.GiveRefusal.TheVariants.{NotAnObject}
use Rattle.klist_core.specs.Places.{ArePlaces}
use Rattle.klist_core.specs.Lists.{keys_of}
use Rattle.space_core.specs.Content as spaces
use Rattle.space_core.specs.Laws.{IsOneToOne}
use Rattle.buddy_core.specs.Content as buddies
use Rattle.slab_tables.specs.declared.cache.Cache as own
use Rattle.slab_tables.specs.Content.{Content, IsSlabs, kept_at, cache_at, head_of, layout_numbers}
use Rattle.machine_changes.specs.Shows.{IsSlab, ShowsMachine, Agree, live_of}
use Rattle.machine_changes.specs.Records.{count_true}
use Rattle.machine_changes.specs.Keeps.{Keeps}
use Rattle.machine_changes.specs.Steady.{IsSteady}
use Rattle.machine_changes.specs.Changes.{Found, IsMarked, IsReturned, IsGrown, returned}
use Rattle.machine_changes.specs.Objects.{IsLiveObject, IsNoObject, Standing, IsToUse, IsAllFull}
use Rattle.machine_changes.specs.Fitting.{WouldFit}

-- if a tenant keeps everything, the parts show the same machine for the tenant as before
abbrev pub KeptShowsSame : Type 0
KeptShowsSame = (r r' : spaces.Content) (b b' : buddies.Content) (s s' : Content) (t : ℕ) → Keeps r r' b b' s s' t
    → (m : Machine) → ShowsMachine r b s t m → ShowsMachine r' b' s' t m

-- after an object is marked live or free, the parts show the old machine with this object live or free
abbrev pub MarkedShows : Type 0
MarkedShows = (r r' : spaces.Content) (b : buddies.Content) (s s' : Content) (t c : ℕ) (o : Found) (v : Bool) (m : Machine) (x : Cache) (y : Slab)
    → IsMarked r r' s s' t c o v → IsSteady r b s t → IsSlab r s t c o.first o.machine_frame o.cache
    → o.index < (layout_numbers o.cache).count
    → cache_of m c ≡ Some x → slab_of x o.first ≡ Some y
    → ShowsMachine r b s t m → ShowsMachine r' b s' t (with_cache (with_slab (with_live o.index v y) x) m)

-- after the slabs that `gone` selects are freed, the parts show the old machine with these slabs freed
abbrev pub ReturnedShows : Type 0
ReturnedShows = (r r' : spaces.Content) (b b' : buddies.Content) (s s' : Content) (t : ℕ) (gone : ℕ → Bool) (m : Machine)
    → IsReturned r r' b b' s s' t gone → IsSteady r b s t → ShowsMachine r b s t m → ShowsMachine r' b' s' t (returned gone m)

-- if exactly the empty slabs are freed, the parts then show the reaped machine
abbrev pub ReapedShows : Type 0
ReapedShows = (r r' : spaces.Content) (b b' : buddies.Content) (s s' : Content) (t : ℕ) (gone : ℕ → Bool) (m : Machine)
    → IsReturned r r' b b' s s' t gone → IsSteady r b s t → ShowsMachine r b s t m
    → ((c f : ℕ) (x : Cache) (y : Slab) → cache_of m c ≡ Some x → slab_of x f ≡ Some y → gone f ≡ is_empty y)
    → ShowsMachine r' b' s' t (reaped m)

-- after cache c gets a slab of free frames at frame f, the parts show the old machine with the cache grown by this slab
abbrev pub GrownShows : Type 0
GrownShows = (r r' : spaces.Content) (b b' : buddies.Content) (s s' : Content) (t c : ℕ) (cache : own.Cache) (f n : ℕ) (m : Machine) (x : Cache)
    → IsGrown r r' b b' s s' t c cache f n → IsSteady r b s t → IsLayout cache.layout.size cache.layout.align (layout_numbers cache)
    → ((g k y : ℕ) → buddies.taken_of (buddies.holding_of t b) g ≡ Some k → HasFrame (block g k) y → HasFrame (block f (layout_numbers cache).order) y → ⊥)
    → cache_of m c ≡ Some x → ShowsMachine r b s t m → ShowsMachine r' b' s' t (grown f x m)

-- after a block is taken as a page block, the parts show the old machine with this page block added
abbrev pub ReservedShows : Type 0
ReservedShows = (r : spaces.Content) (b b' : buddies.Content) (s : Content) (t f k : ℕ) (m : Machine)
    → IsSteady r b s t → buddies.taken_of (buddies.holding_of t b) f ≡ None
    → ((g : ℕ) → buddies.taken_of (buddies.holding_of t b') g ≡ with_taken (buddies.taken_of (buddies.holding_of t b)) f k g)
    → ShowsMachine r b s t m → ShowsMachine r b' s t (with_block (block f k) m)

-- the slab that a take uses in the parts is the slab that a take finds in the machine
abbrev pub TakeUses : Type 0
TakeUses = (r : spaces.Content) (b : buddies.Content) (s : Content) (t c : ℕ) (cache : own.Cache) (o : Standing) (m : Machine) (x : Cache)
    → IsSlabs s → Agree r b s → IsSteady r b s t → ShowsMachine r b s t m → cache_of m c ≡ Some x → IsToUse r s t c cache o
    → (y : Slab) × (slab_to_use (find is_partial x.slabs) (find is_empty x.slabs) ≡ Some y) × (slab_of x o.first ≡ Some y)

-- if the cache has neither a partial nor an empty slab, a take finds no slab in the machine
abbrev pub TakeMakes : Type 0
TakeMakes = (r : spaces.Content) (b : buddies.Content) (s : Content) (t c : ℕ) (m : Machine) (x : Cache)
    → IsSlabs s → Agree r b s → IsSteady r b s t → ShowsMachine r b s t m → cache_of m c ≡ Some x → IsAllFull s t c
    → slab_to_use (find is_partial x.slabs) (find is_empty x.slabs) ≡ None

-- in the machine, a give to cache c at the place frees object `index` of the slab that begins at frame `first`
pub record GivesObject (m : Machine) (c place index first : ℕ) : Type 0 where
  pub cache : Cache
  pub slab : Slab
  pub cached : cache_of m c ≡ Some cache
  pub standing : slab_of cache first ≡ Some slab
  pub step : give_step c place m ≡ record { answer = Ok tt; machine = with_cache (with_slab (with_live index false slab) cache) m }

-- in the machine, a give at the place where a live object begins frees this object
abbrev pub FoundGives : Type 0
FoundGives = (r : spaces.Content) (b : buddies.Content) (s : Content) (t c place : ℕ) (o : Found) (m : Machine)
    → IsSteady r b s t → ShowsMachine r b s t m → IsLiveObject r s t c place o → GivesObject m c place o.index o.first

-- if no live object of the cache begins at the place, a give is refused with `NotAnObject`
abbrev pub NotFoundRefuses : Type 0
NotFoundRefuses = (r : spaces.Content) (b : buddies.Content) (s : Content) (t c place : ℕ) (cache : own.Cache) (m : Machine)
    → IsSteady r b s t → ShowsMachine r b s t m → cache_at s t c ≡ Some cache → IsNoObject r s t c place
    → give_step c place m ≡ refuse NotAnObject m

-- the tenant has the same taken blocks in the machine as in the buddy system
abbrev pub TakenMeets : Type 0
TakenMeets = (r : spaces.Content) (b : buddies.Content) (s : Content) (t : ℕ) (m : Machine)
    → IsSteady r b s t → ShowsMachine r b s t m → (f : ℕ) → taken_in m f ≡ buddies.taken_of (buddies.holding_of t b) f

-- for each slab of the tenant, the stored number of live objects is the number of the slab's objects that are live
abbrev pub AreObjectsCounted : spaces.Content → Content → ℕ → Type 0
AreObjectsCounted r s t = (c f n : ℕ) (cache : own.Cache) → IsSlab r s t c f n cache
    → (kept_at s.kept n).live ≡ count_true (live_of r t cache (kept_at s.kept n) f)

-- `WouldFit` holds for order k if and only if the reaped machine has a free block of order k or more
abbrev pub FittingMeets : Type 0
FittingMeets = (r : spaces.Content) (b : buddies.Content) (s : Content) (t k : ℕ) (m : Machine)
    → IsSteady r b s t → AreObjectsCounted r s t → ShowsMachine r b s t m → k ≤ s.top
    → WouldFit r b s t k ↔ (is_some (choice s.top (reaped m) k) ≡ true)

-- the slab is of this kind: 0 full, 1 partial, 2 empty
abbrev pub is_kind : ℕ → Slab → Bool
is_kind kind y = if kind == 0 then is_full y else (if kind == 1 then is_partial y else is_empty y)

-- the keys of a cache's list of each kind are exactly the first frames of the cache's slabs of that kind, in ascending order
abbrev pub ListsHold : Content → Type 0
ListsHold s = (r : spaces.Content) (b : buddies.Content) (t c kind : ℕ) (m : Machine) (x : Cache)
    → Agree r b s → IsSteady r b s t → ShowsMachine r b s t m → cache_of m c ≡ Some x → kind < 3
    → keys_of s.lists.places (head_of t c kind) ≡ map (λ y. y.first) (filter (is_kind kind) x.slabs)

-- `ListsHold` is true of all tables that satisfy their invariants
abbrev pub KindsHold : Type 0
KindsHold = (s : Content) → IsSlabs s → ArePlaces s.lists → ListsHold s

-- if the parts agree and have their invariants, `IsSteady` and `AreObjectsCounted` hold for each tenant
abbrev pub AgreeSteady : Type 0
AgreeSteady = (r : spaces.Content) (b : buddies.Content) (s : Content) (t : ℕ)
    → IsSlabs s → Agree r b s → t < length r.slots → IsOneToOne r → buddies.IsSized b
    → ((u : ℕ) → u < length b.tenants → buddies.IsSoundHolding b.top (buddies.holding_of u b))
    → IsSteady r b s t × AreObjectsCounted r s t
