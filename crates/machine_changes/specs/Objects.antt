-- Live objects, ranges inside them, and the slab that a take uses.
use Rattle.std.specs.Prelude.{◌≡◌, ℕ, ◌+◌, ◌<◌, ◌≤◌, ◌⊎◌, true}
use Rattle.model_core.specs.Layouts.{object_place}
use Rattle.klist_core.specs.Places.{IsEmpty, IsFirst}
use Rattle.space_core.specs.Content as spaces
use Rattle.slab_tables.specs.declared.cache.Cache as own
use Rattle.slab_tables.specs.declared.kind.Kind.TheVariants.{Partial, Empty}
use Rattle.slab_tables.specs.Content.{Content, kept_at, kind_number, head_of, layout_numbers}
use Rattle.machine_changes.specs.Shows.{IsSlab, is_live}
use Rattle.machine_changes.specs.Changes.{Found}

-- o is a live object of cache c of tenant t, and begins at this place
pub record IsLiveObject (r : spaces.Content) (s : Content) (t c place : ℕ) (o : Found) : Type 0 where
  pub slab : IsSlab r s t c o.first o.machine_frame o.cache
  pub index : o.index < (layout_numbers o.cache).count
  pub live : is_live r t o.cache (kept_at s.kept o.machine_frame) o.first o.index ≡ true
  pub begins : object_place (layout_numbers o.cache) o.first (kept_at s.kept o.machine_frame).colour o.index ≡ place

-- no live object of the cache begins at the place
abbrev pub IsNoObject : spaces.Content → Content → ℕ → ℕ → ℕ → Type 0
IsNoObject r s t c place = (o : Found) → IsLiveObject r s t c place o → ⊥

-- a slab of a cache: its first frame and its machine frame
pub record Standing : Type 0 where
  pub first : ℕ
  pub machine_frame : ℕ

-- the slab of cache c that a take uses: the first partial slab, or the first empty slab if no slab is partial
pub record IsToUse (r : spaces.Content) (s : Content) (t c : ℕ) (cache : own.Cache) (o : Standing) : Type 0 where
  pub slab : IsSlab r s t c o.first o.machine_frame cache
  pub first : IsFirst s.lists.places (head_of t c (kind_number Partial)) o.first o.machine_frame
      ⊎ (IsEmpty s.lists.places (head_of t c (kind_number Partial))
      × IsFirst s.lists.places (head_of t c (kind_number Empty)) o.first o.machine_frame)

-- the cache has neither a partial nor an empty slab
abbrev pub IsAllFull : Content → ℕ → ℕ → Type 0
IsAllFull s t c = IsEmpty s.lists.places (head_of t c (kind_number Partial)) × IsEmpty s.lists.places (head_of t c (kind_number Empty))

-- the range is not empty, and lies inside the live object o of tenant t
pub record HasRange (r : spaces.Content) (s : Content) (t place len : ℕ) (o : Found) : Type 0 where
  pub number : ℕ
  pub begin : ℕ
  pub object : IsLiveObject r s t number begin o
  pub some : 0 < len
  pub from : begin ≤ place
  pub to : place + len ≤ begin + o.cache.layout.size

-- the range is empty, or lies inside no live object of tenant t
abbrev pub HasNone : spaces.Content → Content → ℕ → ℕ → ℕ → Type 0
HasNone r s t place len = (o : Found) → HasRange r s t place len o → ⊥
