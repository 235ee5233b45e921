-- The live object that a range of bytes lies inside.
use Rattle.std.specs.Prelude.{◌≡◌, ℕ, ◌+◌, ◌<◌, ◌≤◌}
use Rattle.space_core.specs.Content as spaces
use Rattle.slab_tables.specs.Content.{Content}
use Rattle.machine_changes.specs.Changes.{Found}
use Rattle.machine_changes.specs.Objects.{IsLiveObject}
use Rattle.slab_core.specs.declared.reaching.ObjectSpan.{ObjectSpan}

-- o is a live object of tenant t, and the range is not empty and lies inside the object
pub record IsAround (r : spaces.Content) (s : Content) (t place len : ℕ) (o : ObjectSpan) : Type 0 where
  pub object : Found
  pub live : IsLiveObject r s t o.cache o.place object
  pub size : o.bytes ≡ object.cache.layout.size
  pub some : 0 < len
  pub from : o.place ≤ place
  pub to : place + len ≤ o.place + o.bytes
