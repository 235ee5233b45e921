-- A live object has the size of its cache's objects, and its bytes are a range of the tenant's bytes.
use Rattle.std.proofs.Common.{◌≡◌, ℕ, sym, ap, ◌∙◌, arith}
use Rattle.model_core.specs.Machine.{Cache, Machine}
use Rattle.space_core.specs.Content as spaces
use Rattle.buddy_core.specs.Content as buddies
use Rattle.slab_tables.specs.Content.{Content}
use Rattle.machine_changes.specs.Shows.{ShowsMachine}
use Rattle.machine_changes.specs.Steady.{IsSteady}
use Rattle.machine_changes.specs.Changes.{Found}
use Rattle.machine_changes.specs.Objects.{IsLiveObject, HasRange}
use Rattle.machine_changes.proofs.SlabFacts.{cache_shown}
use Rattle.machine_changes.proofs.LiveObjects.{found_gives}
use Rattle.slab_core.specs.Lending.{HasObject}

module _ (r : spaces.Content) (b : buddies.Content) (s : Content) (t c place bytes : ℕ) (o : Found) where
  pub has_object : (m : Machine) → IsSteady r b s t → ShowsMachine r b s t m → IsLiveObject r s t c place o → bytes ≡ o.cache.layout.size → HasObject m c place bytes
  has_object m st h is size =
      let there = cache_shown r b s t m h c o.cache is.slab.cached in
      record {
        cache = there.shown;
        cached = there.cached;
        size = ap (λ (x : Cache). x.size) there.same ∙ sym size;
        given = ap (λ z. z.answer) (found_gives r b s t c place o m st h is).step;
      }

  pub has_range : IsSteady r b s t → IsLiveObject r s t c place o → bytes ≡ o.cache.layout.size → (x : Found) × HasRange r s t place bytes x
  has_range st is size =
      let sized = (st.stands c o.first o.machine_frame o.cache is.slab).layout.sized in (
        o,
        record {
          number = c;
          begin = place;
          object = is;
          some = omega (arith, sized, size);
          from = omega arith;
          to = omega (arith, size);
        },
      )
