-- If a change keeps everything that a tenant has, the parts show the same machine for the tenant as before.
use Rattle.std.proofs.Common.{◌≡◌, ℕ, ◌/◌, ◌^◌, Some, None, refl, sym, ap, ◌∙◌, subst}
use Rattle.std.specs.Prelude.{Option, is_some}
use Rattle.space_core.specs.Content as spaces
use Rattle.buddy_core.specs.Content as buddies
use Rattle.slab_tables.specs.Content.{Content}
use Rattle.machine_changes.specs.Shows.{frame_under, machine_frame_of}
use Rattle.machine_changes.specs.Keeps.{Keeps}
use Rattle.machine_changes.specs.Laws.{KeptShowsSame}
use Rattle.machine_changes.proofs.SlabsMoved.{SameSlab, IsCarried, carried_shows}

module _ (r r' : spaces.Content) (b b' : buddies.Content) (s s' : Content) (t : ℕ) (k : Keeps r r' b b' s s' t) where
  pub machine_frame_same : (f : ℕ) → machine_frame_of s'.top r'.slots t f ≡ machine_frame_of s.top r.slots t f
  machine_frame_same f = ap (λ top. machine_frame_of top r'.slots t f) k.slabs.top ∙ ap (frame_under s.top f) (k.space.slots (f / 2 ^ s.top))

  -- each machine frame in a slot of tenant t has the same slab as before
  same_slabs : (f : ℕ) (o : Option ℕ) → ((x : ℕ) → o ≡ Some x → machine_frame_of s.top r.slots t f ≡ Some x) → SameSlab s s' o o
  same_slabs f None here = tt
  same_slabs f (Some x) here = record { place = k.slabs.lists f x (here x refl); kept = k.slabs.kept f x (here x refl) }

  carried : IsCarried r r' b b' s s' t
  carried = record {
    top = k.slabs.top;
    held = λ v. ap is_some (k.space.slots v);
    bytes = k.space.bytes;
    taken = λ f. ap (λ holding. buddies.taken_of holding f) k.buddy;
    caches = k.slabs.caches;
    machine_frames = λ f. subst (λ o. SameSlab s s' (machine_frame_of s.top r.slots t f) o) (sym (machine_frame_same f)) (same_slabs f (machine_frame_of s.top r.slots t f) (λ x e. e));
  }

pub kept_shows_same : KeptShowsSame
kept_shows_same r r' b b' s s' t k m h = carried_shows r r' b b' s s' t (carried r r' b b' s s' t k) m h
