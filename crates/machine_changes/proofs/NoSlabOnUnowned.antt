-- No slab begins on a superblock without an owner. If `HoldTogether` holds, `IsSteady` holds for each tenant.
use Rattle.std.proofs.Common.{◌≡◌, ℕ, ◌+◌, ◌*◌, ◌/◌, ◌%◌, ◌^◌, ◌<◌, Some, None, length, refl, sym, ap, ◌∙◌, arith}
use Rattle.std.specs.Prelude.{Option}
use Rattle.std.proofs.lemmas.Nat.{div-mul-add}
use Rattle.model_core.specs.declared.limits.TheConstants.{MAX_CACHES}
use Rattle.klist_core.specs.Places.{place_at}
use Rattle.space_core.specs.Content as spaces
use Rattle.buddy_core.specs.Content as buddies
use Rattle.slab_tables.specs.declared.cache.Cache as own
use Rattle.slab_tables.specs.Content.{Content, cache_in}
use Rattle.machine_changes.specs.Shows.{IsAgreed}
use Rattle.machine_changes.specs.Steady.{IsSteady}
use Rattle.machine_changes.proofs.Lookups.{some_none}
use Rattle.machine_changes.proofs.SlabFacts.{superblock_of_machine_frame, under_is}
use Rattle.machine_changes.proofs.SteadyParts.{agree_steady}
use Rattle.machine_changes.specs.Slots.{HoldTogether, UnownedIsSpare}

module _ (r : spaces.Content) (b : buddies.Content) (s : Content) (h : HoldTogether r b s) where
  pub steady_of : (t : ℕ) → t < length r.slots → IsSteady r b s t
  steady_of t tenant = (agree_steady r b s t h.slabs h.agree tenant h.space.apart h.buddy.sizes h.buddy.sound).0

  pub tenant_of : (t : ℕ) → t < length r.slots → t < length b.tenants
  tenant_of t tenant = let same : length r.slots ≡ length b.tenants = h.agree.rows in omega arith

  -- the entry of machine frame n in the lists is a slab of this cache, and the parts agree on this slab
  pub record IsThere (n head key : ℕ) : Type 0 where
    pub cache : own.Cache
    pub cached : cache_in s.caches (head / 3) ≡ Some cache
    pub agreed : IsAgreed r b s n head key cache
    -- the superblock on which this slab begins
    pub superblock : ℕ
    pub under : spaces.superblock_at r.slots (head / 3 / MAX_CACHES) (key / 2 ^ s.top) ≡ Some superblock
    pub machine_frame : n ≡ superblock * 2 ^ s.top + key % 2 ^ s.top
    pub is : n / 2 ^ s.top ≡ superblock

  pub slab_there : (n head key : ℕ) → place_at s.lists.places n ≡ Some (head, key) → IsThere n head key
  slab_there n head key placed =
      let kept = h.slabs.standing n head key placed in
      let agreed : IsAgreed r b s n head key kept.0 = h.agree.slabs n head key kept.0 placed kept.1 in
      let there = under_is s.top key n (spaces.superblock_at r.slots (head / 3 / MAX_CACHES) (key / 2 ^ s.top)) agreed.under in
      record {
        cache = kept.0;
        cached = kept.1;
        agreed = agreed;
        superblock = there.0;
        under = there.1;
        machine_frame = there.2;
        is = ap (λ x. x / 2 ^ s.top) there.2 ∙ superblock_of_machine_frame s.top there.0 key;
      }

  -- a superblock in a slot has an owner
  pub is_owned : (t u m : ℕ) → spaces.superblock_at r.slots t u ≡ Some m → spaces.owner_at r.owners m ≡ None → ⊥
  is_owned t u m under none = some_none (sym ((h.space.facts.agree t u m).0 under) ∙ none)

  -- no slab begins on a superblock without an owner
  pub unowned_bare : (m i : ℕ) → spaces.owner_at r.owners m ≡ None → i < 2 ^ s.top → place_at s.lists.places (m * 2 ^ s.top + i) ≡ None
  unowned_bare m i none less = go (place_at s.lists.places (m * 2 ^ s.top + i)) refl
    where
      go : (place : Option (ℕ × ℕ)) → place_at s.lists.places (m * 2 ^ s.top + i) ≡ place → place ≡ None
      go None is = refl
      go (Some p) is =
          let there = slab_there (m * 2 ^ s.top + i) p.0 p.1 is in
          let same : there.superblock ≡ m = sym there.is ∙ div-mul-add m (2 ^ s.top) i less in
          absurd (is_owned (p.0 / 3 / MAX_CACHES) (p.1 / 2 ^ s.top) m (there.under ∙ ap (λ (x : ℕ). Some x) same) none)

pub unowned_is_spare : UnownedIsSpare
unowned_is_spare r b s m h none = record {
  unused = λ t u under. is_owned r b s h t u m (sym (h.agree.slots t u) ∙ under) none;
  bare = λ i less. unowned_bare r b s h m i none less;
}
