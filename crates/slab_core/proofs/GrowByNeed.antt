-- Lemmas for a slab that is made on demand. If no free block is large enough, but one would be if all empty slabs were freed,
-- they are freed first. The parts r, b and s are the memory, the buddy systems and the tables of the slabs.
use Rattle.std.proofs.Common.{◌≡◌, ℕ, ◌<◌, true, false, map, Option, Some, None, refl, sym, ap, ◌∙◌, subst, arith}
use Rattle.std.specs.Prelude.{option_map, is_some, MatchOption, IfSome, ◌==◌}
use Rattle.model_core.specs.Blocks.{Block, IsChoice, IsWithout}
use Rattle.model_core.specs.Choice.{choose}
use Rattle.model_core.specs.Machine.{Cache, Machine, holds, taken_in, beyond, choice}
use Rattle.model_core.specs.Slabs.{cache_of, without_empty, reaped, by_need, choice_by_need}
use Rattle.model_core.specs.Slabs as slabs
use Rattle.model_core.specs.WellFormed.{RisesFrom}
use Rattle.model_core.proofs.ReapingByNeed.{by_need_keeps, by_need_found, by_need_reaps}
use Rattle.model_core.proofs.Outcomes.{stands_by_need}
use Rattle.model_core.proofs.BlockChoice.{choice_is_found}
use Rattle.model_core.proofs.ChosenBlock.{held_below}
use Rattle.model_core.proofs.Lists.{find_in}
use Rattle.space_core.specs.Content as spaces
use Rattle.buddy_core.specs.Content as buddies
use Rattle.slab_tables.specs.Content.{Content, IsSlabs}
use Rattle.machine_changes.specs.Shows.{ShowsMachine, Agree}
use Rattle.machine_changes.specs.Steady.{IsSteady}
use Rattle.machine_changes.specs.Changes.{IsReturned}
use Rattle.machine_changes.specs.Objects.{IsAllFull}
use Rattle.machine_changes.proofs.Lookups.{found_key, in_found, keys_mapped}
use Rattle.machine_changes.proofs.Reaped.{reaped_shows}
use Rattle.machine_changes.proofs.SlabForTake.{take_makes}
use Rattle.slab_core.specs.declared.objects.Slab.{Slab}
use Rattle.slab_core.specs.Calls.{idle_at}
use Rattle.slab_core.proofs.ReserveByNeed.{next_choice, no_choice}
use Rattle.slab_core.proofs.ReturnEmptySlabs.{idle_empty}

-- The block that is found on demand

-- if order k is above the order of a superblock, no block is chosen
pub choice_above : (top k : ℕ) (m : Machine) → top < k → choice top m k ≡ None
unfolding choice
choice_above top k m large = go (choose top (holds m) (taken_in m) (beyond m.slots) k) (choice_is_found top (holds m) (taken_in m) (beyond m.slots) k (held_below m.slots))
  where
    go : (o : Option Block) → MatchOption o (IsWithout top (holds m) (taken_in m) k) (IsChoice top (holds m) (taken_in m) k) → option_map (λ b. b.first) o ≡ None
    go None none = refl
    go (Some z) is = let small = is.0.0.0 in let enough = is.1 in absurd (omega arith)

pub need_none : (top k : ℕ) (m : Machine) → choice top m k ≡ None → is_some (choice top (reaped m) k) ≡ false → choice_by_need top k m ≡ None
need_none top k m none still = next_choice top k m (sym none) ∙ no_choice top k m (choice top (reaped m) k) (sym still)

-- A cache whose slabs are all full does not change when the empty slabs are freed

rises_by_need : (top k : ℕ) (m : Machine) → RisesFrom 0 (map (λ x. x.number) m.caches) → RisesFrom 0 (map (λ x. x.number) (by_need top k m).caches)
unfolding reaped
rises_by_need top k m rises =
    by_need_keeps (λ n. RisesFrom 0 (map (λ x. x.number) n.caches)) top k m rises
    (subst (RisesFrom 0) (sym (keys_mapped (λ x. x.number) without_empty m.caches (λ x. refl))) rises)

module _ (r : spaces.Content) (b : buddies.Content) (s : Content) (t c k : ℕ) (w : IsSlabs s) (a : Agree r b s) (st : IsSteady r b s t)
    (full : IsAllFull s t c) (m : Machine) (x : Cache) (h : ShowsMachine r b s t m) (ex : cache_of m c ≡ Some x) where
  pub stands : cache_of (by_need s.top k m) c ≡ Some x
  stands =
      let there = stands_by_need s.top k x m (find_in (λ z. z.number == c) x m.caches ex).0 (take_makes r b s t c m x w a st h ex full) in
      subst (λ i. cache_of (by_need s.top k m) i ≡ Some x) (found_key (λ z. z.number) c m.caches x ex)
      (in_found (λ z. z.number) 0 x (by_need s.top k m).caches (rises_by_need s.top k m h.caches_rise) there)

-- if a step leaves the parts unchanged, and P is true of them after the step, P was true of them before
pub unmoved : (P : spaces.Content → buddies.Content → Content → Type 0) {r r' : spaces.Content} {b b' : buddies.Content} {s s' : Content}
    → (r' ≡ r) × ((b' ≡ b) × (s' ≡ s)) → P r' b' s' → P r b s
unmoved P {r = r} {r' = r'} {b = b} {b' = b'} {s = s} {s' = s'} e h = subst (λ x. P x b s) e.0 (subst (λ x. P r' x s) e.1.0 (subst (λ x. P r' b' x) e.1.1 h))

-- all empty slabs of tenant t are freed, and the parts change from r, b and s to r', b' and s'
module _ {r r' : spaces.Content} {b b' : buddies.Content} {s s' : Content} {t : ℕ} (w : IsSlabs s) (a : Agree r b s) (st : IsSteady r b s t)
    (g : IsReturned r r' b b' s s' t (idle_at (λ i. true) r s t)) where
  pub reaped_shown : (m : Machine) → ShowsMachine r b s t m → ShowsMachine r' b' s' t (reaped m)
  reaped_shown m h = reaped_shows r r' b b' s s' t (idle_at (λ i. true) r s t) m g st h (idle_empty r b s t m w a h)

  -- Suppose that no free block is large enough. Then the block of order k that is found after the empty slabs are freed is the
  -- block that is found on demand. If slab o is made in this block, the machine has grown on demand.
  module _ (k : ℕ) (o : Option Slab) (none : (m : Machine) → ShowsMachine r b s t m → choice s.top m k ≡ None)
      (chosen : (m : Machine) → ShowsMachine r' b' s' t m → choice s'.top m k ≡ option_map (λ p. p.first) o) where
    pub chosen_by_need : (m : Machine) → ShowsMachine r b s t m → choice_by_need s.top k m ≡ option_map (λ p. p.first) o
    chosen_by_need m h =
        next_choice s.top k m (sym (none m h)) ∙ ap (λ top. choice top (reaped m) k) (sym g.top) ∙ chosen (reaped m) (reaped_shown m h)

    pub grown_by_need : (r'' : spaces.Content) (b'' : buddies.Content) (s'' : Content) (c : ℕ) → IsAllFull s t c
        → IfSome o (λ p. (m : Machine) (x : Cache) → ShowsMachine r' b' s' t m → cache_of m c ≡ Some x → ShowsMachine r'' b'' s'' t (slabs.grown p.first x m))
        → IfSome o (λ p. (m : Machine) (x : Cache) → ShowsMachine r b s t m → cache_of m c ≡ Some x → ShowsMachine r'' b'' s'' t (slabs.grown p.first x (by_need s.top k m)))
    grown_by_need r'' b'' s'' c full shows = go o chosen_by_need shows
      where
        go : (o : Option Slab) → ((m : Machine) → ShowsMachine r b s t m → choice_by_need s.top k m ≡ option_map (λ p. p.first) o)
            → IfSome o (λ p. (m : Machine) (x : Cache) → ShowsMachine r' b' s' t m → cache_of m c ≡ Some x → ShowsMachine r'' b'' s'' t (slabs.grown p.first x m))
            → IfSome o (λ p. (m : Machine) (x : Cache) → ShowsMachine r b s t m → cache_of m c ≡ Some x → ShowsMachine r'' b'' s'' t (slabs.grown p.first x (by_need s.top k m)))
        go None chosen shows = tt
        go (Some p) chosen shows = λ m x h ex.
            let is : choice s.top (reaped m) k ≡ Some p.first = sym (next_choice s.top k m (sym (none m h))) ∙ chosen m h in
            shows (by_need s.top k m) x (subst (ShowsMachine r' b' s' t) (sym (by_need_reaps s.top k p.first m (none m h) is)) (reaped_shown m h))
            (stands r b s t c k w a st full m x h ex)

-- if a free block is large enough, growing on demand frees no slab first
pub grown_at_once : {r r' : spaces.Content} {b b' : buddies.Content} {s s' : Content} (t c k f : ℕ)
    → ((m : Machine) → ShowsMachine r b s t m → choice s.top m k ≡ Some f)
    → ((m : Machine) (x : Cache) → ShowsMachine r b s t m → cache_of m c ≡ Some x → ShowsMachine r' b' s' t (slabs.grown f x m))
    → (m : Machine) (x : Cache) → ShowsMachine r b s t m → cache_of m c ≡ Some x → ShowsMachine r' b' s' t (slabs.grown f x (by_need s.top k m))
grown_at_once {r' = r'} {b' = b'} {s = s} {s' = s'} t c k f chosen shows m x h ex =
    subst (λ n. ShowsMachine r' b' s' t (slabs.grown f x n)) (sym (by_need_found s.top k f m (chosen m h))) (shows m x h ex)
