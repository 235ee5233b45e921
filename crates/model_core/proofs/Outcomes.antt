-- A refused operation leaves the machine unchanged. Any other operation changes it as one field of `Outcomes` says.
use Rattle.std.proofs.Common.{◌≡◌, ℕ, ◌<◌, Bool, true, false, not, cond, eqb, ltb, leb, List, [], ◌∷◌, length, Option, Some, None, Result, Ok, refl, sym, ap, ◌∙◌, subst}
use Rattle.std.specs.Prelude.{if◌then◌else◌, OnErr, find, filter, is_some, option_map, option_and_then}
use Rattle.std.specs.List.{list_any}
use Rattle.std.proofs.lemmas.Bool.{leb-false}
use Rattle.model_core.specs.declared.refusals.AllocRefusal.{AllocRefusal}
use Rattle.model_core.specs.declared.refusals.CacheRefusal.{CacheRefusal}
use Rattle.model_core.specs.declared.refusals.TakeRefusal.{TakeRefusal}
use Rattle.model_core.specs.declared.refusals.DestroyRefusal.{DestroyRefusal}
use Rattle.model_core.specs.declared.refusals.TakeBackRefusal.{TakeBackRefusal}
use Rattle.model_core.specs.Blocks.{Block, block}
use Rattle.model_core.specs.Layouts.{is_size, is_alignment}
use Rattle.model_core.specs.Machine.{Slab, Cache, Machine, empty_machine, holds, layout, slab_blocks, order_in}
use Rattle.model_core.specs.Slabs.{LiveObject, live_objects, is_partial, is_empty, cache_of, with_cache, with_slab, with_live, new_slab, grown_cache, grown, slab_to_use, without_empty, reaped, by_need, choice_by_need, destroyed}
use Rattle.model_core.specs.Reach.{in_reach}
use Rattle.model_core.specs.Operations.{Step, refuse, with_block, without_block, alloc_at, alloc_step, free_at, free_step, written, write_step, after_grant, is_busy, after_take_back, take_back_step}
use Rattle.model_core.specs.CacheOperations.{created, next_number, create_step, cache_answer, cache_step, hand_out, take_new, take_from, take_of, take_step, give_object, give_of, give_step, frames_of, destroy_of, destroy_step, reap_step}
use Rattle.model_core.specs.Runs.{Operation, Alloc, Free, Write, Create, Take, Give, Destroy, Reap, Grant, TakeBack, Reset, after}
use Rattle.model_core.specs.Laws.{block_of_growth, made_block, RefusalsStay}
use Rattle.model_core.specs.Elements.{IsIn}
use Rattle.model_core.proofs.Lists.{find_in, in_map}
use Rattle.model_core.proofs.ReapingByNeed.{by_need_keeps, by_need_none}

-- Slabs that are used and made

pub used_in : (c : Cache) (s : Slab) → slab_to_use (find is_partial c.slabs) (find is_empty c.slabs) ≡ Some s → IsIn s c.slabs
unfolding slab_to_use
used_in c s e = go (find is_partial c.slabs) refl e
  where
    go : (o : Option Slab) → find is_partial c.slabs ≡ o → slab_to_use o (find is_empty c.slabs) ≡ Some s → IsIn s c.slabs
    go None f e = (find_in is_empty s c.slabs e).0
    go (Some t) f e = (find_in is_partial s c.slabs (f ∙ e)).0

-- If no element passes the test, leaving out all elements that pass changes nothing. So a reap does not change a cache that has
-- no empty slab.
kept_all : {X : Type 0} (p : X → Bool) (xs : List X) → find p xs ≡ None → filter (λ x. not (p x)) xs ≡ xs
kept_all p [] e = refl
kept_all {X} p (x ∷ xs) e = go (p x) e (kept_all p xs)
  where
    go : (b : Bool) → cond b (Some x) (find p xs) ≡ None → (find p xs ≡ None → filter (λ x. not (p x)) xs ≡ xs)
        → cond (not b) (x ∷ filter (λ x. not (p x)) xs) (filter (λ x. not (p x)) xs) ≡ x ∷ xs
    go true e ih = absurd (cc)
    go false e ih = ap (λ ys. x ∷ ys) (ih e)

none_empty : (c : Cache) → slab_to_use (find is_partial c.slabs) (find is_empty c.slabs) ≡ None → find is_empty c.slabs ≡ None
unfolding slab_to_use
none_empty c e = go (find is_partial c.slabs) e
  where
    go : (o : Option Slab) → slab_to_use o (find is_empty c.slabs) ≡ None → find is_empty c.slabs ≡ None
    go None e = e
    go (Some s) e = absurd (cc)

stands_reaped : (c : Cache) (m : Machine) → IsIn c m.caches → slab_to_use (find is_partial c.slabs) (find is_empty c.slabs) ≡ None → IsIn c (reaped m).caches
unfolding reaped
stands_reaped c m i e = subst (λ ss. IsIn (record c { slabs = ss }) (reaped m).caches) (kept_all is_empty c.slabs (none_empty c e)) (in_map without_empty c m.caches i)

pub stands_by_need : (order k : ℕ) (c : Cache) (m : Machine) → IsIn c m.caches → slab_to_use (find is_partial c.slabs) (find is_empty c.slabs) ≡ None → IsIn c (by_need order k m).caches
stands_by_need order k c m i e = by_need_keeps (λ n. IsIn c n.caches) order k m i (stands_reaped c m i e)

-- Steps with answers

-- Q is true of the step of an alloc if Q is true of each refusal and of each alloc that succeeds. An alloc that succeeds frees
-- empty slabs on demand.
pub alloc_outcome : (order k : ℕ) (m : Machine) (Q : Step (Result ℕ AllocRefusal) → Type 0) → ((refusal : AllocRefusal) → Q (refuse refusal m))
    → ((first : ℕ) → choice_by_need order k m ≡ Some first → Q (record { answer = Ok first; machine = with_block (block first k) (by_need order k m) }))
    → Q (alloc_step order k m)
unfolding alloc_step
alloc_outcome order k m Q refused found = go (ltb order k) (choice_by_need order k m) refl
  where
    go : (t : Bool) (o : Option ℕ) → choice_by_need order k m ≡ o → Q (if t then refuse AllocRefusal.BadOrder m else alloc_at k (by_need order k m) o)
    go true o e = refused AllocRefusal.BadOrder
    go false None e = subst (λ n. Q (refuse AllocRefusal.NoFrames n)) (sym (by_need_none order k m e)) (refused AllocRefusal.NoFrames)
    go false (Some first) e = found first e

-- Q is true of the step of a take, paired with the block of the slab that the take makes (None if it makes no slab), if Q is true
-- in three cases: of each refusal, of the take of each object of an existing slab, and of the take of the first object of each
-- new slab. Before a new slab is made, empty slabs are freed on demand.
pub take_outcome : (order number : ℕ) (m : Machine) (Q : Option Block → Step (Result ℕ TakeRefusal) → Type 0) → ((refusal : TakeRefusal) → Q None (refuse refusal m))
    → ((c : Cache) (s : Slab) → IsIn c m.caches → IsIn s c.slabs → Q None (hand_out c s m))
    → ((c : Cache) (first : ℕ) → let n = by_need order (layout c).order m in IsIn c n.caches → choice_by_need order (layout c).order m ≡ Some first
    → Q (Some (block first (layout c).order)) (hand_out (grown_cache first c) (new_slab c first) (grown first c n)))
    → Q (made_block order (Take number) m) (take_step order number m)
unfolding take_step
take_outcome order number m Q refused used made = go (cache_of m number) refl
  where
    new : (c : Cache) → IsIn c m.caches → slab_to_use (find is_partial c.slabs) (find is_empty c.slabs) ≡ None → (o : Option ℕ) → choice_by_need order (layout c).order m ≡ o
        → Q (option_map (λ first. block first (layout c).order) o) (take_new c (by_need order (layout c).order m) o)
    new c i unused None e = subst (λ n. Q None (refuse TakeRefusal.NoFrames n)) (sym (by_need_none order (layout c).order m e)) (refused TakeRefusal.NoFrames)
    new c i unused (Some first) e = made c first (stands_by_need order (layout c).order c m i unused) e

    slab : (c : Cache) → IsIn c m.caches → (o : Option Slab) → slab_to_use (find is_partial c.slabs) (find is_empty c.slabs) ≡ o
        → Q (if is_some o then None else option_map (λ first. block first (layout c).order) (choice_by_need order (layout c).order m)) (take_from order c m o)
    slab c i (Some s) e = used c s i (used_in c s e)
    slab c i None e = new c i e (choice_by_need order (layout c).order m) refl

    go : (o : Option Cache) → cache_of m number ≡ o → Q (option_and_then (block_of_growth order m) o) (take_of order m o)
    go None e = refused TakeRefusal.NoCache
    go (Some c) e = slab c (find_in (λ x. eqb x.number number) c m.caches e).0 (slab_to_use (find is_partial c.slabs) (find is_empty c.slabs)) refl

pub refusals_stay : RefusalsStay
refusals_stay order n m = (
  alloc_outcome order n m (λ s. OnErr s.answer (s.machine ≡ m)) (λ _. refl) (λ _ _. tt),
  take_outcome order n m (λ _ s. OnErr s.answer (s.machine ≡ m)) (λ _. refl) (λ _ _ _ _. tt) (λ _ _ _ _. tt),
)

-- All operations

-- if these facts are true, Q is true of each operation and the machine after it
pub record Outcomes (limit order : ℕ) (m : Machine) (Q : Operation → Machine → Type 0) : Type 0 where
  pub refused : (operation : Operation) → made_block order operation m ≡ None → Q operation m
  pub page_taken : (k first : ℕ) → choice_by_need order k m ≡ Some first → Q (Alloc k) (with_block (block first k) (by_need order k m))
  pub page_released : (first : ℕ) → Q (Free first) (without_block first m)
  pub bytes_written : (place : ℕ) (new : List ℕ) → in_reach m place (length new) ≡ true → Q (Write place new) (record m { bytes = written place new m.bytes })
  pub cache_made : (size align : ℕ) (pattern : List ℕ) → is_size size ≡ true → is_alignment align ≡ true → next_number m < limit
      → Q (Create size align pattern) (created (next_number m) size align pattern m)
  pub object_taken : (number : ℕ) (c : Cache) (s : Slab) → IsIn c m.caches → IsIn s c.slabs → made_block order (Take number) m ≡ None → take_step order number m ≡ hand_out c s m
      → Q (Take number) (hand_out c s m).machine
  -- a take of an object of a new slab
  pub slab_made : (number : ℕ) (c : Cache) (first : ℕ) → let n = by_need order (layout c).order m in IsIn c n.caches → choice_by_need order (layout c).order m ≡ Some first
      → made_block order (Take number) m ≡ Some (block first (layout c).order) → take_step order number m ≡ hand_out (grown_cache first c) (new_slab c first) (grown first c n)
      → Q (Take number) (hand_out (grown_cache first c) (new_slab c first) (grown first c n)).machine
  pub object_given : (number place : ℕ) (c : Cache) (o : LiveObject) → IsIn c m.caches → IsIn o (live_objects c) → Q (Give number place) (with_cache (with_slab (with_live o.index false o.slab) c) m)
  pub cache_destroyed : (number : ℕ) (c : Cache) → IsIn c m.caches → list_any (λ s. not (is_empty s)) c.slabs ≡ false → Q (Destroy number) (destroyed c m)
  pub slabs_reaped : Q Reap (reaped m)
  pub slot_granted : Q Grant (after_grant order m)
  pub slot_gone : (slot : ℕ) → holds m slot ≡ true → is_busy order m slot ≡ false → Q (TakeBack slot) (after_take_back order slot m)
  pub all_gone : Q Reset empty_machine

pub outcome : (limit order : ℕ) (m : Machine) (Q : Operation → Machine → Type 0) → Outcomes limit order m Q → (operation : Operation) → Q operation (after limit order operation m)
unfolding free_step write_step cache_step create_step give_step destroy_step reap_step take_back_step
outcome limit order m Q h (Alloc k) = alloc_outcome order k m (λ s. Q (Alloc k) s.machine) (λ refusal. h.refused (Alloc k) refl) (h.page_taken k)
outcome limit order m Q h (Free first) = go (order_in m.blocks first)
  where
    go : (o : Option ℕ) → Q (Free first) (free_at first m o).machine
    go None = h.refused (Free first) refl
    go (Some k) = h.page_released first
outcome limit order m Q h (Write place new) = go (in_reach m place (length new)) refl
  where
    go : (b : Bool) → in_reach m place (length new) ≡ b
        → Q (Write place new) (if◌then◌else◌ {A = Step (Option ℕ)} b (record { answer = Some (length new); machine = record m { bytes = written place new m.bytes } }) (record { answer = None; machine = m })).machine
    go false e = h.refused (Write place new) refl
    go true e = h.bytes_written place new e
outcome limit order m Q h (Create size align pattern) = go (is_size size) refl (is_alignment align) refl (leb limit (next_number m)) refl
  where
    go : (a : Bool) → is_size size ≡ a → (b : Bool) → is_alignment align ≡ b → (c : Bool) → leb limit (next_number m) ≡ c
        → Q (Create size align pattern) (if not a then refuse CacheRefusal.BadSize m else if not b then refuse CacheRefusal.BadAlign m
        else cache_answer (if◌then◌else◌ {A = Step (Option ℕ)} c (record { answer = None; machine = m }) (record { answer = Some (next_number m); machine = created (next_number m) size align pattern m }))).machine
    go false e b f c g = h.refused (Create size align pattern) refl
    go true e false f c g = h.refused (Create size align pattern) refl
    go true e true f true g = h.refused (Create size align pattern) refl
    go true e true f false g = h.cache_made size align pattern e f (leb-false limit (next_number m) g)
outcome limit order m Q h (Take number) = take_outcome order number m (λ b s. made_block order (Take number) m ≡ b → take_step order number m ≡ s → Q (Take number) s.machine)
    (λ refusal none is. h.refused (Take number) none) (h.object_taken number) (h.slab_made number) refl refl
outcome limit order m Q h (Give number place) = go (cache_of m number) refl
  where
    object : (c : Cache) → IsIn c m.caches → (o : Option LiveObject) → find (λ x. eqb x.place place) (live_objects c) ≡ o → Q (Give number place) (give_object c m o).machine
    object c i None e = h.refused (Give number place) refl
    object c i (Some o) e = h.object_given number place c o i (find_in (λ x. eqb x.place place) o (live_objects c) e).0

    go : (o : Option Cache) → cache_of m number ≡ o → Q (Give number place) (give_of place m o).machine
    go None e = h.refused (Give number place) refl
    go (Some c) e = object c (find_in (λ x. eqb x.number number) c m.caches e).0 (find (λ x. eqb x.place place) (live_objects c)) refl
outcome limit order m Q h (Destroy number) = go (cache_of m number) refl
  where
    test : (c : Cache) → IsIn c m.caches → (b : Bool) → list_any (λ s. not (is_empty s)) c.slabs ≡ b
        → Q (Destroy number) (if b then refuse DestroyRefusal.CacheInUse m else record { answer = Ok (frames_of (slab_blocks c)); machine = destroyed c m }).machine
    test c i true e = h.refused (Destroy number) refl
    test c i false e = h.cache_destroyed number c i e

    go : (o : Option Cache) → cache_of m number ≡ o → Q (Destroy number) (destroy_of m o).machine
    go None e = h.refused (Destroy number) refl
    go (Some c) e = test c (find_in (λ x. eqb x.number number) c m.caches e).0 (list_any (λ s. not (is_empty s)) c.slabs) refl
outcome limit order m Q h Reap = h.slabs_reaped
outcome limit order m Q h Grant = h.slot_granted
outcome limit order m Q h (TakeBack slot) = go (holds m slot) refl (is_busy order m slot) refl
  where
    done : Unit {0}
    done = tt

    go : (a : Bool) → holds m slot ≡ a → (b : Bool) → is_busy order m slot ≡ b
        → Q (TakeBack slot) (if not a then refuse TakeBackRefusal.NoSlot m else (if b then refuse TakeBackRefusal.SlotBusy m else record { answer = Ok done; machine = after_take_back order slot m })).machine
    go false e b f = h.refused (TakeBack slot) refl
    go true e true f = h.refused (TakeBack slot) refl
    go true e false f = h.slot_gone slot e f
outcome limit order m Q h Reset = h.all_gone
