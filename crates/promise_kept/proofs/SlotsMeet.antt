-- What is known of a machine stays true when a slot is granted and when a slot is taken back.
use Rattle.std.proofs.Common.{◌≡◌, ◌≢◌, ℕ, ◌+◌, ◌<◌, Bool, true, false, not, ◌||◌, cond, eqb, List, [], ◌∷◌, map, Option, Some, None, refl, sym, ap, ◌∙◌, subst, ⊎_elim, arith}
use Rattle.std.specs.Prelude.{if◌then◌else◌, filter, flat_map}
use Rattle.std.specs.List.{list_any}
use Rattle.std.proofs.lemmas.Bool.{false≢true, false_from_ne_true, eqb-true, ne_eqb, or_left, or_right}
use Rattle.model_core.specs.Blocks.{Block, slot_block}
use Rattle.model_core.specs.Layouts.{pattern_byte}
use Rattle.model_core.specs.Machine.{Slab, Cache, Machine, empty_machine, holds, slot_of, in_block, slab_block, slab_blocks, put_rising}
use Rattle.model_core.specs.Machine as model
use Rattle.model_core.specs.Operations as operations
use Rattle.model_core.specs.WellFormed.{IsWellFormed, in_slab}
use Rattle.model_core.specs.Laws.{Object, IsObject, place_of}
use Rattle.model_core.specs.Elements.{IsIn}
use Rattle.model_core.proofs.Lists.{each_in, each_from, some_any, any_in, any_none, none_any, PutIn, put_in, in_left, in_map, map_in, in_append, flat_map_in}
use Rattle.model_core.proofs.MemoryKept.{any_put, place_held}
use Rattle.model_core.proofs.LaidSlabs.{laid, all_laid, laid_block, IsLaidOut, laid_out, Placed}
use Rattle.model_core.proofs.CacheSteps.{in_all_laid}
use Rattle.model_core.proofs.ConstructedObjects.{next_unheld}
use Rattle.model_core.proofs.ObjectsApart.{contains_in, in_contains}
use Rattle.promise_core.specs.Holdings.{Holdings, known_blocks, is_slot_busy}
use Rattle.promise_core.specs.Bytes.{Holder, may_be, without}
use Rattle.promise_core.specs.State.{State, opening_state}
use Rattle.promise_kept.specs.Meets.{cache_as_known, holdings_of, is_object_live, Meets}
use Rattle.promise_kept.proofs.SuperblockOwners.{below_missing}
use Rattle.promise_kept.proofs.SeenBlocks.{taken_seen}
use Rattle.promise_kept.proofs.PlaceCells.{fresh_may, without_some, without_may}
use Rattle.promise_kept.proofs.KnownAfterReaping.{object_in_slab}

-- a live holder is still live after the list of held slots is replaced
lives_still : (us : List ℕ) (h : Holdings) (holder : Holder) (place : ℕ) → is_object_live h holder place ≡ true → is_object_live (record h { slots = us }) holder place ≡ true
lives_still us h Holder.Page place e = e
lives_still us h (Holder.Object n first) place e = e

-- the place is in slot u
abbrev pub of_slot : ℕ → ℕ → ℕ → Holder → Bool
of_slot order u place holder = eqb (slot_of order place) u

-- What is known after a slot is granted or taken back

abbrev pub granted : ℕ → State → State
granted u s = record s { has = record s.has { slots = put_rising (λ v. v) u s.has.slots }; last_report = None }

abbrev pub taken_back : ℕ → ℕ → State → State
taken_back order u s = record s {
  has = record s.has { slots = filter (λ v. not (eqb v u)) s.has.slots };
  cells = without (of_slot order u) s.cells;
  last_report = None;
}

module _ {limit : ℕ} (order : ℕ) (m : Machine) (s : State) (w : IsWellFormed limit order m) (h : Meets order s m) where
  -- each byte of an object lies in a held slot
  object_held : (o : Object) (j : ℕ) → IsObject m o → j < o.cache.size → holds m (slot_of order (place_of o + j)) ≡ true
  object_held o j i below =
      let in_c : IsIn o.cache m.caches = contains_in m.caches o.cache i.cache_in in
      let in_s : IsIn o.slab o.cache.slabs = contains_in o.cache.slabs o.slab i.slab_in in
      let l : IsLaidOut order m.slots m.blocks (all_laid m.caches) m.bytes = laid_out order m w in
      let placed : Placed order m.slots (laid_block (laid o.cache o.slab)) = each_in (λ l. Placed order m.slots (laid_block l)) (laid o.cache o.slab) (all_laid m.caches) l.placed_slabs (in_all_laid o.cache o.slab m.caches in_c in_s) in
      place_held order m.slots (place_of o + j) (laid_block (laid o.cache o.slab)) placed (object_in_slab order m o.cache o.slab o.index j w in_c in_s i.index_in below)

  outside : (o : Object) (j : ℕ) → IsObject m o → j < o.cache.size → eqb (slot_of order (place_of o + j)) (operations.next_slot m) ≡ false
  outside o j i below = ne_eqb (slot_of order (place_of o + j)) (operations.next_slot m) (λ same. false≢true (sym (next_unheld order m w) ∙ (ap (holds m) (sym same) ∙ object_held o j i below)))

  -- no place in the slot that is granted next lies in a live page block
  none_lives : (place : ℕ) → eqb (slot_of order place) (operations.next_slot m) ≡ true → is_object_live s.has Holder.Page place ≡ false
  unfolding holdings_of
  none_lives place at = ap (λ (x : Holdings). list_any (in_block place) x.pages) h.has ∙ any_none (in_block place) m.blocks
      (each_from (λ b. in_block place b ≡ false) m.blocks (λ b i. false_from_ne_true (in_block place b) (λ inside. apart b i inside)))
    where
      apart : (b : Block) → IsIn b m.blocks → in_block place b ≡ true → ⊥
      apart b i inside = false≢true (sym (next_unheld order m w) ∙ (ap (holds m) (sym (eqb-true (slot_of order place) (operations.next_slot m) at))
          ∙ place_held order m.slots place b (each_in (Placed order m.slots) b m.blocks (laid_out order m w).placed_blocks i) inside))

  pub grant_meets : Meets order (granted (operations.next_slot m) s) (operations.after_grant order m)
  unfolding holdings_of operations.after_grant
  grant_meets = record {
    has = ap (λ (x : Holdings). record x { slots = put_rising (λ v. v) (operations.next_slot m) x.slots }) h.has;
    may_have_empty = h.may_have_empty;
    lives = λ place cell e sure. lives_still (put_rising (λ v. v) (operations.next_slot m) s.has.slots) s.has cell.holder place (h.lives place cell e sure);
    page_bytes = λ place byte out e. page place byte out (eqb (slot_of order place) (operations.next_slot m)) refl e;
    object_bytes = λ o j byte i below e. let is : IsObject m o = record { cache_in = i.cache_in; slab_in = i.slab_in; index_in = i.index_in } in
        h.object_bytes o j byte is below (sym (ap (λ b. if b then Some 0 else m.bytes (place_of o + j)) (outside o j is below)) ∙ e);
    empty_told = λ r e. absurd (cc);
    free_told = λ r e. absurd (cc);
  }
    where
      page : (place byte : ℕ) → in_slab m place ≡ false → (b : Bool) → eqb (slot_of order place) (operations.next_slot m) ≡ b → (if b then Some 0 else m.bytes place) ≡ Some byte
          → may_be Holder.Page 0 (s.cells place) byte ≡ true
      page place byte out true is e = let zero_it : 0 ≡ byte = cc in
          subst (λ x. may_be Holder.Page 0 (s.cells place) x ≡ true) zero_it (fresh_may s.has s.cells h.lives Holder.Page place 0 (none_lives place is))
      page place byte out false is e = h.page_bytes place byte out e

  pub take_back_meets : (u : ℕ) → Meets order (taken_back order u s) (operations.after_take_back order u m)
  unfolding holdings_of operations.after_take_back
  take_back_meets u = record {
    has = ap (λ (x : Holdings). record x { slots = filter (λ v. not (eqb v u)) x.slots }) h.has;
    may_have_empty = h.may_have_empty;
    lives = λ place cell e sure. let was = without_some (of_slot order u) s.cells place cell e in
        lives_still (filter (λ v. not (eqb v u)) s.has.slots) s.has cell.holder place (h.lives place cell was.0 sure);
    page_bytes = λ place byte out e. let at = there (m.bytes place) byte (eqb (slot_of order place) u) e in
        without_may (of_slot order u) s.cells Holder.Page place 0 byte at.0 (h.page_bytes place byte out at.1);
    object_bytes = λ o j byte i below e. let at = there (m.bytes (place_of o + j)) byte (eqb (slot_of order (place_of o + j)) u) e in
        without_may (of_slot order u) s.cells (Holder.Object o.cache.number (place_of o)) (place_of o + j) (pattern_byte o.cache.pattern j) byte at.0
        (h.object_bytes o j byte (record { cache_in = i.cache_in; slab_in = i.slab_in; index_in = i.index_in }) below at.1);
    empty_told = λ r e. absurd (cc);
    free_told = λ r e. absurd (cc);
  }
    where
      there : (o : Option ℕ) (byte : ℕ) (b : Bool) → (if b then None else o) ≡ Some byte → (b ≡ false) × (o ≡ Some byte)
      there o byte true e = absurd (cc)
      there o byte false e = (refl, e)

  -- a slot that is not busy is not seen as busy
  pub busy_seen : (u : ℕ) → operations.is_busy order m u ≡ false → is_slot_busy order (holdings_of m) u ≡ false
  unfolding operations.is_busy
  busy_seen u e = ap (λ b. not (not b)) (any_none (operations.overlaps (slot_block order u)) (known_blocks (holdings_of m)) (each_from (λ t. operations.overlaps (slot_block order u) t ≡ false) (known_blocks (holdings_of m))
      (λ t i. each_in (λ t. operations.overlaps (slot_block order u) t ≡ false) t (model.taken_blocks m) (none_any (operations.overlaps (slot_block order u)) (model.taken_blocks m) e) (taken_seen order m t w i))))

  -- if a slot is busy, it is seen as busy or some cache is known as one that may have an empty slab
  pub busy_may : (u : ℕ) → operations.is_busy order m u ≡ true → (is_slot_busy order (holdings_of m) u || list_any (λ c. s.may_have_empty c.number) (holdings_of m).caches) ≡ true
  unfolding operations.is_busy model.taken_blocks holdings_of known_blocks
  busy_may u e =
      let b : (b : Block) × IsIn b (model.taken_blocks m) × (operations.overlaps (slot_block order u) b ≡ true) = some_any (operations.overlaps (slot_block order u)) (model.taken_blocks m) e in
      ⊎_elim
      (λ (page : IsIn b.0 m.blocks). or_left (is_slot_busy order (holdings_of m) u) (list_any (λ c. s.may_have_empty c.number) (map cache_as_known m.caches))
      (ap (λ x. not (not x)) (any_in (operations.overlaps (slot_block order u)) b.0 (known_blocks (holdings_of m)) (in_left b.0 m.blocks _ page) b.2)))
      (λ (slab : IsIn b.0 (flat_map slab_blocks m.caches)).
      let c : (c : Cache) × IsIn c m.caches × IsIn b.0 (slab_blocks c) = flat_map_in slab_blocks b.0 m.caches slab in
      let x : (x : Slab) × IsIn x c.0.slabs × (slab_block c.0 x ≡ b.0) = map_in (slab_block c.0) b.0 c.0.slabs c.2 in
      or_right (is_slot_busy order (holdings_of m) u) (list_any (λ c. s.may_have_empty c.number) (map cache_as_known m.caches))
      (any_in (λ c. s.may_have_empty c.number) (cache_as_known c.0) (map cache_as_known m.caches) (in_map cache_as_known c.0 m.caches c.1) (h.may_have_empty c.0 x.0 (in_contains c.0 m.caches c.1) (in_contains x.0 c.0.slabs x.1))))
      (in_append b.0 m.blocks (flat_map slab_blocks m.caches) b.1)

-- Which slots are held

pub below_next : (m : Machine) (v : ℕ) → v < operations.next_slot m → holds m v ≡ true
unfolding operations.next_slot
below_next m v lt = below_missing 0 v m.slots (omega arith) lt

pub grant_holds : (order : ℕ) (m : Machine) (v : ℕ) → holds (operations.after_grant order m) v ≡ (eqb (operations.next_slot m) v || holds m v)
unfolding operations.after_grant
grant_holds order m v =
    let i : PutIn (λ u. u) (operations.next_slot m) m.slots = put_in (λ u. u) (operations.next_slot m) m.slots in
    ap (list_any (λ u. eqb u v)) i.is ∙ (any_put (λ u. eqb u v) i.before i.later (operations.next_slot m) ∙ ap (λ us. eqb (operations.next_slot m) v || list_any (λ u. eqb u v) us) (sym i.was))

filter_own : (u v : ℕ) (us : List ℕ) → v ≡ u → list_any (λ x. eqb x v) (filter (λ x. not (eqb x u)) us) ≡ false
filter_own u v [] same = refl
filter_own u v (x ∷ us) same = go (eqb x u) refl (filter_own u v us same)
  where
    go : (b : Bool) → eqb x u ≡ b → list_any (λ x. eqb x v) (filter (λ x. not (eqb x u)) us) ≡ false
        → list_any (λ x. eqb x v) (cond (not b) (x ∷ filter (λ x. not (eqb x u)) us) (filter (λ x. not (eqb x u)) us)) ≡ false
    go true is rest = rest
    go false is rest = ap (λ b. b || list_any (λ x. eqb x v) (filter (λ x. not (eqb x u)) us)) (ap (eqb x) same ∙ is) ∙ rest

filter_other : (u v : ℕ) (us : List ℕ) → v ≢ u → list_any (λ x. eqb x v) (filter (λ x. not (eqb x u)) us) ≡ list_any (λ x. eqb x v) us
filter_other u v [] differ = refl
filter_other u v (x ∷ us) differ = go (eqb x u) refl (filter_other u v us differ)
  where
    go : (b : Bool) → eqb x u ≡ b → list_any (λ x. eqb x v) (filter (λ x. not (eqb x u)) us) ≡ list_any (λ x. eqb x v) us
        → list_any (λ x. eqb x v) (cond (not b) (x ∷ filter (λ x. not (eqb x u)) us) (filter (λ x. not (eqb x u)) us)) ≡ (eqb x v || list_any (λ x. eqb x v) us)
    go true is rest = rest ∙ ap (λ b. b || list_any (λ x. eqb x v) us) (sym (ne_eqb x v (λ same. differ (sym same ∙ eqb-true x u is))))
    go false is rest = ap (λ b. eqb x v || b) rest

pub taken_unheld : (order u : ℕ) (m : Machine) (v : ℕ) → v ≡ u → holds (operations.after_take_back order u m) v ≡ false
unfolding operations.after_take_back
taken_unheld order u m v same = filter_own u v m.slots same

pub others_held : (order u : ℕ) (m : Machine) (v : ℕ) → v ≢ u → holds (operations.after_take_back order u m) v ≡ holds m v
unfolding operations.after_take_back
others_held order u m v differ = filter_other u v m.slots differ

pub nothing_meets : (order : ℕ) → Meets order opening_state empty_machine
unfolding opening_state holdings_of empty_machine
nothing_meets order = record {
  has = refl;
  may_have_empty = λ c slab in_caches in_slabs. absurd (let low = in_caches.1 in omega (arith, low));
  lives = λ place cell e sure. absurd (cc);
  page_bytes = λ place byte outside e. absurd (cc);
  object_bytes = λ o j byte is_object below e. absurd (cc);
  empty_told = λ r e. absurd (cc);
  free_told = λ r e. absurd (cc);
}
