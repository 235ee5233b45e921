-- A machine stays well formed if an object is marked live or not live, and if a cache grows by a slab.
use Rattle.std.proofs.Common.{◌≡◌, ◌≢◌, ℕ, ◌+◌, ◌-◌, ◌*◌, ◌<◌, Bool, true, false, List, [], ◌∷◌, ◌++◌, map, length, Some, None, refl, sym, ap, ◌∙◌, subst, inl, inr, arith}
use Rattle.std.specs.Prelude.{if◌then◌else◌, is_some, slice_set}
use Rattle.std.specs.List.{AllByRecursion as Each}
use Rattle.std.proofs.Math.ListN.{length-set, length-replicate}
use Rattle.std.proofs.Math.Nat.{mod-lt}
use Rattle.std.proofs.lemmas.List.{map-append}
use Rattle.model_core.specs.declared.limits.TheConstants.{FRAME_BYTES}
use Rattle.model_core.specs.Blocks.{Block, block}
use Rattle.model_core.specs.Layouts.{in_object}
use Rattle.model_core.specs.Machine.{Slab, Cache, Machine, layout, choice}
use Rattle.model_core.specs.Slabs.{with_cache, with_slab, with_live, new_slab, fresh_byte, grown_cache, grown, by_need, choice_by_need}
use Rattle.model_core.specs.WellFormed.{RisesFrom, IsApart, IsCut, IsCache, IsWellFormed}
use Rattle.model_core.proofs.Layouts.{layouts_fit}
use Rattle.model_core.specs.Elements.{IsIn}
use Rattle.model_core.proofs.Lists.{each_left, each_right, each_put, each_less, each_middle, each_weaker, each_in, each_unmap, each_from, Found, found, found_replaced, PutIn, put_in, put_rises, in_left, in_right, in_map}
use Rattle.model_core.proofs.BlocksApart.{apart_first}
use Rattle.model_core.proofs.ChosenBlock.{chosen_apart, chosen_placed}
use Rattle.model_core.proofs.LaidSlabs.{Laid, laid, laid_in, all_laid, laid_block, IsLaidOut, taken_laid, laid_out, Numbered, well_formed}
use Rattle.model_core.proofs.MemoryKept.{with_flags, flags_set, slab_put}
use Rattle.model_core.proofs.SlabAmongOthers.{in_middle, laid_parts}
use Rattle.model_core.proofs.PageSteps.{by_need_kept}

pub in_all_laid : (c : Cache) (s : Slab) (cs : List Cache) → IsIn c cs → IsIn s c.slabs → IsIn (laid c s) (all_laid cs)
in_all_laid c s [] i j = elim i [ ]
in_all_laid c s (d ∷ cs) (inl e) j = in_left (laid c s) (laid_in d) (all_laid cs) (subst (λ x. IsIn (laid c s) (laid_in x)) (sym e) (in_map (laid c) s c.slabs j))
in_all_laid c s (d ∷ cs) (inr i) j = in_right (laid c s) (laid_in d) (all_laid cs) (in_all_laid c s cs i j)

-- if an element of a list is replaced by an element with the same key, the list of keys stays the same
pub same_keys : {X : Type 0} (key : X → ℕ) (before later : List X) (x y : X) → key y ≡ key x → map key (before ++ y ∷ later) ≡ map key (before ++ x ∷ later)
same_keys key before later x y e = map-append key before (y ∷ later) ∙ (ap (λ n. map key before ++ n ∷ map key later) e ∙ sym (map-append key before (x ∷ later)))

-- if a cache is replaced by a cache with the same number, the numbers of all caches stay below the limit
renumbered : (limit : ℕ) (before later was is : List Cache) (c d : Cache) → d.number ≡ c.number → was ≡ before ++ c ∷ later → is ≡ before ++ d ∷ later
    → Each (Numbered limit) was → Each (Numbered limit) is
renumbered limit before later was is c d same from to h =
    let old : Each (Numbered limit) (before ++ c ∷ later) = subst (Each (Numbered limit)) from h in
    subst (Each (Numbered limit)) (sym to) (each_put (Numbered limit) before later d (each_less (Numbered limit) before later c old)
    (subst (λ n. n < limit) (sym same) (each_middle (Numbered limit) before later c old)))

-- One flag is set

-- how the list of all slabs changes when the live flag of object i of slab s becomes b
pub record IsFlagged (c : Cache) (s : Slab) (i : ℕ) (b : Bool) (m : Machine) : Type 0 where
  pub xs : List Laid
  pub ys : List Laid
  pub was : all_laid m.caches ≡ xs ++ laid c s ∷ ys
  pub is : all_laid (with_cache (with_slab (with_live i b s) c) m).caches ≡ xs ++ with_flags (slice_set s.live i b) (laid c s) ∷ ys

pub flagged : {limit : ℕ} (order : ℕ) (c : Cache) (s : Slab) (i : ℕ) (b : Bool) (m : Machine) → IsWellFormed limit order m → IsIn c m.caches → IsIn s c.slabs → IsFlagged c s i b m
flagged order c s i b m w in_c in_s =
    let is_c : IsCache c = each_in IsCache c m.caches w.caches in_c in
    let fc : Found (λ x. x.number) c m.caches = found (λ x. x.number) 0 c m.caches w.caches_rise in_c in
    let fs : Found (λ x. x.first) s c.slabs = found (λ x. x.first) 0 s c.slabs is_c.slabs_rise in_s in
    let t : Slab = with_live i b s in
    let d : Cache = with_slab t c in
    record {
      xs = all_laid fc.before ++ map (laid c) fs.before;
      ys = map (laid c) fs.later ++ all_laid fc.later;
      was = ap all_laid fc.is ∙ laid_parts fc.before fc.later c fs.before (s ∷ fs.later) fs.is;
      is = ap all_laid (found_replaced (λ x. x.number) c m.caches fc d c.number refl) ∙ laid_parts fc.before fc.later d fs.before (t ∷ fs.later) (found_replaced (λ x. x.first) s c.slabs fs t s.first refl);
    }

pub live_kept : {limit : ℕ} (order : ℕ) (c : Cache) (s : Slab) (i : ℕ) (b : Bool) (m : Machine) → IsWellFormed limit order m → IsIn c m.caches → IsIn s c.slabs
    → IsWellFormed limit order (with_cache (with_slab (with_live i b s) c) m)
live_kept {limit} order c s i b m w in_c in_s =
    let is_c : IsCache c = each_in IsCache c m.caches w.caches in_c in
    let fc : Found (λ x. x.number) c m.caches = found (λ x. x.number) 0 c m.caches w.caches_rise in_c in
    let fs : Found (λ x. x.first) s c.slabs = found (λ x. x.first) 0 s c.slabs is_c.slabs_rise in_s in
    let t : Slab = with_live i b s in
    let d : Cache = with_slab t c in
    let caches : (with_cache d m).caches ≡ fc.before ++ d ∷ fc.later = found_replaced (λ x. x.number) c m.caches fc d c.number refl in
    let slabs : d.slabs ≡ fs.before ++ t ∷ fs.later = found_replaced (λ x. x.first) s c.slabs fs t s.first refl in
    let h : IsFlagged c s i b m = flagged order c s i b m w in_c in_s in
    let cut : Each (IsCut d) (fs.before ++ s ∷ fs.later) = each_weaker (IsCut c) (IsCut d) (λ x k. record { count = k.count; colour = k.colour }) (fs.before ++ s ∷ fs.later) (subst (Each (IsCut c)) fs.is is_c.slabs_cut) in
    let cut_s : IsCut d s = each_middle (IsCut d) fs.before fs.later s cut in
    let is_d : IsCache d = record {
      sized = is_c.sized;
      aligned = is_c.aligned;
      patterned = is_c.patterned;
      counted = is_c.counted;
      slabs_rise = subst (RisesFrom 0) (ap (λ xs. map (λ x. x.first) xs) fs.is ∙ (sym (same_keys (λ x. x.first) fs.before fs.later s t refl) ∙ ap (λ xs. map (λ x. x.first) xs) (sym slabs))) is_c.slabs_rise;
      slabs_cut = subst (Each (IsCut d)) (sym slabs) (each_put (IsCut d) fs.before fs.later t (each_less (IsCut d) fs.before fs.later s cut) (record { count = length-set {A = Bool} s.live i b ∙ cut_s.count; colour = cut_s.colour }));
    } in
    well_formed order (with_cache d m) w.slots_rise w.blocks_rise
    (subst (RisesFrom 0) (ap (λ xs. map (λ x. x.number) xs) fc.is ∙ (sym (same_keys (λ x. x.number) fc.before fc.later c d refl) ∙ ap (λ xs. map (λ x. x.number) xs) (sym caches))) w.caches_rise)
    (renumbered limit fc.before fc.later m.caches (with_cache d m).caches c d refl fc.is caches w.numbered)
    (subst (Each IsCache) (sym caches) (each_put IsCache fc.before fc.later d (each_less IsCache fc.before fc.later c (subst (Each IsCache) fc.is w.caches)) is_d))
    (subst (λ ls. IsLaidOut order m.slots m.blocks ls m.bytes) (sym h.is)
    (flags_set order m.slots m.blocks h.xs h.ys (laid c s) (slice_set s.live i b) m.bytes (length-set {A = Bool} s.live i b)
    (subst (λ ls. IsLaidOut order m.slots m.blocks ls m.bytes) h.was (laid_out order m w))))

-- Growth

fresh_some : (b : Bool) (n : ℕ) → is_some (if b then Some n else None) ≡ b
fresh_some true n = refl
fresh_some false n = refl

-- When cache c grows by a slab at frame `first`, the list of all slabs gets this slab. The grown cache is one of the machine's
-- caches, and it has the slab.
pub record IsGrown (first : ℕ) (c : Cache) (m : Machine) : Type 0 where
  pub xs : List Laid
  pub ys : List Laid
  pub was : all_laid m.caches ≡ xs ++ ys
  pub is : all_laid (grown first c m).caches ≡ xs ++ laid c (new_slab c first) ∷ ys
  pub cache_in : IsIn (grown_cache first c) (grown first c m).caches
  pub slab_in : IsIn (new_slab c first) (grown_cache first c).slabs

pub grown_is : {limit : ℕ} (order first : ℕ) (c : Cache) (m : Machine) → IsWellFormed limit order m → IsIn c m.caches → IsGrown first c m
unfolding grown grown_cache
grown_is order first c m w in_c =
    let g : Cache = grown_cache first c in
    let s : Slab = new_slab c first in
    let fc : Found (λ x. x.number) c m.caches = found (λ x. x.number) 0 c m.caches w.caches_rise in_c in
    let p : PutIn (λ x. x.first) s c.slabs = put_in (λ x. x.first) s c.slabs in
    let caches : (grown first c m).caches ≡ fc.before ++ g ∷ fc.later = found_replaced (λ x. x.number) c m.caches fc g c.number refl in
    record {
      xs = all_laid fc.before ++ map (laid c) p.before;
      ys = map (laid c) p.later ++ all_laid fc.later;
      was = ap all_laid fc.is ∙ laid_parts fc.before fc.later c p.before p.later p.was;
      is = ap all_laid caches ∙ laid_parts fc.before fc.later g p.before (s ∷ p.later) p.is;
      cache_in = subst (IsIn g) (sym caches) (in_middle fc.before fc.later g);
      slab_in = subst (IsIn s) (sym p.is) (in_middle p.before p.later s);
    }

pub grown_kept : {limit : ℕ} (order first : ℕ) (c : Cache) (m : Machine) → IsWellFormed limit order m → IsIn c m.caches → choice order m (layout c).order ≡ Some first → IsWellFormed limit order (grown first c m)
unfolding grown grown_cache fresh_byte
grown_kept {limit} order first c m w in_c e =
    let is_c : IsCache c = each_in IsCache c m.caches w.caches in_c in
    let g : Cache = grown_cache first c in
    let s : Slab = new_slab c first in
    let b : Block = block first (layout c).order in
    let fc : Found (λ x. x.number) c m.caches = found (λ x. x.number) 0 c m.caches w.caches_rise in_c in
    let p : PutIn (λ x. x.first) s c.slabs = put_in (λ x. x.first) s c.slabs in
    let caches : (grown first c m).caches ≡ fc.before ++ g ∷ fc.later = found_replaced (λ x. x.number) c m.caches fc g c.number refl in
    let h : IsGrown first c m = grown_is order first c m w in_c in
    let slabs : List Block = map laid_block (all_laid m.caches) in
    let apart : Each (IsApart b) (m.blocks ++ slabs) = subst (Each (IsApart b)) (taken_laid m) (chosen_apart order (layout c).order first m w.apart e) in
    let apart_slabs : Each (IsApart b) slabs = each_right (IsApart b) m.blocks slabs apart in
    let count : length s.live ≡ (layout c).count = length-replicate {A = Bool} (layout c).count false in
    let is_g : IsCache g = record {
      sized = is_c.sized;
      aligned = is_c.aligned;
      patterned = is_c.patterned;
      counted = mod-lt (c.made + 1) (layouts_fit c.size c.align is_c.sized is_c.aligned).colours;
      slabs_rise = put_rises (λ x. x.first) 0 s c.slabs is_c.slabs_rise (omega arith) (each_from (λ x. x.first ≢ first) c.slabs (λ x i same.
          apart_first b (laid_block (laid c x)) (each_in (λ l. IsApart b (laid_block l)) (laid c x) (all_laid m.caches) (each_unmap (IsApart b) laid_block (all_laid m.caches) apart_slabs) (in_all_laid c x m.caches in_c i)) (sym same)));
      slabs_cut = subst (Each (IsCut g)) (sym p.is) (each_put (IsCut g) p.before p.later s
          (each_weaker (IsCut c) (IsCut g) (λ x k. record { count = k.count; colour = k.colour }) (p.before ++ p.later) (subst (Each (IsCut c)) p.was is_c.slabs_cut)) (record { count = count; colour = (c.made, refl) }));
    } in
    well_formed order (grown first c m) w.slots_rise w.blocks_rise
    (subst (RisesFrom 0) (ap (λ xs. map (λ x. x.number) xs) fc.is ∙ (sym (same_keys (λ x. x.number) fc.before fc.later c g refl) ∙ ap (λ xs. map (λ x. x.number) xs) (sym caches))) w.caches_rise)
    (renumbered limit fc.before fc.later m.caches (grown first c m).caches c g refl fc.is caches w.numbered)
    (subst (Each IsCache) (sym caches) (each_put IsCache fc.before fc.later g (each_less IsCache fc.before fc.later c (subst (Each IsCache) fc.is w.caches)) is_g))
    (subst (λ ls. IsLaidOut order m.slots m.blocks ls (grown first c m).bytes) (sym h.is)
    (slab_put order m.slots m.blocks h.xs h.ys (laid c s) m.bytes (fresh_byte c s) (subst (λ ls. IsLaidOut order m.slots m.blocks ls m.bytes) h.was (laid_out order m w))
    (chosen_placed order (layout c).order first m e) (each_left (IsApart b) m.blocks slabs apart) (subst (λ ls. Each (IsApart b) (map laid_block ls)) h.was apart_slabs)
    (record { fit = layouts_fit c.size c.align is_c.sized is_c.aligned; count = count; colour_is = (c.made, refl) })
    (λ place. fresh_some (in_object (layout c) c.size s.colour (place - FRAME_BYTES * first)) _)))

-- what is true when cache c makes a slab at frame `first`, after empty slabs are freed on demand
pub record IsMade (limit order first : ℕ) (c : Cache) (m : Machine) : Type 0 where
  pub served : IsWellFormed limit order (by_need order (layout c).order m)
  pub formed : IsWellFormed limit order (grown first c (by_need order (layout c).order m))
  pub cache_in : IsIn (grown_cache first c) (grown first c (by_need order (layout c).order m)).caches
  pub slab_in : IsIn (new_slab c first) (grown_cache first c).slabs

pub made : {limit : ℕ} (order first : ℕ) (c : Cache) (m : Machine) → IsWellFormed limit order m → IsIn c (by_need order (layout c).order m).caches → choice_by_need order (layout c).order m ≡ Some first
    → IsMade limit order first c m
made order first c m w i e =
    let n : Machine = by_need order (layout c).order m in
    let served = by_need_kept order (layout c).order m w in
    let g : IsGrown first c n = grown_is order first c n served i in
    record { served = served; formed = grown_kept order first c n served i e; cache_in = g.cache_in; slab_in = g.slab_in }
