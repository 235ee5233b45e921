-- Taken blocks share no frame, objects share no byte, and control records share no byte with objects.
use Rattle.std.proofs.Common.{◌≡◌, ℕ, zero, suc, ◌+◌, ◌-◌, ◌*◌, ◌/◌, ◌<◌, ◌≤◌, List, [], ◌∷◌, map, length, get_or, sym, ap, ◌∙◌, subst, inl, inr, arith}
use Rattle.std.specs.Prelude.{Contains, AllPairs}
use Rattle.std.specs.List.{AllByRecursion as Each}
use Rattle.model_core.specs.declared.limits.TheConstants.{FRAME_BYTES}
use Rattle.model_core.specs.Blocks.{Block}
use Rattle.model_core.specs.Layouts.{IsFit}
use Rattle.model_core.specs.Machine.{Slab, Cache, Machine, layout, taken_blocks}
use Rattle.model_core.specs.WellFormed.{RisesFrom, IsApart, AreApart, IsCache, IsWellFormed}
use Rattle.model_core.specs.Laws.{TakenApart, Object, IsObject, place_of, HasByte, ObjectsApart, RecordsFree}
use Rattle.model_core.specs.Elements.{IsIn}
use Rattle.model_core.proofs.Lists.{each_in, rises_above}
use Rattle.model_core.proofs.BlocksApart.{in_block-true, one_holder}
use Rattle.model_core.proofs.LaidSlabs.{Laid, laid, all_laid, laid_layout, laid_block, IsCutLaid, laid_out}
use Rattle.model_core.proofs.CacheSteps.{in_all_laid}
use Rattle.model_core.proofs.Objects.{IsByte, IsByteOf, byte_is_of, fit_of}

each_get : {X : Type 0} (P : X → Type 0) (xs : List X) (i : ℕ) (d : X) → Each P xs → i < length xs → P (get_or xs i d)
each_get P [] i d h lt = absurd (omega arith)
each_get P (x ∷ xs) zero d (p, h) lt = p
each_get P (x ∷ xs) (suc i) d (p, h) lt = each_get P xs i d h (omega arith)

pairs_apart : (bs : List Block) → AreApart bs → AllPairs IsApart bs
pairs_apart [] h i j d lt in_bs = absurd (omega arith)
pairs_apart (b ∷ bs) h i zero d lt in_bs = absurd (omega arith)
pairs_apart (b ∷ bs) (e, h) zero (suc j) d lt in_bs = each_get (IsApart b) bs j d e (omega arith)
pairs_apart (b ∷ bs) (e, h) (suc i) (suc j) d lt in_bs = pairs_apart bs h i j d (omega arith) (omega arith)

pub taken_apart : TakenApart
taken_apart limit order m w = pairs_apart (taken_blocks m) w.apart

-- Objects

in_at : {X : Type 0} (xs : List X) (x : X) (k : ℕ) → k < length xs → get_or xs k x ≡ x → IsIn x xs
in_at [] x k lt e = absurd (omega arith)
in_at (y ∷ xs) x zero lt e = inl e
in_at (y ∷ xs) x (suc k) lt e = inr (in_at xs x k (omega arith) e)

pub contains_in : {X : Type 0} (xs : List X) (x : X) → Contains xs x → IsIn x xs
contains_in xs x (k, lt, e) = in_at xs x k lt e

pub in_contains : {X : Type 0} (x : X) (xs : List X) → IsIn x xs → Contains xs x
in_contains x [] i = elim i [ ]
in_contains x (y ∷ ys) (inl e) = (0, omega arith, e)
in_contains x (y ∷ ys) (inr i) = let c : Contains ys x = in_contains x ys i in (suc c.0, omega (arith, c.1), c.2)

-- two elements of a rising list with the same key are the same
pub one_key : {X : Type 0} (key : X → ℕ) (n : ℕ) (xs : List X) (x y : X) → RisesFrom n (map key xs) → IsIn x xs → IsIn y xs → key x ≡ key y → x ≡ y
one_key key n [] x y r i j e = elim i [ ]
one_key key n (z ∷ xs) x y (l, r) (inl a) (inl b) e = sym a ∙ b
one_key key n (z ∷ xs) x y (l, r) (inl a) (inr j) e =
    let above : key z + 1 ≤ key y = each_in (λ v. key z + 1 ≤ key v) y xs (rises_above key (key z + 1) xs r) j in
    absurd (omega (arith, ap key a))
one_key key n (z ∷ xs) x y (l, r) (inr i) (inl b) e =
    let above : key z + 1 ≤ key x = each_in (λ v. key z + 1 ≤ key v) x xs (rises_above key (key z + 1) xs r) i in
    absurd (omega (arith, ap key b))
one_key key n (z ∷ xs) x y (l, r) (inr i) (inr j) e = one_key key (key z + 1) xs x y r i j e

-- what is true of an object of a well formed machine, and of the laid slab of the object
pub record IsLaidObject (order : ℕ) (m : Machine) (o : Object) : Type 0 where
  pub cache_in : IsIn o.cache m.caches
  pub slab_in : IsIn o.slab o.cache.slabs
  pub laid_in : IsIn (laid o.cache o.slab) (all_laid m.caches)
  pub cut : IsCutLaid (laid o.cache o.slab)
  pub index_in : o.index < (layout o.cache).count

pub laid_object : {limit : ℕ} (order : ℕ) (m : Machine) (o : Object) → IsWellFormed limit order m → IsObject m o → IsLaidObject order m o
laid_object order m o w h =
    let c : IsIn o.cache m.caches = contains_in m.caches o.cache h.cache_in in
    let s : IsIn o.slab o.cache.slabs = contains_in o.cache.slabs o.slab h.slab_in in
    let i : IsIn (laid o.cache o.slab) (all_laid m.caches) = in_all_laid o.cache o.slab m.caches c s in
    record { cache_in = c; slab_in = s; laid_in = i; cut = each_in IsCutLaid (laid o.cache o.slab) (all_laid m.caches) (laid_out order m w).cut i; index_in = h.index_in }

byte_of : (o : Object) (place : ℕ) → o.index < (layout o.cache).count → HasByte o place → IsByte (laid o.cache o.slab) o.index (place - place_of o) place
byte_of o place lt (low, high) = record { index_in = lt; byte_in = omega (arith, low, high); at = omega (arith, low) }

same_object : (c d : Cache) (s t : Slab) (i j : ℕ) → c ≡ d → s ≡ t → i ≡ j
    → ◌≡◌ {A = Object} (record { cache = c; slab = s; index = i }) (record { cache = d; slab = t; index = j })
same_object c d s t i j e f g = cc

pub objects_apart : ObjectsApart
objects_apart limit order m w a b ha hb place in_a in_b =
    let la : IsLaidObject order m a = laid_object order m a w ha in
    let lb : IsLaidObject order m b = laid_object order m b w hb in
    let k : Laid = laid a.cache a.slab in
    let l : Laid = laid b.cache b.slab in
    let p : IsByteOf k a.index (place - place_of a) place = byte_is_of k la.cut a.index (place - place_of a) place (byte_of a place la.index_in in_a) in
    let q : IsByteOf l b.index (place - place_of b) place = byte_is_of l lb.cut b.index (place - place_of b) place (byte_of b place lb.index_in in_b) in
    let one : k ≡ l = one_holder laid_block (all_laid m.caches) k l (place / FRAME_BYTES) (laid_out order m w).apart_slabs la.laid_in lb.laid_in (in_block-true place (laid_block k) p.in_slab) (in_block-true place (laid_block l) q.in_slab) in
    let caches : a.cache ≡ b.cache = one_key (λ c. c.number) 0 m.caches a.cache b.cache w.caches_rise la.cache_in lb.cache_in (ap (λ x. x.number) one) in
    let slabs : a.slab ≡ b.slab = one_key (λ s. s.first) 0 b.cache.slabs a.slab b.slab (each_in IsCache b.cache m.caches w.caches lb.cache_in).slabs_rise (subst (λ c. IsIn a.slab c.slabs) caches la.slab_in) lb.slab_in (ap (λ x. x.first) one) in
    let index : a.index ≡ b.index = sym p.index_is ∙ (ap (λ x. (place - FRAME_BYTES * x.first - x.colour) / (laid_layout x).chunk) one ∙ q.index_is) in
    same_object a.cache b.cache a.slab b.slab a.index b.index caches slabs index

pub records_free : RecordsFree
records_free limit order m w o h small place in_o =
    let l : IsLaidObject order m o = laid_object order m o w h in
    let k : Laid = laid o.cache o.slab in
    let p : IsByteOf k o.index (place - place_of o) place = byte_is_of k l.cut o.index (place - place_of o) place (byte_of o place l.index_in in_o) in
    let fit : IsFit (laid_layout k) k.colour = fit_of k l.cut in
    (omega (arith, in_o.0), omega (arith, p.below, (fit.small small).1))
