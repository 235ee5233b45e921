-- The live objects of each slab lie on a grid that has space for all objects of the slab. Each step keeps this. A slab that is
-- not full has a place for one more object.
use Rattle.std.proofs.Common.{◌≡◌, ℕ, zero, suc, ◌+◌, ◌-◌, ◌*◌, ◌/◌, ◌%◌, ◌^◌, ◌<◌, ◌≤◌, Bool, true, false, not, ◌&&◌, ◌||◌, List, [], ◌∷◌, length, refl, sym, ap, ◌∙◌, subst, inl, inr, arith}
use Rattle.std.specs.Prelude.{if◌then◌else◌, filter, nat_le, nat_lt, ◌==◌}
use Rattle.std.specs.List.{list_any, list_all}
use Rattle.std.proofs.Math.Nat.{add-mul-mod_self_right, mul-le-mul_right, mul-mod_left, mul-div_cancel}
use Rattle.std.proofs.lemmas.Nat.{div-add-mod', row_fits}
use Rattle.std.proofs.lemmas.List.Filters.{length-filter_both}
use Rattle.std.proofs.lemmas.Bool.{false≢true, and_parts, and_from, or_left, or_right, le-leb, leb-true, lt-ltb, ltb-true, eq-eqb, eqb-true, ne_eqb, cases_eq, cases_lt, false_from_ne_true}
use Rattle.model_core.specs.Blocks.{Block, block, HasFrame, around}
use Rattle.model_core.specs.Choice.{is_any_below}
use Rattle.model_core.specs.Layouts.{is_alignment}
use Rattle.model_core.specs.Machine.{put_rising}
use Rattle.model_core.proofs.Layouts.{for_alignment}
use Rattle.model_core.specs.Elements.{IsIn}
use Rattle.model_core.proofs.Lists.{filter_in, in_filter, some_any, any_in}
use Rattle.model_core.proofs.BlocksByNumber.{number_is, first_is, number_of_frame, any_below_tells, any_below_is}
use Rattle.promise_core.specs.Lying.{IsFitted, live_of_slab, OnGrid, HasGrid, IsGridded}
use Rattle.promise_core.specs.Holdings.{KnownCache, Holdings, slab_around, can_stand, are_apart, is_grid, can_be_taken}
use Rattle.promise_core.proofs.Steps.{in_put}

-- Lists

pub listed : {X : Type 0} (x : X) (xs : List X) → IsIn x xs → 1 ≤ length xs
listed x [] i = elim i [ ]
listed x (y ∷ ys) i = omega arith

pub all_in : {X : Type 0} (p : X → Bool) (x : X) (xs : List X) → list_all p xs ≡ true → IsIn x xs → p x ≡ true
all_in p x [] e i = elim i [ ]
all_in p x (y ∷ ys) e (inl same) = subst (λ z. p z ≡ true) same (and_parts _ _ e).0
all_in p x (y ∷ ys) e (inr i) = all_in p x ys (and_parts _ _ e).1 i

pub all_from : {X : Type 0} (p : X → Bool) (xs : List X) → ((x : X) → IsIn x xs → p x ≡ true) → list_all p xs ≡ true
all_from p [] f = refl
all_from p (x ∷ xs) f = and_from (p x) (list_all p xs) (f x (inl refl)) (all_from p xs (λ y i. f y (inr i)))

-- filtering a list by q does not increase the number of its elements that pass p
fewer_left : {X : Type 0} (p q : X → Bool) (xs : List X) → length (filter p (filter q xs)) ≤ length (filter p xs)
fewer_left p q [] = omega arith
fewer_left {X} p q (x ∷ xs) = go (p x) refl (q x) (fewer_left p q xs)
  where
    go : (a : Bool) → p x ≡ a → (b : Bool) → length (filter p (filter q xs)) ≤ length (filter p xs)
        → length (filter p (if b then x ∷ filter q xs else filter q xs)) ≤ length (if a then x ∷ filter p xs else filter p xs)
    go true is true e = let one : length (filter p (x ∷ filter q xs)) ≡ suc (length (filter p (filter q xs))) = ap (λ b. length (if b then x ∷ filter p (filter q xs) else filter p (filter q xs))) is in omega (arith, one, e)
    go true is false e = omega (arith, e)
    go false is true e = let one : length (filter p (x ∷ filter q xs)) ≡ length (filter p (filter q xs)) = ap (λ b. length (if b then x ∷ filter p (filter q xs) else filter p (filter q xs))) is in omega (arith, one, e)
    go false is false e = e

-- inserting `x` in rising order gives as many elements that pass p as putting `x` in front
put_passes : (p : ℕ → Bool) (x : ℕ) (xs : List ℕ) → length (filter p (put_rising (λ y. y) x xs)) ≡ length (filter p (x ∷ xs))
put_passes p x [] = refl
put_passes p x (y ∷ ys) = go (nat_lt x y) (p x) (p y) refl refl (put_passes p x ys)
  where
    go : (t a b : Bool) → p x ≡ a → p y ≡ b → length (filter p (put_rising (λ z. z) x ys)) ≡ length (filter p (x ∷ ys))
        → length (filter p (if t then x ∷ (y ∷ ys) else y ∷ put_rising (λ z. z) x ys)) ≡ length (filter p (x ∷ (y ∷ ys)))
    go true a b is_a is_b e = refl
    go false true true is_a is_b e = rw (is_a, is_b) (ap suc (rw (is_a) at e))
    go false true false is_a is_b e = rw (is_a, is_b) (rw (is_a) at e)
    go false false true is_a is_b e = rw (is_a, is_b) (ap suc (rw (is_a) at e))
    go false false false is_a is_b e = rw (is_a, is_b) (rw (is_a) at e)

-- if n places differ from each other and fewer than n places are used, one of the n places is not used
pub free_one : (at : ℕ → ℕ) → ((i j : ℕ) → i < j → at i ≡ at j → ⊥) → (n : ℕ) (used : List ℕ) → length used < n
    → (j : ℕ) × (j < n) × (list_any (λ p. p == at j) used ≡ false)
free_one at differ zero used few = absurd (omega (arith, few))
free_one at differ (suc n) used few = go (list_any (λ p. p == at n) used) refl (free_one at differ n left)
  where
    left : List ℕ
    left = filter (λ p. not (p == at n)) used

    go : (b : Bool) → list_any (λ p. p == at n) used ≡ b → (length left < n → (j : ℕ) × (j < n) × (list_any (λ p. p == at j) left ≡ false))
        → (j : ℕ) × (j < suc n) × (list_any (λ p. p == at j) used ≡ false)
    go false e below = (n, omega arith, e)
    go true e below =
        let x : (y : ℕ) × IsIn y used × ((y == at n) ≡ true) = some_any (λ p. p == at n) used e in
        let both : length (filter (λ p. p == at n) used) + length left ≡ length used = length-filter_both (λ p. p == at n) (λ p. not (p == at n)) (λ y. refl) used in
        let one : 1 ≤ length (filter (λ p. p == at n) used) = listed x.0 (filter (λ p. p == at n) used) (in_filter (λ p. p == at n) x.0 used x.1 x.2) in
        let r : (j : ℕ) × (j < n) × (list_any (λ p. p == at j) left ≡ false) = below (omega (arith, both, one, few)) in (
          r.0,
          omega (arith, r.1),
          false_from_ne_true (list_any (λ p. p == at r.0) used) (λ on.
              let y : (z : ℕ) × IsIn z used × ((z == at r.0) ≡ true) = some_any (λ p. p == at r.0) used on in
              false≢true (sym r.2 ∙ any_in (λ p. p == at r.0) y.0 left (in_filter (λ p. not (p == at n)) y.0 used y.1
              (ap not (ne_eqb y.0 (at n) (λ same. differ r.0 n r.1 (sym (eqb-true y.0 (at r.0) y.2) ∙ same))))) y.2)),
        )

-- Multiples of an alignment

regroup : (a b c : ℕ) → a * (b * c) ≡ a * b * c
regroup a b c = omega arith

stepped : (align chunk x j : ℕ) → chunk % align ≡ 0 → (x + j * chunk) % align ≡ x % align
stepped align chunk x j e =
    let split : chunk / align * align + chunk % align ≡ chunk = div-add-mod' chunk align in
    let is : chunk ≡ chunk / align * align = omega (arith, split, e) in
    ap (λ n. (x + j * n) % align) is ∙ (ap (λ n. (x + n) % align) (regroup j (chunk / align) align) ∙ add-mul-mod_self_right x (j * (chunk / align)) align)

frame_aligned : (align : ℕ) → is_alignment align ≡ true → (f : ℕ) → 4096 * f % align ≡ 0
frame_aligned = for_alignment (λ a. (f : ℕ) → 4096 * f % a ≡ 0) (λ f. omega arith) (λ f. omega arith) (λ f. omega arith) (λ f. omega arith) (λ f. omega arith) (λ f. omega arith)

from_rest : (p origin n r : ℕ) → origin ≤ p → r ≡ 0 → n + r ≡ p - origin → p ≡ origin + n
from_rest p origin n r low none split = omega (arith, low, none, split)

-- a cache whose layout fits and that has no live objects has a grid in the slab at each frame: the one that begins at the slab's
-- first byte
pub new_gridded : (order : ℕ) (c : KnownCache) → c.live ≡ [] → IsFitted order c → IsGridded order c
new_gridded order c empty fit = record { fitted = fit; grids = grids }
  where
    grids : (f : ℕ) → HasGrid c f
    grids f =
        let row : (c.count - 1) * c.chunk + c.chunk ≤ c.count * c.chunk = row_fits (c.count - 1) c.chunk c.count c.chunk (omega (arith, fit.some)) (omega arith) in
        record {
          origin = 4096 * f;
          aligned = frame_aligned c.align fit.aligned f;
          low = omega arith;
          high = omega (arith, row, fit.chunked, fit.room);
          on = λ p i e. elim (subst (IsIn p) empty i) [ ];
          few = let none : length (live_of_slab c f) ≡ 0 = ap (λ ps. length (filter (λ p. (slab_around c p).first == f) ps)) empty in omega (arith, none);
        }

fitted_with : (order : ℕ) (c : KnownCache) (live : List ℕ) → IsFitted order c → IsFitted order (record c { live = live })
fitted_with order c live f =
    record { of_slot = f.of_slot; sized = f.sized; chunked = f.chunked; some = f.some; room = f.room; steps = f.steps; aligned = f.aligned }

-- a cache still has grids if some of its objects are given back
pub given_gridded : (order : ℕ) (c : KnownCache) (test : ℕ → Bool) → IsGridded order c → IsGridded order (record c { live = filter test c.live })
given_gridded order c test g = record {
  fitted = fitted_with order c (filter test c.live) g.fitted;
  grids = λ f. record {
    origin = (g.grids f).origin;
    aligned = (g.grids f).aligned;
    low = (g.grids f).low;
    high = (g.grids f).high;
    on = λ p i e. (g.grids f).on p (filter_in test p c.live i).0 e;
    few = omega (arith, (g.grids f).few, fewer_left (λ p. (slab_around c p).first == f) test c.live);
  };
}

-- a cache still has grids after an object is taken at a place at which it can be taken
module _ (order : ℕ) (h : Holdings) (c : KnownCache) (place : ℕ) (g : IsGridded order c) (can : can_be_taken order h c place ≡ true) where
  abbrev slab : Block
  slab = slab_around c place

  abbrev after : KnownCache
  after = record c { live = put_rising (λ p. p) place c.live }

  record IsTakable : Type 0 where
    aligned : place % c.align ≡ 0
    few : length (live_of_slab c slab.first) < c.count
    index : ℕ
    below : index < c.count
    least : index * c.chunk ≤ place
    grid : is_grid c slab (place - index * c.chunk) (live_of_slab c slab.first) ≡ true

  takable : IsTakable
  unfolding can_be_taken
  takable =
      let p = and_parts _ _ can in
      let q = and_parts _ _ p.1 in
      let i = any_below_tells (λ i. nat_le (i * c.chunk) place && is_grid c slab (place - i * c.chunk) (live_of_slab c slab.first)) c.count (and_parts _ _ q.1).1 in
      let r = and_parts _ _ i.2 in
      record {
        aligned = eqb-true (place % c.align) 0 (and_parts _ _ p.0).0;
        few = ltb-true (length (live_of_slab c slab.first)) c.count q.0;
        index = i.0;
        below = i.1;
        least = leb-true (i.0 * c.chunk) place r.0;
        grid = r.1;
      }

  abbrev origin : ℕ
  origin = place - takable.index * c.chunk

  from_origin : origin + takable.index * c.chunk ≡ place
  from_origin = omega (arith, takable.least)

  old_on : (p : ℕ) → IsIn p c.live → (slab_around c p).first ≡ slab.first → OnGrid c origin p
  old_on p i e =
      let on : (nat_le origin p && ((p - origin) % c.chunk == 0 && nat_lt ((p - origin) / c.chunk) c.count)) ≡ true = all_in (λ p. nat_le origin p && ((p - origin) % c.chunk == 0 && nat_lt ((p - origin) / c.chunk) c.count)) p (live_of_slab c slab.first)
      (and_parts _ _ takable.grid).1 (in_filter (λ p. (slab_around c p).first == slab.first) p c.live i (eq-eqb (slab_around c p).first slab.first e)) in
      let low : origin ≤ p = leb-true origin p (and_parts (nat_le origin p) _ on).0 in
      let rest : (((p - origin) % c.chunk == 0) ≡ true) × (nat_lt ((p - origin) / c.chunk) c.count ≡ true) = and_parts _ _ (and_parts (nat_le origin p) _ on).1 in
      let whole : (p - origin) % c.chunk ≡ 0 = eqb-true ((p - origin) % c.chunk) 0 rest.0 in
      let split : (p - origin) / c.chunk * c.chunk + (p - origin) % c.chunk ≡ p - origin = div-add-mod' (p - origin) c.chunk in
      ((p - origin) / c.chunk, ltb-true ((p - origin) / c.chunk) c.count rest.1, from_rest p origin ((p - origin) / c.chunk * c.chunk) ((p - origin) % c.chunk) low whole split)

  same_slab : HasGrid after slab.first
  same_slab =
      let fits = and_parts _ _ (and_parts _ _ takable.grid).0 in
      record {
        origin = origin;
        aligned = sym (stepped c.align c.chunk origin takable.index g.fitted.steps) ∙ (ap (λ n. n % c.align) from_origin ∙ takable.aligned);
        low = leb-true (4096 * slab.first) origin fits.0;
        high = leb-true (origin + (c.count - 1) * c.chunk + c.size) (4096 * (slab.first + 2 ^ c.order)) fits.1;
        on = λ p i e. elim (in_put (λ x. x) place p c.live i) [
          | inl same ↦ (takable.index, takable.below, sym same ∙ sym from_origin)
          | inr old ↦ old_on p old e
        ];
        few =
            let put : length (filter (λ p. (slab_around c p).first == slab.first) (put_rising (λ p. p) place c.live))
            ≡ length (filter (λ p. (slab_around c p).first == slab.first) (place ∷ c.live)) = put_passes (λ p. (slab_around c p).first == slab.first) place c.live in
            let one : length (filter (λ p. (slab_around c p).first == slab.first) (place ∷ c.live)) ≡ suc (length (live_of_slab c slab.first)) =
            ap (λ b. length (if b then place ∷ live_of_slab c slab.first else live_of_slab c slab.first)) (eq-eqb slab.first slab.first refl) in
            omega (arith, put, one, takable.few);
      }

  other_slab : (f : ℕ) → (slab.first ≡ f → ⊥) → HasGrid after f
  other_slab f other =
      let old : HasGrid c f = g.grids f in
      record {
        origin = old.origin;
        aligned = old.aligned;
        low = old.low;
        high = old.high;
        on = λ p i e. elim (in_put (λ x. x) place p c.live i) [
          | inl same ↦ absurd (other (ap (λ x. (slab_around c x).first) same ∙ e))
          | inr is_old ↦ old.on p is_old e
        ];
        few =
            let put : length (filter (λ p. (slab_around c p).first == f) (put_rising (λ p. p) place c.live))
            ≡ length (filter (λ p. (slab_around c p).first == f) (place ∷ c.live)) = put_passes (λ p. (slab_around c p).first == f) place c.live in
            let none : length (filter (λ p. (slab_around c p).first == f) (place ∷ c.live)) ≡ length (live_of_slab c f) =
            ap (λ b. length (if b then place ∷ live_of_slab c f else live_of_slab c f)) (ne_eqb slab.first f other) in
            omega (arith, put, none, old.few);
      }

  pub taken_gridded : IsGridded order (record c { live = put_rising (λ p. p) place c.live })
  taken_gridded = record {
    fitted = fitted_with order c (put_rising (λ p. p) place c.live) g.fitted;
    grids = λ f. elim (cases_eq slab.first f) [ inl same ↦ subst (HasGrid after) same same_slab | inr other ↦ other_slab f other ];
  }

-- A place for one more object

-- for each frame of an aligned block, `around` returns this block
pub around_is : (b : Block) (x : ℕ) → b.first % 2 ^ b.order ≡ 0 → HasFrame b x → around x b.order ≡ b
around_is b x aligned has = ap (λ f. block f b.order)
    (ap (λ n. n * 2 ^ b.order) (sym (number_is b.order x) ∙ number_of_frame b.first b.order x aligned has) ∙ first_is b.first b.order aligned)

-- the test of `can_be_taken`, but with block b as the slab, instead of the slab that contains the place
abbrev is_takable : ℕ → Holdings → KnownCache → ℕ → Block → Bool
is_takable order h c place b = (place % c.align == 0 && (nat_lt 0 (length (live_of_slab c b.first)) || can_stand order h b))
    && (nat_lt (length (live_of_slab c b.first)) c.count && (list_all (are_apart c place) (live_of_slab c b.first)
    && is_any_below (λ i. nat_le (i * c.chunk) place && is_grid c b (place - i * c.chunk) (live_of_slab c b.first)) c.count))

module _ (order : ℕ) (h : Holdings) (c : KnownCache) (g : IsGridded order c) (f : ℕ) (begins : f % 2 ^ c.order ≡ 0)
    (free : length (live_of_slab c f) < c.count) (stands : (nat_lt 0 (length (live_of_slab c f)) || can_stand order h (block f c.order)) ≡ true) where
  abbrev grid : HasGrid c f
  grid = g.grids f

  further : (i j : ℕ) → i < j → grid.origin + i * c.chunk + c.size ≤ grid.origin + j * c.chunk
  further i j lt = let row : i * c.chunk + c.chunk ≤ j * c.chunk = row_fits i c.chunk j c.chunk lt (omega arith) in omega (arith, row, g.fitted.chunked)

  spot : (j : ℕ) × (j < c.count) × (list_any (λ p. p == grid.origin + j * c.chunk) (live_of_slab c f) ≡ false)
  spot = free_one (λ j. grid.origin + j * c.chunk) (λ i j lt e. let more = further i j lt in omega (arith, e, more, g.fitted.sized)) c.count (live_of_slab c f) free

  abbrev place : ℕ
  place = grid.origin + spot.0 * c.chunk

  inside : HasFrame (block f c.order) (place / 4096)
  inside =
      let row : spot.0 * c.chunk ≤ (c.count - 1) * c.chunk = mul-le-mul_right c.chunk (omega (arith, spot.1)) in
      let low : 4096 * f ≤ place = omega (arith, grid.low) in
      let high : place < 4096 * (f + 2 ^ c.order) = omega (arith, row, grid.high, g.fitted.sized) in
      (omega (arith, low), omega (arith, high))

  here : slab_around c place ≡ block f c.order
  here = around_is (block f c.order) (place / 4096) begins inside

  on_grid : (p : ℕ) → IsIn p (live_of_slab c f) → OnGrid c grid.origin p
  on_grid p i = let at = filter_in (λ p. (slab_around c p).first == f) p c.live i in grid.on p at.0 (eqb-true (slab_around c p).first f at.1)

  apart : (p : ℕ) → IsIn p (live_of_slab c f) → are_apart c place p ≡ true
  apart p i =
      let j = on_grid p i in
      elim (cases_lt j.0 spot.0) [
        | inl lt ↦ let more = further j.0 spot.0 lt in or_right (nat_le (place + c.size) p) (nat_le (p + c.size) place) (le-leb (p + c.size) place (omega (arith, more, j.2)))
        | inr le ↦ elim (cases_eq j.0 spot.0) [
          | inl same ↦ absurd (false≢true (sym spot.2 ∙ any_in (λ p. p == place) p (live_of_slab c f) i (eq-eqb p place (j.2 ∙ ap (λ n. grid.origin + n * c.chunk) same))))
          | inr other ↦ let more = further spot.0 j.0 (omega (arith, le, other)) in
              or_left (nat_le (place + c.size) p) (nat_le (p + c.size) place) (le-leb (place + c.size) p (omega (arith, more, j.2)))
        ]
      ]

  steps_on : (p : ℕ) → IsIn p (live_of_slab c f) → (nat_le grid.origin p && ((p - grid.origin) % c.chunk == 0 && nat_lt ((p - grid.origin) / c.chunk) c.count)) ≡ true
  steps_on p i =
      let j = on_grid p i in
      let rest : p - grid.origin ≡ j.0 * c.chunk = omega (arith, j.2) in
      let some : 0 < c.chunk = omega (arith, g.fitted.sized, g.fitted.chunked) in
      and_from _ _ (le-leb grid.origin p (omega (arith, j.2))) (and_from _ _
      (eq-eqb ((p - grid.origin) % c.chunk) 0 (ap (λ n. n % c.chunk) rest ∙ mul-mod_left j.0 c.chunk))
      (lt-ltb ((p - grid.origin) / c.chunk) c.count (subst (λ n. n < c.count) (sym (ap (λ n. n / c.chunk) rest ∙ mul-div_cancel j.0 some)) j.1)))

  on_one : is_grid c (block f c.order) grid.origin (live_of_slab c f) ≡ true
  on_one = and_from _ _
      (and_from _ _ (le-leb (4096 * f) grid.origin grid.low) (le-leb (grid.origin + (c.count - 1) * c.chunk + c.size) (4096 * (f + 2 ^ c.order)) grid.high))
      (all_from (λ p. nat_le grid.origin p && ((p - grid.origin) % c.chunk == 0 && nat_lt ((p - grid.origin) / c.chunk) c.count)) (live_of_slab c f) steps_on)

  pub free_place : (p : ℕ) × (can_be_taken order h c p ≡ true)
  unfolding can_be_taken
  free_place = (
    place,
    ap (is_takable order h c place) here
        ∙ and_from _ _ (and_from _ _ (eq-eqb (place % c.align) 0 (stepped c.align c.chunk grid.origin spot.0 g.fitted.steps ∙ grid.aligned)) stands)
        (and_from _ _ (lt-ltb (length (live_of_slab c f)) c.count free) (and_from _ _ (all_from (are_apart c place) (live_of_slab c f) apart)
        (any_below_is (λ i. nat_le (i * c.chunk) place && is_grid c (block f c.order) (place - i * c.chunk) (live_of_slab c f)) c.count spot.0 spot.1
        (and_from _ _ (le-leb (spot.0 * c.chunk) place (omega arith))
        (ap (λ n. is_grid c (block f c.order) n (live_of_slab c f)) (omega arith) ∙ on_one))))),
  )
