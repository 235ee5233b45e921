-- Marking the frames of a slot that lie in slabs of a cache: a walk over the live objects, one slab at a time.
use Rattle.std.proofs.Common.{◌≡◌, ℕ, ◌+◌, ◌*◌, ◌/◌, ◌^◌, ◌<◌, ◌≤◌, Bool, true, false, cond, List, [], ◌∷◌, length, get_or, drop, refl, sym, ap, ◌∙◌, arith}
use Rattle.std.specs.Prelude.{◌||◌, nat_lt}
use Rattle.std.specs.List.{list_any, prefix_len, AllByRecursion as Each}
use Rattle.std.specs.List.Sorted.{IsNonDecreasing}
use Rattle.std.proofs.Math.Bool.{or_assoc}
use Rattle.std.proofs.Math.Nat.{mul-le-mul_right}
use Rattle.std.proofs.Math.Pow.{shr_mono}
use Rattle.std.proofs.lemmas.List.Folds.{list_any_none}
use Rattle.std.proofs.lemmas.Bool.{le-ltb, lt-ltb, ltb-true, and_right, false≢true}
use Rattle.model_core.specs.Blocks.{Block, block}
use Rattle.model_core.specs.Operations.{overlaps}
use Rattle.promise_core.specs.Holdings.{KnownCache, slab_around}
use Rattle.known_holdings.proofs.RisingKeys.{behind_cons, each_from}
use Rattle.known_holdings.proofs.SlabPlaces.{first_of, place_inside, first_same, first_rises, ends_before}

-- whether block b contains frame x
abbrev pub has_over_block : ℕ → Block → Bool
has_over_block x b = overlaps (block x 0) b

-- whether the slab of cache c around place p contains frame x
abbrev pub has_over : KnownCache → ℕ → ℕ → Bool
has_over c x p = overlaps (block x 0) (slab_around c p)

-- Here `a` is the place where the aligned block of the cache's order that contains frame `first` begins. The slabs around live
-- objects before `a` end before frame `first`. So a search for a slab that contains frame `first` or a later frame may skip these
-- objects.
pub any_from : (c : KnownCache) (first x a : ℕ) (live : List ℕ) → a ≡ 4096 * (first / 2 ^ c.order * 2 ^ c.order) → first ≤ x
    → list_any (has_over c x) (drop (prefix_len (λ p. nat_lt p a) live) live) ≡ list_any (has_over c x) live
any_from c first x a [] is_a from = refl
any_from c first x a (p ∷ live) is_a from = ap (list_any (has_over c x)) (behind_cons (λ q. nat_lt q a) p live) ∙ go (nat_lt p a) refl (any_from c first x a live is_a from)
  where
    low : a ≤ 4096 * (x / 2 ^ c.order * 2 ^ c.order)
    low =
        let le : first / 2 ^ c.order * 2 ^ c.order ≤ x / 2 ^ c.order * 2 ^ c.order = mul-le-mul_right (2 ^ c.order) (shr_mono c.order from) in
        omega (arith, is_a, le)

    go : (t : Bool) → nat_lt p a ≡ t → list_any (has_over c x) (drop (prefix_len (λ q. nat_lt q a) live) live) ≡ list_any (has_over c x) live
        → list_any (has_over c x) (cond t (drop (prefix_len (λ q. nat_lt q a) live) live) (p ∷ live)) ≡ list_any (has_over c x) (p ∷ live)
    go true e rest =
        let before : p < a = ltb-true _ _ e in
        rest ∙ sym (ap (λ t. t || list_any (has_over c x) live) (ends_before c (block x 0) (4096 * (x / 2 ^ c.order * 2 ^ c.order)) p refl (omega (arith, before, low))))
    go false e rest = refl

-- if `test` has result v for each item that passes p, a search whose result so far is v may skip the prefix of items that pass p
same_passed : (test p : ℕ → Bool) (v : Bool) (xs : List ℕ) → Each (λ x. p x ≡ true → test x ≡ v) xs
    → (v || list_any test (drop (prefix_len p xs) xs)) ≡ (v || list_any test xs)
same_passed test p v [] all = refl
same_passed test p v (x ∷ xs) (same, all) = ap (λ ys. v || list_any test ys) (behind_cons p x xs) ∙ go (p x) refl (same_passed test p v xs all)
  where
    absorb : (v w r : Bool) → w ≡ v → (v || r) ≡ (v || (w || r))
    absorb true w r e = refl
    absorb false w r e = sym (ap (λ t. t || r) e)

    go : (t : Bool) → p x ≡ t → (v || list_any test (drop (prefix_len p xs) xs)) ≡ (v || list_any test xs)
        → (v || list_any test (cond t (drop (prefix_len p xs) xs) (x ∷ xs))) ≡ (v || list_any test (x ∷ xs))
    go true e rest = rest ∙ absorb v (test x) (list_any test xs) (same e)
    go false e rest = refl

-- `rest` has ascending places, and `b` is the end of the slab around the first place of `rest`. All places of `rest` below `b`
-- are in this slab.
module _ (c : KnownCache) (first b : ℕ) (rest : List ℕ) (rise : IsNonDecreasing rest) (some : 0 < length rest) (here : first ≡ get_or rest 0 first)
    (is_b : b ≡ 4096 * ((slab_around c first).first + 2 ^ c.order)) where
  later : (k d : ℕ) → k < length rest → first ≤ get_or rest k d
  later k d lt = let up = rise 0 k d (omega arith) lt in let same : get_or rest 0 d ≡ get_or rest 0 first = one rest some in omega (arith, up, same, here)
    where
      one : (xs : List ℕ) → 0 < length xs → get_or xs 0 d ≡ get_or xs 0 first
      one [] none = absurd (omega arith)
      one (x ∷ xs) some = refl

  pub slab_passed : (x : ℕ) (marked : Bool) → ((marked || has_over c x first) || list_any (has_over c x) (drop (prefix_len (λ p. nat_lt p b) rest) rest))
      ≡ (marked || list_any (has_over c x) rest)
  slab_passed x marked = or_assoc marked (has_over c x first) _
      ∙ ap (λ t. marked || t) (same_passed (has_over c x) (λ p. nat_lt p b) (has_over c x first) rest (each_from _ rest same_slab) ∙ counted rest here some)
    where
      same_slab : (k d : ℕ) → k < length rest → nat_lt (get_or rest k d) b ≡ true → has_over c x (get_or rest k d) ≡ has_over c x first
      same_slab k d lt e =
          let q : ℕ = get_or rest k d in
          let below : q < b = ltb-true _ _ e in
          let up = later k d lt in
          let in_slab = place_inside c.order first in
          ap (λ n. overlaps (block x 0) (block n c.order)) (first_same c.order q first (omega (arith, in_slab.0, up)) (omega (arith, below, is_b)))

      counted : (xs : List ℕ) → first ≡ get_or xs 0 first → 0 < length xs → (has_over c x first || list_any (has_over c x) xs) ≡ list_any (has_over c x) xs
      counted [] is none = absurd (omega arith)
      counted (y ∷ ys) is some = ap (λ p. has_over c x p || (has_over c x y || list_any (has_over c x) ys)) is ∙ twice (has_over c x y)
        where
          twice : (t : Bool) → (t || (t || list_any (has_over c x) ys)) ≡ (t || list_any (has_over c x) ys)
          twice true = refl
          twice false = refl

  pub goes_on : 0 < prefix_len (λ p. nat_lt p b) rest
  goes_on = go rest here some
    where
      go : (xs : List ℕ) → first ≡ get_or xs 0 first → 0 < length xs → 0 < prefix_len (λ p. nat_lt p b) xs
      go [] is none = absurd (omega arith)
      go (y ∷ ys) is some = next (nat_lt y b) (lt-ltb y b (let in_slab = place_inside c.order first in omega (arith, in_slab.1, is_b, is)))
        where
          next : (t : Bool) → t ≡ true → 0 < cond t (1 + prefix_len (λ p. nat_lt p b) ys) 0
          next true e = omega arith
          next false e = absurd (false≢true e)

  -- if the slab around the first place begins after frame x, no slab around a place of `rest` contains frame x
  pub none_behind : (x : ℕ) → x < (slab_around c first).first → list_any (has_over c x) rest ≡ false
  none_behind x behind = list_any_none (has_over c x) rest (λ k d lt.
      let rises = first_rises c.order first (get_or rest k d) (later k d lt) in
      and_right _ _ (le-ltb (first_of c.order (get_or rest k d)) (x + 2 ^ 0) (omega (arith, rises, behind))))
