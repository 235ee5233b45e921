-- Which slab a place is in, and which slabs overlap a block.
use Rattle.std.proofs.Common.{◌≡◌, ℕ, zero, suc, ◌+◌, ◌-◌, ◌*◌, ◌/◌, ◌^◌, ◌<◌, ◌≤◌, Bool, true, false, ltb, List, min, cond, Option, Some, None, inl, inr, refl, sym, ap, ◌∙◌, subst, arith}
use Rattle.std.specs.Prelude.{◌==◌, ◌&&◌, ◌||◌, nat_le, nat_lt, find}
use Rattle.std.specs.Option.{is_some, option_map_or}
use Rattle.std.specs.List.{list_any}
use Rattle.std.specs.List.Sorted.{IsNonDecreasing}
use Rattle.std.proofs.Math.Nat.{div-mul-le_self, lt-div-mul-add, mul-le-mul_right, lt_of_mul-lt-mul_right}
use Rattle.std.proofs.lemmas.Nat.{pow_pos, div_below, le-div}
use Rattle.std.proofs.lemmas.Bool.{eq-eqb, ne_eqb, lt-ltb, le-ltb, le-leb, lt-leb, ltb-false, leb-true, and_left, and_right, and_from, and_parts, cases_lt, false_from_ne_true, false≢true}
use Rattle.model_core.specs.Blocks.{Block}
use Rattle.model_core.specs.Choice.{is_any_below}
use Rattle.model_core.specs.Operations.{overlaps}
use Rattle.model_core.specs.Reach.{is_within}
use Rattle.promise_core.specs.Holdings.{KnownCache, slab_around, is_grid}
use Rattle.known_holdings.specs.Inside.{IsObjectAt}
use Rattle.known_holdings.proofs.RisingKeys.{first_decides, any_found}

-- the first frame of the aligned block of order k that contains the place
abbrev pub first_of : ℕ → ℕ → ℕ
first_of k place = place / 4096 / 2 ^ k * 2 ^ k

pub place_inside : (k p : ℕ) → (4096 * first_of k p ≤ p) × (p < 4096 * (first_of k p + 2 ^ k))
place_inside k p =
    let low : first_of k p ≤ p / 4096 = div-mul-le_self (p / 4096) (2 ^ k) in
    let high : p / 4096 < first_of k p + 2 ^ k = lt-div-mul-add (pow_pos k) in
    (omega (arith, low), omega (arith, high))

-- if a * n is less than (m + 1) * n, then a is at most m
not_past : (a m n : ℕ) → a * n < m * n + n → a ≤ m
not_past a m n lt =
    let more : m * n + n ≡ (m + 1) * n = omega arith in
    let below : a < m + 1 = lt_of_mul-lt-mul_right n (subst (λ (x : ℕ). a * n < x) more lt) in
    omega arith

pub first_rises : (k p q : ℕ) → p ≤ q → first_of k p ≤ first_of k q
first_rises k p q le =
    let low : first_of k p ≤ p / 4096 = div-mul-le_self (p / 4096) (2 ^ k) in
    let high : q / 4096 < first_of k q + 2 ^ k = lt-div-mul-add (pow_pos k) in
    mul-le-mul_right (2 ^ k) (not_past (p / 4096 / 2 ^ k) (q / 4096 / 2 ^ k) (2 ^ k) (omega (arith, low, high)))

-- if place p is in the aligned block of order k around place q, the block of order k around p has the same first frame
pub first_same : (k p q : ℕ) → 4096 * first_of k q ≤ p → p < 4096 * (first_of k q + 2 ^ k) → first_of k p ≡ first_of k q
first_same k p q from below =
    let low : first_of k p ≤ p / 4096 = div-mul-le_self (p / 4096) (2 ^ k) in
    let high : p / 4096 < first_of k p + 2 ^ k = lt-div-mul-add (pow_pos k) in
    let up = not_past (p / 4096 / 2 ^ k) (q / 4096 / 2 ^ k) (2 ^ k) (omega (arith, low, below)) in
    let down = not_past (q / 4096 / 2 ^ k) (p / 4096 / 2 ^ k) (2 ^ k) (omega (arith, high, from)) in
    let same : p / 4096 / 2 ^ k ≡ q / 4096 / 2 ^ k = omega (arith, up, down) in
    ap (λ (n : ℕ). n * 2 ^ k) same

-- Suppose that the slab around `place` has the places from `a` to `b` - 1. Then place p is one of these places exactly if the
-- slab around p has the same first frame.
pub in_slab : (c : KnownCache) (place a b p : ℕ) → a ≡ 4096 * (slab_around c place).first → b ≡ 4096 * ((slab_around c place).first + 2 ^ c.order)
    → (nat_le a p && nat_lt p b) ≡ ((slab_around c p).first == (slab_around c place).first)
in_slab c place a b p is_a is_b = elim (cases_lt p a) [
  | inl before ↦ and_left _ _ (lt-leb a p before) ∙ sym (ne_eqb _ _ (λ e. absurd (omega (arith, own.0, e, is_a, before))))
  | inr from ↦ elim (cases_lt p b) [
    | inl within ↦ and_from _ _ (le-leb a p from) (lt-ltb p b within)
        ∙ sym (eq-eqb _ _ (first_same c.order p place (omega (arith, is_a, from)) (omega (arith, is_b, within))))
    | inr behind ↦ and_right _ _ (le-ltb p b behind) ∙ sym (ne_eqb _ _ (λ e. absurd (omega (arith, own.1, e, is_b, behind))))
  ]
]
  where
    own : (4096 * first_of c.order p ≤ p) × (p < 4096 * (first_of c.order p + 2 ^ c.order))
    own = place_inside c.order p

-- Here `a` is the first place of the aligned block of the cache's order around the first frame of block b. The slab around a
-- place before `a` does not overlap b.
pub ends_before : (c : KnownCache) (b : Block) (a p : ℕ) → a ≡ 4096 * (b.first / 2 ^ c.order * 2 ^ c.order) → p < a
    → overlaps b (slab_around c p) ≡ false
ends_before c b a p is_a lt =
    let low : first_of c.order p ≤ p / 4096 = div-mul-le_self (p / 4096) (2 ^ c.order) in
    let under : p / 4096 / 2 ^ c.order < b.first / 2 ^ c.order = lt_of_mul-lt-mul_right (2 ^ c.order) (omega (arith, low, is_a, lt)) in
    let next : (p / 4096 / 2 ^ c.order + 1) * 2 ^ c.order ≤ b.first / 2 ^ c.order * 2 ^ c.order = mul-le-mul_right (2 ^ c.order) (omega (arith, under)) in
    let first : b.first / 2 ^ c.order * 2 ^ c.order ≤ b.first = div-mul-le_self b.first (2 ^ c.order) in
    and_left _ _ (le-ltb b.first (first_of c.order p + 2 ^ c.order) (omega (arith, next, first)))

-- Here `a` is the same as in `ends_before`, and place p is not before `a`. If the slab around p does not overlap b, no slab
-- around a later place overlaps b.
begins_behind : (c : KnownCache) (b : Block) (a p q : ℕ) → a ≡ 4096 * (b.first / 2 ^ c.order * 2 ^ c.order) → a ≤ p → p ≤ q
    → overlaps b (slab_around c p) ≡ false → overlaps b (slab_around c q) ≡ false
begins_behind c b a p q is_a from le off =
    let high : p / 4096 < first_of c.order p + 2 ^ c.order = lt-div-mul-add (pow_pos c.order) in
    let over : b.first / 2 ^ c.order ≤ p / 4096 / 2 ^ c.order = not_past _ _ (2 ^ c.order) (omega (arith, high, is_a, from)) in
    let up : b.first / 2 ^ c.order * 2 ^ c.order ≤ first_of c.order p = mul-le-mul_right (2 ^ c.order) over in
    let near : b.first < b.first / 2 ^ c.order * 2 ^ c.order + 2 ^ c.order = lt-div-mul-add (pow_pos c.order) in
    let ends : ltb b.first (first_of c.order p + 2 ^ c.order) ≡ true = lt-ltb _ _ (omega (arith, up, near)) in
    let far : ltb (first_of c.order p) (b.first + 2 ^ b.order) ≡ false =
    sym (ap (λ (t : Bool). t && ltb (first_of c.order p) (b.first + 2 ^ b.order)) ends) ∙ off in
    let rises = first_rises c.order p q le in
    and_right _ _ (le-ltb (first_of c.order q) (b.first + 2 ^ b.order) (omega (arith, rises, ltb-false _ _ far)))

-- Here `a` is the same as in `ends_before`. The slab of some live object overlaps b exactly if the slab of the first live object
-- that begins at or after `a` overlaps b.
pub over_first : (c : KnownCache) (b : Block) (a : ℕ) → IsNonDecreasing c.live → a ≡ 4096 * (b.first / 2 ^ c.order * 2 ^ c.order)
    → list_any (λ p. overlaps b (slab_around c p)) c.live ≡ option_map_or (λ p. overlaps b (slab_around c p)) (find (λ p. nat_le a p) c.live) false
over_first c b a rise is_a = sym (any_found over c.live)
    ∙ ap is_some (first_decides (λ p. p) a over over c.live rise (λ p lt. ends_before c b a p is_a lt) (λ p le. refl) (λ p q from le. begins_behind c b a p q is_a from le))
    ∙ told (find (λ p. nat_le a p) c.live)
  where
    over : ℕ → Bool
    over = λ p. overlaps b (slab_around c p)

    told : (o : Option ℕ) → is_some (option_map_or (λ p. cond (over p) (Some p) None) o None) ≡ option_map_or over o false
    told None = refl
    told (Some p) = go (over p)
      where
        go : (t : Bool) → is_some (cond t (Some p) None) ≡ t
        go true = refl
        go false = refl

-- Here `a` is `place` + `len` - `size`. An object of `size` bytes contains the `len` places that begin at `place` exactly if the
-- object begins at a place from `a` to `place`.
pub has_range : (place len size a p : ℕ) → a ≡ place + len - size → (nat_le a p && nat_lt p (place + 1)) ≡ is_within place len p size
has_range place len size a p is_a = elim (cases_lt place p) [
  | inl over ↦ and_right _ _ (le-ltb p (place + 1) (omega arith)) ∙ sym (and_left _ _ (lt-leb p place over))
  | inr under ↦ elim (cases_lt p a) [
    | inl before ↦ and_left _ _ (lt-leb a p before) ∙ sym (and_right _ _ (lt-leb (place + len) (p + size) (omega arith)))
    | inr from ↦ and_from _ _ (le-leb a p from) (lt-ltb p (place + 1) (omega arith))
        ∙ sym (and_from _ _ (le-leb p place under) (le-leb (place + len) (p + size) (omega arith)))
  ]
]

pub grid_tells : (c : KnownCache) (place i : ℕ) (beside : List ℕ)
    → (nat_le (i * c.chunk) place && is_grid c (slab_around c place) (place - i * c.chunk) beside) ≡ true → IsObjectAt c place i
grid_tells c place i beside e =
    let p = and_parts _ _ e in
    let q = and_parts _ _ (and_parts _ _ p.1).0 in
    (leb-true _ _ p.0, leb-true _ _ q.0, leb-true _ _ q.1)

pub none_below : (p : ℕ → Bool) (n : ℕ) → ((i : ℕ) → i < n → p i ≡ false) → is_any_below p n ≡ false
none_below p zero fails = refl
none_below p (suc n) fails = ap (λ (t : Bool). t || p n) (none_below p n (λ i lt. fails i (omega arith))) ∙ fails n (omega arith)

-- Suppose that the object at `place` can only have an index from `low` to `high - 1` in its slab. If the slab cannot have the
-- live objects `beside` for any of these indices, it cannot have them for any index.
pub on_no_grid : (c : KnownCache) (place low high : ℕ) (beside : List ℕ)
    → ((i : ℕ) → i < c.count → IsObjectAt c place i → (low ≤ i) × (i < high))
    → ((i : ℕ) → low ≤ i → i < high → (nat_le (i * c.chunk) place && is_grid c (slab_around c place) (place - i * c.chunk) beside) ≡ false)
    → is_any_below (λ i. nat_le (i * c.chunk) place && is_grid c (slab_around c place) (place - i * c.chunk) beside) c.count ≡ false
on_no_grid c place low high beside others fails = none_below _ c.count (λ i lt. false_from_ne_true _ (λ passes.
    let at = others i lt (grid_tells c place i beside passes) in
    false≢true (sym (fails i at.0 at.1) ∙ passes)))
