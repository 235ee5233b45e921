-- Blocks that share no frame, and the places in them.
use Rattle.std.proofs.Common.{◌≡◌, ℕ, ◌+◌, ◌/◌, ◌^◌, Bool, true, false, not, cond, ltb, leb, List, [], ◌∷◌, ◌++◌, map, sym, ap, ◌∙◌, subst, inl, inr, arith}
use Rattle.std.specs.Prelude.{filter}
use Rattle.std.specs.List.{list_any, AllByRecursion as Each}
use Rattle.std.proofs.lemmas.Nat.{pow_pos}
use Rattle.std.proofs.lemmas.Bool.{and_parts, and_from, leb-true, ltb-true, le-leb, lt-ltb, false_from_ne_true, false≢true}
use Rattle.model_core.specs.declared.limits.TheConstants.{FRAME_BYTES}
use Rattle.model_core.specs.Blocks.{Block, HasFrame}
use Rattle.model_core.specs.Machine.{in_block}
use Rattle.model_core.specs.Operations.{overlaps}
use Rattle.model_core.specs.WellFormed.{IsApart, AreApart}
use Rattle.model_core.specs.Elements.{IsIn}
use Rattle.model_core.proofs.Lists.{each_append, each_left, each_right, each_weaker, each_filter, each_in, each_map, each_unmap, any_none, some_any, filter_in}

pub in_block-true : (place : ℕ) (b : Block) → in_block place b ≡ true → HasFrame b (place / FRAME_BYTES)
in_block-true place b e =
    let p : (leb b.first (place / FRAME_BYTES) ≡ true) × (ltb (place / FRAME_BYTES) (b.first + 2 ^ b.order) ≡ true) = and_parts (leb b.first (place / FRAME_BYTES)) (ltb (place / FRAME_BYTES) (b.first + 2 ^ b.order)) e in
    (leb-true b.first (place / FRAME_BYTES) p.0, ltb-true (place / FRAME_BYTES) (b.first + 2 ^ b.order) p.1)

pub in_block-from : (place : ℕ) (b : Block) → HasFrame b (place / FRAME_BYTES) → in_block place b ≡ true
in_block-from place b (low, high) = and_from (leb b.first (place / FRAME_BYTES)) (ltb (place / FRAME_BYTES) (b.first + 2 ^ b.order)) (le-leb b.first (place / FRAME_BYTES) low) (lt-ltb (place / FRAME_BYTES) (b.first + 2 ^ b.order) high)

pub overlap_from : (a b : Block) (x : ℕ) → HasFrame a x → HasFrame b x → overlaps a b ≡ true
overlap_from a b x (a_low, a_high) (b_low, b_high) =
    and_from _ _ (lt-ltb a.first (b.first + 2 ^ b.order) (omega arith)) (lt-ltb b.first (a.first + 2 ^ a.order) (omega arith))

pub apart_turned : (a b : Block) → IsApart a b → IsApart b a
apart_turned a b h x in_b in_a = h x in_a in_b

-- the first frame of a block lies in the block
pub has_first : (b : Block) → HasFrame b b.first
has_first b = (omega arith, omega (arith, pow_pos b.order))

pub apart_first : (a b : Block) → IsApart a b → a.first ≡ b.first → ⊥
apart_first a b h e = h a.first (has_first a) (subst (λ x. HasFrame b x) (sym e) (has_first b))

-- if blocks a and b are apart, a place in a is not in b
pub apart_place : (place : ℕ) (a b : Block) → IsApart a b → in_block place a ≡ true → in_block place b ≡ false
apart_place place a b h e = false_from_ne_true (in_block place b) (λ f. h (place / FRAME_BYTES) (in_block-true place a e) (in_block-true place b f))

pub apart_any : (place : ℕ) (a : Block) (bs : List Block) → Each (IsApart a) bs → in_block place a ≡ true → list_any (in_block place) bs ≡ false
apart_any place a bs h e = any_none (in_block place) bs (each_weaker (IsApart a) (λ b. in_block place b ≡ false) (λ b k. apart_place place a b k e) bs h)

-- Lists of blocks that are apart

abbrev pub Across : List Block → List Block → Type 0
Across cs bs = Each (λ a. Each (IsApart a) bs) cs

pub apart_parts : (cs bs : List Block) → AreApart (cs ++ bs) → AreApart cs × AreApart bs × Across cs bs
apart_parts [] bs h = (tt, h, tt)
apart_parts (a ∷ cs) bs (e, h) =
    let p : AreApart cs × AreApart bs × Across cs bs = apart_parts cs bs h in
    ((each_left (IsApart a) cs bs e, p.0), p.1, (each_right (IsApart a) cs bs e, p.2))

pub apart_append : (cs bs : List Block) → AreApart cs → AreApart bs → Across cs bs → AreApart (cs ++ bs)
apart_append [] bs h k c = k
apart_append (a ∷ cs) bs (e, h) k (f, c) = (each_append (IsApart a) cs bs e f, apart_append cs bs h k c)

pub across_put : (cs bs : List Block) (b : Block) → Across cs bs → Each (IsApart b) cs → Across cs (b ∷ bs)
across_put [] bs b c e = tt
across_put (a ∷ cs) bs b (f, c) (h, e) = ((apart_turned b a h, f), across_put cs bs b c e)

-- if the blocks of a list are apart, they stay apart when a block that is apart from all of them is inserted
pub apart_put : (cs bs : List Block) (b : Block) → AreApart (cs ++ bs) → Each (IsApart b) (cs ++ bs) → AreApart (cs ++ b ∷ bs)
apart_put cs bs b h e =
    let p : AreApart cs × AreApart bs × Across cs bs = apart_parts cs bs h in
    apart_append cs (b ∷ bs) p.0 (each_right (IsApart b) cs bs e, p.1) (across_put cs bs b p.2 (each_left (IsApart b) cs bs e))

pub apart_filter : {X : Type 0} (f : X → Block) (p : X → Bool) (xs : List X) → AreApart (map f xs) → AreApart (map f (filter p xs))
apart_filter f p [] h = tt
apart_filter {X} f p (x ∷ xs) (e, h) = go (p x) (apart_filter f p xs h)
  where
    go : (b : Bool) → AreApart (map f (filter p xs)) → AreApart (map f (cond b (x ∷ filter p xs) (filter p xs)))
    go true rest = (each_map (IsApart (f x)) f (filter p xs) (each_filter (λ y. IsApart (f x) (f y)) p xs (each_unmap (IsApart (f x)) f xs e)), rest)
    go false rest = rest

-- if the blocks of the elements are apart, two elements whose blocks share a frame are the same
pub one_holder : {X : Type 0} (f : X → Block) (xs : List X) (a b : X) (x : ℕ) → AreApart (map f xs) → IsIn a xs → IsIn b xs → HasFrame (f a) x → HasFrame (f b) x → a ≡ b
one_holder f [] a b x h i j p q = elim i [ ]
one_holder f (y ∷ ys) a b x (e, h) (inl s) (inl t) p q = sym s ∙ t
one_holder f (y ∷ ys) a b x (e, h) (inl s) (inr j) p q =
    absurd (each_in (λ z. IsApart (f y) (f z)) b ys (each_unmap (IsApart (f y)) f ys e) j x (subst (λ z. HasFrame (f z) x) (sym s) p) q)
one_holder f (y ∷ ys) a b x (e, h) (inr i) (inl t) p q =
    absurd (each_in (λ z. IsApart (f y) (f z)) a ys (each_unmap (IsApart (f y)) f ys e) i x (subst (λ z. HasFrame (f z) x) (sym t) q) p)
one_holder f (y ∷ ys) a b x (e, h) (inr i) (inr j) p q = one_holder f ys a b x h i j p q

-- If the blocks of the elements are apart, a place in the block of an element that passes the test is in no block of an element
-- that fails it.
pub one_side : {X : Type 0} (f : X → Block) (p : X → Bool) (xs : List X) (place : ℕ) → AreApart (map f xs)
    → list_any (λ x. in_block place (f x)) (filter p xs) ≡ true → list_any (λ x. in_block place (f x)) (filter (λ x. not (p x)) xs) ≡ false
one_side {X} f p xs place h e = false_from_ne_true (list_any (λ x. in_block place (f x)) (filter (λ x. not (p x)) xs)) (λ k.
    let a : (x : X) × IsIn x (filter p xs) × (in_block place (f x) ≡ true) = some_any (λ x. in_block place (f x)) (filter p xs) e in
    let b : (x : X) × IsIn x (filter (λ x. not (p x)) xs) × (in_block place (f x) ≡ true) = some_any (λ x. in_block place (f x)) (filter (λ x. not (p x)) xs) k in
    let same : a.0 ≡ b.0 = one_holder f xs a.0 b.0 (place / FRAME_BYTES) h (filter_in p a.0 xs a.1).0 (filter_in (λ x. not (p x)) b.0 xs b.1).0 (in_block-true place (f a.0) a.2) (in_block-true place (f b.0) b.2) in
    false≢true (sym (ap not (filter_in p a.0 xs a.1).1) ∙ (ap (λ x. not (p x)) same ∙ (filter_in (λ x. not (p x)) b.0 xs b.1).1)))
