-- The code computes the tests of the definitions in other ways, and gets the same results.
use Rattle.std.proofs.Common.{◌≡◌, ℕ, zero, suc, replicate, ◌+◌, ◌*◌, ◌^◌, ◌-◌, ◌<◌, get_or, drop, sym, Bool, true, false, not, ◌||◌, ◌==◌, if◌then◌else◌, List, [], ◌∷◌, ◌++◌, map, find, filter, length, reverse, Some, option_map, refl, ap, ◌∙◌, cond, arith, length-append}
use Rattle.std.specs.List.{list_any, flat_map, sum_by}
use Rattle.std.specs.Prelude.{MatchOption, nat_le}
use Rattle.model_core.specs.declared.limits.TheConstants.{FRAME_BYTES}
use Rattle.std.proofs.lemmas.Bool.{eqb-true}
use Rattle.std.specs.List.{range_with_len}
use Rattle.std.specs.Option.{option_map_or}
use Rattle.std.proofs.lemmas.List.{at_drop_more}
use Rattle.std.proofs.lemmas.List.Sorted.{list_any-IsPermutation, IsPermutation-reverse}
use Rattle.std.proofs.lemmas.List.Sums.{sum_by-cons}
use Rattle.std.proofs.lemmas.List.Concat.{flat_map-cons}
use Rattle.std.proofs.lemmas.List.Elements.{filter-append}
use Rattle.std.proofs.lemmas.List.FromFn.{filter_of_map_range_with_len_more}
use Rattle.model_core.specs.Reach.{is_within}
use Rattle.promise_core.specs.Bytes.{Holder, object_with}
use Rattle.model_core.proofs.Lists.{any_append, any_map, any_flat_map}
use Rattle.model_core.specs.Blocks.{Block, block}
use Rattle.model_core.specs.Machine.{order_in}
use Rattle.model_core.specs.Operations.{overlaps}
use Rattle.promise_core.specs.Holdings.{KnownCache, Holdings, known_blocks, is_vacant, slab_around, blocks_of_slot, vacant_blocks}

pub vacant_is : (h : Holdings) (b : Block)
    → is_vacant h b ≡ not (list_any (overlaps b) h.pages || list_any (λ c. list_any (λ p. overlaps b (slab_around c p)) c.live) h.caches)
unfolding known_blocks
vacant_is h b = ap not (any_append (overlaps b) h.pages (flat_map (λ c. map (slab_around c) c.live) h.caches)
    ∙ ap (λ x. list_any (overlaps b) h.pages || x) (any_flat_map (overlaps b) (λ c. map (slab_around c) c.live) h.caches
    ∙ (λ i. list_any (λ c. any_map (overlaps b) (slab_around c) c.live i) h.caches)))

pub order_found : (f : ℕ) (bs : List Block) → order_in bs f ≡ option_map (λ b. b.order) (find (λ b. b.first == f) bs)
order_found f [] = refl
order_found f (b ∷ bs) = go (b.first == f) (order_found f bs)
  where
    go : (t : Bool) → order_in bs f ≡ option_map (λ (x : Block). x.order) (find (λ x. x.first == f) bs)
        → (if t then Some b.order else order_in bs f) ≡ option_map (λ (x : Block). x.order) (if t then Some b else find (λ x. x.first == f) bs)
    go true rest = refl
    go false rest = rest

passing_flat : {X Y : Type 0} (p : Y → Bool) (f : X → List Y) (xs : List X)
    → length (filter p (flat_map f xs)) ≡ sum_by (λ x. length (filter p (f x))) xs
passing_flat p f [] = refl
passing_flat p f (x ∷ xs) = ap (λ ys. length (filter p ys)) (flat_map-cons f x xs) ∙ ap length (filter-append p (f x) (flat_map f xs)) ∙ length-append (filter p (f x)) (filter p (flat_map f xs))
    ∙ ap (λ n. length (filter p (f x)) + n) (passing_flat p f xs) ∙ sym (sum_by-cons (λ x. length (filter p (f x))) x xs)

pub vacant_sum : (order k : ℕ) (h : Holdings)
    → length (vacant_blocks order h k) ≡ sum_by (λ u. length (filter (is_vacant h) (blocks_of_slot order k u))) h.slots
unfolding vacant_blocks
vacant_sum order k h = passing_flat (is_vacant h) (blocks_of_slot order k) h.slots

-- how many of the `n` aligned blocks of order k from number `begin` on are vacant; block i begins at frame i * 2 ^ k
abbrev pub vacant_from : Holdings → ℕ → ℕ → ℕ → ℕ
vacant_from h k begin n = length (filter (is_vacant h) (map (λ i. block (i * 2 ^ k) k) (range_with_len begin n)))

pub more_vacant : (h : Holdings) (k begin i : ℕ) → is_vacant h (block ((begin + i) * 2 ^ k) k) ≡ true → vacant_from h k begin (i + 1) ≡ vacant_from h k begin i + 1
more_vacant h k begin i e = ap length (filter_of_map_range_with_len_more (is_vacant h) (λ i. block (i * 2 ^ k) k) begin i (begin + i) refl
    ∙ ap (λ t. filter (is_vacant h) (map (λ i. block (i * 2 ^ k) k) (range_with_len begin i)) ++ cond t (block ((begin + i) * 2 ^ k) k ∷ []) []) e)
    ∙ length-append (filter (is_vacant h) (map (λ i. block (i * 2 ^ k) k) (range_with_len begin i))) (block ((begin + i) * 2 ^ k) k ∷ [])

pub more_taken : (h : Holdings) (k begin i : ℕ) → is_vacant h (block ((begin + i) * 2 ^ k) k) ≡ false → vacant_from h k begin (i + 1) ≡ vacant_from h k begin i
more_taken h k begin i e = ap length (filter_of_map_range_with_len_more (is_vacant h) (λ i. block (i * 2 ^ k) k) begin i (begin + i) refl
    ∙ ap (λ t. filter (is_vacant h) (map (λ i. block (i * 2 ^ k) k) (range_with_len begin i)) ++ cond t (block ((begin + i) * 2 ^ k) k ∷ []) []) e)
    ∙ length-append (filter (is_vacant h) (map (λ i. block (i * 2 ^ k) k) (range_with_len begin i))) []
    ∙ omega arith

pub next_object : (place len i first : ℕ) (cs : List KnownCache) (c : KnownCache) → i < length cs → c ≡ get_or cs i c
    → find (λ first. is_within place len first c.size) c.live ≡ Some first → object_with place len (drop i cs) ≡ Some (Holder.Object c.number first)
next_object place len i first cs c lt is found = at_drop_more (object_with place len) cs i c lt
    ∙ ap (λ d. object_with place len (d ∷ drop (i + 1) cs)) (sym is)
    ∙ ap (λ o. option_map_or (λ first. Some (Holder.Object c.number first)) o (object_with place len (drop (i + 1) cs))) found

pub match_found : (u : ℕ) (vs : List ℕ) → MatchOption (find (λ v. v == u) vs) (list_any (λ v. v == u) vs ≡ false) (λ v. (v ≡ u) × (list_any (λ v. v == u) vs ≡ true))
match_found u [] = refl
match_found u (v ∷ vs) = go (v == u) refl (match_found u vs)
  where
    go : (t : Bool) → (v == u) ≡ t → MatchOption (find (λ x. x == u) vs) (list_any (λ x. x == u) vs ≡ false) (λ x. (x ≡ u) × (list_any (λ x. x == u) vs ≡ true))
        → MatchOption (if t then Some v else find (λ x. x == u) vs) ((t || list_any (λ x. x == u) vs) ≡ false) (λ x. (x ≡ u) × ((t || list_any (λ x. x == u) vs) ≡ true))
    go true e rest = (eqb-true v u e, refl)
    go false e rest = rest

-- two ways to test that a slab's last object ends inside the slab give the same result
pub inside_slab : (origin count chunk size first order : ℕ)
    → nat_le (origin + ((count - 1) * chunk + size)) (FRAME_BYTES * first + FRAME_BYTES * 2 ^ order)
    ≡ nat_le (origin + (count - 1) * chunk + size) (FRAME_BYTES * (first + 2 ^ order))
inside_slab origin count chunk size first order =
    let objects : origin + ((count - 1) * chunk + size) ≡ origin + (count - 1) * chunk + size = omega arith in
    let frames : FRAME_BYTES * first + FRAME_BYTES * 2 ^ order ≡ FRAME_BYTES * (first + 2 ^ order) = omega arith in
    (λ i. nat_le (objects i) (frames i))

-- a lookup in a list of copies of x, with default x, returns x at every index
pub same_at : {X : Type 0} (n k : ℕ) (x : X) → get_or (replicate n x) k x ≡ x
same_at zero k x = refl
same_at (suc n) zero x = refl
same_at (suc n) (suc k) x = same_at n k x

pub any_reversed : {X : Type 0} (p : X → Bool) (xs : List X) → list_any p (reverse xs) ≡ list_any p xs
any_reversed p xs = sym (list_any-IsPermutation p xs (reverse xs) (IsPermutation-reverse xs))
