-- The list of the slabs of all caches: which slabs belong to one cache, and which are left when some are freed.
use Rattle.std.proofs.Common.{◌≡◌, ℕ, Bool, true, false, not, cond, eqb, List, [], ◌∷◌, ◌++◌, map, refl, sym, ap, ◌∙◌, append_assoc, inl, inr}
use Rattle.std.specs.Prelude.{flat_map, filter}
use Rattle.std.specs.List.{list_any, AllByRecursion as Each}
use Rattle.std.proofs.lemmas.Bool.{eq-eqb}
use Rattle.std.proofs.lemmas.List.Concat.{flat_map-append}
use Rattle.std.proofs.lemmas.List.Elements.{filter-append}
use Rattle.std.proofs.lemmas.List.{map-append, append-nil}
use Rattle.model_core.specs.Machine.{Slab, Cache, slab_block}
use Rattle.model_core.specs.Slabs.{is_empty, without_empty, empty_blocks}
use Rattle.model_core.specs.Elements.{IsIn}
use Rattle.model_core.proofs.Lists.{Found}
use Rattle.model_core.proofs.LaidSlabs.{Laid, laid, laid_in, all_laid, laid_block, map_laid}

pub in_middle : {X : Type 0} (xs ys : List X) (x : X) → IsIn x (xs ++ x ∷ ys)
in_middle [] ys x = inl refl
in_middle (y ∷ xs) ys x = inr (in_middle xs ys x)

-- if the slabs of cache c are `ss` followed by `ts`, the list of all slabs is split between `ss` and `ts` too
pub laid_parts : (before later : List Cache) (c : Cache) (ss ts : List Slab) → c.slabs ≡ ss ++ ts
    → all_laid (before ++ c ∷ later) ≡ (all_laid before ++ map (laid c) ss) ++ (map (laid c) ts ++ all_laid later)
laid_parts before later c ss ts e =
    flat_map-append laid_in before (c ∷ later)
    ∙ (ap (λ ls. all_laid before ++ (ls ++ all_laid later)) (ap (λ xs. map (laid c) xs) e ∙ map-append (laid c) ss ts)
    ∙ (ap (λ ls. all_laid before ++ ls) (append_assoc (map (laid c) ss) (map (laid c) ts) (all_laid later))
    ∙ sym (append_assoc (all_laid before) (map (laid c) ss) (map (laid c) ts ++ all_laid later))))

-- a cache without slabs adds nothing to the list of all slabs
pub laid_without : (before later : List Cache) (c : Cache) → c.slabs ≡ [] → all_laid (before ++ c ∷ later) ≡ all_laid (before ++ later)
laid_without before later c e = flat_map-append laid_in before (c ∷ later)
    ∙ (ap (λ ss. all_laid before ++ (map (laid c) ss ++ all_laid later)) e ∙ sym (flat_map-append laid_in before later))

filter_laid_in : (p : ℕ → Bool) (c : Cache) (ss : List Slab) → filter (λ l. p l.number) (map (laid c) ss) ≡ cond (p c.number) (map (laid c) ss) []
filter_laid_in p c ss = go (p c.number) refl ss
  where
    go : (b : Bool) → p c.number ≡ b → (ss : List Slab) → filter (λ l. p l.number) (map (laid c) ss) ≡ cond b (map (laid c) ss) []
    go true e [] = refl
    go true e (s ∷ ss) = ap (λ b. cond b (laid c s ∷ filter (λ l. p l.number) (map (laid c) ss)) (filter (λ l. p l.number) (map (laid c) ss))) e ∙ ap (λ ls. laid c s ∷ ls) (go true e ss)
    go false e [] = refl
    go false e (s ∷ ss) = ap (λ b. cond b (laid c s ∷ filter (λ l. p l.number) (map (laid c) ss)) (filter (λ l. p l.number) (map (laid c) ss))) e ∙ go false e ss

-- filtering the list of all slabs by their caches' numbers leaves the slabs of the caches whose numbers pass
pub filter_laid : (p : ℕ → Bool) (cs : List Cache) → filter (λ l. p l.number) (all_laid cs) ≡ all_laid (filter (λ c. p c.number) cs)
filter_laid p [] = refl
filter_laid p (c ∷ cs) = filter-append (λ l. p l.number) (laid_in c) (all_laid cs)
    ∙ (ap (λ ls. ls ++ filter (λ l. p l.number) (all_laid cs)) (filter_laid_in p c c.slabs) ∙ go (p c.number) (filter_laid p cs))
  where
    go : (b : Bool) → filter (λ l. p l.number) (all_laid cs) ≡ all_laid (filter (λ c. p c.number) cs)
        → cond b (laid_in c) [] ++ filter (λ l. p l.number) (all_laid cs) ≡ all_laid (cond b (c ∷ filter (λ c. p c.number) cs) (filter (λ c. p c.number) cs))
    go true e = ap (λ ls. laid_in c ++ ls) e
    go false e = e

filter_none : (n : ℕ) (cs : List Cache) → Each (λ c. eqb c.number n ≡ false) cs → filter (λ c. eqb c.number n) cs ≡ []
filter_none n [] h = refl
filter_none n (c ∷ cs) (e, h) = ap (λ b. cond b (c ∷ filter (λ c. eqb c.number n) cs) (filter (λ c. eqb c.number n) cs)) e ∙ filter_none n cs h

-- cache c is the only cache of the list with its number
pub filter_found : (c : Cache) (cs : List Cache) → Found (λ c. c.number) c cs → filter (λ x. eqb x.number c.number) cs ≡ c ∷ []
filter_found c cs f = ap (λ xs. filter (λ x. eqb x.number c.number) xs) f.is
    ∙ (filter-append (λ x. eqb x.number c.number) f.before (c ∷ f.later)
    ∙ (ap (λ xs. xs ++ filter (λ x. eqb x.number c.number) (c ∷ f.later)) (filter_none c.number f.before f.others_before)
    ∙ (ap (λ b. cond b (c ∷ filter (λ x. eqb x.number c.number) f.later) (filter (λ x. eqb x.number c.number) f.later)) (eq-eqb c.number c.number refl)
    ∙ ap (λ xs. c ∷ xs) (filter_none c.number f.later f.others_later))))

-- in the list of all slabs, the slabs with the number of cache c are the slabs of c
pub laid_of : (c : Cache) (cs : List Cache) → Found (λ c. c.number) c cs → filter (λ l. eqb l.number c.number) (all_laid cs) ≡ laid_in c
laid_of c cs f = filter_laid (λ n. eqb n c.number) cs ∙ (ap all_laid (filter_found c cs f) ∙ append-nil (laid_in c))

-- Empty slabs

abbrev pub is_empty_laid : Laid → Bool
is_empty_laid l = not (list_any (λ live. live) l.live)

filter_map_swap : {X Y : Type 0} (p : Y → Bool) (f : X → Y) (xs : List X) → filter p (map f xs) ≡ map f (filter (λ x. p (f x)) xs)
filter_map_swap p f [] = refl
filter_map_swap p f (x ∷ xs) = go (p (f x)) (filter_map_swap p f xs)
  where
    go : (b : Bool) → filter p (map f xs) ≡ map f (filter (λ x. p (f x)) xs)
        → cond b (f x ∷ filter p (map f xs)) (filter p (map f xs)) ≡ map f (cond b (x ∷ filter (λ x. p (f x)) xs) (filter (λ x. p (f x)) xs))
    go true e = ap (λ ys. f x ∷ ys) e
    go false e = e

pub kept_laid : (cs : List Cache) → filter (λ l. not (is_empty_laid l)) (all_laid cs) ≡ all_laid (map without_empty cs)
kept_laid [] = refl
kept_laid (c ∷ cs) = filter-append (λ l. not (is_empty_laid l)) (laid_in c) (all_laid cs)
    ∙ (ap (λ ls. ls ++ filter (λ l. not (is_empty_laid l)) (all_laid cs)) (filter_map_swap (λ l. not (is_empty_laid l)) (laid c) c.slabs)
    ∙ ap (λ ls. laid_in (without_empty c) ++ ls) (kept_laid cs))

pub slab_blocks_laid : (c : Cache) → map (slab_block c) c.slabs ≡ map laid_block (laid_in c)
slab_blocks_laid c = map_laid c c.slabs

pub gone_laid : (cs : List Cache) → flat_map empty_blocks cs ≡ map laid_block (filter is_empty_laid (all_laid cs))
gone_laid [] = refl
gone_laid (c ∷ cs) =
    ap (λ bs. bs ++ flat_map empty_blocks cs) (map_laid c (filter is_empty c.slabs) ∙ ap (λ ls. map laid_block ls) (sym (filter_map_swap is_empty_laid (laid c) c.slabs)))
    ∙ (ap (λ bs. map laid_block (filter is_empty_laid (laid_in c)) ++ bs) (gone_laid cs)
    ∙ (sym (map-append laid_block (filter is_empty_laid (laid_in c)) (filter is_empty_laid (all_laid cs)))
    ∙ ap (λ ls. map laid_block ls) (sym (filter-append is_empty_laid (laid_in c) (all_laid cs)))))
