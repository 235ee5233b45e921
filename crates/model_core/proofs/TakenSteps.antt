-- The taken blocks of a well formed machine are sound. An alloc adds its page block to them, and a free removes its page block.
use Rattle.std.proofs.Common.{◌≡◌, ◌≢◌, ℕ, Bool, true, false, not, cond, eqb, List, [], ◌∷◌, ◌++◌, map, Option, Some, None, Ok, append_assoc, refl, sym, ap, ◌∙◌, subst, ◌⊎◌, inl, inr}
use Rattle.std.specs.Prelude.{if◌then◌else◌, filter}
use Rattle.std.specs.List.{AllByRecursion as Each}
use Rattle.std.proofs.lemmas.List.{map-id}
use Rattle.std.proofs.lemmas.Bool.{cases_eq, eqb-true, eqb-false, eq-eqb, ne_eqb}
use Rattle.model_core.specs.Blocks.{Block, block, with_taken, without_taken}
use Rattle.model_core.specs.Machine.{Machine, taken_blocks, order_in, taken_in}
use Rattle.model_core.specs.Slabs.{by_need}
use Rattle.model_core.specs.Operations.{with_block, without_block, free_at, free_step}
use Rattle.model_core.specs.WellFormed.{IsApart, AreApart, IsPlaced}
use Rattle.model_core.specs.Laws.{TakenSound, AllocTakes, FreeReleases}
use Rattle.model_core.specs.Elements.{IsIn}
use Rattle.model_core.proofs.Lists.{each_in, each_left, each_weaker, PutIn, put_in}
use Rattle.model_core.proofs.RisingLists.{order_in-middle, none_found}
use Rattle.model_core.proofs.BlocksApart.{apart_first, one_holder}
use Rattle.model_core.proofs.ChosenBlock.{chosen_apart}
use Rattle.model_core.proofs.LaidSlabs.{all_laid, laid_block, taken_laid, laid_out}
use Rattle.model_core.proofs.Outcomes.{alloc_outcome}
use Rattle.model_core.proofs.PageSteps.{by_need_kept}

pub same_block : (b : Block) (f k : ℕ) → b.first ≡ f → b.order ≡ k → b ≡ block f k
same_block b f k p q = λ i. block (p i) (q i)

-- if a look-up of frame f returns order k, the block of order k at f is in the list
pub order_in_is : (bs : List Block) (f k : ℕ) → order_in bs f ≡ Some k → IsIn (block f k) bs
order_in_is [] f k e = absurd (cc)
order_in_is (b ∷ bs) f k e = go (eqb b.first f) refl e (order_in_is bs f k)
  where
    go : (t : Bool) → eqb b.first f ≡ t → (if t then Some b.order else order_in bs f) ≡ Some k → (order_in bs f ≡ Some k → IsIn (block f k) bs) → IsIn (block f k) (b ∷ bs)
    go true is e ih = let here : b.first ≡ f = eqb-true b.first f is in let same : b.order ≡ k = cc in inl (same_block b f k here same)
    go false is e ih = inr (ih e)

pub taken_sound : TakenSound
taken_sound limit order m w = record {
  placed = λ f k e. each_in (IsPlaced order m) (block f k) (taken_blocks m) w.placed (order_in_is (taken_blocks m) f k e);
  apart = λ f k g j x e d in_f in_g. ap (λ b. b.first) (one_holder (λ b. b) (taken_blocks m) (block f k) (block g j) x
      (subst AreApart (sym (map-id (taken_blocks m))) w.apart) (order_in_is (taken_blocks m) f k e) (order_in_is (taken_blocks m) g j d) in_f in_g);
}

-- A block is added

pub apart_firsts : (b : Block) (bs : List Block) → Each (IsApart b) bs → Each (λ x. x.first ≢ b.first) bs
apart_firsts b bs h = each_weaker (IsApart b) (λ x. x.first ≢ b.first) (λ x a same. apart_first b x a (sym same)) bs h

with_block_takes : (b : Block) (m : Machine) → Each (IsApart b) m.blocks → (f : ℕ) → taken_in (with_block b m) f ≡ with_taken (taken_in m) b.first b.order f
with_block_takes b m h f =
    let slabs : List Block = map laid_block (all_laid m.caches) in
    let p : PutIn (λ x. x.first) b m.blocks = put_in (λ x. x.first) b m.blocks in
    let first : Each (λ x. x.first ≢ b.first) p.before = each_left (λ x. x.first ≢ b.first) p.before p.later (subst (Each (λ x. x.first ≢ b.first)) p.was (apart_firsts b m.blocks h)) in
    ap (λ bs. order_in bs f) (taken_laid (with_block b m) ∙ (ap (λ bs. bs ++ slabs) p.is ∙ append_assoc p.before (b ∷ p.later) slabs))
    ∙ (order_in-middle p.before (p.later ++ slabs) b first f
    ∙ ap (λ bs. with_taken (order_in bs) b.first b.order f) (sym (append_assoc p.before p.later slabs) ∙ (ap (λ bs. bs ++ slabs) (sym p.was) ∙ sym (taken_laid m))))

pub alloc_takes : AllocTakes
alloc_takes limit order k first m w e = alloc_outcome order k m (λ step. step.answer ≡ Ok first → (f : ℕ) → taken_in step.machine f ≡ with_taken (taken_in n) first k f) (λ _ e. absurd (cc)) (λ g is e f.
    let same : g ≡ first = cc in
    with_block_takes (block g k) n (each_left (IsApart (block g k)) n.blocks slabs (subst (Each (IsApart (block g k))) (taken_laid n) (chosen_apart order k g n (by_need_kept order k m w).apart is))) f
    ∙ ap (λ n'. with_taken (taken_in n) n' k f) same) e
  where
    n : Machine
    n = by_need order k m

    slabs : List Block
    slabs = map laid_block (all_laid n.caches)

-- A block is removed

order_in_filter : (first : ℕ) (xs ys : List Block) → Each (λ y. y.first ≢ first) ys → (f : ℕ) → order_in (filter (λ x. not (eqb x.first first)) xs ++ ys) f ≡ without_taken (order_in (xs ++ ys)) first f
order_in_filter first [] ys h f = go (cases_eq f first)
  where
    go : (f ≡ first) ⊎ (f ≡ first → ⊥) → order_in ys f ≡ (if eqb f first then None else order_in ys f)
    go (inl same) = none_found f ys (subst (λ n. Each (λ y. y.first ≢ n) ys) (sym same) h) ∙ sym (ap (λ t. if t then None else order_in ys f) (eq-eqb f first same))
    go (inr other) = sym (ap (λ t. if t then None else order_in ys f) (ne_eqb f first other))
order_in_filter first (x ∷ xs) ys h f = go (eqb x.first first) refl (eqb x.first f) refl (order_in_filter first xs ys h f)
  where
    go : (s : Bool) → eqb x.first first ≡ s → (t : Bool) → eqb x.first f ≡ t → order_in (filter (λ x. not (eqb x.first first)) xs ++ ys) f ≡ without_taken (order_in (xs ++ ys)) first f
        → order_in (cond (not s) (x ∷ filter (λ x. not (eqb x.first first)) xs) (filter (λ x. not (eqb x.first first)) xs) ++ ys) f ≡ (if eqb f first then None else (if t then Some x.order else order_in (xs ++ ys) f))
    go true is true at ih = let here : f ≡ first = sym (eqb-true x.first f at) ∙ eqb-true x.first first is in
        ih ∙ (ap (λ b. if b then None else order_in (xs ++ ys) f) (eq-eqb f first here) ∙ sym (ap (λ b. if b then None else Some x.order) (eq-eqb f first here)))
    go true is false at ih = ih
    go false is true at ih = ap (λ b. if b then Some x.order else order_in (filter (λ x. not (eqb x.first first)) xs ++ ys) f) at
        ∙ sym (ap (λ b. if b then None else Some x.order) (ne_eqb f first (λ same. eqb-false x.first first is (eqb-true x.first f at ∙ same))))
    go false is false at ih = ap (λ b. if b then Some x.order else order_in (filter (λ x. not (eqb x.first first)) xs ++ ys) f) at ∙ ih

pub free_releases : FreeReleases
unfolding free_step
free_releases limit order first k m w e = go (order_in m.blocks first) refl e
  where
    go : (o : Option ℕ) → order_in m.blocks first ≡ o → (free_at first m o).answer ≡ Some k → (f : ℕ) → taken_in (free_at first m o).machine f ≡ without_taken (taken_in m) first f
    go None is e f = absurd (cc)
    go (Some j) is e f =
        let slabs : List Block = map laid_block (all_laid m.caches) in
        let apart : Each (IsApart (block first j)) slabs = each_in (λ a. Each (IsApart a) slabs) (block first j) m.blocks (laid_out order m w).across (order_in_is m.blocks first j is) in
        ap (λ bs. order_in bs f) (taken_laid (without_block first m))
        ∙ (order_in_filter first m.blocks slabs (apart_firsts (block first j) slabs apart) f ∙ ap (λ bs. without_taken (order_in bs) first f) (sym (taken_laid m)))
