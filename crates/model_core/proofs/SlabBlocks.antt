-- The taken blocks of a machine: a new slab adds its block, and a reap removes the blocks of the empty slabs.
use Rattle.std.proofs.Common.{◌≡◌, ◌≢◌, ℕ, Bool, true, false, not, cond, eqb, List, [], ◌∷◌, ◌++◌, map, Option, Some, None, append_assoc, refl, sym, ap, ◌∙◌, subst}
use Rattle.std.specs.Prelude.{if◌then◌else◌, is_some, filter, flat_map}
use Rattle.std.specs.List.{AllByRecursion as Each}
use Rattle.std.proofs.lemmas.Bool.{eqb-true}
use Rattle.std.proofs.lemmas.List.{map-append}
use Rattle.model_core.specs.Blocks.{Block, block, with_taken}
use Rattle.model_core.specs.Machine.{Cache, Machine, layout, taken_blocks, order_in}
use Rattle.model_core.specs.Slabs.{new_slab, grown, empty_blocks, reaped}
use Rattle.model_core.specs.WellFormed.{IsApart, AreApart}
use Rattle.model_core.specs.Laws.{GrowthTakes, ReapReleases}
use Rattle.model_core.proofs.Lists.{each_left, each_right, each_map, each_unmap, each_filter}
use Rattle.model_core.proofs.RisingLists.{order_in-middle, none_found}
use Rattle.model_core.proofs.ChosenBlock.{chosen_apart}
use Rattle.model_core.proofs.LaidSlabs.{Laid, laid, all_laid, laid_block, taken_laid}
use Rattle.model_core.proofs.SlabAmongOthers.{is_empty_laid, kept_laid, gone_laid}
use Rattle.model_core.proofs.CacheSteps.{IsGrown, grown_is}
use Rattle.model_core.proofs.ObjectsApart.{contains_in}
use Rattle.model_core.proofs.TakenSteps.{apart_firsts}

grown_blocks : (first : ℕ) (c : Cache) (m : Machine) → (grown first c m).blocks ≡ m.blocks
unfolding grown
grown_blocks first c m = refl

pub growth_takes : GrowthTakes
growth_takes limit order first c m w in_c e f =
    let b : Block = block first (layout c).order in
    let g : IsGrown first c m = grown_is order first c m w (contains_in m.caches c in_c) in
    let before : List Block = m.blocks ++ map laid_block g.xs in
    let later : List Block = map laid_block g.ys in
    let was : taken_blocks m ≡ before ++ later =
    taken_laid m ∙ (ap (λ ls. m.blocks ++ map laid_block ls) g.was ∙ (ap (λ bs. m.blocks ++ bs) (map-append laid_block g.xs g.ys) ∙ sym (append_assoc m.blocks (map laid_block g.xs) later))) in
    let is : taken_blocks (grown first c m) ≡ before ++ b ∷ later =
    taken_laid (grown first c m) ∙ (ap (λ bs. bs ++ map laid_block (all_laid (grown first c m).caches)) (grown_blocks first c m)
    ∙ (ap (λ ls. m.blocks ++ map laid_block ls) g.is
    ∙ (ap (λ bs. m.blocks ++ bs) (map-append laid_block g.xs (laid c (new_slab c first) ∷ g.ys)) ∙ sym (append_assoc m.blocks (map laid_block g.xs) (b ∷ later))))) in
    let others : Each (λ x. x.first ≢ first) before = each_left (λ x. x.first ≢ first) before later
    (subst (Each (λ x. x.first ≢ first)) was (apart_firsts b (taken_blocks m) (chosen_apart order (layout c).order first m w.apart e))) in
    ap (λ bs. order_in bs f) is ∙ (order_in-middle before later b others f ∙ ap (λ bs. with_taken (order_in bs) first b.order f) (sym was))

-- None if `gone`, the look-up among the removed blocks, finds a block; otherwise `all`, the look-up among all blocks
abbrev unless_gone : Option ℕ → Option ℕ → Option ℕ
unless_gone gone all = if is_some gone then None else all

-- if a block is apart from all slabs, no slab begins at the block's first frame
elsewhere : (b : Block) (f : ℕ) (p : Laid → Bool) (ls : List Laid) → b.first ≡ f → Each (IsApart b) (map laid_block ls) → order_in (map laid_block (filter p ls)) f ≡ None
elsewhere b f p ls here apart =
    let some : List Block = map laid_block (filter p ls) in
    let apart_some : Each (IsApart b) some = each_map (IsApart b) laid_block (filter p ls) (each_filter (λ l. IsApart b (laid_block l)) p ls (each_unmap (IsApart b) laid_block ls apart)) in
    none_found f some (subst (λ n. Each (λ x. x.first ≢ n) some) here (apart_firsts b some apart_some))

slabs_gone : (q : Laid → Bool) (ls : List Laid) (f : ℕ) → AreApart (map laid_block ls)
    → order_in (map laid_block (filter (λ l. not (q l)) ls)) f ≡ unless_gone (order_in (map laid_block (filter q ls)) f) (order_in (map laid_block ls) f)
slabs_gone q [] f apart = refl
slabs_gone q (l ∷ ls) f (apart, rest) = go (q l) (eqb l.first f) refl (slabs_gone q ls f rest)
  where
    kept : List Laid
    kept = filter (λ l. not (q l)) ls

    gone : List Laid
    gone = filter q ls

    go : (a b : Bool) → eqb l.first f ≡ b → order_in (map laid_block kept) f ≡ unless_gone (order_in (map laid_block gone) f) (order_in (map laid_block ls) f)
        → order_in (map laid_block (cond (not a) (l ∷ kept) kept)) f ≡ unless_gone (order_in (map laid_block (cond a (l ∷ gone) gone)) f) (order_in (map laid_block (l ∷ ls)) f)
    go true true is ih = rw is (elsewhere (laid_block l) f (λ l. not (q l)) ls (eqb-true l.first f is) apart)
    go true false is ih = rw is ih
    go false true is ih = rw is (rw (elsewhere (laid_block l) f q ls (eqb-true l.first f is) apart) refl)
    go false false is ih = rw is ih

taken_gone : (q : Laid → Bool) (bs : List Block) (ls : List Laid) (f : ℕ) → AreApart (bs ++ map laid_block ls)
    → order_in (bs ++ map laid_block (filter (λ l. not (q l)) ls)) f ≡ unless_gone (order_in (map laid_block (filter q ls)) f) (order_in (bs ++ map laid_block ls) f)
taken_gone q [] ls f apart = slabs_gone q ls f apart
taken_gone q (b ∷ bs) ls f (apart, rest) = go (eqb b.first f) refl (taken_gone q bs ls f rest)
  where
    kept : List Block
    kept = map laid_block (filter (λ l. not (q l)) ls)

    gone : List Block
    gone = map laid_block (filter q ls)

    go : (t : Bool) → eqb b.first f ≡ t → order_in (bs ++ kept) f ≡ unless_gone (order_in gone f) (order_in (bs ++ map laid_block ls) f)
        → (if t then Some b.order else order_in (bs ++ kept) f) ≡ unless_gone (order_in gone f) (if t then Some b.order else order_in (bs ++ map laid_block ls) f)
    go true is ih = rw (elsewhere b f q ls (eqb-true b.first f is) (each_right (IsApart b) bs (map laid_block ls) apart)) refl
    go false is ih = ih

pub reap_releases : ReapReleases
unfolding reaped
reap_releases limit order m w f =
    ap (λ bs. order_in bs f) (taken_laid (reaped m) ∙ ap (λ ls. m.blocks ++ map laid_block ls) (sym (kept_laid m.caches)))
    ∙ (taken_gone is_empty_laid m.blocks (all_laid m.caches) f (subst AreApart (taken_laid m) w.apart)
    ∙ (ap (λ bs. unless_gone (order_in bs f) (order_in (m.blocks ++ map laid_block (all_laid m.caches)) f)) (sym (gone_laid m.caches))
    ∙ ap (λ bs. unless_gone (order_in (flat_map empty_blocks m.caches) f) (order_in bs f)) (sym (taken_laid m))))
