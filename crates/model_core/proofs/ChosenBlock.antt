-- The block that a request gets is aligned, lies in a held slot, and is apart from all taken blocks.
use Rattle.std.proofs.Common.{◌≡◌, ℕ, ◌/◌, ◌^◌, ◌<◌, true, eqb, List, [], ◌∷◌, Option, Some, None, refl, ap, ◌∙◌, subst, inl, inr, arith}
use Rattle.std.specs.Prelude.{if◌then◌else◌, option_map, MatchOption}
use Rattle.std.specs.List.{list_any, AllByRecursion as Each}
use Rattle.std.proofs.lemmas.Bool.{or_cases, eqb-true, ne_eqb, eq-eqb, false≢true}
use Rattle.model_core.specs.Blocks.{Block, block, HasFrame, IsAligned, IsChoice, IsWithout, IsTaken}
use Rattle.model_core.specs.Choice.{choose}
use Rattle.model_core.specs.Machine.{Machine, holds, beyond, taken_blocks, order_in, taken_in, choice}
use Rattle.model_core.specs.WellFormed.{IsApart, AreApart}
use Rattle.model_core.specs.Laws.{ChoiceIsUntaken, ChoicesMeet}
use Rattle.model_core.proofs.BlockChoice.{choice_is_found, one_choice}
use Rattle.model_core.proofs.FreeBlocks.{reserved_is_untaken}
use Rattle.model_core.specs.Elements.{IsIn}
use Rattle.model_core.proofs.Lists.{each_in, each_from}
use Rattle.model_core.proofs.BlocksApart.{apart_first, has_first}

-- `beyond slots` is above every slot of the list
pub held_below : (slots : List ℕ) (u : ℕ) → list_any (λ v. eqb v u) slots ≡ true → u < beyond slots
held_below [] u e = absurd (false≢true e)
held_below (v ∷ slots) u e = elim (or_cases (eqb v u) (list_any (λ v. eqb v u) slots) e) [
  | inl h ↦ let same : v ≡ u = eqb-true v u h in omega arith
  | inr h ↦ let below : u < beyond slots = held_below slots u h in omega arith
]

pub choice_is_untaken : ChoiceIsUntaken
unfolding choice
choice_is_untaken order k first m e = go (choose order (holds m) (taken_in m) (beyond m.slots) k) e
    (choice_is_found order (holds m) (taken_in m) (beyond m.slots) k (held_below m.slots))
  where
    go : (o : Option Block) → option_map (λ b. b.first) o ≡ Some first → MatchOption o (IsWithout order (holds m) (taken_in m) k) (IsChoice order (holds m) (taken_in m) k)
        → IsAligned order (block first k) × ((x : ℕ) → HasFrame (block first k) x → (holds m (x / 2 ^ order) ≡ true) × (IsTaken (taken_in m) x → ⊥))
    go None e c = absurd (cc)
    go (Some b) e c =
        let same : b.first ≡ first = cc in
        subst (λ f. IsAligned order (block f k) × ((x : ℕ) → HasFrame (block f k) x → (holds m (x / 2 ^ order) ≡ true) × (IsTaken (taken_in m) x → ⊥)))
        same (reserved_is_untaken order (holds m) (taken_in m) b.first b.order k c.0 c.1)

-- if the blocks of a list are apart, a lookup at the first frame of block b of the list returns the order of b
pub order_in_listed : (bs : List Block) (b : Block) → AreApart bs → IsIn b bs → order_in bs b.first ≡ Some b.order
order_in_listed [] b h i = elim i [ ]
order_in_listed (a ∷ bs) b (e, h) (inl same) = subst (λ c. order_in (a ∷ bs) c.first ≡ Some c.order) same (ap (λ t. if t then Some a.order else order_in bs a.first) (eq-eqb a.first a.first refl))
order_in_listed (a ∷ bs) b (e, h) (inr i) =
    ap (λ t. if t then Some a.order else order_in bs b.first) (ne_eqb a.first b.first (λ same. apart_first a b (each_in (IsApart a) b bs e i) same))
    ∙ order_in_listed bs b h i

-- if the taken blocks are apart, the block that a request gets is apart from all of them
pub chosen_apart : (order k first : ℕ) (m : Machine) → AreApart (taken_blocks m) → choice order m k ≡ Some first → Each (IsApart (block first k)) (taken_blocks m)
chosen_apart order k first m h e = each_from (IsApart (block first k)) (taken_blocks m) (λ b i x has of.
    ((choice_is_untaken order k first m e).1 x has).1 (b.first, b.order, order_in_listed (taken_blocks m) b h i, of))

-- the block that a request gets is aligned and lies in a held slot
pub chosen_placed : (order k first : ℕ) (m : Machine) → choice order m k ≡ Some first → IsAligned order (block first k) × (holds m (first / 2 ^ order) ≡ true)
chosen_placed order k first m e = ((choice_is_untaken order k first m e).0, ((choice_is_untaken order k first m e).1 first (has_first (block first k))).0)

-- The choice for maps that agree with the machine's held slots and taken blocks

pub choices_meet : ChoicesMeet
unfolding choice
choices_meet order k held taken m same_slots same_blocks = (λ first j is. some first j is o found, λ none. no_choice none o found)
  where
    o : Option Block
    o = choose order (holds m) (taken_in m) (beyond m.slots) k

    slots : holds m ≡ held
    slots = λ i u. same_slots u i

    blocks : taken_in m ≡ taken
    blocks = λ i f. same_blocks f i

    found : MatchOption o (IsWithout order held taken k) (IsChoice order held taken k)
    found = subst (λ h. MatchOption o (IsWithout order h taken k) (IsChoice order h taken k)) slots
        (subst (λ t. MatchOption o (IsWithout order (holds m) t k) (IsChoice order (holds m) t k)) blocks (choice_is_found order (holds m) (taken_in m) (beyond m.slots) k (held_below m.slots)))

    some : (first j : ℕ) → IsChoice order held taken k (block first j) → (p : Option Block) → MatchOption p (IsWithout order held taken k) (IsChoice order held taken k) → option_map (λ b. b.first) p ≡ Some first
    some first j is None other = absurd (other (block first j) is.0 is.1)
    some first j is (Some b) other = ap (λ c. Some c.first) (one_choice order held taken k b (block first j) other is)

    no_choice : IsWithout order held taken k → (p : Option Block) → MatchOption p (IsWithout order held taken k) (IsChoice order held taken k) → option_map (λ b. b.first) p ≡ None
    no_choice none None other = refl
    no_choice none (Some b) other = absurd (none b other.0 other.1)
