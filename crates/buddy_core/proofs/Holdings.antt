-- What each tenant holds after the holding of one tenant changes.
use Rattle.std.proofs.Common.{◌≡◌, ◌≢◌, ◌⊎◌, inl, inr, sym, ◌∙◌, ap, ℕ, ◌<◌, ◌≤◌, Option, Some, None, List, length, get_or, set}
use Rattle.std.proofs.lemmas.List.{get_or-set_same, get_or-set_other, get_or_past, set_past}
use Rattle.std.proofs.lemmas.Bool.{cases_eq, cases_lt}
use Rattle.model_core.specs.Blocks.{with_taken, without_taken}
use Rattle.buddy_core.specs.Content.{Holding, Content, holding_of, with_holding, taken_of, with_block, without_block}
use Rattle.buddy_core.proofs.BlockSteps.{changed_here, changed_other}

pub own_holding : (t : ℕ) (h : Holding) (c : Content) → t < length c.tenants → holding_of t (with_holding t h c) ≡ h
own_holding t h c here = get_or-set_same c.tenants t h _ here

pub other_holding : (t u : ℕ) (h : Holding) (c : Content) → u ≢ t → holding_of u (with_holding t h c) ≡ holding_of u c
other_holding t u h c other = get_or-set_other c.tenants t u h _ other

-- adding a block to a holding changes its taken blocks as `with_taken` does, and removing a block as `without_taken` does
module _ (h : Holding) (f : ℕ) where
  pub taken-with_block : (k : ℕ) → f < length h.taken → taken_of (with_block f k h) ≡ with_taken (taken_of h) f k
  taken-with_block k lt = λ i g. go g (cases_eq g f) i
    where
      go : (g : ℕ) → (g ≡ f) ⊎ (g ≡ f → ⊥) → taken_of (with_block f k h) g ≡ with_taken (taken_of h) f k g
      go g (inl e) = ap (λ n. get_or (set h.taken f (Some k)) n None) e ∙ get_or-set_same h.taken f (Some k) None lt ∙ sym (changed_here (taken_of h) f (Some k) g e)
      go g (inr ne) = get_or-set_other h.taken f g (Some k) None ne ∙ sym (changed_other (taken_of h) f (Some k) g ne)

  pub taken-without_block : taken_of (without_block f h) ≡ without_taken (taken_of h) f
  taken-without_block = λ i g. go g (cases_eq g f) (cases_lt f (length h.taken)) i
    where
      go : (g : ℕ) → (g ≡ f) ⊎ (g ≡ f → ⊥) → (f < length h.taken) ⊎ (length h.taken ≤ f) → taken_of (without_block f h) g ≡ without_taken (taken_of h) f g
      go g (inl e) (inl lt) = ap (λ n. get_or (set h.taken f None) n None) e ∙ get_or-set_same h.taken f None None lt ∙ sym (changed_here (taken_of h) f None g e)
      go g (inl e) (inr past) =
          ap (λ (xs : List (Option ℕ)). get_or xs g None) (set_past h.taken f None past)
          ∙ ap (λ n. get_or h.taken n None) e
          ∙ get_or_past h.taken f None past
          ∙ sym (changed_here (taken_of h) f None g e)
      go g (inr ne) _ = get_or-set_other h.taken f g None None ne ∙ sym (changed_other (taken_of h) f None g ne)
