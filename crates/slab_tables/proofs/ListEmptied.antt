-- Removing the slabs of a list one by one until none is left empties the list, and changes nothing else.
use Rattle.std.proofs.Common.{◌≡◌, ℕ, true, cond, Option, Some, None, length, set, refl, sym, ap, ◌∙◌, ◌⊎◌, inl, inr}
use Rattle.std.proofs.lemmas.Bool.{cases_eq, cases_Bool, eq-eqb, eqb-true, false≢true}
use Rattle.std.proofs.lemmas.List.{length-set, get_or-set_same, get_or-set_other}
use Rattle.klist_core.specs.Places.{Placed, place_at, is_in, IsEmpty, removed}
use Rattle.klist_core.proofs.PlacesChanged.{placed_within}
use Rattle.slab_tables.specs.Changes.{IsEmptied}

-- `s'` is `s` after some slabs of list h are removed
pub record IsEmptying (s s' : Placed) (h : ℕ) : Type 0 where
  pub heads : s'.heads ≡ s.heads
  pub machine_frames : length s'.places ≡ length s.places
  pub places : (n : ℕ) → (place_at s'.places n ≡ place_at s.places n) ⊎ ((place_at s'.places n ≡ None) × (is_in h (place_at s.places n) ≡ true))

pub emptying_none : (s : Placed) (h : ℕ) → IsEmptying s s h
emptying_none s h = record { heads = refl; machine_frames = refl; places = λ n. inl refl }

pub emptying_more : (s s' : Placed) (h machine_frame key : ℕ) → IsEmptying s s' h → place_at s'.places machine_frame ≡ Some (h, key) → IsEmptying s (removed s' machine_frame) h
emptying_more s s' h machine_frame key e here = record {
  heads = e.heads;
  machine_frames = length-set s'.places machine_frame None ∙ e.machine_frames;
  places = λ n. elim (cases_eq n machine_frame) [
    | inl is ↦ inr (
      ap (place_at (set s'.places machine_frame None)) is ∙ get_or-set_same s'.places machine_frame None None (placed_within s'.places machine_frame (h, key) here),
      in_list n (ap (place_at s'.places) is ∙ here) (e.places n),
    )
    | inr ne ↦ along n (get_or-set_other s'.places machine_frame n None None ne) (e.places n)
  ];
}
  where
    in_list : (n : ℕ) → place_at s'.places n ≡ Some (h, key)
        → (place_at s'.places n ≡ place_at s.places n) ⊎ ((place_at s'.places n ≡ None) × (is_in h (place_at s.places n) ≡ true)) → is_in h (place_at s.places n) ≡ true
    in_list n at (inl same) = ap (is_in h) (sym same ∙ at) ∙ eq-eqb h h refl
    in_list n at (inr gone) = gone.1

    along : (n : ℕ) → place_at (set s'.places machine_frame None) n ≡ place_at s'.places n
        → (place_at s'.places n ≡ place_at s.places n) ⊎ ((place_at s'.places n ≡ None) × (is_in h (place_at s.places n) ≡ true))
        → (place_at (set s'.places machine_frame None) n ≡ place_at s.places n) ⊎ ((place_at (set s'.places machine_frame None) n ≡ None) × (is_in h (place_at s.places n) ≡ true))
    along n kept (inl same) = inl (kept ∙ same)
    along n kept (inr gone) = inr (kept ∙ gone.0, gone.1)

pub emptying_all : (s s' : Placed) (h : ℕ) → IsEmptying s s' h → IsEmpty s'.places h → IsEmptied s s' h
emptying_all s s' h e none = record { heads = e.heads; machine_frames = e.machine_frames; places = λ n. ending n (e.places n) }
  where
    in_none : (n : ℕ) (o : Option (ℕ × ℕ)) → place_at s'.places n ≡ o → is_in h o ≡ true → ⊥
    in_none n None at is = false≢true is
    in_none n (Some (g, k)) at is = none n k (at ∙ ap (λ (x : ℕ). Some (x, k)) (eqb-true g h is))

    ending : (n : ℕ) → (place_at s'.places n ≡ place_at s.places n) ⊎ ((place_at s'.places n ≡ None) × (is_in h (place_at s.places n) ≡ true))
        → place_at s'.places n ≡ cond (is_in h (place_at s.places n)) None (place_at s.places n)
    ending n (inl same) = elim (cases_Bool (is_in h (place_at s.places n))) [
      | inl is ↦ absurd (in_none n (place_at s.places n) same is)
      | inr off ↦ same ∙ sym (ap (λ b. cond b None (place_at s.places n)) off)
    ]
    ending n (inr gone) = gone.0 ∙ sym (ap (λ b. cond b None (place_at s.places n)) gone.1)
