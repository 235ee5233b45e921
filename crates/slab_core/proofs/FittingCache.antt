-- The search for a block around the empty slabs of one cache: the invariant of its loop, and its steps.
use Rattle.std.proofs.Common.{◌≡◌, ℕ, ◌*◌, ◌-◌, ◌/◌, ◌^◌, ◌<◌, ◌≤◌, length, Some, None, Bool, eqb, ◌||◌, sym, ap, ◌∙◌, subst, inl, inr, ⊎_elim, arith}
use Rattle.std.specs.Prelude.{Option, List, IfSome, MatchOption, is_some}
use Rattle.std.proofs.Math.Nat.{div-mul-le_self, div-lt_iff_lt-mul}
use Rattle.std.proofs.lemmas.Nat.{pow_pos}
use Rattle.std.proofs.lemmas.Bool.{cases_lt, cases_eq, ne_eqb}
use Rattle.model_core.specs.Blocks.{around}
use Rattle.model_core.specs.declared.limits.TheConstants.{MAX_CACHES, WIDE_FRAMES}
use Rattle.klist_core.specs.Places.{place_at, NoneAbove, IsNext}
use Rattle.space_core.specs.Content as spaces
use Rattle.buddy_core.specs.Content as buddies
use Rattle.slab_tables.specs.Content.{Content, IsSlabs, head_of}
use Rattle.machine_changes.specs.Shows.{Agree}
use Rattle.machine_changes.specs.Steady.{IsSteady}
use Rattle.slab_core.specs.Fitting.{IsUnusedBlock, WouldFitAround, AreRefused}
use Rattle.slab_core.proofs.LargeFreeBlocks.{held_within}
use Rattle.slab_core.proofs.IdleFrames.{listed_taken}

-- WIDE_FRAMES minus the first frame of the slab that the search reaches next, or 0 if no slab is left
abbrev pub left : Option (ℕ × ℕ) → ℕ
left None = 0
left (Some p) = WIDE_FRAMES - p.0

-- `next` is the entry with the next key in list p.0, after key p.1, or `None` if there is none
abbrev pub Follows : List (Option (ℕ × ℕ)) → Option (ℕ × ℕ) → ℕ × ℕ → Type 0
Follows places next p = MatchOption next (NoneAbove places p.0 p.1) (λ q. IsNext places p.0 p.1 q.0 q.1)

module _ (r : spaces.Content) (b : buddies.Content) (s : Content) (t c k : ℕ) where
  -- no block of order k fits around an empty slab of cache c that begins before `frame`
  abbrev pub IsNoneBefore : ℕ → Type 0
  IsNoneBefore frame = (f n : ℕ) → place_at s.lists.places n ≡ Some (head_of t c 2, f) → f < frame → IsUnusedBlock r b s t (around f k).first k → ⊥

  -- an empty slab of cache c begins at frame f, and no block of order k fits around the empty slabs of c before it
  pub record IsNextSlab (f n : ℕ) : Type 0 where
    pub placed : place_at s.lists.places n ≡ Some (head_of t c 2, f)
    pub none : IsNoneBefore f

  -- the search has reached the slab `next`, or `next` is `None` and no block of order k fits around any empty slab of cache c
  pub record IsSearched (next : Option (ℕ × ℕ)) : Type 0 where
    pub rest : MatchOption next (WouldFitAround r b s t c k → ⊥) (λ p. IsNextSlab p.0 p.1)

module _ {r : spaces.Content} {b : buddies.Content} {s : Content} {t c k : ℕ} where
  pub next_is : {next : Option (ℕ × ℕ)} {slab machine_frame : ℕ} → IsSearched r b s t c k next → next ≡ Some (slab, machine_frame) → IsNextSlab r b s t c k slab machine_frame
  next_is is e = subst (λ o. MatchOption o (WouldFitAround r b s t c k → ⊥) (λ p. IsNextSlab r b s t c k p.0 p.1)) e is.rest

  module _ {slab machine_frame : ℕ} (here : IsNextSlab r b s t c k slab machine_frame) where
    pub slab_small : IsSlabs s → Agree r b s → IsSteady r b s t → c < MAX_CACHES → slab < WIDE_FRAMES
    slab_small w a st less = let taken = listed_taken r b s t c slab machine_frame w a less here.placed in st.few slab taken.0 taken.1

    -- the slab's first frame is below the number of machine frames
    pub slab_within : IsSlabs s → Agree r b s → IsSteady r b s t → buddies.IsSized b → t < length b.tenants → c < MAX_CACHES → slab < length s.lists.places
    slab_within w a st sized lt less =
        let taken = listed_taken r b s t c slab machine_frame w a less here.placed in
        let held = ap is_some (a.slots t (slab / 2 ^ s.top)) ∙ (st.sound.placed slab taken.0 taken.1).1 in
        let below : slab < b.superblocks * 2 ^ s.top = (div-lt_iff_lt-mul (pow_pos s.top)).0 (held_within b t (slab / 2 ^ s.top) sized lt held) in
        omega (arith, below, a.machine_frames)

    -- `next` is the slab after this slab in the list of empty slabs of cache c, or `None` if this slab is the last
    abbrev pub IsAfter : Option (ℕ × ℕ) → Type 0
    IsAfter next = Follows s.lists.places next (head_of t c 2, slab)

    pub after_is : (places : List (Option (ℕ × ℕ))) (next : Option (ℕ × ℕ)) → places ≡ s.lists.places
        → IfSome (place_at places machine_frame) (Follows places next) → IsAfter next
    after_is places next same after =
        subst (λ (o : Option (ℕ × ℕ)). IfSome o (Follows s.lists.places next)) here.placed
        (subst (λ (xs : List (Option (ℕ × ℕ))). IfSome (place_at xs machine_frame) (Follows xs next)) same after)

    pub left_less : (next : Option (ℕ × ℕ)) → slab < WIDE_FRAMES → IsAfter next → left next < left (Some (slab, machine_frame))
    left_less None small after = omega arith
    left_less (Some q) small after = let above = after.above in omega arith

    -- if no block fits around the slab, the search continues with the next one
    pub goes_on : (next : Option (ℕ × ℕ)) → (IsUnusedBlock r b s t (around slab k).first k → ⊥) → IsAfter next → IsSearched r b s t c k next
    goes_on next none after = record { rest = go next after }
      where
        up_to : (f n : ℕ) → place_at s.lists.places n ≡ Some (head_of t c 2, f) → f ≤ slab → IsUnusedBlock r b s t (around f k).first k → ⊥
        up_to f n placed low unused = ⊎_elim
            (λ before. here.none f n placed before unused)
            (λ from.
            let same : f ≡ slab = omega arith in
            none (subst (λ x. IsUnusedBlock r b s t (around x k).first k) same unused))
            (cases_lt f slab)

        go : (o : Option (ℕ × ℕ)) → IsAfter o → MatchOption o (WouldFitAround r b s t c k → ⊥) (λ p. IsNextSlab r b s t c k p.0 p.1)
        go None above = λ h. up_to h.first h.machine_frame h.empty (above h.machine_frame h.first h.empty) h.unused
        go (Some q) is = record {
          placed = is.here;
          none = λ f n placed before. ⊎_elim
              (λ behind. let least = is.least n f placed behind in absurd (omega arith))
              (λ low. up_to f n placed low)
              (cases_lt slab f);
        }

-- if the block with number i is refused, `AreRefused` is still true after i is added to the set
pub refused_more : (r : spaces.Content) (b : buddies.Content) (s : Content) (t k : ℕ) (before after : ℕ → Bool) (i : ℕ) → AreRefused r b s t k before
    → ((n : ℕ) → after n ≡ (eqb n i || before n)) → (IsUnusedBlock r b s t (i * 2 ^ k) k → ⊥) → AreRefused r b s t k after
refused_more r b s t k before after i refused more none n is = elim (cases_eq n i) [
  | inl same ↦ λ unused. none (subst (λ j. IsUnusedBlock r b s t (j * 2 ^ k) k) same unused)
  | inr other ↦ refused n (sym (ap (λ v. v || before n) (ne_eqb n i other)) ∙ sym (more n) ∙ is)
]

pub first_small : (x k : ℕ) → x < WIDE_FRAMES → (around x k).first < WIDE_FRAMES
first_small x k small = let before = div-mul-le_self x (2 ^ k) in omega arith
