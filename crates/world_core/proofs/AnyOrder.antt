-- If calls that share no lock commute, two lists of calls with the same locks leave the same state, and under each lock the same is
-- seen.
use Rattle.std.proofs.Common.{◌≡◌, Bool, true, false, List, [], ◌∷◌, ◌++◌, cond, refl, ap, sym, ◌∙◌}
use Rattle.std.specs.Prelude.{filter}
use Rattle.std.specs.List.{AllByRecursion}
use Rattle.world_core.specs.Locks.{Lock, ShareNoLock, HaveSameLocks}
use Rattle.world_core.proofs.SameLocks.{filter-pass, filter-skip, in_any_order}

-- the state after the calls, and what is seen of each call
abbrev pub after : {A S : Type 0} → (A → S → S) → List A → S → S
after step [] s = s
after step (call ∷ calls) s = after step calls (step call s)

abbrev pub all_seen : {A S R : Type 0} → (A → S → S) → (A → S → R) → List A → S → List R
all_seen step seen [] s = []
all_seen step seen (call ∷ calls) s = seen call s ∷ all_seen step seen calls (step call s)

-- two calls leave the same state in either order, and the same is seen of each, whether it comes first or second
pub record Swap {A S R : Type 0} (step : A → S → S) (seen : A → S → R) (a b : A) (s : S) : Type 0 where
  pub state : step b (step a s) ≡ step a (step b s)
  pub first : seen a (step b s) ≡ seen a s
  pub second : seen b (step a s) ≡ seen b s

-- what is seen of two calls may be put in either order, if at most one of the two passes the test
swapped : {R : Type 0} (p : R → Bool) (x y : R) (rest : List R) → (p x ≡ true → p y ≡ true → ⊥) → filter p (x ∷ y ∷ rest) ≡ filter p (y ∷ x ∷ rest)
swapped p x y rest apart = go (p x) (p y) refl refl
  where
    go : (b c : Bool) → p x ≡ b → p y ≡ c → filter p (x ∷ y ∷ rest) ≡ filter p (y ∷ x ∷ rest)
    go true true here there = absurd (apart here there)
    go true false here there =
        filter-pass p x (y ∷ rest) here ∙ ap (λ zs. x ∷ zs) (filter-skip p y rest there)
        ∙ sym (filter-skip p y (x ∷ rest) there ∙ filter-pass p x rest here)
    go false c here there =
        filter-skip p x (y ∷ rest) here
        ∙ ap (λ zs. cond (p y) (y ∷ zs) zs) (sym (filter-skip p x rest here))

-- the two lists of calls leave the same state, and under each lock the same is seen
pub record SameRun {A S R : Type 0} (seen_needs : Lock → R → Bool) (step : A → S → S) (seen : A → S → R) (calls calls' : List A) (s : S) : Type 0 where
  pub state : after step calls s ≡ after step calls' s
  pub seen_alike : HaveSameLocks seen_needs (all_seen step seen calls s) (all_seen step seen calls' s)

module _ {A S R : Type 0} (needs : Lock → A → Bool) (seen_needs : Lock → R → Bool) (step : A → S → S) (seen : A → S → R)
    (same_need : (l : Lock) (a : A) (s : S) → seen_needs l (seen a s) ≡ needs l a)
    (swap : (a b : A) (s : S) → ShareNoLock needs a b → Swap step seen a b s)
    (needs_one : (a : A) → (l : Lock) × (needs l a ≡ true)) where
  -- a call may come before calls with which it shares no lock
  moved_state : (call : A) (pre post : List A) (s : S) → AllByRecursion (ShareNoLock needs call) pre
      → after step (call ∷ (pre ++ post)) s ≡ after step (pre ++ call ∷ post) s
  moved_state call [] post s apart = refl
  moved_state call (x ∷ pre) post s apart =
      ap (after step (pre ++ post)) (swap call x s apart.0).state ∙ moved_state call pre post (step x s) apart.1

  moved_seen : (l : Lock) (call : A) (pre post : List A) (s : S) → AllByRecursion (ShareNoLock needs call) pre
      → filter (seen_needs l) (all_seen step seen (call ∷ (pre ++ post)) s) ≡ filter (seen_needs l) (all_seen step seen (pre ++ call ∷ post) s)
  moved_seen l call [] post s apart = refl
  moved_seen l call (x ∷ pre) post s apart =
      let both = swap call x s apart.0 in
      let p : R → Bool = seen_needs l in
      let rest : S → List R = λ t. all_seen step seen (pre ++ post) t in
      ap (λ y. filter p (seen call s ∷ y ∷ rest (step x (step call s)))) both.second
      ∙ ap (λ t. filter p (seen call s ∷ seen x s ∷ rest t)) both.state
      ∙ swapped p (seen call s) (seen x s) (rest (step call (step x s)))
      (λ here there. apart.0 l (sym (same_need l call s) ∙ here) (sym (same_need l x s) ∙ there))
      ∙ ap (λ y. filter p (seen x s ∷ y ∷ rest (step call (step x s)))) (sym both.first)
      ∙ ap (λ zs. cond (p (seen x s)) (seen x s ∷ zs) zs) (moved_seen l call pre post (step x s) apart.1)

  pub same_run : (calls calls' : List A) → HaveSameLocks needs calls calls' → (s : S) → SameRun seen_needs step seen calls calls' s
  same_run = in_any_order needs (λ calls calls'. (s : S) → SameRun seen_needs step seen calls calls' s) needs_one (λ s. record { state = refl; seen_alike = λ l. refl })
      (λ call calls pre post apart rest s.
      let next = rest (step call s) in
      record {
        state = next.state ∙ moved_state call pre post s apart;
        seen_alike = λ l. ap (λ zs. cond (seen_needs l (seen call s)) (seen call s ∷ zs) zs) (next.seen_alike l) ∙ moved_seen l call pre post s apart;
      })
