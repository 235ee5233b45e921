-- If calls hold their locks, the order in which they begin has the same locks as the order in which they end.
use Rattle.std.proofs.Common.{◌≡◌, Bool, true, false, List, [], ◌∷◌, ◌++◌, cond, refl, ap, sym, subst, ◌∙◌, append_assoc}
use Rattle.std.specs.Prelude.{filter}
use Rattle.std.specs.List.{AllByRecursion}
use Rattle.std.proofs.lemmas.List.Elements.{filter-append}
use Rattle.world_core.specs.Locks.{Lock, ShareNoLock, HaveSameLocks, Mark, Begins, Ends, HoldLocks, begun, ended}
use Rattle.world_core.proofs.SameLocks.{filter-pass, filter-skip}

skipped : {A : Type 0} (p : A → Bool) (x : A) (xs : List A) → (p x ≡ true → ⊥) → filter p xs ≡ [] → filter p (x ∷ xs) ≡ []
skipped p x xs never none = go (p x) refl
  where
    go : (b : Bool) → p x ≡ b → filter p (x ∷ xs) ≡ []
    go true here = absurd (never here)
    go false here = filter-skip p x xs here ∙ none

-- if x does not pass the test, or nothing of xs does, x may come before xs
put_first : {A : Type 0} (p : A → Bool) (x : A) (xs ys : List A) → (p x ≡ true → filter p xs ≡ []) → filter p (xs ++ x ∷ ys) ≡ filter p (x ∷ (xs ++ ys))
put_first p x xs ys none = go (p x) refl
  where
    both : filter p (xs ++ x ∷ ys) ≡ filter p xs ++ filter p (x ∷ ys)
    both = filter-append p xs (x ∷ ys)

    go : (b : Bool) → p x ≡ b → filter p (xs ++ x ∷ ys) ≡ filter p (x ∷ (xs ++ ys))
    go true here =
        both ∙ ap (λ zs. zs ++ filter p (x ∷ ys)) (none here) ∙ filter-pass p x ys here
        ∙ sym (filter-pass p x (xs ++ ys) here ∙ ap (λ zs. x ∷ zs) (filter-append p xs ys ∙ ap (λ zs. zs ++ filter p ys) (none here)))
    go false here =
        both ∙ ap (λ zs. filter p xs ++ zs) (filter-skip p x ys here) ∙ sym (filter-skip p x (xs ++ ys) here ∙ filter-append p xs ys)

module _ {A : Type 0} (needs : Lock → A → Bool) where
  -- no two calls of the list share a lock
  abbrev AllApart : List A → Type 0
  AllApart [] = Unit {0}
  AllApart (call ∷ calls) = AllByRecursion (ShareNoLock needs call) calls × AllApart calls

  -- if a call needs a lock, no call that shares no lock with it does
  none_needed : (l : Lock) (call : A) (calls : List A) → needs l call ≡ true → AllByRecursion (ShareNoLock needs call) calls → filter (needs l) calls ≡ []
  none_needed l call [] here apart = refl
  none_needed l call (x ∷ calls) here apart = skipped (needs l) x calls (apart.0 l here) (none_needed l call calls here apart.1)

  all_left : (P : A → Type 0) (call : A) (before rest : List A) → AllByRecursion P (before ++ call ∷ rest) → AllByRecursion P (before ++ rest)
  all_left P call [] rest all = all.1
  all_left P call (x ∷ before) rest all = (all.0, all_left P call before rest all.1)

  all_at : (P : A → Type 0) (call : A) (before rest : List A) → AllByRecursion P (before ++ call ∷ rest) → P call
  all_at P call [] rest all = all.0
  all_at P call (x ∷ before) rest all = all_at P call before rest all.1

  -- if a running call ends, the others still share no lock
  still_apart : (call : A) (before rest : List A) → AllApart (before ++ call ∷ rest) → AllApart (before ++ rest)
  still_apart call [] rest apart = apart.1
  still_apart call (x ∷ before) rest apart = (all_left (ShareNoLock needs x) call before rest apart.0, still_apart call before rest apart.1)

  -- no call that began after the call that ends, and is running, needs a lock of it
  before_free : (l : Lock) (call : A) (before rest : List A) → AllApart (before ++ call ∷ rest) → needs l call ≡ true → filter (needs l) before ≡ []
  before_free l call [] rest apart here = refl
  before_free l call (x ∷ before) rest apart here =
      skipped (needs l) x before (λ there. all_at (ShareNoLock needs x) call before rest apart.0 l there here) (before_free l call before rest apart.1 here)

  -- the running calls and those that begin later, under each lock in the order in which they end
  begun_or_running : (running : List A) (marks : List (Mark A)) → AllApart running → HoldLocks needs running marks → (l : Lock)
      → filter (needs l) (running ++ begun marks) ≡ filter (needs l) (ended marks)
  begun_or_running running [] apart hold l = ap (λ xs. filter (needs l) (xs ++ [])) hold
  begun_or_running running (Begins call ∷ marks) apart hold l =
      put_first (needs l) call running (begun marks) (λ here. none_needed l call running here hold.0)
      ∙ begun_or_running (call ∷ running) marks (hold.0, apart) hold.1 l
  begun_or_running running (Ends call ∷ marks) apart (before, rest, is, hold) l =
      let apart' : AllApart (before ++ call ∷ rest) = subst AllApart is apart in
      let others = begun_or_running (before ++ rest) marks (still_apart call before rest apart') hold l in
      ap (λ xs. filter (needs l) (xs ++ begun marks)) is
      ∙ ap (filter (needs l)) (append_assoc before (call ∷ rest) (begun marks))
      ∙ put_first (needs l) call before (rest ++ begun marks) (before_free l call before rest apart')
      ∙ ap (λ zs. cond (needs l call) (call ∷ zs) zs) (ap (filter (needs l)) (sym (append_assoc before rest (begun marks))) ∙ others)

  pub begun_as_ended : (marks : List (Mark A)) → HoldLocks needs [] marks → HaveSameLocks needs (begun marks) (ended marks)
  begun_as_ended marks hold = begun_or_running [] marks tt hold
