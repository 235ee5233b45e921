-- If some lines were processed, and then the lines after them, all these lines were processed. The last line of a trace needs no
-- LF.
use Rattle.std.proofs.Common.{◌≡◌, ℕ, ◌<◌, Bool, true, false, inl, inr, List, [], ◌∷◌, ◌++◌, Result, Ok, Err, Option, length, refl, ap, sym, subst, ◌∙◌, append_assoc, arith}
use Rattle.std.proofs.lemmas.List.{append-nil, nil_from_length}
use Rattle.std.specs.Io.KnownBytes.{Appends, Keeps}
use Rattle.std.specs.Result.{is_err}
use Rattle.std.specs.Prelude.{MatchResult, nat_eq}
use Rattle.words_core.specs.Cutting.{lines_of_trace}
use Rattle.world_core.specs.Output.{with_line_feeds, ended_lines}
use Rattle.world_core.proofs.ShownReplies.{with_line_feeds-append}
use Rattle.streams.specs.declared.feed.Stopped.{Stopped}
use Rattle.streams.proofs.MoveLemmas.{appends_nothing, appends_more, appends_kept}
use Rattle.streams.specs.Lines.{IsOneLine}
use Rattle.replay_core.specs.Standing.{AreLines}
use Rattle.replay_core.specs.Doing.{HaveRun, IsCutOff, HasDone, HasGone, HasStopped}
use Rattle.replay_core.specs.Ending.{HasLeft, HasRunInto}
use Rattle.streams.proofs.LineLemmas.{one_line_append}
use Rattle.replay_core.proofs.LineLemmas.{line_ended, lines_cut, lines_ended, one_line_cut, one_line_unended}

lines_both : (xs ys : List (List ℕ)) → AreLines xs → AreLines ys → AreLines (xs ++ ys)
lines_both [] ys h k = k
lines_both (x ∷ xs) ys h k = (h.0, lines_both xs ys h.1 k)

-- if the bytes are the lines `xs` followed by `rest`, and `rest` is the lines `ys` followed by `left`, the bytes are the lines
-- `xs ++ ys` followed by `left`
cut_twice : (bytes rest left : List ℕ) (xs ys : List (List ℕ)) → bytes ≡ with_line_feeds xs ++ rest → rest ≡ with_line_feeds ys ++ left
    → bytes ≡ with_line_feeds (xs ++ ys) ++ left
cut_twice bytes rest left xs ys cut more =
    cut ∙ ap (λ zs. with_line_feeds xs ++ zs) more ∙ sym (append_assoc (with_line_feeds xs) (with_line_feeds ys) left)
    ∙ ap (λ zs. zs ++ left) (sym (with_line_feeds-append xs ys))

-- if `rest` is `part`, an LF and `after`, then `held ++ rest` is the line `held ++ part`, an LF and `after`
cut_held : (held rest part after : List ℕ) → rest ≡ (part ++ 10 ∷ []) ++ after → held ++ rest ≡ ((held ++ part) ++ 10 ∷ []) ++ after
cut_held held rest part after cut =
    ap (λ xs. held ++ xs) cut ∙ sym (append_assoc held (part ++ 10 ∷ []) after)
    ∙ ap (λ xs. xs ++ after) (sym (append_assoc held part (10 ∷ [])))

module _ {S : Type 0} (does : S → List ℕ → List ℕ → List ℕ → S → Type 0) where
  runs_on : (s mid s' : S) (xs ys : List (List ℕ)) (taken more : List ℕ) → HaveRun does s xs taken mid → HaveRun does mid ys more s'
      → HaveRun does s (xs ++ ys) (taken ++ more) s'
  runs_on s mid s' [] ys taken more h k =
      subst (λ (ts : List ℕ). HaveRun does s ys (ts ++ more) s') (sym h.0) (subst (λ (t : S). HaveRun does t ys more s') h.1 k)
  runs_on s mid s' (x ∷ xs) ys taken more h k =
      (h.0, h.1, h.2 ++ more, ap (λ ts. ts ++ more) h.3 ∙ append_assoc h.1 h.2 more, h.4, runs_on h.0 mid s' xs ys h.2 more h.5 k)

  run_one : (s s' : S) (line : List ℕ) (old new : Option (List ℕ)) → (done : HasDone does s line old new (Ok tt) s')
      → HaveRun does s (line ∷ []) done.taken s'
  run_one s s' line old new done =
      (s', done.taken, [], sym (append-nil done.taken), subst (λ (rest : List ℕ). does s line done.taken rest s') done.whole done.did, (refl, refl))

  -- if a property holds, and each line that is processed keeps it, it holds after all the lines
  pub run_keeps : (P : List (List ℕ) → List ℕ → S → Type 0)
      → ((xs : List (List ℕ)) (line taken here : List ℕ) (s s' : S) → P xs taken s → does s line here [] s' → P (xs ++ line ∷ []) (taken ++ here) s')
      → (xs lines : List (List ℕ)) (taken more : List ℕ) (s s' : S) → P xs taken s → HaveRun does s lines more s' → P (xs ++ lines) (taken ++ more) s'
  run_keeps P step xs [] taken more s s' here h =
      subst (λ (ys : List (List ℕ)). P ys (taken ++ more) s') (sym (append-nil xs))
      (subst (λ (ts : List ℕ). P xs ts s') (sym (ap (λ ts. taken ++ ts) h.0 ∙ append-nil taken)) (subst (λ (t : S). P xs taken t) (sym h.1) here))
  run_keeps P step xs (line ∷ lines) taken more s s' here h =
      subst (λ (ys : List (List ℕ)). P ys (taken ++ more) s') (append_assoc xs (line ∷ []) lines)
      (subst (λ (ts : List ℕ). P ((xs ++ line ∷ []) ++ lines) ts s') (append_assoc taken h.1 h.2 ∙ ap (λ ts. taken ++ ts) (sym h.3))
      (run_keeps P step (xs ++ line ∷ []) lines (taken ++ h.1) h.2 h.0 s' (step xs line taken h.1 s h.0 here h.4) h.5))

  -- if no line was processed, all bytes are left, and the state and the drain's contents stay the same
  pub gone_nothing : (s : S) (bytes : List ℕ) (known : Option (List ℕ)) → HasGone does s bytes bytes known known s
  gone_nothing s bytes known =
      record { done = []; taken = []; split = refl; ended = tt; ran = (refl, refl); appended = appends_nothing known }

  -- if the lines before `rest` were processed, and then the lines of `rest` before `left`, all lines before `left` were processed
  pub gone_on : (s mid s' : S) (bytes rest left : List ℕ) (old now new : Option (List ℕ)) → HasGone does s bytes rest old now mid
      → HasGone does mid rest left now new s' → HasGone does s bytes left old new s'
  gone_on s mid s' bytes rest left old now new first then = record {
    done = first.done ++ then.done;
    taken = first.taken ++ then.taken;
    split = cut_twice bytes rest left first.done then.done first.split then.split;
    ended = lines_both first.done then.done first.ended then.ended;
    ran = runs_on s mid s' first.done then.done first.taken then.taken first.ran then.ran;
    appended = appends_more old now new first.taken then.taken first.appended then.appended;
  }

  -- if the lines before `rest` were processed, and the drain failed in a line of `rest`, it failed in a line of all the bytes
  pub stopped_on : (s mid s' : S) (bytes rest : List ℕ) (old now new : Option (List ℕ)) → HasGone does s bytes rest old now mid
      → HasStopped does mid rest now new s' → HasStopped does s bytes old new s'
  stopped_on s mid s' bytes rest old now new first last = record {
    mid = last.mid;
    now = last.now;
    line = last.line;
    after = last.after;
    stopped = last.stopped;
    gone = gone_on s mid last.mid bytes rest _ old now last.now first last.gone;
    one = last.one;
    done = last.done;
  }

  -- if the lines before `rest` were processed, and then the lines of `rest` with this result, all lines were processed with this
  -- result
  pub result_on : {A : Type 0} (r : Result A Stopped) (now_of : A → List ℕ) (s mid s' : S) (bytes rest : List ℕ) (old now new : Option (List ℕ))
      → HasGone does s bytes rest old now mid
      → MatchResult r (λ x. HasGone does mid rest (now_of x) now new s') (λ _. HasStopped does mid rest now new s')
      → MatchResult r (λ x. HasGone does s bytes (now_of x) old new s') (λ _. HasStopped does s bytes old new s')
  result_on (Ok x) now_of s mid s' bytes rest old now new gone h = gone_on s mid s' bytes rest (now_of x) old now new gone h
  result_on (Err e) now_of s mid s' bytes rest old now new gone h = stopped_on s mid s' bytes rest old now new gone h

  -- Suppose that the lines before `held ++ rest` were processed, and that `rest` is `part`, an LF and `after`. If the line
  -- `held ++ part` was then processed in full, all lines before `after` were processed.
  pub gone_end : (s mid s' : S) (bytes held rest part after : List ℕ) (old now new : Option (List ℕ)) → HasGone does s bytes (held ++ rest) old now mid
      → IsOneLine held → IsOneLine part → rest ≡ (part ++ 10 ∷ []) ++ after → HasDone does mid (held ++ part) now new (Ok tt) s'
      → HasGone does s bytes after old new s'
  gone_end s mid s' bytes held rest part after old now new gone one more cut done =
      gone_on s mid s' bytes (held ++ rest) after old now new gone (record {
        done = (held ++ part) ∷ [];
        taken = done.taken;
        split = cut_held held rest part after cut ∙ ap (λ xs. xs ++ after) (sym (append-nil ((held ++ part) ++ 10 ∷ [])));
        ended = (one_line_append held part one more, tt);
        ran = run_one mid s' (held ++ part) now new done;
        appended = done.appended;
      })

  -- Suppose that the lines before `held ++ rest` were processed, and that `rest` is `part`, an LF and `after`. If the drain then
  -- failed in the line `held ++ part`, it failed in a line of `bytes`.
  pub stopped_end : (s mid s' : S) (bytes held rest part after : List ℕ) (old now new : Option (List ℕ)) (stopped : Stopped)
      → HasGone does s bytes (held ++ rest) old now mid → IsOneLine held → IsOneLine part → rest ≡ (part ++ 10 ∷ []) ++ after
      → HasDone does mid (held ++ part) now new (Err stopped) s' → HasStopped does s bytes old new s'
  stopped_end s mid s' bytes held rest part after old now new stopped gone one more cut done = record {
    mid = mid;
    now = now;
    line = held ++ part;
    after = after;
    stopped = stopped;
    gone = subst (λ (xs : List ℕ). HasGone does s bytes xs old now mid) (cut_held held rest part after cut) gone;
    one = one_line_append held part one more;
    done = done;
  }

  -- If more bytes are given, the lines that were processed stay the same, and the new bytes are appended to the bytes that are
  -- left. In between, the drain may have sent what it took.
  pub gone_given : (s s' : S) (bytes rest more : List ℕ) (old now new : Option (List ℕ)) → HasGone does s bytes rest old now s' → Keeps now new
      → HasGone does s (bytes ++ more) (rest ++ more) old new s'
  gone_given s s' bytes rest more old now new gone kept = record {
    done = gone.done;
    taken = gone.taken;
    split = ap (λ xs. xs ++ more) gone.split ∙ append_assoc (with_line_feeds gone.done) rest more;
    ended = gone.ended;
    ran = gone.ran;
    appended = appends_kept old now new gone.taken gone.appended kept;
  }

  pub gone_sent : (s s' : S) (bytes rest : List ℕ) (old now new : Option (List ℕ)) → HasGone does s bytes rest old now s' → Keeps now new
      → HasGone does s bytes rest old new s'
  gone_sent s s' bytes rest old now new gone kept = record {
    done = gone.done;
    taken = gone.taken;
    split = gone.split;
    ended = gone.ended;
    ran = gone.ran;
    appended = appends_kept old now new gone.taken gone.appended kept;
  }

  -- if the bytes left have no LF, all lines that ended in LF were processed
  pub ended_are_done : (s s' : S) (given tail : List ℕ) (old new : Option (List ℕ)) → (gone : HasGone does s given tail old new s') → IsOneLine tail
      → HaveRun does s (ended_lines given) gone.taken s'
  ended_are_done s s' given tail old new gone one =
      subst (λ (lines : List (List ℕ)). HaveRun does s lines gone.taken s')
      (sym (ap ended_lines gone.split ∙ lines_ended gone.done tail gone.ended
      ∙ ap (λ more. gone.done ++ more) (one_line_unended tail one) ∙ append-nil gone.done)) gone.ran

  -- if the bytes left have no LF, they are the bytes after the lines that ended in LF
  pub ended_split : (s s' : S) (given tail : List ℕ) (old new : Option (List ℕ)) → (gone : HasGone does s given tail old new s') → IsOneLine tail
      → given ≡ with_line_feeds (ended_lines given) ++ tail
  ended_split s s' given tail old new gone one =
      gone.split ∙ ap (λ lines. with_line_feeds lines ++ tail)
      (sym (ap ended_lines gone.split ∙ lines_ended gone.done tail gone.ended
      ∙ ap (λ more. gone.done ++ more) (one_line_unended tail one) ∙ append-nil gone.done))

  -- if no bytes are left, all lines of the trace were processed
  pub all_are_done : (s s' : S) (given tail : List ℕ) (old new : Option (List ℕ)) → (gone : HasGone does s given tail old new s') → length tail ≡ 0
      → HaveRun does s (lines_of_trace given) gone.taken s'
  all_are_done s s' given tail old new gone none =
      subst (λ (lines : List (List ℕ)). HaveRun does s lines gone.taken s')
      (sym (ap lines_of_trace gone.split ∙ lines_cut gone.done tail gone.ended
      ∙ ap (λ rest. gone.done ++ lines_of_trace rest) (nil_from_length tail none) ∙ append-nil gone.done)) gone.ran

  last_cut : (s s' : S) (given tail : List ℕ) (old new : Option (List ℕ)) → (gone : HasGone does s given tail old new s') → IsOneLine tail
      → 0 < length tail → lines_of_trace given ≡ gone.done ++ tail ∷ []
  last_cut s s' given tail old new gone one some =
      ap lines_of_trace gone.split ∙ lines_cut gone.done tail gone.ended
      ∙ ap (λ more. gone.done ++ more) (one_line_cut tail one some)

  -- if the bytes left are the last line, without an LF, and it was processed in full, all lines of the trace were processed
  pub last_is_done : (s mid s' : S) (given tail : List ℕ) (old now new : Option (List ℕ)) → HasGone does s given tail old now mid → IsOneLine tail
      → 0 < length tail → HasDone does mid tail now new (Ok tt) s'
      → (taken : List ℕ) × Appends old new taken × HaveRun does s (lines_of_trace given) taken s'
  last_is_done s mid s' given tail old now new gone one some done = (
    gone.taken ++ done.taken,
    appends_more old now new gone.taken done.taken gone.appended done.appended,
    subst (λ (lines : List (List ℕ)). HaveRun does s lines (gone.taken ++ done.taken) s') (sym (last_cut s mid given tail old now gone one some))
        (runs_on s mid s' gone.done (tail ∷ []) gone.taken done.taken gone.ran (run_one mid s' tail now new done)),
  )

  cut_off : (s mid s' : S) (bytes rest line : List ℕ) (old now new : Option (List ℕ)) (stopped : Stopped) → (gone : HasGone does s bytes rest old now mid)
      → (done : HasDone does mid line now new (Err stopped) s') → IsCutOff does s gone.done line (gone.taken ++ done.taken) s'
  cut_off s mid s' bytes rest line old now new stopped gone done =
      record { mid = mid; earlier = gone.taken; here = done.taken; rest = done.rest; split = refl; some = done.whole; ran = gone.ran; did = done.did }

  -- if the feed has ended, and the drain failed in a last line without an LF, the output of that line was cut short
  pub stopped_at_last : (ended : Bool) (s mid s' : S) (given tail : List ℕ) (old now new : Option (List ℕ)) (stopped : Stopped)
      → HasGone does s given tail old now mid → IsOneLine tail → 0 < length tail → HasDone does mid tail now new (Err stopped) s' → ended ≡ true
      → (taken : List ℕ) × Appends old new taken × HasRunInto does ended s given taken s'
  stopped_at_last ended s mid s' given tail old now new stopped gone one some done over = (
    gone.taken ++ done.taken,
    appends_more old now new gone.taken done.taken gone.appended done.appended,
    (gone.done, tail, inr (over, last_cut s mid given tail old now gone one some), cut_off s mid s' given tail tail old now new stopped gone done),
  )

  -- if the drain failed in a line that ended in LF, the output of that line was cut short
  pub stopped_before : (ended : Bool) (s s' : S) (given : List ℕ) (old new : Option (List ℕ)) → HasStopped does s given old new s'
      → (taken : List ℕ) × Appends old new taken × HasRunInto does ended s given taken s'
  stopped_before ended s s' given old new last =
      let gone = last.gone in
      let all = append_assoc gone.done (last.line ∷ []) (ended_lines last.after) in (
        gone.taken ++ last.done.taken,
        appends_more old last.now new gone.taken last.done.taken gone.appended last.done.appended,
        (
          gone.done,
          last.line,
          inl (
            ended_lines last.after,
            ap ended_lines gone.split ∙ lines_ended gone.done _ gone.ended
                ∙ ap (λ more. gone.done ++ more) (line_ended last.line last.after last.one) ∙ sym all,
          ),
          cut_off s last.mid s' given _ last.line old last.now new last.stopped gone last.done,
        ),
      )

-- if an unfinished line has bytes and the effect `leaves`, `HasLeft` holds for it
pub has_left : {S : Type 0} (leaves : S → List ℕ → S → Type 0) (s : S) (tail : List ℕ) (s' : S) → 0 < length tail → leaves s tail s' → HasLeft leaves s tail s'
has_left leaves s [] s' some left = absurd (omega (arith, some))
has_left leaves s (b ∷ tail) s' some left = left

-- if a pull returns 0 bytes, the feed has ended
pub ended_at : (ended : Bool) (count : ℕ) → ended ≡ nat_eq count 0 → count ≡ 0 → ended ≡ true
ended_at ended count is none = is ∙ ap (λ n. nat_eq n 0) none

-- if a fact holds for every error, it holds for a result that is an error
pub at_error : {A : Type 0} (P : A → Type 0) (Q : Stopped → Type 0) (r : Result A Stopped) → is_err r ≡ true → ((e : Stopped) → Q e) → MatchResult r P Q
at_error P Q (Ok x) failed h = cc
at_error P Q (Err e) failed h = h e

pub err_of : (P Q : Type 0) (r : Result (Unit {0}) Stopped) → is_err r ≡ true → MatchResult r (λ _. P) (λ _. Q) → Q
err_of P Q (Ok x) failed h = cc
err_of P Q (Err e) failed h = h

pub ok_of : (P Q : Type 0) (r : Result (Unit {0}) Stopped) → is_err r ≡ false → MatchResult r (λ _. P) (λ _. Q) → P
ok_of P Q (Ok x) fine h = h
ok_of P Q (Err e) fine h = cc

pub is_ok_of : (r : Result (Unit {0}) Stopped) → is_err r ≡ false → r ≡ Ok tt
is_ok_of (Ok x) fine = refl
is_ok_of (Err e) fine = cc

pub is_err_of : (r : Result (Unit {0}) Stopped) → is_err r ≡ true → (e : Stopped) × (r ≡ Err e)
is_err_of (Ok x) failed = cc
is_err_of (Err e) failed = (e, refl)

-- If a line had the effect `first` up to state `mid`, and `first` up to `mid` implies `does` up to s', the line had the effect
-- `does` up to s'.
pub done_then : {S : Type 0} (first does : S → List ℕ → List ℕ → List ℕ → S → Type 0) (s mid s' : S) (line : List ℕ) (old new : Option (List ℕ))
    (result : Result (Unit {0}) Stopped) → HasDone first s line old new result mid
    → ((taken rest : List ℕ) → first s line taken rest mid → does s line taken rest s') → HasDone does s line old new result s'
done_then first does s mid s' line old new result done then =
    record { taken = done.taken; rest = done.rest; did = then done.taken done.rest done.did; appended = done.appended; whole = done.whole }
