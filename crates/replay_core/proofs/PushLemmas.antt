-- If a text is pushed part by part, the bytes that the drain took are together a prefix of the text.
use Rattle.std.proofs.Common.{◌≡◌, ℕ, zero, suc, ◌+◌, ◌<◌, ◌≤◌, Bool, true, false, List, [], ◌∷◌, ◌++◌, Option, Some, Result, Ok, Err, length, take, drop, refl, sym, ap, subst, ◌∙◌, arith, add-one, append_assoc, length-append, take-append-drop}
use Rattle.std.proofs.lemmas.List.{append-nil, length-take-le}
use Rattle.std.specs.List.{concat, slice_get}
use Rattle.std.specs.Io.KnownBytes.{Appends, Keeps}
use Rattle.streams.specs.declared.feed.Stopped.{Stopped}
use Rattle.std.specs.Result.{is_err}
use Rattle.std.specs.Prelude.{nat_eq, if◌then◌else◌}
use Rattle.std.proofs.lemmas.Bool.Decides.{nat_tests}
use Rattle.words_core.specs.declared.reply.Reply.{Reply}
use Rattle.words_core.specs.Texts.{text_of}
use Rattle.world_core.specs.Output.{is_shown, shown_text}
use Rattle.replay_core.specs.Pushes.{HasPushed, IsWholeAtOk}
use Rattle.streams.proofs.MoveLemmas.{appends_nothing, appends_more, appends_kept}

-- all of the text was taken and counted, except for `rest`, which is still to be pushed
pub record HasPushedBut (old new : Option (List ℕ)) (text rest : List ℕ) (written written' : ℕ) : Type 0 where
  pub taken : List ℕ
  pub split : text ≡ taken ++ rest
  pub appended : Appends old new taken
  pub counted : written' ≡ written + length taken

pub nothing_pushed : (known : Option (List ℕ)) (text : List ℕ) (written : ℕ) → HasPushedBut known known text text written written
nothing_pushed known text written = record { taken = []; split = refl; appended = appends_nothing known; counted = omega arith }

-- if the next part was taken and counted too, only the bytes after it are still to be pushed
pub pushed_more : (old now new : Option (List ℕ)) (text rest part after : List ℕ) (written written' written'' : ℕ)
    → HasPushedBut old now text rest written written' → rest ≡ part ++ after → Appends now new part → written'' ≡ written' + length part
    → HasPushedBut old new text after written written''
pushed_more old now new text rest part after written written' written'' had cut appended counted = record {
  taken = had.taken ++ part;
  split = had.split ∙ ap (λ xs. had.taken ++ xs) cut ∙ sym (append_assoc had.taken part after);
  appended = appends_more old now new had.taken part had.appended appended;
  counted = omega (arith, counted, had.counted, length-append had.taken part);
}

pub pushed_count : (old now new : Option (List ℕ)) (text rest : List ℕ) (count written written' written'' : ℕ)
    → HasPushedBut old now text rest written written' → count ≤ length rest → Appends now new (take count rest) → written'' ≡ written' + count
    → HasPushedBut old new text (drop count rest) written written''
pushed_count old now new text rest count written written' written'' had within appended counted =
    pushed_more old now new text rest (take count rest) (drop count rest) written written' written'' had
    (sym (take-append-drop count rest)) appended (omega (arith, counted, length-take-le count rest within))

pub pushed_part : (old now new : Option (List ℕ)) (failing : Bool) (text rest line after : List ℕ) (written written' written'' : ℕ)
    → HasPushedBut old now text rest written written' → rest ≡ line ++ after → HasPushed now new failing line written' written'' (Ok tt)
    → HasPushedBut old new text after written written''
pushed_part old now new failing text rest line after written written' written'' had cut more =
    let whole : line ≡ more.taken = more.split ∙ ap (λ xs. more.taken ++ xs) more.whole ∙ append-nil more.taken in
    pushed_more old now new text rest more.taken after written written' written'' had (cut ∙ ap (λ xs. xs ++ after) whole) more.appended more.counted

-- if nothing is left and the drain has not failed, the whole text was pushed
pub pushed_all : (old new : Option (List ℕ)) (failing : Bool) (text rest : List ℕ) (written written' : ℕ)
    → HasPushedBut old new text rest written written' → rest ≡ [] → failing ≡ false → HasPushed old new failing text written written' (Ok tt)
pushed_all old new failing text rest written written' had none fine = record {
  taken = had.taken;
  rest = rest;
  split = had.split;
  appended = had.appended;
  counted = had.counted;
  whole = none;
  failed = fine;
}

-- if the test for an empty list fails, the list has a byte
pub some_left : (bytes : List ℕ) (test : Bool) → test ≡ nat_eq (length bytes) 0 → test ≡ false → 0 < length bytes
some_left bytes test is full = grind (arith, nat_tests)

part_at_err : (result : Result (Unit {0}) Stopped) (rest : List ℕ) → is_err result ≡ true → 0 < length rest → IsWholeAtOk result rest
part_at_err (Ok x) rest failed some = cc
part_at_err (Err e) rest failed some = some

-- if the drain failed before it took any byte of `rest`, it took exactly the text before `rest`
pub pushed_to : (old now new : Option (List ℕ)) (failing : Bool) (text rest : List ℕ) (written written' : ℕ) (result : Result (Unit {0}) Stopped)
    → is_err result ≡ true → HasPushedBut old now text rest written written' → Keeps now new → 0 < length rest → failing ≡ true
    → HasPushed old new failing text written written' result
pushed_to old now new failing text rest written written' result failed had kept some stopped = record {
  taken = had.taken;
  rest = rest;
  split = had.split;
  appended = appends_kept old now new had.taken had.appended kept;
  counted = had.counted;
  whole = part_at_err result rest failed some;
  failed = stopped ∙ sym failed;
}

-- if the drain failed within the next part, it took the text only up to some byte of this part
pub pushed_into : (old now new : Option (List ℕ)) (failing : Bool) (text rest line after : List ℕ) (written written' written'' : ℕ) (stopped : Stopped)
    (result : Result (Unit {0}) Stopped) → is_err result ≡ true
    → HasPushedBut old now text rest written written' → rest ≡ line ++ after → HasPushed now new failing line written' written'' (Err stopped)
    → HasPushed old new failing text written written'' result
pushed_into old now new failing text rest line after written written' written'' stopped result failed had cut more = record {
  taken = had.taken ++ more.taken;
  rest = more.rest ++ after;
  split = had.split
      ∙ ap (λ xs. had.taken ++ xs) (cut ∙ ap (λ xs. xs ++ after) more.split ∙ append_assoc more.taken more.rest after)
      ∙ sym (append_assoc had.taken more.taken (more.rest ++ after));
  appended = appends_more old now new had.taken more.taken had.appended more.appended;
  counted = omega (arith, more.counted, had.counted, length-append had.taken more.taken);
  whole = part_at_err result (more.rest ++ after) failed (omega (arith, more.whole, length-append more.rest after));
  failed = more.failed ∙ sym failed;
}

-- if the drain failed within the first part of a text, it took the text only up to some byte of this part
pub pushed_begun : (old new : Option (List ℕ)) (failing : Bool) (line after : List ℕ) (written written' : ℕ) (stopped : Stopped)
    (result : Result (Unit {0}) Stopped) → is_err result ≡ true → HasPushed old new failing line written written' (Err stopped)
    → HasPushed old new failing (line ++ after) written written' result
pushed_begun old new failing line after written written' stopped result failed part =
    pushed_into old old new failing (line ++ after) (line ++ after) line after written written written' stopped result failed
    (nothing_pushed old (line ++ after) written) refl part

-- if the drain took the first part of a text, the result of pushing the second part is the result for the whole text
pub pushed_both : (old now new : Option (List ℕ)) (failing failing' : Bool) (line after : List ℕ) (written written' written'' : ℕ)
    (result : Result (Unit {0}) Stopped) → HasPushed old now failing line written written' (Ok tt) → HasPushed now new failing' after written' written'' result
    → HasPushed old new failing' (line ++ after) written written'' result
pushed_both old now new failing failing' line after written written' written'' result first second =
    let had = pushed_part old old now failing (line ++ after) (line ++ after) line after written written written' (nothing_pushed old (line ++ after) written) refl first in record {
      taken = had.taken ++ second.taken;
      rest = second.rest;
      split = had.split ∙ ap (λ xs. had.taken ++ xs) second.split ∙ sym (append_assoc had.taken second.taken second.rest);
      appended = appends_more old now new had.taken second.taken had.appended second.appended;
      counted = omega (arith, second.counted, had.counted, length-append had.taken second.taken);
      whole = second.whole;
      failed = second.failed;
    }

-- the count grows by at most the number of bytes of the text
pub pushed_few : (old new : Option (List ℕ)) (failing : Bool) (text : List ℕ) (written written' : ℕ) (result : Result (Unit {0}) Stopped)
    → HasPushed old new failing text written written' result → written' ≤ written + length text
pushed_few old new failing text written written' result pushed =
    omega (arith, pushed.counted, ap length pushed.split, length-append pushed.taken pushed.rest)

row_here : (rows : List (List ℕ)) (i : ℕ) (line : List ℕ) → slice_get rows i ≡ Some line → concat (drop i rows) ≡ line ++ concat (drop (suc i) rows)
row_here [] i line h = cc
row_here (row ∷ rows) zero line h = let same : row ≡ line = cc in ap (λ xs. xs ++ concat rows) same
row_here (row ∷ rows) (suc i) line h = row_here rows i line h

-- the text of the rows from `i` on begins with row `i`
pub row_next : (rows : List (List ℕ)) (i : ℕ) (line : List ℕ) → slice_get rows i ≡ Some line → concat (drop i rows) ≡ line ++ concat (drop (i + 1) rows)
row_next rows i line h = rw add-one (row_here rows i line h)

-- the shown text of a reply that is shown is its whole text
pub shown_whole : (only : Option ℕ) (reply : Reply) (test : Bool) → test ≡ is_shown only reply.addressee → test ≡ true → shown_text only reply ≡ text_of reply
shown_whole only reply test is shown =
    subst (λ (b : Bool). (if b then text_of reply else []) ≡ text_of reply) (sym shown ∙ is) refl
