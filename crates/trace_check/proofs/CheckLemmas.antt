-- The finding follows from the verdicts on the replies, line by line.
use Rattle.std.proofs.Common.{◌≡◌, ℕ, suc, ◌+◌, ◌-◌, ◌≤◌, true, false, List, [], ◌∷◌, ◌++◌, Option, Some, None, Result, Ok, Err, length, refl, sym, ap, subst, ◌∙◌, append-nil, append_assoc, arith}
use Rattle.std.specs.Prelude.{◌==◌}
use Rattle.std.specs.Option.{option_map_or}
use Rattle.std.proofs.lemmas.Bool.{eqb-true}
use Rattle.words_core.specs.declared.event.Event.{Event}
use Rattle.words_core.specs.declared.event.LineFault.{LineFault}
use Rattle.words_core.specs.declared.reply.Addressee.{Addressee}
use Rattle.words_core.specs.declared.reply.Body.{Body}
use Rattle.words_core.specs.declared.reply.Body.TheVariants as Say
use Rattle.words_core.specs.declared.reply.Reply.{Reply}
use Rattle.words_core.specs.Requests.{body_of_answer, is_table}
use Rattle.words_core.specs.declared.answer.Answer.{Answer}
use Rattle.words_core.specs.declared.reply.Refusal.{Refusal}
use Rattle.promise_core.specs.declared.promise.Promise.{Promise}
use Rattle.promise_core.specs.Promises.{allowed}
use Rattle.promise_core.specs.State.{Known}
use Rattle.trace_check.specs.declared.finding.Breach.{Breach}
use Rattle.trace_check.specs.declared.finding.Finding.TheVariants.{Broken, Kept}
use Rattle.trace_check.specs.declared.gathered.Gathered.{Gathered}
use Rattle.trace_check.specs.Checking.{ComesToAdd, HasGathered, IsBreachAt, IsKnownAfter, IsLineOrNone}
use Rattle.trace_check.specs.declared.shown.TheConstants.{MAX_TEXT_BYTES}
use Rattle.trace_check.specs.Forms.{◌>>=◌}
use Rattle.trace_check.specs.Gathered.{whole_of}
use Rattle.trace_check.specs.Reading.{readings_of}
use Rattle.trace_check.specs.Replies.{◌or_else◌, answer_of}
use Rattle.trace_check.specs.Tables.{table_of, reply_of_text}
use Rattle.trace_check.specs.Reading.{HasEnded, HasGiven, MayFollow, Source}
use Rattle.trace_check.proofs.ReadingLemmas.{follows, lines_behind, none_follows, none_later, stand_first}
use Rattle.trace_check.proofs.TableLemmas.{table_takes}
use Rattle.trace_check.specs.Finding.{after_lines, lines_at, broken_by, finding, finding_of, refusal_read, lines_to, more_lines, or_broken, refusal_told, reply_in, text_read, verdict_at}

-- Lines that are read as a reply

-- if `came` is `k` whole lines, and any bytes follow it, the reply in the first `k` lines is the reply that is read from `came`
pub read_first : {k : ℕ} {came : List ℕ} {text : Gathered MAX_TEXT_BYTES} → HasGathered k came text → (more : List ℕ) → reply_in k (came ++ more) ≡ text_read came
read_first come more = ap (λ (found : Option (List ℕ × List ℕ)). found >>= (λ parts. text_read parts.0)) (stand_first come more)

pub read_there : {k : ℕ} {came : List ℕ} {text : Gathered MAX_TEXT_BYTES} (event : Event) (w : Known) → HasGathered k came text → k ≡ suc (more_lines event w)
    → (more : List ℕ) → reply_in (suc (more_lines event w)) (came ++ more) ≡ text_read came
read_there {came = came} event w come count more = ap (λ n. reply_in n (came ++ more)) (sym count) ∙ read_first come more

-- if `part` is `k` whole lines, the bytes that follow the first `k` lines of `part ++ more` are `more`
pub left_after : (k : ℕ) (part more : List ℕ) → lines_at k part ≡ Some (part, []) → after_lines k (part ++ more) ≡ more
left_after k part more whole =
    ap (λ (found : Option (List ℕ × List ℕ)). option_map_or (λ parts. parts.1) found []) (lines_behind k part more (part, []) whole)

-- if the replies have ended with fewer lines than the reply to the event must have, no reply is read from them
pub none_there : (new : Source) (n : ℕ) (part : List ℕ) (event : Event) (w : Known) → HasEnded new → lines_at n part ≡ None → n ≤ suc (more_lines event w)
    → (more : List ℕ) → MayFollow new more → reply_in (suc (more_lines event w)) (part ++ more) ≡ None
none_there new n part event w ended none few more may =
    let lines = suc (more_lines event w) in
    ap (λ (found : Option (List ℕ × List ℕ)). found >>= (λ parts. text_read parts.0))
    (none_later (lines - n) n lines (part ++ more) (omega (arith, few)) (none_follows n part more new ended none may))

-- Verdicts on replies

pub by_reply : (event : Event) (bytes : List ℕ) (w : Known) (found : Option Reply) → reply_in (suc (more_lines event w)) bytes ≡ found
    → verdict_at (Ok (Some event)) bytes w ≡ option_map_or (λ reply. allowed event reply w) found (Err (broken_by event (refusal_read (reply_in 1 bytes)) w))
by_reply event bytes w found e = ap (λ (r : Option Reply). option_map_or (λ reply. allowed event reply w) r (Err (broken_by event (refusal_read (reply_in 1 bytes)) w))) e

-- if the lines form no reply, the broken promise is the one that `broken_by` returns
pub no_reply_judged : (event : Event) (bytes : List ℕ) (w : Known) (promise : Promise) → reply_in (suc (more_lines event w)) bytes ≡ None
    → promise ≡ broken_by event (refusal_read (reply_in 1 bytes)) w → verdict_at (Ok (Some event)) bytes w ≡ Err promise
no_reply_judged event bytes w promise none is = by_reply event bytes w None none ∙ ap (λ (p : Promise). Err p) (sym is)

-- if the gathered bytes are within the limit, `text_read` reads them as the reply that `reply_of_text` reads
pub read_so : (came bytes : List ℕ) (found : Option Reply) → whole_of MAX_TEXT_BYTES came ≡ Some bytes → reply_of_text bytes ≡ found → text_read came ≡ found
read_so came bytes found whole is = ap (λ text. text >>= reply_of_text) whole ∙ is

pub as_answer : (bytes : List ℕ) (reply : Reply) → answer_of bytes ≡ Some reply → reply_of_text bytes ≡ Some reply
unfolding reply_of_text
as_answer bytes reply is = ap (λ found. found or_else table_of bytes) is

pub as_table : (bytes : List ℕ) → answer_of bytes ≡ None → reply_of_text bytes ≡ table_of bytes
unfolding reply_of_text
as_table bytes is = ap (λ found. found or_else table_of bytes) is

pub no_refusal_told : (who : Addressee) (answer : Answer) → ((refusal : Refusal) → answer ≡ Answer.Refused refusal → ⊥) → refusal_told who (body_of_answer answer) ≡ None
no_refusal_told who (Answer.Refused refusal) other = absurd (other refusal refl)
no_refusal_told who _ other = refl

-- a table is not a refusal
no_refusal : (who : Addressee) (body : Body) → is_table body ≡ true → refusal_told who body ≡ None
no_refusal who (Say.Refused refusal) is = absurd cc
no_refusal who _ is = refl

pub table_refuses_nothing : (bytes : List ℕ) → refusal_read (table_of bytes) ≡ None
table_refuses_nothing bytes = elim (table_of bytes) as (λ found. table_of bytes ≡ found → refusal_read found ≡ None) [
  | None ↦ λ is. refl
  | (Some reply) ↦ λ is. no_refusal reply.addressee reply.body (table_takes bytes reply is).1
] refl

-- The finding

abbrev pub Line : Type 0
Line = Result (Option Event) LineFault

pub goes_on : (line at lines : ℕ) (reading : Line) (readings : List Line) (bytes : List ℕ) (w after : Known) → verdict_at reading bytes w ≡ Ok after
    → lines ≡ lines_to reading w → finding line at (reading ∷ readings) bytes w ≡ finding (line + 1) (at + lines) readings (after_lines lines bytes) after
goes_on line at lines reading readings bytes w after is same =
    ap (λ (verdict : Result Known Promise). or_broken verdict (line + 1) (at + 1)
    (λ next. finding (line + 1) (at + lines_to reading w) readings (after_lines (lines_to reading w) bytes) next)) is
    ∙ ap (λ n. finding (line + 1) (at + n) readings (after_lines n bytes) after) (sym same)

-- if the reply to a line is allowed, what is known after the later lines is known after the lines from this one on
pub known_later : (lines : ℕ) (reading : Line) (readings : List Line) (bytes : List ℕ) (w after end : Known) → verdict_at reading bytes w ≡ Ok after
    → lines ≡ lines_to reading w → IsKnownAfter readings (after_lines lines bytes) after end → IsKnownAfter (reading ∷ readings) bytes w end
known_later lines reading readings bytes w after end is same known =
    (after, is, subst (λ n. IsKnownAfter readings (after_lines n bytes) after end) same known)

pub breaks : (line at : ℕ) (promise : Promise) (reading : Line) (readings : List Line) (bytes : List ℕ) (w : Known) → verdict_at reading bytes w ≡ Err promise
    → finding line at (reading ∷ readings) bytes w ≡ Broken (record { line = line + 1; reply = at + 1; promise = promise })
breaks line at promise reading readings bytes w is =
    ap (λ (verdict : Result Known Promise). or_broken verdict (line + 1) (at + 1)
    (λ next. finding (line + 1) (at + lines_to reading w) readings (after_lines (lines_to reading w) bytes) next)) is

-- at the end of both texts, the finding is `Kept`
pub ends_kept : (line at : ℕ) (ask tell : List ℕ) (w : Known) → ask ≡ [] → (length tell == 0) ≡ true → finding line at (readings_of ask) tell w ≡ Kept line
ends_kept line at ask [] w none ended = ap (λ (bytes : List ℕ). finding line at (readings_of bytes) [] w) none
ends_kept line at ask (b ∷ tell) w none ended = absurd (omega (arith, eqb-true (length (b ∷ tell)) 0 ended))

pub ends_broken : (line at : ℕ) (ask tell : List ℕ) (w : Known) → ask ≡ [] → (length tell == 0) ≡ false
    → finding line at (readings_of ask) tell w ≡ Broken (record { line = line; reply = at + 1; promise = Promise.Form })
ends_broken line at ask [] w none ended = absurd cc
ends_broken line at ask (b ∷ tell) w none ended = ap (λ (bytes : List ℕ). finding line at (readings_of bytes) (b ∷ tell) w) none

-- ---- the finding, whatever follows

-- The parts `trace_text` and `reply_text` of the two texts have been read. The finding for the whole texts is the finding for the bytes that
-- follow these parts, if it begins with the state `now` and the line numbers `line` and `at`. If memory may run out while
-- these bytes are checked, it may run out while the whole texts are checked. What is known after these bytes is known after the
-- whole texts.
abbrev pub IsBehind : (w : Known) (trace_text reply_text : List ℕ) (line at : ℕ) (trace : Source) (now : Known) → Type 0
IsBehind w trace_text reply_text line at trace now = (more later : List ℕ) → MayFollow trace more
    → (finding_of w (trace_text ++ more) (reply_text ++ later) ≡ finding line at (readings_of more) later now)
    × (ComesToAdd (readings_of more) later now → ComesToAdd (readings_of (trace_text ++ more)) (reply_text ++ later) w)
    × ((end : Known) → IsKnownAfter (readings_of more) later now end → IsKnownAfter (readings_of (trace_text ++ more)) (reply_text ++ later) w end)

-- what `IsBehind` says of the bytes that follow `trace_text` and `reply_text` also holds if these bytes begin with `part` and `answer`
pub behind_parts : {now : Known} {line at : ℕ} {old new : Source} (w : Known) (trace_text reply_text part answer : List ℕ) → IsBehind w trace_text reply_text line at old now
    → HasGiven old new part → (more later : List ℕ) → MayFollow new more
    → (finding_of w ((trace_text ++ part) ++ more) ((reply_text ++ answer) ++ later) ≡ finding line at (readings_of (part ++ more)) (answer ++ later) now)
    × (ComesToAdd (readings_of (part ++ more)) (answer ++ later) now → ComesToAdd (readings_of ((trace_text ++ part) ++ more)) ((reply_text ++ answer) ++ later) w)
    × ((end : Known) → IsKnownAfter (readings_of (part ++ more)) (answer ++ later) now end
    → IsKnownAfter (readings_of ((trace_text ++ part) ++ more)) ((reply_text ++ answer) ++ later) w end)
behind_parts w trace_text reply_text part answer is given more later may =
    let (found, adds, knows) = is (part ++ more) (answer ++ later) (follows given more may) in
    let asks : (trace_text ++ part) ++ more ≡ trace_text ++ (part ++ more) = append_assoc trace_text part more in
    let tells : (reply_text ++ answer) ++ later ≡ reply_text ++ (answer ++ later) = append_assoc reply_text answer later in (
      (λ i. finding_of w (asks i) (tells i)) ∙ found,
      λ more_adds.
          subst (λ bytes. ComesToAdd (readings_of ((trace_text ++ part) ++ more)) bytes w) (sym tells)
          (subst (λ bytes. ComesToAdd (readings_of bytes) (reply_text ++ (answer ++ later)) w) (sym asks) (adds more_adds)),
      λ end known.
          subst (λ bytes. IsKnownAfter (readings_of ((trace_text ++ part) ++ more)) bytes w end) (sym tells)
          (subst (λ bytes. IsKnownAfter (readings_of bytes) (reply_text ++ (answer ++ later)) w end) (sym asks) (knows end known)),
    )

-- ---- the line and the reply of a breach

-- if the verdict at a line is a broken promise, the line is neither blank nor a comment, so it has a reply
pub has_reply : (reading : Line) (bytes : List ℕ) (w : Known) (promise : Promise) → verdict_at reading bytes w ≡ Err promise → IsLineOrNone (reading ∷ [])
has_reply (Ok None) bytes w promise is = absurd cc
has_reply (Ok (Some event)) bytes w promise is = tt
has_reply (Err fault) bytes w promise is = tt

-- Suppose that `part`, the next part of the trace, is empty or is one line that has a reply. If the breach is at the last line of
-- `trace_text ++ part`, and at reply line `at + 1`, it is a breach at `part`.
pub breach_at : {now : Known} {line at : ℕ} (trace : Source) (w : Known) (trace_text reply_text part answer : List ℕ) (breach : Breach) (readings : List Line)
    → IsBehind w trace_text reply_text line at trace now → lines_at at reply_text ≡ Some (reply_text, []) → readings_of part ≡ readings → breach.line ≡ line + length readings
    → breach.reply ≡ at + 1 → IsLineOrNone readings → IsBreachAt w now breach (trace_text ++ part) (reply_text ++ answer) part answer
breach_at {now = now} {line = line} {at = at} trace w trace_text reply_text part answer breach readings behind whole read number reply one =
    let size : length (readings_of part) ≡ length readings = ap length read in
    record {
      earlier = trace_text;
      answers = reply_text;
      trace_is = refl;
      reply_is = refl;
      kept = (λ i. finding_of w (sym (append-nil trace_text) i) (sym (append-nil reply_text) i)) ∙ (behind [] [] (λ ended. refl)).0
          ∙ ap (λ n. Kept n) (let e : line ≡ breach.line - length (readings_of part) = omega (arith, size, number) in e);
      whole = ap (λ n. lines_at n reply_text) (let e : breach.reply - 1 ≡ at = omega (arith, reply) in e) ∙ whole;
      known = subst (λ bytes. IsKnownAfter (readings_of trace_text) bytes w now) (append-nil reply_text)
          (subst (λ bytes. IsKnownAfter (readings_of bytes) (reply_text ++ []) w now) (append-nil trace_text) ((behind [] [] (λ ended. refl)).2 now refl));
      one = subst IsLineOrNone (sym read) one;
    }
