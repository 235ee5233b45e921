-- If the finding is `Kept`, all replies are allowed. If it is `Broken`, the replies before the breach are allowed, and no allowed
-- reply begins at the breach.
use Rattle.std.proofs.Common.{◌≡◌, ℕ, zero, suc, ◌+◌, ◌==◌, Bool, true, false, cond, List, [], ◌∷◌, ◌++◌, map, take, Option, Some, None, Ok, Err, length, refl, sym, ap, subst, ◌∙◌, arith, append_assoc, append-nil}
use Rattle.std.specs.Prelude.{nat_lt, if◌then◌else◌, count_by}
use Rattle.std.specs.Option.{option_map_or}
use Rattle.std.specs.Str.{bytes_eq}
use Rattle.std.proofs.lemmas.Bool.{le-ltb}
use Rattle.std.proofs.lemmas.Option.{same_Some}
use Rattle.std.proofs.lemmas.List.{map-append}
use Rattle.std.proofs.lemmas.List.Sums.{sum_by-cons, sum_by-append}
use Rattle.std.proofs.lemmas.Slice.Eq.{bytes_eq-Decides}
use Rattle.words_core.specs.declared.event.Event.{Event}
use Rattle.words_core.specs.declared.event.LineFault.{LineFault}
use Rattle.words_core.specs.declared.reply.Reply.{Reply}
use Rattle.words_core.specs.Cutting.{lines_of_trace}
use Rattle.words_core.specs.Grammar.{reading_of}
use Rattle.words_core.specs.Texts.{text_of}
use Rattle.world_core.specs.World.{Exchange}
use Rattle.world_core.specs.Output.{event_in, events_of}
use Rattle.promise_core.specs.declared.promise.Promise.{Promise}
use Rattle.promise_core.specs.State.{Known, opening}
use Rattle.promise_core.specs.Promises.{allowed, all_allowed}
use Rattle.promise_kept.specs.Written.{text_of_replies}
use Rattle.trace_check.specs.declared.finding.Breach.{Breach}
use Rattle.trace_check.specs.declared.finding.Finding.{Finding}
use Rattle.trace_check.specs.declared.finding.Finding.TheVariants.{Kept, Broken}
use Rattle.trace_check.specs.declared.shown.TheConstants.{MAX_TEXT_BYTES}
use Rattle.trace_check.specs.Forms.{◌>>=◌}
use Rattle.trace_check.specs.Finding.{line_at, lines_at, after_lines, text_read, reply_in, more_lines, lines_to, broken_by, refusal_read, verdict_at, fault_reply, finding}
use Rattle.trace_check.specs.Laws.{KeptIsAllowed, HasNoReply, IsWrong, BrokenIsNotAllowed}
use Rattle.trace_check.specs.Ranges.{Fits}
use Rattle.trace_check.specs.Tables.{reply_of_text}
use Rattle.trace_check.proofs.CheckLemmas.{Line, breaks, by_reply, goes_on}
use Rattle.trace_check.proofs.CountLemmas.{as_many_lines}
use Rattle.trace_check.proofs.FormLemmas.{bind_some}
use Rattle.trace_check.proofs.ReplyLemmas.{reply_takes, reply_again}
use Rattle.trace_check.proofs.TextLemmas.{text_first, text_fits}

-- ---- the first lines, and the bytes that follow them

abbrev feeds : List ℕ → ℕ
feeds text = count_by (λ b. b == 10) text

feeds-append : (front rest : List ℕ) → feeds (front ++ rest) ≡ feeds front + feeds rest
feeds-append front rest = sum_by-append (λ b. cond (b == 10) 1 0) front rest

byte_feeds : (b : ℕ) (text : List ℕ) (is : Bool) → (b == 10) ≡ is → feeds (b ∷ text) ≡ cond is 1 0 + feeds text
byte_feeds b text is test = sum_by-cons (λ b. cond (b == 10) 1 0) b text ∙ ap (λ is. cond is 1 0 + feeds text) test

-- the bytes are `found.0`, which has `k` line feeds, and then `found.1`
record AreLines (k : ℕ) (bytes : List ℕ) (found : List ℕ × List ℕ) : Type 0 where
  parts : bytes ≡ found.0 ++ found.1
  count : feeds found.0 ≡ k

line_is : (bytes : List ℕ) (found : List ℕ × List ℕ) → line_at bytes ≡ Some found → AreLines 1 bytes found
line_is [] found is = absurd cc
line_is (b ∷ bytes) found is =
    elim (b == 10) as (λ t. (b == 10) ≡ t → (if t then Some (b ∷ [], bytes) else (line_at bytes >>= (λ found. Some (b ∷ found.0, found.1)))) ≡ Some found → AreLines 1 (b ∷ bytes) found) [
      | true ↦ λ feed same. subst (AreLines 1 (b ∷ bytes)) (same_Some (b ∷ [], bytes) found same) (record { parts = refl; count = byte_feeds b [] true feed })
      | false ↦ λ other same.
          let (more, more_is, last) = bind_some (line_at bytes) (λ found. Some (b ∷ found.0, found.1)) found same in
          let line = line_is bytes more more_is in
          subst (AreLines 1 (b ∷ bytes)) (same_Some (b ∷ more.0, more.1) found last)
          (record { parts = ap (λ more. b ∷ more) line.parts; count = omega (arith, byte_feeds b more.0 false other, line.count) })
    ] refl is

lines_are : (k : ℕ) (bytes : List ℕ) (found : List ℕ × List ℕ) → lines_at k bytes ≡ Some found → AreLines k bytes found
lines_are zero bytes found is = subst (AreLines 0 bytes) (same_Some ([], bytes) found is) (record { parts = refl; count = refl })
lines_are (suc k) bytes found is =
    let (front, front_is, next) = bind_some (lines_at k bytes) (λ front. line_at front.1 >>= (λ last. Some (front.0 ++ last.0, last.1))) found is in
    let (last, last_is, end) = bind_some (line_at front.1) (λ last. Some (front.0 ++ last.0, last.1)) found next in
    let before = lines_are k bytes front front_is in
    let line = line_is front.1 last last_is in
    subst (AreLines (suc k) bytes) (same_Some (front.0 ++ last.0, last.1) found end) (record {
      parts = before.parts ∙ ap (λ more. front.0 ++ more) line.parts ∙ sym (append_assoc front.0 last.0 last.1);
      count = omega (arith, feeds-append front.0 last.0, before.count, line.count);
    })

-- ---- one line

-- the bytes begin with the reply to the line; if the line has an event, the event and this reply are an allowed exchange
record IsStep (reading : Line) (bytes : List ℕ) (w after : Known) : Type 0 where
  exchanges : List Exchange
  events : map (λ e. e.event) exchanges ≡ event_in reading
  text : List ℕ
  lines : AreLines (lines_to reading w) bytes (text, after_lines (lines_to reading w) bytes)
  told : (readings : List Line) (later : List Exchange) → text_of_replies None (reading ∷ readings) (exchanges ++ later) ≡ text ++ text_of_replies None readings later
  are_allowed : (later : List Exchange) → all_allowed (exchanges ++ later) (Ok w) ≡ all_allowed later (Ok after)

read_text : (text : List ℕ) (reply : Reply) → text_read text ≡ Some reply → text_of reply ≡ text
read_text text reply is =
    elim (nat_lt MAX_TEXT_BYTES (length text)) as (λ b. ((if b then None else Some text) >>= reply_of_text) ≡ Some reply → text_of reply ≡ text) [
      | true ↦ λ none. absurd cc
      | false ↦ λ found. reply_takes text reply found
    ] is

-- if the first `k` lines are found, the bytes begin with them, and `after_lines` gives the rest
found_lines : (k : ℕ) (bytes : List ℕ) (found : List ℕ × List ℕ) → lines_at k bytes ≡ Some found → AreLines k bytes (found.0, after_lines k bytes)
found_lines k bytes found is = rw is (lines_are k bytes found is)

event_step : (event : Event) (bytes : List ℕ) (w after : Known) (found : Option Reply) → reply_in (suc (more_lines event w)) bytes ≡ found
    → option_map_or (λ reply. allowed event reply w) found (Err (broken_by event (refusal_read (reply_in 1 bytes)) w)) ≡ Ok after → IsStep (Ok (Some event)) bytes w after
event_step event bytes w after None is verdict = absurd cc
event_step event bytes w after (Some reply) is verdict =
    let (found, lines, read) = bind_some (lines_at (suc (more_lines event w)) bytes) (λ found. text_read found.0) reply is in
    record {
      exchanges = record { event = event; reply = reply } ∷ [];
      events = refl;
      text = found.0;
      lines = found_lines (suc (more_lines event w)) bytes found lines;
      told = λ readings later. ap (λ front. front ++ text_of_replies None readings later) (read_text found.0 reply read);
      are_allowed = λ later. ap (all_allowed later) verdict;
    }

fault_step : (fault : LineFault) (bytes : List ℕ) (w after : Known) (first : Option (List ℕ × List ℕ)) → lines_at 1 bytes ≡ first
    → (if option_map_or (λ found. bytes_eq found.0 (text_of (fault_reply fault))) first false then Ok w else Err Promise.Form) ≡ Ok after → IsStep (Err fault) bytes w after
fault_step fault bytes w after None is verdict = absurd cc
fault_step fault bytes w after (Some found) is verdict =
    elim (bytes_eq found.0 (text_of (fault_reply fault))) as (λ b. bytes_eq found.0 (text_of (fault_reply fault)) ≡ b → (if b then Ok w else Err Promise.Form) ≡ Ok after → IsStep (Err fault) bytes w after) [
      | true ↦ λ same verdict. record {
        exchanges = [];
        events = refl;
        text = found.0;
        lines = found_lines 1 bytes found is;
        told = λ readings later. ap (λ front. front ++ text_of_replies None readings later) (sym ((bytes_eq-Decides found.0 (text_of (fault_reply fault))).0 same));
        are_allowed = λ later. ap (all_allowed later) verdict;
      }
      | false ↦ λ _ broken. absurd cc
    ] refl verdict

line_step : (reading : Line) (bytes : List ℕ) (w after : Known) → verdict_at reading bytes w ≡ Ok after → IsStep reading bytes w after
line_step (Ok None) bytes w after verdict = record {
  exchanges = [];
  events = refl;
  text = [];
  lines = record { parts = refl; count = refl };
  told = λ readings later. refl;
  are_allowed = λ later. ap (all_allowed later) verdict;
}
line_step (Err fault) bytes w after verdict = fault_step fault bytes w after (lines_at 1 bytes) refl verdict
line_step (Ok (Some event)) bytes w after verdict = event_step event bytes w after (reply_in (suc (more_lines event w)) bytes) refl verdict

-- ---- all lines

-- if lines are left, the reply to the first of them is not allowed
abbrev Stops : List (List ℕ) → List ℕ → Known → Type 0
Stops [] bytes w = Unit {0}
Stops (line ∷ lines) bytes w = (promise : Promise) × (verdict_at (reading_of line) bytes w ≡ Err promise)

-- The replies to the lines `before` are allowed, and `rest` is the bytes that follow them. The reply to the first line of `left`
-- is not allowed. The finding for all lines is the finding for the lines `left` and the bytes `rest`.
record IsWalk (lines : List (List ℕ)) (bytes : List ℕ) (w : Known) : Type 0 where
  before : List (List ℕ)
  left : List (List ℕ)
  lines_are : lines ≡ before ++ left
  exchanges : List Exchange
  events : map (λ e. e.event) exchanges ≡ events_of before
  rest : List ℕ
  bytes_are : bytes ≡ text_of_replies None (map reading_of before) exchanges ++ rest
  after : Known
  are_allowed : all_allowed exchanges (Ok w) ≡ Ok after
  stops : Stops left rest after
  finds : (line at : ℕ) → finding line at (map reading_of lines) bytes w
      ≡ finding (line + length before) (at + feeds (text_of_replies None (map reading_of before) exchanges)) (map reading_of left) rest after

at_once : (lines : List (List ℕ)) (bytes : List ℕ) (w : Known) → Stops lines bytes w → IsWalk lines bytes w
at_once lines bytes w stops = record {
  before = [];
  left = lines;
  lines_are = refl;
  exchanges = [];
  events = refl;
  rest = bytes;
  bytes_are = refl;
  after = w;
  are_allowed = refl;
  stops = stops;
  finds = λ line at. let none : (n : ℕ) → n ≡ n + 0 = λ n. omega arith in λ i. finding (none line i) (none at i) (map reading_of lines) bytes w;
}

goes_further : (l : List ℕ) (lines : List (List ℕ)) (bytes : List ℕ) (w after : Known) → verdict_at (reading_of l) bytes w ≡ Ok after
    → IsWalk lines (after_lines (lines_to (reading_of l) w) bytes) after → IsWalk (l ∷ lines) bytes w
goes_further l lines bytes w after verdict more =
    let reading = reading_of l in
    let k = lines_to reading w in
    let step = line_step reading bytes w after verdict in
    let later = text_of_replies None (map reading_of more.before) more.exchanges in
    let told : text_of_replies None (map reading_of (l ∷ more.before)) (step.exchanges ++ more.exchanges) ≡ step.text ++ later =
    step.told (map reading_of more.before) more.exchanges in
    record {
      before = l ∷ more.before;
      left = more.left;
      lines_are = ap (λ lines. l ∷ lines) more.lines_are;
      exchanges = step.exchanges ++ more.exchanges;
      events = map-append (λ e. e.event) step.exchanges more.exchanges ∙ (λ i. step.events i ++ more.events i);
      rest = more.rest;
      bytes_are = step.lines.parts ∙ ap (λ t. step.text ++ t) more.bytes_are ∙ sym (append_assoc step.text later more.rest) ∙ ap (λ t. t ++ more.rest) (sym told);
      after = more.after;
      are_allowed = step.are_allowed more.exchanges ∙ more.are_allowed;
      stops = more.stops;
      finds = λ line at.
          let lines_so : (line + 1) + length more.before ≡ line + length (l ∷ more.before) = omega arith in
          let replies_so : (at + k) + feeds later ≡ at + feeds (text_of_replies None (map reading_of (l ∷ more.before)) (step.exchanges ++ more.exchanges)) =
          omega (arith, ap feeds told, feeds-append step.text later, step.lines.count) in
          goes_on line at k reading (map reading_of lines) bytes w after verdict refl ∙ more.finds (line + 1) (at + k)
          ∙ (λ i. finding (lines_so i) (replies_so i) (map reading_of more.left) more.rest more.after);
    }

walk : (lines : List (List ℕ)) (bytes : List ℕ) (w : Known) → IsWalk lines bytes w
walk [] bytes w = at_once [] bytes w tt
walk (l ∷ lines) bytes w = elim (verdict_at (reading_of l) bytes w) as (λ verdict. verdict_at (reading_of l) bytes w ≡ verdict → IsWalk (l ∷ lines) bytes w) [
  | (Ok after) ↦ λ is. goes_further l lines bytes w after is (walk lines (after_lines (lines_to (reading_of l) w) bytes) after)
  | (Err promise) ↦ λ is. at_once (l ∷ lines) bytes w (promise, is)
] refl

-- ---- kept findings

kept_end : (left : List (List ℕ)) (rest : List ℕ) (w : Known) (line at n : ℕ) → Stops left rest w → finding line at (map reading_of left) rest w ≡ Kept n
    → (left ≡ []) × (rest ≡ [])
kept_end [] [] w line at n stops kept = (refl, refl)
kept_end [] (b ∷ rest) w line at n stops kept = absurd cc
kept_end (l ∷ left) rest w line at n stops kept =
    let broken = breaks line at stops.0 (reading_of l) (map reading_of left) rest w stops.1 in absurd cc

pub kept_is_allowed : KeptIsAllowed
kept_is_allowed limit order superblocks tenants n trace replies kept =
    let lines = lines_of_trace trace in
    let all = walk lines replies (opening limit order superblocks tenants) in
    let (none, ended) = kept_end all.left all.rest all.after _ _ n all.stops (sym (all.finds 0 0) ∙ kept) in
    let whole : all.before ≡ lines = sym (all.lines_are ∙ ap (λ left. all.before ++ left) none ∙ append-nil all.before) in
    let told = text_of_replies None (map reading_of all.before) all.exchanges in
    record {
      exchanges = all.exchanges;
      events = all.events ∙ ap events_of whole;
      replies = all.bytes_are ∙ ap (λ rest. told ++ rest) ended ∙ append-nil told ∙ ap (λ before. text_of_replies None (map reading_of before) all.exchanges) whole;
      after = all.after;
      are_allowed = all.are_allowed;
    }

-- ---- broken findings

-- if the bytes begin with the text of an allowed reply whose numbers fit their types, this reply is read
reads_again : (event : Event) (reply : Reply) (w after : Known) (bytes rest : List ℕ) → Fits reply → bytes ≡ text_of reply ++ rest → allowed event reply w ≡ Ok after
    → reply_in (suc (more_lines event w)) bytes ≡ Some reply
reads_again event reply w after bytes rest fits is allowed =
    let text = text_of reply in
    let lines : lines_at (suc (more_lines event w)) bytes ≡ Some (text, rest) =
    (λ i. lines_at (sym (as_many_lines event reply w after allowed) i) (is i)) ∙ text_first reply rest in
    let short : nat_lt MAX_TEXT_BYTES (length text) ≡ false = le-ltb MAX_TEXT_BYTES (length text) (text_fits reply fits) in
    ap (λ found. found >>= (λ parts. text_read parts.0)) lines
    ∙ ap (λ longer. (if longer then None else Some text) >>= reply_of_text) short ∙ reply_again text reply fits refl

no_reply : (reading : Line) (bytes : List ℕ) (w : Known) (promise : Promise) → verdict_at reading bytes w ≡ Err promise → HasNoReply reading bytes w
no_reply (Ok None) bytes w promise broken = absurd cc
no_reply (Err fault) bytes w promise broken = λ rest is.
    let due = text_of (fault_reply fault) in
    let kept : verdict_at (Err fault) bytes w ≡ Ok w =
    ap (λ found. if option_map_or (λ parts. bytes_eq parts.0 due) found false then Ok w else Err Promise.Form) (ap (lines_at 1) is ∙ text_first (fault_reply fault) rest)
    ∙ ap (λ b. if b then Ok w else Err Promise.Form) ((bytes_eq-Decides due due).1 refl) in absurd cc
no_reply (Ok (Some event)) bytes w promise broken = λ reply rest after fits is allowed.
    let kept : verdict_at (Ok (Some event)) bytes w ≡ Ok after =
    by_reply event bytes w (Some reply) (reads_again event reply w after bytes rest fits is allowed) ∙ allowed in absurd cc

same_breach : (x y : Breach) → ◌≡◌ {A = Finding} (Broken x) (Broken y) → x ≡ y
same_breach x y e = cc

-- The bytes `rest` are wrong for the lines `left`, which come after `before` lines of the trace and `at` lines of the replies.
-- The breach is at line `before + 1` or, if `left` is empty, at line `before`. Its reply line is `at + 1`.
record IsEnd (left : List (List ℕ)) (rest : List ℕ) (w : Known) (before at : ℕ) (breach : Breach) : Type 0 where
  wrong : IsWrong left rest w
  line : breach.line ≡ before + length (take 1 left)
  reply : breach.reply ≡ at + 1

broken_end : (left : List (List ℕ)) (rest : List ℕ) (w : Known) (line at : ℕ) (breach : Breach) → Stops left rest w
    → finding line at (map reading_of left) rest w ≡ Broken breach → IsEnd left rest w line at breach
broken_end [] [] w line at breach stops broken = absurd cc
broken_end [] (b ∷ rest) w line at breach stops broken =
    let same = same_breach (record { line = line; reply = at + 1; promise = Promise.Form }) breach broken in
    record { wrong = λ none. absurd cc; line = sym (ap (λ (x : Breach). x.line) same) ∙ omega arith; reply = sym (ap (λ (x : Breach). x.reply) same) }
broken_end (l ∷ left) rest w line at breach stops broken =
    let same = same_breach (record { line = line + 1; reply = at + 1; promise = stops.0 }) breach
    (sym (breaks line at stops.0 (reading_of l) (map reading_of left) rest w stops.1) ∙ broken) in
    record { wrong = no_reply (reading_of l) rest w stops.0 stops.1; line = sym (ap (λ (x : Breach). x.line) same); reply = sym (ap (λ (x : Breach). x.reply) same) }

pub broken_is_not_allowed : BrokenIsNotAllowed
broken_is_not_allowed limit order superblocks tenants trace replies breach broken =
    let all = walk (lines_of_trace trace) replies (opening limit order superblocks tenants) in
    let end = broken_end all.left all.rest all.after _ _ breach all.stops (sym (all.finds 0 0) ∙ broken) in
    record {
      before = all.before;
      left = all.left;
      lines_are = all.lines_are;
      front = text_of_replies None (map reading_of all.before) all.exchanges;
      rest = all.rest;
      replies_are = all.bytes_are;
      kept = record { exchanges = all.exchanges; events = all.events; replies = refl; after = all.after; are_allowed = all.are_allowed };
      wrong = end.wrong;
      line = end.line ∙ omega arith;
      reply = end.reply ∙ omega arith;
    }
