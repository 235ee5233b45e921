-- Pulled bytes, and the lines that are read from them.
use Rattle.std.proofs.Common.{◌≡◌, ℕ, zero, suc, ◌+◌, ◌-◌, ◌<◌, ◌==◌, Bool, true, false, List, [], ◌∷◌, ◌++◌, Option, Some, None, Result, Ok, Err, length, take, map, refl, sym, ap, subst, ◌∙◌, arith, append_assoc, length-append, add-zero, add-suc}
use Rattle.std.specs.Prelude.{is_err, nat_lt, slice_index, if◌then◌else◌}
use Rattle.std.specs.List.{onto_first}
use Rattle.std.specs.Io.KnownBytes.{Consumes, IsAtEnd, Keeps, prepend_known}
use Rattle.std.specs.Result.{IsErr}
use Rattle.std.proofs.lemmas.List.{append-nil, length-take-le, take-append-le, take_all}
use Rattle.std.proofs.Math.Dec.{eqb-suc-zero}
use Rattle.std.proofs.lemmas.Bool.{ltb-true, eqb-true}
use Rattle.std.proofs.lemmas.Option.{same_Some}
use Rattle.std.proofs.lemmas.Slice.Eq.{bytes_eq-Decides}
use Rattle.std.specs.Str.{bytes_eq}
use Rattle.words_core.specs.declared.event.Event.{Event}
use Rattle.words_core.specs.declared.event.LineFault.{LineFault}
use Rattle.words_core.specs.Cutting.{lines_of_trace}
use Rattle.words_core.specs.Grammar.{reading_of}
use Rattle.streams.specs.Lines.{IsOneLine}
use Rattle.streams.proofs.MoveLemmas.{consumes_nothing, consumes_more}
use Rattle.trace_check.specs.declared.gathered.Gathered.{Gathered}
use Rattle.trace_check.specs.declared.shown.TheConstants.{MAX_TEXT_BYTES}
use Rattle.trace_check.specs.Checking.{HasGathered}
use Rattle.trace_check.specs.Finding.{line_at, lines_at}
use Rattle.trace_check.specs.Forms.{◌>>=◌}
use Rattle.trace_check.specs.Gathered.{Gathers, HasAdded, whole_of}
use Rattle.trace_check.specs.Reading.{HasEnded, HasGiven, IsPartAtOk, IsNextReading, MayFollow, Source, readings_of, without_line_feed}
use Rattle.trace_check.proofs.FormLemmas.{bind_some}

-- an unchanged source has given nothing; two parts that were given one after the other are together one given part
pub gives_nothing : (source : Source) → HasGiven source source []
gives_nothing source = record { bytes = consumes_nothing source.left; count = omega arith; none_later = λ ended. (refl, ended) }

pub gives_more : {a b c : Source} {xs ys : List ℕ} → HasGiven a b xs → HasGiven b c ys → HasGiven a c (xs ++ ys)
gives_more {a = a} {b = b} {c = c} {xs = xs} {ys = ys} first later = record {
  bytes = consumes_more a.left b.left c.left xs ys first.bytes later.bytes;
  count = omega (arith, first.count, later.count, length-append xs ys);
  none_later = λ ended.
      let (none, now) = first.none_later ended in
      let (nor, still) = later.none_later now in (ap (λ zs. zs ++ ys) none ∙ nor, still);
}

-- if bytes may follow a part, the part and these bytes may follow what came before the part
pub follows : {old new : Source} {part : List ℕ} → HasGiven old new part → (more : List ℕ) → MayFollow new more → MayFollow old (part ++ more)
follows given more may ended = let (none, now) = given.none_later ended in ap (λ xs. xs ++ more) none ∙ may now

rest_of : (left : Option (List ℕ)) (given text : List ℕ) → Consumes (Some text) left given → (rest : List ℕ) × (text ≡ given ++ rest) × (IsAtEnd left → rest ≡ [])
rest_of None given text is = absurd is
rest_of (Some rest) given text is = (rest, is, λ end. end)

-- if the text that is left is known, it is what the source gives, and then a rest that may follow
pub known_rest : {old new : Source} {given : List ℕ} → HasGiven old new given → (text : List ℕ) → old.left ≡ Some text
    → (rest : List ℕ) × (text ≡ given ++ rest) × MayFollow new rest
known_rest {new = new} {given = given} is text known =
    let (rest, same, none) = rest_of new.left given text (subst (λ left. Consumes left new.left given) known is.bytes) in
    (rest, same, λ ended. none ended.1)

-- if the front of the held bytes is given, the held bytes behind it are left
pub gives_front : (front behind : List ℕ) (known : Option (List ℕ)) → Consumes (prepend_known (front ++ behind) known) (prepend_known behind known) front
gives_front front behind None = tt
gives_front front behind (Some xs) = append_assoc front behind xs

-- if all held bytes are given and then bytes are pulled, the pulled bytes are left, in front of those of the feed
pub gives_held : (held pulled : List ℕ) (old new : Option (List ℕ)) → Consumes old new pulled → Consumes (prepend_known held old) (prepend_known pulled new) held
gives_held held pulled None new h = tt
gives_held held pulled (Some xs) None h = absurd h
gives_held held pulled (Some xs) (Some ys) h = ap (λ more. held ++ more) h

-- if all held bytes are given and the next pull fails, exactly the bytes of the feed are left
pub gives_none : (held : List ℕ) (old new : Option (List ℕ)) (behind : List ℕ) → behind ≡ [] → Keeps old new
    → Consumes (prepend_known held old) (prepend_known behind new) held
gives_none held None new behind none h = tt
gives_none held (Some xs) None behind none h = absurd h
gives_none held (Some xs) (Some ys) behind none h = sym (ap (λ bytes. held ++ bytes) (ap (λ bytes. bytes ++ ys) none ∙ h))

pub at_end : (bytes : List ℕ) (known : Option (List ℕ)) → bytes ≡ [] → IsAtEnd known → IsAtEnd (prepend_known bytes known)
at_end bytes None none h = tt
at_end bytes (Some xs) none h = ap (λ front. front ++ xs) none ∙ h

pub part_at_err : {E : Type 0} (r : Result Bool E) (part : List ℕ) (new : Source) → IsErr r → IsPartAtOk r part new
part_at_err (Ok ended) part new h = absurd cc
part_at_err (Err e) part new h = tt

-- adding nothing changes nothing, and two additions are one
pub added_nothing : (text : Gathered MAX_TEXT_BYTES) → HasAdded MAX_TEXT_BYTES [] text text
added_nothing text front gathers = subst (λ xs. Gathers MAX_TEXT_BYTES xs text) (sym (append-nil front)) gathers

pub added_more : (a b c : Gathered MAX_TEXT_BYTES) (xs ys : List ℕ) → HasAdded MAX_TEXT_BYTES xs a b → HasAdded MAX_TEXT_BYTES ys b c
    → HasAdded MAX_TEXT_BYTES (xs ++ ys) a c
added_more a b c xs ys first later front gathers =
    subst (λ zs. Gathers MAX_TEXT_BYTES zs c) (append_assoc front xs ys) (later (front ++ xs) (first front gathers))

-- if the LF is at the index `at`, the first `at + 1` bytes are the bytes before it and the LF
pub with_feed : (bytes rest : List ℕ) (at : ℕ) → at < length bytes → bytes ≡ (take at bytes ++ 10 ∷ []) ++ rest
    → take (at + 1) bytes ≡ take at bytes ++ 10 ∷ []
with_feed bytes rest at within e =
    let size : length (take at bytes) ≡ at = length-take-le at bytes (omega (arith, within)) in
    let long : length (take at bytes ++ 10 ∷ []) ≡ at + 1 = omega (arith, size, length-append (take at bytes) (10 ∷ [])) in
    ap (λ xs. take (at + 1) xs) e ∙ take-append-le (at + 1) (take at bytes ++ 10 ∷ []) rest (omega (arith, long))
    ∙ take_all (at + 1) (take at bytes ++ 10 ∷ []) (omega (arith, long))

-- if `whole_of` returns `None`, more than `most` bytes have come
pub whole_none : (most : ℕ) (came : List ℕ) → whole_of most came ≡ None → most < length came
whole_none most came h = elim (nat_lt most (length came)) as (λ b. nat_lt most (length came) ≡ b → (if b then None else Some came) ≡ None → most < length came) [
  | true ↦ λ over _. ltb-true most (length came) over
  | false ↦ λ _ none. absurd cc
] refl h

-- a text is not equal to a shorter text
pub longer_differs : (xs ys : List ℕ) → length ys < length xs → bytes_eq xs ys ≡ false
longer_differs xs ys h = elim (bytes_eq xs ys) as (λ b. bytes_eq xs ys ≡ b → b ≡ false) [
  | true ↦ λ e. absurd (omega (arith, h, ap (λ (zs : List ℕ). length zs) ((bytes_eq-Decides xs ys).0 e)))
  | false ↦ λ _. refl
] refl

-- A line with its LF

pub line_again : (line rest : List ℕ) → IsOneLine line → line_at ((line ++ 10 ∷ []) ++ rest) ≡ Some (line ++ 10 ∷ [], rest)
line_again [] rest h = refl
line_again (b ∷ line) rest h = rw h.0 (ap (λ (found : Option (List ℕ × List ℕ)). found >>= (λ more. Some (b ∷ more.0, more.1))) (line_again line rest h.1))

ended_lines : (line rest : List ℕ) → IsOneLine line → lines_of_trace ((line ++ 10 ∷ []) ++ rest) ≡ line ∷ lines_of_trace rest
ended_lines [] rest h = refl
ended_lines (b ∷ line) rest h = rw h.0 (ap (onto_first b) (ended_lines line rest h.1))

-- A text without LF

last_line : (b : ℕ) (line : List ℕ) → IsOneLine (b ∷ line) → lines_of_trace (b ∷ line) ≡ (b ∷ line) ∷ []
last_line b [] h = rw h.0 refl
last_line b (c ∷ line) h = rw h.0 (ap (onto_first b) (last_line c line h.1))

no_line : (line : List ℕ) → IsOneLine line → line_at line ≡ None
no_line [] h = refl
no_line (b ∷ line) h = rw h.0 (ap (λ (found : Option (List ℕ × List ℕ)). found >>= (λ more. Some (b ∷ more.0, more.1))) (no_line line h.1))

no_feed_at : (line : List ℕ) (i : ℕ) → IsOneLine line → (slice_index line i == 10) ≡ false
no_feed_at [] i h = refl
no_feed_at (b ∷ line) zero h = h.0
no_feed_at (b ∷ line) (suc i) h = no_feed_at line i h.1

-- A line without its LF

last_is_feed : (line : List ℕ) → slice_index (line ++ 10 ∷ []) (length line) ≡ 10
last_is_feed [] = refl
last_is_feed (b ∷ line) = last_is_feed line

take_line : (line : List ℕ) → take (length line) (line ++ 10 ∷ []) ≡ line
take_line [] = refl
take_line (b ∷ line) = ap (λ more. b ∷ more) (take_line line)

taken_off : (line : List ℕ) → without_line_feed (line ++ 10 ∷ []) ≡ line
taken_off line =
    let e : length (line ++ 10 ∷ []) - 1 ≡ length line = omega (arith, length-append line (10 ∷ [])) in
    ap (λ n. if slice_index (line ++ 10 ∷ []) n == 10 then take n (line ++ 10 ∷ []) else line ++ 10 ∷ []) e
    ∙ ap (λ b. if b == 10 then take (length line) (line ++ 10 ∷ []) else line ++ 10 ∷ []) (last_is_feed line) ∙ take_line line

none_off : (line : List ℕ) → IsOneLine line → without_line_feed line ≡ line
none_off line h = ap (λ b. if b then take (length line - 1) line else line) (no_feed_at line (length line - 1) h)

-- the reading of the line that was read; None if no byte was read
abbrev pub reading_in : List ℕ → Option (Result (Option Event) LineFault)
reading_in [] = None
reading_in (b ∷ part) = Some (reading_of (without_line_feed (b ∷ part)))

read_ended : (part line more : List ℕ) → IsOneLine line → part ≡ line ++ 10 ∷ [] → readings_of (part ++ more) ≡ reading_of line ∷ readings_of more
read_ended part line more one is = ap (λ xs. readings_of (xs ++ more)) is ∙ ap (λ lines. map reading_of lines) (ended_lines line more one)

-- a last line without an LF is read as one more line, if nothing follows it
read_last : (b : ℕ) (part more : List ℕ) → IsOneLine (b ∷ part) → more ≡ []
    → readings_of ((b ∷ part) ++ more) ≡ reading_of (without_line_feed (b ∷ part)) ∷ readings_of more
read_last b part more one none =
    ap (λ xs. readings_of ((b ∷ part) ++ xs)) none ∙ ap readings_of (append-nil (b ∷ part))
    ∙ ap (λ lines. map reading_of lines) (last_line b part one) ∙ ap (λ line. reading_of line ∷ []) (sym (none_off (b ∷ part) one))
    ∙ ap (λ xs. reading_of (without_line_feed (b ∷ part)) ∷ readings_of xs) (sym none)

pub next_taken : {E : Type 0} (r : Result Bool E) (part : List ℕ) (new : Source) → is_err r ≡ false → IsPartAtOk r part new
    → IsNextReading (reading_in part) part new
next_taken (Ok true) [] new fine (line, one, is) = absurd (omega (arith, ap length is, length-append line (10 ∷ [])))
next_taken (Ok true) (b ∷ part) new fine (line, one, is) = λ more may.
    read_ended (b ∷ part) line more one is
    ∙ ap (λ line. reading_of line ∷ readings_of more) (sym (ap without_line_feed is ∙ taken_off line))
next_taken (Ok false) [] new fine is = (refl, is.1)
next_taken (Ok false) (b ∷ part) new fine is = λ more may. read_last b part more is.0 (may is.1)
next_taken (Err error) part new fine is = absurd cc

pub next_line : (part line : List ℕ) (new : Source) → IsOneLine line → part ≡ line ++ 10 ∷ [] → IsNextReading (Some (reading_of line)) part new
next_line part line new one is = λ more may. read_ended part line more one is

-- if nothing was read, there is no next reading; otherwise it is the reading of the line
pub next_none : (part : List ℕ) (new : Source) → (length part == 0) ≡ true → IsNextReading (reading_in part) part new → IsNextReading None part new
next_none [] new none is = is
next_none (b ∷ part) new none is = absurd (omega (arith, eqb-true (length (b ∷ part)) 0 none))

pub next_some : (part : List ℕ) (new : Source) → (length part == 0) ≡ false → IsNextReading (reading_in part) part new
    → IsNextReading (Some (reading_of (without_line_feed part))) part new
next_some [] new some is = absurd cc
next_some (b ∷ part) new some is = is

-- if a part is not empty, it is not empty with more bytes behind it; an empty part with nothing behind it is empty
pub some_behind : (part more : List ℕ) → (length part == 0) ≡ false → (length (part ++ more) == 0) ≡ false
some_behind [] more some = absurd cc
some_behind (b ∷ part) more some = eqb-suc-zero (length (part ++ more))

pub none_behind : (part more : List ℕ) → (length part == 0) ≡ true → more ≡ [] → (length (part ++ more) == 0) ≡ true
none_behind [] more none rest = ap (λ (xs : List ℕ). length xs == 0) rest
none_behind (b ∷ part) more none rest = absurd (omega (arith, eqb-true (length (b ∷ part)) 0 none))

-- The bytes behind the first lines

abbrev before_more : List ℕ → List ℕ × List ℕ → List ℕ × List ℕ
before_more more found = (found.0, found.1 ++ more)

line_behind : (bytes more : List ℕ) (found : List ℕ × List ℕ) → line_at bytes ≡ Some found → line_at (bytes ++ more) ≡ Some (before_more more found)
line_behind [] more found is = absurd cc
line_behind (b ∷ bytes) more found is =
    elim (b == 10) as (λ t. (if t then Some (b ∷ [], bytes) else (line_at bytes >>= (λ found. Some (b ∷ found.0, found.1)))) ≡ Some found
    → (if t then Some (b ∷ [], bytes ++ more) else (line_at (bytes ++ more) >>= (λ found. Some (b ∷ found.0, found.1)))) ≡ Some (before_more more found)) [
      | true ↦ λ same. ap (λ f. Some (before_more more f)) (same_Some (b ∷ [], bytes) found same)
      | false ↦ λ same.
          let (last, last_is, end) = bind_some (line_at bytes) (λ found. Some (b ∷ found.0, found.1)) found same in
          ap (λ (f : Option (List ℕ × List ℕ)). f >>= (λ found. Some (b ∷ found.0, found.1))) (line_behind bytes more last last_is)
          ∙ ap (λ f. Some (before_more more f)) (same_Some (b ∷ last.0, last.1) found end)
    ] is

pub lines_behind : (k : ℕ) (bytes more : List ℕ) (found : List ℕ × List ℕ) → lines_at k bytes ≡ Some found → lines_at k (bytes ++ more) ≡ Some (before_more more found)
lines_behind zero bytes more found is = ap (λ f. Some (before_more more f)) (same_Some ([], bytes) found is)
lines_behind (suc k) bytes more found is =
    let (front, front_is, next) = bind_some (lines_at k bytes) (λ front. line_at front.1 >>= (λ last. Some (front.0 ++ last.0, last.1))) found is in
    let (last, last_is, end) = bind_some (line_at front.1) (λ last. Some (front.0 ++ last.0, last.1)) found next in
    ap (λ (f : Option (List ℕ × List ℕ)). f >>= (λ front. line_at front.1 >>= (λ last. Some (front.0 ++ last.0, last.1)))) (lines_behind k bytes more front front_is)
    ∙ ap (λ (f : Option (List ℕ × List ℕ)). f >>= (λ last. Some (front.0 ++ last.0, last.1))) (line_behind front.1 more last last_is)
    ∙ ap (λ f. Some (before_more more f)) (same_Some (front.0 ++ last.0, last.1) found end)

-- `j` whole lines, and `k` lines behind them, are the first `j + k` lines
pub lines_more : (j k : ℕ) (front bytes : List ℕ) (found : List ℕ × List ℕ) → lines_at j front ≡ Some (front, []) → lines_at k bytes ≡ Some found
    → lines_at (j + k) (front ++ bytes) ≡ Some (front ++ found.0, found.1)
lines_more j zero front bytes found first is =
    rw add-zero (lines_behind j front bytes (front, []) first ∙ ap (λ xs. Some (xs, bytes)) (sym (append-nil front))
    ∙ ap (λ f. Some (front ++ f.0, f.1)) (same_Some ([], bytes) found is))
lines_more j (suc k) front bytes found first is =
    let (before, before_is, next) = bind_some (lines_at k bytes) (λ before. line_at before.1 >>= (λ last. Some (before.0 ++ last.0, last.1))) found is in
    let (last, last_is, end) = bind_some (line_at before.1) (λ last. Some (before.0 ++ last.0, last.1)) found next in
    rw add-suc (rw (lines_more j k front bytes before first before_is, last_is, append_assoc)
    (ap (λ f. Some (front ++ f.0, f.1)) (same_Some (before.0 ++ last.0, last.1) found end)))

-- the gathered lines are the first lines, whatever follows
pub stand_first : {k : ℕ} {came : List ℕ} {text : Gathered MAX_TEXT_BYTES} → HasGathered k came text → (more : List ℕ) → lines_at k (came ++ more) ≡ Some (came, more)
stand_first {k = k} {came = came} come more = lines_behind k came more (came, []) come.are

pub none_come : {text : Gathered MAX_TEXT_BYTES} → Gathers MAX_TEXT_BYTES [] text → HasGathered 0 [] text
none_come gathers = record { are = refl; gathers = gathers }

-- after one more whole line is gathered, `k + 1` lines have come
pub come_more : {k : ℕ} {came : List ℕ} {old new : Gathered MAX_TEXT_BYTES} (part line : List ℕ) → HasGathered k came old
    → IsOneLine line → part ≡ line ++ 10 ∷ [] → ((front : List ℕ) → Gathers MAX_TEXT_BYTES front old → Gathers MAX_TEXT_BYTES (front ++ part) new)
    → HasGathered (suc k) (came ++ part) new
come_more {came = came} part line come one is add =
    let last : line_at part ≡ Some (part, []) =
    ap line_at (is ∙ sym (append-nil (line ++ 10 ∷ []))) ∙ line_again line [] one ∙ ap (λ xs. Some (xs, [])) (sym is) in
    record { are = rw (stand_first come part, last) refl; gathers = add came come.gathers }

-- if the bytes have fewer than `k` lines, they have fewer than `j + k`
pub none_later : (j k n : ℕ) (bytes : List ℕ) → j + k ≡ n → lines_at k bytes ≡ None → lines_at n bytes ≡ None
none_later zero k n bytes sum none = let e : n ≡ k = omega arith in ap (λ m. lines_at m bytes) e ∙ none
none_later (suc j) k n bytes sum none = none_later j (suc k) n bytes (omega (arith, sum)) (rw none refl)

pub none_more : {k : ℕ} {came : List ℕ} {text : Gathered MAX_TEXT_BYTES} (n : ℕ) (part : List ℕ) → HasGathered k came text → IsOneLine part → k < n
    → lines_at n (came ++ part) ≡ None
none_more {k = k} {came = came} n part come one more =
    none_later (n - suc k) (suc k) n (came ++ part) (omega (arith, more)) (rw (stand_first come part, no_line part one) refl)

-- if a source has ended, and fewer than `n` lines have come, there are fewer than `n` lines with any bytes that may follow
pub none_follows : (n : ℕ) (bytes more : List ℕ) (new : Source) → HasEnded new → lines_at n bytes ≡ None → MayFollow new more → lines_at n (bytes ++ more) ≡ None
none_follows n bytes more new ended none may = ap (λ xs. lines_at n (bytes ++ xs)) (may ended) ∙ ap (lines_at n) (append-nil bytes) ∙ none
