-- With `only` t, exactly the lines of tenant t are shown. For each prefix of a trace, the output shown for its lines that
-- end in LF is a prefix of the output shown for the whole trace.
use Rattle.std.proofs.Common.{◌≡◌, ℕ, zero, suc, ◌<◌, ◌≤◌, ◌^◌, ◌==◌, Bool, true, false, List, [], ◌∷◌, ◌++◌, length, Option, Some, None, Result, Ok, Err, refl, ap, sym, ◌∙◌, arith, append_assoc}
use Rattle.std.specs.Prelude.{if◌then◌else◌, Contains}
use Rattle.std.specs.List.{onto_first}
use Rattle.std.proofs.lemmas.Bool.{eqb-true, eqb-false}
use Rattle.std.proofs.lemmas.List.{append-nil}
use Rattle.words_core.specs.declared.event.Event.{Event}
use Rattle.words_core.specs.declared.event.LineFault.{LineFault}
use Rattle.words_core.specs.declared.reply.Addressee.{Addressee}
use Rattle.words_core.specs.declared.reply.Addressee.TheVariants.{Admin, Nobody, Tenant}
use Rattle.words_core.specs.declared.reply.Body.{Body}
use Rattle.words_core.specs.Cutting.{lines_of_trace}
use Rattle.words_core.specs.Grammar.{reading_of}
use Rattle.words_core.specs.Texts.{addressee_text, body_texts, text_of}
use Rattle.world_core.specs.World.{World, world_step, world_after, history}
use Rattle.world_core.specs.OwnList.{if_for, replies_to}
use Rattle.world_core.specs.Output.{event_in, events_of, shown_text, shown_reading, shown_line, shown_lines, output_of, lines_for, texts_for, with_line_feeds, onto_ended, ended_lines}
use Rattle.world_core.specs.Laws.{AllShown, OwnShown, OwnLinesShown, EndedAllButTail, EndedLinesStay, ShownStays}
use Rattle.world_core.proofs.ReplyLines.{AreTexts, texts-append, body_text, addressee_is_text, cut_rows}
use Rattle.world_core.proofs.TenantLines.{lines_tell}

pub all_shown : AllShown
unfolding output_of
all_shown limit order trace w = refl

pub with_line_feeds-append : (xs ys : List (List ℕ)) → with_line_feeds (xs ++ ys) ≡ with_line_feeds xs ++ with_line_feeds ys
with_line_feeds-append [] ys = refl
with_line_feeds-append (x ∷ xs) ys =
    ap (λ more. (x ++ 10 ∷ []) ++ more) (with_line_feeds-append xs ys) ∙ sym (append_assoc (x ++ 10 ∷ []) (with_line_feeds xs) (with_line_feeds ys))

-- the text of these replies to tenant t
abbrev own_text : ℕ → List Body → List ℕ
own_text t bodies = with_line_feeds (texts_for t bodies)

one_named : (t named : ℕ) (body : Body) (later : List Body) (test : Bool) → named == t ≡ test
    → (if test then text_of (record { addressee = Tenant named; body = body }) else []) ++ own_text t later
    ≡ own_text t ((if test then body ∷ [] else []) ++ later)
one_named t named body later true is =
    ap (λ n. text_of (record { addressee = Tenant n; body = body }) ++ own_text t later) (eqb-true named t is)
    ∙ sym (with_line_feeds-append (body_texts (addressee_text (Tenant t)) body) (texts_for t later))
one_named t named body later false is = refl

one_reply : (t : ℕ) (addressee : Addressee) (body : Body) (later : List Body)
    → shown_text (Some t) (record { addressee = addressee; body = body }) ++ own_text t later ≡ own_text t (if_for t addressee body ++ later)
one_reply t Admin body later = refl
one_reply t Nobody body later = refl
one_reply t (Tenant named) body later = one_named t named body later (named == t) refl

own_reading : (t limit order : ℕ) (reading : Result (Option Event) LineFault) (events : List Event) (w : World)
    → shown_reading (Some t) limit order reading w ++ own_text t (replies_to t (history limit order (world_after limit order w (event_in reading)) events))
    ≡ own_text t (replies_to t (history limit order w (event_in reading ++ events)))
own_reading t limit order (Ok None) events w = refl
own_reading t limit order (Ok (Some event)) events w =
    one_reply t (world_step limit order event w).reply.addressee (world_step limit order event w).reply.body
    (replies_to t (history limit order (world_step limit order event w).world events))
own_reading t limit order (Err fault) events w = refl

-- with `only` t, the shown output is the text of the replies to tenant t
pub own_replies : (t limit order : ℕ) (lines : List (List ℕ)) (w : World)
    → shown_lines (Some t) limit order lines w ≡ own_text t (replies_to t (history limit order w (events_of lines)))
own_replies t limit order [] w = refl
own_replies t limit order (line ∷ lines) w =
    ap (λ more. shown_line (Some t) limit order line w ++ more) (own_replies t limit order lines (world_after limit order w (event_in (reading_of line))))
    ∙ own_reading t limit order (reading_of line) (events_of lines) w

-- if there are at most 2 ^ 64 tenants, the lines of tenant t in the output are the texts of the replies to it
own_lines : (limit order t : ℕ) (trace : List ℕ) (w : World) → length w.machines ≤ 2 ^ 64 → t < length w.machines
    → lines_for t (output_of limit order trace w) ≡ texts_for t (replies_to t (history limit order w (events_of (lines_of_trace trace))))
unfolding output_of
own_lines limit order t trace w many here = lines_tell limit order t (lines_of_trace trace) (omega arith) w many

pub own_shown : OwnShown
own_shown limit order t trace w many here =
    own_replies t limit order (lines_of_trace trace) w ∙ ap with_line_feeds (sym (own_lines limit order t trace w many here))

are_texts : (t : ℕ) (bodies : List Body) → AreTexts (texts_for t bodies)
are_texts t [] = tt
are_texts t (body ∷ bodies) = texts-append _ _ (body_text _ body (addressee_is_text (Tenant t))) (are_texts t bodies)

-- if rows without an LF are joined, each with an LF at its end, cutting the text into lines returns the rows
cut_texts : (rows : List (List ℕ)) → AreTexts rows → lines_of_trace (with_line_feeds rows) ≡ rows
cut_texts rows h = ap lines_of_trace (sym (append-nil (with_line_feeds rows))) ∙ cut_rows rows [] h ∙ append-nil rows

pub own_lines_shown : OwnLinesShown
own_lines_shown limit order t trace w many here =
    let bodies : List Body = replies_to t (history limit order w (events_of (lines_of_trace trace))) in
    ap lines_of_trace (own_replies t limit order (lines_of_trace trace) w) ∙ cut_texts (texts_for t bodies) (are_texts t bodies)
    ∙ sym (own_lines limit order t trace w many here)

no_more : (b : ℕ) (tail : List ℕ) → b == 10 ≡ false → (Contains tail 10 → ⊥) → Contains (b ∷ tail) 10 → ⊥
no_more b tail other none (zero, below, here) = eqb-false b 10 other here
no_more b tail other none (suc i, below, here) = none (i, omega arith, here)

-- if bytes consist of lines, each with an LF at its end, and then a tail without LF, so do the bytes with one more byte in front
ended_tail : (b : ℕ) (test : Bool) → b == 10 ≡ test → (ended : List (List ℕ)) (given tail : List ℕ) → given ≡ with_line_feeds ended ++ tail → (Contains tail 10 → ⊥)
    → (tail' : List ℕ) × (b ∷ given ≡ with_line_feeds (if test then [] ∷ ended else onto_ended b ended) ++ tail') × (Contains tail' 10 → ⊥)
ended_tail b true is ended given tail split none = (tail, ap (λ c. c ∷ given) (eqb-true b 10 is) ∙ ap (λ bytes. 10 ∷ bytes) split, none)
ended_tail b false is [] given tail split none = (b ∷ tail, ap (λ bytes. b ∷ bytes) split, no_more b tail is none)
ended_tail b false is (line ∷ lines) given tail split none = (tail, ap (λ bytes. b ∷ bytes) split, none)

pub ended_all_but_tail : EndedAllButTail
ended_all_but_tail [] = ([], refl, λ found. absurd (omega (arith, found.1)))
ended_all_but_tail (b ∷ given) =
    let before = ended_all_but_tail given in
    ended_tail b (b == 10) refl (ended_lines given) given before.0 before.1 before.2

ended_first : (b : ℕ) (test : Bool) (ended all rest : List (List ℕ)) → all ≡ ended ++ rest
    → (rest' : List (List ℕ)) × ((if test then [] ∷ all else onto_first b all) ≡ (if test then [] ∷ ended else onto_ended b ended) ++ rest')
ended_first b true ended all rest split = (rest, ap (λ lines. [] ∷ lines) split)
ended_first b false [] all rest split = (onto_first b all, refl)
ended_first b false (line ∷ ended) all rest split = (rest, ap (onto_first b) split)

pub ended_lines_stay : EndedLinesStay
ended_lines_stay [] more = (lines_of_trace more, refl)
ended_lines_stay (b ∷ given) more =
    let before = ended_lines_stay given more in
    ended_first b (b == 10) (ended_lines given) (lines_of_trace (given ++ more)) before.0 before.1

pub shown_first : (only : Option ℕ) (limit order : ℕ) (xs ys : List (List ℕ)) (w : World)
    → (rest : List ℕ) × (shown_lines only limit order (xs ++ ys) w ≡ shown_lines only limit order xs w ++ rest)
shown_first only limit order [] ys w = (shown_lines only limit order ys w, refl)
shown_first only limit order (x ∷ xs) ys w =
    let later = shown_first only limit order xs ys (world_after limit order w (event_in (reading_of x))) in
    (later.0, ap (λ more. shown_line only limit order x w ++ more) later.1 ∙ sym (append_assoc (shown_line only limit order x w) _ later.0))

pub shown_stays : ShownStays
shown_stays only limit order given more w =
    let lines = ended_lines_stay given more in
    let shown = shown_first only limit order (ended_lines given) lines.0 w in
    (shown.0, ap (λ all. shown_lines only limit order all w) lines.1 ∙ shown.1)
