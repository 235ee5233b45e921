-- The output for the bytes of a trace, as bytes and as lines.
use Rattle.std.specs.Prelude.{ℕ, nat_eq, ◌==◌, Bool, true, false, List, [], ◌∷◌, ◌++◌, Option, Some, None, Result, Ok, Err, if◌then◌else◌, map, filter, codes}
use Rattle.std.specs.List.{concat, flat_map, starts_with}
use Rattle.std.specs.Fmt.{decimal}
use Rattle.words_core.specs.declared.reply.Addressee.{Addressee}
use Rattle.words_core.specs.declared.reply.Body.{Body}
use Rattle.words_core.specs.declared.event.Event.{Event}
use Rattle.words_core.specs.declared.event.LineFault.{LineFault}
use Rattle.words_core.specs.declared.reply.Reply.{Reply}
use Rattle.words_core.specs.Cutting.{lines_of_trace}
use Rattle.words_core.specs.Grammar.{reading_of}
use Rattle.words_core.specs.Texts.{addressee_text, body_texts, text_of}
use Rattle.world_core.specs.World.{World, world_step, world_after}

-- a list with the event that was read from a line, or the empty list if the line has no event
abbrev pub event_in : Result (Option Event) LineFault → List Event
event_in (Ok None) = []
event_in (Ok (Some event)) = event ∷ []
event_in (Err fault) = []

-- the events of these lines
abbrev pub events_of : List (List ℕ) → List Event
events_of [] = []
events_of (line ∷ lines) = event_in (reading_of line) ++ events_of lines

-- True if a reply to this addressee is shown: any reply if no tenant is named, or else only a reply to the named tenant.
abbrev pub is_shown : Option ℕ → Addressee → Bool
is_shown None addressee = true
is_shown (Some t) Addressee.Admin = false
is_shown (Some t) Addressee.Nobody = false
is_shown (Some t) (Addressee.Tenant named) = named == t

abbrev pub shown_text : Option ℕ → Reply → List ℕ
shown_text only reply = if is_shown only reply.addressee then text_of reply else []

-- The text shown for a line with this reading: the reply to its event, or its fault, which is addressed to nobody. A blank
-- line or a comment shows nothing.
abbrev pub shown_reading : Option ℕ → ℕ → ℕ → Result (Option Event) LineFault → World → List ℕ
shown_reading only limit order (Ok None) w = []
shown_reading only limit order (Ok (Some event)) w = shown_text only (world_step limit order event w).reply
shown_reading only limit order (Err fault) w = shown_text only (record { addressee = Addressee.Nobody; body = Body.Fault fault })

abbrev pub shown_line : Option ℕ → ℕ → ℕ → List ℕ → World → List ℕ
shown_line only limit order line w = shown_reading only limit order (reading_of line) w

-- the text shown for the lines; each runs in the world that the lines before it left
abbrev pub shown_lines : Option ℕ → ℕ → ℕ → List (List ℕ) → World → List ℕ
shown_lines only limit order [] w = []
shown_lines only limit order (line ∷ lines) w =
    shown_line only limit order line w
    ++ shown_lines only limit order lines (world_after limit order w (event_in (reading_of line)))

-- the whole output of a trace that is run in this world
unfoldable pub output_of : ℕ → ℕ → List ℕ → World → List ℕ
output_of limit order trace w = shown_lines None limit order (lines_of_trace trace) w

-- the lines of tenant t in an output: the lines that begin with the number t and `> `
abbrev pub lines_for : ℕ → List ℕ → List (List ℕ)
lines_for t output = filter (λ line. starts_with nat_eq line (decimal t ++ codes "> ")) (lines_of_trace output)

-- the lines of these replies to tenant t, without LFs
abbrev pub texts_for : ℕ → List Body → List (List ℕ)
texts_for t bodies = flat_map (body_texts (addressee_text (Addressee.Tenant t))) bodies

-- the byte LF
abbrev pub line_feed : ℕ
line_feed = 10

-- the bytes of these lines, each followed by an LF
abbrev pub with_line_feeds : List (List ℕ) → List ℕ
with_line_feeds lines = concat (map (λ line. line ++ line_feed ∷ []) lines)

-- The ended lines (those that end in LF) of a trace that begins with byte b, which is not an LF. `lines` are the ended lines of
-- the bytes after b. If these bytes have no LF, b is in no ended line.
abbrev pub onto_ended : ℕ → List (List ℕ) → List (List ℕ)
onto_ended b [] = []
onto_ended b (line ∷ lines) = (b ∷ line) ∷ lines

-- the lines of a trace that end in LF
abbrev pub ended_lines : List ℕ → List (List ℕ)
ended_lines [] = []
ended_lines (b ∷ bytes) = if b == line_feed then [] ∷ ended_lines bytes else onto_ended b (ended_lines bytes)
