-- The output of the world of the definitions keeps the promises.
use Rattle.std.proofs.Common.{◌≡◌, ℕ, ◌*◌, ◌^◌, ◌≤◌, List, [], ◌∷◌, ◌++◌, Option, Some, None, Result, Ok, Err, refl, ap, ◌∙◌, arith}
use Rattle.std.specs.Prelude.{map}
use Rattle.std.proofs.Math.Nat.{mul-le-mul}
use Rattle.std.proofs.Math.Pow.{pow_mono}
use Rattle.model_core.specs.declared.limits.TheConstants.{MAX_ORDER, MAX_SUPERBLOCKS}
use Rattle.words_core.specs.declared.event.Event.{Event}
use Rattle.words_core.specs.declared.event.LineFault.{LineFault}
use Rattle.words_core.specs.Grammar.{reading_of}
use Rattle.world_core.specs.World.{World, opening_world, world_step, world_after, history}
use Rattle.world_core.specs.Output.{event_in, events_of, shown_reading, shown_lines}
use Rattle.world_core.specs.Laws.{opening_history}
use Rattle.promise_kept.specs.WorldLaws.{IsKeptRun}
use Rattle.promise_kept.specs.Written.{text_of_replies, IsAllowedText}
use Rattle.promise_kept.proofs.WorldSteps.{keeps_promises, lines_asked}

history_events : (limit order : ℕ) (events : List Event) (w : World) → map (λ e. e.event) (history limit order w events) ≡ events
history_events limit order [] w = refl
history_events limit order (event ∷ events) w = ap (λ es. event ∷ es) (history_events limit order events (world_step limit order event w).world)

-- the text for one line, followed by the text for the lines after it, is the text for all these lines
one_told : (only : Option ℕ) (limit order : ℕ) (reading : Result (Option Event) LineFault) (readings : List (Result (Option Event) LineFault)) (events : List Event) (w : World)
    → shown_reading only limit order reading w ++ text_of_replies only readings (history limit order (world_after limit order w (event_in reading)) events)
    ≡ text_of_replies only (reading ∷ readings) (history limit order w (event_in reading ++ events))
one_told only limit order (Ok None) readings events w = refl
one_told only limit order (Ok (Some event)) readings events w = refl
one_told only limit order (Err fault) readings events w = refl

lines_told : (only : Option ℕ) (limit order : ℕ) (lines : List (List ℕ)) (w : World)
    → shown_lines only limit order lines w ≡ text_of_replies only (map reading_of lines) (history limit order w (events_of lines))
lines_told only limit order [] w = refl
lines_told only limit order (line ∷ lines) w =
    ap (λ more. shown_reading only limit order (reading_of line) w ++ more) (lines_told only limit order lines (world_after limit order w (event_in (reading_of line))))
    ∙ one_told only limit order (reading_of line) (map reading_of lines) (events_of lines) w

-- if slots have at least 8 frames and RAM has at most 2 ^ 32 places, the output of the opening world for any lines is an allowed
-- text
pub shown_is_allowed : (only : Option ℕ) (limit order superblocks tenants : ℕ) (lines : List (List ℕ)) → 3 ≤ order → superblocks * 2 ^ order * 4096 ≤ 2 ^ 32
    → IsAllowedText only limit order superblocks tenants lines (shown_lines only limit order lines (opening_world superblocks tenants))
unfolding opening_history
shown_is_allowed only limit order superblocks tenants lines le ram =
    let run : IsKeptRun limit order superblocks tenants (events_of lines) = keeps_promises limit order superblocks tenants (events_of lines) le ram (lines_asked lines) in record {
      exchanges = history limit order (opening_world superblocks tenants) (events_of lines);
      events = history_events limit order (events_of lines) (opening_world superblocks tenants);
      replies = lines_told only limit order lines (opening_world superblocks tenants);
      after = run.after;
      are_allowed = run.are_allowed;
    }

-- if the order and the number of superblocks are within their limits, RAM has at most 2 ^ 32 places
pub ram_is_small : (order superblocks : ℕ) → order ≤ MAX_ORDER → superblocks ≤ MAX_SUPERBLOCKS → superblocks * 2 ^ order * 4096 ≤ 2 ^ 32
ram_is_small order superblocks low few =
    let frames : superblocks * 2 ^ order ≤ 256 * 256 = mul-le-mul few (pow_mono low) in omega (arith, frames)
