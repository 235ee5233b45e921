-- The lines of a trace that make a tenant's own list.
use Rattle.std.specs.Prelude.{ℕ, Bool, true, false, List, [], ◌∷◌, map, filter}
use Rattle.words_core.specs.Cutting.{lines_of_trace}
use Rattle.words_core.specs.Grammar.{reading_of}
use Rattle.world_core.specs.PrivateStep.{Entry}
use Rattle.world_core.specs.World.{World, Exchange, opening_world, history, world_after}
use Rattle.world_core.specs.OwnList.{own_list}
use Rattle.world_core.specs.Output.{event_in, with_line_feeds}

-- a line that was run, with the exchange of its event and the reply; a blank line, a comment or a faulty line has no exchange
pub record RunLine : Type 0 where
  pub line : List ℕ
  pub exchanges : List Exchange

-- the lines, run one after another
abbrev pub run_lines : ℕ → ℕ → List (List ℕ) → World → List RunLine
run_lines limit order [] w = []
run_lines limit order (line ∷ lines) w =
    record { line = line; exchanges = history limit order w (event_in (reading_of line)) }
    ∷ run_lines limit order lines (world_after limit order w (event_in (reading_of line)))

abbrev pub has_entry : List Entry → Bool
has_entry [] = false
has_entry (entry ∷ entries) = true

-- the line has an entry in the own list of tenant t
abbrev pub is_own_line : ℕ → RunLine → Bool
is_own_line t run = has_entry (own_list t run.exchanges)

-- the lines that make the own list of tenant t, unchanged
abbrev pub own_lines : ℕ → ℕ → ℕ → List (List ℕ) → World → List (List ℕ)
own_lines t limit order lines w = map (λ run. run.line) (filter (is_own_line t) (run_lines limit order lines w))

-- the text of these lines, each with an LF
abbrev pub own_text : ℕ → ℕ → ℕ → List (List ℕ) → World → List ℕ
own_text t limit order lines w = with_line_feeds (own_lines t limit order lines w)

-- the text of the tenant's own lines if the whole trace is run on a new machine
abbrev pub own_trace : ℕ → ℕ → ℕ → ℕ → ℕ → List ℕ → List ℕ
own_trace limit order superblocks tenants t trace = own_text t limit order (lines_of_trace trace) (opening_world superblocks tenants)
