-- The law of lines: each line is in exactly one case and has exactly one meaning.
use Rattle.std.specs.Prelude.{◌≡◌, ℕ, List, Option, Result}
use Rattle.words_core.specs.declared.event.Event.{Event}
use Rattle.words_core.specs.declared.event.LineFault.{LineFault}
use Rattle.words_core.specs.Cases.{Case}
use Rattle.words_core.specs.Grammar.{reading_of}

-- each line is in some case with the meaning `reading_of line`
abbrev pub EachLineHasACase : Type 0
EachLineHasACase = (line : List ℕ) → (number : ℕ) × Case number line (reading_of line)

-- no line is in two cases or has two meanings
abbrev pub NoLineHasTwo : Type 0
NoLineHasTwo = (line : List ℕ) (number other : ℕ) (reading second : Result (Option Event) LineFault)
    → Case number line reading → Case other line second → (other ≡ number) × (second ≡ reading)
