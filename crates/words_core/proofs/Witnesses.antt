-- Instances of the law of lines: both statements for a line with a command, and the second one for a line that is too long.
use Rattle.std.proofs.Common.{◌≡◌, ℕ, List, codes, Option, Some, Result, Ok, Err, refl, replicate, arith}
use Rattle.words_core.specs.declared.event.Command.TheVariants.{Free}
use Rattle.words_core.specs.declared.event.Event.{Event}
use Rattle.words_core.specs.declared.event.Event.TheVariants.{Tenant}
use Rattle.words_core.specs.declared.event.LineFault.{LineFault}
use Rattle.words_core.specs.declared.event.LineFault.TheVariants.{Long}
use Rattle.words_core.specs.Commands.{tenant, free_row}
use Rattle.words_core.specs.Words.{words_of}
use Rattle.words_core.specs.Grammar.{reading_of, reading_of_words, event_of}
use Rattle.words_core.specs.Cases.{Case, event, too_long, of_words}
use Rattle.words_core.specs.Laws.{EachLineHasACase, NoLineHasTwo}
use Rattle.words_core.proofs.WordLemmas.{has-words_of}

its_case : Case 8 (codes "0 free 5") (Ok (Some (Tenant 0 (Free 5))))
unfolding words_of
its_case = of_words (omega arith) (words_of (codes "0 free 5")) (has-words_of (codes "0 free 5")) (event (tenant 0) refl free_row ((1, omega arith, refl), refl) (Free 5) (5, refl, refl))

a_long_line : Case 1 (replicate 256 48) (Err Long)
a_long_line = too_long (omega arith)

EachLineHasACase-met : EachLineHasACase → (number : ℕ) × Case number (codes "0 free 5") (Ok (Some (Tenant 0 (Free 5))))
unfolding reading_of words_of reading_of_words event_of
EachLineHasACase-met law = law (codes "0 free 5")

abbrev IsOnly : ℕ → List ℕ → Result (Option Event) LineFault → Type 0
IsOnly number line reading =
    (other : ℕ) (second : Result (Option Event) LineFault) → Case other line second → (other ≡ number) × (second ≡ reading)

NoLineHasTwo-met : NoLineHasTwo → IsOnly 8 (codes "0 free 5") (Ok (Some (Tenant 0 (Free 5)))) × IsOnly 1 (replicate 256 48) (Err Long)
NoLineHasTwo-met law = (
  λ other second case. law (codes "0 free 5") 8 other (Ok (Some (Tenant 0 (Free 5)))) second its_case case,
  λ other second case. law (replicate 256 48) 1 other (Err Long) second a_long_line case,
)
