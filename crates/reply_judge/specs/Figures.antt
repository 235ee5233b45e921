-- Wrong numbers in reports, and what they have to be.
use Rattle.std.specs.Prelude.{ℕ, ◌==◌, nat_le, if◌then◌else◌, List, find, Option, Some, None, is_some}
use Rattle.std.specs.List.{range_with_len}
use Rattle.std.specs.Option.{option_map_or}
use Rattle.reply_judge.specs.declared.bound.Bound.{Bound}
use Rattle.reply_judge.specs.declared.figures.ReportFigure.{ReportFigure}
use Rattle.reply_judge.specs.declared.figures.WrongFigure.{WrongFigure}

abbrev pub has_to_be : ReportFigure → Bound → WrongFigure
has_to_be figure bound = record { figure = figure; bound = bound }

-- the number that is due, if the report has another one
abbrev pub exactly : ReportFigure → (due told : ℕ) → Option WrongFigure
exactly figure due told = if told == due then None else Some (has_to_be figure (Bound.Exactly due))

-- the largest number that is allowed, if the report has a larger one
abbrev pub at_most : ReportFigure → (most told : ℕ) → Option WrongFigure
at_most figure most told = if nat_le told most then None else Some (has_to_be figure (Bound.AtMost most))

-- the first of these that is a wrong number
abbrev pub first_found : List (Option WrongFigure) → Option WrongFigure
first_found found = option_map_or (λ wrong. wrong) (find is_some found) None

-- what is wrong in the first of n rows in which something is wrong
abbrev pub first_wrong : (ℕ → Option WrongFigure) → (n : ℕ) → Option WrongFigure
first_wrong wrong_in n = option_map_or wrong_in (find (λ i. is_some (wrong_in i)) (range_with_len 0 n)) None
