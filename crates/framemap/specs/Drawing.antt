-- What a run reads and writes. It writes the picture of a history, or the table of its figures.
use Rattle.std.specs.Prelude.{◌≡◌, ℕ, ◌+◌, ◌^◌, ◌<◌, Bool, true, false, List, Option, Some, None, MatchBool, length}
use Rattle.words_core.specs.Cutting.{lines_of_trace}
use Rattle.command_line.specs.declared.outcome.Outcome.{Outcome}
use Rattle.frame_picture.specs.declared.history.History.{History}
use Rattle.frame_picture.specs.Histories.{line_count, tenants_of}
use Rattle.picture_svg.specs.declared.picture.Picture.{Picture}
use Rattle.picture_svg.specs.Pictures.{IsPictureOf, end_of_tenants, first_tenant, label_gap_of, most_columns_in}
use Rattle.framemap.specs.declared.run.TheConstants.{LABEL_GAP}
use Rattle.framemap.specs.declared.peaks.Peaks.{Peaks}
use Rattle.framemap.specs.declared.settings.Settings.{Settings}
use Rattle.framemap.specs.Tables.{table_text}

-- The number of the first tenant that is drawn, and 1 more than the number of the last one. Only the requested tenant is drawn,
-- or all tenants if none is requested.
abbrev pub first_drawn : Option ℕ → ℕ
first_drawn None = 0
first_drawn (Some t) = t

abbrev pub end_drawn : ℕ → Option ℕ → ℕ
end_drawn tenants None = tenants
end_drawn tenants (Some t) = t + 1

-- the picture draws the requested tenants, has cells for the requested number of columns, and moves the word `refused` down by
-- LABEL_GAP
pub record IsRequestedPicture (settings : Settings) (picture : Picture) : Type 0 where
  pub first : first_tenant picture ≡ first_drawn settings.machine.only
  pub end : end_of_tenants picture ≡ end_drawn settings.machine.config.tenants settings.machine.only
  pub columns : most_columns_in picture ≡ settings.columns
  pub gap : label_gap_of picture ≡ LABEL_GAP

-- With `--figures` the text is the table of this history and these peaks. Otherwise it is the picture of this history, and the
-- name in the title is not specified.
abbrev pub IsDrawnText : Settings → History → Peaks → Picture → List ℕ → Type 0
IsDrawnText settings history peaks picture text = MatchBool settings.figures
    (text ≡ table_text history peaks (first_drawn settings.machine.only) (end_drawn (tenants_of history) settings.machine.only))
    ((name : Option (List ℕ)) × IsPictureOf picture history name text)

-- The text shows a history. If the bytes of the trace are known and have fewer than 2 ^ 32 lines, the history counts all of these
-- lines.
pub record IsDrawing (settings : Settings) (known : Option (List ℕ)) (text : List ℕ) : Type 0 where
  pub history : History
  pub peaks : Peaks
  pub picture : Picture
  pub lines : (trace : List ℕ) → known ≡ Some trace → length (lines_of_trace trace) < 2 ^ 32
      → line_count history ≡ length (lines_of_trace trace)
  pub requested : IsRequestedPicture settings picture
  pub drawn : IsDrawnText settings history peaks picture text

-- whether the feed has ended, and whether it has failed, after a run with this outcome; ⊥ for outcomes that do not occur
abbrev pub HasReadTrace : Outcome → (ended failed : Bool) → Type 0
HasReadTrace Outcome.Done ended failed = (ended ≡ true) × (failed ≡ false)
HasReadTrace Outcome.Unreadable ended failed = failed ≡ true
HasReadTrace Outcome.Unwritable ended failed = failed ≡ false
HasReadTrace Outcome.NoMemory ended failed = failed ≡ false
HasReadTrace (Outcome.Help text) ended failed = ⊥
HasReadTrace (Outcome.Version text) ended failed = ⊥
HasReadTrace (Outcome.BadLine text) ended failed = ⊥
HasReadTrace Outcome.BadOnly ended failed = ⊥
