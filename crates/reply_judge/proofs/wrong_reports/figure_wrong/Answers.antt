use Rattle.std.proofs.Common.{[], ◌∷◌, ◌∙◌, refl}
use Rattle.reply_judge.specs.Figures.{first_found}
use Rattle.reply_judge.specs.WrongReports.{figure_wrong}
use Rattle.reply_judge.proofs.wrong_reports.figure_wrong.Goals as goal

pub returns : goal.returns
unfolding figure_wrong
returns c = c.first_found.ensures
    ∙ ((λ i. first_found (c.sizes_wrong.ensures i ∷ c.first_cache_wrong.ensures i ∷ c.first_taken_wrong.ensures i
    ∷ c.totals_wrong.ensures i ∷ c.blocks_wrong.ensures i ∷ []))
    ∙ rw (
      c.as_slice-free.ensures.value,
      c.as_slice-taken.ensures.value,
      c.counts_of-free.ensures.free,
      c.counts_of-free.ensures.taken,
      c.caches.ensures,
      c.as_slice-rows.ensures.value,
    ) refl)
