use Rattle.std.proofs.Common.{sym, ◌∙◌}
use Rattle.std.proofs.lemmas.Bool.{false≢true}
use Rattle.slab_core.proofs.fitting.View.would_fit_in_slabs.Goals as goal

pub returns-else-has_empty_slab-clause-fits : goal.returns-else-has_empty_slab-clause-fits
returns-else-has_empty_slab-clause-fits c = (
  λ e. absurd (false≢true (sym c.if-has_empty_slab.false ∙ e)),
  λ (d, less, h). absurd (c.has_empty_slab.ensures.0 c.if-has_empty_slab.false d less h.machine_frame h.first h.empty),
)
