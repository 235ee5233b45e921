use Rattle.std.proofs.Common.{Some, None, refl}
use Rattle.trace_check.proofs.reason.block_reason.Goals as goal

pub returns-in-Some : goal.returns-in-Some
returns-in-Some c w shown = record {
  taken = Some c.in-Some.taken;
  in_way = record { page = c.in-Some.ensures.page w shown; frame = c.in-Some.ensures.frame };
  is = refl;
}

pub returns-in-None : goal.returns-in-None
returns-in-None c w shown = record {
  taken = None;
  in_way = record { page = c.in-None.ensures.page w shown; frame = c.in-None.ensures.frame };
  is = c.unfit_reason.ensures w shown;
}
