use Rattle.std.proofs.Common.{◌∙◌, ◌++◌, ap, sym, take}
use Rattle.std.proofs.lemmas.List.{take_min}
use Rattle.replay_core.proofs.PendingLemmas.{on_ok}
use Rattle.run_notes.proofs.faults.FaultyLine.new.Goals as goal

pub returns : goal.returns
returns c =
    ap (λ bytes. record { number = c.args.number; fault = c.args.fault; begin = record { items = bytes } })
    (on_ok _ (sym c.is_ok.ensures.value ∙ c.if-prove.false) c.try_extend_from_slice-taken.ensures.ok
    ∙ ap (λ xs. xs ++ take c.min-shown.result c.args.line.now) c.new-begin.ensures ∙ ap (λ n. take n c.args.line.now) c.min-shown.ensures ∙ take_min 32 c.args.line.now)
