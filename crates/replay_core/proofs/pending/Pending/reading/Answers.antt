use Rattle.std.proofs.Common.{sym, ◌∙◌, ap}
use Rattle.words_core.specs.Grammar.{reading_of}
use Rattle.replay_core.proofs.PendingLemmas.{take-short, longer_true, longer_false, overlong}
use Rattle.replay_core.proofs.RunnableLemmas.{read_is_runnable}
use Rattle.replay_core.proofs.pending.Pending.reading.Goals as goal

pub returns-then-self-clause-reading : goal.returns-then-self-clause-reading
returns-then-self-clause-reading c line holds = sym (overlong line (longer_true line (sym holds.longer ∙ c.if-self.true)))

pub returns-else-self-clause-reading : goal.returns-else-self-clause-reading
returns-else-self-clause-reading c line holds =
    c.read_line.ensures.exact
    ∙ ap reading_of (c.as_slice.ensures.value ∙ holds.front ∙ take-short line (longer_false line (sym holds.longer ∙ c.if-self.false)))

pub returns-else-self-clause-runnable : goal.returns-else-self-clause-runnable
returns-else-self-clause-runnable c = read_is_runnable _ _ c.read_line.ensures.exact
