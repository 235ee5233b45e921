use Rattle.std.proofs.Common.{append_assoc}
use Rattle.words_core.proofs.answer.put_slot.Goals as goal

pub returns-clause-text : goal.returns-clause-text
returns-clause-text c =
    rw (c.put_labelled.ensures.text, c.put_labelled-at.ensures.text, c.put_number-at.ensures.text, c.from.ensures, c.from-2.ensures, c.from-3.ensures)
    (simp append_assoc)
