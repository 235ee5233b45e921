use Rattle.std.proofs.Common.{append_assoc}
use Rattle.words_core.proofs.text.put_owner.Goals as goal

pub returns-in-Some-clause-text : goal.returns-in-Some-clause-text
returns-in-Some-clause-text c =
    rw (c.put_labelled.ensures.text, c.put_labelled-at-in-Some.ensures.text, c.put_labelled-at.ensures.text, c.from.ensures, c.from-in-Some.ensures, c.in-Some.is)
    (simp append_assoc)
