use Rattle.std.proofs.Common.{◌%◌, ◌-◌, bit_and, ap, sym, ◌∙◌}
use Rattle.std.proofs.lemmas.Nat.{and_mask}
use Rattle.space_core.proofs.Space.within.Goals as goal

pub returns : goal.returns
returns c = rw (← c.self.view_is) (
    ap (λ n. bit_and c.args.place (n - 1)) c.self.invariant.1.size
    ∙ and_mask c.args.place c.self.inside.bits
    ∙ sym (ap (λ n. c.args.place % n) c.self.invariant.1.size)
    )
