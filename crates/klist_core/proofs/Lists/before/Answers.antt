use Rattle.std.proofs.Common.{refl}
use Rattle.klist_core.specs.Places.{place_at}
use Rattle.klist_core.proofs.NodeBefore.{none_before, is_before}
use Rattle.klist_core.proofs.Lists.before.Goals as goal

pub returns-in_err-previous : goal.returns-in_err-previous
returns-in_err-previous c =
    let places = c.args.self.now.places in
    rw c.from_residual.ensures (none_before places c.laws.ensures.keyed (place_at places c.args.node) c.args.node refl c.requires.placed c.in_err-previous.ensures)

pub returns : goal.returns
returns c =
    let places = c.args.self.now.places in
    is_before places c.laws.ensures.keyed (place_at places c.args.node) c.args.node c.in_ok-previous.previous c.key_of.result refl c.requires.placed c.in_ok-previous.ensures c.key_of.ensures
