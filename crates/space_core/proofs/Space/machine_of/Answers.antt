use Rattle.std.proofs.Common.{◌≡◌, sym, rules}
use Rattle.space_core.specs.Content.{superblock_at}
use Rattle.space_core.proofs.Mapping.{superblock-below}
use Rattle.space_core.proofs.Space.machine_of.Goals as goal

pub returns-clause-below : goal.returns-clause-below
returns-clause-below c =
    let value : c.flatten.result ≡ superblock_at c.args.self.now.slots c.args.t c.args.slot = search rules in
    superblock-below c.laws.ensures.facts c.args.t c.args.slot c.flatten.result (sym value)
