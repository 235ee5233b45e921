use Rattle.std.proofs.Common.{[]}
use Rattle.std.proofs.lemmas.List.{get_or_read}
use Rattle.klist_core.specs.Links.{head_at}
use Rattle.klist_core.proofs.LinkReads.{last_linked}
use Rattle.klist_core.proofs.Lists.last_of.Goals as goal

pub returns : goal.returns
returns c =
    let heads = c.self.inside.heads.items in
    let lt = rw (← c.self.view_is) at c.requires.head in
    let read = get_or_read heads c.args.head c.index.result.now lt c.index.ensures (head_at [] 0) in
    rw (← c.self.view_is) (rw (c.get.ensures, read) (last_linked heads c.self.inside.nodes.items c.self.invariant c.args.head lt c.requires.by_key))
