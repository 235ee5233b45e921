use Rattle.std.proofs.Common.{◌<◌, [], length, arith}
use Rattle.std.proofs.lemmas.List.{get_or_read, length-map}
use Rattle.klist_core.specs.Links.{node_at, places_of, place_in}
use Rattle.klist_core.proofs.PlacesChanged.{some_within}
use Rattle.klist_core.proofs.LinkReads.{next_linked}
use Rattle.klist_core.proofs.Lists.next_of.Goals as goal

pub returns : goal.returns
returns c =
    let nodes = c.self.inside.nodes.items in
    let within = some_within (places_of nodes) c.args.node (rw (← c.self.view_is) at c.requires) in
    let lt : c.args.node < length nodes = omega (arith, within, length-map nodes place_in) in
    let read = get_or_read nodes c.args.node c.index.result.now lt c.index.ensures (node_at [] 0) in
    rw (← c.self.view_is) (rw (c.get.ensures, read) (next_linked c.self.inside.heads.items nodes c.self.invariant c.args.node))
