use Rattle.std.proofs.Common.{◌≡◌, replicate, rules}
use Rattle.klist_core.proofs.EmptyTable.{empty_head, linked_fresh, shown_fresh}
use Rattle.klist_core.specs.Links.{free_node}
use Rattle.klist_core.proofs.Lists.new.Goals as goal
use Rattle.klist_core.proofs.Lists.new.Goals.{In_ok-nodes}

heads_are : (c : In_ok-nodes) → c.in_ok-heads.heads.items ≡ replicate c.args.heads empty_head
heads_are c = rw c.of-none.ensures at c.in_ok-heads.ensures.items_if_clones_equal (λ y h. search rules)

nodes_are : (c : In_ok-nodes) → c.in_ok-nodes.nodes.items ≡ replicate c.args.nodes free_node
nodes_are c = rw c.free-node.ensures at c.in_ok-nodes.ensures.items_if_clones_equal (λ y h. search rules)

pub invariant_of-result : goal.invariant_of-result
invariant_of-result c = rw (heads_are c, nodes_are c) (linked_fresh c.args.heads c.args.nodes c.ranges.heads.fits c.ranges.nodes.fits)

pub returns : goal.returns
returns c = rw (heads_are c, nodes_are c) (shown_fresh c.args.heads c.args.nodes)
