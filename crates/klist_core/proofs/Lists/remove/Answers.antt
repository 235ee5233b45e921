use Rattle.std.proofs.Common.{◌≡◌, ◌++◌, List, take, length, sym, ap, ap₂, ◌∙◌, arith}
use Rattle.klist_core.specs.Links.{shown}
use Rattle.klist_core.specs.Writes.{heads_unlinked, nodes_unlinked}
use Rattle.klist_core.specs.declared.Head.{Head}
use Rattle.klist_core.specs.declared.Node.{Node}
use Rattle.klist_core.proofs.KnownBeforeWrites.{IsRemoval, removal_known, linked_out, shown_out, seam, linked_back}
use Rattle.klist_core.proofs.Lists.remove.Goals as goal
use Rattle.klist_core.proofs.Lists.remove.Goals.{In-Some, After-unlink_node}

known : (c : In-Some) → IsRemoval c.self.inside.heads.items c.self.inside.nodes.items c.args.node c.index-nodes-node.result c.in-Some.head
known c =
    removal_known c.self.inside.heads.items c.self.inside.nodes.items c.args.node c.index-nodes-node.result c.in-Some.head c.self.invariant
    (rw (← c.self.view_is) at c.requires.node) (rw c.deref_mut-nodes.ensures.value at c.index-nodes-node.is) (sym c.get.ensures ∙ c.in-Some.is)

pub unlink_node-requires : goal.unlink_node-requires
unlink_node-requires c =
    let k = known (goal.at.unlink_node-requires c).In-Some in
    rw (c.deref_mut-heads.ensures.value, c.deref_mut-nodes.ensures.value, c.get-previous.ensures, c.get-next.ensures)
    (record { head = k.in_heads; node = k.in_nodes; nodes = k.small; previous = k.left.below; next = k.right.below; some = k.some })

-- after `unlink_node`, the slices are the old tables with the node taken out
heads_freed : (c : After-unlink_node) → c.unlink_node.new.heads ≡ heads_unlinked c.self.inside.heads.items c.in-Some.head c.index-nodes-node.result.previous c.index-nodes-node.result.next
heads_freed c = cc

nodes_freed : (c : After-unlink_node) → c.unlink_node.new.nodes ≡ nodes_unlinked c.self.inside.nodes.items c.args.node c.index-nodes-node.result.previous c.index-nodes-node.result.next
nodes_freed c = cc

-- when the borrow of the slices ends, the tables are the old tables with the node taken out
heads_back : (c : After-unlink_node) (rest : List Head) → take c.self.inside.heads.len (c.unlink_node.new.heads ++ rest) ≡ heads_unlinked c.self.inside.heads.items c.in-Some.head c.index-nodes-node.result.previous c.index-nodes-node.result.next
heads_back c rest =
    seam _ rest c.self.inside.heads.len (omega (arith, c.unlink_node.auto.heads, ap (λ (hs : List Head). length hs) c.deref_mut-heads.ensures.value, c.self.inside.heads.ok.0))
    ∙ heads_freed c

nodes_back : (c : After-unlink_node) (rest : List Node) → take c.self.inside.nodes.len (c.unlink_node.new.nodes ++ rest) ≡ nodes_unlinked c.self.inside.nodes.items c.args.node c.index-nodes-node.result.previous c.index-nodes-node.result.next
nodes_back c rest =
    seam _ rest c.self.inside.nodes.len (omega (arith, c.unlink_node.auto.nodes, ap (λ (ns : List Node). length ns) c.deref_mut-nodes.ensures.value, c.self.inside.nodes.ok.0))
    ∙ nodes_freed c

pub invariant_of-self : goal.invariant_of-self
invariant_of-self c =
    let g = goal.at.invariant_of-self c in
    linked_back _ _ _ _ (heads_back g.After-unlink_node _) (nodes_back g.After-unlink_node _)
    (linked_out c.self.inside.heads.items c.self.inside.nodes.items c.args.node c.index-nodes-node.result c.in-Some.head (known g.In-Some))

pub returns : goal.returns
returns c =
    let g = goal.at.returns c in
    rw (← c.self.view_is) (
    ap₂ (λ (hs : List Head) (ns : List Node). shown hs ns) (heads_back g.After-unlink_node _) (nodes_back g.After-unlink_node _)
    ∙ shown_out c.self.inside.heads.items c.self.inside.nodes.items c.args.node c.index-nodes-node.result c.in-Some.head (known g.In-Some))
