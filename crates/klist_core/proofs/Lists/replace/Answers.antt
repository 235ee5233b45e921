use Rattle.std.proofs.Common.{◌≡◌, ◌++◌, List, take, length, sym, ap, ap₂, ◌∙◌, arith}
use Rattle.klist_core.specs.Links.{shown}
use Rattle.klist_core.specs.Writes.{heads_linked, nodes_linked, heads_unlinked, nodes_unlinked}
use Rattle.klist_core.specs.declared.Head.{Head}
use Rattle.klist_core.specs.declared.Node.{Node}
use Rattle.klist_core.proofs.KnownBeforeWrites.{IsRemoval, removal_known, heads_replaced, nodes_replaced, nodes_stay, linked_over, shown_over, seam, linked_back}
use Rattle.klist_core.proofs.Lists.replace.Goals as goal
use Rattle.klist_core.proofs.Lists.replace.Goals.{In-Some, After-unlink_node, After-link_node}

known : (c : In-Some) → IsRemoval c.self.inside.heads.items c.self.inside.nodes.items c.args.node c.index-nodes-node.result c.in-Some.head
known c =
    removal_known c.self.inside.heads.items c.self.inside.nodes.items c.args.node c.index-nodes-node.result c.in-Some.head c.self.invariant
    (rw (← c.self.view_is) at c.requires.node) (rw c.deref_mut-nodes.ensures.value at c.index-nodes-node.is) (sym c.get.ensures ∙ c.in-Some.is)

pub unlink_node-requires : goal.unlink_node-requires
unlink_node-requires c =
    let k = known (goal.at.unlink_node-requires c).In-Some in
    rw (c.deref_mut-heads.ensures.value, c.deref_mut-nodes.ensures.value, c.get-previous.ensures, c.get-next.ensures)
    (record { head = k.in_heads; node = k.in_nodes; nodes = k.small; previous = k.left.below; next = k.right.below; some = k.some })

-- after `unlink_node`, the slices are the old tables with the node taken out
heads_freed : (c : After-unlink_node) → c.unlink_node.new.heads ≡ heads_unlinked c.self.inside.heads.items c.in-Some.head c.index-nodes-node.result.previous c.index-nodes-node.result.next
heads_freed c = cc

nodes_freed : (c : After-unlink_node) → c.unlink_node.new.nodes ≡ nodes_unlinked c.self.inside.nodes.items c.args.node c.index-nodes-node.result.previous c.index-nodes-node.result.next
nodes_freed c = cc

-- `unlink_node` does not change the number of nodes
nodes_kept : (c : After-unlink_node) → length c.unlink_node.new.nodes ≡ length c.self.inside.nodes.items
nodes_kept c = ap (λ (ns : List Node). length ns) (nodes_freed c) ∙ nodes_stay c.self.inside.nodes.items c.args.node c.index-nodes-node.result.previous c.index-nodes-node.result.next

pub link_node-requires-clause-previous : goal.link_node-requires-clause-previous
link_node-requires-clause-previous c = λ i e.
    let g = goal.at.link_node-requires-clause-previous c in
    let k = known g.In-Some in omega (arith, nodes_kept g.After-unlink_node, k.left.below i (sym c.get-previous.ensures ∙ e))

pub link_node-requires-clause-next : goal.link_node-requires-clause-next
link_node-requires-clause-next c = λ i e.
    let g = goal.at.link_node-requires-clause-next c in
    let k = known g.In-Some in omega (arith, nodes_kept g.After-unlink_node, k.right.below i (sym c.get-next.ensures ∙ e))

-- when the borrow of the slices ends, the tables are the old tables with the node replaced
heads_back : (c : After-link_node) (rest : List Head) → c.unlink_node.new.heads ≡ heads_unlinked c.self.inside.heads.items c.in-Some.head c.index-nodes-node.result.previous c.index-nodes-node.result.next
    → take c.self.inside.heads.len (c.link_node.new.heads ++ rest) ≡ heads_replaced c.self.inside.heads.items c.in-Some.head c.args.by c.index-nodes-node.result
heads_back c rest freed =
    seam _ rest c.self.inside.heads.len (omega (arith, c.link_node.auto.heads, ap (λ (hs : List Head). length hs) c.deref_mut-heads.ensures.value, c.self.inside.heads.ok.0))
    ∙ (c.link_node.ensures.heads ∙ ap₂ (λ p q. heads_linked c.unlink_node.new.heads c.in-Some.head c.args.by p q) c.get-previous.ensures c.get-next.ensures
    ∙ ap (λ (hs : List Head). heads_linked hs c.in-Some.head c.args.by c.index-nodes-node.result.previous c.index-nodes-node.result.next) freed)

nodes_back : (c : After-link_node) (rest : List Node) → c.unlink_node.new.nodes ≡ nodes_unlinked c.self.inside.nodes.items c.args.node c.index-nodes-node.result.previous c.index-nodes-node.result.next
    → take c.self.inside.nodes.len (c.link_node.new.nodes ++ rest) ≡ nodes_replaced c.self.inside.nodes.items c.in-Some.head c.args.node c.args.by c.index-nodes-node.result
nodes_back c rest freed =
    seam _ rest c.self.inside.nodes.len (omega (arith, c.link_node.auto.nodes, ap (λ (ns : List Node). length ns) c.deref_mut-nodes.ensures.value, c.self.inside.nodes.ok.0))
    ∙ (c.link_node.ensures.nodes ∙ ap₂ (λ p q. nodes_linked c.unlink_node.new.nodes c.in-Some.head c.args.by c.index-nodes-node.result.key p q) c.get-previous.ensures c.get-next.ensures
    ∙ ap (λ (ns : List Node). nodes_linked ns c.in-Some.head c.args.by c.index-nodes-node.result.key c.index-nodes-node.result.previous c.index-nodes-node.result.next) freed)

pub invariant_of-self : goal.invariant_of-self
invariant_of-self c =
    let g = goal.at.invariant_of-self c in
    linked_back _ _ _ _ (heads_back g.After-link_node _ (heads_freed g.After-unlink_node)) (nodes_back g.After-link_node _ (nodes_freed g.After-unlink_node))
    (linked_over c.self.inside.heads.items c.self.inside.nodes.items c.args.node c.args.by c.index-nodes-node.result c.in-Some.head (known g.In-Some) (rw (← c.self.view_is) at c.requires.by) (rw (← c.self.view_is) at c.requires.free))

pub returns : goal.returns
returns c =
    let g = goal.at.returns c in
    rw (← c.self.view_is) (
    ap₂ (λ (hs : List Head) (ns : List Node). shown hs ns) (heads_back g.After-link_node _ (heads_freed g.After-unlink_node)) (nodes_back g.After-link_node _ (nodes_freed g.After-unlink_node))
    ∙ shown_over c.self.inside.heads.items c.self.inside.nodes.items c.args.node c.args.by c.index-nodes-node.result c.in-Some.head (known g.In-Some) (rw (← c.self.view_is) at c.requires.by))
