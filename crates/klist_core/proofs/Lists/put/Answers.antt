use Rattle.std.proofs.Common.{◌≡◌, ◌++◌, List, take, length, ap, ap₂, ◌∙◌, arith}
use Rattle.klist_core.specs.Links.{shown}
use Rattle.klist_core.specs.Writes.{heads_linked, nodes_linked}
use Rattle.klist_core.specs.declared.Head.{Head}
use Rattle.klist_core.specs.declared.Node.{Node}
use Rattle.klist_core.proofs.KnownBeforeWrites.{IsInsertion, insertion_known, linked_in, shown_in, seam, linked_back}
use Rattle.klist_core.proofs.Lists.put.Goals as goal
use Rattle.klist_core.proofs.Lists.put.Goals.{After-link_place-previous, After-link_node}

known : (c : After-link_place-previous) → IsInsertion c.self.inside.heads.items c.self.inside.nodes.items c.args.head c.args.node c.args.key c.link_place-previous.result
known c =
    insertion_known c.self.inside.heads.items c.self.inside.nodes.items c.args.head c.args.node c.args.key c.args.gap c.link_place-previous.result c.self.invariant
    (rw (← c.self.view_is) at c.requires.head) (rw (← c.self.view_is) at c.requires.node) c.ranges.key.fits (rw (← c.self.view_is) at c.requires.free) (rw (← c.self.view_is) at c.requires.fresh)
    (rw (← c.self.view_is) at c.requires.gap) (rw c.deref.ensures.value at c.link_place-previous.ensures)

pub link_node-requires : goal.link_node-requires
link_node-requires c =
    let k = known (goal.at.link_node-requires c).After-link_place-previous in
    let heads = ap (λ (hs : List Head). length hs) c.deref_mut-heads.ensures.value in
    let nodes = ap (λ (ns : List Node). length ns) c.deref_mut-nodes.ensures.value in
    record {
      head = omega (arith, heads, k.in_heads);
      list = omega (arith, k.in_heads, c.requires.head, c.laws.ensures.few);
      node = omega (arith, nodes, k.in_nodes);
      nodes = omega (arith, nodes, k.small);
      previous = λ i e. omega (arith, nodes, k.left.below i e);
      next = λ i e. omega (arith, nodes, k.right.below i e);
      room = rw c.deref_mut-heads.ensures.value k.room;
    }

-- when the borrow of the slices ends, the tables are the old tables with the node linked in
heads_back : (c : After-link_node) (rest : List Head) → take c.self.inside.heads.len (c.link_node.new.heads ++ rest) ≡ heads_linked c.self.inside.heads.items c.args.head c.args.node c.link_place-previous.result.0 c.link_place-previous.result.1
heads_back c rest =
    seam _ rest c.self.inside.heads.len (omega (arith, c.link_node.auto.heads, ap (λ (hs : List Head). length hs) c.deref_mut-heads.ensures.value, c.self.inside.heads.ok.0))
    ∙ (c.link_node.ensures.heads ∙ ap (λ (hs : List Head). heads_linked hs c.args.head c.args.node c.link_place-previous.result.0 c.link_place-previous.result.1) c.deref_mut-heads.ensures.value)

nodes_back : (c : After-link_node) (rest : List Node) → take c.self.inside.nodes.len (c.link_node.new.nodes ++ rest) ≡ nodes_linked c.self.inside.nodes.items c.args.head c.args.node c.args.key c.link_place-previous.result.0 c.link_place-previous.result.1
nodes_back c rest =
    seam _ rest c.self.inside.nodes.len (omega (arith, c.link_node.auto.nodes, ap (λ (ns : List Node). length ns) c.deref_mut-nodes.ensures.value, c.self.inside.nodes.ok.0))
    ∙ (c.link_node.ensures.nodes ∙ ap (λ (ns : List Node). nodes_linked ns c.args.head c.args.node c.args.key c.link_place-previous.result.0 c.link_place-previous.result.1) c.deref_mut-nodes.ensures.value)

pub invariant_of-self : goal.invariant_of-self
invariant_of-self c =
    let g = goal.at.invariant_of-self c in
    linked_back _ _ _ _ (heads_back g.After-link_node _) (nodes_back g.After-link_node _)
    (linked_in c.self.inside.heads.items c.self.inside.nodes.items c.args.head c.args.node c.args.key c.link_place-previous.result (known g.After-link_place-previous))

pub returns : goal.returns
returns c =
    let g = goal.at.returns c in
    rw (← c.self.view_is) (
    ap₂ (λ (hs : List Head) (ns : List Node). shown hs ns) (heads_back g.After-link_node _) (nodes_back g.After-link_node _)
    ∙ shown_in c.self.inside.heads.items c.self.inside.nodes.items c.args.head c.args.node c.args.key c.link_place-previous.result (known g.After-link_place-previous))
