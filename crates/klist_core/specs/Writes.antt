-- The tables of heads and nodes after links are written.
use Rattle.std.specs.Prelude.{ℕ, ◌+◌, ◌-◌, Option, Some, None, List, slice_set}
use Rattle.klist_core.specs.Links.{head_at, node_at, free_node}
use Rattle.klist_core.specs.declared.Head.{Head}
use Rattle.klist_core.specs.declared.Node.{Node}

-- the tables with `to` linked after node `previous`, or as the first of list h if `previous` is None
abbrev pub heads_linked_after : Option ℕ → ℕ → Option ℕ → List Head → List Head
heads_linked_after None h to heads = slice_set heads h (record (head_at heads h) { first = to })
heads_linked_after (Some i) h to heads = heads

abbrev pub nodes_linked_after : Option ℕ → Option ℕ → List Node → List Node
nodes_linked_after None to nodes = nodes
nodes_linked_after (Some i) to nodes = slice_set nodes i (record (node_at nodes i) { next = to })

-- the tables with `to` linked before node `next`, or as the last of list h if `next` is None
abbrev pub heads_linked_before : Option ℕ → ℕ → Option ℕ → List Head → List Head
heads_linked_before None h to heads = slice_set heads h (record (head_at heads h) { last = to })
heads_linked_before (Some i) h to heads = heads

abbrev pub nodes_linked_before : Option ℕ → Option ℕ → List Node → List Node
nodes_linked_before None to nodes = nodes
nodes_linked_before (Some i) to nodes = slice_set nodes i (record (node_at nodes i) { previous = to })

-- the tables with node n set to `own`, `a` linked after `previous`, and `b` linked before `next`
abbrev pub nodes_rewired : List Node → ℕ → Node → (previous next a b : Option ℕ) → List Node
nodes_rewired nodes n own previous next a b = nodes_linked_before next b (nodes_linked_after previous a (slice_set nodes n own))

abbrev pub heads_rewired : List Head → ℕ → (previous next a b : Option ℕ) → List Head
heads_rewired heads h previous next a b = heads_linked_before next h b (heads_linked_after previous h a heads)

-- the heads with the length of list h set to m
abbrev pub heads_counted : List Head → ℕ → ℕ → List Head
heads_counted heads h m = slice_set heads h (record (head_at heads h) { len = m })

-- a node of list h with this key, linked between the nodes `previous` and `next`
abbrev pub linked_node : ℕ → ℕ → Option ℕ → Option ℕ → Node
linked_node h key previous next = record { list = Some h; key = key; previous = previous; next = next }

-- the tables with node n linked into list h between the nodes `previous` and `next`
abbrev pub heads_linked : List Head → (h n : ℕ) → (previous next : Option ℕ) → List Head
heads_linked heads h n previous next = heads_counted (heads_rewired heads h previous next (Some n) (Some n)) h ((head_at heads h).len + 1)

abbrev pub nodes_linked : List Node → (h n key : ℕ) → (previous next : Option ℕ) → List Node
nodes_linked nodes h n key previous next = nodes_rewired nodes n (linked_node h key previous next) previous next (Some n) (Some n)

-- the tables with node n, which was between `previous` and `next`, taken out of list h
abbrev pub heads_unlinked : List Head → (h : ℕ) → (previous next : Option ℕ) → List Head
heads_unlinked heads h previous next = heads_counted (heads_rewired heads h previous next next previous) h ((head_at heads h).len - 1)

abbrev pub nodes_unlinked : List Node → (n : ℕ) → (previous next : Option ℕ) → List Node
nodes_unlinked nodes n previous next = nodes_rewired nodes n free_node previous next next previous
