use Rattle.std.proofs.Common.{[], ap, sym, ◌∙◌}
use Rattle.std.proofs.lemmas.List.{get_or_read}
use Rattle.klist_core.specs.Links.{head_at, places_of}
use Rattle.klist_core.specs.declared.Head.{Head}
use Rattle.klist_core.proofs.KeyNodePairs.{length_list}
use Rattle.klist_core.proofs.Lists.len.Goals as goal

pub returns-clause-length : goal.returns-clause-length
returns-clause-length c =
    let heads = c.self.inside.heads.items in
    let lt = rw (← c.self.view_is) at c.requires in
    let read = get_or_read heads c.args.head c.index-list.result.now lt c.index-list.ensures (head_at [] 0) in
    rw (← c.self.view_is) (ap (λ (x : Head). x.len) read ∙ (c.self.invariant.counted c.args.head lt ∙ sym (length_list c.args.head 0 (places_of c.self.inside.nodes.items))))

pub returns-clause-count : goal.returns-clause-count
returns-clause-count c =
    let heads = c.self.inside.heads.items in
    let lt = rw (← c.self.view_is) at c.requires in
    let read = get_or_read heads c.args.head c.index-list.result.now lt c.index-list.ensures (head_at [] 0) in
    rw (← c.self.view_is) (ap (λ (x : Head). x.len) read ∙ c.self.invariant.counted c.args.head lt)
