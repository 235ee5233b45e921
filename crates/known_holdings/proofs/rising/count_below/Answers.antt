use Rattle.std.proofs.Common.{ltb, sym, rules, arith}
use Rattle.std.proofs.lemmas.List.Sorted.{IsPartitionPoint-from_clause, IsPartitionedBy-ltb}
use Rattle.known_holdings.proofs.RisingKeys.{prefix_point}
use Rattle.known_holdings.proofs.rising.count_below.Goals as goal

pub returns-clause-value : goal.returns-clause-value
returns-clause-value g c =
    let parted = IsPartitionedBy-ltb g.T.Keyed.key c.args.items.now c.args.bound c.requires in
    let point = IsPartitionPoint-from_clause (λ x. ltb (g.T.Keyed.key x) c.args.bound) _ _ c.partition_point.ensures.partitioned parted (λ a r q k. search rules) in
    sym (prefix_point (λ x. ltb (g.T.Keyed.key x) c.args.bound) c.partition_point.result c.args.items.now c.partition_point.ensures.bound
    (λ k d lt. point.0 k d (omega arith) lt) point.1)
