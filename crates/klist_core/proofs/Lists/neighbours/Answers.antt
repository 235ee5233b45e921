use Rattle.std.proofs.Common.{◌^◌}
use Rattle.klist_core.specs.Places.{place_at}
use Rattle.klist_core.specs.Links.{up, down}
use Rattle.klist_core.proofs.Directions.{upwards, downwards, across}
use Rattle.klist_core.proofs.Lists.neighbours.Goals as goal

pub returns-then-key_of-key-clause-previous : goal.returns-then-key_of-key-clause-previous
returns-then-key_of-key-clause-previous c =
    across up down (place_at c.args.self.now.places) c.args.head c.args.key _ _ (upwards (2 ^ 32)) (record { below = λ i k e. c.laws.ensures.keyed i c.args.head k e })
    c.ranges.key.fits c.requires.fresh c.first_above-next.ensures c.requires.by_key c.previous_or_last.ensures

pub returns-else-key_of-key-clause-next : goal.returns-else-key_of-key-clause-next
returns-else-key_of-key-clause-next c =
    across down up (place_at c.args.self.now.places) c.args.head c.args.key _ _ (downwards (2 ^ 32)) (record { below = λ i k e. c.laws.ensures.keyed i c.args.head k e })
    c.ranges.key.fits c.requires.fresh c.last_below-previous.ensures c.requires.by_key c.next_or_first.ensures
