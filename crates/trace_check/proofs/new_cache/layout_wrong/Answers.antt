use Rattle.std.proofs.Common.{ap, ◌∙◌}
use Rattle.trace_check.specs.NewCache.{over_room}
use Rattle.trace_check.proofs.NewCacheLemmas.{within_bounds}
use Rattle.trace_check.proofs.new_cache.layout_wrong.Goals as goal

pub returns-else-layout-lt1-2 : goal.returns-else-layout-lt1-2
returns-else-layout-lt1-2 c =
    let l = c.args.layout.now in
    c.over_room.ensures
    ∙ ap (λ room. over_room room l.align l.chunk l.count l.colours) c.room_of.ensures.value
    ∙ within_bounds c.args.order l.size l.align l.chunk l.order l.count l.colours c.if-layout-eq0.false c.if-layout.false c.if-layout-ne0.false c.if-layout-order.false c.if-layout-lt1.false c.if-layout-lt1-2.false
