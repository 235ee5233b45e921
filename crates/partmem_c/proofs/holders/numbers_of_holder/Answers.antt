use Rattle.std.proofs.Common.{ap}
use Rattle.partmem_c.proofs.holders.numbers_of_holder.Goals as goal

pub returns : goal.returns
returns c =
    ap (λ n. record { cache = n; place = c.args.holder.place; bytes = c.args.holder.bytes }) c.cache_or_none.ensures
