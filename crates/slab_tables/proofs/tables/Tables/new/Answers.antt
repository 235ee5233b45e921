use Rattle.std.proofs.Common.{◌≡◌, ◌*◌, ◌%◌, ◌^◌, rules, arith}
use Rattle.slab_tables.proofs.CacheNumberBound.{below_opening}
use Rattle.slab_tables.proofs.InvariantKept.{slabs_opening}
use Rattle.slab_tables.proofs.tables.Tables.new.Goals as goal

pub invariant_of-result : goal.invariant_of-result
invariant_of-result c =
    let whole = slabs_opening c.args.order c.args.superblocks c.args.tenants c.requires.order c.requires.superblocks c.requires.tenants c.requires.frames in
    let lists = c.in_ok-new.ensures in
    let kept = c.in_ok-vec.ensures.items_if_clones_equal (λ y h. search rules) in
    let caches = c.in_ok-vec-2.ensures.items_if_clones_equal (λ y h. search rules) in
    let live = c.in_ok-vec-3.ensures.items_if_clones_equal (λ y h. search rules) in
    let machine_frames : c.args.superblocks * 2 ^ c.args.order % 4294967296 ≡ c.args.superblocks * 2 ^ c.args.order = omega (arith, c.requires.frames) in
    let below = c.in_ok-vec-4.ensures.items_if_clones_equal (λ y h. search rules) in
    rw (lists, kept, caches, live, below, c.from.ensures, c.from-2.ensures, c.from-3.ensures, c.from-4.ensures, machine_frames)
    (record { slabs = whole; ends = below_opening c.args.tenants })
