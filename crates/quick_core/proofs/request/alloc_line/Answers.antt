use Rattle.std.proofs.Common.{◌≡◌, ◌+◌, get_or, slice_range, codes, refl, arith}
use Rattle.words_core.specs.Commands.{alloc_row}
use Rattle.words_core.specs.declared.event.Command.TheVariants as Command
use Rattle.quick_core.proofs.LineLemmas.{is_read_one, one_number, alloc_plain}
use Rattle.quick_core.proofs.WindowLemmas.{one_more}
use Rattle.quick_core.proofs.request.alloc_line.Goals as goal

pub returns-clause-reads : goal.returns-clause-reads
returns-clause-reads g c =
    let window = c.args.bytes.now in
    let a = c.args.tenant.end in
    let last = c.in_ok-order.order in
    let number = c.in_ok-order.ensures in
    let letter : get_or window (a + 5) 0 ≡ 99 = omega arith in
    let word : slice_range window (a + 1) (a + 5 + 1) ≡ codes "alloc" =
    one_more window (a + 1) (a + 5) 99 (codes "allo") (omega arith) (omega arith) c.requires.begins.letters letter in
    let blank : get_or window (a + 5 + 1) 0 ≡ 32 = omega arith in
    is_read_one c.one_case.ensures.some c.one_case.ensures.only window c.args.tenant (a + 5 + 1) (a + 5 + 2) last.value last.len alloc_row (Command.Alloc last.value)
    (omega arith) c.requires.begins.names (omega arith) (omega arith) (omega arith) word blank number (0, omega arith, refl) alloc_plain
    (one_number Command.Alloc (slice_range window (a + 5 + 2) number.end) last.value number.number)
