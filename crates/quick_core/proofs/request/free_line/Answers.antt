use Rattle.std.proofs.Common.{◌≡◌, ◌+◌, get_or, slice_range, refl, arith}
use Rattle.words_core.specs.Commands.{free_row}
use Rattle.words_core.specs.declared.event.Command.TheVariants as Command
use Rattle.quick_core.proofs.LineLemmas.{is_read_one, one_number, free_plain}
use Rattle.quick_core.proofs.request.free_line.Goals as goal

pub returns-clause-reads : goal.returns-clause-reads
returns-clause-reads g c =
    let window = c.args.bytes.now in
    let a = c.args.tenant.end in
    let last = c.in_ok-frame.frame in
    let number = c.in_ok-frame.ensures in
    let blank : get_or window (a + 5) 0 ≡ 32 = omega arith in
    is_read_one c.one_case.ensures.some c.one_case.ensures.only window c.args.tenant (a + 5) (a + 5 + 1) last.value last.len free_row (Command.Free last.value)
    (omega arith) c.requires.begins.names (omega arith) (omega arith) refl c.requires.begins.letters blank number (1, omega arith, refl) free_plain
    (one_number Command.Free (slice_range window (a + 5 + 1) number.end) last.value number.number)
