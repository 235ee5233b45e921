use Rattle.std.proofs.Common.{◌≡◌, ◌+◌, get_or, slice_range, refl, arith}
use Rattle.words_core.specs.Commands.{read_row}
use Rattle.words_core.specs.declared.event.Command.TheVariants as Command
use Rattle.quick_core.proofs.LineLemmas.{is_read_two, two_numbers, read_plain}
use Rattle.quick_core.proofs.request.read_line.Goals as goal

pub returns-clause-reads : goal.returns-clause-reads
returns-clause-reads g c =
    let window = c.args.bytes.now in
    let a = c.args.tenant.end in
    let place = c.in_ok-place.place in
    let first = c.in_ok-place.ensures in
    let len = c.in_ok-len.len in
    let number = c.in_ok-len.ensures in
    let blank : get_or window (a + 5) 0 ≡ 32 = omega arith in
    let second : get_or window place.end 0 ≡ 32 = omega arith in
    is_read_two c.one_case.ensures.some c.one_case.ensures.only window c.args.tenant (a + 5) (a + 5 + 1) place.end (place.end + 1) place.value len.value len.len read_row
    (Command.Read place.value len.value) (omega arith) c.requires.begins.names (omega arith) (omega arith) refl first.some first.within refl
    c.requires.begins.letters blank first.value second number (2, omega arith, refl) read_plain
    (two_numbers Command.Read (slice_range window (a + 5 + 1) place.end) (slice_range window (place.end + 1) number.end) place.value len.value first.value number.number)
