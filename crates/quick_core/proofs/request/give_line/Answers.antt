use Rattle.std.proofs.Common.{◌≡◌, ◌+◌, get_or, slice_range, refl, arith}
use Rattle.words_core.specs.Commands.{give_row}
use Rattle.words_core.specs.declared.event.Command.TheVariants as Command
use Rattle.quick_core.proofs.LineLemmas.{is_read_two, two_numbers, give_plain}
use Rattle.quick_core.proofs.request.give_line.Goals as goal

pub returns-clause-reads : goal.returns-clause-reads
returns-clause-reads g c =
    let window = c.args.bytes.now in
    let a = c.args.tenant.end in
    let cache = c.in_ok-cache.cache in
    let first = c.in_ok-cache.ensures in
    let place = c.in_ok-place.place in
    let number = c.in_ok-place.ensures in
    let blank : get_or window (a + 5) 0 ≡ 32 = omega arith in
    let second : get_or window cache.end 0 ≡ 32 = omega arith in
    is_read_two c.one_case.ensures.some c.one_case.ensures.only window c.args.tenant (a + 5) (a + 5 + 1) cache.end (cache.end + 1) cache.value place.value place.len give_row
    (Command.Give cache.value place.value) (omega arith) c.requires.begins.names (omega arith) (omega arith) refl first.some first.within refl
    c.requires.begins.letters blank first.value second number (7, omega arith, refl) give_plain
    (two_numbers Command.Give (slice_range window (a + 5 + 1) cache.end) (slice_range window (cache.end + 1) number.end) cache.value place.value first.value number.number)
