use Rattle.std.proofs.Common.{◌≡◌, ◌+◌, ◌*◌, codes, get_or, slice_range, take, refl, arith}
use Rattle.quick_core.proofs.DecodeLemmas.{is_read_hex}
use Rattle.quick_core.proofs.WindowLemmas.{one_more}
use Rattle.quick_core.proofs.request.write_line.Goals as goal

pub returns-clause-reads : goal.returns-clause-reads
returns-clause-reads g c =
    let rest = c.args.bytes.now in
    let a = c.args.tenant.end in
    let place = c.in_ok-place.place in
    let count = c.decode_at-count.result in
    let decoded = c.decode_at-count.ensures in
    let place_within = c.in_ok-place.ensures.within in
    let letter : get_or rest (a + 5) 0 ≡ 101 = omega arith in
    let word : slice_range rest (a + 1) (a + 5 + 1) ≡ codes "write" =
    one_more rest (a + 1) (a + 5) 101 (codes "writ") (omega arith) (omega arith) c.requires.begins.letters letter in
    let blank : get_or rest (a + 5 + 1) 0 ≡ 32 = omega arith in
    let second : get_or rest place.end 0 ≡ 32 = omega arith in
    is_read_hex c.one_case.ensures.some c.one_case.ensures.only rest a (a + 1) (a + 5 + 1) (a + 5 + 2) place.end (place.end + 1)
    (place.end + 1 + 2 * count) c.in_ok-len.len c.args.tenant.value place.value (take count c.decode_at-count.new.out)
    refl (omega arith) (omega arith) c.in_ok-place.ensures.some refl (omega arith) (omega arith) (omega arith) (omega arith)
    c.requires.begins.names.number c.requires.begins.names.blank word blank c.in_ok-place.ensures.value second (decoded.decoded 0) c.in_ok-len.ensures
