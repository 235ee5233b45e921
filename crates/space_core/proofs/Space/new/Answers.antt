use Rattle.std.proofs.Common.{◌≡◌, ◌*◌, ◌^◌, ◌≤◌, ◌%◌, ap, refl, sym, ◌∙◌, rules, arith}
use Rattle.std.proofs.Math.Nat.{pow-le-pow_right}
use Rattle.std.proofs.lemmas.Nat.{pow_pos, pow-add}
use Rattle.model_core.specs.declared.limits.TheConstants.{WIDE_ORDER}
use Rattle.space_core.specs.Storage.{shown_banks}
use Rattle.space_core.proofs.EmptySpace.{empty_space-IsSpace}
use Rattle.space_core.proofs.StoredBytes.{shown-none}
use Rattle.space_core.proofs.SeatLemmas.{empty_seats}
use Rattle.space_core.proofs.Vacancies.{blank_vacancy}
use Rattle.space_core.proofs.Space.new.Goals as goal

pub invariant_of-result : goal.invariant_of-result
invariant_of-result c =
    let most : 2 ^ c.args.order ≤ 2 ^ WIDE_ORDER = pow-le-pow_right (omega arith) c.requires.order in
    let positive = pow_pos c.args.order in
    let unit = 4096 * 2 ^ c.args.order % 4294967296 in
    let owners = rw c.from.ensures at (c.in_ok-owners.ensures.items_if_clones_equal (λ y same. search rules)) in
    let slots = rw (c.from-2.ensures, c.from-3.ensures) at c.in_ok-slots.ensures in
    let seats = rw (c.from-4.ensures, c.from-5.ensures) at c.in_ok-seats.ensures in
    let stored = rw c.from-6.ensures at c.in_ok-banks.ensures.bytes in
    let banks = ap (shown_banks unit) stored ∙ shown-none unit c.args.superblocks in
    let marks = rw c.from-7.ensures at (c.in_ok-marks.ensures.items_if_clones_equal (λ y same. search rules)) in
    let whole : unit ≡ 4096 * 2 ^ c.args.order = omega (arith, most) in
    let bytes : c.args.superblocks * unit ≤ 4294967296 = omega (arith, ap (λ n. c.args.superblocks * n) whole, c.requires.frames) in
    let zeros = c.in_ok-zeros.ensures.items_if_clones_equal (λ y same. search rules) in
    rw (owners, slots, banks, marks) (
      empty_space-IsSpace unit c.args.superblocks c.args.tenants (omega (arith, most)) (omega (arith, most)) c.requires.superblocks c.requires.tenants bytes,
      record { few = omega arith; size = (let whole : unit ≡ 2 ^ 12 * 2 ^ c.args.order = omega (arith, most) in whole ∙ sym (pow-add 2 12 c.args.order)); capacity = c.in_ok-banks.ensures.capacity; blank = zeros },
      blank_vacancy c.args.superblocks c.args.tenants c.in_ok-vacancy.vacancy.unowned c.in_ok-vacancy.vacancy.vacant.items c.in_ok-vacancy.ensures.unowned c.in_ok-vacancy.ensures.vacant,
      empty_seats c.args.superblocks c.args.tenants _ seats,
    )

pub returns : goal.returns
returns c =
    let most : 2 ^ c.args.order ≤ 2 ^ WIDE_ORDER = pow-le-pow_right (omega arith) c.requires.order in
    let unit = 4096 * 2 ^ c.args.order % 4294967296 in
    let owners = rw c.from.ensures at (c.in_ok-owners.ensures.items_if_clones_equal (λ y same. search rules)) in
    let slots = rw (c.from-2.ensures, c.from-3.ensures) at c.in_ok-slots.ensures in
    let stored = rw c.from-6.ensures at c.in_ok-banks.ensures.bytes in
    let banks = ap (shown_banks unit) stored ∙ shown-none unit c.args.superblocks in
    let marks = rw c.from-7.ensures at (c.in_ok-marks.ensures.items_if_clones_equal (λ y same. search rules)) in
    let whole : unit ≡ 4096 * 2 ^ c.args.order = omega (arith, most) in
    rw (owners, slots, banks, marks, whole) refl
