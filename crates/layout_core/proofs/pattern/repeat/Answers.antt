use Rattle.std.proofs.Common.{◌≡◌, ◌+◌, ◌≤◌, ◌++◌, length, drop, refl, arith, ap, sym, ◌∙◌}
use Rattle.std.specs.Prelude.{slice_index}
use Rattle.std.proofs.lemmas.List.{length-append, length-drop, length-take-le, get_or_append_left}
use Rattle.std.proofs.Math.Nat.{mod_self, mod-eq_of_lt}
use Rattle.layout_core.proofs.RepeatedBytes.{copied_on, twice}
use Rattle.layout_core.proofs.pattern.repeat.Goals as goal

pub loop-done-init : goal.loop-done-init
loop-done-init c = record {
  some = c.requires;
  whole = mod_self c.args.period;
  size = refl;
  bytes = λ j less below. ap (slice_index c.args.out.now) (sym (mod-eq_of_lt less));
}

pub loop-done-preserved : goal.loop-done-preserved
loop-done-preserved c =
    let was = c.loop-done.invariant in
    let cut = c.split_at_mut-front.ensures in
    let front = c.split_at_mut-front.result.0.now in
    let rest = c.split_at_mut-front.result.1.now in
    let more = c.min-more.result in
    let copied = c.copy_from_slice.ensures in
    let few : more ≤ c.loop-done.done = omega (arith, c.min-more.ensures) in
    let fits : more ≤ length rest = omega (arith, c.min-more.ensures) in
    let whole : c.loop-done.done + length rest ≡ length c.args.out.now =
    sym (length-append front rest ∙ ap (λ n. n + length rest) cut.front_len) ∙ ap length (sym cut.value) ∙ was.size in
    record {
      some = omega (arith, was.some);
      whole = twice c.loop-done.done c.args.period was.whole;
      size = length-append front (c.copy_from_slice.new.self ++ drop more rest)
          ∙ omega (arith, whole, fits, cut.front_len, length-append c.copy_from_slice.new.self (drop more rest), length-drop more rest, copied.len, length-take-le more rest fits);
      bytes = λ j less below. ap (λ ys. slice_index (front ++ (ys ++ drop more rest)) j) copied.after
          ∙ copied_on c.args.out.now front rest more c.loop-done.done c.args.period cut.front_len few
          (λ i lower there. omega (arith, c.min-more.ensures)) was.whole
          (λ i lower. sym (get_or_append_left front rest 0 i (omega (arith, cut.front_len))) ∙ ap (λ xs. slice_index xs i) (sym cut.value)
          ∙ was.bytes i lower (omega (arith, whole)))
          j less (omega (arith, whole));
    }
