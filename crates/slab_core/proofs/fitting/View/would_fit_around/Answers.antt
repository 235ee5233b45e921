use Rattle.std.proofs.Common.{◌≡◌, ◌*◌, ◌%◌, ◌^◌, ◌≤◌, length, sym, ap, ◌∙◌, subst, ⊎_elim, arith}
use Rattle.std.specs.Int.{div_ceil}
use Rattle.std.proofs.Math.Nat.{mul_assoc}
use Rattle.std.proofs.lemmas.List.{length-take-le}
use Rattle.std.proofs.lemmas.Grind.{div_ceil_times}
use Rattle.std.proofs.lemmas.Nat.{pow_pos}
use Rattle.std.proofs.lemmas.Bool.{false≢true, cases_lt}
use Rattle.slab_core.specs.Fitting.{has_number}
use Rattle.slab_core.proofs.ReturnEmptySlabs.{no_cache}
use Rattle.slab_core.proofs.IdleFrames.{small_size}
use Rattle.slab_core.proofs.BitSets.{none_yet, few_words}
use Rattle.slab_core.proofs.fitting.View.would_fit_around.Goals as goal

pub loop-c-init : goal.loop-c-init
loop-c-init c =
    let x = c.args in
    let power = small_size x.k (omega (arith, c.requires.order, c.requires.parts.slabs.order)) in
    let size : 1 * 2 ^ x.k % 18446744073709551616 ≡ 2 ^ x.k = omega (arith, power) in
    let count = c.div_ceil-words.ensures ∙ ap (div_ceil (length x.refused.now)) size in
    let enough = (div_ceil_times (length x.refused.now) (2 ^ x.k) (pow_pos x.k)).0 in
    let few : c.div_ceil-words.result ≤ length x.refused.now = rw count (few_words (length x.refused.now) (2 ^ x.k) (pow_pos x.k)) in
    let all = c.fill.ensures.after (λ y e. e) in
    record {
      none = λ d less. absurd (omega arith);
      words = subst (λ n. length x.self.tables.now.lists.places ≤ 64 * n * 2 ^ x.k) (sym (c.fill.ensures.len ∙ length-take-le c.div_ceil-words.result x.refused.now few))
          (rw (mul_assoc 64 c.div_ceil-words.result (2 ^ x.k), count) (omega (arith, c.requires.words, enough)));
      refused = λ n is. absurd (false≢true (sym (ap (λ ws. has_number ws n) all ∙ none_yet _ n) ∙ is));
    }

pub returns-clause-fits : goal.returns-clause-fits
returns-clause-fits c = (
  λ e. absurd (false≢true e),
  λ (d, less, h). ⊎_elim (λ low. absurd (c.loop-c.invariant.none d low h))
      (λ from. absurd (no_cache c.args.self.tables.now c.args.self.tenant d c.requires.parts.slabs less
      (c.caches_below-c-end.ensures.none d (omega (arith, from, c.loop-c-test.false))) h.machine_frame h.first h.empty))
      (cases_lt d c.loop-c.c),
)
