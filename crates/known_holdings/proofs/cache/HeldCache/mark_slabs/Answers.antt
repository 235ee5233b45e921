use Rattle.std.proofs.Common.{◌≡◌, ℕ, ◌+◌, ◌-◌, ◌*◌, ◌/◌, ◌^◌, false, refl, length, get_or, take, drop, sym, ap, ◌∙◌, subst, arith, length-drop}
use Rattle.std.specs.Prelude.{◌||◌, nat_lt}
use Rattle.std.specs.List.{list_any, prefix_len}
use Rattle.std.specs.List.Sorted.{IsNonDecreasing}
use Rattle.std.proofs.lemmas.List.{take_all}
use Rattle.std.proofs.lemmas.List.Sorted.{IsNonDecreasingBy-drop}
use Rattle.model_core.specs.Blocks.{Block}
use Rattle.promise_core.specs.Holdings.{KnownCache, slab_around}
use Rattle.std.proofs.Math.Bool.{or-false}
use Rattle.known_holdings.proofs.SlabMarks.{has_over, has_over_block, any_from, slab_passed, goes_on, none_behind}
use Rattle.known_holdings.proofs.cache.HeldCache.mark_slabs.Goals as goal

pub slabs-init : goal.slabs-init
slabs-init c =
    let told = c.args.self.now in
    let n = c.count_below.result in
    let a = c.first_byte-begin.result in
    let xs = c.deref.result.now in
    let live : c.self.inside.live.items ≡ told.live = ap (λ (t : KnownCache). t.live) c.self.view_is in
    let is_a : a ≡ 4096 * (c.args.slot.now.first / 2 ^ told.order * 2 ^ told.order) = c.first_byte-begin.ensures.value
    ∙ ap (λ (b : Block). 4096 * b.first) c.around.ensures ∙ ap (λ n. 4096 * (n / 2 ^ c.order.result * 2 ^ c.order.result)) c.first.ensures
    ∙ ap (λ k. 4096 * (c.args.slot.now.first / 2 ^ k * 2 ^ k)) c.order.ensures.value in
    let at : n ≡ prefix_len (λ p. nat_lt p a) told.live = c.count_below.ensures.value ∙ ap (prefix_len (λ p. nat_lt p a)) (c.deref-2.ensures.value ∙ live) in
    let rest : take (length xs - n) (drop n xs) ≡ drop (prefix_len (λ p. nat_lt p a) told.live) told.live =
    take_all (length xs - n) (drop n xs) (omega (arith, length-drop n xs)) ∙ (λ i. drop (at i) ((c.deref.ensures.value ∙ live) i)) in
    record {
      rise = subst IsNonDecreasing (sym rest) (IsNonDecreasingBy-drop (λ p. p) _ told.live (subst IsNonDecreasing live c.self.invariant.1));
      marked = λ f less. ap (λ ys. get_or c.args.taken.now f false || list_any (has_over told (c.args.slot.now.first + f)) ys) rest
          ∙ ap (λ t. get_or c.args.taken.now f false || t) (any_from told c.args.slot.now.first (c.args.slot.now.first + f) a told.live is_a (omega arith));
    }

pub slabs-preserved : goal.slabs-preserved
slabs-preserved c =
    let told = c.args.self.now in
    let xs = c.slabs.rest.now in
    let p = c.in-Some.first.now in
    let rest = c.behind-rest.ensures
    ∙ ap (λ (y : Block). drop (prefix_len (λ q. nat_lt q (4096 * (y.first + 2 ^ y.order))) xs) xs) c.slab_around-slab.ensures in
    record {
      rise = subst IsNonDecreasing (sym c.behind-rest.ensures) (IsNonDecreasingBy-drop (λ q. q) _ xs c.slabs.invariant.rise);
      marked = λ f less.
          let x : ℕ = c.args.slot.now.first + f in
          (λ i. c.mark.ensures f less i || list_any (has_over told x) (rest i))
          ∙ ap (λ y. (get_or c.slabs.taken f false || has_over_block x y)
          || list_any (has_over told x) (drop (prefix_len (λ q. nat_lt q (4096 * ((slab_around told p).first + 2 ^ told.order))) xs) xs)) c.slab_around-slab.ensures
          ∙ slab_passed told p _ xs c.slabs.invariant.rise c.in-Some.ensures.item.3.0 c.in-Some.ensures.item.1 refl x (get_or c.slabs.taken f false)
          ∙ c.slabs.invariant.marked f less;
    }

pub slabs-smaller : goal.slabs-smaller
slabs-smaller c =
    let told = c.args.self.now in
    let xs = c.slabs.rest.now in
    let p = c.in-Some.first.now in
    let rest = c.behind-rest.ensures
    ∙ ap (λ (y : Block). drop (prefix_len (λ q. nat_lt q (4096 * (y.first + 2 ^ y.order))) xs) xs) c.slab_around-slab.ensures in
    let some = c.in-Some.ensures.item.3.0 in
    let more = goes_on told p _ xs c.slabs.invariant.rise some c.in-Some.ensures.item.1 refl in
    omega (arith, ap length rest, length-drop (prefix_len (λ q. nat_lt q (4096 * ((slab_around told p).first + 2 ^ told.order))) xs) xs, more, some)

pub returns-then-from-end : goal.returns-then-from-end
returns-then-from-end c = λ f less.
    let told = c.args.self.now in
    let x : ℕ = c.args.slot.now.first + f in
    let none = none_behind told c.in-Some.first.now _ c.slabs.rest.now c.slabs.invariant.rise c.in-Some.ensures.item.3.0 c.in-Some.ensures.item.1 refl x
    (omega (arith, less, c.if-from-end.true, c.end.ensures.value, c.from.ensures, c.first-in-Some.ensures, ap (λ (b : Block). b.first) c.slab_around-slab.ensures)) in
    sym (or-false _) ∙ ap (λ t. get_or c.slabs.taken f false || t) (sym none) ∙ c.slabs.invariant.marked f less
