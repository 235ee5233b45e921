use Rattle.std.proofs.Common.{◌≡◌, ◌*◌, ◌/◌, ◌%◌, ◌^◌, ◌≤◌, None, get_or, sym, ap, ◌∙◌, arith}
use Rattle.model_core.specs.declared.limits.TheConstants.{WIDE_ORDER}
use Rattle.model_core.specs.Numbered.{number_at}
use Rattle.model_core.proofs.BlocksByNumber.{number_of_frame, same_slot}
use Rattle.buddy_core.proofs.ContentShown.{size_is}
use Rattle.slab_core.proofs.IdleFrames.{small_size}
use Rattle.slab_core.proofs.fitting.View.is_unused_block.Goals as goal

pub past_unused-requires-clause-begins : goal.past_unused-requires-clause-begins
past_unused-requires-clause-begins c =
    let x = c.args in
    let slabs = c.requires.parts.slabs in
    let agree = c.requires.parts.agree in
    let top : c.order-order.result ≤ WIDE_ORDER = omega (arith, c.order-order.ensures, agree.order, slabs.order) in
    let k : x.k ≤ WIDE_ORDER = omega (arith, c.requires.block.aligned.0, agree.order, slabs.order) in
    let size : 1 * 2 ^ c.order-order.result % 4294967296 ≡ 2 ^ x.self.buddy.now.top =
    size_is c.order-order.result top ∙ ap (λ n. 2 ^ n) c.order-order.ensures in
    let within = c.loop-frame-test.true in
    let from = c.loop-frame.invariant.from in
    let number : number_at x.k c.loop-frame.frame ≡ number_at x.k x.first =
    number_of_frame x.first x.k c.loop-frame.frame c.requires.block.aligned.1 (from, omega (arith, size_is x.k k, small_size x.k k)) in
    let slot : c.loop-frame.frame / 2 ^ x.self.buddy.now.top ≡ x.first / 2 ^ x.self.buddy.now.top =
    same_slot x.self.buddy.now.top x.k c.loop-frame.frame x.first c.requires.block.aligned.0 number in
    ap (λ n. get_or c.orders_under-orders.result.now (c.loop-frame.frame % n) None) size
    ∙ c.orders_under-orders.ensures.orders c.loop-frame.frame (slot ∙ ap (λ n. x.first / 2 ^ n) (sym c.order-order.ensures))
