use Rattle.std.proofs.Common.{◌≡◌, ℕ, zero, suc, ◌+◌, ◌*◌, ◌^◌, ◌≤◌, List, slice_index, ap, ◌∙◌, arith}
use Rattle.frame_picture.specs.Stacks.{frames_of_orders}
use Rattle.frame_picture.proofs.stacks.free_from.Goals as goal

-- if `frames` is the number of frames in free blocks of the orders from `order` to k - 1, adding the frames in free blocks of
-- order k gives the number for the orders from `order` to k
frames_more : (free : List ℕ) (order k frames : ℕ) → order ≤ k → ((n : ℕ) → k ≡ order + n → frames ≡ frames_of_orders free order n)
    → (n : ℕ) → k + 1 ≡ order + n → frames + slice_index free k * 2 ^ k ≡ frames_of_orders free order n
frames_more free order k frames le before zero e = absurd (omega arith)
frames_more free order k frames le before (suc n) e =
    let here : k ≡ order + n = omega arith in
    ap (λ x. x + slice_index free k * 2 ^ k) (before n here)
    ∙ ap (λ j. frames_of_orders free order n + slice_index free j * 2 ^ j) here

pub loop-k-preserved : goal.loop-k-preserved
loop-k-preserved c = record {
  frames = λ n e. ap (λ x. c.loop-k.frames + x) c.frames_of_blocks-frames.ensures.value
      ∙ frames_more c.args.figures.now.free c.args.order c.loop-k.k c.loop-k.frames (omega arith) c.loop-k.invariant.frames n e;
  few = omega (arith, c.frames_of_blocks-frames.ensures.few, c.loop-k.invariant.few);
}
