-- The 16 bytes that hold a pattern.
use Rattle.std.proofs.Common.{◌≡◌, ℕ, ◌+◌, ◌-◌, ◌<◌, ◌≤◌, ◌++◌, List, length, take, drop, arith, ap, sym, ◌∙◌}
use Rattle.std.specs.Prelude.{replicate}
use Rattle.std.proofs.lemmas.List.{take-replicate, drop-replicate}
use Rattle.std.proofs.Math.Seq.{take-append_seam, take-append-add}
use Rattle.layout_core.specs.Inside.{IsHeld}

-- any 1 to 16 bytes, padded with zeros to 16 bytes, are valid fields of a `Pattern`
pub is_held : (xs : List ℕ) → 0 < length xs → length xs ≤ 16 → IsHeld (xs ++ drop (length xs) (replicate 16 0)) (length xs)
is_held xs some few =
    let n = length xs in
    let zeroes : drop n (replicate 16 0) ≡ replicate (16 - n) 0 = drop-replicate n 16 0 in
    let front = take-append_seam xs (drop n (replicate 16 0)) in
    let e : 16 ≡ n + (16 - n) = omega arith in
    let whole : take 16 (xs ++ replicate 16 0) ≡ xs ++ take (16 - n) (replicate 16 0) =
    ap (λ k. take k (xs ++ replicate 16 0)) e ∙ take-append-add xs (replicate 16 0) (16 - n) in
    record {
      some = some;
      few = few;
      padding = ap (λ ys. take 16 (ys ++ replicate 16 0)) front ∙ whole ∙ ap (λ ys. xs ++ ys) (take-replicate (16 - n) 16 0 (omega arith) ∙ sym zeroes);
      taken = ap length front;
    }
