use Rattle.std.proofs.Common.{ℕ, ◌++◌, List, length, drop, subst, sym, arith, rules}
use Rattle.std.specs.Prelude.{replicate}
use Rattle.layout_core.specs.Inside.{IsHeld}
use Rattle.layout_core.proofs.PatternBytes.{is_held}
use Rattle.layout_core.proofs.pattern.Pattern.new.Goals as goal

pub invariant_of-result : goal.invariant_of-result
invariant_of-result c =
    let xs = c.args.bytes.now in
    subst (λ (ys : List ℕ). IsHeld (ys ++ drop (length xs) (replicate 16 0)) (length xs)) (sym c.copy_from_slice.ensures.after) (is_held xs (search rules) (omega arith))
