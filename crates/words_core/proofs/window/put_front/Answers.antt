use Rattle.std.proofs.Common.{◌≡◌, ℕ, zero, suc, ◌+◌, ◌-◌, ◌<◌, ◌≤◌, List, [], ◌∷◌, ◌++◌, take, length, slice_range, slice_set, sym, ap, ◌∙◌, arith}
use Rattle.std.proofs.lemmas.Fmt.{decimal_digit}
use Rattle.std.proofs.lemmas.List.{take-append-le}
use Rattle.words_core.proofs.window.put_front.Goals as goal

-- if a digit replaces byte 0 of the front, the first `len` bytes are the digit and then bytes 1 to `len` - 1 of the front
headed : (digit : ℕ) (front behind : List ℕ) (len : ℕ) → 0 < len → len ≤ length front
    → take len (slice_set (front ++ behind) 0 digit) ≡ digit ∷ slice_range front 1 len
headed digit [] behind len some within = absurd (omega arith)
headed digit (first ∷ front) behind zero some within = absurd (omega arith)
headed digit (first ∷ front) behind (suc n) some within =
    let left : suc n - 1 ≡ n = omega arith in
    rw left (ap (λ xs. digit ∷ xs) (take-append-le n front behind (omega arith)))

pub returns-clause-text : goal.returns-clause-text
returns-clause-text c =
    let digit = 48 + c.args.tenant in
    ap (λ xs. take c.args.len (slice_set xs 0 digit)) c.put_whole.ensures
    ∙ headed digit c.args.front.now _ c.args.len c.requires.some (omega (arith, c.requires.within, c.fits-front))
    ∙ ap (λ xs. xs ++ slice_range c.args.front.now 1 c.args.len) (sym (decimal_digit c.args.tenant (omega arith)))
