-- How a slice is filled with repeated bytes: each step copies the filled part to the bytes after it.
use Rattle.std.proofs.Common.{◌≡◌, ℕ, ◌+◌, ◌-◌, ◌*◌, ◌/◌, ◌%◌, ◌<◌, ◌≤◌, ◌++◌, List, length, take, drop, arith, ap, sym, ◌∙◌, inl, inr}
use Rattle.std.specs.Prelude.{slice_index}
use Rattle.std.proofs.lemmas.Bool.{cases_lt}
use Rattle.std.proofs.lemmas.List.{get_or_append_left, get_or-append_right, get_or-take, length-take-le}
use Rattle.std.proofs.lemmas.Nat.{div-add-mod'}
use Rattle.std.proofs.Math.Nat.{add-mul-mod_self_right}

-- adding whole periods does not change the remainder
pub round : (done period i : ℕ) → done % period ≡ 0 → (done + i) % period ≡ i % period
round done period i whole =
    let split = div-add-mod' done period in
    let e : done + i ≡ i + done / period * period = omega arith in
    ap (λ n. n % period) e ∙ add-mul-mod_self_right i (done / period) period

pub twice : (done period : ℕ) → done % period ≡ 0 → done * 2 % period ≡ 0
twice done period whole =
    let e : done * 2 ≡ done + done = omega arith in
    ap (λ n. n % period) e ∙ round done period done whole ∙ whole

-- if the filled part repeats the first `period` old bytes, the part that is filled after one more copy repeats them too
pub copied_on : (old front rest : List ℕ) (more done period : ℕ) → length front ≡ done → more ≤ done → ((i : ℕ) → i < done → i < length rest → i < more)
    → done % period ≡ 0 → ((j : ℕ) → j < done → slice_index front j ≡ slice_index old (j % period))
    → (j : ℕ) → j < done * 2 → j < done + length rest → slice_index (front ++ (take more front ++ drop more rest)) j ≡ slice_index old (j % period)
copied_on old front rest more done period size few reach whole before j twice below = elim (cases_lt j done) [
  | inl lt ↦ get_or_append_left front (take more front ++ drop more rest) 0 j (omega arith) ∙ before j lt
  | inr ge ↦
      let i : ℕ = j - done in
      let at : done + i ≡ j = omega arith in
      let here : i < more = reach i (omega arith) (omega arith) in
      let long : length (take more front) ≡ more = length-take-le more front (omega arith) in
      get_or-append_right front (take more front ++ drop more rest) done j 0 size ge
      ∙ get_or_append_left (take more front) (drop more rest) 0 i (omega arith)
      ∙ get_or-take more front i 0 here
      ∙ before i (omega arith)
      ∙ ap (slice_index old) (sym (round done period i whole) ∙ ap (λ n. n % period) at)
]
