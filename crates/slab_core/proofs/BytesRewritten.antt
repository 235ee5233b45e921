-- Writing bytes over themselves changes nothing.
use Rattle.std.proofs.Common.{◌≡◌, ℕ, ◌+◌, ◌%◌, ◌++◌, take, drop, slice_range, Option, Some, None, List, [], length, refl, sym, ap, ◌∙◌, arith}
use Rattle.std.proofs.Math.ListN.{set}
use Rattle.std.proofs.Math.Seq.{take-length}
use Rattle.std.proofs.lemmas.List.{take-append-drop, set-get_or}
use Rattle.std.proofs.lemmas.List.Folds.{drop_split}
use Rattle.space_core.specs.Content as spaces
use Rattle.space_core.specs.Windows.{home_of, bytes_under, window_of, put_within, banks_with, with_window}
use Rattle.machine_changes.proofs.Lookups.{some_same}

put_same : (ys ws : List ℕ) (i n : ℕ) → slice_range ys i (i + n) ≡ ws → length ws ≡ n → put_within ys i ws ≡ ys
put_same ys ws i n is long =
    ap (λ j. take (length ys) (take i ys ++ (ws ++ drop (i + j) ys))) long
    ∙ (ap (λ xs. take (length ys) (take i ys ++ (xs ++ drop (i + n) ys))) (sym is)
    ∙ (ap (λ xs. take (length ys) (take i ys ++ xs)) (sym (drop_split ys i (i + n) (omega arith)))
    ∙ (ap (take (length ys)) (take-append-drop i ys) ∙ take-length ys)))

pub window_same : (r : spaces.Content) (t place len : ℕ) (ws : List ℕ) → window_of r t place len ≡ Some ws → length ws ≡ len → with_window r t place len ws ≡ r
window_same r t place len ws is long = ap (λ banks. record r { banks = banks }) (go (home_of r t place len) is)
  where
    go : (o : Option ℕ) → bytes_under r.banks (place % r.unit) len o ≡ Some ws → banks_with r.banks (place % r.unit) ws o ≡ r.banks
    go None is = refl
    go (Some m) is =
        ap (λ bank. set r.banks m bank) (put_same (spaces.bank r.banks m) ws (place % r.unit) len (some_same is) long) ∙ set-get_or r.banks m []
