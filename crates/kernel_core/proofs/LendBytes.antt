-- The bytes that are lent in place are the bytes of the private machine. After the borrower has overwritten them, the parts
-- still agree.
use Rattle.std.proofs.Common.{◌≡◌, false, ℕ, ◌+◌, ◌%◌, ◌++◌, take, drop, slice_range, Option, Some, None, List, [], length, unwrap_or, refl, sym, ap, ◌∙◌, subst, arith}
use Rattle.std.proofs.Math.ListN.{set}
use Rattle.std.proofs.Math.Seq.{take-length}
use Rattle.std.proofs.lemmas.List.{length-append, length-drop, length-take, take-append-drop, set-get_or}
use Rattle.std.proofs.lemmas.List.Folds.{drop_split}
use Rattle.model_core.specs.Machine.{Machine}
use Rattle.model_core.specs.Reach.{in_reach}
use Rattle.space_core.specs.Content as spaces
use Rattle.space_core.specs.Windows.{home_of, bytes_under, window_of, put_within, banks_with, with_window}
use Rattle.buddy_core.specs.Content as buddies
use Rattle.slab_tables.specs.Content as tables
use Rattle.machine_changes.specs.Shows.{Agree}
use Rattle.machine_changes.specs.Pages.{IsInReach, stored}
use Rattle.machine_changes.proofs.PageReachHeld.{reach_bytes}
use Rattle.machine_changes.proofs.Lookups.{some_same}
use Rattle.kernel_core.specs.Content.{KernelContent, content_of}
use Rattle.kernel_core.specs.Shows.{ShowsMachine}
use Rattle.kernel_core.specs.Lending.{fit, bytes_in, with_left, IsLent}
use Rattle.kernel_core.proofs.CallEffects.{steady}
use Rattle.kernel_core.proofs.LentSliceLength.{fit-same}
use Rattle.kernel_core.proofs.PageCalls.{IsRequested, write_agrees, out_of_reach, within_reach}

-- writing bytes over themselves changes nothing
put_same : (ys ws : List ℕ) (i n : ℕ) → slice_range ys i (i + n) ≡ ws → length ws ≡ n → put_within ys i ws ≡ ys
put_same ys ws i n is long =
    ap (λ j. take (length ys) (take i ys ++ (ws ++ drop (i + j) ys))) long
    ∙ (ap (λ xs. take (length ys) (take i ys ++ (xs ++ drop (i + n) ys))) (sym is)
    ∙ (ap (λ xs. take (length ys) (take i ys ++ xs)) (sym (drop_split ys i (i + n) (omega arith)))
    ∙ (ap (take (length ys)) (take-append-drop i ys) ∙ take-length ys)))

window_same : (r : spaces.Content) (t place len : ℕ) (ws : List ℕ) → window_of r t place len ≡ Some ws → length ws ≡ len → with_window r t place len ws ≡ r
window_same r t place len ws is long = ap (λ banks. record r { banks = banks }) (go (home_of r t place len) is)
  where
    go : (o : Option ℕ) → bytes_under r.banks (place % r.unit) len o ≡ Some ws → banks_with r.banks (place % r.unit) ws o ≡ r.banks
    go None is = refl
    go (Some m) is =
        ap (λ bank. set r.banks m bank) (put_same (spaces.bank r.banks m) ws (place % r.unit) len (some_same is) long) ∙ set-get_or r.banks m []

pub length-fit : (xs ws : List ℕ) → length (fit xs ws) ≡ length xs
length-fit xs ws =
    length-take (length xs) (ws ++ drop (length ws) xs) ∙ omega (arith, length-append ws (drop (length ws) xs), length-drop (length ws) xs)

-- if xs has the window's length, writing `fit xs ws` to the window gives the same memory as storing these bytes from the
-- place on
pub window_fitted : (r : spaces.Content) (t place len : ℕ) (xs ws : List ℕ) → length xs ≡ len → with_window r t place len (fit xs ws) ≡ stored t place (fit xs ws) r
window_fitted r t place len xs ws long = ap (λ n. with_window r t place n (fit xs ws)) (sym (length-fit xs ws ∙ long))

module _ (r : spaces.Content) (b : buddies.Content) (s : tables.Content) (t place len : ℕ) (xs : List ℕ) (asked : IsRequested r b s t)
    (reach : IsInReach r b s t place len) (is : window_of r t place len ≡ Some xs) where
  long : length xs ≡ len
  long = (asked.together.space.own_bytes.read t place len xs is).count

  range_is : bytes_in r t place len ≡ xs
  range_is = ap (λ o. unwrap_or o []) is

  range_long : length (bytes_in r t place len) ≡ len
  range_long = ap length range_is ∙ long

  pub lent_agrees : (ws : List ℕ) → Agree (with_window r t place len (fit (bytes_in r t place len) ws)) b s
  lent_agrees ws =
      let new = fit (bytes_in r t place len) ws in
      subst (λ x. Agree x b s) (sym (window_fitted r t place len (bytes_in r t place len) ws range_long))
      (write_agrees r b s t place new asked (subst (IsInReach r b s t place) (sym (length-fit (bytes_in r t place len) ws ∙ range_long)) reach)).agree

  pub lent_left : (ws : List ℕ) → content_of (with_window r t place len (fit (bytes_in r t place len) ws)) b s ≡ with_left (content_of r b s) t place len ws
  lent_left ws = ap (λ x. content_of x b s) (window_fitted r t place len (bytes_in r t place len) ws range_long)

  pub lent_is : IsLent (content_of r b s) t place len xs
  lent_is = record {
    count = long;
    reach = reach;
    own = λ m shown. record {
      reach = within_reach r b s t place (length xs) asked m shown (subst (IsInReach r b s t place) (sym long) reach);
      each = λ i less.
          reach_bytes r b s t place len m (steady r b s t asked.together asked.tenant) shown reach (place + i) (omega arith) (omega (arith, long))
          ∙ (asked.together.space.own_bytes.read t place len xs is).each i (omega (arith, long));
    };
    left = λ ws same. ap (λ ys. content_of (stored t place ys r) b s) (ap (λ ys. fit ys ws) range_is ∙ fit-same xs ws (same ∙ sym long));
    kept =
        ap (λ ys. content_of (stored t place (fit ys xs) r) b s) range_is
        ∙ (ap (λ ys. content_of (stored t place ys r) b s) (fit-same xs xs refl)
        ∙ ap (λ x. content_of x b s) (ap (λ n. with_window r t place n xs) long ∙ window_same r t place len xs is long));
  }

-- if a range is not in reach in the parts, it is not in reach in the machine
pub lend_beyond : (k : KernelContent) (t place len : ℕ) → IsRequested k.space k.buddy k.slabs t → (IsInReach k.space k.buddy k.slabs t place len → ⊥)
    → (m : Machine) → ShowsMachine k t m → in_reach m place len ≡ false
lend_beyond k t place len asked beyond m shown = out_of_reach k.space k.buddy k.slabs t place len asked m shown beyond
