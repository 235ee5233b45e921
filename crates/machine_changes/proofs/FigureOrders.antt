-- The number of frames in blocks, added up order by order.
use Rattle.std.proofs.Common.{◌≡◌, ℕ, zero, suc, ◌+◌, ◌*◌, ◌^◌, ◌<◌, ◌≤◌, eqb, Option, Some, None, List, [], ◌∷◌, get_or, refl, sym, ap, ap₂, ◌∙◌, ⊎_elim, add-one, arith}
use Rattle.std.specs.List.{sum_by, count_by}
use Rattle.std.proofs.Math.Nat.{add-mul, zero-mul}
use Rattle.std.proofs.lemmas.Bool.{cases_eq, cases_lt, eq-eqb, ne_eqb}
use Rattle.std.proofs.lemmas.List.Sums.{sum_by-cons}
use Rattle.model_core.specs.Blocks.{Block}
use Rattle.model_core.specs.CacheOperations.{frames_of}
use Rattle.model_core.proofs.CountBelow.{bit}
use Rattle.buddy_core.specs.Content.{has_order}
use Rattle.machine_changes.specs.Figures.{frames_in}

-- if the blocks of order n are also counted, `count n * 2 ^ n` frames are added
pub frames_more : (count : ℕ → ℕ) (n : ℕ) → frames_in count (n + 1) ≡ frames_in count n + count n * 2 ^ n
frames_more count n = ap (frames_in count) (add-one n)

-- if n ≤ k, the blocks of orders below k have at least as many frames as the blocks of orders below n
pub frames_rise : (count : ℕ → ℕ) (n k : ℕ) → n ≤ k → frames_in count n ≤ frames_in count k
frames_rise count n zero le = let same : n ≡ 0 = omega arith in let e = ap (frames_in count) same in omega arith
frames_rise count n (suc k) le = ⊎_elim
    (λ (less : n < suc k). let before : frames_in count n ≤ frames_in count k = frames_rise count n k (omega arith) in omega arith)
    (λ above. let same : n ≡ suc k = omega arith in let e = ap (frames_in count) same in omega arith)
    (cases_lt n (suc k))

pub frames_same : (count other : ℕ → ℕ) (n : ℕ) → ((k : ℕ) → count k ≡ other k) → frames_in count n ≡ frames_in other n
frames_same count other n same = ap (λ c. frames_in c n) (λ i k. same k i)

frames_none : (count : ℕ → ℕ) (n : ℕ) → ((k : ℕ) → k < n → count k ≡ 0) → frames_in count n ≡ 0
frames_none count zero none = refl
frames_none count (suc n) none =
    let before : frames_in count n ≡ 0 = frames_none count n (λ k less. none k (omega arith)) in
    let last : count n * 2 ^ n ≡ 0 = ap (λ c. c * 2 ^ n) (none n (omega arith)) ∙ zero-mul (2 ^ n) in
    omega arith

frames_both : (count other : ℕ → ℕ) (n : ℕ) → frames_in (λ k. count k + other k) n ≡ frames_in count n + frames_in other n
frames_both count other zero = refl
frames_both count other (suc n) =
    let before = frames_both count other n in
    let last = add-mul (count n) (other n) (2 ^ n) in
    omega arith

-- one block of order j has 2 ^ j frames
frames_one : (j n : ℕ) → j < n → frames_in (λ k. bit (eqb j k)) n ≡ 2 ^ j
frames_one j zero less = absurd (omega arith)
frames_one j (suc n) less = ⊎_elim here (elsewhere (frames_one j n)) (cases_eq j n)
  where
    here : j ≡ n → frames_in (λ k. bit (eqb j k)) n + bit (eqb j n) * 2 ^ n ≡ 2 ^ j
    here same =
        let before : frames_in (λ k. bit (eqb j k)) n ≡ 0 =
        frames_none (λ k. bit (eqb j k)) n (λ k below. ap bit (ne_eqb j k (λ e. absurd (omega arith)))) in
        let last : bit (eqb j n) * 2 ^ n ≡ 1 * 2 ^ n = ap (λ v. bit v * 2 ^ n) (eq-eqb j n same) in
        let power : 2 ^ j ≡ 2 ^ n = ap (λ k. 2 ^ k) same in
        omega arith

    elsewhere : (j < n → frames_in (λ k. bit (eqb j k)) n ≡ 2 ^ j) → (j ≡ n → ⊥) → frames_in (λ k. bit (eqb j k)) n + bit (eqb j n) * 2 ^ n ≡ 2 ^ j
    elsewhere rest differ =
        let before : frames_in (λ k. bit (eqb j k)) n ≡ 2 ^ j = rest (omega arith) in
        let last : bit (eqb j n) * 2 ^ n ≡ 0 = ap (λ v. bit v * 2 ^ n) (ne_eqb j n differ) ∙ zero-mul (2 ^ n) in
        omega arith

-- the number of frames of an entry's block, or 0 if the entry is None
abbrev pub size : Option ℕ → ℕ
size None = 0
size (Some k) = 2 ^ k

size_by_order : (o : Option ℕ) (n : ℕ) → ((k : ℕ) → o ≡ Some k → k < n) → size o ≡ frames_in (λ k. bit (has_order k o)) n
size_by_order None n below = sym (frames_none (λ k. 0) n (λ k less. refl))
size_by_order (Some j) n below = sym (frames_one j n (below j refl))

-- if every order in the table is below n, adding up the frames entry by entry gives the same number as order by order
pub sizes_by_order : (table : List (Option ℕ)) (n : ℕ) → ((f k : ℕ) → get_or table f None ≡ Some k → k < n)
    → sum_by size table ≡ frames_in (λ k. count_by (has_order k) table) n
sizes_by_order [] n below = sym (frames_none (λ k. count_by (has_order k) []) n (λ k less. refl))
sizes_by_order (o ∷ table) n below =
    let here : size o ≡ frames_in (λ k. bit (has_order k o)) n = size_by_order o n (below 0) in
    let rest : sum_by size table ≡ frames_in (λ k. count_by (has_order k) table) n = sizes_by_order table n (λ f. below (suc f)) in
    let both = frames_both (λ k. bit (has_order k o)) (λ k. count_by (has_order k) table) n in
    let counts : frames_in (λ k. count_by (has_order k) (o ∷ table)) n ≡ frames_in (λ k. bit (has_order k o) + count_by (has_order k) table) n =
    frames_same (λ k. count_by (has_order k) (o ∷ table)) (λ k. bit (has_order k o) + count_by (has_order k) table) n
    (λ k. sum_by-cons (λ x. bit (has_order k x)) o table) in
    sum_by-cons size o table ∙ ap₂ (λ a c. a + c) here rest ∙ sym both ∙ sym counts

pub frames_sum : (bs : List Block) → frames_of bs ≡ sum_by (λ z. 2 ^ z.order) bs
frames_sum [] = refl
frames_sum (z ∷ bs) = ap (λ n. 2 ^ z.order + n) (frames_sum bs) ∙ sym (sum_by-cons (λ z. 2 ^ z.order) z bs)
