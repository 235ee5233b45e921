-- `IsSpace` stays true if any other bytes, `unit` in number, replace those of a superblock that has an owner.
use Rattle.std.proofs.Common.{◌≡◌, ◌≢◌, ℕ, ◌+◌, ◌<◌, ◌≤◌, List, [], ◌++◌, length, get_or, take, drop, replicate, None, sym, ◌∙◌, ap, subst, inl, inr, arith}
use Rattle.std.proofs.lemmas.List.{get_or-set_same, get_or-set_other, length-set, length-take-le, length-append, length-drop, drop-drop, take-append-le}
use Rattle.std.proofs.lemmas.Bool.{cases_eq}
use Rattle.std.proofs.Math.ListN.{set}
use Rattle.std.specs.Vec.{with_items_from}
use Rattle.std.specs.Global.{Vec}
use Rattle.space_core.specs.Content.{Content, IsSpace, owner_at}
use Rattle.space_core.specs.Windows.{put_within}

-- Let x be written at index i of a list. If k is i and x satisfies P, or k is not i and the old entry k satisfies P, then the new
-- entry k satisfies P.
pub after-set : {A : Type 0} (P : A → Type 0) (xs : List A) (i : ℕ) (x : A) (k : ℕ) (d : A) → i < length xs → (k ≡ i → P x) → (k ≢ i → P (get_or xs k d)) → P (get_or (set xs i x) k d)
after-set P xs i x k d within here other =
    elim (cases_eq k i) [
      | inl same ↦ subst (λ n. P (get_or (set xs i x) n d)) (sym same) (subst P (sym (get_or-set_same xs i x d within)) (here same))
      | inr differ ↦ subst P (sym (get_or-set_other xs i k x d differ)) (other differ)
    ]

abbrev pub with_bank : Content → ℕ → List ℕ → Content
with_bank s m bytes = record s { banks = set s.banks m bytes }

abbrev pub with_banks : Content → List (List ℕ) → Content
with_banks s banks = record s { banks = banks }

-- if superblock m has an owner and gets other bytes, `unit` in number, `IsSpace` stays true
pub with_bank-IsSpace : {s : Content} → IsSpace s → (m : ℕ) → owner_at s.owners m ≢ None → m < length s.owners → (bytes : List ℕ) → length bytes ≡ s.unit → IsSpace (with_bank s m bytes)
with_bank-IsSpace {s} facts m owned within bytes size = record {
  some = facts.some;
  small = facts.small;
  few = facts.few;
  bytes = facts.bytes;
  tenants = facts.tenants;
  paired = length-set s.banks m bytes ∙ facts.paired;
  flagged = facts.flagged;
  rows = facts.rows;
  sized = λ n lt. after-set (λ (xs : List ℕ). length xs ≡ s.unit) s.banks m bytes n [] (omega (arith, facts.paired)) (λ _. size) (λ _. facts.sized n (omega (arith, length-set s.banks m bytes)));
  agree = facts.agree;
  counted = facts.counted;
  spare = λ n lt none unmarked. after-set (λ (xs : List ℕ). xs ≡ replicate s.unit 0) s.banks m bytes n [] (omega (arith, facts.paired)) (λ same. absurd (owned (ap (owner_at s.owners) (sym same) ∙ none))) (λ _. facts.spare n (omega (arith, length-set s.banks m bytes)) none unmarked);
}

-- after w is written into a vector from index i on, the vector has the items that `put_within` gives
pub items-with_items_from : (read : Vec ℕ) (i : ℕ) (w : List ℕ) → i ≤ read.len → (with_items_from read i w).items ≡ put_within read.items i w
items-with_items_from read i w within =
    let xs = read.items in
    let all = take i xs ++ (w ++ drop (length w) (drop i xs)) in
    let joined = drop-drop (length w) i xs in
    let long : length xs ≤ length all = omega (arith, read.ok.0, length-append (take i xs) (w ++ drop (length w) (drop i xs)), length-append w (drop (length w) (drop i xs)), length-take-le i xs, length-drop (length w) (drop i xs), length-drop i xs) in
    ap (λ n. take n (all ++ drop (length all) xs)) read.ok.0 ∙ (take-append-le (length xs) all (drop (length all) xs) long ∙ ap (λ (rest : List ℕ). take (length xs) (take i xs ++ (w ++ rest))) joined)

pub length-put_within : (xs : List ℕ) (i : ℕ) (w : List ℕ) → i ≤ length xs → length (put_within xs i w) ≡ length xs
length-put_within xs i w within =
    length-take-le (length xs) (take i xs ++ (w ++ drop (i + length w) xs)) (omega (arith, length-append (take i xs) (w ++ drop (i + length w) xs), length-append w (drop (i + length w) xs), length-take-le i xs, length-drop (i + length w) xs))
