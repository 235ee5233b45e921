-- What a read of a vector of vectors returns, and what the vector shows after a write.
use Rattle.std.proofs.Common.{◌≡◌, ℕ, ◌<◌, ◌≤◌, List, [], ◌++◌, map, length, get_or, sym, ◌∙◌, ap, subst, arith}
use Rattle.std.proofs.lemmas.List.{get_or-map, map-set, length-map, length-set, get_or_append_left, get_or-append_right, set-append_left, set-append_right, with_items_is}
use Rattle.std.proofs.lemmas.List.Elements.{All-set}
use Rattle.std.proofs.Math.ListN.{set}
use Rattle.std.specs.Global.{Vec}
use Rattle.std.specs.Vec.{with_items}
use Rattle.space_core.specs.Storage.{HaveCapacity}
use Rattle.space_core.specs.Tables.{stored_rows}

abbrev pub lists_of : {X : Type 0} → List (Vec X) → List (List X)
lists_of rows = map (λ row. row.items) rows

-- the vector that is read at index i has the items of row i of `lists_of rows`
pub get_or-lists_of : {X : Type 0} (rows : List (Vec X)) (i : ℕ) (read : Vec X) → i < length rows → read ≡ get_or rows i read → get_or (lists_of rows) i [] ≡ read.items
get_or-lists_of {X} rows i read lt is = get_or-map (λ (row : Vec X). row.items) rows i read [] lt ∙ ap (λ (row : Vec X). row.items) (sym is)

-- if a row of the vectors is replaced, the items of the new row replace the same row of `lists_of rows`
pub lists_of-set : {X : Type 0} (rows : List (Vec X)) (i : ℕ) (row : Vec X) → lists_of (set rows i row) ≡ set (lists_of rows) i row.items
lists_of-set {X} rows i row = map-set (λ (r : Vec X). r.items) rows i row

pub length-lists_of : {X : Type 0} (rows : List (Vec X)) → length (lists_of rows) ≡ length rows
length-lists_of {X} rows = length-map rows (λ (r : Vec X). r.items)

-- if a list is `front` followed by `back`, reading or writing an entry of `front`, or the first entry of `back`, reads or writes
-- this entry of the list
pub front_read : {A : Type 0} (xs front back : List A) (i : ℕ) (d : A) → xs ≡ front ++ back → i < length front → get_or front i d ≡ get_or xs i d
front_read xs front back i d whole lt = sym (get_or_append_left front back d i lt) ∙ ap (λ ys. get_or ys i d) (sym whole)

pub back_read : {A : Type 0} (xs front back : List A) (i : ℕ) (d : A) → xs ≡ front ++ back → length front ≡ i → get_or back 0 d ≡ get_or xs i d
back_read xs front back i d whole size = ap (λ n. get_or back n d) (omega arith) ∙ (sym (get_or-append_right front back i i d size (omega arith)) ∙ ap (λ ys. get_or ys i d) (sym whole))

pub front_written : {A : Type 0} (xs front back : List A) (i : ℕ) (x : A) → xs ≡ front ++ back → i < length front → set front i x ++ back ≡ set xs i x
front_written xs front back i x whole lt = sym (set-append_left front back i x lt) ∙ ap (λ ys. set ys i x) (sym whole)

pub back_written : {A : Type 0} (xs front back : List A) (i : ℕ) (x : A) → xs ≡ front ++ back → length front ≡ i → front ++ set back 0 x ≡ set xs i x
back_written xs front back i x whole size = ap (λ n. front ++ set back n x) (omega arith) ∙ (sym (set-append_right front back i i x size (omega arith)) ∙ ap (λ ys. set ys i x) (sym whole))

-- if row `to` of the vectors gets the items of row `from`, the stored bytes of superblock `to` become those of superblock `from`
pub bytes_of-copied : (v : Vec (Vec ℕ)) (all : List (Vec ℕ)) (from to : ℕ) (source row : Vec ℕ) → all ≡ set v.items to row → from < length v.items → source ≡ get_or v.items from source → row.items ≡ source.items → stored_rows (with_items v all) ≡ set (stored_rows v) to (get_or (stored_rows v) from [])
bytes_of-copied v all from to source row written within read same =
    ap lists_of (with_items_is v all (ap length written ∙ omega (arith, length-set v.items to row, v.ok.0)) ∙ written)
    ∙ (lists_of-set v.items to row ∙ ap (λ (bytes : List ℕ). set (lists_of v.items) to bytes) (same ∙ sym (get_or-lists_of v.items from source within read)))

-- if every row has capacity for `unit` bytes, every row still has it after row `to` is replaced by one with no less capacity
pub HaveCapacity-written : (v : Vec (Vec ℕ)) (all : List (Vec ℕ)) (to : ℕ) (target row : Vec ℕ) → all ≡ set v.items to row → to < length v.items → target ≡ get_or v.items to target → target.cap ≤ row.cap → (unit : ℕ) → HaveCapacity unit v.items → HaveCapacity unit (with_items v all).items
HaveCapacity-written v all to target row written within read more unit capacity =
    let was : unit ≤ target.cap = subst (λ (bank : Vec ℕ). unit ≤ bank.cap) (sym read) (capacity to target within) in
    subst (HaveCapacity unit) (sym (with_items_is v all (ap length written ∙ omega (arith, length-set v.items to row, v.ok.0)) ∙ written))
    (All-set (λ (bank : Vec ℕ). unit ≤ bank.cap) v.items to row (omega arith) capacity)
