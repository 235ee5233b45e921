-- The bytes that superblocks show, and how they change when stored bytes are written.
use Rattle.std.proofs.Common.{◌≡◌, ◌≢◌, ℕ, ◌<◌, ◌≤◌, zero, suc, List, [], ◌∷◌, length, get_or, replicate, sym, ◌∙◌, ap, subst, inl, inr, refl, arith}
use Rattle.std.proofs.lemmas.List.{get_or-map, map-set, length-map, get_or_past, set_past, set-get_or, length-replicate, length-set, get_or-set_same}
use Rattle.std.proofs.lemmas.Bool.{cases_lt}
use Rattle.std.proofs.Math.ListN.{set}
use Rattle.std.specs.Global.{Vec}
use Rattle.space_core.specs.Content.{Content, IsSpace}
use Rattle.space_core.specs.Storage.{or_zeros, shown_banks}
use Rattle.space_core.proofs.TableLemmas.{lists_of, get_or-lists_of}

pub or_zeros-full : (unit : ℕ) (bytes : List ℕ) → bytes ≢ [] → or_zeros unit bytes ≡ bytes
or_zeros-full unit [] full = absurd (full refl)
or_zeros-full unit (x ∷ xs) full = refl

pub or_zeros-zeros : (unit : ℕ) → or_zeros unit (replicate unit 0) ≡ replicate unit 0
or_zeros-zeros unit = go (replicate unit 0) refl
  where
    go : (bytes : List ℕ) → bytes ≡ replicate unit 0 → or_zeros unit bytes ≡ bytes
    go [] e = sym e
    go (x ∷ xs) e = refl

pub or_zeros-twice : (unit : ℕ) (bytes : List ℕ) → or_zeros unit (or_zeros unit bytes) ≡ or_zeros unit bytes
or_zeros-twice unit [] = or_zeros-zeros unit
or_zeros-twice unit (x ∷ xs) = refl

pub length-or_zeros : (unit : ℕ) (bytes : List ℕ) → 0 < unit → 0 < length (or_zeros unit bytes)
length-or_zeros unit [] some = omega (arith, length-replicate {A = ℕ} unit 0)
length-or_zeros unit (x ∷ xs) some = omega arith

-- a list with a length above 0 is not empty
pub full-from_length : (bytes : List ℕ) → 0 < length bytes → bytes ≢ []
full-from_length [] lt = absurd (omega arith)
full-from_length (x ∷ xs) lt = λ e. cc

pub length-full : (bytes : List ℕ) → bytes ≢ [] → 0 < length bytes
length-full [] full = absurd (full refl)
length-full (x ∷ xs) full = omega arith

pub set-full : (bytes : List ℕ) (i byte : ℕ) → bytes ≢ [] → set bytes i byte ≢ []
set-full bytes i byte full = full-from_length (set bytes i byte) (omega (arith, length-full bytes full, length-set bytes i byte))

pub length-shown : (unit : ℕ) (stored : List (List ℕ)) → length (shown_banks unit stored) ≡ length stored
length-shown unit stored = length-map stored (or_zeros unit)

pub shown-set : (unit : ℕ) (stored : List (List ℕ)) (m : ℕ) (bytes : List ℕ) → shown_banks unit (set stored m bytes) ≡ set (shown_banks unit stored) m (or_zeros unit bytes)
shown-set unit stored m bytes = map-set (or_zeros unit) stored m bytes

pub bank-shown : (unit : ℕ) (stored : List (List ℕ)) (m : ℕ) → m < length stored → get_or (shown_banks unit stored) m [] ≡ or_zeros unit (get_or stored m [])
bank-shown unit stored m lt = get_or-map (or_zeros unit) stored m [] [] lt

-- superblocks without stored bytes are shown as zero
pub shown-none : (unit n : ℕ) → shown_banks unit (replicate n []) ≡ replicate n (replicate unit 0)
shown-none unit zero = refl
shown-none unit (suc n) = ap (λ (banks : List (List ℕ)). replicate unit 0 ∷ banks) (shown-none unit n)

-- a superblock that has stored bytes shows them
pub bank-shown_full : (unit : ℕ) (stored : List (List ℕ)) (m : ℕ) → get_or stored m [] ≢ [] → get_or (shown_banks unit stored) m [] ≡ get_or stored m []
bank-shown_full unit stored m full =
    elim (cases_lt m (length stored)) [
      | inl lt ↦ bank-shown unit stored m lt ∙ or_zeros-full unit (get_or stored m []) full
      | inr past ↦ absurd (full (get_or_past stored m [] past))
    ]

-- after the zeros of superblock m are written out, each superblock shows the bytes that it showed before
pub shown-written_out : (unit : ℕ) (stored : List (List ℕ)) (m : ℕ) → shown_banks unit (set stored m (or_zeros unit (get_or stored m []))) ≡ shown_banks unit stored
shown-written_out unit stored m = elim (cases_lt m (length stored)) [
  | inl lt ↦
      shown-set unit stored m (or_zeros unit (get_or stored m []))
      ∙ (ap (set (shown_banks unit stored) m) (or_zeros-twice unit (get_or stored m []) ∙ sym (bank-shown unit stored m lt)) ∙ set-get_or (shown_banks unit stored) m [])
  | inr past ↦ ap (shown_banks unit) (set_past stored m (or_zeros unit (get_or stored m [])) past)
]

-- superblock m has stored bytes after its zeros are written out
pub written_out-full : (unit : ℕ) (stored : List (List ℕ)) (m : ℕ) → 0 < unit → m < length stored → get_or (set stored m (or_zeros unit (get_or stored m []))) m [] ≢ []
written_out-full unit stored m some lt =
    full-from_length (get_or (set stored m (or_zeros unit (get_or stored m []))) m [])
    (omega (arith, ap length (get_or-set_same stored m (or_zeros unit (get_or stored m [])) [] lt), length-or_zeros unit (get_or stored m []) some))

-- superblock m has stored bytes, and all superblocks show the bytes that they have in s
pub record IsStored (s : Content) (stored : List (List ℕ)) (m : ℕ) : Type 0 where
  pub whole : shown_banks s.unit stored ≡ s.banks
  pub full : get_or stored m [] ≢ []

pub stored_out : {s : Content} → IsSpace s → (before stored : List (List ℕ)) (m : ℕ) → s.banks ≡ shown_banks s.unit before → stored ≡ set before m (or_zeros s.unit (get_or before m [])) → m < length s.owners
    → IsStored s stored m
stored_out {s} facts before stored m same written within = record {
  whole = ap (shown_banks s.unit) written ∙ (shown-written_out s.unit before m ∙ sym same);
  full = subst (λ (xs : List (List ℕ)). get_or xs m [] ≢ []) (sym written) (written_out-full s.unit before m facts.some (omega (arith, facts.paired, ap length same, length-shown s.unit before)));
}

-- if superblock m has stored bytes and one of them is overwritten, the superblock shows the new byte
pub shown-set_byte : (unit : ℕ) (stored : List (List ℕ)) (m i byte : ℕ) → get_or stored m [] ≢ [] → shown_banks unit (set stored m (set (get_or stored m []) i byte)) ≡ set (shown_banks unit stored) m (set (get_or (shown_banks unit stored) m []) i byte)
shown-set_byte unit stored m i byte full =
    let bytes = get_or stored m [] in
    shown-set unit stored m (set bytes i byte)
    ∙ (ap (λ xs. set (shown_banks unit stored) m xs) (or_zeros-full unit (set bytes i byte) (set-full bytes i byte full)) ∙ ap (λ xs. set (shown_banks unit stored) m (set xs i byte)) (sym (bank-shown_full unit stored m full)))

-- if superblock m has stored bytes, it shows the items of the vector that is read at index m
pub shown-read : (unit : ℕ) (banks : List (Vec ℕ)) (m : ℕ) (read : Vec ℕ) → m < length banks → read ≡ get_or banks m read → get_or (lists_of banks) m [] ≢ [] → get_or (shown_banks unit (lists_of banks)) m [] ≡ read.items
shown-read unit banks m read lt is full = bank-shown_full unit (lists_of banks) m full ∙ get_or-lists_of banks m read lt is

-- a vector with the bytes of superblock m has `unit` items
pub length-shown_read : {s : Content} → IsSpace s → (banks : List (Vec ℕ)) → s.banks ≡ shown_banks s.unit (lists_of banks) → (m : ℕ) (read : Vec ℕ) → m < length s.owners → get_or s.banks m [] ≡ read.items → length read.items ≡ s.unit
length-shown_read {s} facts banks same m read lt here = ap length (sym here) ∙ facts.sized m (omega (arith, facts.paired))

-- if superblock `to` gets the stored bytes of superblock `from`, it shows the bytes that `from` shows
pub shown-copied : (unit : ℕ) (stored : List (List ℕ)) (from to : ℕ) → from < length stored → shown_banks unit (set stored to (get_or stored from [])) ≡ set (shown_banks unit stored) to (get_or (shown_banks unit stored) from [])
shown-copied unit stored from to lt =
    shown-set unit stored to (get_or stored from []) ∙ ap (λ bytes. set (shown_banks unit stored) to bytes) (sym (bank-shown unit stored from lt))

-- a superblock has at most as many stored bytes as it shows
pub stored-short : (unit : ℕ) (stored : List (List ℕ)) (m : ℕ) → m < length stored → length (get_or stored m []) ≤ length (get_or (shown_banks unit stored) m [])
stored-short unit stored m lt = subst (λ (bytes : List ℕ). length (get_or stored m []) ≤ length bytes) (sym (bank-shown unit stored m lt)) (go (get_or stored m []))
  where
    go : (bytes : List ℕ) → length bytes ≤ length (or_zeros unit bytes)
    go [] = omega arith
    go (x ∷ xs) = omega arith
