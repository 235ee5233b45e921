-- The change that a reply makes is a step at each place of a range.
use Rattle.std.proofs.Common.{◌≡◌, ℕ, ◌+◌, ◌-◌, ◌*◌, ◌^◌, ◌<◌, ◌≤◌, Bool, true, false, not, leb, ltb, List, length, get_or, min, max, Option, Some, None, option_map, inl, inr, refl, sym, ap, ◌∙◌, subst, arith}
use Rattle.std.specs.Prelude.{if◌then◌else◌, ◌&&◌, ◌||◌, ◌==◌, nat_le, nat_lt, slice_index}
use Rattle.std.specs.Option.{option_and_then}
use Rattle.std.proofs.Math.Bool.{and-true, or-true}
use Rattle.std.proofs.lemmas.Bool.Decides.{nat_tests}
use Rattle.std.proofs.lemmas.Bool.{eqb-true, false≢true, and_parts, le-leb, lt-ltb, leb-true, ltb-true, cases_lt}
use Rattle.model_core.specs.Blocks.{Block}
use Rattle.model_core.specs.Machine.{in_block}
use Rattle.promise_core.specs.Bytes.{Holder, Cell, Cells, is_object, is_same, doubted, without, with_bytes}
use Rattle.promise_core.specs.Holdings.{KnownCache, slab_around, are_apart}
use Rattle.promise_core.specs.State.{with_object}
use Rattle.shadow_memory.specs.Left.{Left, left_slots, has_place, Becomes, left_at}
use Rattle.shadow_memory.specs.Inside.{StaysNear, IsNear, IsHolderNear, AreSlots, AreStepped, within, doubted_of, removed_of}
use Rattle.shadow_memory.proofs.StepsByPlace.{becomes}
use Rattle.shadow_memory.proofs.Places.{in_frames, in_all}

pub near_doubted : (test : Holder → Bool) → StaysNear (doubted_of test)
near_doubted test reach place None near = tt
near_doubted test reach place (Some cell) near = near

pub near_removed : (test : Holder → Bool) → StaysNear (removed_of test)
near_removed test reach place None near = tt
near_removed test reach place (Some cell) near = go (test cell.holder)
  where
    go : (b : Bool) → IsNear reach place (if b then None else Some cell)
    go true = tt
    go false = near

-- if nothing was left at a place, nothing comes into doubt there and nothing is forgotten
pub doubted_none : (test : ℕ → Holder → Bool) (place : ℕ) (cells : Cells) → cells place ≡ None → doubted test cells place ≡ None
doubted_none test place cells none =
    ap (option_map (λ (cell : Cell). record cell { sure = cell.sure && not (test place cell.holder) })) none

pub without_none : (test : ℕ → Holder → Bool) (place : ℕ) (cells : Cells) → cells place ≡ None → without test cells place ≡ None
without_none test place cells none = ap (option_and_then (λ (cell : Cell). if test place cell.holder then None else Some cell)) none

pub object_none : (first : ℕ) (c : KnownCache) (place : ℕ) (cells : Cells) → cells place ≡ None → with_object first (Some c) cells place ≡ None
object_none first c = without_none (λ place holder. in_block place (slab_around c first)
    && not (is_object (λ n p. n == c.number && (p == first || are_apart c first p)) holder))

doubted_part : (b : Bool) (test : Holder → Bool) (place : ℕ) (x : Option Cell)
    → (if b then doubted_of test place x else x) ≡ option_map (λ (cell : Cell). record cell { sure = cell.sure && not (b && test cell.holder) }) x
doubted_part true test place x = refl
doubted_part false test place None = refl
doubted_part false test place (Some cell) = ap (λ (sure : Bool). Some (record cell { sure = sure })) (sym (and-true cell.sure))

removed_part : (b : Bool) (test : Holder → Bool) (place : ℕ) (x : Option Cell)
    → (if b then removed_of test place x else x) ≡ option_and_then (λ (cell : Cell). if b && test cell.holder then None else Some cell) x
removed_part true test place x = refl
removed_part false test place None = refl
removed_part false test place (Some cell) = refl

-- The step `doubted_of test`, limited to the places of a block, puts in doubt exactly the block's bytes whose holder passes the
-- test. The step `removed_of test`, limited in the same way, forgets exactly these bytes.
pub doubted_in : (b : Block) (begin end : ℕ) → begin ≡ 4096 * b.first → end ≡ 4096 * (b.first + 2 ^ b.order)
    → (test : Holder → Bool) (place : ℕ) (cells : Cells)
    → within begin end (doubted_of test) place (cells place) ≡ doubted (λ place holder. in_block place b && test holder) cells place
doubted_in b begin end is_begin is_end test place cells =
    ap (λ (t : Bool). if t then doubted_of test place (cells place) else cells place)
    (ap (λ (n : ℕ). nat_le n place && nat_lt place end) is_begin ∙ (ap (λ (n : ℕ). nat_le (4096 * b.first) place && nat_lt place n) is_end ∙ in_frames b place))
    ∙ doubted_part (in_block place b) test place (cells place)

pub removed_in : (b : Block) (begin end : ℕ) → begin ≡ 4096 * b.first → end ≡ 4096 * (b.first + 2 ^ b.order)
    → (test : Holder → Bool) (place : ℕ) (cells : Cells)
    → within begin end (removed_of test) place (cells place) ≡ without (λ place holder. in_block place b && test holder) cells place
removed_in b begin end is_begin is_end test place cells =
    ap (λ (t : Bool). if t then removed_of test place (cells place) else cells place)
    (ap (λ (n : ℕ). nat_le n place && nat_lt place end) is_begin ∙ (ap (λ (n : ℕ). nat_le (4096 * b.first) place && nat_lt place n) is_end ∙ in_frames b place))
    ∙ removed_part (in_block place b) test place (cells place)

-- at a place below 2 ^ 32, forgetting within the range from 0 to 2 ^ 32 does the same as forgetting without a range
pub removed_all : (test : Holder → Bool) (place : ℕ) (cells : Cells) → place < 2 ^ 32
    → within 0 (2 ^ 32) (removed_of test) place (cells place) ≡ without (λ place. test) cells place
removed_all test place cells lt = ap (λ (t : Bool). if t then removed_of test place (cells place) else cells place) (in_all place lt)

-- if the range from `first` to `end - 1` has all places within the reach of the object at `first`, this object left no byte
-- outside the range
not_there : (reach : List ℕ) (number first end place : ℕ) (holder : Holder) → IsHolderNear reach place holder
    → (place < first + slice_index reach number → place < end) → (leb first place && ltb place end) ≡ false
    → is_same (Holder.Object number first) holder ≡ false
not_there reach number first end place Holder.Page near far off = refl
not_there reach number first end place (Holder.Object n p) near far off = go (n == number) (p == first) refl refl
  where
    out : first ≤ place → place < end → ⊥
    out le lt = false≢true (sym off ∙ (ap (λ (t : Bool). t && ltb place end) (le-leb first place le) ∙ lt-ltb place end lt))

    go : (a b : Bool) → (n == number) ≡ a → (p == first) ≡ b → (a && b) ≡ false
    go true true en ep =
        let e : n ≡ number = eqb-true n number en in
        let f : p ≡ first = eqb-true p first ep in
        let low : p ≤ place = near.0 in
        let high : place < p + slice_index reach number = subst (λ (m : ℕ). place < p + slice_index reach m) e near.1 in
        let before : place < end = far (omega arith) in
        absurd (out (omega arith) before)
    go true false en ep = refl
    go false b en ep = refl

-- doubting an object's bytes from its first place to the end of its reach doubts all bytes that the object left
doubted_object : (reach : List ℕ) (number first end place : ℕ) (cells : Cells) → IsNear reach place (cells place)
    → (place < first + slice_index reach number → place < end)
    → within first end (doubted_of (is_same (Holder.Object number first))) place (cells place)
    ≡ doubted (λ p. is_same (Holder.Object number first)) cells place
doubted_object reach number first end place cells near far = go (leb first place && ltb place end) refl (cells place) near
  where
    go : (b : Bool) → (leb first place && ltb place end) ≡ b → (x : Option Cell) → IsNear reach place x
        → (if b then doubted_of (is_same (Holder.Object number first)) place x else x) ≡ doubted_of (is_same (Holder.Object number first)) place x
    go true is x near = refl
    go false off None near = refl
    go false off (Some cell) near = ap (λ (sure : Bool). Some (record cell { sure = sure }))
        (sym (ap (λ (t : Bool). cell.sure && not t) (not_there reach number first end place cell.holder near far off) ∙ and-true cell.sure))

-- so the change for a give puts in doubt all bytes that the object left
pub given : (old new : Left) (reach : List ℕ) (number first begin end : ℕ) → AreSlots old.order old.slots reach → begin ≡ first
    → end ≡ min (begin + slice_index reach number) (2 ^ 64 - 1) → new.order ≡ old.order
    → AreStepped old.order (within begin end (doubted_of (is_same (Holder.Object number first)))) old.slots new.slots
    → Becomes old (left_slots old) (doubted (λ place. is_same (Holder.Object number first))) new
given old new reach number first begin end are is_begin is_end e after =
    becomes old new (within begin end (doubted_of (is_same (Holder.Object number first)))) (doubted (λ place. is_same (Holder.Object number first))) e after
    (λ place low. ap (λ (b : ℕ). within b end (doubted_of (is_same (Holder.Object number first))) place (left_at old place)) is_begin
    ∙ doubted_object reach number first end place (left_at old) (are.near place) (far place low))
    (λ place off. doubted_none (λ place. is_same (Holder.Object number first)) place (left_at old))
  where
    far : (place : ℕ) → place < 2 ^ 32 → place < first + slice_index reach number → place < end
    far place low near = omega arith

-- limiting a put to the range of its bytes does not change the result
put_there : (holder : Holder) (begin : ℕ) (bytes : List ℕ) (from end : ℕ) → from ≡ begin → end ≡ begin + length bytes → (place : ℕ) (cells : Cells)
    → within from end (λ place cell. with_bytes holder begin bytes (λ _. cell) place) place (cells place) ≡ with_bytes holder begin bytes cells place
put_there holder begin bytes from end is_from is_end place cells =
    ap (λ (t : Bool). if t then with_bytes holder begin bytes (λ _. cells place) place else cells place)
    (ap (λ (n : ℕ). leb n place && ltb place end) is_from ∙ ap (λ (n : ℕ). leb begin place && ltb place n) is_end)
    ∙ go (leb begin place && ltb place (begin + length bytes))
  where
    go : (b : Bool) → (if b then (if b then Some (record { holder = holder; byte = get_or bytes (place - begin) 0; sure = true }) else cells place) else cells place)
        ≡ (if b then Some (record { holder = holder; byte = get_or bytes (place - begin) 0; sure = true }) else cells place)
    go true = refl
    go false = refl

-- if all the bytes are in held slots, the step that puts them changes what was left exactly as `with_bytes` does
pub put : (old new : Left) (holder : Holder) (begin : ℕ) (bytes : List ℕ) (from end : ℕ) → from ≡ begin → end ≡ begin + length bytes
    → new.order ≡ old.order → ((j : ℕ) → j < length bytes → has_place old (begin + j) ≡ true)
    → AreStepped old.order (within from end (λ place cell. with_bytes holder begin bytes (λ _. cell) place)) old.slots new.slots
    → Becomes old (left_slots old) (with_bytes holder begin bytes) new
put old new holder begin bytes from end is_from is_end e held after =
    becomes old new (within from end (λ place cell. with_bytes holder begin bytes (λ _. cell) place)) (with_bytes holder begin bytes) e after
    (λ place low. put_there holder begin bytes from end is_from is_end place (left_at old))
    (λ place off none. outside place off none (leb begin place && ltb place (begin + length bytes)) refl)
  where
    outside : (place : ℕ) → has_place old place ≡ false → left_at old place ≡ None → (b : Bool) → (leb begin place && ltb place (begin + length bytes)) ≡ b
        → (if b then Some (record { holder = holder; byte = get_or bytes (place - begin) 0; sure = true }) else left_at old place) ≡ None
    outside place off none true inside =
        let parts = and_parts _ _ inside in
        let low : begin ≤ place = leb-true begin place parts.0 in
        let high : place < begin + length bytes = ltb-true place (begin + length bytes) parts.1 in
        let back : begin + (place - begin) ≡ place = omega (arith, low) in
        absurd (false≢true (sym off ∙ subst (λ p. has_place old p ≡ true) back (held (place - begin) (omega (arith, low, high)))))
    outside place off none false inside = none

near_more : (reach more : List ℕ) (place : ℕ) (cell : Option Cell) → ((n : ℕ) → slice_index reach n ≤ slice_index more n)
    → IsNear reach place cell → IsNear more place cell
near_more reach more place None grows near = tt
near_more reach more place (Some cell) grows near = go cell.holder near
  where
    go : (h : Holder) → IsHolderNear reach place h → IsHolderNear more place h
    go Holder.Page near = tt
    go (Holder.Object n p) near = let g = grows n in (near.0, omega (arith, near.1, g))

near_holder : (more : List ℕ) (begin end place : ℕ) (h : Holder) → ((n p : ℕ) → h ≡ Holder.Object n p → p ≤ begin)
    → ((n p : ℕ) → h ≡ Holder.Object n p → end ≤ p + slice_index more n) → begin ≤ place → place < end → IsHolderNear more place h
near_holder more begin end place Holder.Page before far le lt = tt
near_holder more begin end place (Holder.Object n p) before far le lt =
    let b = before n p refl in
    let f = far n p refl in
    (omega (arith, b), omega (arith, f))

-- if the reach is extended to the end of the bytes, every byte that an object left is within the reach after the bytes are put
pub near_put : (reach more : List ℕ) (holder : Holder) (begin : ℕ) (bytes : List ℕ) (from end : ℕ) → ((n : ℕ) → slice_index reach n ≤ slice_index more n)
    → ((n p : ℕ) → holder ≡ Holder.Object n p → p ≤ begin)
    → ((n p : ℕ) → holder ≡ Holder.Object n p → begin + length bytes ≤ p + slice_index more n) → (place : ℕ) (cell : Option Cell)
    → IsNear reach place cell → IsNear more place (within from end (λ place cell. with_bytes holder begin bytes (λ _. cell) place) place cell)
near_put reach more holder begin bytes from end grows before far place cell near =
    go (leb from place && ltb place end) (leb begin place) (ltb place (begin + length bytes)) refl refl
  where
    go : (t a b : Bool) → leb begin place ≡ a → ltb place (begin + length bytes) ≡ b
        → IsNear more place (if t then (if a && b then Some (record { holder = holder; byte = get_or bytes (place - begin) 0; sure = true }) else cell) else cell)
    go true true true le lt = near_holder more begin (begin + length bytes) place holder before far (leb-true begin place le) (ltb-true place (begin + length bytes) lt)
    go true true false le lt = near_more reach more place cell grows near
    go true false b le lt = near_more reach more place cell grows near
    go false a b le lt = near_more reach more place cell grows near

-- the holder cannot share a slab with the object of this cache that begins at `first` and has `size` bytes
abbrev pub not_beside : ℕ → ℕ → ℕ → Holder → Bool
not_beside number first size holder =
    not (is_object (λ n p. n == number && (p == first || (nat_le (first + size) p || nat_le (p + size) first))) holder)

-- the change for a take forgets the slab's bytes whose holders cannot share a slab with the object
pub taken : (number first size : ℕ) (slab : Block) (begin end : ℕ) → begin ≡ 4096 * slab.first → end ≡ 4096 * (slab.first + 2 ^ slab.order)
    → (c : KnownCache) → c.number ≡ number → c.size ≡ size → slab_around c first ≡ slab → (place : ℕ) (cells : Cells)
    → within begin end (removed_of (not_beside number first size)) place (cells place) ≡ with_object first (Some c) cells place
taken number first size slab begin end is_begin is_end c is_number is_size is_slab place cells =
    subst (λ (n : ℕ). within begin end (removed_of (not_beside n first size)) place (cells place) ≡ with_object first (Some c) cells place) is_number
    (subst (λ (z : ℕ). within begin end (removed_of (not_beside c.number first z)) place (cells place) ≡ with_object first (Some c) cells place) is_size
    (removed_in (slab_around c first) begin end (is_begin ∙ ap (λ (b : Block). 4096 * b.first) (sym is_slab))
    (is_end ∙ ap (λ (b : Block). 4096 * (b.first + 2 ^ b.order)) (sym is_slab)) (not_beside c.number first c.size) place cells))

-- the holder is not an object of this cache
abbrev pub elsewhere : ℕ → Holder → Bool
elsewhere number holder = not (is_object (λ n p. n == number) holder)

-- a holder that is not an object of the cache cannot share a slab with an object of the cache
not_beside_else : (number first size : ℕ) (h : Holder) → elsewhere number h ≡ true → not_beside number first size h ≡ true
not_beside_else number first size Holder.Page is = refl
not_beside_else number first size (Holder.Object n p) is = go (n == number) is
  where
    go : (b : Bool) → not b ≡ true → not (b && (p == first || (nat_le (first + size) p || nat_le (p + size) first))) ≡ true
    go true is = absurd (false≢true is)
    go false is = refl

-- two objects of a cache that do not overlap can be in one slab
is_beside : (first size p : ℕ) → (p < first + size → first < p + size → ⊥) → (p == first || (leb (first + size) p || leb (p + size) first)) ≡ true
is_beside first size p apart = elim (cases_lt p (first + size)) [
  | inr ge ↦ ap (λ (t : Bool). p == first || (t || leb (p + size) first)) (le-leb (first + size) p ge) ∙ or-true (p == first)
  | inl lt ↦ elim (cases_lt first (p + size)) [
    | inl over ↦ absurd (apart lt over)
    | inr ge ↦ ap (λ (t : Bool). p == first || (leb (first + size) p || t)) (le-leb (p + size) first ge)
        ∙ (ap (λ (t : Bool). p == first || t) (or-true (leb (first + size) p)) ∙ or-true (p == first))
  ]
]

-- a holder that left a byte in the slab, but outside the range from `low` to `high - 1`, cannot share a slab with the object
-- exactly if it is not an object of the same cache
far_beside : (reach : List ℕ) (number first size begin end low high place : ℕ) (h : Holder) → place < 2 ^ 32
    → low ≡ max begin (first - size) → high ≡ min end (min (first + size + slice_index reach number) (2 ^ 64 - 1)) → begin ≤ place → place < end
    → (leb low place && ltb place high) ≡ false → IsHolderNear reach place h → not_beside number first size h ≡ elsewhere number h
far_beside reach number first size begin end low high place Holder.Page small is_low is_high le lt off near = refl
far_beside reach number first size begin end low high place (Holder.Object n p) small is_low is_high le lt off near = go (n == number) refl
  where
    out : low ≤ place → place < high → ⊥
    out above below = false≢true (sym off ∙ (ap (λ (t : Bool). t && ltb place high) (le-leb low place above) ∙ lt-ltb place high below))

    apart : n ≡ number → p < first + size → first < p + size → ⊥
    apart e under over =
        let behind : p ≤ place = near.0 in
        let within_reach : place < p + slice_index reach number = subst (λ (m : ℕ). place < p + slice_index reach m) e near.1 in
        let below : place < high = omega arith in
        out (omega arith) below

    go : (b : Bool) → (n == number) ≡ b → not (b && (p == first || (nat_le (first + size) p || nat_le (p + size) first))) ≡ not b
    go true e = ap not (is_beside first size p (apart (eqb-true n number e)))
    go false e = refl

-- Suppose that the bytes in the slab that no object of the cache left were forgotten. Then only the places from `low` to
-- `high - 1` can have more bytes to forget.
narrowed : (reach : List ℕ) (number first size begin end low high place : ℕ) (x : Option Cell) → place < 2 ^ 32
    → low ≡ max begin (first - size) → high ≡ min end (min (first + size + slice_index reach number) (2 ^ 64 - 1)) → IsNear reach place x
    → within low high (removed_of (not_beside number first size)) place (within begin end (removed_of (elsewhere number)) place x)
    ≡ within begin end (removed_of (not_beside number first size)) place x
narrowed reach number first size begin end low high place None small is_low is_high near =
    go (leb low place && ltb place high) (leb begin place && ltb place end)
  where
    go : (t u : Bool) → (if t then removed_of (not_beside number first size) place (if u then None else None) else (if u then None else None))
        ≡ (if u then None else None)
    go true true = refl
    go true false = refl
    go false true = refl
    go false false = refl
narrowed reach number first size begin end low high place (Some cell) small is_low is_high near =
    go (leb low place && ltb place high) (leb begin place && ltb place end) refl refl
  where
    twice : (b : Bool) → (b ≡ true → not_beside number first size cell.holder ≡ true)
        → removed_of (not_beside number first size) place (if b then None else Some cell) ≡ (if not_beside number first size cell.holder then None else Some cell)
    twice true gone = sym (ap (λ (t : Bool). if t then None else Some cell) (gone refl))
    twice false gone = refl

    covered : (leb low place && ltb place high) ≡ true → (leb begin place && ltb place end) ≡ true
    covered is = grind (arith, nat_tests)

    over : (leb begin place && ltb place end) ≡ true → begin ≤ place
    over is = grind (arith, nat_tests)

    under : (leb begin place && ltb place end) ≡ true → place < end
    under is = grind (arith, nat_tests)

    go : (t u : Bool) → (leb low place && ltb place high) ≡ t → (leb begin place && ltb place end) ≡ u
        → (if t then removed_of (not_beside number first size) place (if u then removed_of (elsewhere number) place (Some cell) else Some cell)
        else (if u then removed_of (elsewhere number) place (Some cell) else Some cell))
        ≡ (if u then removed_of (not_beside number first size) place (Some cell) else Some cell)
    go true true near_it is = twice (elsewhere number cell.holder) (not_beside_else number first size cell.holder)
    go true false near_it off = absurd (false≢true (sym off ∙ covered near_it))
    go false true far is = ap (λ (t : Bool). if t then None else Some cell)
        (sym (far_beside reach number first size begin end low high place cell.holder small is_low is_high (over is) (under is) far near))
    go false false far off = refl

-- So the change for a take can be made in two steps. The first forgets the bytes in the slab that no object of the cache left.
-- The second forgets, from `low` to `high - 1`, the bytes whose holders cannot share a slab with the object.
pub taken_twice : (reach : List ℕ) (number first size : ℕ) (slab : Block) (begin end low high : ℕ) → begin ≡ 4096 * slab.first
    → end ≡ 4096 * (slab.first + 2 ^ slab.order) → low ≡ max begin (first - size)
    → high ≡ min end (min (first + size + slice_index reach number) (2 ^ 64 - 1))
    → (c : KnownCache) → c.number ≡ number → c.size ≡ size → slab_around c first ≡ slab → (place : ℕ) (cells : Cells) → place < 2 ^ 32
    → IsNear reach place (cells place)
    → within low high (removed_of (not_beside number first size)) place (within begin end (removed_of (elsewhere number)) place (cells place))
    ≡ with_object first (Some c) cells place
taken_twice reach number first size slab begin end low high is_begin is_end is_low is_high c is_number is_size is_slab place cells small near =
    narrowed reach number first size begin end low high place (cells place) small is_low is_high near
    ∙ taken number first size slab begin end is_begin is_end c is_number is_size is_slab place cells
