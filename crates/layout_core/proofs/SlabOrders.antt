-- The laws of layouts: every accepted size has a slab order, a slab has few objects, and its objects share no byte.
use Rattle.std.proofs.Common.{◌≡◌, ℕ, ◌/◌, ◌%◌, ◌<◌, ◌≤◌, Bool, true, false, refl, sym, ◌∙◌, subst, arith, below_more}
use Rattle.std.proofs.lemmas.Bool.{and_parts, false≢true, ltb-false, leb-true, leb-false, le-leb}
use Rattle.std.proofs.lemmas.Nat.{mod_below}
use Rattle.std.proofs.Math.Nat.{div-le_of_le-mul}
use Rattle.std.specs.Prelude.{if◌then◌else◌, nat_le}
use borrow.Author.Count.{below_none}
use Rattle.model_core.specs.Layouts.{chunk_of, slab_order, usable_bytes, is_size, is_small, is_thrifty, bytes_of_order, layout_of}
use Rattle.model_core.proofs.Layouts.{layouts_fit, chunk_is}
use Rattle.layout_core.specs.Laws.{IsLeastOrder, EverySizeHasAnOrder, OffsetsApart, FewObjects}
use Rattle.layout_core.proofs.ObjectByChunk.{holds_at}

size_least : (size : ℕ) → is_size size ≡ true → 1 ≤ size
size_least size is = leb-true 1 size (and_parts _ _ is).0

size_most : (size : ℕ) → is_size size ≡ true → size ≤ 4096
size_most size is = leb-true size 4096 (and_parts _ _ is).1

-- if chunks leave more than an eighth of the bytes unused, a chunk is larger than an eighth of the bytes
large_chunk : (bytes chunk : ℕ) → 0 < chunk → nat_le (bytes % chunk) (bytes / 8) ≡ false → bytes / 8 < chunk
large_chunk bytes chunk some left =
    let below = mod_below bytes chunk some in
    let over = leb-false (bytes % chunk) (bytes / 8) left in
    omega arith

pub least_order : (c : ℕ) (small t0 t1 t2 : Bool) → is_small c ≡ small → is_thrifty c 0 ≡ t0 → is_thrifty c 1 ≡ t1 → is_thrifty c 2 ≡ t2 → 0 < c → c ≤ 4096
    → IsLeastOrder c (if small then 0 else if t0 then 0 else if t1 then 1 else if t2 then 2 else 3)
least_order c true t0 t1 t2 s e0 e1 e2 some few = record { few = omega arith; small = λ _. refl; thrifty = λ h. absurd (false≢true (sym h ∙ s)); least = λ h. absurd (false≢true (sym h ∙ s)) }
least_order c false true t1 t2 s e0 e1 e2 some few = record { few = omega arith; small = λ _. refl; thrifty = λ _. e0; least = λ _. below_none _ }
least_order c false false true t2 s e0 e1 e2 some few = record { few = omega arith; small = λ h. absurd (false≢true (sym s ∙ h)); thrifty = λ _. e1; least = λ _. below_more _ 0 (below_none _) e0 }
least_order c false false false true s e0 e1 e2 some few = record { few = omega arith; small = λ h. absurd (false≢true (sym s ∙ h)); thrifty = λ _. e2; least = λ _. below_more _ 1 (below_more _ 0 (below_none _) e0) e1 }
least_order c false false false false s e0 e1 e2 some few =
    record {
      few = omega arith;
      small = λ h. absurd (false≢true (sym s ∙ h));
      thrifty = λ _. le-leb (32768 % c) 4096 (let below = mod_below 32768 c some in omega arith);
      least = λ _. below_more _ 2 (below_more _ 1 (below_more _ 0 (below_none _) e0) e1) e2;
    }

pub few_small : (c : ℕ) → 16 ≤ c → is_small c ≡ true → usable_bytes c / c ≤ 254
few_small c h s = subst (λ b. (if b then 4064 else bytes_of_order (slab_order c)) / c ≤ 254) (sym s) (div-le_of_le-mul c (omega arith))

few_at : (c : ℕ) (t0 t1 t2 : Bool) → is_thrifty c 0 ≡ t0 → is_thrifty c 1 ≡ t1 → is_thrifty c 2 ≡ t2 → 512 ≤ c
    → bytes_of_order (if t0 then 0 else if t1 then 1 else if t2 then 2 else 3) / c ≤ 16
few_at c true t1 t2 e0 e1 e2 h = div-le_of_le-mul c (omega arith)
few_at c false true t2 e0 e1 e2 h = let over = large_chunk 4096 c (omega arith) e0 in div-le_of_le-mul c (omega arith)
few_at c false false true e0 e1 e2 h = let over = large_chunk 8192 c (omega arith) e1 in div-le_of_le-mul c (omega arith)
few_at c false false false e0 e1 e2 h = let over = large_chunk 16384 c (omega arith) e2 in div-le_of_le-mul c (omega arith)

pub few_large : (c : ℕ) → is_small c ≡ false → usable_bytes c / c ≤ 16
few_large c s =
    let least : 512 ≤ c = ltb-false c 512 s in
    let at = few_at c _ _ _ refl refl refl least in
    subst (λ b. (if b then 4064 else bytes_of_order (if b then 0 else if is_thrifty c 0 then 0 else if is_thrifty c 1 then 1 else if is_thrifty c 2 then 2 else 3)) / c ≤ 16) (sym s) at

pub every_size_has_an_order : EverySizeHasAnOrder
unfolding layout_of
every_size_has_an_order size align sized aligned =
    let chunk = chunk_is align aligned size (size_least size sized) (size_most size sized) in
    least_order (chunk_of size align) _ _ _ _ refl refl refl refl (omega (arith, chunk.least)) chunk.most

pub few_objects : FewObjects
unfolding layout_of
few_objects size align sized aligned =
    let chunk = chunk_is align aligned size (size_least size sized) (size_most size sized) in
    (few_small (chunk_of size align) chunk.least, few_large (chunk_of size align))

pub objects_apart : OffsetsApart
objects_apart size align colour offset i j sized aligned a b =
    let fit = layouts_fit size align sized aligned in
    let at = holds_at _ (layout_of size align).chunk colour offset 1 i refl fit.chunked a in
    let at' = holds_at _ (layout_of size align).chunk colour offset 1 j refl fit.chunked b in
    sym at.1.chunk_of ∙ at'.1.chunk_of
