-- For every allowed size and alignment, the layout fits at each of its colour offsets.
use Rattle.std.proofs.Common.{◌≡◌, ℕ, ◌+◌, ◌-◌, ◌*◌, ◌/◌, ◌%◌, ◌<◌, ◌≤◌, Bool, true, false, leb, refl, sym, ap, ◌∙◌, subst, inl, inr, arith}
use Rattle.std.specs.Prelude.{if◌then◌else◌}
use Rattle.std.proofs.lemmas.Bool.{or_cases, and_parts, eqb-true, leb-true, ltb-true, ltb-false, false≢true}
use Rattle.std.proofs.lemmas.Nat.{div-add-mod'}
use Rattle.std.proofs.Math.Nat.{div-mul-le_self, div-lt_iff_lt-mul, le-div_iff_mul-le, mul-mod_left, mod-lt, mul_comm, mul-le-mul_left}
use Rattle.model_core.specs.Layouts.{is_alignment, chunk_of, is_small, bytes_of_order, is_thrifty, slab_order, usable_bytes, layout_of, LayoutsFit}

-- what is true of 8, 16, 32, 64, 128 and 256 is true of every allowed alignment
pub for_alignment : (P : ℕ → Type 0) → P 8 → P 16 → P 32 → P 64 → P 128 → P 256 → (align : ℕ) → is_alignment align ≡ true → P align
for_alignment P a b c d e f align is = elim (or_cases _ _ is) [
  | inl h ↦ subst P (eqb-true 8 align h) a
  | inr h ↦ elim (or_cases _ _ h) [
    | inl h ↦ subst P (eqb-true 16 align h) b
    | inr h ↦ elim (or_cases _ _ h) [
      | inl h ↦ subst P (eqb-true 32 align h) c
      | inr h ↦ elim (or_cases _ _ h) [
        | inl h ↦ subst P (eqb-true 64 align h) d
        | inr h ↦ elim (or_cases _ _ h) [
          | inl h ↦ subst P (eqb-true 128 align h) e
          | inr h ↦ elim (or_cases _ _ h) [
            | inl h ↦ subst P (eqb-true 256 align h) f
            | inr h ↦ absurd (false≢true h)
          ]
        ]
      ]
    ]
  ]
]

pub record IsChunk (size align chunk : ℕ) : Type 0 where
  pub least : 16 ≤ chunk
  pub sized : size ≤ chunk
  pub most : chunk ≤ 4096
  pub aligned : chunk % align ≡ 0
  pub align_some : 0 < align

pub chunk_is : (align : ℕ) → is_alignment align ≡ true → (size : ℕ) → 1 ≤ size → size ≤ 4096 → IsChunk size align (chunk_of size align)
chunk_is = for_alignment (λ align. (size : ℕ) → 1 ≤ size → size ≤ 4096 → IsChunk size align (chunk_of size align))
    (λ size low most. record { least = omega arith; sized = omega arith; most = omega arith; aligned = omega arith; align_some = omega arith })
    (λ size low most. record { least = omega arith; sized = omega arith; most = omega arith; aligned = omega arith; align_some = omega arith })
    (λ size low most. record { least = omega arith; sized = omega arith; most = omega arith; aligned = omega arith; align_some = omega arith })
    (λ size low most. record { least = omega arith; sized = omega arith; most = omega arith; aligned = omega arith; align_some = omega arith })
    (λ size low most. record { least = omega arith; sized = omega arith; most = omega arith; aligned = omega arith; align_some = omega arith })
    (λ size low most. record { least = omega arith; sized = omega arith; most = omega arith; aligned = omega arith; align_some = omega arith })

record IsRoom (chunk order room : ℕ) : Type 0 where
  order_most : order ≤ 3
  some : chunk ≤ room
  few : room < chunk * 257
  within : room ≤ bytes_of_order order
  small : is_small chunk ≡ true → (order ≡ 0) × (room + 32 ≤ 4096)

abbrev order_by : Bool → Bool → Bool → Bool → ℕ
order_by small a b c = if small then 0 else if a then 0 else if b then 1 else if c then 2 else 3

room_is : (chunk : ℕ) → 16 ≤ chunk → chunk ≤ 4096 → (small a b c : Bool) → is_small chunk ≡ small
    → IsRoom chunk (order_by small a b c) (if small then 4064 else bytes_of_order (order_by small a b c))
room_is chunk low high true a b c is = let lt : chunk < 512 = ltb-true chunk 512 is in
    record { order_most = omega arith; some = omega arith; few = omega arith; within = omega arith; small = λ _. (refl, omega arith) }
room_is chunk low high false true b c is = let ge : 512 ≤ chunk = ltb-false chunk 512 is in
    record { order_most = omega arith; some = omega arith; few = omega arith; within = omega arith; small = λ s. absurd (false≢true (sym is ∙ s)) }
room_is chunk low high false false true c is = let ge : 512 ≤ chunk = ltb-false chunk 512 is in
    record { order_most = omega arith; some = omega arith; few = omega arith; within = omega arith; small = λ s. absurd (false≢true (sym is ∙ s)) }
room_is chunk low high false false false true is = let ge : 512 ≤ chunk = ltb-false chunk 512 is in
    record { order_most = omega arith; some = omega arith; few = omega arith; within = omega arith; small = λ s. absurd (false≢true (sym is ∙ s)) }
room_is chunk low high false false false false is = let ge : 512 ≤ chunk = ltb-false chunk 512 is in
    record { order_most = omega arith; some = omega arith; few = omega arith; within = omega arith; small = λ s. absurd (false≢true (sym is ∙ s)) }

-- a colour offset is at most the number of bytes that the objects leave unused
colour_most : (align room used made : ℕ) → used ≤ room → align * (made % ((room - used) / align + 1)) + used ≤ room
colour_most align room used made le =
    let below : made % ((room - used) / align + 1) < (room - used) / align + 1 = mod-lt made (omega arith) in
    let least : made % ((room - used) / align + 1) ≤ (room - used) / align = omega arith in
    omega (arith, mul-le-mul_left align least, div-mul-le_self (room - used) align, mul_comm align ((room - used) / align))

-- if the chunk is a multiple of the alignment, so is align * k + i * chunk
aligned_sum : (align k i chunk : ℕ) → chunk % align ≡ 0 → (align * k + i * chunk) % align ≡ 0
aligned_sum align k i chunk e =
    let whole : chunk / align * align ≡ chunk = omega (arith, div-add-mod' chunk align) in
    let one : (k + i * (chunk / align)) * align ≡ align * k + i * chunk = omega (arith, ap (λ n. i * n) whole) in
    ap (λ n. n % align) (sym one) ∙ mul-mod_left (k + i * (chunk / align)) align

pub layouts_fit : LayoutsFit
unfolding layout_of
layouts_fit size align is_in aligned =
    let low : 1 ≤ size = leb-true 1 size (and_parts (leb 1 size) (leb size 4096) is_in).0 in
    let high : size ≤ 4096 = leb-true size 4096 (and_parts (leb 1 size) (leb size 4096) is_in).1 in
    let c : IsChunk size align (chunk_of size align) = chunk_is align aligned size low high in
    let chunk = chunk_of size align in
    let r : IsRoom chunk (slab_order chunk) (usable_bytes chunk) = room_is chunk c.least c.most (is_small chunk) (is_thrifty chunk 0) (is_thrifty chunk 1) (is_thrifty chunk 2) refl in
    let some : 0 < chunk = omega arith in
    record {
      sized = low;
      chunked = c.sized;
      aligned = λ made i. aligned_sum align (made % (layout_of size align).colours) i chunk c.aligned;
      colours = omega arith;
      order = r.order_most;
      fits = λ made. record {
        chunked = c.least;
        some = (le-div_iff_mul-le {k = chunk} {x = 1} {y = usable_bytes chunk} some).1 (omega (arith, r.some));
        few = omega (arith, (div-lt_iff_lt-mul {k = chunk} {x = usable_bytes chunk} {y = 257} some).1 (omega (arith, r.few)));
        inside = colour_most align (usable_bytes chunk) (usable_bytes chunk / chunk * chunk) made (div-mul-le_self (usable_bytes chunk) chunk);
        within = r.within;
        small = r.small;
      };
    }
