-- Multiplying by the reciprocal of the chunk size finds the same chunk as dividing by the chunk size.
use Rattle.std.proofs.Common.{◌≡◌, ℕ, ◌+◌, ◌-◌, ◌*◌, ◌/◌, ◌%◌, ◌^◌, ◌<◌, ◌≤◌, arith, ap, ◌∙◌, inl, inr}
use Rattle.std.proofs.lemmas.Bool.{cases_lt}
use Rattle.std.proofs.lemmas.Nat.{div-add-mod', le-div}
use Rattle.std.proofs.Math.Nat.{div-eq_of_lt-le, mul-le-mul_left, mul-le-mul_right, mod-lt, pow-le-pow_right}
use Rattle.model_core.proofs.Layouts.{layouts_fit}
use Rattle.model_core.specs.Layouts.{layout_of}
use Rattle.layout_core.specs.Inside.{AreLayoutFields, reciprocal_of}

-- if m * chunk is at least `whole`, then `from * m` is at least n * whole, where n is `from / chunk` ..
product_reaches : (whole chunk m from : ℕ) → whole ≤ m * chunk → from / chunk * whole ≤ from * m
product_reaches whole chunk m from over =
    let split : from / chunk * chunk + from % chunk ≡ from = div-add-mod' from chunk in
    let rows : from / chunk * whole ≤ from / chunk * (m * chunk) = mul-le-mul_left (from / chunk) over in
    let columns : from / chunk * chunk * m ≤ from * m = mul-le-mul_right m (omega arith) in
    omega arith

-- .. and if m * chunk is `whole + more`, and (n + 1) * more is below m, then `from * m` is below (n + 1) * whole
product_stays : (whole chunk m more from : ℕ) → 0 < chunk → m * chunk ≡ whole + more → (from / chunk + 1) * more < m
    → from * m < (from / chunk + 1) * whole
product_stays whole chunk m more from some is few =
    let split : from / chunk * chunk + from % chunk ≡ from = div-add-mod' from chunk in
    let product : (from / chunk * chunk + from % chunk) * m ≡ from * m = ap (λ n. n * m) split in
    let rows : from / chunk * (m * chunk) ≡ from / chunk * (whole + more) = ap (λ n. from / chunk * n) is in
    let rest : (from % chunk + 1) * m ≤ chunk * m = mul-le-mul_right m (omega (arith, mod-lt from some)) in
    omega arith

-- m * chunk is 2 ^ 32 + `more`, and `more` is at most `chunk`
record IsNear (chunk m : ℕ) : Type 0 where
  pub more : ℕ
  pub is : m * chunk ≡ 2 ^ 32 + more
  pub few : more ≤ chunk

is_near : (chunk : ℕ) → 0 < chunk → IsNear chunk (reciprocal_of chunk)
is_near chunk some =
    let split : 2 ^ 32 / chunk * chunk + 2 ^ 32 % chunk ≡ 2 ^ 32 = div-add-mod' (2 ^ 32) chunk in
    let below : 2 ^ 32 % chunk < chunk = mod-lt (2 ^ 32) some in
    record { more = chunk - 2 ^ 32 % chunk; is = omega arith; few = omega arith }

-- if `from` is below 32768 and a chunk has 1 to 32768 bytes, `from / chunk` is `from` times the reciprocal, divided by 2 ^ 32
exact : (chunk from : ℕ) → 0 < chunk → chunk ≤ 32768 → from < 32768 → from * reciprocal_of chunk / 2 ^ 32 ≡ from / chunk
exact chunk from some few below =
    let near = is_near chunk some in
    let split : from / chunk * chunk + from % chunk ≡ from = div-add-mod' from chunk in
    let large : 131072 ≤ 2 ^ 32 / chunk = le-div 131072 (2 ^ 32) chunk some (omega arith) in
    let little : (from / chunk + 1) * near.more ≤ (from / chunk + 1) * chunk = mul-le-mul_left _ near.few in
    div-eq_of_lt-le (2 ^ 32)
    (product_reaches (2 ^ 32) chunk (reciprocal_of chunk) from (omega (arith, near.is)))
    (product_stays (2 ^ 32) chunk (reciprocal_of chunk) near.more from some near.is (omega arith))

-- each chunk has at most 32768 bytes, and all chunks of the slab together have at most 32768 bytes
record IsWithin (chunk count : ℕ) : Type 0 where
  pub one : chunk ≤ 32768
  pub all : count * chunk ≤ 32768

is_within : (size align chunk order count colours reciprocal : ℕ) → AreLayoutFields size align chunk order count colours reciprocal → IsWithin chunk count
is_within size align chunk order count colours reciprocal fields =
    let fits = layouts_fit size align fields.accepted_size fields.accepted_align in
    let fit = fits.fits 0 in
    let power : 2 ^ (layout_of size align).order ≤ 2 ^ 3 = pow-le-pow_right (omega arith) fits.order in
    let same : count * chunk ≡ (layout_of size align).count * (layout_of size align).chunk =
    ap (λ n. n * chunk) fields.count_is ∙ ap (λ n. (layout_of size align).count * n) fields.chunk_is in
    let some : 1 * chunk ≤ count * chunk = mul-le-mul_right chunk (omega (arith, fit.some, fields.count_is)) in
    record { one = omega arith; all = omega arith }

-- if multiplying finds a chunk of the slab for a byte, dividing finds the same chunk
found : (chunk count from : ℕ) → 0 < chunk → IsWithin chunk count → from * reciprocal_of chunk / 2 ^ 32 < count
    → from * reciprocal_of chunk / 2 ^ 32 ≡ from / chunk
found chunk count from some within below =
    let near = is_near chunk some in
    let least : from / chunk ≤ from * reciprocal_of chunk / 2 ^ 32 =
    le-div _ _ (2 ^ 32) (omega arith) (product_reaches (2 ^ 32) chunk (reciprocal_of chunk) from (omega (arith, near.is))) in
    let split : from / chunk * chunk + from % chunk ≡ from = div-add-mod' from chunk in
    let rows : (from / chunk + 1) * chunk ≤ count * chunk = mul-le-mul_right chunk (omega arith) in
    exact chunk from some within.one (omega (arith, mod-lt from some, within.all))

-- if multiplying finds no chunk of the slab for a byte, the byte is after the last chunk
missed : (chunk count from : ℕ) → 0 < chunk → IsWithin chunk count → count ≤ from * reciprocal_of chunk / 2 ^ 32 → count ≤ from / chunk
missed chunk count from some within above = elim (cases_lt (from / chunk) count) [
  | inl below ↦
      let split : from / chunk * chunk + from % chunk ≡ from = div-add-mod' from chunk in
      let rows : (from / chunk + 1) * chunk ≤ count * chunk = mul-le-mul_right chunk (omega arith) in
      let same : from * reciprocal_of chunk / 2 ^ 32 ≡ from / chunk = exact chunk from some within.one (omega (arith, mod-lt from some, within.all)) in
      omega arith
  | inr least ↦ least
]

-- the reciprocal that a layout stores is `reciprocal_of` its chunk, so a product with one is a product with the other
product_is : (from reciprocal chunk a b : ℕ) → a ≡ from → b ≡ reciprocal → reciprocal ≡ reciprocal_of chunk
    → a * b / 2 ^ 32 ≡ from * reciprocal_of chunk / 2 ^ 32
product_is from reciprocal chunk a b a_is b_is is =
    ap (λ n. n * b / 2 ^ 32) a_is ∙ ap (λ n. from * n / 2 ^ 32) (b_is ∙ is)

pub chunk_found : (size align chunk order count colours reciprocal from a b : ℕ) → AreLayoutFields size align chunk order count colours reciprocal
    → a ≡ from → b ≡ reciprocal → a * b / 2 ^ 32 < count
    → (a * b / 2 ^ 32 < (layout_of size align).count) × (a * b / 2 ^ 32 ≡ from / (layout_of size align).chunk)
chunk_found size align chunk order count colours reciprocal from a b fields a_is b_is below =
    let same = product_is from reciprocal chunk a b a_is b_is fields.reciprocal_is in
    let right = found chunk count from fields.some (is_within _ _ _ _ _ _ _ fields) (omega arith) in
    (omega (arith, fields.count_is), same ∙ right ∙ ap (λ n. from / n) fields.chunk_is)

pub chunk_missed : (size align chunk order count colours reciprocal from a b : ℕ) → AreLayoutFields size align chunk order count colours reciprocal
    → a ≡ from → b ≡ reciprocal → count ≤ a * b / 2 ^ 32 → (layout_of size align).count ≤ from / (layout_of size align).chunk
chunk_missed size align chunk order count colours reciprocal from a b fields a_is b_is above =
    let same = product_is from reciprocal chunk a b a_is b_is fields.reciprocal_is in
    let none = missed chunk count from fields.some (is_within _ _ _ _ _ _ _ fields) (omega arith) in
    let quotient : from / chunk ≡ from / (layout_of size align).chunk = ap (λ n. from / n) fields.chunk_is in
    omega (arith, fields.count_is)
