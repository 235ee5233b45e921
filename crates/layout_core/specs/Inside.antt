use Rattle.std.specs.Prelude.{◌≡◌, ℕ, ◌+◌, ◌/◌, ◌^◌, ◌<◌, ◌≤◌, ◌++◌, List, true, take, length, replicate}
use Rattle.model_core.specs.Layouts.{is_size, is_alignment, layout_of}

-- the least whole number above 2 ^ 32 / chunk
abbrev pub reciprocal_of : ℕ → ℕ
reciprocal_of chunk = 2 ^ 32 / chunk + 1

-- the fields of a `Layout`: an accepted size, an accepted alignment, and the numbers that follow from these two
pub record AreLayoutFields (size align chunk order count colours reciprocal : ℕ) : Type 0 where
  pub accepted_size : is_size size ≡ true
  pub accepted_align : is_alignment align ≡ true
  pub chunk_is : chunk ≡ (layout_of size align).chunk
  pub order_is : order ≡ (layout_of size align).order
  pub count_is : count ≡ (layout_of size align).count
  pub colours_is : colours ≡ (layout_of size align).colours
  pub reciprocal_is : reciprocal ≡ reciprocal_of chunk
  pub some : 0 < chunk
  pub sized : size ≤ chunk

-- the first 16 of these bytes, padded with zeros to 16 bytes
abbrev pub padded_to_16 : List ℕ → List ℕ
padded_to_16 xs = take 16 (xs ++ replicate 16 0)

-- the fields of a `Pattern`: 16 bytes, all 0 after the first `len`, and `len`, which is 1 to 16
pub record IsHeld (bytes : List ℕ) (len : ℕ) : Type 0 where
  pub some : 0 < len
  pub few : len ≤ 16
  pub padding : padded_to_16 (take len bytes) ≡ bytes
  pub taken : length (take len bytes) ≡ len
