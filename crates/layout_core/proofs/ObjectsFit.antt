-- The objects of a layout end within the slab.
use Rattle.std.proofs.Common.{◌≡◌, ℕ, ◌+◌, ◌-◌, ◌*◌, ◌/◌, ◌^◌, ◌<◌, ◌≤◌, true, refl, arith, ap, subst, sym, ◌∙◌}
use Rattle.std.proofs.Math.Nat.{mul-le-mul_right, pow-le-pow_right}
use Rattle.model_core.proofs.Layouts.{layouts_fit}
use Rattle.model_core.specs.Layouts.{IsFit, layout_of, chunk_of, slab_order, usable_bytes, is_size, is_alignment}
use Rattle.layout_core.specs.Cut.{Cut, numbers_of}
use Rattle.layout_core.specs.Inside.{AreLayoutFields, reciprocal_of}
use Rattle.layout_core.specs.Objects.{IsColour}

pub colour_fits : (l : Cut) (colour : ℕ) → is_size l.size ≡ true → is_alignment l.align ≡ true → IsColour l colour → IsFit (numbers_of l) colour
colour_fits l colour sized aligned is =
    subst (λ x. IsFit (numbers_of l) x) (sym is.1) ((layouts_fit l.size l.align sized aligned).fits is.0)

-- in any slab, the chunk of each object ends within the first 32768 bytes
pub ends_within : (l : Cut) (colour chunk i : ℕ) → is_size l.size ≡ true → is_alignment l.align ≡ true → IsColour l colour
    → chunk ≡ (numbers_of l).chunk → i < (numbers_of l).count → colour + (i + 1) * chunk ≤ 32768
ends_within l colour chunk i sized aligned is same object =
    let fit = colour_fits l colour sized aligned is in
    let order = (layouts_fit l.size l.align sized aligned).order in
    let power : 2 ^ (numbers_of l).order ≤ 2 ^ 3 = pow-le-pow_right (omega arith) order in
    let rows : (i + 1) * (numbers_of l).chunk ≤ (numbers_of l).count * (numbers_of l).chunk = mul-le-mul_right _ (omega arith) in
    let at : (i + 1) * chunk ≡ (i + 1) * (numbers_of l).chunk = ap (λ n. (i + 1) * n) same in
    omega arith

-- the fields that `Layout::of` computes are the numbers that follow from the size and the alignment
pub is_cut : (size align chunk order usable : ℕ) → is_size size ≡ true → is_alignment align ≡ true
    → chunk ≡ chunk_of size align → order ≡ slab_order chunk → usable ≡ usable_bytes chunk
    → AreLayoutFields size align chunk order (usable / chunk) ((usable - usable / chunk * chunk) / align + 1) (reciprocal_of chunk)
unfolding layout_of
is_cut size align chunk order usable sized aligned same same_order same_usable =
    let fits = layouts_fit size align sized aligned in
    let chunked = (fits.fits 0).chunked in
    let at : usable ≡ usable_bytes (chunk_of size align) = same_usable ∙ ap usable_bytes same in
    record {
      accepted_size = sized;
      accepted_align = aligned;
      chunk_is = same;
      order_is = same_order ∙ ap slab_order same;
      count_is = ap (λ n. n / chunk) at ∙ ap (λ n. usable_bytes (chunk_of size align) / n) same;
      colours_is = ap (λ n. (n - n / chunk * chunk) / align + 1) at ∙ ap (λ c. (usable_bytes (chunk_of size align) - usable_bytes (chunk_of size align) / c * c) / align + 1) same;
      reciprocal_is = refl;
      some = omega (arith, chunked, same);
      sized = omega (arith, fits.chunked, same);
    }
