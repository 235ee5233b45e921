-- The first free object of a slab is not live, lies in the slab's superblock, and is the object that the machine takes.
use Rattle.std.proofs.Common.{◌≡◌, ℕ, suc, ◌+◌, ◌*◌, ◌/◌, ◌%◌, ◌^◌, ◌<◌, ◌≤◌, Bool, true, false, not, if◌then◌else◌, List, [], ◌∷◌, Option, Some, None, IsSome, Ok, length, get_or, refl, sym, ap, ◌∙◌, subst, arith}
use Rattle.std.specs.List.{position_or_len}
use Rattle.std.proofs.lemmas.Bool.{false≢true}
use Rattle.std.proofs.lemmas.Nat.{row_fits}
use Rattle.std.proofs.Math.Nat.{pow-le-pow_right, div-div-eq-div-mul}
use Rattle.model_core.specs.declared.limits.TheConstants.{FRAME_BYTES, WIDE_FRAMES}
use Rattle.model_core.specs.Blocks.{block, HasFrame}
use Rattle.model_core.proofs.BlocksByNumber.{number_of_frame, same_slot}
use Rattle.model_core.specs.Layouts.{IsFit, object_offset, object_place}
use Rattle.model_core.specs.Machine as model
use Rattle.model_core.specs.Machine.{Machine}
use Rattle.model_core.specs.Slabs.{cache_of, slab_of, next_object}
use Rattle.model_core.specs.CacheOperations.{hand_out}
use Rattle.space_core.specs.Content as spaces
use Rattle.space_core.specs.Windows.{is_in_slot, home_of}
use Rattle.space_core.proofs.Ranges.{range_held}
use Rattle.space_core.proofs.PlacesEnd.{home_end}
use Rattle.buddy_core.specs.Content as buddies
use Rattle.slab_tables.specs.declared.cache.Cache as own
use Rattle.slab_tables.specs.Content.{Content, kept_at, layout_numbers}
use Rattle.machine_changes.specs.Records.{count_true}
use Rattle.machine_changes.specs.Shows.{is_live, live_of, IsSlab, ShowsMachine}
use Rattle.machine_changes.specs.Slots.{HoldTogether}
use Rattle.machine_changes.specs.Steady.{IsSteady}
use Rattle.machine_changes.proofs.Lookups.{some_same}
use Rattle.machine_changes.proofs.ObjectFlags.{length_flags, flag_at}
use Rattle.machine_changes.proofs.SlabFacts.{under_is, superblock_of_machine_frame, shown, slab_shown, cache_shown}
use Rattle.slab_core.proofs.SlabFacts.{IsHeld, held}
use Rattle.slab_core.proofs.SlabOfObject.{in_frame, object_within}

-- index i is below the number of flags, and flag i is false
pub record IsDown (xs : List Bool) (i : ℕ) : Type 0 where
  pub within : i < length xs
  pub down : get_or xs i false ≡ false

pub down_found : (xs : List Bool) → count_true xs < length xs → IsDown xs (position_or_len not xs)
down_found [] less = absurd (omega arith)
down_found (true ∷ xs) less =
    let rest = down_found xs (omega arith) in
    let w = rest.within in
    let next : position_or_len not (true ∷ xs) ≡ suc (position_or_len not xs) = omega arith in
    subst (IsDown (true ∷ xs)) (sym next) (record { within = omega arith; down = rest.down })
down_found (false ∷ xs) less = record { within = omega arith; down = refl }

-- object i is the first free object of the slab at frame f, machine frame n
pub record IsLeastFree (r : spaces.Content) (b : buddies.Content) (s : Content) (t c f n i : ℕ) (cache : own.Cache) : Type 0 where
  pub parts : HoldTogether r b s
  pub steady : IsSteady r b s t
  pub slab : IsSlab r s t c f n cache
  pub free : (kept_at s.kept n).live < (layout_numbers cache).count
  pub is : i ≡ position_or_len not (live_of r t cache (kept_at s.kept n) f)

module _ {r : spaces.Content} {b : buddies.Content} {s : Content} {t c f n i : ℕ} {cache : own.Cache} (o : IsLeastFree r b s t c f n i cache) where
  h : IsHeld r b s t c f n cache
  h = held r b s t c f n cache o.parts.slabs o.parts.agree o.slab

  long : length (live_of r t cache (kept_at s.kept n) f) ≡ (layout_numbers cache).count
  long = length_flags 0 (layout_numbers cache).count (is_live r t cache (kept_at s.kept n) f)

  is_down : IsDown (live_of r t cache (kept_at s.kept n) f) i
  is_down =
      subst (IsDown (live_of r t cache (kept_at s.kept n) f)) (sym o.is)
      (down_found (live_of r t cache (kept_at s.kept n) f) (omega (arith, h.counted, long, o.free)))

  pub object_below : i < (layout_numbers cache).count
  object_below = omega (arith, is_down.within, long)

  pub not_live : is_live r t cache (kept_at s.kept n) f i ≡ false
  not_live = sym (flag_at (layout_numbers cache).count i (is_live r t cache (kept_at s.kept n) f) false object_below) ∙ is_down.down

  pub first_few : f < WIDE_FRAMES
  first_few = o.steady.few f (layout_numbers cache).order h.taken

  pub offset_few : object_offset (layout_numbers cache) (kept_at s.kept n).colour i < 32769
  offset_few =
      let fit : IsFit (layout_numbers cache) (kept_at s.kept n).colour = subst (λ x. IsFit (layout_numbers cache) x) (sym h.listed.colour.1) (h.layout.fits h.listed.colour.0) in
      let within = object_within (layout_numbers cache) (kept_at s.kept n).colour i fit object_below in
      let frames : 2 ^ (layout_numbers cache).order ≤ 2 ^ 3 = pow-le-pow_right {n = 2} (omega arith) h.layout.order in
      omega arith

  -- all bytes of the object lie in the superblock of its slab
  module _ (place size : ℕ) (at : place ≡ 4096 * f + object_offset (layout_numbers cache) (kept_at s.kept n).colour i) (sized : size ≡ cache.layout.size) where
    under : (m : ℕ) × (spaces.superblock_at r.slots t (f / 2 ^ s.top) ≡ Some m) × (n ≡ m * 2 ^ s.top + f % 2 ^ s.top)
    under = under_is s.top f n (spaces.superblock_at r.slots t (f / 2 ^ s.top)) o.slab.under

    superblock_is : n / 2 ^ s.top ≡ under.0
    superblock_is = ap (λ x. x / 2 ^ s.top) under.2 ∙ superblock_of_machine_frame s.top under.0 f

    ends : place + size ≤ 4096 * (f + 2 ^ (layout_numbers cache).order)
    ends =
        let l = layout_numbers cache in
        let fit : IsFit l (kept_at s.kept n).colour = subst (λ x. IsFit l x) (sym h.listed.colour.1) (h.layout.fits h.listed.colour.0) in
        let row : i * l.chunk + l.chunk ≤ l.count * l.chunk = row_fits i l.chunk l.count l.chunk object_below (omega arith) in
        let inside = fit.inside in
        let within : l.room ≤ 4096 * 2 ^ l.order = fit.within in
        let chunked = h.layout.chunked in
        omega arith

    -- the object's first place lies in the same slot as the slab
    slot_is : place / r.unit ≡ f / 2 ^ s.top
    slot_is =
        let k = (layout_numbers cache).order in
        let placed = o.steady.sound.placed f k h.taken in
        let some = h.layout.sized in
        let off : ℕ = object_offset (layout_numbers cache) (kept_at s.kept n).colour i in
        let frame : HasFrame (block f k) (place / 4096) = subst (λ p. HasFrame (block f k) (p / 4096)) (sym at) (in_frame f k off (omega (arith, ends))) in
        ap (λ u. place / u) o.parts.agree.unit
        ∙ (sym (div-div-eq-div-mul place 4096 (2 ^ s.top)) ∙ same_slot s.top k (place / 4096) f placed.0.0 (number_of_frame f k (place / 4096) placed.0.1 frame))

    pub home_is : home_of r t place size ≡ Some (n / 2 ^ s.top)
    home_is =
        let k = (layout_numbers cache).order in
        let placed = o.steady.sound.placed f k h.taken in
        let some = h.layout.sized in
        let held = range_held r t s.top f k place size o.parts.agree.unit placed.0.0 placed.0.1 placed.1 (omega arith) (omega arith) ends in
        go (is_in_slot r.unit place size) (spaces.superblock_at r.slots t (place / r.unit)) held
        (ap (spaces.superblock_at r.slots t) slot_is ∙ (under.1 ∙ ap (λ x. Some x) (sym superblock_is)))
      where
        go : (v : Bool) (found : Option ℕ) → IsSome (if v then found else None) → found ≡ Some (n / 2 ^ s.top) → (if v then found else None) ≡ Some (n / 2 ^ s.top)
        go true found some is = is
        go false found none is = absurd (false≢true none)

    -- the object ends at or below 2 ^ 32
    pub end_small : place + size ≤ FRAME_BYTES * WIDE_FRAMES
    end_small = home_end o.parts.space.facts t place size (n / 2 ^ s.top) home_is

  module _ (m : Machine) (x : model.Cache) (y : model.Slab) (g : ShowsMachine r b s t m) (ex : cache_of m c ≡ Some x) (ey : slab_of x f ≡ Some y) where
    slab_is : y ≡ shown r s t c cache o.slab.cached f n
    slab_is = some_same (sym ey ∙ (g.slabs c f x cache ex o.slab.cached ∙ slab_shown r s t c cache o.slab.cached f n o.slab))

    layout_is : model.layout x ≡ layout_numbers cache
    layout_is =
        let there = cache_shown r b s t m g c cache o.slab.cached in
        ap model.layout (some_same (sym ex ∙ there.cached)) ∙ there.layout

    pub next_is : next_object y ≡ i
    next_is = ap next_object slab_is ∙ sym o.is

    pub answered : (place : ℕ) → place ≡ 4096 * f + object_offset (layout_numbers cache) (kept_at s.kept n).colour i → Ok place ≡ (hand_out x y m).answer
    answered place e =
        ap (λ (p : ℕ). Ok p)
        (e ∙ sym (ap (λ j. object_place (model.layout x) y.first y.colour j) next_is
        ∙ (ap (λ z. object_place (model.layout x) z.first z.colour i) slab_is ∙ ap (λ l. object_place l f (kept_at s.kept n).colour i) layout_is)))
