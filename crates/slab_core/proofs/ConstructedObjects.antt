-- `IsConstructed` holds for 0 objects at first, and for one more object after each object is constructed.
use Rattle.std.proofs.Common.{◌≡◌, ℕ, ◌+◌, ◌-◌, ◌*◌, ◌/◌, ◌%◌, ◌^◌, ◌<◌, ◌≤◌, Bool, true, false, cond, ltb, leb, List, length, Some, None, IsSome, refl, sym, ap, ◌∙◌, subst, ⊎_elim, arith}
use Rattle.std.specs.Prelude.{replicate, Option, if◌then◌else◌, nat_lt, nat_le, ◌&&◌, slice_index}
use Rattle.std.proofs.lemmas.Bool.{false≢true, and_parts, and_from, leb-true, ltb-true, le-leb, lt-ltb, cases_lt, false_from_ne_true}
use Rattle.std.proofs.lemmas.List.{get_or-replicate}
use Rattle.std.proofs.lemmas.Nat.{div-mul-add, mod-mul-add, div-add-mod', pow_pos}
use Rattle.std.proofs.Math.Nat.{mul-le-mul_right}
use Rattle.model_core.specs.Blocks.{block, HasFrame}
use Rattle.model_core.specs.Layouts.{IsLayout, IsFit, is_small, object_offset, object_place, pattern_byte}
use Rattle.model_core.proofs.BlocksApart.{in_block-from}
use Rattle.layout_core.specs.Objects.{IsColour}
use Rattle.space_core.specs.Content as spaces
use Rattle.space_core.specs.Laws.{SpaceLaws, IsSameFor, OwnBytes, SpareStays}
use Rattle.space_core.specs.Windows.{is_in_slot, home_of, byte_at, with_window}
use Rattle.space_core.proofs.BytesUnderSlots.{same_twice}
use Rattle.slab_tables.specs.declared.cache.Cache as own
use Rattle.slab_tables.specs.Content.{layout_numbers}
use Rattle.machine_changes.specs.Shows.{byte_or_zero}
use Rattle.machine_changes.proofs.PageHoldings.{same_space}
use Rattle.slab_core.specs.Calls.{IsFilled, IsConstructed}

-- if r' is v, and v differs from r only in its banks, r' differs from r only in its banks
pub banks_of : (r r' v : spaces.Content) → r' ≡ v → v ≡ record r { banks = v.banks } → r' ≡ record r { banks = r'.banks }
banks_of r r' v e h = e ∙ h ∙ ap (λ (x : spaces.Content). record r { banks = x.banks }) (sym e)

pub banks_twice : (r r' r'' : spaces.Content) → r' ≡ record r { banks = r'.banks } → r'' ≡ record r' { banks = r''.banks }
    → r'' ≡ record r { banks = r''.banks }
banks_twice r r' r'' e e' = e' ∙ ap (λ (x : spaces.Content). record x { banks = r''.banks }) e

some_if : {A : Type 0} (b : Bool) (o : Option A) → IsSome (cond b o None) → (b ≡ true) × IsSome o
some_if true o h = (refl, h)
some_if false o h = absurd (false≢true h)

pub spare_twice : (r r' r'' : spaces.Content) → SpareStays r r' → r'' ≡ record r' { banks = r''.banks } → SpareStays r' r'' → SpareStays r r''
spare_twice r r' r'' k e k' m none = k' m none ∙ k m (ap (λ (x : spaces.Content). spaces.owner_at x.owners m) (sym e) ∙ none)

-- if a range lies in one held slot, each non-empty range inside it lies in one held slot too
pub inner_held : (r : spaces.Content) (t place len p n : ℕ) → IsSome (home_of r t place len) → 0 < n → place ≤ p → p + n ≤ place + len
    → 0 < r.unit → IsSome (home_of r t p n)
inner_held r t place len p n home some low high unit =
    let both = some_if (is_in_slot r.unit place len) (spaces.superblock_at r.slots t (place / r.unit)) home in
    let parts = and_parts (nat_lt 0 len) (nat_le (place % r.unit + len) r.unit) both.0 in
    let fits : place % r.unit + len ≤ r.unit = leb-true (place % r.unit + len) r.unit parts.1 in
    let split : place / r.unit * r.unit + place % r.unit ≡ place = div-add-mod' place r.unit in
    let rest : ℕ = place % r.unit + (p - place) in
    let small : rest < r.unit = omega arith in
    let whole : place / r.unit * r.unit + rest ≡ p = omega arith in
    let slot : p / r.unit ≡ place / r.unit = subst (λ x. x / r.unit ≡ place / r.unit) whole (div-mul-add (place / r.unit) r.unit rest small) in
    let at : p % r.unit ≡ rest = subst (λ x. x % r.unit ≡ rest) whole (mod-mul-add (place / r.unit) r.unit rest small) in
    let inside : is_in_slot r.unit p n ≡ true =
    and_from (nat_lt 0 n) (nat_le (p % r.unit + n) r.unit) (lt-ltb 0 n some) (le-leb (p % r.unit + n) r.unit (omega arith)) in
    subst (λ b. IsSome (if b then spaces.superblock_at r.slots t (p / r.unit) else None)) (sym inside)
    (subst (λ u. IsSome (spaces.superblock_at r.slots t u)) (sym slot) both.1)

-- a write over a range in one held slot changes the bytes of the range, and no other byte of the tenant
module _ (r : spaces.Content) (t place len : ℕ) (w : List ℕ) (mine : OwnBytes r) (home : IsSome (home_of r t place len)) (sized : length w ≡ len) where
  abbrev pub filled : spaces.Content
  filled = with_window r t place len w

  pub in_range : (p : ℕ) → place ≤ p → p < place + len → byte_at filled t p ≡ Some (slice_index w (p - place))
  in_range p low high =
      mine.window t place len w home sized p
      ∙ ap (λ b. cond b (Some (slice_index w (p - place))) (byte_at r t p))
      (and_from (leb place p) (ltb p (place + len)) (le-leb place p low) (lt-ltb p (place + len) high))

  pub out_of_range : (p : ℕ) → (place ≤ p → p < place + len → ⊥) → byte_at filled t p ≡ byte_at r t p
  out_of_range p out =
      mine.window t place len w home sized p
      ∙ ap (λ b. cond b (Some (slice_index w (p - place))) (byte_at r t p))
      (false_from_ne_true (leb place p && ltb p (place + len)) (λ e.
      let both = and_parts (leb place p) (ltb p (place + len)) e in
      out (leb-true place p both.0) (ltb-true p (place + len) both.1)))

-- each place from the first byte of a block to its last lies in a frame of the block
pub inside_from : (p f k : ℕ) → 4096 * f ≤ p → p < 4096 * f + 4096 * 2 ^ k → HasFrame (block f k) (p / 4096)
inside_from p f k low high = (omega arith, omega arith)

module _ (cache : own.Cache) (f colour : ℕ) (cut : IsLayout cache.layout.size cache.layout.align (layout_numbers cache))
    (is : IsColour cache.layout colour) where
  pub fit : IsFit (layout_numbers cache) colour
  fit = subst (λ x. IsFit (layout_numbers cache) x) (sym is.1) (cut.fits is.0)

  -- if i < n, object i ends at or before the offset of object n, even if the slab has no object n
  pub ends : (i n : ℕ) → i < n → object_offset (layout_numbers cache) colour i + cache.layout.size ≤ object_offset (layout_numbers cache) colour n
  ends i n less =
      let rows : (i + 1) * (layout_numbers cache).chunk ≤ n * (layout_numbers cache).chunk = mul-le-mul_right _ (omega arith) in
      let sized : cache.layout.size ≤ (layout_numbers cache).chunk = cut.chunked in
      omega arith

  -- if the whole block lies in a held slot, each object does
  pub object_held : (r : spaces.Content) (t i place len : ℕ) → 0 < r.unit → IsSome (home_of r t (4096 * f) (4096 * 2 ^ (layout_numbers cache).order))
      → i < (layout_numbers cache).count → place ≡ 4096 * f + object_offset (layout_numbers cache) colour i → len ≡ cache.layout.size
      → IsSome (home_of r t place len)
  object_held r t i place len unit home object at size =
      let last : object_offset (layout_numbers cache) colour i + cache.layout.size ≤ object_offset (layout_numbers cache) colour (layout_numbers cache).count =
      ends i (layout_numbers cache).count object in
      let inside_room = fit.inside in
      let within = fit.within in
      let some = cut.sized in
      inner_held r t (4096 * f) (4096 * 2 ^ (layout_numbers cache).order) place len home (omega arith) (omega arith) (omega arith) unit

  pub one_more : (r0 r r' : spaces.Content) (t i place : ℕ) → place ≡ 4096 * f + object_offset (layout_numbers cache) colour i
      → SpaceLaws r → IsSome (home_of r t place cache.layout.size) → i < (layout_numbers cache).count
      → IsFilled r r' t place cache.layout.size cache.pattern
      → IsConstructed r0 r t cache f colour i → IsConstructed r0 r' t cache f colour (i + 1)
  one_more r0 r r' t i place at laws home object filling before =
      let mine : OwnBytes r = laws.own_bytes in
      let w = filling.bytes in
      let out : (p : ℕ) → (place ≤ p → p < place + cache.layout.size → ⊥) → byte_at r' t p ≡ byte_at r t p =
      λ p h. now p ∙ out_of_range r t place cache.layout.size w mine home filling.long p h in
      let last : object_offset (layout_numbers cache) colour i + cache.layout.size ≤ object_offset (layout_numbers cache) colour (layout_numbers cache).count =
      ends i (layout_numbers cache).count object in
      let inside_room = fit.inside in
      let within = fit.within in
      let frames : 0 < 2 ^ (layout_numbers cache).order = pow_pos (layout_numbers cache).order in
      record {
        space = banks_twice r0 r r' before.space (banks_of r r' (with_window r t place cache.layout.size w) filling.filled refl);
        others = λ u differ. same_twice u r0 r r' (before.others u differ)
            (subst (λ x. IsSameFor u r x) (sym filling.filled) (laws.others.window t place cache.layout.size w u differ));
        spare = spare_twice r0 r r' before.spare (banks_of r r' (with_window r t place cache.layout.size w) filling.filled refl)
            (subst (λ x. SpareStays r x) (sym filling.filled) (laws.spare.window t place cache.layout.size w));
        clear = λ small j less.
            let room = (fit.small small).1 in
            ap byte_or_zero (out (4096 * f + 4064 + j) (λ low high. absurd (omega arith))) ∙ before.clear small j less;
        objects = λ k j lower less. ⊎_elim (earlier k j less) (this k j lower less) (cases_lt k i);
        bytes = λ p outside. out p (λ low high. false≢true (sym outside ∙ in_block-from p (block f (layout_numbers cache).order)
            (inside_from p f (layout_numbers cache).order (omega arith) (omega arith)))) ∙ before.bytes p outside;
      }
    where
      now : (p : ℕ) → byte_at r' t p ≡ byte_at (with_window r t place cache.layout.size filling.bytes) t p
      now p = ap (λ x. byte_at x t p) filling.filled

      earlier : (k j : ℕ) → j < cache.layout.size → k < i
          → byte_at r' t (object_place (layout_numbers cache) f colour k + j) ≡ Some (pattern_byte cache.pattern j)
      earlier k j less lower =
          let before_this = ends k i lower in
          now (object_place (layout_numbers cache) f colour k + j)
          ∙ out_of_range r t place cache.layout.size filling.bytes laws.own_bytes home filling.long (object_place (layout_numbers cache) f colour k + j)
          (λ low high. absurd (omega arith))
          ∙ before.objects k j lower less

      this : (k j : ℕ) → k < i + 1 → j < cache.layout.size → i ≤ k
          → byte_at r' t (object_place (layout_numbers cache) f colour k + j) ≡ Some (pattern_byte cache.pattern j)
      this k j lower less high =
          let same : k ≡ i = omega arith in
          let here : object_place (layout_numbers cache) f colour k + j ≡ place + j =
          ap (λ n. object_place (layout_numbers cache) f colour n + j) same ∙ ap (λ n. n + j) (sym at) in
          let offset : place + j - place ≡ j = omega arith in
          ap (λ p. byte_at r' t p) here ∙ now (place + j)
          ∙ in_range r t place cache.layout.size filling.bytes laws.own_bytes home filling.long (place + j) (omega arith) (omega arith)
          ∙ ap (λ n. Some (slice_index filling.bytes n)) offset ∙ ap (λ b. Some b) (filling.constructed j less)

module _ (cache : own.Cache) (f colour : ℕ) where
  -- if the whole block lies in a held slot, the control record in its first frame does too
  pub record_held : (r : spaces.Content) (t : ℕ) → 0 < r.unit → IsSome (home_of r t (4096 * f) (4096 * 2 ^ (layout_numbers cache).order))
      → IsSome (home_of r t (4096 * f + 4064) 32)
  record_held r t unit home =
      let frames : 0 < 2 ^ (layout_numbers cache).order = pow_pos (layout_numbers cache).order in
      inner_held r t (4096 * f) (4096 * 2 ^ (layout_numbers cache).order) (4096 * f + 4064) 32 home (omega arith) (omega arith) (omega arith) unit

  -- if the objects are large, `IsConstructed` holds for 0 objects before anything is written
  pub begun : (r : spaces.Content) (t : ℕ) → is_small (layout_numbers cache).chunk ≡ false → IsConstructed r r t cache f colour 0
  begun r t large = record {
    space = refl;
    others = λ u differ. same_space u r;
    spare = λ m none. refl;
    clear = λ small j less. absurd (false≢true (sym large ∙ small));
    objects = λ i j lower less. absurd (omega arith);
    bytes = λ place outside. refl;
  }

  pub cleared : (r r' : spaces.Content) (t : ℕ) → SpaceLaws r → is_small (layout_numbers cache).chunk ≡ true
      → IsSome (home_of r t (4096 * f + 4064) 32) → r' ≡ with_window r t (4096 * f + 4064) 32 (replicate 32 0)
      → IsConstructed r r' t cache f colour 0
  cleared r r' t laws small home written =
      let mine : OwnBytes r = laws.own_bytes in
      let now : (p : ℕ) → byte_at r' t p ≡ byte_at (with_window r t (4096 * f + 4064) 32 (replicate 32 0)) t p = λ p. ap (λ x. byte_at x t p) written in
      let sized : length (replicate {A = ℕ} 32 0) ≡ 32 = refl in
      let frames : 0 < 2 ^ (layout_numbers cache).order = pow_pos (layout_numbers cache).order in
      record {
        space = banks_of r r' (with_window r t (4096 * f + 4064) 32 (replicate 32 0)) written refl;
        others = λ u differ. subst (λ x. IsSameFor u r x) (sym written) (laws.others.window t (4096 * f + 4064) 32 (replicate 32 0) u differ);
        spare = subst (λ x. SpareStays r x) (sym written) (laws.spare.window t (4096 * f + 4064) 32 (replicate 32 0));
        clear = λ _ j less.
            let offset : 4096 * f + 4064 + j - (4096 * f + 4064) ≡ j = omega arith in
            ap byte_or_zero (now (4096 * f + 4064 + j)
            ∙ in_range r t (4096 * f + 4064) 32 (replicate 32 0) mine home sized (4096 * f + 4064 + j) (omega arith) (omega arith)
            ∙ ap (λ n. Some (slice_index (replicate 32 0) n)) offset
            ∙ ap (λ b. Some b) (get_or-replicate 32 j 0 0 less));
        objects = λ i j lower less. absurd (omega arith);
        bytes = λ p outside. now p ∙ out_of_range r t (4096 * f + 4064) 32 (replicate 32 0) mine home sized p
            (λ low high. false≢true (sym outside ∙ in_block-from p (block f (layout_numbers cache).order)
            (inside_from p f (layout_numbers cache).order (omega arith) (omega arith))));
      }
