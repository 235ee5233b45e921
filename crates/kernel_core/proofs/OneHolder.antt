-- Exactly one live page block or live object has a byte that is in reach, and none has another byte.
use Rattle.std.proofs.Common.{◌≡◌, ℕ, ◌+◌, ◌*◌, ◌^◌, ◌<◌, ◌≤◌, Bool, true, false, cond, leb, List, [], ◌∷◌, ◌++◌, map, length, Some, None, refl, sym, ap, ◌∙◌, subst, inl, inr, arith}
use Rattle.std.specs.Prelude.{filter, find, flat_map, ◌||◌, if◌then◌else◌}
use Rattle.std.specs.List.{list_any, AllByRecursion as Each}
use Rattle.std.proofs.lemmas.Bool.{and_parts, and_from, leb-true, le-leb, false≢true, false_from_ne_true, or_parts}
use Rattle.std.proofs.lemmas.Nat.{row_fits}
use Rattle.model_core.specs.declared.limits.TheConstants.{FRAME_BYTES}
use Rattle.model_core.specs.Blocks.{Block}
use Rattle.model_core.specs.Layouts.{IsFit, IsLayout, object_place}
use Rattle.model_core.specs.Machine.{Slab, Cache, Machine, in_block, layout, slab_block, slab_blocks, taken_blocks}
use Rattle.model_core.specs.Slabs.{LiveObject, live_from, live_in, live_objects}
use Rattle.model_core.specs.Reach.{is_within, within_block, within_objects, in_reach}
use Rattle.model_core.specs.WellFormed.{AreApart, IsCut, IsCache, IsWellFormed}
use Rattle.model_core.specs.Elements.{IsIn}
use Rattle.model_core.proofs.Layouts.{layouts_fit}
use Rattle.model_core.proofs.Lists.{any_append, any_map, any_flat_map}
use Rattle.model_core.proofs.BlocksApart.{in_block-from, apart_any}
use Rattle.kernel_core.specs.Holders.{block_holder, object_holder, live_holders, has_byte, OneHolder}

-- Counts

abbrev pub count : {X : Type 0} → (X → Bool) → List X → ℕ
count p xs = length (filter p xs)

abbrev pub one_if : Bool → ℕ
one_if v = if v then 1 else 0

pub count_step : {X : Type 0} (p : X → Bool) (x : X) (xs : List X) → count p (x ∷ xs) ≡ one_if (p x) + count p xs
count_step {X} p x xs = go (p x)
  where
    go : (v : Bool) → length (cond v (x ∷ filter p xs) (filter p xs)) ≡ one_if v + length (filter p xs)
    go true = omega arith
    go false = omega arith

pub count_append : {X : Type 0} (p : X → Bool) (xs ys : List X) → count p (xs ++ ys) ≡ count p xs + count p ys
count_append p [] ys = omega arith
count_append p (x ∷ xs) ys =
    let here = count_step p x (xs ++ ys) in
    let more = count_append p xs ys in
    let first = count_step p x xs in
    omega arith

count_map : {X Y : Type 0} (p : Y → Bool) (f : X → Y) (xs : List X) → count p (map f xs) ≡ count (λ x. p (f x)) xs
count_map p f [] = refl
count_map p f (x ∷ xs) =
    let here = count_step p (f x) (map f xs) in
    let more = count_map p f xs in
    let first = count_step (λ y. p (f y)) x xs in
    omega arith

-- if the test p implies the test q, no more elements pass p than pass q
count_less : {X : Type 0} (p q : X → Bool) → ((x : X) → p x ≡ true → q x ≡ true) → (xs : List X) → count p xs ≤ count q xs
count_less p q implies [] = omega arith
count_less {X} p q implies (x ∷ xs) =
    let here = count_step p x xs in
    let there = count_step q x xs in
    let more = count_less p q implies xs in
    let one = go (p x) refl in
    omega arith
  where
    go : (v : Bool) → p x ≡ v → one_if (p x) ≤ one_if (q x)
    go true is = let l = ap one_if is in let r = ap one_if (implies x is) in omega arith
    go false is = let l = ap one_if is in omega arith

-- if the list of each element has no more passing elements than another list of the same element, neither have all lists together
count_lists : {X Y Z : Type 0} (p : Y → Bool) (q : Z → Bool) (f : X → List Y) (g : X → List Z) (xs : List X) → Each (λ x. count p (f x) ≤ count q (g x)) xs
    → count p (flat_map f xs) ≤ count q (flat_map g xs)
count_lists p q f g [] each = omega arith
count_lists p q f g (x ∷ xs) (here, each) =
    let left = count_append p (f x) (flat_map f xs) in
    let right = count_append q (g x) (flat_map g xs) in
    let more = count_lists p q f g xs each in
    omega arith

count_none : {X : Type 0} (p : X → Bool) (xs : List X) → list_any p xs ≡ false → count p xs ≡ 0
count_none p [] none = refl
count_none p (x ∷ xs) none =
    let parts = or_parts (p x) (list_any p xs) none in
    let here = count_step p x xs in
    let zero = ap one_if parts.0 in
    let more = count_none p xs parts.1 in
    omega arith

count_some : {X : Type 0} (p : X → Bool) (xs : List X) → list_any p xs ≡ true → 1 ≤ count p xs
count_some p [] some = absurd (false≢true some)
count_some {X} p (x ∷ xs) some = go (p x) refl some (count_some p xs)
  where
    go : (v : Bool) → p x ≡ v → (v || list_any p xs) ≡ true → (list_any p xs ≡ true → 1 ≤ count p xs) → 1 ≤ count p (x ∷ xs)
    go true is _ _ = let here = count_step p x xs in let one = ap one_if is in omega arith
    go false is later more = let here = count_step p x xs in let rest = more later in omega arith

pub none_counted : {X : Type 0} (p : X → Bool) (xs : List X) → count p xs ≡ 0 → list_any p xs ≡ false
none_counted p xs zero = false_from_ne_true (list_any p xs) (λ some. let one = count_some p xs some in absurd (omega arith))

-- if at most one element passes, the number of elements that pass is 1 if some element passes, and 0 otherwise
count_is : {X : Type 0} (p : X → Bool) (xs : List X) → count p xs ≤ 1 → count p xs ≡ one_if (list_any p xs)
count_is {X} p xs few = go (list_any p xs) refl
  where
    go : (v : Bool) → list_any p xs ≡ v → count p xs ≡ one_if v
    go true some = let more = count_some p xs some in omega arith
    go false none = let zero = count_none p xs none in omega arith

pub count_in : {X : Type 0} (p : X → Bool) (x : X) (xs : List X) → IsIn x xs → p x ≡ true → 1 ≤ count p xs
count_in p x [] i is = elim i [ ]
count_in p x (y ∷ ys) (inl same) is = let here = count_step p y ys in let one = ap one_if (ap p same ∙ is) in omega arith
count_in p x (y ∷ ys) (inr i) is = let here = count_step p y ys in let more = count_in p x ys i is in omega arith

-- if at most one element passes, `find` finds each element that passes
pub find_only : {X : Type 0} (p : X → Bool) (x : X) (xs : List X) → count p xs ≤ 1 → IsIn x xs → p x ≡ true → find p xs ≡ Some x
find_only p x [] few i is = elim i [ ]
find_only {X} p x (y ∷ ys) few i is = go (p y) refl i (λ less j. find_only p x ys less j is)
  where
    go : (v : Bool) → p y ≡ v → IsIn x (y ∷ ys) → (count p ys ≤ 1 → IsIn x ys → find p ys ≡ Some x) → cond v (Some y) (find p ys) ≡ Some x
    go true passes (inl same) more = ap (λ z. Some z) same
    go true passes (inr j) _ =
        let here = count_step p y ys in
        let one = ap one_if passes in
        let later = count_in p x ys j is in
        absurd (omega arith)
    go false fails (inl same) more = absurd (false≢true (sym fails ∙ ap p same ∙ is))
    go false fails (inr j) more =
        let here = count_step p y ys in
        let zero = ap one_if fails in
        more (omega arith) j

pub find_no : {X : Type 0} (p : X → Bool) (xs : List X) → list_any p xs ≡ false → find p xs ≡ None
find_no p [] none = refl
find_no p (x ∷ xs) none =
    let parts = or_parts (p x) (list_any p xs) none in
    ap (λ v. cond v (Some x) (find p xs)) parts.0 ∙ find_no p xs parts.1

-- Blocks

-- at most one of the blocks has a place, if they are apart
pub one_block : (place : ℕ) (bs : List Block) → AreApart bs → count (in_block place) bs ≤ 1
one_block place [] apart = omega arith
one_block place (b ∷ bs) (here, apart) =
    let step = count_step (in_block place) b bs in
    let bound = go (in_block place b) refl (one_block place bs apart) in
    omega arith
  where
    go : (v : Bool) → in_block place b ≡ v → count (in_block place) bs ≤ 1 → one_if (in_block place b) + count (in_block place) bs ≤ 1
    go true is _ = let none = count_none (in_block place) bs (apart_any place b bs here is) in let one = ap one_if is in omega arith
    go false is more = let zero = ap one_if is in omega arith

pub within_parts : (place len begin size : ℕ) → is_within place len begin size ≡ true → (begin ≤ place) × (place + len ≤ begin + size)
within_parts place len begin size is =
    let p = and_parts (leb begin place) (leb (place + len) (begin + size)) is in
    (leb-true begin place p.0, leb-true (place + len) (begin + size) p.1)

pub within_from : (place len begin size : ℕ) → begin ≤ place → place + len ≤ begin + size → is_within place len begin size ≡ true
within_from place len begin size low high =
    and_from (leb begin place) (leb (place + len) (begin + size)) (le-leb begin place low) (le-leb (place + len) (begin + size) high)

byte_in_block : (place : ℕ) (b : Block) → has_byte place (block_holder b) ≡ true → in_block place b ≡ true
byte_in_block place b is =
    let p = within_parts place 1 (FRAME_BYTES * b.first) (FRAME_BYTES * 2 ^ b.order) is in
    in_block-from place b (omega (arith, p.0), omega (arith, p.1))

-- Objects of one slab

module _ (c : Cache) (s : Slab) (place : ℕ) (fit : IsFit (layout c) s.colour) (small : c.size ≤ (layout c).chunk) where
  abbrev test : LiveObject → Bool
  test o = has_byte place (object_holder c o)

  abbrev start : ℕ → ℕ
  start i = object_place (layout c) s.first s.colour i

  next : (i : ℕ) → start (i + 1) ≡ start i + (layout c).chunk
  next i = let p : (i + 1) * (layout c).chunk ≡ i * (layout c).chunk + (layout c).chunk = omega arith in omega (arith, p)

  -- no object that begins after the place has the byte
  none_after : (i : ℕ) (flags : List Bool) → place < start i → count test (live_from c s i flags) ≡ 0
  none_after i [] less = refl
  none_after i (flag ∷ flags) less = go flag (none_after (i + 1) flags (let n = next i in omega arith))
    where
      fails : test (record { slab = s; index = i; place = start i }) ≡ false
      fails = false_from_ne_true _ (λ is. let p = within_parts place 1 (start i) c.size is in absurd (omega (arith, p.0)))

      go : (v : Bool) → count test (live_from c s (i + 1) flags) ≡ 0
          → count test (cond v (record { slab = s; index = i; place = start i } ∷ live_from c s (i + 1) flags) (live_from c s (i + 1) flags)) ≡ 0
      go true more =
          let here = count_step test (record { slab = s; index = i; place = start i }) (live_from c s (i + 1) flags) in
          let zero = ap one_if fails in
          omega arith
      go false more = more

  -- at most one object has the byte
  one_object : (i : ℕ) (flags : List Bool) → count test (live_from c s i flags) ≤ 1
  one_object i [] = omega arith
  one_object i (flag ∷ flags) = go flag (one_object (i + 1) flags)
    where
      this : LiveObject
      this = record { slab = s; index = i; place = start i }

      with_this : (v : Bool) → test this ≡ v → count test (live_from c s (i + 1) flags) ≤ 1 → count test (this ∷ live_from c s (i + 1) flags) ≤ 1
      with_this true is more =
          let p = within_parts place 1 (start i) c.size is in
          let n = next i in
          let none = none_after (i + 1) flags (omega (arith, p.1, small, n)) in
          let here = count_step test this (live_from c s (i + 1) flags) in
          let one = ap one_if is in
          omega arith
      with_this false is more =
          let here = count_step test this (live_from c s (i + 1) flags) in
          let zero = ap one_if is in
          omega arith

      go : (v : Bool) → count test (live_from c s (i + 1) flags) ≤ 1
          → count test (cond v (this ∷ live_from c s (i + 1) flags) (live_from c s (i + 1) flags)) ≤ 1
      go true more = with_this (test this) refl more
      go false more = more

  -- a byte of an object lies in the slab
  in_slab : (i : ℕ) → i < (layout c).count → is_within place 1 (start i) c.size ≡ true → in_block place (slab_block c s) ≡ true
  in_slab i less is =
      let p = within_parts place 1 (start i) c.size is in
      let row : i * (layout c).chunk + (layout c).chunk ≤ (layout c).count * (layout c).chunk = row_fits i (layout c).chunk (layout c).count (layout c).chunk less (omega arith) in
      let inside : s.colour + (layout c).count * (layout c).chunk ≤ (layout c).room = fit.inside in
      let within : (layout c).room ≤ FRAME_BYTES * 2 ^ (layout c).order = fit.within in
      let high : place < FRAME_BYTES * s.first + FRAME_BYTES * 2 ^ (layout c).order = omega (arith, p.1, small, row, inside, within) in
      in_block-from place (slab_block c s) (omega (arith, p.0), omega (arith, high))

  none_outside : in_block place (slab_block c s) ≡ false → (i : ℕ) (flags : List Bool) → i + length flags ≤ (layout c).count
      → count test (live_from c s i flags) ≡ 0
  none_outside out i [] few = refl
  none_outside out i (flag ∷ flags) few = go flag (none_outside out (i + 1) flags (omega arith))
    where
      this : LiveObject
      this = record { slab = s; index = i; place = start i }

      fails : test this ≡ false
      fails = false_from_ne_true _ (λ is. false≢true (sym out ∙ in_slab i (omega arith) is))

      go : (v : Bool) → count test (live_from c s (i + 1) flags) ≡ 0
          → count test (cond v (this ∷ live_from c s (i + 1) flags) (live_from c s (i + 1) flags)) ≡ 0
      go true more =
          let here = count_step test this (live_from c s (i + 1) flags) in
          let zero = ap one_if fails in
          omega arith
      go false more = more

  -- at most one object of the slab has the byte, and none if the place lies outside the slab
  slab_count : length s.live ≡ (layout c).count → count test (live_in c s) ≤ one_if (in_block place (slab_block c s))
  slab_count cut = go (in_block place (slab_block c s)) refl
    where
      go : (v : Bool) → in_block place (slab_block c s) ≡ v → count test (live_in c s) ≤ one_if v
      go true is = one_object 0 s.live
      go false out = let zero = none_outside out 0 s.live (omega (arith, cut)) in omega arith

-- Objects of one cache

slabs_count : (c : Cache) (place : ℕ) (ss : List Slab) → IsCache c → Each (IsCut c) ss
    → count (λ o. has_byte place (object_holder c o)) (flat_map (live_in c) ss) ≤ count (in_block place) (map (slab_block c) ss)
slabs_count c place [] is each = omega arith
slabs_count c place (s ∷ ss) is (cut, each) =
    let fits : IsLayout c.size c.align (layout c) = layouts_fit c.size c.align is.sized is.aligned in
    let fit : IsFit (layout c) s.colour = subst (IsFit (layout c)) (sym cut.colour.1) (fits.fits cut.colour.0) in
    let here = slab_count c s place fit fits.chunked cut.count in
    let left = count_append (λ o. has_byte place (object_holder c o)) (live_in c s) (flat_map (live_in c) ss) in
    let right = count_step (in_block place) (slab_block c s) (map (slab_block c) ss) in
    let more = slabs_count c place ss is each in
    omega arith

cache_count : (place : ℕ) (c : Cache) → IsCache c → count (has_byte place) (map (object_holder c) (live_objects c)) ≤ count (in_block place) (slab_blocks c)
cache_count place c is =
    let mapped = count_map (has_byte place) (object_holder c) (live_objects c) in
    let less = slabs_count c place c.slabs is is.slabs_cut in
    omega arith

caches_count : (place : ℕ) (cs : List Cache) → Each IsCache cs
    → Each (λ c. count (has_byte place) (map (object_holder c) (live_objects c)) ≤ count (in_block place) (slab_blocks c)) cs
caches_count place [] each = tt
caches_count place (c ∷ cs) (is, each) = (cache_count place c is, caches_count place cs each)

-- All live page blocks and live objects

module _ {limit : ℕ} (order : ℕ) (m : Machine) (w : IsWellFormed limit order m) (place : ℕ) where
  -- at most one taken block has the place
  pub one_taken : count (in_block place) (m.blocks ++ flat_map slab_blocks m.caches) ≤ 1
  unfolding taken_blocks
  one_taken = one_block place (m.blocks ++ flat_map slab_blocks m.caches) w.apart

  pub few_holders : count (has_byte place) (live_holders m) ≤ 1
  few_holders =
      let left = count_append (has_byte place) (map block_holder m.blocks) (flat_map (λ c. map (object_holder c) (live_objects c)) m.caches) in
      let right = count_append (in_block place) m.blocks (flat_map slab_blocks m.caches) in
      let mapped = count_map (has_byte place) block_holder m.blocks in
      let blocks = count_less (λ b. has_byte place (block_holder b)) (in_block place) (byte_in_block place) m.blocks in
      let objects = count_lists (has_byte place) (in_block place) (λ c. map (object_holder c) (live_objects c)) slab_blocks m.caches (caches_count place m.caches w.caches) in
      let one = one_taken in
      omega arith

  pub few_pages : count (has_byte place) (map block_holder m.blocks) ≤ 1
  few_pages =
      let all = few_holders in
      let both = count_append (has_byte place) (map block_holder m.blocks) (flat_map (λ c. map (object_holder c) (live_objects c)) m.caches) in
      omega arith

-- a byte is in reach if and only if some live page block or live object has it
pub reach_is : (m : Machine) (place : ℕ) → in_reach m place 1 ≡ list_any (has_byte place) (live_holders m)
unfolding in_reach
reach_is m place =
    let objects : list_any (has_byte place) (flat_map (λ c. map (object_holder c) (live_objects c)) m.caches) ≡ list_any (within_objects place 1) m.caches =
    any_flat_map (has_byte place) (λ c. map (object_holder c) (live_objects c)) m.caches
    ∙ ap (λ (p : Cache → Bool). list_any p m.caches) (λ i c. any_map (has_byte place) (object_holder c) (live_objects c) i) in
    sym (any_append (has_byte place) (map block_holder m.blocks) (flat_map (λ c. map (object_holder c) (live_objects c)) m.caches)
    ∙ ap (λ v. v || list_any (has_byte place) (flat_map (λ c. map (object_holder c) (live_objects c)) m.caches)) (any_map (has_byte place) block_holder m.blocks)
    ∙ ap (λ v. list_any (within_block place 1) m.blocks || v) objects)

pub one_holder : OneHolder
one_holder limit order m w place =
    count_is (has_byte place) (live_holders m) (few_holders order m w place) ∙ ap one_if (sym (reach_is m place))
