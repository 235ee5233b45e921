-- A block that is seen as taken is taken. The block that a machine chooses passes `can_stand`. If the machine chooses no block of
-- an order, no block of that order is seen as vacant.
use Rattle.std.proofs.Common.{◌≡◌, ℕ, ◌+◌, ◌-◌, ◌*◌, ◌/◌, ◌%◌, ◌^◌, ◌<◌, ◌≤◌, Bool, true, false, not, eqb, ltb, List, [], ◌∷◌, ◌++◌, map, length, Option, Some, None, refl, sym, ap, ◌∙◌, subst, inl, inr, ⊎_elim, arith}
use Rattle.std.specs.Prelude.{filter, flat_map, is_some, option_map}
use Rattle.std.specs.List.{list_any, range_with_len, AllByRecursion as Each}
use Rattle.std.proofs.Math.Nat.{div-div-eq-div-mul, div-eq_of_lt-le, mul-div_cancel}
use Rattle.std.proofs.lemmas.Nat.{pow_pos, pow-add}
use Rattle.std.proofs.lemmas.Bool.{false≢true, and_parts, and_from, not-true, not-false, not_from_false, false_from_ne_true, ltb-true, le-leb, eq-eqb, cases_lt}
use Rattle.model_core.specs.Blocks.{Block, block}
use Rattle.model_core.specs.Choice.{choose}
use Rattle.model_core.specs.Layouts.{object_place}
use Rattle.model_core.specs.Machine.{Slab, Cache, Machine, holds, beyond, layout, slab_block, slab_blocks, taken_in, choice}
use Rattle.model_core.specs.Machine as model
use Rattle.model_core.specs.Slabs.{LiveObject, live_from, live_in, live_objects, is_empty, without_empty, reaped, by_need, choice_by_need}
use Rattle.model_core.specs.Operations.{overlaps}
use Rattle.model_core.specs.WellFormed.{IsApart, IsWellFormed}
use Rattle.model_core.specs.Elements.{IsIn}
use Rattle.model_core.proofs.Lists.{none_in, each_in, each_from, filter_in, any_none, none_any, any_in, in_left, in_right, in_map, map_in, in_append, flat_map_in, in_flat_map}
use Rattle.model_core.proofs.BlocksByNumber.{aligned_first}
use Rattle.model_core.proofs.BlocksApart.{in_block-true, overlap_from}
use Rattle.model_core.proofs.LaidSlabs.{Laid, laid, all_laid, laid_block, IsCutLaid, IsLaidOut, laid_out}
use Rattle.model_core.proofs.CacheSteps.{in_all_laid}
use Rattle.model_core.proofs.Objects.{IsByteOf, byte_is_of, IsLive, live_is}
use Rattle.model_core.proofs.ChosenBlock.{held_below, chosen_apart, chosen_placed}
use Rattle.model_core.proofs.ReapingByNeed.{by_need_keeps, by_need_none, by_need_reaps}
use Rattle.model_core.proofs.PageSteps.{by_need_kept}
use Rattle.model_core.proofs.VacantBlocks.{IsVacant, some_choice}
use Rattle.model_core.proofs.Room.{range_in}
use Rattle.model_core.proofs.TakenSteps.{order_in_is}
use Rattle.promise_core.specs.Holdings.{slab_around, known_blocks, is_vacant, can_stand, blocks_of_slot, vacant_blocks, has_vacant_block}
use Rattle.promise_core.proofs.ObjectGrids.{around_is}
use Rattle.promise_kept.specs.Meets.{cache_as_known, holdings_of}
use Rattle.promise_kept.proofs.EmptySlabsUnseen.{holdings_reaped}

-- Blocks

pub overlap_shares : (a b : Block) → overlaps a b ≡ true → IsApart a b → ⊥
overlap_shares a b e apart =
    let p = and_parts (ltb a.first (b.first + 2 ^ b.order)) (ltb b.first (a.first + 2 ^ a.order)) e in
    let low : a.first < b.first + 2 ^ b.order = ltb-true a.first (b.first + 2 ^ b.order) p.0 in
    let high : b.first < a.first + 2 ^ a.order = ltb-true b.first (a.first + 2 ^ a.order) p.1 in
    ⊎_elim (λ less. apart b.first (omega arith, high) (omega arith, omega (arith, pow_pos b.order)))
    (λ more. apart a.first (omega arith, omega (arith, pow_pos a.order)) (more, low)) (cases_lt a.first b.first)

-- Slabs of live objects

-- the slab that is seen around the first place of a live object is the object's slab
pub slab_seen : {limit : ℕ} (order : ℕ) (m : Machine) (c : Cache) (o : LiveObject) → IsWellFormed limit order m → IsIn c m.caches → IsIn o (live_objects c)
    → slab_around (cache_as_known c) o.place ≡ slab_block c o.slab
slab_seen order m c o w in_c in_o =
    let is : IsLive c o = live_is c o in_o in
    let k : Laid = laid c o.slab in
    let l : IsLaidOut order m.slots m.blocks (all_laid m.caches) m.bytes = laid_out order m w in
    let i : IsIn k (all_laid m.caches) = in_all_laid c o.slab m.caches in_c is.slab_in in
    let cut : IsCutLaid k = each_in IsCutLaid k (all_laid m.caches) l.cut i in
    let byte : IsByteOf k o.index 0 o.place = byte_is_of k cut o.index 0 o.place
    (record { index_in = subst (λ n. o.index < n) cut.count is.index_in; byte_in = cut.fit.sized; at = omega (arith, is.at) }) in
    around_is (slab_block c o.slab) (o.place / 4096) (each_in _ k (all_laid m.caches) l.placed_slabs i).0.1 (in_block-true o.place (laid_block k) byte.in_slab)

slabs_in_use : Cache → List Block
slabs_in_use c = map (slab_around (cache_as_known c)) (map (λ o. o.place) (live_objects c))

seen_caches : (cs : List Cache) → flat_map (λ c. map (slab_around c) c.live) (map cache_as_known cs) ≡ flat_map slabs_in_use cs
unfolding slabs_in_use
seen_caches [] = refl
seen_caches (c ∷ cs) = ap (λ bs. slabs_in_use c ++ bs) (seen_caches cs)

seen_parts : (m : Machine) → known_blocks (holdings_of m) ≡ m.blocks ++ flat_map slabs_in_use m.caches
unfolding known_blocks holdings_of
seen_parts m = ap (λ bs. m.blocks ++ bs) (seen_caches m.caches)

in_use_listed : {limit : ℕ} (order : ℕ) (m : Machine) (b : Block) (c : Cache) → IsWellFormed limit order m → IsIn c m.caches → IsIn b (slabs_in_use c) → IsIn b (slab_blocks c)
unfolding slabs_in_use
in_use_listed order m b c w in_c i =
    let p = map_in (slab_around (cache_as_known c)) b (map (λ o. o.place) (live_objects c)) i in
    let o = map_in (λ o. o.place) p.0 (live_objects c) p.1 in
    let is : slab_block c o.0.slab ≡ b = sym (slab_seen order m c o.0 w in_c o.1) ∙ (ap (λ x. slab_around (cache_as_known c) x) o.2 ∙ p.2) in
    subst (λ x. IsIn x (slab_blocks c)) is (in_map (slab_block c) o.0.slab c.slabs (live_is c o.0 o.1).slab_in)

-- a block that is seen as taken is taken
pub taken_seen : {limit : ℕ} (order : ℕ) (m : Machine) (b : Block) → IsWellFormed limit order m → IsIn b (known_blocks (holdings_of m)) → IsIn b (model.taken_blocks m)
unfolding model.taken_blocks
taken_seen order m b w i = elim (in_append b m.blocks (flat_map slabs_in_use m.caches) (subst (λ bs. IsIn b bs) (seen_parts m) i)) [
  | inl j ↦ in_left b m.blocks (flat_map slab_blocks m.caches) j
  | inr j ↦ let c = flat_map_in slabs_in_use b m.caches j in
      in_right b m.blocks (flat_map slab_blocks m.caches) (in_flat_map slab_blocks b c.0 m.caches c.1 (in_use_listed order m b c.0 w c.1 c.2))
]

-- if a flag of slab s is set, `live_from` lists a live object of s
pub one_live : (c : Cache) (s : Slab) (n : ℕ) (flags : List Bool) → list_any (λ live. live) flags ≡ true → (o : LiveObject) × IsIn o (live_from c s n flags) × (o.slab ≡ s)
one_live c s n [] e = absurd (false≢true e)
one_live c s n (true ∷ flags) e = (record { slab = s; index = n; place = object_place (layout c) s.first s.colour n }, inl refl, refl)
one_live c s n (false ∷ flags) e = one_live c s (n + 1) flags e

in_use : {limit : ℕ} (order : ℕ) (m : Machine) (b : Block) (c : Cache) → IsWellFormed limit order m → IsIn c m.caches → IsIn b (slab_blocks (without_empty c)) → IsIn b (slabs_in_use c)
unfolding slabs_in_use
in_use order m b c w in_c i =
    let s = map_in (slab_block c) b (filter (λ s. not (is_empty s)) c.slabs) i in
    let f = filter_in (λ s. not (is_empty s)) s.0 c.slabs s.1 in
    let o = one_live c s.0 0 s.0.live (not-false _ (not-true _ f.1)) in
    let in_o : IsIn o.0 (live_objects c) = in_flat_map (live_in c) o.0 s.0 c.slabs f.0 o.1 in
    let is : slab_around (cache_as_known c) o.0.place ≡ b = slab_seen order m c o.0 w in_c in_o ∙ (ap (λ x. slab_block c x) o.2 ∙ s.2) in
    subst (λ x. IsIn x (map (slab_around (cache_as_known c)) (map (λ o. o.place) (live_objects c)))) is
    (in_map (slab_around (cache_as_known c)) o.0.place (map (λ o. o.place) (live_objects c)) (in_map (λ o. o.place) o.0 (live_objects c) in_o))

-- a block that is still taken after all empty slabs are freed is seen as taken
pub taken_is_seen : {limit : ℕ} (order : ℕ) (m : Machine) (b : Block) → IsWellFormed limit order m → IsIn b (model.taken_blocks (reaped m)) → IsIn b (known_blocks (holdings_of m))
unfolding model.taken_blocks reaped
taken_is_seen order m b w i = subst (λ bs. IsIn b bs) (sym (seen_parts m)) (elim (in_append b m.blocks (flat_map slab_blocks (map without_empty m.caches)) i) [
  | inl j ↦ in_left b m.blocks (flat_map slabs_in_use m.caches) j
  | inr j ↦
      let d = flat_map_in slab_blocks b (map without_empty m.caches) j in
      let c = map_in without_empty d.0 m.caches d.1 in
      in_right b m.blocks (flat_map slabs_in_use m.caches) (in_flat_map slabs_in_use b c.0 m.caches c.1 (in_use order m b c.0 w c.1 (subst (λ x. IsIn b (slab_blocks x)) (sym c.2) d.2)))
])

-- The chosen block

-- the block that a machine chooses passes `can_stand`
pub chosen_stands : {limit : ℕ} (order k first : ℕ) (m : Machine) → IsWellFormed limit order m → choice order m k ≡ Some first → can_stand order (holdings_of m) (block first k) ≡ true
unfolding can_stand holdings_of
chosen_stands order k first m w is =
    let placed = chosen_placed order k first m is in
    let apart : Each (IsApart (block first k)) (model.taken_blocks m) = chosen_apart order k first m w.apart is in
    and_from _ _ (and_from _ _ (le-leb k order placed.0.0) (eq-eqb (first % 2 ^ k) 0 placed.0.1))
    (and_from _ _ placed.1 (not_from_false _ (any_none (overlaps (block first k)) (known_blocks (holdings_of m)) (each_from (λ b. overlaps (block first k) b ≡ false) (known_blocks (holdings_of m)) (λ b i.
    false_from_ne_true (overlaps (block first k) b) (λ e. overlap_shares (block first k) b e (each_in (IsApart (block first k)) b (model.taken_blocks m) apart (taken_seen order m b w i))))))))

-- the block that is chosen when empty slabs are freed on demand passes `can_stand`
pub by_need_stands : {limit : ℕ} (order k first : ℕ) (m : Machine) → IsWellFormed limit order m → choice_by_need order k m ≡ Some first → can_stand order (holdings_of m) (block first k) ≡ true
by_need_stands order k first m w is = subst (λ h. can_stand order h (block first k) ≡ true)
    (by_need_keeps (λ n. holdings_of n ≡ holdings_of m) order k m refl (holdings_reaped m))
    (chosen_stands order k first (by_need order k m) (by_need_kept order k m w) is)

-- Free space

module _ (order k : ℕ) (of_slot : k ≤ order) where
  abbrev share : ℕ
  share = 2 ^ (order - k)

  slot_is : (u i : ℕ) → u * share ≤ i → i < u * share + share → i * 2 ^ k / 2 ^ order ≡ u
  slot_is u i low high =
      let size : 2 ^ order ≡ 2 ^ k * share = ap (λ n. 2 ^ n) (omega arith) ∙ pow-add 2 k (order - k) in
      ap (λ n. i * 2 ^ k / n) size
      ∙ (sym (div-div-eq-div-mul (i * 2 ^ k) (2 ^ k) share)
      ∙ (ap (λ n. n / share) (mul-div_cancel i (pow_pos k)) ∙ div-eq_of_lt-le share low (omega arith)))

  -- if block i of order k in a held slot u is seen as vacant, it is vacant after all empty slabs are freed
  vacant_is : {limit : ℕ} (m : Machine) (u i : ℕ) → IsWellFormed limit order m → IsIn u m.slots → u * share ≤ i → i < u * share + share
      → is_vacant (holdings_of m) (block (i * 2 ^ k) k) ≡ true → IsVacant order (holds m) (taken_in (reaped m)) (i * 2 ^ k) k
  vacant_is m u i w in_u low high e = record {
    aligned = (of_slot, aligned_first i k);
    slot = any_in (λ v. eqb v (i * 2 ^ k / 2 ^ order)) u m.slots in_u (eq-eqb u (i * 2 ^ k / 2 ^ order) (sym (slot_is u i low high)));
    untaken = λ x has t.
        let b : Block = block t.0 t.1 in
        let seen : IsIn b (known_blocks (holdings_of m)) = taken_is_seen order m b w (order_in_is (model.taken_blocks (reaped m)) t.0 t.1 t.2) in
        false≢true (sym (each_in (λ c. overlaps (block (i * 2 ^ k) k) c ≡ false) b (known_blocks (holdings_of m)) (none_any (overlaps (block (i * 2 ^ k) k)) (known_blocks (holdings_of m)) (not-true _ e)) seen)
        ∙ overlap_from (block (i * 2 ^ k) k) b x has t.3);
  }

some_first : (o : Option Block) → is_some o ≡ true → option_map (λ b. b.first) o ≡ None → ⊥
some_first None e none = false≢true e
some_first (Some b) e none = absurd (cc)

unserved : {limit : ℕ} (order k : ℕ) (m : Machine) → IsWellFormed limit order m → k ≤ order → choice order (reaped m) k ≡ None → has_vacant_block order (holdings_of m) k ≡ false
unfolding vacant_blocks choice reaped holdings_of
unserved order k m w of_slot none = ap (λ bs. ltb 0 (length bs)) (none_in _ (λ b i.
    let f = filter_in (is_vacant (holdings_of m)) b (flat_map (blocks_of_slot order k) m.slots) i in
    let u = flat_map_in (blocks_of_slot order k) b m.slots f.0 in
    let q = map_in (λ i. block (i * 2 ^ k) k) b (range_with_len (u.0 * 2 ^ (order - k)) (2 ^ (order - k))) u.2 in
    let r = range_in q.0 (u.0 * 2 ^ (order - k)) (2 ^ (order - k)) q.1 in
    let v = vacant_is order k of_slot m u.0 q.0 w u.1 r.0 r.1 (ap (is_vacant (holdings_of m)) q.2 ∙ f.1) in
    some_first (choose order (holds m) (taken_in (reaped m)) (beyond m.slots) k)
    (some_choice order (holds m) (taken_in (reaped m)) (beyond m.slots) (held_below m.slots) (q.0 * 2 ^ k) k v) none))

-- if no block of order k is chosen even when empty slabs are freed on demand, no block of order k is seen as vacant
pub room_served : {limit : ℕ} (order k : ℕ) (m : Machine) → IsWellFormed limit order m → k ≤ order → choice_by_need order k m ≡ None → has_vacant_block order (holdings_of m) k ≡ false
room_served order k m w of_slot none = unserved order k m w of_slot (go (choice order (reaped m) k) refl)
  where
    at_once : choice order m k ≡ None
    at_once = ap (λ n. choice order n k) (sym (by_need_none order k m none)) ∙ none

    go : (o : Option ℕ) → choice order (reaped m) k ≡ o → choice order (reaped m) k ≡ None
    go None e = e
    go (Some first) e = absurd (let both : None ≡ Some first = sym none ∙ (ap (λ n. choice order n k) (by_need_reaps order k first m at_once e) ∙ e) in cc)
