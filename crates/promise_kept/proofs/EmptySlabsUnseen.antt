-- The promises do not see the empty slabs of a machine. They see a holder of a range exactly if the range is in reach.
use Rattle.std.proofs.Common.{◌≡◌, ℕ, ◌+◌, Bool, true, false, not, ◌||◌, ◌&&◌, cond, ltb, List, [], ◌∷◌, ◌++◌, map, Option, Some, None, refl, sym, ap, ◌∙◌}
use Rattle.std.specs.Prelude.{if◌then◌else◌, filter, find, flat_map, is_some}
use Rattle.std.specs.List.{list_any}
use Rattle.std.specs.Option.{option_map_or}
use Rattle.std.proofs.lemmas.Bool.{or_parts}
use Rattle.model_core.specs.Machine.{Slab, Cache, Machine, layout}
use Rattle.model_core.specs.Slabs.{live_from, live_in, live_objects, is_empty, without_empty, reaped}
use Rattle.model_core.specs.Layouts.{object_place}
use Rattle.model_core.specs.Reach.{is_within, within_block, within_objects, in_reach}
use Rattle.model_core.proofs.Lists.{any_map}
use Rattle.promise_core.specs.Bytes.{Holder, object_with, holder_of}
use Rattle.promise_kept.specs.Meets.{cache_as_known, holdings_of}

-- Empty slabs

pub none_live : (c : Cache) (s : Slab) (n : ℕ) (flags : List Bool) → list_any (λ live. live) flags ≡ false → live_from c s n flags ≡ []
none_live c s n [] e = refl
none_live c s n (flag ∷ flags) e = let p = or_parts flag (list_any (λ live. live) flags) e in
    ap (λ b. if b then record { slab = s; index = n; place = object_place (layout c) s.first s.colour n } ∷ live_from c s (n + 1) flags else live_from c s (n + 1) flags) p.0 ∙ none_live c s (n + 1) flags p.1

live_reaped : (c : Cache) (ss : List Slab) → flat_map (live_in c) (filter (λ s. not (is_empty s)) ss) ≡ flat_map (live_in c) ss
live_reaped c [] = refl
live_reaped c (s ∷ ss) = go (list_any (λ live. live) s.live) refl (live_reaped c ss)
  where
    go : (b : Bool) → list_any (λ live. live) s.live ≡ b → flat_map (live_in c) (filter (λ s. not (is_empty s)) ss) ≡ flat_map (live_in c) ss
        → flat_map (live_in c) (cond (not (not b)) (s ∷ filter (λ s. not (is_empty s)) ss) (filter (λ s. not (is_empty s)) ss)) ≡ live_in c s ++ flat_map (live_in c) ss
    go true e rest = ap (λ ls. live_in c s ++ ls) rest
    go false e rest = rest ∙ ap (λ ls. ls ++ flat_map (live_in c) ss) (sym (none_live c s 0 s.live e))

told_reaped : (cs : List Cache) → map cache_as_known (map without_empty cs) ≡ map cache_as_known cs
told_reaped [] = refl
told_reaped (c ∷ cs) = ap (λ ls. record (cache_as_known c) { live = map (λ o. o.place) ls } ∷ map cache_as_known (map without_empty cs)) (live_reaped c c.slabs)
    ∙ ap (λ ts. cache_as_known c ∷ ts) (told_reaped cs)

-- the holdings that the promises see are the same before and after a reap
pub holdings_reaped : (m : Machine) → holdings_of (reaped m) ≡ holdings_of m
unfolding holdings_of reaped
holdings_reaped m = ap (λ cs. record { slots = m.slots; pages = m.blocks; caches = cs }) (told_reaped m.caches)

-- Reach

some_found : {X : Type 0} (p : X → Bool) (f : X → Holder) (xs : List X) (rest : Option Holder)
    → is_some (option_map_or (λ x. Some (f x)) (find p xs) rest) ≡ (list_any p xs || is_some rest)
some_found p f [] rest = refl
some_found p f (x ∷ xs) rest = go (p x) (some_found p f xs rest)
  where
    go : (b : Bool) → is_some (option_map_or (λ y. Some (f y)) (find p xs) rest) ≡ (list_any p xs || is_some rest)
        → is_some (option_map_or (λ y. Some (f y)) (cond b (Some x) (find p xs)) rest) ≡ ((b || list_any p xs) || is_some rest)
    go true e = refl
    go false e = e

objects_same : (place len : ℕ) (cs : List Cache) → is_some (object_with place len (map cache_as_known cs)) ≡ list_any (within_objects place len) cs
objects_same place len [] = refl
objects_same place len (c ∷ cs) =
    some_found (λ first. is_within place len first c.size) (λ first. Holder.Object c.number first) (map (λ o. o.place) (live_objects c)) (object_with place len (map cache_as_known cs))
    ∙ (ap (λ b. b || is_some (object_with place len (map cache_as_known cs))) (any_map (λ first. is_within place len first c.size) (λ o. o.place) (live_objects c))
    ∙ ap (λ b. within_objects place len c || b) (objects_same place len cs))

pub reach_same : (m : Machine) (place len : ℕ) → is_some (holder_of (holdings_of m) place len) ≡ in_reach m place len
unfolding holdings_of holder_of in_reach
reach_same m place len = go (ltb 0 len) (list_any (within_block place len) m.blocks) (object_with place len (map cache_as_known m.caches)) (objects_same place len m.caches)
  where
    go : (some page : Bool) (o : Option Holder) → is_some o ≡ list_any (within_objects place len) m.caches
        → is_some (if not some then None else (if page then Some Holder.Page else o)) ≡ (some && (page || list_any (within_objects place len) m.caches))
    go false page o e = refl
    go true true o e = refl
    go true false o e = e
