-- The keys of a cache's list of each kind are exactly the first frames of the cache's slabs of that kind.
use Rattle.std.proofs.Common.{ℕ, List, map, subst}
use Rattle.std.specs.Prelude.{filter}
use Rattle.model_core.specs.Elements.{IsIn}
use Rattle.model_core.proofs.Lists.{filter_in, in_filter, filter_rises, in_map, map_in}
use Rattle.model_core.proofs.RisingLists.{same_members}
use Rattle.klist_core.specs.Lists as lists
use Rattle.klist_core.proofs.KeyNodePairs.{list_rises, in_list, listed, key_among}
use Rattle.slab_tables.specs.Content.{head_of}
use Rattle.machine_changes.specs.Laws.{is_kind, KindsHold}
use Rattle.machine_changes.proofs.SlabsByKind.{to_list, from_list}

-- a given fact that x is in xs, restated with x and xs written out
pub in_among : {X : Type 0} (x : X) (xs : List X) → IsIn x xs → IsIn x xs
in_among x xs i = i

pub kinds_hold : KindsHold
kinds_hold s w table r b t c kind m x a st h ex less =
    same_members 0 (lists.keys_of s.lists.places (head_of t c kind)) (map (λ y. y.first) (filter (is_kind kind) x.slabs))
    (list_rises (head_of t c kind) 0 s.lists.places (record { apart = λ i j k. table.apart i j (head_of t c kind) k }))
    (filter_rises (λ y. y.first) (is_kind kind) 0 x.slabs (h.slabs_rise c x ex))
    (λ u i.
    let key = key_among u (lists.list_of s.lists.places (head_of t c kind)) i in
    let there = from_list r b s w a t c kind less m x h ex u key.0 (in_list s.lists.places (head_of t c kind) u key.0 key.1) in
    subst (λ f. IsIn f (map (λ y. y.first) (filter (is_kind kind) x.slabs))) there.begins
    (in_map (λ y. y.first) there.slab (filter (is_kind kind) x.slabs) (in_filter (is_kind kind) there.slab x.slabs there.listed there.passes)))
    (λ u i.
    let y = map_in (λ z. z.first) u (filter (is_kind kind) x.slabs) i in
    let kept = filter_in (is_kind kind) y.0 x.slabs y.1 in
    let there = to_list r b s w a t c kind less m x h ex y.0 kept.0 kept.1 in
    subst (λ f. IsIn f (lists.keys_of s.lists.places (head_of t c kind))) y.2
    (in_map (λ (p : ℕ × ℕ). p.0) (y.0.first, there.machine_frame) (lists.list_of s.lists.places (head_of t c kind)) (listed s.lists.places (head_of t c kind) y.0.first there.machine_frame there.place)))
