-- One instance of each law of ordered lists, for a table of two lists and three nodes. Node 1 is in no list.
use Rattle.std.proofs.Common.{◌≡◌, ℕ, zero, suc, ◌+◌, ◌*◌, ◌<◌, [], ◌∷◌, Option, Some, None, length, refl, sym, ◌∙◌, ap, arith}
use Rattle.std.specs.Prelude.{count_by}
use Rattle.std.specs.List.{Contains}
use Rattle.model_core.specs.WellFormed.{RisesFrom}
use Rattle.klist_core.specs.Places.{Placed, ArePlaces, place_at, is_in, inserted, removed}
use Rattle.klist_core.specs.Lists.{list_of, keys_of}
use Rattle.klist_core.specs.Laws.{ListsRise, ListsHoldPlaces, KeysHoldPlaces, ListsCountPlaces, MayInsert, InsertionChangesOneList, RemovalChangesOneList}

abbrev table : Placed
table = record { heads = 2; places = Some (0, 5) ∷ None ∷ Some (1, 7) ∷ [] }

list_in : Option (ℕ × ℕ) → ℕ
list_in None = 0
list_in (Some p) = p.0

key_in : Option (ℕ × ℕ) → ℕ
key_in None = 0
key_in (Some p) = p.1

-- only two nodes are in a list: node 0 is in list 0 under the key 5, and node 2 is in list 1 under the key 7
placed : (i h k : ℕ) → place_at table.places i ≡ Some (h, k) → (h < 2) × (k ≡ 5 + 2 * h) × (i ≡ 2 * h)
unfolding list_in key_in
placed zero h k e =
    let list : 0 ≡ h = ap list_in e in let key : 5 ≡ k = ap key_in e in (omega arith, omega arith, omega arith)
placed (suc zero) h k e = absurd (cc)
placed (suc (suc zero)) h k e =
    let list : 1 ≡ h = ap list_in e in let key : 7 ≡ k = ap key_in e in (omega arith, omega arith, omega arith)
placed (suc (suc (suc i))) h k e = absurd (cc)

is_table : ArePlaces table
is_table = record {
  few = omega arith;
  small = omega arith;
  headed = λ i h k e. (placed i h k e).0;
  keyed = λ i h k e. let is = placed i h k e in let head : h < 2 = is.0 in let key : k ≡ 5 + 2 * h = is.1 in omega arith;
  apart = λ i j h k here there. (placed i h k here).2 ∙ sym (placed j h k there).2;
}

-- node 1 may be inserted into list 0 under the key 7, although list 1 has the key 7
may_insert : MayInsert table 0 1 7
may_insert = record {
  node = omega arith;
  free = refl;
  fresh = λ j e. let key : 7 ≡ 5 + 2 * 0 = (placed j 0 7 e).1 in absurd (omega (arith, key));
}

ListsRise-met : ListsRise → RisesFrom 0 (keys_of table.places 1)
ListsRise-met law = law table 1 is_table

ListsHoldPlaces-met : ListsHoldPlaces → Contains (list_of table.places 1) (7, 2)
ListsHoldPlaces-met law = (law table.places 1 7 2).1 refl

KeysHoldPlaces-met : KeysHoldPlaces → Contains (keys_of table.places 1) 7
KeysHoldPlaces-met law = (law table.places 1 7).1 (2, refl)

ListsCountPlaces-met : ListsCountPlaces → length (list_of table.places 1) ≡ count_by (is_in 1) table.places
ListsCountPlaces-met law = (law table.places 1).0

InsertionChangesOneList-met : InsertionChangesOneList →
    (list_of (inserted table 0 1 7).places 0 ≡ (5, 0) ∷ (7, 1) ∷ []) × (list_of (inserted table 0 1 7).places 1 ≡ (7, 2) ∷ [])
InsertionChangesOneList-met law = let changed = law table 0 1 7 is_table may_insert in (changed.0, changed.1 1 (λ e. absurd (omega (arith, e))))

RemovalChangesOneList-met : RemovalChangesOneList →
    (list_of (removed table 0).places 0 ≡ []) × (list_of (removed table 0).places 1 ≡ (7, 2) ∷ [])
RemovalChangesOneList-met law = let changed = law table 0 0 5 is_table refl in (changed.0, changed.1 1 (λ e. absurd (omega (arith, e))))
