-- The tables are still linked after an insertion, a removal or a replacement.
use Rattle.std.proofs.Common.{◌≡◌, ℕ, ◌+◌, ◌^◌, ◌<◌, ◌≤◌, List, Option, Some, None, length, set, ap, sym, ◌∙◌, subst, inl, inr, arith}
use Rattle.std.specs.Prelude.{◌≢◌, count_by}
use Rattle.std.proofs.lemmas.Bool.{cases_eq}
use Rattle.std.proofs.lemmas.List.{length-map}
use Rattle.klist_core.specs.Places.{Placed, ArePlaces, in_three, place_at, is_in}
use Rattle.klist_core.specs.Links.{up, back_from, ranks, IsLeastFrom, IsNearest, IsChain, IsLinked, free_node, head_at, node_at, places_of, place_in, shown}
use Rattle.klist_core.specs.declared.Head.{Head}
use Rattle.klist_core.specs.declared.Node.{Node}
use Rattle.klist_core.proofs.Directions.{IsKeyed, IsLastBelow, upwards, downwards, last_below}
use Rattle.klist_core.proofs.NearestChanged.{IsPut, raised, lowered, kept_small}
use Rattle.klist_core.specs.Writes.{linked_node}
use Rattle.klist_core.proofs.Ranks.{rank_in, by_time, by_key, ranked_there, unranked, rank_below, chain_limit, next_limit, come, come_before, put_ranked, put_unranked}
use Rattle.klist_core.proofs.Chains.{IsApart, chain_inserted, chain_removed}
use Rattle.klist_core.proofs.PlacesChanged.{placed_within, put_by_insertion, put_by_removal, apart_large, table_inserted, table_removed, count_inserted, count_inserted_elsewhere, count_removed, count_removed_elsewhere}
use Rattle.klist_core.proofs.TableWrites.{IsWithin, IsRewired}

-- if node i is a nearest node of list h, node i is in list h
pub nearest_placed : (rank : ℕ → ℕ) (place : ℕ → Option (ℕ × ℕ)) (h b : ℕ) (o : Option ℕ) → IsNearest rank place h b o → (i : ℕ) → o ≡ Some i → (k : ℕ) × (place i ≡ Some (h, k))
nearest_placed rank place h b None v i e = absurd (let f : ◌≡◌ {A = Option ℕ} None (Some i) = e in cc)
nearest_placed rank place h b (Some j) v i e =
    let l : IsLeastFrom rank place h b j v.is.0 = v.is.1 in
    let same : j ≡ i = cc in (v.is.0, subst (λ x. place x ≡ Some (h, v.is.0)) same l.here)

pub nearest_within : (rank came : ℕ → ℕ) (places : List (Option (ℕ × ℕ))) (h b : ℕ) (o : Option ℕ) → IsNearest rank (ranks came places) h b o → IsWithin o (length places)
nearest_within rank came places h b o v = record {
  below = λ i e.
      let w = nearest_placed rank (ranks came places) h b o v i e in
      let u = unranked (came i) h w.0 (place_at places i) w.1 in placed_within places i (h, u.0) u.1;
}

-- removing node n from its list does not change which node is the last one below the rank of n
pub last_below_small : (rank : ℕ → ℕ) (small large : ℕ → Option (ℕ × ℕ)) (h n k : ℕ) (o : Option ℕ) → IsPut small large h n k → IsLastBelow rank large h (rank k) o → IsLastBelow rank small h (rank k) o
last_below_small rank small large h n k None p l = record { is = λ i k' e. l.is i k' (raised p i (h, k') e) }
last_below_small rank small large h n k (Some j) p l =
    let g = l.is.1 in
    record {
      is = (
        l.is.0,
        elim (lowered p j h l.is.0 g.here) [
          | inl s ↦ record { here = s; below = g.below; greatest = λ i k' e lt. g.greatest i k' (raised p i (h, k') e) lt }
          | inr w ↦ let r = ap rank w.2 in absurd (omega (arith, g.below))
        ],
      );
    }

table_of : ℕ → List (Option (ℕ × ℕ)) → Placed
table_of heads places = record { heads = heads; places = places }

-- when tables are rewired, contracts see that only the place of node n changes
pub shown_rewired : (heads heads' : List Head) (nodes nodes' : List Node) (h n : ℕ) (own : Node) (previous next a b : Option ℕ) (m : ℕ)
    → IsRewired heads heads' nodes nodes' h n own previous next a b m → shown heads' nodes' ≡ record { heads = length heads; places = set (places_of nodes) n (place_in own) }
unfolding table_of
shown_rewired heads heads' nodes nodes' h n own previous next a b m w =
    ap (λ (x : ℕ). table_of x (places_of nodes')) w.heads_stay ∙ ap (λ (x : List (Option (ℕ × ℕ))). table_of (length heads) x) w.places

-- tables with equal places and equally many lists have the same chains
chain_rewired : (rank came : ℕ → ℕ) (places places' : List (Option (ℕ × ℕ))) (heads heads' : ℕ) (ends links : ℕ → Option ℕ) → places' ≡ places → heads' ≡ heads
    → IsChain rank (ranks came places) heads ends links → IsChain rank (ranks came places') heads' ends links
chain_rewired rank came places places' heads heads' ends links e f v =
    subst (λ x. IsChain rank (ranks came x) heads' ends links) (sym e) (subst (λ x. IsChain rank (ranks came places) x ends links) (sym f) v)

-- no two nodes of a list have the same rank
abbrev AreApart : (ℕ → ℕ) → List (Option (ℕ × ℕ)) → Type 0
AreApart came places = (i j h r : ℕ) → ranks came places i ≡ Some (h, r) → ranks came places j ≡ Some (h, r) → i ≡ j

-- all ranks in linked tables are below `now`
pub ranked_before : (heads : List Head) (nodes : List Node) (t : IsLinked heads nodes) (i h r : ℕ) → ranks t.came (places_of nodes) i ≡ Some (h, r) → r < t.now
ranked_before heads nodes t = rank_below t.came t.now (places_of nodes) t.before (λ i h k e. omega (arith, t.wide, t.table.keyed i h k e))

-- If node n is linked into list h after the last node below its rank and before the first node above its rank, the tables are
-- still linked. In a loose list the rank of n is `time`.
pub linked_inserted : (heads heads' : List Head) (nodes nodes' : List Node) (h n k time : ℕ) (previous next : Option ℕ) (m : ℕ) (t : IsLinked heads nodes)
    → IsRewired heads heads' nodes nodes' h n (linked_node h k previous next) previous next (Some n) (Some n) m → m ≡ (head_at heads h).len + 1
    → h < length heads → n < length nodes → k < 2 ^ 32 → time ≤ t.now → place_at (places_of nodes) n ≡ None → ((i : ℕ) → place_at (places_of nodes) i ≢ Some (h, k))
    → ((i : ℕ) → ranks t.came (places_of nodes) i ≢ Some (h, rank_in h time k))
    → IsNearest (back_from (t.now + 1)) (ranks t.came (places_of nodes)) h (back_from (t.now + 1) (rank_in h time k) + 1) previous
    → IsNearest up (ranks t.came (places_of nodes)) h (up (rank_in h time k) + 1) next → IsLinked heads' nodes'
linked_inserted heads heads' nodes nodes' h n k time previous next m t w more in_heads in_nodes fits early free fresh fresh_rank before after = record {
  table = subst ArePlaces (sym (shown_rewired heads heads' nodes nodes' h n _ previous next (Some n) (Some n) _ w)) (table_inserted old h n k t.table placed in_heads fits);
  came = came;
  now = limit;
  wide = omega (arith, t.wide);
  before = λ i. come_before t.came t.now time n i early (t.before i);
  apart = subst (λ x. AreApart came x) (sym w.places) (apart_large put t.apart);
  upwards = chain_rewired up came places (places_of nodes') (length heads) (length heads') _ _ w.places w.heads_stay
      (chain_inserted limit up (back_from limit) (upwards limit) small large (length heads) h n r put apart _ _ _ _ previous w.upwards
      (last_below up (back_from limit) small h r previous (upwards limit) apart.keyed below before)
      (subst (λ o. IsNearest up small h (up r + 1) o) (sym (w.own_next (other (back_from limit) (back_from limit r + 1) previous before))) after) t.upwards);
  downwards = chain_rewired (back_from limit) came places (places_of nodes') (length heads) (length heads') _ _ w.places w.heads_stay
      (chain_inserted limit (back_from limit) up (downwards limit) small large (length heads) h n r put apart _ _ _ _ next w.downwards
      (last_below (back_from limit) up small h r next (downwards limit) apart.keyed below after)
      (subst (λ o. IsNearest (back_from limit) small h (back_from limit r + 1) o) (sym (w.own_previous (other up (up r + 1) next after))) before)
      (chain_limit t.now limit small (length heads) _ _ (λ i g q e. let u = ranked_before heads nodes t i g q e in (u, omega (arith, u))) t.downwards));
  counted = λ g lt. subst (λ (xs : List (Option (ℕ × ℕ))). (head_at heads' g).len ≡ count_by (is_in g) xs) (sym w.places) (counted g (omega (arith, w.heads_stay)));
}
  where
    old : Placed
    old = shown heads nodes

    limit : ℕ
    limit = t.now + 1

    came : ℕ → ℕ
    came = come t.came time n

    r : ℕ
    r = rank_in h time k

    places : List (Option (ℕ × ℕ))
    places = set (places_of nodes) n (Some (h, k))

    small : ℕ → Option (ℕ × ℕ)
    small = ranks t.came (places_of nodes)

    large : ℕ → Option (ℕ × ℕ)
    large = ranks came places

    within : n < length (places_of nodes)
    within = omega (arith, length-map nodes place_in)

    placed : IsPut (place_at (places_of nodes)) (place_at places) h n k
    placed = put_by_insertion (places_of nodes) h n k within free fresh

    put : IsPut small large h n r
    put = put_ranked t.came time (places_of nodes) h n k placed fresh_rank

    below : r < limit
    below = elim (cases_eq (in_three h) 0) [
      | inl loose ↦ omega (arith, early, by_time h time k loose)
      | inr keyed ↦ omega (arith, t.wide, by_key h time k (omega (arith, keyed)))
    ]

    apart : IsApart limit small h
    apart = record { keyed = record { below = λ i q e. let u = ranked_before heads nodes t i h q e in omega (arith, u) }; apart = λ i j q. t.apart i j h q }

    other : (rank : ℕ → ℕ) (b : ℕ) (o : Option ℕ) → IsNearest rank small h b o → o ≢ Some n
    other rank b o v e = let p = nearest_placed rank small h b o v n e in let f : ◌≡◌ {A = Option (ℕ × ℕ)} None (Some (h, p.0)) = sym put.free ∙ p.1 in cc

    counted : (g : ℕ) → g < length heads → (head_at heads' g).len ≡ count_by (is_in g) places
    counted g lt = elim (cases_eq g h) [
      | inl e ↦ subst (λ x. (head_at heads' x).len ≡ count_by (is_in x) places) (sym e) (omega (arith, w.len, more, t.counted h in_heads, count_inserted (places_of nodes) h n k within free))
      | inr ne ↦ w.other_len g ne ∙ (t.counted g lt ∙ sym (count_inserted_elsewhere (places_of nodes) g h n k ne within free))
    ]

pub linked_removed : (heads heads' : List Head) (nodes nodes' : List Node) (h n k : ℕ) (x : Node) (m : ℕ) → IsLinked heads nodes → x ≡ node_at nodes n
    → IsRewired heads heads' nodes nodes' h n free_node x.previous x.next x.next x.previous m → m + 1 ≡ (head_at heads h).len
    → place_at (places_of nodes) n ≡ Some (h, k) → IsLinked heads' nodes'
linked_removed heads heads' nodes nodes' h n k x m t read w less e = record {
  table = subst ArePlaces (sym (shown_rewired heads heads' nodes nodes' h n _ previous next next previous _ w)) (table_removed old h n k t.table placed);
  came = t.came;
  now = t.now;
  wide = t.wide;
  before = t.before;
  apart = subst (λ y. AreApart t.came y) (sym w.places) (λ i j g q a b. t.apart i j g q (raised put i (g, q) a) (raised put j (g, q) b));
  upwards = chain_rewired up t.came places (places_of nodes') (length heads) (length heads') _ _ w.places w.heads_stay
      (chain_removed t.now up (back_from t.now) (upwards t.now) small large (length heads) h n r fits put apart _ _ _ _ previous next w.upwards
      (last_below_small up small large h n r previous put (last_below up (back_from t.now) large h r previous (upwards t.now) keyed fits before)) after t.upwards);
  downwards = chain_rewired (back_from t.now) t.came places (places_of nodes') (length heads) (length heads') _ _ w.places w.heads_stay
      (chain_removed t.now (back_from t.now) up (downwards t.now) small large (length heads) h n r fits put apart _ _ _ _ next previous w.downwards
      (last_below_small (back_from t.now) small large h n r next put (last_below (back_from t.now) up large h r next (downwards t.now) keyed fits after)) before t.downwards);
  counted = λ g lt. subst (λ (xs : List (Option (ℕ × ℕ))). (head_at heads' g).len ≡ count_by (is_in g) xs) (sym w.places) (counted g (omega (arith, w.heads_stay)));
}
  where
    old : Placed
    old = shown heads nodes

    previous : Option ℕ
    previous = x.previous

    next : Option ℕ
    next = x.next

    r : ℕ
    r = rank_in h (t.came n) k

    large : ℕ → Option (ℕ × ℕ)
    large = ranks t.came (places_of nodes)

    places : List (Option (ℕ × ℕ))
    places = set (places_of nodes) n None

    small : ℕ → Option (ℕ × ℕ)
    small = ranks t.came places

    within : n < length (places_of nodes)
    within = placed_within (places_of nodes) n (h, k) e

    here : large n ≡ Some (h, r)
    here = ranked_there (t.came n) h k (place_at (places_of nodes) n) e

    placed : IsPut (place_at places) (place_at (places_of nodes)) h n k
    placed = put_by_removal old h n k t.table e

    put : IsPut small large h n r
    put = put_unranked t.came (places_of nodes) h n k placed t.apart

    keyed : IsKeyed t.now large h
    keyed = record { below = λ i q s. ranked_before heads nodes t i h q s }

    apart : IsApart t.now small h
    apart = record { keyed = record { below = λ i q s. keyed.below i q (raised put i (h, q) s) }; apart = λ i j q a b. t.apart i j h q (raised put i (h, q) a) (raised put j (h, q) b) }

    fits : r < t.now
    fits = keyed.below n r here

    before : IsNearest (back_from t.now) large h (back_from t.now r + 1) previous
    before = subst (λ (y : Node). IsNearest (back_from t.now) large h (back_from t.now r + 1) y.previous) (sym read) (t.downwards.goes_on n h r here)

    after : IsNearest up large h (up r + 1) next
    after = subst (λ (y : Node). IsNearest up large h (up r + 1) y.next) (sym read) (t.upwards.goes_on n h r here)

    counted : (g : ℕ) → g < length heads → (head_at heads' g).len ≡ count_by (is_in g) places
    counted g lt = elim (cases_eq g h) [
      | inl q ↦ subst (λ x. (head_at heads' x).len ≡ count_by (is_in x) places) (sym q) (omega (arith, w.len, less, t.counted h (t.table.headed n h k e), count_removed (places_of nodes) h n k within e))
      | inr ne ↦ w.other_len g ne ∙ (t.counted g lt ∙ sym (count_removed_elsewhere (places_of nodes) g h n k ne within e))
    ]

-- if node n is removed from list h and node j is linked in its place, the tables are still linked
pub linked_replaced : (heads heads1 heads2 : List Head) (nodes nodes1 nodes2 : List Node) (h n j k : ℕ) (x : Node) (m m' : ℕ) → IsLinked heads nodes → x ≡ node_at nodes n
    → IsRewired heads heads1 nodes nodes1 h n free_node x.previous x.next x.next x.previous m → m + 1 ≡ (head_at heads h).len
    → place_at (places_of nodes) n ≡ Some (h, k) → j < length nodes1 → place_at (places_of nodes1) j ≡ None
    → IsRewired heads1 heads2 nodes1 nodes2 h j (linked_node h k x.previous x.next) x.previous x.next (Some j) (Some j) m' → m' ≡ (head_at heads1 h).len + 1
    → IsLinked heads2 nodes2
unfolding linked_removed
linked_replaced heads heads1 heads2 nodes nodes1 nodes2 h n j k x m m' t read w less e within free w' more =
    linked_inserted heads1 heads2 nodes1 nodes2 h j k (t.came n) x.previous x.next m' mid w' more in_heads within fits (omega (arith, t.before n)) free
    (subst (λ ps. (i : ℕ) → place_at ps i ≢ Some (h, k)) (sym w.places) placed.fresh)
    (subst (λ ps. (i : ℕ) → ranks t.came ps i ≢ Some (h, r)) (sym w.places) put.fresh)
    (subst (λ ps. IsNearest (back_from (t.now + 1)) (ranks t.came ps) h (back_from (t.now + 1) r + 1) x.previous) (sym w.places)
    (next_limit t.now (t.now + 1) small h r x.previous below (omega (arith, below)) (λ i q s. let u = ranked_before heads nodes t i h q (raised put i (h, q) s) in (u, omega (arith, u)))
    (kept_small (back_from t.now) small large h n r put _ x.previous (inl (omega arith)) before)))
    (subst (λ ps. IsNearest up (ranks t.came ps) h (up r + 1) x.next) (sym w.places) (kept_small up small large h n r put _ x.next (inl (omega arith)) after))
  where
    mid : IsLinked heads1 nodes1
    mid = linked_removed heads heads1 nodes nodes1 h n k x m t read w less e

    r : ℕ
    r = rank_in h (t.came n) k

    large : ℕ → Option (ℕ × ℕ)
    large = ranks t.came (places_of nodes)

    small : ℕ → Option (ℕ × ℕ)
    small = ranks t.came (set (places_of nodes) n None)

    placed : IsPut (place_at (set (places_of nodes) n None)) (place_at (places_of nodes)) h n k
    placed = put_by_removal (shown heads nodes) h n k t.table e

    put : IsPut small large h n r
    put = put_unranked t.came (places_of nodes) h n k placed t.apart

    here : large n ≡ Some (h, r)
    here = ranked_there (t.came n) h k (place_at (places_of nodes) n) e

    below : r < t.now
    below = ranked_before heads nodes t n h r here

    fits : k < 2 ^ 32
    fits = t.table.keyed n h k e

    in_heads : h < length heads1
    in_heads = omega (arith, w.heads_stay, t.table.headed n h k e)

    before : IsNearest (back_from t.now) large h (back_from t.now r + 1) x.previous
    before = subst (λ (y : Node). IsNearest (back_from t.now) large h (back_from t.now r + 1) y.previous) (sym read) (t.downwards.goes_on n h r here)

    after : IsNearest up large h (up r + 1) x.next
    after = subst (λ (y : Node). IsNearest up large h (up r + 1) y.next) (sym read) (t.upwards.goes_on n h r here)
