-- What is known before an insertion or a removal writes to the tables, and what follows for the new tables.
use Rattle.std.proofs.Common.{◌≡◌, ℕ, ◌+◌, ◌-◌, ◌^◌, ◌<◌, ◌≤◌, List, [], Option, Some, None, ◌++◌, take, length, get_or, set, refl, ap, ap₂, sym, ◌∙◌, subst, inl, inr, arith}
use Rattle.std.specs.Prelude.{◌≢◌, MatchOption}
use Rattle.std.proofs.Math.ListN.{get_or-map}
use Rattle.std.proofs.Math.Seq.{take-append_seam}
use Rattle.std.proofs.lemmas.List.{length-map, length-set, get_or_read}
use Rattle.std.proofs.lemmas.List.Sums.{count_by-le-length}
use Rattle.std.proofs.lemmas.Bool.{cases_eq}
use Rattle.klist_core.specs.Places.{IsLoose, place_at, is_in, inserted, removed, replaced}
use Rattle.klist_core.specs.Links.{up, back_from, ranks, IsNearest, IsGap, IsLinked, free_node, head_at, node_at, places_of, place_in, shown}
use Rattle.klist_core.specs.Raw.{raw_place}
use Rattle.klist_core.specs.declared.Head.{Head}
use Rattle.klist_core.specs.declared.Node.{Node}
use Rattle.klist_core.specs.Writes.{linked_node, heads_linked, nodes_linked, heads_unlinked, nodes_unlinked}
use Rattle.klist_core.proofs.NearestChanged.{IsPut}
use Rattle.klist_core.proofs.PlacesChanged.{put_by_removal, count_inserted, count_removed}
use Rattle.klist_core.proofs.TableWrites.{IsWithin, IsRewired, rewired, length_after, length_before}
use Rattle.klist_core.proofs.LinksKept.{nearest_within, ranked_before, shown_rewired, linked_inserted, linked_removed, linked_replaced}
use Rattle.klist_core.proofs.Ranks.{rank_in, by_time, by_key, ranked_there, nearest_ranked, nearest_limit, next_limit, rank_is_new}

-- node n, which was read as x, is in list h and can be taken out
pub record IsRemoval (heads : List Head) (nodes : List Node) (n : ℕ) (x : Node) (h : ℕ) : Type 0 where
  pub linked : IsLinked heads nodes
  pub read : x ≡ node_at nodes n
  pub place : place_at (places_of nodes) n ≡ Some (h, x.key)
  pub in_heads : h < length heads
  pub in_nodes : n < length nodes
  pub left : IsWithin x.previous (length nodes)
  pub right : IsWithin x.next (length nodes)
  pub some : 1 ≤ (head_at heads h).len
  pub small : length nodes < 2 ^ 32

pub removal_known : (heads : List Head) (nodes : List Node) (n : ℕ) (x : Node) (h : ℕ) → IsLinked heads nodes → n < length (places_of nodes) → x ≡ get_or nodes n x → x.list ≡ Some h
    → IsRemoval heads nodes n x h
removal_known heads nodes n x h t within got is = record {
  linked = t;
  read = read;
  place = place;
  in_heads = in_heads;
  in_nodes = in_nodes;
  left = subst (λ (y : Node). IsWithin y.previous (length nodes)) (sym read) (fitting _ (nearest_within (back_from t.now) t.came (places_of nodes) h _ _ (t.downwards.goes_on n h _ ranked)));
  right = subst (λ (y : Node). IsWithin y.next (length nodes)) (sym read) (fitting _ (nearest_within up t.came (places_of nodes) h _ _ (t.upwards.goes_on n h _ ranked)));
  some = omega (arith, t.counted h in_heads, count_removed (places_of nodes) h n x.key within place);
  small = omega (arith, t.table.small, length-map nodes place_in);
}
  where
    in_nodes : n < length nodes
    in_nodes = omega (arith, length-map nodes place_in)

    read : x ≡ node_at nodes n
    read = get_or_read nodes n x in_nodes got (node_at [] 0)

    place : place_at (places_of nodes) n ≡ Some (h, x.key)
    place = get_or-map place_in nodes n (node_at [] 0) ∙ (ap place_in (sym read) ∙ ap (λ (o : Option ℕ). raw_place o x.key) is)

    ranked : ranks t.came (places_of nodes) n ≡ Some (h, rank_in h (t.came n) x.key)
    ranked = ranked_there (t.came n) h x.key (place_at (places_of nodes) n) place

    in_heads : h < length heads
    in_heads = t.table.headed n h x.key place

    fitting : (o : Option ℕ) → IsWithin o (length (places_of nodes)) → IsWithin o (length nodes)
    fitting o w = record { below = λ i e. omega (arith, w.below i e, length-map nodes place_in) }

-- In list h, a new node with the key k belongs between the two nodes of g. If list h is loose, these are its last node and None.
pub record IsLinkPlace (heads : List Head) (nodes : List Node) (h k : ℕ) (t : IsLinked heads nodes) (g : Option ℕ × Option ℕ) : Type 0 where
  pub before : IsNearest (back_from (t.now + 1)) (ranks t.came (places_of nodes)) h (back_from (t.now + 1) (rank_in h t.now k) + 1) g.0
  pub after : IsNearest up (ranks t.came (places_of nodes)) h (up (rank_in h t.now k) + 1) g.1

at_end : (heads : List Head) (nodes : List Node) (h k : ℕ) (t : IsLinked heads nodes) → h < length heads → IsLoose h → IsLinkPlace heads nodes h k t ((head_at heads h).last, None)
at_end heads nodes h k t lt loose = record {
  before = nearest_limit t.now (t.now + 1) (ranks t.came (places_of nodes)) h 0 _ _ (λ i r e. let u = ranked_before heads nodes t i h r e in (u, omega (arith, u)))
      (λ r a b e. omega (arith, by_time h t.now k loose)) (λ r a b e. omega arith) (t.downwards.begins h lt);
  after = record { is = λ i r e. omega (arith, ranked_before heads nodes t i h r e, by_time h t.now k loose) };
}

in_gap : (heads : List Head) (nodes : List Node) (h k : ℕ) (t : IsLinked heads nodes) (g : Option ℕ × Option ℕ) → k < 2 ^ 32 → IsGap (place_at (places_of nodes)) h k g → IsLinkPlace heads nodes h k t g
in_gap heads nodes h k t g fits v =
    let limit = t.now + 1 in
    let places = places_of nodes in
    subst (λ r. IsNearest (back_from limit) (ranks t.came places) h (back_from limit r + 1) g.0 → IsNearest up (ranks t.came places) h (up r + 1) g.1 → IsLinkPlace heads nodes h k t g)
    (by_key h t.now k v.by_key) (λ before after. record { before = before; after = after })
    (nearest_ranked (back_from limit) t.came places h _ g.0 v.by_key
    (next_limit (2 ^ 32) limit (place_at places) h k g.0 fits (omega (arith, t.wide)) (λ i r e. let u = t.table.keyed i h r e in (u, omega (arith, t.wide, u))) v.previous))
    (nearest_ranked up t.came places h _ g.1 v.by_key v.next)

pub link_place : (heads : List Head) (nodes : List Node) (h k : ℕ) (t : IsLinked heads nodes) (o : Option (Option ℕ × Option ℕ)) (g : Option ℕ × Option ℕ) → h < length heads → k < 2 ^ 32
    → MatchOption o (IsLoose h) (λ x. IsGap (place_at (places_of nodes)) h k x) → MatchOption o (g ≡ ((head_at heads h).last, None)) (λ x. g ≡ x) → IsLinkPlace heads nodes h k t g
link_place heads nodes h k t None g lt fits loose is = subst (λ x. IsLinkPlace heads nodes h k t x) (sym is) (at_end heads nodes h k t lt loose)
link_place heads nodes h k t (Some x) g lt fits gap is = subst (λ y. IsLinkPlace heads nodes h k t y) (sym is) (in_gap heads nodes h k t x fits gap)

-- node n is in no list, and can be inserted into list h under the key k between the two nodes of g
pub record IsInsertion (heads : List Head) (nodes : List Node) (h n k : ℕ) (g : Option ℕ × Option ℕ) : Type 0 where
  pub linked : IsLinked heads nodes
  pub in_heads : h < length heads
  pub in_nodes : n < length nodes
  pub fits : k < 2 ^ 32
  pub free : place_at (places_of nodes) n ≡ None
  pub fresh : (i : ℕ) → place_at (places_of nodes) i ≢ Some (h, k)
  pub place : IsLinkPlace heads nodes h k linked g
  pub left : IsWithin g.0 (length nodes)
  pub right : IsWithin g.1 (length nodes)
  pub room : (head_at heads h).len + 1 < 2 ^ 32
  pub small : length nodes < 2 ^ 32

pub insertion_known : (heads : List Head) (nodes : List Node) (h n k : ℕ) (o : Option (Option ℕ × Option ℕ)) (g : Option ℕ × Option ℕ) → IsLinked heads nodes → h < length heads
    → n < length (places_of nodes) → k < 2 ^ 32 → place_at (places_of nodes) n ≡ None → ((i : ℕ) → place_at (places_of nodes) i ≢ Some (h, k))
    → MatchOption o (IsLoose h) (λ x. IsGap (place_at (places_of nodes)) h k x) → MatchOption o (g ≡ ((head_at heads h).last, None)) (λ x. g ≡ x) → IsInsertion heads nodes h n k g
insertion_known heads nodes h n k o g t in_heads within fits free fresh gap is = record {
  linked = t;
  in_heads = in_heads;
  in_nodes = omega (arith, same_length);
  fits = fits;
  free = free;
  fresh = fresh;
  place = place;
  left = fitting g.0 (nearest_within (back_from (t.now + 1)) t.came (places_of nodes) h _ g.0 place.before);
  right = fitting g.1 (nearest_within up t.came (places_of nodes) h _ g.1 place.after);
  room = omega (arith, t.counted h in_heads, count_inserted (places_of nodes) h n k within free, count_by-le-length (is_in h) (set (places_of nodes) n (Some (h, k))), length-set (places_of nodes) n (Some (h, k)), t.table.small);
  small = omega (arith, t.table.small, same_length);
}
  where
    place : IsLinkPlace heads nodes h k t g
    place = link_place heads nodes h k t o g in_heads fits gap is

    same_length : length (places_of nodes) ≡ length nodes
    same_length = length-map nodes place_in

    fitting : (o : Option ℕ) → IsWithin o (length (places_of nodes)) → IsWithin o (length nodes)
    fitting o w = record { below = λ i e. omega (arith, w.below i e, same_length) }

-- the tables are still linked after node n is linked into list h
pub linked_in : (heads : List Head) (nodes : List Node) (h n k : ℕ) (g : Option ℕ × Option ℕ) → IsInsertion heads nodes h n k g
    → IsLinked (heads_linked heads h n g.0 g.1) (nodes_linked nodes h n k g.0 g.1)
linked_in heads nodes h n k g x =
    linked_inserted heads _ nodes _ h n k x.linked.now g.0 g.1 ((head_at heads h).len + 1) x.linked
    (rewired heads nodes h n (linked_node h k g.0 g.1) g.0 g.1 (Some n) (Some n) ((head_at heads h).len + 1) x.in_heads x.in_nodes x.left x.right) refl x.in_heads x.in_nodes x.fits (omega arith) x.free x.fresh
    (rank_is_new x.linked.came x.linked.now (places_of nodes) (ranked_before heads nodes x.linked) h k x.fresh) x.place.before x.place.after

pub shown_in : (heads : List Head) (nodes : List Node) (h n k : ℕ) (g : Option ℕ × Option ℕ) → IsInsertion heads nodes h n k g
    → shown (heads_linked heads h n g.0 g.1) (nodes_linked nodes h n k g.0 g.1) ≡ inserted (shown heads nodes) h n k
shown_in heads nodes h n k g x =
    shown_rewired heads _ nodes _ h n (linked_node h k g.0 g.1) g.0 g.1 (Some n) (Some n) ((head_at heads h).len + 1)
    (rewired heads nodes h n (linked_node h k g.0 g.1) g.0 g.1 (Some n) (Some n) ((head_at heads h).len + 1) x.in_heads x.in_nodes x.left x.right)

-- taking out node n, which was read as x, links its neighbours `x.previous` and `x.next` to each other
without : (heads : List Head) (nodes : List Node) (n : ℕ) (x : Node) (h : ℕ) → IsRemoval heads nodes n x h
    → IsRewired heads (heads_unlinked heads h x.previous x.next) nodes (nodes_unlinked nodes n x.previous x.next) h n free_node x.previous x.next x.next x.previous ((head_at heads h).len - 1)
without heads nodes n x h r = rewired heads nodes h n free_node x.previous x.next x.next x.previous ((head_at heads h).len - 1) r.in_heads r.in_nodes r.left r.right

pub linked_out : (heads : List Head) (nodes : List Node) (n : ℕ) (x : Node) (h : ℕ) → IsRemoval heads nodes n x h
    → IsLinked (heads_unlinked heads h x.previous x.next) (nodes_unlinked nodes n x.previous x.next)
linked_out heads nodes n x h r = linked_removed heads _ nodes _ h n x.key x _ r.linked r.read (without heads nodes n x h r) (omega (arith, r.some)) r.place

pub shown_out : (heads : List Head) (nodes : List Node) (n : ℕ) (x : Node) (h : ℕ) → IsRemoval heads nodes n x h
    → shown (heads_unlinked heads h x.previous x.next) (nodes_unlinked nodes n x.previous x.next) ≡ removed (shown heads nodes) n
shown_out heads nodes n x h r = shown_rewired heads _ nodes _ h n free_node x.previous x.next x.next x.previous _ (without heads nodes n x h r)

-- the tables with node n, which was read as x, replaced by node j
abbrev pub heads_replaced : List Head → (h j : ℕ) → Node → List Head
heads_replaced heads h j x = heads_linked (heads_unlinked heads h x.previous x.next) h j x.previous x.next

abbrev pub nodes_replaced : List Node → (h n j : ℕ) → Node → List Node
nodes_replaced nodes h n j x = nodes_linked (nodes_unlinked nodes n x.previous x.next) h j x.key x.previous x.next

pub nodes_stay : (nodes : List Node) (n : ℕ) (previous next : Option ℕ) → length (nodes_unlinked nodes n previous next) ≡ length nodes
nodes_stay nodes n previous next = length_before next previous _ ∙ (length_after previous next _ ∙ length-set nodes n free_node)

replacing : (heads : List Head) (nodes : List Node) (n j : ℕ) (x : Node) (h : ℕ) → IsRemoval heads nodes n x h → j < length (places_of nodes)
    → IsRewired (heads_unlinked heads h x.previous x.next) (heads_replaced heads h j x) (nodes_unlinked nodes n x.previous x.next) (nodes_replaced nodes h n j x) h j (linked_node h x.key x.previous x.next)
    x.previous x.next (Some j) (Some j) ((head_at (heads_unlinked heads h x.previous x.next) h).len + 1)
replacing heads nodes n j x h r within =
    rewired _ _ h j (linked_node h x.key x.previous x.next) x.previous x.next (Some j) (Some j) _ (omega (arith, (without heads nodes n x h r).heads_stay, r.in_heads)) (omega (arith, stay, length-map nodes place_in))
    (record { below = λ i e. omega (arith, stay, r.left.below i e) }) (record { below = λ i e. omega (arith, stay, r.right.below i e) })
  where
    stay : length (nodes_unlinked nodes n x.previous x.next) ≡ length nodes
    stay = nodes_stay nodes n x.previous x.next

pub linked_over : (heads : List Head) (nodes : List Node) (n j : ℕ) (x : Node) (h : ℕ) → IsRemoval heads nodes n x h → j < length (places_of nodes) → place_at (places_of nodes) j ≡ None
    → IsLinked (heads_replaced heads h j x) (nodes_replaced nodes h n j x)
linked_over heads nodes n j x h r within free =
    linked_replaced heads _ _ nodes _ _ h n j x.key x _ _ r.linked r.read w (omega (arith, r.some)) r.place (omega (arith, nodes_stay nodes n x.previous x.next, length-map nodes place_in))
    (ap (λ ps. place_at ps j) w.places ∙ elim (cases_eq j n) [
      | inl e ↦ let f : place_at (places_of nodes) j ≡ place_at (places_of nodes) n = ap (place_at (places_of nodes)) e in let p = r.place in absurd (let q : ◌≡◌ {A = Option (ℕ × ℕ)} None (Some (h, x.key)) = cc in cc)
      | inr ne ↦ sym (put.others j ne) ∙ free
    ]) (replacing heads nodes n j x h r within) refl
  where
    w : IsRewired heads (heads_unlinked heads h x.previous x.next) nodes (nodes_unlinked nodes n x.previous x.next) h n free_node x.previous x.next x.next x.previous ((head_at heads h).len - 1)
    w = without heads nodes n x h r

    put : IsPut (place_at (set (places_of nodes) n None)) (place_at (places_of nodes)) h n x.key
    put = put_by_removal (shown heads nodes) h n x.key r.linked.table r.place

pub shown_over : (heads : List Head) (nodes : List Node) (n j : ℕ) (x : Node) (h : ℕ) → IsRemoval heads nodes n x h → j < length (places_of nodes)
    → shown (heads_replaced heads h j x) (nodes_replaced nodes h n j x) ≡ replaced (shown heads nodes) n j
shown_over heads nodes n j x h r within =
    shown_rewired _ _ _ _ h j (linked_node h x.key x.previous x.next) x.previous x.next (Some j) (Some j) _ (replacing heads nodes n j x h r within)
    ∙ ap₂ (λ (m : ℕ) (ps : List (Option (ℕ × ℕ))). record { heads = m; places = set ps j (Some (h, x.key)) }) w.heads_stay w.places
    ∙ ap (λ (o : Option (ℕ × ℕ)). record { heads = length heads; places = set (set (places_of nodes) n None) j o }) (sym r.place)
  where
    w : IsRewired heads (heads_unlinked heads h x.previous x.next) nodes (nodes_unlinked nodes n x.previous x.next) h n free_node x.previous x.next x.next x.previous ((head_at heads h).len - 1)
    w = without heads nodes n x h r

-- if `len` is the length of xs, the first `len` elements of `xs ++ rest` are xs
pub seam : {A : Type 0} (xs rest : List A) (len : ℕ) → len ≡ length xs → take len (xs ++ rest) ≡ xs
seam xs rest len e = ap (λ n. take n (xs ++ rest)) e ∙ take-append_seam xs rest

-- tables that are equal to linked tables are linked too; this is used when the borrow of the slices of the tables ends
pub linked_back : (heads heads' : List Head) (nodes nodes' : List Node) → heads' ≡ heads → nodes' ≡ nodes → IsLinked heads nodes → IsLinked heads' nodes'
linked_back heads heads' nodes nodes' e f t = rw (e, f) t
