-- The tables of heads and nodes after the writes of an insertion and of a removal.
use Rattle.std.proofs.Common.{◌≡◌, ℕ, ◌<◌, List, Option, Some, None, [], length, set, get_or, refl, ap, sym, ◌∙◌, subst, arith}
use Rattle.std.specs.Prelude.{◌≢◌}
use Rattle.std.proofs.Math.ListN.{get_or-map}
use Rattle.std.proofs.Math.Seq.{map-set_same}
use Rattle.std.proofs.lemmas.List.{length-set, get_or-set_same, get_or-set_other, map-set}
use Rattle.klist_core.specs.Links.{head_at, node_at, places_of, place_in}
use Rattle.klist_core.specs.Writes.{heads_linked_after, heads_linked_before, nodes_linked_after, nodes_linked_before, heads_counted, heads_rewired, nodes_rewired}
use Rattle.klist_core.specs.declared.Head.{Head}
use Rattle.klist_core.specs.declared.Node.{Node}
use Rattle.klist_core.proofs.Chains.{IsRelinked}

-- o is None or a node of a table with `len` nodes
pub record IsWithin (o : Option ℕ) (len : ℕ) : Type 0 where
  pub below : (i : ℕ) → o ≡ Some i → i < len

-- if y and element i agree in field f, writing y over element i changes field f of no element
unseen : {X Y : Type 0} (f : X → Y) (xs : List X) (i j : ℕ) (y d : X) → f y ≡ f (get_or xs i d) → f (get_or (set xs i y) j d) ≡ f (get_or xs j d)
unseen {X} {Y} f xs i j y d e = sym (get_or-map f (set xs i y) j d) ∙ (ap (λ (zs : List Y). get_or zs j (f d)) (map-set_same f xs i y d e) ∙ get_or-map f xs j d)

pub length_after : (o to : Option ℕ) (nodes : List Node) → length (nodes_linked_after o to nodes) ≡ length nodes
length_after None to nodes = refl
length_after (Some i) to nodes = length-set nodes i _

pub length_before : (o to : Option ℕ) (nodes : List Node) → length (nodes_linked_before o to nodes) ≡ length nodes
length_before None to nodes = refl
length_before (Some i) to nodes = length-set nodes i _

heads_after : (o : Option ℕ) (h : ℕ) (to : Option ℕ) (heads : List Head) → length (heads_linked_after o h to heads) ≡ length heads
heads_after None h to heads = length-set heads h _
heads_after (Some i) h to heads = refl

heads_before : (o : Option ℕ) (h : ℕ) (to : Option ℕ) (heads : List Head) → length (heads_linked_before o h to heads) ≡ length heads
heads_before None h to heads = length-set heads h _
heads_before (Some i) h to heads = refl

places_after : (o to : Option ℕ) (nodes : List Node) → places_of (nodes_linked_after o to nodes) ≡ places_of nodes
places_after None to nodes = refl
places_after (Some i) to nodes = map-set_same place_in nodes i (record (node_at nodes i) { next = to }) (node_at [] 0) refl

places_before : (o to : Option ℕ) (nodes : List Node) → places_of (nodes_linked_before o to nodes) ≡ places_of nodes
places_before None to nodes = refl
places_before (Some i) to nodes = map-set_same place_in nodes i (record (node_at nodes i) { previous = to }) (node_at [] 0) refl

-- writes of links in one direction do not change the links in the other direction
next_before : (o to : Option ℕ) (nodes : List Node) (i : ℕ) → (node_at (nodes_linked_before o to nodes) i).next ≡ (node_at nodes i).next
next_before None to nodes i = refl
next_before (Some j) to nodes i = unseen (λ (n : Node). n.next) nodes j i (record (node_at nodes j) { previous = to }) (node_at [] 0) refl

previous_after : (o to : Option ℕ) (nodes : List Node) (i : ℕ) → (node_at (nodes_linked_after o to nodes) i).previous ≡ (node_at nodes i).previous
previous_after None to nodes i = refl
previous_after (Some j) to nodes i = unseen (λ (n : Node). n.previous) nodes j i (record (node_at nodes j) { next = to }) (node_at [] 0) refl

first_before : (o : Option ℕ) (h : ℕ) (to : Option ℕ) (heads : List Head) (g : ℕ) → (head_at (heads_linked_before o h to heads) g).first ≡ (head_at heads g).first
first_before None h to heads g = unseen (λ (x : Head). x.first) heads h g (record (head_at heads h) { last = to }) (head_at [] 0) refl
first_before (Some i) h to heads g = refl

last_after : (o : Option ℕ) (h : ℕ) (to : Option ℕ) (heads : List Head) (g : ℕ) → (head_at (heads_linked_after o h to heads) g).last ≡ (head_at heads g).last
last_after None h to heads g = unseen (λ (x : Head). x.last) heads h g (record (head_at heads h) { first = to }) (head_at [] 0) refl
last_after (Some i) h to heads g = refl

len_after : (o : Option ℕ) (h : ℕ) (to : Option ℕ) (heads : List Head) (g : ℕ) → (head_at (heads_linked_after o h to heads) g).len ≡ (head_at heads g).len
len_after None h to heads g = unseen (λ (x : Head). x.len) heads h g (record (head_at heads h) { first = to }) (head_at [] 0) refl
len_after (Some i) h to heads g = refl

len_before : (o : Option ℕ) (h : ℕ) (to : Option ℕ) (heads : List Head) (g : ℕ) → (head_at (heads_linked_before o h to heads) g).len ≡ (head_at heads g).len
len_before None h to heads g = unseen (λ (x : Head). x.len) heads h g (record (head_at heads h) { last = to }) (head_at [] 0) refl
len_before (Some i) h to heads g = refl

-- In one direction, f reads the first node of a list and g reads the link of a node. Suppose that no first node has changed, and
-- no link except perhaps the link of node n. If list h then gets the head x, only two things have changed: the first node of list
-- h, which is now `to`, and perhaps the link of node n.
ends_relinked : (f : Head → Option ℕ) (g : Node → Option ℕ) (h n : ℕ) (to : Option ℕ) (ends links : ℕ → Option ℕ) (heads : List Head) (nodes : List Node) (x : Head) → h < length heads → f x ≡ to
    → ((i : ℕ) → f (head_at heads i) ≡ ends i) → ((i : ℕ) → i ≢ n → g (node_at nodes i) ≡ links i)
    → IsRelinked ends links (λ i. f (head_at (set heads h x) i)) (λ i. g (node_at nodes i)) h n None to
ends_relinked f g h n to ends links heads nodes x lt is e l = record {
  begin = λ _. ap f (get_or-set_same heads h x (head_at [] 0) lt) ∙ is;
  other_begin = λ i ne. ap f (get_or-set_other heads h i x (head_at [] 0) (λ q. ne q refl)) ∙ e i;
  link = λ i q. cc;
  other_link = λ i ne _. l i ne;
}

-- if instead node j becomes y, what has changed is the link of node j, which is now `to`, and perhaps the link of node n
links_relinked : (f : Head → Option ℕ) (g : Node → Option ℕ) (h n j : ℕ) (to : Option ℕ) (ends links : ℕ → Option ℕ) (heads : List Head) (nodes : List Node) (y : Node) → j < length nodes → g y ≡ to
    → ((i : ℕ) → f (head_at heads i) ≡ ends i) → ((i : ℕ) → i ≢ n → g (node_at nodes i) ≡ links i)
    → IsRelinked ends links (λ i. f (head_at heads i)) (λ i. g (node_at (set nodes j y) i)) h n (Some j) to
links_relinked f g h n j to ends links heads nodes y lt is e l = record {
  begin = λ q. cc;
  other_begin = λ i ne. e i;
  link = λ i q. let same : j ≡ i = cc in subst (λ k. g (node_at (set nodes j y) k) ≡ to) same (ap g (get_or-set_same nodes j y (node_at [] 0) lt) ∙ is);
  other_link = λ i ne q. ap g (get_or-set_other nodes j i y (node_at [] 0) (λ same. q (ap Some (sym same)))) ∙ l i ne;
}

after_relinks : (o : Option ℕ) (h n : ℕ) (to : Option ℕ) (ends links : ℕ → Option ℕ) (heads : List Head) (nodes : List Node) → h < length heads → IsWithin o (length nodes)
    → ((g : ℕ) → (head_at heads g).first ≡ ends g) → ((i : ℕ) → i ≢ n → (node_at nodes i).next ≡ links i)
    → IsRelinked ends links (λ g. (head_at (heads_linked_after o h to heads) g).first) (λ i. (node_at (nodes_linked_after o to nodes) i).next) h n o to
after_relinks None h n to ends links heads nodes lt w e f = ends_relinked (λ (x : Head). x.first) (λ (x : Node). x.next) h n to ends links heads nodes _ lt refl e f
after_relinks (Some j) h n to ends links heads nodes lt w e f = links_relinked (λ (x : Head). x.first) (λ (x : Node). x.next) h n j to ends links heads nodes _ (w.below j refl) refl e f

before_relinks : (o : Option ℕ) (h n : ℕ) (to : Option ℕ) (ends links : ℕ → Option ℕ) (heads : List Head) (nodes : List Node) → h < length heads → IsWithin o (length nodes)
    → ((g : ℕ) → (head_at heads g).last ≡ ends g) → ((i : ℕ) → i ≢ n → (node_at nodes i).previous ≡ links i)
    → IsRelinked ends links (λ g. (head_at (heads_linked_before o h to heads) g).last) (λ i. (node_at (nodes_linked_before o to nodes) i).previous) h n o to
before_relinks None h n to ends links heads nodes lt w e f = ends_relinked (λ (x : Head). x.last) (λ (x : Node). x.previous) h n to ends links heads nodes _ lt refl e f
before_relinks (Some j) h n to ends links heads nodes lt w e f = links_relinked (λ (x : Head). x.last) (λ (x : Node). x.previous) h n j to ends links heads nodes _ (w.below j refl) refl e f

-- tables with the same ends and links as relinked tables are relinked too
relinked_same : (ends links e e' l l' : ℕ → Option ℕ) (h n : ℕ) (o to : Option ℕ) → IsRelinked ends links e l h n o to → ((g : ℕ) → e' g ≡ e g) → ((i : ℕ) → l' i ≡ l i)
    → IsRelinked ends links e' l' h n o to
relinked_same ends links e e' l l' h n o to r f g = record {
  begin = λ q. f h ∙ r.begin q;
  other_begin = λ x ne. f x ∙ r.other_begin x ne;
  link = λ i q. g i ∙ r.link i q;
  other_link = λ i ne q. g i ∙ r.other_link i ne q;
}

kept_after : (o to : Option ℕ) (nodes : List Node) (n : ℕ) → o ≢ Some n → (node_at (nodes_linked_after o to nodes) n).next ≡ (node_at nodes n).next
kept_after None to nodes n ne = refl
kept_after (Some j) to nodes n ne = ap (λ (x : Node). x.next) (get_or-set_other nodes j n (record (node_at nodes j) { next = to }) (node_at [] 0) (λ same. ne (ap Some (sym same))))

kept_before : (o to : Option ℕ) (nodes : List Node) (n : ℕ) → o ≢ Some n → (node_at (nodes_linked_before o to nodes) n).previous ≡ (node_at nodes n).previous
kept_before None to nodes n ne = refl
kept_before (Some j) to nodes n ne = ap (λ (x : Node). x.previous) (get_or-set_other nodes j n (record (node_at nodes j) { previous = to }) (node_at [] 0) (λ same. ne (ap Some (sym same))))

pub record IsRewired (heads heads' : List Head) (nodes nodes' : List Node) (h n : ℕ) (own : Node) (previous next a b : Option ℕ) (m : ℕ) : Type 0 where
  pub heads_stay : length heads' ≡ length heads
  pub places : places_of nodes' ≡ set (places_of nodes) n (place_in own)
  pub upwards : IsRelinked (λ g. (head_at heads g).first) (λ i. (node_at nodes i).next) (λ g. (head_at heads' g).first) (λ i. (node_at nodes' i).next) h n previous a
  pub downwards : IsRelinked (λ g. (head_at heads g).last) (λ i. (node_at nodes i).previous) (λ g. (head_at heads' g).last) (λ i. (node_at nodes' i).previous) h n next b
  pub own_next : previous ≢ Some n → (node_at nodes' n).next ≡ own.next
  pub own_previous : next ≢ Some n → (node_at nodes' n).previous ≡ own.previous
  pub len : (head_at heads' h).len ≡ m
  pub other_len : (g : ℕ) → g ≢ h → (head_at heads' g).len ≡ (head_at heads g).len

pub rewired : (heads : List Head) (nodes : List Node) (h n : ℕ) (own : Node) (previous next a b : Option ℕ) (m : ℕ) → h < length heads → n < length nodes
    → IsWithin previous (length nodes) → IsWithin next (length nodes)
    → IsRewired heads (heads_counted (heads_rewired heads h previous next a b) h m) nodes (nodes_rewired nodes n own previous next a b) h n own previous next a b m
rewired heads nodes h n own previous next a b m in_heads in_nodes left right = record {
  heads_stay = length-set two h (record (head_at two h) { len = m }) ∙ (heads_before next h b one ∙ heads_after previous h a heads);
  places = places_before next b after ∙ (places_after previous a written ∙ map-set place_in nodes n own);
  upwards = relinked_same _ _ (λ g. (head_at one g).first) _ (λ i. (node_at after i).next) _ h n previous a
      (after_relinks previous h n a (λ g. (head_at heads g).first) (λ i. (node_at nodes i).next) heads written in_heads (within previous left) (λ g. refl)
      (λ i ne. ap (λ (x : Node). x.next) (get_or-set_other nodes n i own (node_at [] 0) ne)))
      (λ g. unseen (λ (x : Head). x.first) two h g (record (head_at two h) { len = m }) (head_at [] 0) refl ∙ first_before next h b one g)
      (λ i. next_before next b after i);
  downwards = relinked_same _ _ (λ g. (head_at two g).last) _ (λ i. (node_at (nodes_linked_before next b after) i).previous) _ h n next b
      (before_relinks next h n b (λ g. (head_at heads g).last) (λ i. (node_at nodes i).previous) one after in_one (within_after next right) (last_after previous h a heads)
      (λ i ne. previous_after previous a written i ∙ ap (λ (x : Node). x.previous) (get_or-set_other nodes n i own (node_at [] 0) ne)))
      (λ g. unseen (λ (x : Head). x.last) two h g (record (head_at two h) { len = m }) (head_at [] 0) refl)
      (λ i. refl);
  own_next = λ ne. next_before next b after n ∙ (kept_after previous a written n ne ∙ ap (λ (x : Node). x.next) here);
  own_previous = λ ne. kept_before next b after n ne ∙ (previous_after previous a written n ∙ ap (λ (x : Node). x.previous) here);
  len = ap (λ (x : Head). x.len) (get_or-set_same two h (record (head_at two h) { len = m }) (head_at [] 0) in_two);
  other_len = λ g ne. ap (λ (x : Head). x.len) (get_or-set_other two h g (record (head_at two h) { len = m }) (head_at [] 0) ne) ∙ (len_before next h b one g ∙ len_after previous h a heads g);
}
  where
    one : List Head
    one = heads_linked_after previous h a heads

    two : List Head
    two = heads_linked_before next h b one

    written : List Node
    written = set nodes n own

    after : List Node
    after = nodes_linked_after previous a written

    here : node_at written n ≡ own
    here = get_or-set_same nodes n own (node_at [] 0) in_nodes

    in_one : h < length one
    in_one = omega (arith, heads_after previous h a heads)

    in_two : h < length two
    in_two = omega (arith, heads_before next h b one, heads_after previous h a heads)

    within : (o : Option ℕ) → IsWithin o (length nodes) → IsWithin o (length written)
    within o w = record { below = λ i e. omega (arith, w.below i e, length-set nodes n own) }

    within_after : (o : Option ℕ) → IsWithin o (length nodes) → IsWithin o (length after)
    within_after o w = record { below = λ i e. omega (arith, w.below i e, length-set nodes n own, length_after previous a written) }
