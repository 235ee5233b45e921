-- A table of empty heads and free nodes is linked, and contracts see that no node is in a list.
use Rattle.std.proofs.Common.{◌≡◌, ℕ, zero, suc, ◌^◌, ◌<◌, cond, List, ◌∷◌, Option, Some, None, length, replicate, refl, ap, sym, ◌∙◌, subst, arith}
use Rattle.std.specs.Prelude.{count_by}
use Rattle.std.proofs.Math.ListN.{length-replicate}
use Rattle.std.proofs.lemmas.List.Sums.{sum_by-cons}
use Rattle.klist_core.specs.Places.{Placed, place_at, is_in}
use Rattle.klist_core.specs.Links.{up, back_from, ranks, IsNearest, IsChain, IsLinked, free_node, places_of, shown}
use Rattle.klist_core.proofs.Ranks.{unranked}
use Rattle.klist_core.specs.declared.Head.{Head}
use Rattle.model_core.proofs.Lists.{everywhere}

abbrev pub empty_head : Head
empty_head = record { first = None; last = None; len = 0 }

pub places_fresh : (n : ℕ) → places_of (replicate n free_node) ≡ replicate n None
places_fresh zero = refl
places_fresh (suc n) = ap (λ (xs : List (Option (ℕ × ℕ))). None ∷ xs) (places_fresh n)

count_fresh : (h n : ℕ) → count_by (is_in h) (replicate n None) ≡ 0
count_fresh h zero = refl
count_fresh h (suc n) = sum_by-cons (λ p. cond (is_in h p) 1 0) None (replicate n None) ∙ omega (arith, count_fresh h n)

nowhere : (n i h k : ℕ) → place_at (places_of (replicate n free_node)) i ≡ Some (h, k) → ⊥
nowhere n i h k e =
    let f : ◌≡◌ {A = Option (ℕ × ℕ)} None (Some (h, k)) = sym (everywhere None n i) ∙ (ap (λ (xs : List (Option (ℕ × ℕ))). place_at xs i) (sym (places_fresh n)) ∙ e) in cc

abbrev long_ago : ℕ → ℕ
long_ago i = 0

unlinked : (n i h r : ℕ) → ranks long_ago (places_of (replicate n free_node)) i ≡ Some (h, r) → ⊥
unlinked n i h r e = let w = unranked 0 h r (place_at (places_of (replicate n free_node)) i) e in nowhere n i h w.0 w.1

chain_fresh : (rank : ℕ → ℕ) (nodes heads : ℕ) (ends links : ℕ → Option ℕ) → ((h : ℕ) → ends h ≡ None) → IsChain rank (ranks long_ago (places_of (replicate nodes free_node))) heads ends links
chain_fresh rank nodes heads ends links none = record {
  begins = λ h lt. subst (λ o. IsNearest rank (ranks long_ago (places_of (replicate nodes free_node))) h 0 o) (sym (none h)) (record { is = λ i k e. absurd (unlinked nodes i h k e) });
  goes_on = λ i h k e. absurd (unlinked nodes i h k e);
}

pub linked_fresh : (heads nodes : ℕ) → heads < 2 ^ 32 → nodes < 2 ^ 32 → IsLinked (replicate heads empty_head) (replicate nodes free_node)
linked_fresh heads nodes few small = record {
  table = record {
    few = omega (arith, length-replicate heads empty_head);
    small = omega (arith, ap length (places_fresh nodes), length-replicate nodes (none_placed));
    headed = λ i h k e. absurd (nowhere nodes i h k e);
    keyed = λ i h k e. absurd (nowhere nodes i h k e);
    apart = λ i j h k e f. absurd (nowhere nodes i h k e);
  };
  came = long_ago;
  now = 2 ^ 32;
  wide = omega arith;
  before = λ i. omega arith;
  apart = λ i j h r e f. absurd (unlinked nodes i h r e);
  upwards = chain_fresh up nodes (length (replicate heads empty_head)) _ _ (λ h. ap (λ (x : Head). x.first) (everywhere empty_head heads h));
  downwards = chain_fresh (back_from (2 ^ 32)) nodes (length (replicate heads empty_head)) _ _ (λ h. ap (λ (x : Head). x.last) (everywhere empty_head heads h));
  counted = λ h lt. ap (λ (x : Head). x.len) (everywhere empty_head heads h) ∙ (sym (count_fresh h nodes) ∙ ap (λ (xs : List (Option (ℕ × ℕ))). count_by (is_in h) xs) (sym (places_fresh nodes)));
}
  where
    none_placed : Option (ℕ × ℕ)
    none_placed = None

pub shown_fresh : (heads nodes : ℕ) → shown (replicate heads empty_head) (replicate nodes free_node) ≡ record { heads = heads; places = replicate nodes None }
shown_fresh heads nodes = ap (λ (x : ℕ). table_of x (places_of (replicate nodes free_node))) (length-replicate heads empty_head) ∙ ap (λ (x : List (Option (ℕ × ℕ))). table_of heads x) (places_fresh nodes)
  where
    table_of : ℕ → List (Option (ℕ × ℕ)) → Placed
    table_of x y = record { heads = x; places = y }
