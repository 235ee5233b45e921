-- The slab that a take uses in the parts is the slab that a take finds in the machine.
use Rattle.std.proofs.Common.{◌≡◌, ℕ, ◌<◌, ◌≤◌, Some, None, sym, ap, ◌∙◌, subst, ⊎_elim, arith}
use Rattle.std.proofs.lemmas.Bool.{false_from_ne_true}
use Rattle.std.specs.Prelude.{find}
use Rattle.model_core.specs.Machine.{Slab, Cache, Machine}
use Rattle.model_core.specs.Slabs.{is_empty, cache_of, slab_of, slab_to_use}
use Rattle.klist_core.specs.Places.{IsEmpty, IsFirst}
use Rattle.space_core.specs.Content as spaces
use Rattle.buddy_core.specs.Content as buddies
use Rattle.slab_tables.specs.Content.{Content, IsSlabs, head_of}
use Rattle.machine_changes.specs.Shows.{ShowsMachine, Agree}
use Rattle.machine_changes.specs.Laws.{is_kind, TakeUses, TakeMakes}
use Rattle.machine_changes.proofs.SearchResults.{find_none, find_least}
use Rattle.machine_changes.proofs.SlabsByKind.{to_list, from_list}

module _ (r : spaces.Content) (b : buddies.Content) (s : Content) (w : IsSlabs s) (a : Agree r b s) (t c kind : ℕ) (less : kind < 3)
    (m : Machine) (x : Cache) (h : ShowsMachine r b s t m) (ex : cache_of m c ≡ Some x) where
  -- if the cache's list of this kind is empty, a search in the machine's cache for a slab of this kind finds nothing
  none_found : IsEmpty s.lists.places (head_of t c kind) → find (is_kind kind) x.slabs ≡ None
  none_found none =
      find_none (is_kind kind) x.slabs (λ y i. false_from_ne_true (is_kind kind y) (λ e.
      let there = to_list r b s w a t c kind less m x h ex y i e in
      none there.machine_frame y.first there.place))

  -- a search in the machine's cache for a slab of this kind finds the slab at frame `first`
  record IsFound (first : ℕ) : Type 0 where
    slab : Slab
    found : find (is_kind kind) x.slabs ≡ Some slab
    standing : slab_of x first ≡ Some slab

  first_found : (first machine_frame : ℕ) → IsFirst s.lists.places (head_of t c kind) first machine_frame → IsFound first
  first_found first machine_frame is =
      let there = from_list r b s w a t c kind less m x h ex first machine_frame is.here in
      record {
        slab = there.slab;
        found = find_least (λ y. y.first) (is_kind kind) 0 there.slab x.slabs (h.slabs_rise c x ex) there.listed there.passes (λ y i e.
            let also = to_list r b s w a t c kind less m x h ex y i e in
            subst (λ f. f ≤ y.first) (sym there.begins) (is.least also.machine_frame y.first also.place));
        standing = there.standing;
      }

pub take_uses : TakeUses
unfolding slab_to_use
take_uses r b s t c cache o m x w a st h ex is_used =
    ⊎_elim
    (λ first.
    let is = first_found r b s w a t c 1 (omega arith) m x h ex o.first o.machine_frame first in
    (is.slab, ap (λ p. slab_to_use p (find is_empty x.slabs)) is.found, is.standing))
    (λ others.
    let is = first_found r b s w a t c 2 (omega arith) m x h ex o.first o.machine_frame others.1 in
    (is.slab, ap (λ p. slab_to_use p (find is_empty x.slabs)) (none_found r b s w a t c 1 (omega arith) m x h ex others.0) ∙ is.found, is.standing))
    is_used.first

pub take_makes : TakeMakes
unfolding slab_to_use
take_makes r b s t c m x w a st h ex full =
    ap (λ p. slab_to_use p (find is_empty x.slabs)) (none_found r b s w a t c 1 (omega arith) m x h ex full.0)
    ∙ none_found r b s w a t c 2 (omega arith) m x h ex full.1
