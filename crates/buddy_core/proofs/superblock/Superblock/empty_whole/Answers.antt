use Rattle.std.proofs.Common.{◌≡◌, ap, ap₂, sym, ◌∙◌, ℕ, ◌^◌, ◌<◌, Option, None, List, length, get_or, replicate, arith}
use Rattle.std.proofs.lemmas.List.{get_or_default, get_or-replicate, length-replicate, same_lists}
use Rattle.buddy_core.specs.Stored.{StoredTree, StoredSuperblock, bare_tree}
use Rattle.buddy_core.proofs.superblock.Superblock.empty_whole.Goals as goal

-- a list whose entries are all None
all_none : (n : ℕ) (os : List (Option ℕ)) → length os ≡ n → ((x : ℕ) → x < n → get_or os x None ≡ None) → os ≡ replicate n None
all_none n os size none =
    same_lists os (replicate n None) (size ∙ sym (length-replicate n None)) (λ x v lt.
    get_or_default os x v None lt ∙ none x (omega (arith, size)) ∙ sym (get_or-replicate n x None v (omega (arith, size))))

pub returns : goal.returns
returns c =
    let top = c.args.self.now.tree.order in
    let none : (x : ℕ) → x < 2 ^ top → get_or c.self.inside.orders.items x None ≡ None
    = λ x lt. ap (λ (z : StoredSuperblock). get_or z.orders x None) c.self.view_is ∙ c.requires.untaken x lt in
    ap₂ superblock (c.empty_whole.ensures ∙ ap (λ (z : StoredSuperblock). bare_tree z.tree.order) c.self.view_is)
    (all_none (2 ^ top) c.self.inside.orders.items (c.self.invariant ∙ ap (λ (z : StoredSuperblock). 2 ^ z.tree.order) c.self.view_is) none)
  where
    superblock : StoredTree → List (Option ℕ) → StoredSuperblock
    superblock tree orders = record { tree = tree; orders = orders }
