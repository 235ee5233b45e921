use Rattle.std.proofs.Common.{◌≡◌, ◌≤◌, false, sym, ap, ◌∙◌, subst, arith}
use Rattle.std.proofs.lemmas.Bool.{false≢true}
use Rattle.slab_tables.specs.declared.cache.Kept.{Kept}
use Rattle.slab_tables.specs.Content.{Content, IsPlacedIn, kept_at}
use Rattle.slab_tables.specs.Changes.{with_count}
use Rattle.slab_core.specs.Objects.{found_in, IsRecounted}
use Rattle.slab_core.proofs.ObjectMarked.{IsCountOf}
use Rattle.slab_core.proofs.SlabRecounted.{some_now, placed_now, alone_now, below_now, counted_now}
use Rattle.slab_core.proofs.Slabs.recount.Goals as goal
use Rattle.slab_core.proofs.Slabs.recount.Goals.{then-live, else-live, After-from-before, After-set_count}

before_is : (c : After-from-before) → c.from-before.result ≡ (kept_at c.args.self.now.kept c.args.object.slab.machine_frame).live
before_is c =
    c.from-before.ensures ∙ ap (λ (k : Kept). k.live) c.kept_of.ensures
    ∙ ap (λ (s : Content). (kept_at s.kept c.args.object.slab.machine_frame).live) c.self.view_is

some : (c : After-from-before) → c.args.live ≡ false → 1 ≤ c.from-before.result
some c dead = omega (arith, some_now c.requires.4 dead, before_is c)

pub overflow_sub-count : goal.overflow_sub-count
overflow_sub-count c = some (goal.at.overflow_sub-count c).After-from-before c.if-live.false

pub set_count-requires-clause-slab : goal.set_count-requires-clause-slab
set_count-requires-clause-slab c =
    let slab = c.args.object.slab in
    subst (λ (s : Content). IsPlacedIn s c.args.cache.tenant c.args.cache.number slab.first slab.machine_frame) (sym c.self.view_is) (placed_now c.requires.4)

pub set_count-requires-clause-alone : goal.set_count-requires-clause-alone
set_count-requires-clause-alone c = λ n e.
    alone_now c.requires.4 n (subst (λ (s : Content). IsPlacedIn s c.args.cache.tenant c.args.cache.number c.args.object.slab.first n) c.self.view_is e)

pub set_count-requires-clause-few : goal.set_count-requires-clause-few
set_count-requires-clause-few c =
    let a = (goal.at.set_count-requires-clause-few c).After-from-before in
    let before = before_is a in
    let counts : IsCountOf c.args.live (kept_at c.args.self.now.kept c.args.object.slab.machine_frame).live c.if-live.count = elim c.if-live.branch [
      | then-live w ↦ (λ e. omega (arith, w.count-is), λ e. absurd (false≢true (sym e ∙ w.if-live.true)))
      | else-live w ↦ (λ e. absurd (false≢true (sym w.if-live.false ∙ e)), λ e. omega (arith, w.count-is, some a e))
    ] in
    below_now c.requires.4 c.if-live.count counts

counts : (c : After-set_count) → IsCountOf c.args.live (kept_at c.args.self.now.kept c.args.object.slab.machine_frame).live c.if-live.count
counts c =
    let a = (goal.at.returns c).After-from-before in
    let before = before_is a in
    elim c.if-live.branch [
      | then-live w ↦ (λ e. omega (arith, w.count-is), λ e. absurd (false≢true (sym e ∙ w.if-live.true)))
      | else-live w ↦ (λ e. absurd (false≢true (sym w.if-live.false ∙ e)), λ e. omega (arith, w.count-is, some a e))
    ]

pub returns : goal.returns
returns c = λ r r' b s k.
    let cache = c.args.cache in
    let slab = c.args.object.slab in
    let same =
    c.set_count.ensures ∙ ap (λ (x : Content). with_count x cache.tenant cache.number cache.kept.now slab.first slab.machine_frame c.if-live.count) c.self.view_is in
    subst (λ (x : Content). IsRecounted r r' b s x cache.tenant cache.number (found_in cache.kept.now c.args.object) c.args.live) (sym same)
    (counted_now k c.if-live.count (counts c))
