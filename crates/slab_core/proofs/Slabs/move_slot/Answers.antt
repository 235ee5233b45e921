use Rattle.std.proofs.Common.{◌≡◌, ℕ, ◌<◌, Some, None, length, sym, subst, arith}
use Rattle.space_core.specs.Content as spaces
use Rattle.space_core.specs.Changes.{with_move}
use Rattle.buddy_core.specs.Content as buddies
use Rattle.slab_tables.specs.Content.{Content, IsTenant}
use Rattle.slab_tables.specs.Changes.{IsMoved}
use Rattle.machine_changes.specs.Shows.{Agree}
use Rattle.machine_changes.specs.Slots.{HoldTogether}
use Rattle.machine_changes.proofs.SlotMoved.{moved_shows}
use Rattle.slab_core.proofs.Slabs.move_slot.Goals as goal

agrees : (s s' : Content) (t from to : ℕ) → IsTenant s t → IsMoved s s' from to
    → (r : spaces.Content) (b : buddies.Content) (u : ℕ) → HoldTogether r b s
    → spaces.superblock_at r.slots t u ≡ Some from → to < length r.owners → spaces.owner_at r.owners to ≡ None
    → Agree (with_move r t u from to) (buddies.with_holding t (buddies.with_slot u to (buddies.holding_of t b)) b) s'
agrees s s' t from to tenant k r b u h under below free =
    (moved_shows r b s s' t u from to h (omega (arith, tenant, h.agree.tenants, h.agree.rows)) under below free k).1.agree

pub returns-clause-agree : goal.returns-clause-agree
returns-clause-agree c = λ r b u h.
    agrees _ _ c.args.t c.args.from c.args.to (subst (λ s. IsTenant s c.args.t) (sym c.self.view_is) c.requires.tenant) c.move_slot.ensures
    r b u (subst (λ s. HoldTogether r b s) (sym c.self.view_is) h)
