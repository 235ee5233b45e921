use Rattle.std.proofs.Common.{◌≡◌, ℕ, ◌<◌, ◌≤◌, Option, None, List, length, get_or, replicate, inl, inr, ap, sym, ◌∙◌, arith}
use Rattle.std.proofs.lemmas.Bool.{cases_lt}
use Rattle.std.proofs.lemmas.List.{get_or-replicate, get_or_default, length-replicate, same_lists}
use Rattle.std.proofs.lemmas.List.Folds.{sum_by-replicate}
use Rattle.model_core.proofs.Lists.{everywhere}
use Rattle.buddy_core.specs.Stored.{StoredTenant}
use Rattle.buddy_core.proofs.tenant.Tenant.clear.Goals as goal
use Rattle.buddy_core.proofs.tenant.Tenant.clear.Goals.{After-loop-slot}

-- if the entries below `end` are None, and those from `end` on are as in a list that has None there, all entries are None
all_none : (old new : List (Option ℕ)) (end : ℕ) → length new ≡ length old → ((u : ℕ) → u < end → get_or new u None ≡ None) → ((u : ℕ) → end ≤ u → get_or new u None ≡ get_or old u None)
    → ((u : ℕ) → end ≤ u → get_or old u None ≡ None) → new ≡ replicate (length old) None
all_none old new end size below above rest =
    same_lists new (replicate (length old) None) (size ∙ sym (length-replicate (length old) None)) (λ k d lt.
    get_or_default new k d None lt
    ∙ elim (cases_lt k end) [ inl under ↦ below k under | inr past ↦ above k past ∙ rest k past ]
    ∙ sym (get_or-replicate (length old) k None d (omega (arith, size))))

-- after the loop, all slots are empty
cleared : (c : After-loop-slot) → c.loop-slot.self-inside.slots.items ≡ replicate (length c.self.inside.slots.items) None
cleared c =
    let e = c.loop-slot.invariant in
    let ends : c.self.inside.end ≤ c.loop-slot.slot = omega arith in
    all_none c.self.inside.slots.items c.loop-slot.self-inside.slots.items c.loop-slot.slot e.0 e.1 e.2 (λ u le. c.self.invariant.ends.rest u (omega arith))

pub invariant_of-self : goal.invariant_of-self
invariant_of-self c =
    let empty = cleared (goal.at.invariant_of-self c).After-loop-slot in
    record {
      ends = record { within = omega arith; rest = λ u le. ap (λ (os : List (Option ℕ)). get_or os u None) empty ∙ everywhere None (length c.self.inside.slots.items) u };
      counted = grind (arith, empty, sum_by-replicate);
      few = grind arith;
      orders = grind arith;
      alike = grind arith;
    }

pub returns-clause-slots : goal.returns-clause-slots
returns-clause-slots c =
    cleared (goal.at.returns-clause-slots c).After-loop-slot
    ∙ ap (λ (r : StoredTenant). replicate (length r.slots) None) c.self.view_is
