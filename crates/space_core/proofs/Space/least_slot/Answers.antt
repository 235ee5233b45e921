use Rattle.std.proofs.Common.{List, Bool, IsSome, is_none, position, [], ap, sym, ◌∙◌, subst, arith}
use Rattle.space_core.specs.Content.{Content, slots_of}
use Rattle.space_core.specs.Tables.{stored_rows}
use Rattle.space_core.specs.Vacancy.{vacant_of}
use Rattle.space_core.proofs.VacantSlots.{has_vacant_slot, least_from_position, slot-lt}
use Rattle.space_core.proofs.Vacancies.{least_vacant_is, tenant_in_set}
use Rattle.space_core.proofs.Space.least_slot.Goals as goal

pub least_vacant-requires : goal.least_vacant-requires
least_vacant-requires c =
    let tenant = rw (← c.self.view_is) at c.requires.tenant in
    let vacancy = c.self.inside.vacancy in
    let lt = tenant_in_set c.self.inside.owners.items (stored_rows c.self.inside.slots) vacancy.unowned vacancy.vacant.items c.self.invariant.2 c.args.t 0 [] [] tenant in
    omega (arith, lt, vacancy.vacant.ok.0)

pub unwrap-requires : goal.unwrap-requires
unwrap-requires c =
    let found = c.least_vacant.ensures
    ∙ ap (λ (rows : List (List Bool)). position (λ b. b) (vacant_of rows c.args.t)) c.self.invariant.2.rows
    ∙ least_vacant_is (stored_rows c.self.inside.slots) c.args.t
    ∙ ap (λ (s : Content). position is_none (slots_of s.slots c.args.t)) c.self.view_is in
    subst IsSome (sym found) (has_vacant_slot c.laws.ensures.facts c.args.t c.requires.tenant c.requires.pool)

pub returns-clause-slot : goal.returns-clause-slot
returns-clause-slot c =
    let found = c.least_vacant.ensures
    ∙ ap (λ (rows : List (List Bool)). position (λ b. b) (vacant_of rows c.args.t)) c.self.invariant.2.rows
    ∙ least_vacant_is (stored_rows c.self.inside.slots) c.args.t
    ∙ ap (λ (s : Content). position is_none (slots_of s.slots c.args.t)) c.self.view_is in
    least_from_position c.args.self.now.slots c.args.t c.unwrap.result (sym found ∙ c.unwrap.ensures)

pub returns-clause-below : goal.returns-clause-below
returns-clause-below c =
    let found = c.least_vacant.ensures
    ∙ ap (λ (rows : List (List Bool)). position (λ b. b) (vacant_of rows c.args.t)) c.self.invariant.2.rows
    ∙ least_vacant_is (stored_rows c.self.inside.slots) c.args.t
    ∙ ap (λ (s : Content). position is_none (slots_of s.slots c.args.t)) c.self.view_is in
    slot-lt c.laws.ensures.facts c.args.t c.unwrap.result c.requires.tenant (sym found ∙ c.unwrap.ensures)
