-- After one slot of tenant t changes in the buddy system, the buddy system and the memory still agree on the other slots of t.
use Rattle.std.proofs.Common.{◌≡◌, ℕ, ◌<◌, cond, eqb, length, Some, None, get_or-set_same, get_or-set_other, sym, ap, ◌∙◌, ⊎_elim, arith}
use Rattle.std.specs.Prelude.{Option, List, slice_index_or, slice_set}
use Rattle.std.proofs.lemmas.Bool.{eq-eqb, ne_eqb, cases_eq}
use Rattle.space_core.specs.Content as spaces
use Rattle.buddy_core.specs.Content as buddies
use Rattle.slab_tables.specs.Content.{Content}
use Rattle.machine_changes.proofs.SteadyParts.{within}
use Rattle.machine_changes.specs.Slots.{HoldTogether}
use Rattle.machine_changes.proofs.NoSlabOnUnowned.{tenant_of}

replaced : (xs : List (Option ℕ)) (u : ℕ) (x : Option ℕ) (v : ℕ) → u < length xs
    → slice_index_or (slice_set xs u x) v None ≡ cond (eqb v u) x (slice_index_or xs v None)
replaced xs u x v below = ⊎_elim
    (λ e. ap (λ n. slice_index_or (slice_set xs u x) n None) e ∙ get_or-set_same xs u x None below
    ∙ sym (ap (λ w. cond w x (slice_index_or xs v None)) (eq-eqb v u e)))
    (λ differ. get_or-set_other xs u v x None differ ∙ sym (ap (λ w. cond w x (slice_index_or xs v None)) (ne_eqb v u differ)))
    (cases_eq v u)

-- after entry u of the tenant's slots in the buddy system becomes x, every other entry is the superblock that the memory has in
-- the slot of the entry
pub slots_with : (r : spaces.Content) (b : buddies.Content) (s : Content) → HoldTogether r b s → (t u v : ℕ) (x : Option ℕ) → t < length r.slots → u < length r.owners
    → slice_index_or (slice_set (buddies.holding_of t b).slots u x) v None ≡ cond (eqb v u) x (spaces.superblock_at r.slots t v)
slots_with r b s h t u v x tenant slot =
    let long : length (buddies.holding_of t b).slots ≡ b.superblocks = h.buddy.sizes.slots t (tenant_of r b s h t tenant) in
    let same : length r.owners ≡ b.superblocks = h.agree.superblocks in
    replaced (buddies.holding_of t b).slots u x v (omega arith) ∙ ap (cond (eqb v u) x) (h.agree.slots t v)

-- a slot with a superblock has a number below the number of superblocks
pub slot_below : (r : spaces.Content) (b : buddies.Content) (s : Content) → HoldTogether r b s → (t u m : ℕ) → t < length r.slots
    → spaces.superblock_at r.slots t u ≡ Some m → u < length r.owners
slot_below r b s h t u m tenant here =
    let less : u < length (spaces.slots_of r.slots t) = within (spaces.slots_of r.slots t) u m here in
    let long : length (spaces.slots_of r.slots t) ≡ length r.owners = h.space.facts.rows t tenant in
    omega arith
