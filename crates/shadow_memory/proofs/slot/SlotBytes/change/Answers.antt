use Rattle.std.proofs.Common.{◌≡◌, ◌+◌, ◌/◌, List, length, get_or, map, None, sym, ap, ◌∙◌, subst, arith}
use Rattle.std.proofs.lemmas.List.{with_items_is}
use Rattle.shadow_memory.specs.declared.kept.KeptByte.{KeptByte}
use Rattle.shadow_memory.specs.declared.kept.KeptByte.TheVariants as Kept
use Rattle.shadow_memory.specs.declared.summary.Summary.{Summary}
use Rattle.shadow_memory.specs.Left.{LeftSlot}
use Rattle.shadow_memory.specs.Inside.{padded, shown_kept, within}
use Rattle.shadow_memory.specs.Summaries.{IsSummarizedBy, any_summary, cell_in}
use Rattle.shadow_memory.proofs.UnstoredPlaces.{changed_all, shown_at, shown_len}
use Rattle.shadow_memory.proofs.slot.SlotBytes.change.Goals as goal

pub change_range-requires-clause-chunks : goal.change_range-requires-clause-chunks
change_range-requires-clause-chunks g c k =
    let same : get_or c.deref_mut.result.now k Kept.Fresh ≡ get_or c.self.inside.cells.items k Kept.Fresh =
    ap (λ (xs : List KeptByte). get_or xs k Kept.Fresh) c.deref_mut.ensures.value ∙ c.make_room.ensures.same k in
    subst (λ (ms : List Summary). IsSummarizedBy (get_or ms (k / 64) any_summary) (cell_in c.deref_mut.result.now k)) (sym c.deref_mut-2.ensures.value)
    (subst (λ (x : KeptByte). IsSummarizedBy (get_or c.self.inside.chunks.items (k / 64) any_summary) (shown_kept x)) (sym same) (c.self.invariant.0 k))

pub change_range-requires-clause-frames : goal.change_range-requires-clause-frames
change_range-requires-clause-frames g c k =
    let same : get_or c.deref_mut.result.now k Kept.Fresh ≡ get_or c.self.inside.cells.items k Kept.Fresh =
    ap (λ (xs : List KeptByte). get_or xs k Kept.Fresh) c.deref_mut.ensures.value ∙ c.make_room.ensures.same k in
    subst (λ (ms : List Summary). IsSummarizedBy (get_or ms (k / 4096) any_summary) (cell_in c.deref_mut.result.now k)) (sym c.deref_mut-3.ensures.value)
    (subst (λ (x : KeptByte). IsSummarizedBy (get_or c.self.inside.frames.items (k / 4096) any_summary) (shown_kept x)) (sym same) (c.self.invariant.1 k))

pub returns-clause-cells : goal.returns-clause-cells
returns-clause-cells g c k lt =
    let old = c.self.inside.cells.items in
    let new = c.change_range.new.cells in
    let places = c.self.inside.places in
    let step = g.C.Change.step c.args.change.now in
    let items = with_items_is c.make_room.new.cells new (omega (arith, ap length c.deref_mut.ensures.value, c.make_room.new.cells.ok.0, c.change_range.auto.cells)) in
    let all : length c.args.self.now.cells ≡ places = ap (λ (s : LeftSlot). length s.cells) (sym c.self.view_is) ∙ shown_len places old c.self.invariant.2 in
    ap (λ (xs : List KeptByte). get_or (map shown_kept (padded places xs)) k None) items
    ∙ (shown_at places k new
    ∙ (changed_all step c.args.first c.args.begin c.args.end places old c.deref_mut.result.now new c.change_range.auto.cells
    (λ i. ap shown_kept (ap (λ (xs : List KeptByte). get_or xs i Kept.Fresh) c.deref_mut.ensures.value ∙ c.make_room.ensures.same i))
    c.change_range.ensures.cells
    (λ i past under. c.make_room.ensures.behind c.args.begin i (omega (arith, past, ap length c.deref_mut.ensures.value)) under)
    k (omega (arith, lt, all))
    ∙ ap (within c.args.begin c.args.end step (c.args.first + k)) (sym (shown_at places k old) ∙ ap (λ (s : LeftSlot). get_or s.cells k None) c.self.view_is)))
