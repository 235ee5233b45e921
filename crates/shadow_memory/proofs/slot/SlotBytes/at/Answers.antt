use Rattle.std.proofs.Common.{List, get_or, sym, ap, ◌∙◌}
use Rattle.shadow_memory.specs.declared.kept.KeptByte.{KeptByte}
use Rattle.shadow_memory.specs.declared.kept.KeptByte.TheVariants as Kept
use Rattle.shadow_memory.specs.Inside.{shown_kept}
use Rattle.shadow_memory.proofs.UnstoredPlaces.{shown_at}
use Rattle.shadow_memory.proofs.slot.SlotBytes.at.Goals as goal

pub returns : goal.returns
returns c = rw (← c.self.view_is) (c.left.ensures ∙ (ap shown_kept (c.kept_at.ensures
    ∙ ap (λ (xs : List KeptByte). get_or xs c.args.index Kept.Fresh) c.deref.ensures.value)
    ∙ sym (shown_at c.self.inside.places c.args.index c.self.inside.cells.items)))
