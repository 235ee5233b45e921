use Rattle.std.proofs.Common.{sym, ◌∙◌, refl}
use Rattle.kernel_core.proofs.FrameKinds.{free_told, slab_told, kind_small}
use Rattle.kernel_core.proofs.kernel.Kernel.frame_at.Goals as goal

pub returns-in_default : goal.returns-in_default
returns-in_default c m h = (
  h.slots _ ∙ sym c.is_held.ensures ∙ c.if-not-is_held.false,
  free_told _ _ _ _ _ c.self.view_is c.laws.ensures.together c.requires m h _ c.in_default.ensures,
)

pub returns-in-Some-list_at : goal.returns-in-Some-list_at
returns-in-Some-list_at c m h =
    c.kind_in.ensures _ m _
    (slab_told _ _ _ _ _ c.self.view_is c.laws.ensures.together c.requires m h _ _ _ c.in-Some.ensures.0 c.in-Some.ensures.1 _ _ c.in-Some-list_at.ensures
    (kind_small _) refl)
