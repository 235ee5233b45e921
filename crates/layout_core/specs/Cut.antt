use Rattle.std.specs.Prelude.{ℕ, Ok, Err, Result, if◌then◌else◌}
use Rattle.model_core.specs.Layouts.{Layout, layout_of, is_size, is_alignment}
use Rattle.layout_core.specs.declared.layout.LayoutRefusal.{LayoutRefusal}

-- the value of a `Layout`: an object size and an alignment, from which all its numbers follow
pub record Cut : Type 0 where
  pub size : ℕ
  pub align : ℕ

abbrev pub cut : ℕ → ℕ → Cut
cut size align = record { size = size; align = align }

-- the numbers that follow from the size and the alignment
abbrev pub numbers_of : Cut → Layout
numbers_of l = layout_of l.size l.align

-- the layout for this size and alignment, or BadSize if the size is not allowed, else BadAlign if the alignment is not allowed
abbrev pub layout_or_refusal : ℕ → ℕ → Result Cut LayoutRefusal
layout_or_refusal size align =
    if is_size size then (if is_alignment align then Ok (cut size align) else Err LayoutRefusal.BadAlign) else Err LayoutRefusal.BadSize
