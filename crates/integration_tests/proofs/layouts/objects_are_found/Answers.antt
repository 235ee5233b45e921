use Rattle.std.proofs.Common.{◌≡◌, ◌<◌, refl, subst, sym, arith}
use Rattle.model_core.specs.Layouts.{layout_of}
use Rattle.layout_core.specs.Cut.{Cut, cut, numbers_of}
use Rattle.layout_core.specs.Objects.{IsColour}
use Rattle.integration_tests.proofs.layouts.objects_are_found.Goals as goal

second_colour : IsColour (cut 100 8) 8
unfolding layout_of
second_colour = (1, refl)

last_object : 38 < (numbers_of (cut 100 8)).count
unfolding layout_of
last_object = omega arith

pub offset-requires : goal.offset-requires
offset-requires g c =
    let e : c.in-Ok.layout ≡ cut 100 8 = cc (c.in-Ok.ensures) in
    record {
      colour = subst (λ (l : Cut). IsColour l 8) (sym e) second_colour;
      object = subst (λ (l : Cut). 38 < (numbers_of l).count) (sym e) last_object;
    }
