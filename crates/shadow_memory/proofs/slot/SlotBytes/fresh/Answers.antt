use Rattle.std.proofs.Common.{◌≡◌, ℕ, ◌-◌, zero, suc, List, ◌∷◌, map, Option, None, replicate, refl, ap, ◌∙◌, arith}
use Rattle.promise_core.specs.Bytes.{Cell}
use Rattle.shadow_memory.specs.declared.kept.KeptByte.TheVariants as Kept
use Rattle.shadow_memory.specs.declared.kept.KeptByte.{KeptByte}
use Rattle.shadow_memory.specs.Inside.{padded, shown_kept}
use Rattle.shadow_memory.proofs.slot.SlotBytes.fresh.Goals as goal

all_fresh : (n : ℕ) → map shown_kept (replicate n Kept.Fresh) ≡ replicate {A = Option Cell} n None
all_fresh zero = refl
all_fresh (suc n) = ap (λ (cells : List (Option Cell)). None ∷ cells) (all_fresh n)

pub returns : goal.returns
returns c =
    let none : c.args.places - 0 ≡ c.args.places = omega arith in
    ap (λ (xs : List KeptByte). record { slot = c.args.slot; cells = map shown_kept (padded c.args.places xs) }) c.in_ok-with_capacity.ensures.items
    ∙ ap (λ (cells : List (Option Cell)). record { slot = c.args.slot; cells = cells })
    (all_fresh (c.args.places - 0) ∙ ap (λ (n : ℕ). replicate {A = Option Cell} n None) none)
