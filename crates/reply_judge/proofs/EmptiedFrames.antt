-- What a number of frames from empty slabs has to be, if some slab may be empty.
use Rattle.std.proofs.Common.{◌≡◌, ℕ, Bool, true, false, List, Option, Some, None, length, refl, sym, ap, ◌∙◌}
use Rattle.std.specs.Prelude.{if◌then◌else◌, ◌==◌}
use Rattle.std.specs.Option.{option_map_or}
use Rattle.std.proofs.lemmas.Bool.{ne_eqb}
use Rattle.promise_core.specs.Holdings.{KnownCache, vacant_blocks}
use Rattle.promise_core.specs.State.{State}
use Rattle.reply_judge.specs.declared.bound.Bound.{Bound}
use Rattle.reply_judge.specs.Emptied.{frames_due, least_empty, vacant_slabs}

not_zero : (b : Bool) (o : Option Bound) → b ≡ false → (if b then None else o) ≡ o
not_zero true o is = absurd (cc)
not_zero false o is = refl

pub some_due : (order : ℕ) (s : State) (caches : List KnownCache) (frames k vacant : ℕ) → (frames ≡ 0 → ⊥)
    → vacant ≡ length (vacant_blocks order s.has 0) → Some k ≡ least_empty order s.may_have_empty caches
    → vacant_slabs vacant k frames ≡ frames_due order s caches frames
unfolding frames_due
some_due order s caches frames k vacant some count is =
    let all : ℕ = length (vacant_blocks order s.has 0) in
    ap (λ n. vacant_slabs n k frames) count
    ∙ ap (λ (o : Option ℕ). option_map_or (λ j. vacant_slabs all j frames) o (Some (Bound.Exactly 0))) is
    ∙ sym (not_zero (frames == 0) (option_map_or (λ j. vacant_slabs all j frames) (least_empty order s.may_have_empty caches) (Some (Bound.Exactly 0)))
    (ne_eqb frames 0 some))
