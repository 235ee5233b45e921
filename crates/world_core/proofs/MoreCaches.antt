-- A greater limit on caches changes no private run in which no cache was refused because of the limit.
use Rattle.std.proofs.Common.{◌≡◌, ℕ, ◌<◌, ◌≤◌, Bool, true, false, not, List, [], ◌∷◌, ◌++◌, Some, None, Result, Err, nat_le, refl, ap, ◌∙◌, arith}
use Rattle.std.specs.Prelude.{if◌then◌else◌, Contains}
use Rattle.std.proofs.lemmas.Bool.{leb-false, lt-leb}
use Rattle.std.proofs.lemmas.List.Elements.{Contains-append_left, Contains-append_right}
use Rattle.model_core.specs.declared.refusals.CacheRefusal.{CacheRefusal}
use Rattle.model_core.specs.Layouts.{is_size, is_alignment}
use Rattle.model_core.specs.Machine.{Machine}
use Rattle.model_core.specs.Operations.{Step, refuse}
use Rattle.model_core.specs.CacheOperations.{created, next_number, create_step, cache_answer, cache_step}
use Rattle.words_core.specs.declared.event.Command.TheVariants as Command
use Rattle.words_core.specs.declared.reply.Body.{Body}
use Rattle.words_core.specs.declared.reply.Body.TheVariants.{Refused}
use Rattle.words_core.specs.declared.reply.Refusal.TheVariants.{NoCacheSlot}
use Rattle.world_core.specs.PrivateStep.{Entry, Ask, Grant, TakeBack, Reset, Told, with_body, cache_body, command_step, private_step}
use Rattle.world_core.specs.PrivateRun.{private_run}
use Rattle.world_core.specs.Laws.{MoreCaches}

-- the step of making a cache with allowed size and alignment; `full` says whether all numbers below the limit are used
abbrev numbered_step : ℕ → ℕ → List ℕ → Machine → Bool → Step (Result ℕ CacheRefusal)
numbered_step size align pattern m full =
    cache_answer (if full then record { answer = None; machine = m } else record { answer = Some (next_number m); machine = created (next_number m) size align pattern m })

abbrev aligned_step : ℕ → ℕ → ℕ → List ℕ → Machine → Bool → Step (Result ℕ CacheRefusal)
aligned_step limit size align pattern m bad =
    if bad then refuse CacheRefusal.BadAlign m else numbered_step size align pattern m (nat_le limit (next_number m))

abbrev sized_step : ℕ → ℕ → ℕ → List ℕ → Machine → Bool → Step (Result ℕ CacheRefusal)
sized_step limit size align pattern m bad = if bad then refuse CacheRefusal.BadSize m else aligned_step limit size align pattern m (not (is_alignment align))

abbrev IsGiven : Step (Result ℕ CacheRefusal) → Type 0
IsGiven step = step.answer ≡ Err CacheRefusal.NoCacheSlot → ⊥

module _ (limit more size align : ℕ) (pattern : List ℕ) (m : Machine) (le : limit ≤ more) where
  same_numbered : (full : Bool) → nat_le limit (next_number m) ≡ full → IsGiven (numbered_step size align pattern m full)
      → numbered_step size align pattern m (nat_le more (next_number m)) ≡ numbered_step size align pattern m full
  same_numbered true is given = absurd (given refl)
  same_numbered false is given =
      let below : next_number m < limit = leb-false limit (next_number m) is in
      ap (numbered_step size align pattern m) (lt-leb more (next_number m) (omega arith))

  same_aligned : (bad : Bool) → IsGiven (aligned_step limit size align pattern m bad)
      → aligned_step more size align pattern m bad ≡ aligned_step limit size align pattern m bad
  same_aligned true given = refl
  same_aligned false given = same_numbered (nat_le limit (next_number m)) refl given

  same_sized : (bad : Bool) → IsGiven (sized_step limit size align pattern m bad)
      → sized_step more size align pattern m bad ≡ sized_step limit size align pattern m bad
  same_sized true given = refl
  same_sized false given = same_aligned (not (is_alignment align)) given

  -- if making a cache is not refused for lack of a number, it is the same step under a greater limit
  same_cache : IsGiven (cache_step limit size align pattern m) → cache_step more size align pattern m ≡ cache_step limit size align pattern m
  unfolding cache_step create_step
  same_cache given = same_sized (not (is_size size)) given

-- the step of a command as a `Told`: the one reply, and the machine after the step
abbrev told_once : Step Body → Told
told_once step = record { replies = step.answer ∷ []; machine = step.machine }

same_step : (limit more order : ℕ) (entry : Entry) (m : Machine) → limit ≤ more
    → (Contains (private_step limit order entry m).replies (Refused NoCacheSlot) → ⊥) → private_step more order entry m ≡ private_step limit order entry m
unfolding private_step command_step
same_step limit more order (Ask (Command.Cache size align pattern)) m le none =
    ap (λ step. told_once (with_body (cache_body size align) step)) (same_cache limit more size align pattern.items m le
    (λ refused. none (0, omega arith, ap (cache_body size align) refused)))
same_step limit more order (Ask (Command.Alloc k)) m le none = refl
same_step limit more order (Ask (Command.Free frame)) m le none = refl
same_step limit more order (Ask (Command.Read place len)) m le none = refl
same_step limit more order (Ask (Command.Write place bytes)) m le none = refl
same_step limit more order (Ask (Command.Destroy number)) m le none = refl
same_step limit more order (Ask (Command.Take number)) m le none = refl
same_step limit more order (Ask (Command.Give number place)) m le none = refl
same_step limit more order (Ask Command.Reap) m le none = refl
same_step limit more order (Ask Command.Report) m le none = refl
same_step limit more order Grant m le none = refl
same_step limit more order (TakeBack slot) m le none = refl
same_step limit more order Reset m le none = refl

-- the result of two private runs, one after the other: the replies of both, and the machine that the later run leaves
abbrev then_told : Told → Told → Told
then_told first later = record { replies = first.replies ++ later.replies; machine = later.machine }

pub more_caches : MoreCaches
more_caches limit more order [] m le none = refl
more_caches limit more order (entry ∷ entries) m le none =
    let first = private_step limit order entry m in
    let later = private_run limit order entries first.machine in
    let same : private_step more order entry m ≡ first =
    same_step limit more order entry m le (λ told. none (Contains-append_left first.replies later.replies (Refused NoCacheSlot) told)) in
    let rest : private_run more order entries first.machine ≡ later =
    more_caches limit more order entries first.machine le (λ told. none (Contains-append_right first.replies later.replies (Refused NoCacheSlot) told)) in
    ap (λ step. then_told step (private_run more order entries step.machine)) same ∙ ap (then_told first) rest
