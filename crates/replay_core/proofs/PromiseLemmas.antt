-- The replies whose text the drain takes keep the promises.
use Rattle.std.proofs.Common.{◌≡◌, ℕ, ◌*◌, ◌^◌, ◌≤◌, Bool, List, [], ◌∷◌, ◌++◌, length, Option, None, Err, ap, sym, subst, ◌∙◌, arith}
use Rattle.std.proofs.lemmas.List.{length-replicate}
use Rattle.model_core.specs.declared.limits.TheConstants.{FRAME_BYTES, WIDE_FRAMES}
use Rattle.world_core.specs.Limits.{cache_limit}
use Rattle.world_core.specs.World.{World, opening_world}
use Rattle.world_core.specs.Output.{shown_lines}
use Rattle.promise_kept.specs.Written.{IsAllowedText}
use Rattle.promise_kept.proofs.WrittenReplies.{shown_is_allowed}
use Rattle.kernel_core.specs.Content.{KernelContent}
use Rattle.kernel_core.specs.Shows.{Shows}
use Rattle.streams.specs.declared.tally.Tally.{Tally}
use Rattle.streams.specs.declared.tally.ReplayError.TheVariants as Failed
use Rattle.replay_core.specs.Runs.{Counts, HasRun, IsCutShort, Replays}
use Rattle.replay_core.specs.Promised.{IsAllowedOutput, BeginsAllowed, TakesAllowed}

-- if a kernel shows an opening world, the RAM of that world has at most 2^32 bytes
ram_shown : (k : KernelContent) (superblocks tenants : ℕ) → Shows k (opening_world superblocks tenants) → superblocks * 2 ^ k.order * 4096 ≤ 2 ^ 32
unfolding opening_world
ram_shown k superblocks tenants shows =
    let agree = shows.agree in
    let owners : length k.space.owners ≡ superblocks = sym (ap length shows.owners) ∙ length-replicate superblocks None in
    let unit : k.space.unit ≡ FRAME_BYTES * 2 ^ k.order = agree.agree.unit ∙ ap (λ n. FRAME_BYTES * 2 ^ n) (sym agree.agree.order ∙ agree.top) in
    let bytes : superblocks * (FRAME_BYTES * 2 ^ k.order) ≤ FRAME_BYTES * WIDE_FRAMES = rw (owners, unit) at agree.space.bytes in
    let apart : superblocks * (FRAME_BYTES * 2 ^ k.order) ≡ superblocks * 2 ^ k.order * 4096 = omega arith in
    omega (arith, bytes, apart)

shown_allowed : (only : Option ℕ) (before : KernelContent) (lines : List (List ℕ)) (superblocks tenants : ℕ) → Shows before (opening_world superblocks tenants) → 3 ≤ before.order
    → IsAllowedText only cache_limit before.order superblocks tenants lines (shown_lines only cache_limit before.order lines (opening_world superblocks tenants))
shown_allowed only before lines superblocks tenants shows least =
    shown_is_allowed only cache_limit before.order superblocks tenants lines least (ram_shown before superblocks tenants shows)

answered_in_full : (only : Option ℕ) (before : KernelContent) (lines : List (List ℕ)) (taken : List ℕ)
    → ((w : World) → Shows before w → taken ≡ shown_lines only cache_limit before.order lines w) → IsAllowedOutput only before lines taken
answered_in_full only before lines taken shown = λ superblocks tenants shows least.
    subst (IsAllowedText only cache_limit before.order superblocks tenants lines) (sym (shown (opening_world superblocks tenants) shows))
    (shown_allowed only before lines superblocks tenants shows least)

answered_in_part : (only : Option ℕ) (before after : KernelContent) (lines : List (List ℕ)) (line taken : List ℕ) (tally : Tally)
    → IsCutShort only before after lines line taken tally → BeginsAllowed only before (lines ++ line ∷ []) taken
answered_in_part only before after lines line taken tally cut = λ superblocks tenants shows least.
    let part = cut.shown (opening_world superblocks tenants) shows in (
      part.1,
      subst (IsAllowedText only cache_limit before.order superblocks tenants (lines ++ line ∷ [])) part.4
          (shown_allowed only before (lines ++ line ∷ []) superblocks tenants shows least),
    )

-- if all lines were answered in full, they are counted, and the bytes taken are the text of allowed replies
pub all_promised : (only : Option ℕ) (before after : KernelContent) (lines : List (List ℕ)) (taken : List ℕ) (tally : Tally) → HasRun only before after lines taken tally
    → Counts tally lines taken × IsAllowedOutput only before lines taken
all_promised only before after lines taken tally ran = (ran.counted, answered_in_full only before lines taken ran.shown)

-- if the drain failed, the lines that were run are counted, and the bytes taken are a prefix of the text of allowed replies
pub part_promised : (ended : Bool) (only : Option ℕ) (before after : KernelContent) (given taken : List ℕ) (tally : Tally)
    → Replays ended only before after given taken (Err (Failed.Drain tally)) → TakesAllowed ended only before given taken (Err (Failed.Drain tally))
part_promised ended only before after given taken tally (done, line, come, cut) =
    (done ++ line ∷ [], come, cut.counted, answered_in_part only before after done line taken tally cut)
