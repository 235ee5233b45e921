-- If all lines of a trace were run, a tenant's reply lines are the lines of its private machine for the tenant's own list.
use Rattle.std.proofs.Common.{ℕ, ◌<◌, List, Option, Some, None, ap, ◌∙◌, arith}
use Rattle.words_core.specs.Cutting.{lines_of_trace}
use Rattle.world_core.specs.Limits.{cache_limit}
use Rattle.world_core.specs.World.{World, opening_world}
use Rattle.world_core.specs.Output.{output_of, lines_for, with_line_feeds}
use Rattle.world_core.specs.Laws.{OwnLines, OwnShown}
use Rattle.world_core.proofs.Worlds.{opening_tenants}
use Rattle.kernel_core.specs.Content.{KernelContent}
use Rattle.streams.specs.declared.tally.Tally.{Tally}
use Rattle.replay_core.specs.Runs.{HasRun, HasOwnLines}

pub own_lines_taken : OwnLines → OwnShown → (only : Option ℕ) (before now : KernelContent) (given taken : List ℕ) (tally : Tally) → before.tenants < 4294967296
    → HasRun only before now (lines_of_trace given) taken tally → HasOwnLines only before given taken
unfolding output_of
own_lines_taken own shown None before now given taken tally few ran = λ superblocks tenants t shows here.
    ap (lines_for t) (ran.shown (opening_world superblocks tenants) shows)
    ∙ own cache_limit before.order superblocks tenants t given (omega (arith, opening_tenants superblocks tenants, shows.tenants)) here
own_lines_taken own shown (Some t) before now given taken tally few ran = λ superblocks tenants shows here.
    let w : World = opening_world superblocks tenants in
    let all = opening_tenants superblocks tenants in
    ran.shown w shows
    ∙ shown cache_limit before.order t given w (omega (arith, all, shows.tenants)) (omega (arith, all))
    ∙ ap with_line_feeds (own cache_limit before.order superblocks tenants t given (omega (arith, all, shows.tenants)) here)
