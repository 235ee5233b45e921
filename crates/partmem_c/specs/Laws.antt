-- The laws of lists of calls of `partmem_line` on one machine, if each call has status `DONE`.
use Rattle.std.specs.Prelude.{◌≡◌, ℕ, ◌<◌, List, [], ◌∷◌, map}
use Rattle.std.specs.List.{concat}
use Rattle.std.specs.Thread.{IsSend}
use Rattle.words_core.specs.Grammar.{reading_of}
use Rattle.world_core.specs.Limits.{cache_limit}
use Rattle.world_core.specs.World.{World, opening_world, world_after}
use Rattle.world_core.specs.Output.{events_of, lines_for, with_line_feeds}
use Rattle.world_core.specs.Laws.{HaveSameOwnList, private_lines}
use Rattle.kernel_core.specs.Content.{KernelContent}
use Rattle.kernel_core.specs.Shows.{Shows}
use Rattle.streams.specs.Lines.{IsOneLine}
use Rattle.partmem_c.specs.Lines.{AnswersLine}
use Rattle.partmem_c.specs.contracts.machine_storage.MachineStorage.{the_row}

-- a call with status `DONE`: its line, and the text that it wrote
pub record Call : Type 0 where
  pub line : List ℕ
  pub text : List ℕ

abbrev pub lines_of_calls : List Call → List (List ℕ)
lines_of_calls calls = map (λ call. call.line) calls

abbrev pub texts_of : List Call → List ℕ
texts_of calls = concat (map (λ call. call.text) calls)

-- kernel k becomes k' through these calls, as the contract of `partmem_line` says of each call
abbrev pub Ran : KernelContent → List Call → KernelContent → Type 0
Ran k [] k' = k' ≡ k
Ran k (call ∷ calls) k' =
    (next : KernelContent) × IsOneLine call.line × AnswersLine k (reading_of call.line) next call.text × Ran next calls k'

-- If kernel k shows a world before the calls, kernel k' shows the world that the lines of the calls lead to.
abbrev pub StandsAfterCalls : Type 0
StandsAfterCalls = (k k' : KernelContent) (calls : List Call) → Ran k calls k' → (w : World) → Shows k w →
    Shows k' (world_after cache_limit k.order w (events_of (lines_of_calls calls)))

-- From boot on, the reply lines that were written for a tenant are those of its private machine, run on the tenant's own list.
-- This list is taken from the trace that the lines of all calls make. The law holds whatever the other tenants do.
abbrev pub OwnLinesOfCalls : Type 0
OwnLinesOfCalls = (k k' : KernelContent) (superblocks tenants t : ℕ) (calls : List Call) →
    Shows k (opening_world superblocks tenants) → t < tenants → Ran k calls k' →
    lines_for t (texts_of calls)
    ≡ private_lines cache_limit k.order superblocks tenants t (with_line_feeds (lines_of_calls calls))

-- So two machines of the same order write the same lines for a tenant if the tenant's own lists on them are equal. The machines
-- may have different numbers of superblocks and tenants.
abbrev pub SameLinesOfCalls : Type 0
SameLinesOfCalls = (k k' m m' : KernelContent) (superblocks tenants superblocks' tenants' t : ℕ) (calls calls' : List Call) →
    Shows k (opening_world superblocks tenants) → Shows m (opening_world superblocks' tenants') → m.order ≡ k.order →
    HaveSameOwnList cache_limit k.order superblocks tenants superblocks' tenants' t
    (events_of (lines_of_calls calls)) (events_of (lines_of_calls calls')) →
    Ran k calls k' → Ran m calls' m' → lines_for t (texts_of calls) ≡ lines_for t (texts_of calls')

-- The machine that C holds between two calls may be passed to another thread, since it owns nothing that belongs to one thread.
abbrev pub MayChangeThreads : Type 0
MayChangeThreads = IsSend the_row
