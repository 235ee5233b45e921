-- The output of a run of the program.
use Rattle.std.specs.Prelude.{◌≡◌, ◌⊎◌, ℕ, ◌-◌, ◌<◌, Bool, true, false, List, [], ◌∷◌, ◌++◌, length, take, Option, Some, None}
use Rattle.std.specs.Io.KnownBytes.{Appends, append_known}
use Rattle.words_core.specs.Cutting.{lines_of_trace}
use Rattle.model_core.specs.declared.config.Config.{Config}
use Rattle.world_core.specs.Limits.{cache_limit}
use Rattle.world_core.specs.World.{opening_world}
use Rattle.world_core.specs.Output.{shown_lines, ended_lines, lines_for, with_line_feeds}
use Rattle.world_core.specs.Laws.{private_lines}
use Rattle.streams.specs.declared.tally.Tally.{Tally}
use Rattle.replay_core.specs.Runs.{Counts, HasCome, IsCutIn}
use Rattle.command_line.specs.declared.outcome.Outcome.{Outcome}
use Rattle.command_line.specs.declared.machine_options.MachineOptions.{MachineOptions}
use Rattle.partmem.specs.Outcome.{no_tally}

-- the text that these lines show on a new machine: all replies, or those to one tenant if `only` is given
abbrev pub shown_replies : MachineOptions → List (List ℕ) → List ℕ
shown_replies m lines = shown_lines m.only cache_limit m.config.order lines (opening_world m.config.superblocks m.config.tenants)

-- the lines with which a tenant's private machine replies to the tenant's own list of the trace
abbrev pub private_replies : Config → ℕ → List ℕ → List (List ℕ)
private_replies config t trace = private_lines cache_limit config.order config.superblocks config.tenants t trace

-- The lines written for a tenant are those of its private machine, whatever the other tenants do. With `only`, nothing else is
-- written.
abbrev pub IsPrivate : Option ℕ → Config → List ℕ → List ℕ → Type 0
IsPrivate None config trace written = (t : ℕ) → t < config.tenants → lines_for t written ≡ private_replies config t trace
IsPrivate (Some t) config trace written = t < config.tenants → written ≡ with_line_feeds (private_replies config t trace)

abbrev pub IsBeginning : List ℕ → List ℕ → Type 0
IsBeginning part whole = (rest : List ℕ) × (whole ≡ part ++ rest)

-- `written` is what a run with this outcome may write for the bytes `given`; ⊥ for outcomes that do not occur
abbrev pub Answers : MachineOptions → Outcome → List ℕ → List ℕ → Type 0
Answers m Outcome.Done given written = (written ≡ shown_replies m (lines_of_trace given)) × IsPrivate m.only m.config given written
Answers m Outcome.Unreadable given written = written ≡ shown_replies m (ended_lines given)
Answers m Outcome.Unwritable given written = IsBeginning written (shown_replies m (lines_of_trace given))
Answers m Outcome.NoMemory given written = (given ≡ []) × (written ≡ [])
Answers m (Outcome.Help text) given written = ⊥
Answers m (Outcome.Version text) given written = ⊥
Answers m (Outcome.BadLine text) given written = ⊥
Answers m Outcome.BadOnly given written = ⊥

-- The drain holds back the bytes `held`, the last of the bytes written. The writer took `sent`, all bytes written before these,
-- and nothing else.
abbrev pub IsHeldBack : (before writer : Option (List ℕ)) → (held written sent : List ℕ) → Type 0
IsHeldBack before writer held written sent = Appends before (append_known writer held) written × (sent ≡ take (length written - length held) written)

-- `sent` are the bytes that the writer took in a run with this outcome: all bytes written, except those that a failed drain holds
-- back. `before` are the bytes that the drain had taken before the run.
abbrev pub HasReached : Outcome → (failed : Bool) → (before writer : Option (List ℕ)) → (held written sent : List ℕ) → Type 0
HasReached Outcome.Done failed before writer held written sent = (sent ≡ written) × Appends before writer written
HasReached Outcome.Unreadable false before writer held written sent = (sent ≡ written) × Appends before writer written
HasReached Outcome.Unreadable true before writer held written sent = IsHeldBack before writer held written sent
HasReached Outcome.Unwritable failed before writer held written sent = IsHeldBack before writer held written sent
HasReached Outcome.NoMemory failed before writer held written sent = sent ≡ []
HasReached (Outcome.Help text) failed before writer held written sent = ⊥
HasReached (Outcome.Version text) failed before writer held written sent = ⊥
HasReached (Outcome.BadLine text) failed before writer held written sent = ⊥
HasReached Outcome.BadOnly failed before writer held written sent = ⊥

-- The tally counts the lines that were run and the bytes that the writer took, for each outcome of the run. If the replies could
-- not be written, either the drain took all replies and a flush or a send failed, or it took only a part of the last reply.
abbrev pub Tallies : MachineOptions → Outcome → Tally → (ended unread : Bool) → (given written sent : List ℕ) → Type 0
Tallies m Outcome.Done tally ended unread given written sent = Counts tally (lines_of_trace given) sent
Tallies m Outcome.Unreadable tally ended unread given written sent = Counts tally (ended_lines given) sent
Tallies m Outcome.Unwritable tally ended unread given written sent =
    ((ended ≡ true) × (written ≡ shown_replies m (lines_of_trace given)) × Counts tally (lines_of_trace given) sent)
    ⊎ ((unread ≡ true) × (written ≡ shown_replies m (ended_lines given)) × Counts tally (ended_lines given) sent)
    ⊎ ((lines : List (List ℕ)) × (line : List ℕ) × HasCome ended given (lines ++ line ∷ [])
    × IsCutIn (shown_replies m) lines line written × Counts tally (lines ++ line ∷ []) sent)
Tallies m Outcome.NoMemory tally ended unread given written sent = tally ≡ no_tally
Tallies m (Outcome.Help text) tally ended unread given written sent = ⊥
Tallies m (Outcome.Version text) tally ended unread given written sent = ⊥
Tallies m (Outcome.BadLine text) tally ended unread given written sent = ⊥
Tallies m Outcome.BadOnly tally ended unread given written sent = ⊥

-- Whether the feed or the drain failed, for each outcome of the run. A run is done only if the feed has ended and neither failed.
-- If both failed, the outcome is `Unwritable` if a send failed before the feed did, and otherwise `Unreadable`.
abbrev pub EndsAs : Outcome → (ended unread unwritten unsent : Bool) → Type 0
EndsAs Outcome.Done ended unread unwritten unsent = (ended ≡ true) × (unread ≡ false) × (unwritten ≡ false) × (unsent ≡ false)
EndsAs Outcome.Unreadable ended unread unwritten unsent = (unread ≡ true) × (unsent ≡ false)
EndsAs Outcome.Unwritable ended unread unwritten unsent = (unwritten ≡ true) × (unread ≡ true → unsent ≡ true)
EndsAs Outcome.NoMemory ended unread unwritten unsent = (unread ≡ false) × (unwritten ≡ false)
EndsAs (Outcome.Help text) ended unread unwritten unsent = ⊥
EndsAs (Outcome.Version text) ended unread unwritten unsent = ⊥
EndsAs (Outcome.BadLine text) ended unread unwritten unsent = ⊥
EndsAs Outcome.BadOnly ended unread unwritten unsent = ⊥

-- the bytes given are a prefix of the trace; if the run is done, they are the whole trace
abbrev pub IsGiven : Outcome → List ℕ → List ℕ → Type 0
IsGiven Outcome.Done trace given = trace ≡ given
IsGiven (Outcome.Help text) trace given = IsBeginning given trace
IsGiven (Outcome.Version text) trace given = IsBeginning given trace
IsGiven Outcome.Unreadable trace given = IsBeginning given trace
IsGiven Outcome.Unwritable trace given = IsBeginning given trace
IsGiven (Outcome.BadLine text) trace given = IsBeginning given trace
IsGiven Outcome.BadOnly trace given = IsBeginning given trace
IsGiven Outcome.NoMemory trace given = IsBeginning given trace

-- The bytes given are a prefix of the trace, as `IsGiven` says. The bytes written are a prefix of `whole`, the output of the
-- whole trace.
pub record IsOfTrace (outcome : Outcome) (trace given whole written : List ℕ) : Type 0 where
  pub part : IsGiven outcome trace given
  pub begins : IsBeginning written whole
