-- The facts that the contract of `run_own` states, for each result of `keep` on a new machine.
use Rattle.std.proofs.Common.{◌≡◌, ℕ, ◌-◌, Bool, true, false, not, inl, inr, List, [], ◌∷◌, ◌++◌, length, take, Option, Result, Ok, Err, IfSome, OnOk, refl, ap, sym, subst, ◌∙◌, append_assoc}
use Rattle.std.specs.Io.KnownBytes.{Appends, Consumes, IsAtEnd, append_known}
use Rattle.std.proofs.lemmas.List.{append-nil}
use Rattle.words_core.specs.Cutting.{lines_of_trace}
use Rattle.world_core.specs.Limits.{cache_limit}
use Rattle.world_core.specs.Output.{ended_lines, events_of}
use Rattle.world_core.specs.Laws.{EndedLinesStay}
use Rattle.world_core.specs.World.{World, opening_world, world_after}
use Rattle.kernel_core.specs.Content.{KernelContent}
use Rattle.streams.specs.declared.tally.Tally.{Tally}
use Rattle.streams.specs.declared.tally.ReplayError.{ReplayError}
use Rattle.streams.specs.declared.tally.ReplayError.TheVariants as Failed
use Rattle.replay_core.specs.Runs.{HasCome, IsDone, NamesFailed}
use Rattle.own_trace.specs.declared.keeping.KeepError.{KeepError}
use Rattle.own_trace.specs.declared.keeping.KeepError.TheVariants as Kept
use Rattle.own_trace.specs.Kept.{own_text}
use Rattle.own_trace.specs.Keeping.{IsKeptShort, KeepsOwn, NamesEnd}
use Rattle.own_trace.proofs.KeptLines.{own_both}
use Rattle.command_line.specs.declared.outcome.Outcome.{Outcome}
use Rattle.command_line.specs.declared.outcome.Outcome.TheVariants.{Unwritable}
use Rattle.command_line.specs.declared.machine_options.MachineOptions.{MachineOptions}
use Rattle.command_line.specs.Outcome.{after_flush}
use Rattle.partmem.specs.Outcome.{no_tally, outcome_of_kept}
use Rattle.partmem.specs.Own.{own_of, WritesOwn}
use Rattle.partmem.specs.Run.{EndsAs, HasReached, IsBeginning, IsGiven, IsOfTrace}
use Rattle.partmem.proofs.ReplayOutcome.{IsNew, ends, given_so_far, of_trace, reached, run_outcome}

-- the outcome of a run, from the result of `keep`, whether a send failed, and whether the last flush succeeded
abbrev pub kept_outcome : Result (Unit {0}) KeepError → (unsent flushed : Bool) → Outcome
kept_outcome kept unsent flushed = after_flush (outcome_of_kept kept) unsent flushed

-- this result of `keep` as the result of a replay in which all counts are 0
as_replayed : Result (Unit {0}) KeepError → Result Tally ReplayError
as_replayed (Ok done) = Ok no_tally
as_replayed (Err Kept.Feed) = Err (Failed.Feed no_tally)
as_replayed (Err Kept.Drain) = Err (Failed.Drain no_tally)

same_outcome : (kept : Result (Unit {0}) KeepError) (unsent flushed : Bool) → run_outcome (as_replayed kept) unsent flushed ≡ kept_outcome kept unsent flushed
unfolding as_replayed
same_outcome (Ok done) unsent true = refl
same_outcome (Ok done) unsent false = refl
same_outcome (Err Kept.Feed) true flushed = refl
same_outcome (Err Kept.Feed) false flushed = refl
same_outcome (Err Kept.Drain) unsent flushed = refl

same_done : (kept : Result (Unit {0}) KeepError) (ended : Bool) → OnOk kept (ended ≡ true) → IsDone (as_replayed kept) ended
unfolding as_replayed
same_done (Ok done) ended is = is
same_done (Err Kept.Feed) ended is = tt
same_done (Err Kept.Drain) ended is = tt

same_named : (kept : Result (Unit {0}) KeepError) (unread undrained : Bool) → NamesEnd kept unread undrained → NamesFailed (as_replayed kept) unread undrained
unfolding as_replayed
same_named (Ok done) unread undrained is = is
same_named (Err Kept.Feed) unread undrained is = is
same_named (Err Kept.Drain) unread undrained is = is

-- if nothing is held back after a successful flush, the writer took the bytes that `HasReached` states, for every outcome
pub own_reached : (kept : Result (Unit {0}) KeepError) (unsent flushed failed : Bool) (before writer : Option (List ℕ)) (held taken : List ℕ)
    → failed ≡ not flushed → (flushed ≡ true → held ≡ []) → Appends before (append_known writer held) taken
    → HasReached (kept_outcome kept unsent flushed) failed before writer held taken (take (length taken - length held) taken)
own_reached kept unsent flushed failed before writer held taken same none appended =
    subst (λ outcome. HasReached outcome failed before writer held taken (take (length taken - length held) taken)) (same_outcome kept unsent flushed)
    (reached (as_replayed kept) unsent flushed failed before writer held taken same none appended)

-- for every outcome, what `EndsAs` states about failures of the feed and the drain is true
pub own_ends : (kept : Result (Unit {0}) KeepError) (ended unread undrained unsent flushed : Bool) → OnOk kept (ended ≡ true) → NamesEnd kept unread undrained
    → (unsent ≡ true → flushed ≡ false) → (undrained ≡ true → flushed ≡ false)
    → EndsAs (kept_outcome kept unsent flushed) ended unread (not flushed) unsent
own_ends kept ended unread undrained unsent flushed done named stopped fine =
    subst (λ outcome. EndsAs outcome ended unread (not flushed) unsent) (same_outcome kept unsent flushed)
    (ends (as_replayed kept) ended unread undrained unsent flushed (same_done kept ended done) (same_named kept unread undrained named) stopped fine)

own_given : (kept : Result (Unit {0}) KeepError) (unsent flushed ended : Bool) (given more : List ℕ) → OnOk kept (ended ≡ true) → (ended ≡ true → more ≡ [])
    → IsGiven (kept_outcome kept unsent flushed) (given ++ more) given
own_given kept unsent flushed ended given more done over =
    subst (λ outcome. IsGiven outcome (given ++ more) given) (same_outcome kept unsent flushed)
    (given_so_far (as_replayed kept) unsent flushed ended given more (same_done kept ended done) over)

-- a new kernel has the machine's order, so the own list of these lines is the same with either order
at_order : (m : MachineOptions) (t : ℕ) (k : KernelContent) (lines : List (List ℕ)) → IsNew m k
    → own_text t cache_limit k.order lines (opening_world m.config.superblocks m.config.tenants) ≡ own_of m.config t lines
at_order m t k lines new =
    ap (λ order. own_text t cache_limit order lines (opening_world m.config.superblocks m.config.tenants)) new.order

-- a prefix of the own list of `xs` is a prefix of the own list of any lines that begin with `xs`
goes_on : (m : MachineOptions) (t : ℕ) (lines xs more : List (List ℕ)) (taken : List ℕ) → lines ≡ xs ++ more → IsBeginning taken (own_of m.config t xs)
    → IsBeginning taken (own_of m.config t lines)
goes_on m t lines xs more taken split (rest, whole) =
    let w : World = opening_world m.config.superblocks m.config.tenants in
    let later : List ℕ = own_text t cache_limit m.config.order more (world_after cache_limit m.config.order w (events_of xs)) in (
      rest ++ later,
      ap (own_of m.config t) split ∙ own_both t cache_limit m.config.order xs more w ∙ ap (λ text. text ++ later) whole ∙ append_assoc taken rest later,
    )

whole_begins : (m : MachineOptions) (t : ℕ) (k : KernelContent) (lines : List (List ℕ)) (taken : List ℕ) → IsNew m k
    → taken ≡ own_text t cache_limit k.order lines (opening_world m.config.superblocks m.config.tenants) → IsBeginning taken (own_of m.config t lines)
whole_begins m t k lines taken new is = ([], sym (at_order m t k lines new) ∙ sym is ∙ sym (append-nil taken))

part_begins : (m : MachineOptions) (t : ℕ) (k k' : KernelContent) (lines : List (List ℕ)) (line taken : List ℕ) → IsNew m k → IsKeptShort t k k' lines line taken
    → IsBeginning taken (own_of m.config t (lines ++ line ∷ []))
part_begins m t k k' lines line taken new short =
    let part = short.kept _ new.shows in
    (part.1, sym (at_order m t k (lines ++ line ∷ []) new) ∙ part.4)

all_came : (m : MachineOptions) (t : ℕ) (given more taken : List ℕ) → more ≡ [] → IsBeginning taken (own_of m.config t (lines_of_trace given))
    → IsBeginning taken (own_of m.config t (lines_of_trace (given ++ more)))
all_came m t given more taken none begins =
    subst (λ trace. IsBeginning taken (own_of m.config t (lines_of_trace trace))) (sym (ap (λ bytes. given ++ bytes) none ∙ append-nil given)) begins

cut_begins : EndedLinesStay → (m : MachineOptions) (t : ℕ) (ended : Bool) (given more taken : List ℕ) (lines : List (List ℕ)) → HasCome ended given lines
    → IsBeginning taken (own_of m.config t lines) → (ended ≡ true → more ≡ []) → IsBeginning taken (own_of m.config t (lines_of_trace (given ++ more)))
cut_begins stays m t ended given more taken lines (inl (rest, split)) begins over =
    let whole = stays given more in
    goes_on m t _ (ended_lines given) whole.0 taken whole.1 (goes_on m t (ended_lines given) lines rest taken split begins)
cut_begins stays m t ended given more taken lines (inr (is_over, all)) begins over =
    all_came m t given more taken (over is_over) (subst (λ xs. IsBeginning taken (own_of m.config t xs)) (sym all) begins)

-- Let a trace begin with the bytes given, and have no more bytes if the feed has ended. Then the bytes taken are a prefix of
-- tenant t's own list of the trace, for every result of `keep`.
own_begins : EndedLinesStay → (m : MachineOptions) (t : ℕ) (k k' : KernelContent) (ended : Bool) (given more taken : List ℕ) (kept : Result (Unit {0}) KeepError) → IsNew m k
    → KeepsOwn ended t k k' given taken kept → OnOk kept (ended ≡ true) → (ended ≡ true → more ≡ [])
    → IsBeginning taken (own_of m.config t (lines_of_trace (given ++ more)))
own_begins stays m t k k' ended given more taken (Ok _) new ran done over =
    all_came m t given more taken (over done) (whole_begins m t k (lines_of_trace given) taken new (ran.kept _ new.shows))
own_begins stays m t k k' ended given more taken (Err Kept.Feed) new ran done over =
    let whole = stays given more in
    goes_on m t _ (ended_lines given) whole.0 taken whole.1 (whole_begins m t k (ended_lines given) taken new (ran.kept _ new.shows))
own_begins stays m t k k' ended given more taken (Err Kept.Drain) new ran done over =
    cut_begins stays m t ended given more taken (ran.0 ++ ran.1 ∷ []) ran.2 (part_begins m t k k' ran.0 ran.1 taken new ran.3) over

-- for every result of `keep`, the bytes taken are a prefix of the own list of the bytes given
own_unwritten : EndedLinesStay → (m : MachineOptions) (t : ℕ) (k k' : KernelContent) (ended : Bool) (given taken : List ℕ) (kept : Result (Unit {0}) KeepError) → IsNew m k
    → KeepsOwn ended t k k' given taken kept → OnOk kept (ended ≡ true) → WritesOwn m.config t Unwritable given taken
own_unwritten stays m t k k' ended given taken kept new ran done =
    subst (λ trace. IsBeginning taken (own_of m.config t (lines_of_trace trace))) (append-nil given)
    (own_begins stays m t k k' ended given [] taken kept new ran done (λ _. refl))

-- for every outcome, the bytes taken are those that `WritesOwn` states
pub own_written : EndedLinesStay → (m : MachineOptions) (t : ℕ) (k k' : KernelContent) (ended : Bool) (given taken : List ℕ) (kept : Result (Unit {0}) KeepError) (unsent flushed : Bool)
    → IsNew m k → KeepsOwn ended t k k' given taken kept → OnOk kept (ended ≡ true) → WritesOwn m.config t (kept_outcome kept unsent flushed) given taken
own_written stays m t k k' ended given taken (Ok x) unsent true new ran done = ran.kept _ new.shows ∙ at_order m t k (lines_of_trace given) new
own_written stays m t k k' ended given taken (Ok x) unsent false new ran done = own_unwritten stays m t k k' ended given taken (Ok x) new ran done
own_written stays m t k k' ended given taken (Err Kept.Feed) true flushed new ran done = own_unwritten stays m t k k' ended given taken (Err Kept.Feed) new ran done
own_written stays m t k k' ended given taken (Err Kept.Feed) false flushed new ran done = ran.kept _ new.shows ∙ at_order m t k (ended_lines given) new
own_written stays m t k k' ended given taken (Err Kept.Drain) unsent flushed new ran done = own_unwritten stays m t k k' ended given taken (Err Kept.Drain) new ran done

-- if the whole trace is known, the bytes given are a prefix of it, and the bytes taken are a prefix of tenant t's own list of it
pub own_traced : EndedLinesStay → (m : MachineOptions) (t : ℕ) (k k' : KernelContent) (ended : Bool) (given taken : List ℕ) (kept : Result (Unit {0}) KeepError) (unsent flushed : Bool)
    (known left : Option (List ℕ)) → IsNew m k → KeepsOwn ended t k k' given taken kept → OnOk kept (ended ≡ true) → Consumes known left given → (ended ≡ true → IsAtEnd left)
    → IfSome known (λ trace. IsOfTrace (kept_outcome kept unsent flushed) trace given (own_of m.config t (lines_of_trace trace)) taken)
own_traced stays m t k k' ended given taken kept unsent flushed known left new ran done consumed over =
    of_trace (λ trace. IsOfTrace (kept_outcome kept unsent flushed) trace given (own_of m.config t (lines_of_trace trace)) taken) known left ended given consumed over
    (λ more none. record {
      part = own_given kept unsent flushed ended given more done none;
      begins = own_begins stays m t k k' ended given more taken kept new ran done none;
    })
