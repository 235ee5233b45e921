-- The facts that the contract of `run` states of the outcome, the bytes and the counts, for each result of a replay on a new
-- machine.
use Rattle.std.proofs.Common.{◌≡◌, ℕ, ◌-◌, Bool, true, false, not, inl, inr, List, [], ◌∷◌, ◌++◌, length, take, Option, Some, None, Result, Ok, Err, OnOk, IfSome, refl, ap, sym, subst, ◌∙◌, append_assoc, arith}
use Rattle.std.specs.Io.KnownBytes.{Appends, Consumes, IsAtEnd, append_known}
use Rattle.std.proofs.Math.Seq.{take-length}
use Rattle.std.proofs.lemmas.List.{append-nil, length-take-le}
use Rattle.words_core.specs.Cutting.{lines_of_trace}
use Rattle.model_core.specs.declared.config.Config.{Config}
use Rattle.world_core.specs.Limits.{cache_limit}
use Rattle.world_core.specs.Output.{shown_lines, ended_lines, lines_for, with_line_feeds}
use Rattle.world_core.specs.Laws.{private_lines, ShownStays}
use Rattle.kernel_core.specs.Content.{KernelContent, opening_content}
use Rattle.kernel_core.specs.Shows.{Shows}
use Rattle.world_core.specs.World.{World, opening_world}
use Rattle.world_core.proofs.ShownReplies.{shown_first}
use Rattle.streams.specs.declared.tally.Tally.{Tally}
use Rattle.streams.specs.declared.tally.ReplayError.{ReplayError}
use Rattle.streams.specs.declared.tally.ReplayError.TheVariants as Failed
use Rattle.replay_core.specs.Runs.{Counts, HasCome, IsCutIn, IsCutShort, Replays, IsDone, NamesFailed, HasOwnLines}
use Rattle.command_line.specs.declared.outcome.Outcome.{Outcome}
use Rattle.command_line.specs.declared.outcome.Outcome.TheVariants.{Unwritable, NoMemory}
use Rattle.command_line.specs.declared.machine_options.MachineOptions.{MachineOptions}
use Rattle.command_line.specs.Outcome.{after_flush, outcome_of}
use Rattle.partmem.specs.Outcome.{tally_of, without_unwritten}
use Rattle.partmem.specs.Run.{shown_replies, IsPrivate, IsBeginning, Answers, EndsAs, HasReached, IsGiven, IsOfTrace, Tallies}

-- the outcome of a run, from the result of its replay, whether a send failed, and whether the last flush succeeded
abbrev pub run_outcome : Result Tally ReplayError → (unsent flushed : Bool) → Outcome
run_outcome replayed unsent flushed = after_flush (outcome_of replayed) unsent flushed

-- the kernel has the machine's order and shows the opening world of the machine's sizes
pub record IsNew (m : MachineOptions) (k : KernelContent) : Type 0 where
  pub order : k.order ≡ m.config.order
  pub shows : Shows k (opening_world m.config.superblocks m.config.tenants)

pub booted : (m : MachineOptions) (k : KernelContent) → k ≡ opening_content m.config.order m.config.superblocks m.config.tenants
    → Shows k (opening_world m.config.superblocks m.config.tenants) → IsNew m k
unfolding opening_content
booted m k is shows = record { order = ap (λ parts. parts.order) is; shows = shows }

-- a new kernel has the machine's order, so the text shown for these lines is the same with either order
at_order : (m : MachineOptions) (k : KernelContent) (lines : List (List ℕ)) → IsNew m k
    → shown_lines m.only cache_limit k.order lines (opening_world m.config.superblocks m.config.tenants) ≡ shown_replies m lines
at_order m k lines new =
    ap (λ order. shown_lines m.only cache_limit order lines (opening_world m.config.superblocks m.config.tenants)) new.order

private_at : (config : Config) (only : Option ℕ) (k : KernelContent) (given taken : List ℕ) → k.order ≡ config.order
    → Shows k (opening_world config.superblocks config.tenants) → HasOwnLines only k given taken → IsPrivate only config given taken
private_at config None k given taken order shows own = λ t tenant.
    subst (λ o. lines_for t taken ≡ private_lines cache_limit o config.superblocks config.tenants t given) order
    (own config.superblocks config.tenants t shows tenant)
private_at config (Some t) k given taken order shows own = λ tenant.
    subst (λ o. taken ≡ with_line_feeds (private_lines cache_limit o config.superblocks config.tenants t given)) order
    (own config.superblocks config.tenants shows tenant)

-- if the text shown for `line` was cut short, the bytes taken are a prefix of the text shown for any lines that begin with `done`
-- and `line`
cut_first : (only : Option ℕ) (before after : KernelContent) (w : World) (lines done : List (List ℕ)) (line : List ℕ) (rest : List (List ℕ)) (taken : List ℕ) (tally : Tally)
    → Shows before w → lines ≡ (done ++ line ∷ []) ++ rest → IsCutShort only before after done line taken tally
    → IsBeginning taken (shown_lines only cache_limit before.order lines w)
cut_first only before after w lines done line rest taken tally shows split cut =
    let part = cut.shown w shows in
    let later = shown_first only cache_limit before.order (done ++ line ∷ []) rest w in (
      part.1 ++ later.0,
      ap (λ xs. shown_lines only cache_limit before.order xs w) split ∙ later.1 ∙ ap (λ text. text ++ later.0) part.4 ∙ append_assoc taken part.1 later.0,
    )

-- a prefix of the text shown for the ended lines of `given` is a prefix of the text shown for any trace that begins with `given`
goes_on : ShownStays → (m : MachineOptions) (k : KernelContent) (given more taken : List ℕ) → IsNew m k
    → IsBeginning taken (shown_lines m.only cache_limit k.order (ended_lines given) (opening_world m.config.superblocks m.config.tenants))
    → IsBeginning taken (shown_replies m (lines_of_trace (given ++ more)))
goes_on stays m k given more taken new (rest, shown) =
    let later = stays m.only cache_limit k.order given more (opening_world m.config.superblocks m.config.tenants) in (
      rest ++ later.0,
      sym (at_order m k (lines_of_trace (given ++ more)) new) ∙ later.1 ∙ ap (λ text. text ++ later.0) shown ∙ append_assoc taken rest later.0,
    )

-- if no more bytes come, a prefix of the text shown for the bytes given is a prefix of the text shown for the whole trace
all_came : (m : MachineOptions) (given more taken : List ℕ) → more ≡ [] → IsBeginning taken (shown_replies m (lines_of_trace given))
    → IsBeginning taken (shown_replies m (lines_of_trace (given ++ more)))
all_came m given more taken none begins =
    subst (λ trace. IsBeginning taken (shown_replies m (lines_of_trace trace))) (sym (ap (λ bytes. given ++ bytes) none ∙ append-nil given)) begins

cut_begins : ShownStays → (m : MachineOptions) (k k' : KernelContent) (ended : Bool) (given more taken : List ℕ) (done : List (List ℕ)) (line : List ℕ) (tally : Tally) → IsNew m k
    → HasCome ended given (done ++ line ∷ []) → IsCutShort m.only k k' done line taken tally → (ended ≡ true → more ≡ [])
    → IsBeginning taken (shown_replies m (lines_of_trace (given ++ more)))
cut_begins stays m k k' ended given more taken done line tally new (inl (rest, split)) cut over =
    goes_on stays m k given more taken new (cut_first m.only k k' _ (ended_lines given) done line rest taken tally new.shows split cut)
cut_begins stays m k k' ended given more taken done line tally new (inr (is_over, all)) cut over =
    all_came m given more taken (over is_over) (
    subst (IsBeginning taken) (at_order m k (lines_of_trace given) new)
    (cut_first m.only k k' _ (lines_of_trace given) done line [] taken tally new.shows (all ∙ sym (append-nil _)) cut)
    )

-- Suppose that a trace begins with the bytes given, and has no more bytes if the feed has ended. Then the bytes taken are a
-- prefix of the text shown for the trace, for every result of the replay.
pub begins : ShownStays → (m : MachineOptions) (k k' : KernelContent) (ended : Bool) (given more taken : List ℕ) (replayed : Result Tally ReplayError) → IsNew m k
    → Replays ended m.only k k' given taken replayed → IsDone replayed ended → (ended ≡ true → more ≡ [])
    → IsBeginning taken (shown_replies m (lines_of_trace (given ++ more)))
begins stays m k k' ended given more taken (Ok tally) new ran done over =
    all_came m given more taken (over done)
    ([], sym (at_order m k (lines_of_trace given) new) ∙ sym (ran.shown _ new.shows) ∙ sym (append-nil taken))
begins stays m k k' ended given more taken (Err (Failed.Feed tally)) new ran done over =
    goes_on stays m k given more taken new ([], sym (ran.shown _ new.shows) ∙ sym (append-nil taken))
begins stays m k k' ended given more taken (Err (Failed.Drain tally)) new ran done over =
    cut_begins stays m k k' ended given more taken ran.0 ran.1 tally new ran.2 ran.3 over

-- for every result of the replay, the bytes taken are a prefix of the text shown for the bytes given
pub unwritten : ShownStays → (m : MachineOptions) (k k' : KernelContent) (ended : Bool) (given taken : List ℕ) (replayed : Result Tally ReplayError) → IsNew m k
    → Replays ended m.only k k' given taken replayed → IsDone replayed ended → Answers m Unwritable given taken
unwritten stays m k k' ended given taken replayed new ran done =
    subst (λ trace. IsBeginning taken (shown_replies m (lines_of_trace trace))) (append-nil given)
    (begins stays m k k' ended given [] taken replayed new ran done (λ _. refl))

-- for every outcome, the bytes taken are those that `Answers` states
pub answers : ShownStays → (m : MachineOptions) (k k' : KernelContent) (ended : Bool) (given taken : List ℕ) (replayed : Result Tally ReplayError) (unsent flushed : Bool) → IsNew m k
    → Replays ended m.only k k' given taken replayed → IsDone replayed ended → OnOk replayed (HasOwnLines m.only k given taken)
    → Answers m (run_outcome replayed unsent flushed) given taken
answers stays m k k' ended given taken (Ok tally) unsent true new ran done own = (
  ran.shown _ new.shows ∙ at_order m k (lines_of_trace given) new,
  private_at m.config m.only k given taken new.order new.shows own,
)
answers stays m k k' ended given taken (Ok tally) unsent false new ran done own = unwritten stays m k k' ended given taken (Ok tally) new ran done
answers stays m k k' ended given taken (Err (Failed.Feed tally)) true flushed new ran done own = unwritten stays m k k' ended given taken (Err (Failed.Feed tally)) new ran done
answers stays m k k' ended given taken (Err (Failed.Feed tally)) false flushed new ran done own = ran.shown _ new.shows ∙ at_order m k (ended_lines given) new
answers stays m k k' ended given taken (Err (Failed.Drain tally)) unsent flushed new ran done own = unwritten stays m k k' ended given taken (Err (Failed.Drain tally)) new ran done

-- if the tally is right for the bytes taken, subtracting `unwritten` makes it right for all of these bytes except the last
-- `unwritten`
counted : (tally : Tally) (lines : List (List ℕ)) (taken : List ℕ) (unwritten : ℕ) → Counts tally lines taken
    → Counts (without_unwritten tally unwritten) lines (take (length taken - unwritten) taken)
counted tally lines taken unwritten counts =
    let size : length (take (length taken - unwritten) taken) ≡ length taken - unwritten = length-take-le (length taken - unwritten) taken (omega arith) in
    record { lines = counts.lines; events = counts.events; faults = counts.faults; written = ap (λ n. n - unwritten) counts.written ∙ sym size }

-- for every outcome, the counts of the run are those that `Tallies` states
pub tallied : (m : MachineOptions) (k k' : KernelContent) (ended unread undrained : Bool) (given taken : List ℕ) (replayed : Result Tally ReplayError) (unsent flushed : Bool) (unwritten : ℕ)
    → IsNew m k → Replays ended m.only k k' given taken replayed → IsDone replayed ended → NamesFailed replayed unread undrained
    → Tallies m (run_outcome replayed unsent flushed) (without_unwritten (tally_of replayed) unwritten) ended unread given taken (take (length taken - unwritten) taken)
tallied m k k' ended unread undrained given taken (Ok tally) unsent true unwritten new ran done named = counted _ _ taken unwritten ran.counted
tallied m k k' ended unread undrained given taken (Ok tally) unsent false unwritten new ran done named =
    inl (done, ran.shown _ new.shows ∙ at_order m k (lines_of_trace given) new, counted _ _ taken unwritten ran.counted)
tallied m k k' ended unread undrained given taken (Err (Failed.Feed tally)) true flushed unwritten new ran done named =
    inr (inl (named.0, ran.shown _ new.shows ∙ at_order m k (ended_lines given) new, counted _ _ taken unwritten ran.counted))
tallied m k k' ended unread undrained given taken (Err (Failed.Feed tally)) false flushed unwritten new ran done named = counted _ _ taken unwritten ran.counted
tallied m k k' ended unread undrained given taken (Err (Failed.Drain tally)) unsent flushed unwritten new ran done named =
    let world = opening_world m.config.superblocks m.config.tenants in
    let cut = subst (λ order. IsCutIn (λ xs. shown_lines m.only cache_limit order xs world) ran.0 ran.1 taken) new.order (ran.3.shown world new.shows) in
    inr (inr (ran.0, ran.1, ran.2, cut, counted _ _ taken unwritten ran.3.counted))

-- if the drain holds nothing back, the writer took all bytes that the drain took
all_reached : (before writer : Option (List ℕ)) (held taken : List ℕ) → held ≡ [] → Appends before (append_known writer held) taken
    → (take (length taken - length held) taken ≡ taken) × Appends before writer taken
all_reached before writer held taken none appended =
    let whole : length taken - length held ≡ length taken = omega (arith, ap length none) in (
      ap (λ n. take n taken) whole ∙ take-length taken,
      subst (λ known. Appends before known taken) (append_known-nil writer) (subst (λ bytes. Appends before (append_known writer bytes) taken) none appended),
    )
  where
    append_known-nil : (known : Option (List ℕ)) → append_known known [] ≡ known
    append_known-nil None = refl
    append_known-nil (Some xs) = ap (λ bytes. Some bytes) (append-nil xs)

-- if nothing is held back after a successful flush, the writer took the bytes that `HasReached` states, for every outcome
pub reached : (replayed : Result Tally ReplayError) (unsent flushed failed : Bool) (before writer : Option (List ℕ)) (held taken : List ℕ)
    → failed ≡ not flushed → (flushed ≡ true → held ≡ []) → Appends before (append_known writer held) taken
    → HasReached (run_outcome replayed unsent flushed) failed before writer held taken (take (length taken - length held) taken)
reached (Ok tally) unsent true failed before writer held taken same none appended = all_reached before writer held taken (none refl) appended
reached (Ok tally) unsent false failed before writer held taken same none appended = (appended, refl)
reached (Err (Failed.Feed tally)) true flushed failed before writer held taken same none appended = (appended, refl)
reached (Err (Failed.Feed tally)) false true false before writer held taken same none appended = all_reached before writer held taken (none refl) appended
reached (Err (Failed.Feed tally)) false true true before writer held taken same none appended = (appended, refl)
reached (Err (Failed.Feed tally)) false false true before writer held taken same none appended = (appended, refl)
reached (Err (Failed.Feed tally)) false false false before writer held taken same none appended = absurd cc
reached (Err (Failed.Drain tally)) unsent flushed failed before writer held taken same none appended = (appended, refl)

-- for every outcome, what `EndsAs` states about failures of the feed and the drain is true
pub ends : (replayed : Result Tally ReplayError) (ended unread undrained unsent flushed : Bool) → IsDone replayed ended → NamesFailed replayed unread undrained
    → (unsent ≡ true → flushed ≡ false) → (undrained ≡ true → flushed ≡ false)
    → EndsAs (run_outcome replayed unsent flushed) ended unread (not flushed) unsent
ends (Ok tally) ended unread undrained true true done named stopped fine = let not_flushed : true ≡ false = stopped refl in absurd cc
ends (Ok tally) ended unread undrained false true done named stopped fine = (done, named.0, refl, refl)
ends (Ok tally) ended unread undrained unsent false done named stopped fine = (refl, λ failed. absurd cc)
ends (Err (Failed.Feed tally)) ended unread undrained true flushed done named stopped fine = (ap not (stopped refl), λ _. refl)
ends (Err (Failed.Feed tally)) ended unread undrained false flushed done named stopped fine = (named.0, refl)
ends (Err (Failed.Drain tally)) ended unread undrained unsent flushed done named stopped fine = (ap not (fine named.1), λ failed. absurd cc)

-- for the outcome `NoMemory`, `IsOfTrace` is true of any trace if nothing is given and nothing is written
pub nothing_of : (whole : List ℕ → List ℕ) (known : Option (List ℕ)) → IfSome known (λ trace. IsOfTrace NoMemory trace [] (whole trace) [])
nothing_of whole None = tt
nothing_of whole (Some trace) = record { part = (trace, refl); begins = (whole trace, refl) }

-- for every outcome, the bytes given are a prefix of the trace; if the run is done, they are the whole trace
pub given_so_far : (replayed : Result Tally ReplayError) (unsent flushed ended : Bool) (given more : List ℕ) → IsDone replayed ended → (ended ≡ true → more ≡ [])
    → IsGiven (run_outcome replayed unsent flushed) (given ++ more) given
given_so_far (Ok tally) unsent true ended given more done over = ap (λ bytes. given ++ bytes) (over done) ∙ append-nil given
given_so_far (Ok tally) unsent false ended given more done over = (more, refl)
given_so_far (Err (Failed.Feed tally)) true flushed ended given more done over = (more, refl)
given_so_far (Err (Failed.Feed tally)) false flushed ended given more done over = (more, refl)
given_so_far (Err (Failed.Drain tally)) unsent flushed ended given more done over = (more, refl)

-- Suppose that P is true of every trace that begins with the bytes given and, if the feed has ended, has no more bytes. Then P is
-- true of the trace that the feed reads, if that trace is known.
pub of_trace : (P : List ℕ → Type 0) (known left : Option (List ℕ)) (ended : Bool) (given : List ℕ) → Consumes known left given → (ended ≡ true → IsAtEnd left)
    → ((more : List ℕ) → (ended ≡ true → more ≡ []) → P (given ++ more)) → IfSome known P
of_trace P None left ended given consumed over fact = tt
of_trace P (Some trace) None ended given consumed over fact = absurd consumed
of_trace P (Some trace) (Some more) ended given consumed over fact = subst P (sym consumed) (fact more over)

-- for every outcome, if the whole trace is known, the bytes given are a prefix of it, and the bytes taken are a prefix of the
-- text shown for it
pub traced : ShownStays → (m : MachineOptions) (k k' : KernelContent) (ended : Bool) (given taken : List ℕ) (replayed : Result Tally ReplayError) (outcome : Outcome) (known left : Option (List ℕ))
    → IsNew m k → Replays ended m.only k k' given taken replayed → IsDone replayed ended
    → ((more : List ℕ) → (ended ≡ true → more ≡ []) → IsGiven outcome (given ++ more) given)
    → Consumes known left given → (ended ≡ true → IsAtEnd left)
    → IfSome known (λ trace. IsOfTrace outcome trace given (shown_replies m (lines_of_trace trace)) taken)
traced stays m k k' ended given taken replayed outcome known left new ran done part consumed over =
    of_trace (λ trace. IsOfTrace outcome trace given (shown_replies m (lines_of_trace trace)) taken) known left ended given consumed over
    (λ more none. record { part = part more none; begins = begins stays m k k' ended given more taken replayed new ran done none })
