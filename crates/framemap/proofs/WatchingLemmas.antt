-- Every line that is run is counted, and its event too.
use Rattle.std.proofs.Common.{◌≡◌, ℕ, ◌+◌, ◌-◌, ◌^◌, ◌<◌, List, [], ◌∷◌, ◌++◌, Option, Some, None, length, take, drop, refl, ap, sym, subst, ◌∙◌, arith, length-append}
use Rattle.std.proofs.lemmas.List.{append-nil}
use Rattle.std.specs.Io.KnownBytes.{Consumes, IsAtEnd}
use Rattle.words_core.specs.declared.event.Command.{Command}
use Rattle.words_core.specs.Grammar.{reading_of}
use Rattle.world_core.specs.Output.{event_in, events_of}
use Rattle.quick_core.specs.Lines.{ReadsAs}
use Rattle.kernel_core.specs.Content.{KernelContent}
use Rattle.frame_picture.specs.Histories.{line_count}
use Rattle.streams.proofs.MoveLemmas.{appends_nothing}
use Rattle.replay_core.specs.Doing.{HaveRun, HasGone}
use Rattle.replay_core.proofs.DoingLemmas.{run_keeps, gone_end}
use Rattle.replay_core.proofs.QuickLemmas.{front_cut}
use Rattle.replay_core.proofs.RunLemmas.{events_more}
use Rattle.framemap.specs.declared.watched.Watched.{Watched}
use Rattle.framemap.specs.Watching.{watches, HasWatched}

-- if the request at the front of the rest was counted as an event and a line, all lines up to it were counted
pub request_counted : (s mid s' : Watched × KernelContent) (bytes rest : List ℕ) (known : Option (List ℕ)) (tenant : ℕ) (command : Command) (len : ℕ)
    → ReadsAs rest tenant command len → HasGone watches s bytes rest known known mid → s'.0.events ≡ mid.0.events + 1
    → (line_count mid.0.history + 1 < 2 ^ 32 → line_count s'.0.history ≡ line_count mid.0.history + 1)
    → HasGone watches s bytes (drop len rest) known known s'
request_counted s mid s' bytes rest known tenant command len read gone events lines =
    let cut = front_cut rest tenant command len read in
    gone_end watches s mid s' bytes [] rest (take (len - 1) rest) (drop len rest) known known known gone tt cut.0 cut.1 (record {
      taken = [];
      rest = [];
      did = record { silent = refl; whole = refl; events = omega (arith, events, ap (λ r. length (event_in r)) read.reading); lines = lines };
      appended = appends_nothing known;
      whole = refl;
    })

-- if the lines `xs` were counted and then one more line, all these lines were counted
one_watched : (old : Watched) (xs : List (List ℕ)) (line taken here : List ℕ) (s s' : Watched × KernelContent) → HasWatched xs old s.0 → watches s line here [] s'
    → HasWatched (xs ++ line ∷ []) old s'.0
one_watched old xs line taken here s s' sofar did =
    let length_more = length-append xs (line ∷ []) in record {
      events = omega (
        arith,
        sofar.events,
        did.events,
        ap length (events_more xs line),
        length-append (events_of xs) (event_in (reading_of line)),
      );
      lines = λ below.
          let before = sofar.lines (omega (arith, length_more, below)) in
          omega (arith, length_more, before, did.lines (omega (arith, length_more, before, below)));
    }

-- if these lines were run one after another, all of them were counted
pub have_watched : (old : Watched) (before : KernelContent) (lines : List (List ℕ)) (taken : List ℕ) (s : Watched × KernelContent)
    → HaveRun watches (old, before) lines taken s → HasWatched lines old s.0
have_watched old before lines taken s ran =
    run_keeps watches (λ xs _ s. HasWatched xs old s.0) (one_watched old) [] lines [] taken (old, before) s
    (record { events = omega arith; lines = λ below. omega arith }) ran

-- if a feed gave bytes until nothing was left of the trace, the given bytes are the trace
pub all_given : (old new : Option (List ℕ)) (trace given : List ℕ) → old ≡ Some trace → Consumes old new given → IsAtEnd new → given ≡ trace
all_given old new trace given is consumes end = go new (subst (λ (known : Option (List ℕ)). Consumes known new given) is consumes) end
  where
    go : (new : Option (List ℕ)) → Consumes (Some trace) new given → IsAtEnd new → given ≡ trace
    go None consumes end = absurd consumes
    go (Some rest) consumes end = sym (consumes ∙ ap (λ xs. given ++ xs) end ∙ append-nil given)
