-- If a replay has run some lines and then processes the next line, it has run these lines and this line.
use Rattle.std.proofs.Common.{◌≡◌, ℕ, suc, ◌+◌, Bool, true, false, if◌then◌else◌, List, [], ◌∷◌, ◌++◌, Result, Ok, Err, Option, Some, None, length, take, refl, ap, sym, subst, ◌∙◌, arith, append_assoc, length-append}
use Rattle.std.proofs.lemmas.List.{append-nil}
use Rattle.words_core.specs.declared.event.Event.{Event}
use Rattle.words_core.specs.declared.event.LineFault.{LineFault}
use Rattle.words_core.specs.declared.reply.Reply.{Reply}
use Rattle.words_core.specs.declared.reply.Addressee.TheVariants as To
use Rattle.words_core.specs.declared.reply.Body.TheVariants as Say
use Rattle.words_core.specs.Grammar.{reading_of, reading_of_words}
use Rattle.words_core.specs.Words.{words_of}
use Rattle.world_core.specs.Limits.{cache_limit}
use Rattle.world_core.specs.World.{World, world_after}
use Rattle.world_core.specs.Output.{event_in, events_of, shown_reading, shown_line, shown_lines, shown_text, ended_lines, with_line_feeds}
use Rattle.world_core.proofs.Worlds.{world_both}
use Rattle.kernel_core.specs.Content.{KernelContent, SameSizes}
use Rattle.kernel_core.specs.Shows.{Shows}
use Rattle.kernel_core.specs.Steps.{Steps}
use Rattle.streams.specs.declared.feed.Stopped.{Stopped}
use Rattle.streams.specs.declared.tally.Tally.{Tally}
use Rattle.streams.proofs.MoveLemmas.{appends_nothing}
use Rattle.replay_core.specs.declared.run.Run.{Run}
use Rattle.replay_core.specs.Doing.{HaveRun, IsCutOff, HasDone}
use Rattle.replay_core.specs.Noting.{Noting, noted_fault, noted_reply, noted_reading, noted_lines}
use Rattle.replay_core.specs.Runs.{fault_in, faults_of, Counts, StandsAfter, HasRun, IsCutShort, AreNoted}
use Rattle.replay_core.specs.Shown.{HasShown}
use Rattle.replay_core.specs.Ending.{HasLeft, HasRunEnded}
use Rattle.replay_core.specs.Standing.{AnswersRead, answers, tally_of_run, IsUnended}
use Rattle.replay_core.proofs.DoingLemmas.{run_keeps}

pub events_more : (xs : List (List ℕ)) (line : List ℕ) → events_of (xs ++ line ∷ []) ≡ events_of xs ++ event_in (reading_of line)
events_more [] line = append-nil _
events_more (x ∷ xs) line =
    ap (λ more. event_in (reading_of x) ++ more) (events_more xs line) ∙ sym (append_assoc (event_in (reading_of x)) (events_of xs) _)

world_more : (limit order : ℕ) (xs : List (List ℕ)) (line : List ℕ) (w : World)
    → world_after limit order w (events_of (xs ++ line ∷ [])) ≡ world_after limit order (world_after limit order w (events_of xs)) (event_in (reading_of line))
world_more limit order xs line w =
    ap (world_after limit order w) (events_more xs line) ∙ world_both limit order (events_of xs) (event_in (reading_of line)) w

pub shown_more : (only : Option ℕ) (limit order : ℕ) (xs : List (List ℕ)) (line : List ℕ) (w : World)
    → shown_lines only limit order (xs ++ line ∷ []) w
    ≡ shown_lines only limit order xs w ++ shown_line only limit order line (world_after limit order w (events_of xs))
shown_more only limit order [] line w = append-nil _
shown_more only limit order (x ∷ xs) line w =
    let next : World = world_after limit order w (event_in (reading_of x)) in
    ap (λ more. shown_line only limit order x w ++ more)
    (shown_more only limit order xs line next
    ∙ ap (λ v. shown_lines only limit order xs next ++ shown_line only limit order line v) (sym (world_both limit order (event_in (reading_of x)) (events_of xs) w)))
    ∙ sym (append_assoc (shown_line only limit order x w) _ _)

faults_more : (xs : List (List ℕ)) (line : List ℕ) → faults_of (xs ++ line ∷ []) ≡ faults_of xs + fault_in (reading_of line)
faults_more [] line = omega arith
faults_more (x ∷ xs) line = omega (arith, faults_more xs line)

counts_more : (tally tally' : Tally) (xs : List (List ℕ)) (line taken more : List ℕ) → Counts tally xs taken
    → tally'.lines ≡ tally.lines + 1 → tally'.events ≡ tally.events + length (event_in (reading_of line))
    → tally'.faults ≡ tally.faults + fault_in (reading_of line) → tally'.written ≡ tally.written + length more
    → Counts tally' (xs ++ line ∷ []) (taken ++ more)
counts_more tally tally' xs line taken more counts lines events faults written = record {
  lines = omega (arith, lines, counts.lines, length-append xs (line ∷ []));
  events = omega (arith, events, counts.events, ap length (events_more xs line), length-append (events_of xs) (event_in (reading_of line)));
  faults = omega (arith, faults, counts.faults, faults_more xs line);
  written = omega (arith, written, counts.written, length-append taken more);
}

pub same_sizes : (k : KernelContent) → SameSizes k k
same_sizes k = record { order = refl; superblocks = refl; tenants = refl }

pub stands_more : (before now next : KernelContent) (xs : List (List ℕ)) (line : List ℕ) → StandsAfter before now xs → SameSizes now next
    → ((w : World) → Shows now w → Shows next (world_after cache_limit now.order w (event_in (reading_of line))))
    → StandsAfter before next (xs ++ line ∷ [])
stands_more before now next xs line stands same shows = record {
  sizes = record {
    order = same.order ∙ stands.sizes.order;
    superblocks = same.superblocks ∙ stands.sizes.superblocks;
    tenants = same.tenants ∙ stands.sizes.tenants;
  };
  shows = λ w before_shows.
      subst (λ v. Shows next v) (sym (world_more cache_limit before.order xs line w))
      (subst (λ order. Shows next (world_after cache_limit order (world_after cache_limit before.order w (events_of xs)) (event_in (reading_of line)))) stands.sizes.order
      (shows _ (stands.shows w before_shows)));
}

-- if a line shows a text in every world that the kernel shows now, it shows this text in the world after the lines before it
shown_here : (only : Option ℕ) (before now : KernelContent) (xs : List (List ℕ)) (line text : List ℕ) → StandsAfter before now xs
    → ((w : World) → Shows now w → shown_line only cache_limit now.order line w ≡ text)
    → (w : World) → Shows before w → shown_line only cache_limit before.order line (world_after cache_limit before.order w (events_of xs)) ≡ text
shown_here only before now xs line text stands shown w before_shows =
    ap (λ order. shown_line only cache_limit order line (world_after cache_limit before.order w (events_of xs))) (sym stands.sizes.order)
    ∙ shown (world_after cache_limit before.order w (events_of xs)) (stands.shows w before_shows)

-- an empty line has no event and no fault
pub reading_of_nothing : reading_of [] ≡ Ok None
unfolding reading_of reading_of_words words_of
reading_of_nothing = refl

-- a reply that is no refusal leaves the notes unchanged, whether it is shown or not
pub noted_same : {N : Type 0} (shown : Bool) (n : N) → (if shown then n else n) ≡ n
noted_same true n = refl
noted_same false n = refl

module _ {N : Type 0} (noting : Noting N) where
  noted_more : (only : Option ℕ) (limit order number : ℕ) (xs : List (List ℕ)) (line : List ℕ) (w : World) (n : N)
      → noted_lines noting only limit order number (xs ++ line ∷ []) w n
      ≡ noted_reading noting only limit order (number + length xs) (take 256 line) (reading_of line) (world_after limit order w (events_of xs))
      (noted_lines noting only limit order number xs w n)
  noted_more only limit order number [] line w n =
      ap (λ m. noted_reading noting only limit order m (take 256 line) (reading_of line) w n) (omega arith)
  noted_more only limit order number (x ∷ xs) line w n =
      let next : World = world_after limit order w (event_in (reading_of x)) in
      let here : N = noted_reading noting only limit order number (take 256 x) (reading_of x) w n in
      let sofar : N = noted_lines noting only limit order (suc number) xs next here in
      noted_more only limit order (suc number) xs line next here
      ∙ ap (λ m. noted_reading noting only limit order m (take 256 line) (reading_of line) (world_after limit order next (events_of xs)) sofar) (omega arith)
      ∙ ap (λ v. noted_reading noting only limit order (number + suc (length xs)) (take 256 line) (reading_of line) v sofar)
      (sym (world_both limit order (event_in (reading_of x)) (events_of xs) w))

  -- if `AreNoted` holds for notes before and after the lines, it holds for equal notes too
  pub noted_from : (only : Option ℕ) (before : KernelContent) (lines : List (List ℕ)) (first first' last last' : N) → first ≡ first' → last' ≡ last
      → AreNoted noting only before lines first last → AreNoted noting only before lines first' last'
  noted_from only before lines first first' last last' begun ended noted = λ w shows.
      ended ∙ noted w shows ∙ ap (noted_lines noting only cache_limit before.order 1 lines w) begun

  -- if a run has this `only`, the text that it shows for a reading is the text that is shown with this `only`
  shown_to : (only : Option ℕ) (now : KernelContent) (reading : Result (Option Event) LineFault) (w : World) (run : Run N) (text : List ℕ) → run.replies.only ≡ only
      → shown_reading run.replies.only cache_limit now.order reading w ≡ text → shown_reading only cache_limit now.order reading w ≡ text
  shown_to only now reading w run text same shown = ap (λ o. shown_reading o cache_limit now.order reading w) (sym same) ∙ shown

  -- These lines were run and noted, and the drain took the text that they show.
  abbrev pub AreRun : Option ℕ → KernelContent → N → List (List ℕ) → List ℕ → Run N × KernelContent → Type 0
  AreRun only before notes lines taken s =
      (s.0.replies.only ≡ only) × HasRun only before s.1 lines taken (tally_of_run s.0) × AreNoted noting only before lines notes s.0.notes

  -- if the lines `xs` were run, and of the next line's output the drain took `taken` and not `rest`, the text that this line
  -- shows after `xs` is `taken ++ rest`
  shown_now : (only : Option ℕ) (before : KernelContent) (notes : N) (xs : List (List ℕ)) (line sofar taken rest : List ℕ) (s s' : Run N × KernelContent)
      → AreRun only before notes xs sofar s → answers noting s line taken rest s'
      → (w : World) → Shows before w → shown_line only cache_limit before.order line (world_after cache_limit before.order w (events_of xs)) ≡ taken ++ rest
  shown_now only before notes xs line sofar taken rest s s' ran answered =
      shown_here only before s.1 xs line (taken ++ rest) ran.1.stands (λ v shows. shown_to only s.1 (reading_of line) v s.0 _ ran.0 (answered.shown v shows))

  -- if the lines `xs` were run, the notes after the next line are the notes of `xs` and this line
  noted_now : (only : Option ℕ) (before : KernelContent) (notes : N) (xs : List (List ℕ)) (line sofar taken rest : List ℕ) (s s' : Run N × KernelContent)
      → AreRun only before notes xs sofar s → answers noting s line taken rest s' → AreNoted noting only before (xs ++ line ∷ []) notes s'.0.notes
  noted_now only before notes xs line sofar taken rest s s' ran answered = λ w shows.
      let v : World = world_after cache_limit before.order w (events_of xs) in
      answered.noted v (ran.1.stands.shows w shows)
      ∙ ap (λ o. noted_reading noting o cache_limit s.1.order (s.0.lines + 1) (take 256 line) (reading_of line) v s.0.notes) ran.0
      ∙ ap (λ order. noted_reading noting only cache_limit order (s.0.lines + 1) (take 256 line) (reading_of line) v s.0.notes) ran.1.stands.sizes.order
      ∙ ap (λ m. noted_reading noting only cache_limit before.order m (take 256 line) (reading_of line) v s.0.notes) (omega (arith, ran.1.counted.lines))
      ∙ ap (noted_reading noting only cache_limit before.order (1 + length xs) (take 256 line) (reading_of line) v) (ran.2 w shows)
      ∙ sym (noted_more only cache_limit before.order 1 xs line w notes)

  -- if the lines `xs` were run and the next line was answered in full, `xs` and this line were run
  one_run : (only : Option ℕ) (before : KernelContent) (notes : N) (xs : List (List ℕ)) (line taken here : List ℕ) (s s' : Run N × KernelContent)
      → AreRun only before notes xs taken s → answers noting s line here [] s' → AreRun only before notes (xs ++ line ∷ []) (taken ++ here) s'
  one_run only before notes xs line taken here s s' ran answered = (
    answered.same ∙ ran.0,
    record {
      stands = stands_more before s.1 s'.1 xs line ran.1.stands answered.sizes answered.shows;
      shown = λ w shows.
          ap (λ more. taken ++ more) (sym (shown_now only before notes xs line taken here [] s s' ran answered w shows ∙ append-nil here))
          ∙ ap (λ sofar. sofar ++ shown_line only cache_limit before.order line (world_after cache_limit before.order w (events_of xs))) (ran.1.shown w shows)
          ∙ sym (shown_more only cache_limit before.order xs line w);
      counted = counts_more (tally_of_run s.0) (tally_of_run s'.0) xs line taken here ran.1.counted answered.lines answered.events answered.faults answered.written;
    },
    noted_now only before notes xs line taken here [] s s' ran answered,
  )

  -- if a run that has counted nothing answers lines in full, they were run and noted, and the drain took the text that they show
  pub are_run : (only : Option ℕ) (run : Run N) (before : KernelContent) (lines : List (List ℕ)) (taken : List ℕ) (s : Run N × KernelContent) → run.replies.only ≡ only
      → tally_of_run run ≡ record { lines = 0; events = 0; faults = 0; written = 0 } → HaveRun (answers noting) (run, before) lines taken s
      → AreRun only before run.notes lines taken s
  are_run only run before lines taken s same none ran =
      run_keeps (answers noting) (AreRun only before run.notes) (one_run only before run.notes) [] lines [] taken (run, before) s (
        same,
        record {
          stands = record { sizes = same_sizes before; shows = λ w shows. shows };
          shown = λ w shows. refl;
          counted = record {
            lines = ap (λ tally. tally.lines) none;
            events = ap (λ tally. tally.events) none;
            faults = ap (λ tally. tally.faults) none;
            written = ap (λ tally. tally.written) none;
          };
        },
        λ w shows. refl,
      ) ran

  -- if the drain failed within the answer to a line, the lines up to this line were run and noted, and its text was cut short
  pub run_cut : (only : Option ℕ) (run : Run N) (before : KernelContent) (done : List (List ℕ)) (line taken : List ℕ) (s : Run N × KernelContent) → run.replies.only ≡ only
      → tally_of_run run ≡ record { lines = 0; events = 0; faults = 0; written = 0 } → IsCutOff (answers noting) (run, before) done line taken s
      → IsCutShort only before s.1 done line taken (tally_of_run s.0) × AreNoted noting only before (done ++ line ∷ []) run.notes s.0.notes
  run_cut only run before done line taken s same none cut =
      let ran = are_run only run before done cut.earlier cut.mid same none cut.ran in
      let did = cut.did in (
        subst (λ (ts : List ℕ). IsCutShort only before s.1 done line ts (tally_of_run s.0)) (sym cut.split) (record {
          stands = stands_more before cut.mid.1 s.1 done line ran.1.stands did.sizes did.shows;
          shown = λ w shows. (
            cut.here,
            cut.rest,
            cut.some,
            ap (λ sofar. sofar ++ cut.here) (ran.1.shown w shows),
            shown_more only cache_limit before.order done line w
                ∙ ap (λ sofar. sofar ++ shown_line only cache_limit before.order line (world_after cache_limit before.order w (events_of done))) (sym (ran.1.shown w shows))
                ∙ ap (λ text. cut.earlier ++ text) (shown_now only before run.notes done line cut.earlier cut.here cut.rest cut.mid s ran did w shows)
                ∙ sym (append_assoc cut.earlier cut.here cut.rest),
          );
          counted = counts_more (tally_of_run cut.mid.0) (tally_of_run s.0) done line cut.earlier cut.here ran.1.counted did.lines did.events did.faults did.written;
        }),
        noted_now only before run.notes done line cut.earlier cut.here cut.rest cut.mid s ran did,
      )

  -- if `HasDone` holds for the reading of a line, it holds for the bytes of the line
  done_of_reading : (s s' : Run N × KernelContent) (line : List ℕ) (reading : Result (Option Event) LineFault) (old new : Option (List ℕ)) (result : Result (Unit {0}) Stopped)
      → reading_of line ≡ reading → HasDone (AnswersRead noting (take 256 line)) s reading old new result s' → HasDone (answers noting) s line old new result s'
  done_of_reading s s' line reading old new result is done = record {
    taken = done.taken;
    rest = done.rest;
    did = subst (λ r. AnswersRead noting (take 256 line) s r done.taken done.rest s') (sym is) done.did;
    appended = done.appended;
    whole = done.whole;
  }

  -- a line with an event can be processed without its front, since only faulty lines are noted with their front
  pub done_of_event : (s s' : Run N × KernelContent) (line : List ℕ) (event : Event) (old new : Option (List ℕ)) (result : Result (Unit {0}) Stopped)
      → reading_of line ≡ Ok (Some event) → HasDone (AnswersRead noting []) s (Ok (Some event)) old new result s' → HasDone (answers noting) s line old new result s'
  done_of_event s s' line event old new result is done =
      done_of_reading s s' line (Ok (Some event)) old new result is (record {
        taken = done.taken;
        rest = done.rest;
        did = record {
          sizes = done.did.sizes;
          shows = done.did.shows;
          shown = done.did.shown;
          lines = done.did.lines;
          events = done.did.events;
          faults = done.did.faults;
          written = done.did.written;
          same = done.did.same;
          noted = done.did.noted;
        };
        appended = done.appended;
        whole = done.whole;
      })

  -- a blank line or a comment is processed if it is counted as a line and nothing else changes
  pub blank_done : (k : KernelContent) (line : List ℕ) (known : Option (List ℕ)) (run run' : Run N) → reading_of line ≡ Ok None
      → run'.lines ≡ run.lines + 1 → run'.events ≡ run.events → run'.faults ≡ run.faults → run'.replies ≡ run.replies → run'.notes ≡ run.notes
      → HasDone (answers noting) (run, k) line known known (Ok tt) (run', k)
  blank_done k line known run run' read lines events faults replies notes =
      done_of_reading (run, k) (run', k) line (Ok None) known known (Ok tt) read (record {
        taken = [];
        rest = [];
        did = record {
          sizes = same_sizes k;
          shows = λ w shows. shows;
          shown = λ w shows. refl;
          lines = lines;
          events = omega (arith, events);
          faults = omega (arith, faults);
          written = omega (arith, ap (λ replies. replies.written) replies);
          same = ap (λ replies. replies.only) replies;
          noted = λ w shows. notes;
        };
        appended = appends_nothing known;
        whole = refl;
      })

  -- if the text of a line's reading was shown, and the line was run, counted and noted, the line was processed
  text_done : (s s' : Run N × KernelContent) (line text : List ℕ) (reading : Result (Option Event) LineFault) (old new : Option (List ℕ)) (failing : Bool) (result : Result (Unit {0}) Stopped)
      → reading_of line ≡ reading → SameSizes s.1 s'.1 → ((w : World) → Shows s.1 w → Shows s'.1 (world_after cache_limit s.1.order w (event_in reading)))
      → ((w : World) → Shows s.1 w → shown_reading s.0.replies.only cache_limit s.1.order reading w ≡ text)
      → HasShown old new failing text s.0.replies s'.0.replies result
      → s'.0.lines ≡ s.0.lines + 1 → s'.0.events ≡ s.0.events + length (event_in reading) → s'.0.faults ≡ s.0.faults + fault_in reading
      → ((w : World) → Shows s.1 w → s'.0.notes ≡ noted_reading noting s.0.replies.only cache_limit s.1.order (s.0.lines + 1) (take 256 line) reading w s.0.notes)
      → HasDone (answers noting) s line old new result s'
  text_done s s' line text reading old new failing result read sizes shows said shown lines events faults noted =
      done_of_reading s s' line reading old new result read (record {
        taken = shown.pushed.taken;
        rest = shown.pushed.rest;
        did = record {
          sizes = sizes;
          shows = shows;
          shown = λ w here. said w here ∙ shown.pushed.split;
          lines = lines;
          events = events;
          faults = faults;
          written = shown.pushed.counted;
          same = shown.same;
          noted = noted;
        };
        appended = shown.pushed.appended;
        whole = shown.pushed.whole;
      })

  -- if the reply to a line's event was shown and noted, and the line was counted, the line was processed
  pub event_done : (before after : KernelContent) (run run' : Run N) (event : Event) (reply : Reply) (line : List ℕ) (old new : Option (List ℕ)) (failing : Bool) (result : Result (Unit {0}) Stopped)
      → reading_of line ≡ Ok (Some event) → Steps before event after reply
      → HasShown old new failing (shown_text run.replies.only reply) run.replies run'.replies result
      → run'.lines ≡ run.lines + 1 → run'.events ≡ run.events + 1 → run'.faults ≡ run.faults
      → run'.notes ≡ noted_reply noting run.replies.only reply run.notes
      → HasDone (answers noting) (run, before) line old new result (run', after)
  event_done before after run run' event reply line old new failing result read steps shown lines events faults noted =
      text_done (run, before) (run', after) line _ (Ok (Some event)) old new failing result read steps.sizes steps.shows
      (λ w shows. ap (λ r. shown_text run.replies.only r) (sym (steps.answer w shows))) shown lines events (omega (arith, faults))
      (λ w shows. noted ∙ ap (λ r. noted_reply noting run.replies.only r run.notes) (steps.answer w shows))

  -- the reply to a fault has no refusal to note
  noted_nobody : (only : Option ℕ) (fault : LineFault) (n : N) → noted_reply noting only (record { addressee = To.Nobody; body = Say.Fault fault }) n ≡ n
  noted_nobody None fault n = refl
  noted_nobody (Some t) fault n = refl

  -- if a faulty line was noted and counted, and the reply to nobody with its fault was shown, the line was processed
  pub fault_done : (k : KernelContent) (run run' : Run N) (notes : N) (fault : LineFault) (line front : List ℕ) (old new : Option (List ℕ)) (failing : Bool) (result : Result (Unit {0}) Stopped)
      → reading_of line ≡ Err fault → take 256 front ≡ take 256 line
      → HasShown old new failing (shown_text run.replies.only (record { addressee = To.Nobody; body = Say.Fault fault })) run.replies run'.replies result
      → run'.lines ≡ run.lines + 1 → run'.events ≡ run.events → run'.faults ≡ run.faults + 1
      → notes ≡ noting.faulty run.notes (run.lines + 1) fault (take 256 front)
      → run'.notes ≡ noted_reply noting run.replies.only (record { addressee = To.Nobody; body = Say.Fault fault }) notes
      → HasDone (answers noting) (run, k) line old new result (run', k)
  fault_done k run run' notes fault line front old new failing result read same shown lines events faults faulty noted =
      text_done (run, k) (run', k) line _ (Err fault) old new failing result read (same_sizes k) (λ w shows. shows) (λ w shows. refl) shown lines (omega (arith, events)) faults
      (λ w shows. noted ∙ noted_nobody run.replies.only fault notes ∙ faulty ∙ ap (noting.faulty run.notes (run.lines + 1) fault) same)

  -- to note the beginning of a line whose end could not be read, its reading and its first 256 bytes are enough
  pub unended_noted : (run run' : Run N) (line front : List ℕ) (reading : Result (Option Event) LineFault) → reading ≡ reading_of line → take 256 front ≡ take 256 line
      → run' ≡ record run { notes = noted_fault noting (run.lines + 1) (take 256 front) reading run.notes } → IsUnended noting run line run'
  unended_noted run run' line front reading read same is =
      is ∙ ap (λ r. record run { notes = noted_fault noting (run.lines + 1) (take 256 front) r run.notes }) read
      ∙ ap (λ xs. record run { notes = noted_fault noting (run.lines + 1) xs (reading_of line) run.notes }) same

  left_tally : (run run' : Run N) (tail : List ℕ) → HasLeft (IsUnended noting) run tail run' → tally_of_run run' ≡ tally_of_run run
  left_tally run run' [] left = ap tally_of_run left
  left_tally run run' (b ∷ tail) left = ap tally_of_run left

  left_noted : (run run' : Run N) (tail : List ℕ) → HasLeft (IsUnended noting) run tail run'
      → run'.notes ≡ noted_fault noting (run.lines + 1) (take 256 tail) (reading_of tail) run.notes
  left_noted run run' [] left =
      ap (λ r. r.notes) left ∙ ap (λ r. noted_fault noting (run.lines + 1) [] r run.notes) (sym reading_of_nothing)
  left_noted run run' (b ∷ tail) left = ap (λ r. r.notes) left

  -- if the feed failed, the lines that ended in LF were run and noted, and the unfinished line is noted if it is faulty
  pub run_ended : (only : Option ℕ) (run : Run N) (before : KernelContent) (given taken : List ℕ) (s : Run N × KernelContent) → run.replies.only ≡ only
      → tally_of_run run ≡ record { lines = 0; events = 0; faults = 0; written = 0 } → HasRunEnded (answers noting) (IsUnended noting) (run, before) given taken s
      → HasRun only before s.1 (ended_lines given) taken (tally_of_run s.0) × (mid : N) × (tail : List ℕ)
      × AreNoted noting only before (ended_lines given) run.notes mid × (given ≡ with_line_feeds (ended_lines given) ++ tail)
      × (s.0.notes ≡ noted_fault noting (suc (length (ended_lines given))) (take 256 tail) (reading_of tail) mid)
  run_ended only run before given taken s same none ended =
      let ran = are_run only run before (ended_lines given) taken (ended.mid, s.1) same none ended.ran in (
        subst (HasRun only before s.1 (ended_lines given) taken) (sym (left_tally ended.mid s.0 ended.tail ended.left)) ran.1,
        ended.mid.notes,
        ended.tail,
        ran.2,
        ended.split,
        left_noted ended.mid s.0 ended.tail ended.left
            ∙ ap (λ m. noted_fault noting m (take 256 ended.tail) (reading_of ended.tail) ended.mid.notes) (omega (arith, ran.1.counted.lines)),
      )
