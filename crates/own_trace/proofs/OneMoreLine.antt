-- Running one more line, and keeping it if it is the tenant's own.
use Rattle.std.proofs.Common.{◌≡◌, ℕ, Bool, true, false, List, [], ◌∷◌, ◌++◌, Result, Ok, Option, Some, refl, ap, sym, subst, ◌∙◌, append_assoc}
use Rattle.std.proofs.lemmas.List.{append-nil}
use Rattle.words_core.specs.declared.event.Event.{Event}
use Rattle.words_core.specs.declared.event.LineFault.{LineFault}
use Rattle.words_core.specs.declared.reply.Reply.{Reply}
use Rattle.words_core.specs.Grammar.{reading_of}
use Rattle.world_core.specs.Limits.{cache_limit}
use Rattle.world_core.specs.World.{World, world_after, history}
use Rattle.world_core.specs.OwnList.{own_list, own_entries}
use Rattle.world_core.specs.Output.{event_in, events_of}
use Rattle.kernel_core.specs.Content.{KernelContent, SameSizes}
use Rattle.kernel_core.specs.Shows.{Shows}
use Rattle.kernel_core.specs.Steps.{Steps}
use Rattle.streams.specs.declared.feed.Stopped.{Stopped}
use Rattle.streams.proofs.MoveLemmas.{appends_nothing}
use Rattle.replay_core.specs.Doing.{HaveRun, IsCutOff, HasDone}
use Rattle.replay_core.specs.Pushes.{HasPushed}
use Rattle.replay_core.proofs.DoingLemmas.{run_keeps}
use Rattle.replay_core.proofs.RunLemmas.{same_sizes, stands_more}
use Rattle.own_trace.specs.declared.keeping.OwnLines.{OwnLines}
use Rattle.own_trace.specs.Kept.{has_entry, own_text}
use Rattle.own_trace.specs.Keeping.{HasKept, IsKeptShort, KeepsLine, keeps}
use Rattle.own_trace.proofs.KeptLines.{own_both, none_kept, line_kept}

-- the line was run, and `own` says whether it is the tenant's own
abbrev pub IsLineRun : ℕ → List ℕ → KernelContent → KernelContent → Bool → Type 0
IsLineRun t line before after own = SameSizes before after
    × ((w : World) → Shows before w → Shows after (world_after cache_limit before.order w (event_in (reading_of line))))
    × ((w : World) → Shows before w → own ≡ has_entry (own_list t (history cache_limit before.order w (event_in (reading_of line)))))

-- if a line's reading was run, and `own` says whether its event has entries in the own list, `IsLineRun` holds for the line
pub line_run : (t : ℕ) (line : List ℕ) (before after : KernelContent) (own : Bool) (reading : Result (Option Event) LineFault) → reading_of line ≡ reading → SameSizes before after
    → ((w : World) → Shows before w → Shows after (world_after cache_limit before.order w (event_in reading)))
    → ((w : World) → Shows before w → own ≡ has_entry (own_list t (history cache_limit before.order w (event_in reading))))
    → IsLineRun t line before after own
line_run t line before after own reading is sizes shows found = (
  sizes,
  subst (λ r. (w : World) → Shows before w → Shows after (world_after cache_limit before.order w (event_in r))) (sym is) shows,
  subst (λ r. (w : World) → Shows before w → own ≡ has_entry (own_list t (history cache_limit before.order w (event_in r)))) (sym is) found,
)

-- if a line's event was run, and `own` says whether the event has entries in the own list, `IsLineRun` holds for the line
pub event_run : (t : ℕ) (line : List ℕ) (before after : KernelContent) (event : Event) (reply : Reply) (own : Bool) → reading_of line ≡ Ok (Some event)
    → Steps before event after reply → own ≡ has_entry (own_entries t event reply.body) → IsLineRun t line before after own
event_run t line before after event reply own read steps is =
    line_run t line before after own (Ok (Some event)) read steps.sizes steps.shows
    (λ w shows. is ∙ ap (λ (r : Reply). has_entry (own_entries t event r.body)) (steps.answer w shows) ∙ ap has_entry (sym (append-nil _)))

-- a line without an event changes nothing and is not the tenant's own
pub nothing_run : (t : ℕ) (line : List ℕ) (k : KernelContent) (reading : Result (Option Event) LineFault) → reading_of line ≡ reading → event_in reading ≡ []
    → IsLineRun t line k k false
nothing_run t line k reading read none =
    line_run t line k k false reading read (same_sizes k)
    (λ w shows. subst (λ (es : List Event). Shows k (world_after cache_limit k.order w es)) (sym none) shows)
    (λ w shows. subst (λ (es : List Event). false ≡ has_entry (own_list t (history cache_limit k.order w es))) (sym none) refl)

-- if a line that is not the tenant's own was run, and nothing was pushed, the line was processed in full
pub not_kept : (own : OwnLines) (line : List ℕ) (before after : KernelContent) (known : Option (List ℕ)) (is_own : Bool)
    → IsLineRun own.tenant line before after is_own → is_own ≡ false → HasDone keeps (own, before) line known known (Ok tt) (own, after)
not_kept own line before after known is_own run is = record {
  taken = [];
  rest = [];
  did = (refl, record { sizes = run.0; shows = run.1; kept = λ w shows. none_kept own.tenant cache_limit before.order line w (sym (run.2 w shows) ∙ is) });
  appended = appends_nothing known;
  whole = refl;
}

-- if one of the tenant's own lines was run and pushed with an LF, it was processed, and in full if the push succeeded
pub kept : (own : OwnLines) (line : List ℕ) (before after : KernelContent) (old new : Option (List ℕ)) (failing is_own : Bool) (written written' : ℕ) (result : Result (Unit {0}) Stopped)
    → IsLineRun own.tenant line before after is_own → is_own ≡ true → HasPushed old new failing (line ++ 10 ∷ []) written written' result
    → HasDone keeps (own, before) line old new result (own, after)
kept own line before after old new failing is_own written written' result run is pushed = record {
  taken = pushed.taken;
  rest = pushed.rest;
  did = (
    refl,
    record {
      sizes = run.0;
      shows = run.1;
      kept = λ w shows. line_kept own.tenant cache_limit before.order line w (sym (run.2 w shows) ∙ is) ∙ pushed.split;
    },
  );
  appended = pushed.appended;
  whole = pushed.whole;
}

-- if `taken` is the own text of the lines `xs`, and `text` is the own text of the next line, the own text of all these lines is
-- `taken ++ text`
own_more : (t : ℕ) (before now next : KernelContent) (xs : List (List ℕ)) (line taken text : List ℕ)
    → HasKept t before now xs taken → KeepsLine t line now next text
    → (w : World) → Shows before w → own_text t cache_limit before.order (xs ++ line ∷ []) w ≡ taken ++ text
own_more t before now next xs line taken text sofar kept w shows =
    let later : World = world_after cache_limit before.order w (events_of xs) in
    own_both t cache_limit before.order xs (line ∷ []) w
    ∙ ap (λ sofar. sofar ++ own_text t cache_limit before.order (line ∷ []) later) (sym (sofar.kept w shows))
    ∙ ap (λ order. taken ++ own_text t cache_limit order (line ∷ []) later) (sym sofar.stands.sizes.order)
    ∙ ap (λ more. taken ++ more) (kept.kept later (sofar.stands.shows w shows))

-- the kernel has run these lines, and the bytes taken are the text of the tenant's own lines among them
abbrev pub AreKept : ℕ → KernelContent → List (List ℕ) → List ℕ → OwnLines × KernelContent → Type 0
AreKept t before lines taken s = (s.0.tenant ≡ t) × HasKept t before s.1 lines taken

one_kept : (t : ℕ) (before : KernelContent) (xs : List (List ℕ)) (line taken here : List ℕ) (s s' : OwnLines × KernelContent) → AreKept t before xs taken s → keeps s line here [] s'
    → AreKept t before (xs ++ line ∷ []) (taken ++ here) s'
one_kept t before xs line taken here s s' sofar did =
    let line_kept = subst (λ (t : ℕ). KeepsLine t line s.1 s'.1 (here ++ [])) sofar.0 did.1 in (
      did.0 ∙ sofar.0,
      record {
        stands = stands_more before s.1 s'.1 xs line sofar.1.stands line_kept.sizes line_kept.shows;
        kept = λ w shows. sym (own_more t before s.1 s'.1 xs line taken (here ++ []) sofar.1 line_kept w shows ∙ ap (λ more. taken ++ more) (append-nil here));
      },
    )

pub are_kept : (own : OwnLines) (before : KernelContent) (lines : List (List ℕ)) (taken : List ℕ) (s : OwnLines × KernelContent) → HaveRun keeps (own, before) lines taken s
    → AreKept own.tenant before lines taken s
are_kept own before lines taken s ran =
    run_keeps keeps (AreKept own.tenant before) (one_kept own.tenant before) [] lines [] taken (own, before) s
    (refl, record { stands = record { sizes = same_sizes before; shows = λ w shows. shows }; kept = λ w shows. refl }) ran

-- if the drain failed within the text of a line, the text of the earlier lines was taken in full, and the text of this line only
-- in part
pub kept_short : (own : OwnLines) (before : KernelContent) (done : List (List ℕ)) (line taken : List ℕ) (s : OwnLines × KernelContent) → IsCutOff keeps (own, before) done line taken s
    → IsKeptShort own.tenant before s.1 done line taken
kept_short own before done line taken s cut =
    let sofar = are_kept own before done cut.earlier cut.mid cut.ran in
    let line_kept = subst (λ (t : ℕ). KeepsLine t line cut.mid.1 s.1 (cut.here ++ cut.rest)) sofar.0 cut.did.1 in
    subst (λ (ts : List ℕ). IsKeptShort own.tenant before s.1 done line ts) (sym cut.split) (record {
      stands = stands_more before cut.mid.1 s.1 done line sofar.1.stands line_kept.sizes line_kept.shows;
      kept = λ w shows. (
        cut.here,
        cut.rest,
        cut.some,
        ap (λ earlier. earlier ++ cut.here) (sofar.1.kept w shows),
        own_more own.tenant before cut.mid.1 s.1 done line cut.earlier (cut.here ++ cut.rest) sofar.1 line_kept w shows
            ∙ sym (append_assoc cut.earlier cut.here cut.rest),
      );
    })
