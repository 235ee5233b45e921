-- A list of calls of `partmem_line` runs the events of its lines in the world, and writes the output of the trace of its lines.
use Rattle.std.proofs.Common.{◌≡◌, ℕ, ◌≤◌, List, [], ◌∷◌, ◌++◌, Option, Some, None, Result, Ok, Err, refl, sym, ap, subst, ◌∙◌, arith}
use Rattle.std.proofs.lemmas.List.{append-nil}
use Rattle.model_core.specs.declared.limits.TheConstants.{WIDE_TENANTS}
use Rattle.words_core.specs.declared.event.Event.{Event}
use Rattle.words_core.specs.declared.event.LineFault.{LineFault}
use Rattle.words_core.specs.Cutting.{lines_of_trace}
use Rattle.words_core.specs.Grammar.{reading_of}
use Rattle.words_core.specs.Texts.{text_of}
use Rattle.world_core.specs.Limits.{cache_limit}
use Rattle.world_core.specs.World.{World, opening_world, world_after}
use Rattle.world_core.specs.Output.{event_in, events_of, shown_reading, shown_lines, output_of, lines_for, with_line_feeds}
use Rattle.world_core.specs.Laws as world
use Rattle.world_core.proofs.Worlds.{world_both, opening_tenants}
use Rattle.kernel_core.specs.Content.{KernelContent}
use Rattle.kernel_core.specs.Shows.{Shows}
use Rattle.replay_core.specs.Standing.{AreLines}
use Rattle.replay_core.proofs.LineLemmas.{lines_cut}
use Rattle.partmem_c.specs.Lines.{AnswersLine}
use Rattle.partmem_c.specs.Laws.{Call, lines_of_calls, texts_of, Ran, OwnLinesOfCalls, SameLinesOfCalls, StandsAfterCalls}

-- What holds if a line with this reading leads from kernel k, which shows world w, to kernel k': then k' shows the world after
-- the line's event, or w if the line has no event, and `text` is what is shown for the line in w.
record Follows (k k' : KernelContent) (reading : Result (Option Event) LineFault) (text : List ℕ) (w : World) : Type 0 where
  pub order : k'.order ≡ k.order
  pub shows : Shows k' (world_after cache_limit k.order w (event_in reading))
  pub shown : text ≡ shown_reading None cache_limit k.order reading w

follows : (k k' : KernelContent) (reading : Result (Option Event) LineFault) (text : List ℕ) (w : World) → AnswersLine k reading k' text → Shows k w
    → Follows k k' reading text w
follows k k' (Ok (Some event)) text w did shows = record {
  order = did.1.sizes.order;
  shows = did.1.shows w shows;
  shown = did.2 ∙ ap text_of (did.1.answer w shows);
}
follows k k' (Ok None) text w did shows = record {
  order = ap (λ (m : KernelContent). m.order) did.0;
  shows = subst (λ (m : KernelContent). Shows m w) (sym did.0) shows;
  shown = did.1;
}
follows k k' (Err fault) text w did shows = record {
  order = ap (λ (m : KernelContent). m.order) did.0;
  shows = subst (λ (m : KernelContent). Shows m w) (sym did.0) shows;
  shown = did.1;
}

-- What holds if a list of calls leads from kernel k, which shows world w, to kernel k': then k' shows the world after the events
-- of the calls' lines, and the texts of the calls are what is shown for these lines, from world w on.
record AllFollow (k k' : KernelContent) (calls : List Call) (w : World) : Type 0 where
  pub shows : Shows k' (world_after cache_limit k.order w (events_of (lines_of_calls calls)))
  pub shown : texts_of calls ≡ shown_lines None cache_limit k.order (lines_of_calls calls) w

all_follow : (k k' : KernelContent) (calls : List Call) (w : World) → Ran k calls k' → Shows k w → AllFollow k k' calls w
all_follow k k' [] w ran shows = record { shows = subst (λ (m : KernelContent). Shows m w) (sym ran) shows; shown = refl }
all_follow k k' (call ∷ calls) w ran shows =
    let reading = reading_of call.line in
    let one = follows k ran.0 reading call.text w ran.2 shows in
    let next : World = world_after cache_limit k.order w (event_in reading) in
    let more = all_follow ran.0 k' calls next ran.3 one.shows in record {
      shows = subst (λ (v : World). Shows k' v) (sym (world_both cache_limit k.order (event_in reading) (events_of (lines_of_calls calls)) w))
          (subst (λ (order : ℕ). Shows k' (world_after cache_limit order next (events_of (lines_of_calls calls)))) one.order more.shows);
      shown = ap (λ (text : List ℕ). text ++ texts_of calls) one.shown
          ∙ ap (λ (texts : List ℕ). shown_reading None cache_limit k.order reading w ++ texts)
          (more.shown ∙ ap (λ (order : ℕ). shown_lines None cache_limit order (lines_of_calls calls) next) one.order);
    }

pub stands_after : StandsAfterCalls
stands_after k k' calls ran w shows = (all_follow k k' calls w ran shows).shows

are_lines : (k k' : KernelContent) (calls : List Call) → Ran k calls k' → AreLines (lines_of_calls calls)
are_lines k k' [] ran = tt
are_lines k k' (call ∷ calls) ran = (ran.1, are_lines ran.0 k' calls ran.3)

-- if the lines of the calls, each with a line feed, are joined to a trace, cutting this trace gives the same lines again
cut_again : (k k' : KernelContent) (calls : List Call) → Ran k calls k' → lines_of_trace (with_line_feeds (lines_of_calls calls)) ≡ lines_of_calls calls
cut_again k k' calls ran =
    ap lines_of_trace (sym (append-nil (with_line_feeds (lines_of_calls calls)))) ∙ lines_cut (lines_of_calls calls) [] (are_lines k k' calls ran)
    ∙ append-nil (lines_of_calls calls)

few_tenants : (k : KernelContent) (superblocks tenants : ℕ) → Shows k (opening_world superblocks tenants) → tenants ≤ WIDE_TENANTS
few_tenants k superblocks tenants shows = omega (arith, shows.tenants, shows.agree.tenants, opening_tenants superblocks tenants)

-- if the first kernel shows the opening world, the texts that the calls write are the output of the trace of their lines
output_is : (k k' : KernelContent) (superblocks tenants : ℕ) (calls : List Call) → Shows k (opening_world superblocks tenants) → Ran k calls k'
    → texts_of calls ≡ output_of cache_limit k.order (with_line_feeds (lines_of_calls calls)) (opening_world superblocks tenants)
unfolding output_of
output_is k k' superblocks tenants calls shows ran =
    let w : World = opening_world superblocks tenants in
    (all_follow k k' calls w ran shows).shown
    ∙ ap (λ (lines : List (List ℕ)). shown_lines None cache_limit k.order lines w) (sym (cut_again k k' calls ran))

pub own_lines_of : world.OwnLines → OwnLinesOfCalls
own_lines_of own k k' superblocks tenants t calls shows here ran =
    ap (lines_for t) (output_is k k' superblocks tenants calls shows ran)
    ∙ own cache_limit k.order superblocks tenants t (with_line_feeds (lines_of_calls calls))
    (omega (arith, few_tenants k superblocks tenants shows)) here

pub same_lines_of : world.SameLines → SameLinesOfCalls
same_lines_of same k k' m m' superblocks tenants superblocks' tenants' t calls calls' shows shows' orders own ran ran' =
    let trace : List ℕ = with_line_feeds (lines_of_calls calls) in let trace' : List ℕ = with_line_feeds (lines_of_calls calls') in
    ap (lines_for t) (output_is k k' superblocks tenants calls shows ran)
    ∙ same cache_limit k.order superblocks tenants superblocks' tenants' t trace trace'
    (omega (arith, few_tenants k superblocks tenants shows)) (omega (arith, few_tenants m superblocks' tenants' shows'))
    (rw (cut_again k k' calls ran, cut_again m m' calls' ran') own)
    ∙ ap (λ (order : ℕ). lines_for t (output_of cache_limit order trace' (opening_world superblocks' tenants'))) (sym orders)
    ∙ ap (lines_for t) (sym (output_is m m' superblocks' tenants' calls' shows' ran'))
