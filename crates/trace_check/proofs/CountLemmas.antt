-- An allowed reply has as many lines as are read for its event.
use Rattle.std.proofs.Common.{◌≡◌, ℕ, suc, ◌+◌, Bool, true, false, List, [], ◌∷◌, map, length, length-append, Option, Some, None, Ok, slice_get, refl, sym, ap, ◌∙◌, inl, inr, arith}
use Rattle.std.specs.Prelude.{nat_lt, if◌then◌else◌}
use Rattle.std.specs.Option.{option_map_or}
use Rattle.std.proofs.lemmas.Bool.{and_parts, eqb-true, lt-ltb, le-ltb}
use Rattle.std.proofs.lemmas.List.{length-map}
use Rattle.std.proofs.lemmas.Option.{slice_get_within, slice_get_cases}
use Rattle.model_core.specs.declared.owner.Owner.{Owner}
use Rattle.model_core.specs.declared.report.OrderRow.{OrderRow}
use Rattle.words_core.specs.declared.report.Report.{Report}
use Rattle.words_core.specs.ReportTexts.{order_texts, cache_text, report_texts}
use Rattle.words_core.specs.Texts.{addressee_text, owner_texts, body_texts}
use Rattle.words_core.specs.declared.event.Event.{Event}
use Rattle.words_core.specs.declared.event.Event.TheVariants as On
use Rattle.words_core.specs.declared.event.AdminCommand.TheVariants as Do
use Rattle.words_core.specs.declared.event.Command.TheVariants as Command
use Rattle.words_core.specs.declared.reply.Body.{Body}
use Rattle.words_core.specs.declared.reply.Body.TheVariants as Say
use Rattle.words_core.specs.declared.reply.Refusal.{Refusal}
use Rattle.words_core.specs.declared.reply.Reply.{Reply}
use Rattle.promise_core.specs.State.{State, Known, state_after}
use Rattle.promise_core.specs.Promises.{due, refusals, room, busy, owners, report, is_no_tenant, allowed}
use Rattle.promise_core.proofs.AllowedReplies.{state_for, allowed_is}
use Rattle.trace_check.specs.Finding.{more_lines}
use Rattle.trace_check.proofs.TextLemmas.{lines_in}

-- Events that name an unknown tenant

refused_once : (front : List ℕ) (body : Body) → is_no_tenant body ≡ true → length (body_texts front body) ≡ 1
refused_once front (Say.Refused refusal) is = refl
refused_once front _ is = absurd cc

no_state : (states : List State) (t : ℕ) → slice_get states t ≡ None → nat_lt t (length states) ≡ false
no_state states t none = elim (slice_get_cases states t).1 [
  | inl found ↦ let no : None ≡ Some found.0 = sym none ∙ found.2 in absurd cc
  | inr past ↦ le-ltb t (length states) past.0
]

abbrev report_lines : Known → ℕ → Bool → Option State → ℕ
report_lines w t exists found = if exists then 1 + w.order + option_map_or (λ s. length s.has.caches) found 0 else 0

none_more : (event : Event) (w : Known) → state_for event w ≡ None → more_lines event w ≡ 0
none_more (On.Admin Do.Pool) w none = absurd cc
none_more (On.Tenant t Command.Report) w none =
    ap (λ exists. report_lines w t exists (slice_get w.states t)) (no_state w.states t none)
none_more _ w none = refl

-- Events that name an existing tenant, or name no tenant

count_owners : (front : List ℕ) (superblock : ℕ) (owners : List (Option Owner)) → length (owner_texts front superblock owners) ≡ length owners
count_owners front superblock [] = refl
count_owners front superblock (owner ∷ owners) = ap suc (count_owners front (superblock + 1) owners)

count_orders : (front : List ℕ) (order : ℕ) (rows : List OrderRow) → length (order_texts front order rows) ≡ length rows
count_orders front order [] = refl
count_orders front order (row ∷ rows) = ap suc (count_orders front (order + 1) rows)

count_report : (front : List ℕ) (report : Report) → length (report_texts front report) ≡ 1 + length report.orders.items + length report.caches.items
count_report front report =
    let caches = map (λ row. cache_text front row) report.caches.items in
    omega (arith, length-append (order_texts front 0 report.orders.items) caches, count_orders front 0 report.orders.items, length-map report.caches.items (λ row. cache_text front row))

kept_lines : (event : Event) (front : List ℕ) (body : Body) (w : Known) (s after : State) → state_for event w ≡ Some s
    → state_after w.order event body s ≡ Some after → refusals event body w s ≡ true → room event body w s ≡ true → busy event body w s ≡ true
    → owners event body w s ≡ true → report event body w s ≡ true → length (body_texts front body) ≡ suc (more_lines event w)
unfolding state_after due
kept_lines (On.Admin Do.Pool) front (Say.Owners reply_text) w s after here next refused roomy idle owned reported =
    ap suc (count_owners front 0 reply_text.items ∙ eqb-true (length reply_text.items) (length w.owners) (and_parts _ _ owned).0)
kept_lines (On.Admin Do.Pool) front (Say.Refused Refusal.NoFrames) w s after here next refused roomy idle owned reported = absurd cc
kept_lines (On.Admin Do.Pool) front (Say.Refused Refusal.SlotBusy) w s after here next refused roomy idle owned reported = absurd cc
kept_lines (On.Admin Do.Pool) front (Say.Refused refusal) w s after here next refused roomy idle owned reported = absurd cc
kept_lines (On.Admin Do.Pool) front body w s after here next refused roomy idle owned reported = absurd cc
kept_lines (On.Tenant t Command.Report) front (Say.Report r) w s after here next refused roomy idle owned reported =
    let figures = and_parts _ _ reported in
    let orders : length r.orders.items ≡ w.order + 1 = sym (length-map r.orders.items (λ row. row.free)) ∙ eqb-true _ _ figures.0 in
    let caches : length r.caches.items ≡ length s.has.caches = eqb-true _ _ (and_parts _ _ figures.1).0 in
    let more : more_lines (On.Tenant t Command.Report) w ≡ 1 + w.order + length s.has.caches =
    ap (λ exists. report_lines w t exists (slice_get w.states t)) (lt-ltb t (length w.states) (slice_get_within w.states t s here))
    ∙ ap (report_lines w t true) here in
    omega (arith, count_report front r, orders, caches, more)
kept_lines (On.Tenant t Command.Report) front (Say.Refused Refusal.NoFrames) w s after here next refused roomy idle owned reported = absurd cc
kept_lines (On.Tenant t Command.Report) front (Say.Refused Refusal.SlotBusy) w s after here next refused roomy idle owned reported = absurd cc
kept_lines (On.Tenant t Command.Report) front (Say.Refused refusal) w s after here next refused roomy idle owned reported = absurd cc
kept_lines (On.Tenant t Command.Report) front body w s after here next refused roomy idle owned reported = absurd cc
kept_lines event front (Say.Owners reply_text) w s after here next refused roomy idle owned reported = absurd cc
kept_lines event front (Say.Report r) w s after here next refused roomy idle owned reported = absurd cc
kept_lines event front body w s after here next refused roomy idle owned reported = refl

pub as_many_lines : (event : Event) (reply : Reply) (w after : Known) → allowed event reply w ≡ Ok after → lines_in reply ≡ suc (more_lines event w)
as_many_lines event reply w after is =
    let front = addressee_text reply.addressee in
    elim (allowed_is event reply w after is) [
      | inl absent ↦ refused_once front reply.body absent.said ∙ ap suc (sym (none_more event w absent.missing))
      | inr keeps ↦ kept_lines event front reply.body w keeps.state keeps.after keeps.here keeps.next keeps.refusals keeps.room keeps.busy keeps.owners keeps.report
    ]
