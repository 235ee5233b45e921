-- The reasons that are worked out for some promises alone.
use Rattle.std.proofs.Common.{◌≡◌, ◌∙◌, ℕ, Bool, true, List, Option, Some, None, length, slice_get, refl, sym, ap, subst}
use Rattle.std.specs.Prelude.{◌==◌, filter, if◌then◌else◌, option_map}
use Rattle.std.specs.Option.{option_map_or}
use Rattle.std.proofs.lemmas.Bool.{eq-eqb}
use Rattle.std.proofs.lemmas.Option.{slice_get-map}
use Rattle.words_core.specs.declared.reply.Body.{Body}
use Rattle.words_core.specs.declared.event.Event.{Event}
use Rattle.words_core.specs.declared.reply.Reply.{Reply}
use Rattle.words_core.specs.declared.report.Report.{Report}
use Rattle.promise_core.specs.declared.promise.Promise.{Promise}
use Rattle.promise_core.specs.Holdings.{KnownCache}
use Rattle.promise_core.specs.State.{Known, State}
use Rattle.reply_judge.specs.declared.bound.Bound.{Bound}
use Rattle.reply_judge.specs.Emptied.{frames_due, frames_told}
use Rattle.reply_judge.specs.Idle.{idle_slot}
use Rattle.reply_judge.specs.KnownMachine.{SeenMachine, known_of}
use Rattle.reply_judge.specs.Repeated.{figure_changed}
use Rattle.reply_judge.specs.Seen.{Seen, state_of}
use Rattle.reply_judge.specs.declared.figures.WrongFigure.{WrongFigure}
use Rattle.reply_judge.specs.WrongBytes.{wrong_byte}
use Rattle.reply_judge.specs.WrongReports.{figure_wrong}
use Rattle.reply_judge.specs.declared.wrong_bytes.WrongByte.{WrongByte}
use Rattle.shadow_memory.specs.Left.{left_at}
use Rattle.trace_check.specs.Forms.{◌>>=◌}
use Rattle.trace_check.specs.Gathered.{whole_of}
use Rattle.trace_check.specs.Reasons.{IsReason, IsReasonIn, IsReasonOf, answer_read, frames_wrong, read_wrong, report_changed, report_wrong, slot_idle, still_wrong, table_read, table_wrong}
use Rattle.trace_check.specs.Replies.{answer_of}
use Rattle.trace_check.specs.Tables.{table_of}
use Rattle.trace_check.specs.declared.figure.Figure.{Figure}
use Rattle.trace_check.specs.declared.reason.Reason.{Reason}
use Rattle.trace_check.specs.declared.shown.TheConstants.{MAX_TEXT_BYTES}

-- the reason why a reply breaks a promise other than Form and Refusals is the reason that its answer or its table gives
pub in_reply : (promise : Promise) (w : Known) (event : Event) (answer table : Option Reply) (reason : Option Reason) → (promise ≡ Promise.Form → ⊥) → (promise ≡ Promise.Refusals → ⊥)
    → IsReasonIn promise w event answer table reason → IsReason promise w event answer table reason
in_reply Promise.Form w event answer table reason other-1 other-2 is = absurd (other-1 refl)
in_reply Promise.Refusals w event answer table reason other-1 other-2 is = absurd (other-2 refl)
in_reply promise w event answer table reason other-1 other-2 is = is

-- if the text is an answer, its reason is the reason in the reply
pub answer_gives : (promise : Promise) (w : Known) (event : Event) (text came : List ℕ) (found : Reply) (reason : Option Reason)
    → whole_of MAX_TEXT_BYTES came ≡ Some text → answer_of text ≡ Some found → IsReasonOf promise w event found.body reason
    → IsReasonIn promise w event (answer_read came) (table_read came) reason
answer_gives promise w event text came found reason whole read is =
    let answer : answer_read came ≡ Some found = ap (λ (o : Option (List ℕ)). o >>= answer_of) whole ∙ read in
    subst (λ (o : Option Reply). IsReasonIn promise w event o (table_read came) reason) (sym answer) is

-- if the text is no answer, the reason of the table that it is, if it is one, is the reason in the reply
pub table_gives : (promise : Promise) (w : Known) (event : Event) (text came : List ℕ) (reason : Option Reason)
    → whole_of MAX_TEXT_BYTES came ≡ Some text → answer_of text ≡ None
    → reason ≡ option_map_or (λ told. table_wrong promise w event told.body) (table_of text) None
    → IsReasonIn promise w event (answer_read came) (table_read came) reason
table_gives promise w event text came reason whole read is =
    let answer : answer_read came ≡ None = ap (λ (o : Option (List ℕ)). o >>= answer_of) whole ∙ read in
    let table : table_read came ≡ table_of text = ap (λ (o : Option (List ℕ)). o >>= table_of) whole in
    subst (λ (o : Option Reply). IsReasonIn promise w event o (table_read came) reason) (sym answer)
    (is ∙ ap (λ (o : Option Reply). option_map_or (λ told. table_wrong promise w event told.body) o None) (sym table))

pub none_given : (promise : Promise) (w : Known) (event : Event) (body : Body) → (promise ≡ Promise.Blocks → ⊥) → (promise ≡ Promise.Gives → ⊥)
    → (promise ≡ Promise.Owners → ⊥) → (promise ≡ Promise.Bytes → ⊥)
    → (promise ≡ Promise.Objects → ⊥) → (promise ≡ Promise.Room → ⊥) → (promise ≡ Promise.Busy → ⊥)
    → (promise ≡ Promise.Layout → ⊥) → (promise ≡ Promise.Still → ⊥) → IsReasonOf promise w event body None
none_given Promise.Blocks w event body other-1 other-2 other-3 other-4 other-5 other-6 other-7 other-8 other-9 = absurd (other-1 refl)
none_given Promise.Gives w event body other-1 other-2 other-3 other-4 other-5 other-6 other-7 other-8 other-9 = absurd (other-2 refl)
none_given Promise.Owners w event body other-1 other-2 other-3 other-4 other-5 other-6 other-7 other-8 other-9 = absurd (other-3 refl)
none_given Promise.Bytes w event body other-1 other-2 other-3 other-4 other-5 other-6 other-7 other-8 other-9 = absurd (other-4 refl)
none_given Promise.Objects w event body other-1 other-2 other-3 other-4 other-5 other-6 other-7 other-8 other-9 = absurd (other-5 refl)
none_given Promise.Room w event body other-1 other-2 other-3 other-4 other-5 other-6 other-7 other-8 other-9 = absurd (other-6 refl)
none_given Promise.Busy w event body other-1 other-2 other-3 other-4 other-5 other-6 other-7 other-8 other-9 = absurd (other-7 refl)
none_given Promise.Layout w event body other-1 other-2 other-3 other-4 other-5 other-6 other-7 other-8 other-9 = absurd (other-8 refl)
none_given Promise.Still w event body other-1 other-2 other-3 other-4 other-5 other-6 other-7 other-8 other-9 = absurd (other-9 refl)
none_given promise w event body other-1 other-2 other-3 other-4 other-5 other-6 other-7 other-8 other-9 = refl

-- what is found of a stored tenant is what is found of the tenant's state
pub told_of : {A B : Type 0} (x : SeenMachine) (t : ℕ) (told : A → B) (of_state : State → Option B) (of_seen : Seen → Option A)
    → ((y : Seen) → option_map told (of_seen y) ≡ of_state (state_of y))
    → option_map told (option_map_or of_seen (slice_get x.tenants t) None) ≡ option_map_or of_state (slice_get (known_of x).states t) None
told_of {A} {B} x t told of_state of_seen same = go (slice_get x.tenants t)
    ∙ sym (ap (λ (o : Option State). option_map_or of_state o None) (slice_get-map state_of x.tenants t))
  where
    go : (o : Option Seen) → option_map told (option_map_or of_seen o None) ≡ option_map_or of_state (option_map state_of o) None
    go None = refl
    go (Some y) = same y

-- the slot that the machine finds idle is the reason
pub idle_told : (x : SeenMachine) (t u : ℕ) (found : Option ℕ)
    → found ≡ option_map_or (λ y. idle_slot x.order (state_of y) u) (slice_get x.tenants t) None
    → option_map (λ slot. Reason.Idle slot) found ≡ slot_idle (known_of x) t u
idle_told x t u found is = ap (option_map (λ slot. Reason.Idle slot)) is
    ∙ told_of x t (λ slot. Reason.Idle slot) (λ s. option_map (λ slot. Reason.Idle slot) (idle_slot x.order s u)) (λ y. idle_slot x.order (state_of y) u) (λ y. refl)

-- the caches that a test of the number picks
abbrev asked : Option ℕ → List KnownCache → List KnownCache
asked only = filter (λ c. option_map_or (λ number. c.number == number) only true)

-- the bound that the machine finds for a number of frames is the reason
pub frames_told_wrong : (x : SeenMachine) (t : ℕ) (only : Option ℕ) (frames : ℕ) (found : Option Bound)
    → found ≡ option_map_or (λ y. frames_due x.order (state_of y) (asked only y.has.caches) frames) (slice_get x.tenants t) None
    → option_map (λ bound. Reason.Figure Figure.Frames bound) found ≡ frames_wrong (known_of x) t only frames
frames_told_wrong x t only frames found is = ap (option_map (λ bound. Reason.Figure Figure.Frames bound)) is
    ∙ told_of x t (λ bound. Reason.Figure Figure.Frames bound)
    (λ s. option_map (λ bound. Reason.Figure Figure.Frames bound) (frames_due x.order s (asked only s.has.caches) frames))
    (λ y. frames_due x.order (state_of y) (asked only y.has.caches) frames) (λ y. refl)

-- the number of frames that the machine finds in the last report is the reason
pub frames_still_told : (x : SeenMachine) (t : ℕ) (only : Option ℕ) (found : Option ℕ)
    → found ≡ option_map_or (λ y. frames_told (state_of y) only) (slice_get x.tenants t) None
    → option_map (λ frames. Reason.Figure Figure.Frames (Bound.Exactly frames)) found ≡ still_wrong (known_of x) t only
frames_still_told x t only found is = ap (option_map (λ frames. Reason.Figure Figure.Frames (Bound.Exactly frames))) is
    ∙ told_of x t (λ frames. Reason.Figure Figure.Frames (Bound.Exactly frames))
    (λ s. option_map (λ frames. Reason.Figure Figure.Frames (Bound.Exactly frames)) (frames_told s only))
    (λ y. frames_told (state_of y) only) (λ y. refl)

-- the wrong number that the machine finds in a report is the reason
pub wrong_figure_told : (x : SeenMachine) (t : ℕ) (report : Report) (found : Option WrongFigure)
    → found ≡ option_map_or (λ y. figure_wrong x.order (state_of y).may_have_empty (state_of y).has report) (slice_get x.tenants t) None
    → option_map (λ wrong. Reason.Report wrong) found ≡ report_wrong (known_of x) t report
wrong_figure_told x t report found is = ap (option_map (λ wrong. Reason.Report wrong)) is
    ∙ told_of x t (λ wrong. Reason.Report wrong) (λ s. option_map (λ wrong. Reason.Report wrong) (figure_wrong x.order s.may_have_empty s.has report))
    (λ y. figure_wrong x.order (state_of y).may_have_empty (state_of y).has report) (λ y. refl)

-- the number that the machine finds not repeated in a report is the reason
pub changed_told : (x : SeenMachine) (t : ℕ) (report : Report) (found : Option WrongFigure)
    → found ≡ option_map_or (λ y. figure_changed (state_of y) report) (slice_get x.tenants t) None
    → option_map (λ wrong. Reason.Report wrong) found ≡ report_changed (known_of x) t report
changed_told x t report found is = ap (option_map (λ wrong. Reason.Report wrong)) is
    ∙ told_of x t (λ wrong. Reason.Report wrong) (λ s. option_map (λ wrong. Reason.Report wrong) (figure_changed s report))
    (λ y. figure_changed (state_of y) report) (λ y. refl)

-- the first wrong byte of a read, by the tenant's state
abbrev wrong_in : (place len : ℕ) → List ℕ → State → Option Reason
wrong_in place len bytes s = option_map (λ found. Reason.Wrong found) (wrong_byte s.has s.cells place len bytes)

-- if a read returns as many bytes as it requests, the first wrong byte that the machine finds is the reason
pub wrong_told : (x : SeenMachine) (t place len : ℕ) (bytes : List ℕ) (found : Option WrongByte) → length bytes ≡ len
    → found ≡ option_map_or (λ y. wrong_byte y.has (left_at y.left) place len bytes) (slice_get x.tenants t) None
    → option_map (λ wrong. Reason.Wrong wrong) found ≡ read_wrong (known_of x) t place len bytes
wrong_told x t place len bytes found count is = ap (option_map (λ wrong. Reason.Wrong wrong)) is ∙ go (slice_get x.tenants t)
    ∙ sym (ap (λ (o : Option State). option_map_or (wrong_in place len bytes) o None) (slice_get-map state_of x.tenants t))
    ∙ sym (ap (λ (b : Bool). if b then option_map_or (wrong_in place len bytes) (slice_get (known_of x).states t) None else Some (Reason.Count len)) (eq-eqb (length bytes) len count))
  where
    go : (o : Option Seen) → option_map (λ wrong. Reason.Wrong wrong) (option_map_or (λ y. wrong_byte y.has (left_at y.left) place len bytes) o None)
        ≡ option_map_or (wrong_in place len bytes) (option_map state_of o) None
    go None = refl
    go (Some y) = refl
