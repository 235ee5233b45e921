-- A finding on a new machine is sound, and its breach is shown.
use Rattle.std.proofs.Common.{◌≡◌, ℕ, List, ◌++◌, Some, Result, Ok, Err, IfOk, refl, subst, sym}
use Rattle.model_core.specs.declared.config.Config.{Config}
use Rattle.model_core.specs.declared.limits.TheConstants.{MAX_CACHES}
use Rattle.trace_check.specs.declared.finding.Breach.{Breach}
use Rattle.trace_check.specs.declared.finding.Finding.{Finding}
use Rattle.trace_check.specs.declared.finding.Finding.TheVariants.{Kept, Broken}
use Rattle.trace_check.specs.declared.finding.Unchecked.{Unchecked}
use Rattle.trace_check.specs.declared.shown.Shown.{Shown}
use Rattle.trace_check.specs.declared.shown.TheConstants.{MAX_PART_BYTES, MAX_TEXT_BYTES}
use Rattle.trace_check.specs.Checking.{HasRead, ShowsFinding}
use Rattle.trace_check.specs.Finding.{finding_of}
use Rattle.trace_check.specs.Gathered.{Gathers}
use Rattle.trace_check.specs.Laws.{BrokenIsNotAllowed, KeptIsAllowed}
use Rattle.trace_check.specs.Reading.{HasGiven, Source, WhateverFollows}
use Rattle.trace_check.proofs.ReadingLemmas.{known_rest}
use Rattle.promise_core.specs.State.{Known}
use Rattle.partcheck.specs.Checked.{IsFindingOf, IsSoundFinding, opening_of}

pub sound : KeptIsAllowed → BrokenIsNotAllowed → (config : Config) (finding : Finding) (trace_text reply_text : List ℕ)
    → finding ≡ finding_of (opening_of config) trace_text reply_text → IsSoundFinding config finding trace_text reply_text
sound kept broken config (Kept lines) trace_text reply_text is = kept MAX_CACHES config.order config.superblocks config.tenants lines trace_text reply_text (sym is)
sound kept broken config (Broken breach) trace_text reply_text is = broken MAX_CACHES config.order config.superblocks config.tenants trace_text reply_text breach (sym is)

pub finds : KeptIsAllowed → BrokenIsNotAllowed → (config : Config) (finding : Finding) (trace_text reply_text : List ℕ)
    → finding ≡ finding_of (opening_of config) trace_text reply_text → IsFindingOf config finding trace_text reply_text
finds kept broken config finding trace_text reply_text is = (is, sound kept broken config finding trace_text reply_text is)

-- Let a property be true of any trace and replies that begin with the bytes that were read. If the trace and the replies are
-- known, the property is true of them.
pub known_texts : {trace trace' replies replies' : Source} {trace_text reply_text : List ℕ} (IsSo : List ℕ → List ℕ → Type 0) → HasGiven trace trace' trace_text
    → HasGiven replies replies' reply_text → WhateverFollows trace' replies' trace_text reply_text IsSo → (whole answers : List ℕ) → trace.left ≡ Some whole
    → replies.left ≡ Some answers → IsSo whole answers
known_texts {reply_text = reply_text} IsSo asks tells so whole answers whole_is answers_is =
    let (more, same, may) = known_rest asks whole whole_is in
    let (later, alike, might) = known_rest tells answers answers_is in
    subst (λ xs. IsSo whole xs) (sym alike) (subst (λ xs. IsSo xs (reply_text ++ later)) (sym same) (so more later may might))

-- If `shown` keeps its line and its reply, it still shows the finding. A property of a breach can be replaced by one that follows
-- from it.
pub still_shown : (w : Known) (finding : Finding) (trace_text reply_text : List ℕ) (old new : Shown) (Also So : Breach → List ℕ → List ℕ → Known → Type 0)
    → new.line ≡ old.line → new.reply ≡ old.reply
    → ((breach : Breach) (line reply : List ℕ) (now : Known) → finding ≡ Broken breach → HasRead line reply old → Also breach line reply now → So breach line reply now)
    → ShowsFinding w finding trace_text reply_text old Also → ShowsFinding w finding trace_text reply_text new So
still_shown w (Kept lines) trace_text reply_text old new Also So line_is reply_is follows shows = tt
still_shown w (Broken breach) trace_text reply_text old new Also So line_is reply_is follows (line, reply, now, is, read, also) = (
  line,
  reply,
  now,
  is,
  record {
    line = subst (λ text. Gathers MAX_PART_BYTES line text) (sym line_is) read.line;
    reply = subst (λ text. Gathers MAX_TEXT_BYTES reply text) (sym reply_is) read.reply;
  },
  follows breach line reply now refl read also,
)

-- a property of a finding can be replaced by one that follows from it
pub found_so : (found : Result Finding Unchecked) (P Q : Finding → Type 0) → ((finding : Finding) → found ≡ Ok finding → P finding → Q finding)
    → IfOk found P → IfOk found Q
found_so (Ok finding) P Q follows so = follows finding refl so
found_so (Err why) P Q follows so = tt
