-- Texts that are written one after another.
use Rattle.std.proofs.Common.{◌≡◌, List, ℕ, ◌++◌, Option, Result, Ok, Err, OnOk, subst}
use Rattle.std.proofs.KnownBytes.{Appends-kept, Appends-trans}
use Rattle.std.specs.Io.KnownBytes.{Appends, Keeps}
use Rattle.trace_check.specs.declared.finding.Finding.{Finding}
use Rattle.trace_check.specs.declared.finding.Finding.TheVariants.{Kept, Broken}
use Rattle.trace_check.specs.declared.shown.Shown.{Shown}
use Rattle.partcheck.specs.Telling.{AppendsFinding, breach_text, kept_text}

-- `Appends` as a record, from which a proof can infer the texts
pub record HasText (old new : Option (List ℕ)) (text : List ℕ) : Type 0 where
  pub appended : Appends old new text

pub first_text : (a b : Option (List ℕ)) (text : List ℕ) → Appends a b text → HasText a b text
first_text a b text h = record { appended = h }

-- if `front` was appended and then `text`, `front ++ text` was appended
pub then_text : {a b : Option (List ℕ)} {front : List ℕ} (c : Option (List ℕ)) (text : List ℕ) → HasText a b front → Appends b c text
    → HasText a c (front ++ text)
then_text {a} {b} {front} c text first last = record { appended = Appends-trans a b c front text first.appended last }

-- let `whole` be `front ++ text`: if `front` was appended and then the write of `text` succeeds, `whole` was appended
pub last_text : {E : Type 0} {a b : Option (List ℕ)} {front : List ℕ} (c : Option (List ℕ)) (r : Result (Unit {0}) E) (text whole : List ℕ)
    → HasText a b front → OnOk r (Appends b c text) → front ++ text ≡ whole → OnOk r (Appends a c whole)
last_text {E} {a} {b} {front} c (Ok x) text whole first last is = subst (Appends a c) is (Appends-trans a b c front text first.appended last)
last_text c (Err e) text whole first last is = tt

-- let `whole` be equal to `text`: if a single write of `text` succeeds, `whole` was appended
pub only_text : {E : Type 0} (a b : Option (List ℕ)) (r : Result (Unit {0}) E) (text whole : List ℕ) → OnOk r (Appends a b text) → text ≡ whole
    → OnOk r (Appends a b whole)
only_text a b (Ok x) text whole appended is = subst (Appends a b) is appended
only_text a b (Err e) text whole appended is = tt

-- if the success of a call implies a fact for each single pair of texts that was read, it implies the fact for all these pairs
pub each_read : {E : Type 0} (r : Result (Unit {0}) E) (WasRead Is : List ℕ → List ℕ → Type 0)
    → ((trace_text reply_text : List ℕ) → WasRead trace_text reply_text → OnOk r (Is trace_text reply_text)) → OnOk r ((trace_text reply_text : List ℕ) → WasRead trace_text reply_text → Is trace_text reply_text)
each_read (Ok x) WasRead Is each = each
each_read (Err e) WasRead Is each = tt

-- if the line of a finding was appended and the bytes are kept after that, the line is still appended
finding_kept : (finding : Finding) (shown : Shown) (tenants : ℕ) (a b c : Option (List ℕ)) → AppendsFinding finding shown tenants a b → Keeps b c
    → AppendsFinding finding shown tenants a c
finding_kept (Kept lines) shown tenants a b c appended kept = Appends-kept a b c (kept_text lines tenants) appended kept
finding_kept (Broken breach) shown tenants a b c appended kept =
    λ trace_text reply_text read. Appends-kept a b c (breach_text breach trace_text reply_text shown.reason) (appended trace_text reply_text read) kept

pub finding_flushed : {E : Type 0} (finding : Finding) (shown : Shown) (tenants : ℕ) (a b c : Option (List ℕ)) (r : Result (Unit {0}) E)
    → AppendsFinding finding shown tenants a b → Keeps b c → OnOk r (AppendsFinding finding shown tenants a c)
finding_flushed finding shown tenants a b c (Ok x) appended kept = finding_kept finding shown tenants a b c appended kept
finding_flushed finding shown tenants a b c (Err e) appended kept = tt
