-- The status of an alloc or a take, and the bytes that it lends, agree with the numbers of its reply. The bytes that a lookup
-- lends are those of its span.
use Rattle.std.proofs.Common.{◌≡◌, ℕ, ◌*◌, ◌/◌, ◌^◌, Some, None, Result, Ok, Err, IfOk, sym, ap, ◌∙◌, subst}
use Rattle.model_core.specs.declared.limits.TheConstants.{FRAME_BYTES}
use Rattle.words_core.specs.declared.reply.Refusal.{Refusal}
use Rattle.kernel_core.specs.declared.lending.Span.{Span}
use Rattle.kernel_core.specs.Content.{KernelContent}
use Rattle.kernel_core.specs.Lookups.{RangeAt, PageAround, ObjectAt, FoundHolder, FoundRange, range_in, page_in, object_of, AnswersLookup}
use Rattle.partmem_c.specs.declared.lent.Lent.{Lent}
use Rattle.partmem_c.specs.Calls.{numbers_in_reply, call_status}
use Rattle.partmem_c.specs.Finding.{Returns}
use Rattle.partmem_c.specs.Lends.{no_lent, lent_range, lent_page, lent_object, IsLentAt, IsBlockLent, IsObjectLent, alloc_reply, take_reply}

pub block_returned : (k : KernelContent) (t order : ℕ) (outcome : Result Lent Refusal) (status : ℕ) (lent : Lent) → Returns no_lent outcome status lent
    → IfOk outcome (λ b. IsLentAt t (FRAME_BYTES * (b.place / FRAME_BYTES)) (FRAME_BYTES * 2 ^ order) b)
    → (status ≡ call_status (numbers_in_reply (Some (alloc_reply k t outcome)))) × IsBlockLent t order (numbers_in_reply (Some (alloc_reply k t outcome))) lent
block_returned k t order (Ok b) status lent returned is =
    (returned.0, subst (λ (l : Lent). IsLentAt t (FRAME_BYTES * (b.place / FRAME_BYTES)) (FRAME_BYTES * 2 ^ order) l) (sym returned.1) is)
block_returned k t order (Err refusal) status lent returned is = (returned.0, returned.1)

pub object_returned : (k : KernelContent) (t : ℕ) (outcome : Result Lent Refusal) (status : ℕ) (lent : Lent) → Returns no_lent outcome status lent
    → IfOk outcome (λ b. IsLentAt t b.place b.bytes b)
    → (status ≡ call_status (numbers_in_reply (Some (take_reply k t outcome)))) × IsObjectLent t (numbers_in_reply (Some (take_reply k t outcome))) lent
object_returned k t (Ok b) status lent returned is =
    (returned.0, subst (λ (l : Lent). IsLentAt t b.place l.bytes l) (sym returned.1) is)
object_returned k t (Err refusal) status lent returned is = (returned.0, returned.1)

-- Lent bytes have the place and the number of the span that was looked up

module _ (k : KernelContent) (t : ℕ) (span : Span) (lent : Lent) (is : IsLentAt span.tenant span.place span.bytes lent) where
  pub range_is : (place len : ℕ) → AnswersLookup k t (RangeAt place len) (range_in span) → AnswersLookup k t (RangeAt place len) (lent_range lent)
  range_is place len answers =
      subst (λ o. AnswersLookup k t (RangeAt place len) o)
      (ap (λ n. FoundRange n span.bytes) (sym is.begins) ∙ ap (λ n. FoundRange lent.place n) (sym is.counted)) answers

  pub page_is : (place : ℕ) → AnswersLookup k t (PageAround place) (page_in span) → AnswersLookup k t (PageAround place) (lent_page lent)
  page_is place answers =
      subst (λ o. AnswersLookup k t (PageAround place) o)
      (ap (λ n. FoundHolder (record { cache = None; place = n; bytes = span.bytes })) (sym is.begins)
      ∙ ap (λ n. FoundHolder (record { cache = None; place = lent.place; bytes = n })) (sym is.counted)) answers

  pub object_is : (c place : ℕ) → AnswersLookup k t (ObjectAt c place) (object_of c span) → AnswersLookup k t (ObjectAt c place) (lent_object c lent)
  object_is c place answers =
      subst (λ o. AnswersLookup k t (ObjectAt c place) o)
      (ap (λ n. FoundHolder (record { cache = Some c; place = n; bytes = span.bytes })) (sym is.begins)
      ∙ ap (λ n. FoundHolder (record { cache = Some c; place = lent.place; bytes = n })) (sym is.counted)) answers
