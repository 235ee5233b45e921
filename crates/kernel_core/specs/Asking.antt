-- The kernel after a request, once the borrow of the answer's bytes has ended.
use Rattle.std.specs.Prelude.{◌≡◌, ℕ, Option, MatchOption}
use Rattle.std.specs.Borrow.{Fml, MutBor}
use Rattle.std.specs.Io.BufRead.{Rests}
use Rattle.words_core.specs.Requests.{command_of, body_of_answer, reply_of_answer}
use Rattle.words_core.specs.declared.reply.Addressee.{Addressee}
use Rattle.words_core.specs.declared.answer.Answer.{Answer}
use Rattle.words_core.specs.declared.reply.Body.{Body}
use Rattle.words_core.specs.declared.event.Event.{Event}
use Rattle.words_core.specs.declared.reply.Refusal.{Refusal}
use Rattle.words_core.specs.declared.event.Request.{Request}
use Rattle.kernel_core.specs.Content.{KernelContent, PartsAgree}
use Rattle.kernel_core.specs.Steps.{Steps, StepsMachine}
use Rattle.kernel_core.specs.contracts.kernel.Kernel.{the_row}

-- The request was a step of the machine of tenant t, with this answer. If the parts of the kernel agreed before the request, they
-- agree after it.
pub record HasStepped (before : KernelContent) (t : ℕ) (request : Request) (answer : Answer) (after : KernelContent) : Type 0 where
  pub steps : StepsMachine before t (command_of request) after (body_of_answer answer)
  pub agree : PartsAgree before → PartsAgree after

abbrev pub RestsStepped : MutBor KernelContent → ℕ → Request → Answer → Fml
RestsStepped kernel t request answer = Rests the_row kernel (HasStepped kernel.now t request answer)

-- the request of tenant t was a step of the world, and the reply has this answer
abbrev pub RestsRequestedKnown : MutBor KernelContent → ℕ → Request → Answer → Fml
RestsRequestedKnown kernel t request answer =
    Rests the_row kernel (λ after. Steps kernel.now (Event.Tenant t (command_of request)) after (reply_of_answer t answer))

-- If there is an answer, it is for this tenant, the tenant's request was a step of the world, and the reply has this answer. If
-- there is no answer, the request was refused with `NoTenant`, and the reply is addressed to nobody.
abbrev pub HasAsked : KernelContent → ℕ → Request → Option (ℕ × Answer) → KernelContent → Type 0
HasAsked before tenant request result after = MatchOption result
    (Steps before (Event.Tenant tenant (command_of request)) after (record { addressee = Addressee.Nobody; body = Body.Refused Refusal.NoTenant }))
    (λ answer. (answer.0 ≡ tenant) × Steps before (Event.Tenant tenant (command_of request)) after (reply_of_answer tenant answer.1))

abbrev pub RestsRequested : MutBor KernelContent → ℕ → Request → Option (ℕ × Answer) → Fml
RestsRequested kernel tenant request result = Rests the_row kernel (HasAsked kernel.now tenant request result)
