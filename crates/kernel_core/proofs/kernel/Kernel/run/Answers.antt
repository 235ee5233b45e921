use Rattle.std.proofs.Common.{◌≡◌, ℕ, false, refl}
use Rattle.words_core.specs.Requests.{command_of, body_of_answer, HasFewBytes, asks_bytes, has_bytes}
use Rattle.words_core.specs.declared.answer.Answer.{Answer}
use Rattle.words_core.specs.declared.event.Request.{Request}
use Rattle.kernel_core.specs.Content.{KernelContent}
use Rattle.kernel_core.specs.Steps.{StepsMachine}
use Rattle.kernel_core.proofs.kernel.Kernel.run.Goals as goal

-- The call did the step of the command on the tenant's machine. The answer has at most `MAX_BYTES` bytes, and no bytes if the
-- command does not request bytes.
abbrev IsRun : KernelContent → ℕ → Request → KernelContent → Answer → Type 0
IsRun k t request k' answer =
    StepsMachine k t (command_of request) k' (body_of_answer answer) × (HasFewBytes answer × (asks_bytes request ≡ false → has_bytes answer ≡ false))

pub returns : goal.returns
returns c =
    let run : IsRun c.args.self.now c.args.t c.args.request c.match-request.self c.match-request.answer = elim c.match-request.branch [
      | goal.in-Alloc+in-Ok w ↦ rw (w.in-Alloc.is, w.answer-is, w.self-is) (w.in-Ok.ensures.steps, (tt, λ _. refl))
      | goal.in-Alloc+in-Err w ↦ rw (w.in-Alloc.is, w.answer-is, w.self-is) (w.in-Err.ensures.steps, (tt, λ _. refl))
      | goal.in-Free+in-Ok-free w ↦ rw (w.in-Free.is, w.answer-is, w.self-is) (w.in-Ok-free.ensures, (tt, λ _. refl))
      | goal.in-Free+in-Err-free w ↦ rw (w.in-Free.is, w.answer-is, w.self-is) (w.in-Err-free.ensures, (tt, λ _. refl))
      | goal.in-Write+in-Ok-write w ↦ rw (w.in-Write.is, w.answer-is, w.self-is) (w.in-Ok-write.ensures.steps, (tt, λ _. refl))
      | goal.in-Write+in-Err-write w ↦ rw (w.in-Write.is, w.answer-is, w.self-is) (w.in-Err-write.ensures.steps, (tt, λ _. refl))
      | goal.in-Cache+in-Ok-make_cache w ↦ rw (w.in-Cache.is, w.answer-is, w.self-is) (w.in-Ok-make_cache.ensures.steps, (w.in-Ok-make_cache.ensures.few, λ _. w.in-Ok-make_cache.ensures.bytes))
      | goal.in-Cache+in-Err-make_cache w ↦ rw (w.in-Cache.is, w.answer-is, w.self-is) (w.in-Err-make_cache.ensures.steps, (tt, λ _. refl))
      | goal.in-Destroy+in-Ok-destroy w ↦ rw (w.in-Destroy.is, w.answer-is, w.self-is) (w.in-Ok-destroy.ensures, (tt, λ _. refl))
      | goal.in-Destroy+in-Err-destroy w ↦ rw (w.in-Destroy.is, w.answer-is, w.self-is) (w.in-Err-destroy.ensures, (tt, λ _. refl))
      | goal.in-Take+in-Ok-take w ↦ rw (w.in-Take.is, w.answer-is, w.self-is) (w.in-Ok-take.ensures.steps, (tt, λ _. refl))
      | goal.in-Take+in-Err-take w ↦ rw (w.in-Take.is, w.answer-is, w.self-is) (w.in-Err-take.ensures.steps, (tt, λ _. refl))
      | goal.in-Give+in-Ok-give w ↦ rw (w.in-Give.is, w.answer-is, w.self-is) (w.in-Ok-give.ensures, (tt, λ _. refl))
      | goal.in-Give+in-Err-give w ↦ rw (w.in-Give.is, w.answer-is, w.self-is) (w.in-Err-give.ensures, (tt, λ _. refl))
      | goal.in-Reap w ↦ rw (w.in-Reap.is, w.answer-is, w.self-is) (w.reap.ensures, (tt, λ _. refl))
    ] in (
      (refl, λ _. tt, record { steps = run.0; agree = λ _. c.parts_agree.ensures }),
      record { steps = tt; few = run.1.0; bytes = run.1.1 },
    )
