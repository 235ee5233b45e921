-- A call for one tenant does the step of a command of this tenant, and the call's result gives the body of the reply.
use Rattle.std.proofs.Common.{◌≡◌, ℕ, true, false, Option, Some, None, Result, Ok, Err, IfNone, refl, sym, ap, ◌∙◌, subst}
use Rattle.std.specs.Prelude.{OnErr, IsErrAnd}
use Rattle.std.proofs.lemmas.Result.{err_from_is_err_and}
use Rattle.std.proofs.lemmas.Bool.{both_ways}
use Rattle.model_core.specs.Machine.{Machine}
use Rattle.model_core.specs.Operations.{Step}
use Rattle.space_core.specs.Content as spaces
use Rattle.buddy_core.specs.Content as buddies
use Rattle.slab_tables.specs.Content as tables
use Rattle.machine_changes.specs.Keeps.{Spares}
use Rattle.layout_core.specs.Cut.{Cut, cut, numbers_of}
use Rattle.words_core.specs.declared.event.Command.{Command}
use Rattle.words_core.specs.declared.reply.Body.{Body}
use Rattle.words_core.specs.declared.reply.Body.TheVariants.{Refused}
use Rattle.words_core.specs.declared.reply.Body.TheVariants as Say
use Rattle.words_core.specs.declared.reply.Refusal.{Refusal}
use Rattle.words_core.specs.declared.report.Report as figures
use Rattle.world_core.specs.Limits.{cache_limit}
use Rattle.world_core.specs.OwnList.{is_refused}
use Rattle.world_core.specs.PrivateStep.{command_step, with_body, cache_body, figures_of, report_step}
use Rattle.kernel_core.specs.Content.{KernelContent, content_of}
use Rattle.kernel_core.specs.Shows.{ShowsMachine}
use Rattle.kernel_core.specs.Does.{Does}
use Rattle.kernel_core.proofs.CallEffects.{does_called, does_nothing, same_of}
use Rattle.kernel_core.specs.Steps.{StepsMachine, body_of}

-- if a call does the command's step, keeps all owners, and changes nothing when it is refused, it runs the command
-- (`StepsMachine`)
pub commanded : {A : Type 0} (k k' : KernelContent) (t : ℕ) (command : Command) (body : A → Body) (step : Machine → Step A) (told : A)
    → ((m : Machine) → command_step cache_limit k.order command m ≡ with_body body (step m))
    → Does k t step k.space.owners k' told → (is_refused (body told) ≡ true → k' ≡ k) → StepsMachine k t command k' (body told)
commanded k k' t command body step told same does refused = record {
  does = record {
    sizes = does.sizes;
    shows = λ m shown. subst (λ (x : Step Body). ShowsMachine k' t x.machine) (sym (same m)) (does.shows m shown);
    answer = λ m shown. ap body (does.answer m shown) ∙ sym (ap (λ (x : Step Body). x.answer) (same m));
    others = does.others;
    owners = does.owners;
    marks = does.marks;
    spare = does.spare;
  };
  refused = refused;
}

-- Suppose that a call changes nothing that other tenants have, and nothing at all when it is refused. If the call does the
-- command's step, it runs the command (`StepsMachine`).
pub called : {A : Type 0} (r r' : spaces.Content) (b b' : buddies.Content) (s s' : tables.Content) (t : ℕ) → Spares t r r' b b' s s'
    → (command : Command) (body : A → Body) (step : Machine → Step A) (told : A)
    → ((m : Machine) → command_step cache_limit b.top command m ≡ with_body body (step m))
    → ((m : Machine) → ShowsMachine (content_of r b s) t m → told ≡ (step m).answer)
    → ((m : Machine) → ShowsMachine (content_of r b s) t m → ShowsMachine (content_of r' b' s') t (step m).machine)
    → (is_refused (body told) ≡ true → (r' ≡ r) × ((b' ≡ b) × (s' ≡ s)))
    → StepsMachine (content_of r b s) t command (content_of r' b' s') (body told)
called r r' b b' s s' t spares command body step told same answer shows refused =
    commanded (content_of r b s) (content_of r' b' s') t command body step told same (does_called r r' b b' s s' t spares step told answer shows)
    (λ is. same_of r r' b b' s s' (refused is))

-- if P holds after an error, and only an error gives a refusal, P holds after a refusal
pub by_err : {A E P : Type 0} (body : Result A E → Body) (x : Result A E) → ((a : A) → is_refused (body (Ok a)) ≡ false) → OnErr x P → is_refused (body x) ≡ true → P
by_err body (Ok a) done same is = absurd (both_ways (is_refused (body (Ok a))) (done a) is)
by_err body (Err e) done same is = same

pub by_none : {A P : Type 0} (body : Option A → Body) (x : Option A) → ((a : A) → is_refused (body (Some a)) ≡ false) → IfNone x P → is_refused (body x) ≡ true → P
by_none body (Some a) done same is = absurd (both_ways (is_refused (body (Some a))) (done a) is)
by_none body None done same is = same

-- if a call fails with a refusal, the body of the reply is this refusal
pub passed : {A E : Type 0} (told : A → Body) (refusal : E → Refusal) (e : E) (y : Result A Refusal) → IsErrAnd y (λ r. r ≡ refusal e)
    → body_of told y ≡ Refused (refusal e)
passed told refusal e y is = let found = err_from_is_err_and y is in ap (body_of told) found.1 ∙ ap (λ r. Refused r) found.2

-- Suppose that a command changes no machine that the kernel shows for tenant t. Then a call that changes nothing runs this
-- command if the call returns the command's answer.
pub answered : (k : KernelContent) (t : ℕ) (command : Command) (body : Body)
    → ((m : Machine) → ShowsMachine k t m → command_step cache_limit k.order command m ≡ record { answer = body; machine = m }) → StepsMachine k t command k body
answered k t command body same = record { does = does_nothing k t (command_step cache_limit k.order command) body same; refused = λ _. refl }

-- if a call changes nothing and returns the figures of the tenant's machine, it runs the command `report`
pub reported : (k : KernelContent) (t : ℕ) (told : figures.Report) → ((m : Machine) → ShowsMachine k t m → told ≡ figures_of k.order m)
    → StepsMachine k t Command.Report k (Say.Report told)
unfolding command_step report_step
reported k t told are =
    answered k t Command.Report (Say.Report told) (λ m shown. ap (λ r. record { answer = Say.Report r; machine = m }) (sym (are m shown)))

-- if chunk, order, count and colours come from the layout for this size and alignment, the reply for the new cache has these
-- values
pub made : (size align number chunk order count colours : ℕ) (l : Cut) → l ≡ cut size align
    → chunk ≡ (numbers_of l).chunk → order ≡ (numbers_of l).order → count ≡ (numbers_of l).count → colours ≡ (numbers_of l).colours
    → cache_body size align (Ok number) ≡ Say.Cache number chunk order count colours
made size align number chunk order count colours l is chunk_is order_is count_is colours_is =
    rw (chunk_is, order_is, count_is, colours_is, is) refl
