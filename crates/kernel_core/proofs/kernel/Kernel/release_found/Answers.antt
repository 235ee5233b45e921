use Rattle.std.proofs.Common.{Err, ap, ◌∙◌}
use Rattle.std.proofs.lemmas.Result.{err_from_is_err_and}
use Rattle.kernel_core.specs.Stores.{IsKernel}
use Rattle.kernel_core.proofs.Releases.{none_found, page_refused, object_refused, object_inside, object_of_size, page_not_refused, object_not_refused}
use Rattle.kernel_core.proofs.kernel.Kernel.release_found.Goals as goal
use Rattle.kernel_core.proofs.kernel.Kernel.release_found.Goals.{then-holder-place-2-via-then-holder-place-2, then-holder-place-2-via-else-holder-place-2+then-size_for-holder}
use Rattle.kernel_core.proofs.kernel.Kernel.release_found.Goals.{After-holder_of}

kernel : (c : After-holder_of) → IsKernel c.args.self.now
kernel c = record { agree = c.laws.ensures.agree; together = c.laws.ensures.together }

pub returns-in_default : goal.returns-in_default
returns-in_default c =
    let x = c.args in
    none_found x.self.now x.t x.place x.sizes.now (kernel (goal.at.returns-in_default c).After-holder_of) c.requires c.in_default.ensures

pub returns-then-holder-place : goal.returns-then-holder-place
returns-then-holder-place c =
    let x = c.args in
    page_refused x.self.now x.t x.place x.sizes.now (kernel (goal.at.returns-then-holder-place c).After-holder_of) c.requires c.in-Some.holder c.in-Some.ensures
    c.in-None.is c.if-holder-place.true

pub returns-in_err-free-in-None : goal.returns-in_err-free-in-None
returns-in_err-free-in-None c =
    let x = c.args in
    let told = err_from_is_err_and c.from_residual.result c.from_residual.ensures.1 in
    rw (told.1 ∙ ap Err told.2)
    (page_not_refused x.self.now x.t x.place x.sizes.now (kernel (goal.at.returns-in_err-free-in-None c).After-holder_of) c.requires c.in-Some.holder c.in-Some.ensures
    c.free.new.self c.in_err-free-in-None.field-0.0 c.in-None.is c.if-holder-place.false c.in_err-free-in-None.ensures)

pub returns-then-holder-place-2 : goal.returns-then-holder-place-2
returns-then-holder-place-2 c =
    let x = c.args in
    let h = c.in-Some.holder in
    let cache = c.in-Some-cache.cache in
    object_refused x.self.now x.t x.place x.sizes.now (kernel (goal.at.returns-then-holder-place-2 c).After-holder_of) c.requires h c.in-Some.ensures
    cache c.in-Some-cache.is
    (elim c.then-holder-place-2.branch [
      | then-holder-place-2-via-then-holder-place-2 w ↦ object_inside x.sizes.now x.place cache h.place h.bytes w.if-holder-place-2.true
      | then-holder-place-2-via-else-holder-place-2+then-size_for-holder w ↦
          object_of_size x.sizes.now x.place cache h.place h.bytes (λ same. w.if-size_for-holder.true (w.size_for.ensures ∙ same))
    ])

pub returns-in_err-give-in-Some-cache : goal.returns-in_err-give-in-Some-cache
returns-in_err-give-in-Some-cache c =
    let x = c.args in
    let told = err_from_is_err_and c.from_residual-in_err-give-in-Some-cache.result c.from_residual-in_err-give-in-Some-cache.ensures.1 in
    rw (told.1 ∙ ap Err told.2)
    (object_not_refused x.self.now x.t x.place x.sizes.now (kernel (goal.at.returns-in_err-give-in-Some-cache c).After-holder_of) c.requires c.in-Some.holder c.in-Some.ensures
    c.give.new.self c.in-Some-cache.cache c.in_err-give-in-Some-cache.field-0.0 c.in-Some-cache.is c.if-holder-place-2.false c.in_err-give-in-Some-cache.ensures)
