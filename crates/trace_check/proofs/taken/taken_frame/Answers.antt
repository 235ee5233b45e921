use Rattle.std.proofs.Common.{◌≡◌, ◌∙◌, Some, None, max, ap, rules, subst, sym}
use Rattle.std.specs.Prelude.{find, slice_get}
use Rattle.std.specs.Option.{option_map_or}
use Rattle.model_core.specs.Blocks.{block}
use Rattle.model_core.specs.Operations.{overlaps}
use Rattle.words_core.specs.Requests.{body_of_answer}
use Rattle.words_core.specs.declared.reply.Body.{Body}
use Rattle.words_core.specs.declared.event.Command.{Command}
use Rattle.words_core.specs.declared.event.Event.{Event}
use Rattle.trace_check.specs.Taken.{IsFirstShared}
use Rattle.trace_check.proofs.TakenLemmas.{same_alloc, same_frame, way_first}
use Rattle.trace_check.proofs.taken.taken_frame.Goals as goal

pub returns-in_ok-page-in-Tenant-default-Alloc-Frame-clause-frame : goal.returns-in_ok-page-in-Tenant-default-Alloc-Frame-clause-frame
returns-in_ok-page-in-Tenant-default-Alloc-Frame-clause-frame c t k f trace_text said =
    let it = c.in-Tenant-default-Alloc-Frame in
    let page = c.in_ok-page-in-Tenant-default-Alloc-Frame.page in
    let event : c.args.event.now ≡ Event.Tenant it.tenant (Command.Alloc it.order) = search rules in
    let answer : body_of_answer c.args.answer.now ≡ Body.Frame it.frame = search rules in
    let order : k ≡ it.order = same_alloc t it.tenant k it.order (sym trace_text ∙ event) in
    let frame : f ≡ it.frame = same_frame f it.frame (sym said ∙ answer) in
    let given : c.new.result ≡ block it.frame it.order = search rules in
    let found : option_map_or (λ y. find (overlaps c.new.result) y.has.pages) (slice_get c.args.machine.now.tenants it.tenant) None ≡ Some page =
    sym c.in_ok-page-in-Tenant-default-Alloc-Frame.ensures in
    let first : c.max.result ≡ max page.first it.frame = c.max.ensures ∙ ap (λ n. max n it.frame) c.first.ensures in
    rw (order, frame, first) (subst (λ b. IsFirstShared b page (max page.first b.first)) given (way_first c.new.result _ page found))
