use Rattle.std.proofs.Common.{◌≡◌, ◌∙◌, Bool, true, ap, ap₂, codes}
use Rattle.std.proofs.lemmas.Result.{IfOk-weaker}
use Rattle.clap.specs.Words.{Rule, rule_of, with_rule}
use Rattle.clap.specs.declared.builder.arg.Arg.{Arg}
use Rattle.partcheck.specs.Settings.{file_rule}
use Rattle.partcheck.proofs.words.command.Goals as goal

abbrev is_global : Arg → Bool
is_global a = a.global

pub returns : goal.returns
returns c =
    let trace : rule_of c.required-trace.result ≡ file_rule (codes "TRACE") =
    ap rule_of c.required-trace.ensures ∙ ap (λ (r : Rule). record r { required = true }) c.positional.ensures.rule in
    let replies : rule_of c.required-replies.result ≡ file_rule (codes "REPLIES") =
    ap rule_of c.required-replies.ensures ∙ ap (λ (r : Rule). record r { required = true }) c.positional-2.ensures.rule in
    let one = c.in_ok-arg.ensures.shape (ap is_global c.required-trace.ensures ∙ c.positional.ensures.local) ∙ ap₂ with_rule c.in_ok-sizes_command.ensures trace in
    IfOk-weaker c.arg-2.result _ _
    (λ command adds. adds.shape (ap is_global c.required-replies.ensures ∙ c.positional-2.ensures.local) ∙ ap₂ with_rule one replies)
    c.arg-2.ensures
