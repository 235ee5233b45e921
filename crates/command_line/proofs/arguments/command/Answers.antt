use Rattle.std.proofs.Common.{◌≡◌, ◌∙◌, Bool, ap, ap₂, false, codes}
use Rattle.std.proofs.lemmas.Result.{IfOk-weaker}
use Rattle.clap.specs.Words.{Rule, rule_of, with_rule}
use Rattle.clap.specs.declared.builder.arg.Arg.{Arg}
use Rattle.command_line.specs.Arguments.{number_rule}
use Rattle.command_line.proofs.arguments.command.Goals as goal

abbrev is_global : Arg → Bool
is_global a = a.global

pub returns : goal.returns
returns c =
    let only : rule_of c.required.result ≡ record (number_rule (codes "only") 0 4294967295) { required = false } =
    ap rule_of c.required.ensures ∙ ap (λ (r : Rule). record r { required = false }) (ap rule_of c.help.ensures ∙ c.number.ensures.rule) in
    IfOk-weaker c.arg.result _ _
    (λ command adds. adds.shape (ap is_global c.required.ensures ∙ ap is_global c.help.ensures ∙ c.number.ensures.local)
    ∙ ap₂ with_rule c.in_ok-sizes_command.ensures only)
    c.arg.ensures
