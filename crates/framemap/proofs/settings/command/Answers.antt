use Rattle.std.proofs.Common.{◌≡◌, ◌∙◌, Bool, false, ap, ap₂, Some, codes}
use Rattle.std.proofs.lemmas.Result.{IfOk-weaker}
use Rattle.clap.specs.Words.{Rule, rule_of, with_rule}
use Rattle.clap.specs.declared.builder.action.ArgAction.TheVariants.{SetTrue}
use Rattle.clap.specs.declared.builder.arg.Arg.{Arg}
use Rattle.framemap.specs.Settings.{columns_rule, figures_rule}
use Rattle.framemap.proofs.settings.command.Goals as goal

abbrev is_global : Arg → Bool
is_global a = a.global

pub returns : goal.returns
returns c =
    let figures : rule_of c.action.result ≡ figures_rule =
    ap rule_of c.action.ensures
    ∙ ap (λ (r : Rule). record r { action = Some SetTrue })
    (ap rule_of c.help-2.ensures ∙ ap rule_of c.long.ensures ∙ ap (λ (r : Rule). record r { long = Some (codes "figures") }) c.new.ensures.rule) in
    let columns : rule_of c.required.result ≡ columns_rule =
    ap rule_of c.required.ensures ∙ ap (λ (r : Rule). record r { required = false }) (ap rule_of c.help.ensures ∙ c.number.ensures.rule) in
    let one = c.in_ok-arg.ensures.shape (ap is_global c.required.ensures ∙ ap is_global c.help.ensures ∙ c.number.ensures.local) ∙ ap₂ with_rule c.in_ok-command.ensures columns in
    let two = c.in_ok-arg-2.ensures.shape
    (ap is_global c.action.ensures ∙ ap is_global c.help-2.ensures ∙ ap is_global c.long.ensures ∙ c.new.ensures.optional.1) ∙ ap₂ with_rule one figures in
    IfOk-weaker c.arg-3.result _ _
    (λ command adds. adds.shape c.positional.ensures.local ∙ ap₂ with_rule two c.positional.ensures.rule)
    c.arg-3.ensures
