use Rattle.std.proofs.Common.{◌≡◌, ◌∙◌, Bool, ap, ap₂, true, codes}
use Rattle.std.proofs.lemmas.Result.{IfOk-weaker}
use Rattle.clap.specs.Simple.{app_of_fields}
use Rattle.clap.specs.Words.{App, app_of, rule_of, with_rule}
use Rattle.clap.specs.declared.builder.arg.Arg.{Arg}
use Rattle.command_line.specs.Arguments.{bare_command, number_rule}
use Rattle.command_line.proofs.arguments.sizes_command.Goals as goal

abbrev is_global : Arg → Bool
is_global a = a.global

abbrev with_version : App → App
with_version a = record a { top = record a.top { has_version = true } }

abbrev without_name : App → App
without_name a = record a { top = record a.top { no_binary_name = true } }

pub returns : goal.returns
returns c =
    let order : rule_of c.help.result ≡ number_rule (codes "order") 3 8 =
    ap rule_of c.help.ensures ∙ (rw (c.from.ensures, c.from-2.ensures) at c.number.ensures.rule) in
    let superblocks : rule_of c.help-2.result ≡ number_rule (codes "superblocks") 1 256 =
    ap rule_of c.help-2.ensures ∙ (rw c.from-3.ensures at c.number-2.ensures.rule) in
    let tenants : rule_of c.help-3.result ≡ number_rule (codes "tenants") 1 64 =
    ap rule_of c.help-3.ensures ∙ (rw c.from-4.ensures at c.number-3.ensures.rule) in
    let bare : app_of c.no_binary_name.result ≡ bare_command c.args.program.name.now =
    ap app_of_fields c.no_binary_name.ensures
    ∙ ap without_name (ap app_of_fields c.after_help.ensures ∙ ap app_of_fields c.about.ensures ∙ ap app_of_fields c.version.ensures ∙ ap with_version c.new.ensures.app) in
    let one = c.in_ok-arg.ensures.shape (ap is_global c.help.ensures ∙ c.number.ensures.local) ∙ ap₂ with_rule bare order in
    let two = c.in_ok-arg-2.ensures.shape (ap is_global c.help-2.ensures ∙ c.number-2.ensures.local) ∙ ap₂ with_rule one superblocks in
    IfOk-weaker c.arg-3.result _ _
    (λ command adds. adds.shape (ap is_global c.help-3.ensures ∙ c.number-3.ensures.local) ∙ ap₂ with_rule two tenants)
    c.arg-3.ensures
