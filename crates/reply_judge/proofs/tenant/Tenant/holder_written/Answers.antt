use Rattle.std.proofs.Common.{◌≡◌, [], ◌∷◌, length, Some, None, Ok, Err, ap, sym, subst, ◌∙◌}
use Rattle.std.specs.Prelude.{option_map}
use Rattle.words_core.specs.declared.event.Event.TheVariants as On
use Rattle.words_core.specs.declared.event.Command.TheVariants as Command
use Rattle.words_core.specs.declared.reply.Body.TheVariants as Say
use Rattle.promise_core.specs.declared.promise.Promise.{Promise}
use Rattle.promise_core.specs.Bytes.{Holder, holder_of}
use Rattle.known_holdings.specs.Holders.{shown_holder}
use Rattle.reply_judge.specs.Judged.{broken, tenant_verdict}
use Rattle.reply_judge.specs.Seen.{Seen}
use Rattle.reply_judge.proofs.AnswerVerdicts.{written_if}
use Rattle.known_holdings.proofs.CachesByNumber.{none_of}
use Rattle.std.proofs.lemmas.Bool.{ne_eqb, eq-eqb}
use Rattle.reply_judge.proofs.tenant.Tenant.holder_written.Goals as goal

pub returns-in_default-clause-judged : goal.returns-in_default-clause-judged
returns-in_default-clause-judged c t w =
    let x : Seen = record { has = c.self.inside.held; left = c.self.inside.left; may_have_empty = c.self.inside.may_have_empty; last_report = c.self.inside.last_report } in
    let none : holder_of x.has c.args.place (length c.args.bytes.now.items) ≡ None = ap (holder_of x.has c.args.place) (sym c.len.ensures.value) ∙ (sym c.holder_of.ensures ∙ ap (option_map shown_holder) (none_of c.holder_of.result c.in_default.not-Some)) in
    sym (subst (λ (y : Seen). tenant_verdict (On.Tenant t (Command.Write c.args.place c.args.bytes.now)) (Say.Written c.args.count) w y ≡ Err Promise.Refusals) c.self.view_is (written_if t c.args.place c.args.count c.args.bytes.now w x None none))

pub returns-then-len-count-clause-judged : goal.returns-then-len-count-clause-judged
returns-then-len-count-clause-judged c t w =
    let x : Seen = record { has = c.self.inside.held; left = c.self.inside.left; may_have_empty = c.self.inside.may_have_empty; last_report = c.self.inside.last_report } in
    let h : Holder = shown_holder c.in-Some.holder in
    let some : holder_of x.has c.args.place (length c.args.bytes.now.items) ≡ Some h = ap (holder_of x.has c.args.place) (sym c.len.ensures.value) ∙ (sym c.holder_of.ensures ∙ ap (option_map shown_holder) c.in-Some.is) in
    sym (subst (λ (y : Seen). tenant_verdict (On.Tenant t (Command.Write c.args.place c.args.bytes.now)) (Say.Written c.args.count) w y ≡ Err Promise.Bytes) c.self.view_is (written_if t c.args.place c.args.count c.args.bytes.now w x (Some h) some ∙ ap (λ b. broken ((Promise.Bytes, b) ∷ [])) (ne_eqb (length c.args.bytes.now.items) c.args.count (λ e. c.if-len-count.true (c.len-2.ensures.value ∙ e)))))

pub returns-clause-judged : goal.returns-clause-judged
returns-clause-judged c t w =
    let x : Seen = record { has = c.self.inside.held; left = c.self.inside.left; may_have_empty = c.self.inside.may_have_empty; last_report = c.self.inside.last_report } in
    let h : Holder = shown_holder c.in-Some.holder in
    let some : holder_of x.has c.args.place (length c.args.bytes.now.items) ≡ Some h = ap (holder_of x.has c.args.place) (sym c.len.ensures.value) ∙ (sym c.holder_of.ensures ∙ ap (option_map shown_holder) c.in-Some.is) in
    sym (subst (λ (y : Seen). tenant_verdict (On.Tenant t (Command.Write c.args.place c.args.bytes.now)) (Say.Written c.args.count) w y ≡ Ok tt) c.self.view_is (written_if t c.args.place c.args.count c.args.bytes.now w x (Some h) some ∙ ap (λ b. broken ((Promise.Bytes, b) ∷ [])) (eq-eqb (length c.args.bytes.now.items) c.args.count (sym c.len-2.ensures.value ∙ c.if-len-count.false))))

pub returns-clause-is : goal.returns-clause-is
returns-clause-is c =
    let x : Seen = record { has = c.self.inside.held; left = c.self.inside.left; may_have_empty = c.self.inside.may_have_empty; last_report = c.self.inside.last_report } in
    let h : Holder = shown_holder c.in-Some.holder in
    let some : holder_of x.has c.args.place (length c.args.bytes.now.items) ≡ Some h = ap (holder_of x.has c.args.place) (sym c.len.ensures.value) ∙ (sym c.holder_of.ensures ∙ ap (option_map shown_holder) c.in-Some.is) in
    (ap (λ (y : Seen). holder_of y.has c.args.place c.args.count) (sym c.self.view_is) ∙ (ap (holder_of x.has c.args.place) (sym (sym c.len-2.ensures.value ∙ c.if-len-count.false)) ∙ some), sym c.len-2.ensures.value ∙ c.if-len-count.false)
