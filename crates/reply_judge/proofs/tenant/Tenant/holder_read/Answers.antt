use Rattle.std.proofs.Common.{◌≡◌, ◌<◌, true, false, not, ◌&&◌, [], ◌∷◌, length, Some, None, Ok, Err, ap, sym, subst, ◌∙◌}
use Rattle.std.specs.Prelude.{◌==◌, is_none, nat_le, option_map}
use Rattle.std.specs.Option.{option_map_or}
use Rattle.model_core.specs.declared.limits.TheConstants.{MAX_BYTES}
use Rattle.words_core.specs.declared.event.Event.TheVariants as On
use Rattle.words_core.specs.declared.event.Command.TheVariants as Command
use Rattle.words_core.specs.declared.reply.Body.TheVariants as Say
use Rattle.words_core.specs.declared.reply.Refusal.{Refusal}
use Rattle.promise_core.specs.declared.promise.Promise.{Promise}
use Rattle.promise_core.specs.Bytes.{Holder, holder_of, may_all_be}
use Rattle.promise_core.specs.Promises.{first_due}
use Rattle.known_holdings.specs.Holders.{shown_holder}
use Rattle.shadow_memory.specs.Left.{left_at}
use Rattle.reply_judge.specs.Judged.{broken, tenant_verdict}
use Rattle.reply_judge.specs.Seen.{Seen}
use Rattle.reply_judge.proofs.AnswerVerdicts.{read_if}
use Rattle.reply_judge.proofs.HeldBytes.{places_held}
use Rattle.known_holdings.proofs.CachesByNumber.{none_of}
use Rattle.std.proofs.lemmas.Bool.{ne_eqb, eq-eqb}
use Rattle.reply_judge.proofs.AnswerVerdicts.{unread}
use Rattle.reply_judge.proofs.tenant.Tenant.holder_read.Goals as goal

pub returns-in_default-clause-judged : goal.returns-in_default-clause-judged
returns-in_default-clause-judged c t w =
    let x : Seen = record { has = c.self.inside.held; left = c.self.inside.left; may_have_empty = c.self.inside.may_have_empty; last_report = c.self.inside.last_report } in
    let none : holder_of x.has c.args.place c.args.len ≡ None = sym c.holder_of.ensures ∙ ap (option_map shown_holder) (none_of c.holder_of.result c.in_default.not-Some) in
    sym (subst (λ (y : Seen). tenant_verdict (On.Tenant t (Command.Read c.args.place c.args.len)) (Say.Bytes (record { items = c.args.bytes.now })) w y ≡ Err Promise.Refusals) c.self.view_is (read_if t c.args.place c.args.len (record { items = c.args.bytes.now }) w x None none ∙ unread (nat_le 1 c.args.len && nat_le c.args.len MAX_BYTES) _))

pub returns-then-not-is_length-clause-judged : goal.returns-then-not-is_length-clause-judged
returns-then-not-is_length-clause-judged c t w =
    let x : Seen = record { has = c.self.inside.held; left = c.self.inside.left; may_have_empty = c.self.inside.may_have_empty; last_report = c.self.inside.last_report } in
    let h : Holder = shown_holder c.in-Some.holder in
    let some : holder_of x.has c.args.place c.args.len ≡ Some h = sym c.holder_of.ensures ∙ ap (option_map shown_holder) c.in-Some.is in
    let long : (nat_le 1 c.args.len && nat_le c.args.len MAX_BYTES) ≡ false = sym c.is_length.ensures ∙ c.if-not-is_length.true in
    sym (subst (λ (y : Seen). tenant_verdict (On.Tenant t (Command.Read c.args.place c.args.len)) (Say.Bytes (record { items = c.args.bytes.now })) w y ≡ Err Promise.Refusals) c.self.view_is (read_if t c.args.place c.args.len (record { items = c.args.bytes.now }) w x (Some h) some
    ∙ (λ i. broken ((Promise.Refusals, is_none (first_due ((not (long i), Refusal.BadLength) ∷ (false, Refusal.OutOfReach) ∷ []))) ∷ (Promise.Bytes, length c.args.bytes.now == c.args.len && option_map_or (λ y. may_all_be x.has (left_at x.left) y c.args.place c.args.bytes.now) (Some h) false) ∷ []))))

pub returns-then-bytes-len-clause-judged : goal.returns-then-bytes-len-clause-judged
returns-then-bytes-len-clause-judged c t w =
    let x : Seen = record { has = c.self.inside.held; left = c.self.inside.left; may_have_empty = c.self.inside.may_have_empty; last_report = c.self.inside.last_report } in
    let h : Holder = shown_holder c.in-Some.holder in
    let some : holder_of x.has c.args.place c.args.len ≡ Some h = sym c.holder_of.ensures ∙ ap (option_map shown_holder) c.in-Some.is in
    let long : (nat_le 1 c.args.len && nat_le c.args.len MAX_BYTES) ≡ true = sym c.is_length.ensures ∙ c.if-not-is_length.false in
    sym (subst (λ (y : Seen). tenant_verdict (On.Tenant t (Command.Read c.args.place c.args.len)) (Say.Bytes (record { items = c.args.bytes.now })) w y ≡ Err Promise.Bytes) c.self.view_is (read_if t c.args.place c.args.len (record { items = c.args.bytes.now }) w x (Some h) some
    ∙ (λ i. broken ((Promise.Refusals, is_none (first_due ((not (long i), Refusal.BadLength) ∷ (false, Refusal.OutOfReach) ∷ []))) ∷ (Promise.Bytes, ne_eqb (length c.args.bytes.now) c.args.len (λ e. c.if-bytes-len.true e) i && option_map_or (λ y. may_all_be x.has (left_at x.left) y c.args.place c.args.bytes.now) (Some h) false) ∷ []))))

pub returns-then-not-may_read-clause-judged : goal.returns-then-not-may_read-clause-judged
returns-then-not-may_read-clause-judged c t w =
    let x : Seen = record { has = c.self.inside.held; left = c.self.inside.left; may_have_empty = c.self.inside.may_have_empty; last_report = c.self.inside.last_report } in
    let h : Holder = shown_holder c.in-Some.holder in
    let some : holder_of x.has c.args.place c.args.len ≡ Some h = sym c.holder_of.ensures ∙ ap (option_map shown_holder) c.in-Some.is in
    let long : (nat_le 1 c.args.len && nat_le c.args.len MAX_BYTES) ≡ true = sym c.is_length.ensures ∙ c.if-not-is_length.false in
    sym (subst (λ (y : Seen). tenant_verdict (On.Tenant t (Command.Read c.args.place c.args.len)) (Say.Bytes (record { items = c.args.bytes.now })) w y ≡ Err Promise.Bytes) c.self.view_is (read_if t c.args.place c.args.len (record { items = c.args.bytes.now }) w x (Some h) some
    ∙ (λ i. broken ((Promise.Refusals, is_none (first_due ((not (long i), Refusal.BadLength) ∷ (false, Refusal.OutOfReach) ∷ []))) ∷ (Promise.Bytes, eq-eqb (length c.args.bytes.now) c.args.len (c.if-bytes-len.false) i && (sym c.may_read.ensures ∙ c.if-not-may_read.true) i) ∷ []))))

pub returns-clause-judged : goal.returns-clause-judged
returns-clause-judged c t w =
    let x : Seen = record { has = c.self.inside.held; left = c.self.inside.left; may_have_empty = c.self.inside.may_have_empty; last_report = c.self.inside.last_report } in
    let h : Holder = shown_holder c.in-Some.holder in
    let some : holder_of x.has c.args.place c.args.len ≡ Some h = sym c.holder_of.ensures ∙ ap (option_map shown_holder) c.in-Some.is in
    let long : (nat_le 1 c.args.len && nat_le c.args.len MAX_BYTES) ≡ true = sym c.is_length.ensures ∙ c.if-not-is_length.false in
    sym (subst (λ (y : Seen). tenant_verdict (On.Tenant t (Command.Read c.args.place c.args.len)) (Say.Bytes (record { items = c.args.bytes.now })) w y ≡ Ok tt) c.self.view_is (read_if t c.args.place c.args.len (record { items = c.args.bytes.now }) w x (Some h) some
    ∙ (λ i. broken ((Promise.Refusals, is_none (first_due ((not (long i), Refusal.BadLength) ∷ (false, Refusal.OutOfReach) ∷ []))) ∷ (Promise.Bytes, eq-eqb (length c.args.bytes.now) c.args.len (c.if-bytes-len.false) i && (sym c.may_read.ensures ∙ c.if-not-may_read.false) i) ∷ []))))

pub may_read-requires : goal.may_read-requires
may_read-requires c j lt =
    let x : Seen = record { has = c.self.inside.held; left = c.self.inside.left; may_have_empty = c.self.inside.may_have_empty; last_report = c.self.inside.last_report } in
    let h : Holder = shown_holder c.in-Some.holder in
    let some : holder_of x.has c.args.place c.args.len ≡ Some h = sym c.holder_of.ensures ∙ ap (option_map shown_holder) c.in-Some.is in
    places_held x.has x.left c.self.invariant c.args.place c.args.len h some j (subst (λ n. j < n) (c.if-bytes-len.false) lt)

pub returns-clause-is : goal.returns-clause-is
returns-clause-is c =
    let x : Seen = record { has = c.self.inside.held; left = c.self.inside.left; may_have_empty = c.self.inside.may_have_empty; last_report = c.self.inside.last_report } in
    let h : Holder = shown_holder c.in-Some.holder in
    let some : holder_of x.has c.args.place c.args.len ≡ Some h = sym c.holder_of.ensures ∙ ap (option_map shown_holder) c.in-Some.is in
    (ap (λ (y : Seen). holder_of y.has c.args.place c.args.len) (sym c.self.view_is) ∙ some, c.if-bytes-len.false)
