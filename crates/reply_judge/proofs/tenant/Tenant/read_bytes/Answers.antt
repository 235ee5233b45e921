use Rattle.std.proofs.Common.{◌<◌, Some, refl, ap, subst, ◌∙◌}
use Rattle.words_core.specs.declared.event.Event.TheVariants as On
use Rattle.words_core.specs.declared.event.Command.TheVariants as Command
use Rattle.words_core.specs.declared.reply.Body.TheVariants as Say
use Rattle.promise_core.specs.Bytes.{holder_of}
use Rattle.known_holdings.specs.Holders.{shown_holder}
use Rattle.shadow_memory.proofs.ReadBytes.{begins}
use Rattle.reply_judge.specs.Seen.{Seen}
use Rattle.reply_judge.proofs.SoundVerdicts.{sound_in, followed, same_slots}
use Rattle.reply_judge.proofs.HeldBytes.{places_held}
use Rattle.reply_judge.proofs.KnownAfterCommand.{nothing, read}
use Rattle.reply_judge.proofs.tenant.Tenant.read_bytes.Goals as goal

pub invariant_of-self : goal.invariant_of-self
invariant_of-self c =
    let x : Seen = record { has = c.self.inside.held; left = c.self.inside.left; may_have_empty = c.self.inside.may_have_empty; last_report = c.self.inside.last_report } in
    let new : Seen = record x { left = c.put.new.self } in
    sound_in (On.Tenant 0 (Command.Read c.args.place c.args.len)) (Say.Bytes (record { items = c.args.bytes.now })) nothing x c.args.self.now new c.self.view_is c.self.invariant (c.in_ok-holder.ensures.judged 0 nothing)
    (λ kept. read 0 c.args.place c.args.len (record { items = c.args.bytes.now }) nothing x c.put.new.self (shown_holder c.in_ok-holder.holder) (ap (λ (y : Seen). holder_of y.has c.args.place c.args.len) c.self.view_is ∙ c.in_ok-holder.ensures.is.0) c.put.ensures kept)
    (same_slots x new _ c.self.invariant c.put.ensures refl)

pub returns : goal.returns
returns c t w =
    let x : Seen = record { has = c.self.inside.held; left = c.self.inside.left; may_have_empty = c.self.inside.may_have_empty; last_report = c.self.inside.last_report } in
    let new : Seen = record x { left = c.put.new.self } in
    followed (On.Tenant t (Command.Read c.args.place c.args.len)) (Say.Bytes (record { items = c.args.bytes.now })) w x c.args.self.now new c.self.view_is (c.in_ok-holder.ensures.judged t w)
    (λ kept. read t c.args.place c.args.len (record { items = c.args.bytes.now }) w x c.put.new.self (shown_holder c.in_ok-holder.holder) (ap (λ (y : Seen). holder_of y.has c.args.place c.args.len) c.self.view_is ∙ c.in_ok-holder.ensures.is.0) c.put.ensures kept)

pub put-requires-clause-held : goal.put-requires-clause-held
put-requires-clause-held c j lt = places_held c.self.inside.held c.self.inside.left c.self.invariant c.args.place c.args.len (shown_holder c.in_ok-holder.holder)
    (ap (λ (y : Seen). holder_of y.has c.args.place c.args.len) c.self.view_is ∙ c.in_ok-holder.ensures.is.0) j (subst (λ m. j < m) (c.in_ok-holder.ensures.is.1) lt)

pub put-requires-clause-near : goal.put-requires-clause-near
put-requires-clause-near c number first is = begins c.self.inside.held c.args.place c.args.len number first ((ap (λ (y : Seen). holder_of y.has c.args.place c.args.len) c.self.view_is ∙ c.in_ok-holder.ensures.is.0) ∙ ap (λ h. Some h) is)
