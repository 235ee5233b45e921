use Rattle.std.proofs.Common.{◌<◌, length, Some, refl, ap, subst, ◌∙◌}
use Rattle.words_core.specs.declared.event.Event.TheVariants as On
use Rattle.words_core.specs.declared.event.Command.TheVariants as Command
use Rattle.words_core.specs.declared.reply.Body.TheVariants as Say
use Rattle.promise_core.specs.Bytes.{holder_of, with_bytes}
use Rattle.known_holdings.specs.Holders.{shown_holder}
use Rattle.shadow_memory.specs.Left.{left_slots, Becomes}
use Rattle.shadow_memory.proofs.ReadBytes.{begins}
use Rattle.reply_judge.specs.Seen.{Seen}
use Rattle.reply_judge.proofs.SoundVerdicts.{sound_in, followed, same_slots}
use Rattle.reply_judge.proofs.HeldBytes.{places_held}
use Rattle.reply_judge.proofs.KnownAfterCommand.{nothing, written}
use Rattle.reply_judge.proofs.tenant.Tenant.write_bytes.Goals as goal

pub invariant_of-self : goal.invariant_of-self
invariant_of-self c =
    let x : Seen = record { has = c.self.inside.held; left = c.self.inside.left; may_have_empty = c.self.inside.may_have_empty; last_report = c.self.inside.last_report } in
    let new : Seen = record x { left = c.put.new.self } in
    let put = subst (λ bs. Becomes x.left (left_slots x.left) (with_bytes (shown_holder c.in_ok-holder.holder) c.args.place bs) c.put.new.self) c.as_slice.ensures.value c.put.ensures in
    sound_in (On.Tenant 0 (Command.Write c.args.place c.args.bytes.now)) (Say.Written c.args.count) nothing x c.args.self.now new c.self.view_is c.self.invariant (c.in_ok-holder.ensures.judged 0 nothing)
    (λ kept. written 0 c.args.place c.args.count c.args.bytes.now nothing x c.put.new.self (shown_holder c.in_ok-holder.holder) (ap (λ (y : Seen). holder_of y.has c.args.place c.args.count) c.self.view_is ∙ c.in_ok-holder.ensures.is.0) put kept)
    (same_slots x new _ c.self.invariant put refl)

pub returns : goal.returns
returns c t w =
    let x : Seen = record { has = c.self.inside.held; left = c.self.inside.left; may_have_empty = c.self.inside.may_have_empty; last_report = c.self.inside.last_report } in
    let new : Seen = record x { left = c.put.new.self } in
    let put = subst (λ bs. Becomes x.left (left_slots x.left) (with_bytes (shown_holder c.in_ok-holder.holder) c.args.place bs) c.put.new.self) c.as_slice.ensures.value c.put.ensures in
    followed (On.Tenant t (Command.Write c.args.place c.args.bytes.now)) (Say.Written c.args.count) w x c.args.self.now new c.self.view_is (c.in_ok-holder.ensures.judged t w)
    (λ kept. written t c.args.place c.args.count c.args.bytes.now w x c.put.new.self (shown_holder c.in_ok-holder.holder) (ap (λ (y : Seen). holder_of y.has c.args.place c.args.count) c.self.view_is ∙ c.in_ok-holder.ensures.is.0) put kept)

pub put-requires-clause-held : goal.put-requires-clause-held
put-requires-clause-held c j lt = places_held c.self.inside.held c.self.inside.left c.self.invariant c.args.place c.args.count (shown_holder c.in_ok-holder.holder)
    (ap (λ (y : Seen). holder_of y.has c.args.place c.args.count) c.self.view_is ∙ c.in_ok-holder.ensures.is.0) j (subst (λ m. j < m) (ap length c.as_slice.ensures.value ∙ c.in_ok-holder.ensures.is.1) lt)

pub put-requires-clause-near : goal.put-requires-clause-near
put-requires-clause-near c number first is = begins c.self.inside.held c.args.place c.args.count number first ((ap (λ (y : Seen). holder_of y.has c.args.place c.args.count) c.self.view_is ∙ c.in_ok-holder.ensures.is.0) ∙ ap (λ h. Some h) is)
