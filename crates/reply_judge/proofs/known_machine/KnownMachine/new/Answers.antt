use Rattle.std.proofs.Common.{[], ◌∷◌, length, length-append, refl, ap, rules, arith}
use Rattle.reply_judge.specs.Seen.{IsOpeningTenant}
use Rattle.reply_judge.specs.KnownMachine.{SeenMachine}
use Rattle.reply_judge.proofs.Opening.{each_more, opening_shown}
use Rattle.reply_judge.proofs.known_machine.KnownMachine.new.Goals as goal

pub loop-tenant-preserved : goal.loop-tenant-preserved
loop-tenant-preserved c = record {
  many = omega (arith, ap length c.in_ok-push.ensures.items, length-append c.loop-tenant.all.items (c.in_ok-new.field-0 ∷ []), c.loop-tenant.invariant.many);
  each = rw c.in_ok-push.ensures.items (each_more (IsOpeningTenant c.args.order) c.loop-tenant.all.items c.in_ok-new.field-0 c.loop-tenant.invariant.each c.in_ok-new.ensures);
}

pub returns : goal.returns
returns c =
    let x : SeenMachine = record { order = c.args.order; owners = c.in_ok-owners.owners.items; tenants = c.loop-tenant.all.items } in
    opening_shown c.args.order c.args.superblocks c.args.tenants x refl (c.in_ok-owners.ensures.items_if_clones_equal (search rules)) (omega arith) c.loop-tenant.invariant.each
