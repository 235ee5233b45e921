use Rattle.reply_judge.specs.Judged.{known_at}
use Rattle.reply_judge.specs.Seen.{state_of}
use Rattle.reply_judge.proofs.tenant.Tenant.due_of_admin.Goals as goal

pub returns-in-Grant : goal.returns-in-Grant
returns-in-Grant c w = rw c.in-Grant.is
    (c.due_of_grant.ensures c.in-Grant.tenant (known_at c.args.self.now (record w { owners = c.args.owners.now })) (state_of c.args.self.now))

pub returns-in-TakeBack : goal.returns-in-TakeBack
returns-in-TakeBack c w = rw c.in-TakeBack.is (c.due_of_take_back.ensures c.in-TakeBack.tenant (record w { owners = c.args.owners.now }))

pub returns-in-Move : goal.returns-in-Move
returns-in-Move c w = rw c.in-Move.is (c.due_of_move.ensures c.in-Move.tenant w)
