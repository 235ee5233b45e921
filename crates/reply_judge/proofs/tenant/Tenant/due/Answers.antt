use Rattle.reply_judge.proofs.tenant.Tenant.due.Goals as goal

pub returns-in-Cache : goal.returns-in-Cache
returns-in-Cache c t w = rw c.in-Cache.is (c.due_of_cache.ensures.value t c.in-Cache.pattern w)

pub returns-in-Destroy : goal.returns-in-Destroy
returns-in-Destroy c t w = rw c.in-Destroy.is (c.due_of_destroy.ensures t w)

pub returns-in-Give : goal.returns-in-Give
returns-in-Give c t w = rw c.in-Give.is (c.due_of_give.ensures t w)
