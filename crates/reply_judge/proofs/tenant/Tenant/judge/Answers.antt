use Rattle.words_core.specs.declared.event.Event.TheVariants as On
use Rattle.reply_judge.proofs.MisfitAnswers.{unfit}
use Rattle.reply_judge.proofs.tenant.Tenant.judge.Goals as goal
use Rattle.reply_judge.proofs.tenant.Tenant.judge.Goals.{in_default-via-in-Alloc+in_default, in_default-via-in-Free+in_default, in_default-via-in-Read+in_default, in_default-via-in-Write+in_default, in_default-via-in-Cache+in_default, in_default-via-in-Destroy+in_default, in_default-via-in-Take+in_default, in_default-via-in-Give+in_default, in_default-via-in-Reap+in_default, in_default-via-in_default}

pub returns-in-Alloc-Frame : goal.returns-in-Alloc-Frame
returns-in-Alloc-Frame c t w = rw (c.in-Alloc-Frame.is-0, c.in-Alloc-Frame.is-1) (c.add_block.ensures t w)

pub returns-in-Free-Freed : goal.returns-in-Free-Freed
returns-in-Free-Freed c t w = rw (c.in-Free-Freed.is-0, c.in-Free-Freed.is-1) (c.drop_block.ensures t w)

pub returns-in-Read-Bytes : goal.returns-in-Read-Bytes
returns-in-Read-Bytes c t w = rw (c.in-Read-Bytes.is-0, c.in-Read-Bytes.is-1) (c.read_bytes.ensures t w)

pub returns-in-Write-Written : goal.returns-in-Write-Written
returns-in-Write-Written c t w = rw (c.in-Write-Written.is-0, c.in-Write-Written.is-1) (c.write_bytes.ensures t w)

pub returns-in-Cache-Cache : goal.returns-in-Cache-Cache
returns-in-Cache-Cache c t w = rw (c.in-Cache-Cache.is-0, c.in-Cache-Cache.is-1) (c.add_cache.ensures t w)

pub returns-in-Destroy-Destroyed : goal.returns-in-Destroy-Destroyed
returns-in-Destroy-Destroyed c t w = rw (c.in-Destroy-Destroyed.is-0, c.in-Destroy-Destroyed.is-1) (c.drop_cache.ensures t w)

pub returns-in-Take-Object : goal.returns-in-Take-Object
returns-in-Take-Object c t w = rw (c.in-Take-Object.is-0, c.in-Take-Object.is-1) (c.add_object.ensures t w)

pub returns-in-Give-Given : goal.returns-in-Give-Given
returns-in-Give-Given c t w = rw (c.in-Give-Given.is-0, c.in-Give-Given.is-1) (c.drop_object.ensures t w)

pub returns-in-Reap-Reaped : goal.returns-in-Reap-Reaped
returns-in-Reap-Reaped c t w = rw (c.in-Reap-Reaped.is-0, c.in-Reap-Reaped.is-1) (c.drop_empty_slabs.ensures t w)

pub judge_refusal-requires : goal.judge_refusal-requires
judge_refusal-requires c t = unfit (On.Tenant t c.args.command.now) c.args.answer.now (elim c.in_default.branch [
  | in_default-via-in-Alloc+in_default w ↦ rw w.in_default.is-0 (λ x. w.in_default.not-Frame-1 x.0 x.1)
  | in_default-via-in-Free+in_default w ↦ rw w.in_default.is-0 (λ x. w.in_default.not-Freed-1 x.0 x.1)
  | in_default-via-in-Read+in_default w ↦ rw w.in_default.is-0 (λ x. w.in_default.not-Bytes-1 x.0 x.1)
  | in_default-via-in-Write+in_default w ↦ rw w.in_default.is-0 (λ x. w.in_default.not-Written-1 x.0 x.1)
  | in_default-via-in-Cache+in_default w ↦ rw w.in_default.is-0 (λ x. w.in_default.not-Cache-1 x.0 x.1 x.2 x.3 x.4 x.5)
  | in_default-via-in-Destroy+in_default w ↦ rw w.in_default.is-0 (λ x. w.in_default.not-Destroyed-1 x.0 x.1)
  | in_default-via-in-Take+in_default w ↦ rw w.in_default.is-0 (λ x. w.in_default.not-Object-1 x.0 x.1)
  | in_default-via-in-Give+in_default w ↦ rw w.in_default.is-0 (λ x. w.in_default.not-Given-1 x)
  | in_default-via-in-Reap+in_default w ↦ rw w.in_default.is-0 (λ x. w.in_default.not-Reaped-1 x.0 x.1)
  | in_default-via-in_default w ↦ rw w.in_default.is-0 (λ x. x)
])
