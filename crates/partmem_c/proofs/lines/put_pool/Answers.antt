use Rattle.std.proofs.Common.{refl, arith}
use Rattle.words_core.specs.Texts.{text_of}
use Rattle.words_core.specs.declared.reply.Addressee.TheVariants as To
use Rattle.words_core.specs.declared.reply.Body.TheVariants as Say
use Rattle.words_core.specs.declared.reply.Reply.{Reply}
use Rattle.partmem_c.proofs.FitLemmas.{owners_counted, table_fits, table_is_too_long}
use Rattle.partmem_c.proofs.lines.put_pool.Goals as goal

pub returns-then-buffer-rows : goal.returns-then-buffer-rows
returns-then-buffer-rows c =
    let rows = owners_counted c.args.kernel.now c.owners.result.now c.rows.result c.owners.ensures.rows c.rows.ensures.count in
    (table_is_too_long c.args.kernel.now c.args.buffer.now c.requires (omega (arith, rows, c.if-buffer-rows.true)), refl, refl, refl)

pub returns : goal.returns
returns c =
    let rows = owners_counted c.args.kernel.now c.owners.result.now c.rows.result c.owners.ensures.rows c.rows.ensures.count in
    let reply : Reply = record { addressee = To.Admin; body = Say.Owners (record { items = c.owners.result.now }) } in (
      table_fits c.args.kernel.now c.args.buffer.now c.requires (omega (arith, rows, c.if-buffer-rows.false)),
      (text_of reply, (reply, c.owners.ensures.steps, refl), c.put_table.ensures),
    )
