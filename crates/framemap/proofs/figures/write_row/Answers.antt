use Rattle.std.proofs.Common.{codes}
use Rattle.framemap.specs.Tables.{row_text}
use Rattle.picture_svg.proofs.JoinedTexts.{exactly, last_exactly, then_text}
use Rattle.framemap.proofs.TableLemmas.{row_is}
use Rattle.framemap.proofs.figures.write_row.Goals as goal

pub returns : goal.returns
returns g c =
    last_exactly (g.W.Write.contents c.write_all.new.self) c.write_all.result (codes "\n") (row_text c.args.orders c.args.column.now c.args.most c.args.t)
    (then_text (exactly (g.W.Write.contents c.args.out.now) (g.W.Write.contents c.write.new.self) _ c.in_ok-write.ensures.bytes)
    c.in_ok-write_cells.ensures) c.write_all.ensures.bytes
    (row_is c.args.orders c.args.column.now.line c.args.t _ _ _ _ _ c.figures_of-figures.ensures c.refused_to-refused.ensures)
