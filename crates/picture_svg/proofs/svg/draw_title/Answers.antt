use Rattle.std.proofs.Common.{append_assoc, ◌≡◌, true, false, nat_lt, lt-ltb, le-ltb}
use Rattle.picture_svg.specs.Texts.{row_note, tenant_title}
use Rattle.picture_svg.proofs.JoinedTexts.{exactly, renamed, then_exactly}
use Rattle.picture_svg.proofs.svg.draw_title.Goals as goal

pub returns-in_ok-writeln-2 : goal.returns-in_ok-writeln-2
unfolding row_note tenant_title
returns-in_ok-writeln-2 g c =
    let several : nat_lt 1 c.args.grid.frames_per_row ≡ true = lt-ltb 1 c.args.grid.frames_per_row c.if-grid-gt1.true in
    renamed (tenant_title c.args.t c.args.grid.frames_per_row c.args.top) (simp (several, c.saturating_add-y.ensures, append_assoc))
    (then_exactly (g.W.Write.contents c.writeln-then-grid-gt1.new.self) _
    (exactly (g.W.Write.contents c.args.out.now) (g.W.Write.contents c.writeln.new.self) _ c.in_ok-writeln.ensures.bytes) c.in_ok-writeln-2.ensures.bytes)

pub returns-else-grid-gt1 : goal.returns-else-grid-gt1
unfolding row_note tenant_title
returns-else-grid-gt1 g c =
    let one : nat_lt 1 c.args.grid.frames_per_row ≡ false = le-ltb 1 c.args.grid.frames_per_row c.if-grid-gt1.false in
    renamed (tenant_title c.args.t c.args.grid.frames_per_row c.args.top) (simp (one, c.saturating_add-y.ensures, append_assoc))
    (exactly (g.W.Write.contents c.args.out.now) (g.W.Write.contents c.writeln.new.self) _ c.in_ok-writeln.ensures.bytes)
