use Rattle.std.proofs.Common.{◌≡◌, ◌∙◌, Some, None, ap, sym, subst, arith}
use Rattle.promise_core.specs.Holdings.{is_vacant}
use Rattle.reply_judge.proofs.VacantBlocksInTurn.{first_vacant, found_here, none_yet}
use Rattle.reply_judge.proofs.vacancy.vacant_from.Goals as goal

pub loop-i-preserved : goal.loop-i-preserved
loop-i-preserved c =
    let h = c.args.held.now in
    none_yet h c.args.k c.args.begin c.loop-i.i (ap (is_vacant h) (sym c.numbered-block.ensures) ∙ (sym c.is_vacant.ensures ∙ c.if-is_vacant.false)) c.loop-i.invariant

pub returns-then-is_vacant : goal.returns-then-is_vacant
returns-then-is_vacant c =
    let h = c.args.held.now in
    ap (λ b. Some b) c.numbered-block.ensures
    ∙ sym (found_here h c.args.k c.args.begin c.loop-i.i c.args.blocks (omega arith)
    (ap (is_vacant h) (sym c.numbered-block.ensures) ∙ (sym c.is_vacant.ensures ∙ c.if-is_vacant.true)) c.loop-i.invariant)

pub returns : goal.returns
returns c = sym (subst (λ n. first_vacant c.args.held.now c.args.k c.args.begin n ≡ None) (let e : c.loop-i.i ≡ c.args.blocks = omega arith in e) c.loop-i.invariant)
