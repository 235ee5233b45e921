use Rattle.std.proofs.Common.{sym, subst}
use Rattle.buddy_core.specs.Tree.{Shows, Mended, IsConfined}
use Rattle.buddy_core.proofs.TreeChanges.{reserve_confined}
use Rattle.buddy_core.proofs.tree.Tree.reserve_at.Goals as goal

pub returns-clause-words : goal.returns-clause-words
returns-clause-words c = λ large small shows free less.
    let order = c.split.ensures.order in
    subst (λ n. Shows n small c.climb.new.self.words) order (c.climb.ensures.words large small
    (subst (λ n. Mended n c.args.from c.args.first large small c.split.new.self.words) (sym order) (c.split.ensures.mended large small shows free less))
    (subst (λ n. IsConfined n c.args.from c.args.first large small) (sym order) (reserve_confined c.args.self.now.order c.args.order c.args.from c.args.first large small c.requires.order less free)))
