use Rattle.std.proofs.Common.{sym, subst}
use Rattle.buddy_core.specs.Tree.{Shows, Mended, IsConfined}
use Rattle.buddy_core.proofs.TreeChanges.{release_confined}
use Rattle.buddy_core.proofs.tree.Tree.release_at.Goals as goal

pub returns-clause-words : goal.returns-clause-words
returns-clause-words c = λ small large shows less.
    let joined = c.join-joined.ensures.mended small large shows less in
    let confined = release_confined c.args.self.now.order c.args.order c.join-joined.result c.args.first small large c.join-joined.ensures.rises less joined.1 in
    let order = c.join-joined.ensures.order in
    subst (λ n. Shows n large c.climb.new.self.words) order (c.climb.ensures.words small large
    (subst (λ n. Mended n c.join-joined.result c.args.first small large c.join-joined.new.self.words) (sym order) joined.0)
    (subst (λ n. IsConfined n c.join-joined.result c.args.first small large) (sym order) confined))

pub returns-clause-joined : goal.returns-clause-joined
returns-clause-joined c = λ small large shows less.
    (c.join-joined.ensures.rises, (c.join-joined.ensures.mended small large shows less).1)
