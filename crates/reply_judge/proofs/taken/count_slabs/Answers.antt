use Rattle.std.proofs.Common.{◌+◌, ◌==◌, ◌∙◌}
use Rattle.std.specs.Prelude.{if◌then◌else◌}
use Rattle.std.proofs.lemmas.Slice.Zip.{zip_end}
use Rattle.reply_judge.proofs.RowSums.{all_pairs}
use Rattle.reply_judge.proofs.taken.count_slabs.Goals as goal

pub returns : goal.returns
returns c = let caches = c.args.caches.now in let rows = c.args.rows.now in
    let all = zip_end caches rows c.loop-cache.yielded c.into_iter-cache-iterator.result
    c.loop-cache.cache-iterator c.next.new.self c.next.result (cc) (cc) c.loop-cache.yielded_by c.in-None.is c.next.ensures.steps in
    c.loop-cache.invariant.summed ∙ all_pairs (λ p. if p.0.order == c.args.k then p.1.full + p.1.partial + p.1.empty else 0) caches rows _ all
