use Rattle.std.proofs.Common.{sym, ap, ◌∙◌, rules}
use Rattle.std.specs.Slice.Iter.{iter_rest}
use Rattle.std.proofs.lemmas.Iterator.Adapters.{YieldsList-from_rev_slice}
use Rattle.std.proofs.lemmas.Iterator.Search.{any_from_yields_List}
use Rattle.model_core.specs.Reach.{within_block}
use Rattle.known_holdings.proofs.ComputedTests.{any_reversed}
use Rattle.known_holdings.proofs.PageBlocks.{range_near}
use Rattle.known_holdings.proofs.held.Held.has_page_with.Goals as goal

pub returns : goal.returns
returns c = any_from_yields_List (within_block c.args.place c.args.len) _ _ _ c.any.ensures.ran
    (YieldsList-from_rev_slice c.pages_near.result.now (ap iter_rest c.rev.ensures.source ∙ c.iter.ensures.rest)) (λ x b q k. search rules)
    ∙ any_reversed (within_block c.args.place c.args.len) c.pages_near.result.now
    ∙ sym (c.pages_near.ensures (within_block c.args.place c.args.len)
    (λ b. range_near c.args.place c.args.len c.from-frame.result b c.requires c.from-frame.ensures))
