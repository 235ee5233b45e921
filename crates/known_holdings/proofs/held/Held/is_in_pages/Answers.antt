use Rattle.std.proofs.Common.{sym, ap, ◌∙◌, rules}
use Rattle.std.specs.Slice.Iter.{iter_rest}
use Rattle.std.proofs.lemmas.Iterator.Adapters.{YieldsList-from_rev_slice}
use Rattle.std.proofs.lemmas.Iterator.Search.{any_from_yields_List}
use Rattle.model_core.specs.Operations.{overlaps}
use Rattle.known_holdings.proofs.ComputedTests.{any_reversed}
use Rattle.known_holdings.proofs.PageBlocks.{overlap_near}
use Rattle.known_holdings.proofs.held.Held.is_in_pages.Goals as goal

pub returns : goal.returns
returns c = any_from_yields_List (overlaps c.args.block.now) _ _ _ c.any.ensures.ran
    (YieldsList-from_rev_slice c.pages_near.result.now (ap iter_rest c.rev.ensures.source ∙ c.iter.ensures.rest)) (λ x b q k. search rules)
    ∙ any_reversed (overlaps c.args.block.now) c.pages_near.result.now
    ∙ sym (c.pages_near.ensures (overlaps c.args.block.now)
    (λ b. overlap_near c.args.block.now b c.from.result c.end.result (c.from.ensures ∙ c.first.ensures) c.end.ensures.value))
