use Rattle.std.proofs.Common.{◌≡◌, ◌+◌, ◌-◌, ◌^◌, filter, sym, ap, ◌∙◌, arith}
use Rattle.std.specs.List.{list_any}
use Rattle.std.proofs.lemmas.Nat.{pow_pos, one_shl}
use Rattle.model_core.specs.Blocks.{Block}
use Rattle.promise_core.specs.Holdings.{Holdings}
use Rattle.known_holdings.proofs.RisingKeys.{is_within}
use Rattle.known_holdings.proofs.PageBlocks.{near_part}
use Rattle.known_holdings.proofs.held.Held.pages_near.Goals as goal

pub returns : goal.returns
returns c = λ test tells.
    let longest = c.self.inside.longest in
    let a = c.saturating_sub-first.result in
    let size = one_shl longest 64 (omega (arith, c.self.invariant.1.most)) in
    let is_a : a ≡ c.args.begin + 1 - 2 ^ longest = omega (arith, c.saturating_sub-first.ensures, size, pow_pos longest) in
    ap (λ (h : Holdings). list_any test h.pages) (sym c.self.view_is)
    ∙ near_part longest c.self.inside.pages.items c.args.begin c.args.end a c.self.invariant.1 is_a test tells
    ∙ ap (λ xs. list_any test (filter (is_within (λ (b : Block). b.first) a c.args.end) xs)) (sym c.deref.ensures.value)
    ∙ ap (list_any test) (sym c.all_within.ensures)
