use Rattle.std.proofs.Common.{sym, ◌∙◌, ap, subst, ◌≡◌, ℕ, Bool, ◌+◌, ◌*◌, ◌^◌, ◌≤◌, length, get_or, arith}
use Rattle.std.proofs.lemmas.List.{get_or_read}
use Rattle.model_core.specs.Blocks.{block, Taken}
use Rattle.model_core.specs.Choice.{is_free, count_below}
use Rattle.buddy_core.specs.Content.{holding_of, is_held, taken_of}
use Rattle.buddy_core.specs.Stored.{StoredTenant}
use Rattle.buddy_core.proofs.ContentShown.{shown_is, by_shown, blank_of}
use Rattle.buddy_core.proofs.Buddy.free_count.Goals as goal

pub free_count-requires : goal.free_count-requires
free_count-requires c =
    let a = c.self.inside in
    let s = shown_is a.order a.superblocks.items a.tenants.items c.args.t c.args.self.now c.self.view_is c.requires.tenant in
    let tenant = get_or_read a.tenants.items c.args.t c.index.result.now s.listed c.index.ensures blank_of in
    let size : length c.index.result.now.free ≡ a.order + 1 = ap (λ (r : StoredTenant). length r.free) tenant ∙ (c.self.invariant.0.each c.args.t s.listed).sizes.free in
    let le : c.args.k ≤ a.order = subst (λ n. c.args.k ≤ n) s.order c.requires.order in
    omega arith

pub returns : goal.returns
returns c =
    let a = c.self.inside in
    let s = shown_is a.order a.superblocks.items a.tenants.items c.args.t c.args.self.now c.self.view_is c.requires.tenant in
    let tenant = get_or_read a.tenants.items c.args.t c.index.result.now s.listed c.index.ensures blank_of in
    let le : c.args.k ≤ a.order = subst (λ n. c.args.k ≤ n) s.order c.requires.order in
    let number : ℕ → ℕ → (ℕ → Bool) → Taken → ℕ = λ n top held taken. count_below (λ f. is_free top held taken (block f c.args.k)) (n * 2 ^ top) in
    let kept = ap (λ (r : StoredTenant). get_or r.free c.args.k 0) tenant ∙ (c.self.invariant.0.each c.args.t s.listed).free c.args.k le in
    c.free_count.ensures
    ∙ by_shown (λ top held taken. get_or c.index.result.now.free c.args.k 0 ≡ number (length a.superblocks.items) top held taken) a.order a.superblocks.items a.tenants.items c.args.t c.args.self.now s kept
    ∙ ap (λ n. number n c.args.self.now.top (is_held (holding_of c.args.t c.args.self.now)) (taken_of (holding_of c.args.t c.args.self.now))) (sym s.count)
