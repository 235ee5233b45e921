use Rattle.std.proofs.Common.{sym, ◌∙◌, ap, subst, ◌≡◌, ◌+◌, ◌≤◌, length, get_or, arith}
use Rattle.std.proofs.lemmas.List.{get_or_read}
use Rattle.buddy_core.specs.Content.{taken_block_count}
use Rattle.buddy_core.specs.Stored.{StoredTenant}
use Rattle.buddy_core.proofs.ContentShown.{shown_is, blank_of}
use Rattle.buddy_core.proofs.Buddy.taken_count.Goals as goal

pub taken_count-requires : goal.taken_count-requires
taken_count-requires c =
    let a = c.self.inside in
    let s = shown_is a.order a.superblocks.items a.tenants.items c.args.t c.args.self.now c.self.view_is c.requires.tenant in
    let tenant = get_or_read a.tenants.items c.args.t c.index.result.now s.listed c.index.ensures blank_of in
    let size : length c.index.result.now.taken ≡ a.order + 1 = ap (λ (r : StoredTenant). length r.taken) tenant ∙ (c.self.invariant.0.each c.args.t s.listed).sizes.taken in
    let le : c.args.k ≤ a.order = subst (λ n. c.args.k ≤ n) s.order c.requires.order in
    omega arith

pub returns : goal.returns
returns c =
    let a = c.self.inside in
    let s = shown_is a.order a.superblocks.items a.tenants.items c.args.t c.args.self.now c.self.view_is c.requires.tenant in
    let tenant = get_or_read a.tenants.items c.args.t c.index.result.now s.listed c.index.ensures blank_of in
    let le : c.args.k ≤ a.order = subst (λ n. c.args.k ≤ n) s.order c.requires.order in
    c.taken_count.ensures
    ∙ ap (λ (r : StoredTenant). get_or r.taken c.args.k 0) tenant
    ∙ (c.self.invariant.0.each c.args.t s.listed).taken c.args.k le
    ∙ ap (taken_block_count c.args.k) (sym s.holding)
