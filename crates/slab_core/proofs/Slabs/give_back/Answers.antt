use Rattle.std.proofs.Common.{◌≡◌, ◌*◌, ◌%◌, ◌^◌, ◌<◌, IsSome, refl, sym, ap, ◌∙◌, subst}
use Rattle.space_core.specs.Windows.{home_of}
use Rattle.slab_tables.specs.Content.{layout_numbers}
use Rattle.slab_tables.specs.Changes.{without_slab}
use Rattle.slab_core.proofs.Slabs.give_back.Goals as goal
use Rattle.slab_core.proofs.ReturnOneSlab.{len_is, slab_held, IsGivenBack, given_back}

pub zero-requires-clause-in_reach : goal.zero-requires-clause-in_reach
zero-requires-clause-in_reach c =
    let order = (layout_numbers c.args.cache.kept.now).order in
    let long : 4096 * 2 ^ c.order.result % 4294967296 ≡ 4096 * 2 ^ order =
    ap (λ k. 4096 * 2 ^ k % 4294967296) c.order.ensures ∙ len_is order (c.laws_with.ensures.steady.stands _ _ _ _ c.requires.slab).layout.order in
    subst (λ n. IsSome (home_of c.args.space.now c.args.cache.tenant (4096 * c.args.slab.first) n)) (sym long)
    (slab_held c.requires.agree c.laws_with.ensures.steady c.requires.slab)

pub returns-clause-tables : goal.returns-clause-tables
returns-clause-tables c = c.remove_slab.ensures ∙ ap (λ v. without_slab v c.args.slab.machine_frame) c.self.view_is

given : (c : goal.After-remove_slab)
    → IsGivenBack c.args.space.now c.zero.new.self c.args.buddy.now c.release.new.self c.args.self.now c.remove_slab.new.self c.args.cache.tenant c.args.slab.first
given c =
    given_back c.requires.agree c.laws_with.ensures.steady c.requires.slab c.laws_with.ensures.parts.slabs c.laws_with.ensures.parts.space
    (subst (λ n. c.args.cache.tenant < n) c.requires.agree.rows c.requires.tenant) c.order.ensures refl c.zero.ensures
    c.release.ensures.answer c.release.ensures.done (returns-clause-tables c)

pub returns-clause-returned : goal.returns-clause-returned
returns-clause-returned c = (given c).returned

pub returns-clause-spares : goal.returns-clause-spares
returns-clause-spares c = (given c).spares

pub returns-clause-agree : goal.returns-clause-agree
returns-clause-agree c = (given c).agree
