use Rattle.slab_core.proofs.Slabs.reserve.Goals as goal
use Rattle.slab_core.proofs.ReserveBesideSlabs.{IsBlockServed, block_served}

served : (c : goal.After-reserve_block) → IsBlockServed c.args.space.now c.args.buddy.now c.args.self.now c.args.t c.args.k
    c.requires.agree c.laws_with.ensures.parts.buddy c.requires.tenant c.reserve_block.new.self c.reserve_block.result
served c =
    block_served c.args.space.now c.args.buddy.now c.args.self.now c.args.t c.args.k c.requires.agree c.laws_with.ensures.parts.buddy c.requires.tenant
    c.laws_with.ensures.steady
    c.reserve_block.new.self c.reserve_block.result c.reserve_block.ensures.refused c.reserve_block.ensures.done c.reserve_block.ensures.under

pub returns-clause-answer : goal.returns-clause-answer
returns-clause-answer c = (served c).answer

pub returns-clause-shows : goal.returns-clause-shows
returns-clause-shows c = (served c).shows

pub returns-clause-page : goal.returns-clause-page
returns-clause-page c = (served c).page

pub returns-clause-free : goal.returns-clause-free
returns-clause-free c = (served c).free

pub returns-clause-spares : goal.returns-clause-spares
returns-clause-spares c = (served c).spares

pub returns-clause-agree : goal.returns-clause-agree
returns-clause-agree c = (served c).agree
