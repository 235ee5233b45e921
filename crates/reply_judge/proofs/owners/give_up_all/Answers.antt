use Rattle.std.proofs.Common.{◌<◌, Option, None, length, slice_index_or, slice_set, ap, ◌∙◌, arith}
use Rattle.std.proofs.lemmas.List.{get_or_default}
use Rattle.std.proofs.lemmas.List.Edits.{map_over_more}
use Rattle.model_core.specs.declared.owner.Owner.{Owner}
use Rattle.model_core.specs.Owners.{is_of}
use Rattle.world_core.specs.World.{given_up}
use Rattle.reply_judge.proofs.owners.give_up_all.Goals as goal

pub loop-owner-preserved : goal.loop-owner-preserved
loop-owner-preserved c =
    let at : Option Owner = slice_index_or c.loop-owner.owners c.loop-owner.owner-index None in
    let within : c.loop-owner.owner-index < length c.args.owners.now = omega arith in
    ap (slice_set c.loop-owner.owners c.loop-owner.owner-index) c.without_tenant.ensures
    ∙ map_over_more (given_up (is_of c.args.t)) c.args.owners.now c.loop-owner.owners c.loop-owner.owner-index at within c.loop-owner.invariant
    (get_or_default c.loop-owner.owners c.loop-owner.owner-index None at (omega arith))
