-- If `IsAmple` is true of the machine after a private run, this machine refuses neither a block nor an object. After any trace, a
-- tenant with such a machine gets a block.
use Rattle.std.proofs.Common.{◌≡◌, ℕ, List, Some, slice_get, sym, ap, subst, ◌∙◌}
use Rattle.std.proofs.lemmas.Option.{same_Some}
use Rattle.model_core.specs.Machine.{Machine}
use Rattle.model_core.specs.Room.{IsAmple}
use Rattle.model_core.proofs.Room.{alloc_is_promised, take_is_promised}
use Rattle.words_core.specs.declared.event.Event.{Event}
use Rattle.words_core.specs.declared.event.Event.TheVariants as On
use Rattle.words_core.specs.declared.event.Command.TheVariants as Command
use Rattle.words_core.specs.declared.reply.Addressee.TheVariants as To
use Rattle.words_core.specs.Cutting.{lines_of_trace}
use Rattle.world_core.specs.PrivateStep.{Entry, alloc_body, take_body, command_step}
use Rattle.world_core.specs.World.{World, opening_world, tenant_step, world_step, world_after}
use Rattle.world_core.specs.OwnList.{own_list}
use Rattle.world_core.specs.Output.{events_of}
use Rattle.world_core.specs.Laws.{opening_history}
use Rattle.world_core.specs.Reached.{reached_machine, ReachedBlock, ReachedObject, NobodyStarves}
use Rattle.world_core.proofs.AskableCommands.{own_lists_are_requests}
use Rattle.world_core.proofs.ReachedMachines.{reached_well_formed}
use Rattle.world_core.proofs.OwnListRuns.{own_run}

pub reached_block : ReachedBlock
unfolding command_step
reached_block limit order k entries asked room =
    let is = alloc_is_promised limit order k (reached_machine limit order entries) (reached_well_formed limit order entries asked) room in
    (is.0, ap alloc_body is.1)

pub reached_object : ReachedObject
unfolding command_step
reached_object limit order number entries c asked cache room =
    let is = take_is_promised limit order number (reached_machine limit order entries) c (reached_well_formed limit order entries asked) cache room in
    (is.0, ap take_body is.1)

-- if tenant t has machine m, the reply to its `alloc` is the answer of m
told : (limit order t k : ℕ) (w : World) (m : Machine) → slice_get w.machines t ≡ Some m
    → (world_step limit order (On.Tenant t (Command.Alloc k)) w).reply ≡ record { addressee = To.Tenant t; body = (command_step limit order (Command.Alloc k) m).answer }
unfolding world_step tenant_step
told limit order t k w m here = ap (λ o. (tenant_step limit order t (Command.Alloc k) w o).reply) here

pub nobody_starves : NobodyStarves
nobody_starves limit order superblocks tenants t k trace m is_tenant here room =
    let events : List Event = events_of (lines_of_trace trace) in
    let own : List Entry = own_list t (opening_history limit order superblocks tenants events) in
    let w : World = world_after limit order (opening_world superblocks tenants) events in
    let same : m ≡ reached_machine limit order own =
    same_Some m (reached_machine limit order own) (sym here ∙ (own_run limit order superblocks tenants t events is_tenant).machine) in
    let served = reached_block limit order k own (own_lists_are_requests limit order superblocks tenants t trace) (subst (IsAmple order k) same room) in (
      served.0,
      told limit order t k w m here
          ∙ (ap (λ n. record { addressee = To.Tenant t; body = (command_step limit order (Command.Alloc k) n).answer }) same
          ∙ ap (λ body. record { addressee = To.Tenant t; body = body }) served.1),
    )
