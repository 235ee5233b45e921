-- The world of all tenants: who owns each superblock, and a private machine for each tenant.
use Rattle.std.specs.Prelude.{ℕ, Bool, List, [], ◌∷◌, Option, Some, None, Result, Ok, Err, if◌then◌else◌, not, is_none, map, count_by, position, slice_get, slice_set, replicate}
use Rattle.std.specs.List.{position_or_len}
use Rattle.model_core.specs.declared.owner.Owner.{Owner}
use Rattle.model_core.specs.declared.refusals.TakeBackRefusal.{TakeBackRefusal}
use Rattle.words_core.specs.declared.reply.Addressee.{Addressee}
use Rattle.words_core.specs.declared.event.AdminCommand.{AdminCommand}
use Rattle.words_core.specs.declared.reply.Body.{Body}
use Rattle.words_core.specs.declared.event.Command.{Command}
use Rattle.words_core.specs.declared.event.Event.{Event}
use Rattle.words_core.specs.declared.reply.Refusal.{Refusal}
use Rattle.words_core.specs.declared.reply.Reply.{Reply}
use Rattle.model_core.specs.Machine.{Machine, empty_machine, holds}
use Rattle.model_core.specs.Owners.{owned_by, is_of, is_owner}
use Rattle.model_core.specs.Operations.{next_slot, after_grant, take_back_step}
use Rattle.words_core.specs.Refusals.{take_back_refusal}
use Rattle.world_core.specs.PrivateStep.{command_step}

-- the owner of each superblock (a tenant and one of its slots, or None), and the machine of each tenant
pub record World : Type 0 where
  pub owners : List (Option Owner)
  pub machines : List Machine

-- the world in which no superblock has an owner and every machine is empty
unfoldable pub opening_world : ℕ → ℕ → World
opening_world superblocks tenants = record {
  owners = replicate superblocks None;
  machines = replicate tenants empty_machine;
}

pub record WorldStep : Type 0 where
  pub reply : Reply
  pub world : World

-- the step that replies with this body to this addressee and does not change the world
unfoldable pub answer : Addressee → Body → World → WorldStep
answer addressee body w = record { reply = record { addressee = addressee; body = body }; world = w }

-- The step of a grant: tenant t gets the first superblock without an owner, in the lowest slot that it does not hold. The grant
-- is refused if the tenant does not exist or every superblock has an owner.
unfoldable pub grant_step : ℕ → ℕ → World → Option Machine → Option ℕ → WorldStep
grant_step order t w None _ = answer Addressee.Admin (Body.Refused Refusal.NoTenant) w
grant_step order t w (Some m) None = answer Addressee.Admin (Body.Refused Refusal.PoolEmpty) w
grant_step order t w (Some m) (Some superblock) = record {
  reply = record { addressee = Addressee.Admin; body = Body.Granted t (next_slot m) superblock };
  world = record {
    owners = slice_set w.owners superblock (Some (owned_by t (next_slot m)));
    machines = slice_set w.machines t (after_grant order m);
  };
}

-- the owner, or None if the owner passes the test
abbrev pub given_up : (Option Owner → Bool) → Option Owner → Option Owner
given_up test owner = if test owner then None else owner

-- The step of a take-back, from the answer of the tenant's machine. Unless the machine refused, the slot's superblock loses its
-- owner, and the tenant gets machine `after`.
abbrev pub take_back_answered : ℕ → ℕ → World → Machine → Result (Unit {0}) TakeBackRefusal → WorldStep
take_back_answered t slot w after (Ok done) = record {
  reply = record { addressee = Addressee.Admin; body = Body.TakenBack (position_or_len (is_owner t slot) w.owners) };
  world = record {
    owners = map (given_up (is_owner t slot)) w.owners;
    machines = slice_set w.machines t after;
  };
}
take_back_answered t slot w after (Err refusal) = answer Addressee.Admin (Body.Refused (take_back_refusal refusal)) w

unfoldable pub slot_step : ℕ → ℕ → ℕ → World → Option Machine → WorldStep
slot_step order t slot w None = answer Addressee.Admin (Body.Refused Refusal.NoTenant) w
slot_step order t slot w (Some m) =
    take_back_answered t slot w (take_back_step order slot m).machine (take_back_step order slot m).answer

-- the step of a reset: the tenant's machine becomes empty, and all superblocks of the tenant lose their owner
unfoldable pub reset_step : ℕ → World → Option Machine → WorldStep
reset_step t w None = answer Addressee.Admin (Body.Refused Refusal.NoTenant) w
reset_step t w (Some m) = record {
  reply = record { addressee = Addressee.Admin; body = Body.WasReset t (count_by (is_of t) w.owners) };
  world = record {
    owners = map (given_up (is_of t)) w.owners;
    machines = slice_set w.machines t empty_machine;
  };
}

-- The step of a move of a slot that tenant t holds. The slot gets the first superblock without an owner, and its former
-- superblock no longer has an owner. The move is refused if every superblock has an owner.
abbrev pub moved_to : ℕ → ℕ → World → Option ℕ → WorldStep
moved_to t slot w None = answer Addressee.Admin (Body.Refused Refusal.PoolEmpty) w
moved_to t slot w (Some superblock) = record {
  reply = record { addressee = Addressee.Admin; body = Body.Moved t slot superblock };
  world = record w { owners = slice_set (map (given_up (is_owner t slot)) w.owners) superblock (Some (owned_by t slot)) };
}

-- The step of a move, which changes no machine. The move is refused if tenant t does not exist or does not hold the slot, or if
-- every superblock has an owner.
unfoldable pub move_step : ℕ → ℕ → World → Option Machine → Option ℕ → WorldStep
move_step t slot w None free = answer Addressee.Admin (Body.Refused Refusal.NoTenant) w
move_step t slot w (Some m) free =
    if not (holds m slot) then answer Addressee.Admin (Body.Refused Refusal.NoSlot) w else moved_to t slot w free

-- a tenant's command changes only its own machine; the reply to a tenant that does not exist goes to nobody
unfoldable pub tenant_step : ℕ → ℕ → ℕ → Command → World → Option Machine → WorldStep
tenant_step limit order t command w None = answer Addressee.Nobody (Body.Refused Refusal.NoTenant) w
tenant_step limit order t command w (Some m) = record {
  reply = record { addressee = Addressee.Tenant t; body = (command_step limit order command m).answer };
  world = record w { machines = slice_set w.machines t (command_step limit order command m).machine };
}

-- the reply to one event, and the world after it; a tenant may have at most `limit` caches, and slots have 2 ^ order frames
unfoldable pub world_step : ℕ → ℕ → Event → World → WorldStep
world_step limit order (Event.Tenant t command) w = tenant_step limit order t command w (slice_get w.machines t)
world_step limit order (Event.Admin (AdminCommand.Grant t)) w = grant_step order t w (slice_get w.machines t) (position is_none w.owners)
world_step limit order (Event.Admin (AdminCommand.TakeBack t slot)) w = slot_step order t slot w (slice_get w.machines t)
world_step limit order (Event.Admin (AdminCommand.Reset t)) w = reset_step t w (slice_get w.machines t)
world_step limit order (Event.Admin (AdminCommand.Move t slot)) w = move_step t slot w (slice_get w.machines t) (position is_none w.owners)
world_step limit order (Event.Admin AdminCommand.Pool) w = answer Addressee.Admin (Body.Owners (record { items = w.owners })) w

-- an event and its reply
pub record Exchange : Type 0 where
  pub event : Event
  pub reply : Reply

abbrev pub history : ℕ → ℕ → World → List Event → List Exchange
history limit order w [] = []
history limit order w (event ∷ events) =
    record { event = event; reply = (world_step limit order event w).reply }
    ∷ history limit order (world_step limit order event w).world events

abbrev pub world_after : ℕ → ℕ → World → List Event → World
world_after limit order w [] = w
world_after limit order w (event ∷ events) = world_after limit order (world_step limit order event w).world events
