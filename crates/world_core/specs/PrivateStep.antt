-- The effect of one entry on a tenant's private machine, and the reply to the entry.
use Rattle.std.specs.Prelude.{ℕ, ◌+◌, List, [], ◌∷◌, Option, Some, None, Result, Ok, Err}
use Rattle.model_core.specs.declared.refusals.AllocRefusal.{AllocRefusal}
use Rattle.model_core.specs.declared.refusals.ReadRefusal.{ReadRefusal}
use Rattle.model_core.specs.declared.refusals.CacheRefusal.{CacheRefusal}
use Rattle.model_core.specs.declared.refusals.DestroyRefusal.{DestroyRefusal}
use Rattle.model_core.specs.declared.refusals.TakeRefusal.{TakeRefusal}
use Rattle.model_core.specs.declared.refusals.GiveRefusal.{GiveRefusal}
use Rattle.words_core.specs.declared.reply.Body.{Body}
use Rattle.words_core.specs.declared.event.Command.{Command}
use Rattle.words_core.specs.declared.reply.Refusal.{Refusal}
use Rattle.model_core.specs.Layouts.{Layout, layout_of}
use Rattle.model_core.specs.Machine.{Machine, empty_machine}
use Rattle.model_core.specs.Operations.{Step, alloc_step, free_step, read_step, write_step, after_grant, take_back_step}
use Rattle.model_core.specs.CacheOperations.{cache_step, destroy_step, take_step, give_step, reap_step}
use Rattle.model_core.specs.Reports.{frames_held, frames_taken, frames_free, greatest_free, split_share, order_rows, rows_of_caches}
use Rattle.words_core.specs.declared.report.Report as figures
use Rattle.words_core.specs.Refusals.{alloc_refusal, read_refusal, cache_refusal, destroy_refusal, take_refusal, give_refusal}

-- For each operation on a tenant's machine, the body of the reply that reports the operation's answer.

abbrev pub alloc_body : Result ℕ AllocRefusal → Body
alloc_body (Ok frame) = Body.Frame frame
alloc_body (Err refusal) = Body.Refused (alloc_refusal refusal)

abbrev pub free_body : Option ℕ → Body
free_body (Some order) = Body.Freed order
free_body None = Body.Refused Refusal.NotABlock

abbrev pub read_body : Result (List ℕ) ReadRefusal → Body
read_body (Ok bytes) = Body.Bytes (record { items = bytes })
read_body (Err refusal) = Body.Refused (read_refusal refusal)

abbrev pub write_body : Option ℕ → Body
write_body (Some count) = Body.Written count
write_body None = Body.Refused Refusal.OutOfReach

-- the body that reports the number and the layout of a new cache
abbrev pub layout_body : ℕ → Layout → Body
layout_body number l = Body.Cache number l.chunk l.order l.count l.colours

abbrev pub cache_body : ℕ → ℕ → Result ℕ CacheRefusal → Body
cache_body size align (Ok number) = layout_body number (layout_of size align)
cache_body size align (Err refusal) = Body.Refused (cache_refusal refusal)

abbrev pub destroy_body : Result ℕ DestroyRefusal → Body
destroy_body (Ok frames) = Body.Destroyed frames
destroy_body (Err refusal) = Body.Refused (destroy_refusal refusal)

abbrev pub take_body : Result ℕ TakeRefusal → Body
take_body (Ok place) = Body.Object place
take_body (Err refusal) = Body.Refused (take_refusal refusal)

abbrev pub give_body : Result (Unit {0}) GiveRefusal → Body
give_body (Ok done) = Body.Given
give_body (Err refusal) = Body.Refused (give_refusal refusal)

-- the figures in a report on the machine; slots have 2 ^ order frames
unfoldable pub figures_of : ℕ → Machine → figures.Report
figures_of order m = record {
  frames = frames_held order m;
  live = frames_taken m;
  free = frames_free order m;
  top = greatest_free order m;
  split = split_share (frames_free order m) (greatest_free order m);
  orders = record { items = order_rows order m (order + 1) };
  caches = record { items = rows_of_caches m };
}

-- the step of a report, which does not change the machine
unfoldable pub report_step : ℕ → Machine → Step Body
report_step order m = record { answer = Body.Report (figures_of order m); machine = m }

-- the step, with its answer turned into the body of a reply
abbrev pub with_body : {A : Type 0} → (A → Body) → Step A → Step Body
with_body body step = record { answer = body step.answer; machine = step.machine }

-- The body of the reply to a tenant's command, and the machine after the command. A tenant may have at most `limit` caches, and
-- slots have 2 ^ order frames.
unfoldable pub command_step : ℕ → ℕ → Command → Machine → Step Body
command_step limit order (Command.Alloc k) m = with_body alloc_body (alloc_step order k m)
command_step limit order (Command.Free frame) m = with_body free_body (free_step frame m)
command_step limit order (Command.Read place len) m = with_body read_body (read_step place len m)
command_step limit order (Command.Write place bytes) m = with_body write_body (write_step place bytes.items m)
command_step limit order (Command.Cache size align pattern) m =
    with_body (cache_body size align) (cache_step limit size align pattern.items m)
command_step limit order (Command.Destroy number) m = with_body destroy_body (destroy_step number m)
command_step limit order (Command.Take number) m = with_body take_body (take_step order number m)
command_step limit order (Command.Give number place) m = with_body give_body (give_step number place m)
command_step limit order Command.Reap m = with_body Body.Reaped (reap_step m)
command_step limit order Command.Report m = report_step order m

-- something that a tenant's machine runs: a command of the tenant, or a grant, a take-back or a reset by the administrator
pub data Entry : Type 0 where
  Ask : Command → Entry
  Grant : Entry
  TakeBack : ℕ → Entry
  Reset : Entry

-- The replies that the tenant gets, and its machine afterwards. Replies to grants, take-backs and resets are not among them: they
-- go to the administrator.
pub record Told : Type 0 where
  pub replies : List Body
  pub machine : Machine

unfoldable pub private_step : ℕ → ℕ → Entry → Machine → Told
private_step limit order (Ask command) m = record {
  replies = (command_step limit order command m).answer ∷ [];
  machine = (command_step limit order command m).machine;
}
private_step limit order Grant m = record { replies = []; machine = after_grant order m }
private_step limit order (TakeBack slot) m = record { replies = []; machine = (take_back_step order slot m).machine }
private_step limit order Reset m = record { replies = []; machine = empty_machine }
