-- The state that the judge stores of a machine, its sizes, and what a verdict on a reply means.
use Rattle.std.specs.Prelude.{◌≡◌, ℕ, ◌≤◌, List, Option, Some, Result, Ok, Err, length, map, slice_get}
use Rattle.model_core.specs.declared.owner.Owner.{Owner}
use Rattle.model_core.specs.declared.limits.TheConstants.{MAX_CACHES, MAX_ORDER, MAX_SUPERBLOCKS}
use Rattle.promise_core.specs.declared.promise.Promise.{Promise}
use Rattle.promise_core.specs.State.{Known}
use Rattle.reply_judge.specs.Seen.{Seen, state_of}

-- the state of a machine: the owner of each superblock, and what each tenant has; slots have 2 ^ order frames
pub record SeenMachine : Type 0 where
  pub order : ℕ
  pub owners : List (Option Owner)
  pub tenants : List Seen

abbrev pub known_of : SeenMachine → Known
known_of x = record { limit = MAX_CACHES; order = x.order; owners = x.owners; states = map state_of x.tenants }

-- `w` is what is known of the machine `x`
abbrev pub ShowsKnown : SeenMachine → Known → Type 0
ShowsKnown x w = w ≡ known_of x

-- the verdict is the one that the definitions give; after an allowed reply, `new` shows what is known after this reply
abbrev pub IsVerdict : Result (Unit {0}) Promise → Result Known Promise → SeenMachine → Type 0
IsVerdict (Ok _) allowed new = (after : Known) × (allowed ≡ Ok after) × ShowsKnown new after
IsVerdict (Err promise) allowed new = allowed ≡ Err promise

-- the sizes are within the limits, and the slots of every tenant have the machine's order
pub record FitsLimits (x : SeenMachine) : Type 0 where
  pub small : x.order ≤ MAX_ORDER
  pub few : length x.owners ≤ MAX_SUPERBLOCKS
  pub ordered : (t : ℕ) (y : Seen) → slice_get x.tenants t ≡ Some y → y.left.order ≡ x.order

-- the sizes do not change
pub record KeepsSizes (old new : SeenMachine) : Type 0 where
  pub order : new.order ≡ old.order
  pub superblocks : length new.owners ≡ length old.owners
  pub tenants : length new.tenants ≡ length old.tenants
