-- The machine that the arguments request depends only on their texts. If they request a machine, it is not refused.
use Rattle.std.proofs.Common.{◌≡◌, ◌∙◌, ℕ, ◌<◌, List, Option, Some, None, subst, refl, ap, sym, arith, codes}
use Rattle.clap.specs.Words.{Row, Text, one_of, one_text, rows_of}
use Rattle.clap.specs.declared.parser.matches.Found.{Found}
use Rattle.clap.proofs.WalkLemmas.{one_text-rows}
use Rattle.model_core.specs.declared.config.Config.{Config}
use Rattle.command_line.specs.MachineOptions.{AsksMachine, AsksNoSizes, AsksNoTenant, AsksSizes, IsNoMachine, MayWrite, Writes}
use Rattle.command_line.specs.declared.machine_options.MachineOptions.{MachineOptions}
use Rattle.command_line.specs.declared.outcome.Outcome.{Outcome}

-- if n is the number of the text, a lookup of the text's number finds n
pub one_number : (text : Option Text) (found : Option ℕ) (n : ℕ) → MayWrite text found → Writes text n → found ≡ Some n
one_number None found n may writes = absurd writes
one_number (Some text) (Some m) n may writes = ap (λ k. Some k) (may.1 ∙ sym writes.1)
one_number (Some text) None n may writes = absurd (may writes.0)

pub same_number : (text : Option Text) (m n : ℕ) → Writes text m → Writes text n → m ≡ n
same_number None m n one other = absurd one
same_number (Some text) m n one other = one.1 ∙ sym other.1

pub same_written : (text : Option Text) (a b : Option ℕ) → MayWrite text a → MayWrite text b → a ≡ b
same_written text a (Some n) may other = one_number text a n may other
same_written None None None may other = refl
same_written None (Some m) None may other = absurd may
same_written (Some text) None None may other = refl
same_written (Some text) (Some m) None may other = absurd (other may.0)

-- the text of an argument is the same in the matches and in their rows
pub one_text-of_rows : (f : Found) (rows : List Row) → rows_of f ≡ rows → (name : Text) → one_text f name ≡ one_of name rows
one_text-of_rows f rows same name = one_text-rows f name ∙ ap (one_of name) same

-- if `other` returns the same texts as `read`, and `read` requests these sizes, `other` requests them too
pub asks_sizes : (read other : Text → Option Text) (config : Config) → ((name : Text) → read name ≡ other name) → AsksSizes read config → AsksSizes other config
asks_sizes read other config same asks = record {
  order = subst (λ text. Writes text config.order) (same (codes "order")) asks.order;
  superblocks = subst (λ text. Writes text config.superblocks) (same (codes "superblocks")) asks.superblocks;
  tenants = subst (λ text. Writes text config.tenants) (same (codes "tenants")) asks.tenants;
}

pub asks_machine : (read other : Text → Option Text) (m : MachineOptions) → ((name : Text) → read name ≡ other name) → AsksMachine read m → AsksMachine other m
asks_machine read other m same asks = record {
  sizes = asks_sizes read other m.config same asks.sizes;
  only = subst (λ text. MayWrite text m.only) (same (codes "only")) asks.only;
}

-- if `other` returns the same texts as `read`, and `read` requests no valid sizes, `other` requests none either
pub asks_no_sizes : (read other : Text → Option Text) → ((name : Text) → read name ≡ other name) → AsksNoSizes read → AsksNoSizes other
asks_no_sizes read other same none sizes asks = none sizes (asks_sizes other read sizes (λ name. sym (same name)) asks)

asks_no_tenant : (read other : Text → Option Text) → ((name : Text) → read name ≡ other name) → AsksNoTenant read → AsksNoTenant other
asks_no_tenant read other same none = record {
  sizes = none.sizes;
  tenant = none.tenant;
  asked = asks_sizes read other none.sizes same none.asked;
  bootable = none.bootable;
  only = subst (λ text. Writes text none.tenant) (same (codes "only")) none.only;
  above = none.above;
}

pub no_machine : (read other : Text → Option Text) (outcome : Outcome) → ((name : Text) → read name ≡ other name)
    → IsNoMachine read outcome → IsNoMachine other outcome
no_machine read other (Outcome.BadLine text) same none = (asks_no_sizes read other same none.0, none.1)
no_machine read other Outcome.NoMemory same none = asks_no_sizes read other same none
no_machine read other Outcome.BadOnly same none = asks_no_tenant read other same none
no_machine read other Outcome.Done same none = absurd none
no_machine read other (Outcome.Help text) same none = absurd none
no_machine read other (Outcome.Version text) same none = absurd none
no_machine read other Outcome.Unreadable same none = absurd none
no_machine read other Outcome.Unwritable same none = absurd none

-- if a machine is requested, a number given with `--only` is below the machine's number of tenants
tenant_given : (read : Text → Option Text) (m : MachineOptions) → AsksMachine read m → ¬ AsksNoTenant read
tenant_given read m asks none =
    let only : m.only ≡ Some none.tenant = one_number (read (codes "only")) m.only none.tenant asks.only none.only in
    let tenants : none.sizes.tenants ≡ m.config.tenants =
    same_number (read (codes "tenants")) none.sizes.tenants m.config.tenants none.asked.tenants asks.sizes.tenants in
    let below : none.tenant < m.config.tenants = m.below none.tenant only in
    omega (arith, none.above)

-- if a machine is requested, no outcome refuses it
pub machine_given : (read : Text → Option Text) (m : MachineOptions) (outcome : Outcome) → AsksMachine read m → ¬ IsNoMachine read outcome
machine_given read m (Outcome.BadLine text) asks none = none.0 m.config asks.sizes m.bootable
machine_given read m Outcome.NoMemory asks none = none m.config asks.sizes m.bootable
machine_given read m Outcome.BadOnly asks none = tenant_given read m asks none
machine_given read m Outcome.Done asks none = none
machine_given read m (Outcome.Help text) asks none = none
machine_given read m (Outcome.Version text) asks none = none
machine_given read m Outcome.Unreadable asks none = none
machine_given read m Outcome.Unwritable asks none = none
