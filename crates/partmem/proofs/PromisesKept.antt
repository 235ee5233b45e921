-- The output of a run keeps the promises.
use Rattle.std.proofs.Common.{◌≡◌, ℕ, ◌≤◌, nat_le, true, ◌&&◌, List, sym, subst}
use Rattle.std.proofs.lemmas.Bool.{and_parts, leb-true}
use Rattle.model_core.specs.declared.limits.TheConstants.{MIN_ORDER, MAX_ORDER, MAX_SUPERBLOCKS, MAX_TENANTS}
use Rattle.words_core.specs.Cutting.{lines_of_trace}
use Rattle.world_core.specs.Limits.{cache_limit}
use Rattle.world_core.specs.Output.{ended_lines}
use Rattle.promise_kept.proofs.WrittenReplies.{ram_is_small, shown_is_allowed}
use Rattle.model_core.specs.declared.config.Config.{Config}
use Rattle.model_core.specs.Booting.{is_between, is_bootable}
use Rattle.kernel_core.proofs.Opening.{bootable}
use Rattle.command_line.specs.declared.outcome.Outcome.{Outcome}
use Rattle.command_line.specs.declared.outcome.Outcome.TheVariants.{Done, Help, Version, Unreadable, Unwritable, BadLine, BadOnly, NoMemory}
use Rattle.command_line.specs.declared.machine_options.MachineOptions.{MachineOptions}
use Rattle.partmem.specs.Run.{shown_replies, Answers}
use Rattle.partmem.specs.Promised.{AreAllowed, WritesAllowed}

-- a bootable machine has order 3 or more, so its slots have at least 8 frames
not_less : (c : Config) → is_bootable c ≡ true → 3 ≤ c.order
not_less c is =
    let first = and_parts (is_between MIN_ORDER MAX_ORDER c.order) (is_between 1 MAX_SUPERBLOCKS c.superblocks && is_between 1 MAX_TENANTS c.tenants) is in
    leb-true MIN_ORDER c.order (and_parts (nat_le MIN_ORDER c.order) (nat_le c.order MAX_ORDER) first.0).0

replies_allowed : (m : MachineOptions) (lines : List (List ℕ)) → is_bootable m.config ≡ true → AreAllowed m lines (shown_replies m lines)
replies_allowed m lines is =
    let sizes = bootable m.config is in
    shown_is_allowed m.only cache_limit m.config.order m.config.superblocks m.config.tenants lines (not_less m.config is)
    (ram_is_small m.config.order m.config.superblocks sizes.0 sizes.1)

pub promises_kept : (m : MachineOptions) (outcome : Outcome) (given written : List ℕ) → is_bootable m.config ≡ true → Answers m outcome given written
    → WritesAllowed m outcome given written
promises_kept m Done given written is answers =
    subst (AreAllowed m (lines_of_trace given)) (sym answers.0) (replies_allowed m (lines_of_trace given) is)
promises_kept m Unreadable given written is answers =
    subst (AreAllowed m (ended_lines given)) (sym answers) (replies_allowed m (ended_lines given) is)
promises_kept m Unwritable given written is (rest, whole) =
    (rest, subst (AreAllowed m (lines_of_trace given)) whole (replies_allowed m (lines_of_trace given) is))
promises_kept m NoMemory given written is answers = answers
promises_kept m (Help text) given written is answers = absurd answers
promises_kept m (Version text) given written is answers = absurd answers
promises_kept m (BadLine text) given written is answers = absurd answers
promises_kept m BadOnly given written is answers = absurd answers
