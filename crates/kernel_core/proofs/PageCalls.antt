-- Taking and freeing page blocks, and reading and writing bytes.
use Rattle.std.proofs.Common.{◌≡◌, ℕ, ◌/◌, ◌^◌, ◌≤◌, nat_lt, true, false, if◌then◌else◌, Option, Some, None, IfNone, OnSome, Err, ok_or, refl, sym, ap, ◌∙◌, subst, ◌<◌, ◌&&◌, nat_le, Bool, Ok, IsSome, List, length, filter_map, IfSome, IfOk}
use Rattle.model_core.specs.Blocks.{block, HasFrame}
use Rattle.model_core.proofs.BlocksByNumber.{number_of_frame, same_slot}
use Rattle.model_core.specs.Machine.{Machine, order_in}
use Rattle.model_core.specs.Slabs.{by_need, choice_by_need}
use Rattle.model_core.specs.Operations.{Step, alloc_at, alloc_step, free_step, without_block, read_step, write_step, written}
use Rattle.model_core.specs.declared.refusals.AllocRefusal.{AllocRefusal}
use Rattle.words_core.specs.declared.event.Command.TheVariants as Command
use Rattle.words_core.specs.declared.reply.Body.TheVariants.{Frame, Freed, Refused, Bytes, Written}
use Rattle.words_core.specs.declared.reply.Refusal.{Refusal}
use Rattle.words_core.specs.declared.reply.Refusal.TheVariants.{BadOrder, NotABlock, BadLength, OutOfReach}
use Rattle.world_core.specs.PrivateStep.{command_step, with_body, alloc_body, free_body, read_body, write_body}
use Rattle.space_core.specs.Content as spaces
use Rattle.buddy_core.specs.Content as buddies
use Rattle.buddy_core.specs.declared.ReservedBlock.{ReservedBlock}
use Rattle.slab_tables.specs.Content as tables
use Rattle.machine_changes.specs.Pages.{released, IsInReach, IsWritten, stored}
use Rattle.machine_changes.proofs.PageReleased.{released_shows, released_agrees}
use Rattle.machine_changes.specs.Shows.{Agree, frame_under, machine_frame_of, has_slab}
use Rattle.machine_changes.specs.Steady.{IsSteady}
use Rattle.std.specs.Prelude.{is_some, option_map}
use Rattle.std.proofs.lemmas.Bool.{false≢true, le-leb, leb-true, and_parts, and_from, false_from_ne_true, le-ltb}
use Rattle.machine_changes.specs.Keeps.{Spares}
use Rattle.kernel_core.specs.Content.{KernelContent, content_of}
use Rattle.kernel_core.specs.Shows.{ShowsMachine}
use Rattle.kernel_core.specs.Steps.{StepsMachine, body_of}
use Rattle.kernel_core.proofs.CallEffects.{steady}
use Rattle.kernel_core.proofs.CallsAsCommands.{answered, called, by_none}
use Rattle.std.specs.List.{range_with_len}
use Rattle.model_core.specs.Reach.{in_reach}
use Rattle.model_core.specs.declared.refusals.ReadRefusal.{ReadRefusal}
use Rattle.machine_changes.proofs.SlotChanged.{slot_by_unit}
use Rattle.space_core.specs.Windows.{is_in_slot, home_of, window_of}
use Rattle.machine_changes.proofs.Lookups.{some_none}
use Rattle.machine_changes.specs.Slots.{HoldTogether}
use Rattle.machine_changes.proofs.PageReach.{reach_meets}
use Rattle.machine_changes.proofs.PageReachHeld.{reach_reads, reach_held}
use Rattle.machine_changes.proofs.PageWritten.{written_shows, written_agrees}

large_is : (order o : ℕ) (m : Machine) → nat_lt order o ≡ true → alloc_step order o m ≡ record { answer = Err AllocRefusal.BadOrder; machine = m }
unfolding alloc_step
large_is order o m large = rw large refl

-- an order that is too large is refused
pub alloc_large : (k : KernelContent) (t o : ℕ) → nat_lt k.order o ≡ true → StepsMachine k t (Command.Alloc o) k (Refused BadOrder)
unfolding command_step
alloc_large k t o large = answered k t (Command.Alloc o) (Refused BadOrder) (λ m shown. ap (with_body alloc_body) (large_is k.order o m large))

told_at : (o : ℕ) (m : Machine) (x : Option ℕ) → ok_or x AllocRefusal.NoFrames ≡ (alloc_at o m x).answer
told_at o m None = refl
told_at o m (Some first) = refl

alloc_told : (order o : ℕ) (m : Machine) (x : Option ℕ) → o ≤ order → x ≡ choice_by_need order o m
    → ok_or x AllocRefusal.NoFrames ≡ (alloc_step order o m).answer
unfolding alloc_step
alloc_told order o m x small is =
    rw (le-ltb order o small) (told_at o (by_need order o m) x ∙ ap (λ y. (alloc_at o (by_need order o m) y).answer) is)

-- What a call for a page block does: it returns the machine's choice, and the parts afterwards show the machine after the step.
pub record TakesBlock (r r' : spaces.Content) (b b' : buddies.Content) (s s' : tables.Content) (t o : ℕ) (x : Option ℕ) : Type 0 where
  pub agree : Agree r b s
  pub spares : Spares t r r' b b' s s'
  pub order : o ≤ s.top
  pub answer : (m : Machine) → ShowsMachine (content_of r b s) t m → x ≡ choice_by_need s.top o m
  pub shows : (m : Machine) → ShowsMachine (content_of r b s) t m → ShowsMachine (content_of r' b' s') t (alloc_step s.top o m).machine
  pub refused : IfNone x ((r' ≡ r) × ((b' ≡ b) × (s' ≡ s)))

-- a block is taken, or no block is found
pub alloc_done : (r r' : spaces.Content) (b b' : buddies.Content) (s s' : tables.Content) (t o : ℕ) (x : Option ℕ) → TakesBlock r r' b b' s s' t o x
    → StepsMachine (content_of r b s) t (Command.Alloc o) (content_of r' b' s') (alloc_body (ok_or x AllocRefusal.NoFrames))
unfolding command_step
alloc_done r r' b b' s s' t o x takes =
    let top : s.top ≡ b.top = sym takes.agree.order in
    called r r' b b' s s' t takes.spares (Command.Alloc o) alloc_body (alloc_step b.top o) (ok_or x AllocRefusal.NoFrames) (λ m. refl)
    (λ m shown. alloc_told b.top o m x (subst (λ n. o ≤ n) top takes.order) (subst (λ n. x ≡ choice_by_need n o m) top (takes.answer m shown)))
    (λ m shown. subst (λ n. ShowsMachine (content_of r' b' s') t (alloc_step n o m).machine) top (takes.shows m shown))
    (by_none (λ o. alloc_body (ok_or o AllocRefusal.NoFrames)) x (λ first. refl) takes.refused)

-- what holds of a block that is found holds of the result
pub ok_told : {A : Type 0} (P : A → Type 0) (o : Option A) → IfSome o P → IfOk (ok_or o Refusal.NoFrames) P
ok_told P None p = tt
ok_told P (Some found) p = p

-- the body of the reply is that of the result
pub allocated : (o : Option ℕ) → body_of Frame (ok_or o Refusal.NoFrames) ≡ alloc_body (ok_or o AllocRefusal.NoFrames)
allocated (Some first) = refl
allocated None = refl

-- the same for a result that also has the superblock
pub block_allocated : (o : Option ReservedBlock)
    → body_of (λ (block : ReservedBlock). Frame block.first) (ok_or o Refusal.NoFrames)
    ≡ alloc_body (ok_or (option_map (λ (x : ReservedBlock). x.first) o) AllocRefusal.NoFrames)
block_allocated (Some block) = refl
block_allocated None = refl

pub first_none : (o : Option ReservedBlock) (P : Type 0) → IfNone o P → IfNone (option_map (λ (x : ReservedBlock). x.first) o) P
first_none (Some block) P none = tt
first_none None P none = none

-- Freeing

freed_is : (f o : ℕ) (m : Machine) → order_in m.blocks f ≡ Some o → free_step f m ≡ record { answer = Some o; machine = without_block f m }
unfolding free_step
freed_is f o m is = rw is refl

not_freed : (f : ℕ) (m : Machine) → order_in m.blocks f ≡ None → free_step f m ≡ record { answer = None; machine = m }
unfolding free_step
not_freed f m is = rw is refl

-- a taken block lies in the slot of each of its frames
pub block_slot : (r : spaces.Content) (b : buddies.Content) (s : tables.Content) (t first order x : ℕ) → IsSteady r b s t
    → buddies.taken_of (buddies.holding_of t b) first ≡ Some order → HasFrame (block first order) x → first / 2 ^ s.top ≡ x / 2 ^ s.top
block_slot r b s t first order x st taken here =
    let placed = st.sound.placed first order taken in
    sym (same_slot s.top order x first placed.0.0 (number_of_frame first order x placed.0.1 here))

-- if the slot is not held, a free is refused
pub free_unheld : (r : spaces.Content) (b : buddies.Content) (s : tables.Content) (t f : ℕ) → IsSteady r b s t
    → spaces.superblock_at r.slots t (f / 2 ^ s.top) ≡ None → StepsMachine (content_of r b s) t (Command.Free f) (content_of r b s) (Refused NotABlock)
unfolding command_step
free_unheld r b s t f st none = answered (content_of r b s) t (Command.Free f) (Refused NotABlock)
    (λ m shown. ap (with_body free_body) (not_freed f m
    (shown.blocks f ∙ ap (λ o. if has_slab s (frame_under s.top f o) then None else buddies.taken_of (buddies.holding_of t b) f) none ∙ go (buddies.taken_of (buddies.holding_of t b) f) refl)))
  where
    go : (o : Option ℕ) → buddies.taken_of (buddies.holding_of t b) f ≡ o → buddies.taken_of (buddies.holding_of t b) f ≡ None
    go None is = is
    go (Some k) is = absurd (false≢true (sym (ap is_some none) ∙ (st.sound.placed f k is).1))

-- if a slab begins at the frame, a free is refused
pub free_slab : (k : KernelContent) (t f : ℕ) → has_slab k.slabs (machine_frame_of k.slabs.top k.space.slots t f) ≡ true
    → StepsMachine k t (Command.Free f) k (Refused NotABlock)
unfolding command_step
free_slab k t f slab = answered k t (Command.Free f) (Refused NotABlock)
    (λ m shown. ap (with_body free_body) (not_freed f m (shown.blocks f ∙ ap (λ v. if v then None else buddies.taken_of (buddies.holding_of t k.buddy) f) slab)))

-- if none does, the parts agree afterwards
pub free_agrees : (r : spaces.Content) (b b' : buddies.Content) (s : tables.Content) (t f : ℕ) (x : Option ℕ) → Agree r b s
    → has_slab s (machine_frame_of s.top r.slots t f) ≡ false → IfNone x (b' ≡ b) → OnSome x (b' ≡ released t f b) → Agree r b' s
free_agrees r b b' s t f None agree page same _ = subst (λ y. Agree r y s) (sym same) agree
free_agrees r b b' s t f (Some o) agree page _ done = subst (λ y. Agree r y s) (sym done) (released_agrees r b s t f agree page).0

-- and if a taken block begins there, that page block is freed
pub free_done : (r : spaces.Content) (b b' : buddies.Content) (s : tables.Content) (t f : ℕ) (x : Option ℕ) → Agree r b s
    → has_slab s (machine_frame_of s.top r.slots t f) ≡ false → x ≡ buddies.taken_of (buddies.holding_of t b) f
    → IfNone x (b' ≡ b) → OnSome x (b' ≡ released t f b)
    → StepsMachine (content_of r b s) t (Command.Free f) (content_of r b' s) (body_of Freed (ok_or x Refusal.NotABlock))
unfolding command_step
free_done r b b' s t f None agree page is same _ =
    subst (λ y. StepsMachine (content_of r b s) t (Command.Free f) (content_of r y s) (Refused NotABlock)) (sym same)
    (answered (content_of r b s) t (Command.Free f) (Refused NotABlock)
    (λ m shown. ap (with_body free_body) (not_freed f m
    (shown.blocks f ∙ ap (λ v. if v then None else buddies.taken_of (buddies.holding_of t b) f) page ∙ sym is))))
free_done r b b' s t f (Some o) agree page is _ done =
    let law = released_agrees r b s t f agree page in
    let step : (m : Machine) → ShowsMachine (content_of r b s) t m → free_step f m ≡ record { answer = Some o; machine = without_block f m } = λ m shown.
    freed_is f o m (shown.blocks f ∙ ap (λ v. if v then None else buddies.taken_of (buddies.holding_of t b) f) page ∙ sym is) in
    subst (λ y. StepsMachine (content_of r b s) t (Command.Free f) (content_of r y s) (Freed o)) (sym done)
    (called r r b (released t f b) s s t law.1 (Command.Free f) free_body (free_step f) (Some o) (λ m. refl)
    (λ m shown. sym (ap (λ (x : Step (Option ℕ)). x.answer) (step m shown)))
    (λ m shown. subst (λ (x : Step (Option ℕ)). ShowsMachine (content_of r (released t f b) s) t x.machine) (sym (step m shown)) (released_shows r b s t f m shown))
    (λ refused. absurd (false≢true refused)))

-- Bytes

-- the parts hold together, and the tenant exists
pub record IsRequested (r : spaces.Content) (b : buddies.Content) (s : tables.Content) (t : ℕ) : Type 0 where
  pub together : HoldTogether r b s
  pub tenant : t < length b.tenants

-- the superblock of a range is the one in the slot of its first place
pub under_home : (r : spaces.Content) (t place len m : ℕ) → home_of r t place len ≡ Some m → spaces.superblock_at r.slots t (place / r.unit) ≡ Some m
under_home r t place len m = go (is_in_slot r.unit place len)
  where
    under : Bool → Option ℕ
    under v = if v then spaces.superblock_at r.slots t (place / r.unit) else None

    go : (v : Bool) → under v ≡ Some m → spaces.superblock_at r.slots t (place / r.unit) ≡ Some m
    go true is = is
    go false is = absurd (some_none (sym is))

module _ (r : spaces.Content) (b : buddies.Content) (s : tables.Content) (t place len : ℕ) (asked : IsRequested r b s t) where
  lent : IsSteady r b s t
  lent = steady r b s t asked.together asked.tenant

  pub out_of_reach : (m : Machine) → ShowsMachine (content_of r b s) t m → (IsInReach r b s t place len → ⊥) → in_reach m place len ≡ false
  out_of_reach m shown beyond = false_from_ne_true (in_reach m place len) (λ found. beyond ((reach_meets r b s t place len m lent shown).0 found))

  pub within_reach : (m : Machine) → ShowsMachine (content_of r b s) t m → IsInReach r b s t place len → in_reach m place len ≡ true
  within_reach m shown reach = (reach_meets r b s t place len m lent shown).1 reach

  -- a range in reach lies in one held slot
  pub held : IsInReach r b s t place len → IsSome (home_of r t place len)
  held reach = reach_held r b s t place len asked.together.agree lent reach

  abbrev under : Bool → Option ℕ
  under v = if v then spaces.superblock_at r.slots t (place / r.unit) else None

  slot_is : spaces.superblock_at r.slots t (place / r.unit) ≡ spaces.superblock_at r.slots t (place / 4096 / 2 ^ s.top)
  slot_is = ap (spaces.superblock_at r.slots t) (slot_by_unit r.unit s.top place asked.together.agree.unit)

  -- so no range that begins in a slot that is not held is in reach
  pub not_held : spaces.superblock_at r.slots t (place / 4096 / 2 ^ s.top) ≡ None → IsInReach r b s t place len → ⊥
  not_held none reach = go (is_in_slot r.unit place len) (held reach)
    where
      go : (v : Bool) → IsSome (under v) → ⊥
      go true is = false≢true (sym (ap is_some (slot_is ∙ none)) ∙ is)
      go false is = false≢true is

  -- a range in reach lies in the superblock of that slot
  pub home_is : (m : ℕ) → spaces.superblock_at r.slots t (place / 4096 / 2 ^ s.top) ≡ Some m → IsInReach r b s t place len → home_of r t place len ≡ Some m
  home_is m at reach = go (is_in_slot r.unit place len) (held reach)
    where
      go : (v : Bool) → IsSome (under v) → under v ≡ Some m
      go true is = slot_is ∙ at
      go false is = absurd (false≢true is)

-- what holds of a kernel's content holds of the fields
pub asked_opened : (r : spaces.Content) (b : buddies.Content) (s : tables.Content) (k : KernelContent) (t : ℕ) → content_of r b s ≡ k → IsRequested k.space k.buddy k.slabs t
    → IsRequested r b s t
asked_opened r b s k t is asked = subst (λ (x : KernelContent). IsRequested x.space x.buddy x.slabs t) (sym is) asked

pub reach_opened : (r : spaces.Content) (b : buddies.Content) (s : tables.Content) (k : KernelContent) (t place len : ℕ) → content_of r b s ≡ k
    → IsInReach k.space k.buddy k.slabs t place len → IsInReach r b s t place len
reach_opened r b s k t place len is reach = subst (λ (x : KernelContent). IsInReach x.space x.buddy x.slabs t place len) (sym is) reach

-- Reading

bad_is : (place len : ℕ) (m : Machine) → (nat_le 1 len && nat_le len 64) ≡ false → read_step place len m ≡ record { answer = Err ReadRefusal.BadLength; machine = m }
unfolding read_step
bad_is place len m bad = rw bad refl

beyond_is : (place len : ℕ) (m : Machine) → (nat_le 1 len && nat_le len 64) ≡ true → in_reach m place len ≡ false
    → read_step place len m ≡ record { answer = Err ReadRefusal.OutOfReach; machine = m }
unfolding read_step
beyond_is place len m good beyond = rw good (rw beyond refl)

read_is : (place len : ℕ) (xs : List ℕ) (m : Machine) → (nat_le 1 len && nat_le len 64) ≡ true → in_reach m place len ≡ true
    → filter_map m.bytes (range_with_len place len) ≡ xs → read_step place len m ≡ record { answer = Ok xs; machine = m }
unfolding read_step
read_is place len xs m good reach read = rw good (rw reach (rw read refl))

good_length : (len : ℕ) → 1 ≤ len → len ≤ 64 → (nat_le 1 len && nat_le len 64) ≡ true
good_length len low high = and_from (nat_le 1 len) (nat_le len 64) (le-leb 1 len low) (le-leb len 64 high)

-- a length of 0 or above 64 is refused
pub read_bad : (k : KernelContent) (t place len : ℕ) → (1 ≤ len → len ≤ 64 → ⊥) → StepsMachine k t (Command.Read place len) k (Refused BadLength)
unfolding command_step
read_bad k t place len bad = answered k t (Command.Read place len) (Refused BadLength)
    (λ m shown. ap (with_body read_body) (bad_is place len m (false_from_ne_true (nat_le 1 len && nat_le len 64) (λ good.
    let parts = and_parts (nat_le 1 len) (nat_le len 64) good in
    bad (leb-true 1 len parts.0) (leb-true len 64 parts.1)))))

pub read_beyond : (k : KernelContent) (t place len : ℕ) → IsRequested k.space k.buddy k.slabs t → 1 ≤ len → len ≤ 64
    → (IsInReach k.space k.buddy k.slabs t place len → ⊥) → StepsMachine k t (Command.Read place len) k (Refused OutOfReach)
unfolding command_step
read_beyond k t place len asked low high beyond = answered k t (Command.Read place len) (Refused OutOfReach)
    (λ m shown. ap (with_body read_body) (beyond_is place len m (good_length len low high) (out_of_reach k.space k.buddy k.slabs t place len asked m shown beyond)))

pub read_done : (k : KernelContent) (t place len : ℕ) (xs : List ℕ) → IsRequested k.space k.buddy k.slabs t → 1 ≤ len → len ≤ 64
    → IsInReach k.space k.buddy k.slabs t place len → window_of k.space t place len ≡ Some xs
    → StepsMachine k t (Command.Read place len) k (Bytes (record { items = xs }))
unfolding command_step
read_done k t place len xs asked low high reach is = answered k t (Command.Read place len) (Bytes (record { items = xs }))
    (λ m shown. ap (with_body read_body) (read_is place len xs m (good_length len low high) (within_reach k.space k.buddy k.slabs t place len asked m shown reach)
    (reach_reads k.space k.buddy k.slabs t place len xs m (steady k.space k.buddy k.slabs t asked.together asked.tenant) shown reach
    (asked.together.space.own_bytes.read t place len xs is))))

-- Writing

-- the machine with these bytes written from a place on
abbrev with_bytes : ℕ → List ℕ → Machine → Machine
with_bytes place xs m = record m { bytes = written place xs m.bytes }

written_is : (place : ℕ) (xs : List ℕ) (m : Machine) → in_reach m place (length xs) ≡ true
    → write_step place xs m ≡ record { answer = Some (length xs); machine = with_bytes place xs m }
unfolding write_step
written_is place xs m reach = rw reach refl

not_written : (place : ℕ) (xs : List ℕ) (m : Machine) → in_reach m place (length xs) ≡ false → write_step place xs m ≡ record { answer = None; machine = m }
unfolding write_step
not_written place xs m beyond = rw beyond refl

pub write_beyond : (k : KernelContent) (t place : ℕ) (xs : List ℕ) → IsRequested k.space k.buddy k.slabs t
    → (IsInReach k.space k.buddy k.slabs t place (length xs) → ⊥) → StepsMachine k t (Command.Write place (record { items = xs })) k (Refused OutOfReach)
unfolding command_step
write_beyond k t place xs asked beyond = answered k t (Command.Write place (record { items = xs })) (Refused OutOfReach)
    (λ m shown. ap (with_body write_body) (not_written place xs m (out_of_reach k.space k.buddy k.slabs t place (length xs) asked m shown beyond)))

-- the parts agree after a write
pub write_agrees : (r : spaces.Content) (b : buddies.Content) (s : tables.Content) (t place : ℕ) (xs : List ℕ) → IsRequested r b s t
    → IsInReach r b s t place (length xs) → IsWritten r (stored t place xs r) b s t
write_agrees r b s t place xs asked reach =
    written_agrees r b s t place xs asked.together.slabs asked.together.space asked.together.agree (steady r b s t asked.together asked.tenant) reach

pub write_done : (r : spaces.Content) (b : buddies.Content) (s : tables.Content) (t place : ℕ) (xs : List ℕ) → IsRequested r b s t
    → IsInReach r b s t place (length xs)
    → StepsMachine (content_of r b s) t (Command.Write place (record { items = xs })) (content_of (stored t place xs r) b s) (Written (length xs))
unfolding command_step
write_done r b s t place xs asked reach =
    let step : (m : Machine) → ShowsMachine (content_of r b s) t m → write_step place xs m ≡ record { answer = Some (length xs); machine = with_bytes place xs m } = λ m shown.
    written_is place xs m (within_reach r b s t place (length xs) asked m shown reach) in
    called r (stored t place xs r) b b s s t (write_agrees r b s t place xs asked reach).spares
    (Command.Write place (record { items = xs })) write_body (write_step place xs) (Some (length xs)) (λ m. refl)
    (λ m shown. sym (ap (λ (x : Step (Option ℕ)). x.answer) (step m shown)))
    (λ m shown. subst (λ (x : Step (Option ℕ)). ShowsMachine (content_of (stored t place xs r) b s) t x.machine) (sym (step m shown))
    (written_shows r b s t place xs m asked.together.space asked.together.agree (steady r b s t asked.together asked.tenant) reach shown))
    (λ is. absurd (false≢true is))
