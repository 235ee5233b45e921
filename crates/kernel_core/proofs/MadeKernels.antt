-- What a grant, an allocation of a page block and a read of one byte do to the parts of a kernel, and examples of these parts.
use Rattle.std.proofs.Common.{◌≡◌, ℕ, zero, suc, ◌+◌, ◌*◌, ◌/◌, ◌%◌, ◌^◌, ◌<◌, ◌≤◌, true, false, Option, Some, None, List, [], ◌∷◌, length, slice_range, inl, refl, sym, ap, ◌∙◌, subst, arith}
use Rattle.std.specs.Prelude.{is_some, replicate, slice_index, IsSome}
use Rattle.std.proofs.lemmas.Bool.{false≢true}
use Rattle.model_core.specs.Blocks.{block, IsAligned, IsChoice}
use Rattle.model_core.proofs.BlockChoice.{choice_is_found}
use Rattle.words_core.specs.declared.event.Event.TheVariants as On
use Rattle.words_core.specs.declared.event.AdminCommand.TheVariants as Do
use Rattle.words_core.specs.declared.event.Command.TheVariants.{Alloc, Read}
use Rattle.words_core.specs.declared.reply.Addressee.TheVariants as To
use Rattle.words_core.specs.declared.reply.Body.{Body}
use Rattle.words_core.specs.declared.reply.Body.TheVariants.{Frame, Bytes}
use Rattle.words_core.specs.declared.reply.Reply.{Reply}
use Rattle.world_core.specs.PrivateStep.{command_step}
use Rattle.world_core.specs.World.{opening_world}
use Rattle.space_core.specs.Content as spaces
use Rattle.space_core.specs.Changes.{with_grant}
use Rattle.space_core.specs.Windows.{home_of, bytes_under, byte_at, window_of}
use Rattle.space_core.proofs.InvariantKept.{granted-IsSpace}
use Rattle.space_core.proofs.EmptySpace.{empty_space-IsSpace}
use Rattle.space_core.proofs.SpaceLaws.{laws_of}
use Rattle.space_core.proofs.VacantSlots.{unowned-from_position}
use Rattle.buddy_core.specs.Content as buddies
use Rattle.slab_tables.specs.Content as tables
use Rattle.slab_tables.proofs.InvariantKept.{slabs_opening}
use Rattle.machine_changes.specs.Shows.{ShowsMachine, machine_frame_of, has_slab}
use Rattle.machine_changes.specs.Slots.{HoldTogether}
use Rattle.machine_changes.specs.Pages.{IsInReach}
use Rattle.machine_changes.proofs.EmptyTenant.{none_in, opening_shows}
use Rattle.machine_changes.proofs.Lookups.{some_same}
use Rattle.slab_core.proofs.ReserveByNeed.{found_choice, found_step}
use Rattle.slab_core.proofs.ReserveBesideSlabs.{IsServed, is_served}
use Rattle.kernel_core.specs.Content.{KernelContent, content_of, opening_content}
use Rattle.kernel_core.proofs.CallEffects.{has_row, parts_agree, steady}
use Rattle.kernel_core.proofs.Granting.{IsGrantable, buddy_after, changes, does_granted, granted_reply, steps_granted}
use Rattle.kernel_core.proofs.PageCalls.{alloc_done, IsRequested, held, read_done}
use Rattle.kernel_core.specs.Shows.{Shows}
use Rattle.kernel_core.specs.Stores.{IsKernel, Loads}
use Rattle.kernel_core.specs.Actions.{Runs, Acts, IsBooted}
use Rattle.kernel_core.proofs.Witnesses.{opening_shown}
use Rattle.kernel_core.proofs.KernelToWorld.{steps_asked}

kernel_of : (r : spaces.Content) (b : buddies.Content) (s : tables.Content) → HoldTogether r b s → IsKernel (content_of r b s)
kernel_of r b s together = record { agree = parts_agree r b s together; together = together }

abbrev pub to_tenant : ℕ → Body → Reply
to_tenant t body = record { addressee = To.Tenant t; body = body }

-- a grant puts superblock m in slot u of tenant t
pub grant_acts : (r : spaces.Content) (b : buddies.Content) (s : tables.Content) (t u m : ℕ) → IsGrantable r b s t u m → buddies.BuddyLaws (buddy_after t u m b)
    → Acts (content_of r b s) (Runs (On.Admin (Do.Grant t)) (granted_reply t u m)) (content_of (with_grant r t u m) (buddy_after t u m b) s)
grant_acts r b s t u m g laws =
    let together : HoldTogether (with_grant r t u m) (buddy_after t u m b) s = record {
      space = laws_of (granted-IsSpace g.together.space.facts t u m (has_row r b s t g.together.agree g.tenant) g.slot_below g.below g.least.vacant
          (unowned-from_position r.owners m g.free));
      buddy = laws;
      slabs = g.together.slabs;
      agree = (changes r b s t u m g).agree;
    } in
    let is = kernel_of (with_grant r t u m) (buddy_after t u m b) s together in (
      steps_granted (content_of r b s) (content_of (with_grant r t u m) (buddy_after t u m b) s) t t u m refl g.tenant is.agree g.free (does_granted r b s t u m g),
      is,
    )

-- the buddy systems after tenant t has taken the block of order k at frame f
abbrev reserved : ℕ → ℕ → ℕ → buddies.Content → buddies.Content
reserved t f k b = buddies.with_holding t (buddies.with_block f k (buddies.holding_of t b)) b

pub alloc_acts : (r : spaces.Content) (b : buddies.Content) (s : tables.Content) (t k f j : ℕ) → HoldTogether r b s → t < length b.tenants → k ≤ s.top
    → IsChoice b.top (buddies.is_held (buddies.holding_of t b)) (buddies.taken_of (buddies.holding_of t b)) k (block f j)
    → buddies.BuddyLaws (reserved t f k b)
    → Acts (content_of r b s) (Runs (On.Tenant t (Alloc k)) (to_tenant t (Frame f))) (content_of r (reserved t f k b) s)
unfolding command_step
alloc_acts r b s t k f j together tenant small chosen laws =
    let old = content_of r b s in
    let new = content_of r (reserved t f k b) s in
    let row = has_row r b s t together.agree tenant in
    let served : IsServed r b s t k together.agree together.buddy row (reserved t f k b) (Some f) =
    is_served r b s t k together.agree together.buddy row (steady r b s t together tenant) (reserved t f k b) (Some f) tt (j, (chosen, refl)) in
    let is = kernel_of r (reserved t f k b) s (record { space = together.space; buddy = laws; slabs = together.slabs; agree = served.agree }) in (
      steps_asked old new t t (Alloc k) (Frame f) refl tenant (λ w shown. is.agree)
          (alloc_done r r b (reserved t f k b) s s t k (Some f) (record {
            agree = together.agree;
            spares = served.spares;
            order = small;
            answer = λ m shown. found_choice s.top k m f (served.answer m shown);
            shows = λ m shown. subst (ShowsMachine r (reserved t f k b) s t) (sym (found_step s.top k m small f (served.answer m shown))) (served.shows m shown);
            refused = tt;
          })),
      is,
    )

-- A read of one byte

one_byte : (xs : List ℕ) (x : ℕ) → length xs ≡ 1 → slice_index xs 0 ≡ x → xs ≡ x ∷ []
one_byte [] x one is = absurd (omega arith)
one_byte (y ∷ []) x one is = ap (λ z. z ∷ []) is
one_byte (y ∷ z ∷ zs) x one is = absurd (omega arith)

-- if a load by tenant t at a place gives this byte, the window of one byte there has this byte
read_window : (k : KernelContent) (t place byte : ℕ) → IsKernel k → Loads k t place byte → window_of k.space t place 1 ≡ Some (byte ∷ [])
read_window k t place byte is loads =
    go (home_of k.space t place 1) refl
    (held k.space k.buddy k.slabs t place 1 (record { together = is.together; tenant = omega (arith, is.agree.holdings, loads.tenant) }) loads.reach)
  where
    go : (o : Option ℕ) → home_of k.space t place 1 ≡ o → IsSome o → window_of k.space t place 1 ≡ Some (byte ∷ [])
    go None home some = absurd (false≢true some)
    go (Some m) home some =
        let xs = slice_range (spaces.bank k.space.banks m) (place % k.space.unit) (place % k.space.unit + 1) in
        let window : window_of k.space t place 1 ≡ Some xs = ap (bytes_under k.space.banks (place % k.space.unit) 1) home in
        let read = is.together.space.own_bytes.read t place 1 xs window in
        let here : place + 0 ≡ place = omega arith in
        let first : slice_index xs 0 ≡ byte =
        some_same (sym (subst (λ p. byte_at k.space t p ≡ Some (slice_index xs 0)) here (read.each 0 (omega arith))) ∙ loads.is) in
        window ∙ ap Some (one_byte xs byte read.count first)

pub read_acts : (k : KernelContent) (t place byte : ℕ) → IsKernel k → Loads k t place byte
    → Acts k (Runs (On.Tenant t (Read place 1)) (to_tenant t (Bytes (record { items = byte ∷ [] })))) k
unfolding command_step
read_acts k t place byte is loads =
    let asked : IsRequested k.space k.buddy k.slabs t = record { together = is.together; tenant = omega (arith, is.agree.holdings, loads.tenant) } in (
      steps_asked k k t t (Read place 1) (Bytes (record { items = byte ∷ [] })) refl loads.tenant (λ w shown. is.agree)
          (read_done k t place 1 (byte ∷ []) asked (omega arith) (omega arith) loads.reach (read_window k t place byte is loads)),
      is,
    )

-- a range inside frame 0 is in reach if the frame is a page block
pub in_frame : (r : spaces.Content) (b : buddies.Content) (s : tables.Content) (t place len : ℕ) → buddies.taken_of (buddies.holding_of t b) 0 ≡ Some 0
    → has_slab s (machine_frame_of s.top r.slots t 0) ≡ false → 0 < len → place + len ≤ 4096 → IsInReach r b s t place len
in_frame r b s t place len taken page some inside = record {
  some = some;
  inside = inl (record { first = 0; order = 0; taken = taken; page = page; begins = omega arith; ends = inside });
}

-- Examples of buddy systems: two superblocks of 8 frames and two tenants. Each tenant may hold its slot 0, and may have a block
-- at frame 0.

abbrev pub holder : Option ℕ → Option ℕ → buddies.Holding
holder superblock taken = record { slots = superblock ∷ None ∷ []; taken = taken ∷ replicate 15 None }

abbrev pub holders : Option ℕ → Option ℕ → Option ℕ → Option ℕ → buddies.Content
holders a x b y = record { top = 3; superblocks = 2; tenants = holder a x ∷ holder b y ∷ [] }

pub holder_frame : (a x : Option ℕ) (f k : ℕ) → buddies.taken_of (holder a x) f ≡ Some k → (f ≡ 0) × (x ≡ Some k)
holder_frame a x zero k is = (refl, is)
holder_frame a x (suc f) k is = let none = none_in {A = ℕ} 15 f in absurd (cc)

holder_slot : (a x : Option ℕ) (u m : ℕ) → buddies.superblock_at (holder a x) u ≡ Some m → (u ≡ 0) × (a ≡ Some m)
holder_slot a x zero m is = (refl, is)
holder_slot a x (suc zero) m is = absurd (cc)
holder_slot a x (suc (suc u)) m is = absurd (cc)

-- if a block is taken at frame 0, its order is 0 and slot 0 is held
abbrev IsPlaced : Option ℕ → Option ℕ → Type 0
IsPlaced a x = (k : ℕ) → x ≡ Some k → (k ≡ 0) × (is_some a ≡ true)

holder_sound : (a x : Option ℕ) → IsPlaced a x → buddies.IsSoundHolding 3 (holder a x)
holder_sound a x placed = record {
  placed = λ f k is.
      let first = holder_frame a x f k is in let one = placed k first.1 in
      subst (λ n. IsAligned 3 (block f n) × (buddies.is_held (holder a x) (f / 2 ^ 3) ≡ true)) (sym one.0)
      (subst (λ g. IsAligned 3 (block g 0) × (buddies.is_held (holder a x) (g / 2 ^ 3) ≡ true)) (sym first.0)
      ((omega arith, refl), one.1));
  apart = λ f k g j z is is' _ _. (holder_frame a x f k is).0 ∙ sym (holder_frame a x g j is').0;
}

module _ (a x b y : Option ℕ) (placed : IsPlaced a x) (placed' : IsPlaced b y) (differ : (m : ℕ) → a ≡ Some m → b ≡ Some m → ⊥) where
  slots : (t : ℕ) → t < 2 → length (buddies.holding_of t (holders a x b y)).slots ≡ 2
  slots zero here = refl
  slots (suc zero) here = refl
  slots (suc (suc t)) here = absurd (omega arith)

  frames : (t : ℕ) → t < 2 → length (buddies.holding_of t (holders a x b y)).taken ≡ 16
  frames zero here = refl
  frames (suc zero) here = refl
  frames (suc (suc t)) here = absurd (omega arith)

  sound : (t : ℕ) → t < 2 → buddies.IsSoundHolding 3 (buddies.holding_of t (holders a x b y))
  sound zero here = holder_sound a x placed
  sound (suc zero) here = holder_sound b y placed'
  sound (suc (suc t)) here = absurd (omega arith)

  apart : (t u v w m : ℕ) → buddies.superblock_at (buddies.holding_of t (holders a x b y)) u ≡ Some m
      → buddies.superblock_at (buddies.holding_of v (holders a x b y)) w ≡ Some m → (t ≡ v) × (u ≡ w)
  apart zero u zero w m is is' = (refl, (holder_slot a x u m is).0 ∙ sym (holder_slot a x w m is').0)
  apart (suc zero) u (suc zero) w m is is' = (refl, (holder_slot b y u m is).0 ∙ sym (holder_slot b y w m is').0)
  apart zero u (suc zero) w m is is' = absurd (differ m (holder_slot a x u m is).1 (holder_slot b y w m is').1)
  apart (suc zero) u zero w m is is' = absurd (differ m (holder_slot a x w m is').1 (holder_slot b y u m is).1)
  apart (suc (suc t)) u v w m is is' = absurd (cc)
  apart t u (suc (suc v)) w m is is' = absurd (cc)

  pub holders_laws : buddies.BuddyLaws (holders a x b y)
  holders_laws = record {
    sizes = record { small = omega arith; few = omega arith; frames = omega arith; tenants = omega arith; slots = slots; taken = frames };
    sound = sound;
    apart = apart;
  }

-- if only slot 0 is held and nothing is taken, a request for one frame is served from the free block of order 3 at frame 0
pub chosen : (m : ℕ) → IsChoice 3 (buddies.is_held (holder (Some m) None)) (buddies.taken_of (holder (Some m) None)) 0 (block 0 3)
chosen m = choice_is_found 3 (buddies.is_held (holder (Some m) None)) (buddies.taken_of (holder (Some m) None)) 2 0 below
  where
    below : (u : ℕ) → buddies.is_held (holder (Some m) None) u ≡ true → u < 2
    below zero is = omega arith
    below (suc zero) is = omega arith
    below (suc (suc u)) is = absurd (false≢true is)

-- The memory, the tables and the kernel after boot

abbrev pub opened_space : spaces.Content
opened_space = spaces.empty_space (4096 * 2 ^ 3) 2 2

abbrev pub no_slabs : tables.Content
no_slabs = tables.empty_tables 3 2 2

abbrev pub opened : KernelContent
opened = content_of opened_space (holders None None None None) no_slabs

opened_is : opened ≡ opening_content 3 2 2
unfolding opening_content
opened_is = refl

pub is_opened : IsBooted opened 2 2
is_opened = record {
  kernel = kernel_of opened_space (holders None None None None) no_slabs (record {
    space = laws_of (empty_space-IsSpace (4096 * 2 ^ 3) 2 2 (omega arith) (omega arith) (omega arith) (omega arith) (omega arith));
    buddy = holders_laws None None None None (λ k is. absurd (cc)) (λ k is. absurd (cc)) (λ m is is'. cc);
    slabs = slabs_opening 3 2 2 (omega arith) (omega arith) (omega arith) (omega arith);
    agree = (opening_shows 3 2 2).agree;
  });
  shows = subst (λ (x : KernelContent). Shows x (opening_world 2 2)) (sym opened_is) (opening_shown 2 2 (omega arith) (omega arith));
}
