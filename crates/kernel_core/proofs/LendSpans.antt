-- The bytes that can be lent: a page block around a place, or a live object that begins at a place.
use Rattle.std.proofs.Common.{◌≡◌, inl, inr, ℕ, ◌*◌, ◌/◌, ◌%◌, ◌^◌, ◌<◌, ◌≤◌, Bool, true, false, if◌then◌else◌, Option, Some, None, refl, sym, ap, ◌∙◌, subst, arith}
use Rattle.std.specs.Prelude.{is_some}
use Rattle.std.proofs.lemmas.Bool.{false≢true, lt-ltb, le-ltb}
use Rattle.std.proofs.Math.Nat.{pow-le-pow_right, mod-eq_of_lt}
use Rattle.model_core.specs.declared.limits.TheConstants.{WIDE_ORDER}
use Rattle.model_core.specs.Blocks.{block, HasFrame, IsTaken}
use Rattle.model_core.specs.Machine.{Machine, order_in}
use Rattle.space_core.specs.Content as spaces
use Rattle.buddy_core.specs.Content as buddies
use Rattle.slab_tables.specs.Content as tables
use Rattle.machine_changes.specs.Shows.{machine_frame_of, has_slab}
use Rattle.machine_changes.specs.Changes.{Found}
use Rattle.machine_changes.specs.Objects.{HasRange}
use Rattle.machine_changes.specs.Pages.{IsInPage, IsInReach}
use Rattle.machine_changes.specs.Steady.{IsSteady}
use Rattle.machine_changes.proofs.Lookups.{some_none}
use Rattle.machine_changes.proofs.PageReachByBlock.{block_decides, no_block_decides}
use Rattle.slab_core.specs.Lending.{IsPageAt}
use Rattle.words_core.specs.declared.event.Event.TheVariants as On
use Rattle.words_core.specs.declared.event.Command.{Command}
use Rattle.words_core.specs.declared.reply.Addressee.TheVariants as To
use Rattle.words_core.specs.declared.reply.Body.{Body}
use Rattle.words_core.specs.declared.reply.Body.TheVariants.{Refused}
use Rattle.words_core.specs.declared.reply.Refusal.{Refusal}
use Rattle.words_core.specs.declared.reply.Refusal.TheVariants.{NoTenant}
use Rattle.kernel_core.specs.Content.{KernelContent, PartsAgree, content_of}
use Rattle.kernel_core.specs.Steps.{Steps, StepsMachine}
use Rattle.kernel_core.specs.Shows.{ShowsMachine}
use Rattle.kernel_core.specs.Lending.{IsLive, HasBlock, IsBlockSpan, reply_for}
use Rattle.kernel_core.proofs.KernelToWorld.{unknown_tenant, steps_asked}
use Rattle.kernel_core.proofs.CallEffects.{steady}
use Rattle.kernel_core.proofs.PageCalls.{block_slot, IsRequested, not_held, home_is}

-- a block of order k is taken, and no slab begins at it
record IsPage (v : Bool) (o : Option ℕ) (k : ℕ) : Type 0 where
  page : v ≡ false
  taken : o ≡ Some k

page_from : (v : Bool) (o : Option ℕ) (k : ℕ) → (if v then None else o) ≡ Some k → IsPage v o k
page_from true o k is = absurd (some_none (sym is))
page_from false o k is = record { page = refl; taken = is }

-- if an order is at most WIDE_ORDER, the size in bytes of a page block of this order fits in 32 bits
size_is : (order : ℕ) → order ≤ WIDE_ORDER → 4096 * 2 ^ order % 4294967296 ≡ 4096 * 2 ^ order
size_is order few =
    let two : 0 < 2 = omega arith in
    let frames : 2 ^ order ≤ 1024 = pow-le-pow_right two few in
    mod-eq_of_lt (omega (arith, frames))

module _ (r : spaces.Content) (b : buddies.Content) (s : tables.Content) (t place : ℕ) (asked : IsRequested r b s t) where
  st : IsSteady r b s t
  st = steady r b s t asked.together asked.tenant

  -- if a place lies in a page block of the machine, it lies in a page block of the parts
  page_of : (m : Machine) → ShowsMachine (content_of r b s) t m → IsTaken (order_in m.blocks) (place / 4096) → IsInPage r b s t place 1
  page_of m shown taken =
      let f : ℕ = taken.0 in
      let k : ℕ = taken.1 in
      let is = page_from (has_slab s (machine_frame_of s.top r.slots t f)) (buddies.taken_of (buddies.holding_of t b) f) k (sym (shown.blocks f) ∙ taken.2) in
      let here = taken.3 in record {
        first = f;
        order = k;
        taken = is.taken;
        page = is.page;
        begins = omega (arith, here.0);
        ends = omega (arith, here.1);
      }

  -- there is no page block in a slot that is not held
  pub unheld_no_page : spaces.superblock_at r.slots t (place / 4096 / 2 ^ s.top) ≡ None → (m : Machine) → ShowsMachine (content_of r b s) t m
      → IsTaken (order_in m.blocks) (place / 4096) → ⊥
  unheld_no_page none m shown taken = not_held r b s t place 1 asked none (record { some = omega arith; inside = inl (page_of m shown taken) })

  -- there is no page block at a frame that is not taken
  pub free_no_page : (IsTaken (buddies.taken_of (buddies.holding_of t b)) (place / 4096) → ⊥) → (m : Machine) → ShowsMachine (content_of r b s) t m
      → IsTaken (order_in m.blocks) (place / 4096) → ⊥
  free_no_page none m shown taken = no_block_decides r b s t place 1 (omega arith) none (page_of m shown taken)

  module _ (first order : ℕ) (taken : buddies.taken_of (buddies.holding_of t b) first ≡ Some order) (here : HasFrame (block first order) (place / 4096)) where
    -- there is no page block at the frames of a slab
    pub slab_no_page : has_slab s (machine_frame_of s.top r.slots t first) ≡ true → (m : Machine) → ShowsMachine (content_of r b s) t m
        → IsTaken (order_in m.blocks) (place / 4096) → ⊥
    slab_no_page slab m shown there =
        false≢true (sym ((block_decides r b s t place 1 first order st (omega arith) taken here).0 (page_of m shown there)).0 ∙ slab)

    pub few : order ≤ WIDE_ORDER
    few =
        let below = (st.sound.placed first order taken).0.0 in
        let same = asked.together.agree.order in
        let top = asked.together.buddy.sizes.small in
        omega arith

    module _ (page : has_slab s (machine_frame_of s.top r.slots t first) ≡ false) where
      size : 4096 * 2 ^ order % 4294967296 ≡ 4096 * 2 ^ order
      size = size_is order few

      some : 0 < 2 ^ order
      some =
          let two : 0 < 2 = omega arith in
          let one : 2 ^ 0 ≤ 2 ^ order = pow-le-pow_right two {i = 0} {j = order} (omega arith) in
          omega (arith, one)

      pub block_live : (m : ℕ) → spaces.superblock_at r.slots t (place / 4096 / 2 ^ s.top) ≡ Some m
          → IsLive (content_of r b s) (record { tenant = t; place = 4096 * first; bytes = 4096 * 2 ^ order % 4294967296; superblock = m })
      block_live m under =
          let reach : IsInReach r b s t (4096 * first) (4096 * 2 ^ order % 4294967296) = record {
            some = omega (arith, size, some);
            inside = inl (record { first = first; order = order; taken = taken; page = page; begins = omega arith; ends = omega (arith, size) });
          } in
          let frame : 4096 * first / 4096 ≡ first = omega arith in
          let at = ap (spaces.superblock_at r.slots t) (ap (λ f. f / 2 ^ s.top) frame ∙ block_slot r b s t first order (place / 4096) st taken here) ∙ under in
          record { tenant = asked.tenant; reach = reach; home = home_is r b s t (4096 * first) (4096 * 2 ^ order % 4294967296) asked m at reach }

      pub has_block : (m : Machine) → ShowsMachine (content_of r b s) t m → HasBlock m place (4096 * first) (4096 * 2 ^ order % 4294967296)
      has_block m shown = record {
        first = first;
        order = order;
        live = shown.blocks first ∙ (ap (λ v. if v then None else buddies.taken_of (buddies.holding_of t b) first) page ∙ taken);
        around = here;
        begins = refl;
        size = size;
      }

  -- the range lies inside a live object
  module _ (bytes : ℕ) (object : (o : Found) × HasRange r s t place bytes o) where
    reach : IsInReach r b s t place bytes
    reach = record { some = object.1.some; inside = inr object }

    pub object_live : (m : ℕ) → spaces.superblock_at r.slots t (place / 4096 / 2 ^ s.top) ≡ Some m
        → IsLive (content_of r b s) (record { tenant = t; place = place; bytes = bytes; superblock = m })
    object_live m under = record { tenant = asked.tenant; reach = reach; home = home_is r b s t place bytes asked m under reach }

    pub object_held : (o : Option ℕ) → spaces.superblock_at r.slots t (place / 4096 / 2 ^ s.top) ≡ o → (m : ℕ) × (o ≡ Some m)
    object_held None under = absurd (not_held r b s t place bytes asked under reach)
    object_held (Some m) under = (m, refl)

-- a page block begins at frame `first`
module _ (r : spaces.Content) (b : buddies.Content) (s : tables.Content) (t first order : ℕ) (asked : IsRequested r b s t) (page : IsPageAt r b s t first order) where
  same_frame : 4096 * first / 4096 ≡ first
  same_frame = omega arith

  here : HasFrame (block first order) (4096 * first / 4096)
  here =
      let two : 0 < 2 = omega arith in
      let one : 2 ^ 0 ≤ 2 ^ order = pow-le-pow_right two {i = 0} {j = order} (omega arith) in
      (omega (arith, same_frame), omega (arith, same_frame, one))

  pub page_few : order ≤ WIDE_ORDER
  page_few = few r b s t (4096 * first) asked first order page.taken here

  pub page_held : (o : Option ℕ) → spaces.superblock_at r.slots t (first / 2 ^ s.top) ≡ o → (m : ℕ) × (o ≡ Some m)
  page_held None under = absurd (false≢true (sym (ap is_some under) ∙ ((steady r b s t asked.together asked.tenant).sound.placed first order page.taken).1))
  page_held (Some m) under = (m, refl)

  pub page_live : (m : ℕ) → spaces.superblock_at r.slots t (first / 2 ^ s.top) ≡ Some m
      → IsLive (content_of r b s) (record { tenant = t; place = 4096 * first; bytes = 4096 * 2 ^ order % 4294967296; superblock = m })
  page_live m under =
      block_live r b s t (4096 * first) asked first order page.taken here page.page m (ap (λ f. spaces.superblock_at r.slots t (f / 2 ^ s.top)) same_frame ∙ under)

  pub page_span : (m : ℕ) → IsBlockSpan (record { tenant = t; place = 4096 * first; bytes = 4096 * 2 ^ order % 4294967296; superblock = m }) t first order
  page_span m = record { tenant = refl; place = refl; bytes = size_is order page_few }

-- Replies to a tenant that an event names by its number

-- if tenant t exists and `Why` holds for it, the same two facts hold for the number `tenant`, which equals t
pub refused_for : (k : KernelContent) (t tenant : ℕ) (Why : ℕ → Type 0) → t ≡ tenant → t < k.tenants → Why t → (tenant < k.tenants) × Why tenant
refused_for k t tenant Why same less why = subst (λ u. (u < k.tenants) × Why u) same (less, why)

pub reply_unknown : (k : KernelContent) (tenant : ℕ) (command : Command) → k.tenants ≤ tenant
    → Steps k (On.Tenant tenant command) k (reply_for k tenant (Refused NoTenant))
reply_unknown k tenant command past =
    subst (λ v. Steps k (On.Tenant tenant command) k (record { addressee = if v then To.Tenant tenant else To.Nobody; body = Refused NoTenant }))
    (sym (le-ltb tenant k.tenants past)) (unknown_tenant k tenant command past)

pub reply_known : (k k' : KernelContent) (t tenant : ℕ) (command : Command) (body : Body) → t ≡ tenant → t < k.tenants → PartsAgree k'
    → StepsMachine k t command k' body → Steps k (On.Tenant tenant command) k' (reply_for k tenant body)
reply_known k k' t tenant command body same less agree steps =
    subst (λ v. Steps k (On.Tenant tenant command) k' (record { addressee = if v then To.Tenant tenant else To.Nobody; body = body }))
    (sym (lt-ltb tenant k.tenants (subst (λ u. u < k.tenants) same less)))
    (subst (λ u. Steps k (On.Tenant tenant command) k' (record { addressee = To.Tenant u; body = body })) same
    (steps_asked k k' t tenant command body same less (λ w shown. agree) steps))

-- if a command of an existing tenant is refused, this refusal is the reply of the event in the world
pub reply_refused : (k k' : KernelContent) (t tenant : ℕ) (command : Command) (refusal : Refusal) → t ≡ tenant → t < k.tenants → PartsAgree k
    → StepsMachine k t command k' (Refused refusal) → Steps k (On.Tenant tenant command) k' (reply_for k tenant (Refused refusal))
reply_refused k k' t tenant command refusal same less agree steps =
    reply_known k k' t tenant command (Refused refusal) same less (subst PartsAgree (sym (steps.refused refl)) agree) steps
