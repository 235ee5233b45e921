-- A call that frees by place: what it freed, and why it is refused.
use Rattle.std.proofs.Common.{◌≡◌, inl, inr, ℕ, ◌*◌, ◌/◌, ◌%◌, ◌^◌, ◌<◌, ◌≤◌, ◌==◌, Bool, false, true, List, Option, Some, None, Result, Ok, Err, ok_or, min, refl, sym, ap, ◌∙◌, subst, arith}
use Rattle.std.specs.Prelude.{MatchOption, if◌then◌else◌, slice_index_or, IsSome, IfSome}
use Rattle.std.proofs.lemmas.Bool.{false≢true, eq-eqb, ne_eqb, and_right}
use Rattle.std.proofs.lemmas.Nat.{pow_pos}
use Rattle.std.proofs.Math.Nat.{pow-le-pow_right, mod-eq_of_lt}
use Rattle.model_core.specs.declared.limits.TheConstants.{WIDE_ORDER}
use Rattle.model_core.specs.declared.refusals.GiveRefusal.{GiveRefusal}
use Rattle.model_core.specs.Machine.{Cache, Machine, order_in}
use Rattle.model_core.specs.Operations.{free_at, free_step}
use Rattle.model_core.specs.CacheOperations.{give_step}
use Rattle.model_core.specs.Reach.{in_reach}
use Rattle.klist_core.specs.Places.{place_at}
use Rattle.space_core.specs.Content as spaces
use Rattle.buddy_core.specs.Content as buddies
use Rattle.slab_tables.specs.declared.cache.Cache as own
use Rattle.slab_tables.specs.Content as tables
use Rattle.machine_changes.specs.Shows.{machine_frame_of, has_slab}
use Rattle.machine_changes.specs.Steady.{IsSteady}
use Rattle.machine_changes.proofs.Lookups.{some_same, some_none}
use Rattle.machine_changes.proofs.SlabFacts.{cache_shown}
use Rattle.machine_changes.proofs.SteadyParts.{in_table, placed_as}
use Rattle.words_core.specs.declared.event.Command.TheVariants as Command
use Rattle.words_core.specs.declared.reply.Body.TheVariants.{Freed, Given, Refused}
use Rattle.words_core.specs.declared.reply.Refusal.{Refusal}
use Rattle.world_core.specs.Limits.{cache_limit}
use Rattle.world_core.specs.PrivateStep.{command_step, free_body, give_body}
use Rattle.kernel_core.specs.declared.holders.Holder.{Holder}
use Rattle.kernel_core.specs.Content.{KernelContent, PartsAgree, content_of}
use Rattle.kernel_core.specs.Shows.{ShowsMachine}
use Rattle.kernel_core.specs.Steps.{StepsMachine}
use Rattle.kernel_core.specs.Stores.{IsKernel}
use Rattle.kernel_core.specs.Lending.{HasBlock}
use Rattle.kernel_core.specs.Holders.{HasObjectAround, IsHolder}
use Rattle.kernel_core.specs.Lookups.{Refused as NotFound, FoundHolder, found_or_refused}
use Rattle.kernel_core.specs.Releasing.{freeing, freeing_holder, freeing_in, FreesOf, RefusesOf, ReleasesOf, Releases}
use Rattle.kernel_core.proofs.LookupAnswers.{holder_answers, holder_found, no_holder}
use Rattle.kernel_core.proofs.ShownWellFormed.{shown_well_formed}
use Rattle.kernel_core.proofs.LendSpans.{page_few, refused_for, reply_known}
use Rattle.kernel_core.proofs.PageCalls.{IsRequested}

-- Answers of a free and of a give

-- a free that returned an order freed a page block of this order
freed_order : (order : ℕ) (x : Option ℕ) → Freed order ≡ free_body x → x ≡ Some order
freed_order order None is = absurd (cc)
freed_order order (Some k) is = cc

order_of_free : (f order : ℕ) (m : Machine) → (free_step f m).answer ≡ Some order → order_in m.blocks f ≡ Some order
unfolding free_step
order_of_free f order m is = go (order_in m.blocks f) is
  where
    go : (x : Option ℕ) → (free_at f m x).answer ≡ Some order → x ≡ Some order
    go None none = none
    go (Some k) some = some

-- A place at which a page block begins

module _ (place : ℕ) (k : KernelContent) (m : Machine) where
  -- if a free of the frame returned an order, the machine has a page block of this order there
  pub block_freed : (order bytes : ℕ) → place % 4096 ≡ 0 → bytes ≡ 4096 * 2 ^ order
      → Freed order ≡ (command_step cache_limit k.order (Command.Free (place / 4096)) m).answer → HasBlock m place place bytes
  unfolding command_step
  block_freed order bytes whole size told =
      let some : 0 < 2 ^ order = pow_pos order in
      record {
        first = place / 4096;
        order = order;
        live = order_of_free (place / 4096) order m (freed_order order (free_step (place / 4096) m).answer told);
        around = (omega arith, omega (arith, some));
        begins = omega (arith, whole);
        size = size;
      }

  pub live_of_free : (order : ℕ) → Freed order ≡ (command_step cache_limit k.order (Command.Free (place / 4096)) m).answer → order_in m.blocks (place / 4096) ≡ Some order
  unfolding command_step
  live_of_free order told = order_of_free (place / 4096) order m (freed_order order (free_step (place / 4096) m).answer told)

  -- if the machine has a page block there, a free of its frame is not refused
  pub block_frees : (bytes : ℕ) (why : Refusal) → HasBlock m place place bytes
      → Refused why ≡ (command_step cache_limit k.order (Command.Free (place / 4096)) m).answer → ⊥
  unfolding command_step free_step
  block_frees bytes why is told = go (order_in m.blocks (place / 4096)) (ap (order_in m.blocks) frame ∙ is.live) told
    where
      frame : place / 4096 ≡ is.first
      frame = let begins = is.begins in omega (arith, begins)

      go : (x : Option ℕ) → x ≡ Some is.order → Refused why ≡ free_body (free_at (place / 4096) m x).answer → ⊥
      go None none refuses = absurd (some_none (sym none))
      go (Some k) some refuses = absurd (cc)

-- A place at which an object begins

given_ok : (x : Result (Unit {0}) GiveRefusal) → Given ≡ give_body x → x ≡ Ok tt
given_ok (Ok done) is = refl
given_ok (Err refusal) is = absurd (cc)

-- if a give of the object at the place was done, the machine has this object
pub object_given : (r : spaces.Content) (b : buddies.Content) (s : tables.Content) (t place c : ℕ) (cache : own.Cache) (o bytes : ℕ) → tables.IsSlabs s
    → tables.cache_at s t c ≡ Some cache → bytes ≡ cache.layout.size
    → (m : Machine) → ShowsMachine (content_of r b s) t m → Given ≡ (command_step cache_limit o (Command.Give c place) m).answer
    → HasObjectAround m place c place bytes
unfolding command_step
object_given r b s t place c cache o bytes slabs cached size m shown told =
    let there = cache_shown r b s t m shown c cache cached in
    let kept = in_table s t c cache cached in
    let sized = (slabs.fits (tables.index_of_cache t c) cache kept.cached).layout.sized in
    record {
      number = kept.number;
      object = record {
        cache = there.shown;
        cached = there.cached;
        size = ap (λ (x : Cache). x.size) there.same ∙ sym size;
        given = given_ok (give_step c place m).answer told;
      };
      from = omega arith;
      below = omega (arith, size, sized);
    }

-- if the machine has an object there, a give of it is not refused
pub object_gives : (place c bytes o : ℕ) (why : Refusal) (m : Machine) → HasObjectAround m place c place bytes
    → Refused why ≡ (command_step cache_limit o (Command.Give c place) m).answer → ⊥
unfolding command_step
object_gives place c bytes o why m is told = go (give_step c place m).answer is.object.given told
  where
    go : (x : Result (Unit {0}) GiveRefusal) → x ≡ Ok tt → Refused why ≡ give_body x → ⊥
    go (Ok done) some refuses = absurd (cc)
    go (Err refusal) none refuses = absurd (cc)

-- The cache of the slab that begins at a frame of the tenant

pub slab_cached : (r : spaces.Content) (b : buddies.Content) (s : tables.Content) (t first list n key : ℕ) → IsSteady r b s t
    → machine_frame_of s.top r.slots t first ≡ Some n → place_at s.lists.places n ≡ Some (list, key) → IsSome (tables.cache_at s t (list / 3 % 32))
slab_cached r b s t first list n key st under place =
    let slab = st.listed first n list key under place in
    let it = placed_as r s t slab.0 first n slab.1 slab.2 in
    let same : it.head ≡ list = ap (λ (p : ℕ × ℕ). p.0) (some_same (sym it.place ∙ place)) in
    let index = it.index in
    let less = it.number in
    let number : list / 3 % 32 ≡ slab.0 = omega (arith, same, index, less) in
    subst IsSome (sym (ap (tables.cache_at s t) number ∙ slab.2.cached)) refl

-- Which command frees, and which refusal

pub page_command : (sizes : List ℕ) (place bytes : ℕ) → freeing sizes place None place bytes ≡ Ok (Command.Free (place / 4096))
page_command sizes place bytes = rw (eq-eqb place place refl) refl

pub object_command : (sizes : List ℕ) (place c bytes : ℕ) → slice_index_or sizes c 0 ≡ bytes → freeing sizes place (Some c) place bytes ≡ Ok (Command.Give c place)
object_command sizes place c bytes size = rw (eq-eqb place place refl, eq-eqb (slice_index_or sizes c 0) bytes size) refl

pub page_inside : (sizes : List ℕ) (place begin bytes : ℕ) → (begin ≡ place → ⊥) → freeing sizes place None begin bytes ≡ Err Refusal.NotABlock
page_inside sizes place begin bytes apart = rw (ne_eqb begin place apart) refl

pub object_inside : (sizes : List ℕ) (place c begin bytes : ℕ) → (begin ≡ place → ⊥) → freeing sizes place (Some c) begin bytes ≡ Err Refusal.NotAnObject
object_inside sizes place c begin bytes apart = rw (ne_eqb begin place apart) refl

pub object_of_size : (sizes : List ℕ) (place c begin bytes : ℕ) → (slice_index_or sizes c 0 ≡ bytes → ⊥) → freeing sizes place (Some c) begin bytes ≡ Err Refusal.NotAnObject
object_of_size sizes place c begin bytes apart =
    rw (and_right (begin == place) (slice_index_or sizes c 0 == bytes) (ne_eqb (slice_index_or sizes c 0) bytes apart)) refl

-- The refusal of a machine that the kernel shows, from the holder that was looked up

module _ (k : KernelContent) (t : ℕ) (is : IsKernel k) (less : t < k.tenants) (place : ℕ) where
  pub none_refused : (sizes : List ℕ) (m : Machine) → ShowsMachine k t m → in_reach m place 1 ≡ false → freeing_in sizes place m ≡ Err Refusal.OutOfReach
  none_refused sizes m shown beyond = ap (freeing_holder sizes place) (no_holder m place beyond)

  pub some_refused : (sizes : List ℕ) (m : Machine) → ShowsMachine k t m → (h : Holder) → IsHolder m place h
      → (why : Refusal) → freeing sizes place h.cache h.place h.bytes ≡ Err why → freeing_in sizes place m ≡ Err why
  some_refused sizes m shown h holds why refuses =
      ap (freeing_holder sizes place) (holder_found k.order m (shown_well_formed k t m is less shown) place h holds) ∙ refuses

-- A page block of this order is small enough for its size in bytes to fit

page_taken : (v : Bool) (o : Option ℕ) (order : ℕ) → (if v then None else o) ≡ Some order → (v ≡ false) × (o ≡ Some order)
page_taken true o order is = absurd (some_none (sym is))
page_taken false o order is = (refl, is)

pub page_bytes : (k : KernelContent) (t f order least : ℕ) → IsRequested k.space k.buddy k.slabs t → least ≡ min order WIDE_ORDER
    → (m : Machine) → ShowsMachine k t m → order_in m.blocks f ≡ Some order → 4096 * 2 ^ least % 4294967296 ≡ 4096 * 2 ^ order
page_bytes k t f order least asked is m shown live =
    let page = page_taken (has_slab k.slabs (machine_frame_of k.slabs.top k.space.slots t f)) (buddies.taken_of (buddies.holding_of t k.buddy) f) order (sym (shown.blocks f) ∙ live) in
    let few = page_few k.space k.buddy k.slabs t f order asked (record { taken = page.1; page = page.0 }) in
    let same : least ≡ order = omega (arith, few, is) in
    let two : 0 < 2 = omega arith in
    let frames : 2 ^ order ≤ 1024 = pow-le-pow_right two few in
    ap (λ n. 4096 * 2 ^ n % 4294967296) same ∙ mod-eq_of_lt (omega (arith, frames))

-- The outcomes of a call for an existing tenant

module _ (k : KernelContent) (t place : ℕ) (sizes : List ℕ) where
  -- a page block was freed
  pub page_freed : (k' : KernelContent) (order least : ℕ) → IsRequested k.space k.buddy k.slabs t → place % 4096 ≡ 0 → least ≡ min order WIDE_ORDER
      → StepsMachine k t (Command.Free (place / 4096)) k' (Freed order)
      → FreesOf k t place sizes k' (record { cache = None; place = place; bytes = 4096 * 2 ^ least % 4294967296 })
  page_freed k' order least asked whole is steps = record {
    command = Command.Free (place / 4096);
    body = Freed order;
    steps = steps;
    done = refl;
    holds = λ m shown.
        let told = steps.does.answer m shown in
        block_freed place k m order (4096 * 2 ^ least % 4294967296) whole
        (page_bytes k t (place / 4096) order least asked is m shown (live_of_free place k m order told)) told;
    frees = page_command sizes place (4096 * 2 ^ least % 4294967296);
  }

  -- an object was given back
  pub object_freed : (k' : KernelContent) (c bytes : ℕ) (o : Option own.Cache) → IsRequested k.space k.buddy k.slabs t → tables.cache_at k.slabs t c ≡ o → IsSome o
      → IfSome o (λ cache. bytes ≡ cache.layout.size) → slice_index_or sizes c 0 ≡ bytes → StepsMachine k t (Command.Give c place) k' Given
      → FreesOf k t place sizes k' (record { cache = Some c; place = place; bytes = bytes })
  object_freed k' c bytes None asked cached held size allowed steps = absurd (false≢true held)
  object_freed k' c bytes (Some cache) asked cached held size allowed steps = record {
    command = Command.Give c place;
    body = Given;
    steps = steps;
    done = refl;
    holds = λ m shown. object_given k.space k.buddy k.slabs t place c cache k.order bytes asked.together.slabs cached size m shown (steps.does.answer m shown);
    frees = object_command sizes place c bytes allowed;
  }

  module _ (is : IsKernel k) (less : t < k.tenants) where
    pub none_found : ((m : Machine) → ShowsMachine k t m → in_reach m place 1 ≡ false) → RefusesOf k t place sizes k Refusal.OutOfReach
    none_found told = record { kept = refl; why = λ m shown. none_refused k t is less place sizes m shown (told m shown); holder = None; holds = told }

    module _ (h : Holder) (told : (m : Machine) → ShowsMachine k t m → IsHolder m place h) where
      -- the machine refuses what was found
      pub found_refused : (why : Refusal) → freeing sizes place h.cache h.place h.bytes ≡ Err why → RefusesOf k t place sizes k why
      found_refused why refuses = record {
        kept = refl;
        why = λ m shown. some_refused k t is less place sizes m shown h (told m shown) why refuses;
        holder = Some h;
        holds = told;
      }

      pub page_refused : h.cache ≡ None → (h.place ≡ place → ⊥) → RefusesOf k t place sizes k Refusal.NotABlock
      page_refused none apart = found_refused Refusal.NotABlock
          (subst (λ c. freeing sizes place c h.place h.bytes ≡ Err Refusal.NotABlock) (sym none) (page_inside sizes place h.place h.bytes apart))

      pub object_refused : (c : ℕ) → h.cache ≡ Some c → freeing sizes place (Some c) h.place h.bytes ≡ Err Refusal.NotAnObject
          → RefusesOf k t place sizes k Refusal.NotAnObject
      object_refused c some refuses = found_refused Refusal.NotAnObject
          (subst (λ c. freeing sizes place c h.place h.bytes ≡ Err Refusal.NotAnObject) (sym some) refuses)

      -- no free of a page block that begins at the place is refused
      pub page_not_refused : (k' : KernelContent) (why : Refusal) → h.cache ≡ None → h.place ≡ place
          → StepsMachine k t (Command.Free (place / 4096)) k' (Refused why) → RefusesOf k t place sizes k' why
      page_not_refused k' why none begins steps = record {
        kept = steps.refused refl;
        why = λ m shown.
            let page : HasBlock m place h.place h.bytes =
            subst (λ c. MatchOption c (HasBlock m place h.place h.bytes) (λ c. HasObjectAround m place c h.place h.bytes)) none (told m shown) in
            absurd (block_frees place k m h.bytes why (subst (λ n. HasBlock m place n h.bytes) begins page) (steps.does.answer m shown));
        holder = Some h;
        holds = told;
      }

      -- no give of an object that begins at the place is refused
      pub object_not_refused : (k' : KernelContent) (c : ℕ) (why : Refusal) → h.cache ≡ Some c → h.place ≡ place
          → StepsMachine k t (Command.Give c place) k' (Refused why) → RefusesOf k t place sizes k' why
      object_not_refused k' c why some begins steps = record {
        kept = steps.refused refl;
        why = λ m shown.
            let object : HasObjectAround m place c h.place h.bytes =
            subst (λ c. MatchOption c (HasBlock m place h.place h.bytes) (λ c. HasObjectAround m place c h.place h.bytes)) some (told m shown) in
            absurd (object_gives place c h.bytes k.order why m (subst (λ n. HasObjectAround m place c n h.bytes) begins object) (steps.does.answer m shown));
        holder = Some h;
        holds = told;
      }

-- A call for the number of a tenant, from the call for an existing tenant

module _ (k k' : KernelContent) (t tenant : ℕ) (same : (t ≡ tenant) × (t < k.tenants)) (is : IsKernel k) (agree : PartsAgree k') (place : ℕ) (sizes : List ℕ) where
  pub releases : (result : Result Holder Refusal) → ReleasesOf k t place sizes k' result → Releases k tenant place sizes k' result
  releases (Ok holder) it = record {
    found = holder_answers k t tenant same is place (Some holder) it.holds;
    command = it.command;
    frees = it.frees;
    body = it.body;
    steps = reply_known k k' t tenant it.command it.body same.0 same.1 agree it.steps;
    done = it.done;
  }
  releases (Err refusal) it = record {
    kept = it.kept;
    found = (found_or_refused FoundHolder (ok_or it.holder Refusal.OutOfReach), holder_answers k t tenant same is place it.holder it.holds);
    why = inr (refused_for k t tenant (λ u. (m : Machine) → ShowsMachine k u m → freeing_in sizes place m ≡ Err refusal) same.0 same.1 it.why);
  }

pub no_tenant : (k : KernelContent) (tenant place : ℕ) (sizes : List ℕ) → k.tenants ≤ tenant → Releases k tenant place sizes k (Err Refusal.NoTenant)
no_tenant k tenant place sizes past = record {
  kept = refl;
  found = (NotFound Refusal.NoTenant, inl (past, refl));
  why = inl (past, refl);
}
