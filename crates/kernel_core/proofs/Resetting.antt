-- The event `reset` takes back all superblocks of a tenant. The event `pool` returns the table of owners.
use Rattle.model_core.specs.declared.owner.Owner.{Owner}
use Rattle.std.proofs.Common.{◌≡◌, ◌≢◌, ◌⊎◌, inl, inr, ℕ, zero, suc, ◌+◌, ◌<◌, ◌≤◌, ◌==◌, ◌&&◌, nat_lt, Bool, true, false, cond, if◌then◌else◌, Option, Some, None, is_some, length, map, take, count_by, slice_index_or, slice_set, refl, sym, ap, ◌∙◌, ⊎_elim, arith, List, [], ◌∷◌, slice_get, subst}
use Rattle.std.proofs.lemmas.Bool.{cases_eq, cases_lt, eq-eqb, lt-ltb, le-ltb}
use Rattle.std.proofs.lemmas.List.{length-set, get_or-set_same, get_or-set_other, get_or-map, get_or_default, same_lists}
use Rattle.std.proofs.lemmas.List.Sums.{count_by_more_yes, count_by_more_no, sum_by-cons}
use Rattle.std.proofs.Math.ListN.{length-map}
use Rattle.std.proofs.lemmas.Option.{slice_get_past}
use Rattle.space_core.specs.Content.{Content, IsSpace, slots_of, superblock_at, owner_at, mark_at}
use Rattle.space_core.specs.Changes.{with_take_back}
use Rattle.space_core.specs.Laws.{IsSameFor, OthersStay}
use Rattle.model_core.specs.Owners.{owned_by, is_of}
use Rattle.kernel_core.specs.Content.{mark_after, MarksFollow, content_of, KernelContent, PartsAgree}
use Rattle.kernel_core.specs.GivenUp.{GivesUp, owner_without}
use Rattle.machine_changes.proofs.Lookups.{some_none, some_same}
use Rattle.kernel_core.proofs.CallEffects.{marks_kept, marks_replaced, has_row, same_sizes}
use Rattle.model_core.specs.Machine.{empty_machine, Machine}
use Rattle.space_core.specs.Content as spaces
use Rattle.space_core.proofs.BytesUnderSlots.{same_twice}
use Rattle.space_core.proofs.Mapping.{superblock-lt}
use Rattle.machine_changes.proofs.PageHoldings.{same_space}
use Rattle.buddy_core.specs.Content as buddies
use Rattle.slab_tables.specs.Content as tables
use Rattle.slab_tables.specs.Changes.{IsReset}
use Rattle.machine_changes.specs.Slots.{HoldTogether, ChangesFor}
use Rattle.machine_changes.proofs.TenantEmptied.{emptied_shows}
use Rattle.kernel_core.specs.Does.{Does, machine_reset_step}
use Rattle.words_core.specs.declared.event.Event.TheVariants as On
use Rattle.words_core.specs.declared.event.AdminCommand.TheVariants as Do
use Rattle.words_core.specs.declared.reply.Reply.{Reply}
use Rattle.words_core.specs.declared.reply.Addressee.TheVariants as To
use Rattle.words_core.specs.declared.reply.Body.TheVariants.{WasReset, Owners, Refused}
use Rattle.words_core.specs.declared.reply.Refusal.TheVariants.{NoTenant}
use Rattle.world_core.specs.Limits.{cache_limit}
use Rattle.world_core.specs.World.{World, WorldStep, answer, given_up, reset_step, world_step}
use Rattle.world_core.proofs.OwnListRuns.{is_other}
use Rattle.kernel_core.specs.Does as calls
use Rattle.kernel_core.specs.Shows.{Shows}
use Rattle.kernel_core.specs.Steps.{Steps}
use Rattle.kernel_core.proofs.KernelToWorld.{steps_done, steps_answered, unnamed}

-- the owner, or `None` if the owner is a slot of tenant t below `end`
abbrev pub owner_left : ℕ → ℕ → Option Owner → Option Owner
owner_left t end None = None
owner_left t end (Some o) = if (o.tenant == t) && nat_lt o.slot end then None else Some o

-- The first `end` slots of tenant t are taken back. The tenant held `told` of them.
pub record IsGivingUp (old now : Content) (t end told : ℕ) : Type 0 where
  pub small : told ≤ end
  pub count : told ≡ count_by is_some (take end (slots_of old.slots t))
  pub unit : now.unit ≡ old.unit
  pub rows : length now.slots ≡ length old.slots
  pub long : length now.owners ≡ length old.owners
  pub banks : now.banks ≡ old.banks
  pub marks : MarksFollow old now
  pub owners : (n : ℕ) → owner_at now.owners n ≡ owner_left t end (owner_at old.owners n)
  pub others : (u : ℕ) → u ≢ t → IsSameFor u old now

-- what `owner_left` keeps it keeps as it is
left_some : (t end : ℕ) (o : Option Owner) (p : Owner) → owner_left t end o ≡ Some p → o ≡ Some p
left_some t end None p is = is
left_some t end (Some o) p is = go ((o.tenant == t) && nat_lt o.slot end) refl
  where
    go : (b : Bool) → ((o.tenant == t) && nat_lt o.slot end) ≡ b → Some o ≡ Some p
    go true e = absurd (some_none (sym is ∙ ap (λ b. if b then None else Some o) e))
    go false e = sym (ap (λ b. if b then None else Some o) e) ∙ is

-- a slot from `end` on is kept
left_own : (t end slot : ℕ) → end ≤ slot → owner_left t end (Some (owned_by t slot)) ≡ Some (owned_by t slot)
left_own t end slot past =
    ap (λ b. if (t == t) && b then None else Some (owned_by t slot)) (le-ltb slot end past) ∙ ap (λ b. if b && false then None else Some (owned_by t slot)) (eq-eqb t t refl)

left_gone : (t slot : ℕ) → owner_left t (slot + 1) (Some (owned_by t slot)) ≡ None
left_gone t slot =
    ap (λ b. if (t == t) && b then None else Some (owned_by t slot)) (lt-ltb slot (slot + 1) (omega arith)) ∙ ap (λ b. if b && true then None else Some (owned_by t slot)) (eq-eqb t t refl)

-- an owner that is not slot `end` of tenant t is kept below end + 1 exactly if it is kept below `end`
left_more : (t end : ℕ) (o : Option Owner) → o ≢ Some (owned_by t end) → owner_left t (end + 1) o ≡ owner_left t end o
left_more t end None other = refl
left_more t end (Some o) other = ap (λ b. if b then None else Some o) (go (cases_eq o.tenant t) (cases_eq o.slot end))
  where
    go : (o.tenant ≡ t) ⊎ (o.tenant ≡ t → ⊥) → (o.slot ≡ end) ⊎ (o.slot ≡ end → ⊥) → ((o.tenant == t) && nat_lt o.slot (end + 1)) ≡ ((o.tenant == t) && nat_lt o.slot end)
    go (inl tenant) (inl slot) = absurd (other (ap (λ x. Some (owned_by x o.slot)) tenant ∙ ap (λ x. Some (owned_by t x)) slot))
    go tenant (inr ne) = ap (λ b. (o.tenant == t) && b) (⊎_elim
        (λ less. lt-ltb o.slot (end + 1) (omega arith) ∙ sym (lt-ltb o.slot end less))
        (λ le. le-ltb o.slot (end + 1) (omega (arith, ne)) ∙ sym (le-ltb o.slot end le))
        (cases_lt o.slot end))
    go (inr ne) (inl slot) = ap (λ b. b && nat_lt o.slot (end + 1)) (is_other o.tenant t ne) ∙ sym (ap (λ b. b && nat_lt o.slot end) (is_other o.tenant t ne))

pub giving_none : (old : Content) (t : ℕ) → IsSpace old → IsGivingUp old old t 0 0
giving_none old t space = record {
  small = omega arith;
  count = refl;
  unit = refl;
  rows = refl;
  long = refl;
  banks = refl;
  marks = marks_kept old old refl refl;
  owners = λ n. first (owner_at old.owners n);
  others = λ u other. same_space u old;
}
  where
    first : (o : Option Owner) → o ≡ owner_left t 0 o
    first None = refl
    first (Some o) = sym (ap (λ b. if (o.tenant == t) && b then None else Some o) (le-ltb o.slot 0 (omega arith)) ∙ no_more (o.tenant == t))
      where
        no_more : (b : Bool) → (if b && false then None else Some o) ≡ Some o
        no_more true = refl
        no_more false = refl

module _ (old now : Content) (t end told : ℕ) (g : IsGivingUp old now t end told) (before : IsSpace old) (space : IsSpace now) (row : end < length (slots_of old.slots t)) where
  -- superblock m is in slot `end`, which is taken back next
  module _ (stay : OthersStay now) (m : ℕ) (here : superblock_at now.slots t end ≡ Some m) where
    own : owner_at now.owners m ≡ Some (owned_by t end)
    own = (space.agree t end m).0 here

    own_before : owner_at old.owners m ≡ Some (owned_by t end)
    own_before = left_some t end (owner_at old.owners m) (owned_by t end) (sym (g.owners m) ∙ own)

    held_before : superblock_at old.slots t end ≡ Some m
    held_before = (before.agree t end m).1 own_before

    -- no other superblock is in the slot
    alone : (n : ℕ) → n ≢ m → owner_at old.owners n ≢ Some (owned_by t end)
    alone n other is = other (some_same (sym ((before.agree t end n).1 is) ∙ held_before))

    below : m < length now.owners
    below = superblock-lt space t end m here

    pub giving_takes : IsGivingUp old (with_take_back now t end m) t (end + 1) (told + 1)
    giving_takes = record {
      small = omega (arith, g.small);
      count = ap (λ n. n + 1) g.count ∙ sym (count_by_more_yes is_some (slots_of old.slots t) end None row (ap is_some held_before));
      unit = g.unit;
      rows = length-set now.slots t _ ∙ g.rows;
      long = length-set now.owners m None ∙ g.long;
      banks = g.banks;
      marks = marks_replaced old now m None true g.marks below (omega (arith, below, space.flagged))
          (ap (λ o. mark_after o None (mark_at old.marks m)) own_before);
      owners = λ n. ⊎_elim
          (λ same.
          ap (λ i. slice_index_or (slice_set now.owners m None) i None) same
          ∙ get_or-set_same now.owners m None None below
          ∙ sym (left_gone t end)
          ∙ ap (owner_left t (end + 1)) (sym own_before)
          ∙ ap (λ i. owner_left t (end + 1) (owner_at old.owners i)) (sym same))
          (λ other. get_or-set_other now.owners m n None None other ∙ g.owners n ∙ sym (left_more t end (owner_at old.owners n) (alone n other)))
          (cases_eq n m);
      others = λ u other. same_twice u old now (with_take_back now t end m) (g.others u other) (stay.take_back t end m u other);
    }

  -- slot `end` is not held
  module _ (none : superblock_at now.slots t end ≡ None) where
    no_owner : (n : ℕ) → owner_at old.owners n ≢ Some (owned_by t end)
    no_owner n is =
        let own : owner_at now.owners n ≡ Some (owned_by t end) = g.owners n ∙ ap (owner_left t end) is ∙ left_own t end end (omega arith) in
        some_none (sym ((space.agree t end n).1 own) ∙ none)

    not_held : (o : Option ℕ) → superblock_at old.slots t end ≡ o → is_some o ≡ false
    not_held None here = refl
    not_held (Some n) here = absurd (no_owner n ((before.agree t end n).0 here))

    pub giving_passes : IsGivingUp old now t (end + 1) told
    giving_passes = record {
      small = omega (arith, g.small);
      count = g.count ∙ sym (count_by_more_no is_some (slots_of old.slots t) end None row (not_held (superblock_at old.slots t end) refl));
      unit = g.unit;
      rows = g.rows;
      long = g.long;
      banks = g.banks;
      marks = g.marks;
      owners = λ n. g.owners n ∙ sym (left_more t end (owner_at old.owners n) (no_owner n));
      others = g.others;
    }

-- the entries from `end` on do not count if they are None
counted_front : (xs : List (Option ℕ)) (end : ℕ) → ((u : ℕ) → end ≤ u → slice_index_or xs u None ≡ None) → count_by is_some (take end xs) ≡ count_by is_some xs
counted_front [] zero rest = refl
counted_front [] (suc end) rest = refl
counted_front (x ∷ xs) zero rest =
    let more : count_by is_some (x ∷ xs) ≡ cond {A = ℕ} (is_some x) 1 0 + count_by is_some xs = sum_by-cons (λ y. cond (is_some y) 1 0) x xs in
    let none : cond {A = ℕ} (is_some x) 1 0 ≡ 0 = ap (λ (y : Option ℕ). cond {A = ℕ} (is_some y) 1 0) (rest 0 (omega arith)) in
    let same : count_by is_some xs ≡ count_by is_some (x ∷ xs) = omega (arith, more, none) in
    counted_front xs zero (λ u le. rest (suc u) (omega arith)) ∙ same
counted_front (x ∷ xs) (suc end) rest =
    sum_by-cons (λ y. cond (is_some y) 1 0) x (take end xs)
    ∙ ap (λ n. cond (is_some x) 1 0 + n) (counted_front xs end (λ u le. rest (suc u) (omega arith)))
    ∙ sym (sum_by-cons (λ y. cond (is_some y) 1 0) x xs)

-- the result of `owner_without t` is never a slot of tenant t
never_own : (t slot : ℕ) (o : Option Owner) → owner_without t o ≡ Some (owned_by t slot) → ⊥
never_own t slot None is = some_none (sym is)
never_own t slot (Some o) is = ⊎_elim
    (λ same. some_none (sym (sym (ap (λ b. if b then None else Some o) (eq-eqb o.tenant t same)) ∙ is)))
    (λ other.
    let told : Some o ≡ Some (owned_by t slot) = sym (ap (λ b. if b then None else Some o) (is_other o.tenant t other)) ∙ is in
    other (tenant_of o (owned_by t slot) told))
    (cases_eq o.tenant t)
  where
    tenant_of : (a b : Owner) → Some a ≡ Some b → a.tenant ≡ b.tenant
    tenant_of a b e = let same : a ≡ b = cc in ap (λ (p : Owner). p.tenant) same

module _ (old now : Content) (t end told : ℕ) (before : IsSpace old) (space : IsSpace now) (g : IsGivingUp old now t end told) (known : t < length old.slots)
    (rest : (u : ℕ) → end ≤ u → superblock_at old.slots t u ≡ None) where
  -- all slots of the tenant are below `end`, so none of them is kept
  left_none : (n : ℕ) (o : Option Owner) → owner_at old.owners n ≡ o → owner_left t end o ≡ owner_without t o
  left_none n None is = refl
  left_none n (Some o) is = ap (λ b. if b then None else Some o) (⊎_elim
      (λ same.
      let slot : o.slot < end = ⊎_elim (λ less. less)
      (λ past. absurd (some_none (sym ((before.agree t o.slot n).1 (is ∙ ap (λ x. Some (owned_by x o.slot)) same)) ∙ rest o.slot past)))
      (cases_lt o.slot end) in
      ap (λ b. (o.tenant == t) && b) (lt-ltb o.slot end slot) ∙ ap (λ b. b && true) (eq-eqb o.tenant t same) ∙ sym (eq-eqb o.tenant t same))
      (λ other. ap (λ b. b && nat_lt o.slot end) (is_other o.tenant t other) ∙ sym (is_other o.tenant t other))
      (cases_eq o.tenant t))

  taken_owner : (n : ℕ) → owner_at now.owners n ≡ owner_without t (owner_at old.owners n)
  taken_owner n = g.owners n ∙ left_none n (owner_at old.owners n) refl

  none_at : (slot : ℕ) (o : Option ℕ) → superblock_at now.slots t slot ≡ o → o ≡ None
  none_at slot None here = refl
  none_at slot (Some n) here = absurd (never_own t slot (owner_at old.owners n) (sym (taken_owner n) ∙ (space.agree t slot n).0 here))

  pub giving_ends : GivesUp old now t told
  giving_ends = record {
    count = g.count ∙ counted_front (slots_of old.slots t) end rest ∙ before.counted t known;
    unit = g.unit;
    rows = g.rows;
    owners = same_lists now.owners (map (owner_without t) old.owners) (g.long ∙ sym (length-map old.owners (owner_without t)))
        (λ n d below.
        let within : n < length old.owners = omega (arith, g.long, below) in
        get_or_default now.owners n d None below
        ∙ taken_owner n
        ∙ sym (get_or-map (owner_without t) old.owners n None d within));
    banks = g.banks;
    marks = g.marks;
    slots = λ slot. none_at slot (superblock_at now.slots t slot) refl;
    others = g.others;
  }

-- All superblocks of tenant t are taken back, and afterwards the tenant has no cache. `told` is the number of superblocks taken
-- back.
pub record IsEmptying (r r' : spaces.Content) (b : buddies.Content) (s s' : tables.Content) (t told : ℕ) : Type 0 where
  pub together : HoldTogether r b s
  pub tenant : t < length b.tenants
  pub gives : GivesUp r r' t told
  pub caches : IsReset s s' t

-- the buddy systems after tenant t has lost all slots and blocks
abbrev pub buddy_after : ℕ → buddies.Content → buddies.Content
buddy_after t b = buddies.with_holding t (buddies.nothing_held b.top b.superblocks) b

pub changes : (r r' : spaces.Content) (b : buddies.Content) (s s' : tables.Content) (t told : ℕ) → IsEmptying r r' b s s' t told
    → ChangesFor t r r' b (buddy_after t b) s s' (λ m. empty_machine)
changes r r' b s s' t told g =
    emptied_shows r r' b s s' t g.together (has_row r b s t g.together.agree g.tenant)
    (record {
      unit = g.gives.unit;
      superblocks = ap length g.gives.owners ∙ length-map r.owners (owner_without t);
      rows = g.gives.rows;
      slots = g.gives.slots;
      others = g.gives.others;
    })
    g.caches

pub does_reset : (r r' : spaces.Content) (b : buddies.Content) (s s' : tables.Content) (t told : ℕ) → IsEmptying r r' b s s' t told
    → Does (content_of r b s) t machine_reset_step (map (owner_without t) r.owners) (content_of r' (buddy_after t b) s') tt
does_reset r r' b s s' t told g =
    let does = changes r r' b s s' t told g in
    record {
      sizes = same_sizes r r' b s s' t (buddies.nothing_held b.top b.superblocks);
      shows = does.shows;
      answer = λ m shown. refl;
      others = does.others;
      owners = g.gives.owners;
      marks = g.gives.marks;
      spare = λ m _. ap (λ banks. spaces.bank banks m) g.gives.banks;
    }

-- What a reset does to the world

-- the reply to a reset
abbrev pub reset_reply : ℕ → ℕ → Reply
reset_reply t told = record { addressee = To.Admin; body = WasReset t told }

-- the reply to a reset, and the world after it; `os` are the owners before it
abbrev reset_world : World → ℕ → ℕ → List (Option Owner) → WorldStep
reset_world w t told os = record { reply = reset_reply t told; world = record { owners = map (given_up (is_of t)) os; machines = slice_set w.machines t empty_machine } }

reset_is : (k : KernelContent) (w : World) (t : ℕ) (m : Machine) → Shows k w → slice_get w.machines t ≡ Some m
    → world_step cache_limit k.order (On.Admin (Do.Reset t)) w ≡ reset_world w t (count_by (is_of t) k.space.owners) k.space.owners
unfolding world_step reset_step
reset_is k w t m shown here = ap (λ o. reset_step t w o) here ∙ ap (λ os. reset_world w t (count_by (is_of t) os) os) shown.owners

pub steps_reset : (k k' : KernelContent) (t n told : ℕ) → t ≡ n → t < k.tenants → PartsAgree k' → told ≡ count_by (is_of t) k.space.owners
    → Does k t calls.machine_reset_step (map (owner_without t) k.space.owners) k' tt
    → Steps k (On.Admin (Do.Reset n)) k' (reset_reply t told)
steps_reset k k' t n told same known agree count does = subst (λ v. Steps k (On.Admin (Do.Reset v)) k' (reset_reply t told)) same
    (steps_done k k' (On.Admin (Do.Reset t)) (reset_reply t told) t calls.machine_reset_step (map (owner_without t) k.space.owners) tt known agree does
    (λ w m shown shows here. reset_is k w t m shown here ∙ ap (λ c. reset_world w t c k.space.owners) (sym count))
    (λ v named. unnamed t v named) refl)

pub reset_without_tenant : (k : KernelContent) (t : ℕ) → k.tenants ≤ t → Steps k (On.Admin (Do.Reset t)) k (record { addressee = To.Admin; body = Refused NoTenant })
unfolding world_step reset_step
reset_without_tenant k t unknown =
    steps_answered k (On.Admin (Do.Reset t)) To.Admin (Refused NoTenant)
    (λ w shown. ap (λ o. reset_step t w o) (slice_get_past w.machines t (omega (arith, shown.tenants))))

-- a call that changes nothing and returns the owner of each superblock is a step of the event `pool`
pub steps_told : (k : KernelContent) (owners : List (Option Owner)) → owners ≡ k.space.owners → Steps k (On.Admin Do.Pool) k (record { addressee = To.Admin; body = Owners (record { items = owners }) })
unfolding world_step
steps_told k owners same = steps_answered k (On.Admin Do.Pool) To.Admin (Owners (record { items = owners }))
    (λ w shown. ap (λ os. answer To.Admin (Owners (record { items = os })) w) (shown.owners ∙ sym same))
