-- Reserving a page block beside slabs.
use Rattle.std.proofs.Common.{◌≡◌, ◌≢◌, ◌↔◌, ℕ, ◌+◌, ◌*◌, ◌/◌, ◌^◌, ◌<◌, Bool, true, false, cond, length, Some, None, IsSome, IfSome, IfNone, refl, sym, ap, ◌∙◌, subst, ⊎_elim, arith}
use Rattle.std.specs.Prelude.{Option, is_some, option_map, MatchOption}
use Rattle.std.proofs.lemmas.Bool.{cases_eq, eq-eqb, false≢true, ne_eqb}
use Rattle.std.proofs.lemmas.List.{length-set}
use Rattle.std.proofs.lemmas.Nat.{pow_pos}
use Rattle.std.proofs.Math.Nat.{mul-le-mul_right, lt-div-mul-add}
use Rattle.model_core.specs.Blocks.{Block, block, HasFrame, IsAligned, IsTaken, IsChoice, IsWithout, with_taken}
use Rattle.model_core.specs.Choice.{choose}
use Rattle.model_core.specs.Machine.{Machine, choice}
use Rattle.model_core.specs.Operations.{with_block}
use Rattle.model_core.specs.declared.limits.TheConstants.{MAX_CACHES}
use Rattle.model_core.proofs.BlocksApart.{has_first}
use Rattle.model_core.proofs.BlockChoice.{choice_is_found}
use Rattle.space_core.specs.Content as spaces
use Rattle.buddy_core.specs.Content as buddies
use Rattle.buddy_core.specs.declared.ReservedBlock.{ReservedBlock}
use Rattle.buddy_core.proofs.Holdings.{own_holding, other_holding, taken-with_block}
use Rattle.klist_core.specs.Places.{place_at}
use Rattle.slab_tables.specs.Content.{Content, layout_numbers}
use Rattle.machine_changes.specs.Shows.{machine_frame_of, has_slab, ShowsMachine, IsAgreed, Agree}
use Rattle.machine_changes.specs.Keeps.{Spares}
use Rattle.machine_changes.specs.Steady.{IsSteady}
use Rattle.machine_changes.proofs.Lookups.{some_none}
use Rattle.model_core.proofs.VacantBlocks.{IsVacant, some_choice}
use Rattle.machine_changes.proofs.SteadyParts.{within}
use Rattle.model_core.proofs.FreeBlocks.{reserved_is_untaken}
use Rattle.model_core.proofs.Lists.{some_of}
use Rattle.machine_changes.proofs.PageReserved.{reserved_shows}
use Rattle.machine_changes.proofs.PageHoldings.{same_space}
use Rattle.slab_core.specs.Fitting.{HasFreeBlock}
use Rattle.slab_core.specs.Lending.{IsPageAt, IsReservedPage}
use Rattle.slab_core.proofs.GrowOnFreeBlock.{choice_some, choice_none}
use Rattle.slab_core.proofs.ReturnEmptySlabs.{spares_none}

no_order : (o : Option ℕ) → ((k : ℕ) → o ≡ Some k → ⊥) → o ≡ None
no_order None none = refl
no_order (Some k) none = absurd (none k refl)

module _ (b : buddies.Content) (t : ℕ) where
  abbrev held : ℕ → Bool
  held u = buddies.is_held (buddies.holding_of t b) u

  abbrev taken : ℕ → Option ℕ
  taken f = buddies.taken_of (buddies.holding_of t b) f

  -- a held slot has a number below the length of the table of slots
  held_within : (u : ℕ) → held u ≡ true → u < length (buddies.holding_of t b).slots
  held_within u e =
      let there = some_of (buddies.superblock_at (buddies.holding_of t b) u) e in within (buddies.holding_of t b).slots u there.0 there.1

  -- if a block is vacant, some free block is large enough
  pub vacant_free : (f k : ℕ) → IsVacant b.top held taken f k → HasFreeBlock b t k
  vacant_free f k v =
      let slots : ℕ = length (buddies.holding_of t b).slots in
      go (choose b.top held taken slots k) (choice_is_found b.top held taken slots k held_within) (some_choice b.top held taken slots held_within f k v)
    where
      go : (o : Option Block) → MatchOption o (IsWithout b.top held taken k) (IsChoice b.top held taken k) → is_some o ≡ true → HasFreeBlock b t k
      go None w e = absurd (false≢true e)
      go (Some z) is e = record { found = z; free = is.0; enough = is.1 }

module _ (r : spaces.Content) (b : buddies.Content) (s : Content) (t k : ℕ) (a : Agree r b s) (laws : buddies.BuddyLaws b) (tenant : t < length r.slots) where
  known : t < length b.tenants
  known = subst (λ x. t < x) a.rows tenant

  module _ (f j : ℕ) (chosen : IsChoice b.top (held b t) (taken b t) k (block f j)) where
    out : IsAligned b.top (block f k) × ((x : ℕ) → HasFrame (block f k) x → (held b t (x / 2 ^ b.top) ≡ true) × (IsTaken (taken b t) x → ⊥))
    out = reserved_is_untaken b.top (held b t) (taken b t) f j k chosen.0 chosen.1

    not_first : taken b t f ≡ None
    not_first = no_order (taken b t f) (λ g e. (out.1 f (has_first (block f k))).1 (f, g, e, has_first (block f g)))

    frame_within : f < length (buddies.holding_of t b).taken
    frame_within =
        let top = b.top in
        let slot : f / 2 ^ b.top < b.superblocks = subst (λ x. f / 2 ^ b.top < x) (laws.sizes.slots t known)
        (held_within b t (f / 2 ^ b.top) (out.1 f (has_first (block f k))).0) in
        let last : f < f / 2 ^ b.top * 2 ^ b.top + 2 ^ b.top = lt-div-mul-add (pow_pos b.top) in
        omega (arith, last, mul-le-mul_right (2 ^ b.top) slot, laws.sizes.taken t known)

    abbrev reserved : buddies.Content
    reserved = buddies.with_holding t (buddies.with_block f k (buddies.holding_of t b)) b

    holding_now : buddies.holding_of t reserved ≡ buddies.with_block f k (buddies.holding_of t b)
    holding_now = own_holding t (buddies.with_block f k (buddies.holding_of t b)) b known

    holding_then : (u : ℕ) → u ≢ t → buddies.holding_of u reserved ≡ buddies.holding_of u b
    holding_then u differ = other_holding t u (buddies.with_block f k (buddies.holding_of t b)) b differ

    taken_now : (g : ℕ) → buddies.taken_of (buddies.holding_of t reserved) g ≡ with_taken (taken b t) f k g
    taken_now g =
        ap (λ h. buddies.taken_of h g) holding_now
        ∙ ap (λ (x : ℕ → Option ℕ). x g) (taken-with_block (buddies.holding_of t b) f k frame_within)

    -- what was taken is still taken
    stays : (u g i : ℕ) → buddies.taken_of (buddies.holding_of u b) g ≡ Some i → buddies.taken_of (buddies.holding_of u reserved) g ≡ Some i
    stays u g i e = ⊎_elim
        (λ same. subst (λ x. buddies.taken_of (buddies.holding_of x reserved) g ≡ Some i) (sym same)
        (let here : taken b t g ≡ Some i = subst (λ x. buddies.taken_of (buddies.holding_of x b) g ≡ Some i) same e in
        taken_now g ∙ ap (λ v. cond v (Some k) (taken b t g))
        (ne_eqb g f (λ is. some_none (sym here ∙ ap (taken b t) is ∙ not_first))) ∙ here))
        (λ differ. ap (λ h. buddies.taken_of h g) (holding_then u differ) ∙ e) (cases_eq u t)

    slots_now : (u v : ℕ) → buddies.superblock_at (buddies.holding_of u reserved) v ≡ spaces.superblock_at r.slots u v
    slots_now u v = ⊎_elim
        (λ same. subst (λ x. buddies.superblock_at (buddies.holding_of x reserved) v ≡ buddies.superblock_at (buddies.holding_of x b) v) (sym same)
        (ap (λ h. buddies.superblock_at h v) holding_now))
        (λ differ. ap (λ h. buddies.superblock_at h v) (holding_then u differ)) (cases_eq u t)
        ∙ a.slots u v

    one_agrees : Agree r reserved s
    one_agrees =
        let rows : length reserved.tenants ≡ length b.tenants = length-set b.tenants t (buddies.with_block f k (buddies.holding_of t b)) in
        record {
          order = a.order;
          unit = a.unit;
          superblocks = a.superblocks;
          machine_frames = a.machine_frames;
          rows = a.rows ∙ sym rows;
          tenants = a.tenants ∙ ap (λ n. MAX_CACHES * n) (sym rows);
          slots = slots_now;
          slabs = λ machine_frame head key cache placed cached.
              let g : IsAgreed r b s machine_frame head key cache = a.slabs machine_frame head key cache placed cached in
              record {
                under = g.under;
                taken = stays (head / 3 / MAX_CACHES) key (layout_numbers cache).order g.taken;
                counted = g.counted;
                rest = g.rest;
              };
        }

    one_spares : Spares t r r b reserved s s
    one_spares = record {
      others = λ u differ. record {
        space = same_space u r;
        buddy = holding_then u differ;
        slabs = record { top = refl; caches = λ c. refl; lists = λ f n e. refl; kept = λ f n e. refl };
      };
      space = refl;
      buddy = sym (ap (λ h. buddies.with_holding t h b) holding_now);
      spare = λ m none. refl;
    }

    -- no slab begins at a frame at which no taken block begins
    no_slab : IsSteady r b s t → has_slab s (machine_frame_of s.top r.slots t f) ≡ false
    no_slab st = under (machine_frame_of s.top r.slots t f) refl
      where
        placed : (n : ℕ) → machine_frame_of s.top r.slots t f ≡ Some n → (p : Option (ℕ × ℕ)) → place_at s.lists.places n ≡ p → is_some p ≡ false
        placed n at None here = refl
        placed n at (Some p) here =
            let slab = st.listed f n p.0 p.1 at here in
            absurd (some_none (sym (st.stands slab.0 f n slab.1 slab.2).taken ∙ not_first))

        under : (o : Option ℕ) → machine_frame_of s.top r.slots t f ≡ o → has_slab s o ≡ false
        under None at = refl
        under (Some n) at = placed n at (place_at s.lists.places n) refl

    pub record IsReserved (b' : buddies.Content) : Type 0 where
      pub page : IsPageAt r b' s t f k
      pub shows : (m : Machine) → ShowsMachine r b s t m → ShowsMachine r b' s t (with_block (block f k) m)
      pub spares : Spares t r r b b' s s
      pub agree : Agree r b' s

    pub is_reserved : IsSteady r b s t → (b' : buddies.Content) → b' ≡ reserved → IsReserved b'
    is_reserved st b' e = subst IsReserved (sym e) (record {
      page = record { taken = taken_now f ∙ ap (λ v. cond v (Some k) (taken b t f)) (eq-eqb f f refl); page = no_slab st };
      shows = λ m h. reserved_shows r b reserved s t f k m st not_first taken_now h;
      spares = one_spares;
      agree = one_agrees;
    })

  -- the state after a request of order k, for its result o
  pub record IsServed (b' : buddies.Content) (o : Option ℕ) : Type 0 where
    pub answer : (m : Machine) → ShowsMachine r b s t m → o ≡ choice s.top m k
    pub shows : IfSome o (λ f. (m : Machine) → ShowsMachine r b s t m → ShowsMachine r b' s t (with_block (block f k) m))
    pub page : IfSome o (λ f. IsPageAt r b' s t f k)
    pub free : IsSome o ↔ HasFreeBlock b t k
    pub spares : Spares t r r b b' s s
    pub agree : Agree r b' s

  pub is_served : IsSteady r b s t → (b' : buddies.Content) (o : Option ℕ)
      → IfNone o (IsWithout b.top (held b t) (taken b t) k × (b' ≡ b))
      → IfSome o (λ f. (j : ℕ) × (IsChoice b.top (held b t) (taken b t) k (block f j)
      × (b' ≡ buddies.with_holding t (buddies.with_block f k (buddies.holding_of t b)) b)))
      → IsServed b' o
  is_served st b' None none some = record {
    answer = λ m h. sym (choice_none t k a st m h none.0);
    shows = tt;
    page = tt;
    free = (λ e. absurd (false≢true e), λ h. absurd (none.0 h.found h.free h.enough));
    spares = subst (λ x. Spares t r r b x s s) (sym none.1) (spares_none r b s t);
    agree = subst (λ x. Agree r x s) (sym none.1) a;
  }
  is_served st b' (Some f) none some =
      let is : IsReserved f some.0 some.1.0 b' = is_reserved f some.0 some.1.0 st b' some.1.1 in
      record {
        answer = λ m h. sym (choice_some t k a st m h f some.0 some.1.0);
        shows = is.shows;
        page = is.page;
        free = (λ e. record { found = block f some.0; free = some.1.0.0; enough = some.1.0.1 }, λ h. refl);
        spares = is.spares;
        agree = is.agree;
      }

  -- the same for a result that also has the superblock in the block's slot
  pub record IsBlockServed (b' : buddies.Content) (o : Option ReservedBlock) : Type 0 where
    pub answer : (m : Machine) → ShowsMachine r b s t m → option_map (λ (x : ReservedBlock). x.first) o ≡ choice s.top m k
    pub shows : IfSome o (λ x. (m : Machine) → ShowsMachine r b s t m → ShowsMachine r b' s t (with_block (block x.first k) m))
    pub page : IfSome o (IsReservedPage r b' s t k)
    pub free : IsSome o ↔ HasFreeBlock b t k
    pub spares : Spares t r r b b' s s
    pub agree : Agree r b' s

  pub block_served : IsSteady r b s t → (b' : buddies.Content) (o : Option ReservedBlock)
      → IfNone o (IsWithout b.top (held b t) (taken b t) k × (b' ≡ b))
      → IfSome o (λ x. (j : ℕ) × (IsChoice b.top (held b t) (taken b t) k (block x.first j)
      × (b' ≡ buddies.with_holding t (buddies.with_block x.first k (buddies.holding_of t b)) b)))
      → IfSome o (λ x. buddies.superblock_at (buddies.holding_of t b) (x.first / 2 ^ b.top) ≡ Some x.superblock)
      → IsBlockServed b' o
  block_served st b' None none some under =
      let is : IsServed b' None = is_served st b' None none tt in
      record { answer = is.answer; shows = tt; page = tt; free = is.free; spares = is.spares; agree = is.agree }
  block_served st b' (Some x) none some under =
      let is : IsServed b' (Some x.first) = is_served st b' (Some x.first) tt some in
      record {
        answer = is.answer;
        shows = is.shows;
        page = record {
          page = is.page;
          under = sym (a.slots t (x.first / 2 ^ s.top)) ∙ subst (λ top. buddies.superblock_at (buddies.holding_of t b) (x.first / 2 ^ top) ≡ Some x.superblock) a.order under;
        };
        free = is.free;
        spares = is.spares;
        agree = is.agree;
      }
