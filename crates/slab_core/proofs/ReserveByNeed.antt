-- Reserving a page block on demand: if no block is found at once, and one would be found after all empty slabs are freed, they
-- are freed.
use Rattle.std.proofs.Common.{◌≡◌, ◌↔◌, ℕ, ◌/◌, ◌^◌, ◌≤◌, Bool, true, false, cond, Some, None, IsSome, IfSome, IfNone, refl, sym, ap, ◌∙◌, subst}
use Rattle.std.specs.Prelude.{Option, is_some, option_map}
use Rattle.std.proofs.lemmas.Bool.{false≢true}
use Rattle.model_core.specs.Blocks.{block, HasFrame, IsAligned}
use Rattle.model_core.specs.Machine.{Machine, choice}
use Rattle.model_core.specs.Operations.{with_block, alloc_step}
use Rattle.model_core.specs.Slabs.{reaped, choice_by_need}
use Rattle.model_core.proofs.BlocksApart.{has_first}
use Rattle.model_core.proofs.FreeBlocks.{reserved_is_untaken}
use Rattle.machine_changes.proofs.Reaped.{reaped_shows}
use Rattle.model_core.proofs.ReapingByNeed.{alloc_reaps, by_need_found, by_need_reaps, by_need_stays}
use Rattle.space_core.specs.Content as spaces
use Rattle.buddy_core.specs.Content as buddies
use Rattle.buddy_core.specs.declared.ReservedBlock.{ReservedBlock}
use Rattle.slab_tables.specs.Content.{Content, IsSlabs, layout_numbers}
use Rattle.machine_changes.specs.Shows.{ShowsMachine, Agree}
use Rattle.machine_changes.specs.Steady.{IsSteady}
use Rattle.machine_changes.specs.Changes.{IsReturned}
use Rattle.machine_changes.specs.Fitting.{WouldFit}
use Rattle.machine_changes.proofs.Lookups.{some_none}
use Rattle.slab_core.specs.Calls.{idle_at}
use Rattle.slab_core.specs.Fitting.{HasFreeBlock}
use Rattle.slab_core.proofs.IdleFrames.{idle_begins}
use Rattle.slab_core.proofs.ReserveBesideSlabs.{vacant_free}
use Rattle.slab_core.proofs.ReturnEmptySlabs.{idle_empty}

-- The step of the machine, for each choice
module _ (order k : ℕ) (m : Machine) where
  pub found_choice : (f : ℕ) → Some f ≡ choice order m k → Some f ≡ choice_by_need order k m
  found_choice f e = e ∙ sym (ap (λ x. choice order x k) (by_need_found order k f m (sym e)))

  -- if the machine finds nothing at once, it chooses what the reaped machine does
  pub next_choice : None ≡ choice order m k → choice_by_need order k m ≡ choice order (reaped m) k
  next_choice none = go (choice order (reaped m) k) refl
    where
      go : (o : Option ℕ) → choice order (reaped m) k ≡ o → choice_by_need order k m ≡ choice order (reaped m) k
      go None still = ap (λ x. choice order x k) (by_need_stays order k m (sym none) still) ∙ sym none ∙ sym still
      go (Some f) found = ap (λ x. choice order x k) (by_need_reaps order k f m (sym none) found)

  pub no_choice : (o : Option ℕ) → false ≡ is_some o → o ≡ None
  no_choice None e = refl
  no_choice (Some f) e = absurd (false≢true e)

  module _ (fits : k ≤ order) where
    pub found_step : (f : ℕ) → Some f ≡ choice order m k → (alloc_step order k m).machine ≡ with_block (block f k) m
    found_step f e = ap (λ z. z.machine) ((alloc_reaps order k m fits).found f (sym e))

    pub reaped_step : (f : ℕ) → None ≡ choice order m k → Some f ≡ choice order (reaped m) k
        → (alloc_step order k m).machine ≡ with_block (block f k) (reaped m)
    reaped_step f none e = ap (λ z. z.machine) ((alloc_reaps order k m fits).reaps f (sym none) (sym e))

    pub refused_step : None ≡ choice order m k → false ≡ is_some (choice order (reaped m) k) → (alloc_step order k m).machine ≡ m
    refused_step none still = ap (λ z. z.machine) ((alloc_reaps order k m fits).stays (sym none) (no_choice (choice order (reaped m) k) still))

-- if a large enough block is free, the block would fit
pub free_fits : (r : spaces.Content) (b : buddies.Content) (s : Content) (t k : ℕ) → Agree r b s → HasFreeBlock b t k → WouldFit r b s t k
free_fits r b s t k a h =
    let out = reserved_is_untaken b.top (buddies.is_held (buddies.holding_of t b)) (buddies.taken_of (buddies.holding_of t b)) h.found.first h.found.order k h.free h.enough in
    record {
      first = h.found.first;
      aligned = subst (λ top. IsAligned top (block h.found.first k)) a.order out.0;
      held = subst (λ top. is_some (spaces.superblock_at r.slots t (h.found.first / 2 ^ top)) ≡ true) a.order
          (ap is_some (sym (a.slots t (h.found.first / 2 ^ b.top))) ∙ (out.1 h.found.first (has_first (block h.found.first k))).0);
      idle = λ x has is. absurd ((out.1 x has).1 is);
    }

pub is_there : {A : Type 0} (o : Option A) (P : Type 0) → IsSome o → IfNone o P
is_there None P some = absurd (false≢true some)
is_there (Some x) P some = tt

-- what is so of a block's first frame
pub first_some : (o : Option ReservedBlock) → is_some (option_map (λ (x : ReservedBlock). x.first) o) ≡ is_some o
first_some None = refl
first_some (Some x) = refl

pub first_shown : (o : Option ReservedBlock) (P : ℕ → Type 0) → IfSome o (λ x. P x.first) → IfSome (option_map (λ (x : ReservedBlock). x.first) o) P
first_shown None P shown = tt
first_shown (Some x) P shown = shown

-- a block that is reserved after freeing answers the request as the machine does
pub record IsServedThen (r r' : spaces.Content) (b b' : buddies.Content) (s s' : Content) (t k : ℕ) (o : Option ℕ) : Type 0 where
  pub some : IsSome o
  pub answer : (m : Machine) → ShowsMachine r b s t m → o ≡ choice_by_need s.top k m
  pub shows : (m : Machine) → ShowsMachine r b s t m → ShowsMachine r' b' s' t (alloc_step s.top k m).machine

-- All empty slabs are freed
module _ {r r' : spaces.Content} {b b' : buddies.Content} {s s' : Content} {t k : ℕ} (st : IsSteady r b s t)
    (gone : IsReturned r r' b b' s s' t (idle_at (λ i. true) r s t)) where
  -- if the block would fit, a large enough block is now free
  pub fits_free : Agree r' b' s' → WouldFit r b s t k → HasFreeBlock b' t k
  fits_free a' fit =
      let order : b'.top ≡ s.top = a'.order ∙ gone.top in
      vacant_free b' t fit.first k (record {
        aligned = subst (λ top. IsAligned top (block fit.first k)) (sym order) fit.aligned;
        slot = subst (λ top. buddies.is_held (buddies.holding_of t b') (fit.first / 2 ^ top) ≡ true) (sym order)
            (ap is_some (a'.slots t (fit.first / 2 ^ s.top) ∙ gone.slots (fit.first / 2 ^ s.top)) ∙ fit.held);
        untaken = λ x has is. by x has is.0 is.1 is.2 is.3 (idle_at (λ i. true) r s t is.0) refl;
      })
    where
      by : (x : ℕ) → HasFrame (block fit.first k) x → (g j : ℕ) → buddies.taken_of (buddies.holding_of t b') g ≡ Some j
          → HasFrame (block g j) x → (v : Bool) → idle_at (λ i. true) r s t g ≡ v → ⊥
      by x has g j e there true is =
          some_none (sym e ∙ gone.taken g ∙ ap (λ v. cond v None (buddies.taken_of (buddies.holding_of t b) g)) is)
      by x has g j e there false is =
          let was : buddies.taken_of (buddies.holding_of t b) g ≡ Some j =
          ap (λ v. cond v None (buddies.taken_of (buddies.holding_of t b) g)) (sym is) ∙ sym (gone.taken g) ∙ e in
          let i = fit.idle x has (g, j, was, there) in
          let same : g ≡ i.first =
          st.sound.apart g j i.first (layout_numbers i.cache).order x was (st.stands i.number i.first i.machine_frame i.cache i.slab).taken there i.within in
          false≢true (sym is ∙ ap (idle_at (λ y. true) r s t) same ∙ idle_begins r s t x i)

  pub served_then : IsSlabs s → Agree r b s → Agree r' b' s' → k ≤ s.top → WouldFit r b s t k
      → ((m : Machine) → ShowsMachine r b s t m → None ≡ choice s.top m k) → {b'' : buddies.Content} (o : Option ℕ)
      → ((m : Machine) → ShowsMachine r' b' s' t m → o ≡ choice s'.top m k)
      → IfSome o (λ f. (m : Machine) → ShowsMachine r' b' s' t m → ShowsMachine r' b'' s' t (with_block (block f k) m))
      → (IsSome o ↔ HasFreeBlock b' t k) → IsServedThen r r' b b'' s s' t k o
  served_then w a a' fits fit none {b'' = b''} o answer shows free = record {
    some = free.1 (fits_free a' fit);
    answer = λ m h. choice_then m h ∙ sym (next_choice s.top k m (none m h));
    shows = λ m h. go o (free.1 (fits_free a' fit)) shows m h (choice_then m h);
  }
    where
      reaped_then : (m : Machine) → ShowsMachine r b s t m → ShowsMachine r' b' s' t (reaped m)
      reaped_then m h = reaped_shows r r' b b' s s' t (idle_at (λ i. true) r s t) m gone st h (idle_empty r b s t m w a h)

      choice_then : (m : Machine) → ShowsMachine r b s t m → o ≡ choice s.top (reaped m) k
      choice_then m h = answer (reaped m) (reaped_then m h) ∙ ap (λ top. choice top (reaped m) k) gone.top

      go : (p : Option ℕ) → IsSome p
          → IfSome p (λ f. (n : Machine) → ShowsMachine r' b' s' t n → ShowsMachine r' b'' s' t (with_block (block f k) n))
          → (m : Machine) → ShowsMachine r b s t m → p ≡ choice s.top (reaped m) k → ShowsMachine r' b'' s' t (alloc_step s.top k m).machine
      go None some after m h is = absurd (false≢true some)
      go (Some f) some after m h is =
          subst (ShowsMachine r' b'' s' t) (sym (reaped_step s.top k m fits f (none m h) is)) (after (reaped m) (reaped_then m h))
