-- A `free` keeps the promises.
use Rattle.std.proofs.Common.{◌≡◌, ℕ, ◌+◌, Bool, true, false, not, ◌&&◌, eqb, map, Option, Some, None, refl, sym, ap, ◌∙◌, subst}
use Rattle.std.specs.Prelude.{filter}
use Rattle.std.specs.List.{list_any}
use Rattle.std.specs.Option.{option_eq}
use Rattle.std.proofs.lemmas.Bool.{false≢true, eqb-true, eq-eqb}
use Rattle.model_core.specs.Blocks.{Block, block}
use Rattle.model_core.specs.Layouts.{pattern_byte}
use Rattle.model_core.specs.Machine.{Machine, in_block, order_in}
use Rattle.model_core.specs.Operations.{without_block, free_at, free_step}
use Rattle.model_core.specs.WellFormed.{RisesFrom, IsWellFormed}
use Rattle.model_core.specs.Laws.{place_of}
use Rattle.model_core.specs.Elements.{IsIn}
use Rattle.model_core.proofs.Lists.{in_filter, some_any, any_in}
use Rattle.model_core.proofs.ObjectsApart.{one_key}
use Rattle.model_core.proofs.TakenSteps.{order_in_is}
use Rattle.words_core.specs.declared.event.Event.TheVariants as On
use Rattle.words_core.specs.declared.event.Command.TheVariants as Command
use Rattle.words_core.specs.declared.reply.Addressee.TheVariants as To
use Rattle.words_core.specs.declared.reply.Body.TheVariants as Say
use Rattle.words_core.specs.declared.reply.Refusal.{Refusal}
use Rattle.world_core.specs.PrivateStep.{free_body, command_step}
use Rattle.promise_core.specs.Holdings.{Holdings}
use Rattle.promise_core.specs.Bytes.{Holder, is_same, doubted}
use Rattle.promise_core.specs.State.{State, state_after}
use Rattle.promise_core.specs.Promises.{due}
use Rattle.promise_kept.specs.Meets.{holdings_of, is_object_live, Meets, IsKeptBy, IsPromiseKept}
use Rattle.promise_kept.proofs.PlaceCells.{all_kept, formed, doubt_may, doubt_lives, refused}

-- the place is in this block, and the holder is a page block
abbrev freed_there : Block → ℕ → Holder → Bool
freed_there b place holder = in_block place b && is_same Holder.Page holder

abbrev without_pages : ℕ → Holdings → Holdings
without_pages first h = record h { pages = filter (λ x. not (eqb x.first first)) h.pages }

-- what is known after a page block is freed
abbrev after_free : ℕ → ℕ → State → State
after_free first k s = record s { has = without_pages first s.has; cells = doubted (freed_there (block first k)) s.cells; last_report = None }

lives_still : (first k : ℕ) (h : Holdings) → RisesFrom 0 (map (λ b. b.first) h.pages) → order_in h.pages first ≡ Some k → (holder : Holder) (place : ℕ) → is_object_live h holder place ≡ true
    → freed_there (block first k) place holder ≡ false → is_object_live (without_pages first h) holder place ≡ true
lives_still first k h rises is Holder.Page place e out =
    let b = some_any (in_block place) h.pages e in
    go b.0 b.1 b.2 (eqb b.0.first first) refl
  where
    go : (b : Block) → IsIn b h.pages → in_block place b ≡ true → (t : Bool) → eqb b.first first ≡ t → list_any (in_block place) (filter (λ x. not (eqb x.first first)) h.pages) ≡ true
    go b i there true same =
        let one : b ≡ block first k = one_key (λ x. x.first) 0 h.pages b (block first k) rises i (order_in_is h.pages first k is) (eqb-true b.first first same) in
        absurd (false≢true (sym out ∙ ap (λ t. t && true) (ap (in_block place) (sym one) ∙ there)))
    go b i there false other = any_in (in_block place) b (filter (λ x. not (eqb x.first first)) h.pages) (in_filter (λ x. not (eqb x.first first)) b h.pages i (ap not other)) there
lives_still first k h rises is (Holder.Object n p) place e out = e

module _ (limit order first : ℕ) (m : Machine) (s : State) (w : IsWellFormed limit order m) (h : Meets order s m) where
  free_meets : (k : ℕ) → order_in m.blocks first ≡ Some k → Meets order (after_free first k s) (without_block first m)
  unfolding holdings_of
  free_meets k is = record {
    has = ap (without_pages first) h.has;
    may_have_empty = h.may_have_empty;
    lives = λ place cell e sure. let was = doubt_lives (freed_there (block first k)) s.cells place cell e sure in
        lives_still first k s.has (subst (λ (x : Holdings). RisesFrom 0 (map (λ b. b.first) x.pages)) (sym h.has) w.blocks_rise)
        (ap (λ (x : Holdings). order_in x.pages first) h.has ∙ is) cell.holder place
        (ap (λ x. is_object_live s.has x place) (sym was.3) ∙ h.lives place was.0 was.1 was.2) was.4;
    page_bytes = λ place byte out there. doubt_may (freed_there (block first k)) s.cells Holder.Page place 0 byte (h.page_bytes place byte out there);
    object_bytes = λ o j byte i byte_in there. doubt_may (freed_there (block first k)) s.cells (Holder.Object o.cache.number (place_of o)) (place_of o + j) (pattern_byte o.cache.pattern j) byte
        (h.object_bytes o j byte (record { cache_in = i.cache_in; slab_in = i.slab_in; index_in = i.index_in }) byte_in there);
    empty_told = λ r e. absurd (cc);
    free_told = λ r e. absurd (cc);
  }

  no_block : order_in m.blocks first ≡ None → IsKeptBy limit order (Command.Free first) s (Say.Refused Refusal.NotABlock) m
  unfolding due holdings_of
  no_block none =
      let missing : order_in s.has.pages first ≡ None = ap (λ (x : Holdings). order_in x.pages first) h.has ∙ none in
      refused limit order (Command.Free first) Refusal.NotABlock s m h (λ t owners states. (rw missing refl, refl))

  freed : (k : ℕ) → order_in m.blocks first ≡ Some k → IsKeptBy limit order (Command.Free first) s (Say.Freed k) (without_block first m)
  unfolding due state_after holdings_of
  freed k is =
      let there : order_in s.has.pages first ≡ Some k = ap (λ (x : Holdings). order_in x.pages first) h.has ∙ is in
      record {
        allowed = λ t owners states. all_kept (On.Tenant t (Command.Free first)) (record { addressee = To.Tenant t; body = Say.Freed k })
            (record { limit = limit; order = order; owners = owners; states = states }) s
            (formed t (Some (after_free first k s)) refl) (rw there refl) refl refl refl refl refl (ap (λ o. option_eq (λ i j. eqb i j) o (Some k)) there ∙ eq-eqb k k refl) refl refl refl refl;
        meets = λ t. (after_free first k s, refl, free_meets k is);
      }

  pub free_is_kept : IsPromiseKept limit order (Command.Free first) m s
  unfolding command_step free_step
  free_is_kept = go (order_in m.blocks first) refl
    where
      go : (o : Option ℕ) → order_in m.blocks first ≡ o → IsKeptBy limit order (Command.Free first) s (free_body (free_at first m o).answer) (free_at first m o).machine
      go None is = no_block is
      go (Some k) is = freed k is
