-- An `alloc` keeps the promises.
use Rattle.std.proofs.Common.{◌≡◌, ℕ, ◌+◌, ◌<◌, Bool, true, false, not, ◌&&◌, ltb, Option, Some, None, refl, sym, ap, ◌∙◌, subst}
use Rattle.std.specs.Prelude.{if◌then◌else◌}
use Rattle.std.proofs.lemmas.Bool.{ltb-false, and_from}
use Rattle.std.proofs.Math.Bool.{and-false}
use Rattle.model_core.specs.declared.refusals.AllocRefusal.{AllocRefusal}
use Rattle.model_core.specs.Blocks.{Block, block}
use Rattle.model_core.specs.Layouts.{pattern_byte}
use Rattle.model_core.specs.Machine.{Slab, Cache, Machine, in_block, put_rising, slab_block, slab_blocks, choice}
use Rattle.model_core.specs.Machine as model
use Rattle.model_core.specs.Slabs.{by_need, choice_by_need}
use Rattle.model_core.specs.Operations.{refuse, with_block, alloc_at, alloc_step}
use Rattle.model_core.specs.WellFormed.{IsApart, IsWellFormed}
use Rattle.model_core.specs.Laws.{Object, IsObject, place_of}
use Rattle.model_core.specs.Elements.{IsIn}
use Rattle.model_core.proofs.Lists.{each_in, any_with, in_right, in_map, in_flat_map}
use Rattle.model_core.proofs.BlocksApart.{apart_place, apart_turned}
use Rattle.model_core.proofs.ChosenBlock.{chosen_apart}
use Rattle.model_core.proofs.ObjectsApart.{contains_in}
use Rattle.model_core.proofs.ReapingByNeed.{by_need_none}
use Rattle.model_core.proofs.PageSteps.{by_need_kept}
use Rattle.words_core.specs.declared.event.Event.TheVariants as On
use Rattle.words_core.specs.declared.event.Command.TheVariants as Command
use Rattle.words_core.specs.declared.reply.Addressee.TheVariants as To
use Rattle.words_core.specs.declared.reply.Body.TheVariants as Say
use Rattle.words_core.specs.declared.reply.Refusal.{Refusal}
use Rattle.world_core.specs.PrivateStep.{alloc_body, command_step}
use Rattle.promise_core.specs.Holdings.{Holdings, can_stand, has_vacant_block}
use Rattle.promise_core.specs.Bytes.{Holder, is_same, without}
use Rattle.promise_core.specs.State.{State, state_after}
use Rattle.promise_core.specs.Promises.{due}
use Rattle.promise_kept.specs.Meets.{holdings_of, is_object_live, Meets, IsKeptBy, IsPromiseKept}
use Rattle.promise_kept.proofs.SeenBlocks.{by_need_stands, room_served}
use Rattle.promise_kept.proofs.PlaceCells.{all_kept, formed, without_some, without_may, refused}
use Rattle.promise_kept.proofs.KnownAfterReaping.{untold, by_need_meets, object_in_slab}

-- the place is in this block, and the holder is an object
abbrev left_there : Block → ℕ → Holder → Bool
left_there b place holder = in_block place b && not (is_same Holder.Page holder)

-- what is known after a page block is allocated
abbrev after_alloc : Block → State → State
after_alloc b s = record s {
  has = record s.has { pages = put_rising (λ x. x.first) b s.has.pages };
  cells = without (left_there b) s.cells;
  last_report = None;
}

lives_on : (b : Block) (h : Holdings) (holder : Holder) (place : ℕ) → is_object_live h holder place ≡ true
    → is_object_live (record h { pages = put_rising (λ x. x.first) b h.pages }) holder place ≡ true
lives_on b h Holder.Page place e = any_with (in_block place) (λ x. x.first) b h.pages e
lives_on b h (Holder.Object n first) place e = e

module _ {limit : ℕ} (order k first : ℕ) (s : State) (n : Machine) (w : IsWellFormed limit order n) (h : Meets order (untold s) n) (is : choice order n k ≡ Some first) where
  -- no byte of an object lies in the allocated block
  outside : (o : Object) (j : ℕ) → IsObject n o → j < o.cache.size → in_block (place_of o + j) (block first k) ≡ false
  unfolding model.taken_blocks
  outside o j i byte_in =
      let in_c : IsIn o.cache n.caches = contains_in n.caches o.cache i.cache_in in
      let in_s : IsIn o.slab o.cache.slabs = contains_in o.cache.slabs o.slab i.slab_in in
      let taken : IsIn (slab_block o.cache o.slab) (model.taken_blocks n) =
      in_right (slab_block o.cache o.slab) n.blocks _ (in_flat_map slab_blocks (slab_block o.cache o.slab) o.cache n.caches in_c (in_map (slab_block o.cache) o.slab o.cache.slabs in_s)) in
      apart_place (place_of o + j) (slab_block o.cache o.slab) (block first k)
      (apart_turned (block first k) (slab_block o.cache o.slab) (each_in (IsApart (block first k)) (slab_block o.cache o.slab) (model.taken_blocks n) (chosen_apart order k first n w.apart is) taken))
      (object_in_slab order n o.cache o.slab o.index j w in_c in_s i.index_in byte_in)

  alloc_meets : Meets order (after_alloc (block first k) s) (with_block (block first k) n)
  unfolding holdings_of
  alloc_meets = record {
    has = ap (λ (x : Holdings). record x { pages = put_rising (λ y. y.first) (block first k) x.pages }) h.has;
    may_have_empty = h.may_have_empty;
    lives = λ place cell e sure. let was = without_some (left_there (block first k)) s.cells place cell e in
        lives_on (block first k) s.has cell.holder place (h.lives place cell was.0 sure);
    page_bytes = λ place byte out there. without_may (left_there (block first k)) s.cells Holder.Page place 0 byte
        (and-false (in_block place (block first k))) (h.page_bytes place byte out there);
    object_bytes = λ o j byte i byte_in there. without_may (left_there (block first k)) s.cells (Holder.Object o.cache.number (place_of o)) (place_of o + j) (pattern_byte o.cache.pattern j) byte
        (ap (λ b. b && true) (outside o j (record { cache_in = i.cache_in; slab_in = i.slab_in; index_in = i.index_in }) byte_in))
        (h.object_bytes o j byte (record { cache_in = i.cache_in; slab_in = i.slab_in; index_in = i.index_in }) byte_in there);
    empty_told = λ r e. absurd (cc);
    free_told = λ r e. absurd (cc);
  }

module _ (limit order k : ℕ) (m : Machine) (s : State) (w : IsWellFormed limit order m) (h : Meets order s m) where
  too_large : ltb order k ≡ true → IsKeptBy limit order (Command.Alloc k) s (Say.Refused Refusal.BadOrder) m
  unfolding due
  too_large e = refused limit order (Command.Alloc k) Refusal.BadOrder s m h (λ t owners states. (rw e refl, refl))

  no_frames : ltb order k ≡ false → choice_by_need order k m ≡ None → IsKeptBy limit order (Command.Alloc k) s (Say.Refused Refusal.NoFrames) (by_need order k m)
  unfolding due
  no_frames e none =
      refused limit order (Command.Alloc k) Refusal.NoFrames s (by_need order k m) (subst (λ n. Meets order s n) (sym (by_need_none order k m none)) h)
      (λ t owners states. (rw e refl, and_from _ _ (ap (λ x. not (has_vacant_block order x k)) h.has ∙ ap not (room_served order k m w (ltb-false order k e) none)) refl))

  served : (first : ℕ) → ltb order k ≡ false → choice_by_need order k m ≡ Some first
      → IsKeptBy limit order (Command.Alloc k) s (Say.Frame first) (with_block (block first k) (by_need order k m))
  unfolding due state_after
  served first e is = record {
    allowed = λ t owners states. all_kept (On.Tenant t (Command.Alloc k)) (record { addressee = To.Tenant t; body = Say.Frame first })
        (record { limit = limit; order = order; owners = owners; states = states }) s
        (formed t (Some (after_alloc (block first k) s)) refl) (rw e refl) refl refl
        (ap (λ x. can_stand order x (block first k)) h.has ∙ by_need_stands order k first m w is)
        refl refl refl refl refl refl refl;
    meets = λ t. (after_alloc (block first k) s, refl, alloc_meets order k first s (by_need order k m) (by_need_kept order k m w) (by_need_meets order s m w h k) is);
  }

  pub alloc_is_kept : IsPromiseKept limit order (Command.Alloc k) m s
  unfolding command_step alloc_step
  alloc_is_kept = go (ltb order k) refl (choice_by_need order k m) refl
    where
      go : (b : Bool) → ltb order k ≡ b → (o : Option ℕ) → choice_by_need order k m ≡ o
          → let step = if b then refuse AllocRefusal.BadOrder m else alloc_at k (by_need order k m) o in IsKeptBy limit order (Command.Alloc k) s (alloc_body step.answer) step.machine
      go true e o is = too_large e
      go false e None is = no_frames e is
      go false e (Some first) is = served first e is
