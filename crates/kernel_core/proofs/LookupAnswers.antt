-- What the lookups of a kernel return is what the lookups find in the private machine.
use Rattle.std.proofs.Common.{◌≡◌, ℕ, ◌*◌, ◌/◌, ◌^◌, ◌<◌, ◌==◌, true, false, map, Option, Some, None, Result, Ok, Err, ok_or, length, refl, sym, ap, ◌∙◌, subst, inr, arith}
use Rattle.std.specs.Prelude.{MatchOption, find, flat_map, if◌then◌else◌}
use Rattle.std.specs.List.{list_any}
use Rattle.std.proofs.lemmas.Bool.{eqb-true, eq-eqb, false_from_ne_true}
use Rattle.model_core.specs.declared.limits.TheConstants.{FRAME_BYTES}
use Rattle.model_core.specs.declared.refusals.GiveRefusal.{GiveRefusal}
use Rattle.model_core.specs.Blocks.{block, HasFrame, IsTaken}
use Rattle.model_core.specs.Machine.{Cache, Machine, order_in}
use Rattle.model_core.specs.Slabs.{LiveObject, live_objects, cache_of}
use Rattle.model_core.specs.CacheOperations.{give_object, give_of, give_step}
use Rattle.model_core.specs.Reach.{in_reach}
use Rattle.model_core.specs.WellFormed.{IsWellFormed}
use Rattle.model_core.specs.Elements.{IsIn}
use Rattle.model_core.proofs.Lists.{in_left, in_right, in_map, map_in, in_flat_map, find_in, any_in, any_none, any_unfound, each_from}
use Rattle.model_core.proofs.TakenSteps.{order_in_is}
use Rattle.words_core.specs.declared.reply.Refusal.{Refusal}
use Rattle.words_core.specs.Refusals.{give_refusal}
use Rattle.machine_changes.specs.Pages.{IsInReach}
use Rattle.machine_changes.proofs.PageLists.{order_told}
use Rattle.machine_changes.proofs.PageReach.{reach_meets}
use Rattle.slab_core.specs.Lending.{HasObject}
use Rattle.world_core.specs.Limits.{cache_limit}
use Rattle.kernel_core.specs.declared.holders.Holder.{Holder}
use Rattle.kernel_core.specs.Content.{KernelContent}
use Rattle.kernel_core.specs.Shows.{ShowsMachine}
use Rattle.kernel_core.specs.Stores.{IsKernel}
use Rattle.kernel_core.specs.Lending.{HasBlock}
use Rattle.kernel_core.specs.Holders.{HasObjectAround, IsHolder, block_holder, object_holder, live_holders, has_byte, holder_at}
use Rattle.kernel_core.specs.Lookups.{Lookup, HolderOf, RangeAt, PageAround, ObjectAt, Outcome, FoundHolder, FoundRange, Refused, found_or_refused, holder_or_refused, page_at, object_in, answer_to, AnswersLookup}
use Rattle.kernel_core.proofs.CallEffects.{steady}
use Rattle.kernel_core.proofs.OneHolder.{few_holders, few_pages, find_only, find_no, within_parts, within_from, reach_is}
use Rattle.kernel_core.proofs.ShownWellFormed.{shown_well_formed}

abbrev holder : Option ℕ → ℕ → ℕ → Holder
holder cache begin bytes = record { cache = cache; place = begin; bytes = bytes }

-- if a `give` of the object would succeed, a live object of the cache begins at the place
record IsGiven (x : Cache) (place : ℕ) : Type 0 where
  object : LiveObject
  live : IsIn object (live_objects x)
  at : object.place ≡ place

given : (c place : ℕ) (m : Machine) (x : Cache) → cache_of m c ≡ Some x → (give_step c place m).answer ≡ Ok tt → IsGiven x place
unfolding give_step
given c place m x cached gives = go (find (λ o. o.place == place) (live_objects x)) refl (ap (λ o. (give_of place m o).answer) (sym cached) ∙ gives)
  where
    go : (o : Option LiveObject) → find (λ o. o.place == place) (live_objects x) ≡ o → (give_object x m o).answer ≡ Ok tt → IsGiven x place
    go None e none = absurd (cc)
    go (Some o) e some =
        let is = find_in (λ o. o.place == place) o (live_objects x) e in
        record { object = o; live = is.0; at = eqb-true o.place place is.1 }

-- Holders

-- the machine has this live page block or live object, and it has the byte
abbrev IsThere : Machine → ℕ → Holder → Type 0
IsThere m place h = IsIn h (live_holders m) × (has_byte place h ≡ true)

page_in_frame : (place begin bytes first order : ℕ) → HasFrame (block first order) (place / FRAME_BYTES) → begin ≡ FRAME_BYTES * first
    → bytes ≡ FRAME_BYTES * 2 ^ order → has_byte place (holder None begin bytes) ≡ true
page_in_frame place begin bytes first order here begins size =
    within_from place 1 begin bytes (omega (arith, here.0, begins)) (omega (arith, here.1, begins, size))

page_there : (m : Machine) (place begin bytes : ℕ) → HasBlock m place begin bytes
    → IsIn (holder None begin bytes) (map block_holder m.blocks) × (has_byte place (holder None begin bytes) ≡ true)
page_there m place begin bytes is = (
  subst (λ n. IsIn (holder None n bytes) (map block_holder m.blocks)) (sym is.begins)
      (subst (λ n. IsIn (holder None (FRAME_BYTES * is.first) n) (map block_holder m.blocks)) (sym is.size)
      (in_map block_holder (block is.first is.order) m.blocks (order_in_is m.blocks is.first is.order is.live))),
  page_in_frame place begin bytes is.first is.order is.around is.begins is.size,
)

object_there : (m : Machine) (place c begin bytes : ℕ) → HasObjectAround m place c begin bytes → IsThere m place (holder (Some c) begin bytes)
object_there m place c begin bytes is =
    let x = is.object.cache in
    let cached = find_in (λ y. y.number == c) x m.caches is.object.cached in
    let number : x.number ≡ c = eqb-true x.number c cached.1 in
    let o = given c begin m x is.object.cached is.object.given in
    let listed : IsIn (object_holder x o.object) (live_holders m) =
    in_right (object_holder x o.object) (map block_holder m.blocks) (flat_map (λ c. map (object_holder c) (live_objects c)) m.caches)
    (in_flat_map (λ c. map (object_holder c) (live_objects c)) (object_holder x o.object) x m.caches cached.0
    (in_map (object_holder x) o.object (live_objects x) o.live)) in (
      subst (λ n. IsIn (holder (Some n) begin bytes) (live_holders m)) number
          (subst (λ n. IsIn (holder (Some x.number) n bytes) (live_holders m)) o.at
          (subst (λ n. IsIn (holder (Some x.number) o.object.place n) (live_holders m)) is.object.size listed)),
      within_from place 1 begin bytes is.from (omega (arith, is.below)),
    )

there : (m : Machine) (place : ℕ) (cache : Option ℕ) (begin bytes : ℕ)
    → MatchOption cache (HasBlock m place begin bytes) (λ c. HasObjectAround m place c begin bytes) → IsThere m place (holder cache begin bytes)
there m place None begin bytes page =
    let is = page_there m place begin bytes page in
    (in_left (holder None begin bytes) (map block_holder m.blocks) (flat_map (λ c. map (object_holder c) (live_objects c)) m.caches) is.0, is.1)
there m place (Some c) begin bytes object = object_there m place c begin bytes object

module _ {limit : ℕ} (order : ℕ) (m : Machine) (w : IsWellFormed limit order m) (place : ℕ) where
  -- a live page block or live object that has the byte is the one that `holder_at` finds
  pub holder_found : (h : Holder) → IsHolder m place h → holder_at m place ≡ Some h
  holder_found h is =
      let here = there m place h.cache h.place h.bytes is in
      find_only (has_byte place) h (live_holders m) (few_holders order m w place) here.0 here.1

  pub page_found : (begin bytes : ℕ) → HasBlock m place begin bytes → page_at m place ≡ Some (holder None begin bytes)
  page_found begin bytes is =
      let here = page_there m place begin bytes is in
      find_only (has_byte place) (holder None begin bytes) (map block_holder m.blocks) (few_pages order m w place) here.0 here.1

  pub no_page : (IsTaken (order_in m.blocks) (place / FRAME_BYTES) → ⊥) → page_at m place ≡ None
  no_page none =
      find_no (has_byte place) (map block_holder m.blocks) (any_none (has_byte place) (map block_holder m.blocks)
      (each_from (λ h. has_byte place h ≡ false) (map block_holder m.blocks) (λ h i.
      let b = map_in block_holder h m.blocks i in
      subst (λ h. has_byte place h ≡ false) b.2 (false_from_ne_true (has_byte place (block_holder b.0)) (λ is.
      let p = within_parts place 1 (FRAME_BYTES * b.0.first) (FRAME_BYTES * 2 ^ b.0.order) is in
      none (b.0.first, b.0.order, order_told b.0 m.blocks w.blocks_rise b.1, (omega (arith, p.0), omega (arith, p.1))))))))

pub no_holder : (m : Machine) (place : ℕ) → in_reach m place 1 ≡ false → holder_at m place ≡ None
no_holder m place none = find_no (has_byte place) (live_holders m) (sym (reach_is m place) ∙ none)

-- Objects

pub object_found : (m : Machine) (c place bytes : ℕ) → HasObject m c place bytes → object_in c place (cache_of m c) ≡ FoundHolder (holder (Some c) place bytes)
object_found m c place bytes is =
    let x = is.cache in
    let o = given c place m x is.cached is.given in
    let live : list_any (λ o. o.place == place) (live_objects x) ≡ true = any_in (λ o. o.place == place) o.object (live_objects x) o.live (eq-eqb o.object.place place o.at) in
    ap (object_in c place) is.cached
    ∙ ap (λ v. if v then FoundHolder (holder (Some c) place x.size) else Refused Refusal.NotAnObject) live
    ∙ ap (λ n. FoundHolder (holder (Some c) place n)) is.size

same_refusal : (refusal why : GiveRefusal) → ◌≡◌ {A = Result (Unit {0}) GiveRefusal} (Err refusal) (Err why) → refusal ≡ why
same_refusal refusal why is = cc

pub no_object : (m : Machine) (c place : ℕ) (why : GiveRefusal) → (give_step c place m).answer ≡ Err why → object_in c place (cache_of m c) ≡ Refused (give_refusal why)
unfolding give_step
no_object m c place why refuses = go (cache_of m c) refuses
  where
    of_cache : (x : Cache) (o : Option LiveObject) → find (λ o. o.place == place) (live_objects x) ≡ o → (give_object x m o).answer ≡ Err why
        → object_in c place (Some x) ≡ Refused (give_refusal why)
    of_cache x None e is =
        ap (λ v. if v then FoundHolder (holder (Some c) place x.size) else Refused Refusal.NotAnObject) (any_unfound (λ o. o.place == place) (live_objects x) e)
        ∙ ap (λ r. Refused (give_refusal r)) (same_refusal GiveRefusal.NotAnObject why is)
    of_cache x (Some o) e is = absurd (cc)

    go : (o : Option Cache) → (give_of place m o).answer ≡ Err why → object_in c place o ≡ Refused (give_refusal why)
    go None is = ap (λ r. Refused (give_refusal r)) (same_refusal GiveRefusal.NoCache why is)
    go (Some x) is = of_cache x (find (λ o. o.place == place) (live_objects x)) refl is

-- Answers

module _ (k : KernelContent) (t tenant : ℕ) (same : (t ≡ tenant) × (t < k.tenants)) (is : IsKernel k) where
  known : t < length k.buddy.tenants
  known = omega (arith, same.1, is.agree.holdings)

  formed : (m : Machine) → ShowsMachine k t m → IsWellFormed cache_limit k.order m
  formed m shown = shown_well_formed k t m is same.1 shown

  pub answers_for : (lookup : Lookup) (outcome : Outcome) → ((m : Machine) → ShowsMachine k t m → outcome ≡ answer_to k.order lookup m)
      → AnswersLookup k tenant lookup outcome
  answers_for lookup outcome told = subst (λ u. AnswersLookup k u lookup outcome) same.0 (inr (same.1, told))

  pub holder_answers : (place : ℕ) (o : Option Holder) → ((m : Machine) → ShowsMachine k t m → MatchOption o (in_reach m place 1 ≡ false) (IsHolder m place))
      → AnswersLookup k tenant (HolderOf place) (found_or_refused FoundHolder (ok_or o Refusal.OutOfReach))
  holder_answers place None told =
      answers_for (HolderOf place) (Refused Refusal.OutOfReach) (λ m shown. ap holder_or_refused (sym (no_holder m place (told m shown))))
  holder_answers place (Some h) told =
      answers_for (HolderOf place) (FoundHolder h) (λ m shown. ap holder_or_refused (sym (holder_found k.order m (formed m shown) place h (told m shown))))

  pub page_answers : (place begin bytes : ℕ) → ((m : Machine) → ShowsMachine k t m → HasBlock m place begin bytes)
      → AnswersLookup k tenant (PageAround place) (FoundHolder (record { cache = None; place = begin; bytes = bytes }))
  page_answers place begin bytes told =
      answers_for (PageAround place) (FoundHolder (holder None begin bytes)) (λ m shown.
      ap holder_or_refused (sym (page_found k.order m (formed m shown) place begin bytes (told m shown))))

  pub no_page_answers : (place : ℕ) → ((m : Machine) → ShowsMachine k t m → IsTaken (order_in m.blocks) (place / FRAME_BYTES) → ⊥)
      → AnswersLookup k tenant (PageAround place) (Refused Refusal.OutOfReach)
  no_page_answers place told =
      answers_for (PageAround place) (Refused Refusal.OutOfReach) (λ m shown.
      ap holder_or_refused (sym (no_page k.order m (formed m shown) place (told m shown))))

  pub range_answers : (place len : ℕ) → IsInReach k.space k.buddy k.slabs t place len → AnswersLookup k tenant (RangeAt place len) (FoundRange place len)
  range_answers place len reach =
      answers_for (RangeAt place len) (FoundRange place len) (λ m shown.
      sym (ap (λ v. if v then FoundRange place len else Refused Refusal.OutOfReach)
      ((reach_meets k.space k.buddy k.slabs t place len m (steady k.space k.buddy k.slabs t is.together known) shown).1 reach)))

  pub no_range_answers : (place len : ℕ) → ((m : Machine) → ShowsMachine k t m → in_reach m place len ≡ false)
      → AnswersLookup k tenant (RangeAt place len) (Refused Refusal.OutOfReach)
  no_range_answers place len told =
      answers_for (RangeAt place len) (Refused Refusal.OutOfReach) (λ m shown.
      sym (ap (λ v. if v then FoundRange place len else Refused Refusal.OutOfReach) (told m shown)))

  pub object_answers : (c place bytes : ℕ) → ((m : Machine) → ShowsMachine k t m → HasObject m c place bytes)
      → AnswersLookup k tenant (ObjectAt c place) (FoundHolder (record { cache = Some c; place = place; bytes = bytes }))
  object_answers c place bytes told =
      answers_for (ObjectAt c place) (FoundHolder (holder (Some c) place bytes)) (λ m shown. sym (object_found m c place bytes (told m shown)))

  pub no_object_answers : (c place : ℕ) (why : GiveRefusal) → ((m : Machine) → ShowsMachine k t m → (give_step c place m).answer ≡ Err why)
      → AnswersLookup k tenant (ObjectAt c place) (Refused (give_refusal why))
  no_object_answers c place why told =
      answers_for (ObjectAt c place) (Refused (give_refusal why)) (λ m shown. sym (no_object m c place why (told m shown)))
