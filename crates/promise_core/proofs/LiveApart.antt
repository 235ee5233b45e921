-- Page blocks and the slabs of live objects share no frame and lie in held slots. Each step keeps this.
use Rattle.std.proofs.Common.{◌≡◌, ℕ, ◌+◌, ◌-◌, ◌*◌, ◌/◌, ◌%◌, ◌^◌, ◌≤◌, Bool, true, false, not, List, [], ◌∷◌, map, length, Option, Some, None, is_none, refl, ap, sym, subst, ◌∙◌, ◌⊎◌, inl, inr, arith}
use Rattle.std.specs.Prelude.{if◌then◌else◌, filter, nat_lt, ◌==◌}
use Rattle.std.specs.Option.{option_map_or}
use Rattle.std.proofs.lemmas.Bool.{eq-eqb, ne_eqb, eqb-true, false≢true, or_cases, and_parts, leb-true, not-true, not-false}
use Rattle.arrayvec.specs.ArrayVec.{ArrayVec}
use Rattle.model_core.specs.Blocks.{Block, block, HasFrame, IsAligned, slot_block}
use Rattle.model_core.specs.Layouts.{is_size, is_alignment}
use Rattle.model_core.specs.Machine.{put_rising}
use Rattle.model_core.specs.Operations.{overlaps}
use Rattle.model_core.specs.Elements.{IsIn}
use Rattle.model_core.proofs.Lists.{find_in, filter_in, in_filter, some_any, any_in, in_left, in_right, map_in, in_map, none_of, any_with, any_unfound, in_flat_map}
use Rattle.model_core.proofs.BlocksApart.{overlap_from, has_first}
use Rattle.model_core.proofs.PageSteps.{in_slot_overlaps}
use Rattle.words_core.specs.declared.event.Event.{Event}
use Rattle.words_core.specs.declared.event.Event.TheVariants as On
use Rattle.words_core.specs.declared.event.AdminCommand.TheVariants as Do
use Rattle.words_core.specs.declared.event.Command.TheVariants as Command
use Rattle.words_core.specs.declared.reply.Body.{Body}
use Rattle.words_core.specs.declared.reply.Body.TheVariants as Say
use Rattle.words_core.specs.declared.reply.Refusal.{Refusal}
use Rattle.promise_core.specs.Holdings.{KnownCache, Holdings, has_slot, known_cache, with_live_places, slab_around, known_blocks, is_vacant, can_stand, is_slot_busy, live_beside, can_be_taken}
use Rattle.promise_core.specs.Lying.{Used, HaveOwnNumbers, IsLaid, IsFitted, IsGridded, AllGridded, live_of_slab}
use Rattle.promise_core.specs.State.{State, Known, opening_state, state_after}
use Rattle.promise_core.specs.Promises.{first_due, due, refusals, blocks, objects, new_layout}
use Rattle.promise_core.proofs.Steps.{in_put, some_state}
use Rattle.promise_core.proofs.ObjectGrids.{new_gridded, given_gridded, taken_gridded}

-- Used blocks lie apart

-- used blocks still lie apart if every block that is used was used before, and its slot is still held
fewer : (order : ℕ) (h h' : Holdings) → IsLaid order h → ((by : Option ℕ) (b : Block) → Used h' by b → Used h by b)
    → ((by : Option ℕ) (b : Block) → Used h' by b → has_slot h (b.first / 2 ^ order) ≡ true → has_slot h' (b.first / 2 ^ order) ≡ true) → HaveOwnNumbers h' → IsLaid order h'
fewer order h h' l used held numbers = record {
  placed = λ by b u. let p = l.placed by b (used by b u) in (p.0, held by b u p.1);
  apart = λ by other a b x ua ub. l.apart by other a b x (used by a ua) (used other b ub);
  numbers = numbers;
}

-- used blocks still lie apart after one more block is used, if it is aligned, in a held slot, and shares no frame with the others
more : (order : ℕ) (h h' : Holdings) (new : Option ℕ) (n : Block) → IsLaid order h
    → ((by : Option ℕ) (b : Block) → Used h' by b → Used h by b ⊎ ((by ≡ new) × (b ≡ n)))
    → ((u : ℕ) → has_slot h u ≡ true → has_slot h' u ≡ true) → IsAligned order n → has_slot h (n.first / 2 ^ order) ≡ true
    → ((by : Option ℕ) (b : Block) (x : ℕ) → Used h by b → HasFrame b x → HasFrame n x → ⊥) → HaveOwnNumbers h' → IsLaid order h'
more order h h' new n l used held aligned here vacant numbers = record {
  placed = λ by b u. elim (used by b u) [
    | inl old ↦ let p = l.placed by b old in (p.0, held _ p.1)
    | inr (e, is) ↦ subst (λ y. IsAligned order y × (has_slot h' (y.first / 2 ^ order) ≡ true)) (sym is) (aligned, held _ here)
  ];
  apart = λ by other a b x ua ub ha hb. elim (used by a ua) [
    | inl old ↦ elim (used other b ub) [
      | inl old' ↦ l.apart by other a b x old old' ha hb
      | inr (e, is) ↦ absurd (vacant by a x old ha (subst (λ y. HasFrame y x) is hb))
    ]
    | inr (e, is) ↦ elim (used other b ub) [
      | inl old ↦ absurd (vacant other b x old hb (subst (λ y. HasFrame y x) is ha))
      | inr (e', is') ↦ (e ∙ sym e', is ∙ sym is')
    ]
  ];
  numbers = numbers;
}

used_taken : (h : Holdings) (by : Option ℕ) (b : Block) → Used h by b → IsIn b (known_blocks h)
unfolding known_blocks
used_taken h None b i = in_left b h.pages _ i
used_taken h (Some n) b (c, p, i, j, e, is) = in_right b h.pages _
    (in_flat_map (λ d. map (slab_around d) d.live) b c h.caches i (subst (λ y. IsIn y (map (slab_around c) c.live)) (sym is) (in_map (slab_around c) p c.live j)))

-- a used block shares no frame with a vacant block
vacant_apart : (h : Holdings) (n : Block) → is_vacant h n ≡ true → (by : Option ℕ) (b : Block) (x : ℕ) → Used h by b → HasFrame b x → HasFrame n x → ⊥
vacant_apart h n e by b x u hb hn =
    false≢true (sym (not-true _ e) ∙ any_in (overlaps n) b (known_blocks h) (used_taken h by b u) (overlap_from n b x hn hb))

pub record CanStand (order : ℕ) (h : Holdings) (b : Block) : Type 0 where
  pub aligned : IsAligned order b
  pub held : has_slot h (b.first / 2 ^ order) ≡ true
  pub vacant : is_vacant h b ≡ true

pub can_stand_is : (order : ℕ) (h : Holdings) (b : Block) → can_stand order h b ≡ true → CanStand order h b
unfolding can_stand
can_stand_is order h b e = let p = and_parts _ _ e in let q = and_parts _ _ p.0 in let r = and_parts _ _ p.1 in
    record { aligned = (leb-true b.order order q.0, eqb-true _ 0 q.1); held = r.0; vacant = r.1 }

-- if a block of the order of a cache's slabs is vacant, the cache has no live object in it
pub empty_slab : (order : ℕ) (h : Holdings) (c : KnownCache) → IsIn c h.caches → (f : ℕ) → is_vacant h (block f c.order) ≡ true → length (live_of_slab c f) ≡ 0
empty_slab order h c i f vacant = go (live_of_slab c f) refl
  where
    go : (ps : List ℕ) → live_of_slab c f ≡ ps → length ps ≡ 0
    go [] is = refl
    go (p ∷ ps) is =
        let at : IsIn p c.live × (((slab_around c p).first == f) ≡ true) = filter_in (λ q. (slab_around c q).first == f) p c.live (subst (IsIn p) (sym is) (inl refl)) in
        let same : slab_around c p ≡ block f c.order = ap (λ x. block x c.order) (eqb-true (slab_around c p).first f at.1) in
        absurd (vacant_apart h (block f c.order) vacant (Some c.number) (block f c.order) f (c, p, i, at.0, refl, sym same)
        (has_first (block f c.order)) (has_first (block f c.order)))

-- Changes of a cache's live objects

live_number : (b : Bool) (c : KnownCache) (live : List ℕ) → (if b then record c { live = live } else c).number ≡ c.number
live_number true c live = refl
live_number false c live = refl

live_numbers : (h : Holdings) (number : ℕ) (change : List ℕ → List ℕ) → HaveOwnNumbers h → HaveOwnNumbers (with_live_places number change h)
live_numbers h number change own c d i j e =
    let x : (y : KnownCache) × IsIn y h.caches × ((if y.number == number then record y { live = change y.live } else y) ≡ c) = map_in _ c h.caches i in
    let z : (y : KnownCache) × IsIn y h.caches × ((if y.number == number then record y { live = change y.live } else y) ≡ d) = map_in _ d h.caches j in
    let same : x.0 ≡ z.0 = own x.0 z.0 x.1 z.1 (sym (live_number (x.0.number == number) x.0 (change x.0.live)) ∙ ap (λ y. y.number) x.2
    ∙ e ∙ ap (λ y. y.number) (sym z.2) ∙ live_number (z.0.number == number) z.0 (change z.0.live)) in
    sym x.2 ∙ ap (λ (y : KnownCache). if y.number == number then record y { live = change y.live } else y) same ∙ z.2

-- the user is the cache with this number, and the block is the slab of an object of this cache that is live after the change
abbrev Changed : Holdings → ℕ → (List ℕ → List ℕ) → Option ℕ → Block → Type 0
Changed h number change by b = (c : KnownCache) × (p : ℕ) × IsIn c h.caches × (c.number ≡ number) × IsIn p (change c.live) × (by ≡ Some number) × (b ≡ slab_around c p)

live_used : (h : Holdings) (number : ℕ) (change : List ℕ → List ℕ) (by : Option ℕ) (b : Block) → Used (with_live_places number change h) by b
    → Used h by b ⊎ Changed h number change by b
live_used h number change None b i = inl i
live_used h number change (Some n) b (c, p, i, j, e, is) =
    let x : (y : KnownCache) × IsIn y h.caches × ((if y.number == number then record y { live = change y.live } else y) ≡ c) = map_in _ c h.caches i in
    go x.0 x.1 (x.0.number == number) refl x.2
  where
    go : (y : KnownCache) → IsIn y h.caches → (test : Bool) → (y.number == number) ≡ test → (if test then record y { live = change y.live } else y) ≡ c
        → Used h (Some n) b ⊎ Changed h number change (Some n) b
    go y m true t same = let at : y.number ≡ number = eqb-true _ _ t in
        inr (y, p, m, at, subst (λ z. IsIn p z.live) (sym same) j, ap Some (sym e ∙ ap (λ z. z.number) (sym same) ∙ at), is ∙ ap (λ z. slab_around z p) (sym same))
    go y m false t same = inl (y, p, m, subst (λ z. IsIn p z.live) (sym same) j, ap (λ z. z.number) same ∙ e, is ∙ ap (λ z. slab_around z p) (sym same))

-- Each step

alloc_laid : (order : ℕ) (h : Holdings) (b : Block) → IsLaid order h → can_stand order h b ≡ true
    → IsLaid order (record h { pages = put_rising (λ x. x.first) b h.pages })
alloc_laid order h b l e = let c = can_stand_is order h b e in
    more order h (record h { pages = put_rising (λ x. x.first) b h.pages }) None b l used (λ u held. held) c.aligned c.held (vacant_apart h b c.vacant) l.numbers
  where
    used : (by : Option ℕ) (y : Block) → Used (record h { pages = put_rising (λ x. x.first) b h.pages }) by y → Used h by y ⊎ ((by ≡ None) × (y ≡ b))
    used None y i = elim (in_put (λ x. x.first) b y h.pages i) [ inl same ↦ inr (refl, sym same) | inr old ↦ inl old ]
    used (Some n) y u = inl u

some_in : (xs : List ℕ) → nat_lt 0 (length xs) ≡ true → (x : ℕ) × IsIn x xs
some_in [] e = absurd (false≢true e)
some_in (x ∷ xs) e = (x, inl refl)

take_laid : (order number place : ℕ) (h : Holdings) (c : KnownCache) → IsLaid order h → known_cache h number ≡ Some c → can_be_taken order h c place ≡ true
    → IsLaid order (with_live_places number (put_rising (λ p. p) place) h)
unfolding can_be_taken
take_laid order number place h c l e can = elim (or_cases _ _ (and_parts _ _ (and_parts _ _ can).0).1) [
  | inl some ↦
      let q : (x : ℕ) × IsIn x (live_beside c place) = some_in (live_beside c place) some in
      let at = filter_in (λ p. (slab_around c p).first == (slab_around c place).first) q.0 c.live q.1 in
      let same : slab_around c q.0 ≡ slab_around c place = ap (λ f. block f c.order) (eqb-true _ _ at.1) in
      let there : Used h (Some number) (slab_around c place) = (c, q.0, found.0, at.0, is_number, sym same) in
      fewer order h after l (λ by b u. elim (used by b u) [
        | inl old ↦ old
        | inr (is_by, is) ↦ subst (λ o. Used h o b) (sym is_by) (subst (Used h (Some number)) (sym is) there)
      ]) (λ by b u held. held) (live_numbers h number (put_rising (λ p. p) place) l.numbers)
  | inr stands ↦ let s = can_stand_is order h (slab_around c place) stands in
      more order h after (Some number) (slab_around c place) l used (λ u held. held) s.aligned s.held (vacant_apart h (slab_around c place) s.vacant)
      (live_numbers h number (put_rising (λ p. p) place) l.numbers)
]
  where
    after : Holdings
    after = with_live_places number (put_rising (λ p. p) place) h

    found : IsIn c h.caches × ((c.number == number) ≡ true)
    found = find_in (λ y. y.number == number) c h.caches e

    is_number : c.number ≡ number
    is_number = eqb-true _ _ found.1

    used : (by : Option ℕ) (b : Block) → Used (with_live_places number (put_rising (λ p. p) place) h) by b → Used h by b ⊎ ((by ≡ Some number) × (b ≡ slab_around c place))
    used by b u = elim (live_used h number (put_rising (λ p. p) place) by b u) [
      | inl old ↦ inl old
      | inr (d, p, m, num, j, is_by, is) ↦ let one : d ≡ c = l.numbers d c m found.0 (num ∙ sym is_number) in
          elim (in_put (λ x. x) place p d.live j) [
            | inl same ↦ inr (is_by, is ∙ ap (λ z. slab_around z p) one ∙ ap (slab_around c) (sym same))
            | inr old ↦ inl (subst (λ o. Used h o b) (sym is_by) (d, p, m, old, num, is))
          ]
    ]

give_laid : (order number place : ℕ) (h : Holdings) → IsLaid order h → IsLaid order (with_live_places number (filter (λ p. not (p == place))) h)
give_laid order number place h l = fewer order h (with_live_places number (filter (λ p. not (p == place))) h) l (λ by b u.
    elim (live_used h number (filter (λ p. not (p == place))) by b u) [
      | inl old ↦ old
      | inr (d, p, m, num, j, is_by, is) ↦
          subst (λ o. Used h o b) (sym is_by) (d, p, m, (filter_in (λ p. not (p == place)) p d.live j).0, num, is)
    ]) (λ by b u held. held) (live_numbers h number (filter (λ p. not (p == place))) l.numbers)

free_laid : (order first : ℕ) (h : Holdings) → IsLaid order h → IsLaid order (record h { pages = filter (λ x. not (x.first == first)) h.pages })
free_laid order first h l = fewer order h (record h { pages = filter (λ x. not (x.first == first)) h.pages }) l used (λ by b u held. held) l.numbers
  where
    used : (by : Option ℕ) (b : Block) → Used (record h { pages = filter (λ x. not (x.first == first)) h.pages }) by b → Used h by b
    used None b i = (filter_in (λ x. not (x.first == first)) b h.pages i).0
    used (Some n) b u = u

destroy_laid : (order number : ℕ) (h : Holdings) → IsLaid order h → IsLaid order (record h { caches = filter (λ c. not (c.number == number)) h.caches })
destroy_laid order number h l = fewer order h (record h { caches = filter (λ c. not (c.number == number)) h.caches }) l used (λ by b u held. held)
    (λ c d i j e. l.numbers c d (filter_in _ c h.caches i).0 (filter_in _ d h.caches j).0 e)
  where
    used : (by : Option ℕ) (b : Block) → Used (record h { caches = filter (λ c. not (c.number == number)) h.caches }) by b → Used h by b
    used None b i = i
    used (Some n) b (c, p, i, j, e, is) = (c, p, (filter_in (λ c. not (c.number == number)) c h.caches i).0, j, e, is)

cache_laid : (order : ℕ) (h : Holdings) (new : KnownCache) → new.live ≡ [] → IsLaid order h → is_none (known_cache h new.number) ≡ true
    → IsLaid order (record h { caches = put_rising (λ x. x.number) new h.caches })
cache_laid order h new empty l none = fewer order h (record h { caches = put_rising (λ x. x.number) new h.caches }) l used (λ by b u held. held) numbers
  where
    other : (c : KnownCache) → IsIn c h.caches → c.number ≡ new.number → ⊥
    other c i e = false≢true (sym (any_unfound (λ y. y.number == new.number) h.caches (none_of _ (not-true _ none))) ∙ any_in (λ y. y.number == new.number) c h.caches i (eq-eqb _ _ e))

    numbers : HaveOwnNumbers (record h { caches = put_rising (λ x. x.number) new h.caches })
    numbers c d i j e = elim (in_put (λ x. x.number) new c h.caches i) [
      | inl c_new ↦ elim (in_put (λ x. x.number) new d h.caches j) [
        | inl d_new ↦ sym c_new ∙ d_new
        | inr d_old ↦ absurd (other d d_old (sym e ∙ ap (λ y. y.number) (sym c_new)))
      ]
      | inr c_old ↦ elim (in_put (λ x. x.number) new d h.caches j) [
        | inl d_new ↦ absurd (other c c_old (e ∙ ap (λ y. y.number) (sym d_new)))
        | inr d_old ↦ l.numbers c d c_old d_old e
      ]
    ]

    used : (by : Option ℕ) (b : Block) → Used (record h { caches = put_rising (λ x. x.number) new h.caches }) by b → Used h by b
    used None b i = i
    used (Some n) b (c, p, i, j, e, is) = elim (in_put (λ x. x.number) new c h.caches i) [
      | inl c_new ↦ elim (subst (IsIn p) empty (subst (λ y. IsIn p y.live) (sym c_new) j)) [ ]
      | inr old ↦ (c, p, old, j, e, is)
    ]

pub slot_put : (u : ℕ) (h : Holdings) (v : ℕ) → has_slot h v ≡ true → has_slot (record h { slots = put_rising (λ x. x) u h.slots }) v ≡ true
slot_put u h v e = any_with (λ x. x == v) (λ x. x) u h.slots e

grant_laid : (order u : ℕ) (h : Holdings) → IsLaid order h → IsLaid order (record h { slots = put_rising (λ v. v) u h.slots })
grant_laid order u h l = fewer order h (record h { slots = put_rising (λ v. v) u h.slots }) l same_used (λ by b i. slot_put u h (b.first / 2 ^ order)) l.numbers
  where
    same_used : (by : Option ℕ) (b : Block) → Used (record h { slots = put_rising (λ v. v) u h.slots }) by b → Used h by b
    same_used None b i = i
    same_used (Some n) b i = i

take_back_laid : (order u : ℕ) (h : Holdings) → is_slot_busy order h u ≡ false → IsLaid order h → IsLaid order (record h { slots = filter (λ v. not (v == u)) h.slots })
take_back_laid order u h idle l = fewer order h (record h { slots = filter (λ v. not (v == u)) h.slots }) l same_used held l.numbers
  where
    same_used : (by : Option ℕ) (b : Block) → Used (record h { slots = filter (λ v. not (v == u)) h.slots }) by b → Used h by b
    same_used None b i = i
    same_used (Some n) b i = i

    outside : (by : Option ℕ) (b : Block) → Used h by b → b.first / 2 ^ order ≡ u → ⊥
    outside by b i e = false≢true (sym (not-true _ (not-false _ idle)) ∙ any_in (overlaps (slot_block order u)) b (known_blocks h) (used_taken h by b i)
        (in_slot_overlaps order u b e))

    held : (by : Option ℕ) (b : Block) → Used (record h { slots = filter (λ v. not (v == u)) h.slots }) by b → has_slot h (b.first / 2 ^ order) ≡ true
        → has_slot (record h { slots = filter (λ v. not (v == u)) h.slots }) (b.first / 2 ^ order) ≡ true
    held by b i e = let v : (x : ℕ) × IsIn x h.slots × ((x == b.first / 2 ^ order) ≡ true) = some_any _ h.slots e in
        any_in _ v.0 (filter (λ v. not (v == u)) h.slots) (in_filter (λ v. not (v == u)) v.0 h.slots v.1
        (ap not (ne_eqb v.0 u (λ is. outside by b (same_used by b i) (sym (eqb-true v.0 (b.first / 2 ^ order) v.2) ∙ is))))) v.2

second_none : (a b : Bool) (r q : Refusal) → is_none (first_due ((a, r) ∷ (b, q) ∷ [])) ≡ true → b ≡ false
second_none true b r q e = absurd (false≢true e)
second_none false true r q e = absurd (false≢true e)
second_none false false r q e = refl

value_of : {X : Type 0} (f : X → Bool) (o : Option X) → option_map_or f o false ≡ true → (x : X) × (o ≡ Some x) × (f x ≡ true)
value_of f None e = absurd (false≢true e)
value_of f (Some x) e = (x, refl, e)

pub nothing_laid : (order : ℕ) → IsLaid order opening_state.has
unfolding opening_state
nothing_laid order = record { placed = placed; apart = apart; numbers = λ c d i j e. elim i [ ] }
  where
    placed : (by : Option ℕ) (b : Block) → Used (record { slots = []; pages = []; caches = [] }) by b
        → IsAligned order b × (has_slot (record { slots = []; pages = []; caches = [] }) (b.first / 2 ^ order) ≡ true)
    placed None b i = elim i [ ]
    placed (Some n) b (c, p, i, j, e, is) = elim i [ ]

    apart : (by other : Option ℕ) (a b : Block) (x : ℕ) → Used (record { slots = []; pages = []; caches = [] }) by a
        → Used (record { slots = []; pages = []; caches = [] }) other b → HasFrame a x → HasFrame b x → (by ≡ other) × (a ≡ b)
    apart None other a b x i u ha hb = elim i [ ]
    apart (Some n) other a b x (c, p, i, j, e, is) u ha hb = elim i [ ]

pub step : (w : Known) (event : Event) (body : Body) (s s' : State) → state_after w.order event body s ≡ Some s' → refusals event body w s ≡ true
    → blocks event body w s ≡ true → objects event body w s ≡ true → new_layout event body w s ≡ true → IsLaid w.order s.has → IsLaid w.order s'.has
unfolding state_after due
step w event (Say.Refused r) s s' e f b o c l = subst (λ y. IsLaid w.order y.has) (some_state e) l
step w (On.Tenant i (Command.Alloc k)) (Say.Frame first) s s' e f b o c l = subst (λ y. IsLaid w.order y.has) (some_state e) (alloc_laid w.order s.has (block first k) l b)
step w (On.Tenant i (Command.Free first)) (Say.Freed k) s s' e f b o c l = subst (λ y. IsLaid w.order y.has) (some_state e) (free_laid w.order first s.has l)
step w (On.Tenant i (Command.Read begin len)) (Say.Bytes told) s s' e f b o c l = subst (λ y. IsLaid w.order y.has) (some_state e) l
step w (On.Tenant i (Command.Write begin new)) (Say.Written count) s s' e f b o c l = subst (λ y. IsLaid w.order y.has) (some_state e) l
step w (On.Tenant i (Command.Cache size align pattern)) (Say.Cache number chunk q n colours) s s' e f b o c l = subst (λ y. IsLaid w.order y.has) (some_state e)
    (cache_laid w.order s.has (record { number = number; size = size; align = align; pattern = pattern.items; chunk = chunk; order = q; count = n; live = [] }) refl l
    (and_parts _ _ (and_parts _ _ c).0).1)
step w (On.Tenant i (Command.Destroy number)) (Say.Destroyed frames) s s' e f b o c l = subst (λ y. IsLaid w.order y.has) (some_state e) (destroy_laid w.order number s.has l)
step w (On.Tenant i (Command.Take number)) (Say.Object place) s s' e f b o c l = let v = value_of _ (known_cache s.has number) o in
    subst (λ y. IsLaid w.order y.has) (some_state e) (take_laid w.order number place s.has v.0 l v.1 v.2)
step w (On.Tenant i (Command.Give number place)) Say.Given s s' e f b o c l = subst (λ y. IsLaid w.order y.has) (some_state e) (give_laid w.order number place s.has l)
step w (On.Tenant i Command.Reap) (Say.Reaped frames) s s' e f b o c l = subst (λ y. IsLaid w.order y.has) (some_state e) l
step w (On.Tenant i Command.Report) (Say.Report r) s s' e f b o c l = subst (λ y. IsLaid w.order y.has) (some_state e) l
step w (On.Admin (Do.Grant i)) (Say.Granted told u superblock) s s' e f b o c l = subst (λ y. IsLaid w.order y.has) (some_state e) (grant_laid w.order u s.has l)
step w (On.Admin (Do.TakeBack i u)) (Say.TakenBack superblock) s s' e f b o c l = subst (λ y. IsLaid w.order y.has) (some_state e)
    (take_back_laid w.order u s.has (second_none (not (has_slot s.has u)) (is_slot_busy w.order s.has u) Refusal.NoSlot Refusal.SlotBusy f) l)
step w (On.Admin (Do.Reset i)) (Say.WasReset told superblocks) s s' e f b o c l = subst (λ y. IsLaid w.order y.has) (some_state e) (nothing_laid w.order)
step w (On.Admin (Do.Move i u)) (Say.Moved told slot superblock) s s' e f b o c l = subst (λ y. IsLaid w.order y.has) (some_state e) l
step w (On.Admin Do.Pool) (Say.Owners owners) s s' e f b o c l = subst (λ y. IsLaid w.order y.has) (some_state e) l
step w event body s s' e f b o c l = absurd (cc)

-- The grids of each cache

pub nothing_gridded : (order : ℕ) → AllGridded order opening_state.has
unfolding opening_state
nothing_gridded order c i = elim i [ ]

three_none : (a b c : Bool) (r q p : Refusal) → is_none (first_due ((a, r) ∷ (b, q) ∷ (c, p) ∷ [])) ≡ true → (a ≡ false) × (b ≡ false)
three_none true b c r q p e = absurd (false≢true e)
three_none false true c r q p e = absurd (false≢true e)
three_none false false c r q p e = (refl, refl)

-- if the live objects of one cache change and this cache still has grids, all caches still have grids
live_gridded : (order number : ℕ) (change : List ℕ → List ℕ) (h : Holdings) → AllGridded order h
    → ((c : KnownCache) → IsIn c h.caches → c.number ≡ number → IsGridded order (record c { live = change c.live })) → AllGridded order (with_live_places number change h)
live_gridded order number change h g changed c i =
    let x : (y : KnownCache) × IsIn y h.caches × ((if y.number == number then record y { live = change y.live } else y) ≡ c) = map_in _ c h.caches i in
    subst (IsGridded order) x.2 (go x.0 x.1 (x.0.number == number) refl)
  where
    go : (y : KnownCache) → IsIn y h.caches → (test : Bool) → (y.number == number) ≡ test → IsGridded order (if test then record y { live = change y.live } else y)
    go y m true e = changed y m (eqb-true _ _ e)
    go y m false e = g y m

second_fits : (a b n : ℕ) → a + b ≤ n → b ≤ n
second_fits a b n e = omega (arith, e)

-- if no refusal of a new cache is due and the reply keeps `new_layout`, the layout in the reply fits
told_fits : (w : Known) (t size align : ℕ) (pattern : ArrayVec ℕ) (number chunk q n colours : ℕ) (s : State)
    → is_none (due (On.Tenant t (Command.Cache size align pattern)) w s) ≡ true
    → new_layout (On.Tenant t (Command.Cache size align pattern)) (Say.Cache number chunk q n colours) w s ≡ true
    → IsFitted w.order (record { number = number; size = size; align = align; pattern = pattern.items; chunk = chunk; order = q; count = n; live = [] })
unfolding due
told_fits w t size align pattern number chunk q n colours s none fits =
    let asked = three_none (not (is_size size)) (not (is_alignment align)) _ Refusal.BadSize Refusal.BadAlign Refusal.NoCacheSlot none in
    let p = and_parts _ _ (and_parts _ _ fits).1 in
    let sizes = and_parts _ _ p.0 in
    let counts = and_parts _ _ p.1 in
    let inside : align * (colours - 1) + n * chunk ≤ 4096 * 2 ^ q = leb-true (align * (colours - 1) + n * chunk) (4096 * 2 ^ q) counts.1 in
    record {
      of_slot = leb-true q w.order (and_parts _ _ sizes.1).1;
      sized = leb-true 1 size (and_parts _ _ (not-false (is_size size) asked.0)).0;
      chunked = leb-true size chunk sizes.0;
      some = leb-true 1 n (and_parts _ _ counts.0).0;
      room = second_fits (align * (colours - 1)) (n * chunk) (4096 * 2 ^ q) inside;
      steps = eqb-true (chunk % align) 0 (and_parts _ _ sizes.1).0;
      aligned = not-false (is_alignment align) asked.1;
    }

pub grid_step : (w : Known) (event : Event) (body : Body) (s s' : State) → state_after w.order event body s ≡ Some s' → refusals event body w s ≡ true
    → objects event body w s ≡ true → new_layout event body w s ≡ true → HaveOwnNumbers s.has → AllGridded w.order s.has → AllGridded w.order s'.has
unfolding state_after
grid_step w event (Say.Refused r) s s' e f o c own g = subst (λ y. AllGridded w.order y.has) (some_state e) g
grid_step w (On.Tenant i (Command.Alloc k)) (Say.Frame first) s s' e f o c own g = subst (λ y. AllGridded w.order y.has) (some_state e) g
grid_step w (On.Tenant i (Command.Free first)) (Say.Freed k) s s' e f o c own g = subst (λ y. AllGridded w.order y.has) (some_state e) g
grid_step w (On.Tenant i (Command.Read begin len)) (Say.Bytes told) s s' e f o c own g = subst (λ y. AllGridded w.order y.has) (some_state e) g
grid_step w (On.Tenant i (Command.Write begin new)) (Say.Written count) s s' e f o c own g = subst (λ y. AllGridded w.order y.has) (some_state e) g
grid_step w (On.Tenant i (Command.Cache size align pattern)) (Say.Cache number chunk q n colours) s s' e f o c own g = subst (λ y. AllGridded w.order y.has) (some_state e)
    (λ d m. elim (in_put (λ x. x.number) new d s.has.caches m) [
      | inl same ↦ subst (IsGridded w.order) same (new_gridded w.order new refl (told_fits w i size align pattern number chunk q n colours s f c))
      | inr old ↦ g d old
    ])
  where
    new : KnownCache
    new = record { number = number; size = size; align = align; pattern = pattern.items; chunk = chunk; order = q; count = n; live = [] }
grid_step w (On.Tenant i (Command.Destroy number)) (Say.Destroyed frames) s s' e f o c own g = subst (λ y. AllGridded w.order y.has) (some_state e)
    (λ d m. g d (filter_in (λ x. not (x.number == number)) d s.has.caches m).0)
grid_step w (On.Tenant i (Command.Take number)) (Say.Object place) s s' e f o c own g =
    let v = value_of _ (known_cache s.has number) o in
    let at = find_in (λ y. y.number == number) v.0 s.has.caches v.1 in
    subst (λ y. AllGridded w.order y.has) (some_state e) (live_gridded w.order number (put_rising (λ p. p) place) s.has g
    (λ d m is. subst (λ y. IsGridded w.order (record y { live = put_rising (λ p. p) place y.live })) (own v.0 d at.0 m (eqb-true _ _ at.1 ∙ sym is))
    (taken_gridded w.order s.has v.0 place (g v.0 at.0) v.2)))
grid_step w (On.Tenant i (Command.Give number place)) Say.Given s s' e f o c own g = subst (λ y. AllGridded w.order y.has) (some_state e)
    (live_gridded w.order number (filter (λ p. not (p == place))) s.has g (λ d m is. given_gridded w.order d (λ p. not (p == place)) (g d m)))
grid_step w (On.Tenant i Command.Reap) (Say.Reaped frames) s s' e f o c own g = subst (λ y. AllGridded w.order y.has) (some_state e) g
grid_step w (On.Tenant i Command.Report) (Say.Report r) s s' e f o c own g = subst (λ y. AllGridded w.order y.has) (some_state e) g
grid_step w (On.Admin (Do.Grant i)) (Say.Granted told u superblock) s s' e f o c own g = subst (λ y. AllGridded w.order y.has) (some_state e) g
grid_step w (On.Admin (Do.TakeBack i u)) (Say.TakenBack superblock) s s' e f o c own g = subst (λ y. AllGridded w.order y.has) (some_state e) g
grid_step w (On.Admin (Do.Reset i)) (Say.WasReset told superblocks) s s' e f o c own g = subst (λ y. AllGridded w.order y.has) (some_state e) (nothing_gridded w.order)
grid_step w (On.Admin (Do.Move i u)) (Say.Moved told slot superblock) s s' e f o c own g = subst (λ y. AllGridded w.order y.has) (some_state e) g
grid_step w (On.Admin Do.Pool) (Say.Owners owners) s s' e f o c own g = subst (λ y. AllGridded w.order y.has) (some_state e) g
grid_step w event body s s' e f o c own g = absurd (cc)
