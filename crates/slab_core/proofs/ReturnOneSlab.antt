-- If an empty slab is freed, its block is not taken and reads as zero afterwards, and the slab is in no list.
use Rattle.std.proofs.Common.{◌≡◌, ◌≢◌, ℕ, ◌+◌, ◌-◌, ◌*◌, ◌/◌, ◌%◌, ◌^◌, ◌<◌, ◌≤◌, true, cond, eqb, length, Some, None, IsSome, refl, sym, ap, ◌∙◌, subst, ⊎_elim, arith}
use Rattle.std.specs.Prelude.{Option, OnSome, replicate}
use Rattle.std.proofs.lemmas.Bool.{cases_eq, false≢true, eqb-true, eq-eqb, ne_eqb}
use Rattle.std.proofs.lemmas.List.{length-set, get_or-set_same, get_or-set_other, get_or-replicate, length-replicate}
use Rattle.std.proofs.lemmas.Nat.{pow_pos}
use Rattle.std.proofs.Math.Nat.{pow-le-pow_right}
use Rattle.model_core.specs.Blocks.{block, HasFrame}
use Rattle.model_core.specs.declared.limits.TheConstants.{MAX_CACHES}
use Rattle.model_core.proofs.BlocksApart.{in_block-from, in_block-true}
use Rattle.klist_core.specs.Places.{place_at}
use Rattle.klist_core.proofs.PlacesChanged.{placed_within}
use Rattle.space_core.specs.Content as spaces
use Rattle.space_core.specs.Laws.{SpaceLaws}
use Rattle.space_core.specs.Windows.{home_of, byte_at, with_window}
use Rattle.space_core.proofs.Ranges.{range_held}
use Rattle.buddy_core.specs.Content as buddies
use Rattle.buddy_core.proofs.Holdings.{own_holding, taken-without_block}
use Rattle.slab_tables.specs.declared.cache.Cache as own
use Rattle.slab_tables.specs.Content.{Content, IsSlabs, kept_at, cache_in, index_of_cache, layout_numbers}
use Rattle.slab_tables.specs.Changes.{without_slab}
use Rattle.machine_changes.specs.Shows.{machine_frame_of, is_of_cache, has_slab, is_inside, IsSlab, IsAgreed, Agree, byte_or_zero, is_live}
use Rattle.machine_changes.specs.Keeps.{Spares}
use Rattle.machine_changes.specs.Steady.{IsSteady}
use Rattle.machine_changes.specs.Changes.{IsReturned}
use Rattle.machine_changes.proofs.Lookups.{some_none, some_same}
use Rattle.machine_changes.proofs.SlabFacts.{has_it, one_slab, one_machine_frame, one_stays, record_inside}
use Rattle.machine_changes.proofs.SlabsReturned.{not_gone}
use Rattle.slab_core.proofs.ConstructedObjects.{in_range, out_of_range, inside_from}
use Rattle.slab_core.proofs.LocalChange.{IsLocal, agreed_still, spares_of, agree_of}

some_place : (n f : ℕ) (o : Option (ℕ × ℕ)) → is_of_cache n f o ≡ true → (p : ℕ × ℕ) × (o ≡ Some p)
some_place n f None e = absurd (false≢true e)
some_place n f (Some p) e = (p, refl)

-- the size of a slab in bytes is below 2 ^ 32
pub len_is : (order : ℕ) → order ≤ 3 → 4096 * 2 ^ order % 4294967296 ≡ 4096 * 2 ^ order
len_is order few = let power : 2 ^ order ≤ 2 ^ 3 = pow-le-pow_right (omega arith) few in omega arith

-- the slab at frame f of tenant t is freed, all other tenants keep everything, and the parts agree
pub record IsGivenBack (r r' : spaces.Content) (b b' : buddies.Content) (s s' : Content) (t f : ℕ) : Type 0 where
  pub returned : IsReturned r r' b b' s s' t (λ g. eqb g f)
  pub spares : Spares t r r' b b' s s'
  pub agree : Agree r' b' s'

module _ {r : spaces.Content} {b : buddies.Content} {s : Content} {t c f n : ℕ} {cache : own.Cache} (a : Agree r b s) (st : IsSteady r b s t)
    (q : IsSlab r s t c f n cache) where
  -- the slab lies in one slot that the tenant holds
  pub slab_held : IsSome (home_of r t (4096 * f) (4096 * 2 ^ (layout_numbers cache).order))
  slab_held =
      let k : ℕ = (layout_numbers cache).order in
      let placed = st.sound.placed f k (st.stands c f n cache q).taken in
      let some : 0 < 2 ^ k = pow_pos k in
      range_held r t s.top f k (4096 * f) (4096 * 2 ^ k) a.unit placed.0.0 placed.0.1 placed.1 (omega arith) (omega arith) (omega arith)

  -- the slab's machine frame is below the number of machine frames
  pub machine_frame_within : n < length s.lists.places
  machine_frame_within =
      let is = some_place (index_of_cache t c) f (place_at s.lists.places n) q.listed in
      placed_within s.lists.places n is.0 is.1

  module _ (w : IsSlabs s) (laws : SpaceLaws r) (tenant : t < length b.tenants) where
    abbrev bytes : ℕ
    bytes = 4096 * 2 ^ (layout_numbers cache).order

    abbrev pub zeroed_space : spaces.Content
    zeroed_space = with_window r t (4096 * f) bytes (replicate bytes 0)

    abbrev pub released : buddies.Content
    released = buddies.with_holding t (buddies.without_block f (buddies.holding_of t b)) b

    sized : length (replicate {A = ℕ} bytes 0) ≡ bytes
    sized = length-replicate bytes 0

    holding_now : buddies.holding_of t released ≡ buddies.without_block f (buddies.holding_of t b)
    holding_now = own_holding t (buddies.without_block f (buddies.holding_of t b)) b tenant

    taken_now : (g : ℕ) → buddies.taken_of (buddies.holding_of t released) g ≡ cond (eqb g f) None (buddies.taken_of (buddies.holding_of t b) g)
    taken_now g =
        ap (λ h. buddies.taken_of h g) holding_now ∙ ap (λ (taken : ℕ → Option ℕ). taken g) (taken-without_block (buddies.holding_of t b) f)

    within : (place : ℕ) → 4096 * f ≤ place → place < 4096 * f + bytes → is_inside place f cache ≡ true
    within place low high = in_block-from place (block f (layout_numbers cache).order) (inside_from place f (layout_numbers cache).order low high)

    zero_within : (place : ℕ) → is_inside place f cache ≡ true → byte_at zeroed_space t place ≡ Some 0
    zero_within place inside =
        let frame : HasFrame (block f (layout_numbers cache).order) (place / 4096) = in_block-true place (block f (layout_numbers cache).order) inside in
        let low : 4096 * f ≤ place = omega (arith, frame.0) in
        let high : place < 4096 * f + bytes = omega (arith, frame.1) in
        in_range r t (4096 * f) bytes (replicate bytes 0) laws.own_bytes slab_held sized place low high
        ∙ ap (λ x. Some x) (get_or-replicate bytes (place - 4096 * f) 0 0 (omega arith))

    lists_now : (g x : ℕ) → machine_frame_of s.top r.slots t g ≡ Some x
        → place_at (without_slab s n).lists.places x ≡ cond (eqb g f) None (place_at s.lists.places x)
    lists_now g x under = ⊎_elim here elsewhere (cases_eq g f)
      where
        here : g ≡ f → place_at (without_slab s n).lists.places x ≡ cond (eqb g f) None (place_at s.lists.places x)
        here e =
            let same : x ≡ n = some_same (sym under ∙ ap (machine_frame_of s.top r.slots t) e ∙ q.under) in
            ap (place_at (without_slab s n).lists.places) same ∙ get_or-set_same s.lists.places n None None machine_frame_within
            ∙ sym (ap (λ v. cond v None (place_at s.lists.places x)) (eq-eqb g f e))

        elsewhere : (g ≡ f → ⊥) → place_at (without_slab s n).lists.places x ≡ cond (eqb g f) None (place_at s.lists.places x)
        elsewhere differ =
            get_or-set_other s.lists.places n x None None (λ e. differ (one_machine_frame r b s t st g f n (under ∙ ap (λ y. Some y) e) q.under))
            ∙ sym (ap (λ v. cond v None (place_at s.lists.places x)) (ne_eqb g f differ))

    pub one_returned : IsReturned r zeroed_space b released s (without_slab s n) t (λ g. eqb g f)
    one_returned = record {
      top = refl;
      slots = λ u. refl;
      caches = λ d. refl;
      lists = lists_now;
      kept = λ g x under. refl;
      begun = λ g e. ap (λ x. has_slab s (machine_frame_of s.top r.slots t x)) (eqb-true g f e) ∙ has_it r s t c f n cache q;
      taken = taken_now;
      zeroed = λ place d g x other p goes inside.
          let same = one_slab r s t c f n d g x cache other q p (eqb-true g f goes) in
          zero_within place (ap (λ y. is_inside place y cache) (sym (eqb-true g f goes)) ∙ ap (is_inside place g) (sym same.same) ∙ inside);
      bytes = λ place out.
          out_of_range r t (4096 * f) bytes (replicate bytes 0) laws.own_bytes slab_held sized place
          (λ low high. false≢true (sym (out c f n cache q (eq-eqb f f refl)) ∙ within place low high));
    }

    alone : IsLocal r zeroed_space b released s (without_slab s n) t f n
    alone = record {
      space = refl;
      bytes = λ u differ. laws.others.window t (4096 * f) bytes (replicate bytes 0) u differ;
      spare = laws.spare.window t (4096 * f) bytes (replicate bytes 0);
      buddy = sym (ap (λ h. buddies.with_holding t h b) holding_now);
      top = refl;
      under = q.under;
      caches = λ i other. refl;
      lists = λ x differ. get_or-set_other s.lists.places n x None None differ;
      kept = λ x differ. refl;
    }

    gone_now : (p : Option (ℕ × ℕ)) → place_at (without_slab s n).lists.places n ≡ p → p ≡ None
    gone_now p e = sym e ∙ get_or-set_same s.lists.places n None None machine_frame_within

    -- the parts still agree on each remaining slab of tenant t
    stays : (x head key : ℕ) (other : own.Cache) → place_at (without_slab s n).lists.places x ≡ Some (head, key)
        → cache_in s.caches (head / 3) ≡ Some other → head / 3 / MAX_CACHES ≡ t → IsAgreed zeroed_space released (without_slab s n) x head key other
    stays x head key other placed cached e =
        let away : x ≢ n = λ same. some_none (gone_now (Some (head, key)) (ap (place_at (without_slab s n).lists.places) (sym same) ∙ placed)) in
        let old : place_at s.lists.places x ≡ Some (head, key) = sym (alone.lists x away) ∙ placed in
        let g : IsAgreed r b s x head key other = a.slabs x head key other old cached in
        let under : machine_frame_of s.top r.slots t key ≡ Some x = subst (λ u. machine_frame_of s.top r.slots u key ≡ Some x) e g.under in
        let there = st.listed key x head key under old in
        let p : IsSlab r s t there.0 key x there.1 = there.2 in
        let differ : key ≡ f → ⊥ = λ same. away (some_same (sym under ∙ ap (machine_frame_of s.top r.slots t) same ∙ q.under)) in
        let stand = ne_eqb key f differ in
        agreed_still r zeroed_space b released s (without_slab s n) x head key other ((w.fits (head / 3) other cached).layout.fits 0).few g
        refl
        (subst (λ u. buddies.taken_of (buddies.holding_of u released) key ≡ buddies.taken_of (buddies.holding_of u b) key) (sym e)
        (taken_now key ∙ ap (λ v. cond v None (buddies.taken_of (buddies.holding_of t b) key)) stand))
        refl
        (λ i less. subst (λ u. is_live zeroed_space u other (kept_at s.kept x) key i ≡ is_live r u other (kept_at s.kept x) key i) (sym e)
        (one_stays r zeroed_space t other (kept_at s.kept x) key i
        (λ small j low. ap byte_or_zero (one_returned.bytes (4096 * key + 4064 + j)
        (not_gone r zeroed_space b released s (without_slab s n) t (λ y. eqb y f) one_returned st (4096 * key + 4064 + j) there.0 key x there.1 p stand
        (record_inside r b s t st there.0 key x j there.1 p low)))) less))

    pub one_spares : Spares t r zeroed_space b released s (without_slab s n)
    one_spares = spares_of r zeroed_space b released s (without_slab s n) t f n alone laws.apart

    pub one_agrees : Agree zeroed_space released (without_slab s n)
    one_agrees =
        agree_of r zeroed_space b released s (without_slab s n) t f n alone laws.apart w a (length-set s.lists.places n None) refl
        (λ v. ap (λ h. buddies.superblock_at h v) holding_now)
        (λ head key placed. absurd (some_none (gone_now (Some (head, key)) placed)))
        stays

    pub given_back : {r' : spaces.Content} {b' : buddies.Content} {s' : Content} {order len : ℕ} → order ≡ (layout_numbers cache).order
        → len ≡ 4096 * 2 ^ order % 4294967296 → r' ≡ with_window r t (4096 * f) len (replicate len 0)
        → {result : Option ℕ} → result ≡ buddies.taken_of (buddies.holding_of t b) f → OnSome result (b' ≡ released)
        → s' ≡ without_slab s n → IsGivenBack r r' b b' s s' t f
    given_back {r' = r'} {b' = b'} {s' = s'} {order = order} {len = len} same long zeroed answer done forgotten =
        let is_len : len ≡ bytes = long ∙ ap (λ k. 4096 * 2 ^ k % 4294967296) same ∙ len_is (layout_numbers cache).order (st.stands c f n cache q).layout.order in
        let is_space : r' ≡ zeroed_space = zeroed ∙ ap (λ x. with_window r t (4096 * f) x (replicate x 0)) is_len in
        let is_buddy : b' ≡ released = subst (λ o. OnSome o (b' ≡ released)) (answer ∙ (st.stands c f n cache q).taken) done in
        subst (λ x. IsGivenBack r x b b' s s' t f) (sym is_space)
        (subst (λ x. IsGivenBack r zeroed_space b x s s' t f) (sym is_buddy)
        (subst (λ x. IsGivenBack r zeroed_space b released s x t f) (sym forgotten)
        (record { returned = one_returned; spares = one_spares; agree = one_agrees })))
