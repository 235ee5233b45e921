-- Freeing empty slabs one by one, until none is left, frees exactly the slabs that were empty before.
use Rattle.std.proofs.Common.{◌≡◌, ℕ, ◌+◌, ◌/◌, ◌%◌, ◌<◌, Bool, true, false, cond, eqb, ◌||◌, length, Some, None, refl, sym, ap, ◌∙◌, subst, ◌⊎◌, inl, inr, ⊎_elim, arith}
use Rattle.std.specs.Prelude.{Option, ◌==◌, ◌&&◌}
use Rattle.std.proofs.lemmas.Bool.{cases_eq, cases_lt, false≢true, eqb-true, eq-eqb, and_parts, and_from, false_from_ne_true}
use Rattle.std.proofs.lemmas.List.{set-set, set-get_or, set_past, get_or-set_same, get_or-set_other}
use Rattle.model_core.specs.declared.limits.TheConstants.{MAX_CACHES}
use Rattle.klist_core.specs.Places.{place_at, IsEmpty}
use Rattle.space_core.specs.Content as spaces
use Rattle.buddy_core.specs.Content as buddies
use Rattle.slab_tables.specs.declared.cache.Cache as own
use Rattle.slab_tables.specs.Content.{Content, IsSlabs, kept_at, cache_in, cache_at, index_of_cache, head_of, kind_of, layout_numbers}
use Rattle.slab_tables.specs.Changes.{without_slab}
use Rattle.slab_tables.proofs.TableReads.{kind_fresh}
use Rattle.machine_changes.specs.Shows.{machine_frame_of, live_of, IsSlab, ShowsMachine, Agree}
use Rattle.machine_changes.specs.Keeps.{Keeps, Spares}
use Rattle.machine_changes.specs.Steady.{IsSteady}
use Rattle.model_core.specs.Owners.{owned_by}
use Rattle.space_core.specs.Laws.{IsOneToOne}
use Rattle.space_core.proofs.BytesUnderSlots.{same_twice}
use Rattle.machine_changes.specs.Changes.{IsReturned}
use Rattle.machine_changes.proofs.Lookups.{some_none, some_same}
use Rattle.machine_changes.proofs.SlabFacts.{slab_of_machine}
use Rattle.machine_changes.proofs.ObjectFlags.{any_counts}
use Rattle.model_core.specs.Machine.{Slab, Cache, Machine}
use Rattle.model_core.specs.Slabs.{cache_of, slab_of, is_empty}
use Rattle.machine_changes.proofs.SlabsReturned.{machine_frame_same}
use Rattle.machine_changes.proofs.UntouchedTenant
use Rattle.machine_changes.proofs.SteadyParts.{IsInTable, in_table, placed_as, slab_from, slab_listed, counted}
use Rattle.machine_changes.proofs.MoreSlabsReturned.{twice}
use Rattle.machine_changes.proofs.PageHoldings.{same_space}
use Rattle.slab_core.specs.Calls.{is_of_these, is_idle, idle_at}
use Rattle.slab_core.proofs.CreateStep.{bare_without}
use Rattle.slab_core.proofs.ConstructedObjects.{banks_twice, spare_twice}

or_cases : (v w : Bool) → (v || w) ≡ true → (v ≡ true) ⊎ (w ≡ true)
or_cases true w e = inl refl
or_cases false w e = inr e

-- Idle slabs: the empty slabs of the caches whose indexes satisfy `these`

-- true if i is the index of cache c of tenant t
abbrev pub this : ℕ → ℕ → ℕ → Bool
this t c i = eqb i (index_of_cache t c)

pub record IsIdleAt (these : ℕ → Bool) (r : spaces.Content) (s : Content) (t f : ℕ) : Type 0 where
  pub machine_frame : ℕ
  pub head : ℕ
  pub key : ℕ
  pub under : machine_frame_of s.top r.slots t f ≡ Some machine_frame
  pub place : place_at s.lists.places machine_frame ≡ Some (head, key)
  pub one : these (head / 3) ≡ true
  pub empty : (kept_at s.kept machine_frame).live ≡ 0

pub idle_tells : (these : ℕ → Bool) (r : spaces.Content) (s : Content) (t f : ℕ) → idle_at these r s t f ≡ true → IsIdleAt these r s t f
idle_tells these r s t f e = machine_frame (machine_frame_of s.top r.slots t f) refl e
  where
    place : (n : ℕ) (p : Option (ℕ × ℕ)) → machine_frame_of s.top r.slots t f ≡ Some n → place_at s.lists.places n ≡ p
        → (is_of_these these p && (kept_at s.kept n).live == 0) ≡ true → IsIdleAt these r s t f
    place n None under at e = absurd (false≢true e)
    place n (Some p) under at e =
        let both = and_parts (these (p.0 / 3)) ((kept_at s.kept n).live == 0) e in
        record {
          machine_frame = n;
          head = p.0;
          key = p.1;
          under = under;
          place = at;
          one = both.0;
          empty = eqb-true (kept_at s.kept n).live 0 both.1;
        }

    machine_frame : (o : Option ℕ) → machine_frame_of s.top r.slots t f ≡ o → is_idle these s o ≡ true → IsIdleAt these r s t f
    machine_frame None under e = absurd (false≢true e)
    machine_frame (Some n) under e = place n (place_at s.lists.places n) under refl e

pub idle_is : (these : ℕ → Bool) (r : spaces.Content) (s : Content) (t f n head key : ℕ) → machine_frame_of s.top r.slots t f ≡ Some n
    → place_at s.lists.places n ≡ Some (head, key) → these (head / 3) ≡ true → (kept_at s.kept n).live ≡ 0 → idle_at these r s t f ≡ true
idle_is these r s t f n head key under place one empty =
    ap (is_idle these s) under
    ∙ ap (λ p. is_of_these these p && (kept_at s.kept n).live == 0) place
    ∙ and_from (these (head / 3)) ((kept_at s.kept n).live == 0) one (eq-eqb (kept_at s.kept n).live 0 empty)

-- Some of the idle slabs are freed

pub record IsGiving (these : ℕ → Bool) (r r' : spaces.Content) (b b' : buddies.Content) (s s' : Content) (t : ℕ) : Type 0 where
  pub gone : ℕ → Bool
  pub returned : IsReturned r r' b b' s s' t gone
  pub only : (f : ℕ) → gone f ≡ true → idle_at these r s t f ≡ true
  pub spares : Spares t r r' b b' s s'
  pub agree : Agree r' b' s'
  pub tables : IsSlabs s'

pub spares_none : (r : spaces.Content) (b : buddies.Content) (s : Content) (t : ℕ) → Spares t r r b b s s
spares_none r b s t = record {
  others = λ u differ. record {
    space = same_space u r;
    buddy = refl;
    slabs = record { top = refl; caches = λ c. refl; lists = λ f n e. refl; kept = λ f n e. refl };
  };
  space = refl;
  spare = λ m none. refl;
  buddy = ap (λ x. record b { tenants = x }) (sym (set-get_or b.tenants t buddies.no_tenant));
}

module _ {r r' r'' : spaces.Content} {b b' b'' : buddies.Content} {s s' s'' : Content} where
  keeps_twice : (u : ℕ) → Keeps r r' b b' s s' u → Keeps r' r'' b' b'' s' s'' u → Keeps r r'' b b'' s s'' u
  keeps_twice u k k' =
      let under : (f n : ℕ) → machine_frame_of s.top r.slots u f ≡ Some n → machine_frame_of s'.top r'.slots u f ≡ Some n =
      λ f n e. UntouchedTenant.machine_frame_same r r' b b' s s' u k f ∙ e in
      record {
        space = same_twice u r r' r'' k.space k'.space;
        buddy = k'.buddy ∙ k.buddy;
        slabs = record {
          top = k'.slabs.top ∙ k.slabs.top;
          caches = λ c. k'.slabs.caches c ∙ k.slabs.caches c;
          lists = λ f n e. k'.slabs.lists f n (under f n e) ∙ k.slabs.lists f n e;
          kept = λ f n e. k'.slabs.kept f n (under f n e) ∙ k.slabs.kept f n e;
        };
      }

  pub spares_twice : {t : ℕ} → Spares t r r' b b' s s' → Spares t r' r'' b' b'' s' s'' → Spares t r r'' b b'' s s''
  spares_twice {t = t} k k' = record {
    others = λ u differ. keeps_twice u (k.others u differ) (k'.others u differ);
    space = banks_twice r r' r'' k.space k'.space;
    spare = spare_twice r r' r'' k.spare k'.space k'.spare;
    buddy = k'.buddy ∙ ap (buddies.with_holding t (buddies.holding_of t b'')) k.buddy
        ∙ ap (λ x. record b { tenants = x }) (set-set b.tenants t (buddies.holding_of t b') (buddies.holding_of t b''));
  }

pub giving_none : {these : ℕ → Bool} {r : spaces.Content} {b : buddies.Content} {s : Content} {t : ℕ} → Agree r b s → IsSlabs s → IsGiving these r r b b s s t
giving_none {r = r} {b = b} {s = s} {t = t} a w = record {
  gone = λ f. false;
  returned = record {
    top = refl;
    slots = λ u. refl;
    caches = λ c. refl;
    lists = λ f n e. refl;
    kept = λ f n e. refl;
    begun = λ f e. absurd (false≢true e);
    taken = λ f. refl;
    zeroed = λ place c f n cache q e inside. absurd (false≢true e);
    bytes = λ place out. refl;
  };
  only = λ f e. absurd (false≢true e);
  spares = spares_none r b s t;
  agree = a;
  tables = w;
}

module _ {these : ℕ → Bool} {r r' : spaces.Content} {b b' : buddies.Content} {s s' : Content} {t : ℕ} (st : IsSteady r b s t)
    (g : IsGiving these r r' b b' s s' t) where
  k : IsReturned r r' b b' s s' t g.gone
  k = g.returned

  still : (f n head key : ℕ) → machine_frame_of s.top r.slots t f ≡ Some n → place_at s'.lists.places n ≡ Some (head, key)
      → (g.gone f ≡ false) × (place_at s.lists.places n ≡ Some (head, key))
  still f n head key under placed = go (g.gone f) refl (sym (k.lists f n under) ∙ placed)
    where
      go : (v : Bool) → g.gone f ≡ v → cond v None (place_at s.lists.places n) ≡ Some (head, key)
          → (g.gone f ≡ false) × (place_at s.lists.places n ≡ Some (head, key))
      go true is e = absurd (some_none (sym e))
      go false is e = (is, e)

  -- a slab that is still idle was idle before
  was_idle : (f : ℕ) → idle_at these r' s' t f ≡ true → idle_at these r s t f ≡ true
  was_idle f e =
      let i = idle_tells these r' s' t f e in
      let under : machine_frame_of s.top r.slots t f ≡ Some i.machine_frame = sym (machine_frame_same r r' b b' s s' t g.gone k st f) ∙ i.under in
      idle_is these r s t f i.machine_frame i.head i.key under (still f i.machine_frame i.head i.key under i.place).1 i.one
      (ap (λ x. x.live) (sym (k.kept f i.machine_frame under)) ∙ i.empty)

  pub giving_more : {r'' : spaces.Content} {b'' : buddies.Content} {s'' : Content} {gone' : ℕ → Bool} → IsReturned r' r'' b' b'' s' s'' t gone'
      → ((f : ℕ) → gone' f ≡ true → idle_at these r' s' t f ≡ true) → Spares t r' r'' b' b'' s' s'' → Agree r'' b'' s'' → IsSlabs s''
      → IsGiving these r r'' b b'' s s'' t
  giving_more {r'' = r''} {b'' = b''} {s'' = s''} {gone' = gone'} k' only' spares' agree' tables' = record {
    gone = λ f. g.gone f || gone' f;
    returned = twice r r' r'' b b' b'' s s' s'' t g.gone gone' st k k';
    only = λ f e. ⊎_elim (g.only f) (λ h. was_idle f (only' f h)) (or_cases (g.gone f) (gone' f) e);
    spares = spares_twice g.spares spares';
    agree = agree';
    tables = tables';
  }

  -- superblocks and slots still correspond one to one
  pub still_apart : IsOneToOne r → IsOneToOne r'
  still_apart apart = record {
    superblocks = λ u v m n e e'. apart.superblocks u v m n
        (subst (λ (x : spaces.Content). spaces.owner_at x.owners m ≡ Some (owned_by u v)) g.spares.space e)
        (subst (λ (x : spaces.Content). spaces.owner_at x.owners n ≡ Some (owned_by u v)) g.spares.space e');
    slots = λ u v x y m e e'. apart.slots u v x y m
        (subst (λ (z : spaces.Content). spaces.superblock_at z.slots u v ≡ Some m) g.spares.space e)
        (subst (λ (z : spaces.Content). spaces.superblock_at z.slots x y ≡ Some m) g.spares.space e');
  }

  -- if no slab is idle any more, exactly the slabs that were idle before are freed
  pub giving_all : ((f : ℕ) → idle_at these r' s' t f ≡ true → ⊥) → IsReturned r r' b b' s s' t (idle_at these r s t)
  giving_all none = subst (λ (x : ℕ → Bool). IsReturned r r' b b' s s' t x) (λ i f. same f (g.gone f) refl i) k
    where
      same : (f : ℕ) (v : Bool) → g.gone f ≡ v → g.gone f ≡ idle_at these r s t f
      same f true e = e ∙ sym (g.only f e)
      same f false e = e ∙ sym (false_from_ne_true (idle_at these r s t f) (λ idle.
          let i = idle_tells these r s t f idle in
          let stays : place_at s'.lists.places i.machine_frame ≡ Some (i.head, i.key) =
          k.lists f i.machine_frame i.under ∙ ap (λ v. cond v None (place_at s.lists.places i.machine_frame)) e ∙ i.place in
          none f (idle_is these r' s' t f i.machine_frame i.head i.key (machine_frame_same r r' b b' s s' t g.gone k st f ∙ i.under) stays i.one
          (ap (λ x. x.live) (k.kept f i.machine_frame i.under) ∙ i.empty))))

-- an empty list stays empty when a slab is removed from a list
pub empty_without : (s : Content) (machine_frame head : ℕ) → IsEmpty s.lists.places head → IsEmpty (without_slab s machine_frame).lists.places head
empty_without s machine_frame head none i key placed =
    ⊎_elim (λ same. ⊎_elim
    (λ less. some_none (sym placed ∙ ap (place_at (without_slab s machine_frame).lists.places) same ∙ get_or-set_same s.lists.places machine_frame None None less))
    (λ past. none i key (ap (λ places. place_at places i) (sym (set_past s.lists.places machine_frame None past)) ∙ placed)) (cases_lt machine_frame (length s.lists.places)))
    (λ differ. none i key (sym (get_or-set_other s.lists.places machine_frame i None None differ) ∙ placed)) (cases_eq i machine_frame)

-- The entries in the list of a cache's empty slabs

pub record IsEmptySlab (r : spaces.Content) (s : Content) (t c first machine_frame : ℕ) (cache : own.Cache) : Type 0 where
  pub slab : IsSlab r s t c first machine_frame cache
  pub empty : (kept_at s.kept machine_frame).live ≡ 0

kind_empty : (count live kind : ℕ) → kind ≡ 2 → kind ≡ kind_of count live → live ≡ 0
kind_empty count live kind two e = go (live == count) (live == 0) refl e
  where
    go : (x y : Bool) → (live == 0) ≡ y → kind ≡ cond x 0 (cond y 2 1) → live ≡ 0
    go x true is e = eqb-true live 0 is
    go true false is e = absurd (omega arith)
    go false false is e = absurd (omega arith)

-- the slab at frame f is in the list of empty slabs of a cache whose index satisfies `these`
pub record IsInEmpty (s : Content) (t : ℕ) (these : ℕ → Bool) (f : ℕ) : Type 0 where
  pub number : ℕ
  pub machine_frame : ℕ
  pub small : number < MAX_CACHES
  pub one : these (index_of_cache t number) ≡ true
  pub placed : place_at s.lists.places machine_frame ≡ Some (head_of t number 2, f)

module _ {r : spaces.Content} {b : buddies.Content} {s : Content} {t : ℕ} (w : IsSlabs s) (a : Agree r b s) where
  pub listed_empty : {c first machine_frame : ℕ} {cache : own.Cache} → cache_at s t c ≡ Some cache → place_at s.lists.places machine_frame ≡ Some (head_of t c 2, first)
      → IsEmptySlab r s t c first machine_frame cache
  listed_empty {c = c} {first = first} {machine_frame = machine_frame} {cache = cache} cached placed =
      let is : IsInTable s t c cache = in_table s t c cache cached in
      let small : c < MAX_CACHES = is.number in
      let index : head_of t c 2 / 3 ≡ index_of_cache t c = omega arith in
      let kind : head_of t c 2 % 3 ≡ 2 = omega arith in
      let tenant : head_of t c 2 / 3 / MAX_CACHES ≡ t = omega arith in
      let at : cache_in s.caches (head_of t c 2 / 3) ≡ Some cache = ap (cache_in s.caches) index ∙ is.cached in
      let there = w.standing machine_frame (head_of t c 2) first placed in
      let under : machine_frame_of s.top r.slots t first ≡ Some machine_frame =
      subst (λ u. machine_frame_of s.top r.slots u first ≡ Some machine_frame) tenant (a.slabs machine_frame (head_of t c 2) first cache placed at).under in
      record {
        slab = slab_from r s t c first machine_frame (head_of t c 2) cache small index at under placed;
        empty = kind_empty (layout_numbers there.0).count (kept_at s.kept machine_frame).live (head_of t c 2 % 3) kind there.2.kind;
      }

  pub idle_listed : ((f n head key : ℕ) → machine_frame_of s.top r.slots t f ≡ Some n → place_at s.lists.places n ≡ Some (head, key)
      → (c : ℕ) × (cache : own.Cache) × IsSlab r s t c f n cache) → (these : ℕ → Bool) (f : ℕ) → idle_at these r s t f ≡ true → IsInEmpty s t these f
  idle_listed listed these f e =
      let i = idle_tells these r s t f e in
      let sl = listed f i.machine_frame i.head i.key i.under i.place in
      let p = placed_as r s t sl.0 f i.machine_frame sl.1 sl.2 in
      let there = w.standing i.machine_frame p.head f p.place in
      let count : 0 < (layout_numbers there.0).count = ((w.fits (p.head / 3) there.0 there.1).layout.fits 0).some in
      let kind : p.head % 3 ≡ 2 = there.2.kind ∙ ap (kind_of (layout_numbers there.0).count) i.empty ∙ kind_fresh (layout_numbers there.0).count count in
      let index : p.head / 3 ≡ index_of_cache t sl.0 = p.index in
      let is : p.head ≡ head_of t sl.0 2 = omega arith in
      let same : i.head ≡ p.head = ap (λ (q : ℕ × ℕ). q.0) (some_same (sym i.place ∙ p.place)) in
      record {
        number = sl.0;
        machine_frame = i.machine_frame;
        small = p.number;
        one = sym (ap these (ap (λ h. h / 3) same ∙ index)) ∙ i.one;
        placed = p.place ∙ ap (λ (h : ℕ). Some (h, f)) is;
      }

-- The empty slabs of one cache
module _ {r : spaces.Content} {s : Content} {t c : ℕ} where
  -- if an empty slab of cache c begins at frame f, the slab is idle
  pub one_idle : {first machine_frame : ℕ} {cache : own.Cache} → IsEmptySlab r s t c first machine_frame cache → (f : ℕ) → eqb f first ≡ true → idle_at (this t c) r s t f ≡ true
  one_idle {first = first} {machine_frame = machine_frame} {cache = cache} is f e =
      let p = placed_as r s t c first machine_frame cache is.slab in
      idle_is (this t c) r s t f machine_frame p.head first (ap (machine_frame_of s.top r.slots t) (eqb-true f first e) ∙ is.slab.under) p.place
      (eq-eqb (p.head / 3) (index_of_cache t c) p.index) is.empty

pub none_idle : {r : spaces.Content} {b : buddies.Content} {s : Content} (t c : ℕ) → IsSlabs s → Agree r b s → IsOneToOne r
    → c < MAX_CACHES → IsEmpty s.lists.places (head_of t c 2) → (f : ℕ) → idle_at (this t c) r s t f ≡ true → ⊥
none_idle {r = r} {b = b} {s = s} t c w a apart small none f e =
    let i = idle_listed w a (λ g n head key. slab_listed r b s w a t g n head key apart) (this t c) f e in
    let index : index_of_cache t i.number ≡ index_of_cache t c = eqb-true (index_of_cache t i.number) (index_of_cache t c) i.one in
    let same : i.number ≡ c = omega arith in
    none i.machine_frame f (i.placed ∙ ap (λ (x : ℕ). Some (head_of t x 2, f)) same)

-- The empty slabs of all caches
pub any_idle : (r : spaces.Content) (s : Content) (t c f : ℕ) → idle_at (this t c) r s t f ≡ true → idle_at (λ i. true) r s t f ≡ true
any_idle r s t c f e =
    let i = idle_tells (this t c) r s t f e in
    idle_is (λ x. true) r s t f i.machine_frame i.head i.key i.under i.place refl i.empty

pub none_any : {r : spaces.Content} {b : buddies.Content} {s : Content} (t : ℕ) → IsSlabs s → Agree r b s → IsOneToOne r
    → ((d : ℕ) → d < MAX_CACHES → IsEmpty s.lists.places (head_of t d 2)) → (f : ℕ) → idle_at (λ i. true) r s t f ≡ true → ⊥
none_any {r = r} {b = b} {s = s} t w a apart none f e =
    let i = idle_listed w a (λ g n head key. slab_listed r b s w a t g n head key apart) (λ x. true) f e in
    none i.number i.small i.machine_frame f i.placed

-- if cache c does not exist, its list of empty slabs is empty
pub no_cache : (s : Content) (t c : ℕ) → IsSlabs s → c < MAX_CACHES → cache_at s t c ≡ None → IsEmpty s.lists.places (head_of t c 2)
no_cache s t c w small vacant n key placed =
    bare_without s t c w small vacant n (head_of t c 2) key placed (omega arith)

-- some idle slabs are freed, among them all idle slabs of the caches with numbers below c
pub record IsGivingBelow (r r' : spaces.Content) (b b' : buddies.Content) (s s' : Content) (t c : ℕ) : Type 0 where
  pub giving : IsGiving (λ i. true) r r' b b' s s' t
  pub lists : (d : ℕ) → d < c → IsEmpty s'.lists.places (head_of t d 2)

pub below_same : {r r' r'' : spaces.Content} {b b' b'' : buddies.Content} {s s' s'' : Content} {t c : ℕ} → r'' ≡ r' → b'' ≡ b' → s'' ≡ s'
    → IsGivingBelow r r' b b' s s' t c → IsGivingBelow r r'' b b'' s s'' t c
below_same {r = r} {r' = r'} {b = b} {b' = b'} {b'' = b''} {s = s} {s'' = s''} {t = t} {c = c} er eb es g =
    subst (λ x. IsGivingBelow r x b b'' s s'' t c) (sym er) (subst (λ x. IsGivingBelow r r' b x s s'' t c) (sym eb)
    (subst (λ x. IsGivingBelow r r' b b' s x t c) (sym es) g))

pub below_next : {r r' r'' : spaces.Content} {b b' b'' : buddies.Content} {s s' s'' : Content} {t c : ℕ} → IsSteady r b s t
    → IsGivingBelow r r' b b' s s' t c → IsReturned r' r'' b' b'' s' s'' t (idle_at (this t c) r' s' t) → Spares t r' r'' b' b'' s' s''
    → Agree r'' b'' s'' → IsSlabs s'' → IsEmpty s''.lists.places (head_of t c 2)
    → ((head : ℕ) → IsEmpty s'.lists.places head → IsEmpty s''.lists.places head) → IsGivingBelow r r'' b b'' s s'' t (c + 1)
below_next {r' = r'} {s' = s'} {s'' = s''} {t = t} {c = c} st g k spares agree tables none less = record {
  giving = giving_more st g.giving k (any_idle r' s' t c) spares agree tables;
  lists = λ d small. ⊎_elim (λ lower. less (head_of t d 2) (g.lists d lower))
      (λ high. let same : d ≡ c = omega arith in subst (λ x. IsEmpty s''.lists.places (head_of t x 2)) (sym same) none) (cases_lt d c);
}

-- if cache c does not exist, and `IsGivingBelow` is true for c, it is true for c + 1
pub below_none : {r r' : spaces.Content} {b b' : buddies.Content} {s s' : Content} {t c : ℕ} → IsGivingBelow r r' b b' s s' t c
    → c < MAX_CACHES → cache_at s' t c ≡ None → IsGivingBelow r r' b b' s s' t (c + 1)
below_none {s' = s'} {t = t} {c = c} g small vacant = record {
  giving = g.giving;
  lists = λ d less. ⊎_elim (g.lists d)
      (λ high. let same : d ≡ c = omega arith in
      subst (λ x. IsEmpty s'.lists.places (head_of t x 2)) (sym same) (no_cache s' t c g.giving.tables small vacant)) (cases_lt d c);
}

-- a slab is idle if and only if it is empty in the machine
pub idle_empty : (r : spaces.Content) (b : buddies.Content) (s : Content) (t : ℕ) (m : Machine) → IsSlabs s → Agree r b s → ShowsMachine r b s t m
    → (c f : ℕ) (x : Cache) (y : Slab) → cache_of m c ≡ Some x → slab_of x f ≡ Some y → idle_at (λ i. true) r s t f ≡ is_empty y
idle_empty r b s t m w a h c f x y ex ey =
    let is = slab_of_machine r b s t m h c f x y ex ey in
    let p = placed_as r s t c f is.machine_frame is.kept is.slab in
    ap (is_idle (λ i. true) s) is.slab.under
    ∙ ap (λ o. is_of_these (λ i. true) o && (kept_at s.kept is.machine_frame).live == 0) p.place
    ∙ sym (ap is_empty is.is
    ∙ any_counts (live_of r t is.kept (kept_at s.kept is.machine_frame) f)
    ∙ ap (λ k. k == 0) (sym (counted r b s w a t c f is.machine_frame is.kept is.slab)))
