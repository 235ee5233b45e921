-- The machine and the tables have the same live objects, at the same places.
use Rattle.std.proofs.Common.{◌≡◌, ◌≢◌, ℕ, zero, suc, ◌+◌, ◌*◌, ◌/◌, ◌^◌, ◌<◌, ◌≤◌, Bool, true, false, cond, List, [], ◌∷◌, Some, None, length, get_or, refl, sym, ap, ◌∙◌, subst, inl, inr, arith}
use Rattle.std.specs.Prelude.{Option, find, Ok, ◌==◌}
use Rattle.std.proofs.Math.Nat.{mul-div_cancel}
use Rattle.std.proofs.lemmas.Bool.{false≢true, eqb-true, eq-eqb}
use Rattle.std.proofs.lemmas.Nat.{row_fits}
use Rattle.model_core.specs.Blocks.{block, HasFrame}
use Rattle.model_core.specs.Layouts.{Layout, IsFit, object_place}
use Rattle.model_core.specs.Machine.{Slab, Cache, Machine, layout}
use Rattle.model_core.specs.Slabs.{LiveObject, live_from, live_in, live_objects, cache_of, slab_of, with_cache, with_slab, with_live}
use Rattle.model_core.specs.CacheOperations.{give_of, give_object, give_step}
use Rattle.model_core.specs.Elements.{IsIn}
use Rattle.model_core.proofs.Lists.{find_in, in_flat_map}
use Rattle.model_core.proofs.Objects.{live_is}
use Rattle.space_core.specs.Content as spaces
use Rattle.buddy_core.specs.Content as buddies
use Rattle.slab_tables.specs.declared.cache.Cache as own
use Rattle.slab_tables.specs.Content.{Content, kept_at, layout_numbers}
use Rattle.machine_changes.specs.Shows.{is_live, IsSlab, ShowsMachine}
use Rattle.machine_changes.specs.Steady.{IsSteady}
use Rattle.machine_changes.specs.Changes.{Found, found}
use Rattle.machine_changes.specs.Objects.{IsLiveObject, IsNoObject}
use Rattle.machine_changes.specs.Laws.{FoundGives, NotFoundRefuses}
use Rattle.machine_changes.proofs.Lookups.{some_same, in_found}
use Rattle.machine_changes.proofs.SlabFacts.{one_slab, cache_shown, slab_in, slab_of_machine}
use Rattle.machine_changes.proofs.ObjectFlags.{length_flags, flag_at}
use Rattle.machine_changes.proofs.SearchResults.{some_found}

-- object i of slab y of cache c, with its place
abbrev pub object_of : Cache → Slab → ℕ → LiveObject
object_of c y i = record { slab = y; index = i; place = object_place (layout c) y.first y.colour i }

-- an object whose flag is set is in the list of live objects
live_listed : (c : Cache) (y : Slab) (n i : ℕ) (live : List Bool) → i < length live → get_or live i false ≡ true
    → IsIn (object_of c y (n + i)) (live_from c y n live)
live_listed c y n i [] less e = absurd (omega arith)
live_listed c y n zero (b ∷ bs) less e = go b e
  where
    go : (v : Bool) → v ≡ true → IsIn (object_of c y (n + 0)) (cond v (object_of c y n ∷ live_from c y (n + 1) bs) (live_from c y (n + 1) bs))
    go true e = inl (ap (object_of c y) (omega arith))
    go false e = absurd (false≢true e)
live_listed c y n (suc i) (b ∷ bs) less e =
    go b (subst (λ k. IsIn (object_of c y k) (live_from c y (n + 1) bs)) (omega arith) (live_listed c y (n + 1) i bs (omega arith) e))
  where
    go : (v : Bool) → IsIn (object_of c y (n + suc i)) (live_from c y (n + 1) bs)
        → IsIn (object_of c y (n + suc i)) (cond v (object_of c y n ∷ live_from c y (n + 1) bs) (live_from c y (n + 1) bs))
    go true later = inr later
    go false later = later

pub live_object : (c : Cache) (y : Slab) (i : ℕ) → i < length y.live → get_or y.live i false ≡ true → IsIn (object_of c y i) (live_in c y)
live_object c y i less e = subst (λ k. IsIn (object_of c y k) (live_in c y)) (omega arith) (live_listed c y 0 i y.live less e)

-- Where objects begin

in_frames : (f p d z : ℕ) → p ≡ 4096 * f + d → d < 4096 * z → (f ≤ p / 4096) × (p / 4096 < f + z)
in_frames f p d z e less = (omega arith, omega arith)

-- an object's first byte lies in the block of its slab
pub lies : (l : Layout) (f colour i place : ℕ) → IsFit l colour → i < l.count → object_place l f colour i ≡ place → HasFrame (block f l.order) (place / 4096)
lies l f colour i place fit less e =
    let row : i * l.chunk + l.chunk ≤ l.count * l.chunk = row_fits i l.chunk l.count l.chunk less (omega arith) in
    let chunked : 16 ≤ l.chunk = fit.chunked in
    let inside : colour + l.count * l.chunk ≤ l.room = fit.inside in
    let within : l.room ≤ 4096 * 2 ^ l.order = fit.within in
    in_frames f place (colour + i * l.chunk) (2 ^ l.order) (sym e) (omega arith)

-- two objects of a slab that begin at one place are the same object
pub one_index : (l : Layout) (f colour i j : ℕ) → 0 < l.chunk → object_place l f colour i ≡ object_place l f colour j → i ≡ j
one_index l f colour i j some e =
    let same : i * l.chunk ≡ j * l.chunk = omega arith in
    sym (mul-div_cancel i some) ∙ ap (λ n. n / l.chunk) same ∙ mul-div_cancel j some

module _ (r : spaces.Content) (b : buddies.Content) (s : Content) (t c : ℕ) (st : IsSteady r b s t) where
  pub fit_of : (f n : ℕ) (cache : own.Cache) → IsSlab r s t c f n cache → IsFit (layout_numbers cache) (kept_at s.kept n).colour
  fit_of f n cache q =
      let is = st.stands c f n cache q in
      subst (IsFit (layout_numbers cache)) (sym is.colour.1) (is.layout.fits is.colour.0)

  -- two objects of a cache that begin at one place are the same object
  pub record IsOneObject (o u : Found) : Type 0 where
    pub first : u.first ≡ o.first
    pub index : u.index ≡ o.index

  pub one_object : (place : ℕ) (o u : Found) → IsLiveObject r s t c place o → IsLiveObject r s t c place u → IsOneObject o u
  one_object place o u is also =
      let fit = fit_of o.first o.machine_frame o.cache is.slab in
      let first : u.first ≡ o.first =
      st.sound.apart u.first (layout_numbers u.cache).order o.first (layout_numbers o.cache).order (place / 4096)
      (st.stands c u.first u.machine_frame u.cache also.slab).taken (st.stands c o.first o.machine_frame o.cache is.slab).taken
      (lies (layout_numbers u.cache) u.first (kept_at s.kept u.machine_frame).colour u.index place (fit_of u.first u.machine_frame u.cache also.slab) also.index also.begins)
      (lies (layout_numbers o.cache) o.first (kept_at s.kept o.machine_frame).colour o.index place fit is.index is.begins) in
      let one = one_slab r s t c o.first o.machine_frame c u.first u.machine_frame o.cache u.cache is.slab also.slab first in
      let here : object_place (layout_numbers o.cache) o.first (kept_at s.kept o.machine_frame).colour u.index ≡ place =
      ap (λ f. object_place (layout_numbers o.cache) f (kept_at s.kept o.machine_frame).colour u.index) (sym first)
      ∙ ap (λ n. object_place (layout_numbers o.cache) u.first (kept_at s.kept n).colour u.index) (sym one.machine_frame)
      ∙ ap (λ x. object_place (layout_numbers x) u.first (kept_at s.kept u.machine_frame).colour u.index) (sym one.same)
      ∙ also.begins in
      let some : 0 < (layout_numbers o.cache).chunk = let chunked = fit.chunked in omega arith in
      record {
        first = first;
        index = one_index (layout_numbers o.cache) o.first (kept_at s.kept o.machine_frame).colour u.index o.index some (here ∙ sym is.begins);
      }

  module _ (m : Machine) (h : ShowsMachine r b s t m) where
    -- live object w of the machine is also a live object of the tables, and its slab is in cache x of the machine
    pub record IsObjectKept (place : ℕ) (x : Cache) (w : LiveObject) : Type 0 where
      pub kept : own.Cache
      pub machine_frame : ℕ
      pub object : IsLiveObject r s t c place (found kept w.slab.first machine_frame w.index)
      pub standing : slab_of x w.slab.first ≡ Some w.slab

    pub object_kept : (place : ℕ) (x : Cache) (w : LiveObject) → cache_of m c ≡ Some x → IsIn w (live_objects x) → w.place ≡ place → IsObjectKept place x w
    object_kept place x w ex i e =
        let live = live_is x w i in
        let standing : slab_of x w.slab.first ≡ Some w.slab = in_found (λ z. z.first) 0 w.slab x.slabs (h.slabs_rise c x ex) live.slab_in in
        let is = slab_of_machine r b s t m h c w.slab.first x w.slab ex standing in
        let flag : ℕ → Bool = is_live r t is.kept (kept_at s.kept is.machine_frame) w.slab.first in
        let count : length w.slab.live ≡ (layout_numbers is.kept).count = ap (λ y. length y.live) is.is ∙ length_flags 0 (layout_numbers is.kept).count flag in
        let less : w.index < (layout_numbers is.kept).count = let below = live.index_in in omega arith in
        record {
          kept = is.kept;
          machine_frame = is.machine_frame;
          object = record {
            slab = is.slab;
            index = less;
            live = sym (flag_at (layout_numbers is.kept).count w.index flag false less) ∙ sym (ap (λ y. get_or y.live w.index false) is.is) ∙ live.live;
            begins = ap (λ l. object_place l w.slab.first (kept_at s.kept is.machine_frame).colour w.index) (sym is.layout)
                ∙ ap (λ n. object_place (layout x) w.slab.first n w.index) (sym (ap (λ y. y.colour) is.is)) ∙ sym live.at ∙ e;
          };
          standing = standing;
        }

    -- the object that a lookup by place finds in the machine is also a live object of the tables
    pub found_kept : (place : ℕ) (x : Cache) (w : LiveObject) → cache_of m c ≡ Some x → find (λ z. z.place == place) (live_objects x) ≡ Some w → IsObjectKept place x w
    found_kept place x w ex e =
        let there = find_in (λ z. z.place == place) w (live_objects x) e in
        object_kept place x w ex there.0 (eqb-true w.place place there.1)

    none_found : (place : ℕ) (x : Cache) → cache_of m c ≡ Some x → IsNoObject r s t c place → find (λ z. z.place == place) (live_objects x) ≡ None
    none_found place x ex none = go (find (λ z. z.place == place) (live_objects x)) refl
      where
        go : (o : Option LiveObject) → find (λ z. z.place == place) (live_objects x) ≡ o → o ≡ None
        go None e = refl
        go (Some w) e = let is = found_kept place x w ex e in absurd (none (found is.kept w.slab.first is.machine_frame w.index) is.object)

    -- live object o of the tables is also a live object of the machine, at the same place
    pub record IsObjectIn (o : Found) : Type 0 where
      pub cache : Cache
      pub slab : Slab
      pub cached : cache_of m c ≡ Some cache
      pub standing : slab_of cache o.first ≡ Some slab
      pub listed : IsIn (object_of cache slab o.index) (live_objects cache)
      pub begins : object_place (layout cache) slab.first slab.colour o.index ≡ object_place (layout_numbers o.cache) o.first (kept_at s.kept o.machine_frame).colour o.index

    pub object_in : (place : ℕ) (o : Found) → IsLiveObject r s t c place o → IsObjectIn o
    object_in place o is =
        let there = slab_in r b s t m h c o.first o.machine_frame o.cache is.slab in
        let x = there.there.shown in
        let flag : ℕ → Bool = is_live r t o.cache (kept_at s.kept o.machine_frame) o.first in
        let count = length_flags 0 (layout_numbers o.cache).count flag in
        let index = is.index in
        record {
          cache = x;
          slab = _;
          cached = there.there.cached;
          standing = there.slab;
          listed = in_flat_map (live_in x) _ _ x.slabs (find_in _ _ x.slabs there.slab).0
              (live_object x _ o.index (omega arith) (flag_at (layout_numbers o.cache).count o.index flag false is.index ∙ is.live));
          begins = ap (λ l. object_place l o.first (kept_at s.kept o.machine_frame).colour o.index) there.there.layout;
        }

pub not_found_refuses : NotFoundRefuses
unfolding give_step
not_found_refuses r b s t c place cache m st h cached none =
    let there = cache_shown r b s t m h c cache cached in
    ap (give_of place m) there.cached ∙ ap (give_object there.shown m) (none_found r b s t c st m h place there.shown there.cached none)

pub found_gives : FoundGives
unfolding give_step
found_gives r b s t c place o m st h is =
    let in_machine = object_in r b s t c st m h place o is in
    let x = in_machine.cache in
    let y = in_machine.slab in
    record {
      cache = x;
      slab = y;
      cached = in_machine.cached;
      standing = in_machine.standing;
      step = ap (give_of place m) in_machine.cached ∙ go x y in_machine.cached in_machine.standing
          (some_found (λ z. z.place == place) (object_of x y o.index) (live_objects x) in_machine.listed
          (eq-eqb (object_place (layout x) y.first y.colour o.index) place (in_machine.begins ∙ is.begins)))
          (find (λ z. z.place == place) (live_objects x)) refl;
    }
  where
    go : (x : Cache) (y : Slab) → cache_of m c ≡ Some x → slab_of x o.first ≡ Some y → find (λ z. z.place == place) (live_objects x) ≢ None
        → (w : Option LiveObject) → find (λ z. z.place == place) (live_objects x) ≡ w
        → give_object x m w ≡ record { answer = Ok tt; machine = with_cache (with_slab (with_live o.index false y) x) m }
    go x y ex ey some None e = absurd (some e)
    go x y ex ey some (Some w) e =
        let also = found_kept r b s t c st m h place x w ex e in
        let one = one_object r b s t c st place o (found also.kept w.slab.first also.machine_frame w.index) is also.object in
        let same : w.slab ≡ y = some_same (sym also.standing ∙ ap (slab_of x) one.first ∙ ey) in
        ap (λ (i : ℕ). give_object x m (Some (record w { index = i }))) one.index
        ∙ ap (λ (z : Slab). give_object x m (Some (record w { index = o.index; slab = z }))) same
