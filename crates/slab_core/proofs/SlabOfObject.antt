-- The slab of a live object begins at the first frame of the aligned block around the object's first place.
use Rattle.std.proofs.Common.{◌≡◌, ℕ, ◌+◌, ◌-◌, ◌*◌, ◌/◌, ◌%◌, ◌^◌, ◌<◌, ◌≤◌, false, length, Some, None, sym, ap, ◌∙◌, subst, arith}
use Rattle.std.proofs.lemmas.Bool.{false≢true}
use Rattle.std.proofs.lemmas.Nat.{div-mul-add}
use Rattle.model_core.specs.Blocks.{block, around, HasFrame}
use Rattle.model_core.specs.Layouts.{Layout, IsFit, object_offset}
use Rattle.model_core.proofs.BlocksByNumber.{number_is, first_is, number_of_frame}
use Rattle.layout_core.specs.Objects.{Begins, IsOnly}
use Rattle.klist_core.specs.Places.{place_at}
use Rattle.space_core.specs.Content as spaces
use Rattle.buddy_core.specs.Content as buddies
use Rattle.slab_tables.specs.declared.cache.Cache as own
use Rattle.slab_tables.specs.Content.{Content, kept_at, cache_at, index_of_cache, layout_numbers}
use Rattle.machine_changes.specs.Shows.{machine_frame_of, is_of_cache, is_live}
use Rattle.machine_changes.specs.Slots.{HoldTogether}
use Rattle.machine_changes.specs.Changes.{Found, found}
use Rattle.machine_changes.specs.Objects.{IsLiveObject, IsNoObject}
use Rattle.machine_changes.proofs.Lookups.{some_none, some_same}
use Rattle.slab_core.proofs.SlabFacts.{held}

-- if an aligned block contains frame x, it is the aligned block of its order around x
pub around_frame : (f k x : ℕ) → f % 2 ^ k ≡ 0 → HasFrame (block f k) x → f ≡ (around x k).first
around_frame f k x aligned has =
    sym (first_is f k aligned) ∙ ap (λ n. n * 2 ^ k) (sym (number_of_frame f k x aligned has) ∙ number_is k x)

-- a place lies in a block if its offset from the block's first place is below the block's size in bytes
pub in_frame : (f k off : ℕ) → off < 4096 * 2 ^ k → HasFrame (block f k) ((4096 * f + off) / 4096)
in_frame f k off less =
    let here : (4096 * f + off) / 4096 ≡ f + off / 4096 =
    ap (λ x. x / 4096) (omega arith) ∙ div-mul-add (f + off / 4096) 4096 (off % 4096) (omega arith) in
    (omega arith, omega arith)

-- the offset of each object of a slab is below the size of the slab in bytes
pub object_within : (l : Layout) (colour i : ℕ) → IsFit l colour → i < l.count → object_offset l colour i < 4096 * 2 ^ l.order
object_within l colour i fit less =
    let ends = fit.inside in
    let room : l.room ≤ 4096 * 2 ^ l.order = fit.within in
    let wide = fit.chunked in
    let steps : i * l.chunk + l.chunk ≤ l.count * l.chunk = more i l.chunk l.count less in
    omega arith
  where
    more : (a w n : ℕ) → a < n → a * w + w ≤ n * w
    more a w n lt = let rest : ℕ = n - a - 1 in let split : n ≡ a + 1 + rest = omega arith in subst (λ m. a * w + w ≤ m * w) (sym split) (omega arith)

sound : {r : spaces.Content} {b : buddies.Content} {s : Content} {t : ℕ} → HoldTogether r b s → t < length r.slots → buddies.IsSoundHolding b.top (buddies.holding_of t b)
sound {t = t} parts tenant = parts.buddy.sound t (omega (arith, tenant, parts.agree.rows))

module _ {r : spaces.Content} {b : buddies.Content} {s : Content} {t c : ℕ} {cache : own.Cache} (parts : HoldTogether r b s) (tenant : t < length r.slots)
    (cached : cache_at s t c ≡ Some cache) (place first : ℕ) (is_first : first ≡ (around (place / 4096) (layout_numbers cache).order).first) where
  begins_there : (f n i : ℕ) → IsLiveObject r s t c place (found cache f n i) → f ≡ first
  begins_there f n i o =
      let h = held r b s t c f n cache parts.slabs parts.agree o.slab in
      let k = (layout_numbers cache).order in
      let colour = (kept_at s.kept n).colour in
      let fit : IsFit (layout_numbers cache) colour = subst (λ x. IsFit (layout_numbers cache) x) (sym h.listed.colour.1) (h.layout.fits h.listed.colour.0) in
      let has : HasFrame (block f k) (place / 4096) =
      subst (λ p. HasFrame (block f k) (p / 4096)) o.begins (in_frame f k (object_offset (layout_numbers cache) colour i) (object_within (layout_numbers cache) colour i fit o.index)) in
      around_frame f k (place / 4096) ((sound parts tenant).placed f k h.taken).0.1 has ∙ sym is_first

  -- each live object of cache c that begins at the place lies in the slab that begins at frame `first`
  pub there : (o : Found) → IsLiveObject r s t c place o → IsLiveObject r s t c place (found cache first o.machine_frame o.index)
  there o is =
      let mine : IsLiveObject r s t c place (found cache o.first o.machine_frame o.index) =
      subst (λ x. IsLiveObject r s t c place (found x o.first o.machine_frame o.index)) (some_same (sym is.slab.cached ∙ cached)) is in
      subst (λ f. IsLiveObject r s t c place (found cache f o.machine_frame o.index)) (begins_there o.first o.machine_frame o.index mine) mine

  pub no_machine_frame : machine_frame_of s.top r.slots t first ≡ None → IsNoObject r s t c place
  no_machine_frame none o is = some_none (sym (there o is).slab.under ∙ none)

  module _ (n : ℕ) (under : machine_frame_of s.top r.slots t first ≡ Some n) where
    at_machine_frame : (o : Found) → IsLiveObject r s t c place o → IsLiveObject r s t c place (found cache first n o.index)
    at_machine_frame o is =
        let x = there o is in
        subst (λ m. IsLiveObject r s t c place (found cache first m o.index)) (some_same (sym x.slab.under ∙ under)) x

    pub no_slab : is_of_cache (index_of_cache t c) first (place_at s.lists.places n) ≡ false → IsNoObject r s t c place
    no_slab none o is = false≢true (sym none ∙ (at_machine_frame o is).slab.listed)

    begins_at : (o : Found) → IsLiveObject r s t c place o → Begins cache.layout (kept_at s.kept n).colour (place - 4096 * first) o.index
    begins_at o is = let x = at_machine_frame o is in let e = x.begins in record { object = x.index; begins = omega arith }

    pub none_begins : ((i : ℕ) → Begins cache.layout (kept_at s.kept n).colour (place - 4096 * first) i → ⊥) → IsNoObject r s t c place
    none_begins none o is = none o.index (begins_at o is)

    pub not_live : (i : ℕ) → IsOnly (Begins cache.layout (kept_at s.kept n).colour (place - 4096 * first)) i
        → is_live r t cache (kept_at s.kept n) first i ≡ false → IsNoObject r s t c place
    not_live i only dead o is =
        let same : o.index ≡ i = only.only o.index (begins_at o is) in
        false≢true (sym dead ∙ ap (is_live r t cache (kept_at s.kept n) first) (sym same) ∙ (at_machine_frame o is).live)
