-- The control record of a slab of small objects shows which objects are live in the machine.
use Rattle.std.proofs.Common.{◌≡◌, ℕ, ◌+◌, ◌*◌, ◌/◌, ◌%◌, ◌^◌, ◌<◌, ◌≤◌, Bool, true, false, cond, Some, get_or, sym, ap, ◌∙◌, subst, ⊎_elim, arith}
use Rattle.std.specs.Prelude.{slice_index}
use Rattle.std.proofs.lemmas.Bool.{cases_lt}
use Rattle.std.proofs.lemmas.List.{get_or_past}
use Rattle.std.proofs.lemmas.Nat.{div-mul-add, mod-mul-add, div-add-mod', mod_below, pow_pos}
use Rattle.model_core.specs.Layouts.{is_small}
use Rattle.model_core.specs.Slabs.{slab_of}
use Rattle.space_core.specs.Content as spaces
use Rattle.space_core.specs.Windows.{byte_under}
use Rattle.slab_tables.specs.declared.cache.Cache as own
use Rattle.slab_tables.specs.declared.cache.Kept.{Kept}
use Rattle.slab_tables.specs.Content.{Content, kept_at, layout_numbers}
use Rattle.machine_changes.specs.Records.{is_set}
use Rattle.machine_changes.specs.Shows.{machine_frame_of, byte_or_zero, record_byte, is_live}
use Rattle.machine_changes.proofs.Lookups.{some_same}
use Rattle.machine_changes.proofs.SlabFacts.{superblock_of_machine_frame, frame_of_machine_frame, under_is, shown, slab_in}
use Rattle.machine_changes.proofs.ObjectFlags.{length_flags, flag_at}
use Rattle.machine_changes.proofs.SteadyParts.{placed_as}
use Rattle.machine_changes.specs.Pages.{record_at, RecordMeets}

-- if a slot has z frames and `unit` bytes, byte `off` of frame f is byte `off` of frame f % z in slot f / z
record IsPlacedIn (unit z f off : ℕ) : Type 0 where
  slot : (4096 * f + off) / unit ≡ f / z
  offset : (4096 * f + off) % unit ≡ 4096 * (f % z) + off

placed_in : (unit z f off : ℕ) → unit ≡ 4096 * z → 0 < z → off < 4096 → IsPlacedIn unit z f off
placed_in unit z f off size some less =
    let split : f / z * z + f % z ≡ f = div-add-mod' f z in
    let small : f % z < z = mod_below f z some in
    let inside : 4096 * (f % z) + off < 4096 * z = omega arith in
    let whole : f / z * (4096 * z) + (4096 * (f % z) + off) ≡ 4096 * f + off = omega arith in
    record {
      slot = ap (λ u. (4096 * f + off) / u) size
          ∙ (ap (λ p. p / (4096 * z)) (sym whole) ∙ div-mul-add (f / z) (4096 * z) (4096 * (f % z) + off) inside);
      offset = ap (λ u. (4096 * f + off) % u) size
          ∙ (ap (λ p. p % (4096 * z)) (sym whole) ∙ mod-mul-add (f / z) (4096 * z) (4096 * (f % z) + off) inside);
    }

-- byte i of the control record in frame f of tenant t is byte i of the control record in the machine frame of f
record_stands : (r : spaces.Content) (s : Content) (t f n i : ℕ) → r.unit ≡ 4096 * 2 ^ s.top → machine_frame_of s.top r.slots t f ≡ Some n → i < 32
    → record_byte r t f i ≡ record_at r s n i
record_stands r s t f n i unit under less =
    let z : ℕ = 2 ^ s.top in
    let p : ℕ = 4096 * f + 4064 + i in
    let sum : p ≡ 4096 * f + (4064 + i) = omega arith in
    let is = placed_in r.unit z f (4064 + i) unit (pow_pos s.top) (omega arith) in
    let slot : p / r.unit ≡ f / z = ap (λ x. x / r.unit) sum ∙ is.slot in
    let offset : p % r.unit ≡ 4096 * (f % z) + (4064 + i) = ap (λ x. x % r.unit) sum ∙ is.offset in
    let there = under_is s.top f n (spaces.superblock_at r.slots t (f / z)) under in
    let superblock : n / z ≡ there.0 = ap (λ x. x / z) there.2 ∙ superblock_of_machine_frame s.top there.0 f in
    let frame : n % z ≡ f % z = ap (λ x. x % z) there.2 ∙ frame_of_machine_frame s.top there.0 f in
    let at : 4096 * (f % z) + (4064 + i) ≡ 4096 * (n % z) + 4064 + i = omega arith in
    ap (λ u. byte_or_zero (byte_under r.banks (p % r.unit) (spaces.superblock_at r.slots t u))) slot
    ∙ (ap (λ o. byte_or_zero (byte_under r.banks (p % r.unit) o)) there.1
    ∙ (ap (λ j. slice_index (spaces.bank r.banks there.0) j) (offset ∙ at)
    ∙ ap (λ m. slice_index (spaces.bank r.banks m) (4096 * (n % z) + 4064 + i)) (sym superblock)))

small_live : (r : spaces.Content) (t f i j : ℕ) (cache : own.Cache) (kept : Kept) → is_small (layout_numbers cache).chunk ≡ true → j < 8
    → is_live r t cache kept f (8 * i + j) ≡ is_set (record_byte r t f i) j
small_live r t f i j cache kept small less =
    let byte : (8 * i + j) / 8 ≡ i = omega arith in
    let bit : (8 * i + j) % 8 ≡ j = omega arith in
    ap (λ v. cond v (is_set (record_byte r t f ((8 * i + j) / 8)) ((8 * i + j) % 8)) (is_set kept.outside (8 * i + j))) small
    ∙ (ap (λ k. is_set (record_byte r t f k) ((8 * i + j) % 8)) byte ∙ ap (is_set (record_byte r t f i)) bit)

pub record_meets : RecordMeets
record_meets r b s t c f n cache m x y a h q small ex ey i j few less =
    ap (λ byte. is_set byte j) (sym (record_stands r s t f n i a.unit q.under few))
    ∙ (sym (small_live r t f i j cache (kept_at s.kept n) small less) ∙ (flag_of ∙ ap (λ z. get_or z.live (8 * i + j) false) (sym y_is)))
  where
    flag : ℕ → Bool
    flag = is_live r t cache (kept_at s.kept n) f

    y_is : y ≡ shown r s t c cache q.cached f n
    y_is =
        let there = slab_in r b s t m h c f n cache q in
        some_same (sym ey ∙ (ap (λ z. slab_of z f) (some_same (sym ex ∙ there.there.cached)) ∙ there.slab))

    rest : (k : ℕ) → (layout_numbers cache).count ≤ k → k < 256 → flag k ≡ false
    rest =
        let p = placed_as r s t c f n cache q in
        subst (λ u. (k : ℕ) → (layout_numbers cache).count ≤ k → k < 256 → is_live r u cache (kept_at s.kept n) f k ≡ false) p.tenant
        (a.slabs n p.head f cache p.place p.cached).rest

    flag_of : flag (8 * i + j) ≡ get_or (shown r s t c cache q.cached f n).live (8 * i + j) false
    flag_of =
        ⊎_elim
        (λ below. sym (flag_at (layout_numbers cache).count (8 * i + j) flag false below))
        (λ past.
        rest (8 * i + j) past (omega arith)
        ∙ sym (get_or_past (shown r s t c cache q.cached f n).live (8 * i + j) false
        (let long = length_flags 0 (layout_numbers cache).count flag in omega arith)))
        (cases_lt (8 * i + j) (layout_numbers cache).count)
