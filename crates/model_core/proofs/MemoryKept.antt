-- After each kind of change, the memory of a machine is still laid out as `IsLaidOut` says.
use Rattle.std.proofs.Common.{◌≡◌, ◌≢◌, ℕ, ◌-◌, ◌*◌, ◌/◌, ◌^◌, Bool, true, false, not, ◌&&◌, ◌||◌, eqb, List, [], ◌∷◌, ◌++◌, map, length, Option, Some, None, refl, sym, ap, ◌∙◌, subst}
use Rattle.std.specs.Prelude.{if◌then◌else◌, is_some, filter}
use Rattle.std.specs.List.{list_any, AllByRecursion as Each}
use Rattle.std.proofs.lemmas.List.{map-id, map-append}
use Rattle.std.proofs.lemmas.Map.Views.{any-filter_same}
use Rattle.std.proofs.lemmas.Bool.{and_left, eqb-true, eqb-false, ne_eqb, eq-eqb, false≢true, not-true, not_from_false, or_left, or_right, false_from_ne_true}
use Rattle.model_core.specs.declared.limits.TheConstants.{FRAME_BYTES}
use Rattle.model_core.specs.Blocks.{Block, HasFrame, IsAligned}
use Rattle.model_core.specs.Layouts.{in_object}
use Rattle.model_core.specs.Machine.{slot_of, in_block}
use Rattle.model_core.specs.Slabs.{zeroed}
use Rattle.model_core.specs.WellFormed.{IsApart, AreApart}
use Rattle.model_core.proofs.BlocksByNumber.{number_of_frame, same_slot}
use Rattle.model_core.specs.Elements.{IsIn}
use Rattle.model_core.proofs.Lists.{each_put, each_less, each_middle, each_weaker, each_both, each_filtered, each_filter, each_in, each_map, each_unmap, any_append, any_none, none_any, some_any, any_map, any_split, or_turned}
use Rattle.model_core.proofs.BlocksApart.{apart_turned, in_block-true, apart_any, Across, apart_put, apart_filter, one_side}
use Rattle.model_core.proofs.LaidSlabs.{Laid, laid_layout, laid_block, in_laid, in_laid_object, Placed, mapped_by, IsCutLaid, IsLaidOut}

pub any_put : {X : Type 0} (p : X → Bool) (xs ys : List X) (x : X) → list_any p (xs ++ x ∷ ys) ≡ (p x || list_any p (xs ++ ys))
any_put p xs ys x = any_append p xs (x ∷ ys) ∙ (or_turned (list_any p xs) (p x) (list_any p ys) ∙ ap (λ b. p x || b) (sym (any_append p xs ys)))

-- a place that is in no slab is in no object
pub no_object : (place : ℕ) (ls : List Laid) → list_any (in_laid place) ls ≡ false → list_any (in_laid_object place) ls ≡ false
no_object place ls e = any_none (in_laid_object place) ls (each_weaker (λ l. in_laid place l ≡ false) (λ l. in_laid_object place l ≡ false) (λ l h. and_left (in_laid place l) _ h) ls (none_any (in_laid place) ls e))

-- every frame of an aligned block lies in the slot of the block's first frame
pub frame_slot : (order x : ℕ) (b : Block) → IsAligned order b → HasFrame b x → x / 2 ^ order ≡ b.first / 2 ^ order
frame_slot order x b aligned has = same_slot order b.order x b.first aligned.0 (number_of_frame b.first b.order x aligned.1 has)

pub place_held : (order : ℕ) (slots : List ℕ) (place : ℕ) (b : Block) → Placed order slots b → in_block place b ≡ true → list_any (λ v. eqb v (slot_of order place)) slots ≡ true
place_held order slots place b p e = ap (λ u. list_any (λ v. eqb v u) slots) (frame_slot order (place / FRAME_BYTES) b p.0 (in_block-true place b e)) ∙ p.1

-- a place in a slab lies in a held slot
pub slab_held : (order : ℕ) (slots : List ℕ) (place : ℕ) (ls : List Laid) → Each (λ l. Placed order slots (laid_block l)) ls → list_any (in_laid place) ls ≡ true
    → list_any (λ v. eqb v (slot_of order place)) slots ≡ true
slab_held order slots place ls h e =
    let s : (l : Laid) × IsIn l ls × (in_laid place l ≡ true) = some_any (in_laid place) ls e in
    place_held order slots place (laid_block s.0) (each_in (λ l. Placed order slots (laid_block l)) s.0 ls h s.1) s.2

-- A page block is added, or page blocks are removed

pub block_put : (order : ℕ) (slots : List ℕ) (xs ys : List Block) (b : Block) (ls : List Laid) (bytes : ℕ → Option ℕ)
    → IsLaidOut order slots (xs ++ ys) ls bytes → Placed order slots b → Each (IsApart b) (xs ++ ys) → Each (IsApart b) (map laid_block ls) → IsLaidOut order slots (xs ++ b ∷ ys) ls bytes
block_put order slots xs ys b ls bytes l p e f = record {
  placed_blocks = each_put (Placed order slots) xs ys b l.placed_blocks p;
  placed_slabs = l.placed_slabs;
  apart_blocks = apart_put xs ys b l.apart_blocks e;
  apart_slabs = l.apart_slabs;
  across = each_put (λ a. Each (IsApart a) (map laid_block ls)) xs ys b l.across f;
  cut = l.cut;
  mapped = l.mapped;
}

apart_filtered : (q : Block → Bool) (bs : List Block) → AreApart bs → AreApart (filter q bs)
apart_filtered q bs h = subst AreApart (map-id (filter q bs)) (apart_filter (λ b. b) q bs (subst AreApart (sym (map-id bs)) h))

pub blocks_filtered : (order : ℕ) (slots : List ℕ) (q : Block → Bool) (bs : List Block) (ls : List Laid) (bytes : ℕ → Option ℕ)
    → IsLaidOut order slots bs ls bytes → IsLaidOut order slots (filter q bs) ls bytes
blocks_filtered order slots q bs ls bytes l = record {
  placed_blocks = each_filter (Placed order slots) q bs l.placed_blocks;
  placed_slabs = l.placed_slabs;
  apart_blocks = apart_filtered q bs l.apart_blocks;
  apart_slabs = l.apart_slabs;
  across = each_filter (λ a. Each (IsApart a) (map laid_block ls)) q bs l.across;
  cut = l.cut;
  mapped = l.mapped;
}

-- The flags of one slab change

abbrev pub with_flags : List Bool → Laid → Laid
with_flags flags l = record l { live = flags }

pub flags_set : (order : ℕ) (slots : List ℕ) (bs : List Block) (xs ys : List Laid) (l : Laid) (flags : List Bool) (bytes : ℕ → Option ℕ) → length flags ≡ length l.live
    → IsLaidOut order slots bs (xs ++ l ∷ ys) bytes → IsLaidOut order slots bs (xs ++ with_flags flags l ∷ ys) bytes
flags_set order slots bs xs ys l flags bytes e h =
    let blocks : map laid_block (xs ++ l ∷ ys) ≡ map laid_block (xs ++ with_flags flags l ∷ ys) = map-append laid_block xs (l ∷ ys) ∙ sym (map-append laid_block xs (with_flags flags l ∷ ys)) in
    let cut : IsCutLaid l = each_middle IsCutLaid xs ys l h.cut in
    record {
      placed_blocks = h.placed_blocks;
      placed_slabs = each_put (λ k. Placed order slots (laid_block k)) xs ys (with_flags flags l) (each_less (λ k. Placed order slots (laid_block k)) xs ys l h.placed_slabs) (each_middle (λ k. Placed order slots (laid_block k)) xs ys l h.placed_slabs);
      apart_blocks = h.apart_blocks;
      apart_slabs = subst AreApart blocks h.apart_slabs;
      across = subst (Across bs) blocks h.across;
      cut = each_put IsCutLaid xs ys (with_flags flags l) (each_less IsCutLaid xs ys l h.cut) (record { fit = cut.fit; count = e ∙ cut.count; colour_is = cut.colour_is });
      mapped = λ place. h.mapped place ∙ mapped_same place;
    }
  where
    mapped_same : (place : ℕ) → mapped_by order slots (xs ++ l ∷ ys) place ≡ mapped_by order slots (xs ++ with_flags flags l ∷ ys) place
    mapped_same place =
        ap (λ b. (list_any (λ v. eqb v (slot_of order place)) slots && not b) || list_any (in_laid_object place) (xs ++ l ∷ ys))
        (any_append (in_laid place) xs (l ∷ ys) ∙ sym (any_append (in_laid place) xs (with_flags flags l ∷ ys)))
        ∙ ap (λ b. (list_any (λ v. eqb v (slot_of order place)) slots && not (list_any (in_laid place) (xs ++ with_flags flags l ∷ ys))) || b)
        (any_append (in_laid_object place) xs (l ∷ ys) ∙ sym (any_append (in_laid_object place) xs (with_flags flags l ∷ ys)))

-- A new slab

pub slab_put : (order : ℕ) (slots : List ℕ) (bs : List Block) (xs ys : List Laid) (l : Laid) (bytes fresh : ℕ → Option ℕ)
    → IsLaidOut order slots bs (xs ++ ys) bytes → Placed order slots (laid_block l) → Each (IsApart (laid_block l)) bs → Each (IsApart (laid_block l)) (map laid_block (xs ++ ys)) → IsCutLaid l
    → ((place : ℕ) → is_some (fresh place) ≡ in_object (laid_layout l) l.size l.colour (place - FRAME_BYTES * l.first))
    → IsLaidOut order slots bs (xs ++ l ∷ ys) (λ place. if in_laid place l then fresh place else bytes place)
slab_put order slots bs xs ys l bytes fresh h p e f c made = record {
  placed_blocks = h.placed_blocks;
  placed_slabs = each_put (λ k. Placed order slots (laid_block k)) xs ys l h.placed_slabs p;
  apart_blocks = h.apart_blocks;
  apart_slabs = subst AreApart (sym (map-append laid_block xs (l ∷ ys))) (apart_put (map laid_block xs) (map laid_block ys) (laid_block l)
      (subst AreApart (map-append laid_block xs ys) h.apart_slabs) (subst (Each (IsApart (laid_block l))) (map-append laid_block xs ys) f));
  across = across_more bs e h.across;
  cut = each_put IsCutLaid xs ys l h.cut c;
  mapped = λ place. mapped_new place (in_laid place l) refl;
}
  where
    across_more : (bs : List Block) → Each (IsApart (laid_block l)) bs → Across bs (map laid_block (xs ++ ys)) → Across bs (map laid_block (xs ++ l ∷ ys))
    across_more [] e a = tt
    across_more (b ∷ bs) (g, e) (k, a) = (
      subst (Each (IsApart b)) (sym (map-append laid_block xs (l ∷ ys)))
          (each_put (IsApart b) (map laid_block xs) (map laid_block ys) (laid_block l) (subst (Each (IsApart b)) (map-append laid_block xs ys) k) (apart_turned (laid_block l) b g)),
      across_more bs e a,
    )

    any_slab : (place : ℕ) → list_any (in_laid place) (xs ++ l ∷ ys) ≡ (in_laid place l || list_any (in_laid place) (xs ++ ys))
    any_slab place = any_put (in_laid place) xs ys l

    any_object : (place : ℕ) → list_any (in_laid_object place) (xs ++ l ∷ ys) ≡ (in_laid_object place l || list_any (in_laid_object place) (xs ++ ys))
    any_object place = any_put (in_laid_object place) xs ys l

    held : ℕ → Bool
    held place = list_any (λ v. eqb v (slot_of order place)) slots

    in_new : (h o : Bool) → o ≡ ((h && not (true || false)) || ((true && o) || false))
    in_new true true = refl
    in_new true false = refl
    in_new false true = refl
    in_new false false = refl

    mapped_new : (place : ℕ) (b : Bool) → in_laid place l ≡ b → is_some (if b then fresh place else bytes place) ≡ mapped_by order slots (xs ++ l ∷ ys) place
    mapped_new place true is =
        let none : list_any (in_laid place) (xs ++ ys) ≡ false = subst (λ b. b ≡ false) (any_map (in_block place) laid_block (xs ++ ys)) (apart_any place (laid_block l) (map laid_block (xs ++ ys)) f is) in
        let o : Bool = in_object (laid_layout l) l.size l.colour (place - FRAME_BYTES * l.first) in
        made place ∙ (in_new (held place) o
        ∙ (ap (λ b. (held place && not (true || false)) || ((b && o) || false)) (sym is)
        ∙ (ap (λ b. (held place && not (true || false)) || (in_laid_object place l || b)) (sym (no_object place (xs ++ ys) none))
        ∙ (ap (λ b. (held place && not (true || false)) || b) (sym (any_object place))
        ∙ ap (λ b. (held place && not b) || list_any (in_laid_object place) (xs ++ l ∷ ys)) (sym (any_slab place ∙ (ap (λ b. b || list_any (in_laid place) (xs ++ ys)) is ∙ ap (λ b. true || b) none)))))))
    mapped_new place false is = h.mapped place
        ∙ (ap (λ b. (held place && not b) || list_any (in_laid_object place) (xs ++ ys)) (sym (any_slab place ∙ ap (λ b. b || list_any (in_laid place) (xs ++ ys)) is))
        ∙ ap (λ b. (held place && not (list_any (in_laid place) (xs ++ l ∷ ys))) || b) (sym (any_object place ∙ ap (λ b. b || list_any (in_laid_object place) (xs ++ ys)) (and_left (in_laid place l) _ is))))

-- Freed slabs

pub given_back : (order : ℕ) (slots : List ℕ) (bs : List Block) (q : Laid → Bool) (ls : List Laid) (bytes : ℕ → Option ℕ)
    → IsLaidOut order slots bs ls bytes → IsLaidOut order slots bs (filter (λ l. not (q l)) ls) (zeroed (map laid_block (filter q ls)) bytes)
given_back order slots bs q ls bytes h = record {
  placed_blocks = h.placed_blocks;
  placed_slabs = each_filter (λ k. Placed order slots (laid_block k)) (λ l. not (q l)) ls h.placed_slabs;
  apart_blocks = h.apart_blocks;
  apart_slabs = apart_filter laid_block (λ l. not (q l)) ls h.apart_slabs;
  across = each_weaker (λ b. Each (IsApart b) (map laid_block ls)) (λ b. Each (IsApart b) (map laid_block kept)) (λ b e. each_map (IsApart b) laid_block kept
      (each_filter (λ l. IsApart b (laid_block l)) (λ l. not (q l)) ls (each_unmap (IsApart b) laid_block ls e))) bs h.across;
  cut = each_filter IsCutLaid (λ l. not (q l)) ls h.cut;
  mapped = λ place. ap (λ b. is_some (if b then Some 0 else bytes place)) (any_map (in_block place) laid_block gone) ∙ mapped_new place (list_any (in_laid place) gone) refl;
}
  where
    kept : List Laid
    kept = filter (λ l. not (q l)) ls

    gone : List Laid
    gone = filter q ls

    held : ℕ → Bool
    held place = list_any (λ v. eqb v (slot_of order place)) slots

    mapped_new : (place : ℕ) (b : Bool) → list_any (in_laid place) gone ≡ b → is_some (if b then Some 0 else bytes place) ≡ mapped_by order slots kept place
    mapped_new place true is =
        let holds : held place ≡ true = slab_held order slots place ls h.placed_slabs (any_split (in_laid place) q ls ∙ ap (λ b. b || list_any (in_laid place) kept) is) in
        let none : list_any (in_laid place) kept ≡ false = one_side laid_block q ls place h.apart_slabs is in
        ap (λ b. (b && not false) || false) (sym holds)
        ∙ (ap (λ b. (held place && not b) || false) (sym none)
        ∙ ap (λ b. (held place && not (list_any (in_laid place) kept)) || b) (sym (no_object place kept none)))
    mapped_new place false is = h.mapped place
        ∙ (ap (λ b. (held place && not b) || list_any (in_laid_object place) ls) (any_split (in_laid place) q ls ∙ ap (λ b. b || list_any (in_laid place) kept) is)
        ∙ ap (λ b. (held place && not (list_any (in_laid place) kept)) || b) (any_split (in_laid_object place) q ls ∙ ap (λ b. b || list_any (in_laid_object place) kept) (no_object place gone is)))

-- A slot is added

pub slot_put : (order : ℕ) (xs ys : List ℕ) (u : ℕ) (bs : List Block) (ls : List Laid) (bytes : ℕ → Option ℕ) → list_any (λ v. eqb v u) (xs ++ ys) ≡ false
    → IsLaidOut order (xs ++ ys) bs ls bytes → IsLaidOut order (xs ++ u ∷ ys) bs ls (λ place. if eqb (slot_of order place) u then Some 0 else bytes place)
slot_put order xs ys u bs ls bytes new h = record {
  placed_blocks = each_weaker (Placed order (xs ++ ys)) (Placed order (xs ++ u ∷ ys)) more bs h.placed_blocks;
  placed_slabs = each_weaker (λ l. Placed order (xs ++ ys) (laid_block l)) (λ l. Placed order (xs ++ u ∷ ys) (laid_block l)) (λ l. more (laid_block l)) ls h.placed_slabs;
  apart_blocks = h.apart_blocks;
  apart_slabs = h.apart_slabs;
  across = h.across;
  cut = h.cut;
  mapped = λ place. mapped_new place (eqb (slot_of order place) u) refl;
}
  where
    held : (v : ℕ) → list_any (λ w. eqb w v) (xs ++ u ∷ ys) ≡ (eqb u v || list_any (λ w. eqb w v) (xs ++ ys))
    held v = any_put (λ w. eqb w v) xs ys u

    more : (b : Block) → Placed order (xs ++ ys) b → Placed order (xs ++ u ∷ ys) b
    more b (a, p) = (a, held (b.first / 2 ^ order) ∙ or_right (eqb u (b.first / 2 ^ order)) _ p)

    mapped_new : (place : ℕ) (b : Bool) → eqb (slot_of order place) u ≡ b → is_some (if b then Some 0 else bytes place) ≡ mapped_by order (xs ++ u ∷ ys) ls place
    mapped_new place true is =
        let here : slot_of order place ≡ u = eqb-true (slot_of order place) u is in
        let none : list_any (in_laid place) ls ≡ false = false_from_ne_true (list_any (in_laid place) ls) (λ e.
        false≢true (sym new ∙ (ap (λ v. list_any (λ w. eqb w v) (xs ++ ys)) (sym here) ∙ slab_held order (xs ++ ys) place ls h.placed_slabs e))) in
        let holds : list_any (λ w. eqb w (slot_of order place)) (xs ++ u ∷ ys) ≡ true = held (slot_of order place) ∙ or_left (eqb u (slot_of order place)) _ (eq-eqb u (slot_of order place) (sym here)) in
        ap (λ b. (b && not false) || false) (sym holds)
        ∙ (ap (λ b. (list_any (λ w. eqb w (slot_of order place)) (xs ++ u ∷ ys) && not b) || false) (sym none)
        ∙ ap (λ b. (list_any (λ w. eqb w (slot_of order place)) (xs ++ u ∷ ys) && not (list_any (in_laid place) ls)) || b) (sym (no_object place ls none)))
    mapped_new place false is = h.mapped place
        ∙ ap (λ b. (b && not (list_any (in_laid place) ls)) || list_any (in_laid_object place) ls)
        (sym (held (slot_of order place) ∙ ap (λ b. b || list_any (λ w. eqb w (slot_of order place)) (xs ++ ys)) (ne_eqb u (slot_of order place) (λ e. eqb-false (slot_of order place) u is (sym e)))))

-- A slot without blocks is removed

pub slot_gone : (order : ℕ) (slots : List ℕ) (u : ℕ) (bs : List Block) (ls : List Laid) (bytes : ℕ → Option ℕ)
    → Each (λ b. b.first / 2 ^ order ≢ u) bs → Each (λ l. l.first / 2 ^ order ≢ u) ls
    → IsLaidOut order slots bs ls bytes → IsLaidOut order (filter (λ v. not (eqb v u)) slots) bs ls (λ place. if eqb (slot_of order place) u then None else bytes place)
slot_gone order slots u bs ls bytes e f h = record {
  placed_blocks = each_both (λ b. b.first / 2 ^ order ≢ u) (Placed order slots) (Placed order fewer) kept bs e h.placed_blocks;
  placed_slabs = each_both (λ l. l.first / 2 ^ order ≢ u) (λ l. Placed order slots (laid_block l)) (λ l. Placed order fewer (laid_block l)) (λ l. kept (laid_block l)) ls f h.placed_slabs;
  apart_blocks = h.apart_blocks;
  apart_slabs = h.apart_slabs;
  across = h.across;
  cut = h.cut;
  mapped = λ place. mapped_new place (eqb (slot_of order place) u) refl;
}
  where
    fewer : List ℕ
    fewer = filter (λ v. not (eqb v u)) slots

    gone : (vs : List ℕ) → list_any (λ w. eqb w u) (filter (λ v. not (eqb v u)) vs) ≡ false
    gone vs = any_none (λ w. eqb w u) (filter (λ v. not (eqb v u)) vs) (each_weaker (λ v. not (eqb v u) ≡ true) (λ v. eqb v u ≡ false) (λ v. not-true (eqb v u)) (filter (λ v. not (eqb v u)) vs) (each_filtered (λ v. not (eqb v u)) vs))

    same : (v : ℕ) → v ≢ u → list_any (λ w. eqb w v) fewer ≡ list_any (λ w. eqb w v) slots
    same v ne = any-filter_same (λ w. eqb w v) (λ w. not (eqb w u)) true (λ w e. not_from_false (eqb w u) (ne_eqb w u (λ is. ne (sym (eqb-true w v e) ∙ is)))) slots

    kept : (b : Block) → b.first / 2 ^ order ≢ u → Placed order slots b → Placed order fewer b
    kept b ne (a, p) = (a, same (b.first / 2 ^ order) ne ∙ p)

    mapped_new : (place : ℕ) (b : Bool) → eqb (slot_of order place) u ≡ b → is_some (if b then None else bytes place) ≡ mapped_by order fewer ls place
    mapped_new place true is =
        let here : slot_of order place ≡ u = eqb-true (slot_of order place) u is in
        let none : list_any (in_laid place) ls ≡ false = any_none (in_laid place) ls (each_both (λ l. l.first / 2 ^ order ≢ u) (λ l. Placed order slots (laid_block l)) (λ l. in_laid place l ≡ false)
        (λ l ne p. false_from_ne_true (in_laid place l) (λ k. ne (sym (frame_slot order (place / FRAME_BYTES) (laid_block l) p.0 (in_block-true place (laid_block l) k)) ∙ here))) ls f h.placed_slabs) in
        let unheld : list_any (λ w. eqb w (slot_of order place)) fewer ≡ false = ap (λ v. list_any (λ w. eqb w v) fewer) here ∙ gone slots in
        ap (λ b. (b && not (list_any (in_laid place) ls)) || false) (sym unheld)
        ∙ ap (λ b. (list_any (λ w. eqb w (slot_of order place)) fewer && not (list_any (in_laid place) ls)) || b) (sym (no_object place ls none))
    mapped_new place false is = h.mapped place ∙ ap (λ b. (b && not (list_any (in_laid place) ls)) || list_any (in_laid_object place) ls) (sym (same (slot_of order place) (eqb-false (slot_of order place) u is)))
