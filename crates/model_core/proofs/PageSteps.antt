-- A well formed machine stays well formed when page blocks, slots or whole caches change, and when empty slabs are freed.
use Rattle.std.proofs.Common.{◌≡◌, ◌≢◌, ℕ, ◌+◌, ◌*◌, ◌/◌, ◌^◌, ◌<◌, ◌≤◌, true, false, not, eqb, ltb, List, [], ◌∷◌, ◌++◌, map, Some, refl, sym, ap, ◌∙◌, subst, arith}
use Rattle.std.specs.Prelude.{filter}
use Rattle.std.specs.List.{list_any, AllByRecursion as Each}
use Rattle.std.proofs.lemmas.List.{map-id}
use Rattle.std.proofs.lemmas.Nat.{pow_pos}
use Rattle.std.proofs.Math.Nat.{div-mul-le_self, lt-div-mul-add}
use Rattle.std.proofs.lemmas.Bool.{and_from, lt-ltb, ne_eqb, false≢true}
use Rattle.model_core.specs.Blocks.{Block, block, slot_block}
use Rattle.model_core.specs.Layouts.{layout_of, is_size, is_alignment, is_pattern}
use Rattle.model_core.specs.Machine.{Cache, Machine, empty_machine, put_rising, least_missing, taken_blocks, choice}
use Rattle.model_core.specs.Slabs.{zeroed, is_empty, without_empty, reaped, by_need, destroyed}
use Rattle.model_core.specs.Operations.{with_block, without_block, next_slot, after_grant, overlaps, is_busy, after_take_back}
use Rattle.model_core.specs.CacheOperations.{created, next_number}
use Rattle.model_core.specs.WellFormed.{RisesFrom, IsApart, IsCut, IsCache, IsWellFormed}
use Rattle.model_core.specs.Elements.{IsIn}
use Rattle.model_core.proofs.Lists.{each_left, each_right, each_put, each_weaker, each_filter, each_map, each_unmap, any_none, none_any, Found, found, PutIn, put_in, put_rises, filter_rises, least_is_missing}
use Rattle.model_core.proofs.ReapingByNeed.{by_need_keeps}
use Rattle.model_core.proofs.BlocksApart.{apart_first}
use Rattle.model_core.proofs.ChosenBlock.{chosen_apart, chosen_placed}
use Rattle.model_core.proofs.LaidSlabs.{all_laid, laid_block, IsLaidOut, taken_laid, laid_out, Numbered, well_formed}
use Rattle.model_core.proofs.MemoryKept.{block_put, blocks_filtered, given_back, slot_put, slot_gone}
use Rattle.model_core.proofs.SlabAmongOthers.{laid_without, filter_laid, laid_of, is_empty_laid, kept_laid, gone_laid, slab_blocks_laid}

pub empty_kept : {limit : ℕ} (order : ℕ) → IsWellFormed limit order empty_machine
unfolding empty_machine
empty_kept order = well_formed order empty_machine tt tt tt tt tt (record {
  placed_blocks = tt;
  placed_slabs = tt;
  apart_blocks = tt;
  apart_slabs = tt;
  across = tt;
  cut = tt;
  mapped = λ place. refl;
})

-- Freeing empty slabs

without_empty_is : (c : Cache) → IsCache c → IsCache (without_empty c)
without_empty_is c h = record {
  sized = h.sized;
  aligned = h.aligned;
  patterned = h.patterned;
  counted = h.counted;
  slabs_rise = filter_rises (λ s. s.first) (λ s. not (is_empty s)) 0 c.slabs h.slabs_rise;
  slabs_cut = each_weaker (IsCut c) (IsCut (without_empty c)) (λ s k. record { count = k.count; colour = k.colour }) (filter (λ s. not (is_empty s)) c.slabs) (each_filter (IsCut c) (λ s. not (is_empty s)) c.slabs h.slabs_cut);
}

numbers_same : (cs : List Cache) → map (λ c. c.number) cs ≡ map (λ c. c.number) (map without_empty cs)
numbers_same [] = refl
numbers_same (c ∷ cs) = ap (λ ns. c.number ∷ ns) (numbers_same cs)

pub reaped_kept : {limit : ℕ} (order : ℕ) (m : Machine) → IsWellFormed limit order m → IsWellFormed limit order (reaped m)
unfolding reaped
reaped_kept {limit} order m w = well_formed order (reaped m) w.slots_rise w.blocks_rise (subst (RisesFrom 0) (numbers_same m.caches) w.caches_rise)
    (each_map (Numbered limit) without_empty m.caches w.numbered)
    (each_map IsCache without_empty m.caches (each_weaker IsCache (λ c. IsCache (without_empty c)) without_empty_is m.caches w.caches))
    (subst (λ ls. IsLaidOut order m.slots m.blocks ls (reaped m).bytes) (kept_laid m.caches)
    (subst (λ bs. IsLaidOut order m.slots m.blocks (filter (λ l. not (is_empty_laid l)) (all_laid m.caches)) (zeroed bs m.bytes)) (sym (gone_laid m.caches))
    (given_back order m.slots m.blocks is_empty_laid (all_laid m.caches) m.bytes (laid_out order m w))))

pub by_need_kept : {limit : ℕ} (order k : ℕ) (m : Machine) → IsWellFormed limit order m → IsWellFormed limit order (by_need order k m)
by_need_kept {limit} order k m w = by_need_keeps (IsWellFormed limit order) order k m w (reaped_kept order m w)

-- Page blocks

pub block_kept : {limit : ℕ} (order first k : ℕ) (m : Machine) → IsWellFormed limit order m → choice order m k ≡ Some first → IsWellFormed limit order (with_block (block first k) m)
block_kept order first k m w e =
    let b : Block = block first k in
    let slabs : List Block = map laid_block (all_laid m.caches) in
    let p : PutIn (λ x. x.first) b m.blocks = put_in (λ x. x.first) b m.blocks in
    let apart : Each (IsApart b) (m.blocks ++ slabs) = subst (Each (IsApart b)) (taken_laid m) (chosen_apart order k first m w.apart e) in
    let l : IsLaidOut order m.slots m.blocks (all_laid m.caches) m.bytes = laid_out order m w in
    well_formed order (with_block b m) w.slots_rise
    (put_rises (λ x. x.first) 0 b m.blocks w.blocks_rise (omega arith) (each_weaker (IsApart b) (λ y. y.first ≢ first) (λ y h same. apart_first b y h (sym same)) m.blocks (each_left (IsApart b) m.blocks slabs apart)))
    w.caches_rise w.numbered w.caches
    (subst (λ bs. IsLaidOut order m.slots bs (all_laid m.caches) m.bytes) (sym p.is)
    (block_put order m.slots p.before p.later b (all_laid m.caches) m.bytes (subst (λ bs. IsLaidOut order m.slots bs (all_laid m.caches) m.bytes) p.was l)
    (chosen_placed order k first m e) (subst (Each (IsApart b)) p.was (each_left (IsApart b) m.blocks slabs apart)) (each_right (IsApart b) m.blocks slabs apart)))

pub released_kept : {limit : ℕ} (order first : ℕ) (m : Machine) → IsWellFormed limit order m → IsWellFormed limit order (without_block first m)
released_kept order first m w = well_formed order (without_block first m) w.slots_rise (filter_rises (λ b. b.first) (λ x. not (eqb x.first first)) 0 m.blocks w.blocks_rise) w.caches_rise w.numbered w.caches
    (blocks_filtered order m.slots (λ x. not (eqb x.first first)) m.blocks (all_laid m.caches) m.bytes (laid_out order m w))

-- Slots

pub grant_kept : {limit : ℕ} (order : ℕ) (m : Machine) → IsWellFormed limit order m → IsWellFormed limit order (after_grant order m)
unfolding after_grant next_slot
grant_kept order m w =
    let u : ℕ = least_missing 0 m.slots in
    let missing : Each (λ v. v ≢ u) m.slots = least_is_missing 0 m.slots w.slots_rise in
    let p : PutIn (λ v. v) u m.slots = put_in (λ v. v) u m.slots in
    let new : list_any (λ v. eqb v u) m.slots ≡ false = any_none (λ v. eqb v u) m.slots (each_weaker (λ v. v ≢ u) (λ v. eqb v u ≡ false) (λ v. ne_eqb v u) m.slots missing) in
    well_formed order (after_grant order m)
    (subst (RisesFrom 0) (map-id (put_rising (λ v. v) u m.slots)) (put_rises (λ v. v) 0 u m.slots (subst (RisesFrom 0) (sym (map-id m.slots)) w.slots_rise) (omega arith) missing))
    w.blocks_rise w.caches_rise w.numbered w.caches
    (subst (λ us. IsLaidOut order us m.blocks (all_laid m.caches) (after_grant order m).bytes) (sym p.is)
    (slot_put order p.before p.later u m.blocks (all_laid m.caches) m.bytes (subst (λ us. list_any (λ v. eqb v u) us ≡ false) p.was new)
    (subst (λ us. IsLaidOut order us m.blocks (all_laid m.caches) m.bytes) p.was (laid_out order m w))))

-- if a block begins in a slot, the block and the slot share a frame
pub in_slot_overlaps : (order slot : ℕ) (b : Block) → b.first / 2 ^ order ≡ slot → overlaps (slot_block order slot) b ≡ true
in_slot_overlaps order slot b same = and_from (ltb (slot * 2 ^ order) (b.first + 2 ^ b.order)) (ltb b.first (slot * 2 ^ order + 2 ^ order))
    (lt-ltb (slot * 2 ^ order) (b.first + 2 ^ b.order) (omega (arith, low, pow_pos b.order))) (lt-ltb b.first (slot * 2 ^ order + 2 ^ order) high)
  where
    low : slot * 2 ^ order ≤ b.first
    low = subst (λ n. n * 2 ^ order ≤ b.first) same (div-mul-le_self b.first (2 ^ order))

    high : b.first < slot * 2 ^ order + 2 ^ order
    high = subst (λ n. b.first < n * 2 ^ order + 2 ^ order) same (lt-div-mul-add (pow_pos order))

not_in_slot : (order slot : ℕ) (b : Block) → overlaps (slot_block order slot) b ≡ false → b.first / 2 ^ order ≢ slot
not_in_slot order slot b e same = false≢true (sym e ∙ in_slot_overlaps order slot b same)

-- if a slot is not busy, no taken block begins in it
pub not_busy : (order slot : ℕ) (m : Machine) → is_busy order m slot ≡ false → Each (λ b. b.first / 2 ^ order ≢ slot) (m.blocks ++ map laid_block (all_laid m.caches))
unfolding is_busy
not_busy order slot m e = subst (Each (λ b. b.first / 2 ^ order ≢ slot)) (taken_laid m)
    (each_weaker (λ b. overlaps (slot_block order slot) b ≡ false) (λ b. b.first / 2 ^ order ≢ slot) (not_in_slot order slot) (taken_blocks m) (none_any (overlaps (slot_block order slot)) (taken_blocks m) e))

pub slot_gone_kept : {limit : ℕ} (order slot : ℕ) (m : Machine) → IsWellFormed limit order m → is_busy order m slot ≡ false → IsWellFormed limit order (after_take_back order slot m)
unfolding after_take_back
slot_gone_kept order slot m w e =
    let slabs : List Block = map laid_block (all_laid m.caches) in
    let apart : Each (λ b. b.first / 2 ^ order ≢ slot) (m.blocks ++ slabs) = not_busy order slot m e in
    well_formed order (after_take_back order slot m)
    (subst (RisesFrom 0) (map-id (filter (λ v. not (eqb v slot)) m.slots)) (filter_rises (λ v. v) (λ v. not (eqb v slot)) 0 m.slots (subst (RisesFrom 0) (sym (map-id m.slots)) w.slots_rise)))
    w.blocks_rise w.caches_rise w.numbered w.caches
    (slot_gone order m.slots slot m.blocks (all_laid m.caches) m.bytes (each_left (λ b. b.first / 2 ^ order ≢ slot) m.blocks slabs apart)
    (each_unmap (λ b. b.first / 2 ^ order ≢ slot) laid_block (all_laid m.caches) (each_right (λ b. b.first / 2 ^ order ≢ slot) m.blocks slabs apart)) (laid_out order m w))

-- Creating and destroying caches

pub created_laid : (number size align : ℕ) (pattern : List ℕ) (m : Machine) → all_laid (created number size align pattern m).caches ≡ all_laid m.caches
created_laid number size align pattern m =
    let c : Cache = record { number = number; size = size; align = align; pattern = pattern; made = 0; slabs = [] } in
    let p : PutIn (λ x. x.number) c m.caches = put_in (λ x. x.number) c m.caches in
    ap all_laid p.is ∙ (laid_without p.before p.later c refl ∙ ap all_laid (sym p.was))

pub new_kept : {limit : ℕ} (order size align : ℕ) (pattern : List ℕ) (m : Machine) → IsWellFormed limit order m → is_size size ≡ true → is_alignment align ≡ true
    → next_number m < limit → is_pattern pattern ≡ true → IsWellFormed limit order (created (next_number m) size align pattern m)
unfolding layout_of next_number
new_kept {limit} order size align pattern m w sized aligned below patterned =
    let number : ℕ = next_number m in
    let missing : Each (λ x. x ≢ number) (map (λ c. c.number) m.caches) = least_is_missing 0 (map (λ c. c.number) m.caches) w.caches_rise in
    let c : Cache = record { number = number; size = size; align = align; pattern = pattern; made = 0; slabs = [] } in
    let p : PutIn (λ x. x.number) c m.caches = put_in (λ x. x.number) c m.caches in
    let is : IsCache c = record { sized = sized; aligned = aligned; patterned = patterned; counted = omega arith; slabs_rise = tt; slabs_cut = tt } in
    well_formed order (created number size align pattern m) w.slots_rise w.blocks_rise
    (put_rises (λ x. x.number) 0 c m.caches w.caches_rise (omega arith) (each_unmap (λ x. x ≢ number) (λ x. x.number) m.caches missing))
    (subst (Each (Numbered limit)) (sym p.is) (each_put (Numbered limit) p.before p.later c (subst (Each (Numbered limit)) p.was w.numbered) below))
    (subst (Each IsCache) (sym p.is) (each_put IsCache p.before p.later c (subst (Each IsCache) p.was w.caches) is))
    (subst (λ ls. IsLaidOut order m.slots m.blocks ls m.bytes) (ap all_laid p.was ∙ (sym (laid_without p.before p.later c refl) ∙ ap all_laid (sym p.is))) (laid_out order m w))

-- a well formed machine stays well formed when one of its caches is destroyed, which frees the slabs of the cache
pub gone_kept : {limit : ℕ} (order : ℕ) (c : Cache) (m : Machine) → IsWellFormed limit order m → IsIn c m.caches → IsWellFormed limit order (destroyed c m)
unfolding destroyed
gone_kept {limit} order c m w i =
    let f : Found (λ x. x.number) c m.caches = found (λ x. x.number) 0 c m.caches w.caches_rise i in
    well_formed order (destroyed c m) w.slots_rise w.blocks_rise
    (filter_rises (λ x. x.number) (λ x. not (eqb x.number c.number)) 0 m.caches w.caches_rise)
    (each_filter (Numbered limit) (λ x. not (eqb x.number c.number)) m.caches w.numbered) (each_filter IsCache (λ x. not (eqb x.number c.number)) m.caches w.caches)
    (subst (λ ls. IsLaidOut order m.slots m.blocks ls (destroyed c m).bytes) (filter_laid (λ n. not (eqb n c.number)) m.caches)
    (subst (λ bs. IsLaidOut order m.slots m.blocks (filter (λ l. not (eqb l.number c.number)) (all_laid m.caches)) (zeroed bs m.bytes)) (ap (λ ls. map laid_block ls) (laid_of c m.caches f) ∙ sym (slab_blocks_laid c))
    (given_back order m.slots m.blocks (λ l. eqb l.number c.number) (all_laid m.caches) m.bytes (laid_out order m w))))
