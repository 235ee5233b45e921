-- Slabs as they lie in memory, each with the number, object size, alignment and pattern of its cache.
use Rattle.std.proofs.Common.{◌≡◌, ℕ, ◌-◌, ◌*◌, ◌/◌, ◌^◌, ◌<◌, Bool, true, not, ◌&&◌, ◌||◌, eqb, List, [], ◌∷◌, ◌++◌, map, length, Option, refl, sym, ap, ◌∙◌, subst}
use Rattle.std.proofs.lemmas.List.{map-append}
use Rattle.std.specs.Prelude.{flat_map, is_some}
use Rattle.std.specs.List.{list_any, AllByRecursion as Each}
use Rattle.model_core.specs.declared.limits.TheConstants.{FRAME_BYTES}
use Rattle.model_core.specs.Blocks.{Block, block, IsAligned}
use Rattle.model_core.specs.Layouts.{Layout, layout_of, colour_offset, in_object, IsLayout}
use Rattle.model_core.specs.Machine.{Slab, Cache, Machine, slot_of, in_block, slab_block, slab_blocks, taken_blocks}
use Rattle.model_core.specs.WellFormed.{RisesFrom, AreApart, IsPlaced, IsCut, IsCache, in_slab, in_cache, is_mapped, IsWellFormed}
use Rattle.model_core.proofs.Layouts.{layouts_fit}
use Rattle.model_core.proofs.Lists.{each_append, each_left, each_right, each_map, each_unmap, each_weaker, each_flat_map, any_append, any_map}
use Rattle.model_core.proofs.BlocksApart.{Across, apart_parts, apart_append}

pub record Laid : Type 0 where
  pub number : ℕ
  pub size : ℕ
  pub align : ℕ
  pub pattern : List ℕ
  pub first : ℕ
  pub colour : ℕ
  pub live : List Bool

abbrev pub laid : Cache → Slab → Laid
laid c s = record { number = c.number; size = c.size; align = c.align; pattern = c.pattern; first = s.first; colour = s.colour; live = s.live }

abbrev pub laid_in : Cache → List Laid
laid_in c = map (laid c) c.slabs

abbrev pub all_laid : List Cache → List Laid
all_laid cs = flat_map laid_in cs

abbrev pub laid_layout : Laid → Layout
laid_layout l = layout_of l.size l.align

abbrev pub laid_block : Laid → Block
laid_block l = block l.first (laid_layout l).order

abbrev pub in_laid : ℕ → Laid → Bool
in_laid place l = in_block place (laid_block l)

abbrev pub in_laid_object : ℕ → Laid → Bool
in_laid_object place l = in_laid place l && in_object (laid_layout l) l.size l.colour (place - FRAME_BYTES * l.first)

pub map_laid : (c : Cache) (ss : List Slab) → map (slab_block c) ss ≡ map laid_block (map (laid c) ss)
map_laid c [] = refl
map_laid c (s ∷ ss) = ap (λ bs. slab_block c s ∷ bs) (map_laid c ss)

pub blocks_laid : (cs : List Cache) → flat_map slab_blocks cs ≡ map laid_block (all_laid cs)
blocks_laid [] = refl
blocks_laid (c ∷ cs) = ap (λ bs. bs ++ flat_map slab_blocks cs) (map_laid c c.slabs)
    ∙ (ap (λ bs. map laid_block (laid_in c) ++ bs) (blocks_laid cs) ∙ sym (map-append laid_block (laid_in c) (all_laid cs)))

pub in_slab_laid : (m : Machine) (place : ℕ) → in_slab m place ≡ list_any (in_laid place) (all_laid m.caches)
in_slab_laid m place = ap (λ bs. list_any (in_block place) bs) (blocks_laid m.caches) ∙ any_map (in_block place) laid_block (all_laid m.caches)

pub in_cache_laid : (place : ℕ) (cs : List Cache) → list_any (in_cache place) cs ≡ list_any (in_laid_object place) (all_laid cs)
in_cache_laid place [] = refl
in_cache_laid place (c ∷ cs) = ap (λ b. in_cache place c || b) (in_cache_laid place cs)
    ∙ (ap (λ b. b || list_any (in_laid_object place) (all_laid cs)) (sym (any_map (in_laid_object place) (laid c) c.slabs))
    ∙ sym (any_append (in_laid_object place) (laid_in c) (all_laid cs)))

-- what is true of the memory of a well formed machine

abbrev pub Placed : ℕ → List ℕ → Block → Type 0
Placed order slots b = IsAligned order b × (list_any (λ v. eqb v (b.first / 2 ^ order)) slots ≡ true)

abbrev pub mapped_by : ℕ → List ℕ → List Laid → ℕ → Bool
mapped_by order slots ls place = (list_any (λ v. eqb v (slot_of order place)) slots && not (list_any (in_laid place) ls)) || list_any (in_laid_object place) ls

pub record IsCutLaid (l : Laid) : Type 0 where
  pub fit : IsLayout l.size l.align (laid_layout l)
  pub count : length l.live ≡ (laid_layout l).count
  pub colour_is : (made : ℕ) × (l.colour ≡ colour_offset l.align made (laid_layout l))

pub record IsLaidOut (order : ℕ) (slots : List ℕ) (blocks : List Block) (ls : List Laid) (bytes : ℕ → Option ℕ) : Type 0 where
  pub placed_blocks : Each (Placed order slots) blocks
  pub placed_slabs : Each (λ l. Placed order slots (laid_block l)) ls
  pub apart_blocks : AreApart blocks
  pub apart_slabs : AreApart (map laid_block ls)
  pub across : Across blocks (map laid_block ls)
  pub cut : Each IsCutLaid ls
  pub mapped : (place : ℕ) → is_some (bytes place) ≡ mapped_by order slots ls place

cut_laid : (c : Cache) → IsCache c → Each IsCutLaid (laid_in c)
cut_laid c h = each_map IsCutLaid (laid c) c.slabs (each_weaker (IsCut c) (λ s. IsCutLaid (laid c s))
    (λ s k. record { fit = layouts_fit c.size c.align h.sized h.aligned; count = k.count; colour_is = k.colour }) c.slabs h.slabs_cut)

pub each_cut_laid : (cs : List Cache) → Each IsCache cs → Each IsCutLaid (all_laid cs)
each_cut_laid cs h = each_flat_map IsCutLaid laid_in cs (each_weaker IsCache (λ c. Each IsCutLaid (laid_in c)) cut_laid cs h)

mapped_laid : (order : ℕ) (m : Machine) (place : ℕ) → is_mapped order m place ≡ mapped_by order m.slots (all_laid m.caches) place
mapped_laid order m place = ap (λ b. (list_any (λ v. eqb v (slot_of order place)) m.slots && not b) || list_any (in_cache place) m.caches) (in_slab_laid m place)
    ∙ ap (λ b. (list_any (λ v. eqb v (slot_of order place)) m.slots && not (list_any (in_laid place) (all_laid m.caches))) || b) (in_cache_laid place m.caches)

pub taken_laid : (m : Machine) → taken_blocks m ≡ m.blocks ++ map laid_block (all_laid m.caches)
unfolding taken_blocks
taken_laid m = ap (λ bs. m.blocks ++ bs) (blocks_laid m.caches)

pub laid_out : {limit : ℕ} (order : ℕ) (m : Machine) → IsWellFormed limit order m → IsLaidOut order m.slots m.blocks (all_laid m.caches) m.bytes
laid_out order m w =
    let slabs : List Block = map laid_block (all_laid m.caches) in
    let placed : Each (IsPlaced order m) (m.blocks ++ slabs) = subst (λ bs. Each (IsPlaced order m) bs) (taken_laid m) w.placed in
    let apart : AreApart m.blocks × AreApart slabs × Across m.blocks slabs = apart_parts m.blocks slabs (subst AreApart (taken_laid m) w.apart) in
    record {
      placed_blocks = each_left (IsPlaced order m) m.blocks slabs placed;
      placed_slabs = each_unmap (IsPlaced order m) laid_block (all_laid m.caches) (each_right (IsPlaced order m) m.blocks slabs placed);
      apart_blocks = apart.0;
      apart_slabs = apart.1;
      across = apart.2;
      cut = each_cut_laid m.caches w.caches;
      mapped = λ place. w.mapped place ∙ mapped_laid order m place;
    }

-- the number of the cache is below the limit
abbrev pub Numbered : ℕ → Cache → Type 0
Numbered limit c = c.number < limit

pub well_formed : {limit : ℕ} (order : ℕ) (m : Machine) → RisesFrom 0 m.slots → RisesFrom 0 (map (λ b. b.first) m.blocks) → RisesFrom 0 (map (λ c. c.number) m.caches) → Each (Numbered limit) m.caches → Each IsCache m.caches
    → IsLaidOut order m.slots m.blocks (all_laid m.caches) m.bytes → IsWellFormed limit order m
well_formed order m slots blocks caches numbered each l =
    let slabs : List Block = map laid_block (all_laid m.caches) in
    record {
      slots_rise = slots;
      blocks_rise = blocks;
      caches_rise = caches;
      numbered = numbered;
      caches = each;
      placed = subst (λ bs. Each (IsPlaced order m) bs) (sym (taken_laid m)) (each_append (IsPlaced order m) m.blocks slabs l.placed_blocks (each_map (IsPlaced order m) laid_block (all_laid m.caches) l.placed_slabs));
      apart = subst AreApart (sym (taken_laid m)) (apart_append m.blocks slabs l.apart_blocks l.apart_slabs l.across);
      mapped = λ place. l.mapped place ∙ sym (mapped_laid order m place);
    }
