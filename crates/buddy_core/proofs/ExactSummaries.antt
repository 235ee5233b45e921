-- The summaries stay exact when slots and superblocks change.
use Rattle.std.proofs.Common.{◌≡◌, ◌⊎◌, inl, inr, refl, sym, ◌∙◌, ap, subst, ℕ, zero, suc, ◌∷◌, ◌+◌, ◌^◌, ◌<◌, ◌≤◌, ◌==◌, Bool, false, List, [], Option, Some, None, length, get_or, set, length-set, map, replicate, arith}
use Rattle.std.specs.Int.{bit_at}
use Rattle.std.specs.Prelude.{slice_index}
use Rattle.std.proofs.lemmas.Bool.{cases_eq, cases_lt}
use Rattle.std.proofs.lemmas.List.{get_or-map, get_or-set_same, get_or-set_other, get_or_default, length-map, length-replicate, get_or-replicate, same_lists, set-get_or}
use Rattle.std.proofs.lemmas.List.FromFn.{get_or-map-range_with_len, length-map-range_with_len}
use Rattle.std.proofs.lemmas.Nat.Bits.{bit_at_above, bit_at-lt}
use Rattle.std.proofs.Math.ListN.{get_or-eq_default, get_or-map as get_or-mapped}
use Rattle.model_core.proofs.Lists.{everywhere}
use Rattle.buddy_core.specs.Stored.{StoredSuperblock, StoredTenant, bare_tenant, superblock_of, stored_tenant, superblock_at}
use Rattle.buddy_core.specs.Summary.{is_source, summary_of, AreExact}
use Rattle.buddy_core.specs.Tree.{Shows}
use Rattle.buddy_core.proofs.ContentShown.{blank_of, bare_of}
use Rattle.buddy_core.proofs.TreeOrders.{orders_small}
use Rattle.buddy_core.proofs.TreeSearch.{first_word}

-- a root word has no bit for an order above that of the tree
pub root_within : (ok : ℕ → Bool) (top j : ℕ) (words : List ℕ) → Shows top ok words → bit_at (slice_index words 0) j ≡ 1 → j ≤ top
root_within ok top j words shows bit =
    elim (cases_lt top j) [
      | inl past ↦
          let small = subst (λ n. n < 2 ^ suc top) (sym (first_word ok top words shows)) (orders_small ok top 0) in
          absurd (let none = bit_at_above (slice_index words 0) (suc top) j small (omega arith) in omega arith)
      | inr le ↦ le
    ]

module _ (superblocks : List StoredSuperblock) (tenant : StoredTenant) where
  pub set_is : (j : ℕ) → j < length tenant.free → get_or (summary_of superblocks tenant) j [] ≡ map (is_source superblocks j) tenant.slots
  set_is j lt = get_or-map-range_with_len (λ i. map (is_source superblocks i) tenant.slots) 0 (length tenant.free) j j [] lt (omega arith)

  pub summary_size : length (summary_of superblocks tenant) ≡ length tenant.free
  summary_size = length-map-range_with_len (λ i. map (is_source superblocks i) tenant.slots) 0 (length tenant.free)

  pub set_size : (j : ℕ) → j < length tenant.free → length (get_or (summary_of superblocks tenant) j []) ≡ length tenant.slots
  set_size j lt = ap length (set_is j lt) ∙ length-map tenant.slots (is_source superblocks j)

  pub is_in : (j u : ℕ) → j < length tenant.free → get_or (get_or (summary_of superblocks tenant) j []) u false ≡ is_source superblocks j (superblock_at tenant u)
  is_in j u lt = ap (λ (s : List Bool). get_or s u false) (set_is j lt) ∙ get_or-mapped (is_source superblocks j) tenant.slots u None

  -- the sets have no bit for an order that the tenant has no count of
  not_in : (j u : ℕ) → length tenant.free ≤ j → get_or (get_or (summary_of superblocks tenant) j []) u false ≡ false
  not_in j u past =
      ap (λ (s : List Bool). get_or s u false) (get_or-eq_default (summary_of superblocks tenant) [] (let size = summary_size in omega arith))

  -- sets with these sizes and members are the tenant's summary
  pub summary_is : (sets : List (List Bool)) → length sets ≡ length tenant.free → ((j : ℕ) → j < length tenant.free → length (get_or sets j []) ≡ length tenant.slots)
      → ((j u : ℕ) → j < length tenant.free → u < length tenant.slots → get_or (get_or sets j []) u false ≡ is_source superblocks j (superblock_at tenant u)) → sets ≡ summary_of superblocks tenant
  summary_is sets size sizes members =
      same_lists sets (summary_of superblocks tenant) (size ∙ sym summary_size) (λ j d lt.
      let j_lt : j < length tenant.free = omega (arith, size) in
      get_or_default sets j d [] lt
      ∙ same_lists (get_or sets j []) (map (is_source superblocks j) tenant.slots) (sizes j j_lt ∙ sym (length-map tenant.slots (is_source superblocks j))) (λ u e u_lt.
      let inside : u < length tenant.slots = omega (arith, sizes j j_lt) in
      get_or_default (get_or sets j []) u e false u_lt
      ∙ members j u j_lt inside
      ∙ sym (get_or-map (is_source superblocks j) tenant.slots u None e inside))
      ∙ sym (get_or_default (summary_of superblocks tenant) j d [] (omega (arith, summary_size)) ∙ set_is j j_lt))

  -- if `word` is the root word of the superblock in a slot, it says of which sets the slot is a member
  pub word_in : (slot word : ℕ) → ((j : ℕ) → is_source superblocks j (superblock_at tenant slot) ≡ (bit_at word j == 1)) → ((j : ℕ) → bit_at word j ≡ 1 → j < length tenant.free)
      → (j : ℕ) → get_or (get_or (summary_of superblocks tenant) j []) slot false ≡ (bit_at word j == 1)
  word_in slot word here within j =
      elim (cases_lt j (length tenant.free)) [
        | inl lt ↦ is_in j slot lt ∙ here j
        | inr past ↦ not_in j slot past ∙ sym (ap (λ n. n == 1) (none past))
      ]
    where
      none : length tenant.free ≤ j → bit_at word j ≡ 0
      none past =
          elim (cases_eq (bit_at word j) 1) [
            | inl bit ↦ absurd (let lt = within j bit in omega arith)
            | inr off ↦ (let low = bit_at-lt word j in omega arith)
          ]

-- two tenants have the same summary if they have equally many slots and counts and the superblocks in each slot have free blocks of the same orders
pub summary_same : (superblocks superblocks' : List StoredSuperblock) (tenant tenant' : StoredTenant) → length tenant.slots ≡ length tenant'.slots → length tenant.free ≡ length tenant'.free
    → ((j u : ℕ) → is_source superblocks j (superblock_at tenant u) ≡ is_source superblocks' j (superblock_at tenant' u)) → summary_of superblocks tenant ≡ summary_of superblocks' tenant'
summary_same superblocks superblocks' tenant tenant' slots free same =
    summary_is superblocks' tenant' (summary_of superblocks tenant) (summary_size superblocks tenant ∙ free) (λ j lt. set_size superblocks tenant j (omega arith) ∙ slots) (λ j u lt u_lt.
    is_in superblocks tenant j u (omega arith) ∙ same j u)

-- one tenant's summary changes, and the others stay as they are
pub exact_replaced : (superblocks superblocks' : List StoredSuperblock) (tenants : List StoredTenant) (summaries : List (List (List Bool))) → AreExact superblocks tenants summaries → (t : ℕ) (tenant : StoredTenant) (sets : List (List Bool))
    → t < length tenants → sets ≡ summary_of superblocks' tenant
    → ((v : ℕ) → (v ≡ t → ⊥) → v < length tenants → summary_of superblocks (stored_tenant v tenants) ≡ summary_of superblocks' (stored_tenant v tenants))
    → AreExact superblocks' (set tenants t tenant) (set summaries t sets)
exact_replaced superblocks superblocks' tenants summaries exact t tenant sets listed is others =
    same_lists (set summaries t sets) (map (summary_of superblocks') (set tenants t tenant)) sizes (λ v d lt. go v d (omega (arith, sizes, size, length-set summaries t sets)) (cases_eq v t))
  where
    size : length summaries ≡ length tenants
    size = ap length exact ∙ length-map tenants (summary_of superblocks)

    sizes : length (set summaries t sets) ≡ length (map (summary_of superblocks') (set tenants t tenant))
    sizes = length-set summaries t sets ∙ size ∙ sym (length-map (set tenants t tenant) (summary_of superblocks') ∙ length-set tenants t tenant)

    now : (v : ℕ) (d : List (List Bool)) → v < length tenants → get_or (map (summary_of superblocks') (set tenants t tenant)) v d ≡ summary_of superblocks' (stored_tenant v (set tenants t tenant))
    now v d lt = get_or-map (summary_of superblocks') (set tenants t tenant) v blank_of d (omega (arith, length-set tenants t tenant))

    go : (v : ℕ) (d : List (List Bool)) → v < length tenants → (v ≡ t) ⊎ (v ≡ t → ⊥) → get_or (set summaries t sets) v d ≡ get_or (map (summary_of superblocks') (set tenants t tenant)) v d
    go v d lt (inl e) =
        ap (λ n. get_or (set summaries t sets) n d) e
        ∙ get_or-set_same summaries t sets d (omega (arith, size))
        ∙ is
        ∙ ap (summary_of superblocks') (sym (ap (λ n. stored_tenant n (set tenants t tenant)) e ∙ get_or-set_same tenants t tenant blank_of listed))
        ∙ sym (now v d lt)
    go v d lt (inr ne) =
        get_or-set_other summaries t v sets d ne
        ∙ ap (λ (ss : List (List (List Bool))). get_or ss v d) exact
        ∙ get_or-map (summary_of superblocks) tenants v blank_of d lt
        ∙ others v ne lt
        ∙ ap (summary_of superblocks') (sym (get_or-set_other tenants t v tenant blank_of ne))
        ∙ sym (now v d lt)

pub exact_read : (superblocks : List StoredSuperblock) (tenants : List StoredTenant) (summaries : List (List (List Bool))) → AreExact superblocks tenants summaries → (t : ℕ) → t < length tenants → get_or summaries t [] ≡ summary_of superblocks (stored_tenant t tenants)
exact_read superblocks tenants summaries exact t lt = ap (λ (ss : List (List (List Bool))). get_or ss t []) exact ∙ get_or-map (summary_of superblocks) tenants t blank_of [] lt

-- the sets that are read for a tenant are its summary
pub summary_read : (superblocks : List StoredSuperblock) (tenants : List StoredTenant) (summaries : List (List (List Bool))) → AreExact superblocks tenants summaries → (t : ℕ) → t < length tenants → (sets : List (List Bool)) → sets ≡ get_or summaries t sets
    → sets ≡ summary_of superblocks (stored_tenant t tenants)
summary_read superblocks tenants summaries exact t lt sets read =
    read ∙ ap (λ (ss : List (List (List Bool))). get_or ss t sets) exact ∙ get_or-map (summary_of superblocks) tenants t blank_of sets lt

-- a slot that a tenant has is below the size of each of the sets that are its summary
pub slot_in : (superblocks : List StoredSuperblock) (tenant : StoredTenant) (sets : List (List Bool)) → sets ≡ summary_of superblocks tenant → (slot : ℕ) → slot < length tenant.slots → (j : ℕ) → j < length sets → slot < length (get_or sets j [])
slot_in superblocks tenant sets is slot lt j j_lt =
    let size = set_size superblocks tenant j (omega (arith, ap length is, summary_size superblocks tenant)) in
    omega (arith, ap (λ (ss : List (List Bool)). length (get_or ss j [])) is)

-- Superblock m becomes s. The entry of tenant t becomes `tenant`, with another superblock at most in `slot`. No other slot has m,
-- before or after. `word` is then the root word of the superblock in the slot, or 0 if the slot is empty.
pub record IsNoted (superblocks : List StoredSuperblock) (tenants : List StoredTenant) (t m slot : ℕ) (s : StoredSuperblock) (tenant : StoredTenant) (word : ℕ) : Type 0 where
  pub listed : t < length tenants
  pub slots : length tenant.slots ≡ length (stored_tenant t tenants).slots
  pub free : length tenant.free ≡ length (stored_tenant t tenants).free
  pub others : (v u : ℕ) → (v ≡ t → ⊥) → superblock_at (stored_tenant v tenants) u ≡ Some m → ⊥
  pub same : (u : ℕ) → (u ≡ slot → ⊥) → superblock_at tenant u ≡ superblock_at (stored_tenant t tenants) u
  pub apart : (u : ℕ) → (u ≡ slot → ⊥) → superblock_at tenant u ≡ Some m → ⊥
  pub here : (j : ℕ) → is_source (set superblocks m s) j (superblock_at tenant slot) ≡ (bit_at word j == 1)

-- a slot stays in the set of order j, or out of it, if what is stored for the superblock in the slot stays the same
pub source_stays : (superblocks superblocks' : List StoredSuperblock) (o : Option ℕ) (j : ℕ) → ((i : ℕ) → o ≡ Some i → superblock_of i superblocks' ≡ superblock_of i superblocks) → is_source superblocks j o ≡ is_source superblocks' j o
source_stays superblocks superblocks' None j stays = refl
source_stays superblocks superblocks' (Some i) j stays = ap (λ (z : StoredSuperblock). bit_at (get_or z.tree.words 0 0) j == 1) (sym (stays i refl))

module _ (superblocks : List StoredSuperblock) (m : ℕ) (s : StoredSuperblock) where
  pub source_same : (o : Option ℕ) (j : ℕ) → (o ≡ Some m → ⊥) → is_source superblocks j o ≡ is_source (set superblocks m s) j o
  source_same o j ne = source_stays superblocks (set superblocks m s) o j (λ i at. get_or-set_other superblocks m i s bare_of (λ e. ne (at ∙ ap Some e)))

  pub source_here : (o : Option ℕ) (j word : ℕ) → o ≡ Some m → m < length superblocks → slice_index s.tree.words 0 ≡ word → is_source (set superblocks m s) j o ≡ (bit_at word j == 1)
  source_here o j word at lt root =
      ap (is_source (set superblocks m s) j) at
      ∙ ap (λ (z : StoredSuperblock). bit_at (get_or z.tree.words 0 0) j == 1) (get_or-set_same superblocks m s bare_of lt)
      ∙ ap (λ n. bit_at n j == 1) root

module _ (superblocks : List StoredSuperblock) (tenants : List StoredTenant) (summaries : List (List (List Bool))) (exact : AreExact superblocks tenants summaries) (t m slot : ℕ) (s : StoredSuperblock) (tenant : StoredTenant) (word : ℕ)
    (noted : IsNoted superblocks tenants t m slot s tenant word) (before after : List (List Bool)) (read : before ≡ get_or summaries t before) (size : length after ≡ length before)
    (sets : (j : ℕ) → get_or after j [] ≡ set (get_or before j []) slot (bit_at word j == 1)) where
  was : before ≡ summary_of superblocks (stored_tenant t tenants)
  was = summary_read superblocks tenants summaries exact t noted.listed before read

  after_size : (j : ℕ) → j < length tenant.free → length (get_or after j []) ≡ length tenant.slots
  after_size j lt =
      ap length (sets j)
      ∙ length-set (get_or before j []) slot (bit_at word j == 1)
      ∙ ap (λ (ss : List (List Bool)). length (get_or ss j [])) was
      ∙ set_size superblocks (stored_tenant t tenants) j (omega (arith, noted.free))
      ∙ sym noted.slots

  after_in : (j u : ℕ) → j < length tenant.free → u < length tenant.slots → (u ≡ slot) ⊎ (u ≡ slot → ⊥) → get_or (get_or after j []) u false ≡ is_source (set superblocks m s) j (superblock_at tenant u)
  after_in j u lt u_lt (inl e) =
      ap (λ (x : List Bool). get_or x u false) (sets j)
      ∙ ap (λ n. get_or (set (get_or before j []) slot (bit_at word j == 1)) n false) e
      ∙ get_or-set_same (get_or before j []) slot (bit_at word j == 1) false
      (omega (arith, ap length (sets j), length-set (get_or before j []) slot (bit_at word j == 1), after_size j lt))
      ∙ sym (ap (λ n. is_source (set superblocks m s) j (superblock_at tenant n)) e ∙ noted.here j)
  after_in j u lt u_lt (inr ne) =
      ap (λ (x : List Bool). get_or x u false) (sets j)
      ∙ get_or-set_other (get_or before j []) slot u (bit_at word j == 1) false ne
      ∙ ap (λ (ss : List (List Bool)). get_or (get_or ss j []) u false) was
      ∙ is_in superblocks (stored_tenant t tenants) j u (omega (arith, noted.free))
      ∙ ap (is_source superblocks j) (sym (noted.same u ne))
      ∙ source_same superblocks m s (superblock_at tenant u) j (noted.apart u ne)

  pub exact_noted : AreExact (set superblocks m s) (set tenants t tenant) (set summaries t after)
  exact_noted =
      exact_replaced superblocks (set superblocks m s) tenants summaries exact t tenant after noted.listed
      (summary_is (set superblocks m s) tenant after (size ∙ ap length was ∙ summary_size superblocks (stored_tenant t tenants) ∙ sym noted.free) after_size
      (λ j u lt u_lt. after_in j u lt u_lt (cases_eq u slot)))
      (λ v ne lt.
      summary_same superblocks (set superblocks m s) (stored_tenant v tenants) (stored_tenant v tenants) refl refl (λ j u.
      source_same superblocks m s (superblock_at (stored_tenant v tenants) u) j (noted.others v u ne)))

-- the entry of one tenant changes, and each summary stays as it is
pub exact_kept : (superblocks superblocks' : List StoredSuperblock) (tenants : List StoredTenant) (summaries : List (List (List Bool))) → AreExact superblocks tenants summaries → (t : ℕ) (tenant : StoredTenant) → t < length tenants
    → summary_of superblocks (stored_tenant t tenants) ≡ summary_of superblocks' tenant
    → ((v : ℕ) → (v ≡ t → ⊥) → v < length tenants → summary_of superblocks (stored_tenant v tenants) ≡ summary_of superblocks' (stored_tenant v tenants))
    → AreExact superblocks' (set tenants t tenant) summaries
exact_kept superblocks superblocks' tenants summaries exact t tenant listed mine others =
    sym (ap (set summaries t) (sym (exact_read superblocks tenants summaries exact t listed)) ∙ set-get_or summaries t [])
    ∙ exact_replaced superblocks superblocks' tenants summaries exact t tenant (summary_of superblocks (stored_tenant t tenants)) listed mine others

-- the summaries of tenants that hold nothing are empty sets
pub exact_first : (superblocks : List StoredSuperblock) (top count tenants : ℕ) → AreExact superblocks (replicate tenants (bare_tenant top count)) (replicate tenants (replicate (top + 1) (replicate count false)))
exact_first superblocks top count tenants =
    ap (replicate tenants) (summary_is superblocks (bare_tenant top count) (replicate (top + 1) (replicate count false)) sizes (λ j lt. ap length (set_at j lt) ∙ length-replicate count false ∙ sym (length-replicate {A = Option ℕ} count None)) (λ j u lt u_lt.
    ap (λ (s : List Bool). get_or s u false) (set_at j lt)
    ∙ everywhere false count u
    ∙ sym (ap (is_source superblocks j) (everywhere None count u))))
    ∙ sym (map_replicate (summary_of superblocks) tenants (bare_tenant top count))
  where
    sizes : length (replicate (top + 1) (replicate count false)) ≡ length (replicate {A = ℕ} (top + 1) 0)
    sizes = length-replicate (top + 1) (replicate count false) ∙ sym (length-replicate {A = ℕ} (top + 1) 0)

    set_at : (j : ℕ) → j < length (replicate {A = ℕ} (top + 1) 0) → get_or (replicate (top + 1) (replicate count false)) j [] ≡ replicate count false
    set_at j lt = get_or-replicate (top + 1) j (replicate count false) [] (omega (arith, length-replicate {A = ℕ} (top + 1) 0))

    map_replicate : {A B : Type 0} (f : A → B) (n : ℕ) (a : A) → map f (replicate n a) ≡ replicate n (f a)
    map_replicate f zero a = refl
    map_replicate f (suc n) a = ap (λ xs. f a ∷ xs) (map_replicate f n a)
