-- The number of frames in empty slabs is a multiple of the size of the smallest empty slab. The rows of a report give this
-- number.
use Rattle.std.proofs.Common.{◌≡◌, ℕ, ◌+◌, ◌-◌, ◌*◌, ◌%◌, ◌^◌, ◌≤◌, Bool, true, false, List, [], ◌∷◌, ◌++◌, map, length, refl, sym, ap, ◌∙◌, subst, ◌⊎◌, inl, inr, ⊎_elim, arith}
use Rattle.std.specs.Prelude.{if◌then◌else◌, filter, flat_map, sum_by}
use Rattle.std.specs.List.{zip, AllByRecursion as Each}
use Rattle.std.proofs.Math.Nat.{mul-mod_left}
use Rattle.std.proofs.lemmas.Nat.{pow-add}
use Rattle.std.proofs.lemmas.Bool.{cases_lt}
use Rattle.std.proofs.lemmas.List.Sums.{sum_by-cons}
use Rattle.model_core.specs.declared.report.CacheRow.{CacheRow}
use Rattle.model_core.specs.Blocks.{Block}
use Rattle.model_core.specs.Machine.{Slab, Cache, layout, slab_block}
use Rattle.model_core.specs.Slabs.{is_empty, empty_blocks}
use Rattle.model_core.specs.Reports.{row_of_cache}
use Rattle.model_core.specs.CacheOperations.{frames_of}
use Rattle.model_core.specs.Elements.{IsIn}
use Rattle.model_core.proofs.Lists.{each_append, each_weaker, each_map, each_true, filter_in}
use Rattle.promise_core.specs.Holdings.{KnownCache}
use Rattle.promise_kept.specs.Meets.{cache_as_known}

-- The lowest order of the empty slabs

-- a slab of one of these caches, and its cache; no empty slab of these caches has a lower order than this slab
pub record IsLeast (cs : List Cache) : Type 0 where
  pub cache : Cache
  pub slab : Slab
  pub cache_in : IsIn cache cs
  pub slab_in : IsIn slab cache.slabs
  pub least : Each (λ b. (layout cache).order ≤ b.order) (flat_map empty_blocks cs)

empty_orders : (c : Cache) (n : ℕ) → n ≤ (layout c).order → Each (λ b. n ≤ b.order) (empty_blocks c)
empty_orders c n le = each_map (λ b. n ≤ b.order) (slab_block c) (filter is_empty c.slabs) (each_true (λ s. n ≤ (layout c).order) (λ s. le) (filter is_empty c.slabs))

pub least_order : (cs : List Cache) → (flat_map empty_blocks cs ≡ []) ⊎ IsLeast cs
least_order [] = inl refl
least_order (c ∷ cs) = go (filter is_empty c.slabs) refl (least_order cs)
  where
    lower : IsLeast cs → (s : Slab) → IsIn s c.slabs → IsLeast (c ∷ cs)
    lower l s i = ⊎_elim
        (λ less. record {
          cache = c;
          slab = s;
          cache_in = inl refl;
          slab_in = i;
          least = each_append (λ b. (layout c).order ≤ b.order) (empty_blocks c) (flat_map empty_blocks cs) (empty_orders c (layout c).order (omega arith))
              (each_weaker (λ b. (layout l.cache).order ≤ b.order) (λ b. (layout c).order ≤ b.order) (λ b h. omega (arith, h, less)) (flat_map empty_blocks cs) l.least);
        })
        (λ more. record {
          cache = l.cache;
          slab = l.slab;
          cache_in = inr l.cache_in;
          slab_in = l.slab_in;
          least = each_append (λ b. (layout l.cache).order ≤ b.order) (empty_blocks c) (flat_map empty_blocks cs) (empty_orders c (layout l.cache).order more) l.least;
        })
        (cases_lt (layout c).order (layout l.cache).order)

    go : (ss : List Slab) → filter is_empty c.slabs ≡ ss → (flat_map empty_blocks cs ≡ []) ⊎ IsLeast cs → (empty_blocks c ++ flat_map empty_blocks cs ≡ []) ⊎ IsLeast (c ∷ cs)
    go [] e (inl none) = inl (ap (λ ss. map (slab_block c) ss ++ flat_map empty_blocks cs) e ∙ none)
    go [] e (inr l) = inr (record {
      cache = l.cache;
      slab = l.slab;
      cache_in = inr l.cache_in;
      slab_in = l.slab_in;
      least = subst (λ ss. Each (λ b. (layout l.cache).order ≤ b.order) (map (slab_block c) ss ++ flat_map empty_blocks cs)) (sym e) l.least;
    })
    go (s ∷ ss) e (inl none) = inr (record {
      cache = c;
      slab = s;
      cache_in = inl refl;
      slab_in = (filter_in is_empty s c.slabs (subst (IsIn s) (sym e) (inl refl))).0;
      least = subst (λ bs. Each (λ b. (layout c).order ≤ b.order) (empty_blocks c ++ bs)) (sym none)
          (each_append (λ b. (layout c).order ≤ b.order) (empty_blocks c) [] (empty_orders c (layout c).order (omega arith)) tt);
    })
    go (s ∷ ss) e (inr l) = inr (lower l s (filter_in is_empty s c.slabs (subst (IsIn s) (sym e) (inl refl))).0)

-- the number of frames in blocks of order q or above is a multiple of 2 ^ q
multiple : (q : ℕ) (bs : List Block) → Each (λ b. q ≤ b.order) bs → (n : ℕ) × (frames_of bs ≡ n * 2 ^ q)
multiple q [] h = (0, omega arith)
multiple q (b ∷ bs) (le, h) =
    let rest : (n : ℕ) × (frames_of bs ≡ n * 2 ^ q) = multiple q bs h in
    let size : 2 ^ b.order ≡ 2 ^ (b.order - q) * 2 ^ q = ap (λ n. 2 ^ n) (omega arith) ∙ pow-add 2 (b.order - q) q in
    let sum : (2 ^ (b.order - q) + rest.0) * 2 ^ q ≡ 2 ^ (b.order - q) * 2 ^ q + rest.0 * 2 ^ q = times (2 ^ (b.order - q)) rest.0 (2 ^ q) in
    (2 ^ (b.order - q) + rest.0, omega (arith, size, sum, rest.1))
  where
    times : (a n k : ℕ) → (a + n) * k ≡ a * k + n * k
    times a n k = omega arith

pub frames_divide : (q : ℕ) (bs : List Block) → Each (λ b. q ≤ b.order) bs → frames_of bs % 2 ^ q ≡ 0
frames_divide q bs h = let n : (n : ℕ) × (frames_of bs ≡ n * 2 ^ q) = multiple q bs h in ap (λ k. k % 2 ^ q) n.1 ∙ mul-mod_left n.0 (2 ^ q)

-- The empty slabs in the rows of a report

pub frames_append : (xs ys : List Block) → frames_of (xs ++ ys) ≡ frames_of xs + frames_of ys
frames_append [] ys = omega arith
frames_append (x ∷ xs) ys = let rest : frames_of (xs ++ ys) ≡ frames_of xs + frames_of ys = frames_append xs ys in omega (arith, rest)

frames_map : (c : Cache) (ss : List Slab) → frames_of (map (slab_block c) ss) ≡ length ss * 2 ^ (layout c).order
frames_map c [] = omega arith
frames_map c (s ∷ ss) = let rest : frames_of (map (slab_block c) ss) ≡ length ss * 2 ^ (layout c).order = frames_map c ss in
    let more : (length ss + 1) * 2 ^ (layout c).order ≡ length ss * 2 ^ (layout c).order + 2 ^ (layout c).order = omega arith in omega (arith, rest, more)

-- the blocks of the cache's empty slabs if the number of the cache passes the test, and no blocks otherwise
abbrev pub empty_of : (ℕ → Bool) → Cache → List Block
empty_of test c = if test c.number then empty_blocks c else []

abbrev frames_told : (ℕ → Bool) → KnownCache → CacheRow → ℕ
frames_told test c row = if test c.number then row.empty * 2 ^ c.order else 0

pub told_frames : (test : ℕ → Bool) (cs : List Cache) (rows : List CacheRow) → map (λ row. row.empty) rows ≡ map (λ row. row.empty) (map row_of_cache cs)
    → sum_by (λ p. frames_told test p.0 p.1) (zip (map cache_as_known cs) rows) ≡ frames_of (flat_map (empty_of test) cs)
told_frames test [] rows e = refl
told_frames test (c ∷ cs) [] e = absurd (cc)
told_frames test (c ∷ cs) (row ∷ rows) e =
    let rest : sum_by (λ p. frames_told test p.0 p.1) (zip (map cache_as_known cs) rows) ≡ frames_of (flat_map (empty_of test) cs) = told_frames test cs rows cc in
    let here : row.empty ≡ length (filter is_empty c.slabs) = cc in
    sum_by-cons (λ p. frames_told test p.0 p.1) (cache_as_known c, row) (zip (map cache_as_known cs) rows)
    ∙ (ap (λ n. (if test c.number then n * 2 ^ (layout c).order else 0) + sum_by (λ p. frames_told test p.0 p.1) (zip (map cache_as_known cs) rows)) here
    ∙ (ap (λ n. (if test c.number then length (filter is_empty c.slabs) * 2 ^ (layout c).order else 0) + n) rest
    ∙ (ap (λ n. n + frames_of (flat_map (empty_of test) cs)) (go (test c.number)) ∙ sym (frames_append (empty_of test c) (flat_map (empty_of test) cs)))))
  where
    go : (b : Bool) → (if b then length (filter is_empty c.slabs) * 2 ^ (layout c).order else 0) ≡ frames_of (if b then empty_blocks c else [])
    go true = sym (frames_map c (filter is_empty c.slabs))
    go false = refl
