-- A `report` keeps the promises. Its figures agree with what is known. If the last report is still valid, the new report has the
-- same numbers of free blocks and of empty slabs.
use Rattle.std.proofs.Common.{◌≡◌, ℕ, zero, suc, ◌+◌, ◌-◌, ◌*◌, ◌^◌, ◌<◌, ◌≤◌, Bool, true, false, ◌&&◌, eqb, List, [], ◌∷◌, ◌++◌, map, length, Option, Some, None, refl, sym, ap, ◌∙◌, subst, inl, inr, ⊎_elim, arith}
use Rattle.std.specs.Prelude.{if◌then◌else◌, filter, drop, slice_index}
use Rattle.std.specs.List.{list_all, zip, range_with_len}
use Rattle.std.specs.Option.{option_map_or, option_eq}
use Rattle.std.proofs.lemmas.Bool.{and_from, eqb-true, eq-eqb, ne_eqb, le-leb, cases_eq}
use Rattle.std.proofs.lemmas.List.{length-map, map-append}
use Rattle.std.proofs.lemmas.List.FromFn.{length-map-range_with_len, get_or-map-range_with_len}
use Rattle.model_core.specs.declared.report.OrderRow.{OrderRow}
use Rattle.model_core.specs.declared.owner.Owner.{Owner}
use Rattle.model_core.specs.Blocks.{Block}
use Rattle.model_core.specs.Machine.{Slab, Cache, Machine}
use Rattle.model_core.specs.Machine as model
use Rattle.model_core.specs.CacheOperations.{frames_of}
use Rattle.model_core.specs.Reports.{frames_held, frames_taken, frames_free, free_count, order_row, order_rows, greatest, greatest_free, rows_of_caches}
use Rattle.model_core.specs.Reports as reports
use Rattle.model_core.specs.WellFormed.{IsPlaced, IsWellFormed}
use Rattle.model_core.proofs.CountBelow.{bit}
use Rattle.model_core.specs.Elements.{IsIn}
use Rattle.model_core.proofs.Lists.{each_in}
use Rattle.model_core.proofs.ObjectsApart.{in_contains}
use Rattle.words_core.specs.declared.event.Event.TheVariants as On
use Rattle.words_core.specs.declared.event.Command.TheVariants as Command
use Rattle.words_core.specs.declared.report.Report.{Report}
use Rattle.words_core.specs.declared.reply.Addressee.TheVariants as To
use Rattle.words_core.specs.declared.reply.Body.TheVariants as Say
use Rattle.world_core.specs.PrivateStep.{figures_of, report_step, command_step}
use Rattle.promise_core.specs.Holdings.{vacant_blocks}
use Rattle.promise_core.specs.State.{State, state_after}
use Rattle.promise_core.specs.Promises.{frames_of_counts, known_count, due, report, still}
use Rattle.promise_kept.specs.Meets.{cache_as_known, holdings_of, Meets, IsPromiseKept}
use Rattle.promise_kept.proofs.PlaceCells.{all_kept, formed}
use Rattle.promise_kept.proofs.KnownCaches.{seen, seen_is}
use Rattle.promise_kept.proofs.ReportFigures.{available_count, free_frames, free_fits}
use Rattle.promise_kept.proofs.ReportRows.{is_order, filter_length, taken_seen_by_order, rows_seen}

-- Lists with one number for each order

range_last : (f : ℕ → ℕ) (a n : ℕ) → map f (range_with_len a (suc n)) ≡ map f (range_with_len a n) ++ (f (a + n) ∷ [])
range_last f a zero = let e : a ≡ a + zero = omega arith in ap (λ i. f i ∷ []) e
range_last f a (suc n) = let e : a + 1 + n ≡ a + suc n = omega arith in
    ap (λ xs. f a ∷ xs) (range_last f (a + 1) n ∙ ap (λ i. map f (range_with_len (a + 1) n) ++ (f i ∷ [])) e)

rows_told : (order : ℕ) (m : Machine) (g : OrderRow → ℕ) (n : ℕ) → map g (order_rows order m n) ≡ map (λ k. g (order_row order m k)) (range_with_len 0 n)
rows_told order m g zero = refl
rows_told order m g (suc n) = let e : 0 + n ≡ n = omega arith in
    map-append g (order_rows order m n) (order_row order m n ∷ [])
    ∙ (ap (λ xs. xs ++ (g (order_row order m n) ∷ [])) (rows_told order m g n)
    ∙ (ap (λ i. map (λ k. g (order_row order m k)) (range_with_len 0 n) ++ (g (order_row order m i) ∷ [])) (sym e)
    ∙ sym (range_last (λ k. g (order_row order m k)) 0 n)))

range_drop : (f : ℕ → ℕ) (k a n : ℕ) → drop k (map f (range_with_len a n)) ≡ map f (range_with_len (a + k) (n - k))
range_drop f zero a n = let e : a ≡ a + zero = omega arith in let l : n ≡ n - zero = omega arith in
    ap (λ i. map f (range_with_len i n)) e ∙ ap (λ i. map f (range_with_len (a + zero) i)) l
range_drop f (suc k) a zero = let l : 0 ≡ zero - suc k = omega arith in ap (λ i. map f (range_with_len (a + suc k) i)) l
range_drop f (suc k) a (suc n) = let e : a + 1 + k ≡ a + suc k = omega arith in let l : n - k ≡ suc n - suc k = omega arith in
    range_drop f k (a + 1) n ∙ (ap (λ i. map f (range_with_len i (n - k))) e ∙ ap (λ i. map f (range_with_len (a + suc k) i)) l)

all_range : (p : ℕ → Bool) (a n : ℕ) → ((k : ℕ) → a ≤ k → k < a + n → p k ≡ true) → list_all p (range_with_len a n) ≡ true
all_range p a zero all = refl
all_range p a (suc n) all = and_from (p a) (list_all p (range_with_len (a + 1) n)) (all a (omega arith) (omega arith)) (all_range p (a + 1) n (λ k low high. all k (omega (arith, low)) (omega (arith, high))))

-- The number of frames in blocks, added up order by order

no_frames : (a n : ℕ) → frames_of_counts (map (λ k. 0) (range_with_len a n)) ≡ 0
no_frames a zero = refl
no_frames a (suc n) = let rest : frames_of_counts (map (λ k. 0) (range_with_len (a + 1) n)) ≡ 0 = no_frames (a + 1) n in omega (arith, rest)

no_order : (o a n : ℕ) → o < a → frames_of_counts (map (λ k. bit (eqb o k)) (range_with_len a n)) ≡ 0
no_order o a zero lt = refl
no_order o a (suc n) lt =
    let rest : frames_of_counts (map (λ k. bit (eqb o k)) (range_with_len (a + 1) n)) ≡ 0 = no_order o (a + 1) n (omega (arith, lt)) in
    let here : bit (eqb o a) ≡ 0 = ap bit (ne_eqb o a (λ same. absurd (omega (arith, same, lt)))) in omega (arith, rest, here)

one_order : (o a n : ℕ) → a ≤ o → o < a + n → frames_of_counts (map (λ k. bit (eqb o k)) (range_with_len a n)) ≡ 2 ^ (o - a)
one_order o a zero low high = absurd (omega (arith, low, high))
one_order o a (suc n) low high = ⊎_elim
    (λ same. let here : bit (eqb o a) ≡ 1 = ap bit (eq-eqb o a same) in
    let rest : frames_of_counts (map (λ k. bit (eqb o k)) (range_with_len (a + 1) n)) ≡ 0 = no_order o (a + 1) n (omega (arith, same)) in
    let none : o - a ≡ 0 = omega (arith, same) in
    let one : 2 ^ (o - a) ≡ 1 = ap (λ i. 2 ^ i) none in omega (arith, here, rest, one))
    (λ differ. let here : bit (eqb o a) ≡ 0 = ap bit (ne_eqb o a differ) in
    let above : a + 1 ≤ o = above_it differ in
    let rest : frames_of_counts (map (λ k. bit (eqb o k)) (range_with_len (a + 1) n)) ≡ 2 ^ (o - (a + 1)) = one_order o (a + 1) n above (omega (arith, high)) in
    let next : o - a ≡ suc (o - (a + 1)) = omega (arith, above) in
    let twice : 2 ^ (o - a) ≡ 2 * 2 ^ (o - (a + 1)) = ap (λ i. 2 ^ i) next ∙ omega arith in omega (arith, here, rest, twice))
    (cases_eq o a)
  where
    above_it : (o ≡ a → ⊥) → a + 1 ≤ o
    above_it differ = omega (arith, low, differ)

frames_sum : (f g : ℕ → ℕ) (a n : ℕ) → frames_of_counts (map (λ k. f k + g k) (range_with_len a n)) ≡ frames_of_counts (map f (range_with_len a n)) + frames_of_counts (map g (range_with_len a n))
frames_sum f g a zero = refl
frames_sum f g a (suc n) =
    let rest : frames_of_counts (map (λ k. f k + g k) (range_with_len (a + 1) n)) ≡ frames_of_counts (map f (range_with_len (a + 1) n)) + frames_of_counts (map g (range_with_len (a + 1) n)) = frames_sum f g (a + 1) n in
    omega (arith, rest)

map_same : (f g : ℕ → ℕ) (xs : List ℕ) → ((k : ℕ) → f k ≡ g k) → map f xs ≡ map g xs
map_same f g [] same = refl
map_same f g (x ∷ xs) same = ap (λ y. y ∷ map f xs) (same x) ∙ ap (λ ys. g x ∷ ys) (map_same f g xs same)

by_order : (bs : List Block) (n : ℕ) → ((b : Block) → IsIn b bs → b.order < n) → frames_of_counts (map (λ k. length (filter (is_order k) bs)) (range_with_len 0 n)) ≡ frames_of bs
by_order [] n low = no_frames 0 n
by_order (b ∷ bs) n low =
    let rest : frames_of_counts (map (λ k. length (filter (is_order k) bs)) (range_with_len 0 n)) ≡ frames_of bs = by_order bs n (λ c i. low c (inr i)) in
    let here : frames_of_counts (map (λ k. bit (is_order k b)) (range_with_len 0 n)) ≡ 2 ^ (b.order - 0) = one_order b.order 0 n (omega arith) (omega (arith, low b (inl refl))) in
    let power : 2 ^ (b.order - 0) ≡ 2 ^ b.order = ap (λ i. 2 ^ i) (omega arith) in
    let parts : frames_of_counts (map (λ k. length (filter (is_order k) (b ∷ bs))) (range_with_len 0 n)) ≡ frames_of_counts (map (λ k. bit (is_order k b) + length (filter (is_order k) bs)) (range_with_len 0 n)) =
    ap frames_of_counts (map_same (λ k. length (filter (is_order k) (b ∷ bs))) (λ k. bit (is_order k b) + length (filter (is_order k) bs)) (range_with_len 0 n) (λ k. filter_length (is_order k) b bs)) in
    let sum : frames_of_counts (map (λ k. bit (is_order k b) + length (filter (is_order k) bs)) (range_with_len 0 n)) ≡ frames_of_counts (map (λ k. bit (is_order k b)) (range_with_len 0 n)) + frames_of_counts (map (λ k. length (filter (is_order k) bs)) (range_with_len 0 n)) =
    frames_sum (λ k. bit (is_order k b)) (λ k. length (filter (is_order k) bs)) 0 n in
    omega (arith, rest, here, power, parts, sum)

-- The greatest order of a free block

greatest_same : (f g : ℕ → ℕ) (n : ℕ) → ((k : ℕ) → k < n → f k ≡ g k) → greatest f n ≡ greatest g n
greatest_same f g zero same = refl
greatest_same f g (suc k) same = ap (λ i. if eqb i 0 then greatest f k else Some k) (same k (omega arith))
    ∙ ap (λ o. if eqb (g k) 0 then o else Some k) (greatest_same f g k (λ j lt. same j (omega (arith, lt))))

greatest_none : (f : ℕ → ℕ) (n : ℕ) → ((k : ℕ) → k < n → f k ≡ 0) → greatest f n ≡ None
greatest_none f zero none = refl
greatest_none f (suc k) none = ap (λ i. if eqb i 0 then greatest f k else Some k) (none k (omega arith)) ∙ greatest_none f k (λ j lt. none j (omega (arith, lt)))

each_zero : (f : ℕ → ℕ) (a n : ℕ) → frames_of_counts (map f (range_with_len a n)) ≡ 0 → (k : ℕ) → a ≤ k → k < a + n → f k ≡ 0
each_zero f a zero e k low high = absurd (omega (arith, low, high))
each_zero f a (suc n) e k low high = ⊎_elim
    (λ same. let here : f a ≡ 0 = omega (arith, e) in ap f same ∙ here)
    (λ differ. each_zero f (a + 1) n (omega (arith, e)) k (past differ) (omega (arith, high)))
    (cases_eq k a)
  where
    past : (k ≡ a → ⊥) → a + 1 ≤ k
    past differ = omega (arith, low, differ)

same_order : (o : Option ℕ) → option_eq (λ i j. eqb i j) o o ≡ true
same_order None = refl
same_order (Some k) = eq-eqb k k refl

zip_same : {X : Type 0} (f : X → ℕ) (xs ys : List X) → map f xs ≡ map f ys → list_all (λ p. eqb (f p.0) (f p.1)) (zip xs ys) ≡ true
zip_same f [] ys e = refl
zip_same f (x ∷ xs) [] e = refl
zip_same f (x ∷ xs) (y ∷ ys) e = and_from (eqb (f x) (f y)) (list_all (λ p. eqb (f p.0) (f p.1)) (zip xs ys)) (eq-eqb (f x) (f y) cc) (zip_same f xs ys cc)

module _ (limit order : ℕ) (m : Machine) (s : State) (w : IsWellFormed limit order m) (h : Meets order (seen m s) m) where
  abbrev free : List ℕ
  free = map (λ row. row.free) (order_rows order m (order + 1))

  abbrev taken : List ℕ
  taken = map (λ row. row.taken) (order_rows order m (order + 1))

  free_is : free ≡ map (free_count order m) (range_with_len 0 (order + 1))
  free_is = rows_told order m (λ row. row.free) (order + 1)

  taken_is : taken ≡ map (reports.taken_count m) (range_with_len 0 (order + 1))
  taken_is = rows_told order m (λ row. row.taken) (order + 1)

  free_at : (k : ℕ) → k < order + 1 → slice_index free k ≡ free_count order m k
  free_at k lt = ap (λ xs. slice_index xs k) free_is ∙ get_or-map-range_with_len (free_count order m) 0 (order + 1) k k 0 lt (omega arith)

  top_is : greatest_free order m ≡ greatest (slice_index free) (order + 1)
  top_is = go (eqb (frames_free order m) 0) refl
    where
      go : (b : Bool) → eqb (frames_free order m) 0 ≡ b → (if b then None else greatest (free_count order m) (order + 1)) ≡ greatest (slice_index free) (order + 1)
      go true e = let none : frames_of_counts (map (free_count order m) (range_with_len 0 (order + 1))) ≡ 0 = free_frames order m w ∙ eqb-true (frames_free order m) 0 e in
          sym (greatest_none (slice_index free) (order + 1) (λ k lt. free_at k lt ∙ each_zero (free_count order m) 0 (order + 1) none k (omega arith) (omega (arith, lt))))
      go false e = greatest_same (free_count order m) (slice_index free) (order + 1) (λ k lt. sym (free_at k lt))

  taken_frames : frames_taken m ≡ frames_of_counts taken
  taken_frames = sym (ap frames_of_counts taken_is ∙ by_order (model.taken_blocks m) (order + 1) (λ b i. let p : IsPlaced order m b = each_in (IsPlaced order m) b (model.taken_blocks m) w.placed i in
      let le = p.0.0 in omega (arith, le)))

  held_is : frames_taken m + frames_free order m ≡ frames_held order m
  held_is = let all = available_count order m w in omega (arith, all)

  free_drop : (k : ℕ) → k ≤ order → drop k free ≡ map (free_count order m) (range_with_len k (order + 1 - k))
  free_drop k le = ap (drop k) free_is ∙ (range_drop (free_count order m) k 0 (order + 1) ∙ ap (λ i. map (free_count order m) (range_with_len i (order + 1 - k))) (omega arith))

  has_empty_slab : (c : Cache) (x : Slab) → IsIn c m.caches → IsIn x c.slabs → s.may_have_empty c.number ≡ true
  has_empty_slab c x i j = h.may_have_empty c x (in_contains c m.caches i) (in_contains x c.slabs j)

  reported : (t : ℕ) (owners : List (Option Owner)) (states : List State)
      → report (On.Tenant t Command.Report) (Say.Report (figures_of order m)) (record { limit = limit; order = order; owners = owners; states = states }) (seen m s) ≡ true
  unfolding figures_of holdings_of
  reported t owners states =
      and_from _ _ (eq-eqb _ _ (ap length free_is ∙ length-map-range_with_len (free_count order m) 0 (order + 1)))
      (and_from _ _ (eq-eqb _ _ (length-map m.caches reports.row_of_cache ∙ sym (length-map m.caches cache_as_known)))
      (and_from _ _ (eq-eqb (frames_held order m) (frames_held order m) refl)
      (and_from _ _ (eq-eqb (frames_taken m + frames_free order m) (frames_held order m) held_is)
      (and_from _ _ (eq-eqb (frames_free order m) (frames_of_counts free) (sym (ap frames_of_counts free_is ∙ free_frames order m w)))
      (and_from _ _ (eq-eqb (frames_taken m) (frames_of_counts taken) taken_frames)
      (and_from _ _ (ap (option_eq (λ i j. eqb i j) (greatest_free order m)) (sym top_is) ∙ same_order (greatest_free order m))
      (and_from _ _ (eq-eqb _ _ refl)
      (and_from _ _ (rows_seen order m w s.may_have_empty has_empty_slab)
      (and_from _ _ (all_range _ 0 (order + 1) (λ k low high. eq-eqb (slice_index taken k) (known_count (holdings_of m) (rows_of_caches m) k)
      (ap (λ xs. slice_index xs k) taken_is ∙ (get_or-map-range_with_len (reports.taken_count m) 0 (order + 1) k k 0 (omega (arith, high)) (omega arith) ∙ taken_seen_by_order order m w k))))
      (and_from _ _ (all_range _ 0 (order + 1) (λ k low high. le-leb (frames_of_counts (drop k free)) (length (vacant_blocks order (holdings_of m) k))
      (subst (λ xs. frames_of_counts xs ≤ length (vacant_blocks order (holdings_of m) k)) (sym (free_drop k (omega (arith, high)))) (free_fits order m w k (omega (arith, high))))))
      refl))))))))))

  -- if the last report is valid, a new report has the same number of free blocks of each order and of empty slabs of each cache
  stays : (t : ℕ) (owners : List (Option Owner)) (states : List State)
      → still (On.Tenant t Command.Report) (Say.Report (figures_of order m)) (record { limit = limit; order = order; owners = owners; states = states }) (seen m s) ≡ true
  unfolding figures_of
  stays t owners states = go s.last_report refl
    where
      go : (o : Option Report) → s.last_report ≡ o → option_map_or (λ q. list_all (λ p. eqb p.0.free p.1.free) (zip q.orders.items (order_rows order m (order + 1)))
          && list_all (λ p. eqb p.0.empty p.1.empty) (zip q.caches.items (rows_of_caches m))) o true ≡ true
      go None e = refl
      go (Some r) e = and_from (list_all (λ p. eqb p.0.free p.1.free) (zip r.orders.items (order_rows order m (order + 1)))) (list_all (λ p. eqb p.0.empty p.1.empty) (zip r.caches.items (rows_of_caches m)))
          (zip_same (λ row. row.free) r.orders.items (order_rows order m (order + 1)) (h.free_told r e))
          (zip_same (λ row. row.empty) r.caches.items (rows_of_caches m) (h.empty_told r e))

  after : State
  after = record (seen m s) { last_report = Some (figures_of order m) }

  meets : Meets order after m
  unfolding figures_of after
  meets = record {
    has = refl;
    may_have_empty = h.may_have_empty;
    lives = h.lives;
    page_bytes = h.page_bytes;
    object_bytes = h.object_bytes;
    empty_told = λ r e. ap (λ (x : Report). map (λ row. row.empty) x.caches.items) (sym (some e));
    free_told = λ r e. ap (λ (x : Report). map (λ row. row.free) x.orders.items) (sym (some e));
  }
    where
      some : {r : Report} → Some (figures_of order m) ≡ Some r → figures_of order m ≡ r
      some e = cc

  report_seen : IsPromiseKept limit order Command.Report m (seen m s)
  unfolding command_step report_step state_after due after
  report_seen = record {
    allowed = λ t owners states. all_kept (On.Tenant t Command.Report) (record { addressee = To.Tenant t; body = Say.Report (figures_of order m) })
        (record { limit = limit; order = order; owners = owners; states = states }) (seen m s)
        (formed t (Some after) refl) refl refl refl refl refl refl refl refl refl (reported t owners states) (stays t owners states);
    meets = λ t. (after, refl, meets);
  }

pub report_kept : (limit order : ℕ) (m : Machine) (s : State) → IsWellFormed limit order m → Meets order s m → IsPromiseKept limit order Command.Report m s
report_kept limit order m s w h =
    let e : seen m s ≡ s = seen_is m s h.has in
    subst (IsPromiseKept limit order Command.Report m) e (report_seen limit order m s w (subst (λ x. Meets order x m) (sym e) h))
