-- The page figures of a report follow from the tenant's figures in the buddy system.
use Rattle.std.proofs.Common.{◌≡◌, ◌≢◌, ℕ, ◌+◌, ◌*◌, ◌%◌, ◌^◌, ◌<◌, ◌≤◌, cond, List, [], ◌∷◌, ◌++◌, Option, Some, None, sym, ap, ◌∙◌, add-one, arith, length, ap₂}
use Rattle.std.specs.Prelude.{IfSome}
use Rattle.std.proofs.lemmas.Bool.{eq-eqb, ne_eqb}
use Rattle.model_core.specs.declared.limits.TheConstants.{WIDE_FRAMES}
use Rattle.model_core.specs.declared.report.OrderRow.{OrderRow}
use Rattle.model_core.specs.Machine.{Machine}
use Rattle.model_core.specs.Reports.{order_row, order_rows, greatest, frames_held, frames_taken, frames_free, greatest_free, free_count, split_share, rows_of_caches}
use Rattle.buddy_core.specs.Content as buddies
use Rattle.machine_changes.specs.Figures.{AreWithin, frames_below, HasFigures}
use Rattle.machine_changes.proofs.FigureOrders.{frames_more}
use Rattle.model_core.specs.declared.report.CacheRow.{CacheRow}
use Rattle.machine_changes.specs.Slots.{HoldTogether}
use Rattle.machine_changes.proofs.FigureBounds.{figures_fit}
use Rattle.machine_changes.proofs.FigureMeets.{figures_meet}
use Rattle.words_core.specs.declared.report.Report.{Report}
use Rattle.world_core.specs.PrivateStep.{figures_of}
use Rattle.kernel_core.specs.Content.{KernelContent, PartsAgree}
use Rattle.kernel_core.specs.Shows.{ShowsMachine}
use Rattle.kernel_core.proofs.CallEffects.{steady}

abbrev row : ℕ → ℕ → OrderRow
row free taken = record { free = free; taken = taken }

-- if `rows` are the rows of the orders below k, they and the row of order k are the rows of the orders below k + 1
pub rows_more : (order k : ℕ) (m : Machine) (rows : List OrderRow) (row : OrderRow) → rows ≡ order_rows order m k → row ≡ order_row order m k
    → rows ++ row ∷ [] ≡ order_rows order m (k + 1)
rows_more order k m rows row e e' =
    ap (λ (l : List OrderRow). l ++ row ∷ []) e ∙ ap (λ (x : OrderRow). order_rows order m k ++ x ∷ []) e' ∙ sym (ap (order_rows order m) (add-one k))

-- if there are blocks of order k, k is the greatest order below k + 1 that has blocks
pub greatest_some : (count : ℕ → ℕ) (k : ℕ) → count k ≢ 0 → Some k ≡ greatest count (k + 1)
greatest_some count k some =
    sym (ap (greatest count) (add-one k) ∙ ap (λ v. cond v (greatest count k) (Some k)) (ne_eqb (count k) 0 some))

-- if there are no blocks of order k, the greatest order below k + 1 that has blocks is the greatest one below k
pub greatest_none : (count : ℕ → ℕ) (k : ℕ) (o : Option ℕ) → o ≡ greatest count k → count k ≡ 0 → o ≡ greatest count (k + 1)
greatest_none count k o e none =
    e ∙ sym (ap (greatest count) (add-one k) ∙ ap (λ v. cond v (greatest count k) (Some k)) (eq-eqb (count k) 0 none))

-- Suppose that `live` is the number of frames in taken blocks of orders below k. Adding the frames in taken blocks of order k
-- gives the number for orders below k + 1. It is at most WIDE_FRAMES, so there is no overflow.
pub live_more : (b : buddies.Content) (t k live taken : ℕ) → AreWithin b t → k < b.top + 1 → live ≡ frames_below (buddies.holding_of t b) k
    → taken ≡ buddies.taken_block_count k (buddies.holding_of t b)
    → (live + taken * 2 ^ k % 4294967296 ≡ frames_below (buddies.holding_of t b) (k + 1)) × (frames_below (buddies.holding_of t b) (k + 1) ≤ WIDE_FRAMES)
live_more b t k live taken w less e e' =
    let h = buddies.holding_of t b in
    let more : frames_below h (k + 1) ≡ frames_below h k + buddies.taken_block_count k h * 2 ^ k = frames_more (λ j. buddies.taken_block_count j h) k in
    let product : taken * 2 ^ k ≡ buddies.taken_block_count k h * 2 ^ k = ap (λ n. n * 2 ^ k) e' in
    let within = w.frames (k + 1) (omega arith) in
    let few = w.held in
    (omega arith, omega arith)

pub row_is : (a c a' c' : ℕ) → a ≡ a' → c ≡ c' → row a c ≡ row a' c'
row_is a c a' c' e e' = ap (λ n. row n c) e ∙ ap (row a') e'

pub below_more : (o : Option ℕ) (k : ℕ) → IfSome o (λ j. j < k) → IfSome o (λ j. j < k + 1)
below_more None k is = is
below_more (Some j) k is = omega arith

-- the figures of an existing tenant in the buddy system are within their limits
pub within : (k : KernelContent) (t : ℕ) → PartsAgree k → HoldTogether k.space k.buddy k.slabs → t < k.tenants → AreWithin k.buddy t
within k t agree holds known = figures_fit k.buddy t holds.buddy (omega (arith, agree.holdings))

-- the tenant's figures in the buddy system are the figures of the machine that the parts show
pub meet : (k : KernelContent) (t : ℕ) (m : Machine) → PartsAgree k → HoldTogether k.space k.buddy k.slabs → t < k.tenants → ShowsMachine k t m → HasFigures k.buddy t m
meet k t m agree holds known shown =
    let inside : t < length k.buddy.tenants = omega (arith, agree.holdings) in
    figures_meet k.space k.buddy k.slabs t m holds.agree (steady k.space k.buddy k.slabs t holds inside) holds.buddy inside shown

-- the number of frames in held slots, as the code computes it in 32 bits, is at least the number of frames in taken blocks
pub live_below : (b : buddies.Content) (t slots order live : ℕ) → AreWithin b t → slots ≡ buddies.held_slots (buddies.holding_of t b) → order ≡ b.top
    → live ≡ frames_below (buddies.holding_of t b) (b.top + 1) → live ≤ slots * 2 ^ order % 4294967296
live_below b t slots order live small e e' live_is =
    let product : slots * 2 ^ order ≡ buddies.held_slots (buddies.holding_of t b) * 2 ^ b.top = ap₂ (λ n k. n * 2 ^ k) e e' in
    let few = small.held in
    let all = small.frames (b.top + 1) (omega arith) in
    omega arith

pub frames_read : (b : buddies.Content) (t : ℕ) (m : Machine) (slots order : ℕ) → HasFigures b t m → AreWithin b t
    → slots ≡ buddies.held_slots (buddies.holding_of t b) → order ≡ b.top → slots * 2 ^ order % 4294967296 ≡ frames_held b.top m
frames_read b t m slots order has within e e' =
    let product : slots * 2 ^ order ≡ buddies.held_slots (buddies.holding_of t b) * 2 ^ b.top = ap₂ (λ n k. n * 2 ^ k) e e' in
    let few = within.held in
    let held = has.held in
    omega arith

-- if no frame is free, the machine's `greatest_free` is `None`
pub top_none : (order : ℕ) (m : Machine) (free : ℕ) (top : Option ℕ) → free ≡ frames_free order m → free ≡ 0 → top ≡ None
    → top ≡ greatest_free order m
top_none order m free top e none is =
    is ∙ sym (ap (λ v. cond v None (greatest (free_count order m) (order + 1))) (eq-eqb (frames_free order m) 0 (sym e ∙ none)))

-- if some frame is free, the machine's `greatest_free` is the greatest order, up to the order of a slot, that has free blocks
pub top_some : (order : ℕ) (m : Machine) (free : ℕ) (top : Option ℕ) → free ≡ frames_free order m → free ≢ 0
    → top ≡ greatest (free_count order m) (order + 1) → top ≡ greatest_free order m
top_some order m free top e some is =
    is ∙ sym (ap (λ v. cond v None (greatest (free_count order m) (order + 1))) (ne_eqb (frames_free order m) 0 (λ none. some (e ∙ none))))

-- if the figures and rows of a report are the machine's, and its split follows from them, the report is the machine's
-- `figures_of`
pub figures_are : (order : ℕ) (m : Machine) (frames live free : ℕ) (top : Option ℕ) (split : ℕ) (orders : List OrderRow) (caches : List CacheRow)
    → frames ≡ frames_held order m → live ≡ frames_taken m → free ≡ frames_free order m → top ≡ greatest_free order m
    → split ≡ split_share free top → orders ≡ order_rows order m (order + 1) → caches ≡ rows_of_caches m
    → ◌≡◌ {A = Report}
    (record { frames = frames; live = live; free = free; top = top; split = split; orders = record { items = orders }; caches = record { items = caches } })
    (figures_of order m)
unfolding figures_of
figures_are order m frames live free top split orders caches frames_is live_is free_is top_is split_is orders_are caches_are =
    let share : split ≡ split_share (frames_free order m) (greatest_free order m) = split_is ∙ ap₂ split_share free_is top_is in
    λ i. record {
      frames = frames_is i;
      live = live_is i;
      free = free_is i;
      top = top_is i;
      split = share i;
      orders = record { items = orders_are i };
      caches = record { items = caches_are i };
    }
