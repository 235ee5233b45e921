-- Rows that are read from a text have this text, and the text of rows is read as these rows.
use Rattle.std.proofs.Common.{◌≡◌, ℕ, zero, suc, ◌+◌, ◌^◌, ◌<◌, ◌≤◌, Bool, true, false, cond, List, [], ◌∷◌, ◌++◌, length, take, drop, get_or, Option, Some, None, refl, sym, ◌∙◌, ap, arith, append_assoc, take-append-drop, take_at, drop_at}
use Rattle.std.proofs.Math.Seq.{drop-nil}
use Rattle.std.specs.Prelude.{codes, nat_lt, ◌==◌, ◌&&◌}
use Rattle.std.specs.List.{AllByRecursion}
use Rattle.std.specs.Str.{bytes_eq}
use Rattle.std.proofs.lemmas.Option.{cond_some}
use Rattle.std.proofs.lemmas.Slice.Eq.{bytes_eq-Decides}
use Rattle.model_core.specs.declared.owner.Owner.{Owner}
use Rattle.model_core.specs.declared.report.OrderRow.{OrderRow}
use Rattle.model_core.specs.declared.report.CacheRow.{CacheRow}
use Rattle.trace_check.specs.Ranges.{OwnerFits, OrderFits, CacheFits}
use Rattle.trace_check.specs.Forms.{◌>>=◌, mark_at, form_at}
use Rattle.trace_check.specs.Replies.{fit_tenant, ◌or_else◌}
use Rattle.trace_check.specs.Tables.{after_front, then_rows, rows_from, order_at, cache_row_at, unowned_at, owned_at, owner_of, owner_at}
use Rattle.trace_check.proofs.FormLemmas.{bind_some, same_byte, itself, form_text, form_takes, form_again}
use Rattle.trace_check.proofs.KindLemmas.{text_takes, kind_again, either, if_same, two, three, five, small_one, small_more, below}

-- the text of these rows, with indices from `index` on; each row follows the front
abbrev pub shown : {A : Type 0} → (ℕ → A → List ℕ) → List ℕ → ℕ → List A → List ℕ
shown show front index [] = []
shown show front index (row ∷ rows) = (front ++ show index row) ++ shown show front (index + 1) rows

-- ---- the front of a row

front_takes : (front text rest : List ℕ) → after_front front text ≡ Some rest → text ≡ front ++ rest
unfolding after_front
front_takes front text rest e =
    let (test, is) = cond_some (bytes_eq (take (length front) text) front) (drop (length front) text) rest e in
    sym (take-append-drop (length front) text) ∙ (λ i. (bytes_eq-Decides (take (length front) text) front).0 test i ++ is i)

pub front_again : (front rest : List ℕ) → after_front front (front ++ rest) ≡ Some rest
unfolding after_front
front_again front rest =
    ap (λ t. cond (bytes_eq t front) (Some (drop (length front) (front ++ rest))) None) (take_at front rest (length front) refl)
    ∙ ap (λ test. cond test (Some (drop (length front) (front ++ rest))) None) ((bytes_eq-Decides front front).1 refl)
    ∙ ap (λ t. Some t) (drop_at front rest (length front) refl)

-- no row is found in the empty text, if `next` finds nothing in it
pub nothing_again : {A : Type 0} (front : List ℕ) (next : List ℕ → Option A) → next [] ≡ None → (after_front front [] >>= next) ≡ None
unfolding after_front
nothing_again front next none = step (bytes_eq (take (length front) []) front) where
  step : (test : Bool) → (cond test (Some (drop (length front) [])) None >>= next) ≡ None
  step true = ap next (drop-nil (length front)) ∙ none
  step false = refl

-- ---- rows

module _ {A : Type 0} (row_at : ℕ → List ℕ → Option (A × List ℕ)) (show : ℕ → A → List ℕ) (front : List ℕ) where
  one_row : (index : ℕ) (text : List ℕ) (found : Option (A × List ℕ)) (more : List ℕ → List A × List ℕ)
      → ((row : A) (rest : List ℕ) → found ≡ Some (row, rest) → text ≡ (front ++ show index row) ++ rest)
      → ((rest : List ℕ) → rest ≡ shown show front (index + 1) (more rest).0 ++ (more rest).1)
      → text ≡ shown show front index (then_rows found text more).0 ++ (then_rows found text more).1
  one_row index text None more takes others = refl
  one_row index text (Some (row, rest)) more takes others =
      takes row rest refl
      ∙ ap (λ t. (front ++ show index row) ++ t) (others rest)
      ∙ sym (append_assoc (front ++ show index row) (shown show front (index + 1) (more rest).0) (more rest).1)

  pub rows_take : ((index : ℕ) (text : List ℕ) (row : A) (rest : List ℕ) → row_at index text ≡ Some (row, rest) → text ≡ show index row ++ rest)
      → (most index : ℕ) (text : List ℕ)
      → text ≡ shown show front index (rows_from row_at front most index text).0 ++ (rows_from row_at front most index text).1
  unfolding rows_from
  rows_take takes zero index text = refl
  rows_take takes (suc most) index text =
      one_row index text (after_front front text >>= row_at index) (λ rest. rows_from row_at front most (index + 1) rest)
      (λ row rest found.
      let (line, line_is, next) = bind_some (after_front front text) (row_at index) (row, rest) found in
      front_takes front text line line_is ∙ ap (λ t. front ++ t) (takes index line row rest next) ∙ sym (append_assoc front (show index row) rest))
      (λ rest. rows_take takes most (index + 1) rest)

  abbrev row_before : A → List A × List ℕ → List A × List ℕ
  row_before row found = (row ∷ found.0, found.1)

  pub rows_again : (Fits : A → Type 0)
      → ((index : ℕ) (row : A) (rest : List ℕ) → index < 1000 → Fits row → row_at index (show index row ++ rest) ≡ Some (row, rest))
      → (most index : ℕ) (rows : List A) (rest : List ℕ) → length rows ≤ most → index + most < 1000 → AllByRecursion Fits rows
      → ((index : ℕ) → (after_front front rest >>= row_at index) ≡ None)
      → rows_from row_at front most index (shown show front index rows ++ rest) ≡ (rows, rest)
  unfolding rows_from
  rows_again Fits again zero index [] rest few small fits ends = refl
  rows_again Fits again zero index (row ∷ rows) rest few small fits ends = absurd (omega (arith, few))
  rows_again Fits again (suc most) index [] rest few small fits ends =
      ap (λ found. then_rows found rest (λ rest. rows_from row_at front most (index + 1) rest)) (ends index)
  rows_again Fits again (suc most) index (row ∷ rows) rest few small fits ends =
      let others = shown show front (index + 1) rows ++ rest in
      let line = show index row ++ others in
      let more : List ℕ → List A × List ℕ = λ rest. rows_from row_at front most (index + 1) rest in
      ap (λ text. then_rows (after_front front text >>= row_at index) text more)
      (append_assoc (front ++ show index row) (shown show front (index + 1) rows) rest ∙ append_assoc front (show index row) others)
      ∙ ap (λ found. then_rows found (front ++ line) more) (ap (λ found. found >>= row_at index) (front_again front line) ∙ again index row others (omega (arith, small)) fits.0)
      ∙ ap (row_before row) (rows_again Fits again most (index + 1) rows rest (omega (arith, few)) (omega (arith, small)) fits.1 ends)

-- ---- orders

abbrev pub order_line : ℕ → OrderRow → List ℕ
order_line order row = form_text (codes "order # free # taken #\n") (order ∷ row.free ∷ row.taken ∷ [])

abbrev order_of : List ℕ → OrderRow
order_of ns = record { free = get_or ns 1 0; taken = get_or ns 2 0 }

pub order_takes : (order : ℕ) (text : List ℕ) (row : OrderRow) (rest : List ℕ) → order_at order text ≡ Some (row, rest) → text ≡ order_line order row ++ rest
unfolding order_at
order_takes order text row rest e =
    let form = codes "order # free # taken #\n" in
    text_takes form (λ ns. get_or ns 0 0 == order) order_of (order_line order) (λ ns count same.
    ap (λ n. form_text form (n ∷ get_or ns 1 0 ∷ get_or ns 2 0 ∷ [])) (sym (same_byte (get_or ns 0 0) order same))
    ∙ ap (form_text form) (three ns count)) text row rest e

pub order_again : (order : ℕ) (row : OrderRow) (rest : List ℕ) → order < 1000 → OrderFits row → order_at order (order_line order row ++ rest) ≡ Some (row, rest)
unfolding order_at
order_again order row rest small fits =
    kind_again (codes "order # free # taken #\n") (λ ns. get_or ns 0 0 == order) order_of (order ∷ row.free ∷ row.taken ∷ []) rest refl refl
    (small_more order (row.free ∷ row.taken ∷ []) (omega arith) (small_more row.free (row.taken ∷ []) fits.0 (small_one row.taken fits.1)))
    (itself order)

-- ---- caches

abbrev pub cache_line : ℕ → CacheRow → List ℕ
cache_line index row =
    form_text (codes "cache # full # partial # empty # live #\n") (row.cache ∷ row.full ∷ row.partial ∷ row.empty ∷ row.live ∷ [])

abbrev cache_of : List ℕ → CacheRow
cache_of ns = record { cache = get_or ns 0 0; full = get_or ns 1 0; partial = get_or ns 2 0; empty = get_or ns 3 0; live = get_or ns 4 0 }

pub cache_takes : (index : ℕ) (text : List ℕ) (row : CacheRow) (rest : List ℕ) → cache_row_at index text ≡ Some (row, rest) → text ≡ cache_line index row ++ rest
unfolding cache_row_at
cache_takes index text row rest e =
    let form = codes "cache # full # partial # empty # live #\n" in
    text_takes form (λ ns. nat_lt (get_or ns 0 0) (2 ^ 8)) cache_of (cache_line index) (λ ns count fit. ap (form_text form) (five ns count)) text row rest e

pub cache_again : (index : ℕ) (row : CacheRow) (rest : List ℕ) → index < 1000 → CacheFits row → cache_row_at index (cache_line index row ++ rest) ≡ Some (row, rest)
unfolding cache_row_at
cache_again index row rest small (fits_a, fits_b, fits_c, fits_d, fits_e) =
    kind_again (codes "cache # full # partial # empty # live #\n") (λ ns. nat_lt (get_or ns 0 0) (2 ^ 8)) cache_of
    (row.cache ∷ row.full ∷ row.partial ∷ row.empty ∷ row.live ∷ []) rest refl refl
    (small_more row.cache (row.full ∷ row.partial ∷ row.empty ∷ row.live ∷ []) (omega arith)
    (small_more row.full (row.partial ∷ row.empty ∷ row.live ∷ []) fits_b
    (small_more row.partial (row.empty ∷ row.live ∷ []) fits_c (small_more row.empty (row.live ∷ []) fits_d (small_one row.live fits_e)))))
    (below row.cache (2 ^ 8) fits_a)

-- ---- owners

abbrev pub owner_said : Option Owner → List ℕ
owner_said None = form_text (codes "free\n") []
owner_said (Some owner) = form_text (codes "tenant # slot #\n") (owner.tenant ∷ owner.slot ∷ [])

abbrev pub owner_line : ℕ → Option Owner → List ℕ
owner_line superblock owner = form_text (codes "superblock # ") (superblock ∷ []) ++ owner_said owner

abbrev owned_by : List ℕ → Option Owner
owned_by ns = Some (record { tenant = get_or ns 0 0; slot = get_or ns 1 0 })

owner_said_takes : (text : List ℕ) (owner : Option Owner) (rest : List ℕ) → (unowned_at text or_else owned_at text) ≡ Some (owner, rest)
    → text ≡ owner_said owner ++ rest
unfolding unowned_at owned_at
owner_said_takes text owner rest e =
    let x : Option Owner × List ℕ = (owner, rest) in
    either (unowned_at text) (owned_at text) x e
    (text_takes (codes "free\n") (λ ns. true) (λ ns. None) owner_said (λ ns count fit. refl) text owner rest)
    (text_takes (codes "tenant # slot #\n") fit_tenant owned_by owner_said (λ ns count fit. ap (form_text (codes "tenant # slot #\n")) (two ns count)) text owner rest)

pub owner_takes : (superblock : ℕ) (text : List ℕ) (owner : Option Owner) (rest : List ℕ)
    → owner_at superblock text ≡ Some (owner, rest) → text ≡ owner_line superblock owner ++ rest
unfolding owner_at
owner_takes superblock text owner rest e =
    let (found, found_is, last) = bind_some (form_at (codes "superblock # ") text) (owner_of superblock) (owner, rest) e in
    let (same, said) = if_same (get_or found.0 0 0 == superblock) (unowned_at found.1 or_else owned_at found.1) (owner, rest) last in
    (form_takes (codes "superblock # ") text found.0 found.1 found_is).0
    ∙ (λ i. form_text (codes "superblock # ") (same_byte (get_or found.0 0 0) superblock same i ∷ []) ++ owner_said_takes found.1 owner rest said i)
    ∙ sym (append_assoc (form_text (codes "superblock # ") (superblock ∷ [])) (owner_said owner) rest)

owner_said_again : (owner : Option Owner) (rest : List ℕ) → OwnerFits owner
    → (unowned_at (owner_said owner ++ rest) or_else owned_at (owner_said owner ++ rest)) ≡ Some (owner, rest)
unfolding unowned_at owned_at form_at mark_at
owner_said_again None rest fits = refl
owner_said_again (Some owner) rest fits =
    kind_again (codes "tenant # slot #\n") fit_tenant owned_by (owner.tenant ∷ owner.slot ∷ []) rest refl refl
    (small_more owner.tenant (owner.slot ∷ []) (omega (arith, fits.0)) (small_one owner.slot (omega (arith, fits.1))))
    (λ i. below owner.tenant (2 ^ 8) fits.0 i && below owner.slot (2 ^ 16) fits.1 i)

pub owner_again : (superblock : ℕ) (owner : Option Owner) (rest : List ℕ) → superblock < 1000 → OwnerFits owner
    → owner_at superblock (owner_line superblock owner ++ rest) ≡ Some (owner, rest)
unfolding owner_at
owner_again superblock owner rest small fits =
    let form = codes "superblock # " in
    let label = form_text form (superblock ∷ []) in
    ap (λ t. form_at form t >>= owner_of superblock) (append_assoc label (owner_said owner) rest)
    ∙ ap (λ found. found >>= owner_of superblock)
    (form_again form (superblock ∷ []) (owner_said owner ++ rest) refl refl (small_one superblock (omega arith)))
    ∙ ap (λ test. cond test (unowned_at (owner_said owner ++ rest) or_else owned_at (owner_said owner ++ rest)) None) (itself superblock)
    ∙ owner_said_again owner rest fits
