-- Reading the text of a report or of a table of owners gives back that report or table, and a report or table of owners that is
-- read from a text has that text.
use Rattle.std.proofs.Common.{◌≡◌, ℕ, ◌+◌, ◌-◌, ◌^◌, ◌<◌, ◌≤◌, true, cond, List, [], ◌∷◌, ◌++◌, map, length, take, get_or, Option, Some, None, refl, sym, subst, ◌∙◌, ap, arith, append-nil, append_assoc, length-append, take_at}
use Rattle.std.proofs.lemmas.List.Sums.{count_by-le-length}
use Rattle.arrayvec.specs.ArrayVec.{ArrayVec}
use Rattle.std.specs.Prelude.{codes, decimal, nat_lt, ◌==◌, ◌&&◌, count_by, is_none, IfSome}
use Rattle.std.specs.List.{concat, AllByRecursion}
use Rattle.std.proofs.lemmas.Option.{some_pair_parts, same_Some, cond_some}
use Rattle.model_core.specs.declared.owner.Owner.{Owner}
use Rattle.model_core.specs.declared.report.OrderRow.{OrderRow}
use Rattle.model_core.specs.declared.report.CacheRow.{CacheRow}
use Rattle.words_core.specs.Requests.{is_table}
use Rattle.words_core.specs.ReportTexts.{top_text, frames_text, order_texts, cache_text, report_texts}
use Rattle.words_core.specs.Texts.{addressee_text, owner_text, owner_texts, pool_texts, body_texts, text_of}
use Rattle.words_core.specs.declared.report.Report.{Report}
use Rattle.words_core.specs.declared.reply.Addressee.{Addressee}
use Rattle.words_core.specs.declared.reply.Reply.{Reply}
use Rattle.words_core.specs.declared.reply.Body.{Body}
use Rattle.words_core.specs.declared.reply.Body.TheVariants as Say
use Rattle.trace_check.specs.Ranges.{AddresseeFits, OwnerFits, OrderFits, CacheFits, ReportFits}
use Rattle.trace_check.specs.Forms.{◌>>=◌, number_at, mark_at, form_at}
use Rattle.trace_check.specs.Replies.{◌or_else◌, addressee_at, whole}
use Rattle.trace_check.specs.Tables.{after_front, rows_from, order_at, cache_row_at, top_at, no_top_at, some_top_at, report_at, owner_at, pool_at, table_of}
use Rattle.trace_check.proofs.FormLemmas.{bind_some, both, same_byte, itself, form_text, form_takes, form_again}
use Rattle.trace_check.proofs.KindLemmas.{text_takes, kind_again, either, two, three, small_one, small_more, below}
use Rattle.trace_check.proofs.TableSteps.{pool_read, report_is, report_made, with_owners, with_top}
use Rattle.trace_check.proofs.AnswerLemmas.{addressee_takes, addressee_again, alone_of, whole_is, line_is}
use Rattle.trace_check.proofs.RowLemmas.{shown, rows_take, rows_again, front_again, nothing_again, order_line, order_takes, order_again, cache_line, cache_takes, cache_again, owner_said, owner_line, owner_takes, owner_again}

-- ---- the text of rows

abbrev pub with_end : List (List ℕ) → List ℕ
with_end lines = concat (map (λ text. text ++ 10 ∷ []) lines)

caches_text : (front : List ℕ) (index : ℕ) (rows : List CacheRow)
    → with_end (map (λ row. cache_text front row) rows) ≡ shown cache_line front index rows
caches_text front index [] = refl
caches_text front index (row ∷ rows) =
    let first = line_is front (codes "cache " ∷ decimal row.cache ∷ codes " full " ∷ decimal row.full ∷ codes " partial " ∷ decimal row.partial ∷ codes " empty " ∷ decimal row.empty ∷ codes " live " ∷ decimal row.live ∷ []) in
    (λ i. first i ++ caches_text front (index + 1) rows i)

orders_text : (front : List ℕ) (order : ℕ) (rows : List OrderRow) (others : List (List ℕ))
    → with_end (order_texts front order rows ++ others) ≡ shown order_line front order rows ++ with_end others
orders_text front order [] others = refl
orders_text front order (row ∷ rows) others =
    let first = line_is front (codes "order " ∷ decimal order ∷ codes " free " ∷ decimal row.free ∷ codes " taken " ∷ decimal row.taken ∷ []) in
    (λ i. first i ++ orders_text front (order + 1) rows others i)
    ∙ sym (append_assoc (front ++ order_line order row) (shown order_line front (order + 1) rows) (with_end others))

one_owner : (front : List ℕ) (superblock : ℕ) (owner : Option Owner)
    → owner_text front superblock owner ++ 10 ∷ [] ≡ front ++ owner_line superblock owner
one_owner front superblock None =
    append_assoc (front ++ codes "superblock " ++ decimal superblock) (codes " free") (10 ∷ [])
    ∙ append_assoc (front ++ codes "superblock ") (decimal superblock) (codes " free\n")
    ∙ append_assoc front (codes "superblock ") (decimal superblock ++ codes " free\n")
    ∙ ap (λ t. front ++ (codes "superblock " ++ t)) (sym (append_assoc (decimal superblock) (codes " ") (owner_said None)))
one_owner front superblock (Some owner) =
    line_is front (codes "superblock " ∷ decimal superblock ∷ codes " tenant " ∷ decimal owner.tenant ∷ codes " slot " ∷ decimal owner.slot ∷ [])
    ∙ ap (λ t. front ++ (codes "superblock " ++ t)) (sym (append_assoc (decimal superblock) (codes " ") (owner_said (Some owner))))

owners_text : (front : List ℕ) (superblock : ℕ) (owners : List (Option Owner))
    → with_end (owner_texts front superblock owners) ≡ shown owner_line front superblock owners
owners_text front superblock [] = refl
owners_text front superblock (owner ∷ owners) =
    (λ i. one_owner front superblock owner i ++ owners_text front (superblock + 1) owners i)

-- ---- the first line of a report

unfoldable pub top_line : Option ℕ → ℕ → List ℕ
top_line None split = form_text (codes "none split #\n") (split ∷ [])
top_line (Some top) split = form_text (codes "# split #\n") (top ∷ split ∷ [])

abbrev pub head_line : Report → List ℕ
head_line report = form_text (codes "frames # live # free # top ") (report.frames ∷ report.live ∷ report.free ∷ []) ++ top_line report.top report.split

top_is : (top : Option ℕ) (split : ℕ) → top_text top ++ (codes " split " ++ (decimal split ++ 10 ∷ [])) ≡ top_line top split
unfolding top_line
top_is None split = refl
top_is (Some top) split = refl

grouped : (a m b n c o d t : List ℕ) → (a ++ (m ++ (b ++ (n ++ (c ++ (o ++ d)))))) ++ t ≡ a ++ (m ++ (b ++ (n ++ (c ++ (o ++ (d ++ t))))))
grouped a m b n c o d t =
    append_assoc a (m ++ (b ++ (n ++ (c ++ (o ++ d))))) t
    ∙ ap (λ x. a ++ x) (append_assoc m (b ++ (n ++ (c ++ (o ++ d)))) t
    ∙ ap (λ x. m ++ x) (append_assoc b (n ++ (c ++ (o ++ d))) t
    ∙ ap (λ x. b ++ x) (append_assoc n (c ++ (o ++ d)) t
    ∙ ap (λ x. n ++ x) (append_assoc c (o ++ d) t ∙ ap (λ x. c ++ x) (append_assoc o d t)))))

head_text : (front : List ℕ) (report : Report) → frames_text front report ++ 10 ∷ [] ≡ front ++ head_line report
head_text front report =
    let f = decimal report.frames in
    let l = decimal report.live in
    let r = decimal report.free in
    line_is front (codes "frames " ∷ f ∷ codes " live " ∷ l ∷ codes " free " ∷ r ∷ codes " top " ∷ top_text report.top ∷ codes " split " ∷ decimal report.split ∷ [])
    ∙ ap (λ t. front ++ (codes "frames " ++ (f ++ (codes " live " ++ (l ++ (codes " free " ++ (r ++ (codes " top " ++ t)))))))) (top_is report.top report.split)
    ∙ ap (λ t. front ++ t) (sym (grouped (codes "frames ") f (codes " live ") l (codes " free ") r (codes " top ") (top_line report.top report.split)))

-- the lines of a report; the front of the first line is left out
abbrev pub report_lines : List ℕ → Report → List ℕ
report_lines front report =
    head_line report ++ (shown order_line front 0 report.orders.items ++ shown cache_line front 0 report.caches.items)

pub report_text : (front : List ℕ) (report : Report) → with_end (report_texts front report) ≡ front ++ report_lines front report
report_text front report =
    let caches = map (λ row. cache_text front row) report.caches.items in
    (λ i. head_text front report i
    ++ (orders_text front 0 report.orders.items caches ∙ ap (λ t. shown order_line front 0 report.orders.items ++ t) (caches_text front 0 report.caches.items)) i)
    ∙ append_assoc front (head_line report) (shown order_line front 0 report.orders.items ++ shown cache_line front 0 report.caches.items)

-- ---- a report

abbrev some_top : List ℕ → Option ℕ × ℕ
some_top ns = (Some (get_or ns 0 0), get_or ns 1 0)

abbrev no_top : List ℕ → Option ℕ × ℕ
no_top ns = (None, get_or ns 0 0)

top_takes : (text : List ℕ) (top : Option ℕ × ℕ) (rest : List ℕ) → some_top_at text ≡ Some (top, rest) → text ≡ top_line top.0 top.1 ++ rest
unfolding some_top_at top_at no_top_at top_line
top_takes text top rest e =
    let x : (Option ℕ × ℕ) × List ℕ = (top, rest) in
    let spell : Option ℕ × ℕ → List ℕ = λ top. top_line top.0 top.1 in
    either (top_at text) (no_top_at text) x e
    (text_takes (codes "# split #\n") (λ ns. nat_lt (get_or ns 0 0) (2 ^ 8)) some_top spell (λ ns count fit. ap (form_text (codes "# split #\n")) (two ns count)) text top rest)
    (text_takes (codes "none split #\n") (λ ns. true) no_top spell (λ ns count fit. refl) text top rest)

top_again : (top : Option ℕ) (split : ℕ) (rest : List ℕ) → IfSome top (λ order. order < 2 ^ 8) → split < 2 ^ 32
    → some_top_at (top_line top split ++ rest) ≡ Some ((top, split), rest)
unfolding some_top_at top_at no_top_at top_line form_at mark_at number_at
top_again None split rest fits small =
    kind_again (codes "none split #\n") (λ ns. true) no_top (split ∷ []) rest refl refl (small_one split small) refl
top_again (Some top) split rest fits small =
    ap (λ found. found or_else no_top_at (top_line (Some top) split ++ rest))
    (kind_again (codes "# split #\n") (λ ns. nat_lt (get_or ns 0 0) (2 ^ 8)) some_top (top ∷ split ∷ []) rest refl refl
    (small_more top (split ∷ []) (omega (arith, fits)) (small_one split small)) (below top (2 ^ 8) fits))

abbrev after_head : List ℕ → List ℕ × List ℕ → Option (Body × List ℕ)
after_head front head = some_top_at head.1 >>= with_top front head.0

-- the front followed by the text is the text of this table followed by `rest`
abbrev Takes : List ℕ → List ℕ → Body → List ℕ → Type 0
Takes front text body rest = (front ++ text ≡ with_end (body_texts front body) ++ rest) × (is_table body ≡ true)

report_takes : (front text : List ℕ) (body : Body) (rest : List ℕ) → report_at front text ≡ Some (body, rest) → Takes front text body rest
unfolding report_at
report_takes front text body rest e =
    let (head, head_is, next) = bind_some (form_at (codes "frames # live # free # top ") text) (after_head front) (body, rest) e in
    let (top, top_is, last) = bind_some (some_top_at head.1) (with_top front head.0) (body, rest) next in
    let orders = rows_from order_at front 11 0 top.1 in
    let caches = rows_from cache_row_at front 32 0 orders.1 in
    let report = report_made head.0 top.0.0 top.0.1 orders.0 caches.0 in
    let (body_is, rest_is) = some_pair_parts (Say.Report report) body caches.1 rest last in
    let (text_is, count) = form_takes (codes "frames # live # free # top ") text head.0 head.1 head_is in
    let label = form_text (codes "frames # live # free # top ") (report.frames ∷ report.live ∷ report.free ∷ []) in
    let order_lines = shown order_line front 0 orders.0 in
    let cache_lines = shown cache_line front 0 caches.0 in
    let parts : text ≡ label ++ (top_line top.0.0 top.0.1 ++ (order_lines ++ (cache_lines ++ caches.1))) =
    text_is
    ∙ (λ i. form_text (codes "frames # live # free # top ") (sym (three head.0 count) i)
    ++ (top_takes head.1 top.0 top.1 top_is
    ∙ ap (λ t. top_line top.0.0 top.0.1 ++ t)
    (rows_take order_at order_line front order_takes 11 0 top.1
    ∙ ap (λ t. order_lines ++ t) (rows_take cache_row_at cache_line front cache_takes 32 0 orders.1))) i) in
    let taken : front ++ text ≡ with_end (body_texts front body) ++ rest =
    ap (λ t. front ++ t)
    (parts
    ∙ sym (append_assoc label (top_line top.0.0 top.0.1) (order_lines ++ (cache_lines ++ caches.1)))
    ∙ ap (λ t. head_line report ++ t) (sym (append_assoc order_lines cache_lines caches.1))
    ∙ sym (append_assoc (head_line report) (order_lines ++ cache_lines) caches.1))
    ∙ sym (append_assoc front (report_lines front report) caches.1)
    ∙ ap (λ t. t ++ caches.1) (sym (report_text front report))
    ∙ (λ i. with_end (body_texts front (body_is i)) ++ rest_is i) in
    (taken, subst (λ (body : Body). is_table body ≡ true) body_is refl)

-- no row of an order is read from the text of cache rows, and no row of a cache or of an owner is read from the empty text
no_order : (front : List ℕ) (order : ℕ) (rows : List CacheRow) → (after_front front (shown cache_line front 0 rows ++ []) >>= order_at order) ≡ None
unfolding order_at form_at mark_at
no_order front order [] = nothing_again front (order_at order) refl
no_order front order (row ∷ rows) =
    let others = shown cache_line front 1 rows in
    ap (λ t. after_front front t >>= order_at order)
    (append-nil ((front ++ cache_line 0 row) ++ others) ∙ append_assoc front (cache_line 0 row) others)
    ∙ ap (λ found. found >>= order_at order) (front_again front (cache_line 0 row ++ others))

no_cache : (front : List ℕ) (index : ℕ) → (after_front front [] >>= cache_row_at index) ≡ None
unfolding cache_row_at form_at mark_at
no_cache front index = nothing_again front (cache_row_at index) refl

no_owner : (front : List ℕ) (superblock : ℕ) → (after_front front [] >>= owner_at superblock) ≡ None
unfolding owner_at form_at mark_at
no_owner front superblock = nothing_again front (owner_at superblock) refl

report_again : (front : List ℕ) (report : Report) → ReportFits report → report_at front (report_lines front report) ≡ Some (Say.Report report, [])
report_again front report fits =
    let form = codes "frames # live # free # top " in
    let ns = report.frames ∷ report.live ∷ report.free ∷ [] in
    let order_lines = shown order_line front 0 report.orders.items in
    let cache_lines = shown cache_line front 0 report.caches.items in
    let later = cache_lines ++ [] in
    let line = top_line report.top report.split ++ (order_lines ++ later) in
    ap (report_at front) (append_assoc (form_text form ns) (top_line report.top report.split) (order_lines ++ cache_lines)
    ∙ ap (λ t. form_text form ns ++ (top_line report.top report.split ++ (order_lines ++ t))) (sym (append-nil cache_lines)))
    ∙ report_is front (form_text form ns ++ line) ns line report.top report.split (order_lines ++ later) report.orders.items later report.caches.items []
    (form_again form ns line refl refl
    (small_more report.frames (report.live ∷ report.free ∷ []) fits.frames (small_more report.live (report.free ∷ []) fits.live (small_one report.free fits.free))))
    (top_again report.top report.split (order_lines ++ later) fits.top fits.split)
    (rows_again order_at order_line front OrderFits order_again 11 0 report.orders.items later fits.few_orders (omega arith) fits.orders
    (λ order. no_order front order report.caches.items))
    (rows_again cache_row_at cache_line front CacheFits cache_again 32 0 report.caches.items [] fits.few_caches (omega arith) fits.caches (no_cache front))

-- ---- the table of owners

abbrev pub pool_lines : List ℕ → List (Option Owner) → List ℕ
pool_lines front owners =
    form_text (codes "pool free # of #\n") (count_by is_none owners ∷ length owners ∷ []) ++ shown owner_line front 0 owners

pub pool_text : (front : List ℕ) (owners : List (Option Owner)) → with_end (pool_texts front owners) ≡ front ++ pool_lines front owners
pool_text front owners =
    let counts = form_text (codes "pool free # of #\n") (count_by is_none owners ∷ length owners ∷ []) in
    let first = line_is front (codes "pool free " ∷ decimal (count_by is_none owners) ∷ codes " of " ∷ decimal (length owners) ∷ []) in
    (λ i. first i ++ owners_text front 0 owners i) ∙ append_assoc front counts (shown owner_line front 0 owners)

abbrev after_pool : List ℕ → List ℕ × List ℕ → Option (Body × List ℕ)
after_pool front head = with_owners head.0 (rows_from owner_at front 256 0 head.1)

pool_takes : (front text : List ℕ) (body : Body) (rest : List ℕ) → pool_at front text ≡ Some (body, rest) → Takes front text body rest
unfolding pool_at
pool_takes front text body rest e =
    let form = codes "pool free # of #\n" in
    let (head, head_is, last) = bind_some (form_at form text) (after_pool front) (body, rest) e in
    let owners = rows_from owner_at front 256 0 head.1 in
    let made : Body × List ℕ = (Say.Owners (record { items = owners.0 }), owners.1) in
    let wanted : Body × List ℕ = (body, rest) in
    let (test, is) = cond_some (count_by is_none owners.0 == get_or head.0 0 0 && length owners.0 == get_or head.0 1 0) made wanted last in
    let (free_is, count_is) = both (count_by is_none owners.0 == get_or head.0 0 0) (length owners.0 == get_or head.0 1 0) test in
    let (text_is, count) = form_takes form text head.0 head.1 head_is in
    let taken : front ++ text ≡ with_end (body_texts front body) ++ rest =
    ap (λ t. front ++ t)
    (text_is
    ∙ ap (λ t. t ++ head.1)
    (ap (form_text form) (sym (two head.0 count))
    ∙ (λ i. form_text form (sym (same_byte (count_by is_none owners.0) (get_or head.0 0 0) free_is) i ∷ sym (same_byte (length owners.0) (get_or head.0 1 0) count_is) i ∷ [])))
    ∙ ap (λ t. form_text form (count_by is_none owners.0 ∷ length owners.0 ∷ []) ++ t)
    (rows_take owner_at owner_line front owner_takes 256 0 head.1)
    ∙ sym (append_assoc (form_text form (count_by is_none owners.0 ∷ length owners.0 ∷ [])) (shown owner_line front 0 owners.0) owners.1))
    ∙ sym (append_assoc front (pool_lines front owners.0) owners.1)
    ∙ ap (λ t. t ++ owners.1) (sym (pool_text front owners.0))
    ∙ ap (λ (made : Body × List ℕ). with_end (body_texts front made.0) ++ made.1) is in
    (taken, subst (λ (body : Body). is_table body ≡ true) (ap (λ (made : Body × List ℕ). made.0) is) refl)

pool_again : (front : List ℕ) (owners : List (Option Owner)) → AllByRecursion OwnerFits owners → length owners ≤ 256
    → pool_at front (pool_lines front owners) ≡ Some (Say.Owners (record { items = owners }), [])
pool_again front owners fits few =
    let form = codes "pool free # of #\n" in
    let free = count_by is_none owners in
    let ns = free ∷ length owners ∷ [] in
    let rows = shown owner_line front 0 owners in
    ap (λ t. pool_at front (form_text form ns ++ t)) (sym (append-nil rows))
    ∙ pool_read front (form_text form ns ++ (rows ++ [])) ns (rows ++ []) owners []
    (form_again form ns (rows ++ []) refl refl
    (small_more free (length owners ∷ []) (omega (arith, few, count_by-le-length is_none owners)) (small_one (length owners) (omega (arith, few)))))
    (rows_again owner_at owner_line front OwnerFits owner_again 256 0 owners [] few (omega arith) fits (no_owner front))
    ∙ (λ i. cond (itself free i && itself (length owners) i) (Some (Say.Owners (record { items = owners }), [])) None)

-- ---- the whole text

abbrev body_at : List ℕ → List ℕ → Option (Body × List ℕ)
body_at front text = report_at front text or_else pool_at front text

abbrev table_in : List ℕ → Addressee × List ℕ → Option Reply
table_in text found = body_at (take (length text - length found.1) text) found.1 >>= alone_of found.0

front_is : (front rest : List ℕ) → take (length (front ++ rest) - length rest) (front ++ rest) ≡ front
front_is front rest =
    let size : length (front ++ rest) - length rest ≡ length front = omega (arith, length-append front rest) in
    ap (λ n. take n (front ++ rest)) size ∙ take_at front rest (length front) refl

-- if `table_of` reads a reply from a text, the reply has this text and is a table
pub table_takes : (text : List ℕ) (reply : Reply) → table_of text ≡ Some reply → (text_of reply ≡ text) × (is_table reply.body ≡ true)
unfolding table_of
table_takes text reply e =
    let (found, found_is, next) = bind_some (addressee_at text) (table_in text) reply e in
    let front = take (length text - length found.1) text in
    let (body, body_is, rest_next) = bind_some (body_at front found.1) (alone_of found.0) reply next in
    let (alone, alone_is, last) = bind_some (whole body) (λ alone. Some (record { addressee = found.0; body = alone })) reply rest_next in
    let (same, ends) = whole_is body alone alone_is in
    let made : Reply = record { addressee = found.0; body = alone } in
    let parts : text ≡ addressee_text found.0 ++ found.1 = addressee_takes text found.0 found.1 found_is in
    let is : front ≡ addressee_text found.0 =
    ap (λ t. take (length t - length found.1) t) parts ∙ front_is (addressee_text found.0) found.1 in
    let x : Body × List ℕ = (body.0, body.1) in
    let taken : Takes front found.1 body.0 body.1 =
    either (report_at front found.1) (pool_at front found.1) x body_is (report_takes front found.1 body.0 body.1) (pool_takes front found.1 body.0 body.1) in
    let whole_text : text ≡ text_of made =
    parts
    ∙ ap (λ front. front ++ found.1) (sym is)
    ∙ taken.0
    ∙ (λ i. with_end (body_texts (is i) (same i)) ++ ends i)
    ∙ append-nil (text_of made) in
    subst (λ (reply : Reply). (text_of reply ≡ text) × (is_table reply.body ≡ true)) (same_Some made reply last)
    (sym whole_text, subst (λ (body : Body). is_table body ≡ true) same taken.1)

again : (text : List ℕ) (who : Addressee) (body : Body) (lines : List ℕ) → AddresseeFits who → text ≡ addressee_text who ++ lines
    → body_at (addressee_text who) lines ≡ Some (body, []) → table_of text ≡ Some (record { addressee = who; body = body })
unfolding table_of
again text who body lines fits is read =
    let front = addressee_text who in
    ap table_of is
    ∙ ap (λ found. found >>= table_in (front ++ lines)) (addressee_again who lines fits)
    ∙ ap (λ front. body_at front lines >>= alone_of who) (front_is front lines)
    ∙ ap (λ found. found >>= alone_of who) read

-- the text of a table of owners is not read as a report
no_report : (front : List ℕ) (owners : List (Option Owner)) → report_at front (pool_lines front owners) ≡ None
unfolding report_at form_at mark_at
no_report front owners = refl

pub report_read_again : (text : List ℕ) (who : Addressee) (report : Report) → AddresseeFits who → ReportFits report
    → text_of (record { addressee = who; body = Say.Report report }) ≡ text → table_of text ≡ Some (record { addressee = who; body = Say.Report report })
report_read_again text who report who_fits fits is =
    let front = addressee_text who in
    again text who (Say.Report report) (report_lines front report) who_fits (sym is ∙ report_text front report)
    (ap (λ found. found or_else pool_at front (report_lines front report)) (report_again front report fits))

pub pool_read_again : (text : List ℕ) (who : Addressee) (owners : ArrayVec (Option Owner)) → AddresseeFits who
    → AllByRecursion OwnerFits owners.items → length owners.items ≤ 256
    → text_of (record { addressee = who; body = Say.Owners owners }) ≡ text → table_of text ≡ Some (record { addressee = who; body = Say.Owners owners })
pool_read_again text who owners who_fits fits few is =
    let front = addressee_text who in
    again text who (Say.Owners owners) (pool_lines front owners.items) who_fits (sym is ∙ pool_text front owners.items)
    (ap (λ found. found or_else pool_at front (pool_lines front owners.items)) (no_report front owners.items) ∙ pool_again front owners.items fits few)
