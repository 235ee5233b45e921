-- The lines that are kept for a tenant have exactly the entries of its own list.
use Rattle.std.proofs.Common.{◌≡◌, ℕ, true, false, cond, List, [], ◌∷◌, ◌++◌, map, filter, refl, ap, sym, ◌∙◌, append_assoc}
use Rattle.std.specs.List.{flat_map}
use Rattle.std.proofs.lemmas.List.{append-nil}
use Rattle.std.proofs.lemmas.List.Elements.{filter-append}
use Rattle.words_core.specs.declared.event.Event.{Event}
use Rattle.words_core.specs.Cutting.{lines_of_trace}
use Rattle.words_core.specs.Grammar.{reading_of}
use Rattle.world_core.specs.PrivateStep.{Entry}
use Rattle.world_core.specs.World.{World, opening_world, world_step, world_after, history}
use Rattle.world_core.specs.OwnList.{own_entries, own_list}
use Rattle.world_core.specs.Output.{event_in, events_of, with_line_feeds}
use Rattle.world_core.specs.Laws.{opening_history}
use Rattle.world_core.proofs.ShownReplies.{with_line_feeds-append}
use Rattle.world_core.proofs.Worlds.{world_both}
use Rattle.own_trace.specs.Kept.{RunLine, run_lines, has_entry, is_own_line, own_lines, own_text}
use Rattle.own_trace.specs.Laws.{KeptAreOwnList}

run_both : (limit order : ℕ) (xs ys : List (List ℕ)) (w : World)
    → run_lines limit order (xs ++ ys) w ≡ run_lines limit order xs w ++ run_lines limit order ys (world_after limit order w (events_of xs))
run_both limit order [] ys w = refl
run_both limit order (x ∷ xs) ys w =
    let next : World = world_after limit order w (event_in (reading_of x)) in
    let here : RunLine = record { line = x; exchanges = history limit order w (event_in (reading_of x)) } in
    ap (λ more. here ∷ more)
    (run_both limit order xs ys next
    ∙ ap (λ v. run_lines limit order xs next ++ run_lines limit order ys v) (sym (world_both limit order (event_in (reading_of x)) (events_of xs) w)))

map_both : (xs ys : List RunLine) → map (λ run. run.line) (xs ++ ys) ≡ map (λ run. run.line) xs ++ map (λ run. run.line) ys
map_both [] ys = refl
map_both (x ∷ xs) ys = ap (λ more. x.line ∷ more) (map_both xs ys)

-- the own text of two lists of lines is the own text of the first, and then the own text of the second, run after the first
pub own_both : (t limit order : ℕ) (xs ys : List (List ℕ)) (w : World)
    → own_text t limit order (xs ++ ys) w ≡ own_text t limit order xs w ++ own_text t limit order ys (world_after limit order w (events_of xs))
own_both t limit order xs ys w =
    let later : World = world_after limit order w (events_of xs) in
    ap (λ runs. with_line_feeds (map (λ run. run.line) (filter (is_own_line t) runs))) (run_both limit order xs ys w)
    ∙ ap (λ runs. with_line_feeds (map (λ run. run.line) runs)) (filter-append (is_own_line t) (run_lines limit order xs w) (run_lines limit order ys later))
    ∙ ap with_line_feeds (map_both (filter (is_own_line t) (run_lines limit order xs w)) (filter (is_own_line t) (run_lines limit order ys later)))
    ∙ with_line_feeds-append (own_lines t limit order xs w) (own_lines t limit order ys later)

-- a line that has no entry in the own list is not kept
pub none_kept : (t limit order : ℕ) (line : List ℕ) (w : World) → has_entry (own_list t (history limit order w (event_in (reading_of line)))) ≡ false
    → own_text t limit order (line ∷ []) w ≡ []
none_kept t limit order line w is = rw is refl

-- a line that has an entry in the own list is kept with an LF
pub line_kept : (t limit order : ℕ) (line : List ℕ) (w : World) → has_entry (own_list t (history limit order w (event_in (reading_of line)))) ≡ true
    → own_text t limit order (line ∷ []) w ≡ line ++ 10 ∷ []
line_kept t limit order line w is = rw is (append-nil (line ++ 10 ∷ []))

-- the own list of two lists of events is the own list of the first, and then the own list of the second, run after the first
pub own_list_both : (t limit order : ℕ) (xs ys : List Event) (w : World)
    → own_list t (history limit order w (xs ++ ys)) ≡ own_list t (history limit order w xs) ++ own_list t (history limit order (world_after limit order w xs) ys)
own_list_both t limit order [] ys w = refl
own_list_both t limit order (event ∷ xs) ys w =
    let entries : List Entry = own_entries t event (world_step limit order event w).reply.body in
    ap (λ more. entries ++ more) (own_list_both t limit order xs ys (world_step limit order event w).world) ∙ sym (append_assoc entries _ _)

-- if a line is kept only when it has entries, the entries of the kept lines are its entries, and then those of the later kept
-- lines
kept_entries : (t : ℕ) (run : RunLine) (more : List RunLine) (entries : List Entry) → own_list t run.exchanges ≡ entries
    → flat_map (λ run. own_list t run.exchanges) (cond (has_entry entries) (run ∷ more) more) ≡ entries ++ flat_map (λ run. own_list t run.exchanges) more
kept_entries t run more [] is = refl
kept_entries t run more (entry ∷ entries) is = ap (λ xs. xs ++ flat_map (λ run. own_list t run.exchanges) more) is

pub kept_from : (limit order t : ℕ) (lines : List (List ℕ)) (w : World)
    → flat_map (λ run. own_list t run.exchanges) (filter (is_own_line t) (run_lines limit order lines w)) ≡ own_list t (history limit order w (events_of lines))
kept_from limit order t [] w = refl
kept_from limit order t (line ∷ lines) w =
    let next : World = world_after limit order w (event_in (reading_of line)) in
    let run : RunLine = record { line = line; exchanges = history limit order w (event_in (reading_of line)) } in
    kept_entries t run (filter (is_own_line t) (run_lines limit order lines next)) (own_list t run.exchanges) refl
    ∙ ap (λ more. own_list t run.exchanges ++ more) (kept_from limit order t lines next)
    ∙ sym (own_list_both t limit order (event_in (reading_of line)) (events_of lines) w)

pub kept_are_own_list : KeptAreOwnList
unfolding opening_history
kept_are_own_list limit order superblocks tenants t trace = kept_from limit order t (lines_of_trace trace) (opening_world superblocks tenants)
