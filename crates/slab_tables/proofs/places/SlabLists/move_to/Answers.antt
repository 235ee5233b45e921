use Rattle.std.proofs.Common.{◌≡◌, ℕ, List, Option, Some, None, ap, ◌∙◌}
use Rattle.std.proofs.lemmas.List.{set-set}
use Rattle.klist_core.specs.Places.{Placed, inserted, removed}
use Rattle.slab_tables.proofs.places.SlabLists.move_to.Goals as goal

-- inserting a slab into list h gives the same result whether or not the slab is first removed from its old list
put_anew : (s t : Placed) (h i k : ℕ) → t ≡ removed s i → inserted t h i k ≡ inserted s h i k
put_anew s t h i k e =
    let with_places : List (Option (ℕ × ℕ)) → Placed = λ xs. record { heads = s.heads; places = xs } in
    ap (λ x. inserted x h i k) e ∙ ap with_places (set-set s.places i None (Some (h, k)))

pub returns-then-is_loose : goal.returns-then-is_loose
returns-then-is_loose c =
    c.append.ensures ∙ put_anew c.args.self.now c.self.inside.lists c.args.head c.args.machine_frame c.args.key (c.self.view_is ∙ c.remove.ensures)

pub returns-then-len-lt-SHORT : goal.returns-then-len-lt-SHORT
returns-then-len-lt-SHORT c =
    c.insert.ensures ∙ put_anew c.args.self.now c.self-else-is_loose.inside.lists c.args.head c.args.machine_frame c.args.key (c.self-else-is_loose.view_is ∙ c.remove.ensures)

pub returns-else-len-lt-SHORT : goal.returns-else-len-lt-SHORT
returns-else-len-lt-SHORT c =
    c.note.ensures
    ∙ (c.insert_among.ensures ∙ put_anew c.args.self.now c.remove.new.self c.args.head c.args.machine_frame c.args.key c.remove.ensures)
