-- The search for a slab in the way stops at the first cache that has one.
use Rattle.std.proofs.Common.{◌≡◌, ℕ, ◌+◌, ◌<◌, get_or, drop, List, ◌∷◌, length, Some, sym, ap, ◌∙◌}
use Rattle.std.specs.Prelude.{find}
use Rattle.std.specs.Option.{option_map_or}
use Rattle.std.proofs.lemmas.List.{at_drop_more}
use Rattle.model_core.specs.Blocks.{Block}
use Rattle.model_core.specs.Operations.{overlaps}
use Rattle.promise_core.specs.Holdings.{KnownCache, slab_around}
use Rattle.reply_judge.specs.declared.faults.BlockFault.{BlockFault}
use Rattle.reply_judge.specs.Faults.{slab_in_way}

pub next_slab : (b : Block) (i place : ℕ) (cs : List KnownCache) (c : KnownCache) → i < length cs → c ≡ get_or cs i c
    → find (λ p. overlaps b (slab_around c p)) c.live ≡ Some place → slab_in_way b (drop i cs) ≡ Some (BlockFault.Slab c.number place)
next_slab b i place cs c lt is found = at_drop_more (slab_in_way b) cs i c lt
    ∙ ap (λ d. slab_in_way b (d ∷ drop (i + 1) cs)) (sym is)
    ∙ ap (λ o. option_map_or (λ place. Some (BlockFault.Slab c.number place)) o (slab_in_way b (drop (i + 1) cs))) found
