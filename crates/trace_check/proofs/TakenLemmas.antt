-- The first frame that a block shares with a page block in its way.
use Rattle.std.proofs.Common.{◌≡◌, ℕ, ◌+◌, ◌^◌, ◌<◌, true, Option, Some, None, max, arith}
use Rattle.std.specs.Prelude.{find, nat_lt}
use Rattle.std.specs.Option.{option_map_or}
use Rattle.std.proofs.lemmas.Bool.{and_parts, ltb-true}
use Rattle.std.proofs.lemmas.Nat.{pow_pos}
use Rattle.model_core.specs.Blocks.{Block}
use Rattle.model_core.specs.Operations.{overlaps}
use Rattle.model_core.proofs.Lists.{find_in}
use Rattle.words_core.specs.declared.reply.Body.{Body}
use Rattle.words_core.specs.declared.event.Command.{Command}
use Rattle.words_core.specs.declared.event.Event.{Event}
use Rattle.reply_judge.specs.Seen.{Seen}
use Rattle.trace_check.specs.Taken.{IsFirstShared}

shared_first : (a b : Block) → overlaps a b ≡ true → IsFirstShared a b (max b.first a.first)
shared_first a b is =
    let parts = and_parts (nat_lt a.first (b.first + 2 ^ b.order)) (nat_lt b.first (a.first + 2 ^ a.order)) is in
    let left : a.first < b.first + 2 ^ b.order = ltb-true a.first (b.first + 2 ^ b.order) parts.0 in
    let right : b.first < a.first + 2 ^ a.order = ltb-true b.first (a.first + 2 ^ a.order) parts.1 in
    let some : 0 < 2 ^ a.order = pow_pos a.order in
    let some' : 0 < 2 ^ b.order = pow_pos b.order in record {
      one = (omega arith, omega arith);
      other = (omega arith, omega arith);
      first = λ x in_a in_b. omega (arith, in_a.0, in_b.0);
    }

-- the first frame that a block shares with the page block in its way is the larger of the first frames of the two
pub way_first : (b : Block) (tenant : Option Seen) (page : Block)
    → option_map_or (λ y. find (overlaps b) y.has.pages) tenant None ≡ Some page → IsFirstShared b page (max page.first b.first)
way_first b None page is = let clash : ◌≡◌ {A = Option Block} None (Some page) = is in absurd cc
way_first b (Some y) page is = shared_first b page (find_in (overlaps b) page y.has.pages is).1

-- equal `alloc` events have equal orders, and equal `frame` replies have equal frames
pub same_alloc : (t t' k k' : ℕ) → Event.Tenant t (Command.Alloc k) ≡ Event.Tenant t' (Command.Alloc k') → k ≡ k'
same_alloc t t' k k' e = cc

pub same_frame : (f f' : ℕ) → Body.Frame f ≡ Body.Frame f' → f ≡ f'
same_frame f f' e = cc
