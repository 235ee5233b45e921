use Rattle.std.proofs.Common.{◌≡◌, ◌≤◌, ◌+◌, ◌-◌, take, drop, length, ap, ◌∙◌, arith, rules, length-drop}
use lib.Seq.{paste}
use Rattle.std.proofs.lemmas.List.{with_items_is, places}
use Rattle.std.proofs.lemmas.List.Edits.{take-paste}
use Rattle.std.proofs.lemmas.Slice.{between_is}
use Rattle.streams.specs.Held.{HeldBytes}
use Rattle.streams.proofs.held.Held.remove_front.Goals as goal

pub returns-clause-bytes : goal.returns-clause-bytes
returns-clause-bytes c =
    let buffer = c.as_mut_slice.result.now in
    let len = c.self.inside.len in
    let left = len - c.args.count in
    let same : left ≡ 0 + left = omega arith in
    let within : left ≤ length (drop c.args.count buffer) = omega (arith, length-drop c.args.count buffer) in
    ap (take left) (with_items_is c.self.inside.bytes c.copy_within.new.self (search (rules, places)) ∙ c.copy_within.ensures.after)
    ∙ ap (λ n. take n (paste buffer 0 (drop c.args.count buffer) left)) same
    ∙ take-paste buffer 0 (drop c.args.count buffer) left (omega arith) within
    ∙ between_is buffer c.args.count len
    ∙ ap (λ xs. drop c.args.count (take len xs)) c.as_mut_slice.ensures.value
    ∙ ap (λ (h : HeldBytes). drop c.args.count h.bytes) c.self.view_is
