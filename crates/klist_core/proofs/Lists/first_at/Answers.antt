use Rattle.std.proofs.Common.{ℕ, List, sym, ◌∙◌, ap, Some, slice_get, arith}
use Rattle.model_core.proofs.Lists.{none_in}
use Rattle.klist_core.specs.Lists.{list_of}
use Rattle.klist_core.proofs.KeyNodePairs.{in_list, listed, list_rises, first_of_rising}
use Rattle.klist_core.proofs.Lists.first_at.Goals as goal

pub returns-in_err-node-clause-head : goal.returns-in_err-node-clause-head
returns-in_err-node-clause-head c =
    let places = c.args.self.now.places in
    let least = rw c.in_err-node.was at c.requires in
    c.from_residual.ensures ∙ sym (ap (λ (qs : List (ℕ × ℕ)). slice_get qs 0) (none_in (list_of places c.args.head) (λ x a. let below = least.is x.1 x.0 (in_list places c.args.head x.0 x.1 a) in omega arith)))

pub returns-clause-head : goal.returns-clause-head
returns-clause-head c =
    let places = c.args.self.now.places in
    let v = rw c.in_ok-node.was at c.requires in
    let k = v.is.0 in
    let least = v.is.1 in
    let same = rw least.here at c.key_of.ensures in
    let rises = list_rises c.args.head 0 places (record { apart = λ i j key. c.laws.ensures.apart i j c.args.head key }) in
    ap (λ (x : ℕ). Some (x, c.in_ok-node.node)) same
    ∙ sym (first_of_rising 0 k c.in_ok-node.node (list_of places c.args.head) rises (listed places c.args.head k c.in_ok-node.node least.here)
    (λ x a. least.least x.1 x.0 (in_list places c.args.head x.0 x.1 a) (omega arith)))
