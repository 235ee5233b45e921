use Rattle.std.proofs.Common.{◌≡◌, ℕ, ◌+◌, ◌++◌, List, codes, flat_map, ap, sym, ◌∙◌, append_assoc, arith}
use Rattle.std.specs.List.{range_with_len}
use Rattle.framemap.specs.Tables.{free_heading, heading_text}
use Rattle.picture_svg.proofs.JoinedTexts.{as_text, last_exactly, texts_more, then_exactly}
use Rattle.framemap.proofs.figures.write_headings.Goals as goal

pub loop-order-preserved : goal.loop-order-preserved
loop-order-preserved g c =
    let begin : List ℕ = codes "line,tenant,held,taken,most,refused" in
    let order : ℕ = c.loop-order.order-counter in
    as_text (begin ++ flat_map free_heading (range_with_len 0 (order + 1)))
    (then_exactly (g.W.Write.contents c.write.new.self) _ c.loop-order.invariant c.in_ok-write.ensures.bytes)
    (append_assoc begin (flat_map free_heading (range_with_len 0 order)) (free_heading order)
    ∙ ap (λ t. begin ++ t) (sym (texts_more free_heading order)))

pub returns : goal.returns
unfolding heading_text
returns g c =
    let begin : List ℕ = codes "line,tenant,held,taken,most,refused" in
    let all : c.loop-order.order-counter ≡ c.args.orders = omega arith in
    last_exactly (g.W.Write.contents c.write_all-2.new.self) c.write_all-2.result _ (heading_text c.args.orders) c.loop-order.invariant
    c.write_all-2.ensures.bytes
    (ap (λ n. (begin ++ flat_map free_heading (range_with_len 0 n)) ++ codes "\n") all
    ∙ append_assoc begin (flat_map free_heading (range_with_len 0 c.args.orders)) (codes "\n"))
