use Rattle.std.proofs.Common.{◌≡◌, ℕ, ◌+◌, ◌*◌, ◌-◌, ◌≤◌, ◌++◌, length, take, replicate, ap, ◌∙◌, arith, take_all}
use Rattle.std.proofs.lemmas.List.{length-replicate, replicate-append-replicate}
use Rattle.space_core.proofs.banks.zero_fill.Goals as goal

-- if a list has only copies of z and is extended with z to n entries, the new list is n copies of z
grown : (a n z len : ℕ) → a ≤ n → len ≡ length (replicate a z) → take n (replicate a z) ++ replicate (n - len) z ≡ replicate n z
grown a n z len few whole =
    let long = length-replicate a z in
    let size : len ≡ a = whole ∙ long in
    let same : take n (replicate a z) ≡ replicate a z = take_all n (replicate a z) (omega (arith, long, few)) in
    rw (same, size) (replicate-append-replicate a (n - a) z ∙ ap (λ k. replicate k z) (omega (arith, few)))

pub loop-i-preserved : goal.loop-i-preserved
loop-i-preserved c =
    let items : c.resize.new.self.items ≡ replicate {A = ℕ} ((c.loop-i.i + 1) * 1536) 0 =
    rw (c.unwrap.ensures, c.loop-i.invariant.items) at c.resize.ensures.items
    ∙ grown (c.loop-i.i * 1536) ((c.loop-i.i + 1) * 1536) 0 c.loop-i.bytes.len (omega arith) (c.loop-i.bytes.ok.0 ∙ ap length c.loop-i.invariant.items) in
    record { items = items; capacity = omega (arith, c.loop-i.invariant.capacity, c.resize.ensures.capacity) }

pub returns-clause-items : goal.returns-clause-items
returns-clause-items c =
    rw (c.unwrap-2.ensures, c.loop-i.invariant.items) at c.resize-2.ensures.items
    ∙ grown (c.loop-i.i * 1536) c.args.unit 0 c.loop-i.bytes.len (omega (arith, c.loop-i.auto.i-end)) (c.loop-i.bytes.ok.0 ∙ ap length c.loop-i.invariant.items)
