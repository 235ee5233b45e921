use Rattle.std.proofs.Common.{◌-◌, ◌≡◌, ◌++◌, take, length, sym, ap, ◌∙◌, arith}
use Rattle.replay_core.proofs.PendingLemmas.{on_ok, holds_fitting, holds_overflowing}
use Rattle.replay_core.proofs.pending.Pending.add.Goals as goal

pub returns-then-bytes-free : goal.returns-then-bytes-free
returns-then-bytes-free c line holds =
    let taken = on_ok c.try_extend_from_slice-taken.result (sym c.is_ok.ensures.value ∙ c.if-prove.false) c.try_extend_from_slice-taken.ensures.ok in
    let facts = holds_fitting line c.args.bytes.now (omega (arith, ap length holds.front, c.if-bytes-free.true, c.capacity.ensures, c.len.ensures.value)) in
    record { front = taken ∙ ap (λ xs. xs ++ c.args.bytes.now) holds.front ∙ facts.0; longer = holds.longer ∙ facts.1 }

pub returns-else-bytes-free : goal.returns-else-bytes-free
returns-else-bytes-free c line holds =
    let taken = on_ok c.try_extend_from_slice-taken-else-bytes-free.result (sym c.is_ok-else-bytes-free.ensures.value ∙ c.if-prove-2.false) c.try_extend_from_slice-taken-else-bytes-free.ensures.ok in
    let facts = holds_overflowing line c.args.bytes.now (omega (arith, ap length holds.front, c.if-bytes-free.false, c.capacity.ensures, c.len.ensures.value)) in
    let free : c.capacity.result - c.len.result ≡ 256 - length (take 256 line) = omega (arith, ap length holds.front, c.capacity.ensures, c.len.ensures.value) in
    record {
      front = taken ∙ ap (λ xs. xs ++ take (c.capacity.result - c.len.result) c.args.bytes.now) holds.front
          ∙ ap (λ n. take 256 line ++ take n c.args.bytes.now) free ∙ facts.0;
      longer = facts.1;
    }
