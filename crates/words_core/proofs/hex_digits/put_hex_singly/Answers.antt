use Rattle.std.proofs.Common.{take, arith}
use Rattle.words_core.proofs.HexLemmas.{hex_none, hex_more}
use Rattle.words_core.proofs.hex_digits.put_hex_singly.Goals as goal

pub loop-byte-init : goal.loop-byte-init
loop-byte-init c = record {
  text = hex_none (take c.args.at c.args.out.now);
  end = omega arith;
}

pub loop-byte-preserved : goal.loop-byte-preserved
loop-byte-preserved c = record {
  text = hex_more _ _ (take c.args.at c.args.out.now) c.args.bytes.now _ c.loop-byte.byte-index (omega arith)
      c.put_text-end.ensures.text c.loop-byte.invariant.text c.hex_of.ensures;
  end = omega (arith, c.put_text-end.ensures.end, c.loop-byte.invariant.end);
}
