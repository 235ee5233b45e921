-- Bytes that a drain holds back.
use Rattle.std.specs.Prelude.{ℕ, nat_le, Bool, false, List, [], Option, Some, None}
use Rattle.streams.specs.declared.drain.TheConstants.{TEXT_BYTES}

-- the held bytes, and how many more bytes fit into the buffer
pub record HeldBytes : Type 0 where
  pub bytes : List ℕ
  pub free : ℕ

-- the bytes that a drain has taken and not written yet; a drain without a buffer holds none
abbrev pub held_bytes : Option HeldBytes → List ℕ
held_bytes None = []
held_bytes (Some held) = held.bytes

-- a text of any length up to `TEXT_BYTES` fits into the buffer; nothing fits without a buffer
abbrev pub has_space : Option HeldBytes → Bool
has_space None = false
has_space (Some held) = nat_le TEXT_BYTES held.free
