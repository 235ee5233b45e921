use Rattle.std.proofs.Common.{◌≡◌, map, take}
use Rattle.std.specs.String.{string_bytes}
use Rattle.command_line.proofs.process.texts_of.Given as goal

-- the texts pushed so far are the bytes of the words read so far
abbrev pub invariant-loop-word : goal.invariant-loop-word
invariant-loop-word l = map (λ text. text.now) l.texts.items ≡ map (λ word. string_bytes word) (take l.word-index l.words)
