-- The search for the first wrong byte stops at the first byte that is wrong.
use Rattle.std.proofs.Common.{◌≡◌, ℕ, ◌+◌, ◌<◌, get_or, drop, List, ◌∷◌, length, Some, None, sym, ap, ◌∙◌}
use Rattle.std.specs.Option.{option_map_or}
use Rattle.std.proofs.lemmas.List.{at_drop_more}
use Rattle.promise_core.specs.Bytes.{Cells, Holder}
use Rattle.promise_core.specs.Holdings.{Holdings}
use Rattle.reply_judge.specs.declared.wrong_bytes.WrongByte.{WrongByte}
use Rattle.reply_judge.specs.WrongBytes.{wrong_at, wrong_from}

module _ (h : Holdings) (cells : Cells) (holder : Holder) (place i byte : ℕ) (bytes : List ℕ) (lt : i < length bytes) (is : byte ≡ get_or bytes i byte) where
  turn : wrong_from h cells holder (place + i) (drop i bytes)
      ≡ option_map_or (λ wrong. Some wrong) (wrong_at h cells holder (place + i) byte) (wrong_from h cells holder ((place + i) + 1) (drop (i + 1) bytes))
  turn = at_drop_more (wrong_from h cells holder (place + i)) bytes i byte lt
      ∙ ap (λ b. wrong_from h cells holder (place + i) (b ∷ drop (i + 1) bytes)) (sym is)

  pub next_wrong : (wrong : WrongByte) → wrong_at h cells holder (place + i) byte ≡ Some wrong
      → wrong_from h cells holder (place + i) (drop i bytes) ≡ Some wrong
  next_wrong wrong found = turn ∙ ap (λ o. option_map_or (λ wrong. Some wrong) o (wrong_from h cells holder ((place + i) + 1) (drop (i + 1) bytes))) found

  pub next_right : wrong_at h cells holder (place + i) byte ≡ None
      → wrong_from h cells holder (place + i) (drop i bytes) ≡ wrong_from h cells holder ((place + i) + 1) (drop (i + 1) bytes)
  next_right none = turn ∙ ap (λ o. option_map_or (λ wrong. Some wrong) o (wrong_from h cells holder ((place + i) + 1) (drop (i + 1) bytes))) none
