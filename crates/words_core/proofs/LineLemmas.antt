-- The first six words of a line decide its meaning.
use Rattle.std.proofs.Common.{◌≡◌, ◌<◌, ◌≤◌, ℕ, List, [], ◌∷◌, take, length, slice_index, ◌==◌, if◌then◌else◌, Some, None, Result, Ok, Err, refl, sym, ◌∙◌, ap, arith}
use Rattle.std.proofs.lemmas.Bool.Decides.{nat_tests}
use Rattle.std.specs.Str.Lines.{strip_carriage_return}
use Rattle.words_core.specs.declared.event.LineFault.{LineFault}
use Rattle.words_core.specs.declared.event.LineFault.TheVariants.{Long}
use Rattle.words_core.specs.Commands.{Actor, administrator, tenant, command_rows, event_by}
use Rattle.words_core.specs.Grammar.{◌>>=◌, command_in_words, actor_of, event_of, reading_of_words, reading_within, reading_of}
use Rattle.words_core.specs.Words.{words_of}

asked-take : (actor : Actor) (words : List (List ℕ)) → command_in_words (command_rows actor) (take 5 words) ≡ command_in_words (command_rows actor) words
asked-take actor [] = refl
asked-take administrator (a ∷ []) = refl
asked-take administrator (a ∷ b ∷ []) = refl
asked-take administrator (a ∷ b ∷ c ∷ []) = refl
asked-take administrator (a ∷ b ∷ c ∷ d ∷ []) = refl
asked-take administrator (a ∷ b ∷ c ∷ d ∷ e ∷ more) = refl
asked-take (tenant t) (a ∷ []) = refl
asked-take (tenant t) (a ∷ b ∷ []) = refl
asked-take (tenant t) (a ∷ b ∷ c ∷ []) = refl
asked-take (tenant t) (a ∷ b ∷ c ∷ d ∷ []) = refl
asked-take (tenant t) (a ∷ b ∷ c ∷ d ∷ e ∷ more) = refl

same_after : {A B : Type 0} (r : Result A LineFault) (f g : A → Result B LineFault) → ((a : A) → f a ≡ g a) → (r >>= f) ≡ (r >>= g)
same_after (Ok a) f g same = same a
same_after (Err fault) f g same = refl

event_of-take : (first : List ℕ) (rest : List (List ℕ)) → event_of first (take 5 rest) ≡ event_of first rest
unfolding event_of
event_of-take first rest = same_after (actor_of first) _ _ (λ actor.
    ap (λ asked. asked >>= (λ command. Ok (event_by actor command))) (asked-take actor rest))

-- words after the sixth do not change the meaning of a line
pub judged-take : (words : List (List ℕ)) → reading_of_words (take 6 words) ≡ reading_of_words words
unfolding reading_of_words
judged-take [] = refl
judged-take (first ∷ rest) =
    ap (λ said. if slice_index first 0 == 35 then Ok None else (said >>= (λ event. Ok (Some event)))) (event_of-take first rest)

pub reading_of-long : (line : List ℕ) → 255 < length (strip_carriage_return line) → reading_of line ≡ Err Long
unfolding reading_of
reading_of-long line long = grind (arith, nat_tests)

pub within : (size : ℕ) (words : List (List ℕ)) → size ≤ 255 → reading_within size words ≡ reading_of_words words
within size words short = grind (arith, nat_tests)

pub reading_of-words : (line : List ℕ) (words : List (List ℕ)) → length (strip_carriage_return line) ≤ 255
    → words ≡ take 6 (words_of (strip_carriage_return line)) → reading_of_words words ≡ reading_of line
unfolding reading_of
reading_of-words line words short words_are =
    let bytes = strip_carriage_return line in
    ap reading_of_words words_are ∙ judged-take (words_of bytes) ∙ sym (within (length bytes) (words_of bytes) short)
