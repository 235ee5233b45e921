-- The rows of the table of owners are a line with the counts and then a line for each superblock.
use Rattle.std.proofs.Common.{◌≡◌, ◌<◌, ◌+◌, ℕ, zero, suc, List, [], ◌∷◌, ◌++◌, length, map, get_or, Option, Some, slice_get, refl, sym, ◌∙◌, ap, arith, add-zero}
use Rattle.std.proofs.lemmas.List.{length-map}
use Rattle.arrayvec.specs.ArrayVec.{ArrayVec}
use Rattle.model_core.specs.declared.owner.Owner.{Owner}
use Rattle.words_core.specs.Texts.{addressee_text, owner_text, owner_texts, pool_texts, body_texts, lines_of}
use Rattle.words_core.specs.declared.reply.Body.{Body}
use Rattle.words_core.specs.declared.reply.Body.TheVariants.{Owners}
use Rattle.words_core.specs.declared.reply.Reply.{Reply}

pub length-owner_texts : (front : List ℕ) (first : ℕ) (owners : List (Option Owner)) → length (owner_texts front first owners) ≡ length owners
length-owner_texts front first [] = refl
length-owner_texts front first (owner ∷ owners) = ap suc (length-owner_texts front (first + 1) owners)

row-owner_texts : (front : List ℕ) (first k : ℕ) (owners : List (Option Owner)) (d : Option Owner) → k < length owners
    → slice_get (owner_texts front first owners) k ≡ Some (owner_text front (first + k) (get_or owners k d))
row-owner_texts front first k [] d within = absurd (omega arith)
row-owner_texts front first zero (owner ∷ owners) d within = ap (λ n. Some (owner_text front n owner)) (sym (add-zero first))
row-owner_texts front first (suc k) (owner ∷ owners) d within =
    row-owner_texts front (first + 1) k owners d (omega arith)
    ∙ ap (λ n. Some (owner_text front n (get_or owners k d))) (omega arith)

-- row k + 1 of the table of owners is the line of superblock k
pub row-pool_texts : (front : List ℕ) (owners : List (Option Owner)) (row k : ℕ) (d : Option Owner) → row ≡ suc k → k < length owners
    → slice_get (pool_texts front owners) row ≡ Some (owner_text front k (get_or owners k d))
row-pool_texts front owners row k d row_is within =
    ap (slice_get (pool_texts front owners)) row_is
    ∙ row-owner_texts front 0 k owners d within
    ∙ ap (λ n. Some (owner_text front n (get_or owners k d))) (omega arith)

-- the table of owners has one line for the counts, and one for each superblock
pub length-lines_of : (reply : Reply) (owners : ArrayVec (Option Owner)) → reply.body ≡ Owners owners → 1 + length owners.items ≡ length (lines_of reply)
length-lines_of reply owners is =
    let front = addressee_text reply.addressee in
    let lines = λ (body : Body). map (λ text. text ++ 10 ∷ []) (body_texts front body) in
    let rest = owner_texts front 0 owners.items in
    let counted : 1 + length owners.items ≡ length (lines (Owners owners)) =
    omega (arith, length-map rest (λ text. text ++ 10 ∷ []), length-owner_texts front 0 owners.items) in
    counted ∙ ap (λ body. length (lines body)) (sym is)

pub ruleset table_rows = (length-owner_texts, row-pool_texts, length-lines_of)
