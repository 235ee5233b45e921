-- Lemmas about the words at the front of a line, and a proof that the two definitions of a line's words agree.
use Rattle.std.proofs.Common.{◌≡◌, ◌<◌, ◌≤◌, ℕ, zero, suc, true, false, List, [], ◌∷◌, ◌++◌, length, map, take, drop, filter, slice_index, refl, sym, ◌∙◌, ap, subst, arith, add-zero, length-drop, append-nil, append_assoc, take-append-drop}
use Rattle.std.specs.List.{slice_split, All}
use Rattle.std.proofs.lemmas.List.Splits.{slice_split-cons_yes, slice_split_none, slice_split_at}
use Rattle.std.proofs.lemmas.List.Elements.{All-nil, All-cons, All-head, All-tail, All-from_get_or}
use Rattle.std.proofs.lemmas.List.{map-append, get_or-take, get_or-drop, length-take-le}
use Rattle.words_core.specs.Words.{is_blank, is_not_empty, words_of, IsBlank, IsLetter, IsBlanks, IsWord, StartsBlank, BeginsWithWord, HasWords}

words_of-blank : (b : ℕ) (bytes : List ℕ) → is_blank b ≡ true → words_of (b ∷ bytes) ≡ words_of bytes
unfolding words_of
words_of-blank b bytes blank = ap (filter is_not_empty) (slice_split-cons_yes is_blank b bytes blank)

-- blanks at the front of a line do not change its words
pub words_of-blanks : (gap bytes : List ℕ) → IsBlanks gap → words_of (gap ++ bytes) ≡ words_of bytes
words_of-blanks [] bytes blanks = refl
words_of-blanks (b ∷ gap) bytes blanks =
    words_of-blank b (gap ++ bytes) (All-head IsBlank b gap blanks) ∙ words_of-blanks gap bytes (All-tail IsBlank b gap blanks)

filtered : (word : List ℕ) (parts : List (List ℕ)) → 0 < length word → filter is_not_empty (word ∷ parts) ≡ word ∷ filter is_not_empty parts
filtered [] parts some = absurd (omega arith)
filtered (b ∷ word) parts some = refl

-- if a line is a word, followed by nothing or by bytes that begin with a blank, its words are this word and the words of these
-- bytes
pub words_of-word : (word bytes : List ℕ) → IsWord word → StartsBlank bytes → words_of (word ++ bytes) ≡ word ∷ words_of bytes
unfolding words_of
words_of-word word [] (some, word_bytes) ends =
    ap words_of (append-nil word)
    ∙ ap (filter is_not_empty) (slice_split_none is_blank word word_bytes)
    ∙ filtered word [] some
words_of-word word (b ∷ bytes) (some, word_bytes) ends =
    ap (filter is_not_empty) (slice_split_at is_blank word b bytes word_bytes ends)
    ∙ filtered word (slice_split is_blank bytes) some
    ∙ ap (λ words. word ∷ words) (sym (words_of-blank b bytes ends))

-- if `HasWords` holds for a line and words, `words_of` returns these words
pub words_of-has : (line : List ℕ) (words : List (List ℕ)) → HasWords line words → words_of line ≡ words
unfolding words_of
words_of-has line [] blanks = ap words_of (sym (append-nil line)) ∙ words_of-blanks line [] blanks
words_of-has line (word ∷ words) (rest, begins, has) =
    ap words_of begins.split
    ∙ words_of-blanks begins.gap (word ++ rest) begins.blanks
    ∙ words_of-word word rest begins.is_word begins.ends
    ∙ ap (λ words. word ∷ words) (words_of-has rest words has)

starts : (line : List ℕ) → IsBlanks line → StartsBlank line
starts [] blanks = tt
starts (b ∷ line) blanks = All-head IsBlank b line blanks

-- a blank in front of a line does not change its words
with_blank : (b : ℕ) (line : List ℕ) (words : List (List ℕ)) → is_blank b ≡ true → HasWords line words → HasWords (b ∷ line) words
with_blank b line [] blank has = All-cons IsBlank b line blank has
with_blank b line (word ∷ words) blank (rest, begins, has) = (
  rest,
  record {
    gap = b ∷ begins.gap;
    split = ap (λ bytes. b ∷ bytes) begins.split;
    blanks = All-cons IsBlank b begins.gap blank begins.blanks;
    is_word = begins.is_word;
    ends = begins.ends;
  },
  has,
)

-- if a line is empty or begins with a blank, a byte other than a blank in front of it is a word
word_before : (b : ℕ) (line : List ℕ) → is_blank b ≡ false → StartsBlank line → BeginsWithWord (b ∷ line) (b ∷ []) line
word_before b line letter ends = record {
  gap = [];
  split = refl;
  blanks = All-nil IsBlank;
  is_word = (omega arith, All-cons IsLetter b [] letter (All-nil IsLetter));
  ends = ends;
}

-- if a line has words, it still has words after a byte other than a blank is put in front: the byte is a new word or makes the
-- first word longer
with_letter : (b : ℕ) (line : List ℕ) (words : List (List ℕ)) → is_blank b ≡ false → HasWords line words → (more : List (List ℕ)) × HasWords (b ∷ line) more
with_letter b line [] letter has = ((b ∷ []) ∷ [], (line, word_before b line letter (starts line has), has))
with_letter b line (word ∷ words) letter (rest, begins, has) = from_gap begins.gap begins.split begins.blanks where
  from_gap : (gap : List ℕ) → line ≡ gap ++ (word ++ rest) → IsBlanks gap → (more : List (List ℕ)) × HasWords (b ∷ line) more
  from_gap [] split blanks = (
    (b ∷ word) ∷ words,
    (
      rest,
      record {
        gap = [];
        split = ap (λ bytes. b ∷ bytes) split;
        blanks = All-nil IsBlank;
        is_word = (omega arith, All-cons IsLetter b word letter begins.is_word.1);
        ends = begins.ends;
      },
      has,
    ),
  )
  from_gap (g ∷ gap) split blanks =
      ((b ∷ []) ∷ word ∷ words, (line, word_before b line letter (subst StartsBlank (sym split) (All-head IsBlank g gap blanks)), (rest, begins, has)))

-- for every line there are words for which `HasWords` holds
has_some : (line : List ℕ) → (words : List (List ℕ)) × HasWords line words
has_some [] = ([], All-nil IsBlank)
has_some (b ∷ line) = let (words, has) = has_some line in
    elim (is_blank b) as (λ test. is_blank b ≡ test → (more : List (List ℕ)) × HasWords (b ∷ line) more) [
      | true ↦ λ blank. (words, with_blank b line words blank has)
      | false ↦ λ letter. with_letter b line words letter has
    ] refl

-- `HasWords` holds for every line and the words that `words_of` returns
pub has-words_of : (line : List ℕ) → HasWords line (words_of line)
has-words_of line = let (words, has) = has_some line in subst (HasWords line) (sym (words_of-has line words has)) has

-- if P holds for each of the first n elements of a list, `All P` holds for the list of these elements
all_below : (P : ℕ → Type 0) (xs : List ℕ) (n : ℕ) → n ≤ length xs → ((k : ℕ) → k < n → P (slice_index xs k)) → All P (take n xs)
all_below P xs n fits each = All-from_get_or P (take n xs) 0 (λ k below.
    let within : k < n = omega (arith, length-take-le n xs fits) in
    subst P (sym (get_or-take n xs k 0 within)) (each k within))

starts_by : (bytes : List ℕ) → (0 < length bytes → IsBlank (slice_index bytes 0)) → StartsBlank bytes
starts_by [] first = tt
starts_by (b ∷ bytes) first = first (omega arith)

-- if the first `blanks` bytes of a line are blanks, the words of the line are those of the rest
pub words_of-after_blanks : (line : List ℕ) (blanks : ℕ) → blanks ≤ length line
    → ((k : ℕ) → k < blanks → IsBlank (slice_index line k)) → words_of line ≡ words_of (drop blanks line)
words_of-after_blanks line blanks fits each =
    ap words_of (sym (take-append-drop blanks line))
    ∙ words_of-blanks (take blanks line) (drop blanks line) (all_below IsBlank line blanks fits each)

-- if the first `size` bytes are not blanks, and the bytes end there or a blank follows, these `size` bytes are the first word
pub words_of-first : (bytes : List ℕ) (size : ℕ) → 0 < size → size ≤ length bytes
    → ((k : ℕ) → k < size → IsLetter (slice_index bytes k)) → (size < length bytes → IsBlank (slice_index bytes size))
    → words_of bytes ≡ take size bytes ∷ words_of (drop size bytes)
words_of-first bytes size some fits each stops =
    let word : IsWord (take size bytes) = (omega (arith, length-take-le size bytes fits), all_below IsLetter bytes size fits each) in
    let ends : StartsBlank (drop size bytes) = starts_by (drop size bytes) (λ more.
    subst IsBlank (sym (get_or-drop size bytes 0 0 ∙ ap (slice_index bytes) (add-zero size))) (stops (omega (arith, length-drop size bytes)))) in
    ap words_of (sym (take-append-drop size bytes)) ∙ words_of-word (take size bytes) (drop size bytes) word ends

pub words_of-none : (bytes : List ℕ) → length bytes ≡ 0 → words_of bytes ≡ []
unfolding words_of
words_of-none [] none = refl
words_of-none (b ∷ bytes) none = absurd (omega arith)

positive : (n : ℕ) → (n ≡ 0 → ⊥) → 0 < n
positive zero not_zero = absurd (not_zero refl)
positive (suc n) not_zero = omega arith

-- a letter is not a blank
letter_or_blank : (b : ℕ) → IsLetter b → IsBlank b → ⊥
letter_or_blank b letter blank = cc

-- `blanks` is the number of blanks at the front of a line, and `size` is the number of bytes from there to the next blank or to
-- the end of the line. If bytes follow the blanks, the first word is these `size` bytes.
pub first_word : (line bytes word after : List ℕ) (blanks size : ℕ) → blanks ≤ length line
    → ((k : ℕ) → k < blanks → IsBlank (slice_index line k))
    → (blanks < length line → IsLetter (slice_index line blanks))
    → bytes ≡ drop blanks line → 0 < length bytes
    → size ≤ length bytes
    → ((k : ℕ) → k < size → IsLetter (slice_index bytes k))
    → (size < length bytes → IsBlank (slice_index bytes size))
    → word ≡ take size bytes → after ≡ drop size bytes
    → words_of line ≡ word ∷ words_of after
first_word line bytes word after blanks size fits each letter is some size_fits letters stops word_is after_is =
    let front : slice_index bytes 0 ≡ slice_index line blanks =
    ap (λ bs. slice_index bs 0) is ∙ get_or-drop blanks line 0 0 ∙ ap (slice_index line) (add-zero blanks) in
    let size_some : 0 < size = positive size (λ zero_size.
    letter_or_blank (slice_index bytes 0)
    (subst IsLetter (sym front) (letter (omega (arith, length-drop blanks line, ap length is))))
    (subst (λ n. IsBlank (slice_index bytes n)) zero_size (stops (omega arith)))) in
    words_of-after_blanks line blanks fits each
    ∙ ap words_of (sym is)
    ∙ words_of-first bytes size size_some size_fits letters stops
    ∙ (λ i. sym word_is i ∷ words_of (sym after_is i))

-- If the first of the words still to be found is moved to the end of the found words, the list of the found words, followed by
-- those still to be found, stays the same.
pub one_more : {X Y : Type 0} (f : X → Y) (old new : List X) (x : X) (rest more : List Y) (n k : ℕ)
    → new ≡ old ++ x ∷ [] → rest ≡ f x ∷ more → n ≡ suc k → map f new ++ take k more ≡ map f old ++ take n rest
one_more f old new x rest more n k new_is rest_is n_is =
    ap (λ items. map f items ++ take k more) new_is
    ∙ ap (λ found. found ++ take k more) (map-append f old (x ∷ []))
    ∙ append_assoc (map f old) (f x ∷ []) (take k more)
    ∙ sym (ap (λ m. map f old ++ take m rest) n_is ∙ ap (λ found. map f old ++ take (suc k) found) rest_is)
