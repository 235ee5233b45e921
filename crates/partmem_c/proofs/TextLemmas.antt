-- Texts that are written to a buffer part by part, and the first line of a list of bytes.
use Rattle.std.proofs.Common.{◌≡◌, ℕ, cond, suc, ◌+◌, ◌-◌, ◌*◌, ◌≤◌, ◌==◌, Bool, true, false, ◌||◌, List, [], ◌∷◌, ◌++◌, Some, Ok, length, take, drop, position, refl, sym, ap, ◌∙◌, arith, append_assoc, length-append}
use Rattle.std.proofs.lemmas.List.{take-append-le, take-append-drop, take_all, length-take-le, length-drop}
use Rattle.std.proofs.lemmas.Slice.{drop-append-drop}
use Rattle.std.specs.List.{position_from}
use Rattle.std.proofs.lemmas.Iterator.Adapters.{position_from-zero}
use Rattle.words_core.specs.Grammar.{reading_of}
use Rattle.words_core.specs.declared.event.Command.{Command}
use Rattle.words_core.specs.declared.event.Event.TheVariants.{Tenant}
use Rattle.quick_core.specs.Lines.{ReadsAs}
use Rattle.kernel_core.specs.Content.{KernelContent}
use Rattle.std.proofs.lemmas.Option.{same_Some}
use Rattle.std.proofs.lemmas.Bool.{or_parts}
use Rattle.streams.specs.Lines.{IsOneLine}
use Rattle.partmem_c.specs.Lines.{has_line_feed, AnswersLine}

pub one_line : (bytes : List ℕ) → has_line_feed bytes ≡ false → IsOneLine bytes
one_line [] none = tt
one_line (b ∷ bytes) none = let facts = or_parts (b == 10) (has_line_feed bytes) none in (facts.0, one_line bytes facts.1)

-- The text, except its end `rest`, has been written over the front of the buffer. `written` is the number of bytes written.
pub record IsPart (text rest buffer buffer' : List ℕ) (written : ℕ) : Type 0 where
  pub front : List ℕ
  pub split : text ≡ front ++ rest
  pub counted : written ≡ length front
  pub over : buffer' ≡ front ++ drop (length front) buffer

take-front : (xs ys : List ℕ) → take (length xs) (xs ++ ys) ≡ xs
take-front [] ys = refl
take-front (x ∷ xs) ys = ap (λ zs. x ∷ zs) (take-front xs ys)

-- if the unwritten rest is `line` and then `after`, and `line` is copied behind the written bytes, then only `after` is unwritten
pub written_more : (text rest line after buffer now then : List ℕ) (written written' : ℕ) → IsPart text rest buffer now written → rest ≡ line ++ after
    → then ≡ take written now ++ (line ++ drop (written + length line) now) → written' ≡ written + length line
    → IsPart text after buffer then written'
written_more text rest line after buffer now then written written' had cut put counted =
    let both = length-append had.front line in record {
      front = had.front ++ line;
      split = had.split ∙ ap (λ xs. had.front ++ xs) cut ∙ sym (append_assoc had.front line after);
      counted = omega (arith, counted, had.counted, both);
      over = rw (
        put,
        had.counted,
        had.over,
        take-front had.front (drop (length had.front) buffer),
        drop-append-drop (length had.front) buffer had.front (length had.front + length line) (omega arith) refl,
        both,
      )
          (sym (append_assoc had.front line (drop (length had.front + length line) buffer)));
    }

-- the last n of these bytes, or all of them if there are fewer
abbrev pub last : ℕ → List ℕ → List ℕ
last n bytes = take (length bytes - (length bytes - n)) (drop (length bytes - n) bytes)

-- if there are n to 2 * n bytes, copying the first n of them and then the last n, each byte to its own index, copies all of them
pub ends_put : (n : ℕ) (bytes old mid out : List ℕ) → n ≤ length bytes → length bytes ≤ 2 * n
    → mid ≡ take 0 old ++ (take n bytes ++ drop (0 + length (take n bytes)) old)
    → out ≡ take (length bytes - n) mid ++ (last n bytes ++ drop (length bytes - n + length (last n bytes)) mid)
    → out ≡ bytes ++ drop (length bytes) old
ends_put n bytes old mid out long short first second =
    let k = length bytes - n in
    let same : last n bytes ≡ drop k bytes = take_all (length bytes - k) (drop k bytes) (omega (arith, length-drop k bytes)) in
    let front : length (take n bytes) ≡ n = length-take-le n bytes long in
    let back : length (drop k bytes) ≡ n = length-drop k bytes ∙ omega (arith, long) in
    let few : k ≤ length (take n bytes) = omega (arith, front, long, short) in
    let begins : mid ≡ take n bytes ++ drop n old = first ∙ ap (λ i. take n bytes ++ drop i old) (omega (arith, front)) in
    let before : take k mid ≡ take k bytes =
    ap (take k) begins ∙ take-append-le k (take n bytes) (drop n old) few
    ∙ sym (take-append-le k (take n bytes) (drop n bytes) few) ∙ ap (take k) (take-append-drop n bytes) in
    let behind : drop (k + length (drop k bytes)) mid ≡ drop (length bytes) old =
    ap (λ i. drop i mid) (omega (arith, back, long)) ∙ ap (drop (length bytes)) begins
    ∙ drop-append-drop n old (take n bytes) (length bytes) long front in
    second ∙ ap (λ xs. take k mid ++ (xs ++ drop (k + length xs) mid)) same
    ∙ ap (λ xs. xs ++ (drop k bytes ++ drop (k + length (drop k bytes)) mid)) before
    ∙ ap (λ xs. take k bytes ++ (drop k bytes ++ xs)) behind
    ∙ sym (append_assoc (take k bytes) (drop k bytes) (drop (length bytes) old))
    ∙ ap (λ xs. xs ++ drop (length bytes) old) (take-append-drop k bytes)

-- if a line is copied to the front of a buffer, and then a line feed behind it, the buffer is the line, the line feed, and the
-- old bytes behind them
pub ended_put : (line old mid out : List ℕ) → mid ≡ line ++ drop (length line) old
    → out ≡ take (length line) mid ++ (10 ∷ [] ++ drop (length line + 1) mid)
    → out ≡ line ++ 10 ∷ drop (length line + 1) old
ended_put line old mid out line_first second =
    let rest : drop (length line + 1) mid ≡ drop (length line + 1) old = ap (drop (length line + 1)) line_first
    ∙ drop-append-drop (length line) old line (length line + 1) (omega arith) refl in
    let front : take (length line) mid ≡ line = ap (take (length line)) line_first ∙ take-front line (drop (length line) old) in
    second ∙ ap (λ xs. xs ++ 10 ∷ drop (length line + 1) mid) front ∙ ap (λ xs. line ++ 10 ∷ xs) rest

-- if a line without a line feed is followed by a line feed, a search whose count begins at k finds that line feed at k plus the
-- length of the line
found_end : (k : ℕ) (line rest : List ℕ) → has_line_feed line ≡ false → position_from (λ b. b == 10) k (line ++ 10 ∷ rest) ≡ Some (k + length line)
found_end k [] rest none = ap (λ n. Some n) (omega arith)
found_end k (b ∷ line) rest none =
    let facts = or_parts (b == 10) (has_line_feed line) none in
    rw facts.0 (found_end (k + 1) line rest facts.1 ∙ ap (λ n. Some n) (omega arith))

-- if the bytes begin with a line and its line feed, a request that is read at their front is the reading of this line
pub line_reads : (line rest bytes : List ℕ) (tenant : ℕ) (command : Command) (len : ℕ) → has_line_feed line ≡ false
    → bytes ≡ line ++ 10 ∷ rest → ReadsAs bytes tenant command len → reading_of line ≡ Ok (Some (Tenant tenant command))
line_reads line rest bytes tenant command len none are read =
    let at : position (λ b. b == 10) bytes ≡ Some (length line) =
    ap (position (λ b. b == 10)) are ∙ position_from-zero (λ b. b == 10) (line ++ 10 ∷ rest) ∙ found_end 0 line rest none ∙ ap (λ n. Some n) (omega arith) in
    let end : len - 1 ≡ length line = same_Some _ _ (sym read.ended ∙ at) in
    ap reading_of (sym (ap (take (len - 1)) are ∙ ap (λ n. take n (line ++ 10 ∷ rest)) end ∙ take-front line (10 ∷ rest))) ∙ read.reading

-- if a line reads as a command of a tenant, an answer to this command is an answer to the line
pub answered_as : (k k' : KernelContent) (line text : List ℕ) (tenant : ℕ) (command : Command) → reading_of line ≡ Ok (Some (Tenant tenant command))
    → AnswersLine k (Ok (Some (Tenant tenant command))) k' text → AnswersLine k (reading_of line) k' text
answered_as k k' line text tenant command reads answers = rw reads answers

-- if the bytes begin with a line and its line feed, an answer to the request that is read at their front is an answer to the line
pub line_answered : (k k' : KernelContent) (line rest bytes text : List ℕ) (tenant : ℕ) (command : Command) (len : ℕ) → has_line_feed line ≡ false
    → bytes ≡ line ++ 10 ∷ rest → ReadsAs bytes tenant command len
    → AnswersLine k (Ok (Some (Tenant tenant command))) k' text → AnswersLine k (reading_of line) k' text
line_answered k k' line rest bytes text tenant command len none are read answers =
    answered_as k k' line text tenant command (line_reads line rest bytes tenant command len none are read) answers

no_longer : (k n : ℕ) → k ≡ k + suc n → ⊥
no_longer k n e = omega (arith, e)

-- if the first line feed is found directly behind `line`, `line` has no line feed
found_none : (k : ℕ) (line rest : List ℕ) → position_from (λ b. b == 10) k (line ++ rest) ≡ Some (k + length line) → has_line_feed line ≡ false
found_none k [] rest found = refl
found_none k (b ∷ line) rest found =
    go (b == 10) (λ e. found_none (k + 1) line rest (e ∙ ap (λ n. Some n) (omega arith))) found
  where
    go : (test : Bool) → (position_from (λ b. b == 10) (k + 1) (line ++ rest) ≡ Some (k + length (b ∷ line)) → has_line_feed line ≡ false)
        → cond test (Some k) (position_from (λ b. b == 10) (k + 1) (line ++ rest)) ≡ Some (k + length (b ∷ line)) → (test || has_line_feed line) ≡ false
    go true later e = absurd (no_longer k (length line) (same_Some _ _ e))
    go false later e = later e

pub line_ended : (line rest bytes : List ℕ) (tenant : ℕ) (command : Command) (len : ℕ) → len ≡ length line + 1
    → bytes ≡ line ++ 10 ∷ rest → ReadsAs bytes tenant command len → has_line_feed line ≡ false
line_ended line rest bytes tenant command len whole are read =
    found_none 0 line (10 ∷ rest) (sym (position_from-zero (λ b. b == 10) (line ++ 10 ∷ rest)) ∙ sym (ap (position (λ b. b == 10)) are)
    ∙ read.ended ∙ ap (λ n. Some n) (omega (arith, whole)))
