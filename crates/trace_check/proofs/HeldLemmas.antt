-- A reader of lines gives the lines in the bytes that it holds.
use Rattle.std.proofs.Common.{◌≡◌, ℕ, ◌+◌, ◌-◌, ◌<◌, ◌≤◌, Bool, true, List, [], ◌∷◌, ◌++◌, Option, Some, length, take, drop, refl, sym, ap, subst, ◌∙◌, arith, take-append-drop}
use Rattle.std.proofs.lemmas.List.{drop_all, drop-take, drop-drop, length-drop, length-take}
use Rattle.std.specs.Prelude.{position, ◌==◌}
use Rattle.std.specs.Io.KnownBytes.{Consumes, IsAtEnd, Keeps, prepend_known}
use Rattle.streams.specs.Lines.{IsOneLine}
use Rattle.streams.proofs.LineLemmas.{found_cut}
use Rattle.trace_check.specs.Reading.{HasEnded, HasGiven, Source}
use Rattle.trace_check.proofs.ReadingLemmas.{at_end, gives_front, gives_held, gives_none, with_feed}
use borrow.Rule.Slice.PartMut.{mid_of}

-- cutting a piece at `end` and dropping the bytes before `start` leaves the `end - start` bytes that begin at `start`
pub held_is : (piece : List ℕ) (start end : ℕ) → start ≤ end → drop start (take end piece) ≡ mid_of start (end - start) piece
held_is piece start end within =
    let e : end ≡ start + (end - start) = omega (arith, within) in
    ap (λ n. drop start (take n piece)) e ∙ drop-take start (end - start) piece

pub held_size : (piece : List ℕ) (start end : ℕ) → start ≤ end → end ≤ length piece → length (mid_of start (end - start) piece) ≡ end - start
held_size piece start end within fits =
    let a = length-take (end - start) (drop start piece) in
    let b = length-drop start piece in
    omega (arith, a, b, within, fits)

none_held : (xs : List ℕ) → length xs ≡ 0 → xs ≡ []
none_held [] none = refl
none_held (x ∷ xs) none = absurd (omega (arith, none))

-- a source in which the bytes from `start` to `end` of a piece are left, and then the bytes that are left in a feed
abbrev pub held_source : (piece : List ℕ) (start end : ℕ) (left : Option (List ℕ)) (room : ℕ) (ended failed : Bool) → Source
held_source piece start end left room ended failed = record {
  left = prepend_known (drop start (take end piece)) left;
  room = (end - start) + room;
  ended = ended;
  failed = failed;
}

-- The reader gives the first line of the held bytes. The LF of this line is at index `at` of the held bytes. The bytes that
-- follow the LF are left.
pub record IsGiven (piece : List ℕ) (start end at : ℕ) (left : Option (List ℕ)) (room : ℕ) (ended failed : Bool) : Type 0 where
  pub given : HasGiven (held_source piece start end left room ended failed) (held_source piece (start + (at + 1)) end left room ended failed)
      (take (at + 1) (mid_of start (end - start) piece))
  pub line : IsOneLine (take at (mid_of start (end - start) piece))
  pub with_end : take (at + 1) (mid_of start (end - start) piece) ≡ take at (mid_of start (end - start) piece) ++ 10 ∷ []
  pub within : start + (at + 1) ≤ end
  pub going_on : ended ≡ true → ⊥

pub line_given : (piece : List ℕ) (start end at : ℕ) (left : Option (List ℕ)) (room : ℕ) (ended failed : Bool) → start ≤ end → end ≤ length piece
    → (ended ≡ true → start ≡ end) → at < length (mid_of start (end - start) piece)
    → position (λ b. b == 10) (mid_of start (end - start) piece) ≡ Some at → IsGiven piece start end at left room ended failed
line_given piece start end at left room ended failed order fits empty within found =
    let mid : List ℕ = mid_of start (end - start) piece in
    let held : drop start (take end piece) ≡ mid = held_is piece start end order in
    let all : length mid ≡ end - start = held_size piece start end order fits in
    let cut = found_cut mid at found in
    let given : List ℕ = take (at + 1) mid in
    let size : length given ≡ at + 1 = omega (arith, within, length-take (at + 1) mid) in
    let behind : drop (at + 1) mid ≡ drop (start + (at + 1)) (take end piece) =
    ap (λ (xs : List ℕ). drop (at + 1) xs) (sym held) ∙ drop-drop (at + 1) start (take end piece) in
    let going_on : ended ≡ true → ⊥ = λ is. let none : start ≡ end = empty is in omega (arith, none, all, within) in
    record {
      given = record {
        bytes = subst (λ (xs : List ℕ). Consumes (prepend_known (drop start (take end piece)) left) (prepend_known xs left) given) behind
            (subst (λ (xs : List ℕ). Consumes (prepend_known xs left) (prepend_known (drop (at + 1) mid) left) given) (take-append-drop (at + 1) mid ∙ sym held)
            (gives_front given (drop (at + 1) mid) left));
        count = omega (arith, size, within, all, order);
        none_later = λ has. absurd (going_on has.0);
      };
      line = cut.0;
      with_end = with_feed mid (drop (at + 1) mid) at within cut.1;
      within = omega (arith, within, all, order);
      going_on = going_on;
    }

-- if a reader gives all bytes that it holds and then pulls more, its source has given exactly the bytes that were held before,
-- and the pulled bytes are held
pub all_given : (piece into : List ℕ) (start end count : ℕ) (old new : Option (List ℕ)) (room room' : ℕ) (ended failed ended' failed' : Bool)
    → start ≤ end → end ≤ length piece → (ended ≡ true → start ≡ end) → Consumes old new (take count into) → room' + count ≡ room
    → (ended ≡ true → HasEnded (held_source into 0 count new room' ended' failed'))
    → HasGiven (held_source piece start end old room ended failed) (held_source into 0 count new room' ended' failed') (mid_of start (end - start) piece)
all_given piece into start end count old new room room' ended failed ended' failed' order fits empty pulled counted stays =
    let mid : List ℕ = mid_of start (end - start) piece in
    let size : length mid ≡ end - start = held_size piece start end order fits in
    record {
      bytes = subst (λ (xs : List ℕ). Consumes (prepend_known xs old) (prepend_known (take count into) new) mid) (sym (held_is piece start end order))
          (gives_held mid (take count into) old new pulled);
      count = omega (arith, size, counted);
      none_later = λ has. (none_held mid (omega (arith, empty has.0, size)), stays has.0);
    }

-- if a reader gives all bytes that it holds and the next pull fails, its source has given exactly the bytes that were held
-- before, and no bytes are held
pub all_given_failed : (piece into : List ℕ) (start end : ℕ) (old new : Option (List ℕ)) (room room' : ℕ) (ended failed ended' failed' : Bool)
    → start ≤ end → end ≤ length piece → Keeps old new → room' ≡ room → (ended ≡ true → ⊥)
    → HasGiven (held_source piece start end old room ended failed) (held_source into end end new room' ended' failed') (mid_of start (end - start) piece)
all_given_failed piece into start end old new room room' ended failed ended' failed' order fits keeps counted going_on =
    let mid : List ℕ = mid_of start (end - start) piece in
    let size : length mid ≡ end - start = held_size piece start end order fits in
    let none : drop end (take end into) ≡ [] = drop_all end (take end into) (omega (arith, length-take end into)) in
    record {
      bytes = subst (λ (xs : List ℕ). Consumes (prepend_known xs old) (prepend_known (drop end (take end into)) new) mid) (sym (held_is piece start end order))
          (gives_none mid old new (drop end (take end into)) none keeps);
      count = omega (arith, size, counted);
      none_later = λ has. absurd (going_on has.0);
    }

-- if a pull reaches the end, the source has ended: no bytes are held, and none are left in the feed
pub ended_here : (into : List ℕ) (count : ℕ) (left : Option (List ℕ)) (room : ℕ) (ended failed : Bool) → count ≡ 0 → ended ≡ (count == 0) → IsAtEnd left
    → HasEnded (held_source into 0 count left room ended failed)
ended_here into count left room ended failed none is end =
    (is ∙ ap (λ n. n == 0) none, at_end (take count into) left (ap (λ (n : ℕ). take n into) none) end)
