use Rattle.std.proofs.Common.{◌≡◌, ℕ, ◌+◌, ◌-◌, List, ◌++◌, Some, Ok, take, sym, ap, subst, ◌∙◌, arith}
use Rattle.words_core.specs.Grammar.{reading_of}
use Rattle.trace_check.specs.Gathered.{Gathers}
use Rattle.trace_check.specs.Reading.{HasGiven, IsNextReading}
use Rattle.trace_check.proofs.ReadingLemmas.{next_line}
use Rattle.trace_check.proofs.HeldLemmas.{held_source, line_given}
use Rattle.trace_check.proofs.reader.LineReader.next_event.Goals as goal
use borrow.Rule.Slice.PartMut.{mid_of}

pub returns-clause-reading : goal.returns-clause-reading
returns-clause-reading g c =
    let start : ℕ = c.self.inside.start in
    let end : ℕ = c.self.inside.end in
    let piece : List ℕ = c.self.inside.piece in
    let feed = c.self.inside.feed in
    let mid : List ℕ = mid_of start (end - start) piece in
    let reads = c.in_ok-line.ensures.reads in
    let len : ℕ = c.in_ok-line.line.len in
    let at : ℕ = len - 1 in
    let e : at + 1 ≡ len = omega (arith, reads.some) in
    let is = line_given piece start end at (g.F.Feed.remaining feed) (g.F.Feed.room_left feed) (g.F.Feed.has_ended feed) (g.F.Feed.has_failed feed)
    c.self.invariant.0 c.self.invariant.1 c.self.invariant.2 (omega (arith, reads.some, reads.within)) reads.ended in
    let part : List ℕ = take (at + 1) mid in
    let said : reading_of (take at mid) ≡ Ok (Some c.event_of.result) = reads.reading ∙ ap (λ event. Ok (Some event)) (sym c.event_of.ensures) in
    let at_new = λ (n : ℕ). held_source piece (start + n) end (g.F.Feed.remaining feed) (g.F.Feed.room_left feed) (g.F.Feed.has_ended feed) (g.F.Feed.has_failed feed) in
    rw (← c.self.view_is) (subst (λ n. (part : List ℕ) × HasGiven (held_source piece start end (g.F.Feed.remaining feed) (g.F.Feed.room_left feed) (g.F.Feed.has_ended feed) (g.F.Feed.has_failed feed)) (at_new n) part
    × IsNextReading (Some (Ok (Some c.event_of.result))) part (at_new n)
    × ((front : List ℕ) → Gathers g.row.N front c.args.into.now → Gathers g.row.N (front ++ part) c.add.new.self)) e (
      part,
      is.given,
      subst (λ reading. IsNextReading (Some reading) part (at_new (at + 1))) said (next_line part (take at mid) (at_new (at + 1)) is.line is.with_end),
      λ front gathers. subst (λ (n : ℕ). Gathers g.row.N (front ++ take n mid) c.add.new.self) (sym e) (c.add.ensures front gathers),
    ))
