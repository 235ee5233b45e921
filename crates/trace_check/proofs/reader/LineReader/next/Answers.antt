use Rattle.std.proofs.Common.{◌≡◌, ℕ, ◌+◌, ◌-◌, ◌<◌, List, [], ◌∷◌, ◌++◌, Ok, Result, true, length, take, sym, ap, subst, ◌∙◌, arith, rules, append_assoc}
use Rattle.std.specs.Prelude.{◌==◌}
use Rattle.std.proofs.lemmas.Bool.{eqb-true}
use Rattle.std.proofs.lemmas.List.{append-nil}
use Rattle.trace_check.specs.Gathered.{Gathers}
use Rattle.streams.proofs.LineLemmas.{none_cut, one_line_append}
use Rattle.trace_check.proofs.ReadingLemmas.{gives_more, gives_nothing, part_at_err}
use Rattle.trace_check.proofs.HeldLemmas.{all_given, all_given_failed, ended_here, line_given}
use Rattle.trace_check.proofs.reader.LineReader.next.Goals as goal
use borrow.Rule.Slice.PartMut.{mid_of}

pub loop-at-init : goal.loop-at-init
loop-at-init g c = rw (← c.self.view_is) (
  [],
  tt,
  gives_nothing _,
  λ front gathers. subst (λ (xs : List ℕ). Gathers g.row.N xs c.args.into.now) (sym (append-nil front)) gathers,
  c.self.invariant.0,
  c.self.invariant.1,
  c.self.invariant.2,
  search rules,
)

pub returns-in-Some-clause-taken : goal.returns-in-Some-clause-taken
returns-in-Some-clause-taken g c =
    let here = c.loop-at.invariant in
    let passed : List ℕ = here.0 in
    let start : ℕ = c.loop-at.self-inside.start in
    let end : ℕ = c.loop-at.self-inside.end in
    let piece : List ℕ = c.loop-at.self-inside.piece in
    let feed = c.loop-at.self-inside.feed in
    let at : ℕ = c.in-Some.at in
    let mid : List ℕ = mid_of start (end - start) piece in
    let given : List ℕ = take (at + 1) mid in
    let is = line_given piece start end at (g.F.Feed.remaining feed) (g.F.Feed.room_left feed) (g.F.Feed.has_ended feed) (g.F.Feed.has_failed feed)
    here.4 here.5 here.6 c.in-Some.ensures.within (sym c.in-Some.ensures.at) in (
      passed ++ given,
      gives_more here.2 is.given,
      (passed ++ take at mid, one_line_append passed (take at mid) here.1 is.line, ap (λ (xs : List ℕ). passed ++ xs) is.with_end ∙ sym (append_assoc passed (take at mid) (10 ∷ []))),
      λ front gathers. subst (λ (xs : List ℕ). Gathers g.row.N xs c.add.new.self) (append_assoc front passed given) (c.add.ensures (front ++ passed) (here.3 front gathers)),
    )

pub returns-in_err-count-clause-taken : goal.returns-in_err-count-clause-taken
returns-in_err-count-clause-taken g c =
    let here = c.loop-at.invariant in
    let passed : List ℕ = here.0 in
    let start : ℕ = c.loop-at.self-inside.start in
    let end : ℕ = c.loop-at.self-inside.end in
    let piece : List ℕ = c.loop-at.self-inside.piece in
    let old = c.loop-at.self-inside.feed in
    let new = c.pull.new.self in
    let mid : List ℕ = mid_of start (end - start) piece in
    let going_on : g.F.Feed.has_ended old ≡ true → ⊥ = λ is. let stays = c.in_err-count.ensures.stays is in absurd cc in (
      passed ++ mid,
      gives_more here.2 (all_given_failed piece c.pull.new.into start end (g.F.Feed.remaining old) (g.F.Feed.remaining new) (g.F.Feed.room_left old)
          (g.F.Feed.room_left new) (g.F.Feed.has_ended old) (g.F.Feed.has_failed old) (g.F.Feed.has_ended new) (g.F.Feed.has_failed new) here.4 here.5
          c.in_err-count.ensures.bytes (omega (arith, c.in_err-count.ensures.room)) going_on),
      part_at_err _ _ _ c.from_residual.ensures.0,
      λ front gathers. subst (λ (xs : List ℕ). Gathers g.row.N xs c.add-in-loop-at.new.self) (append_assoc front passed mid)
          (c.add-in-loop-at.ensures (front ++ passed) (here.3 front gathers)),
    )

pub returns-then-count-eq0-clause-taken : goal.returns-then-count-eq0-clause-taken
returns-then-count-eq0-clause-taken g c =
    let here = c.loop-at.invariant in
    let passed : List ℕ = here.0 in
    let start : ℕ = c.loop-at.self-inside.start in
    let end : ℕ = c.loop-at.self-inside.end in
    let piece : List ℕ = c.loop-at.self-inside.piece in
    let old = c.loop-at.self-inside.feed in
    let new = c.pull.new.self in
    let count : ℕ = c.in_ok-count.count in
    let mid : List ℕ = mid_of start (end - start) piece in
    let some : 0 < length c.pull.new.into = search rules in
    let ended = ended_here c.pull.new.into count (g.F.Feed.remaining new) (g.F.Feed.room_left new) (g.F.Feed.has_ended new) (g.F.Feed.has_failed new)
    c.if-count-eq0.true c.in_ok-count.ensures.ended (c.in_ok-count.ensures.bytes.1 c.if-count-eq0.true some) in (
      passed ++ mid,
      gives_more here.2 (all_given piece c.pull.new.into start end count (g.F.Feed.remaining old) (g.F.Feed.remaining new) (g.F.Feed.room_left old)
          (g.F.Feed.room_left new) (g.F.Feed.has_ended old) (g.F.Feed.has_failed old) (g.F.Feed.has_ended new) (g.F.Feed.has_failed new) here.4 here.5 here.6
          c.in_ok-count.ensures.bytes.0 c.in_ok-count.ensures.room (λ _. ended)),
      (one_line_append passed mid here.1 (none_cut mid (sym c.in_default.ensures.at)), ended),
      λ front gathers. subst (λ (xs : List ℕ). Gathers g.row.N xs c.add-in-loop-at.new.self) (append_assoc front passed mid)
          (c.add-in-loop-at.ensures (front ++ passed) (here.3 front gathers)),
    )

-- equal results of pulls have equal numbers of bytes
same_count : {E : Type 0} (m n : ℕ) → ◌≡◌ {A = Result ℕ E} (Ok m) (Ok n) → m ≡ n
same_count m n e = cc

pub loop-at-preserved : goal.loop-at-preserved
loop-at-preserved g c =
    let here = c.loop-at.invariant in
    let passed : List ℕ = here.0 in
    let start : ℕ = c.loop-at.self-inside.start in
    let end : ℕ = c.loop-at.self-inside.end in
    let piece : List ℕ = c.loop-at.self-inside.piece in
    let old = c.loop-at.self-inside.feed in
    let new = c.pull.new.self in
    let count : ℕ = c.in_ok-count.count in
    let mid : List ℕ = mid_of start (end - start) piece in
    let going_on : g.F.Feed.has_ended new ≡ true → ⊥ = λ is.
    let test : (count == 0) ≡ true = sym c.in_ok-count.ensures.ended ∙ is in c.if-count-eq0.false (eqb-true count 0 test) in
    let still : g.F.Feed.has_ended old ≡ true → ⊥ = λ is.
    let none : count ≡ 0 = same_count count 0 (c.in_ok-count.ensures.stays is) in c.if-count-eq0.false none in (
      passed ++ mid,
      one_line_append passed mid here.1 (none_cut mid (sym c.in_default.ensures.at)),
      gives_more here.2 (all_given piece c.pull.new.into start end count (g.F.Feed.remaining old) (g.F.Feed.remaining new) (g.F.Feed.room_left old)
          (g.F.Feed.room_left new) (g.F.Feed.has_ended old) (g.F.Feed.has_failed old) (g.F.Feed.has_ended new) (g.F.Feed.has_failed new) here.4 here.5 here.6
          c.in_ok-count.ensures.bytes.0 c.in_ok-count.ensures.room (λ is. absurd (still is))),
      λ front gathers. subst (λ (xs : List ℕ). Gathers g.row.N xs c.add-in-loop-at.new.self) (append_assoc front passed mid)
          (c.add-in-loop-at.ensures (front ++ passed) (here.3 front gathers)),
      omega arith,
      c.in_ok-count.ensures.count,
      λ is. absurd (going_on is),
      c.in_ok-count.ensures.failed,
    )
