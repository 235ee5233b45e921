-- An event that is run with the front of a buffer counts as run with the whole buffer.
use Rattle.std.proofs.Common.{◌≡◌, ℕ, ◌≤◌, List, ◌++◌, Option, length, take, drop, sym, ap, ◌∙◌, arith, append_assoc, length-append}
use Rattle.std.proofs.lemmas.List.{drop-append-le, take-append-drop, length-take-le, length-drop}
use Rattle.kernel_core.specs.Content.{KernelContent}
use Rattle.partmem_c.specs.declared.events.RequestNumbers.{RequestNumbers}
use Rattle.partmem_c.specs.declared.telling.ReplyNumbers.{ReplyNumbers}
use Rattle.partmem_c.specs.Events.{answered_bytes, RunsEvent}

over_wider : (n : ℕ) (read buffer first : List ℕ) → n ≤ length buffer → length first ≡ length (take n buffer)
    → first ≡ read ++ drop (length read) (take n buffer) → first ++ drop n buffer ≡ read ++ drop (length read) buffer
over_wider n read buffer first wide same over =
    let front = length-take-le n buffer wide in
    let whole = ap length over ∙ length-append read (drop (length read) (take n buffer)) in
    let few : length read ≤ length (take n buffer) = omega (arith, same, whole, length-drop (length read) (take n buffer)) in
    ap (λ xs. xs ++ drop n buffer) over
    ∙ append_assoc read (drop (length read) (take n buffer)) (drop n buffer)
    ∙ ap (λ xs. read ++ xs) (sym (drop-append-le (length read) (take n buffer) (drop n buffer) few)
    ∙ ap (drop (length read)) (take-append-drop n buffer))

-- if an event was run with the first n bytes of a buffer, it was run with the whole buffer, whose bytes from n on are unchanged
pub runs_wider : (n : ℕ) (old new : Option KernelContent) (a : RequestNumbers) (bytes : List ℕ) (numbers : ReplyNumbers) (buffer first : List ℕ)
    → n ≤ length buffer → length first ≡ length (take n buffer) → RunsEvent old new a bytes numbers (take n buffer) first
    → RunsEvent old new a bytes numbers buffer (first ++ drop n buffer)
runs_wider n old new a bytes numbers buffer first wide same ran = record {
  before = ran.before;
  after = ran.after;
  event = ran.event;
  was = ran.was;
  is = ran.is;
  says = ran.says;
  answers = record {
    reply = ran.answers.reply;
    steps = ran.answers.steps;
    are = ran.answers.are;
    over = over_wider n (answered_bytes ran.answers.reply.body) buffer first wide same ran.answers.over;
  };
}
