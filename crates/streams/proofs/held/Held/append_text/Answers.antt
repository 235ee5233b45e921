use Rattle.std.proofs.Common.{◌≡◌, ℕ, ◌+◌, ◌≤◌, ◌++◌, List, take, length, sym, ap, ◌∙◌, arith, rules}
use Rattle.std.proofs.Math.Seq.{take-append-add}
use Rattle.std.proofs.lemmas.List.{take-append-le, length-take-le, with_items_is, places}
use Rattle.streams.specs.Held.{HeldBytes}
use Rattle.streams.proofs.held.Held.append_text.Goals as goal

-- after the text is written, the first len + n bytes of the buffer are the held bytes, followed by the first n bytes of the text
taken : (front text rest : List ℕ) (len n : ℕ) → length front ≡ len → n ≤ length text → take (len + n) (front ++ (text ++ rest)) ≡ front ++ take n text
taken front text rest len n size fits =
    ap (λ k. take (k + n) (front ++ (text ++ rest))) (sym size)
    ∙ take-append-add front (text ++ rest) n
    ∙ ap (λ xs. front ++ xs) (take-append-le n text rest fits)

pub returns-clause-appended : goal.returns-clause-appended
returns-clause-appended g c =
    let len = c.self.inside.len in
    let n = c.write-len.result in
    let buffer = c.deref_mut.result.now in
    let text = c.write-len.new.buffer in
    let size : length (take len buffer) ≡ len = length-take-le len buffer (omega (arith, c.self.invariant, ap length c.deref_mut.ensures.value)) in
    let fits : n ≤ length text = omega (arith, c.write-len.ensures.short) in
    ap (take (len + n)) (with_items_is c.self.inside.bytes (take len buffer ++ (text ++ _)) (search (rules, places)))
    ∙ taken (take len buffer) text _ len n size fits
    ∙ ap (λ xs. take len buffer ++ xs) c.write-len.ensures.text
    ∙ ap (λ xs. xs ++ g.T.Text.bytes c.args.text) (ap (take len) c.deref_mut.ensures.value ∙ ap (λ (h : HeldBytes). h.bytes) c.self.view_is)
