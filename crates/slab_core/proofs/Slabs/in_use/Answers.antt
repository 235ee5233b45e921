use Rattle.std.proofs.Common.{◌≡◌, ℕ, false, length, subst, arith}
use Rattle.std.specs.Prelude.{◌↔◌, nat_lt}
use Rattle.std.proofs.lemmas.Bool.{ltb-false, le-ltb}
use Rattle.klist_core.specs.Places.{IsEmpty}
use Rattle.klist_core.specs.Lists.{keys_of}
use Rattle.klist_core.proofs.KeyNodePairs.{no_keys}
use Rattle.slab_tables.specs.Content.{Content, head_of}
use Rattle.slab_core.specs.Calls.{IsUnused}
use Rattle.slab_core.proofs.Slabs.in_use.Goals as goal

-- a list is empty if and only if its length is 0
counted : (s : Content) (h n : ℕ) → n ≡ length (keys_of s.lists.places h) → (nat_lt 0 n ≡ false) ↔ IsEmpty s.lists.places h
counted s h n e = (λ f. (no_keys s.lists.places h).0 (omega (arith, e, ltb-false 0 n f)), λ none. le-ltb 0 n (omega (arith, e, (no_keys s.lists.places h).1 none)))

pub returns-then-count-gt0 : goal.returns-then-count-gt0
returns-then-count-gt0 c =
    let x = c.args in
    let full = counted c.self.inside.tables (head_of x.t x.c 0) c.count.result c.count.ensures in
    subst (λ s. (nat_lt 0 c.count.result ≡ false) ↔ IsUnused s x.t x.c) c.self.view_is
    (λ f. absurd (omega (arith, ltb-false 0 c.count.result f, c.if-count-gt0.true)), λ unused. full.1 unused.0)

pub returns-else-count-gt0 : goal.returns-else-count-gt0
returns-else-count-gt0 c =
    let x = c.args in
    let full = counted c.self.inside.tables (head_of x.t x.c 0) c.count.result c.count.ensures in
    let partial = counted c.self.inside.tables (head_of x.t x.c 1) c.count-else-count-gt0.result c.count-else-count-gt0.ensures in
    subst (λ s. (nat_lt 0 c.count-else-count-gt0.result ≡ false) ↔ IsUnused s x.t x.c) c.self.view_is
    (λ f. (full.0 (le-ltb 0 c.count.result c.if-count-gt0.false), partial.0 f), λ unused. partial.1 unused.1)
