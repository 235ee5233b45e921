use Rattle.std.proofs.Common.{◌≡◌, ℕ, ◌+◌, ◌-◌, ◌*◌, ◌/◌, ◌%◌, ◌<◌, ltb, eqb, sym, ◌∙◌, inl, inr, arith}
use Rattle.std.proofs.lemmas.Bool.{cases_eq, eq-eqb, ne_eqb, lt-ltb, le-ltb}
use Rattle.slab_tables.proofs.list.ListId.is_of.Goals as goal

-- the wrapping difference of n and 3 * i is less than 3 if and only if n / 3 is i
third_is : (n i : ℕ) → n < 4294967296 → i < 8192 → ltb ((n + (4294967296 - 3 * i)) % 4294967296) 3 ≡ eqb (n / 3) i
third_is n i fits few = elim (cases_eq (n / 3) i) [
  | inl is ↦ lt-ltb ((n + (4294967296 - 3 * i)) % 4294967296) 3 (omega (arith, is)) ∙ sym (eq-eqb (n / 3) i is)
  | inr ne ↦ le-ltb ((n + (4294967296 - 3 * i)) % 4294967296) 3 (omega (arith, ne)) ∙ sym (ne_eqb (n / 3) i ne)
]

pub returns : goal.returns
returns c = rw c.index_of.ensures (third_is c.args.self.number (32 * c.args.t + c.args.c) (omega arith) (omega arith))
