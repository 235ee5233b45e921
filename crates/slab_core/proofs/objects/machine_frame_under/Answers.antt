use Rattle.std.proofs.Common.{◌≡◌, ℕ, ◌+◌, ◌-◌, ◌*◌, ◌/◌, ◌%◌, ◌^◌, ◌<◌, ◌≤◌, sym, subst, inl, inr, arith}
use Rattle.std.proofs.lemmas.Bool.{cases_eq}
use Rattle.model_core.specs.declared.limits.TheConstants.{WIDE_ORDER}
use Rattle.slab_core.proofs.objects.machine_frame_under.Goals as goal

-- in wrapping 32-bit arithmetic, f + (m - slot of f) * 2 ^ order is the machine frame of frame f, if m is the slot's superblock
abbrev Moves : ℕ → ℕ → ℕ → Type 0
Moves f m order = (f + (m + (4294967296 - f / 2 ^ order)) % 4294967296 * 2 ^ order % 4294967296) % 4294967296 ≡ m * 2 ^ order + f % 2 ^ order

moves : (f m order : ℕ) → f < 4294967296 → m < 65536 → order ≤ WIDE_ORDER → Moves f m order
moves f m order fits small few = elim (cases_eq order 0) [
  | inl is ↦ subst (Moves f m) (sym is) (omega arith)
  | inr not_0 ↦ elim (cases_eq order 1) [
    | inl is ↦ subst (Moves f m) (sym is) (omega arith)
    | inr not_1 ↦ elim (cases_eq order 2) [
      | inl is ↦ subst (Moves f m) (sym is) (omega arith)
      | inr not_2 ↦ elim (cases_eq order 3) [
        | inl is ↦ subst (Moves f m) (sym is) (omega arith)
        | inr not_3 ↦ elim (cases_eq order 4) [
          | inl is ↦ subst (Moves f m) (sym is) (omega arith)
          | inr not_4 ↦ elim (cases_eq order 5) [
            | inl is ↦ subst (Moves f m) (sym is) (omega arith)
            | inr not_5 ↦ elim (cases_eq order 6) [
              | inl is ↦ subst (Moves f m) (sym is) (omega arith)
              | inr not_6 ↦ elim (cases_eq order 7) [
                | inl is ↦ subst (Moves f m) (sym is) (omega arith)
                | inr not_7 ↦ elim (cases_eq order 8) [
                  | inl is ↦ subst (Moves f m) (sym is) (omega arith)
                  | inr not_8 ↦ elim (cases_eq order 9) [
                    | inl is ↦ subst (Moves f m) (sym is) (omega arith)
                    | inr not_9 ↦
                        let is : order ≡ 10 = omega (arith, few, not_0, not_1, not_2, not_3, not_4, not_5, not_6, not_7, not_8, not_9) in
                        subst (Moves f m) (sym is) (omega arith)
                  ]
                ]
              ]
            ]
          ]
        ]
      ]
    ]
  ]
]

pub returns : goal.returns
returns c =
    rw c.from.ensures (subst (λ n. (c.args.frame + (c.args.superblock + (4294967296 - n)) % 4294967296 * 2 ^ c.args.order % 4294967296) % 4294967296
    ≡ c.args.superblock * 2 ^ c.args.order + c.args.frame % 2 ^ c.args.order) (sym c.requires.slot)
    (moves c.args.frame c.args.superblock c.args.order (omega arith) (omega arith) c.requires.order))
