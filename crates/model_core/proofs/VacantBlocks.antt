-- Vacant blocks: `choose` finds a block for order k if and only if some aligned block of order k in a held slot has no taken
-- frame.
use Rattle.std.proofs.Common.{◌≡◌, ℕ, ◌+◌, ◌/◌, ◌^◌, ◌<◌, ◌≤◌, Bool, true, Option, Some, None, refl, sym, ◌∙◌, ◌⊎◌, inl, inr, ⊎_elim, arith}
use Rattle.std.specs.Prelude.{is_some, MatchOption}
use Rattle.std.proofs.lemmas.Bool.{cases_lt, false≢true}
use Rattle.model_core.specs.Blocks.{Block, block, HasFrame, IsAligned, around, Taken, IsTaken, IsFree, IsChoice, IsWithout}
use Rattle.model_core.specs.Numbered.{number_at}
use Rattle.model_core.specs.Choice.{choose}
use Rattle.model_core.proofs.BlocksByNumber.{number_around, number_of_frame, frame_of_number, aligned_first}
use Rattle.model_core.proofs.BlockHalves.{same_above}
use Rattle.model_core.proofs.FreeBlocks.{has_first, each_frame_in_one, reserved_is_untaken}
use Rattle.model_core.proofs.BlockChoice.{choice_is_found}

-- the block of order k at f is aligned, lies in a held slot and has no taken frame
pub record IsVacant (top : ℕ) (held : ℕ → Bool) (taken : Taken) (f k : ℕ) : Type 0 where
  pub aligned : IsAligned top (block f k)
  pub slot : held (f / 2 ^ top) ≡ true
  pub untaken : (x : ℕ) → HasFrame (block f k) x → IsTaken taken x → ⊥

module _ (top : ℕ) (held : ℕ → Bool) (taken : Taken) (slots : ℕ) (below : (u : ℕ) → held u ≡ true → u < slots) where
  -- a free block that has the first frame of a vacant block is at least as large as the vacant block
  as_large : (f k : ℕ) → IsVacant top held taken f k → (z : Block) → IsFree top held taken z → HasFrame z f → k ≤ z.order
  as_large f k v z free has = ⊎_elim (λ less. absurd (by less free.3)) (λ large. large) (cases_lt z.order k)
    where
      by : z.order < k → (z.order ≡ top) ⊎ ((x : ℕ) × HasFrame (around z.first (z.order + 1)) x × IsTaken taken x) → ⊥
      by less (inl whole) = let within = v.aligned.0 in absurd (omega arith)
      by less (inr (x, there, is)) =
          let next = z.order + 1 in
          let x_number : number_at next x ≡ number_at next z.first =
          number_of_frame (around z.first next).first next x (aligned_first (z.first / 2 ^ next) next) there ∙ number_around z.first next in
          let f_number : number_at next f ≡ number_at next z.first =
          same_above f z.first z.order next (omega arith) (number_of_frame z.first z.order f free.0.1 has) in
          v.untaken x (frame_of_number f k x v.aligned.1 (same_above x f next k (omega arith) (x_number ∙ sym f_number))) is

  -- if a block of order k is vacant, `choose` finds a block for order k ..
  pub some_choice : (f k : ℕ) → IsVacant top held taken f k → is_some (choose top held taken slots k) ≡ true
  some_choice f k v = go (choose top held taken slots k) (choice_is_found top held taken slots k below)
    where
      go : (o : Option Block) → MatchOption o (IsWithout top held taken k) (IsChoice top held taken k) → is_some o ≡ true
      go None none =
          let there = each_frame_in_one top held taken f v.slot (v.untaken f (has_first f k)) in
          absurd (none there.0 there.1 (as_large f k v there.0 there.1 there.2))
      go (Some z) is = refl

  -- .. and if `choose` finds a block for order k, some block of order k is vacant
  pub choice_vacant : (k : ℕ) → is_some (choose top held taken slots k) ≡ true → (f : ℕ) × IsVacant top held taken f k
  choice_vacant k some = go (choose top held taken slots k) (choice_is_found top held taken slots k below) some
    where
      go : (o : Option Block) → MatchOption o (IsWithout top held taken k) (IsChoice top held taken k) → is_some o ≡ true → (f : ℕ) × IsVacant top held taken f k
      go None none e = absurd (false≢true e)
      go (Some z) is e =
          let reserved = reserved_is_untaken top held taken z.first z.order k is.0 is.1 in
          (z.first, record { aligned = reserved.0; slot = is.0.1; untaken = λ x has. (reserved.1 x has).1 })
