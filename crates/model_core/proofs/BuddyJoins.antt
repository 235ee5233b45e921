-- A release joins free buddies as the laws of blocks say, and the taken blocks stay sound.
use Rattle.std.proofs.Common.{◌≡◌, ◌⊎◌, inl, inr, refl, sym, ◌∙◌, ap, subst, ℕ, suc, ◌+◌, ◌-◌, ◌*◌, ◌/◌, ◌%◌, ◌^◌, ◌<◌, ◌≤◌, Bool, true, false, Some, eq-eqb, add-one, arith}
use Rattle.std.specs.Prelude.{◌==◌, ◌↔◌}
use Rattle.std.proofs.Math.Nat.{pow-suc, mul-mod_left}
use Rattle.std.proofs.lemmas.Bool.{both_ways, cases_eq, ne_eqb, cond-true, cond-false}
use Rattle.std.proofs.lemmas.Option.{same_Some, none-some}
use Rattle.model_core.specs.Blocks.{Block, block, HasFrame, IsAligned, buddy, around, slot_block, Taken, with_taken, without_taken, IsTaken, HasTaken, IsFree, IsSound}
use Rattle.model_core.specs.Numbered.{number_at, is_clear, IsOpen}
use Rattle.model_core.specs.Choice.{is_available}
use Rattle.model_core.specs.BlockLaws.{Joins, JoinsTo, ReserveStaysSound, ReleaseStaysSound, GrantStaysSound, TakeBackStaysSound}
use Rattle.model_core.proofs.BlockHalves.{halves, clear_from, clear_whole, open_around, open_is_greatest, one_open, same_above}
use Rattle.model_core.proofs.BlockTakenOut.{TakesOut, IsOtherHalf, open_after, open_stays, open_half}
use Rattle.model_core.proofs.BlocksByNumber.{number_is, number_first, aligned_first, number_around, number_of_frame, frame_of_number, same_slot, available_tells, available_is, taken_is_unavailable, free_is_open, open_is_free}
use Rattle.model_core.proofs.FreeBlocks.{same_block, same_bool, has_first, with_here, with_other, without_here, without_other, taken_after, released_taken, even_number, reserved_is_untaken}

-- the buddy of the block of order i around frame x has the number r
pub record IsBuddyNumber (x i r : ℕ) : Type 0 where
  pub first : (buddy (around x i)).first ≡ r * 2 ^ i
  pub whole : r / 2 ≡ number_at i x / 2
  pub other : r ≡ number_at i x → ⊥

pub buddy_number : (x i : ℕ) → (r : ℕ) × IsBuddyNumber x i r
buddy_number x i = go (halves n)
  where
    n : ℕ
    n = number_at i x

    g : ℕ
    g = x / 2 ^ i * 2 ^ i

    at : n * 2 ^ i ≡ g
    at = ap (λ m. m * 2 ^ i) (number_is i x)

    even : n ≡ 2 * (n / 2) → g % 2 ^ (i + 1) ≡ 0
    even e = ap (λ m. m % 2 ^ (i + 1)) (sym at ∙ ap (λ m. m * 2 ^ i) e ∙ regroup (n / 2) (2 ^ i) ∙ ap (λ m. n / 2 * m) (sym (pow-suc 2 i) ∙ ap (λ m. 2 ^ m) (sym (add-one i)))) ∙ mul-mod_left (n / 2) (2 ^ (i + 1))
      where
        regroup : (a b : ℕ) → 2 * a * b ≡ a * (b * 2)
        regroup a b = omega arith

    odd : n ≡ 2 * (n / 2) + 1 → g % 2 ^ (i + 1) ≡ 0 → ⊥
    odd e aligned =
        let half : number_at i g ≡ 2 * number_at (suc i) g = even_number g i (ap (λ m. g % 2 ^ m) (sym (add-one i)) ∙ aligned) in
        let same : number_at i g ≡ n = number_around x i in
        omega arith

    plus : (a b : ℕ) → a * b + b ≡ (a + 1) * b
    plus a b = omega arith

    minus : (a b : ℕ) → (a + 1) * b - b ≡ a * b
    minus a b = omega arith

    go : (n ≡ 2 * (n / 2)) ⊎ (n ≡ 2 * (n / 2) + 1) → (r : ℕ) × IsBuddyNumber x i r
    go (inl e) = (
      n + 1,
      record {
        first = cond-true (g % 2 ^ (i + 1) == 0) (g + 2 ^ i) (g - 2 ^ i) (eq-eqb _ 0 (even e)) ∙ ap (λ m. m + 2 ^ i) (sym at) ∙ plus n (2 ^ i);
        whole = omega arith;
        other = λ same. omega arith;
      },
    )
    go (inr e) = (
      2 * (n / 2),
      record {
        first = cond-false (g % 2 ^ (i + 1) == 0) (g + 2 ^ i) (g - 2 ^ i) (ne_eqb _ 0 (odd e)) ∙ ap (λ m. m - 2 ^ i) (sym at ∙ ap (λ m. m * 2 ^ i) e) ∙ minus (2 * (n / 2)) (2 ^ i);
        whole = omega arith;
        other = λ same. omega arith;
      },
    )

pub buddy_aligned : (x i : ℕ) → (buddy (around x i)).first % 2 ^ i ≡ 0
buddy_aligned x i = let w = buddy_number x i in ap (λ m. m % 2 ^ i) w.1.first ∙ mul-mod_left w.0 (2 ^ i)

-- The block of order i around x and its buddy are the two halves of the block of order i + 1 around x. The buddy is the only
-- aligned block of order i that is the half without x.
pub buddy_is_half : (x i : ℕ) → IsOtherHalf x i (buddy (around x i)).first
buddy_is_half x i =
    let w = buddy_number x i in
    let number : number_at i (buddy (around x i)).first ≡ w.0 = ap (number_at i) w.1.first ∙ number_first w.0 i in
    record { other = λ e. w.1.other (sym number ∙ e); one_whole = ap (λ m. m / 2) number ∙ w.1.whole }

pub only_buddy : (x i : ℕ) (b : Block) → b.order ≡ i → b.first % 2 ^ b.order ≡ 0 → IsOtherHalf x i b.first → b ≡ buddy (around x i)
only_buddy x i b order aligned half = same_block b (buddy (around x i)) aligned (buddy_aligned x i) order
    (ap (λ n. number_at n b.first) order ∙ same (number_at i b.first) (number_at i (buddy (around x i)).first) (number_at i x) half.one_whole half.other (buddy_is_half x i).one_whole (buddy_is_half x i).other ∙ ap (λ n. number_at n (buddy (around x i)).first) (sym order))
  where
    same : (a b c : ℕ) → a / 2 ≡ c / 2 → (a ≡ c → ⊥) → b / 2 ≡ c / 2 → (b ≡ c → ⊥) → a ≡ b
    same a b c one other two another = go (halves a) (halves b) (halves c)
      where
        go : (a ≡ 2 * (a / 2)) ⊎ (a ≡ 2 * (a / 2) + 1) → (b ≡ 2 * (b / 2)) ⊎ (b ≡ 2 * (b / 2) + 1) → (c ≡ 2 * (c / 2)) ⊎ (c ≡ 2 * (c / 2) + 1) → a ≡ b
        go (inl p) (inl q) r = omega arith
        go (inr p) (inr q) r = omega arith
        go (inl p) (inr q) (inl r) = absurd (other (omega arith))
        go (inl p) (inr q) (inr r) = absurd (another (omega arith))
        go (inr p) (inl q) (inl r) = absurd (another (omega arith))
        go (inr p) (inl q) (inr r) = absurd (other (omega arith))

-- a release, read backwards, takes the released block out of the available frames
pub releasing : (top : ℕ) (held : ℕ → Bool) (taken : Taken) (f k : ℕ) → IsSound top held taken → taken f ≡ Some k
    → (j : ℕ) × TakesOut (is_available top held (without_taken taken f)) (is_available top held taken) top f k j
releasing top held taken f k sound here = go (open_around (is_available top held (without_taken taken f)) top f (freed f refl))
  where
    at : IsAligned top (block f k) × (held (f / 2 ^ top) ≡ true)
    at = sound.placed f k here

    freed : (x : ℕ) → number_at k x ≡ number_at k f → is_available top held (without_taken taken f) x ≡ true
    freed x e = available_is top held (without_taken taken f) x (ap held (same_slot top k x f at.0.0 e) ∙ at.1) (λ t. alone (released_taken taken f x t))
      where
        alone : (g j : ℕ) × (g ≡ f → ⊥) × (taken g ≡ Some j) × HasFrame (block g j) x → ⊥
        alone (g, j, ne, there, has) = ne (sound.apart g j f k x there here has (frame_of_number f k x at.0.1 e))

    kept : (x : ℕ) → IsTaken (without_taken taken f) x → IsTaken taken x
    kept x t = let w = released_taken taken f x t in (w.0, w.1, w.3, w.4)

    back : (x : ℕ) → is_available top held taken x ≡ true → is_available top held (without_taken taken f) x ≡ true
    back x e = let both = available_tells top held taken x e in available_is top held (without_taken taken f) x both.0 (λ t. both.1 (kept x t))

    forth : (x : ℕ) → (number_at k x ≡ number_at k f → ⊥) → is_available top held (without_taken taken f) x ≡ true → is_available top held taken x ≡ true
    forth x ne e = available_is top held taken x both.0 (λ t. off (taken_after taken f k x here t))
      where
        both : (held (x / 2 ^ top) ≡ true) × (IsTaken (without_taken taken f) x → ⊥)
        both = available_tells top held (without_taken taken f) x e

        off : HasFrame (block f k) x ⊎ IsTaken (without_taken taken f) x → ⊥
        off (inl has) = ne (number_of_frame f k x at.0.1 has)
        off (inr still) = both.1 still

    go : (j : ℕ) × IsOpen (is_available top held (without_taken taken f)) top j (number_at j f) → (j : ℕ) × TakesOut (is_available top held (without_taken taken f)) (is_available top held taken) top f k j
    go (j, is_open) = (
      j,
      record {
        order = open_is_greatest _ top j k f is_open at.0.0 (clear_from _ k (number_at k f) freed);
        open_block = is_open;
        inside = λ x e. taken_is_unavailable top held taken x (f, k, here, frame_of_number f k x at.0.1 e);
        outside = λ x ne. same_bool _ _ (back x) (forth x ne);
      },
    )

-- a release changes the free blocks as `Joins` says
pub joins : Joins
joins top held taken f k sound here = go (releasing top held taken f k sound here)
  where
    large : ℕ → Bool
    large = is_available top held (without_taken taken f)

    small : ℕ → Bool
    small = is_available top held taken

    go : (j : ℕ) × TakesOut large small top f k j → (j : ℕ) × JoinsTo top held taken f k j × ((b : Block) → (IsFree top held (without_taken taken f) b ↔ ((b ≡ around f j) ⊎ (IsFree top held taken b × ((i : ℕ) → k ≤ i → i < j → b ≡ buddy (around f i) → ⊥)))))
    go (j, out) = (j, record { rises = out.order; within = out.open_block.0; joined = joined; stops = stops out.open_block.2 }, λ b. (forth b, back b))
      where
        joined : (i : ℕ) → k ≤ i → i < j → IsFree top held taken (buddy (around f i))
        joined i up lt = open_is_free top held taken (buddy (around f i)) (buddy_aligned f i) (open_half large small top f k j out i (buddy (around f i)).first up lt (buddy_is_half f i))

        stops : (j ≡ top) ⊎ (is_clear large (suc j) (number_at j f / 2) ≡ false) → (j ≡ top) ⊎ (IsFree top held taken (buddy (around f j)) → ⊥)
        stops (inl e) = inl e
        stops (inr fails) = inr (λ free. split (open_after large small top f k j out j (buddy (around f j)).first (free_is_open top held taken (buddy (around f j)) free)))
          where
            split : (IsOpen large top j (number_at j (buddy (around f j)).first) × (j ≡ j → number_at j (buddy (around f j)).first ≡ number_at j f → ⊥)) ⊎ ((k ≤ j) × (j < j) × IsOtherHalf f j (buddy (around f j)).first) → ⊥
            split (inl (was, other)) = both_ways _ fails (clear_whole large j (number_at j f) (number_at j (buddy (around f j)).first) (sym (buddy_is_half f j).one_whole) (λ e. (buddy_is_half f j).other (sym e)) out.open_block.1 was.1)
            split (inr (up, lt, half)) = omega arith

        After : Block → Type 0
        After b = (b ≡ around f j) ⊎ (IsFree top held taken b × ((i : ℕ) → k ≤ i → i < j → b ≡ buddy (around f i) → ⊥))

        forth : (b : Block) → IsFree top held (without_taken taken f) b → After b
        forth b now = sort (cases_eq b.order j) (cases_eq (number_at b.order b.first) (number_at b.order f))
          where
            is_open : IsOpen large top b.order (number_at b.order b.first)
            is_open = free_is_open top held (without_taken taken f) b now

            stays : (b.order ≡ j → number_at b.order b.first ≡ number_at b.order f → ⊥) → After b
            stays other = inr (open_is_free top held taken b now.0.1 (open_stays large small top f k j out b.order b.first is_open other), λ i up lt e. no_buddy i lt (ap (λ c. c.order) e) (ap (λ c. c.first) e))
              where
                no_buddy : (i : ℕ) → i < j → b.order ≡ i → b.first ≡ (buddy (around f i)).first → ⊥
                no_buddy i lt order first =
                    let up : number_at j b.first ≡ number_at j f = ap (number_at j) first ∙ same_above (buddy (around f i)).first f (suc i) j (omega arith) (buddy_is_half f i).one_whole in
                    let at_j : IsOpen large top j (number_at j b.first) = subst (IsOpen large top j) (sym up) out.open_block in
                    let same : b.order ≡ j = one_open large top b.order j b.first is_open at_j in
                    omega arith

            sort : (b.order ≡ j) ⊎ (b.order ≡ j → ⊥) → (number_at b.order b.first ≡ number_at b.order f) ⊎ (number_at b.order b.first ≡ number_at b.order f → ⊥) → After b
            sort (inl e) (inl same) = inl (same_block b (around f j) now.0.1 (aligned_first _ j) e (same ∙ ap (λ n. number_at n f) e ∙ sym (number_around f j) ∙ ap (λ n. number_at n (f / 2 ^ j * 2 ^ j)) (sym e)))
            sort (inl e) (inr ne) = stays (λ _ same. ne same)
            sort (inr ne) _ = stays (λ e _. ne e)

        back : (b : Block) → After b → IsFree top held (without_taken taken f) b
        back b (inl e) = subst (IsFree top held (without_taken taken f)) (sym e) (open_is_free top held (without_taken taken f) (around f j) (aligned_first _ j) (subst (IsOpen large top j) (sym (number_around f j)) out.open_block))
        back b (inr (was, other)) = open_is_free top held (without_taken taken f) b was.0.1 (sort (open_after large small top f k j out b.order b.first (free_is_open top held taken b was)))
          where
            sort : (IsOpen large top b.order (number_at b.order b.first) × (b.order ≡ j → number_at b.order b.first ≡ number_at b.order f → ⊥)) ⊎ ((k ≤ b.order) × (b.order < j) × IsOtherHalf f b.order b.first) → IsOpen large top b.order (number_at b.order b.first)
            sort (inl (is_open, _)) = is_open
            sort (inr (up, lt, half)) = absurd (other b.order up lt (only_buddy f b.order b refl was.0.1 half))

-- the taken blocks stay sound

pub reserve_stays_sound : ReserveStaysSound
reserve_stays_sound top held taken f j k sound free le = record { placed = placed; apart = apart }
  where
    ours : IsAligned top (block f k) × ((x : ℕ) → HasFrame (block f k) x → (held (x / 2 ^ top) ≡ true) × (IsTaken taken x → ⊥))
    ours = reserved_is_untaken top held taken f j k free le

    order_here : (i : ℕ) → with_taken taken f k f ≡ Some i → k ≡ i
    order_here i e = same_Some k i (sym (with_here taken f k) ∙ e)

    placed : (g i : ℕ) → with_taken taken f k g ≡ Some i → IsAligned top (block g i) × (held (g / 2 ^ top) ≡ true)
    placed g i e = go (cases_eq g f)
      where
        go : (g ≡ f) ⊎ (g ≡ f → ⊥) → IsAligned top (block g i) × (held (g / 2 ^ top) ≡ true)
        go (inl same) = subst (λ b. IsAligned top b × (held (b.first / 2 ^ top) ≡ true)) (ap (block f) (order_here i (ap (with_taken taken f k) (sym same) ∙ e)) ∙ ap (λ n. block n i) (sym same)) (ours.0, (ours.1 f (has_first f k)).0)
        go (inr ne) = sound.placed g i (sym (with_other taken f k g ne) ∙ e)

    -- a block that was taken before shares no frame with the new block
    off : (g i h x : ℕ) → (g ≡ f → ⊥) → h ≡ f → with_taken taken f k g ≡ Some i → (n : ℕ) → with_taken taken f k h ≡ Some n → HasFrame (block g i) x → HasFrame (block h n) x → ⊥
    off g i h x ne same there n here has_g has_h = (ours.1 x (subst (λ b. HasFrame b x) (ap (λ m. block m n) same ∙ ap (block f) (sym (order_here n (ap (with_taken taken f k) (sym same) ∙ here)))) has_h)).1 (g, i, sym (with_other taken f k g ne) ∙ there, has_g)

    apart : (g i h n x : ℕ) → with_taken taken f k g ≡ Some i → with_taken taken f k h ≡ Some n → HasFrame (block g i) x → HasFrame (block h n) x → g ≡ h
    apart g i h n x there here has_g has_h = go (cases_eq g f) (cases_eq h f)
      where
        go : (g ≡ f) ⊎ (g ≡ f → ⊥) → (h ≡ f) ⊎ (h ≡ f → ⊥) → g ≡ h
        go (inl p) (inl q) = p ∙ sym q
        go (inr p) (inl q) = absurd (off g i h x p q there n here has_g has_h)
        go (inl p) (inr q) = absurd (off h n g x q p here i there has_h has_g)
        go (inr p) (inr q) = sound.apart g i h n x (sym (with_other taken f k g p) ∙ there) (sym (with_other taken f k h q) ∙ here) has_g has_h

-- a block that is taken after a release was taken before the release
still_taken : (taken : Taken) (f g i : ℕ) → without_taken taken f g ≡ Some i → taken g ≡ Some i
still_taken taken f g i e = go (cases_eq g f)
  where
    go : (g ≡ f) ⊎ (g ≡ f → ⊥) → taken g ≡ Some i
    go (inl same) = absurd (none-some i (sym (without_here taken f) ∙ ap (without_taken taken f) (sym same) ∙ e))
    go (inr ne) = sym (without_other taken f g ne) ∙ e

pub release_stays_sound : ReleaseStaysSound
release_stays_sound top held taken f sound = record {
  placed = λ g i e. sound.placed g i (still_taken taken f g i e);
  apart = λ g i h n x there here. sound.apart g i h n x (still_taken taken f g i there) (still_taken taken f h n here);
}

pub grant_stays_sound : GrantStaysSound
grant_stays_sound top held more taken sound wider = record {
  placed = λ g i e. ((sound.placed g i e).0, wider (g / 2 ^ top) (sound.placed g i e).1);
  apart = sound.apart;
}

pub take_back_stays_sound : TakeBackStaysSound
take_back_stays_sound top held fewer taken sound untaken = record { placed = placed; apart = sound.apart }
  where
    placed : (g i : ℕ) → taken g ≡ Some i → IsAligned top (block g i) × (fewer (g / 2 ^ top) ≡ true)
    placed g i e = ((sound.placed g i e).0, go (untaken (g / 2 ^ top) (sound.placed g i e).1))
      where
        go : (fewer (g / 2 ^ top) ≡ true) ⊎ (HasTaken taken (slot_block top (g / 2 ^ top)) → ⊥) → fewer (g / 2 ^ top) ≡ true
        go (inl still) = still
        go (inr none) = absurd (none (g, frame_of_number _ top g (aligned_first _ top) (sym (number_around g top)), (g, i, e, has_first g i)))
