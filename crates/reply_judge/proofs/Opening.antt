-- Before the first event, the stored machine shows the opening state of the definitions.
use Rattle.std.proofs.Common.{◌≡◌, ℕ, zero, suc, List, [], ◌∷◌, ◌++◌, length, map, replicate, Some, None, slice_get, refl, ap, sym, subst, ◌∙◌}
use Rattle.model_core.specs.declared.limits.TheConstants.{MAX_CACHES}
use Rattle.promise_core.specs.State.{opening_state, opening}
use Rattle.reply_judge.specs.Seen.{Seen, state_of, IsOpeningTenant}
use Rattle.reply_judge.specs.KnownMachine.{SeenMachine, ShowsKnown}

-- if P is true of each tenant of a list and of one more tenant, P is true of each tenant of the list with this tenant at its end
pub each_more : (P : Seen → Type 0) (xs : List Seen) (z : Seen) → ((k : ℕ) (y : Seen) → slice_get xs k ≡ Some y → P y) → P z
    → (k : ℕ) (y : Seen) → slice_get (xs ++ z ∷ []) k ≡ Some y → P y
each_more P [] z each new zero y at = let is : z ≡ y = cc in subst P is new
each_more P [] z each new (suc k) y at = absurd (cc)
each_more P (x ∷ xs) z each new zero y at = each zero y at
each_more P (x ∷ xs) z each new (suc k) y at = each_more P xs z (λ i v here. each (suc i) v here) new k y at

pub opening_shown : (order superblocks tenants : ℕ) (x : SeenMachine) → x.order ≡ order → x.owners ≡ replicate superblocks None → length x.tenants ≡ tenants
    → ((k : ℕ) (y : Seen) → slice_get x.tenants k ≡ Some y → IsOpeningTenant order y) → ShowsKnown x (opening MAX_CACHES order superblocks tenants)
unfolding opening
opening_shown order superblocks tenants x sized none many each i = record {
  limit = MAX_CACHES;
  order = sym sized i;
  owners = sym none i;
  states = (ap (λ n. replicate n opening_state) (sym many) ∙ all_opening x.tenants (λ k y at. (each k y at).state)) i;
}
  where
    all_opening : (ys : List Seen) → ((k : ℕ) (y : Seen) → slice_get ys k ≡ Some y → state_of y ≡ opening_state) → replicate (length ys) opening_state ≡ map state_of ys
    all_opening [] each = refl
    all_opening (y ∷ ys) each = (λ i. sym (each 0 y refl) i ∷ replicate (length ys) opening_state)
        ∙ ap (λ ss. state_of y ∷ ss) (all_opening ys (λ k z at. each (suc k) z at))
