-- Two moves in a row append, or consume, the bytes of the first move and then the bytes of the second.
use Rattle.std.proofs.Common.{◌≡◌, ℕ, ◌+◌, List, [], ◌++◌, Option, Some, None, take, refl, sym, ap, subst, ◌∙◌, arith, append_assoc}
use Rattle.std.proofs.lemmas.List.{append-nil}
use Rattle.std.specs.Io.KnownBytes.{Appends, Consumes, Keeps}

pub appends_nothing : (known : Option (List ℕ)) → Appends known known []
appends_nothing None = tt
appends_nothing (Some xs) = sym (append-nil xs)

pub appends_more : (a b c : Option (List ℕ)) (xs ys : List ℕ) → Appends a b xs → Appends b c ys → Appends a c (xs ++ ys)
appends_more None b c xs ys h k = tt
appends_more (Some us) None c xs ys h k = absurd h
appends_more (Some us) (Some vs) None xs ys h k = absurd k
appends_more (Some us) (Some vs) (Some ws) xs ys h k = k ∙ ap (λ zs. zs ++ ys) h ∙ append_assoc us xs ys

pub appends_kept : (a b c : Option (List ℕ)) (xs : List ℕ) → Appends a b xs → Keeps b c → Appends a c xs
appends_kept None b c xs h k = tt
appends_kept (Some us) None c xs h k = absurd h
appends_kept (Some us) (Some vs) None xs h k = absurd k
appends_kept (Some us) (Some vs) (Some ws) xs h k = k ∙ h

pub consumes_nothing : (known : Option (List ℕ)) → Consumes known known []
consumes_nothing None = tt
consumes_nothing (Some xs) = refl

pub consumes_more : (a b c : Option (List ℕ)) (xs ys : List ℕ) → Consumes a b xs → Consumes b c ys → Consumes a c (xs ++ ys)
consumes_more None b c xs ys h k = tt
consumes_more (Some us) None c xs ys h k = absurd h
consumes_more (Some us) (Some vs) None xs ys h k = absurd k
consumes_more (Some us) (Some vs) (Some ws) xs ys h k = h ∙ ap (λ zs. xs ++ zs) k ∙ sym (append_assoc xs ys ws)

pub consumes_kept : (a b c : Option (List ℕ)) (xs : List ℕ) → Consumes a b xs → Keeps b c → Consumes a c xs
consumes_kept None b c xs h k = tt
consumes_kept (Some us) None c xs h k = absurd h
consumes_kept (Some us) (Some vs) None xs h k = absurd k
consumes_kept (Some us) (Some vs) (Some ws) xs h k = h ∙ ap (λ zs. xs ++ zs) (sym k)

-- if the bytes `xs` were consumed before a pull that gave no byte, exactly `xs` are consumed after the pull
pub consumes_end : (a b c : Option (List ℕ)) (xs into : List ℕ) (count : ℕ) → count ≡ 0 → Consumes a b xs → Consumes b c (take count into) → Consumes a c xs
consumes_end a b c xs into count none h k =
    subst (λ ys. Consumes a c ys) (ap (λ n. xs ++ take n into) none ∙ append-nil xs) (consumes_more a b c xs (take count into) h k)

pub room_at_end : (start before now len count : ℕ) → count ≡ 0 → before + len ≡ start → now + count ≡ before → now + len ≡ start
room_at_end start before now len count none had moved = omega arith
