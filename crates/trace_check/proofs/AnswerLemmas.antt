-- The text of an answer is read as this answer, and an answer that is read from a text has this text.
use Rattle.std.proofs.Common.{◌≡◌, ℕ, ◌^◌, ◌<◌, true, List, [], ◌∷◌, ◌++◌, map, get_or, Option, Some, refl, sym, subst, ◌∙◌, ap, arith, append_assoc, append-nil}
use Rattle.std.specs.Prelude.{codes, decimal, nat_lt}
use Rattle.std.specs.List.{concat}
use Rattle.std.proofs.lemmas.Option.{same_Some}
use Rattle.hex.specs.Hex.{encode_lower}
use Rattle.words_core.specs.Texts.{addressee_text, number_of_refusal, name_of_refusal, name_of_fault, body_texts, text_of}
use Rattle.words_core.specs.declared.reply.Body.{Body}
use Rattle.words_core.specs.declared.reply.Body.TheVariants.{Granted, TakenBack, WasReset, Moved, Owners, Frame, Freed, Bytes, Written, Cache, Destroyed, Object, Given, Reaped, Report, Refused, Fault}
use Rattle.words_core.specs.declared.reply.Addressee.{Addressee}
use Rattle.words_core.specs.declared.reply.Addressee.TheVariants.{Admin, Nobody, Tenant}
use Rattle.words_core.specs.declared.reply.Reply.{Reply}
use Rattle.trace_check.specs.Ranges.{AddresseeFits, Fits}
use Rattle.trace_check.specs.Forms.{◌>>=◌, number_at, mark_at, form_at}
use Rattle.trace_check.specs.Replies.{◌or_else◌, tenant_at, admin_at, nobody_at, addressee_at, whole, any_answer_at, answer_of}
use Rattle.trace_check.proofs.FormLemmas.{bind_some}
use Rattle.trace_check.proofs.KindLemmas.{text_takes, kind_again, either, small_one, below}
use Rattle.trace_check.proofs.BodyLemmas.{spelled, IsAnswer, said_takes, said_again}

pub addressee_takes : (text : List ℕ) (who : Addressee) (rest : List ℕ) → addressee_at text ≡ Some (who, rest) → text ≡ addressee_text who ++ rest
unfolding addressee_at tenant_at admin_at nobody_at
addressee_takes text who rest e =
    let x : Addressee × List ℕ = (who, rest) in
    either (tenant_at text) (admin_at text or_else nobody_at text) x e
    (text_takes (codes "#> ") (λ ns. nat_lt (get_or ns 0 0) (2 ^ 8)) (λ ns. Tenant (get_or ns 0 0)) addressee_text (λ ns count fit. refl) text who rest) (λ e.
    either (admin_at text) (nobody_at text) x e (text_takes (codes "admin> ") (λ ns. true) (λ ns. Admin) addressee_text (λ ns count fit. refl) text who rest)
    (text_takes (codes "!> ") (λ ns. true) (λ ns. Nobody) addressee_text (λ ns count fit. refl) text who rest))

tenant_again : (tenant : ℕ) (rest : List ℕ) → tenant < 2 ^ 8 → tenant_at (addressee_text (Tenant tenant) ++ rest) ≡ Some (Tenant tenant, rest)
unfolding tenant_at
tenant_again tenant rest small =
    kind_again (codes "#> ") (λ ns. nat_lt (get_or ns 0 0) (2 ^ 8)) (λ ns. Tenant (get_or ns 0 0)) (tenant ∷ []) rest refl refl
    (small_one tenant (omega arith)) (below tenant (2 ^ 8) small)

pub addressee_again : (who : Addressee) (rest : List ℕ) → AddresseeFits who → addressee_at (addressee_text who ++ rest) ≡ Some (who, rest)
unfolding addressee_at tenant_at admin_at nobody_at form_at mark_at number_at
addressee_again Admin rest fits = refl
addressee_again Nobody rest fits = refl
addressee_again (Tenant tenant) rest fits =
    let text = addressee_text (Tenant tenant) ++ rest in
    ap (λ found. found or_else admin_at text or_else nobody_at text) (tenant_again tenant rest fits)

-- ---- the whole text

pub whole_is : {A : Type 0} (found : A × List ℕ) (x : A) → whole found ≡ Some x → (found.0 ≡ x) × (found.1 ≡ [])
whole_is (y, []) x e = (same_Some y x e, refl)
whole_is (y, b ∷ rest) x e = absurd cc

-- `front` and these parts, joined, with a line feed at the end
abbrev ended : List ℕ → List (List ℕ) → List ℕ
ended front [] = front ++ 10 ∷ []
ended front (part ∷ parts) = ended (front ++ part) parts

abbrev joined : List (List ℕ) → List ℕ
joined [] = 10 ∷ []
joined (part ∷ parts) = part ++ joined parts

pub line_is : (front : List ℕ) (parts : List (List ℕ)) → ended front parts ≡ front ++ joined parts
line_is front [] = refl
line_is front (part ∷ parts) = line_is (front ++ part) parts ∙ append_assoc front part (joined parts)

one_line : (front : List ℕ) (parts : List (List ℕ)) → concat (ended front parts ∷ []) ≡ front ++ joined parts
one_line front parts = append-nil (ended front parts) ∙ line_is front parts

said_text : (front : List ℕ) (said : Body) → IsAnswer said → concat (map (λ text. text ++ 10 ∷ []) (body_texts front said)) ≡ front ++ spelled said
said_text front (Frame n) answers = one_line front (codes "frame " ∷ decimal n ∷ [])
said_text front (Freed n) answers = one_line front (codes "freed " ∷ decimal n ∷ [])
said_text front (Bytes bytes) answers = one_line front (codes "bytes " ∷ encode_lower bytes.items ∷ [])
said_text front (Written n) answers = one_line front (codes "written " ∷ decimal n ∷ [])
said_text front (Cache cache chunk order objects colours) answers =
    one_line front (codes "cache " ∷ decimal cache ∷ codes " chunk " ∷ decimal chunk ∷ codes " order " ∷ decimal order ∷ codes " objects " ∷ decimal objects ∷ codes " colours " ∷ decimal colours ∷ [])
said_text front (Destroyed n) answers = one_line front (codes "destroyed " ∷ decimal n ∷ [])
said_text front (Object n) answers = one_line front (codes "object " ∷ decimal n ∷ [])
said_text front Given answers = one_line front (codes "given" ∷ [])
said_text front (Reaped n) answers = one_line front (codes "reaped " ∷ decimal n ∷ [])
said_text front (Refused refusal) answers =
    one_line front (codes "refused " ∷ decimal (number_of_refusal refusal) ∷ codes " " ∷ name_of_refusal refusal ∷ [])
    ∙ ap (λ t. front ++ (codes "refused " ++ t)) (sym (append_assoc (decimal (number_of_refusal refusal)) (codes " ") (name_of_refusal refusal ++ 10 ∷ [])))
said_text front (Granted a b c) answers = one_line front (codes "granted " ∷ decimal a ∷ codes " slot " ∷ decimal b ∷ codes " superblock " ∷ decimal c ∷ [])
said_text front (TakenBack a) answers = one_line front (codes "taken superblock " ∷ decimal a ∷ [])
said_text front (WasReset a b) answers = one_line front (codes "reset " ∷ decimal a ∷ codes " superblocks " ∷ decimal b ∷ [])
said_text front (Moved a b c) answers = one_line front (codes "moved " ∷ decimal a ∷ codes " slot " ∷ decimal b ∷ codes " superblock " ∷ decimal c ∷ [])
said_text front (Fault fault) answers = one_line front (codes "fault " ∷ name_of_fault fault ∷ [])
said_text front (Owners owners) answers = absurd answers
said_text front (Report report) answers = absurd answers

pub answer_text : (reply : Reply) → IsAnswer reply.body → text_of reply ≡ addressee_text reply.addressee ++ spelled reply.body
answer_text reply answers = said_text (addressee_text reply.addressee) reply.body answers

abbrev pub alone_of : Addressee → Body × List ℕ → Option Reply
alone_of who said = whole said >>= (λ alone. Some (record { addressee = who; body = alone }))

abbrev pub said_of : Addressee × List ℕ → Option Reply
said_of front = any_answer_at front.1 >>= alone_of front.0

-- if `answer_of` reads a reply from a text, the reply has this text and is an answer
pub answer_takes : (text : List ℕ) (reply : Reply) → answer_of text ≡ Some reply
    → (text_of reply ≡ text) × IsAnswer reply.body
unfolding answer_of
answer_takes text reply e =
    let (front, front_is, next) = bind_some (addressee_at text) said_of reply e in
    let (said, said_is, rest_next) = bind_some (any_answer_at front.1) (alone_of front.0) reply next in
    let (alone, alone_is, last) = bind_some (whole said) (λ alone. Some (record { addressee = front.0; body = alone })) reply rest_next in
    let (same, ends) = whole_is said alone alone_is in
    let (rest_is, answers) = said_takes front.1 said.0 said.1 said_is in
    let made : Reply = record { addressee = front.0; body = alone } in
    let parts : text ≡ addressee_text front.0 ++ spelled alone =
    addressee_takes text front.0 front.1 front_is
    ∙ ap (λ t. addressee_text front.0 ++ t) (rest_is ∙ (λ i. spelled (same i) ++ ends i) ∙ append-nil (spelled alone)) in
    let is_answer = subst IsAnswer same answers in
    subst (λ (reply : Reply). (text_of reply ≡ text) × IsAnswer reply.body) (same_Some made reply last) (answer_text made is_answer ∙ sym parts, is_answer)

-- the text of an answer is read as this answer, if its numbers fit their types
pub answer_again : (text : List ℕ) (reply : Reply) → IsAnswer reply.body → Fits reply → text_of reply ≡ text → answer_of text ≡ Some reply
unfolding answer_of
answer_again text reply answers (who_fits, said_fits) text_is =
    let who = reply.addressee in
    let said = reply.body in
    ap answer_of (sym text_is ∙ answer_text reply answers)
    ∙ ap (λ front. front >>= said_of) (addressee_again who (spelled said) who_fits)
    ∙ ap (λ t. any_answer_at t >>= alone_of who) (sym (append-nil (spelled said)))
    ∙ ap (λ found. found >>= alone_of who) (said_again said [] answers said_fits)
