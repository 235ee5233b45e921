-- A body that is read from a text has this text, and the text of a body is read as this body.
use Rattle.std.proofs.Common.{◌≡◌, ℕ, ◌^◌, ◌*◌, ◌<◌, ◌≤◌, Bool, true, false, cond, not, List, [], ◌∷◌, ◌++◌, length, get_or, take, drop, Option, Some, None, Result, Ok, Err, refl, sym, subst, ◌∙◌, ap, arith, append_assoc, take-append-drop, take_at, drop_at, zero, suc}
use Rattle.std.specs.Prelude.{codes, nat_lt, nat_le, ◌==◌, ◌&&◌, find, take_while}
use Rattle.std.specs.Str.{bytes_eq}
use Rattle.std.specs.List.{list_all, AllByRecursion}
use Rattle.std.proofs.lemmas.Slice.Eq.{bytes_eq-Decides}
use Rattle.std.proofs.lemmas.Bool.Decides.{nat_tests}
use Rattle.std.proofs.lemmas.List.Elements.{All-nil, All-weaker}
use Rattle.std.proofs.lemmas.List.Sums.{list_all-from_AllPass}
use Rattle.arrayvec.specs.ArrayVec.{ArrayVec}
use Rattle.hex.specs.declared.error.FromHexError.{FromHexError}
use Rattle.hex.proofs.HexLemmas.{decode_of-encode_lower, decode_of-ok}
use Rattle.trace_check.specs.Ranges.{BodyFits}
use Rattle.std.proofs.lemmas.Option.{some_pair_parts, same_Some, cond_some}
use Rattle.words_core.specs.Texts.{number_of_refusal, name_of_refusal, name_of_fault}
use Rattle.words_core.specs.declared.event.LineFault.{LineFault}
use Rattle.words_core.specs.declared.event.LineFault.TheVariants.{Long, Unknown, Words, Number, Hex}
use Rattle.words_core.specs.declared.reply.Body.{Body}
use Rattle.words_core.specs.declared.reply.Body.TheVariants.{Granted, TakenBack, WasReset, Moved, Owners, Frame, Freed, Bytes, Written, Cache, Destroyed, Object, Given, Reaped, Report, Refused, Fault}
use Rattle.words_core.specs.declared.reply.Refusal.{Refusal}
use Rattle.words_core.specs.declared.reply.Refusal.TheVariants.{NoFrames}
use Rattle.hex.specs.Hex.{encode_lower, decode_of, is_hex_digit, IsBytes}
use Rattle.words_core.specs.declared.reply.TheConstants.{REFUSALS}
use Rattle.trace_check.specs.Forms.{◌>>=◌, mark_at, form_at}
use Rattle.trace_check.specs.Replies.{made_at, fit_place, fit_tenant, ◌or_else◌, bytes_again, bytes_of, bytes_at, any_answer_at, frame_at, freed_at, written_at, cache_at, destroyed_at, object_at, given_at, reaped_at, refusal_of, refused_at, granted_at, taken_at, reset_at, moved_at, fault_at, some_fault_at, notice_at, rare_at}
use Rattle.trace_check.proofs.FormLoop.{marks}
use Rattle.trace_check.proofs.FormLemmas.{bind_some, same_byte, size_of, form_text, is_form, form_takes, form_again}
use Rattle.trace_check.proofs.KindLemmas.{either, if_same, kind_takes, kind_again, two, three, five, small_one, small_more, below}

-- the text of an answer behind its addressee, with its line feed
abbrev pub spelled : Body → List ℕ
spelled (Frame frame) = form_text (codes "frame #\n") (frame ∷ [])
spelled (Freed order) = form_text (codes "freed #\n") (order ∷ [])
spelled (Bytes bytes) = codes "bytes " ++ (encode_lower bytes.items ++ 10 ∷ [])
spelled (Written count) = form_text (codes "written #\n") (count ∷ [])
spelled (Cache cache chunk order objects colours) =
    form_text (codes "cache # chunk # order # objects # colours #\n") (cache ∷ chunk ∷ order ∷ objects ∷ colours ∷ [])
spelled (Destroyed frames) = form_text (codes "destroyed #\n") (frames ∷ [])
spelled (Object place) = form_text (codes "object #\n") (place ∷ [])
spelled Given = form_text (codes "given\n") []
spelled (Reaped frames) = form_text (codes "reaped #\n") (frames ∷ [])
spelled (Refused refusal) = form_text (codes "refused # ") (number_of_refusal refusal ∷ []) ++ (name_of_refusal refusal ++ 10 ∷ [])
spelled (Granted tenant slot superblock) = form_text (codes "granted # slot # superblock #\n") (tenant ∷ slot ∷ superblock ∷ [])
spelled (TakenBack superblock) = form_text (codes "taken superblock #\n") (superblock ∷ [])
spelled (WasReset tenant superblocks) = form_text (codes "reset # superblocks #\n") (tenant ∷ superblocks ∷ [])
spelled (Moved tenant slot superblock) = form_text (codes "moved # slot # superblock #\n") (tenant ∷ slot ∷ superblock ∷ [])
spelled (Fault fault) = codes "fault " ++ (name_of_fault fault ++ 10 ∷ [])
spelled _ = []

-- the body of an answer: it is not a table, and `Bytes` has at most 64 bytes
abbrev pub IsAnswer : Body → Type 0
IsAnswer (Owners owners) = ⊥
IsAnswer (Report report) = ⊥
IsAnswer (Bytes bytes) = length bytes.items ≤ 64
IsAnswer _ = Unit {0}

-- the text is the text of this answer, and then `rest`
abbrev pub Takes : List ℕ → Body → List ℕ → Type 0
Takes text said rest = (text ≡ spelled said ++ rest) × IsAnswer said

takes : (form : List ℕ) (fits : List ℕ → Bool) (make : List ℕ → Body)
    → ((ns : List ℕ) → length ns ≡ marks form → (spelled (make ns) ≡ form_text form ns) × IsAnswer (make ns))
    → (text : List ℕ) (said : Body) (rest : List ℕ) → made_at form fits make text ≡ Some (said, rest) → Takes text said rest
takes form fits make says = kind_takes form fits make spelled IsAnswer (λ ns count fit. says ns count)

-- ---- refusals

found_passes : {A : Type 0} (p : A → Bool) (xs : List A) (x : A) → find p xs ≡ Some x → p x ≡ true
found_passes p [] x e = absurd cc
found_passes p (y ∷ xs) x e = step (p y) refl e (found_passes p xs x) where
  step : (test : Bool) → p y ≡ test → cond test (Some y) (find p xs) ≡ Some x → (find p xs ≡ Some x → p x ≡ true) → p x ≡ true
  step true is e later = ap p (sym (same_Some y x e)) ∙ is
  step false is e later = later e

-- the name of a refusal is a form without a `#`; `refusal_of` finds the refusal by its number, which is below 16
record IsNamed (refusal : Refusal) : Type 0 where
  good : is_form (name_of_refusal refusal) ≡ true
  none : 0 ≡ marks (name_of_refusal refusal)
  text : (ns : List ℕ) → form_text (name_of_refusal refusal) ns ≡ name_of_refusal refusal
  number : refusal_of (number_of_refusal refusal) ≡ Some refusal
  small : number_of_refusal refusal < 16

named : (refusal : Refusal) → IsNamed refusal
named NoFrames = record { good = refl; none = refl; text = λ ns. refl; number = refl; small = omega arith }
named _ = record { good = refl; none = refl; text = λ ns. refl; number = refl; small = omega arith }

name_again : (refusal : Refusal) (rest : List ℕ) → form_at (name_of_refusal refusal) (name_of_refusal refusal ++ rest) ≡ Some ([], rest)
name_again refusal rest =
    let name = name_of_refusal refusal in
    let is = named refusal in
    ap (λ text. form_at name (text ++ rest)) (sym (is.text [])) ∙ form_again name [] rest is.good is.none (All-nil (λ n. n < 2 ^ 32))

regroup : (a b rest : List ℕ) → (a ++ (b ++ 10 ∷ [])) ++ rest ≡ a ++ (b ++ 10 ∷ rest)
regroup a b rest = append_assoc a (b ++ 10 ∷ []) rest ∙ ap (λ t. a ++ t) (append_assoc b (10 ∷ []) rest)

pub ended_again : (rest : List ℕ) → form_at (codes "\n") (10 ∷ rest) ≡ Some ([], rest)
unfolding form_at mark_at
ended_again rest = refl

abbrev after_name : Refusal → List ℕ × List ℕ → Option (Body × List ℕ)
after_name refusal named = form_at (codes "\n") named.1 >>= (λ ended. Some (Refused refusal, ended.1))

abbrev after_refusal : List ℕ → Refusal → Option (Body × List ℕ)
after_refusal text refusal = form_at (name_of_refusal refusal) text >>= after_name refusal

abbrev after_refused : List ℕ × List ℕ → Option (Body × List ℕ)
after_refused found = refusal_of (get_or found.0 0 0) >>= after_refusal found.1

pub refused_takes : (text : List ℕ) (said : Body) (rest : List ℕ) → refused_at text ≡ Some (said, rest) → Takes text said rest
unfolding refused_at
refused_takes text said rest e =
    let (found, is, next) = bind_some (form_at (codes "refused # ") text) after_refused (said, rest) e in
    let (refusal, refusal_is, name_next) = bind_some (refusal_of (get_or found.0 0 0)) (after_refusal found.1) (said, rest) next in
    let (name_read, named_is, end_next) = bind_some (form_at (name_of_refusal refusal) found.1) (after_name refusal) (said, rest) name_next in
    let (ended, ended_is, last) = bind_some (form_at (codes "\n") name_read.1) (λ ended. Some (Refused refusal, ended.1)) (said, rest) end_next in
    let (said_is, rest_is) = some_pair_parts (Refused refusal) said ended.1 rest last in
    let number : number_of_refusal refusal ≡ get_or found.0 0 0 = same_byte (number_of_refusal refusal) (get_or found.0 0 0)
    (found_passes (λ refusal. number_of_refusal refusal == get_or found.0 0 0) REFUSALS refusal refusal_is) in
    let label = λ (n : ℕ). form_text (codes "refused # ") (n ∷ []) in
    let name = name_of_refusal refusal in
    let parts : text ≡ spelled said ++ rest =
    (form_takes (codes "refused # ") text found.0 found.1 is).0
    ∙ (λ i. label (sym number i)
    ++ ((form_takes name found.1 name_read.0 name_read.1 named_is).0 ∙ (λ j. (named refusal).text name_read.0 j ++ (form_takes (codes "\n") name_read.1 ended.0 ended.1 ended_is).0 j)) i)
    ∙ sym (regroup (label (number_of_refusal refusal)) name ended.1)
    ∙ (λ i. spelled (said_is i) ++ rest_is i) in
    (parts, subst IsAnswer said_is tt)

pub refused_again : (refusal : Refusal) (rest : List ℕ) → refused_at (spelled (Refused refusal) ++ rest) ≡ Some (Refused refusal, rest)
unfolding refused_at
refused_again refusal rest =
    let number = number_of_refusal refusal in
    let name = name_of_refusal refusal in
    let text = name ++ 10 ∷ rest in
    ap refused_at (regroup (form_text (codes "refused # ") (number ∷ [])) name rest)
    ∙ ap (λ found. found >>= after_refused) (form_again (codes "refused # ") (number ∷ []) text refl refl (small_one number (omega (arith, (named refusal).small))))
    ∙ ap (λ found. found >>= after_refusal text) (named refusal).number
    ∙ ap (λ named. named >>= after_name refusal) (name_again refusal (10 ∷ rest))
    ∙ ap (λ ended. ended >>= (λ ended. Some (Refused refusal, ended.1))) (ended_again rest)

-- ---- faults

fault_text : (fault : LineFault) (ns : List ℕ) → form_text (name_of_fault fault) ns ≡ name_of_fault fault
fault_text Long ns = refl
fault_text _ ns = refl

abbrev after_fault : LineFault → List ℕ × List ℕ → Option (Body × List ℕ)
after_fault fault named = form_at (codes "\n") named.1 >>= (λ ended. Some (Fault fault, ended.1))

abbrev after_fault_label : LineFault → List ℕ × List ℕ → Option (Body × List ℕ)
after_fault_label fault found = form_at (name_of_fault fault) found.1 >>= after_fault fault

fault_takes : (fault : LineFault) (text : List ℕ) (said : Body) (rest : List ℕ) → fault_at fault text ≡ Some (said, rest) → Takes text said rest
unfolding fault_at
fault_takes fault text said rest e =
    let (found, is, next) = bind_some (form_at (codes "fault ") text) (after_fault_label fault) (said, rest) e in
    let (named, named_is, end_next) = bind_some (form_at (name_of_fault fault) found.1) (after_fault fault) (said, rest) next in
    let (ended, ended_is, last) = bind_some (form_at (codes "\n") named.1) (λ ended. Some (Fault fault, ended.1)) (said, rest) end_next in
    let (said_is, rest_is) = some_pair_parts (Fault fault) said ended.1 rest last in
    let name = name_of_fault fault in (
      (form_takes (codes "fault ") text found.0 found.1 is).0
          ∙ ap (λ t. codes "fault " ++ t)
          ((form_takes name found.1 named.0 named.1 named_is).0
          ∙ (λ j. fault_text fault named.0 j ++ (form_takes (codes "\n") named.1 ended.0 ended.1 ended_is).0 j))
          ∙ sym (regroup (codes "fault ") name ended.1)
          ∙ (λ i. spelled (said_is i) ++ rest_is i),
      subst IsAnswer said_is tt,
    )

some_fault_takes : (text : List ℕ) (said : Body) (rest : List ℕ) → some_fault_at text ≡ Some (said, rest) → Takes text said rest
unfolding some_fault_at
some_fault_takes text said rest e =
    let x : Body × List ℕ = (said, rest) in
    either (fault_at Long text) (fault_at Unknown text or_else fault_at Words text or_else fault_at Number text or_else fault_at Hex text) x e (fault_takes Long text said rest) (λ e.
    either (fault_at Unknown text) (fault_at Words text or_else fault_at Number text or_else fault_at Hex text) x e (fault_takes Unknown text said rest) (λ e.
    either (fault_at Words text) (fault_at Number text or_else fault_at Hex text) x e (fault_takes Words text said rest) (λ e.
    either (fault_at Number text) (fault_at Hex text) x e (fault_takes Number text said rest) (fault_takes Hex text said rest))))

some_fault_again : (fault : LineFault) (rest : List ℕ) → some_fault_at (spelled (Fault fault) ++ rest) ≡ Some (Fault fault, rest)
unfolding some_fault_at fault_at form_at mark_at
some_fault_again Long rest = refl
some_fault_again _ rest = refl

-- ---- bytes

again_is : (word : List ℕ) (r : Result (List ℕ) FromHexError) (bytes : List ℕ) → bytes_again word r ≡ Some bytes
    → (r ≡ Ok bytes) × (encode_lower bytes ≡ word)
again_is word (Ok bs) bytes e =
    let (same, is) = cond_some (bytes_eq (encode_lower bs) word) bs bytes e in
    (ap (λ (xs : List ℕ). Ok xs) is, ap encode_lower (sym is) ∙ (bytes_eq-Decides (encode_lower bs) word).0 same)
again_is word (Err fault) bytes e = absurd cc

half : (n m : ℕ) → nat_le n 128 ≡ true → n ≡ 2 * m → m ≤ 64
half n m few twice = grind (arith, nat_tests)

-- if a word is read as bytes, decoding the word gives these bytes, encoding them gives the word, and there are at most 64
pub bytes_are : (word bytes : List ℕ) → bytes_of word ≡ Some bytes
    → (decode_of word ≡ Ok bytes) × (encode_lower bytes ≡ word) × (length bytes ≤ 64)
unfolding bytes_of
bytes_are word bytes e =
    let (few, again) = if_same (nat_le (length word) 128) (bytes_again word (decode_of word)) bytes e in
    let (decoded, is) = again_is word (decode_of word) bytes again in
    (decoded, is, half (length word) (length bytes) few (decode_of-ok word bytes decoded).2)

abbrev line_size : List ℕ → ℕ
line_size text = length (take_while (λ b. not (b == 10)) text)

abbrev told_bytes : List ℕ → Body
told_bytes bytes = Bytes (record { items = bytes })

abbrev after_hex : List ℕ → List ℕ → Option (Body × List ℕ)
after_hex text bytes = form_at (codes "\n") text >>= (λ ended. Some (told_bytes bytes, ended.1))

abbrev after_label : List ℕ × List ℕ → Option (Body × List ℕ)
after_label found = bytes_of (take (line_size found.1) found.1) >>= after_hex (drop (line_size found.1) found.1)

pub bytes_takes : (text : List ℕ) (said : Body) (rest : List ℕ) → bytes_at text ≡ Some (said, rest) → Takes text said rest
unfolding bytes_at
bytes_takes text said rest e =
    let (found, is, next) = bind_some (form_at (codes "bytes ") text) after_label (said, rest) e in
    let size = line_size found.1 in
    let (bytes, found_bytes, end_next) = bind_some (bytes_of (take size found.1)) (after_hex (drop size found.1)) (said, rest) next in
    let (ended, ended_is, last) = bind_some (form_at (codes "\n") (drop size found.1)) (λ ended. Some (told_bytes bytes, ended.1)) (said, rest) end_next in
    let (said_is, rest_is) = some_pair_parts (told_bytes bytes) said ended.1 rest last in
    let (decoded, word_is, few) = bytes_are (take size found.1) bytes found_bytes in
    let parts : text ≡ spelled said ++ rest =
    (form_takes (codes "bytes ") text found.0 found.1 is).0
    ∙ ap (λ t. codes "bytes " ++ t)
    (sym (take-append-drop size found.1)
    ∙ (λ i. sym word_is i ++ (form_takes (codes "\n") (drop size found.1) ended.0 ended.1 ended_is).0 i))
    ∙ sym (regroup (codes "bytes ") (encode_lower bytes) ended.1)
    ∙ (λ i. spelled (said_is i) ++ rest_is i) in
    (parts, subst IsAnswer said_is few)

are_bytes : (bs : List ℕ) → AllByRecursion (λ b. b < 2 ^ 8) bs → IsBytes bs
are_bytes [] small i = omega arith
are_bytes (b ∷ bs) small zero = small.0
are_bytes (b ∷ bs) small (suc i) = are_bytes bs small.1 i

no_line_feed : (b : ℕ) → is_hex_digit b ≡ true → not (b == 10) ≡ true
no_line_feed b digit = grind (arith, nat_tests)

pub few_digits : (n : ℕ) → n ≤ 128 → nat_le n 128 ≡ true
few_digits n few = grind (arith, nat_tests)

label_again : (rest : List ℕ) → form_at (codes "bytes ") (codes "bytes " ++ rest) ≡ Some ([], rest)
unfolding form_at mark_at
label_again rest = refl

pub bytes_again_of : (bytes : ArrayVec ℕ) (rest : List ℕ) → AllByRecursion (λ b. b < 2 ^ 8) bytes.items → length bytes.items ≤ 64
    → bytes_at (spelled (Bytes bytes) ++ rest) ≡ Some (Bytes bytes, rest)
unfolding bytes_at bytes_of
bytes_again_of bytes rest small few =
    let hex = encode_lower bytes.items in
    let text = hex ++ 10 ∷ rest in
    let decoded : decode_of hex ≡ Ok bytes.items = decode_of-encode_lower bytes.items (are_bytes bytes.items small) in
    let (even, digits, twice, fit) = decode_of-ok hex bytes.items decoded in
    let all : list_all (λ b. not (b == 10)) hex ≡ true =
    list_all-from_AllPass (λ b. not (b == 10)) hex (All-weaker (λ b. is_hex_digit b ≡ true) (λ b. not (b == 10) ≡ true) no_line_feed hex digits) in
    let read : bytes_of hex ≡ Some bytes.items =
    ap (λ test. cond test (bytes_again hex (decode_of hex)) None) (few_digits (length hex) (omega (arith, twice, few)))
    ∙ ap (bytes_again hex) decoded
    ∙ ap (λ test. cond test (Some bytes.items) None) ((bytes_eq-Decides hex hex).1 refl) in
    ap bytes_at (regroup (codes "bytes ") hex rest)
    ∙ ap (λ found. found >>= after_label) (label_again text)
    ∙ ap (λ size. bytes_of (take size text) >>= after_hex (drop size text)) (size_of (λ b. not (b == 10)) hex (10 ∷ rest) all refl)
    ∙ (λ i. bytes_of (take_at hex (10 ∷ rest) (length hex) refl i) >>= after_hex (drop_at hex (10 ∷ rest) (length hex) refl i))
    ∙ ap (λ found. found >>= after_hex (10 ∷ rest)) read
    ∙ ap (λ ended. ended >>= (λ ended. Some (Bytes bytes, ended.1))) (ended_again rest)

-- ---- all of them

-- the first match of these alternatives, in order; the last alternative is `some_fault_at`
abbrev first_of : List (List ℕ → Option (Body × List ℕ)) → List ℕ → Option (Body × List ℕ)
first_of [] text = some_fault_at text
first_of (kind ∷ kinds) text = kind text or_else first_of kinds text

abbrev kinds : List (List ℕ → Option (Body × List ℕ))
kinds =
    bytes_at ∷ written_at ∷ frame_at ∷ freed_at ∷ object_at ∷ given_at ∷ refused_at ∷ cache_at ∷ destroyed_at ∷ reaped_at ∷ granted_at ∷ taken_at
    ∷ reset_at ∷ moved_at ∷ []

abbrev AllTake : List (List ℕ → Option (Body × List ℕ)) → Type 0
AllTake [] = Unit {0}
AllTake (kind ∷ kinds) = ((text : List ℕ) (said : Body) (rest : List ℕ) → kind text ≡ Some (said, rest) → Takes text said rest) × AllTake kinds

first_takes : (kinds : List (List ℕ → Option (Body × List ℕ))) → AllTake kinds → (text : List ℕ) (said : Body) (rest : List ℕ)
    → first_of kinds text ≡ Some (said, rest) → Takes text said rest
first_takes [] all text said rest e = some_fault_takes text said rest e
first_takes (kind ∷ kinds) all text said rest e =
    let x : Body × List ℕ = (said, rest) in
    either (kind text) (first_of kinds text) x e (all.0 text said rest) (first_takes kinds all.1 text said rest)

infixr 10 ◌also◌
abbrev ◌also◌ : {A B : Type 0} → A → B → A × B
a also b = (a, b)

all_take : AllTake kinds
unfolding written_at frame_at freed_at object_at given_at cache_at destroyed_at reaped_at granted_at taken_at reset_at moved_at
all_take =
    bytes_takes
    also takes (codes "written #\n") (λ ns. true) (λ ns. Written (get_or ns 0 0)) (λ ns count. (refl, tt))
    also takes (codes "frame #\n") (λ ns. true) (λ ns. Frame (get_or ns 0 0)) (λ ns count. (refl, tt))
    also takes (codes "freed #\n") (λ ns. nat_lt (get_or ns 0 0) (2 ^ 8)) (λ ns. Freed (get_or ns 0 0)) (λ ns count. (refl, tt))
    also takes (codes "object #\n") (λ ns. true) (λ ns. Object (get_or ns 0 0)) (λ ns count. (refl, tt))
    also takes (codes "given\n") (λ ns. true) (λ ns. Given) (λ ns count. (refl, tt))
    also refused_takes
    also takes (codes "cache # chunk # order # objects # colours #\n") (λ ns. nat_lt (get_or ns 0 0) (2 ^ 8) && nat_lt (get_or ns 2 0) (2 ^ 8))
    (λ ns. Cache (get_or ns 0 0) (get_or ns 1 0) (get_or ns 2 0) (get_or ns 3 0) (get_or ns 4 0))
    (λ ns count. (ap (form_text (codes "cache # chunk # order # objects # colours #\n")) (five ns count), tt))
    also takes (codes "destroyed #\n") (λ ns. true) (λ ns. Destroyed (get_or ns 0 0)) (λ ns count. (refl, tt))
    also takes (codes "reaped #\n") (λ ns. true) (λ ns. Reaped (get_or ns 0 0)) (λ ns count. (refl, tt))
    also takes (codes "granted # slot # superblock #\n") fit_place (λ ns. Granted (get_or ns 0 0) (get_or ns 1 0) (get_or ns 2 0))
    (λ ns count. (ap (form_text (codes "granted # slot # superblock #\n")) (three ns count), tt))
    also takes (codes "taken superblock #\n") (λ ns. nat_lt (get_or ns 0 0) (2 ^ 16)) (λ ns. TakenBack (get_or ns 0 0)) (λ ns count. (refl, tt))
    also takes (codes "reset # superblocks #\n") fit_tenant (λ ns. WasReset (get_or ns 0 0) (get_or ns 1 0))
    (λ ns count. (ap (form_text (codes "reset # superblocks #\n")) (two ns count), tt))
    also takes (codes "moved # slot # superblock #\n") fit_place (λ ns. Moved (get_or ns 0 0) (get_or ns 1 0) (get_or ns 2 0))
    (λ ns count. (ap (form_text (codes "moved # slot # superblock #\n")) (three ns count), tt))
    also tt

pub said_takes : (text : List ℕ) (said : Body) (rest : List ℕ) → any_answer_at text ≡ Some (said, rest) → Takes text said rest
unfolding any_answer_at rare_at notice_at
said_takes = first_takes kinds all_take

-- `first_of kinds text`, if the kinds before index `count - 1` find nothing in `text`, and the kind at that index finds `found`
abbrev then : ℕ → List ℕ → Option (Body × List ℕ) → Option (Body × List ℕ)
then count text found = found or_else first_of (drop count kinds) text

one_again : (form : List ℕ) (fits : List ℕ → Bool) (say : ℕ → Body) (n : ℕ) (rest : List ℕ) → is_form form ≡ true → 1 ≡ marks form → n < 2 ^ 32
    → fits (n ∷ []) ≡ true → made_at form fits (λ ns. say (get_or ns 0 0)) (form_text form (n ∷ []) ++ rest) ≡ Some (say n, rest)
one_again form fits say n rest good one small = kind_again form fits (λ ns. say (get_or ns 0 0)) (n ∷ []) rest good one (small_one n small)

place_again : (form : List ℕ) (say : ℕ → ℕ → ℕ → Body) (a b c : ℕ) (rest : List ℕ) → is_form form ≡ true → 3 ≡ marks form → a < 2 ^ 8 → b < 2 ^ 16 → c < 2 ^ 16
    → made_at form fit_place (λ ns. say (get_or ns 0 0) (get_or ns 1 0) (get_or ns 2 0)) (form_text form (a ∷ b ∷ c ∷ []) ++ rest) ≡ Some (say a b c, rest)
place_again form say a b c rest good three small_a small_b small_c =
    kind_again form fit_place (λ ns. say (get_or ns 0 0) (get_or ns 1 0) (get_or ns 2 0)) (a ∷ b ∷ c ∷ []) rest good three
    (small_more a (b ∷ c ∷ []) (omega arith) (small_more b (c ∷ []) (omega arith) (small_one c (omega arith))))
    (λ i. below a (2 ^ 8) small_a i && (below b (2 ^ 16) small_b i && below c (2 ^ 16) small_c i))

pub said_again : (said : Body) (rest : List ℕ) → IsAnswer said → BodyFits said → any_answer_at (spelled said ++ rest) ≡ Some (said, rest)
unfolding any_answer_at rare_at notice_at written_at bytes_at frame_at freed_at object_at given_at refused_at cache_at destroyed_at reaped_at granted_at taken_at reset_at moved_at form_at mark_at
said_again (Bytes bytes) rest answers fits = ap (then 1 (spelled (Bytes bytes) ++ rest)) (bytes_again_of bytes rest fits.0 fits.1)
said_again (Written n) rest answers fits = ap (then 2 (spelled (Written n) ++ rest)) (one_again (codes "written #\n") (λ ns. true) Written n rest refl refl fits refl)
said_again (Frame n) rest answers fits = ap (then 3 (spelled (Frame n) ++ rest)) (one_again (codes "frame #\n") (λ ns. true) Frame n rest refl refl fits refl)
said_again (Freed n) rest answers fits =
    ap (then 4 (spelled (Freed n) ++ rest))
    (one_again (codes "freed #\n") (λ ns. nat_lt (get_or ns 0 0) (2 ^ 8)) Freed n rest refl refl (omega (arith, fits)) (below n (2 ^ 8) fits))
said_again (Object n) rest answers fits = ap (then 5 (spelled (Object n) ++ rest)) (one_again (codes "object #\n") (λ ns. true) Object n rest refl refl fits refl)
said_again Given rest answers fits = refl
said_again (Refused refusal) rest answers fits = ap (then 7 (spelled (Refused refusal) ++ rest)) (refused_again refusal rest)
said_again (Cache a b c d e) rest answers (small_a, small_b, small_c, small_d, small_e) =
    ap (then 8 (spelled (Cache a b c d e) ++ rest))
    (kind_again (codes "cache # chunk # order # objects # colours #\n") (λ ns. nat_lt (get_or ns 0 0) (2 ^ 8) && nat_lt (get_or ns 2 0) (2 ^ 8))
    (λ ns. Cache (get_or ns 0 0) (get_or ns 1 0) (get_or ns 2 0) (get_or ns 3 0) (get_or ns 4 0)) (a ∷ b ∷ c ∷ d ∷ e ∷ []) rest refl refl
    (small_more a (b ∷ c ∷ d ∷ e ∷ []) (omega arith) (small_more b (c ∷ d ∷ e ∷ []) small_b (small_more c (d ∷ e ∷ []) (omega arith) (small_more d (e ∷ []) small_d (small_one e small_e)))))
    (λ i. below a (2 ^ 8) small_a i && below c (2 ^ 8) small_c i))
said_again (Destroyed n) rest answers fits = ap (then 9 (spelled (Destroyed n) ++ rest)) (one_again (codes "destroyed #\n") (λ ns. true) Destroyed n rest refl refl fits refl)
said_again (Reaped n) rest answers fits = ap (then 10 (spelled (Reaped n) ++ rest)) (one_again (codes "reaped #\n") (λ ns. true) Reaped n rest refl refl fits refl)
said_again (Granted a b c) rest answers (small_a, small_b, small_c) =
    ap (then 11 (spelled (Granted a b c) ++ rest)) (place_again (codes "granted # slot # superblock #\n") Granted a b c rest refl refl small_a small_b small_c)
said_again (TakenBack n) rest answers fits =
    ap (then 12 (spelled (TakenBack n) ++ rest))
    (one_again (codes "taken superblock #\n") (λ ns. nat_lt (get_or ns 0 0) (2 ^ 16)) TakenBack n rest refl refl (omega (arith, fits)) (below n (2 ^ 16) fits))
said_again (WasReset a b) rest answers (small_a, small_b) =
    ap (then 13 (spelled (WasReset a b) ++ rest))
    (kind_again (codes "reset # superblocks #\n") fit_tenant (λ ns. WasReset (get_or ns 0 0) (get_or ns 1 0)) (a ∷ b ∷ []) rest refl refl
    (small_more a (b ∷ []) (omega arith) (small_one b (omega arith))) (λ i. below a (2 ^ 8) small_a i && below b (2 ^ 16) small_b i))
said_again (Moved a b c) rest answers (small_a, small_b, small_c) =
    ap (then 14 (spelled (Moved a b c) ++ rest)) (place_again (codes "moved # slot # superblock #\n") Moved a b c rest refl refl small_a small_b small_c)
said_again (Fault fault) rest answers fits = some_fault_again fault rest
said_again (Owners owners) rest answers fits = absurd answers
said_again (Report report) rest answers fits = absurd answers
