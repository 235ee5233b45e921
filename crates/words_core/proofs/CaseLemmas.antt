-- Each line is in exactly one case. Functions compute the number of a case and a meaning from the line, and every case that the
-- line is in has this number and meaning.
use Rattle.std.proofs.Common.{◌≡◌, ◌^◌, ◌⊎◌, inl, inr, ℕ, suc, Bool, true, false, ◌&&◌, nat_lt, nat_le, zero, ◌==◌, if◌then◌else◌, List, [], ◌∷◌, codes, length, slice_index, Option, Some, None, Result, Ok, Err, refl, sym, ◌∙◌, ap, subst, arith}
use Rattle.std.specs.Bool.{Decides}
use Rattle.std.specs.List.{All, Contains}
use Rattle.std.specs.Str.{bytes_eq}
use Rattle.std.specs.Str.Lines.{strip_carriage_return}
use Rattle.std.proofs.lemmas.Bool.Decides.{Decides-eqb, nat_tests, not_from_Decides}
use Rattle.std.proofs.lemmas.List.Elements.{All-contains, All-from_recursion}
use Rattle.std.proofs.lemmas.Slice.Eq.{bytes_eq-Decides}
use Rattle.std.proofs.lemmas.Bool.{cases_Bool}
use Rattle.words_core.specs.Cases.{IsComment, Names, AsksFor, FirstFault, AllMake, CaseOfWords, blank, comment, nobody, alone, no_command, wrong_count, faulty, event, CaseOfBytes, too_long, of_words, Case, Says}
use Rattle.words_core.specs.Commands.{or_fault, Form, Given, Maker, CommandRow, read_as, Actor, administrator, tenant, CommandOf, admin_rows, tenant_rows, command_rows, event_by, nobody_fault}
use Rattle.words_core.specs.Grammar.{◌>>=◌, are_as_many, made_of, command_by, command_of, command_in_words, tenant_of, actor_of, event_of, reading_of_words, reading_within, reading_of}
use Rattle.words_core.specs.Numbers.{value_of, number_of}
use Rattle.words_core.specs.Words.{words_of}
use Rattle.words_core.specs.declared.numbers.TheConstants.{MAX_DIGITS}
use Rattle.words_core.specs.declared.line.TheConstants.{MAX_LINE_BYTES}
use Rattle.words_core.specs.declared.event.AdminCommand.{AdminCommand}
use Rattle.words_core.specs.declared.event.Command.{Command}
use Rattle.words_core.specs.declared.event.Event.{Event}
use Rattle.words_core.specs.declared.event.LineFault.{LineFault}
use Rattle.words_core.specs.declared.event.LineFault.TheVariants.{Long, Unknown, Words}
use Rattle.words_core.proofs.WordLemmas.{words_of-has, has-words_of}

-- ---- the number of a case, computed

abbrev made_case : {C : Type 0} → Result C LineFault → ℕ
made_case (Ok command) = 8
made_case (Err fault) = 7

abbrev row_case : {C : Type 0} → List (List ℕ) → CommandRow C → ℕ
row_case arguments row = if are_as_many row.forms arguments then made_case (made_of row.forms row.makes arguments) else 6

-- `found` of the first row with this word, or `none` if no row has it
abbrev at_row : {C D : Type 0} → List (CommandRow C) → List ℕ → (CommandRow C → D) → D → D
at_row [] word found none = none
at_row (row ∷ rows) word found none = if bytes_eq word row.word then found row else at_row rows word found none

abbrev asked_case : {C : Type 0} → List (CommandRow C) → List (List ℕ) → ℕ
asked_case rows [] = 4
asked_case rows (word ∷ arguments) = at_row rows word (row_case arguments) 5

abbrev actor_case : Result Actor LineFault → List (List ℕ) → ℕ
actor_case (Ok actor) rest = asked_case (command_rows actor) rest
actor_case (Err fault) rest = 3

abbrev words_case : List (List ℕ) → ℕ
words_case [] = 2
words_case (first ∷ rest) = if slice_index first 0 == 35 then 2 else actor_case (actor_of first) rest

-- ---- the first word

-- if a test decides P, and P does not hold, the test is false
refused : {P : Type 0} (b : Bool) → Decides b P → (P → ⊥) → b ≡ false
refused true decides never = absurd (never (decides.0 refl))
refused false decides never = refl

fails_third : (a b c : Bool) → (a && b && false && c) ≡ false
fails_third true true c = refl
fails_third true false c = refl
fails_third false b c = refl

comment_is_no_number : (word : List ℕ) → IsComment word → number_of word ≡ None
comment_is_no_number [] is = refl
comment_is_no_number (b ∷ bytes) is = subst (λ (first : ℕ). number_of (first ∷ bytes) ≡ None) (sym is)
    (ap (λ test. if test then Some (value_of (35 ∷ bytes)) else None)
    (fails_third (nat_lt 0 (length (35 ∷ bytes))) (nat_le (length (35 ∷ bytes)) MAX_DIGITS) (nat_lt (value_of (35 ∷ bytes)) (2 ^ 32))))

names_no_comment : (word : List ℕ) (actor : Actor) → Names word actor → IsComment word → ⊥
names_no_comment word administrator names is =
    let first : slice_index (codes "admin") 0 ≡ 35 = sym (ap (λ bytes. slice_index bytes 0) names) ∙ is in
    omega (arith, first)
names_no_comment word (tenant t) names is =
    let both : Some t ≡ None = sym names ∙ comment_is_no_number word is in cc

number_is_not_admin : (word : List ℕ) (t : ℕ) → number_of word ≡ Some t → word ≡ codes "admin" → ⊥
number_is_not_admin word t number admin =
    let both : None ≡ Some t = sym (ap number_of admin) ∙ number in cc

-- if the first word is not `admin`, `actor_of` returns the tenant whose number it is, or a fault if it is not a number
actor_of-other : (word : List ℕ) (number : Option ℕ) → (word ≡ codes "admin" → ⊥) → number_of word ≡ number
    → actor_of word ≡ (or_fault number (nobody_fault word) >>= (λ t. Ok (tenant t)))
actor_of-other word number other is =
    ap (λ test. if test then Ok administrator else (tenant_of word >>= (λ t. Ok (tenant t)))) (refused _ (bytes_eq-Decides word (codes "admin")) other)
    ∙ ap (λ found. or_fault found (nobody_fault word) >>= (λ t. Ok (tenant t))) is

actor_of-named : (word : List ℕ) (actor : Actor) → Names word actor → actor_of word ≡ Ok actor
actor_of-named word administrator names = ap actor_of names
actor_of-named word (tenant t) names = actor_of-other word (Some t) (number_is_not_admin word t names) names

actor_of-nobody : (word : List ℕ) → ((actor : Actor) → Names word actor → ⊥) → actor_of word ≡ Err (nobody_fault word)
actor_of-nobody word none = actor_of-other word None (none administrator) (no_number (number_of word) refl) where
  no_number : (number : Option ℕ) → number_of word ≡ number → number_of word ≡ None
  no_number (Some t) is = absurd (none (tenant t) is)
  no_number None is = is

named_or_nobody : (word : List ℕ) → ((actor : Actor) × Names word actor) ⊎ ((actor : Actor) → Names word actor → ⊥)
named_or_nobody word = by (cases_Bool (bytes_eq word (codes "admin"))) (number_of word) refl where
  neither : bytes_eq word (codes "admin") ≡ false → number_of word ≡ None → (actor : Actor) → Names word actor → ⊥
  neither other none administrator names = not_from_Decides _ (bytes_eq-Decides word (codes "admin")) other names
  neither other none (tenant t) names = let both : Some t ≡ None = sym names ∙ none in cc

  by : (bytes_eq word (codes "admin") ≡ true) ⊎ (bytes_eq word (codes "admin") ≡ false) → (number : Option ℕ) → number_of word ≡ number
      → ((actor : Actor) × Names word actor) ⊎ ((actor : Actor) → Names word actor → ⊥)
  by (inl same) number is = inl (administrator, (bytes_eq-Decides word (codes "admin")).0 same)
  by (inr other) (Some t) is = inl (tenant t, is)
  by (inr other) None is = inr (neither other is)

-- ---- the second word

contains_first : {X : Type 0} (x : X) (xs : List X) → Contains (x ∷ xs) x
contains_first x xs = (0, omega arith, refl)

contains_later : {X : Type 0} (x y : X) (xs : List X) → Contains xs y → Contains (x ∷ xs) y
contains_later x y xs (k, below, is) = (suc k, omega (arith, below), is)

command_of-at_row : {C : Type 0} (rows : List (CommandRow C)) (word : List ℕ) (arguments : List (List ℕ))
    → command_of rows word arguments ≡ at_row rows word (λ row. command_by row arguments) (Err Unknown)
command_of-at_row [] word arguments = refl
command_of-at_row (row ∷ rows) word arguments =
    ap (λ rest. if bytes_eq word row.word then command_by row arguments else rest) (command_of-at_row rows word arguments)

module _ {D : Type 0} (none : D) where
  at_row-admin : (found : CommandRow AdminCommand → D) → All (λ row. at_row admin_rows row.word found none ≡ found row) admin_rows
  at_row-admin found = All-from_recursion (λ (row : CommandRow AdminCommand). at_row admin_rows row.word found none ≡ found row) admin_rows
      (refl, (refl, (refl, (refl, (refl, tt)))))

  at_row-tenant : (found : CommandRow Command → D) → All (λ row. at_row tenant_rows row.word found none ≡ found row) tenant_rows
  at_row-tenant found = All-from_recursion (λ (row : CommandRow Command). at_row tenant_rows row.word found none ≡ found row) tenant_rows
      (refl, (refl, (refl, (refl, (refl, (refl, (refl, (refl, (refl, (refl, tt))))))))))

  -- if a row of the actor's table has this word, `at_row` returns `found` of this row
  at_row-found : (actor : Actor) (word : List ℕ) (row : CommandRow (CommandOf actor)) (found : CommandRow (CommandOf actor) → D)
      → AsksFor actor word row → at_row (command_rows actor) word found none ≡ found row
  at_row-found administrator word row found (has, is) =
      ap (λ w. at_row admin_rows w found none) is
      ∙ All-contains (λ (row : CommandRow AdminCommand). at_row admin_rows row.word found none ≡ found row) admin_rows row (at_row-admin found) has
  at_row-found (tenant t) word row found (has, is) =
      ap (λ w. at_row tenant_rows w found none) is
      ∙ All-contains (λ (row : CommandRow Command). at_row tenant_rows row.word found none ≡ found row) tenant_rows row (at_row-tenant found) has

at_row-none : {C D : Type 0} (rows : List (CommandRow C)) (word : List ℕ) (found : CommandRow C → D) (none : D)
    → ((row : CommandRow C) → Contains rows row × (word ≡ row.word) → ⊥) → at_row rows word found none ≡ none
at_row-none [] word found none never = refl
at_row-none (row ∷ rows) word found none never =
    ap (λ test. if test then found row else at_row rows word found none)
    (refused _ (bytes_eq-Decides word row.word) (λ same. never row (contains_first row rows, same)))
    ∙ at_row-none rows word found none (λ later (has, same). never later (contains_later row later rows has, same))

row_or_none : {C : Type 0} (rows : List (CommandRow C)) (word : List ℕ)
    → ((row : CommandRow C) × (Contains rows row × (word ≡ row.word))) ⊎ ((row : CommandRow C) → Contains rows row × (word ≡ row.word) → ⊥)
row_or_none {C} [] word = inr none where
  none : (row : CommandRow C) → Contains [] row × (word ≡ row.word) → ⊥
  none row ((k, below, is), same) = omega (arith, below)
row_or_none {C} (first ∷ rows) word = by (cases_Bool (bytes_eq word first.word)) (row_or_none rows word) where
  neither : bytes_eq word first.word ≡ false → ((row : CommandRow C) → Contains rows row × (word ≡ row.word) → ⊥)
      → (row : CommandRow C) → Contains (first ∷ rows) row × (word ≡ row.word) → ⊥
  neither other never row ((zero, below, is), same) =
      not_from_Decides _ (bytes_eq-Decides word first.word) other (same ∙ ap (λ (r : CommandRow C). r.word) (sym is))
  neither other never row ((suc k, below, is), same) = never row ((k, omega (arith, below), is), same)

  by : (bytes_eq word first.word ≡ true) ⊎ (bytes_eq word first.word ≡ false)
      → ((row : CommandRow C) × (Contains rows row × (word ≡ row.word))) ⊎ ((row : CommandRow C) → Contains rows row × (word ≡ row.word) → ⊥)
      → ((row : CommandRow C) × (Contains (first ∷ rows) row × (word ≡ row.word))) ⊎ ((row : CommandRow C) → Contains (first ∷ rows) row × (word ≡ row.word) → ⊥)
  by (inl same) rest = inl (first, (contains_first first rows, (bytes_eq-Decides word first.word).0 same))
  by (inr other) (inl (row, (has, same))) = inl (row, (contains_later first row rows has, same))
  by (inr other) (inr never) = inr (neither other never)

-- ---- the arguments

as_many : (forms : List Form) (words : List (List ℕ)) → length words ≡ length forms → are_as_many forms words ≡ true
as_many [] [] same = refl
as_many [] (word ∷ words) same = absurd (omega (arith, same))
as_many (form ∷ forms) [] same = absurd (omega (arith, same))
as_many (form ∷ forms) (word ∷ words) same = as_many forms words (omega (arith, same))

not_as_many : (forms : List Form) (words : List (List ℕ)) → (length words ≡ length forms → ⊥) → are_as_many forms words ≡ false
not_as_many [] [] differ = absurd (differ refl)
not_as_many [] (word ∷ words) differ = refl
not_as_many (form ∷ forms) [] differ = refl
not_as_many (form ∷ forms) (word ∷ words) differ = not_as_many forms words (λ same. differ (ap suc same))

made_of-fault : {C : Type 0} (forms : List Form) (makes : Maker forms C) (words : List (List ℕ)) (fault : LineFault)
    → FirstFault forms words fault → made_of forms makes words ≡ Err fault
made_of-fault [] makes words fault first = absurd first
made_of-fault (form ∷ forms) makes [] fault first = absurd first
made_of-fault (form ∷ forms) makes (word ∷ words) fault (inl is) = ap (λ read. read >>= (λ value. made_of forms (makes value) words)) is
made_of-fault (form ∷ forms) makes (word ∷ words) fault (inr (value, is, later)) =
    ap (λ read. read >>= (λ value. made_of forms (makes value) words)) is ∙ made_of-fault forms (makes value) words fault later

made_of-command : {C : Type 0} (forms : List Form) (makes : Maker forms C) (words : List (List ℕ)) (command : C)
    → AllMake forms makes words command → (are_as_many forms words ≡ true) × (made_of forms makes words ≡ Ok command)
made_of-command [] made [] command is = (refl, ap Ok is)
made_of-command [] made (word ∷ words) command make = absurd make
made_of-command (form ∷ forms) makes [] command make = absurd make
made_of-command (form ∷ forms) makes (word ∷ words) command (value, is, later) =
    let (many, made) = made_of-command forms (makes value) words command later in
    (many, ap (λ read. read >>= (λ value. made_of forms (makes value) words)) is ∙ made)

fault_or_command : {C : Type 0} (forms : List Form) (makes : Maker forms C) (words : List (List ℕ)) → length words ≡ length forms
    → ((fault : LineFault) × FirstFault forms words fault) ⊎ ((command : C) × AllMake forms makes words command)
fault_or_command [] made [] same = inr (made, refl)
fault_or_command [] made (word ∷ words) same = absurd (omega (arith, same))
fault_or_command (form ∷ forms) makes [] same = absurd (omega (arith, same))
fault_or_command {C} (form ∷ forms) makes (word ∷ words) same =
    by (read_as form word) refl (λ value. fault_or_command forms (makes value) words (omega (arith, same))) where
      after : (value : Given form) → read_as form word ≡ Ok value
          → ((fault : LineFault) × FirstFault forms words fault) ⊎ ((command : C) × AllMake forms (makes value) words command)
          → ((fault : LineFault) × FirstFault (form ∷ forms) (word ∷ words) fault) ⊎ ((command : C) × AllMake (form ∷ forms) makes (word ∷ words) command)
      after value is (inl (fault, later)) = inl (fault, inr (value, is, later))
      after value is (inr (command, later)) = inr (command, (value, is, later))

      by : (read : Result (Given form) LineFault) → read_as form word ≡ read
          → ((value : Given form) → ((fault : LineFault) × FirstFault forms words fault) ⊎ ((command : C) × AllMake forms (makes value) words command))
          → ((fault : LineFault) × FirstFault (form ∷ forms) (word ∷ words) fault) ⊎ ((command : C) × AllMake (form ∷ forms) makes (word ∷ words) command)
      by (Ok value) is rest = after value is (rest value)
      by (Err fault) is rest = inl (fault, inl is)

-- ---- each case has the computed number and meaning

abbrev said_by : (actor : Actor) → Result (CommandOf actor) LineFault → Result (Option Event) LineFault
said_by actor asked = (asked >>= (λ command. Ok (event_by actor command))) >>= (λ event. Ok (Some event))

named : (first : List ℕ) (rest : List (List ℕ)) (actor : Actor) (number : ℕ) (asked : Result (CommandOf actor) LineFault) → Names first actor
    → asked_case (command_rows actor) rest ≡ number → command_in_words (command_rows actor) rest ≡ asked
    → (words_case (first ∷ rest) ≡ number) × (reading_of_words (first ∷ rest) ≡ said_by actor asked)
unfolding reading_of_words event_of
named first rest actor number asked names number_is asked_is =
    let no_comment : (slice_index first 0 == 35) ≡ false = refused _ (Decides-eqb (slice_index first 0) 35) (names_no_comment first actor names) in
    let names_actor : actor_of first ≡ Ok actor = actor_of-named first actor names in (
      ap (λ test. if test then 2 else actor_case (actor_of first) rest) no_comment
          ∙ ap (λ found. actor_case found rest) names_actor
          ∙ number_is,
      ap (λ test. if test then Ok None else (event_of first rest >>= (λ event. Ok (Some event)))) no_comment
          ∙ ap (λ found. (found >>= (λ actor. command_in_words (command_rows actor) rest >>= (λ command. Ok (event_by actor command)))) >>= (λ event. Ok (Some event))) names_actor
          ∙ ap (said_by actor) asked_is,
    )

of_row : (first word : List ℕ) (arguments : List (List ℕ)) (actor : Actor) (row : CommandRow (CommandOf actor)) (many : Bool)
    (made : Result (CommandOf actor) LineFault) → Names first actor → AsksFor actor word row
    → are_as_many row.forms arguments ≡ many → made_of row.forms row.makes arguments ≡ made
    → (words_case (first ∷ word ∷ arguments) ≡ (if many then made_case made else 6))
    × (reading_of_words (first ∷ word ∷ arguments) ≡ said_by actor (if many then made else Err Words))
of_row first word arguments actor row many made names asks many_is made_is =
    named first (word ∷ arguments) actor _ _ names
    (at_row-found 5 actor word row (row_case arguments) asks
    ∙ ap (λ test. if test then made_case (made_of row.forms row.makes arguments) else 6) many_is
    ∙ ap (λ found. if many then made_case found else 6) made_is)
    (command_of-at_row (command_rows actor) word arguments
    ∙ at_row-found (Err Unknown) actor word row (λ row. command_by row arguments) asks
    ∙ ap (λ test. if test then made_of row.forms row.makes arguments else Err Words) many_is
    ∙ ap (λ found. if many then found else Err Words) made_is)

only_of_words : (number : ℕ) (words : List (List ℕ)) (reading : Result (Option Event) LineFault) → CaseOfWords number words reading
    → (words_case words ≡ number) × (reading_of_words words ≡ reading)
unfolding reading_of_words event_of
only_of_words number words reading blank = (refl, refl)
only_of_words number words reading (comment {first} {rest} is) =
    let test : (slice_index first 0 == 35) ≡ true = (Decides-eqb (slice_index first 0) 35).1 is in (
      ap (λ test. if test then 2 else actor_case (actor_of first) rest) test,
      ap (λ test. if test then Ok None else (event_of first rest >>= (λ event. Ok (Some event)))) test,
    )
only_of_words number words reading (nobody {first} {rest} no_comment none) =
    let test : (slice_index first 0 == 35) ≡ false = refused _ (Decides-eqb (slice_index first 0) 35) no_comment in
    let nobody : actor_of first ≡ Err (nobody_fault first) = actor_of-nobody first none in (
      ap (λ test. if test then 2 else actor_case (actor_of first) rest) test ∙ ap (λ found. actor_case found rest) nobody,
      ap (λ test. if test then Ok None else (event_of first rest >>= (λ event. Ok (Some event)))) test
          ∙ ap (λ found. (found >>= (λ actor. command_in_words (command_rows actor) rest >>= (λ command. Ok (event_by actor command)))) >>= (λ event. Ok (Some event))) nobody,
    )
only_of_words number words reading (alone {first} actor names) = named first [] actor 4 (Err Words) names refl refl
only_of_words number words reading (no_command {first} {word} {arguments} actor names none) =
    named first (word ∷ arguments) actor 5 (Err Unknown) names
    (at_row-none (command_rows actor) word (row_case arguments) 5 none)
    (command_of-at_row (command_rows actor) word arguments ∙ at_row-none (command_rows actor) word (λ row. command_by row arguments) (Err Unknown) none)
only_of_words number words reading (wrong_count {first} {word} {arguments} actor names row asks differ) =
    of_row first word arguments actor row false _ names asks (not_as_many row.forms arguments differ) refl
only_of_words number words reading (faulty {first} {word} {arguments} {fault} actor names row asks same is_fault) =
    of_row first word arguments actor row true (Err fault) names asks (as_many row.forms arguments same)
    (made_of-fault row.forms row.makes arguments fault is_fault)
only_of_words number words reading (event {first} {word} {arguments} actor names row asks command make) =
    let (many, made) = made_of-command row.forms row.makes arguments command make in
    of_row first word arguments actor row true (Ok command) names asks many made

-- ---- the words are in some case

abbrev SomeCase : List (List ℕ) → Type 0
SomeCase words = (number : ℕ) × (reading : Result (Option Event) LineFault) × CaseOfWords number words reading

some_of_row : (first word : List ℕ) (arguments : List (List ℕ)) (actor : Actor) → Names first actor
    → (row : CommandRow (CommandOf actor)) → AsksFor actor word row → SomeCase (first ∷ word ∷ arguments)
some_of_row first word arguments actor names row asks =
    by (cases_Bool (length arguments == length row.forms)) where
      counted : length arguments ≡ length row.forms
          → ((fault : LineFault) × FirstFault row.forms arguments fault) ⊎ ((command : CommandOf actor) × AllMake row.forms row.makes arguments command)
          → SomeCase (first ∷ word ∷ arguments)
      counted same (inl (fault, is)) = (7, Err fault, faulty actor names row asks same is)
      counted same (inr (command, make)) = (8, Ok (Some (event_by actor command)), event actor names row asks command make)

      by : ((length arguments == length row.forms) ≡ true) ⊎ ((length arguments == length row.forms) ≡ false) → SomeCase (first ∷ word ∷ arguments)
      by (inl same) =
          let counts : length arguments ≡ length row.forms = (Decides-eqb (length arguments) (length row.forms)).0 same in
          counted counts (fault_or_command row.forms row.makes arguments counts)
      by (inr differ) = (6, Err Words, wrong_count actor names row asks (not_from_Decides _ (Decides-eqb (length arguments) (length row.forms)) differ))

some_of_actor : (first : List ℕ) (rest : List (List ℕ)) (actor : Actor) → Names first actor → SomeCase (first ∷ rest)
some_of_actor first [] actor names = (4, Err Words, alone actor names)
some_of_actor first (word ∷ arguments) actor names = by (row_or_none (command_rows actor) word) where
  by : ((row : CommandRow (CommandOf actor)) × AsksFor actor word row) ⊎ ((row : CommandRow (CommandOf actor)) → AsksFor actor word row → ⊥) → SomeCase (first ∷ word ∷ arguments)
  by (inl (row, asks)) = some_of_row first word arguments actor names row asks
  by (inr none) = (5, Err Unknown, no_command actor names none)

some_of_words : (words : List (List ℕ)) → SomeCase words
some_of_words [] = (2, Ok None, blank)
some_of_words (first ∷ rest) = by (cases_Bool (slice_index first 0 == 35)) (named_or_nobody first) where
  by : ((slice_index first 0 == 35) ≡ true) ⊎ ((slice_index first 0 == 35) ≡ false)
      → ((actor : Actor) × Names first actor) ⊎ ((actor : Actor) → Names first actor → ⊥) → SomeCase (first ∷ rest)
  by (inl is) who = (2, Ok None, comment ((Decides-eqb (slice_index first 0) 35).0 is))
  by (inr other) (inl (actor, names)) = some_of_actor first rest actor names
  by (inr other) (inr none) =
      (3, Err (nobody_fault first), nobody (not_from_Decides _ (Decides-eqb (slice_index first 0) 35) other) none)

-- ---- the line

abbrev bytes_case : List ℕ → ℕ
bytes_case bytes = if nat_lt MAX_LINE_BYTES (length bytes) then 1 else words_case (words_of bytes)

only_of_bytes : (number : ℕ) (bytes : List ℕ) (reading : Result (Option Event) LineFault) → CaseOfBytes number bytes reading
    → (bytes_case bytes ≡ number) × (reading_within (length bytes) (words_of bytes) ≡ reading)
only_of_bytes number bytes reading (too_long long) =
    let test : nat_lt MAX_LINE_BYTES (length bytes) ≡ true = grind (arith, nat_tests) in (
      ap (λ test. if test then 1 else words_case (words_of bytes)) test,
      ap (λ test. if test then Err Long else reading_of_words (words_of bytes)) test,
    )
only_of_bytes number bytes reading (of_words short words has says) =
    let test : nat_lt MAX_LINE_BYTES (length bytes) ≡ false = grind (arith, nat_tests) in
    let (number_is, reading_is) = only_of_words number words reading says in
    let are : words_of bytes ≡ words = words_of-has bytes words has in (
      ap (λ test. if test then 1 else words_case (words_of bytes)) test ∙ ap words_case are ∙ number_is,
      ap (λ test. if test then Err Long else reading_of_words (words_of bytes)) test ∙ ap reading_of_words are ∙ reading_is,
    )

pub only_reading : (line : List ℕ) (reading : Result (Option Event) LineFault) → Says line reading → reading ≡ reading_of line
unfolding reading_of
only_reading line reading (number, says) = sym (only_of_bytes number (strip_carriage_return line) reading says).1

pub one_number : (line : List ℕ) (number other : ℕ) (reading second : Result (Option Event) LineFault)
    → Case number line reading → Case other line second → (other ≡ number) × (second ≡ reading)
one_number line number other reading second is says =
    let bytes = strip_carriage_return line in
    let (first_number, first_reading) = only_of_bytes number bytes reading is in
    let (second_number, second_reading) = only_of_bytes other bytes second says in
    (sym second_number ∙ first_number, sym second_reading ∙ first_reading)

pub says_reading : (line : List ℕ) → Says line (reading_of line)
says_reading line = found (cases_Bool (nat_lt MAX_LINE_BYTES (length (strip_carriage_return line)))) where
  read : (reading : Result (Option Event) LineFault) → Says line reading → Says line (reading_of line)
  read reading says = subst (Says line) (only_reading line reading says) says

  found : (nat_lt MAX_LINE_BYTES (length (strip_carriage_return line)) ≡ true) ⊎ (nat_lt MAX_LINE_BYTES (length (strip_carriage_return line)) ≡ false)
      → Says line (reading_of line)
  found (inl long) = read (Err Long) (1, too_long (grind (arith, nat_tests)))
  found (inr short) =
      let bytes = strip_carriage_return line in
      let (number, reading, says) = some_of_words (words_of bytes) in
      read reading (number, of_words (grind (arith, nat_tests)) (words_of bytes) (has-words_of bytes) says)
