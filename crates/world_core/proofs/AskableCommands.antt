-- The commands read from lines are possible requests: a cache is made with a pattern of 1 to 16 bytes.
use Rattle.std.proofs.Common.{◌≡◌, ℕ, ◌*◌, ◌%◌, ◌≤◌, ◌==◌, ◌&&◌, Bool, true, false, List, [], ◌∷◌, ◌++◌, length, slice_index, Option, Some, None, Result, Ok, Err, nat_le, nat_lt, refl, sym, ap, subst, arith}
use Rattle.std.specs.Prelude.{if◌then◌else◌, flat_map}
use Rattle.std.specs.List.{AllByRecursion as Each}
use Rattle.std.specs.Str.{bytes_eq}
use Rattle.std.specs.Str.Lines.{strip_carriage_return}
use Rattle.std.proofs.lemmas.Bool.{and_parts, and_from, leb-true, le-leb}
use Rattle.std.proofs.lemmas.Grind.{flat_map-append}
use Rattle.std.proofs.lemmas.Option.{same_Some}
use Rattle.arrayvec.specs.ArrayVec.{ArrayVec}
use Rattle.hex.specs.declared.error.FromHexError.{FromHexError}
use Rattle.hex.specs.declared.error.FromHexError.TheVariants.{OddLength}
use Rattle.hex.specs.Hex.{decode_pairs, decode_of}
use Rattle.hex.proofs.HexLemmas.{decode_pairs-ok}
use Rattle.model_core.specs.Layouts.{is_pattern}
use Rattle.model_core.specs.Runs.{IsPossible, ArePossible}
use Rattle.model_core.proofs.Lists.{each_append}
use Rattle.words_core.specs.declared.event.Event.{Event}
use Rattle.words_core.specs.declared.event.Event.TheVariants as On
use Rattle.words_core.specs.declared.event.AdminCommand.TheVariants as Do
use Rattle.words_core.specs.declared.event.Command.{Command}
use Rattle.words_core.specs.declared.event.LineFault.{LineFault}
use Rattle.words_core.specs.declared.event.LineFault.TheVariants.{Long, Words, Hex}
use Rattle.words_core.specs.declared.reply.Body.{Body}
use Rattle.words_core.specs.Cutting.{lines_of_trace}
use Rattle.words_core.specs.Words.{words_of}
use Rattle.words_core.specs.Commands.{Form, Given, bytes_or_fault, bytes_argument, read_as, Maker, CommandRow, Actor, administrator, tenant, tenant_rows, command_rows, event_by}
use Rattle.words_core.specs.Grammar.{◌>>=◌, are_as_many, made_of, command_by, command_of, command_in_words, actor_of, event_of, reading_of_words, reading_of}
use Rattle.world_core.specs.PrivateStep.{Entry, Ask, Grant, TakeBack, Reset}
use Rattle.world_core.specs.World.{World, history, world_step}
use Rattle.world_core.specs.OwnList.{is_refused, own_entries, own_list}
use Rattle.world_core.specs.Output.{event_in, events_of}
use Rattle.world_core.specs.Laws.{opening_history}
use Rattle.world_core.specs.Reached.{operations_in, AreRequests, OwnListsAreRequests}

-- Results

abbrev wrapped : {A : Type 0} → A → Result A LineFault
wrapped a = Ok a

ok_same : {A : Type 0} (a b : A) → wrapped a ≡ Ok b → a ≡ b
ok_same a b e = cc

-- `r` is `Ok` of a value, and `f` returns `Ok b` for this value
pub record Both {A B : Type 0} (r : Result A LineFault) (f : A → Result B LineFault) (b : B) : Type 0 where
  pub value : A
  pub is : r ≡ Ok value
  pub rest : f value ≡ Ok b

both : {A B : Type 0} (r : Result A LineFault) (f : A → Result B LineFault) (b : B) → (r >>= f) ≡ Ok b → Both r f b
both (Err fault) f b e = absurd (cc)
both (Ok a) f b e = record { value = a; is = refl; rest = e }

-- Bytes in hex

decoded : (word bytes : List ℕ) → decode_of word ≡ Ok bytes → length word ≡ 2 * length bytes
decoded word bytes e = go (length word % 2 == 1) e
  where
    go : (odd : Bool) → (if odd then Err OddLength else decode_pairs 0 word) ≡ Ok bytes → length word ≡ 2 * length bytes
    go true e = absurd (cc)
    go false e = (decode_pairs-ok 0 word bytes e).1

-- if a word is read as an argument of 1 to 16 bytes in hex, these bytes are an allowed pattern
read_pattern : (word : List ℕ) (pattern : ArrayVec ℕ) → bytes_argument 16 word ≡ Ok pattern → is_pattern pattern.items ≡ true
read_pattern word pattern e = go (nat_le 2 (length word) && nat_le (length word) 32) refl e
  where
    of_bytes : (r : Result (List ℕ) FromHexError) → decode_of word ≡ r → bytes_or_fault r ≡ Ok pattern → length word ≡ 2 * length pattern.items
    of_bytes (Err error) is e = absurd (cc)
    of_bytes (Ok bytes) is e =
        let same : bytes ≡ pattern.items = ap (λ v. v.items) (ok_same (record { items = bytes }) pattern e) in
        subst (λ xs. length word ≡ 2 * length xs) same (decoded word bytes is)

    go : (within : Bool) → (nat_le 2 (length word) && nat_le (length word) 32) ≡ within → (if within then bytes_or_fault (decode_of word) else Err Hex) ≡ Ok pattern
        → is_pattern pattern.items ≡ true
    go false is e = absurd (cc)
    go true is e =
        let parts = and_parts (nat_le 2 (length word)) (nat_le (length word) 32) is in
        let low : 2 ≤ length word = leb-true 2 (length word) parts.0 in
        let high : length word ≤ 32 = leb-true (length word) 32 parts.1 in
        let twice : length word ≡ 2 * length pattern.items = of_bytes (decode_of word) refl e in
        and_from (nat_le 1 (length pattern.items)) (nat_le (length pattern.items) 16)
        (le-leb 1 (length pattern.items) (omega arith)) (le-leb (length pattern.items) 16 (omega arith))

-- Commands

-- there is a word that is read in this form as this value
abbrev IsRead : (form : Form) → Given form → Type 0
IsRead form value = (word : List ℕ) × (read_as form word ≡ Ok value)

-- every command that is made from values read in these forms has property P
abbrev MakesAll : {C : Type 0} → (C → Type 0) → (forms : List Form) → Maker forms C → Type 0
MakesAll P [] made = P made
MakesAll P (form ∷ forms) makes = (value : Given form) → IsRead form value → MakesAll P forms (makes value)

made_has : {C : Type 0} (P : C → Type 0) (forms : List Form) (makes : Maker forms C) (words : List (List ℕ)) (c : C)
    → MakesAll P forms makes → made_of forms makes words ≡ Ok c → P c
made_has P [] makes words c h e = subst P (ok_same makes c e) h
made_has P (form ∷ forms) makes [] c h e = absurd (cc)
made_has P (form ∷ forms) makes (word ∷ words) c h e =
    let parts = both (read_as form word) (λ value. made_of forms (makes value) words) c e in
    made_has P forms (makes parts.value) words c (h parts.value (word, parts.is)) parts.rest

abbrev RowMakes : {C : Type 0} → (C → Type 0) → CommandRow C → Type 0
RowMakes P row = MakesAll P row.forms row.makes

command_has : {C : Type 0} (P : C → Type 0) (rows : List (CommandRow C)) (word : List ℕ) (arguments : List (List ℕ)) (c : C)
    → Each (RowMakes P) rows → command_of rows word arguments ≡ Ok c → P c
command_has P [] word arguments c h e = absurd (cc)
command_has {C} P (row ∷ rows) word arguments c (here, later) e = go (bytes_eq word row.word) e (command_has P rows word arguments c later)
  where
    count : (as_many : Bool) → (if as_many then made_of row.forms row.makes arguments else Err Words) ≡ Ok c → P c
    count true e = made_has P row.forms row.makes arguments c here e
    count false e = absurd (cc)

    go : (named : Bool) → (if named then command_by row arguments else command_of rows word arguments) ≡ Ok c
        → (command_of rows word arguments ≡ Ok c → P c) → P c
    go true e more = count (are_as_many row.forms arguments) e
    go false e more = more e

asked_has : {C : Type 0} (P : C → Type 0) (rows : List (CommandRow C)) (words : List (List ℕ)) (c : C) → Each (RowMakes P) rows → command_in_words rows words ≡ Ok c → P c
asked_has P rows [] c h e = absurd (cc)
asked_has P rows (word ∷ arguments) c h e = command_has P rows word arguments c h e

abbrev pub IsPossibleCommand : Command → Type 0
IsPossibleCommand command = ArePossible (operations_in (Ask command))

tenant_rows_make : Each (RowMakes IsPossibleCommand) tenant_rows
tenant_rows_make = (
  λ order i. (tt, tt),
  (
    λ frame i. (tt, tt),
    (
      λ place i len j. tt,
      (
        λ place i bytes j. (tt, tt),
        (
          λ size i align j pattern k. (read_pattern k.0 pattern k.1, tt),
          (λ cache i. (tt, tt), (λ cache i. (tt, tt), (λ cache i place j. (tt, tt), ((tt, tt), (tt, tt))))),
        ),
      ),
    ),
  ),
)

-- Events

abbrev pub IsPossibleEvent : Event → Type 0
IsPossibleEvent (On.Tenant t command) = IsPossibleCommand command
IsPossibleEvent (On.Admin command) = Unit {0}

by_actor : (actor : Actor) (rest : List (List ℕ)) (event : Event)
    → (command_in_words (command_rows actor) rest >>= λ command. Ok (event_by actor command)) ≡ Ok event → IsPossibleEvent event
by_actor administrator rest event e =
    let parts = both (command_in_words (command_rows administrator) rest) (λ command. Ok (event_by administrator command)) event e in
    subst IsPossibleEvent (ok_same (On.Admin parts.value) event parts.rest) tt
by_actor (tenant t) rest event e =
    let parts = both (command_in_words (command_rows (tenant t)) rest) (λ command. Ok (event_by (tenant t) command)) event e in
    subst IsPossibleEvent (ok_same (On.Tenant t parts.value) event parts.rest)
    (asked_has IsPossibleCommand tenant_rows rest parts.value tenant_rows_make parts.is)

event_possible : (first : List ℕ) (rest : List (List ℕ)) (event : Event) → event_of first rest ≡ Ok event → IsPossibleEvent event
unfolding event_of
event_possible first rest event e =
    let parts = both (actor_of first) (λ actor. command_in_words (command_rows actor) rest >>= λ command. Ok (event_by actor command)) event e in
    by_actor parts.value rest event parts.rest

judged_possible : (words : List (List ℕ)) (event : Event) → reading_of_words words ≡ Ok (Some event) → IsPossibleEvent event
unfolding reading_of_words
judged_possible [] event e = absurd (cc)
judged_possible (first ∷ rest) event e = go (slice_index first 0 == 35) e
  where
    go : (comment : Bool) → (if comment then Ok None else (event_of first rest >>= λ event. Ok (Some event))) ≡ Ok (Some event) → IsPossibleEvent event
    go true e = absurd (cc)
    go false e =
        let parts = both (event_of first rest) (λ event. Ok (Some event)) (Some event) e in
        subst IsPossibleEvent (same_Some parts.value event (ok_same (Some parts.value) (Some event) parts.rest)) (event_possible first rest parts.value parts.is)

-- every event that is read from a line is possible
pub reading_possible : (line : List ℕ) (event : Event) → reading_of line ≡ Ok (Some event) → IsPossibleEvent event
unfolding reading_of
reading_possible line event e = go (nat_lt 255 (length (strip_carriage_return line))) e
  where
    words : List (List ℕ)
    words = words_of (strip_carriage_return line)

    go : (long : Bool) → (if long then Err Long else reading_of_words words) ≡ Ok (Some event) → IsPossibleEvent event
    go true e = absurd (cc)
    go false e = judged_possible words event e

pub events_possible : (lines : List (List ℕ)) → Each IsPossibleEvent (events_of lines)
events_possible [] = tt
events_possible (line ∷ lines) = each_append IsPossibleEvent (event_in (reading_of line)) (events_of lines) (go (reading_of line) refl) (events_possible lines)
  where
    go : (reading : Result (Option Event) LineFault) → reading_of line ≡ reading → Each IsPossibleEvent (event_in reading)
    go (Ok None) is = tt
    go (Ok (Some event)) is = (reading_possible line event is, tt)
    go (Err fault) is = tt

-- Own lists

named_asked : (named : Bool) (entry : Entry) → ArePossible (operations_in entry) → AreRequests (if named then entry ∷ [] else [])
named_asked true entry h = each_append IsPossible (operations_in entry) [] h tt
named_asked false entry h = tt

granted_asked : (refused named : Bool) (entry : Entry) → ArePossible (operations_in entry) → AreRequests (if refused then [] else (if named then entry ∷ [] else []))
granted_asked true named entry h = tt
granted_asked false named entry h = named_asked named entry h

entries_asked : (t : ℕ) (event : Event) (body : Body) → IsPossibleEvent event → AreRequests (own_entries t event body)
entries_asked t (On.Tenant named command) body h = named_asked (named == t) (Ask command) h
entries_asked t (On.Admin (Do.Grant named)) body h = granted_asked (is_refused body) (named == t) Grant (tt, tt)
entries_asked t (On.Admin (Do.TakeBack named slot)) body h = granted_asked (is_refused body) (named == t) (TakeBack slot) (tt, tt)
entries_asked t (On.Admin (Do.Reset named)) body h = named_asked (named == t) Reset (tt, tt)
entries_asked t (On.Admin (Do.Move named slot)) body h = tt
entries_asked t (On.Admin Do.Pool) body h = tt

asked_append : (xs ys : List Entry) → AreRequests xs → AreRequests ys → AreRequests (xs ++ ys)
asked_append xs ys h k =
    subst ArePossible (sym (flat_map-append operations_in xs ys)) (each_append IsPossible (flat_map operations_in xs) (flat_map operations_in ys) h k)

own_asked : (limit order t : ℕ) (events : List Event) (w : World) → Each IsPossibleEvent events → AreRequests (own_list t (history limit order w events))
own_asked limit order t [] w h = tt
own_asked limit order t (event ∷ events) w (here, later) =
    asked_append (own_entries t event (world_step limit order event w).reply.body) _
    (entries_asked t event (world_step limit order event w).reply.body here) (own_asked limit order t events (world_step limit order event w).world later)

pub own_lists_are_requests : OwnListsAreRequests
unfolding opening_history
own_lists_are_requests limit order superblocks tenants t trace = own_asked limit order t (events_of (lines_of_trace trace)) _ (events_possible (lines_of_trace trace))
