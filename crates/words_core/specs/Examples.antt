-- Examples of lines with their meanings, and of replies with their texts. Each example is proved by computation.
use Rattle.std.specs.Prelude.{◌≡◌, ℕ, List, [], ◌∷◌, ◌++◌, codes, map, replicate, Option, Some, None, Result, Ok, Err, refl}
use Rattle.std.specs.Fmt.{digits}
use Rattle.hex.proofs.OnLiterals.{hex_on_literals}
use Rattle.model_core.specs.Owners.{owned_by}
use Rattle.words_core.specs.Cutting.{lines_of_trace}
use Rattle.words_core.specs.Words.{words_of}
use Rattle.words_core.specs.Grammar.{event_of, reading_of_words, reading_of}
use Rattle.words_core.specs.Texts.{text_of}
use Rattle.words_core.specs.Requests.{reply_of_answer}
use Rattle.words_core.specs.declared.reply.Addressee.{Addressee}
use Rattle.words_core.specs.declared.event.AdminCommand.{AdminCommand}
use Rattle.words_core.specs.declared.answer.Answer.{Answer}
use Rattle.words_core.specs.declared.reply.Body.{Body}
use Rattle.words_core.specs.declared.event.Command.{Command}
use Rattle.words_core.specs.declared.event.Event.{Event}
use Rattle.words_core.specs.declared.event.LineFault.{LineFault}
use Rattle.words_core.specs.declared.reply.Refusal.{Refusal}
use Rattle.words_core.specs.declared.reply.Reply.{Reply}
use Rattle.words_core.specs.declared.report.Report.{Report as Figures}

cuts : map lines_of_trace (codes "a\n\nb" ∷ codes "a\n" ∷ []) ≡ (codes "a" ∷ [] ∷ codes "b" ∷ []) ∷ (codes "a" ∷ []) ∷ []
cuts = refl

-- lines, each with its meaning
abbrev lines : List (List ℕ × Result (Option Event) LineFault)
lines =
    (codes "admin grant 1", Ok (Some (Event.Admin (AdminCommand.Grant 1))))
    ∷ (codes "admin takeback 0 3", Ok (Some (Event.Admin (AdminCommand.TakeBack 0 3))))
    ∷ (codes "admin pool", Ok (Some (Event.Admin AdminCommand.Pool)))
    ∷ (codes "admin move 0 1", Ok (Some (Event.Admin (AdminCommand.Move 0 1))))
    ∷ (codes "\t0  read 4095\t002 \r", Ok (Some (Event.Tenant 0 (Command.Read 4095 2))))
    ∷ (codes "1 write 8 0a0B", Ok (Some (Event.Tenant 1 (Command.Write 8 (record { items = 10 ∷ 11 ∷ [] })))))
    ∷ (codes "0 cache 200 8 A5", Ok (Some (Event.Tenant 0 (Command.Cache 200 8 (record { items = 165 ∷ [] })))))
    ∷ (
      codes "0 cache 200 8 000102030405060708090a0b0c0d0e0f",
      Ok (Some (Event.Tenant 0 (Command.Cache 200 8 (record { items = 0 ∷ 1 ∷ 2 ∷ 3 ∷ 4 ∷ 5 ∷ 6 ∷ 7 ∷ 8 ∷ 9 ∷ 10 ∷ 11 ∷ 12 ∷ 13 ∷ 14 ∷ 15 ∷ [] })))),
    )
    ∷ (codes "0 destroy 3", Ok (Some (Event.Tenant 0 (Command.Destroy 3))))
    ∷ (codes "1 take 0", Ok (Some (Event.Tenant 1 (Command.Take 0))))
    ∷ (codes "1 give 0 4096", Ok (Some (Event.Tenant 1 (Command.Give 0 4096))))
    ∷ (codes "0 reap", Ok (Some (Event.Tenant 0 Command.Reap)))
    ∷ (codes "0 report", Ok (Some (Event.Tenant 0 Command.Report)))
    ∷ (codes " # note", Ok None)
    ∷ []

-- faulty lines, each with its fault
abbrev faulty : List (List ℕ × LineFault)
faulty =
    (codes "0 write 0 abc", LineFault.Hex)
    ∷ (codes "0 cache 200 8 000102030405060708090a0b0c0d0e0f10", LineFault.Hex)
    ∷ (codes "0 write x y", LineFault.Number)
    ∷ (codes "0 alloc x", LineFault.Number)
    ∷ (codes "0 alloc 4294967296", LineFault.Number)
    ∷ (codes "00000000000 alloc 0", LineFault.Number)
    ∷ (codes "admin move 0", LineFault.Words)
    ∷ (codes "0", LineFault.Words)
    ∷ (codes "0 alloc", LineFault.Words)
    ∷ (codes "0 reap 0", LineFault.Words)
    ∷ (codes "frob", LineFault.Unknown)
    ∷ (codes "9 frob", LineFault.Unknown)
    ∷ []

says : map (λ line. reading_of line.0) lines ≡ map (λ line. line.1) lines
unfolding reading_of words_of reading_of_words event_of hex_on_literals
says = refl

says_none : map (λ line. reading_of line.0) faulty ≡ map (λ line. Err line.1) faulty
unfolding reading_of words_of reading_of_words event_of hex_on_literals
says_none = refl

widest : reading_of (codes "0 alloc 0" ++ replicate 246 32) ≡ Ok (Some (Event.Tenant 0 (Command.Alloc 0)))
unfolding reading_of words_of reading_of_words event_of
widest = refl

too_wide : reading_of (codes "0 alloc 0" ++ replicate 247 32) ≡ Err LineFault.Long
unfolding reading_of
too_wide = refl

-- the figures of a tenant that holds no frame and has no cache
abbrev none_free : Figures
none_free = record {
  frames = 0;
  live = 0;
  free = 0;
  top = None;
  split = 0;
  orders = record { items = record { free = 0; taken = 0 } ∷ [] };
  caches = record { items = [] };
}

-- the figures of a tenant with two frames: one is a slab with one live object, the other is free
abbrev one_slab : Figures
one_slab = record {
  frames = 2;
  live = 1;
  free = 1;
  top = Some 0;
  split = 0;
  orders = record { items = record { free = 1; taken = 1 } ∷ record { free = 0; taken = 0 } ∷ [] };
  caches = record { items = record { cache = 3; full = 0; partial = 1; empty = 0; live = 1 } ∷ [] };
}

-- replies, each with its text
abbrev replies : List (Reply × List ℕ)
replies =
    (record { addressee = Addressee.Nobody; body = Body.Fault LineFault.Words }, codes "!> fault Words\n")
    ∷ (
      record { addressee = Addressee.Admin; body = Body.Owners (record { items = Some (owned_by 1 0) ∷ None ∷ [] }) },
      codes "admin> pool free 1 of 2\nadmin> superblock 0 tenant 1 slot 0\nadmin> superblock 1 free\n",
    )
    ∷ (record { addressee = Addressee.Admin; body = Body.Moved 0 0 1 }, codes "admin> moved 0 slot 0 superblock 1\n")
    ∷ (reply_of_answer 0 (Answer.Cache 0 200 0 20 9), codes "0> cache 0 chunk 200 order 0 objects 20 colours 9\n")
    ∷ (reply_of_answer 0 (Answer.Destroyed 1), codes "0> destroyed 1\n")
    ∷ (reply_of_answer 0 (Answer.Object 4096), codes "0> object 4096\n")
    ∷ (reply_of_answer 0 Answer.Given, codes "0> given\n")
    ∷ (reply_of_answer 0 (Answer.Reaped 0), codes "0> reaped 0\n")
    ∷ (reply_of_answer 3 (Answer.Refused Refusal.NotABlock), codes "3> refused 3 NotABlock\n")
    ∷ (
      record { addressee = Addressee.Tenant 1; body = Body.Report none_free },
      codes "1> frames 0 live 0 free 0 top none split 0\n1> order 0 free 0 taken 0\n",
    )
    ∷ (
      record { addressee = Addressee.Tenant 0; body = Body.Report one_slab },
      codes "0> frames 2 live 1 free 1 top 0 split 0\n0> order 0 free 1 taken 1\n0> order 1 free 0 taken 0\n0> cache 3 full 0 partial 1 empty 0 live 1\n",
    )
    ∷ []

texts : map (λ reply. text_of reply.0) replies ≡ map (λ reply. reply.1) replies
unfolding digits
texts = refl
