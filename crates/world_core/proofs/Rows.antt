-- Worked traces and their outputs, computed from the definitions. The world has two superblocks of order 3 and two tenants.
use Rattle.std.proofs.Common.{◌≡◌, ℕ, List, [], ◌∷◌, map, codes, refl}
use Rattle.words_core.specs.Cutting.{lines_of_trace}
use Rattle.world_core.specs.Limits.{cache_limit}
use Rattle.world_core.specs.PrivateStep.{Entry}
use Rattle.world_core.specs.World.{opening_world, history}
use Rattle.world_core.specs.Output.{output_of, events_of, lines_for}
use Rattle.world_core.specs.OwnList.{own_list}
use Rattle.world_core.proofs.ComputedTraces.{computed_texts}

pub record Row : Type 0 where
  pub trace : List ℕ
  pub output : List ℕ

abbrev pub rows : List Row
rows =
    record {
      trace = codes "";
      output = codes "";
    }
    ∷ record {
      trace = codes "0 alloc 0\n";
      output = codes "0> refused 1 NoFrames\n";
    }
    ∷ record {
      trace = codes "admin grant 0\n0 alloc 0\n0 read 0 4\n";
      output = codes "admin> granted 0 slot 0 superblock 0\n0> frame 0\n0> bytes 00000000\n";
    }
    ∷ record {
      trace = codes "admin grant 0\n0 alloc 0\n0 alloc 1\n0 alloc 2\n0 alloc 0\n0 alloc 0\n0 alloc 4\n";
      output = codes "admin> granted 0 slot 0 superblock 0\n0> frame 0\n0> frame 2\n0> frame 4\n0> frame 1\n0> refused 1 NoFrames\n0> refused 2 BadOrder\n";
    }
    ∷ record {
      trace = codes "admin grant 0\n0 alloc 0\n0 alloc 0\n0 read 4095 2\n0 read 4095 1\n0 read 4294967295 64\n0 read 0 0\n0 read 4294967295 65\n";
      output = codes "admin> granted 0 slot 0 superblock 0\n0> frame 0\n0> frame 1\n0> refused 4 OutOfReach\n0> bytes 00\n0> refused 4 OutOfReach\n0> refused 5 BadLength\n0> refused 5 BadLength\n";
    }
    ∷ record {
      trace = codes "admin grant 1\nadmin grant 1\nadmin grant 0\n1 alloc 3\n1 alloc 3\n0 alloc 0\n";
      output = codes "admin> granted 1 slot 0 superblock 0\nadmin> granted 1 slot 1 superblock 1\nadmin> refused 13 PoolEmpty\n1> frame 0\n1> frame 8\n0> refused 1 NoFrames\n";
    }
    ∷ record {
      trace = codes "9 alloc 0\nadmin grant 9\nfrob\n0 frob\n0\n0 alloc\n0 alloc x\n0 alloc 4294967296\n00000000000 alloc 0\n# note\n\n";
      output = codes "!> refused 12 NoTenant\nadmin> refused 12 NoTenant\n!> fault Unknown\n!> fault Unknown\n!> fault Words\n!> fault Words\n!> fault Number\n!> fault Number\n!> fault Number\n";
    }
    ∷ record {
      trace = codes "0 alloc 0\r\n0 alloc 0";
      output = codes "0> refused 1 NoFrames\n0> refused 1 NoFrames\n";
    }
    ∷ record {
      trace = codes "admin grant 0\n0 alloc 0\n0 alloc 1\n0 alloc 2\n0 free 0\n0 free 4\n0 alloc 1\n0 alloc 0\n0 free 4\n0 free 2\n0 free 0\n0 alloc 3\n";
      output = codes "admin> granted 0 slot 0 superblock 0\n0> frame 0\n0> frame 2\n0> frame 4\n0> freed 0\n0> freed 2\n0> frame 0\n0> frame 4\n0> freed 0\n0> freed 1\n0> freed 1\n0> frame 0\n";
    }
    ∷ record {
      trace = codes "admin grant 0\nadmin grant 0\nadmin takeback 0 0\n0 alloc 0\nadmin grant 0\n0 alloc 0\n0 alloc 3\n";
      output = codes "admin> granted 0 slot 0 superblock 0\nadmin> granted 0 slot 1 superblock 1\nadmin> taken superblock 0\n0> frame 8\nadmin> granted 0 slot 0 superblock 0\n0> frame 9\n0> frame 0\n";
    }
    ∷ record {
      trace = codes "admin grant 1\n1 alloc 0\n1 write 0 aa\n1 free 0\nadmin takeback 1 0\nadmin grant 0\n0 alloc 0\n0 read 0 1\n";
      output = codes "admin> granted 1 slot 0 superblock 0\n1> frame 0\n1> written 1\n1> freed 0\nadmin> taken superblock 0\nadmin> granted 0 slot 0 superblock 0\n0> frame 0\n0> bytes 00\n";
    }
    ∷ record {
      trace = codes "admin grant 0\n0 alloc 0\n0 write 0 0a0B\n0 read 0 3\n0 free 0\n0 alloc 0\n0 read 0 2\n";
      output = codes "admin> granted 0 slot 0 superblock 0\n0> frame 0\n0> written 2\n0> bytes 0a0b00\n0> freed 0\n0> frame 0\n0> bytes 0a0b\n";
    }
    ∷ record {
      trace = codes "admin grant 0\n0 alloc 0\nadmin takeback 0 0\nadmin takeback 0 1\nadmin takeback 9 0\n0 free 0\n0 free 0\nadmin takeback 0 0\nadmin takeback 0 0\n";
      output = codes "admin> granted 0 slot 0 superblock 0\n0> frame 0\nadmin> refused 15 SlotBusy\nadmin> refused 14 NoSlot\nadmin> refused 12 NoTenant\n0> freed 0\n0> refused 3 NotABlock\nadmin> taken superblock 0\nadmin> refused 14 NoSlot\n";
    }
    ∷ record {
      trace = codes "admin grant 1\nadmin grant 1\n1 alloc 3\nadmin reset 1\n1 alloc 0\nadmin reset 2\nadmin grant 0\n";
      output = codes "admin> granted 1 slot 0 superblock 0\nadmin> granted 1 slot 1 superblock 1\n1> frame 0\nadmin> reset 1 superblocks 2\n1> refused 1 NoFrames\nadmin> refused 12 NoTenant\nadmin> granted 0 slot 0 superblock 0\n";
    }
    ∷ record {
      trace = codes "admin pool\nadmin grant 1\nadmin pool\n";
      output = codes "admin> pool free 2 of 2\nadmin> superblock 0 free\nadmin> superblock 1 free\nadmin> granted 1 slot 0 superblock 0\nadmin> pool free 1 of 2\nadmin> superblock 0 tenant 1 slot 0\nadmin> superblock 1 free\n";
    }
    ∷ record {
      trace = codes "0 report\nadmin grant 0\n0 alloc 1\n0 write 8191 7f\n0 cache 24 8 c3\n0 take 0\n0 report\n";
      output = codes "0> frames 0 live 0 free 0 top none split 0\n0> order 0 free 0 taken 0\n0> order 1 free 0 taken 0\n0> order 2 free 0 taken 0\n0> order 3 free 0 taken 0\nadmin> granted 0 slot 0 superblock 0\n0> frame 0\n0> written 1\n0> cache 0 chunk 24 order 0 objects 169 colours 2\n0> object 8192\n0> frames 8 live 3 free 5 top 2 split 200\n0> order 0 free 1 taken 1\n0> order 1 free 0 taken 1\n0> order 2 free 1 taken 0\n0> order 3 free 0 taken 0\n0> cache 0 full 0 partial 1 empty 0 live 1\n";
    }
    ∷ record {
      trace = codes "admin grant 0\n0 cache 100 8 5a\n0 take 0\n0 read 0 2\n0 read 99 2\n0 give 0 0\n0 read 0 1\n0 give 0 0\n0 give 1 0\n0 reap\n0 alloc 0\n0 read 0 2\n0 read 4064 2\n";
      output = codes "admin> granted 0 slot 0 superblock 0\n0> cache 0 chunk 104 order 0 objects 39 colours 2\n0> object 0\n0> bytes 5a5a\n0> refused 4 OutOfReach\n0> given\n0> refused 4 OutOfReach\n0> refused 11 NotAnObject\n0> refused 9 NoCache\n0> reaped 1\n0> frame 0\n0> bytes 0000\n0> bytes 0000\n";
    }
    ∷ record {
      trace = codes "admin grant 0\n0 cache 4097 8 00\n0 cache 1 12 00\n0 cache 2048 8 11\n0 take 0\n0 take 0\n0 take 0\n0 write 2048 22\n0 give 0 4096\n0 give 0 2048\n0 take 0\n0 read 2048 2\n0 destroy 0\n0 give 0 0\n0 give 0 2048\n0 destroy 0\n0 take 0\n";
      output = codes "admin> granted 0 slot 0 superblock 0\n0> refused 6 BadSize\n0> refused 7 BadAlign\n0> cache 0 chunk 2048 order 0 objects 2 colours 1\n0> object 0\n0> object 2048\n0> object 4096\n0> written 1\n0> given\n0> given\n0> object 2048\n0> bytes 2211\n0> refused 10 CacheInUse\n0> given\n0> given\n0> destroyed 2\n0> refused 9 NoCache\n";
    }
    ∷ record {
      trace = codes "admin grant 0\n0 alloc 0\n0 write 0 7f\nadmin move 0 0\n0 read 0 1\nadmin grant 1\n1 alloc 0\n1 read 0 1\nadmin move 0 0\nadmin move 0 1\nadmin move 2 0\nadmin pool\n";
      output = codes "admin> granted 0 slot 0 superblock 0\n0> frame 0\n0> written 1\nadmin> moved 0 slot 0 superblock 1\n0> bytes 7f\nadmin> granted 1 slot 0 superblock 0\n1> frame 0\n1> bytes 00\nadmin> refused 13 PoolEmpty\nadmin> refused 14 NoSlot\nadmin> refused 12 NoTenant\nadmin> pool free 0 of 2\nadmin> superblock 0 tenant 1 slot 0\nadmin> superblock 1 tenant 0 slot 0\n";
    }
    ∷ []

-- the output of the row's trace in the opening world
abbrev pub written : Row → List ℕ
written r = output_of cache_limit 3 r.trace (opening_world 2 2)

abbrev pub expected : Row → List ℕ
expected r = r.output

rows_are_written : map written rows ≡ map expected rows
unfolding computed_texts
rows_are_written = refl

-- Two traces in which tenant 0 has the same own list. In `alone` tenant 1 does nothing; in `among_others` it is active.

abbrev pub alone : List ℕ
alone = codes "admin grant 0\n0 alloc 1\n0 read 8191 1\n0 alloc 3\n0 cache 24 8 c3\n0 take 0\n"

abbrev pub among_others : List ℕ
among_others = codes "admin grant 1\n1 alloc 0\n1 read 0 2\nadmin grant 0\n0 alloc 1\nfrob\nadmin grant 1\nadmin grant 0\n0 read 8191 1\n1 cache 24 8 99\n1 take 0\n0 alloc 3\nadmin reset 1\nadmin move 0 0\n0 cache 24 8 c3\n1 report\n0 take 0\n"

abbrev pub own_list_of : List ℕ → List Entry
own_list_of trace = own_list 0 (history cache_limit 3 (opening_world 2 2) (events_of (lines_of_trace trace)))

abbrev pub lines_of_0 : List ℕ → List (List ℕ)
lines_of_0 trace = lines_for 0 (output_of cache_limit 3 trace (opening_world 2 2))

same_own_list : own_list_of alone ≡ own_list_of among_others
unfolding computed_texts
same_own_list = refl

lines_alone : lines_of_0 alone ≡ codes "0> frame 0" ∷ codes "0> bytes 00" ∷ codes "0> refused 1 NoFrames"
    ∷ codes "0> cache 0 chunk 24 order 0 objects 169 colours 2" ∷ codes "0> object 8192" ∷ []
unfolding computed_texts
lines_alone = refl

lines_among_others : lines_of_0 among_others ≡ codes "0> frame 0" ∷ codes "0> bytes 00" ∷ codes "0> refused 1 NoFrames"
    ∷ codes "0> cache 0 chunk 24 order 0 objects 169 colours 2" ∷ codes "0> object 8192" ∷ []
unfolding computed_texts
lines_among_others = refl
