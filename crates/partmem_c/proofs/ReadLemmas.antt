-- The bytes that a read copies over the front of its caller's buffer.
use Rattle.std.proofs.Common.{◌≡◌, ◌≢◌, ℕ, ◌≤◌, min, List, [], ◌++◌, Some, length, take, drop, refl, ap, arith}
use Rattle.std.proofs.Math.Nat.{zero-min, min-le_left}
use Rattle.std.proofs.lemmas.List.{length-take-le}
use Rattle.std.proofs.lemmas.Slice.{drop-append-drop}
use Rattle.words_core.specs.declared.reply.Body.{Body}
use Rattle.partmem_c.specs.declared.status.TheConstants.{DONE}
use Rattle.partmem_c.specs.Events.{numbers_of_body, answered_bytes}
use Rattle.partmem_c.specs.Calls.{read_over, call_status}

-- if a reply has no bytes, a read leaves the buffer unchanged
pub nothing_read : (to : List ℕ) → read_over [] to ≡ to
nothing_read to = ap (λ (k : ℕ). take k [] ++ drop k to) (zero-min (length to))

-- a read of at most n bytes changes only the first n bytes of the buffer
pub read_not_past : (n : ℕ) (bytes to : List ℕ) → length bytes ≤ n → drop n (read_over bytes to) ≡ drop n to
read_not_past n bytes to few =
    let count : ℕ = min (length bytes) (length to) in let within : count ≤ length bytes = min-le_left (length bytes) (length to) in
    drop-append-drop count to (take count bytes) n (omega (arith, within, few)) (length-take-le count bytes within)

-- if the status of the reply to a read is not DONE, the buffer is unchanged
pub refused_reads_nothing : (body : Body) (to : List ℕ) → call_status (Some (numbers_of_body body)) ≢ DONE
    → read_over (answered_bytes body) to ≡ to
refused_reads_nothing (Body.Bytes bytes) to failed = absurd (failed refl)
refused_reads_nothing (Body.Granted tenant slot superblock) to failed = nothing_read to
refused_reads_nothing (Body.TakenBack superblock) to failed = nothing_read to
refused_reads_nothing (Body.WasReset tenant superblocks) to failed = nothing_read to
refused_reads_nothing (Body.Moved tenant slot superblock) to failed = nothing_read to
refused_reads_nothing (Body.Owners owners) to failed = nothing_read to
refused_reads_nothing (Body.Frame frame) to failed = nothing_read to
refused_reads_nothing (Body.Freed order) to failed = nothing_read to
refused_reads_nothing (Body.Written count) to failed = nothing_read to
refused_reads_nothing (Body.Cache cache chunk order objects colours) to failed = nothing_read to
refused_reads_nothing (Body.Destroyed frames) to failed = nothing_read to
refused_reads_nothing (Body.Object place) to failed = nothing_read to
refused_reads_nothing Body.Given to failed = nothing_read to
refused_reads_nothing (Body.Reaped frames) to failed = nothing_read to
refused_reads_nothing (Body.Report report) to failed = nothing_read to
refused_reads_nothing (Body.Refused refusal) to failed = nothing_read to
refused_reads_nothing (Body.Fault fault) to failed = nothing_read to
