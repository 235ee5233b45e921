-- Bytes that begin with a line that reads as a command of a tenant, and the parts of this line.
use Rattle.std.specs.Prelude.{◌≡◌, ◌⊎◌, ◌+◌, ◌-◌, ◌<◌, ◌≤◌, ◌==◌, ℕ, List, length, take, slice_index, slice_range, Some, Ok}
use Rattle.std.specs.List.{position}
use Rattle.words_core.specs.Grammar.{reading_of}
use Rattle.words_core.specs.Numbers.{number_of}
use Rattle.words_core.specs.declared.event.Command.{Command}
use Rattle.words_core.specs.declared.event.Event.{Event}
use Rattle.quick_core.specs.declared.request.TheConstants.{MAX_TENANT_DIGITS}
use Rattle.quick_core.specs.declared.number.TheConstants.{MAX_READ_DIGITS}
use Rattle.quick_core.specs.declared.number.Number.{Number}

-- The first line feed (byte 10) is at index `len` - 1. The line before it reads as this command of this tenant.
pub record ReadsAs (bytes : List ℕ) (tenant : ℕ) (command : Command) (len : ℕ) : Type 0 where
  pub some : 0 < len
  pub within : len ≤ length bytes
  pub ended : position (λ b. b == 10) bytes ≡ Some (len - 1)
  pub reading : reading_of (take (len - 1) bytes) ≡ Ok (Some (Event.Tenant tenant command))

-- the end of a line, LF or CR LF, begins at index `end`, and the line has `len` bytes, including its end
pub record EndsLine (bytes : List ℕ) (end len : ℕ) : Type 0 where
  pub within : len ≤ length bytes
  pub ended : ((len ≡ end + 1) × (slice_index bytes end ≡ 10))
      ⊎ ((len ≡ end + 2) × (slice_index bytes end ≡ 13) × (slice_index bytes (end + 1) ≡ 10))

-- a number of at most 9 digits with this value begins at index `from`, and the end of a line of `len` bytes follows it
pub record IsLastNumber (bytes : List ℕ) (from value len : ℕ) : Type 0 where
  pub end : ℕ
  pub number : number_of (slice_range bytes from end) ≡ Some value
  pub some : from < end
  pub short : end ≤ from + MAX_READ_DIGITS
  pub ended : EndsLine bytes end len

-- the bytes begin with the number of a tenant, which has at most three digits, and a space
pub record NamesTenant (bytes : List ℕ) (tenant : Number) : Type 0 where
  pub number : number_of (slice_range bytes 0 tenant.end) ≡ Some tenant.value
  pub short : tenant.end ≤ MAX_TENANT_DIGITS
  pub blank : slice_index bytes tenant.end ≡ 32

-- the bytes begin with the number of a tenant, a space, and these four letters
pub record BeginsLine (bytes : List ℕ) (tenant : Number) (four : List ℕ) : Type 0 where
  pub names : NamesTenant bytes tenant
  pub letters : slice_range bytes (tenant.end + 1) (tenant.end + 5) ≡ four
