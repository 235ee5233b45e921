-- Files that a command line names.
use Rattle.std.specs.Prelude.{ℕ, ◌&&◌, ◌||◌, ◌==◌, Bool, not, nat_le, Option, Some, None, if◌then◌else◌}
use Rattle.std.specs.List.{list_all}
use Rattle.std.specs.declared.io.Error.{Error}
use Rattle.clap.specs.Words.{Text}
use Rattle.command_line.specs.declared.files.WatchedReader.{WatchedReader}

-- the error of the last read that failed, or None if no read has failed
abbrev pub last_error : {R : Type 0} → WatchedReader R → Option Error
last_error reader = reader.error

-- the byte is printable ASCII, but not a single quote (39), a double quote (34) or a backslash (92)
abbrev pub is_plain_byte : ℕ → Bool
is_plain_byte byte = nat_le 32 byte && nat_le byte 126 && not (byte == 39 || byte == 34 || byte == 92)

-- how a path is printed: unchanged if all its bytes are plain; None means that it is quoted, in a form that is not defined here
abbrev pub plain_path : Text → Option Text
plain_path path = if list_all is_plain_byte path then Some path else None
