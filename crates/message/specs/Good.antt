-- Writes, and outcomes that are good.
use Rattle.std.specs.Prelude.{ℕ, ◌%◌, Bool, true, false, ◌&&◌, ◌==◌, nat_lt, nat_le, if◌then◌else◌, Option, Some, None, Result, Ok, Err}
use Rattle.errno.specs.declared.Errno.{Errno}
use Rattle.message.specs.declared.Kind.{Kind}
use Rattle.message.specs.declared.Kind.TheVariants.{Read, Write}

abbrev pub is_write : Kind → Bool
is_write Read = false
is_write Write = true

-- an outcome is good if it is a number of bytes that is a multiple of 512, above 0, at most the count
abbrev pub is_good : ℕ → Result ℕ Errno → Bool
is_good count (Ok n) = (n % 512 == 0) && nat_lt 0 n && nat_le n count
is_good count (Err e) = false

-- how many bytes an outcome moved: its number where it is good for this count
abbrev pub moved : ℕ → Result ℕ Errno → Option ℕ
moved count (Ok n) = if is_good count (Ok n) then Some n else None
moved count (Err e) = None
