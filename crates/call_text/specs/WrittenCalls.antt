-- Calls as words write them, and those of up to two words.
use Rattle.std.specs.Prelude.{ℕ, List, [], if◌then◌else◌, Option, Some, None, codes, replicate}
use Rattle.std.specs.Borrow.{Bor}
use Rattle.std.specs.Option.{option_map, option_zip}
use Rattle.std.specs.Str.{bytes_eq}
use Rattle.tree.specs.declared.Start.TheVariants.{Root}
use Rattle.tree.specs.declared.PathFrom.{PathFrom}
use Rattle.tree.specs.declared.Call.{Call}
use Rattle.tree.specs.declared.Call.TheVariants.{Open, Close, Dup, Read, Write, Seek, Stat, Fstat, Link, Unlink, Mkdir, Rmdir, Rename, Chmod, Chown, Utime, Truncate, Readdir, Sync, Statfs, Symlink, Readlink, Lstat}
use Rattle.call_text.specs.Words.{number_of, mode_of, path_of}
use Rattle.call_text.specs.Bytes.{hex_bytes, digits_in}
use Rattle.call_text.specs.declared.written_call.call.WrittenCall.{WrittenCall}
use Rattle.call_text.specs.declared.written_call.call.WrittenCall.TheVariants.{Whole, Hex, Fill}

-- bytes as a call has them, wherever they stand
abbrev pub at : List ℕ → Bor (List ℕ)
at bytes = record { ref_ptr = (0, 0); now = bytes }

-- the same bytes, wherever they stand
abbrev pub anywhere : Bor (List ℕ) → Bor (List ℕ)
anywhere bytes = at bytes.now

-- a path from the root: words have no other
abbrev pub from_root : List ℕ → PathFrom
from_root bytes = record { start = Root; bytes = at bytes }

-- the same path, wherever its bytes stand
abbrev pub plain_path : PathFrom → PathFrom
plain_path path = record { start = path.start; bytes = anywhere path.bytes }

-- the same call, wherever its paths and bytes stand
abbrev pub plain : Call → Call
plain (Open path flags mode) = Open (plain_path path) flags mode
plain (Close fd) = Close fd
plain (Dup fd) = Dup fd
plain (Read fd count) = Read fd count
plain (Write fd bytes) = Write fd (anywhere bytes)
plain (Seek fd whence offset) = Seek fd whence offset
plain (Stat path) = Stat (plain_path path)
plain (Fstat fd) = Fstat fd
plain (Link old new) = Link (plain_path old) (plain_path new)
plain (Unlink path) = Unlink (plain_path path)
plain (Mkdir path mode) = Mkdir (plain_path path) mode
plain (Rmdir path) = Rmdir (plain_path path)
plain (Rename old new) = Rename (plain_path old) (plain_path new)
plain (Chmod path mode) = Chmod (plain_path path) mode
plain (Chown path uid gid) = Chown (plain_path path) uid gid
plain (Utime path atime mtime) = Utime (plain_path path) atime mtime
plain (Truncate path size) = Truncate (plain_path path) size
plain (Readdir fd) = Readdir fd
plain Sync = Sync
plain Statfs = Statfs
plain (Symlink target path) = Symlink (anywhere target) (plain_path path)
plain (Readlink path) = Readlink (plain_path path)
plain (Lstat path) = Lstat (plain_path path)

-- the call that is written, with its bytes
abbrev pub meant : WrittenCall → Call
meant (Whole call) = plain call
meant (Hex fd digits) = Write fd (at (hex_bytes digits.now))
meant (Fill fd count byte) = Write fd (at (replicate count byte))

-- a descriptor, a size or a time
abbrev pub word : List ℕ → Option ℕ
word w = number_of 4294967295 w

-- how many bytes to read or to fill, at most 131072
abbrev pub count : List ℕ → Option ℕ
count w = number_of 131072 w

-- two words that both can be read
abbrev pub both : {A B : Type 0} → (A → B → Call) → Option A → Option B → Option Call
both make a b = option_map (λ p. make p.0 p.1) (option_zip a b)

-- a call of no words but its name
abbrev pub call_of_none : List ℕ → Option Call
call_of_none name =
    if bytes_eq name (codes "sync") then Some Sync else if bytes_eq name (codes "statfs") then Some Statfs else None

-- a call of a descriptor or a path
abbrev pub call_of_one : List ℕ → List ℕ → Option Call
call_of_one name a =
    if bytes_eq name (codes "close") then option_map Close (word a)
    else if bytes_eq name (codes "dup") then option_map Dup (word a)
    else if bytes_eq name (codes "fstat") then option_map Fstat (word a)
    else if bytes_eq name (codes "readdir") then option_map Readdir (word a)
    else if bytes_eq name (codes "stat") then option_map (λ p. Stat (from_root p)) (path_of a)
    else if bytes_eq name (codes "unlink") then option_map (λ p. Unlink (from_root p)) (path_of a)
    else if bytes_eq name (codes "rmdir") then option_map (λ p. Rmdir (from_root p)) (path_of a)
    else if bytes_eq name (codes "readlink") then option_map (λ p. Readlink (from_root p)) (path_of a)
    else if bytes_eq name (codes "lstat") then option_map (λ p. Lstat (from_root p)) (path_of a) else None

-- a call of two words
abbrev pub call_of_two : List ℕ → List ℕ → List ℕ → Option Call
call_of_two name a b =
    if bytes_eq name (codes "read") then both Read (word a) (count b)
    else if bytes_eq name (codes "write") then both (λ fd digits. Write fd (at (hex_bytes digits))) (word a) (digits_in b)
    else if bytes_eq name (codes "link") then both (λ old new. Link (from_root old) (from_root new)) (path_of a) (path_of b)
    else if bytes_eq name (codes "symlink") then both (λ target p. Symlink (at target) (from_root p)) (path_of a) (path_of b)
    else if bytes_eq name (codes "rename") then both (λ old new. Rename (from_root old) (from_root new)) (path_of a) (path_of b)
    else if bytes_eq name (codes "mkdir") then both (λ p mode. Mkdir (from_root p) mode) (path_of a) (mode_of b)
    else if bytes_eq name (codes "chmod") then both (λ p mode. Chmod (from_root p) mode) (path_of a) (mode_of b)
    else if bytes_eq name (codes "truncate") then both (λ p size. Truncate (from_root p) size) (path_of a) (word b) else None

-- the bytes that are decoded of a written call
abbrev pub decoded : WrittenCall → List ℕ
decoded (Whole call) = []
decoded (Hex fd digits) = hex_bytes digits.now
decoded (Fill fd count byte) = replicate count byte
