-- What is refused before anything is asked.
use Rattle.std.specs.Prelude.{⊤, ℕ, List, Option, Result, Ok, Err, Bool, true, false, if◌then◌else◌, ◌==◌, nat_lt}
use Rattle.errno.specs.declared.Errno.TheVariants.{ELOOP, ENOTDIR, EINVAL}
use Rattle.ninep_fids.specs.Knowledge.{Known, File, named, closed, new_fid}
use Rattle.talks.specs.Refusals.{then_of}
use Rattle.talks.specs.declared.refused.Refused.{Refused}
use Rattle.talks.specs.declared.refused.Refused.TheVariants.{By, Unsupported}
use Rattle.ninep_fids.specs.declared.fid.Kind.{Kind}
use Rattle.ninep_fids.specs.declared.fid.Kind.TheVariants as kind
use Rattle.ninep_fids.specs.Paths.{leads, checked}

-- a file by its name, and a name that may be given
abbrev pub named_for : List (ℕ × File) → ℕ → List ℕ → Result File Refused
named_for fids fid name = then_of (named fids fid) (λ file. then_of (checked name) (λ _. Ok file))

-- a file by its name, which mustn't be open
abbrev pub unopened : List (ℕ × File) → ℕ → Result File Refused
unopened fids fid = then_of (named fids fid) (λ file. then_of (closed file.descriptor) (λ _. Ok file))

-- a symbolic link isn't opened
abbrev pub not_link : Kind → Result ⊤ Refused
not_link kind.Symlink = Err (By ELOOP)
not_link k = Ok tt

-- what a symbolic link has isn't changed
abbrev pub changeable : Kind → Result ⊤ Refused
changeable kind.Symlink = Err Unsupported
changeable k = Ok tt

abbrev pub is_directory : Kind → Bool
is_directory kind.Directory = true
is_directory k = false

-- only a directory has names
abbrev pub enters : Kind → List ℕ → Result ⊤ Refused
enters kind.Directory name = leads name
enters k name = Err (By ENOTDIR)

-- a fid may be walked to itself, where it isn't open
abbrev pub place : Known → ℕ → ℕ → Option ℕ → Result ⊤ Refused
place k fid new descriptor = if new == fid then closed descriptor else new_fid k.fids new

-- The number of a user who attaches: none, as Linux sends where all users of the client share one, is user 0.
abbrev pub user_number : ℕ → Result ℕ Refused
user_number uid = if uid == 0xffffffff then Ok 0 else if nat_lt uid 65536 then Ok uid else Err (By EINVAL)
