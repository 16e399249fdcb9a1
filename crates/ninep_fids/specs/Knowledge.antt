-- What a connection knows: its users, and what its fids stand for.
use Rattle.std.specs.Prelude.{⊤, ◌≡◌, ℕ, Bool, true, false, not, List, map, filter, length, nat_lt, Option, Some, None, Result, Ok, Err}
use Rattle.std.specs.Prelude.{if◌then◌else◌, ◌==◌}
use Rattle.std.specs.Borrow.{Bor}
use Rattle.std.specs.Option.{ok_or, is_some, option_map}
use Rattle.std.specs.List.{find, list_any}
use Rattle.std.specs.Ordering.{nat_cmp}
use Rattle.std.specs.BTreeMap.{is_at}
use Rattle.std.specs.Map.{lookup, remove_entry}
use Rattle.errno.specs.declared.Errno.TheVariants.{EBADF, EINVAL, ENFILE}
use Rattle.tree.specs.declared.Start.{Start}
use Rattle.tree.specs.declared.Start.TheVariants.{Root, Inode}
use Rattle.talks.specs.Refusals.{then_of}
use Rattle.ninep_fids.specs.Directories.{entries_of}
use Rattle.ninep_fids.specs.declared.entries.Listed.{Listed}
use Rattle.talks.specs.declared.refused.Refused.{Refused}
use Rattle.talks.specs.declared.refused.Refused.TheVariants.{By, Stale}
use Rattle.ninep_fids.specs.declared.users.User.{User}
use Rattle.ninep_fids.specs.declared.fid.Node.{Node}
use Rattle.ninep_fids.specs.declared.fid.Fid.{Fid}
use Rattle.ninep_fids.specs.declared.fids.Fids.{Fids}
use Rattle.ninep_fids.specs.declared.knows.Knows.{Knows}

-- What a fid stands for: the user whose session uses it, where its node's name is, the node, its descriptor if it is open, whether the node
-- has lost that name, and the entries of an open directory, if they were taken, as they were then.
pub record File : Type 0 where
  pub user : User
  pub path : List ℕ
  pub node : Node
  pub descriptor : Option ℕ
  pub gone : Bool
  pub entries : Option (List (ℕ × List ℕ))

-- the most bytes of a message, the users who are attached, and the fids by their numbers, in order
pub record Known : Type 0 where
  pub message_size : ℕ
  pub users : List User
  pub fids : List (ℕ × File)

abbrev pub file_of : Fid → File
file_of f = record {
  user = f.user;
  path = f.path.items;
  node = f.node;
  descriptor = f.descriptor;
  gone = f.gone;
  entries = option_map (λ (l : Listed). entries_of f.node.inode l.above l.names.items) f.listed;
}

abbrev pub entry_of : ℕ × Fid → ℕ × File
entry_of e = (e.0, file_of e.1)

abbrev pub table_of : Fids → List (ℕ × File)
table_of fids = map entry_of fids.fids.entries

abbrev pub known_of : Knows → Known
known_of k = record { message_size = k.message_size; users = k.users.users.items; fids = table_of k.fids }

-- what a fid stands for
abbrev pub found : List (ℕ × File) → ℕ → Result File Refused
found fids fid = ok_or (lookup (is_at (nat_cmp fid)) fids) (By EBADF)

-- a file by its name, which it mustn't have lost
abbrev pub by_name : File → Bool → Result File Refused
by_name file true = Err Stale
by_name file false = Ok file

abbrev pub named : List (ℕ × File) → ℕ → Result File Refused
named fids fid = then_of (found fids fid) (λ file. by_name file file.gone)

-- Where calls start that look at a file itself or change it: at the root, by its name. Where it has lost that, at its inode, which is the
-- file's own as long as it is open, and from which only user 0's calls may start.
abbrev pub by_inode : File → Option ℕ → Result Start Refused
by_inode file None = Err Stale
by_inode file (Some fd) = if file.user.uid == 0 then Ok (Inode file.node.inode) else Err Stale

abbrev pub start_for : File → Bool → Result Start Refused
start_for file false = Ok Root
start_for file true = by_inode file file.descriptor

abbrev pub start_of : File → Result Start Refused
start_of file = start_for file file.gone

-- the session and the descriptor of a file, which must be open
abbrev pub by_descriptor : File → Option ℕ → Result (ℕ × ℕ) Refused
by_descriptor file None = Err (By EBADF)
by_descriptor file (Some fd) = Ok (file.user.session, fd)

abbrev pub opened : List (ℕ × File) → ℕ → Result (ℕ × ℕ) Refused
opened fids fid = then_of (found fids fid) (λ file. by_descriptor file file.descriptor)

-- what was found, as it is seen
abbrev pub seen : Result (Bor Fid) Refused → Result File Refused
seen (Ok fid) = Ok (file_of fid.now)
seen (Err refused) = Err refused

-- a number for a new fid: EINVAL where it is used, ENFILE where there are as many fids as may be
abbrev pub new_fid : List (ℕ × File) → ℕ → Result ⊤ Refused
new_fid fids fid =
    if is_some (lookup (is_at (nat_cmp fid)) fids) then Err (By EINVAL)
    else if nat_lt (length fids) 4096 then Ok tt else Err (By ENFILE)

-- a fid that isn't open
abbrev pub closed : Option ℕ → Result ⊤ Refused
closed None = Ok tt
closed (Some fd) = Err (By EINVAL)

-- a file that isn't open
abbrev pub file_at : User → List ℕ → Node → File
file_at user path node = record { user = user; path = path; node = node; descriptor = None; gone = false; entries = None }

-- one that is
abbrev pub file_open : User → List ℕ → Node → ℕ → File
file_open user path node fd = record { user = user; path = path; node = node; descriptor = Some fd; gone = false; entries = None }

-- an open directory whose entries were taken
abbrev pub file_listed : User → List ℕ → Node → ℕ → List (ℕ × List ℕ) → File
file_listed user path node fd entries = record (file_open user path node fd) { entries = Some entries }

-- whether one of these fids is this user's
abbrev pub has_fid : List (ℕ × File) → ℕ → Bool
has_fid fids uid = list_any (λ (e : ℕ × File). e.1.user.uid == uid) fids

-- the fids but this one
abbrev pub without : List (ℕ × File) → ℕ → List (ℕ × File)
without fids fid = remove_entry (is_at (nat_cmp fid)) fids

-- the users, without this one if it goes
abbrev pub users_left : Bool → ℕ → List User → List User
users_left true uid users = users
users_left false uid users = filter (λ (user : User). not (user.uid == uid)) users

-- A fid is let go, and its user where no other fid is that one's.
abbrev pub parted : Known → ℕ → ℕ → Known
parted k fid uid = record k { users = users_left (has_fid (without k.fids fid) uid) uid k.users; fids = without k.fids fid }

-- what a fid stood for that was let go, and whether its user stays
abbrev pub IsTaken : Known → ℕ → Result (Fid × Bool) Refused → Known → Type 0
IsTaken k fid (Ok taken) l = (found k.fids fid ≡ Ok (file_of taken.0)) × (taken.1 ≡ has_fid (without k.fids fid) taken.0.user.uid)
    × (l ≡ parted k fid taken.0.user.uid)
IsTaken k fid (Err refused) l = (found k.fids fid ≡ Err refused) × (l ≡ k)

-- the user with this number, if it is attached
abbrev pub user_of : List User → ℕ → Option User
user_of users uid = find (λ (user : User). user.uid == uid) users
