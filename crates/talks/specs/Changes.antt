-- Changes of attributes, as a message says them.
use Rattle.std.specs.Prelude.{⊤, ℕ, ◌%◌, List, ◌++◌, nat_lt, min, Bool, not, ◌&&◌, ◌||◌, ◌==◌, Option, Some, None, Result, Ok, Err}
use Rattle.std.specs.Prelude.{if◌then◌else◌}
use Rattle.std.specs.Option.{is_some, option_map, option_to_list}
use Rattle.errno.specs.declared.Errno.TheVariants.{EPERM, EINVAL, EFBIG}
use Rattle.tree.specs.declared.Attributes.{Attributes}
use Rattle.tree.specs.declared.Call.{Call}
use Rattle.tree.specs.declared.Call.TheVariants as call
use Rattle.tree.specs.declared.PathFrom.{PathFrom}
use Rattle.talks.specs.Flags.{is_set}
use Rattle.talks.specs.Refusals.{then_of}
use Rattle.talks.specs.Plain.{plain_path}
use Rattle.talks.specs.declared.refused.Refused.{Refused}
use Rattle.talks.specs.declared.refused.Refused.TheVariants.{By}
use Rattle.talks.specs.declared.changes.Wanted.{Wanted}
use Rattle.talks.specs.declared.changes.Change.{Change}
use Rattle.talks.specs.declared.changes.Change.TheVariants as change
use Rattle.talks.specs.declared.changes.Changes.{Changes}

-- A message says by the bits of `valid` what is changed: 1 the mode, 2 the owner, 4 the group, 8 the size, 16 and 32 the times, which are
-- those of the message where 128 and 256 are set, and now else. What it doesn't name stays.
abbrev pub size_wanted : ℕ → ℕ → Result (Option ℕ) Refused
size_wanted valid given =
    if is_set valid 8 then (if nat_lt given 0x100000000 then Ok (Some given) else Err (By EFBIG)) else Ok None

-- Of a mode the permissions are taken, and no other bits: a volume has no set-user-id, set-group-id and sticky bits.
abbrev pub mode_wanted : ℕ → ℕ → Option ℕ
mode_wanted valid given = if is_set valid 1 then Some (given % 512) else None

abbrev pub owner_wanted : ℕ → ℕ → ℕ → ℕ → Result ℕ Refused
owner_wanted valid bit given was =
    if is_set valid bit then (if nat_lt given 65536 then Ok given else Err (By EINVAL)) else Ok was

-- A time is a signed number of 64 bits, given by its two's complement. Of those that a volume has, from 0 to 2^32 - 1, the nearest is taken.
abbrev pub seconds_in : ℕ → ℕ
seconds_in given = if nat_lt given 0x8000000000000000 then min given 0xffffffff else 0

abbrev pub time_wanted : ℕ → ℕ × ℕ → ℕ → ℕ → ℕ → ℕ
time_wanted valid bits given now was =
    if is_set valid bits.0 then (if is_set valid bits.1 then seconds_in given else now) else was

-- the time of a change, now, which a change of size sets by itself
abbrev pub comes_with_size : ℕ → Bool
comes_with_size valid = is_set valid 8 && not (is_set valid 0x110)

abbrev pub times_wanted : Wanted → Attributes → ℕ × ℕ
times_wanted w was =
    (time_wanted w.valid (16, 128) w.atime w.now was.atime, time_wanted w.valid (32, 256) w.mtime w.now was.mtime)

-- the changes that a message wants of a node with these attributes
abbrev pub changes_wanted : Wanted → Attributes → Result Changes Refused
changes_wanted w was =
    then_of (size_wanted w.valid w.size) (λ size.
    then_of (owner_wanted w.valid 2 w.uid was.uid) (λ uid.
    then_of (owner_wanted w.valid 4 w.gid was.gid) (λ gid.
    Ok (record {
      size = size;
      owners = if is_set w.valid 6 then Some (uid, gid) else None;
      mode = mode_wanted w.valid w.mode;
      times = if is_set w.valid 48 && not (comes_with_size w.valid) then Some (times_wanted w was) else None;
    }))))

-- User 0 may change all, and an owner all but owners: the server refuses the others. A size is left to the server.
abbrev pub owns : ℕ → Attributes → Bool
owns uid was = (uid == 0) || (uid == was.uid)

abbrev pub may_change : ℕ → Attributes → Changes → Result ⊤ Refused
may_change uid was c =
    if is_some c.owners && not (uid == 0) then Err (By EPERM)
    else if (is_some c.mode || is_some c.times) && not (owns uid was) then Err (By EPERM)
    else Ok tt

-- In this order: behind the size, which alone may still be refused for what the user may do, all others are granted.
abbrev pub in_order : Changes → List Change
in_order c =
    option_to_list (option_map (λ size. change.Size size) c.size)
    ++ (option_to_list (option_map (λ (owners : ℕ × ℕ). change.Owners owners.0 owners.1) c.owners)
    ++ (option_to_list (option_map (λ mode. change.Mode mode) c.mode)
    ++ option_to_list (option_map (λ (times : ℕ × ℕ). change.Times times.0 times.1) c.times)))

abbrev pub change_call : PathFrom → Change → Call
change_call path (change.Size size) = call.Truncate (plain_path path) size
change_call path (change.Owners uid gid) = call.Chown (plain_path path) uid gid
change_call path (change.Mode mode) = call.Chmod (plain_path path) mode
change_call path (change.Times atime mtime) = call.Utime (plain_path path) atime mtime
