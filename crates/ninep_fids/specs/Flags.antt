-- Flags and groups that a message names.
use Rattle.std.specs.Prelude.{◌+◌, ◌%◌, ℕ, Bool, not, nat_lt, Option, Some, None, Result, Ok, Err, if◌then◌else◌, ◌==◌, ◌||◌}
use Rattle.errno.specs.declared.Errno.TheVariants.{EINVAL}
use Rattle.tree.specs.declared.OpenFlags.{OpenFlags}
use Rattle.talks.specs.Flags.{is_set}
use Rattle.talks.specs.declared.refused.Refused.{Refused}
use Rattle.talks.specs.declared.refused.Refused.TheVariants.{By}
use Rattle.ninep_fids.specs.declared.users.User.{User}

-- a flag of the server's open, where a bit is set
abbrev pub flag_for : ℕ → ℕ → ℕ → ℕ
flag_for flags bit flag = if is_set flags bit then flag else 0

-- Flags of the server's open (1 reads, 2 writes, 4 appends, 32 truncates) by Linux's: 0 reads, 1 writes, 2 does both, and 3 is EINVAL.
-- Without writing nothing is truncated or appended. Other bits mean nothing.
abbrev pub open_bits : ℕ → Result ℕ Refused
open_bits flags =
    if flags % 4 == 0 then Ok 1
    else if flags % 4 == 3 then Err (By EINVAL)
    else Ok ((if flags % 4 == 1 then 2 else 3) + (flag_for flags 0x200 32 + flag_for flags 0x400 4))

abbrev pub flags_by : ℕ → OpenFlags
flags_by bits = record { 0 = bits }

-- the group that a new node is given: the one that is asked for, where user 0 asks and it isn't its own; one past 65535 is EINVAL
abbrev pub group_of : User → ℕ → Result (Option ℕ) Refused
group_of user gid =
    if not (user.uid == 0) || (gid == 0) then Ok None
    else if nat_lt 65535 gid then Err (By EINVAL)
    else Ok (Some gid)
