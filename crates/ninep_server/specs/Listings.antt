-- The names of a directory are told.
use Rattle.std.specs.Prelude.{ℕ, ◌-◌, min, nat_lt, List, [], ◌∷◌, drop, take, Option, Some, None, if◌then◌else◌}
use Rattle.errno.specs.declared.Errno.TheVariants.{EINVAL}
use Rattle.ninep.specs.Fields.{Data}
use Rattle.tree.specs.declared.Call.TheVariants as call
use Rattle.ninep_fids.specs.Directories.{entries_of}
use Rattle.ninep_fids.specs.Entries.{bytes_each, fitting, any_long}
use Rattle.ninep_fids.specs.Paths.{called, parent}
use Rattle.ninep_fids.specs.Knowledge.{Known, File, named, opened, file_listed}
use Rattle.talks.specs.Hearing.{attributes_in, eio, names_heard}
use Rattle.ninep_fids.specs.Plans.{Plan, Says, Changes, OrNoMemory, Becomes, reply, refuses, with_it, calls}
use Rattle.talks.specs.Plain.{from_root}
use Rattle.talks.specs.declared.refused.Refused.TheVariants.{By}
use Rattle.ninep_fids.specs.declared.users.User.{User}
use Rattle.ninep_fids.specs.declared.fid.Node.{Node}

-- Rreaddir: of these entries, the first of which stands at this offset, as many as have room in so many bytes
abbrev pub tells : ℕ → ℕ → List (ℕ × List ℕ) → Plan
tells offset limit es = if any_long es then refuses eio
    else Says (λ most. reply 41 (Data (take most (fitting limit (bytes_each offset es))) ∷ []) most)

-- of the entries of a directory, those from the offset on: none where it has fewer
abbrev pub telling_from : ℕ → ℕ → List (ℕ × List ℕ) → Plan
telling_from offset limit es = OrNoMemory (tells offset limit (drop offset es))

-- the fid keeps the entries, and those from the offset on are told
abbrev pub keeping : ℕ → User → List ℕ → Node → ℕ → ℕ → ℕ → List (ℕ × List ℕ) → Plan
keeping fid user path node fd offset limit es =
    Changes (Becomes fid (file_listed user path node fd es)) (telling_from offset limit es)

-- the names are asked for
abbrev pub listing_names : ℕ → User → List ℕ → Node → ℕ → ℕ → ℕ → ℕ → Plan
listing_names fid user path node fd offset limit above = calls user.session (call.Readdir fd) (λ h. with_it (names_heard h)
    (λ names. keeping fid user path node fd offset limit (entries_of node.inode above names)))

-- before them the directory above, whose number isn't known
abbrev pub listing : ℕ → User → List ℕ → Node → ℕ → ℕ → ℕ → Option ℕ → Plan
listing fid user path node fd offset limit None = calls user.session (call.Lstat (from_root (called (parent path))))
    (λ h. with_it (attributes_in h) (λ a. listing_names fid user path node fd offset limit a.inode))
listing fid user path node fd offset limit (Some above) = listing_names fid user path node fd offset limit above

-- the entries by which an offset is told: those that the fid keeps, but at offset 0 none, so that they are taken anew
abbrev pub kept_for : ℕ → Option (List (ℕ × List ℕ)) → Option (List (ℕ × List ℕ))
kept_for offset kept = if nat_lt 0 offset then kept else None

-- kept entries are told without a call
abbrev pub listing_by : ℕ → File → ℕ → ℕ → ℕ → Option (List (ℕ × List ℕ)) → Plan
listing_by fid file fd offset limit (Some es) = telling_from offset limit es
listing_by fid file fd offset limit None = OrNoMemory (listing fid file.user file.path file.node fd offset limit None)

-- Treaddir: EINVAL where not even the longest entry has room
abbrev pub lists : Known → ℕ → ℕ → ℕ → Plan
lists k fid offset count = with_it (opened k.fids fid) (λ used. with_it (named k.fids fid) (λ file.
    if nat_lt (min count (k.message_size - 24)) 84 then refuses (By EINVAL)
    else listing_by fid file used.1 offset (min count (k.message_size - 24)) (kept_for offset file.entries)))
