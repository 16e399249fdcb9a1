-- Opening, making files, directories and symbolic links.
use Rattle.std.specs.Prelude.{◌+◌, ◌%◌, ℕ, List, Bool, true, false, Option, Some, None, Result, Ok, Err, if◌then◌else◌}
use Rattle.errno.specs.declared.Errno.TheVariants.{EEXIST}
use Rattle.ninep.specs.declared.reply.Qid.{Qid}
use Rattle.tree.specs.declared.OpenFlags.{OpenFlags}
use Rattle.tree.specs.declared.Call.{Call}
use Rattle.tree.specs.declared.Call.TheVariants as call
use Rattle.talks.specs.Flags.{is_set}
use Rattle.ninep_fids.specs.Flags.{open_bits, flags_by, group_of}
use Rattle.ninep_fids.specs.Paths.{called, below, checked}
use Rattle.ninep_fids.specs.Knowledge.{Known, file_open}
use Rattle.talks.specs.Hearing.{done_in, attributes_in, descriptor_in}
use Rattle.ninep_fids.specs.Plans.{Plan, Changes, OrNoMemory, Becomes, error, refuses, closing, with_it, calls}
use Rattle.talks.specs.Plain.{at, from_root}
use Rattle.ninep_fids.specs.Nodes.{says, node_of, qid_of}
use Rattle.talks.specs.declared.refused.Refused.{Refused}
use Rattle.talks.specs.declared.refused.Refused.TheVariants.{By}
use Rattle.ninep_fids.specs.declared.users.User.{User}
use Rattle.ninep_fids.specs.declared.fid.Kind.TheVariants as kind
use Rattle.ninep_fids.specs.declared.fid.Node.{Node}
use Rattle.ninep_fids.specs.declared.answer.NinepAnswer.{NinepAnswer}
use Rattle.ninep_fids.specs.declared.answer.NinepAnswer.TheVariants as answer
use Rattle.ninep_fids.specs.Checks.{not_link, named_for, unopened}
use Rattle.ninep_server.specs.declared.making.Made.{Made}
use Rattle.ninep_server.specs.declared.making.Made.TheVariants as made

abbrev pub opening : ℕ → User → List ℕ → Node → OpenFlags → Plan
opening fid user path node flags = calls user.session (call.Open (from_root (called path)) flags 0) (λ h. with_it (descriptor_in h)
    (λ fd. Changes (Becomes fid (file_open user path node fd)) (says (answer.Open (qid_of node)))))

-- Tlopen
abbrev pub opens : Known → ℕ → ℕ → Plan
opens k fid flags = with_it (unopened k.fids fid) (λ file. with_it (not_link file.node.kind)
    (λ _. with_it (open_bits flags) (λ bits. OrNoMemory (opening fid file.user file.path file.node (flags_by bits)))))

-- a file that was opened is closed where it goes on no further
abbrev pub or_closes : {A : Type 0} → ℕ → ℕ → Result A Refused → (A → Plan) → Plan
or_closes session fd (Ok a) next = next a
or_closes session fd (Err refused) next = closing session (Some fd) (error refused)

-- the fid stands for it, open
abbrev pub became : ℕ → User → List ℕ → Node → ℕ → Plan
became fid user path node fd = Changes (Becomes fid (file_open user path node fd)) (says (answer.Create (qid_of node)))

-- it is looked at
abbrev pub looking_at_file : ℕ → User → List ℕ → ℕ → Plan
looking_at_file fid user path fd = calls user.session (call.Fstat fd) (λ h. or_closes user.session fd (attributes_in h)
    (λ a. became fid user path (node_of a) fd))

abbrev pub giving_group : ℕ → User → List ℕ → ℕ → ℕ → Plan
giving_group fid user path fd gid = calls user.session (call.Chown (from_root (called path)) 0 gid)
    (λ h. or_closes user.session fd (done_in h) (λ _. looking_at_file fid user path fd))

abbrev pub made_file : ℕ → User → List ℕ → Option ℕ → ℕ → Plan
made_file fid user path None fd = looking_at_file fid user path fd
made_file fid user path (Some gid) fd = giving_group fid user path fd gid

-- what has the name already is opened, and given no group
abbrev pub opening_taken : ℕ → User → List ℕ → OpenFlags → Plan
opening_taken fid user path flags = calls user.session (call.Open (from_root (called path)) flags 0)
    (λ h. with_it (descriptor_in h) (looking_at_file fid user path))

-- the name is taken
abbrev pub is_taken : Refused → Bool
is_taken (By EEXIST) = true
is_taken r = false

-- Nothing was made: what has the name is opened by these flags, if any.
abbrev pub not_made : ℕ → User → List ℕ → Option OpenFlags → Refused → Plan
not_made fid user path None refused = refuses refused
not_made fid user path (Some flags) refused = if is_taken refused then opening_taken fid user path flags else refuses refused

abbrev pub made_or_not : ℕ → User → List ℕ → Option OpenFlags → Option ℕ → Result ℕ Refused → Plan
made_or_not fid user path taken group (Ok fd) = made_file fid user path group fd
made_or_not fid user path taken group (Err refused) = not_made fid user path taken refused

-- a file is made at a new name, and opened
abbrev pub making_file : ℕ → User → List ℕ → OpenFlags → ℕ → Option OpenFlags → Option ℕ → Plan
making_file fid user path flags mode taken group = calls user.session (call.Open (from_root (called path)) flags mode)
    (λ h. made_or_not fid user path taken group (descriptor_in h))

-- the flags by which a name that is taken is opened: none where a message wants a new one alone (its flag 0x80)
abbrev pub taken_by : ℕ → ℕ → Option OpenFlags
taken_by flags bits = if is_set flags 0x80 then None else Some (flags_by bits)

-- Tlcreate: the flags of an open that makes a file (8) at a new name alone (16)
abbrev pub creates : Known → ℕ → List ℕ → ℕ → ℕ → ℕ → Plan
creates k fid name flags mode gid = with_it (unopened k.fids fid) (λ directory. with_it (checked name)
    (λ _. with_it (open_bits flags) (λ bits. with_it (group_of directory.user gid)
    (λ group. OrNoMemory (making_file fid directory.user (below directory.path name)
    (flags_by (bits + 24)) (mode % 512) (taken_by flags bits) group)))))

-- the call that makes a directory or a symbolic link
abbrev pub making_call : List ℕ → Made → Call
making_call path (made.Directory mode) = call.Mkdir (from_root (called path)) mode
making_call path (made.Symlink target) = call.Symlink (at target.now) (from_root (called path))

abbrev pub made_told : Made → Qid → NinepAnswer
made_told (made.Directory mode) qid = answer.Mkdir qid
made_told (made.Symlink target) qid = answer.Symlink qid

abbrev pub looking_at_made : ℕ → List ℕ → Made → Plan
looking_at_made session path what = calls session (call.Lstat (from_root (called path)))
    (λ h. with_it (attributes_in h) (λ a. says (made_told what (qid_of (node_of a)))))

abbrev pub giving_made_group : ℕ → List ℕ → Made → ℕ → Plan
giving_made_group session path what gid = calls session (call.Chown (from_root (called path)) 0 gid)
    (λ h. with_it (done_in h) (λ _. looking_at_made session path what))

abbrev pub was_made : ℕ → List ℕ → Made → Option ℕ → Plan
was_made session path what None = looking_at_made session path what
was_made session path what (Some gid) = giving_made_group session path what gid

abbrev pub making : ℕ → List ℕ → Made → Option ℕ → Plan
making session path what group =
    calls session (making_call path what) (λ h. with_it (done_in h) (λ _. was_made session path what group))

-- Tmkdir
abbrev pub makes_directory : Known → ℕ → List ℕ → ℕ → ℕ → Plan
makes_directory k directory name mode gid = with_it (named_for k.fids directory name)
    (λ parent. with_it (group_of parent.user gid)
    (λ group. OrNoMemory (making parent.user.session (below parent.path name) (made.Directory (mode % 512)) group)))

-- Tsymlink: it is given no group
abbrev pub makes_link : Known → ℕ → List ℕ → List ℕ → Plan
makes_link k directory name target = with_it (named_for k.fids directory name)
    (λ parent. OrNoMemory (making parent.user.session (below parent.path name) (made.Symlink (at target)) None))
