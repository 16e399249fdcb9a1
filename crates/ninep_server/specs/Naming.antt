-- Names: further ones, changed ones, and ones that are taken away.
use Rattle.std.specs.Prelude.{ℕ, Bool, true, false, List, Option, Result, Ok, Err}
use Rattle.tree.specs.declared.Call.{Call}
use Rattle.tree.specs.declared.Call.TheVariants as call
use Rattle.tree.specs.declared.Attributes.{Attributes}
use Rattle.tree.specs.declared.Reply.{Reply}
use Rattle.ninep_fids.specs.Paths.{called, below, checked}
use Rattle.ninep_fids.specs.Knowledge.{Known, File, found, named, has_fid, without}
use Rattle.talks.specs.Hearing.{done_in, attributes_in}
use Rattle.talks.specs.Flags.{is_set}
use Rattle.ninep_fids.specs.Plans.{Plan, Changes, OrNoMemory, Drops, Renames, Unlinks, error, letting_go, with_it, calls}
use Rattle.talks.specs.Plain.{from_root}
use Rattle.ninep_fids.specs.Nodes.{says, said_of}
use Rattle.talks.specs.declared.refused.Refused.{Refused}
use Rattle.talks.specs.declared.refused.Refused.TheVariants.{Stale}
use Rattle.ninep_fids.specs.declared.fid.Kind.TheVariants as kind
use Rattle.ninep_fids.specs.declared.answer.NinepAnswer.{NinepAnswer}
use Rattle.ninep_fids.specs.declared.answer.NinepAnswer.TheVariants as answer
use Rattle.ninep_fids.specs.Checks.{is_directory, named_for}

-- Tlink: the file of a fid gets a further name in a directory
abbrev pub linking : ℕ → List ℕ → List ℕ → Plan
linking session old new =
    calls session (call.Link (from_root (called old)) (from_root (called new))) (λ h. with_it (done_in h) (λ _. says answer.Link))

abbrev pub links : Known → ℕ → ℕ → List ℕ → Plan
links k directory fid name = with_it (named k.fids directory) (λ parent. with_it (named k.fids fid) (λ file. with_it (checked name)
    (λ _. OrNoMemory (linking parent.user.session file.path (below parent.path name)))))

-- A rename was done. If the old name is still there, both were names of one file: then nothing was changed, and no fid is. Else the name
-- became the new one, and each fid stays on its file.
abbrev pub renamed : List ℕ → List ℕ → NinepAnswer → Result Attributes Refused → Plan
renamed old new a (Ok still_there) = says a
renamed old new a (Err refused) = Changes (Renames old new) (says a)

-- the old name is looked at
abbrev pub looking_back : ℕ → List ℕ → List ℕ → NinepAnswer → Plan
looking_back session old new a = calls session (call.Lstat (from_root (called old))) (λ h. renamed old new a (attributes_in h))

-- a name becomes another one
abbrev pub renaming : ℕ → List ℕ → List ℕ → NinepAnswer → Plan
renaming session old new a = calls session (call.Rename (from_root (called old)) (from_root (called new)))
    (λ h. with_it (done_in h) (λ _. looking_back session old new a))

-- Trename: that of a fid's file
abbrev pub renames : Known → ℕ → ℕ → List ℕ → Plan
renames k fid directory name = with_it (named k.fids fid) (λ file. with_it (named_for k.fids directory name)
    (λ parent. OrNoMemory (renaming parent.user.session file.path (below parent.path name) answer.Rename)))

-- Trenameat: one in a directory
abbrev pub renames_at : Known → ℕ → List ℕ → ℕ → List ℕ → Plan
renames_at k old_directory old_name new_directory new_name =
    with_it (named k.fids old_directory) (λ from. with_it (named k.fids new_directory) (λ to. with_it (checked old_name)
    (λ _. with_it (checked new_name) (λ _. OrNoMemory (renaming from.user.session (below from.path old_name)
    (below to.path new_name) answer.Renameat)))))

-- the call that takes a name away
abbrev pub unlink_call : List ℕ → Bool → Call
unlink_call path true = call.Rmdir (from_root (called path))
unlink_call path false = call.Unlink (from_root (called path))

-- Tunlinkat: a directory's name is taken away where the message says so (its flag 0x200), else another one's
abbrev pub unlinking : ℕ → List ℕ → Bool → Plan
unlinking session path directory = calls session (unlink_call path directory)
    (λ h. with_it (done_in h) (λ _. Changes (Unlinks path) (says answer.Unlinkat)))

abbrev pub unlinks : Known → ℕ → List ℕ → ℕ → Plan
unlinks k directory name flags = with_it (named_for k.fids directory name)
    (λ parent. OrNoMemory (unlinking parent.user.session (below parent.path name) (is_set flags 0x200)))

-- what a remove says behind the call, and what the fid leaves is closed
abbrev pub removed : ℕ → List ℕ → Bool → Option ℕ → Result Reply Refused → Plan
removed session path stays descriptor (Ok _) = Changes (Unlinks path) (letting_go stays session descriptor (said_of answer.Remove))
removed session path stays descriptor (Err refused) = letting_go stays session descriptor (error refused)

abbrev pub removing : ℕ → List ℕ → Bool → Bool → Option ℕ → Plan
removing session path directory stays descriptor =
    calls session (unlink_call path directory) (λ h. removed session path stays descriptor (done_in h))

-- Tremove: the name of a fid's file is taken away, and the fid is let go, whatever the answer, as a Tclunk does
abbrev pub removing_file : File → Bool → Bool → Plan
removing_file file stays true = letting_go stays file.user.session file.descriptor (error Stale)
removing_file file stays false = removing file.user.session file.path (is_directory file.node.kind) stays file.descriptor

abbrev pub removes : Known → ℕ → Plan
removes k fid = with_it (found k.fids fid) (λ file. Changes (Drops fid file.user.uid)
    (removing_file file (has_fid (without k.fids fid) file.user.uid) file.gone))
