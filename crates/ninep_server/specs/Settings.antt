-- Attributes that are changed.
use Rattle.std.specs.Prelude.{ℕ, List, [], ◌∷◌}
use Rattle.tree.specs.declared.Call.TheVariants as call
use Rattle.tree.specs.declared.PathFrom.{PathFrom}
use Rattle.talks.specs.Changes.{changes_wanted, may_change, in_order, change_call}
use Rattle.ninep_fids.specs.Paths.{placed}
use Rattle.ninep_fids.specs.Knowledge.{Known, found, start_of}
use Rattle.talks.specs.Hearing.{done_in, attributes_in}
use Rattle.ninep_fids.specs.Plans.{Plan, OrNoMemory, with_it, calls}
use Rattle.ninep_fids.specs.Nodes.{says}
use Rattle.ninep_fids.specs.declared.fid.Kind.TheVariants as kind
use Rattle.ninep_fids.specs.declared.users.User.{User}
use Rattle.talks.specs.declared.changes.Wanted.{Wanted}
use Rattle.talks.specs.declared.changes.Change.{Change}
use Rattle.ninep_fids.specs.declared.answer.NinepAnswer.TheVariants as answer
use Rattle.ninep_fids.specs.Checks.{changeable}

-- one change is made after the other
abbrev pub changing : ℕ → PathFrom → List Change → Plan
changing session path [] = says answer.Setattr
changing session path (c ∷ changes) =
    calls session (change_call path c) (λ h. with_it (done_in h) (λ _. changing session path changes))

-- First it is looked at what the user may change: a refusal leaves all as it was, unless it is for something else than the message.
abbrev pub looking_first : User → PathFrom → Wanted → Plan
looking_first user path wanted = calls user.session (call.Lstat path) (λ h. with_it (attributes_in h)
    (λ a. with_it (changes_wanted wanted a) (λ c. with_it (may_change user.uid a c) (λ _. changing user.session path (in_order c)))))

-- Tsetattr: by the path, or by the inode of an open fid of user 0 that has lost its name
abbrev pub sets : Known → ℕ → Wanted → Plan
sets k fid wanted = with_it (found k.fids fid) (λ file. with_it (start_of file) (λ start. with_it (changeable file.node.kind)
    (λ _. OrNoMemory (looking_first file.user (placed start file.path) wanted))))
