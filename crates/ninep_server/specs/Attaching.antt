-- How a connection begins, and how users attach.
use Rattle.std.specs.Prelude.{ℕ, Bool, List, [], ◌∷◌, min, nat_lt, codes, Option, Some, None, if◌then◌else◌}
use Rattle.std.specs.Str.{bytes_eq}
use Rattle.errno.specs.declared.Errno.TheVariants.{EINVAL}
use Rattle.tree.specs.declared.Call.TheVariants as call
use Rattle.ninep_fids.specs.Knowledge.{Known, new_fid, user_of, file_at}
use Rattle.talks.specs.Hearing.{attributes_in, session_in}
use Rattle.ninep_fids.specs.Plans.{Plan, Asks, Changes, OrNoMemory, Begins, Attaches, Puts, refuses, with_it, calls}
use Rattle.talks.specs.Plain.{from_root}
use Rattle.ninep_fids.specs.Nodes.{says, node_of, qid_of}
use Rattle.talks.specs.declared.refused.Refused.TheVariants.{By}
use Rattle.ninep_fids.specs.declared.users.User.{User}
use Rattle.talks.specs.declared.ask.Leaving.TheVariants.{All}
use Rattle.talks.specs.declared.ask.Ask.TheVariants as ask
use Rattle.ninep_fids.specs.declared.answer.NinepAnswer.TheVariants as answer
use Rattle.ninep_fids.specs.Checks.{user_number}

-- Tversion: all sessions end, and a connection begins whose messages have at most so many bytes. EINVAL below the least.
abbrev pub beginning : ℕ → Bool → Plan
beginning most known = Asks (ask.Leave All) (λ h. Changes (Begins most) (says (answer.Version most known)))

abbrev pub begins : ℕ → List ℕ → Plan
begins most version =
    if nat_lt most 4096 then refuses (By EINVAL) else beginning (min most 65560) (bytes_eq version (codes "9P2000.L"))

-- the root is looked at, and the fid stands for it
abbrev pub looking_at_root : ℕ → User → Plan
looking_at_root fid user = calls user.session (call.Lstat (from_root (47 ∷ []))) (λ h. with_it (attributes_in h)
    (λ a. OrNoMemory (Changes (Puts fid (file_at user [] (node_of a))) (says (answer.Attach (qid_of (node_of a)))))))

-- a session for the user and the group of the same number
abbrev pub entering : ℕ → ℕ → Plan
entering fid uid = Asks (ask.Enter uid uid) (λ h. with_it (session_in h) (λ session.
    OrNoMemory (Changes (Attaches (record { uid = uid; session = session }))
    (looking_at_root fid (record { uid = uid; session = session })))))

-- a user who is attached has a session
abbrev pub attaching_as : ℕ → ℕ → Option User → Plan
attaching_as fid uid (Some user) = looking_at_root fid user
attaching_as fid uid None = entering fid uid

-- Tattach
abbrev pub attaching : Known → ℕ → ℕ → Plan
attaching k fid uid = with_it (new_fid k.fids fid) (λ _. with_it (user_number uid)
    (λ number. OrNoMemory (attaching_as fid number (user_of k.users number))))
