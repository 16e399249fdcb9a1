-- Walks: a new fid for what names lead to, one after the other.
use Rattle.std.specs.Prelude.{ℕ, List, [], ◌∷◌, ◌++◌, length, Result, Ok, Err}
use Rattle.std.specs.List.{flat_map}
use Rattle.ninep.specs.Fields.{Two, Number}
use Rattle.ninep.specs.Replies.{qid_fields}
use Rattle.ninep.specs.declared.reply.Qid.{Qid}
use Rattle.tree.specs.declared.Call.TheVariants as call
use Rattle.ninep_fids.specs.Paths.{called, stepped}
use Rattle.ninep_fids.specs.Knowledge.{Known, named, file_at}
use Rattle.talks.specs.Hearing.{attributes_in}
use Rattle.ninep_fids.specs.Plans.{Plan, Says, Changes, OrNoMemory, Puts, reply, refuses, with_it, calls}
use Rattle.talks.specs.Plain.{from_root}
use Rattle.ninep_fids.specs.Nodes.{node_of, qid_of}
use Rattle.ninep_fids.specs.Written.{walked}
use Rattle.talks.specs.declared.refused.Refused.{Refused}
use Rattle.ninep_fids.specs.declared.users.User.{User}
use Rattle.ninep_fids.specs.declared.fid.Kind.TheVariants as kind
use Rattle.ninep_fids.specs.declared.fid.Node.{Node}
use Rattle.ninep_fids.specs.Checks.{enters, place}

-- Rwalk: what the names lead to, at most sixteen
abbrev pub says_walked : List Qid → Plan
says_walked qids = Says (reply 111 (Number Two (length (walked qids)) ∷ flat_map qid_fields (walked qids)))

-- A name leads nowhere: no fid is made. The answer is what those before it lead to, or why the first one leads nowhere.
abbrev pub stops : List Qid → Refused → Plan
stops [] refused = refuses refused
stops (q ∷ qids) refused = says_walked (q ∷ qids)

abbrev pub with_name : {A : Type 0} → List Qid → Result A Refused → (A → Plan) → Plan
with_name qids (Ok a) next = next a
with_name qids (Err refused) next = stops qids refused

-- what stands at a path is looked at, and it goes on from there
abbrev pub looking_at : User → List ℕ → List Qid → (Node → List Qid → Plan) → Plan
looking_at user path qids next = calls user.session (call.Lstat (from_root (called path))) (λ h. with_name qids (attributes_in h)
    (λ a. OrNoMemory (next (node_of a) (qids ++ qid_of (node_of a) ∷ []))))

-- From the node at a path, names lead on, one after the other. Behind the last one the fid is made.
abbrev pub walking : ℕ → User → List (List ℕ) → List ℕ → Node → List Qid → Plan
walking fid user [] path node qids = OrNoMemory (Changes (Puts fid (file_at user path node)) (says_walked qids))
walking fid user (name ∷ names) path node qids = with_name qids (enters node.kind name)
    (λ _. OrNoMemory (looking_at user (stepped path name) qids (walking fid user names (stepped path name))))

-- Twalk
abbrev pub walks : Known → ℕ → ℕ → List (List ℕ) → Plan
walks k fid new names = with_it (named k.fids fid) (λ file. with_it (place k fid new file.descriptor)
    (λ _. OrNoMemory (walking new file.user names file.path file.node [])))
