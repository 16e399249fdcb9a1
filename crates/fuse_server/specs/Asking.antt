-- What sessions are asked on the way to an answer.
use Rattle.std.specs.Prelude.{◌≡◌, ℕ, ℤ, List, [], ◌∷◌, Option, Some, None, Result}
use Rattle.std.specs.Global.{Vec}
use Rattle.errno.specs.declared.Errno.TheVariants.{ENOENT}
use Rattle.tree.specs.declared.Attributes.{Attributes}
use Rattle.tree.specs.declared.Call.{Call}
use Rattle.tree.specs.declared.Call.TheVariants as call
use Rattle.tree.specs.declared.OpenFlags.{OpenFlags}
use Rattle.tree.specs.declared.Outcome.{Outcome}
use Rattle.tree.specs.declared.Outcome.TheVariants as outcome
use Rattle.tree.specs.declared.PathFrom.{PathFrom}
use Rattle.tree.specs.declared.Reply.{Reply}
use Rattle.tree.specs.declared.Reply.TheVariants as reply
use Rattle.tree.specs.declared.Whence.TheVariants.{Set}
use Rattle.fuse_nodes.specs.declared.node.Descriptor.{Descriptor}
use Rattle.talks.specs.Talks.{Exchange, MayHear, Leads, Replies}
use Rattle.talks.specs.declared.ask.Ask.TheVariants as ask
use Rattle.talks.specs.declared.heard.Heard.{Heard}
use Rattle.talks.specs.declared.heard.Heard.TheVariants as heard
use Rattle.talks.specs.declared.ask.Leaving.{Leaving}
use Rattle.talks.specs.declared.sessions.EnterRefusal.{EnterRefusal}
use Rattle.fuse_server.specs.Calls.{calls_in}
use Rattle.fuse_server.specs.Losing.{AreQuiet, WasLooked}

-- By exchanges at this time, and by nothing else, sessions come from one state to another, and no name is taken away. The first arguments
-- say what they may answer: to calls, to users that enter, and to the end of all sessions.
pub record Talked {S : Type 0} (called : S → ℕ → ℕ → Call → Outcome → S → Type 0) (entered : S → ℕ → ℕ → Result ℕ EnterRefusal → S → Type 0)
    (left : S → Leaving → S → Type 0) (now : ℕ) (s t : S) : Type 0 where
  pub log : List Exchange
  pub leads : Leads (MayHear called entered left now) s log t
  pub quiet : AreQuiet log

-- So they do, and these are the calls on the way, each with what was heard.
pub record TalkedBy {S : Type 0} (called : S → ℕ → ℕ → Call → Outcome → S → Type 0)
    (entered : S → ℕ → ℕ → Result ℕ EnterRefusal → S → Type 0) (left : S → Leaving → S → Type 0) (now : ℕ)
    (s : S) (calls : List (Call × Heard)) (t : S) : Type 0 where
  pub talked : Talked called entered left now s t
  pub exact : calls_in talked.log ≡ calls

-- So they do by one call alone, which comes last, with what is heard.
pub record TalkedTo {S : Type 0} (called : S → ℕ → ℕ → Call → Outcome → S → Type 0)
    (entered : S → ℕ → ℕ → Result ℕ EnterRefusal → S → Type 0) (left : S → Leaving → S → Type 0) (now : ℕ)
    (s : S) (asked : Call) (heard : Heard) (t : S) : Type 0 where
  pub session : ℕ
  pub before : S
  pub first : TalkedBy called entered left now s [] before
  pub last : MayHear called entered left now before (ask.Call session asked) heard t

-- the answer is this reply
abbrev pub TalkedFor : {S : Type 0} → (S → ℕ → ℕ → Call → Outcome → S → Type 0) → (S → ℕ → ℕ → Result ℕ EnterRefusal → S → Type 0)
    → (S → Leaving → S → Type 0) → ℕ → S → Call → Reply → S → Type 0
TalkedFor called entered left now s asked r t = TalkedTo called entered left now s asked (heard.Outcome (outcome.Reply r)) t

-- So they do by a close alone, whatever is heard of it.
abbrev pub IsClosed : {S : Type 0} → (S → ℕ → ℕ → Call → Outcome → S → Type 0) → (S → ℕ → ℕ → Result ℕ EnterRefusal → S → Type 0)
    → (S → Leaving → S → Type 0) → ℕ → S → ℕ → S → Type 0
IsClosed called entered left now s fd t = (h : Heard) × TalkedTo called entered left now s (call.Close fd) h t

-- So they do, and among the exchanges is a look at this path, with this reply.
pub record TalkedLooking {S : Type 0} (called : S → ℕ → ℕ → Call → Outcome → S → Type 0)
    (entered : S → ℕ → ℕ → Result ℕ EnterRefusal → S → Type 0) (left : S → Leaving → S → Type 0) (now : ℕ)
    (s : S) (path : PathFrom) (r : Reply) (t : S) : Type 0 where
  pub talked : Talked called entered left now s t
  pub looked : WasLooked path r talked.log

-- So they do, and then comes this call, which was done.
pub record LookedBefore {S : Type 0} (called : S → ℕ → ℕ → Call → Outcome → S → Type 0)
    (entered : S → ℕ → ℕ → Result ℕ EnterRefusal → S → Type 0) (left : S → Leaving → S → Type 0) (now : ℕ)
    (s : S) (path : PathFrom) (r : Reply) (asked : Call) (t : S) : Type 0 where
  pub session : ℕ
  pub before : S
  pub looking : TalkedLooking called entered left now s path r before
  pub last : MayHear called entered left now before (ask.Call session asked) (heard.Outcome (outcome.Reply reply.Done)) t

-- what a look replies that found these attributes, or nothing
abbrev pub look_reply : Option Attributes → Reply
look_reply (Some was) = reply.Inode was
look_reply None = reply.Refused ENOENT

-- A path was looked at: these attributes were found, or nothing.
abbrev pub LookedAt : {S : Type 0} → (S → ℕ → ℕ → Call → Outcome → S → Type 0) → (S → ℕ → ℕ → Result ℕ EnterRefusal → S → Type 0)
    → (S → Leaving → S → Type 0) → ℕ → S → PathFrom → Option Attributes → S → Type 0
LookedAt called entered left now s path (Some was) t = TalkedFor called entered left now s (call.Lstat path) (reply.Inode was) t
LookedAt called entered left now s path None t = TalkedFor called entered left now s (call.Lstat path) (reply.Refused ENOENT) t

-- the last exchange of a log, in which it stands first, is this call of a session, and this is its reply
abbrev pub EndsWith : ℕ → Call → Reply → List Exchange → Type 0
EndsWith session asked r [] = ⊥
EndsWith session asked r (e ∷ es) = (e.ask ≡ ask.Call session asked) × Replies e.heard r

-- So they do, and then a descriptor is opened at this path; a file that is made has these permissions.
pub record OpenedAt {S : Type 0} (called : S → ℕ → ℕ → Call → Outcome → S → Type 0)
    (entered : S → ℕ → ℕ → Result ℕ EnterRefusal → S → Type 0) (left : S → Leaving → S → Type 0) (now : ℕ)
    (s : S) (path : PathFrom) (mode : ℕ) (d : Descriptor) (t : S) : Type 0 where
  pub flags : OpenFlags
  pub before : S
  pub first : Talked called entered left now s before
  pub last : MayHear called entered left now before (ask.Call d.session (call.Open path flags mode))
      (heard.Outcome (outcome.Reply (reply.Descriptor d.fd))) t

-- A descriptor is set to a position; then comes this call by it, and this is its reply.
pub record SoughtFor {S : Type 0} (called : S → ℕ → ℕ → Call → Outcome → S → Type 0)
    (entered : S → ℕ → ℕ → Result ℕ EnterRefusal → S → Type 0) (left : S → Leaving → S → Type 0) (now : ℕ)
    (s : S) (d : Descriptor) (offset : ℤ) (asked : Call) (r : Reply) (t : S) : Type 0 where
  pub position : ℕ
  pub between : S
  pub sought : MayHear called entered left now s (ask.Call d.session (call.Seek d.fd Set offset))
      (heard.Outcome (outcome.Reply (reply.At position))) between
  pub last : MayHear called entered left now between (ask.Call d.session asked) (heard.Outcome (outcome.Reply r)) t

-- bytes that were read so
abbrev pub ReadFrom : {S : Type 0} → (S → ℕ → ℕ → Call → Outcome → S → Type 0) → (S → ℕ → ℕ → Result ℕ EnterRefusal → S → Type 0)
    → (S → Leaving → S → Type 0) → ℕ → S → Descriptor → ℤ → ℕ → List ℕ → S → Type 0
ReadFrom called entered left now s d offset count bytes t =
    (read : Vec ℕ) × (bytes ≡ read.items) × SoughtFor called entered left now s d offset (call.Read d.fd count) (reply.Bytes read) t
