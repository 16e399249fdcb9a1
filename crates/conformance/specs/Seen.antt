-- A run between two events, seen without what was noted.
use Rattle.std.specs.Prelude.{◌≡◌, ℕ, List, [], ◌∷◌, Bool, true, false, Option, Some, None}
use Rattle.message.specs.declared.BlockReply.{BlockReply}
use Rattle.message.specs.declared.Incoming.{Incoming}
use Rattle.message.specs.declared.Incoming.TheVariants as incoming
use Rattle.records.specs.Marks.{Mark, Answered}
use Rattle.records.specs.Open.{counts}
use Rattle.schedule.specs.declared.Event.{Event}
use Rattle.schedule.specs.Groups.{Group, marks_of}
use Rattle.schedule.specs.Replies.{answers_in}
use Rattle.schedule.specs.declared.log.LogEntry.TheVariants as entry
use Rattle.schedule.specs.Noted.{Noted, with_message, with_entry}
use Rattle.simulated_link.specs.Scene.{Scene}
use Rattle.conformance.specs.Core.{Core}
use Rattle.conformance.specs.Happens.{Begins}

abbrev pub core_at : Scene → Bool → Bool → Core
core_at s owed told = record {
  disks = s.disks;
  supply = s.supply;
  policy = s.policy;
  watch = s.watch;
  tick = s.tick;
  pulse = s.pulse;
  posts = s.noted.posts;
  owed = owed;
  told = told;
}

-- with the message, if there is one
abbrev pub with_brought : Option Incoming → Noted → Noted
with_brought None n = n
with_brought (Some message) n = with_message message n

-- whether it is a driver's reply
abbrev pub is_reply : Incoming → Bool
is_reply (incoming.Reply a) = true
is_reply (incoming.Started e) = false
is_reply incoming.GaveUp = false
is_reply incoming.Flush = false
is_reply incoming.End = false

-- the marks of an event after these groups, by the message that it brings: an answer is a reply's that counts
pub data Brought (groups : List Group) : Option Incoming → List Mark → Type 0 where
  NoMessage : (marks : List Mark) → answers_in marks ≡ [] → Brought groups None marks
  Counted : (a : BlockReply) → counts (marks_of groups) a ≡ true → Brought groups (Some (incoming.Reply a)) (Answered a ∷ [])
  Uncounted : (a : BlockReply) → counts (marks_of groups) a ≡ false → Brought groups (Some (incoming.Reply a)) []
  NoReply : (message : Incoming) (marks : List Mark) → is_reply message ≡ false → answers_in marks ≡ [] → Brought groups (Some message) marks

-- an event did what is said of it
pub record EventDone (place : ℕ) (owed told : Bool) (event : Event) (b : Scene) (result : Option Incoming) (a : Scene) : Type 0 where
  pub marks : List Mark
  pub begins : Begins place b.noted.groups (core_at b owed told) event marks (core_at a owed told)
  pub brought : Brought b.noted.groups result marks
  pub groups : (with_brought result a.noted).groups ≡ (event, marks) ∷ b.noted.groups
  pub first : (with_brought result a.noted).first ≡ b.noted.first

-- an event begins
abbrev pub begun_scene : Event → Scene → Scene
begun_scene event b = record b { noted = with_entry (entry.Begun event) b.noted }
