-- As many bytes are written as there is room for.
use Rattle.std.specs.Prelude.{◌<◌, ◌+◌, ◌-◌, ◌*◌, ◌/◌, ◌%◌, max, ℕ, pos, List, [], ◌∷◌, length, take, Option, Some, None, Result}
use Rattle.std.specs.Borrow.{Bor}
use Rattle.errno.specs.declared.Errno.TheVariants.{ENOSPC}
use Rattle.fuse_nodes.specs.declared.node.Descriptor.{Descriptor}
use Rattle.talks.specs.Talks.{Exchange}
use Rattle.talks.specs.declared.ask.Ask.TheVariants as ask
use Rattle.talks.specs.declared.ask.Leaving.{Leaving}
use Rattle.talks.specs.declared.heard.Heard.TheVariants as heard
use Rattle.talks.specs.declared.sessions.EnterRefusal.{EnterRefusal}
use Rattle.tree.specs.declared.Call.{Call}
use Rattle.tree.specs.declared.Call.TheVariants as call
use Rattle.tree.specs.declared.Outcome.{Outcome}
use Rattle.tree.specs.declared.Outcome.TheVariants as outcome
use Rattle.tree.specs.declared.Reply.{Reply}
use Rattle.tree.specs.declared.Reply.TheVariants as reply
use Rattle.tree.specs.declared.Whence.TheVariants.{Set}
use Rattle.fuse_server.specs.Asking.{SoughtFor, Talked}

-- How many bytes are tried, from an offset on, where there was no room for so many: half of them, down to a multiple of 1024, but no fewer
-- than up to the next one.
abbrev pub fewer : ℕ → ℕ → ℕ
fewer offset size = max (1024 - offset % 1024) ((offset + size / 2) / 1024 * 1024 - offset)

-- a seek of a descriptor to an offset
abbrev pub sought_at : Descriptor → ℕ → ℕ → Exchange
sought_at d offset position = record {
  ask = ask.Call d.session (call.Seek d.fd Set (pos offset));
  heard = heard.Outcome (outcome.Reply (reply.At position));
}

-- a write by it
abbrev pub wrote_by : Descriptor → Bor (List ℕ) → Reply → Exchange
wrote_by d given r = record { ask = ask.Call d.session (call.Write d.fd given); heard = heard.Outcome (outcome.Reply r) }

-- what a write tells: how many bytes were written, or that there is no room
abbrev pub room_reply : Option ℕ → Reply
room_reply (Some wrote) = reply.Wrote wrote
room_reply None = reply.Refused ENOSPC

-- What was tried before these bytes are given, of those that are to be written at an offset: nothing, before as many as a call takes; and,
-- before fewer, to write those that are tried before these, for which there was no room.
pub data AreTries (d : Descriptor) (offset : ℕ) (bytes : List ℕ) : List ℕ → List Exchange → Type 0 where
  AtFirst : AreTries d offset bytes (take 65536 bytes) []
  Fewer : (given : Bor (List ℕ)) (position : ℕ) (log : List Exchange) → AreTries d offset bytes given.now log
      → fewer offset (length given.now) < length given.now
      → AreTries d offset bytes (take (fewer offset (length given.now)) given.now)
      (wrote_by d given (reply.Refused ENOSPC) ∷ sought_at d offset position ∷ log)

-- By such tries, and nothing else, sessions come from one state to another.
pub record TriedFor {S : Type 0} (called : S → ℕ → ℕ → Call → Outcome → S → Type 0) (entered : S → ℕ → ℕ → Result ℕ EnterRefusal → S → Type 0)
    (left : S → Leaving → S → Type 0) (now : ℕ) (s : S) (d : Descriptor) (offset : ℕ) (bytes given : List ℕ) (t : S) : Type 0 where
  pub talked : Talked called entered left now s t
  pub tries : AreTries d offset bytes given talked.log

-- And then those given are written: of so many bytes it is told.
pub record WroteSome {S : Type 0} (called : S → ℕ → ℕ → Call → Outcome → S → Type 0)
    (entered : S → ℕ → ℕ → Result ℕ EnterRefusal → S → Type 0) (left : S → Leaving → S → Type 0) (now : ℕ)
    (s : S) (d : Descriptor) (offset : ℕ) (bytes : List ℕ) (wrote : ℕ) (t : S) : Type 0 where
  pub given : Bor (List ℕ)
  pub between : S
  pub tried : TriedFor called entered left now s d offset bytes given.now between
  pub last : SoughtFor called entered left now between d (pos offset) (call.Write d.fd given) (reply.Wrote wrote) t
