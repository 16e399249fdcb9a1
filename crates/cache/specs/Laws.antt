-- What a cache keeps, as said of a server.
use Rattle.std.specs.Prelude.{◌≡◌, ℕ, ◌<◌, List, Option}
use Rattle.layout.specs.declared.Geometry.{Geometry}
use Rattle.records.specs.Marks.{Mark}
use Rattle.records.specs.Disk.{Contents}
use Rattle.records.specs.Area.{area_of}
use Rattle.message.specs.declared.Incoming.{Incoming}
use Rattle.records.specs.Told.{took_end}
use Rattle.records.specs.Acts.{Act}
use Rattle.records.specs.View.{server_view, IsCovered}
use Rattle.records.specs.ServerCall.{Serving, Leads, Rules}
use Rattle.reissue.specs.Agrees.{Agrees}
use Rattle.reissue.specs.Moves.{state_after}
use Rattle.reissue.specs.Rules.{outbox_of}
use Rattle.cache.specs.Calls.{AbstractCache, Runs, with_handed}
use Rattle.cache.specs.declared.slot.Slot.{Slot}
use Rattle.cache.specs.Frames.{CacheAgrees, frames_of, view}

-- a server with the frames of a cache reads back what the cache would, and where the cache agrees with the disk it is covered
abbrev pub FramesReadBack : Type 0
FramesReadBack = (g : Geometry) (held : ℕ → Option Slot) (image : Contents) (marks : List Mark) → 0 < g.block_size
    → (server_view g (frames_of g.block_size held) image marks ≡ view g.block_size held (state_after image marks))
    × (CacheAgrees g.block_size held (state_after image marks) → IsCovered g (frames_of g.block_size held) marks)

-- what a server is at its link is what its cache is
pub record IsOver (s : Serving) (c : AbstractCache) : Type 0 where
  pub area : area_of s.geometry s.minor ≡ c.area
  pub outbox : s.outbox ≡ outbox_of c.table
  pub told : s.told ≡ c.told
  pub ended : s.ended ≡ c.ended

-- acts that lead a server from one state to the next and keep the rules, from each record that its cache agrees with
pub record LeadsBy (acts : List Act) (old : Serving) (c : AbstractCache) (new : Serving) : Type 0 where
  pub leads : Leads old acts new
  pub rules : (marks : List Mark) → Agrees c.table marks → Rules old acts new marks

-- A call of a cache whose link is as it says is one of its server, by its acts; with a message that is handed over, that comes first.
-- What it does to the disk and to what would be read back is left out here.
abbrev pub CallsLead : (Server : Type 0) → (Server → Serving) → (Held : Type 0) → (Held → AbstractCache) → Type 0
CallsLead Server serving Held caching =
    (message : Option Incoming) (old new : Held) (s t : Server) → IsOver (serving s) (caching old) → IsOver (serving t) (caching new)
    → (serving t).geometry ≡ (serving s).geometry → (serving t).frame_count ≡ (serving s).frame_count → (caching old).ended ≡ took_end (caching old).told
    → (x : Runs message (caching old) (caching new) (λ w v. Unit {0})) → LeadsBy (with_handed message x.acts) (serving s) (caching old) (serving t)
