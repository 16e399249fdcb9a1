-- What events keep of the drivers and of the server's record.
use Rattle.std.specs.Prelude.{◌≡◌, ◌⊎◌, ◌≤◌, ℕ, List, [], ◌∷◌, length, map, All, Option, Some, None}
use Rattle.message.specs.declared.Incoming.{Incoming}
use Rattle.bdev.specs.DriverState.{DriverState}
use Rattle.reincarnate.specs.declared.policy.Policy.{Policy}
use Rattle.reincarnate.specs.Watch.{Watch, driver}
use Rattle.records.specs.Marks.{Mark, Started}
use Rattle.records.specs.Open.{IsIn}
use Rattle.records.specs.Opening.{Opening, contents_at}
use Rattle.records.specs.Told.{received}
use Rattle.schedule.specs.declared.Event.{Event}
use Rattle.schedule.specs.Groups.{event_of}
use Rattle.true_replies.specs.Posted.{since_start}
use Rattle.true_replies.specs.State.{Invariant}
use Rattle.true_replies.specs.Events.{opening_media, IsOnMedia}
use Rattle.synchronous_driver.specs.Inline.{IsReady}
use Rattle.schedule.specs.Faultless.{without_faults}
use Rattle.schedule.specs.declared.log.Post.{Post}
use Rattle.schedule.specs.Noted.{Noted, marks_in}
use Rattle.simulated_link.specs.Disks.{Disks, seen}
use Rattle.simulated_link.specs.Scene.{Scene, Opens, Occurs}

-- what holds of the media, the drivers and the server's record, since an opening
abbrev pub DisksKept : Opening → Disks → List Mark → Type 0
DisksKept v d marks = Invariant v (contents_at v) (opening_media v) (seen d marks)

-- the post is one of these
abbrev pub IsPost : Post → List Post → Type 0
IsPost p [] = ⊥
IsPost p (q ∷ posts) = (p ≡ q) ⊎ IsPost p posts

-- the posts went to drivers up to this generation, and each to the last one was issued since its start
pub record PostsKept (g : ℕ) (posts : List Post) (marks : List Mark) : Type 0 where
  pub before : (p : Post) → IsPost p posts → p.to.generation ≤ g
  pub since : (p : Post) → IsPost p posts → p.to.generation ≡ g → IsIn p.request (since_start marks)

-- the media, the drivers, the accepted posts and the supply fit the server's record
pub record SceneKept (v : Opening) (s : Scene) (marks : List Mark) : Type 0 where
  pub disks : DisksKept v s.disks marks
  pub posts : PostsKept s.disks.media.generation s.noted.posts marks
  pub supply : All (IsReady v) s.supply

-- what was noted aside: faults, of which the server knows nothing
pub record NotesAside (b a : Noted) : Type 0 where
  pub history : a.history ≡ b.history
  pub marks : without_faults (marks_in a) ≡ without_faults (marks_in b)
  pub posts : a.posts ≡ b.posts
  pub events : map event_of a.groups ≡ map event_of b.groups

-- the record with the message that came, if one did
abbrev pub with_next : Option Incoming → List Mark → List Mark
with_next None marks = marks
with_next (Some m) marks = received m marks

-- the reincarnation server's last generation is the media's
abbrev pub IsLatest : Scene → Type 0
IsLatest s = s.watch.generation ≡ s.disks.media.generation

-- an event keeps what holds of drivers and record, with the message that it brings, and notes aside alone
abbrev pub EventsKeep : Type 0
EventsKeep =
    (v : Opening) (place : ℕ) (event : Event) (b a : Scene) (result : Option Incoming) (marks : List Mark) → IsLatest b
    → Occurs place event b result a → SceneKept v b marks → SceneKept v a (with_next result marks)

abbrev pub EventsNoteAside : Type 0
EventsNoteAside =
    (place : ℕ) (event : Event) (b a : Scene) (result : Option Incoming) → Occurs place event b result a → NotesAside b.noted a.noted

-- an event leaves the number of the media's sectors
abbrev pub EventsKeepSectors : Type 0
EventsKeepSectors =
    (place : ℕ) (event : Event) (b a : Scene) (result : Option Incoming) → Occurs place event b result a
    → length a.disks.media.sectors ≡ length b.disks.media.sectors

-- before the first event it holds with the record that has the first start alone, where the media are those handed in and the drivers are ready
abbrev pub OpeningKeeps : Type 0
OpeningKeeps =
    (v : Opening) (rules : Policy) (watch : Watch) (supply : List DriverState) (noted : Noted) (a : Scene) → IsOnMedia v → All (IsReady v) supply
    → noted.posts ≡ [] → Opens (opening_media v) rules watch supply noted a → SceneKept v a (Started (driver 1) ∷ [])
