-- Laws of the record.
use Rattle.std.specs.Prelude.{◌≡◌, ◌⊎◌, ℕ, ◌+◌, ◌-◌, ◌*◌, ◌<◌, ◌≤◌, List, [], ◌∷◌, ◌++◌, Bool, true, false, ◌||◌, ◌&&◌, ◌==◌, Some, slice_index, if◌then◌else◌}
use Rattle.message.specs.declared.endpoint.Endpoint.{Endpoint}
use Rattle.message.specs.Good.{is_write}
use Rattle.message.specs.declared.BlockRequest.{BlockRequest}
use Rattle.message.specs.declared.BlockReply.{BlockReply}
use Rattle.message.specs.declared.Incoming.{Incoming}
use Rattle.tree.specs.declared.Who.{Who}
use Rattle.tree.specs.declared.Call.{Call}
use Rattle.tree.specs.Answers.{Answer}
use Rattle.records.specs.declared.marks.Cause.{Cause}
use Rattle.records.specs.Marks.{Mark, Started, Answered, Flush, GaveUp, Took, Issued, Fault, is_counted, counted}
use Rattle.records.specs.Open.{open_requests, greatest, asked_by, moved_by, Misses, IsIn, IsWhole, IsWellFormed}
use Rattle.records.specs.Disk.{Contents, disk_after, unsure, is_unsure, covers, settles}
use Rattle.records.specs.Told.{received, grown}
use Rattle.layout.specs.declared.Geometry.{Geometry}
use Rattle.records.specs.Area.{Area, area_of, no_area, WritesInside, IsHeadOrTail}
use Rattle.records.specs.Acts.{Act, Outbox, told_of, marks_after, has_absorbed, outbox_after, KeepsRules}

-- a well-formed record has well-formed beginnings
abbrev pub BeginningsAreWellFormed : Type 0
BeginningsAreWellFormed = (later marks : List Mark) → IsWellFormed (later ++ marks) → IsWellFormed marks

-- a message keeps a record well formed, whatever it says
abbrev pub ReceivedIsWellFormed : Type 0
ReceivedIsWellFormed = (message : Incoming) (marks : List Mark) → IsWellFormed marks → IsWellFormed (received message marks)

-- each mark adds one to the count, or nothing
abbrev pub EachCountedOnce : Type 0
EachCountedOnce = (m : Mark) (marks : List Mark) → counted (m ∷ marks) ≡ counted marks + (if is_counted m then 1 else 0)

-- whether a request with this id was issued
abbrev pub was_issued : ℕ → List Mark → Bool
was_issued id [] = false
was_issued id (Issued r e ∷ marks) = (r.id == id) || was_issued id marks
was_issued id (_ ∷ marks) = was_issued id marks

-- in a well-formed record an id is opened by its first issue
abbrev pub OpenedByFirstIssue : Type 0
OpenedByFirstIssue =
    (r : BlockRequest) (e : Endpoint) (marks : List Mark) → IsWellFormed (Issued r e ∷ marks)
    → open_requests (Issued r e ∷ marks) ≡ (if was_issued r.id marks then open_requests marks else open_requests marks ++ r ∷ [])

-- each open request is for whole sectors
abbrev pub OpenAreWhole : Type 0
OpenAreWhole = (marks : List Mark) (r : BlockRequest) → IsWellFormed marks → IsIn r (open_requests marks) → IsWhole r

-- no open request has an id above the greatest
abbrev pub OpenAreNumbered : Type 0
OpenAreNumbered = (marks : List Mark) (r : BlockRequest) → IsIn r (open_requests marks) → r.id ≤ greatest marks

-- each of these has a greater id
abbrev pub AllAbove : ℕ → List BlockRequest → Type 0
AllAbove id [] = Unit {0}
AllAbove id (r ∷ rs) = (id < r.id) × AllAbove id rs

-- these stand in the rising order of their ids
abbrev pub IsRising : List BlockRequest → Type 0
IsRising [] = Unit {0}
IsRising (r ∷ rs) = AllAbove r.id rs × IsRising rs

-- the open requests stand in the rising order of their ids
abbrev pub OpenAreRising : Type 0
OpenAreRising = (marks : List Mark) → IsRising (open_requests marks)

-- two open requests with one id are one
abbrev pub OneOpenForEachId : Type 0
OneOpenForEachId =
    (marks : List Mark) (r s : BlockRequest) → IsWellFormed marks → IsIn r (open_requests marks) → IsIn s (open_requests marks)
    → r.id ≡ s.id → r ≡ s

-- two open requests are one, or have no sector in common
abbrev pub OpenAreApart : Type 0
OpenAreApart =
    (marks : List Mark) (r s : BlockRequest) → IsWellFormed marks → IsIn r (open_requests marks) → IsIn s (open_requests marks)
    → (r ≡ s) ⊎ Misses r s

-- each place of an open write is unsure
abbrev pub OpenWritesAreUnsure : Type 0
OpenWritesAreUnsure =
    (marks : List Mark) (r : BlockRequest) (place : ℕ) → IsWellFormed marks → IsIn r (open_requests marks)
    → is_write r.kind ≡ true → covers r place ≡ true → unsure marks place ≡ true

-- all 512 places of a sector are unsure together
abbrev pub SectorsAreUnsureTogether : Type 0
SectorsAreUnsureTogether =
    (marks : List Mark) (sector offset : ℕ) → IsWellFormed marks → offset < 512
    → unsure marks (512 * sector + offset) ≡ is_unsure marks sector

-- nothing is unsure at first
abbrev pub NothingIsUnsureAtFirst : Type 0
NothingIsUnsureAtFirst = (place : ℕ) → unsure [] place ≡ false

-- the mark leaves the disk and the unsure places
pub record LeavesDisk (m : Mark) : Type 0 where
  pub disk : (image : Contents) (marks : List Mark) → disk_after image (m ∷ marks) ≡ disk_after image marks
  pub sure : (marks : List Mark) → unsure (m ∷ marks) ≡ unsure marks

-- what an issue changes: the places of a write become unsure
pub record IssueChanges (r : BlockRequest) (e : Endpoint) (marks : List Mark) : Type 0 where
  pub disk : (image : Contents) → disk_after image (Issued r e ∷ marks) ≡ disk_after image marks
  pub covered : (place : ℕ) → is_write r.kind ≡ true → covers r place ≡ true → unsure (Issued r e ∷ marks) place ≡ true
  pub others : (place : ℕ) → (is_write r.kind && covers r place) ≡ false → unsure (Issued r e ∷ marks) place ≡ unsure marks place

-- what an answer changes: the bytes that a good answer to a write moved are the disk's, and sure
pub record AnswerChanges (a : BlockReply) (marks : List Mark) : Type 0 where
  pub moved : (image : Contents) (r : BlockRequest) (n place : ℕ) → asked_by a marks ≡ Some r → moved_by a marks ≡ Some n
      → is_write r.kind ≡ true → r.position ≤ place → place < r.position + n
      → (disk_after image (Answered a ∷ marks) place ≡ slice_index r.bytes (place - r.position))
      × (unsure (Answered a ∷ marks) place ≡ false)
  pub others : (image : Contents) (place : ℕ) → settles (asked_by a marks) (moved_by a marks) place ≡ false
      → (disk_after image (Answered a ∷ marks) place ≡ disk_after image marks place)
      × (unsure (Answered a ∷ marks) place ≡ unsure marks place)

-- the disk and the unsure places change as each kind of mark says
pub record MarksChangeDisk : Type 0 where
  pub started : (e : Endpoint) → LeavesDisk (Started e)
  pub flush : LeavesDisk Flush
  pub given_up : LeavesDisk GaveUp
  pub took : (who : Who) (now : ℕ) (call : Call) (answer : Answer) → LeavesDisk (Took who now call answer)
  pub fault : (e : Endpoint) (cause : Cause) → LeavesDisk (Fault e cause)
  pub issued : (r : BlockRequest) (e : Endpoint) (marks : List Mark) → IssueChanges r e marks
  pub answered : (a : BlockReply) (marks : List Mark) → AnswerChanges a marks

-- whether a good answer to a write covered the place within the bytes that it moved
abbrev pub is_written : List Mark → ℕ → Bool
is_written [] place = false
is_written (Answered a ∷ marks) place = settles (asked_by a marks) (moved_by a marks) place || is_written marks place
is_written (_ ∷ marks) place = is_written marks place

-- where no good write was, the disk is the image
abbrev pub UnwrittenIsImage : Type 0
UnwrittenIsImage =
    (image : Contents) (marks : List Mark) (place : ℕ) → is_written marks place ≡ false → disk_after image marks place ≡ image place

-- acts, and then later acts: the marks, what was told and what is owed are those of both, and both keep the rules
pub record ActsCompose (area : Area) (later acts : List Act) (marks : List Mark) (o : Outbox) : Type 0 where
  pub record_after : marks_after (later ++ acts) marks ≡ marks_after later (marks_after acts marks)
  pub told : told_of (later ++ acts) ≡ told_of later ++ told_of acts
  pub owed : outbox_after (later ++ acts) marks o ≡ outbox_after later (marks_after acts marks) (outbox_after acts marks o)
  pub keep : KeepsRules area acts marks o → KeepsRules area later (marks_after acts marks) (outbox_after acts marks o)
      → KeepsRules area (later ++ acts) marks o

-- where no message was handed over, the marks follow from what the link was told and gave
abbrev pub MarksAreTold : Type 0
MarksAreTold = (acts : List Act) (marks : List Mark) → has_absorbed acts ≡ false → marks_after acts marks ≡ grown (told_of acts) marks

-- acts that keep the rules of a volume issue writes inside alone
abbrev pub ActsWriteInside : Type 0
ActsWriteInside = (g : Geometry) (minor : ℕ) (acts : List Act) (marks : List Mark) (o : Outbox) → KeepsRules (area_of g minor) acts marks o
    → WritesInside g marks → WritesInside g (marks_after acts marks)

-- acts that keep the rules and write nothing keep those of any area of the minor
abbrev pub WiderRulesAreKept : Type 0
WiderRulesAreKept = (area : Area) (acts : List Act) (marks : List Mark) (o : Outbox) → KeepsRules (no_area area.minor) acts marks o
    → KeepsRules area acts marks o

-- where each write lies inside, the first two blocks and what lies behind the last zone are the image's, and no write to them is pending
pub record Stays (image : Contents) (marks : List Mark) (place : ℕ) : Type 0 where
  pub same : disk_after image marks place ≡ image place
  pub sure : unsure marks place ≡ false

abbrev pub HeadAndTailStay : Type 0
HeadAndTailStay = (g : Geometry) (image : Contents) (marks : List Mark) (place : ℕ) → WritesInside g marks → IsHeadOrTail g place
    → Stays image marks place
