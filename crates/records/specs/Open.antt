-- Which requests are open, and when a record is well formed.
use Rattle.std.specs.Prelude.{◌≡◌, ◌⊎◌, ℕ, ◌+◌, ◌%◌, ◌<◌, ◌≤◌, List, [], ◌∷◌, ◌++◌, length, max, Bool, true, false, not, ◌&&◌, ◌||◌, ◌==◌, nat_lt, if◌then◌else◌, Option, Some, None, IsTrue, is_some}
use Rattle.message.specs.Good.{moved}
use Rattle.message.specs.declared.BlockRequest.{BlockRequest}
use Rattle.message.specs.declared.BlockReply.{BlockReply}
use Rattle.records.specs.Marks.{Mark, Answered, Issued, last_started, gave_up, awaits_start, is_endpoint}

-- how many bytes a reply moved of the request that it is for: none without a request
abbrev pub moved_of : Option BlockRequest → BlockReply → Option ℕ
moved_of None a = None
moved_of (Some r) a = moved r.count a.outcome

-- the first request with this id
abbrev pub with_id : ℕ → List BlockRequest → Option BlockRequest
with_id id [] = None
with_id id (r ∷ rs) = if r.id == id then Some r else with_id id rs

-- the requests but for the first with this id
abbrev pub without_id : ℕ → List BlockRequest → List BlockRequest
without_id id [] = []
without_id id (r ∷ rs) = if r.id == id then rs else r ∷ without_id id rs

-- the greatest id that was issued
abbrev pub greatest : List Mark → ℕ
greatest [] = 0
greatest (Issued r e ∷ marks) = max (greatest marks) r.id
greatest (_ ∷ marks) = greatest marks

-- the open requests, in the order of their first issue: each from there to its good answer
abbrev pub open_requests : List Mark → List BlockRequest
open_requests [] = []
open_requests (Issued r e ∷ marks) =
    if nat_lt (greatest marks) r.id then open_requests marks ++ r ∷ [] else open_requests marks
open_requests (Answered a ∷ marks) =
    if is_some (moved_of (with_id a.id (open_requests marks)) a)
    then without_id a.id (open_requests marks)
    else open_requests marks
open_requests (_ ∷ marks) = open_requests marks

-- the open request that a reply is for
abbrev pub asked_by : BlockReply → List Mark → Option BlockRequest
asked_by a marks = with_id a.id (open_requests marks)

-- how many bytes a reply moved, after these marks: none where it isn't good or its id isn't open
abbrev pub moved_by : BlockReply → List Mark → Option ℕ
moved_by a marks = moved_of (asked_by a marks) a

-- whether there is no request
abbrev pub has_none : List BlockRequest → Bool
has_none [] = true
has_none (_ ∷ _) = false

-- some id is open, or the last fault has no later start and no later giving up
abbrev pub is_unfinished : List Mark → Bool
is_unfinished marks = not (has_none (open_requests marks)) || awaits_start marks

-- a reply counts if it is from the endpoint of the last start, with an open id, the device not given up
abbrev pub counts : List Mark → BlockReply → Bool
counts marks a = not (gave_up marks) && is_endpoint a.from (last_started marks) && is_some (asked_by a marks)

-- two requests have no byte, and so no sector, in common
pub record Misses (r s : BlockRequest) : Type 0 where
  pub apart : (r.position + r.count ≤ s.position) ⊎ (s.position + s.count ≤ r.position)

-- each of these requests misses this one
abbrev pub MissesAll : BlockRequest → List BlockRequest → Type 0
MissesAll r [] = Unit {0}
MissesAll r (s ∷ rs) = Misses s r × MissesAll r rs

-- the request is one of these
abbrev pub IsIn : BlockRequest → List BlockRequest → Type 0
IsIn r [] = ⊥
IsIn r (s ∷ rs) = (r ≡ s) ⊎ IsIn r rs

-- a request is for whole sectors
pub record IsWhole (r : BlockRequest) : Type 0 where
  pub position : r.position % 512 ≡ 0
  pub count : r.count % 512 ≡ 0

-- a request with a new id: one above the greatest; fewer than 16 are open, and none has a sector of it
pub record IsNew (marks : List Mark) (r : BlockRequest) : Type 0 where
  pub next : r.id ≡ greatest marks + 1
  pub whole : IsWhole r
  pub room : length (open_requests marks) < 16
  pub apart : MissesAll r (open_requests marks)

-- a request that is issued again: it is open, and the same
pub record IsAgain (marks : List Mark) (r : BlockRequest) : Type 0 where
  pub same : IsIn r (open_requests marks)

-- a request is issued to the endpoint of the last start; answers come from that endpoint, with an open id
abbrev pub MayFollow : Mark → List Mark → Type 0
MayFollow (Issued r e) marks = (last_started marks ≡ Some e) × (IsNew marks r ⊎ IsAgain marks r)
MayFollow (Answered a) marks = (last_started marks ≡ Some a.from) × IsTrue (is_some (asked_by a marks))
MayFollow _ marks = Unit {0}

-- each mark may follow those before it
abbrev pub IsWellFormed : List Mark → Type 0
IsWellFormed [] = Unit {0}
IsWellFormed (m ∷ marks) = IsWellFormed marks × MayFollow m marks
