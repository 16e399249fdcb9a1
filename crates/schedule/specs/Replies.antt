-- The replies that drivers sent, and the answers that the server took of them.
use Rattle.std.specs.Prelude.{◌≡◌, ◌≤◌, ℕ, ◌+◌, ◌*◌, List, [], ◌∷◌, length, Bool, true, false, not, ◌&&◌, ◌||◌, ◌==◌, nat_lt, nat_le, Option, Some, None, is_some, Result, Ok, Err, if◌then◌else◌, slice_get}
use Rattle.errno.specs.declared.Errno.{Errno}
use Rattle.message.specs.declared.BlockRequest.{BlockRequest}
use Rattle.message.specs.declared.BlockReply.{BlockReply}
use Rattle.bdev.specs.DriverState.{DriverState, Work}
use Rattle.reincarnate.specs.Watch.{driver}
use Rattle.records.specs.Marks.{Mark, Answered, Issued}
use Rattle.records.specs.Open.{counts, moved_of}
use Rattle.schedule.specs.declared.Sent.{Sent}
use Rattle.schedule.specs.declared.Event.{Event}
use Rattle.schedule.specs.declared.Event.TheVariants as event
use Rattle.schedule.specs.Groups.{Group, marks_of, schedule_of, first_groups, Each}
use Rattle.schedule.specs.Drivers.{is_live, is_issued_to}

-- the replies that these marks answer, newest first
abbrev pub answers_in : List Mark → List BlockReply
answers_in [] = []
answers_in (Answered a ∷ marks) = a ∷ answers_in marks
answers_in (_ ∷ marks) = answers_in marks

-- a reply that was sent at an earlier event is answered where it counts
abbrev pub answer_to : Option Sent → List Group → List BlockReply
answer_to None earlier = []
answer_to (Some s) earlier =
    if nat_lt s.place (length earlier) && counts (marks_of earlier) s.reply then s.reply ∷ [] else []

-- the answer at an event: at a delivery that of the reply with its number, at no other event any
abbrev pub answers_due : List Sent → Event → List Group → List BlockReply
answers_due sent (event.Deliver n) earlier = answer_to (slice_get sent n) earlier
answers_due sent _ earlier = []

-- whether driver g sent a reply at the event with this number
abbrev pub has_sent_at : ℕ → ℕ → List Sent → Bool
has_sent_at g place [] = false
has_sent_at g place (s ∷ sent) = ((s.reply.from.generation == g) && (s.place == place)) || has_sent_at g place sent

-- whether an event is a step of driver g
abbrev pub is_step_of : ℕ → Event → Bool
is_step_of g (event.Step h) = h == g
is_step_of g _ = false

-- the steps of driver g so far that can have been for this id: those since it was issued, and since the driver's last reply
abbrev pub steps_for : ℕ → ℕ → List Sent → List Group → ℕ
steps_for g id sent [] = 0
steps_for g id sent ((event, group) ∷ earlier) =
    if is_issued_to g id group || has_sent_at g (length earlier) sent then 0
    else (if is_step_of g event then steps_for g id sent earlier + 1 else steps_for g id sent earlier)

-- how many bytes an outcome says were moved
abbrev pub bytes_of : Result ℕ Errno → ℕ
bytes_of (Ok n) = n
bytes_of (Err e) = 0

-- a reply stands at a step of its driver, which was live then and had been issued a request with this id; a step moves at most 512 bytes
pub record IsSentAtItsStep (groups : List Group) (sent : List Sent) (s : Sent) : Type 0 where
  pub from : s.reply.from ≡ driver s.reply.from.generation
  pub step : slice_get (schedule_of groups) s.place ≡ Some (event.Step s.reply.from.generation)
  pub live : is_live s.reply.from.generation (first_groups s.place groups) ≡ true
  pub asked : is_issued_to s.reply.from.generation s.reply.id (marks_of (first_groups s.place groups)) ≡ true
  pub moved : bytes_of s.reply.outcome ≤ 512 * (steps_for s.reply.from.generation s.reply.id sent (first_groups s.place groups) + 1)

-- the replies stand at later and later events, from this one on: a step sends at most one
abbrev pub are_in_order : ℕ → List Sent → Bool
are_in_order from [] = true
are_in_order from (s ∷ sent) = nat_le from s.place && are_in_order (s.place + 1) sent

-- the request that was issued with this id
abbrev pub issued_with : ℕ → List Mark → Option BlockRequest
issued_with id [] = None
issued_with id (Issued r e ∷ marks) = if r.id == id then Some r else issued_with id marks
issued_with id (_ ∷ marks) = issued_with id marks

-- whether a reply is good for the request that was issued with its id
abbrev pub is_good_reply : List Mark → BlockReply → Bool
is_good_reply marks a = is_some (moved_of (issued_with a.id marks) a)

-- how many replies of driver g aren't good
abbrev pub bad_of : ℕ → List Mark → List Sent → ℕ
bad_of g marks [] = 0
bad_of g marks (s ∷ sent) =
    if (s.reply.from.generation == g) && not (is_good_reply marks s.reply) then bad_of g marks sent + 1 else bad_of g marks sent

-- how many replies of driver g have this id
abbrev pub replies_of : ℕ → ℕ → List Sent → ℕ
replies_of g id [] = 0
replies_of g id (s ∷ sent) =
    if (s.reply.from.generation == g) && (s.reply.id == id) then replies_of g id sent + 1 else replies_of g id sent

-- whether the request in work, if there is one, has this id
abbrev pub is_working_on : Option Work → ℕ → Bool
is_working_on None id = false
is_working_on (Some w) id = w.request.id == id

-- whether a driver has done with this id: it took it or a later one, and isn't at work on it
abbrev pub is_done_with : DriverState → ℕ → Bool
is_done_with d id = nat_le id d.last && not (is_working_on d.work id)

-- an id that was issued to driver g, which has done with it, has just one reply from it
abbrev pub IsRepliedTo : ℕ → DriverState → List Sent → Mark → Type 0
IsRepliedTo g d sent (Issued r e) =
    e ≡ driver g → is_done_with d r.id ≡ true → replies_of g r.id sent ≡ 1
IsRepliedTo g d sent _ = Unit {0}

-- a reply of driver g is to an id that it has done with
pub record IsOfItsDriver (g : ℕ) (d : DriverState) (s : Sent) : Type 0 where
  pub done : s.reply.from.generation ≡ g → is_done_with d s.reply.id ≡ true

-- the ids of driver g's replies rise, from above this one
abbrev pub are_ids_rising : ℕ → ℕ → List Sent → Bool
are_ids_rising g id [] = true
are_ids_rising g id (s ∷ sent) =
    if s.reply.from.generation == g then nat_lt id s.reply.id && are_ids_rising g s.reply.id sent else are_ids_rising g id sent

-- the replies of driver g are those that it gave as it stands: as many bad ones as it counts, and one for each id that it has done with,
-- in the order of their ids
pub record RepliesOf (marks : List Mark) (sent : List Sent) (g : ℕ) (d : DriverState) : Type 0 where
  pub bad : bad_of g marks sent ≡ d.bad
  pub one : Each (IsRepliedTo g d sent) marks
  pub rising : are_ids_rising g 0 sent ≡ true
  pub own : Each (IsOfItsDriver g d) sent
