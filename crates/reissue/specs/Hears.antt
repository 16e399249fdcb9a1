-- What a message does to the table of pending requests, before anything is posted after it.
use Rattle.std.specs.Prelude.{◌≡◌, ℕ, ◌+◌, ◌-◌, ◌<◌, List, [], ◌∷◌, ◌++◌, remove, Option, Some, None, Bool, true, false, if◌then◌else◌, nat_lt, slice_index, slice_index_or}
use Rattle.message.specs.declared.endpoint.Endpoint.{Endpoint}
use Rattle.message.specs.Good.{is_write}
use Rattle.message.specs.declared.BlockReply.{BlockReply}
use Rattle.message.specs.declared.Incoming.{Incoming}
use Rattle.message.specs.declared.Incoming.TheVariants as incoming
use Rattle.records.specs.Marks.{Mark}
use Rattle.records.specs.Open.{counts, moved_by}
use Rattle.reissue.specs.declared.pending.Pending.{Pending}
use Rattle.reissue.specs.declared.table.Table.{Table}

-- what is left of a request after an answer that moved n bytes, under this id: a write's request has the bytes that are left
pub record IsRest (q r : Pending) (n id : ℕ) : Type 0 where
  pub ticket : r.ticket ≡ q.ticket
  pub start : r.start ≡ q.start
  pub size : r.size ≡ q.size
  pub number : r.request.id ≡ id
  pub kind : r.request.kind ≡ q.request.kind
  pub minor : r.request.minor ≡ q.request.minor
  pub position : r.request.position ≡ q.request.position + n
  pub count : r.request.count + n ≡ q.request.count
  pub left : is_write q.request.kind ≡ true → (k : ℕ) → k < r.request.count
      → slice_index r.request.bytes k ≡ slice_index q.request.bytes (n + k)

-- the pending requests without the one at this place; where something of it is left, its rest stands at the end, under the next id
abbrev pub LeavesRest : Table → Table → ℕ → Pending → ℕ → Bool → Type 0
LeavesRest old mid at q n true =
    (r : Pending) × (mid.pending ≡ remove old.pending at ++ r ∷ []) × IsRest q r n (old.ids + 1) × (mid.ids ≡ old.ids + 1)
LeavesRest old mid at q n false = (mid.pending ≡ remove old.pending at) × (mid.ids ≡ old.ids)

-- the request at a place was answered good with n bytes
pub record IsAnswered (old mid : Table) (id n : ℕ) : Type 0 where
  pub at : ℕ
  pub entry : Pending
  pub issued : at < old.issued
  pub there : entry ≡ slice_index_or old.pending at entry
  pub id_is : entry.request.id ≡ id
  pub left : LeavesRest old mid at entry n (nat_lt n entry.request.count)
  pub posted : mid.posted ≡ (if nat_lt at old.posted then old.posted - 1 else old.posted)
  pub issued_left : mid.issued + 1 ≡ old.issued

-- nothing is taken out or put in
pub record IsUnanswered (old mid : Table) : Type 0 where
  pub pending : mid.pending ≡ old.pending
  pub ids : mid.ids ≡ old.ids
  pub posted : mid.posted ≡ old.posted
  pub issued : mid.issued ≡ old.issued

-- an answer that moved so much
abbrev pub HearsAnswer : Table → Table → ℕ → Option ℕ → Type 0
HearsAnswer old mid id None = IsUnanswered old mid
HearsAnswer old mid id (Some n) = IsAnswered old mid id n

-- how much a reply moved, if it counts
abbrev pub counted_move : List Mark → BlockReply → Option ℕ
counted_move marks a = if counts marks a then moved_by a marks else None

-- a start, before the device is given up: nothing is posted to that endpoint yet
abbrev pub HearsStart : Table → Table → Endpoint → Bool → Type 0
HearsStart old mid e true = IsUnanswered old mid × (mid.current ≡ None)
HearsStart old mid e false = (mid.pending ≡ old.pending) × (mid.ids ≡ old.ids) × (mid.posted ≡ 0) × (mid.issued ≡ old.issued) × (mid.current ≡ Some e)

-- what each message does, for a record that the table agrees with
abbrev pub Hears : Incoming → Table → Table → List Mark → Type 0
Hears (incoming.Reply a) old mid marks = HearsAnswer old mid a.id (counted_move marks a) × (mid.current ≡ old.current)
Hears (incoming.Started e) old mid marks = HearsStart old mid e old.given_up
Hears incoming.GaveUp old mid marks = IsUnanswered old mid × (mid.current ≡ None)
Hears incoming.Flush old mid marks = IsUnanswered old mid × (mid.current ≡ old.current)
Hears incoming.End old mid marks = IsUnanswered old mid × (mid.current ≡ old.current)
