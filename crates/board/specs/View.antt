-- What a seat of the board knows, and what it knows once it has a mark more, a guest, or a seat beside it.
use Rattle.std.specs.Prelude.{◌≡◌, ℕ, List, [], ◌∷◌, length, Bool, true, false, not, ◌==◌, max, Option, Some, None}
use Rattle.std.specs.List.{filter, list_any}
use Rattle.atomic_table.specs.Seated.{TableId}
use Rattle.records.specs.Marks.{Mark}
use Rattle.records.specs.Session.{Seen, SessionState}

-- What a seat knows. The record is a list of marks, newest first.
pub record View : Type 0 where
  -- it is the record's seat: what it has seen is the whole record
  pub keeps : Bool
  -- the beginning of the record that it has seen
  pub seen : List Mark
  -- a beginning that another seat told it of
  pub told : List Mark
  -- the number of its session
  pub number : Option ℕ
  -- how many marks stood when the number was given
  pub place : ℕ
  -- the session's calls since then
  pub mine : List Mark
  -- of the record's seat: the numbers in use, and whether the device word was set
  pub used : List ℕ
  pub given_up : Bool
  -- the greatest generation and the greatest pulse that it knows of
  pub generation : ℕ
  pub pulse : ℕ
  -- the sectors of an edition that it knows, with the edition's number
  pub edition : Option (ℕ × List (List ℕ))
  -- one that another seat told it of
  pub heard : Option (ℕ × List (List ℕ))

-- What a contract sees of a seat: the board that it is of, by the name of its table, and what it knows.
pub record SeatState : Type 0 where
  pub table : TableId
  pub view : View

-- the session of a seat that has this number
abbrev pub session_of : ℕ → View → Seen
session_of n v = record { number = n; place = v.place; seen = v.seen; mine = v.mine }

-- the same session, made for this user and group
abbrev pub session_for : ℕ → ℕ → ℕ → View → SessionState
session_for uid gid n v = record { uid = uid; gid = gid; knows = session_of n v }

-- the seat is the record's seat of this board
abbrev pub IsKeeper : TableId → SeatState → Type 0
IsKeeper table s = (s.table ≡ table) × (s.view.keeps ≡ true) × (s.view.number ≡ None)

-- a seat that was spent
abbrev pub nobody : View
nobody = record {
  keeps = false;
  seen = [];
  told = [];
  number = None;
  place = 0;
  mine = [];
  used = [];
  given_up = false;
  generation = 0;
  pulse = 0;
  edition = None;
  heard = None;
}

-- the record's seat of a new board
abbrev pub opener : View
opener = record nobody { keeps = true }

-- whether a number is in use
abbrev pub is_used : ℕ → List ℕ → Bool
is_used n used = list_any (λ k. k == n) used

-- the numbers in use but for this one
abbrev pub without : Option ℕ → List ℕ → List ℕ
without None used = used
without (Some n) used = filter (λ k. not (k == n)) used

-- a further seat: it has seen as much, knows the edition, and has no number
abbrev pub other_of : View → View
other_of v = record nobody { seen = v.seen; generation = v.generation; pulse = v.pulse; edition = v.edition }

-- a further seat with a number
abbrev pub new_caller : ℕ → View → View
new_caller n v = record (other_of v) { number = Some n; place = length v.seen }

-- the record's seat after it gave a number out
abbrev pub with_used : ℕ → View → View
with_used n v = record v { used = n ∷ v.used }

-- the record's seat, joined with a caller's
abbrev pub hosting : View → View → View
hosting v w =
    record v { told = w.seen; number = w.number; place = w.place; mine = w.mine; generation = max v.generation w.generation; pulse = max v.pulse w.pulse }

-- the record's seat without its guest
abbrev pub alone : View → View
alone v = record v { told = []; number = None; place = 0; mine = [] }

-- the guest, in a seat of its own again; it knows no edition
abbrev pub guest_of : View → View
guest_of v = record (other_of v) { number = v.number; place = v.place; mine = v.mine; edition = None }

-- the record's seat after it added a mark that is no call
abbrev pub noted : Mark → View → View
noted m v = record v { seen = m ∷ v.seen }

-- the record's seat, joined with a caller's, after it added a call of that caller
abbrev pub called : Mark → View → View
called m v = record v { seen = m ∷ v.seen; mine = m ∷ v.mine }

-- the record's seat after a call of this caller was added
abbrev pub keeper_after : Mark → View → View → View
keeper_after m v w =
    record v { seen = m ∷ v.seen; told = []; number = None; place = 0; mine = []; generation = max v.generation w.generation; pulse = max v.pulse w.pulse }

-- the caller then: it has seen the whole record, its call last
abbrev pub caller_after : Mark → View → View → View
caller_after m v w =
    record nobody { seen = m ∷ v.seen; number = w.number; place = w.place; mine = m ∷ w.mine; generation = max v.generation w.generation; pulse = max v.pulse w.pulse }

-- the record's seat after a caller's was spent, whose number is no longer in use
abbrev pub spending : View → View → View
spending v w =
    record v { used = without w.number v.used; generation = max v.generation w.generation; pulse = max v.pulse w.pulse }

-- a seat that another has told what it has seen
abbrev pub telling : View → View → View
telling v w = record v { told = w.seen; generation = max v.generation w.generation; pulse = max v.pulse w.pulse }

-- a seat that heard of the edition that another knows
abbrev pub hearing : View → View → View
hearing v w = record v { heard = w.edition }
