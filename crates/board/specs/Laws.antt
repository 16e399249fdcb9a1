-- What the rule says of the words and of what the seats know, sentence by sentence.
use Rattle.std.specs.Prelude.{◌≡◌, ℕ, ◌<◌, ◌≤◌, List, true, Some, slice_index}
use mathlib.Core.Option.{some}
use lib.ListN.{get_elem?}
use Rattle.records.specs.Marks.{gave_up, IsBeginning}
use Rattle.records.specs.Session.{calls_of, tally_of, went_on, IsSession}
use Rattle.board.specs.View.{View, session_of, is_used}
use Rattle.board.specs.Rule.{Kept}

-- the seat with this place among the views knows this
abbrev pub Knows : List View → ℕ → View → Type 0
Knows views seat v = get_elem? views seat ≡ some v

-- the record's seat knows this
pub record IsRecords (views : List View) (v : View) : Type 0 where
  pub seat : ℕ
  pub knows : Knows views seat v
  pub keeps : v.keeps ≡ true

-- what the record's seat knows beside the words and any other seat: `v` is the record's, `w` the other's
pub record RecordSays (words : List ℕ) (v : View) (w : View) : Type 0 where
  -- the tally is the number of counted marks in the record, modulo 2^64
  pub tally : slice_index words 0 ≡ tally_of v.seen
  -- what the other has seen is a beginning of the record
  pub beginning : IsBeginning w.seen v.seen
  -- the other's session is one of the record, and its calls there are those that it knows; its number is in use
  pub session : (n : ℕ) → w.number ≡ Some n → IsSession (session_of n w) v.seen
  pub own : (n : ℕ) → w.number ≡ Some n → w.mine ≡ calls_of n w.place v.seen
  pub used : (n : ℕ) → w.number ≡ Some n → is_used n v.used ≡ true
  -- the device word is set only where the record has a giving up, and once it was set it stays so
  pub only : slice_index words 2 ≡ 1 → gave_up v.seen ≡ true
  pub stays : v.given_up ≡ true → slice_index words 2 ≡ 1

-- all that the rule says
pub record RuleSays (words : List ℕ) (views : List View) : Type 0 where
  pub recorded : (v : View) (seat : ℕ) (w : View) → IsRecords views v → Knows views seat w → RecordSays words v w
  -- the record has one seat
  pub alone : (seat other : ℕ) (v w : View) → Knows views seat v → Knows views other w → v.keeps ≡ true → w.keeps ≡ true → seat ≡ other
  -- a number in use is that of a seat, and of one only
  pub held : (v : View) (n : ℕ) → IsRecords views v → is_used n v.used ≡ true → (seat : ℕ) × (w : View) × Knows views seat w × (w.number ≡ Some n)
  pub one : (seat other n : ℕ) (v w : View) → Knows views seat v → Knows views other w → v.number ≡ Some n → w.number ≡ Some n → seat ≡ other
  -- generation and pulse are at least what any seat has seen
  pub generation : (seat : ℕ) (v : View) → Knows views seat v → v.generation ≤ slice_index words 1
  pub pulse : (seat : ℕ) (v : View) → Knows views seat v → v.pulse ≤ slice_index words 3
  -- the device word is set where a seat has seen a call taken after the giving up
  pub after : (seat : ℕ) (v : View) → Knows views seat v → went_on v.seen ≡ true → slice_index words 2 ≡ 1
  -- the number of an edition that a seat knows was given, and two seats that know that of one number know the same sectors
  pub given : (seat n : ℕ) (s : List (List ℕ)) (v : View) → Knows views seat v → v.edition ≡ Some (n, s)
      → n < slice_index words 4
  pub same : (seat other n : ℕ) (s t : List (List ℕ)) (v w : View) → Knows views seat v → Knows views other w
      → v.edition ≡ Some (n, s) → w.edition ≡ Some (n, t) → s ≡ t

-- so it is wherever the rule is kept
abbrev pub RuleSaysSo : Type 0
RuleSaysSo = (words : List ℕ) (views : List View) → Kept words views → RuleSays words views
