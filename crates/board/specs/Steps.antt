-- What each step on a word tells its seat, and what a meeting tells two.
use Rattle.std.specs.Prelude.{◌≡◌, ◌≢◌, ℕ, ◌^◌, ◌<◌, ◌≤◌, max, Bool, true, false, List, [], Option, Some, None}
use Rattle.records.specs.Marks.{Mark, Took, is_counted, gave_up, IsBeginning}
use Rattle.records.specs.LegalLaws.{is_call}
use Rattle.records.specs.Session.{calls_of, tally_of, went_on, LearnsMore, IsNewSession, MeetKeeps, DeviceKeeps, IsLonger}
use Rattle.atomic_table.specs.Table.{Me, Step}
use Rattle.board.specs.View.{View, session_of, session_for, noted, called}

-- the session of the seat, if it has a number, has learnt more
abbrev pub SessionLearns : View → View → Type 0
SessionLearns v w = (n : ℕ) → v.number ≡ Some n → LearnsMore (session_of n v) (session_of n w)

-- the seat has seen more of the record, and else knows what it knew
pub record SeesMore (v w : View) : Type 0 where
  pub same : w ≡ record v { seen = w.seen }
  pub beginning : IsBeginning v.seen w.seen
  pub whole : v.keeps ≡ true → w.seen ≡ v.seen
  pub session : SessionLearns v w

-- a load of the tally: the seat has then seen the record whose counted marks it is
abbrev pub Looked : {S : Type 0} → Step S → Me S View → ℕ → Me S View → Type 0
Looked s v n w = (w.1 ≡ v.1) × SeesMore v.0 w.0 × (n ≡ tally_of w.0.seen)

-- the mark is counted, and no call
pub record IsEvent (m : Mark) : Type 0 where
  pub counts : is_counted m ≡ true
  pub no_call : is_call m ≡ false

-- the mark is a call of the session with this number
abbrev pub IsCallOf : Option ℕ → Mark → Type 0
IsCallOf number (Took who now call answer) = number ≡ Some who.session
IsCallOf number _ = ⊥

-- the calls of the seat's session in what it has seen are those that it knows
abbrev pub OwnsCalls : View → Type 0
OwnsCalls v = (n : ℕ) → v.number ≡ Some n → v.mine ≡ calls_of n v.place v.seen

-- the record's seat added a mark that is no call
abbrev pub Noted : {S : Type 0} → Mark → Step S → Me S View → ℕ → Me S View → Type 0
Noted m s v n w = (w.1 ≡ v.1) × (w.0 ≡ noted m v.0) × (n ≡ tally_of v.0.seen)

-- the record's seat added a call of its guest, who had seen a beginning of the record
abbrev pub Called : {S : Type 0} → Mark → Step S → Me S View → ℕ → Me S View → Type 0
Called m s v n w =
    (w.1 ≡ v.1) × (w.0 ≡ called m v.0) × (n ≡ tally_of v.0.seen) × IsBeginning v.0.told v.0.seen × OwnsCalls w.0

-- a load of the generation
abbrev pub Found : {S : Type 0} → Step S → Me S View → ℕ → Me S View → Type 0
Found s v n w = (w.1 ≡ v.1) × (w.0 ≡ record v.0 { generation = n }) × (v.0.generation ≤ n) × (n < 2 ^ 32)

-- the generation becomes at least what is written
abbrev pub Started : {S : Type 0} → Step S → Me S View → ℕ → Me S View → Type 0
Started s v n w = (w.1 ≡ v.1) × (w.0 ≡ record v.0 { generation = max n s.first }) × (v.0.generation ≤ n)

-- a load of the pulse
abbrev pub Felt : {S : Type 0} → Step S → Me S View → ℕ → Me S View → Type 0
Felt s v n w = (w.1 ≡ v.1) × (w.0 ≡ record v.0 { pulse = n }) × (v.0.pulse ≤ n)

-- the pulse becomes at least what is written
abbrev pub Beaten : {S : Type 0} → Step S → Me S View → ℕ → Me S View → Type 0
Beaten s v n w = (w.1 ≡ v.1) × (w.0 ≡ record v.0 { pulse = max n s.first }) × (v.0.pulse ≤ n)

-- a load of the device word
abbrev pub Asked : {S : Type 0} → Step S → Me S View → ℕ → Me S View → Type 0
Asked s v n w =
    (w.1 ≡ v.1) × SeesMore v.0 w.0 × (n < 2) × (n ≡ 1 → gave_up w.0.seen ≡ true) × (went_on v.0.seen ≡ true → n ≡ 1)

-- the device word is set
abbrev pub GivenUp : {S : Type 0} → Step S → Me S View → ℕ → Me S View → Type 0
GivenUp s v n w = (w.1 ≡ v.1) × (w.0 ≡ record v.0 { given_up = true })

-- the seat has seen the longer of what it had seen and what it was told
pub record LearnsTold (v w : View) : Type 0 where
  pub same : w ≡ record v { seen = w.seen; told = [] }
  pub longer : IsLonger w.seen v.seen v.told
  pub whole : v.keeps ≡ true → w.seen ≡ v.seen
  pub session : SessionLearns v w

-- a load of the tally by a seat that was told something
abbrev pub Learned : {S : Type 0} → Step S → Me S View → ℕ → Me S View → Type 0
Learned s v n w = (w.1 ≡ v.1) × LearnsTold v.0 w.0

-- a seat after a meeting: it may have seen more, and else is the same
pub record Meets (v w : View) : Type 0 where
  pub same : w ≡ record v { seen = w.seen; told = []; generation = w.generation; pulse = w.pulse }
  pub generation : v.generation ≤ w.generation
  pub pulse : v.pulse ≤ w.pulse
  pub whole : v.keeps ≡ true → w.seen ≡ v.seen
  pub session : SessionLearns v w

-- the sessions of two seats, if both have numbers, have met, whoever they were made for
abbrev pub SessionsMeet : View → View → View → View → Type 0
SessionsMeet a b newer_a newer_b =
    (m n uid gid other_uid other_gid : ℕ) → a.number ≡ Some m → b.number ≡ Some n
    → MeetKeeps (session_for uid gid m a) (session_for other_uid other_gid n b) (session_for uid gid m newer_a) (session_for other_uid other_gid n newer_b)

-- the session of the seat, if it has a number, has asked whether the device was given up
abbrev pub SessionAsks : View → Bool → View → Type 0
SessionAsks v given_up w =
    (n uid gid : ℕ) → v.number ≡ Some n → DeviceKeeps (session_for uid gid n v) given_up (session_for uid gid n w)

-- the session of a new seat with this number is new, and has seen the whole record
abbrev pub SessionIsNew : ℕ → View → List Mark → Type 0
SessionIsNew n v marks = (v.number ≡ Some n) × (v.seen ≡ marks) × IsNewSession (session_of n v) marks

-- the sectors became the edition of the number that was found, where it was the one looked for; else nothing changed
abbrev pub Published : {S : Type 0} → List (List ℕ) → Step S → Me S View → ℕ → Me S View → Type 0
Published sectors s v n w =
    (w.1 ≡ v.1) × (n ≡ s.first → w.0 ≡ record v.0 { edition = Some (s.first, sectors) }) × (n ≢ s.first → w.0 ≡ v.0)

-- two that are known by one number have the same sectors
abbrev pub AreOneEdition : Option (ℕ × List (List ℕ)) → Option (ℕ × List (List ℕ)) → Type 0
AreOneEdition known other = (n : ℕ) (s t : List (List ℕ)) → known ≡ Some (n, s) → other ≡ Some (n, t) → s ≡ t

-- a load by a seat that heard of an edition
abbrev pub Compared : {S : Type 0} → Step S → Me S View → ℕ → Me S View → Type 0
Compared s v n w = (w.1 ≡ v.1) × (w.0 ≡ record v.0 { heard = None }) × AreOneEdition v.0.edition v.0.heard
