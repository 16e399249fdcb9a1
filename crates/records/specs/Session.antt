-- What a session has seen of the service's record, which marks of it are its own, and what its calls keep.
use Rattle.std.specs.Prelude.{◌≡◌, ◌⊎◌, ℕ, ◌<◌, ◌%◌, ◌^◌, ◌&&◌, ◌||◌, ◌==◌, List, [], ◌∷◌, Bool, true, false, length, nat_le, if◌then◌else◌}
use Rattle.layout.specs.declared.Geometry.{Geometry}
use Rattle.tree.specs.declared.Who.{Who}
use Rattle.tree.specs.declared.Call.{Call}
use Rattle.tree.specs.Tree.{Tree, most_sessions}
use Rattle.records.specs.Marks.{Mark, Took, counted, gave_up, IsBeginning}
use Rattle.records.specs.Disk.{Contents, HasTrueReplies}
use Rattle.records.specs.Legal.{IsAtFirst, IsLegal}
use Rattle.records.specs.ServerCall.{Outcome, Replied, Cut}

-- the calls taken of the session with this number, past this place (as many marks as stood there when it was made)
abbrev pub calls_of : ℕ → ℕ → List Mark → List Mark
calls_of number place [] = []
calls_of number place (Took who now call answer ∷ marks) =
    if (who.session == number) && nat_le place (length marks)
    then Took who now call answer ∷ calls_of number place marks
    else calls_of number place marks
calls_of number place (_ ∷ marks) = calls_of number place marks

-- What a session knows.
pub record Seen : Type 0 where
  pub number : ℕ
  -- how many marks stood when it was made
  pub place : ℕ
  -- the beginning of the service's record that it has learnt of
  pub seen : List Mark
  -- the marks of its own calls
  pub mine : List Mark

-- the number that the board shows of a record: its counted marks, in 64 bits
abbrev pub tally_of : List Mark → ℕ
tally_of marks = counted marks % 2 ^ 64

-- what always holds of a session and the record of its service
pub record IsSession (s : Seen) (marks : List Mark) : Type 0 where
  pub beginning : IsBeginning s.seen marks
  pub own : s.mine ≡ calls_of s.number s.place s.seen

-- what holds when it is made: it has seen each call so far with its number
pub record IsNewSession (s : Seen) (marks : List Mark) : Type 0 where
  pub beginning : IsBeginning s.seen marks
  pub here : s.place ≡ length s.seen
  pub none : s.mine ≡ []
  pub saw_all : calls_of s.number s.place marks ≡ []

-- the later state knows more of the same session
pub record LearnsMore (old new : Seen) : Type 0 where
  pub number : new.number ≡ old.number
  pub place : new.place ≡ old.place
  pub beginning : IsBeginning old.seen new.seen
  pub own : new.mine ≡ calls_of new.number new.place new.seen

-- A session: the user and group that it was made for, and what it knows.
pub record SessionState : Type 0 where
  pub uid : ℕ
  pub gid : ℕ
  pub knows : Seen

-- who calls in a session: its number, user and group
abbrev pub caller_of : SessionState → Who
caller_of s = record { session = s.knows.number; uid = s.uid; gid = s.gid }

-- each of these marks is a call of this caller
abbrev pub AreCallsOf : Who → List Mark → Type 0
AreCallsOf caller [] = Unit {0}
AreCallsOf caller (Took who now call answer ∷ marks) = (who ≡ caller) × AreCallsOf caller marks
AreCallsOf caller (_ ∷ marks) = ⊥

-- what holds of a session just made for this user and group: its number is one of those that a server takes calls of
pub record IsMadeFor (uid gid : ℕ) (s : SessionState) (marks : List Mark) : Type 0 where
  pub number : s.knows.number < most_sessions
  pub user : s.uid ≡ uid
  pub group : s.gid ≡ gid
  pub new : IsNewSession s.knows marks

-- the same session later: its user and group stay, and it knows more
pub record SessionGoesOn (old new : SessionState) : Type 0 where
  pub user : new.uid ≡ old.uid
  pub group : new.gid ≡ old.gid
  pub learns : LearnsMore old.knows new.knows

-- an answer is this call's mark, last in what was seen and in what is its own; a cut adds none of its own
abbrev pub EndsWith : Outcome → Who → ℕ → Call → Seen → Seen → Type 0
EndsWith (Replied answer) who now call old new =
    (before : List Mark) × (new.seen ≡ Took who now call answer ∷ before) × (new.mine ≡ Took who now call answer ∷ old.mine)
EndsWith Cut who now call old new = new.mine ≡ old.mine

-- one call of a session, made by its user and group; whichever tree the image held at first, over true replies what was seen is legal
pub record SessionCallKeeps (g : Geometry) (image : Contents) (old : SessionState) (who : Who) (now : ℕ) (call : Call) (outcome : Outcome) (new : SessionState) : Type 0 where
  pub goes_on : SessionGoesOn old new
  pub caller : who ≡ caller_of old
  pub ends : EndsWith outcome who now call old.knows new.knows
  pub legal : (tree : Tree) → IsAtFirst g image tree → HasTrueReplies image new.knows.seen → IsLegal g image tree new.knows.seen

-- the longer of two records, which begins with the other
abbrev pub IsLonger : List Mark → List Mark → List Mark → Type 0
IsLonger longer a b = ((longer ≡ a) × IsBeginning b a) ⊎ ((longer ≡ b) × IsBeginning a b)

-- two sessions of one service meet: both have then seen the longer of their records, and neither makes a mark
pub record MeetKeeps (a b newer_a newer_b : SessionState) : Type 0 where
  pub first : SessionGoesOn a newer_a
  pub second : SessionGoesOn b newer_b
  pub same : newer_a.knows.seen ≡ newer_b.knows.seen
  pub longer : IsLonger newer_a.knows.seen a.knows.seen b.knows.seen
  pub first_own : newer_a.knows.mine ≡ a.knows.mine
  pub second_own : newer_b.knows.mine ≡ b.knows.mine

-- whether a call was taken after the device was given up
abbrev pub went_on : List Mark → Bool
went_on [] = false
went_on (Took who now call answer ∷ marks) = gave_up marks || went_on marks
went_on (_ ∷ marks) = went_on marks

-- A session asks whether the device was given up. Yes only where it has then seen so, and yes where it had seen a call taken after it.
pub record DeviceKeeps (old : SessionState) (given_up : Bool) (new : SessionState) : Type 0 where
  pub goes_on : SessionGoesOn old new
  pub own : new.knows.mine ≡ old.knows.mine
  pub only : given_up ≡ true → gave_up new.knows.seen ≡ true
  pub always : went_on old.knows.seen ≡ true → given_up ≡ true
