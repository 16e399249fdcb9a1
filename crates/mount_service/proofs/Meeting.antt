-- What the mount's own session has seen, which meets those that end.
use Rattle.std.proofs.Common.{◌≡◌, List, [], ◌∷◌, ◌++◌, subst, sym}
use Rattle.records.specs.Marks.{Mark, IsBeginning}
use Rattle.records.specs.Session.{SessionState, MeetKeeps}
use Rattle.board.proofs.Records.{begins_self, begins_through}
use Rattle.mount_service.specs.Spoken.{HaveSeen}

-- what sessions have seen of a record they have of one that goes on from it
pub seen_on : (sessions : List SessionState) (a b : List Mark) → IsBeginning a b → HaveSeen sessions a → HaveSeen sessions b
seen_on [] a b on h = tt
seen_on (s ∷ sessions) a b on h = (begins_through s.knows.seen a b h.0 on, seen_on sessions a b on h.1)

-- one more
seen_last : (sessions : List SessionState) (s : SessionState) (marks : List Mark) → HaveSeen sessions marks
    → IsBeginning s.knows.seen marks → HaveSeen (sessions ++ s ∷ []) marks
seen_last [] s marks h own = (own, tt)
seen_last (it ∷ sessions) s marks h own = (h.0, seen_last sessions s marks h.1 own)

-- Of these sessions some were met, and the others are left: a record that goes on from what the own session has then seen, and from what
-- those have that are left, goes on from what all had.
pub record IsMeeting (sessions : List SessionState) (before : List Mark) (left : List SessionState) (seen : List Mark) : Type 0 where
  pub more : IsBeginning before seen
  pub rest : (marks : List Mark) → IsBeginning seen marks → HaveSeen left marks → HaveSeen sessions marks

-- none was met
pub meeting_none : (sessions : List SessionState) (before : List Mark) → IsMeeting sessions before sessions before
meeting_none sessions before = record { more = begins_self before; rest = λ marks on h. h }

-- the last one is met
pub meeting_last : (sessions : List SessionState) (before : List Mark) (left rest : List SessionState) (own s next t : SessionState)
    → left ≡ rest ++ s ∷ [] → MeetKeeps own s next t → IsMeeting sessions before left own.knows.seen
    → IsMeeting sessions before rest next.knows.seen
meeting_last sessions before left rest own s next t is met h = record {
  more = begins_through before own.knows.seen next.knows.seen h.more met.first.learns.beginning;
  rest = λ marks on seen.
      h.rest marks (begins_through own.knows.seen next.knows.seen marks met.first.learns.beginning on)
      (subst (λ l. HaveSeen l marks) (sym is) (seen_last rest s marks seen (begins_through s.knows.seen next.knows.seen marks
      (subst (λ (m : List Mark). IsBeginning s.knows.seen m) (sym met.same) met.second.learns.beginning) on)));
}

-- all were
pub meeting_all : (sessions : List SessionState) (before : List Mark) (left : List SessionState) (seen : List Mark) → left ≡ []
    → IsMeeting sessions before left seen → HaveSeen sessions seen
meeting_all sessions before left seen none h =
    h.rest seen (begins_self seen) (subst (λ (l : List SessionState). HaveSeen l seen) (sym none) tt)
