-- Laws of sessions, and of a server without frames.
use Rattle.std.specs.Prelude.{◌≡◌, ℕ, List, [], ◌∷◌, ◌++◌, length, Bool, true, false, ◌&&◌, ◌==◌, nat_le, None, IsSome, IsTrue, if◌then◌else◌, refl}
use Rattle.std.proofs.Common.{sym, ap, subst, ◌∙◌}
use Rattle.layout.specs.declared.Geometry.{Geometry}
use Rattle.records.specs.Marks.{Mark, Started, Answered, Flush, GaveUp, Took, Issued, Fault, IsBeginning}
use Rattle.records.specs.Disk.{Contents, unsure}
use Rattle.tree.specs.declared.Who.{Who}
use Rattle.tree.specs.declared.Call.{Call}
use Rattle.records.specs.ServerCall.{Outcome, Replied, Cut}
use Rattle.records.specs.Session.{calls_of, Seen, IsSession, IsNewSession, SessionState, caller_of, AreCallsOf, SessionGoesOn, SessionCallKeeps}
use Rattle.records.specs.LegalLaws.{WithoutFrames, OwnCallsAreByItsUser}

-- one more call of its own, or not, in front
grows_by : (b : Bool) (m : Mark) (own all : List Mark) → IsBeginning own all → IsBeginning own (if b then m ∷ all else all)
grows_by true m own all h = record { later = m ∷ h.later; is = ap (λ (ms : List Mark). m ∷ ms) h.is }
grows_by false m own all h = h

-- what a session's calls were is a beginning of what they are
pub own_calls_grow : (number place : ℕ) (later marks : List Mark) → IsBeginning (calls_of number place marks) (calls_of number place (later ++ marks))
own_calls_grow number place [] marks = record { later = []; is = refl }
own_calls_grow number place (Started e ∷ later) marks = own_calls_grow number place later marks
own_calls_grow number place (Answered a ∷ later) marks = own_calls_grow number place later marks
own_calls_grow number place (Flush ∷ later) marks = own_calls_grow number place later marks
own_calls_grow number place (GaveUp ∷ later) marks = own_calls_grow number place later marks
own_calls_grow number place (Took who now call answer ∷ later) marks =
    grows_by ((who.session == number) && nat_le place (length (later ++ marks))) (Took who now call answer) (calls_of number place marks)
    (calls_of number place (later ++ marks)) (own_calls_grow number place later marks)
own_calls_grow number place (Issued r e ∷ later) marks = own_calls_grow number place later marks
own_calls_grow number place (Fault e cause ∷ later) marks = own_calls_grow number place later marks

-- a beginning of nothing is nothing
beginning_of_none : (later own : List Mark) → later ++ own ≡ [] → own ≡ []
beginning_of_none [] own e = e
beginning_of_none (m ∷ later) own e = cc

-- a new session has made no call, so it has seen none of its own
pub new_session_is_session : (s : Seen) (marks : List Mark) → IsNewSession s marks → IsSession s marks
new_session_is_session s marks new = record {
  beginning = new.beginning;
  own =
      let grown = own_calls_grow s.number s.place new.beginning.later s.seen in
      let all : calls_of s.number s.place (new.beginning.later ++ s.seen) ≡ [] =
      subst (λ (ms : List Mark). calls_of s.number s.place ms ≡ []) new.beginning.is new.saw_all in
      new.none ∙ sym (beginning_of_none grown.later (calls_of s.number s.place s.seen) (sym grown.is ∙ all));
}

-- the caller stays
same_caller : (old new : SessionState) → SessionGoesOn old new → caller_of new ≡ caller_of old
same_caller old new on = rw (on.user, on.group, on.learns.number) refl

-- these calls are the caller's, whichever of two equal names is used of both
same_calls : (mine grown : List Mark) (before after : Who) → grown ≡ mine → after ≡ before → AreCallsOf before mine → AreCallsOf after grown
same_calls mine grown before after same caller are = rw (same, caller) are

-- a call adds its own
by_its_user : (g : Geometry) (image : Contents) (old new : SessionState) (who : Who) (now : ℕ) (call : Call) (outcome : Outcome)
    → SessionCallKeeps g image old who now call outcome new → AreCallsOf (caller_of old) old.knows.mine
    → AreCallsOf (caller_of new) new.knows.mine
by_its_user g image old new who now call (Replied answer) keeps are =
    same_calls (Took who now call answer ∷ old.knows.mine) new.knows.mine (caller_of old) (caller_of new) keeps.ends.2
    (same_caller old new keeps.goes_on) (keeps.caller, are)
by_its_user g image old new who now call Cut keeps are =
    same_calls old.knows.mine new.knows.mine (caller_of old) (caller_of new) keeps.ends (same_caller old new keeps.goes_on) are

-- a session's own calls are by its user and group
pub own_calls_are_by_its_user : (g : Geometry) (image : Contents) → OwnCallsAreByItsUser g image
own_calls_are_by_its_user g image = record {
  at_first = λ uid gid s marks made. same_calls [] s.knows.mine (caller_of s) (caller_of s) made.new.none refl tt;
  after_call = by_its_user g image;
}

-- a place without a frame isn't unsure
sure_at : (b : Bool) → (IsTrue b → ⊥) → b ≡ false
sure_at true never = absurd (never refl)
sure_at false never = refl

-- there is no frame where there are none
no_frame : IsSome {T = List ℕ} None → ⊥
no_frame h = let e : ◌≡◌ {A = Bool} false true = h in cc

-- without frames a server would read back the disk, and where that is covered nothing is unsure
pub without_frames : (g : Geometry) (image : Contents) (marks : List Mark) → WithoutFrames g image marks
without_frames g image marks = record {
  view = refl;
  sure = λ covered place. sure_at (unsure marks place) (λ is_unsure. no_frame (covered.each place is_unsure));
}
