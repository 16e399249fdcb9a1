-- Sessions worked by hand: two with one number, one after the other, and one with another number.
use Rattle.std.specs.Prelude.{◌≡◌, ℕ, List, [], ◌∷◌, length, Bool, true, false, refl}
use Rattle.std.proofs.Common.{inr, arith, ap}
use Rattle.layout.specs.declared.Geometry.{Geometry}
use Rattle.tree.specs.declared.Who.{Who}
use Rattle.tree.specs.declared.Call.TheVariants as call
use Rattle.tree.specs.Answers.{done}
use Rattle.records.specs.Marks.{Mark, Started, Flush, GaveUp, Took}
use Rattle.records.specs.Disk.{Contents}
use Rattle.records.specs.ServerCall.{Replied, Cut}
use Rattle.records.specs.Session.{calls_of, tally_of, Seen, IsSession, IsNewSession, LearnsMore, SessionState, IsMadeFor, SessionGoesOn, EndsWith, SessionCallKeeps, MeetKeeps, DeviceKeeps}

-- user 0 in this session
abbrev pub user_in : ℕ → Who
user_in session = record { session = session; uid = 0; gid = 0 }

-- a sync of a session, told apart from others by its time
abbrev pub sync : ℕ → ℕ → Mark
sync session now = Took (user_in session) now call.Sync done

-- Session 5 syncs at 10 and ends. Session 7 syncs at 11. Another session with number 5 is made at the third mark, and syncs at 12 and 13.
abbrev pub first_part : List Mark
first_part = sync 7 11 ∷ sync 5 10 ∷ Started (record { slot = 1; generation = 1 }) ∷ []

-- the whole record
abbrev pub all : List Mark
all = sync 5 13 ∷ Flush ∷ sync 5 12 ∷ first_part

-- the later one's own calls are those past its place
later_calls : calls_of 5 3 all ≡ sync 5 13 ∷ sync 5 12 ∷ []
later_calls = refl

-- the first one's place is 1
all_calls : calls_of 5 1 all ≡ sync 5 13 ∷ sync 5 12 ∷ sync 5 10 ∷ []
all_calls = refl

calls_of_7 : calls_of 7 0 all ≡ sync 7 11 ∷ []
calls_of_7 = refl

no_calls : calls_of 6 0 all ≡ []
no_calls = refl

-- a start, four calls and a flush
all_counted : tally_of all ≡ 6
all_counted = refl

-- it was made having seen the calls with its number so far
made : IsNewSession (record { number = 5; place = 3; seen = first_part; mine = [] }) first_part
made = record { beginning = record { later = []; is = refl }; here = refl; none = refl; saw_all = refl }

-- it may be behind the record, where no call of its number is missing
made_behind : IsNewSession (record { number = 5; place = 2; seen = sync 5 10 ∷ Started (record { slot = 1; generation = 1 }) ∷ []; mine = [] }) first_part
made_behind = record { beginning = record { later = sync 7 11 ∷ []; is = refl }; here = refl; none = refl; saw_all = refl }

-- but not where one is
made_blind : IsNewSession (record { number = 5; place = 1; seen = Started (record { slot = 1; generation = 1 }) ∷ []; mine = [] }) first_part → ⊥
made_blind h = not_none (sync 5 10) [] h.saw_all
  where
    not_none : (m : Mark) (ms : List Mark) → m ∷ ms ≡ [] → ⊥
    not_none m ms e = cc

-- after its calls they are its own
abbrev pub session_5 : List Mark → List Mark → Seen
session_5 seen mine = record { number = 5; place = 3; seen = seen; mine = mine }

after_calls : IsSession (session_5 all (sync 5 13 ∷ sync 5 12 ∷ [])) all
after_calls = record { beginning = record { later = []; is = refl }; own = refl }

-- its call at 12 in between: answered, it is the last mark that it has seen, and its own
one_call : LearnsMore (session_5 first_part []) (session_5 (sync 5 12 ∷ first_part) (sync 5 12 ∷ []))
one_call = record { number = refl; place = refl; beginning = record { later = sync 5 12 ∷ []; is = refl }; own = refl }

one_call_ends : EndsWith (Replied done) (user_in 5) 12 call.Sync (session_5 first_part []) (session_5 (sync 5 12 ∷ first_part) (sync 5 12 ∷ []))
one_call_ends = (first_part, refl, refl)

-- a call that isn't in what was seen, or not in its own
unseen_call : EndsWith (Replied done) (user_in 5) 12 call.Sync (session_5 first_part []) (session_5 first_part (sync 5 12 ∷ [])) → ⊥
unseen_call h = let at : ◌≡◌ {A = ℕ} 11 12 = ap time_of h.1 in absurd (omega arith)
  where
    time_of : List Mark → ℕ
    time_of [] = 0
    time_of (Took who now call answer ∷ ms) = now
    time_of (_ ∷ ms) = 0

not_its_own : EndsWith (Replied done) (user_in 5) 12 call.Sync (session_5 first_part []) (session_5 (sync 5 12 ∷ first_part) []) → ⊥
not_its_own h = no_call (sync 5 12) [] h.2
  where
    no_call : (m : Mark) (ms : List Mark) → [] ≡ m ∷ ms → ⊥
    no_call m ms e = cc

-- a cut adds none of its own, though it may have learnt more
cut_call : EndsWith Cut (user_in 5) 12 call.Sync (session_5 first_part []) (session_5 (Flush ∷ first_part) [])
cut_call = refl

-- user 0's session
abbrev pub of_user_0 : Seen → SessionState
of_user_0 knows = record { uid = 0; gid = 0; knows = knows }

-- a call that another user makes in its name
abbrev pub other_user : Who
other_user = record { session = 5; uid = 9; gid = 0 }

call_of_another : (g : Geometry) (image : Contents) (new : SessionState)
    → SessionCallKeeps g image (of_user_0 (session_5 first_part [])) other_user 12 call.Sync (Replied done) new → ⊥
call_of_another g image new h = let nine : ◌≡◌ {A = ℕ} 9 0 = ap (λ (who : Who). who.uid) h.caller in absurd (omega arith)

-- a session whose user is another one afterwards
changed_user : (knows : Seen) → SessionGoesOn (of_user_0 (session_5 first_part [])) (record { uid = 9; gid = 0; knows = knows }) → ⊥
changed_user knows h = let nine : ◌≡◌ {A = ℕ} 9 0 = h.user in absurd (omega arith)

-- a session made for another user than was asked
made_for_another : (marks : List Mark) → IsMadeFor 9 0 (of_user_0 (session_5 first_part [])) marks → ⊥
made_for_another marks h = let zero_is : ◌≡◌ {A = ℕ} 0 9 = h.user in absurd (omega arith)

-- a session with a number of which every call is refused
refused_number : (marks : List Mark) → IsMadeFor 0 0 (of_user_0 (record { number = 64; place = 0; seen = []; mine = [] })) marks → ⊥
refused_number marks h = absurd (omega (arith, h.number))

-- Two sessions meet: 7 had seen the first part alone, 5 all of it.
abbrev pub session_7 : List Mark → Seen
session_7 seen = record { number = 7; place = 2; seen = seen; mine = sync 7 11 ∷ [] }

-- the calls of the later session 5
abbrev pub own_5 : List Mark
own_5 = sync 5 13 ∷ sync 5 12 ∷ []

-- both are user 0's
met : MeetKeeps (of_user_0 (session_7 first_part)) (of_user_0 (session_5 all own_5)) (of_user_0 (session_7 all)) (of_user_0 (session_5 all own_5))
met = record {
  first = record {
    user = refl;
    group = refl;
    learns = record { number = refl; place = refl; beginning = record { later = sync 5 13 ∷ Flush ∷ sync 5 12 ∷ []; is = refl }; own = refl };
  };
  second = record {
    user = refl;
    group = refl;
    learns = record { number = refl; place = refl; beginning = record { later = []; is = refl }; own = refl };
  };
  same = refl;
  longer = inr (refl, record { later = sync 5 13 ∷ Flush ∷ sync 5 12 ∷ []; is = refl });
  first_own = refl;
  second_own = refl;
}

-- a meeting after which one of them knows no more
one_way : MeetKeeps (of_user_0 (session_7 first_part)) (of_user_0 (session_5 all own_5)) (of_user_0 (session_7 first_part)) (of_user_0 (session_5 all own_5)) → ⊥
one_way h = let three : ◌≡◌ {A = ℕ} 3 6 = ap length h.same in absurd (omega arith)

-- A call after giving up, and one before.
abbrev pub given_up : List Mark
given_up = sync 5 12 ∷ GaveUp ∷ first_part

-- it answers that the device was given up only where it has seen that
invented : DeviceKeeps (of_user_0 (session_5 first_part [])) true (of_user_0 (session_5 first_part [])) → ⊥
invented h = let e : ◌≡◌ {A = Bool} false true = h.only refl in cc

-- and always where it had seen a call after it
concealed : DeviceKeeps (of_user_0 (session_5 given_up (sync 5 12 ∷ []))) false (of_user_0 (session_5 given_up (sync 5 12 ∷ []))) → ⊥
concealed h = let e : ◌≡◌ {A = Bool} false true = h.always refl in cc

-- a session that learnt nothing more
learnt_nothing : (seen mine : List Mark) → mine ≡ calls_of 5 3 seen → SessionGoesOn (of_user_0 (session_5 seen mine)) (of_user_0 (session_5 seen mine))
learnt_nothing seen mine own = record {
  user = refl;
  group = refl;
  learns = record { number = refl; place = refl; beginning = record { later = []; is = refl }; own = own };
}

told : DeviceKeeps (of_user_0 (session_5 given_up (sync 5 12 ∷ []))) true (of_user_0 (session_5 given_up (sync 5 12 ∷ [])))
told = record { goes_on = learnt_nothing given_up (sync 5 12 ∷ []) refl; own = refl; only = λ yes_it_is. refl; always = λ went. refl }

-- where it has seen that alone, and no call after it, both answers may be
live_still : DeviceKeeps (of_user_0 (session_5 (GaveUp ∷ first_part) [])) false (of_user_0 (session_5 (GaveUp ∷ first_part) []))
live_still = record { goes_on = learnt_nothing (GaveUp ∷ first_part) [] refl; own = refl; only = λ never. cc; always = λ never. cc }
