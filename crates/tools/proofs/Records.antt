-- What a service vouches for, without its link.
use Rattle.std.proofs.Common.{ℕ, List, [], ◌∷◌, Result, Ok, Err, IfOk, IfErr, ap, ◌∙◌}
use Rattle.layout.specs.declared.Geometry.{Geometry}
use Rattle.records.specs.Marks.{Mark}
use Rattle.records.specs.Opening.{Opening}
use Rattle.records.specs.Session.{SessionState}
use Rattle.reissue.specs.declared.link.Link.{Ghosts as LinkWords}
use Rattle.shared_server.specs.Held.{HasEnded}
use Rattle.shared_server.specs.Stopping.{has_ended}
use Rattle.shared_server.specs.Finishing.{sync_of}
use Rattle.shared_server.specs.declared.locked.LastSync.{LastSync}
use Rattle.shared_server.specs.declared.refusal.SessionRefusal.TheVariants.{TooMany, Stopped, OutOfMemory}
use Rattle.serve.specs.Stopping.{IsLastImage}
use Rattle.call_text.specs.declared.scripts.timed.TimedCall.{TimedCall}
use Rattle.reply_text.specs.declared.answers.Played.{Played}
use Rattle.tools.specs.Turns.{ArePlayed, EachIn, IsTurn}
use Rattle.tools.specs.Vouched.{IsServedRecord, Vouched}
use Rattle.tools.specs.Served.{AreServed, IsUnserved, IsUnservedBy}
use Rattle.tools.specs.declared.scripts.players.Came.{Came}
use Rattle.tools.specs.declared.scripts.players.ServiceRefusal.{ServiceRefusal}
use Rattle.tools.specs.declared.scripts.players.ServiceRefusal.TheVariants.{NoSession, NoImage}

-- what is vouched for in one way is in another, and so is what is said of a link that has ended
module _ (V W E F : List Mark → Type 0) (weaker : (seen : List Mark) → V seen → W seen) (over : (seen : List Mark) → E seen → F seen) where
  turn_as : (script : ℕ × ℕ × List TimedCall) (p : Played) (s : SessionState) → IsTurn V E script p s → IsTurn W F script p s
  turn_as script p s t = record {
    user = t.user;
    group = t.group;
    number = t.number;
    low = t.low;
    made = t.made;
    asked = t.asked;
    each = t.each;
    cuts = t.cuts;
    mine = t.mine;
    calls = t.calls;
    vouched = weaker s.knows.seen t.vouched;
    at_end = t.at_end;
    begins = t.begins;
    ended = λ is. over t.at_end (t.ended is);
  }

  each_as : (seen : List Mark) (scripts : List (ℕ × ℕ × List TimedCall)) (played : List Played) → EachIn V E seen scripts played
      → EachIn W F seen scripts played
  each_as seen [] [] h = tt
  each_as seen [] (p ∷ played) h = absurd h
  each_as seen (script ∷ scripts) [] h = absurd h
  each_as seen (script ∷ scripts) (p ∷ played) h = ((h.0.0, turn_as script p h.0.0 h.0.1, h.0.2), each_as seen scripts played h.1)

  pub turns_as : (scripts : List (ℕ × ℕ × List TimedCall)) (played : List Played) (seen : List Mark) → ArePlayed V E scripts played seen
      → ArePlayed W F scripts played seen
  turns_as scripts played seen turns = record { each = each_as seen scripts played turns.each; none = turns.none }

-- scripts that were played in a service, and the image that it left
pub are_served : {L : Type 0} (link : LinkWords L) (g : Geometry) (v : Opening) (scripts : List (ℕ × ℕ × List TimedCall))
    (played : List Played) (seen : List Mark) (last : LastSync) (image : List ℕ)
    → ArePlayed (Vouched link.truth g v) (HasEnded link v) scripts played seen
    → IsLastImage link g v seen (sync_of last) image → AreServed (HasEnded link v) g v scripts played last image
are_served link g v scripts played seen last image turns shown = record {
  seen = seen;
  turns = turns_as (Vouched link.truth g v) (IsServedRecord g v) (HasEnded link v) (HasEnded link v) (λ ms h. h.0) (λ ms h. h) scripts played
      seen turns;
  left = record {
    outside = shown.outside;
    marks = shown.last.marks;
    goes_on = shown.last.goes_on;
    tells = shown.last.tells;
    range = shown.range;
    ended = λ is. record {
      line = shown.line;
      guaranteed = shown.last.guaranteed;
      ended = shown.last.ended ∙ ap (λ (l : LastSync). has_ended (sync_of l)) is;
    };
  };
}

-- the same, where less is said of a link that has ended
module _ (E F : List Mark → Type 0) (over : (seen : List Mark) → E seen → F seen) (g : Geometry) (v : Opening)
    (scripts : List (ℕ × ℕ × List TimedCall)) where
  served_as : (played : List Played) (last : LastSync) (image : List ℕ) → AreServed E g v scripts played last image
      → AreServed F g v scripts played last image
  served_as played last image h = record {
    seen = h.seen;
    turns = turns_as (IsServedRecord g v) (IsServedRecord g v) E F (λ ms is. is) over scripts played h.seen h.turns;
    left = record {
      outside = h.left.outside;
      marks = h.left.marks;
      goes_on = h.left.goes_on;
      tells = h.left.tells;
      range = h.left.range;
      ended = λ is. over h.left.marks (h.left.ended is);
    };
  }

  pub came_as : {X : Type 0} (result : Result (Result Came ServiceRefusal) X)
      → IfOk result (λ o. IfOk o (λ came. AreServed E g v scripts came.sessions.items came.last_sync came.image.items))
      → IfOk result (λ o. IfOk o (λ came. AreServed F g v scripts came.sessions.items came.last_sync came.image.items))
  came_as (Ok (Ok came)) h = served_as came.sessions.items came.last_sync came.image.items h
  came_as (Ok (Err e)) h = tt
  came_as (Err e) h = tt

-- why a service gives nothing, without its link
unserved_by : {L : Type 0} (link : LinkWords L) (numbers : L → List ℕ) (v : Opening) (E : List Mark → Type 0)
    → ((seen : List Mark) → HasEnded link v seen → E seen) → (refusal : ServiceRefusal) → IsUnservedBy link numbers v refusal
    → IsUnserved E refusal
unserved_by link numbers v E over (NoSession Stopped) h = (h.0, over h.0 h.1)
unserved_by link numbers v E over (NoSession TooMany) h = tt
unserved_by link numbers v E over (NoSession OutOfMemory) h = tt
unserved_by link numbers v E over (NoImage why) h = tt

pub unserved_as : {L X : Type 0} (link : LinkWords L) (numbers : L → List ℕ) (v : Opening) (E : List Mark → Type 0)
    → ((seen : List Mark) → HasEnded link v seen → E seen) → (result : Result (Result Came ServiceRefusal) X)
    → IfOk result (λ o. IfErr o (IsUnservedBy link numbers v)) → IfOk result (λ o. IfErr o (IsUnserved E))
unserved_as link numbers v E over (Ok (Ok came)) h = tt
unserved_as link numbers v E over (Ok (Err refusal)) h = unserved_by link numbers v E over refusal h
unserved_as link numbers v E over (Err e) h = tt
