-- What is spoken by the sessions of a mount, which begin as none.
use Rattle.std.proofs.Common.{◌≡◌, ℕ, Bool, List, [], subst}
use Rattle.std.specs.Prelude.{Option, Result, Ok, Err, OnOk}
use Rattle.layout.specs.declared.Geometry.{Geometry}
use Rattle.records.specs.Marks.{Mark, IsBeginning}
use Rattle.records.specs.Opening.{Opening}
use Rattle.message_stream.specs.Answered.{IsAnsweredAll}
use Rattle.message_stream.specs.Exchanges.{by_both}
use Rattle.archive.specs.Behind.{Puts}
use Rattle.mount_service.specs.Spoken.{Speaks, IsSpoken, MayAnswer, IsEntered, HaveLeft, HaveSeen, Users, users}

pub spoken_ok : {A W E : Type 0} (result : Result (Unit {0}) E) (puts : Puts A) (fewest : ℕ) (speaks : Speaks W) (first : W) (g : Geometry)
    (v : Opening) (stream old new : Option (List ℕ)) (s t : Users) (begun : List Mark) (kept : Bool) (marks : List Mark)
    → s ≡ users [] begun kept
    → OnOk result (IsAnsweredAll fewest (by_both (speaks Users (MayAnswer puts g v) IsEntered HaveLeft)) stream old new (s, first) t)
    → IsBeginning t.met marks → HaveSeen t.sessions marks
    → OnOk result (IsSpoken puts fewest speaks first g v stream old new kept marks)
spoken_ok (Ok done) puts fewest speaks first g v stream old new s t begun kept marks is it met sessions = (
  begun,
  t,
  subst (λ (u : Users). IsAnsweredAll fewest (by_both (speaks Users (MayAnswer puts g v) IsEntered HaveLeft)) stream old new (u, first) t)
      is it,
  met,
  sessions,
)
spoken_ok (Err e) puts fewest speaks first g v stream old new s t begun kept marks is it met sessions = tt
