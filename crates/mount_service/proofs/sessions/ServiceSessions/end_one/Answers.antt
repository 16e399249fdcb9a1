use Rattle.std.proofs.Common.{◌≡◌, List, inl, ap, subst, sym}
use Rattle.std.specs.Prelude.{is_some}
use Rattle.records.specs.Marks.{Mark, IsBeginning}
use Rattle.records.specs.Session.{SessionState}
use Rattle.mount_service.specs.Spoken.{IsOneGone, users}
use Rattle.mount_service.proofs.Owning.{found}
use Rattle.mount_service.proofs.sessions.ServiceSessions.end_one.Goals as goal
use Rattle.mount_service.proofs.sessions.ServiceSessions.end_one.Goals.{in-Some-shared, in-None}

pub returns : goal.returns
returns g c =
    let it = rw c.as_slice.ensures.value at c.in-Some.ensures.some in
    let was = c.self.inside.own.knows.seen in
    let seen = c.meet.new.self.knows.seen in
    let kept = is_some c.self.inside.shared in
    let own : it.0 ≡ c.remove-session.result =
    found c.self.inside.sessions.items c.in-Some.place c.remove-session.result it.0 it.1 c.remove-session.ensures.value in
    let gone : IsOneGone (users c.self.inside.sessions.items was kept) c.args.number (users c.remove-session.new.self.items seen kept) =
    record {
      place = c.in-Some.place;
      it = it.0;
      is = it.1;
      number = it.2;
      more = c.meet.ensures.first.learns.beginning;
      met = subst (λ (s : SessionState). IsBeginning s.knows.seen seen) (sym own)
          (subst (λ (m : List Mark). IsBeginning c.remove-session.result.knows.seen m) (sym c.meet.ensures.same)
          c.meet.ensures.second.learns.beginning);
      others = ap (λ l. users l seen kept) c.remove-session.ensures.items;
    } in
    rw (← c.self.view_is)
    (inl (elim c.match-self.branch [
      | in-Some-shared w ↦ rw w.self-inside-is gone
      | in-None w ↦ rw w.self-inside-is gone
    ]))
