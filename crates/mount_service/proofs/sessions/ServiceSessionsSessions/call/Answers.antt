use Rattle.std.proofs.Common.{inl}
use Rattle.std.specs.Prelude.{is_some}
use Rattle.mount_service.proofs.Owning.{own_answer}
use Rattle.mount_service.proofs.sessions.ServiceSessionsSessions.call.Goals as goal

pub returns : goal.returns
returns g c = rw (← c.self.view_is)
    (inl (own_answer g.A.Archive.puts g.N.ServiceParameters.geometry g.N.ServiceParameters.opening c.self.inside.sessions.items
    c.self.inside.own.knows.seen (is_some c.self.inside.shared) c.args.session c.args.now c.args.call.now c.call_and_keep.result
    c.in-Some.place c.index_mut-session.result.now c.call_and_keep.new.session (rw c.as_slice.ensures.value at c.in-Some.ensures.some)
    c.index_mut-session.ensures.value c.call_and_keep.ensures))
