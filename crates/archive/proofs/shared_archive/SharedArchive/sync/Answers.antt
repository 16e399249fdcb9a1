use Rattle.std.proofs.Common.{◌∙◌, ap}
use Rattle.tree.specs.declared.Outcome.TheVariants.{Reply}
use Rattle.archive.proofs.Putting.{kept_done}
use Rattle.archive.proofs.shared_archive.SharedArchive.sync.Goals as goal

pub returns-in-Reply-Done : goal.returns-in-Reply-Done
returns-in-Reply-Done g c =
    let called = c.call-outcome.ensures in
    kept_done g.A.Archive.puts g.L.Link g.L.Recorder.marks g.N.ServiceParameters.geometry g.N.ServiceParameters.opening
    c.args.session.now c.args.now c.call-outcome.result c.call-outcome.new.self c.keep.result c.outcome_of.result
    (record {
      keeps = called.keeps;
      sound = called.sound;
      guaranteed = called.guaranteed;
      volume = called.volume;
      eio = called.eio;
      cut = called.cut;
    })
    (c.in-Reply-Done.is ∙ ap (λ r. Reply r) (rw c.in-Reply-Done.is at c.in-Reply-Done.field-0-is)) c.keep.ensures c.outcome_of.ensures
