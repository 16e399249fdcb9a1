use Rattle.std.proofs.Common.{inl}
use Rattle.std.proofs.Math.Logic.{∥∥₁_map}
use Rattle.archive.proofs.Keeping.{put_more}
use Rattle.archive.proofs.shared_archive.Stored.put.Goals as goal

pub invariant_of-self : goal.invariant_of-self
invariant_of-self g c = record {
  kept = ∥∥₁_map c.args.self.now.kept (λ kept. put_more g.A.Archive.puts g.N.ServiceParameters.geometry g.N.ServiceParameters.opening
      g.F.Begins.first c.args.self.now.archive c.put.new.self kept (record {
        synced = c.requires.synced;
        answer = c.put.result;
        put = record { changes = _; outside = c.requires.outside; put = c.put.ensures };
      }));
}

pub returns : goal.returns
returns g c = inl (
  c.args.self.now.archive,
  c.put.new.self,
  record { changes = _; outside = c.requires.outside; put = c.put.ensures },
)
