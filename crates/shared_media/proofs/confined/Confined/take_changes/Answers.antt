use Rattle.std.proofs.Common.{subst, List, ℕ}
use Rattle.std.specs.List.{concat}
use Rattle.changes.specs.Units.{AreTaken}
use Rattle.shared_media.proofs.Marking.{changes_outside}
use Rattle.shared_media.proofs.confined.Confined.take_changes.Goals as goal

pub returns-clause-outside : goal.returns-clause-outside
returns-clause-outside g c =
    let taken : AreTaken c.self.inside.marks (concat c.self.inside.media.sectors) c.in_ok-changes.changes =
    subst (λ (l : List (List ℕ)). AreTaken c.self.inside.marks (concat l) c.in_ok-changes.changes) c.as_sectors.ensures
    c.in_ok-changes.ensures in
    changes_outside g.N.ServiceParameters.opening c.self.inside.written c.self.inside.media c.self.inside.marks c.in_ok-changes.changes
    c.self.invariant.2 c.sectors.ensures.whole c.self.invariant.3 taken
