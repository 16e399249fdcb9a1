use Rattle.shared_media.specs.Editions.{number_of}
use Rattle.shared_media.proofs.Marking.{in_place_outside}
use Rattle.shared_media.proofs.confined.Confined.marked.Goals as goal

pub returns-clause-outside : goal.returns-clause-outside
returns-clause-outside g c =
    in_place_outside g.N.ServiceParameters.opening c.self.inside.written c.self.inside.media c.self.inside.marks
    (number_of c.self.inside.edition) c.args.self.now c.marked_in.result c.self.view_is c.self.invariant.2
    c.sectors.ensures.whole c.self.invariant.3 c.marked_in.ensures.is
