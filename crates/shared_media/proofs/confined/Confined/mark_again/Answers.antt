use Rattle.shared_media.specs.Editions.{number_of}
use Rattle.shared_media.proofs.Marking.{marked_again}
use Rattle.shared_media.proofs.confined.Confined.mark_again.Goals as goal

pub returns-clause-changed : goal.returns-clause-changed
returns-clause-changed g c =
    marked_again c.args.self.now c.self.inside.media c.self.inside.marks c.mark_all.new.self c.self.inside.written
    (number_of c.self.inside.edition) c.deref.result.now c.self.view_is c.mark_all.ensures
