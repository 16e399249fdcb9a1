use Rattle.std.proofs.Common.{◌≡◌, ◌∙◌, ap, ℕ, ◌+◌, ◌/◌, List, Bool, length, Option}
use Rattle.bdev.specs.DriverState.{DriverState}
use Rattle.media.specs.Contents.{MediaState}
use Rattle.records.specs.Opening.{Opening}
use Rattle.shared_media.specs.Confined.{StaysInVolume, written_for}
use Rattle.shared_media.specs.Editions.{may_write}
use Rattle.shared_media.specs.Marking.{ConfinedState, marked_for}
use Rattle.shared_media.proofs.Confining.{keeps_stepped, long_written, named_unit}
use Rattle.shared_media.proofs.Editions.{known_stepped, number_kept}
use Rattle.shared_media.proofs.Marking.{marks_step, long_after}
use Rattle.shared_media.proofs.confined.Confined.step.Goals as goal

pub returns-clause-changed : goal.returns-clause-changed
returns-clause-changed g c =
    let marks : c.mark_sector.new.marks ≡ marked_for (g.D.BlockDriver.state c.args.driver.now).in_work c.self.inside.marks =
    c.mark_sector.ensures ∙ ap (λ (o : Option ℕ). marked_for o c.self.inside.marks) c.in_work-sector.ensures.value in
    marks_step c.args.self.now _ c.self.inside.media _ _ _ c.step_into-stepped.new.media c.self.inside.marks c.mark_sector.new.marks
    _ _ _ _ c.self.view_is c.step_into-stepped.ensures.keeps c.self.invariant.3 marks

pub returns-clause-edition : goal.returns-clause-edition
returns-clause-edition g c = λ stays.
    let named : Option ℕ = (g.D.BlockDriver.state c.args.driver.now).in_work in
    number_kept _ _ c.self.inside.edition c.end_edition.new.edition c.args.self.now.edition c.end_edition.ensures
    (c.may_write-writes.ensures ∙ ap (λ (o : Option ℕ). may_write c.self.inside.media c.args.generation o) c.in_work-sector.ensures.value
    ∙ ap (λ (s : ConfinedState). may_write s.media c.args.generation named) c.self.view_is)
    (ap (λ (s : ConfinedState). s.edition) c.self.view_is)

pub invariant_of-self : goal.invariant_of-self
invariant_of-self g c =
    let v : Opening = g.N.ServiceParameters.opening in
    let b : DriverState = g.D.BlockDriver.state c.args.driver.now in
    let m : MediaState = c.self.inside.media in
    let m' : MediaState = c.step_into-stepped.new.media in
    let units : List Bool = c.self.inside.written in
    let units' : List Bool = c.mark_written.new.written in
    let marks : c.mark_sector.new.marks ≡ marked_for b.in_work c.self.inside.marks =
    c.mark_sector.ensures ∙ ap (λ (o : Option ℕ). marked_for o c.self.inside.marks) c.in_work-sector.ensures.value in
    let written : units' ≡ written_for v.first b.in_work units =
    named_unit v _ _ b.in_work units units' c.mark_written.ensures c.self.invariant.0 c.in_work-sector.ensures.value in
    let writes : c.may_write-writes.result ≡ may_write m c.args.generation b.in_work =
    c.may_write-writes.ensures ∙ ap (λ (o : Option ℕ). may_write m c.args.generation o) c.in_work-sector.ensures.value in
    let stays : StaysInVolume v b = c.admits.ensures.0 c.if-not-admits.false in
    let long : length units ≡ (v.count + 7) / 8 = c.self.invariant.4 in (
      c.self.invariant.0,
      c.self.invariant.1,
      keeps_stepped v b units units' m _ _ _ m' stays written long c.step_into-stepped.ensures.keeps c.self.invariant.2,
      long_after b m _ _ _ m' c.self.inside.marks _ c.step_into-stepped.ensures.keeps c.self.invariant.3 marks,
      long_written v b.in_work units units' written long,
      known_stepped g.N.ServiceParameters.table _ c.self.inside.edition c.end_edition.new.edition b m _ _ _ m' writes c.end_edition.ensures
          c.step_into-stepped.ensures.keeps c.self.invariant.5,
    )
