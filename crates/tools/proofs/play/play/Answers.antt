use Rattle.std.proofs.Common.{inr, refl}
use Rattle.tools.specs.declared.play.ImageLeft.{ImageLeft}
use Rattle.tools.proofs.play.play.Goals as goal

pub returns-clause-whole : goal.returns-clause-whole
returns-clause-whole g c = λ whole.
    let shown = c.show-status.ensures.whole whole in
    let came = c.in-Ok.came in
    let left : ImageLeft = record { last_sync = came.last_sync; bytes = came.image } in
    ((came.sessions.items, left, c.in-Ok.ensures.played, shown.0, shown.1, refl), shown.2)

pub returns-clause-refused : goal.returns-clause-refused
returns-clause-refused g c = λ told is.
    let cut = c.show-status.ensures.refused told is in
    let came = c.in-Ok.came in
    let left : ImageLeft = record { last_sync = came.last_sync; bytes = came.image } in
    (cut.0, cut.1, inr (cut.2, (_, (came.sessions.items, left, c.in-Ok.ensures.played, refl, cut.3, refl))))
