use Rattle.std.proofs.Common.{ap, subst, sym}
use Rattle.std.proofs.lemmas.Bool.{eq-eqb, eqb-true}
use Rattle.fsck.specs.Shown.{shown}
use Rattle.release.specs.Released.{IsFoundBy}
use Rattle.release.proofs.Verdicts.{is_found, number_is}
use Rattle.release.proofs.judging.is_found_by_links.Goals as goal

pub returns-in-Found : goal.returns-in-Found
returns-in-Found c =
    let f = c.in-Found.finding in (
      λ is. subst IsFoundBy (sym (ap shown c.in-Found.is)) (is_found f (eqb-true f.number 16 is)),
      λ found. eq-eqb f.number 16 (number_is f (subst IsFoundBy (ap shown c.in-Found.is) found)),
    )
