use Rattle.std.proofs.Common.{◌∙◌, ap, refl}
use Rattle.std.specs.Str.{bytes_eq}
use Rattle.image_file.proofs.Comparing.{whole_unit}
use Rattle.image_file.proofs.differing.has_bytes.Goals as goal

pub returns-in-Some : goal.returns-in-Some
returns-in-Some c =
    let chunk = c.in-Some.ensures.cases in
    let image = c.args.image.now in
    let unit = c.in-Some.unit.now in
    let is = whole_unit image _ unit c.args.n c.min-first.result c.min-first.ensures refl chunk.enough chunk.same in
    c.is_same.ensures ∙ ap (bytes_eq c.args.held.now) is
