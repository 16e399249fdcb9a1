use Rattle.std.proofs.Common.{sym, ◌∙◌}
use Rattle.fsck.specs.Findings.{has_bad_dots, has_bad_entry, has_bad_target}
use Rattle.volume.specs.Verdict.{place_limit}
use Rattle.image.specs.Contents.{contents}
use Rattle.fsck.proofs.Firsts.{first_none, first_here, first_later}
use Rattle.fsck.proofs.names.entries.Goals as goal
use Rattle.fsck.specs.Form.{form_of}

pub returns-in-Some : goal.returns-in-Some
returns-in-Some c =
    let form = form_of c.args.version in
    let g = c.args.image.now.geometry in
    let v = contents c.args.image.now in
    let l = place_limit g in
    first_here l 12 c.in-Some.place (has_bad_dots form g v) _ (c.in-Some.ensures)

pub returns-in-Some-2 : goal.returns-in-Some-2
returns-in-Some-2 c =
    let form = form_of c.args.version in
    let g = c.args.image.now.geometry in
    let v = contents c.args.image.now in
    let l = place_limit g in
    first_later l 12 (has_bad_dots form g v) _ _ (c.in_default.ensures)
    (first_here l 13 c.in-Some-2.place (has_bad_entry form g v) _ (sym c.in-Some-2.is ∙ c.in_ok-place.ensures))

pub returns-in-Some-bad_target : goal.returns-in-Some-bad_target
returns-in-Some-bad_target c =
    let form = form_of c.args.version in
    let g = c.args.image.now.geometry in
    let v = contents c.args.image.now in
    let l = place_limit g in
    first_later l 12 (has_bad_dots form g v) _ _ (c.in_default.ensures)
    (first_later l 13 (has_bad_entry form g v) _ _ (sym c.in_default-2.is ∙ c.in_ok-place.ensures)
    (first_here l 14 c.in-Some-bad_target.place (has_bad_target form g v) _ (c.in-Some-bad_target.ensures)))

pub returns : goal.returns
returns c =
    let form = form_of c.args.version in
    let g = c.args.image.now.geometry in
    let v = contents c.args.image.now in
    let l = place_limit g in
    first_later l 12 (has_bad_dots form g v) _ _ (c.in_default.ensures)
    (first_later l 13 (has_bad_entry form g v) _ _ (sym c.in_default-2.is ∙ c.in_ok-place.ensures)
    (first_later l 14 (has_bad_target form g v) _ _ (c.in_default-bad_target.ensures)
    (first_none l 15)))
