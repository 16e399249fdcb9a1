use Rattle.volume.specs.Findings.{has_bad_link}
use Rattle.fsck.specs.Findings.{is_misplaced, has_bad_links}
use Rattle.volume.specs.Verdict.{place_limit}
use Rattle.image.specs.Contents.{contents}
use Rattle.fsck.proofs.Firsts.{first_none, first_here, first_later}
use Rattle.fsck.proofs.names.tree_with.Goals as goal
use Rattle.fsck.specs.Form.{form_of}

pub returns-in-Some : goal.returns-in-Some
returns-in-Some c =
    let form = form_of c.args.version in
    let g = c.args.image.now.geometry in
    let v = contents c.args.image.now in
    let l = place_limit g in
    first_here l 15 c.in-Some.place (is_misplaced form g v) _ (c.in-Some.ensures)

pub returns-in-Some-bad_links : goal.returns-in-Some-bad_links
returns-in-Some-bad_links c =
    let form = form_of c.args.version in
    let g = c.args.image.now.geometry in
    let v = contents c.args.image.now in
    let l = place_limit g in
    first_later l 15 (is_misplaced form g v) _ _ (c.in_default.ensures)
    (first_here l 16 c.in-Some-bad_links.place (has_bad_links form g v) _ (c.in-Some-bad_links.ensures))

pub returns-in-Some-bad_link : goal.returns-in-Some-bad_link
returns-in-Some-bad_link c =
    let form = form_of c.args.version in
    let g = c.args.image.now.geometry in
    let v = contents c.args.image.now in
    let l = place_limit g in
    first_later l 15 (is_misplaced form g v) _ _ (c.in_default.ensures) (first_later l 16 (has_bad_links form g v) _ _
    (c.in_default-bad_links.ensures)
    (first_here l 17 c.in-Some-bad_link.place (has_bad_link g v) _ (c.in-Some-bad_link.ensures)))

pub returns : goal.returns
returns c =
    let form = form_of c.args.version in
    let g = c.args.image.now.geometry in
    let v = contents c.args.image.now in
    let l = place_limit g in
    first_later l 15 (is_misplaced form g v) _ _ (c.in_default.ensures) (first_later l 16 (has_bad_links form g v) _ _
    (c.in_default-bad_links.ensures)
    (first_later l 17 (has_bad_link g v) _ _ (c.in_default-bad_link.ensures) (first_none l 18)))
