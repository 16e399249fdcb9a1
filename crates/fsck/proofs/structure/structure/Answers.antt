use Rattle.volume.specs.Findings.{lacks_inode_bit, lacks_zone_bit, lacks_root, has_bad_mode}
use Rattle.fsck.specs.Findings.{has_bad_size}
use Rattle.volume.specs.Verdict.{place_limit}
use Rattle.image.specs.Contents.{contents}
use Rattle.fsck.proofs.Firsts.{first_none, first_here, first_later}
use Rattle.fsck.proofs.structure.structure.Goals as goal
use Rattle.fsck.specs.Form.{form_of}

pub returns-in-Some : goal.returns-in-Some
returns-in-Some c =
    let g = c.args.image.now.geometry in
    let v = contents c.args.image.now in
    let l = place_limit g in
    first_here l 2 c.in-Some.place (lacks_inode_bit g v) _ (c.in-Some.ensures)

pub returns-in-Some-zone_bit : goal.returns-in-Some-zone_bit
returns-in-Some-zone_bit c =
    let g = c.args.image.now.geometry in
    let v = contents c.args.image.now in
    let l = place_limit g in
    first_later l 2 (lacks_inode_bit g v) _ _ (c.in_default.ensures)
    (first_here l 3 c.in-Some-zone_bit.place (lacks_zone_bit g v) _ (c.in-Some-zone_bit.ensures))

pub returns-in-Some-root : goal.returns-in-Some-root
returns-in-Some-root c =
    let g = c.args.image.now.geometry in
    let v = contents c.args.image.now in
    let l = place_limit g in
    first_later l 2 (lacks_inode_bit g v) _ _ (c.in_default.ensures)
    (first_later l 3 (lacks_zone_bit g v) _ _ (c.in_default-zone_bit.ensures)
    (first_here l 4 c.in-Some-root.place (lacks_root g v) _ (c.in-Some-root.ensures)))

pub returns-in-Some-bad_mode : goal.returns-in-Some-bad_mode
returns-in-Some-bad_mode c =
    let g = c.args.image.now.geometry in
    let v = contents c.args.image.now in
    let l = place_limit g in
    first_later l 2 (lacks_inode_bit g v) _ _ (c.in_default.ensures)
    (first_later l 3 (lacks_zone_bit g v) _ _ (c.in_default-zone_bit.ensures)
    (first_later l 4 (lacks_root g v) _ _ (c.in_default-root.ensures)
    (first_here l 5 c.in-Some-bad_mode.place (has_bad_mode g v) _ (c.in-Some-bad_mode.ensures))))

pub returns-in-Some-bad_size : goal.returns-in-Some-bad_size
returns-in-Some-bad_size c =
    let form = form_of c.args.version in
    let g = c.args.image.now.geometry in
    let v = contents c.args.image.now in
    let l = place_limit g in
    first_later l 2 (lacks_inode_bit g v) _ _ (c.in_default.ensures)
    (first_later l 3 (lacks_zone_bit g v) _ _ (c.in_default-zone_bit.ensures)
    (first_later l 4 (lacks_root g v) _ _ (c.in_default-root.ensures)
    (first_later l 5 (has_bad_mode g v) _ _ (c.in_default-bad_mode.ensures)
    (first_here l 6 c.in-Some-bad_size.place (has_bad_size form g v) _ (c.in-Some-bad_size.ensures)))))

pub returns : goal.returns
returns c =
    let form = form_of c.args.version in
    let g = c.args.image.now.geometry in
    let v = contents c.args.image.now in
    let l = place_limit g in
    first_later l 2 (lacks_inode_bit g v) _ _ (c.in_default.ensures)
    (first_later l 3 (lacks_zone_bit g v) _ _ (c.in_default-zone_bit.ensures)
    (first_later l 4 (lacks_root g v) _ _ (c.in_default-root.ensures)
    (first_later l 5 (has_bad_mode g v) _ _ (c.in_default-bad_mode.ensures)
    (first_later l 6 (has_bad_size form g v) _ _ (c.in_default-bad_size.ensures)
    (first_none l 7)))))
