use Rattle.std.proofs.Common.{◌≡◌, ◌≢◌, ◌≤◌, false, sym, subst, ◌∙◌}
use Rattle.volume.specs.declared.Inode.{Inode}
use Rattle.volume.specs.Reading.{is_data_zone}
use Rattle.volume.specs.Nodes.{page_zone}
use Rattle.image.specs.Contents.{contents}
use Rattle.image.specs.Targets.{IsTarget}
use Rattle.fsck.proofs.Targets.{absent, held}
use Rattle.fsck.proofs.scan.links.has_bad_link.Goals as goal

pub returns-in-Some : goal.returns-in-Some
returns-in-Some c =
    let i = c.args.image.now in
    let inode = c.inode-inode.ensures in
    c.contains.ensures.value
    ∙ held i c.args.n (sym c.is_link.ensures ∙ c.if-not-is_link.false) (subst (λ (x : Inode). x.size ≢ 0) inode c.if-inode-eq0.false)
    (subst (λ (x : Inode). x.size ≤ 1023) inode c.if-inode-gt1023.false) c.in-Some.target.now
    (subst (λ (x : Inode). IsTarget i x c.in-Some.target.now) inode c.in-Some.ensures)

pub returns-in-None : goal.returns-in-None
returns-in-None c =
    let i = c.args.image.now in
    let inode = c.inode-inode.ensures in
    absent i c.args.n (sym c.is_link.ensures ∙ c.if-not-is_link.false) (subst (λ (x : Inode). x.size ≢ 0) inode c.if-inode-eq0.false)
    (subst (λ (x : Inode). is_data_zone i.geometry (page_zone i.geometry (contents i) x 0) ≡ false) inode c.in-None.ensures)
