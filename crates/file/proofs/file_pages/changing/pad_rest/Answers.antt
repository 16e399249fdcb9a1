use Rattle.std.proofs.Common.{rules, ◌≢◌, ◌-◌, ◌/◌, ◌%◌, ◌∙◌, refl, sym}
use Rattle.volume.specs.Pieces.{pieces}
use Rattle.block_store.proofs.Turns.{turns_as, reads_then, ends_as}
use Rattle.block_store.proofs.Ending.{turns_three}
use Rattle.file.proofs.Rest.{pads_none, padded_even, padded_hole, part_zero, rest_padded, rest_may}
use Rattle.file.proofs.file_pages.changing.pad_rest.Goals as goal

pub returns-then-from-eq0-clause-turns : goal.returns-then-from-eq0-clause-turns
returns-then-from-eq0-clause-turns g c =
    let a = c.args in
    turns_as _ _ _ _ _
    (λ d e p. pads_none a.geometry.now d e a.number p.0 (λ may. padded_even a.geometry.now (pieces a.geometry.now d) a.number may c.in_ok-inode.inode p.1 c.if-from-eq0.true))
    c.in_ok-inode.ensures.reads.turns

pub returns-then-zone-eq0-clause-turns : goal.returns-then-zone-eq0-clause-turns
returns-then-zone-eq0-clause-turns g c =
    let a = c.args in
    turns_as _ _ _ _ _
    (λ d e p. pads_none a.geometry.now d e a.number p.0 (λ may. padded_hole a.geometry.now (pieces a.geometry.now d) a.number may c.in_ok-inode.inode p.1.0 (sym p.1.1 ∙ c.if-zone-eq0.true)))
    (reads_then _ g.met.B.Blocks.lawful _ _ _ _ _ (λ d. _ × _) (λ d p q. (p, q)) c.in_ok-inode.ensures.reads c.in_ok-zone.ensures.reads).turns

pub returns-clause-turns : goal.returns-clause-turns
returns-clause-turns g c =
    let a = c.args in
    let v = a.geometry.now in
    let page = c.in_ok-inode.inode.size / v.block_size in
    let some : c.in_ok-zone.zone ≢ 0 = search rules in
    turns_three _ g.met.B.Blocks.lawful _ _ _ _ _ _ _ _
    (λ d x y f p q r. ends_as c.write_page.result _ _ _ _
    (λ u h. rest_padded v d x y a.number c.in_ok-zone.zone page c.in_ok-inode.inode p.0 p.1 q.0 q.1 some f _ _ refl refl (search rules) (λ k low. part_zero 4096 (v.block_size - c.in_ok-inode.inode.size % v.block_size) (c.in_ok-inode.inode.size % v.block_size) k) (h a.number page))
    (λ may. rest_may v d x y a.number c.in_ok-zone.zone page c.in_ok-inode.inode p.0 p.1 q.0 q.1 some may) r)
    c.in_ok-inode.ensures.reads.turns c.in_ok-zone.ensures.reads.turns c.write_page.ensures.turns
