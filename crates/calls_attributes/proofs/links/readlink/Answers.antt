use Rattle.std.proofs.Common.{◌≡◌, sym, subst, ◌∙◌, true}
use Rattle.volume.specs.Reading.{Disk}
use Rattle.volume.specs.Nodes.{file_of, is_link_mode}
use Rattle.volume.specs.Pieces.{pieces}
use Rattle.file.specs.Reading.{HasFileBytes}
use Rattle.block_store.proofs.Turns.{turns_as, turns_then}
use Rattle.calls_attributes.specs.Named.{FindsLast}
use Rattle.calls_attributes.proofs.ReadlinkCall.{readlink_refused, readlink_plain, readlink_done}
use Rattle.calls_attributes.proofs.links.readlink.Goals as goal

pub returns-then-not-is_link-clause-turns : goal.returns-then-not-is_link-clause-turns
returns-then-not-is_link-clause-turns g c =
    let a = c.args in
    let v = a.geometry.now in
    turns_as _ _ _ _ _
    (λ d e p f. readlink_plain v a.user a.path d c.in-Ok.field-0-0 c.in-Ok.inode
    (subst (λ r. FindsLast v d a.user a.path r) c.in-Ok.is p.1) e f p.0 (sym c.is_link.ensures ∙ c.if-not-is_link.true))
    c.in_ok-inode.ensures.reads.turns

pub returns-in_ok-target-in-Ok-clause-turns : goal.returns-in_ok-target-in-Ok-clause-turns
returns-in_ok-target-in-Ok-clause-turns g c =
    let a = c.args in
    let v = a.geometry.now in
    let i = c.in-Ok.inode in
    let x = c.in_ok-target-in-Ok.field-0 in
    let mode : is_link_mode i.mode ≡ true = sym c.is_link.ensures ∙ c.if-not-is_link.false in
    turns_then _ g.met.B.Blocks.lawful _ _ _ _ _ _
    (λ d e h p q f. readlink_done v a.user a.path d c.in-Ok.field-0-0 i (subst (λ r. FindsLast v d a.user a.path r) c.in-Ok.is p.1)
    h f x (q.0 ∙ p.0) mode c.in_ok-target-in-Ok.ensures.count c.in_ok-target-in-Ok.ensures.room
    (subst (λ (z : Disk). HasFileBytes (file_of v (pieces v z) i) 0 x.length x.bytes) p.0 q.1))
    c.in_ok-inode.ensures.reads.turns c.in_ok-target-in-Ok.ensures.reads.turns

pub returns-in-Err-clause-turns : goal.returns-in-Err-clause-turns
returns-in-Err-clause-turns g c =
    let a = c.args in
    let v = a.geometry.now in
    turns_as _ _ _ _ _
    (λ d e p f. readlink_refused v a.user a.path d e c.in-Err.errno f p.0
    (subst (λ r. FindsLast v d a.user a.path r) c.in-Err.is p.1))
    c.in_ok-inode.ensures.reads.turns
