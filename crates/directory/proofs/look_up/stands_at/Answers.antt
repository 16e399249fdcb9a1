use Rattle.std.proofs.Common.{◌≡◌, ◌∙◌, length, rules}
use Rattle.volume.specs.Pieces.{pieces}
use Rattle.block_store.proofs.Turns.{reads_as, reads_none}
use Rattle.directory.proofs.Known.{stands_before, stands_behind, stands_between}
use Rattle.directory.proofs.look_up.stands_at.Goals as goal
use Rattle.directory.proofs.look_up.stands_at.Goals.{then-known-lt2-via-then-known-lt2, then-known-lt2-via-else-known-lt2+then-known-inode}

pub returns-then-known-lt2-clause-reads : goal.returns-then-known-lt2-clause-reads
returns-then-known-lt2-clause-reads g c =
    let a = c.args in
    reads_none _ g.met.B.Blocks.lawful _ _ c.requires.on.ready (λ d. elim c.then-known-lt2.branch [
      | then-known-lt2-via-then-known-lt2 w ↦
          stands_before a.geometry.now (pieces a.geometry.now d) a.inode.now a.name.now a.known w.if-known-lt2.true
      | then-known-lt2-via-else-known-lt2+then-known-inode w ↦
          stands_behind a.geometry.now (pieces a.geometry.now d) a.inode.now a.name.now a.known w.if-known-inode.true
    ])

pub returns-clause-reads : goal.returns-clause-reads
returns-clause-reads g c =
    let a = c.args in
    let long : length c.in_ok-bytes.bytes ≡ 64 = search rules in
    reads_as _ _ _ _ _
    (λ d p. c.leads_to.ensures ∙ stands_between a.geometry.now (pieces a.geometry.now d) a.inode.now a.name.now a.known c.in_ok-bytes.bytes
    c.if-known-lt2.false c.if-known-inode.false long p)
    c.in_ok-bytes.ensures.reads
