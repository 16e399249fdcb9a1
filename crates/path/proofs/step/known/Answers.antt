use Rattle.std.proofs.Common.{◌∙◌, sym}
use Rattle.block_store.proofs.Turns.{reads_as, reads_none}
use Rattle.directory.proofs.Known.{known_leads}
use Rattle.volume.specs.Pieces.{pieces}
use Rattle.path.proofs.step.known.Goals as goal

pub returns-in_default-clause-reads : goal.returns-in_default-clause-reads
returns-in_default-clause-reads g c = reads_none _ g.met.B.Blocks.lawful _ _ c.requires.on.ready (λ d directory. tt)

pub returns-clause-reads : goal.returns-clause-reads
returns-clause-reads g c =
    let a = c.args in
    reads_as _ _ _ _ _
    (λ d p directory. known_leads a.geometry.now (pieces a.geometry.now d) a.here a.inode.now a.name.now c.in-Some.known
    directory.sound directory.loaded (sym p ∙ c.if-not-stands.false))
    c.in_ok-stands.ensures.reads
