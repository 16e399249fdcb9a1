use Rattle.std.proofs.Common.{◌∙◌, ap, sym}
use Rattle.tree.specs.declared.Start.TheVariants.{Inode}
use Rattle.block_store.proofs.Turns.{reads_as, reads_none}
use Rattle.path.proofs.Beginning.{of_another, of_free, of_marked}
use Rattle.path.proofs.first.first_node.Goals as goal

pub returns-then-user-ne0-clause-reads : goal.returns-then-user-ne0-clause-reads
returns-then-user-ne0-clause-reads g c =
    reads_none _ g.met.B.Blocks.lawful _ _ c.requires.on.ready
    (λ d t holds. of_another t c.args.user c.args.start c.in-Inode.number c.in-Inode.is c.if-user-ne0.true)

pub returns-then-not-marked-clause-reads : goal.returns-then-not-marked-clause-reads
returns-then-not-marked-clause-reads g c =
    let a = c.args in
    reads_as _ _ _ _ _
    (λ d p t holds. of_free a.geometry.now d t a.user a.start c.from-number.result holds
    (c.in-Inode.is ∙ ap (λ n. Inode n) (sym c.from-number.ensures)) c.if-user-ne0.false (sym p ∙ c.if-not-marked.true))
    c.in_ok-marked.ensures.reads

pub returns-clause-reads : goal.returns-clause-reads
returns-clause-reads g c =
    let a = c.args in
    reads_as _ _ _ _ _
    (λ d p t holds. of_marked a.geometry.now d t a.user a.start c.from-number.result holds
    (c.in-Inode.is ∙ ap (λ n. Inode n) (sym c.from-number.ensures)) c.if-user-ne0.false (sym p ∙ c.if-not-marked.false))
    c.in_ok-marked.ensures.reads
