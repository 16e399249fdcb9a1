use Rattle.std.proofs.Common.{◌∙◌, sym, refl}
use Rattle.volume.specs.Nodes.{node_of}
use Rattle.volume.specs.Pieces.{pieces}
use Rattle.block_store.proofs.Turns.{reads_as}
use Rattle.path.proofs.Entering.{is_held, of_a_file, of_a_closed, of_an_open}
use Rattle.path.proofs.step.enter.Goals as goal

pub returns-then-not-is_directory-clause-reads : goal.returns-then-not-is_directory-clause-reads
returns-then-not-is_directory-clause-reads g c =
    let a = c.args in
    let i = c.in_ok-inode.inode in
    reads_as _ _ _ _ _
    (λ d p t holds there. of_a_file a.geometry.now d t a.user a.here i (is_held a.geometry.now d t a.here i holds there p) (sym c.is_directory.ensures ∙ c.if-not-is_directory.true))
    c.in_ok-inode.ensures.reads

pub returns-then-not-may-clause-reads : goal.returns-then-not-may-clause-reads
returns-then-not-may-clause-reads g c =
    let a = c.args in
    let i = c.in_ok-inode.inode in
    reads_as _ _ _ _ _
    (λ d p t holds there. of_a_closed a.geometry.now d t a.user a.here i (is_held a.geometry.now d t a.here i holds there p) (sym c.is_directory.ensures ∙ c.if-not-is_directory.false)
    (sym (c.may.ensures (node_of a.geometry.now (pieces a.geometry.now d) i) (record { permissions_are = sym c.permissions.ensures; owner = refl; group = refl })) ∙ c.if-not-may.true))
    c.in_ok-inode.ensures.reads

pub returns-clause-reads : goal.returns-clause-reads
returns-clause-reads g c =
    let a = c.args in
    let i = c.in_ok-inode.inode in
    reads_as _ _ _ _ _
    (λ d p t holds there. of_an_open a.geometry.now d t a.user a.here i (is_held a.geometry.now d t a.here i holds there p) (sym c.is_directory.ensures ∙ c.if-not-is_directory.false)
    (sym (c.may.ensures (node_of a.geometry.now (pieces a.geometry.now d) i) (record { permissions_are = sym c.permissions.ensures; owner = refl; group = refl })) ∙ c.if-not-may.false))
    c.in_ok-inode.ensures.reads
