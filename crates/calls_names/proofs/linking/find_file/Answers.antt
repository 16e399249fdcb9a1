use Rattle.std.proofs.Common.{◌≡◌, ◌<◌, ◌≤◌, ◌∙◌, true, false, rules, sym, subst}
use Rattle.tree.specs.Tree.{most_links}
use Rattle.volume.specs.Nodes.{is_directory_mode}
use Rattle.block_store.proofs.Turns.{reads_as, reads_then}
use Rattle.block_store.proofs.Ending.{ends_exit}
use Rattle.calls_attributes.specs.Named.{LeadsTo}
use Rattle.calls_names.proofs.LinkPaths.{file_found, file_has_links, file_is_directory, file_not_walked, number_of_file, volume_named}
use Rattle.calls_names.proofs.linking.find_file.Goals as goal

pub returns-in_err-number-clause-reads : goal.returns-in_err-number-clause-reads
returns-in_err-number-clause-reads g c =
    let v = c.args.geometry.now in
    reads_as _ _ _ _ _ (λ d p. ends_exit _ _ _ _ _ _ c.from_residual.ensures.1 (volume_named v d) p) c.in_err-number.ensures.reads

pub returns-in-Err-clause-reads : goal.returns-in-Err-clause-reads
returns-in-Err-clause-reads g c =
    let a = c.args in
    let v = a.geometry.now in
    reads_as _ _ _ _ _
    (λ d p. file_not_walked v d a.user a.path.now c.in-Err.errno (subst (λ r. LeadsTo v d a.user a.path.now r) c.in-Err.is p))
    c.in_ok-number.ensures.reads

pub returns-in_err-inode-clause-reads : goal.returns-in_err-inode-clause-reads
returns-in_err-inode-clause-reads g c =
    let a = c.args in
    let v = a.geometry.now in
    reads_then _ g.met.B.Blocks.lawful _ _ _ _ _ _
    (λ d p q. ends_exit _ _ _ _ _ _ c.from_residual-in_err-inode.ensures.1
    (λ x. number_of_file v d a.user a.path.now c.in-Ok.number (subst (λ r. LeadsTo v d a.user a.path.now r) c.in-Ok.is p) x) q)
    c.in_ok-number.ensures.reads c.in_err-inode.ensures.reads

pub returns-then-is_directory-clause-reads : goal.returns-then-is_directory-clause-reads
returns-then-is_directory-clause-reads g c =
    let a = c.args in
    let v = a.geometry.now in
    let mode : is_directory_mode c.in_ok-inode.inode.mode ≡ true = sym c.is_directory.ensures ∙ c.if-is_directory.true in
    reads_then _ g.met.B.Blocks.lawful _ _ _ _ _ _
    (λ d p q. file_is_directory v d a.user a.path.now c.in-Ok.number (subst (λ r. LeadsTo v d a.user a.path.now r) c.in-Ok.is p)
    c.in_ok-inode.inode q mode)
    c.in_ok-number.ensures.reads c.in_ok-inode.ensures.reads

pub returns-then-inode-ge-MAX_LINKS-clause-reads : goal.returns-then-inode-ge-MAX_LINKS-clause-reads
returns-then-inode-ge-MAX_LINKS-clause-reads g c =
    let a = c.args in
    let v = a.geometry.now in
    let mode : is_directory_mode c.in_ok-inode.inode.mode ≡ false = sym c.is_directory.ensures ∙ c.if-is_directory.false in
    let many : most_links ≤ c.in_ok-inode.inode.links = search rules in
    reads_then _ g.met.B.Blocks.lawful _ _ _ _ _ _
    (λ d p q. file_has_links v d a.user a.path.now c.in-Ok.number (subst (λ r. LeadsTo v d a.user a.path.now r) c.in-Ok.is p)
    c.in_ok-inode.inode q mode many)
    c.in_ok-number.ensures.reads c.in_ok-inode.ensures.reads

pub returns-clause-reads : goal.returns-clause-reads
returns-clause-reads g c =
    let a = c.args in
    let v = a.geometry.now in
    let mode : is_directory_mode c.in_ok-inode.inode.mode ≡ false = sym c.is_directory.ensures ∙ c.if-is_directory.false in
    let few : c.in_ok-inode.inode.links < most_links = search rules in
    reads_then _ g.met.B.Blocks.lawful _ _ _ _ _ _
    (λ d p q. file_found v d a.user a.path.now c.in-Ok.number (subst (λ r. LeadsTo v d a.user a.path.now r) c.in-Ok.is p)
    c.in_ok-inode.inode q mode few)
    c.in_ok-number.ensures.reads c.in_ok-inode.ensures.reads
