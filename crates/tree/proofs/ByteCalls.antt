-- Write and truncate keep a tree a tree.
use Rattle.std.proofs.Common.{◌≡◌, ◌<◌, ◌^◌, ℕ, length, false, refl, sym, ap, subst, ◌∙◌}
use Rattle.lemmas.proofs.Bools.{false_not_true}
use Rattle.std.specs.Prelude.{Some}
use Rattle.layout.specs.declared.Geometry.{Geometry}
use Rattle.tree.specs.declared.Call.TheVariants.{Write, Truncate}
use Rattle.tree.specs.Tree.{File, is_file, Node, Tree, is_dir, names_of, parent_of, with_node}
use Rattle.tree.specs.IsTree.{IsFile, IsBody, IsNode, IsTree}
use Rattle.tree.specs.Changes.{with_body, file_after_write, file_after_resize}
use Rattle.tree.specs.Answers.{wrote}
use Rattle.tree.specs.Effects.{user_of}
use Rattle.tree.specs.Keeps.{WriteKeeps, TruncateKeeps}
use Rattle.tree.proofs.Kept.{kept}
use Rattle.tree.proofs.FileBodies.{written_fits, resized_fits}
use Rattle.tree.proofs.OpenFiles.{position_kept}
use Rattle.tree.proofs.NodeOutcomes.{truncate_each}
use Rattle.tree.proofs.FileOutcomes.{write_each, start, after_write}
use Rattle.tree.proofs.Keeping.{Keeps, keeps_closed, in_session, taken_if_it_fits}

-- the file that a node is fits
pub file_fits : (g : Geometry) (node : Node) (f : File) → IsNode g node → node.body ≡ is_file f → IsFile g f
file_fits g node f fits is = subst (λ b. IsBody g b) is fits.body

-- a file with another file in its place
pub file_changed : (g : Geometry) (t : Tree) (n now : ℕ) (node : Node) (f new : File) → now < 2 ^ 32 → t.nodes n ≡ Some node
    → node.body ≡ is_file f → node.symbolic ≡ false
    → IsFile g new → IsTree g t → IsTree g (with_node t n (Some (with_body now (is_file new) node)))
file_changed g t n now node f new small there is no_link fits tree =
    let old = tree.nodes.each n node there in
    kept g t n node (with_body now (is_file new) node) there
    (ap (λ b. is_dir (record node { body = b })) (sym is))
    (ap (λ b. names_of (Some (record node { body = b }))) (sym is))
    (ap (λ b. parent_of (Some (record node { body = b }))) (sym is))
    refl
    (record {
      permissions = old.permissions;
      links = old.links;
      uid = old.uid;
      gid = old.gid;
      atime = old.atime;
      mtime = small;
      ctime = small;
      body = fits;
      target = λ h. absurd (false_not_true (sym no_link ∙ h));
    })
    tree

-- truncate
pub truncate_keeps : TruncateKeeps
truncate_keeps g t who now size path small tree = in_session g t who now (Truncate path size) tree (λ _.
    truncate_each t (user_of who) now (Keeps g t) (keeps_closed g t tree) g path size (λ n node f within there is no_link.
    file_changed g t n now node f (file_after_resize g f size) small there is no_link
    (resized_fits g f size within (file_fits g node f (tree.nodes.each n node there) is)) tree))

-- write
pub write_keeps : WriteKeeps
write_keeps g t who now fd bytes some small are_bytes tree = in_session g t who now (Write fd bytes) tree (λ _.
    write_each t who.session (Keeps g t) (keeps_closed g t tree) g now fd bytes.now (λ _ _ _ _ _. tree) (λ found node f is no_link _ fits.
    let at = start t who.session (Keeps g t) (keeps_closed g t tree) found.1 f in
    let new = file_after_write g f at bytes.now in
    taken_if_it_fits g t (wrote (length bytes.now)) (after_write t who.session (Keeps g t) (keeps_closed g t tree) g now found node f bytes.now) tree (λ _.
    position_kept g (with_node t found.1.inode (Some (with_body now (is_file new) node))) found.0 found.1 _ is.opened.file fits
    (file_changed g t found.1.inode now node f new small is.there is.file no_link
    (written_fits g f at bytes.now some fits are_bytes (file_fits g node f (tree.nodes.each found.1.inode node is.there) is.file)) tree))))
