-- The calls that set attributes keep a tree a tree.
use Rattle.std.proofs.Common.{◌≡◌, ℕ, refl, ap}
use Rattle.std.specs.Prelude.{Some}
use Rattle.layout.specs.declared.Geometry.{Geometry}
use Rattle.tree.specs.declared.Call.TheVariants.{Chmod, Chown, Utime}
use Rattle.tree.specs.Tree.{Node, Tree, is_dir, names_of, parent_of, with_node}
use Rattle.tree.specs.IsTree.{IsNode, IsTree}
use Rattle.tree.specs.Changes.{with_ctime}
use Rattle.tree.specs.Effects.{user_of}
use Rattle.tree.specs.Keeps.{ChmodKeeps, ChownKeeps, UtimeKeeps}
use Rattle.tree.proofs.Kept.{kept}
use Rattle.tree.proofs.NodeOutcomes.{chmod_each, chown_each, utime_each}
use Rattle.tree.proofs.Keeping.{Keeps, keeps_closed, in_session}

-- a node that is the same but for its attributes
same_body : (g : Geometry) (t : Tree) (n : ℕ) (node changed : Node) → IsTree g t → t.nodes n ≡ Some node → changed.body ≡ node.body → changed.links ≡ node.links
    → IsNode g changed → IsTree g (with_node t n (Some changed))
same_body g t n node changed tree there body links fits =
    kept g t n node changed there
    (ap (λ b. is_dir (record node { body = b })) body) (ap (λ b. names_of (Some (record node { body = b }))) body) (ap (λ b. parent_of (Some (record node { body = b }))) body)
    links fits tree

-- chmod
pub chmod_keeps : ChmodKeeps
chmod_keeps g t who now mode path small tree = in_session g t who now (Chmod path mode) tree (λ _.
    chmod_each t (user_of who) now (Keeps g t) (keeps_closed g t tree) path mode (λ fits n node there.
    let old = tree.nodes.each n node there in
    same_body g t n node (with_ctime now (record node { permissions = mode })) tree there refl refl
    (record {
      permissions = fits;
      links = old.links;
      uid = old.uid;
      gid = old.gid;
      atime = old.atime;
      mtime = old.mtime;
      ctime = small;
      body = old.body;
      target = old.target;
    })))

-- chown
pub chown_keeps : ChownKeeps
chown_keeps g t who now uid gid path small u v tree = in_session g t who now (Chown path uid gid) tree (λ _.
    chown_each t (user_of who) now (Keeps g t) (keeps_closed g t tree) path uid gid (λ n node there.
    let old = tree.nodes.each n node there in
    same_body g t n node (with_ctime now (record node { uid = uid; gid = gid })) tree there refl refl
    (record {
      permissions = old.permissions;
      links = old.links;
      uid = u;
      gid = v;
      atime = old.atime;
      mtime = old.mtime;
      ctime = small;
      body = old.body;
      target = old.target;
    })))

-- utime
pub utime_keeps : UtimeKeeps
utime_keeps g t who now atime mtime path small a m tree = in_session g t who now (Utime path atime mtime) tree (λ _.
    utime_each t (user_of who) now (Keeps g t) (keeps_closed g t tree) path atime mtime (λ n node there.
    let old = tree.nodes.each n node there in
    same_body g t n node (with_ctime now (record node { atime = atime; mtime = mtime })) tree there refl refl
    (record {
      permissions = old.permissions;
      links = old.links;
      uid = old.uid;
      gid = old.gid;
      atime = a;
      mtime = m;
      ctime = small;
      body = old.body;
      target = old.target;
    })))
