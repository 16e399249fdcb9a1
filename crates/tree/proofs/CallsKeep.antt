-- Link, mkdir and rmdir keep a tree a tree.
use Rattle.std.proofs.Common.{◌<◌, ◌+◌, sym, ap, subst, ◌∙◌, arith}
use Rattle.std.specs.Prelude.{Some, is_some}
use Rattle.tree.specs.declared.Call.TheVariants.{Link, Mkdir, Rmdir}
use Rattle.tree.specs.Tree.{with_node, on_node}
use Rattle.tree.specs.Changes.{with_ctime, more_links, new_node, empty_directory}
use Rattle.tree.specs.Answers.{done}
use Rattle.tree.specs.NameCalls.{with_entry}
use Rattle.tree.specs.Effects.{user_of}
use Rattle.tree.specs.Keeps.{LinkKeeps, MkdirKeeps, RmdirKeeps}
use Rattle.tree.proofs.Places.{is_place}
use Rattle.tree.proofs.Keeping.{Keeps, keeps_closed, in_session, taken_if_it_fits}
use Rattle.tree.proofs.Shapes.{kind_of, links_of}
use Rattle.tree.proofs.NameOutcomes.{link_each, mkdir_each, rmdir_each}
use Rattle.tree.proofs.NewPlaces.{new_place}
use Rattle.tree.proofs.Linked.{linked}
use Rattle.tree.proofs.Made.{made_is_tree}
use Rattle.tree.proofs.Gone.{empty_weighs, gone_is_tree}

-- link
pub link_keeps : LinkKeeps
link_keeps g t who now old new is small bytes tree = in_session g t who now (Link old new) tree (λ _.
    link_each g t (user_of who) now (Keeps g t) (keeps_closed g t tree) old new (λ n node place made.
    let at = new_place t (user_of who) new made.parts place bytes made.read made.walked made.free in
    let inside = tree.nodes.inside n (ap is_some made.there) in
    let fit = tree.nodes.each n node made.there in
    let few = made.few in
    taken_if_it_fits g t done (with_entry (with_node t n (Some (with_ctime now (more_links 1 node)))) now place n) tree (λ fits.
    (linked g is t tree now small place at.at at.free at.is_named n inside.0 inside.1 (ap kind_of made.there ∙ made.file)
    (with_ctime now (more_links 1 node)) made.file
    (record {
      permissions = fit.permissions;
      links = omega arith;
      uid = fit.uid;
      gid = fit.gid;
      atime = fit.atime;
      mtime = fit.mtime;
      ctime = small;
      body = fit.body;
      target = fit.target;
    })
    (ap (λ o. links_of o + 1) (sym made.there)) (omega (arith, few)) fits).is_tree)))

-- mkdir
pub mkdir_keeps : MkdirKeeps
mkdir_keeps g t who now path mode is caller small bytes tree = in_session g t who now (Mkdir path mode) tree (λ _.
    mkdir_each g t (user_of who) now (Keeps g t) (keeps_closed g t tree) path mode (λ _. tree) (λ n place parent made.
    let at = new_place t (user_of who) path made.parts place bytes made.read made.walked made.free in
    taken_if_it_fits g t done
    (on_node (with_entry (with_node t n (Some (new_node now (user_of who) mode 2 (empty_directory place.directory)))) now place n) place.directory (more_links 1)) tree (λ fits.
    made_is_tree g is t tree now small (user_of who) caller.uid caller.gid mode made.fits place at n made.inode
    (subst (λ o. links_of o < 32767) (sym made.parent) made.few) fits)))

-- rmdir
pub rmdir_keeps : RmdirKeeps
rmdir_keeps g t who now path small tree = in_session g t who now (Rmdir path) tree (λ _.
    rmdir_each g t (user_of who) now (Keeps g t) (keeps_closed g t tree) path (λ n node place gone.
    gone_is_tree g t tree now small place (is_place t (user_of who) gone.parts place gone.walked) n gone.found
    (ap kind_of gone.there ∙ gone.directory) (empty_weighs t n node gone.there gone.empty) gone.closed))
