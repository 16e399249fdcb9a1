-- Symlink keeps a tree a tree.
use Rattle.std.proofs.Common.{◌+◌, refl, sym, ap, arith}
use Rattle.tree.specs.declared.Call.TheVariants.{Symlink}
use Rattle.tree.specs.Changes.{new_link}
use Rattle.tree.specs.Answers.{done}
use Rattle.tree.specs.Effects.{user_of}
use Rattle.tree.specs.Keeps.{SymlinkKeeps}
use Rattle.tree.proofs.Shapes.{kind_of, links_of}
use Rattle.tree.proofs.NewPlaces.{new_place}
use Rattle.tree.proofs.Linked.{linked}
use Rattle.tree.proofs.Symlinks.{with_new_link, symlink_each}
use Rattle.tree.proofs.Targets.{link_fits}
use Rattle.tree.proofs.Keeping.{Keeps, keeps_closed, in_session, taken_if_it_fits}

-- symlink
pub symlink_keeps : SymlinkKeeps
symlink_keeps g t who now target path is caller small are_bytes bytes tree = in_session g t who now (Symlink target path) tree (λ _.
    symlink_each g t (user_of who) now (Keeps g t) (keeps_closed g t tree) target.now path (λ _. tree) (λ n place made.
    let at = new_place t (user_of who) path made.asked.parts place bytes made.asked.read made.asked.walked made.asked.free in
    let free = made.inode in
    taken_if_it_fits g t done (with_new_link t (user_of who) now target.now place n) tree (λ fits.
    (linked g is t tree now small place at.at at.free at.is_named n free.from free.to (ap kind_of free.nothing)
    (new_link now (user_of who) target.now) refl
    (link_fits target.now made.asked.some made.asked.few g is are_bytes made.asked.clean (user_of who) now caller.uid caller.gid small)
    (ap (λ o. links_of o + 1) (sym free.nothing)) (omega arith) fits).is_tree)))
