-- With version 3's form these definitions are those of version 3 volumes.
use Rattle.std.specs.Prelude.{◌≡◌, ◌↔◌}
use Rattle.layout.specs.declared.Geometry.{Geometry}
use Rattle.tree.specs.Tree.{Tree}
use Rattle.volume.specs.Pieces.{Pieces}
use Rattle.volume.specs.Nodes as nodes_3
use Rattle.volume.specs.Holds as holds_3
use Rattle.volume.specs.Verdict as verdict_3
use Rattle.fsck.specs.Form.{version_3}
use Rattle.fsck.specs.Nodes.{nodes_of}
use Rattle.migrate.specs.Holds.{HoldsNodes}
use Rattle.fsck.specs.Verdict.{tests, verdict_of_pieces}

-- the nodes are the same, a tree is held exactly where it is, and the findings and the verdict are the same
pub record IsVersion3s (g : Geometry) (v : Pieces) : Type 0 where
  pub nodes : nodes_of version_3 g v ≡ nodes_3.nodes_of g v
  pub tests : tests version_3 g v ≡ verdict_3.tests g v
  pub verdict : verdict_of_pieces version_3 g v ≡ verdict_3.verdict_of_pieces g v
  pub holds : (t : Tree) → HoldsNodes version_3 g v t ↔ holds_3.HoldsNodes g v t

-- of every volume
abbrev pub OneDefinition : Type 0
OneDefinition = (g : Geometry) (v : Pieces) → IsVersion3s g v
