-- What some steps of a call make of the nodes of a tree.
use Rattle.std.specs.Prelude.{Result}
use Rattle.layout.specs.declared.Geometry.{Geometry}
use Rattle.tree.specs.Tree.{Tree}
use Rattle.volume.specs.Reading.{Disk}
use Rattle.block_store.specs.declared.Halt.{Halt}
use Rattle.block_store.specs.Halts.{Ends}
use Rattle.inode_operations.specs.Stands.{Stands}

-- Where the nodes of a tree stand of which this holds, those of the tree that the effect leaves stand then.
pub record Leads (g : Geometry) (May : Tree → Type 0) (effect : Tree → Tree) (d e : Disk) : Type 0 where
  pub each : (c : Disk) (t : Tree) → Stands g c d t.nodes → May t → Stands g c e (effect t).nodes

-- the nodes of some tree stand, of which this holds
pub record CanLead (g : Geometry) (May : Tree → Type 0) (d : Disk) : Type 0 where
  pub from : Disk
  pub tree : Tree
  pub stands : Stands g from d tree.nodes
  pub may : May tree

-- steps that lead there, or are cut; that the volume isn't sound they say of none in which they may be made
abbrev pub Makes : Geometry → (Tree → Type 0) → (Tree → Tree) → {X : Type 0} → Result X Halt → Disk → Disk → Type 0
Makes g May effect result d e = Ends result (λ x. Leads g May effect d e) (CanLead g May d)
