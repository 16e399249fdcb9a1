-- The nodes of a volume, one of them changed.
use Rattle.std.proofs.Common.{◌≡◌, ℕ, Bool, true, false, refl, ap, ◌∙◌}
use Rattle.std.specs.Prelude.{None, Some, if◌then◌else◌}
use Rattle.lemmas.proofs.Options.{some_same}
use Rattle.layout.specs.declared.Geometry.{Geometry}
use Rattle.lemmas.specs.Sums.{put}
use Rattle.tree.specs.Tree.{Node}
use Rattle.lemmas.proofs.Maps.{is_put, put-other, put-same}
use Rattle.volume.specs.Pieces.{Pieces}
use Rattle.volume.specs.Nodes.{is_marked, nodes_of}
use Rattle.inode_operations.specs.Steps.{node_at}

-- what stands where a test holds
there : (b : Bool) (x y : Node) → (if b then Some x else None) ≡ Some y → (b ≡ true) × (x ≡ y)
there true x y e = (refl, some_same x y e)
there false x y e = absurd (Rattle.lemmas.proofs.Maps.not_nothing y e)

-- a node is that of a marked inode
pub node_is : (g : Geometry) (v : Pieces) (n : ℕ) (x : Node) → nodes_of g v n ≡ Some x → (is_marked g v n ≡ true) × (node_at g v n ≡ x)
node_is g v n x e = there (is_marked g v n) (node_at g v n) x e

-- and the other way round
pub node_there : (g : Geometry) (v : Pieces) (n : ℕ) → is_marked g v n ≡ true → nodes_of g v n ≡ Some (node_at g v n)
node_there g v n is = ap (λ b. if b then Some (node_at g v n) else None) is

-- a map with what it has
pub put_back : {X : Type 0} (f : ℕ → X) (n : ℕ) (x : X) → f n ≡ x → f ≡ put f n x
put_back f n x is = is_put f f n x is (λ m d. refl)

-- a map changed twice at one place
pub put_twice : {X : Type 0} (f : ℕ → X) (n : ℕ) (x y : X) → put (put f n x) n y ≡ put f n y
put_twice f n x y = is_put f (put (put f n x) n y) n y (put-same (put f n x) n y) (λ m d. put-other (put f n x) n y m d ∙ put-other f n x m d)
