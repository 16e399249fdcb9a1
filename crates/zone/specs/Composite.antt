-- Whole attaches and detaches.
use Rattle.std.specs.Prelude.{◌≡◌, ◌≢◌, ℕ, zero, suc, ◌+◌, ◌-◌, ◌<◌, ◌≤◌, Bool, true, false, not, ◌==◌, if◌then◌else◌, Some, IsTrue}
use Rattle.layout.specs.declared.Geometry.{Geometry}
use Rattle.layout.specs.Places.{IsGeometry}
use Rattle.lemmas.specs.Sums.{put}
use Rattle.tree.specs.Space.{numbers_in_zone, pages_of}
use Rattle.volume.specs.Pieces.{Pieces}
use Rattle.volume.specs.Nodes.{word, file_of, is_marked, nodes_of}
use Rattle.volume.specs.Places.{zone_at, has_number}
use Rattle.zone.specs.ZoneSteps.{first_places, above, IsBare, Links, Unlinks, SameInodes, IsSoundBut, with_page, without_page, node_from, marked_in}
use Rattle.zone.specs.Missing.{missing}

-- Zones stand at all places on the way to place k of level l, which is the only block that may be without a number.
pub record Attached (g : Geometry) (v w : Pieces) (n l k : ℕ) : Type 0 where
  pub rules : IsSoundBut g w n l k
  pub held : zone_at g w (w.inodes n) l k ≢ 0
  pub inodes : SameInodes g v w
  pub below : (a i : ℕ) → a < l → zone_at g w (w.inodes n) a i ≡ zone_at g v (v.inodes n) a i
  pub files : (m : ℕ) → IsTrue (is_marked g v m) → m ≢ n → file_of g w (w.inodes m) ≡ file_of g v (v.inodes m)
  pub file : file_of g w (w.inodes n) ≡ (if l == 0 then with_page (file_of g v (v.inodes n)) k true else file_of g v (v.inodes n))
  pub count : marked_in g w ≡ marked_in g v + missing g v n (4 - l) l k

-- A place of the inode, as it is or with a zone now; and a place of a block.
abbrev pub AttachedInner : Type 0
AttachedInner = (g : Geometry) (v : Pieces) (n l k j : ℕ) → IsGeometry g → IsTrue (is_marked g v n) → l < 4 → k < first_places l → IsSoundBut g v n 0 j
    → zone_at g v (v.inodes n) l k ≢ 0 → Attached g v v n l k

abbrev pub AttachesInner : Type 0
AttachesInner = (g : Geometry) (v w : Pieces) (n l k j z : ℕ) → IsGeometry g → k < first_places l → (l ≡ 0 → k < pages_of g (v.inodes n).size) → IsSoundBut g v n 0 j
    → Links g v w n l k z → Attached g v w n l k

abbrev pub AttachedOuter : Type 0
AttachedOuter = (g : Geometry) (v u : Pieces) (n l k : ℕ) → IsGeometry g → IsTrue (is_marked g v n) → l < 3 → first_places l ≤ k
    → Attached g v u n (suc l) (above g l k) → zone_at g u (u.inodes n) l k ≢ 0 → Attached g v u n l k

abbrev pub AttachesOuter : Type 0
AttachesOuter = (g : Geometry) (v u w : Pieces) (n l k z : ℕ) → IsGeometry g → IsTrue (is_marked g v n) → l < 3 → first_places l ≤ k → (l ≡ 0 → k < pages_of g (v.inodes n).size)
    → Attached g v u n (suc l) (above g l k) → Links g u w n l k z → Attached g v w n l k

-- The zone at the place is let go, and each block above that is without a number then.
pub record Detached (g : Geometry) (v w : Pieces) (n l k : ℕ) : Type 0 where
  pub rules : IsSoundBut g w n 0 k
  pub gone : zone_at g w (w.inodes n) l k ≡ 0
  pub inodes : SameInodes g v w
  pub below : (a i : ℕ) → a < l → zone_at g w (w.inodes n) a i ≡ zone_at g v (v.inodes n) a i
  pub files : (m : ℕ) → IsTrue (is_marked g v m) → m ≢ n → file_of g w (w.inodes m) ≡ file_of g v (v.inodes m)
  pub file : file_of g w (w.inodes n) ≡ (if l == 0 then without_page g.block_size (file_of g v (v.inodes n)) k else file_of g v (v.inodes n))

-- where the place stands in the inode, or its block has another number
abbrev pub DetachesInner : Type 0
DetachesInner = (g : Geometry) (v w : Pieces) (n l k z : ℕ) → IsGeometry g → k < first_places l → IsSoundBut g v n l k → Unlinks g v w n l k z → Detached g v w n l k

abbrev pub DetachesOuter : Type 0
DetachesOuter = (g : Geometry) (v w : Pieces) (n l k z : ℕ) → IsGeometry g → first_places l ≤ k → IsSoundBut g v n l k → Unlinks g v w n l k z
    → IsTrue (has_number g w (zone_at g w (w.inodes n) (suc l) (above g l k))) → Detached g v w n l k

-- where the block has none, the rest of the way
abbrev pub DetachesOn : Type 0
DetachesOn = (g : Geometry) (v u w : Pieces) (n l k z : ℕ) → IsGeometry g → IsSoundBut g v n l k → Unlinks g v u n l k z
    → Detached g u w n (suc l) (above g l k) → Detached g v w n l k

-- and then the rules of the block above hold, for that call
abbrev pub UnlinkedAbove : Type 0
UnlinkedAbove = (g : Geometry) (v u : Pieces) (n l k z : ℕ) → IsGeometry g → first_places l ≤ k → IsSoundBut g v n l k → Unlinks g v u n l k z → IsSoundBut g u n (suc l) (above g l k)

-- The nodes after an attach and a detach of a page.
abbrev pub AttachedNodes : Type 0
AttachedNodes = (g : Geometry) (v w : Pieces) (n p : ℕ) → IsTrue (is_marked g v n) → Attached g v w n 0 p
    → nodes_of g w ≡ put (nodes_of g v) n (Some (node_from (v.inodes n) (with_page (file_of g v (v.inodes n)) p true)))

abbrev pub DetachedNodes : Type 0
DetachedNodes = (g : Geometry) (v w : Pieces) (n p : ℕ) → IsTrue (is_marked g v n) → Detached g v w n 0 p
    → nodes_of g w ≡ put (nodes_of g v) n (Some (node_from (v.inodes n) (without_page g.block_size (file_of g v (v.inodes n)) p)))
