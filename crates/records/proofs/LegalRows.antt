-- Short records over the tree of a new volume, worked by hand: which are legal.
use Rattle.std.specs.Prelude.{◌≡◌, ℕ, pos, List, [], ◌∷◌, Bool, true, false, IsTrue, refl}
use Rattle.std.proofs.Common.{inl, inr, arith, ap, codes}
use Rattle.std.specs.Borrow.{Bor}
use Rattle.errno.specs.declared.Errno.TheVariants.{EIO, EBADF, ENOMEM}
use Rattle.message.specs.declared.Kind.TheVariants.{Write}
use Rattle.message.specs.declared.BlockRequest.{BlockRequest}
use Rattle.layout.specs.declared.Geometry.{Geometry}
use Rattle.tree.specs.declared.PathFrom.{PathFrom}
use Rattle.tree.specs.declared.Start.TheVariants.{Root}
use Rattle.tree.specs.declared.Who.{Who}
use Rattle.tree.specs.declared.Whence.TheVariants.{Set}
use Rattle.tree.specs.declared.Call.{Call}
use Rattle.tree.specs.declared.Call.TheVariants as call
use Rattle.lemmas.specs.Sums.{sum_below, some_below, least_below}
use Rattle.tree.specs.Tree.{Tree}
use Rattle.tree.specs.Laws.{fresh_tree}
use Rattle.tree.specs.Answers.{Answer, refused, done, some_bytes, node_is}
use Rattle.tree.specs.Effects.{tree_after_call}
use Rattle.volume.specs.Reading.{blocks_of}
use Rattle.volume.specs.Holds.{HoldsVolume}
use Rattle.records.specs.Marks.{Started, Flush, GaveUp, Took, Issued}
use Rattle.records.specs.Disk.{Contents}
use Rattle.records.specs.Legal.{IsLegal, IsReplyOf, tree_after, tree_after_answer}

-- pages of 64 bytes, 58 data zones, 8 inodes
abbrev pub small : Geometry
small = record { block_size = 64; inodes = 8; zones = 64; inode_map_blocks = 1; zone_map_blocks = 1; first_zone = 6 }

-- session 0 of user 0
abbrev pub user_0 : Who
user_0 = record { session = 0; uid = 0; gid = 0 }

-- bytes, lent
abbrev pub lent : List ℕ → Bor (List ℕ)
lent bytes = record { ref_ptr = (0, 0); now = bytes }

-- a path from the root
abbrev pub path : List ℕ → PathFrom
path bytes = record { start = Root; bytes = lent bytes }

-- a root alone, made at 50
abbrev pub fresh : Tree
fresh = fresh_tree 50

-- a media of zeros
abbrev pub zeros : Contents
zeros place = 0

-- what the root is
abbrev pub stat_root : Call
stat_root = call.Stat (path (codes "/"))

-- what stat tells of the root, but for its size
abbrev pub root_of_size : ℕ → Answer
root_of_size size = node_is (record { inode = 1; mode = 16877; links = 2; uid = 0; gid = 0; size = size; atime = 50; mtime = 50; ctime = 50 })

-- the size that an answer tells
abbrev size_in : Answer → ℕ
size_in (node_is a) = a.size
size_in _ = 0

-- 5 for EIO, 9 for EBADF, 12 for ENOMEM, 0 for all else
abbrev number_in : Answer → ℕ
number_in (refused EIO) = 5
number_in (refused EBADF) = 9
number_in (refused ENOMEM) = 12
number_in _ = 0

-- false does not hold
not_true : IsTrue false → ⊥
not_true h = let e : ◌≡◌ {A = Bool} false true = h in cc

-- the root has mode 755, 2 links and 128 bytes, its two entries
right_stat : IsLegal small zeros fresh (Took user_0 100 stat_root (root_of_size 128) ∷ Started (record { slot = 1; generation = 1 }) ∷ [])
unfolding sum_below some_below least_below
right_stat = (tt, record { replies = inl refl; syncs = λ sync ok. absurd (not_true sync) })

wrong_stat : IsLegal small zeros fresh (Took user_0 100 stat_root (root_of_size 64) ∷ []) → ⊥
unfolding sum_below some_below least_below
wrong_stat h = elim h.1.replies [
  | inl e ↦ (let size : ◌≡◌ {A = ℕ} 64 128 = ap size_in e in absurd (omega arith))
  | inr lacks ↦ not_true lacks.0
]

-- EIO is no answer while the device isn't given up
early_eio : IsLegal small zeros fresh (Took user_0 100 stat_root (refused EIO) ∷ []) → ⊥
unfolding sum_below some_below least_below
early_eio h = elim h.1.replies [
  | inl e ↦ (let number : ◌≡◌ {A = ℕ} 5 0 = ap number_in e in absurd (omega arith))
  | inr lacks ↦ not_true lacks.0
]

-- after giving up it is the only one, and the tree stays
late_eio : IsLegal small zeros fresh (Took user_0 100 stat_root (refused EIO) ∷ GaveUp ∷ [])
late_eio = (tt, refl)

late_stat : IsLegal small zeros fresh (Took user_0 100 stat_root (root_of_size 128) ∷ GaveUp ∷ []) → ⊥
late_stat h = let number : ◌≡◌ {A = ℕ} 0 5 = ap number_in h.1 in absurd (omega arith)

-- a directory is made
abbrev pub make_d : Call
make_d = call.Mkdir (path (codes "/d")) 493

late_mkdir : tree_after small fresh (Took user_0 100 make_d (refused EIO) ∷ GaveUp ∷ []) ≡ fresh
late_mkdir = refl

early_mkdir : tree_after small fresh (GaveUp ∷ Took user_0 100 make_d done ∷ []) ≡ tree_after_call small fresh user_0 100 make_d
early_mkdir = refl

-- A file of three bytes is open at 0 for reading and writing, and the root for reading.
abbrev pub opened : Tree
opened =
    let made = tree_after_call small fresh user_0 100 (call.Open (path (codes "/f")) (record { 0 = 11 }) 420) in
    let filled = tree_after_call small made user_0 100 (call.Write 0 (lent (codes "abc"))) in
    let sought = tree_after_call small filled user_0 100 (call.Seek 0 Set (pos 0)) in
    tree_after_call small sought user_0 100 (call.Open (path (codes "/")) (record { 0 = 1 }) 0)

read_all : IsReplyOf small opened user_0 100 (call.Read 0 5) (some_bytes (codes "abc"))
unfolding sum_below some_below least_below
read_all = inl refl

-- want of memory may be answered to a read and a readdir that would succeed
read_no_memory : IsReplyOf small opened user_0 100 (call.Read 0 5) (refused ENOMEM)
unfolding sum_below some_below least_below
read_no_memory = inr (refl, refl)

readdir_no_memory : IsReplyOf small opened user_0 100 (call.Readdir 1) (refused ENOMEM)
unfolding sum_below some_below least_below
readdir_no_memory = inr (refl, refl)

-- then the position stays where it was
read_stays : tree_after_answer small opened user_0 100 (call.Read 0 5) (refused ENOMEM) ≡ opened
unfolding sum_below some_below least_below
read_stays = refl

read_moves : tree_after_answer small opened user_0 100 (call.Read 0 5) (some_bytes (codes "abc")) ≡ tree_after_call small opened user_0 100 (call.Read 0 5)
unfolding sum_below some_below least_below
read_moves = refl

-- to no other call
fstat_no_memory : IsReplyOf small opened user_0 100 (call.Fstat 0) (refused ENOMEM) → ⊥
unfolding sum_below some_below least_below
fstat_no_memory h = elim h [
  | inl e ↦ (let number : ◌≡◌ {A = ℕ} 12 0 = ap number_in e in absurd (omega arith))
  | inr lacks ↦ not_true lacks.0
]

-- and to none that would be refused: descriptor 7 isn't open
read_closed : IsReplyOf small opened user_0 100 (call.Read 7 5) (refused ENOMEM) → ⊥
unfolding sum_below some_below least_below
read_closed h = elim h [
  | inl e ↦ (let number : ◌≡◌ {A = ℕ} 12 9 = ap number_in e in absurd (omega arith))
  | inr lacks ↦ not_true lacks.0
]

-- A write of the sector that begins at 1024.
abbrev pub write : BlockRequest
write = record { id = 1; kind = Write; minor = 0; position = 1024; count = 512; bytes = [] }

-- a sync that answered ok while a write was open
sync_with_open_write : IsLegal small zeros fresh (Took user_0 100 call.Sync done ∷ Issued write (record { slot = 1; generation = 1 }) ∷ []) → ⊥
sync_with_open_write h = let e : ◌≡◌ {A = Bool} true false = (h.1.syncs refl refl).sure.each 1024 in cc

-- one after which nothing is unsure, but the disk is zeros: bit 0 of the inode map isn't set
sync_of_nothing : IsLegal small zeros fresh (Took user_0 100 call.Sync done ∷ []) → ⊥
sync_of_nothing h = let e : ◌≡◌ {A = Bool} false true = (h.1.syncs refl refl).holds.nodes.sound.zones.inode_bit_0 in cc

-- one over an image that holds the tree
right_sync : (image : Contents) → HoldsVolume small (blocks_of small image) fresh → IsLegal small image fresh (Took user_0 100 call.Sync done ∷ Flush ∷ [])
right_sync image holds =
    (tt, record { replies = inl refl; syncs = λ sync ok. record { sure = record { each = λ place. refl }; holds = holds } })
