-- A small volume, and tables of calls on its tree with what they answer.
use Rattle.std.proofs.Common.{◌≡◌, ◌++◌, ℕ, List, [], ◌∷◌, map, codes, replicate}
use Prim.Native.String.{String}
use Rattle.std.specs.Prelude.{None, Some, false, ◌&&◌, ◌==◌, nat_lt, if◌then◌else◌}
use Rattle.std.specs.Borrow.{Bor}
use Rattle.layout.specs.declared.Geometry.{Geometry}
use Rattle.tree.specs.declared.Who.{Who}
use Rattle.tree.specs.declared.OpenFlags.{OpenFlags}
use Rattle.tree.specs.declared.Start.TheVariants.{Root, Inode}
use Rattle.tree.specs.declared.PathFrom.{PathFrom}
use Rattle.tree.specs.declared.Call.{Call}
use Rattle.tree.specs.declared.Call.TheVariants.{Open, Close, Write, Mkdir}
use Rattle.lemmas.specs.Sums.{put}
use Rattle.tree.specs.Names.{Names}
use Rattle.tree.specs.Tree.{Node, is_file, is_directory, Tree}
use Rattle.tree.specs.Answers.{Answer}
use Rattle.tree.specs.Effects.{reply_to, tree_after_call}

-- pages of 64 bytes, 16 numbers in a zone, 58 data zones, 8 inodes
abbrev pub small : Geometry
small = record { block_size = 64; inodes = 8; zones = 64; inode_map_blocks = 1; zone_map_blocks = 1; first_zone = 6 }

-- the same with 13 data zones
abbrev pub tight : Geometry
tight = record small { zones = 19 }

-- a root without names, made at 50
abbrev pub root : Node
root = record {
  permissions = 493;
  symbolic = false;
  uid = 0;
  gid = 0;
  links = 2;
  atime = 50;
  mtime = 50;
  ctime = 50;
  body = is_directory (record { parent = 1; names = [] });
}

-- a root alone
abbrev pub start : Tree
start = record { nodes = put (λ n. None) 1 (Some root); open_files = λ k. None; descriptors = λ s fd. None }

-- a user of session 0
abbrev pub user : ℕ → ℕ → Who
user uid gid = record { session = 0; uid = uid; gid = gid }

-- user 0, and one who owns nothing
abbrev pub user0 : Who
user0 = user 0 0

abbrev pub other : Who
other = user 9 9

-- bytes, as a call has them
abbrev pub bytes : List ℕ → Bor (List ℕ)
bytes b = record { ref_ptr = (0, 0); now = b }

-- bytes from a text
abbrev pub text : String → Bor (List ℕ)
text t = bytes (codes t)

-- a path from the root
abbrev pub at : List ℕ → PathFrom
at b = record { start = Root; bytes = bytes b }

-- the same from a text
abbrev pub path : String → PathFrom
path t = at (codes t)

-- a path from a node
abbrev pub from : ℕ → String → PathFrom
from n t = record { start = Inode n; bytes = text t }

-- flags from their number
abbrev pub flags : ℕ → OpenFlags
flags f = record { 0 = f }

-- the tree after some calls of user 0 at 100
abbrev pub after : Tree → List Call → Tree
after t [] = t
after t (call ∷ calls) = after (tree_after_call small t user0 100 call) calls

-- a directory of user 0 that was changed at 100: its permissions, links, the time at which it was made, its parent and its names
abbrev pub folder : ℕ → ℕ → ℕ → ℕ → Names → Node
folder permissions links atime parent names = record {
  permissions = permissions;
  symbolic = false;
  uid = 0;
  gid = 0;
  links = links;
  atime = atime;
  mtime = 100;
  ctime = 100;
  body = is_directory (record { parent = parent; names = names });
}

-- an empty file of user 0, made at 100
abbrev pub no_bytes : ℕ → Node
no_bytes permissions = record {
  permissions = permissions;
  symbolic = false;
  uid = 0;
  gid = 0;
  links = 1;
  atime = 100;
  mtime = 100;
  ctime = 100;
  body = is_file (record { size = 0; byte = λ p. 0; held = λ q. false });
}

-- Directories /d (inode 2), /d/e (3) and /p (4), a file /f (5) and one /p/x (6); /p is for user 0 alone. The root has 5
-- entries, /d and /p have 3, /d/e has 2: 13 zones. It is what `building` leaves, which `BuiltRows` shows, written out: each row
-- computes its tree.
unfoldable pub house : Tree
house = record {
  nodes =
      put (put (put (put (put (put (λ n. None)
      1 (Some (folder 493 4 50 1 ((codes "d", 2) ∷ (codes "f", 5) ∷ (codes "p", 4) ∷ []))))
      2 (Some (folder 493 3 100 1 ((codes "e", 3) ∷ []))))
      3 (Some (folder 493 2 100 2 [])))
      4 (Some (folder 448 2 100 1 ((codes "x", 6) ∷ []))))
      5 (Some (no_bytes 420)))
      6 (Some (no_bytes 384));
  open_files = λ k. None;
  descriptors = λ s fd. None;
}

-- the calls of user 0 that build it on a root alone
abbrev pub building : List Call
building = Mkdir (path "/d") 493 ∷ Mkdir (path "/d/e") 493 ∷ Mkdir (path "/p") 448
    ∷ Open (path "/f") (flags 11) 420 ∷ Close 0 ∷ Open (path "/p/x") (flags 11) 384 ∷ Close 0 ∷ []

-- with /g (7) and the empty /g/h (8): 6 entries of the root, 3 each of /d, /g and /p, 2 each of /d/e and /g/h, so 19 zones
unfoldable pub rooms : Tree
rooms = record {
  nodes =
      put (put (put (put (put (put (put (put (λ n. None)
      1 (Some (folder 493 5 50 1 ((codes "d", 2) ∷ (codes "f", 5) ∷ (codes "g", 7) ∷ (codes "p", 4) ∷ []))))
      2 (Some (folder 493 3 100 1 ((codes "e", 3) ∷ []))))
      3 (Some (folder 493 2 100 2 [])))
      4 (Some (folder 448 2 100 1 ((codes "x", 6) ∷ []))))
      5 (Some (no_bytes 420)))
      6 (Some (no_bytes 384)))
      7 (Some (folder 493 3 100 1 ((codes "h", 8) ∷ []))))
      8 (Some (folder 493 2 100 7 []));
  open_files = λ k. None;
  descriptors = λ s fd. None;
}

-- The house with open files, by their descriptors: 0 the directory /d; 1 the file /f for both, with the byte A and the position after
-- it; 2 /f for reading; 3 /f for writing at its end.
unfoldable pub desk : Tree
desk = record {
  nodes =
      put (put (put (put (put (put (λ n. None)
      1 (Some (folder 493 4 50 1 ((codes "d", 2) ∷ (codes "f", 5) ∷ (codes "p", 4) ∷ []))))
      2 (Some (folder 493 3 100 1 ((codes "e", 3) ∷ []))))
      3 (Some (folder 493 2 100 2 [])))
      4 (Some (folder 448 2 100 1 ((codes "x", 6) ∷ []))))
      5 (Some (record (no_bytes 420) { body = is_file (record { size = 1; byte = λ p. if p == 0 then 65 else 0; held = λ q. q == 0 }) })))
      6 (Some (no_bytes 384));
  open_files =
      put (put (put (put (λ k. None)
      0 (Some (record { inode = 2; position = 0; flags = 1 })))
      1 (Some (record { inode = 5; position = 1; flags = 3 })))
      2 (Some (record { inode = 5; position = 0; flags = 1 })))
      3 (Some (record { inode = 5; position = 0; flags = 6 }));
  descriptors = λ s fd. if (s == 0) && nat_lt fd 4 then Some fd else None;
}

-- the calls that open them
abbrev pub opening : List Call
opening = Open (path "/d") (flags 1) 0 ∷ Open (path "/f") (flags 3) 0 ∷ Write 1 (text "A") ∷ Open (path "/f") (flags 1) 0 ∷ Open (path "/f") (flags 6) 0 ∷ []

-- A row of a table: who calls, at 100, what, and what the call answers.
abbrev pub Row : Type 0
Row = Who × Call × Answer

-- each call answers what its row says
abbrev pub Rows : Geometry → Tree → List Row → Type 0
Rows g t rows = map (λ row. reply_to g t row.0 100 row.1) rows ≡ map (λ row. row.2) rows

-- the paths that can't be read: empty, 1025 bytes, relative, with a zero byte, with a part of 61 bytes
abbrev pub empty_path : PathFrom
empty_path = at []

abbrev pub long_path : PathFrom
long_path = at (replicate 1025 47)

abbrev pub zero_path : PathFrom
zero_path = at (codes "/d" ++ 0 ∷ [])

abbrev pub wide_path : PathFrom
wide_path = at (codes "/" ++ replicate 61 97)
