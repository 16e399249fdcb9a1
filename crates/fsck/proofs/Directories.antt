-- What is said of directories alone.
use Rattle.std.proofs.Common.{◌≡◌, ◌<◌, ◌≤◌, ◌+◌, ℕ, Bool, true, false, sym, ap}
use Rattle.std.specs.Prelude.{◌&&◌}
use Rattle.std.proofs.lemmas.Bool.{and_parts, and_left}
use Rattle.volume.specs.Nodes.{is_marked}
use Rattle.volume.specs.Entries.{is_directory_inode}
use Rattle.image.specs.declared.Image.{Image}
use Rattle.image.proofs.Contents.{g, v, inside, out_of_range}

-- nothing holds of what is no directory
pub no_directory : (i : Image) (n : ℕ) (b : Bool) → is_directory_inode (g i) (v i) n ≡ false → false ≡ is_directory_inode (g i) (v i) n && b
no_directory i n b out = sym (and_left (is_directory_inode (g i) (v i) n) b out)

-- what holds of a directory
pub of_directory : (i : Image) (n : ℕ) (b : Bool) → is_directory_inode (g i) (v i) n ≡ true → b ≡ is_directory_inode (g i) (v i) n && b
of_directory i n b is = sym (ap (λ d. d && b) is)

-- no number past the last is a directory's
pub past_directories : (i : Image) (n : ℕ) → (g i).inodes + 1 ≤ n → is_directory_inode (g i) (v i) n ≡ false
past_directories i n far = and_left (is_marked (g i) (v i) n) _ (out_of_range i n far)

-- a directory's number is one of the volume's
pub directory_low : (i : Image) (n : ℕ) → is_directory_inode (g i) (v i) n ≡ true → n < (g i).inodes + 1
directory_low i n is = inside i n (and_parts (is_marked (g i) (v i) n) _ is).0
