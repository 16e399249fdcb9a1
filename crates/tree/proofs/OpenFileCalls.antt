-- The calls that change only open files and descriptors keep a tree a tree.
use Rattle.std.proofs.Common.{◌≡◌, ◌≤◌, ◌+◌, ◌-◌, ℕ, zero, suc, length, refl, ap, subst, arith}
use Rattle.std.specs.Prelude.{nat_lt, is_some, if◌then◌else◌}
use Rattle.std.proofs.lemmas.Bool.{ltb-false, cond_both}
use Rattle.tree.specs.declared.Call.TheVariants.{Seek, Read, Dup}
use Rattle.tree.specs.Tree.{File, most_size}
use Rattle.tree.specs.IsTree.{IsFile, IsBody}
use Rattle.tree.specs.FileCalls.{bytes_from, bytes_read}
use Rattle.tree.specs.Keeps.{SeekKeeps, ReadKeeps, DupKeeps}
use Rattle.tree.proofs.OpenFiles.{position_kept, descriptor_added}
use Rattle.tree.proofs.FileOutcomes.{seek_each, read_each, dup_each}
use Rattle.tree.proofs.Keeping.{Keeps, keeps_closed, in_session}

-- so many bytes are so many
pub length-bytes_from : (byte : ℕ → ℕ) (at k : ℕ) → length (bytes_from byte at k) ≡ k
length-bytes_from byte at zero = refl
length-bytes_from byte at (suc k) = ap suc (length-bytes_from byte (suc at) k)

-- a read ends within the file, or where it began
read_within : (f : File) (at count most : ℕ) → at ≤ most → f.size ≤ most → at + length (bytes_read f at count) ≤ most
read_within f at count most a b =
    let is = length-bytes_from f.byte at (if nat_lt (f.size - at) count then f.size - at else count) in
    let few : (if nat_lt (f.size - at) count then f.size - at else count) ≤ f.size - at = cond_both (nat_lt (f.size - at) count) (f.size - at) count (λ k. k ≤ f.size - at) (λ _. omega arith) (λ e. ltb-false (f.size - at) count e) in
    omega (arith, is, few, a, b)

-- seek
pub seek_keeps : SeekKeeps
seek_keeps g t who now fd whence offset tree = in_session g t who now (Seek fd whence offset) tree (λ _.
    seek_each t who.session (Keeps g t) (keeps_closed g t tree) fd whence offset (λ found node f at is _ fits.
    position_kept g t found.0 found.1 at is.opened.file fits tree))

-- read
pub read_keeps : ReadKeeps
read_keeps g t who now fd count tree = in_session g t who now (Read fd count) tree (λ _.
    read_each t who.session (Keeps g t) (keeps_closed g t tree) fd count (λ found node f is.
    let file : IsFile g f = subst (IsBody g) is.file (tree.nodes.each found.1.inode node is.there).body in
    position_kept g t found.0 found.1 _ is.opened.file
    (read_within f found.1.position count most_size (tree.open_files.each found.0 found.1 is.opened.file).position file.size) tree))

-- dup
pub dup_keeps : DupKeeps
dup_keeps g t who now fd tree = in_session g t who now (Dup fd) tree (λ _.
    dup_each t who.session (Keeps g t) (keeps_closed g t tree) fd (λ found other opened free.
    descriptor_added g t who.session other found.0 (tree.open_files.descriptors who.session fd found.0 opened.descriptor).0 free.0 free.1 (ap is_some opened.file) tree))
