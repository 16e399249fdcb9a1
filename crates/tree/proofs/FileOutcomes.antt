-- What holds of the refusals and of the successes of the calls on open files holds of the calls.
use Rattle.std.proofs.Common.{◌≡◌, ◌<◌, ◌≤◌, ◌+◌, ℕ, ℤ, List, true, false, refl, ap, subst, length}
use Rattle.std.specs.Prelude.{None, Some, Ok, not, ◌==◌, nat_lt, if◌then◌else◌}
use Rattle.std.proofs.lemmas.Bool.{ltb-false, eqb-true}
use Rattle.layout.specs.declared.Geometry.{Geometry}
use Rattle.errno.specs.declared.Errno.{Errno}
use Rattle.errno.specs.declared.Errno.TheVariants.{EBADF, ENOTDIR, EISDIR, EINVAL, EMFILE, EFBIG}
use Rattle.tree.specs.declared.Whence.{Whence}
use Rattle.tree.specs.Names.{Names}
use Rattle.tree.specs.Flags.{reads, writes, appends}
use Rattle.tree.specs.Tree.{Body, Directory, File, is_file, is_directory, Node, OpenFile, Tree, with_node, with_descriptor, most_descriptors, most_bytes, most_size}
use Rattle.tree.specs.Refusals.{◌>>=◌, or_refuse, refuse_if, free_place}
use Rattle.tree.specs.Walk.{node_at}
use Rattle.tree.specs.Changes.{open_file_of, without_unused, without_nameless, at_position, with_body, file_after_write}
use Rattle.tree.specs.Answers.{done, descriptor, some_bytes, wrote, position, node_is, names_are, if_it_fits}
use Rattle.tree.specs.NodeCalls.{attributes_of, file_or}
use Rattle.tree.specs.FileCalls.{close, dup, read, write, seek, fstat, readdir, names_or, bytes_read, seek_base, seek_place}
use Rattle.tree.proofs.Search.{free_place_is}
use Rattle.tree.proofs.Steps.{passed, was_there, not_refused, ok_is, IsOpened, is_opened}
use Rattle.tree.proofs.NodeOutcomes.{file_is, plain_file}
use Rattle.tree.proofs.RenameOutcomes.{at_test}
use Rattle.tree.proofs.Outcomes.{Effects, IsClosed, with_zones, is_enospc, is_plain, plain_refuse, plain_or, plain_bind, plain_node, plain_free_place}

-- looking up a descriptor doesn't ask for room
plain_opened : (t : Tree) (session fd : ℕ) → is_plain (open_file_of t session fd) ≡ true
plain_opened t session fd =
    plain_bind (or_refuse (t.descriptors session fd) EBADF) (λ k. or_refuse (t.open_files k) EBADF >>= λ o. Ok (k, o)) (plain_or _ _ refl) (λ k.
    plain_bind (or_refuse (t.open_files k) EBADF) (λ o. Ok (k, o)) (plain_or _ _ refl) (λ o. refl))

-- The names of a directory.

-- the names that are told are a directory's
names_in : (e : Errno) (body : Body) (node : Node) (names : Names) → names_or (record node { body = body }) e ≡ Ok names → (d : Directory) × (body ≡ is_directory d) × (d.names ≡ names)
names_in e (is_file x) node names h = absurd (not_refused e names h)
names_in e (is_directory d) node names h = (d, refl, ok_is d.names names (Ok d.names) refl h)

-- telling names doesn't ask for room
plain_in : (e : Errno) → is_enospc e ≡ false → (body : Body) (node : Node) → is_plain (names_or (record node { body = body }) e) ≡ true
plain_in e h (is_file x) node = ap not h
plain_in e h (is_directory d) node = refl

module _ (t : Tree) (session : ℕ) (P : Effects → Type 0) (steps : IsClosed P) where
  -- a descriptor that is open
  opened_each : (fd : ℕ) (f : ℕ × OpenFile → Effects) → ((found : ℕ × OpenFile) → IsOpened t session fd found → P (f found)) → P (λ z. open_file_of t session fd >>= λ found. f found z)
  opened_each fd f each = steps _ (open_file_of t session fd) f (plain_opened t session fd) (λ found led. each found (is_opened t session fd found led))

  -- An open file, with the file that its node is.
  pub record IsOpenOf (fd : ℕ) (found : ℕ × OpenFile) (node : Node) (f : File) : Type 0 where
    pub opened : IsOpened t session fd found
    pub there : t.nodes found.1.inode ≡ Some node
    pub file : node.body ≡ is_file f

  abbrev at_node : (ℕ × OpenFile → Node → File → Effects) → Errno → ℕ × OpenFile → Node → Effects
  at_node f e found node z = file_or node e >>= λ file. f found node file z

  abbrev at_file : (ℕ × OpenFile → Node → File → Effects) → Errno → ℕ × OpenFile → Effects
  at_file f e found z = node_at t found.1.inode >>= λ node. at_node f e found node z

  file_each : (fd : ℕ) (f : ℕ × OpenFile → Node → File → Effects) (e : Errno) → is_enospc e ≡ false → (found : ℕ × OpenFile) → IsOpened t session fd found
      → ((node : Node) (file : File) → IsOpenOf fd found node file → P (f found node file)) → P (at_file f e found)
  file_each fd f e plain found opened each =
      steps _ (node_at t found.1.inode) (at_node f e found) (plain_node t found.1.inode) (λ node there.
      steps _ (file_or node e) (f found node) (plain_file node e plain) (λ file is_file.
      each node file (record { opened = opened; there = was_there _ _ _ there; file = file_is node e file is_file })))

  pub close_each : (fd : ℕ)
      → ((found : ℕ × OpenFile) → IsOpened t session fd found → P (λ z. Ok (done, without_nameless (without_unused (with_descriptor t session fd None) found.0) found.1.inode)))
      → P (λ z. close t session fd)
  close_each fd each = opened_each fd (λ found z. Ok (done, without_nameless (without_unused (with_descriptor t session fd None) found.0) found.1.inode)) each

  pub dup_each : (fd : ℕ)
      → ((found : ℕ × OpenFile) (other : ℕ) → IsOpened t session fd found → (other < most_descriptors) × (t.descriptors session other ≡ None) → P (λ z. Ok (descriptor other, with_descriptor t session other (Some found.0))))
      → P (λ z. dup t session fd)
  dup_each fd each = opened_each fd (λ found z. free_place (t.descriptors session) most_descriptors EMFILE >>= λ other. Ok (descriptor other, with_descriptor t session other (Some found.0))) (λ found opened.
      steps _ (free_place (t.descriptors session) most_descriptors EMFILE) (λ other z. Ok (descriptor other, with_descriptor t session other (Some found.0))) (plain_free_place _ _ _ refl) (λ other free.
      each found other opened (free_place_is (t.descriptors session) most_descriptors EMFILE other free)))

  pub fstat_each : (fd : ℕ) → ((found : ℕ × OpenFile) (node : Node) → P (λ z. Ok (node_is (attributes_of found.1.inode node), t))) → P (λ z. fstat t session fd)
  fstat_each fd each = opened_each fd (λ found z. node_at t found.1.inode >>= λ node. Ok (node_is (attributes_of found.1.inode node), t)) (λ found opened.
      steps _ (node_at t found.1.inode) (λ node z. Ok (node_is (attributes_of found.1.inode node), t)) (plain_node t found.1.inode) (λ node _. each found node))

  -- A directory whose names are told.
  module _ (fd : ℕ) (each : (found : ℕ × OpenFile) (node : Node) (d : Directory) → IsOpened t session fd found → t.nodes found.1.inode ≡ Some node → node.body ≡ is_directory d → P (λ z. Ok (names_are d.names, t))) where
    abbrev tell : Names → Effects
    tell names z = Ok (names_are names, t)

    abbrev at_names : Node → Effects
    at_names node z = names_or node ENOTDIR >>= λ names. tell names z

    abbrev at_directory : ℕ × OpenFile → Effects
    at_directory found z = node_at t found.1.inode >>= λ node. at_names node z

    pub readdir_each : P (λ z. readdir t session fd)
    readdir_each = opened_each fd (λ found z. refuse_if (not (reads found.1.flags)) EBADF >>= λ _. at_directory found z) (λ found opened.
        steps _ (refuse_if (not (reads found.1.flags)) EBADF) (λ _. at_directory found) (plain_refuse _ _ refl) (λ _ _.
        steps _ (node_at t found.1.inode) at_names (plain_node t found.1.inode) (λ node there.
        steps _ (names_or node ENOTDIR) tell (plain_in ENOTDIR refl node.body node) (λ names are.
        let is = names_in ENOTDIR node.body node names are in
        subst (λ ns. P (tell ns)) is.2 (each found node is.0 opened (was_there _ _ _ there) is.1)))))

  -- A place that is sought.
  module _ (fd : ℕ) (whence : Whence) (offset : ℤ)
      (each : (found : ℕ × OpenFile) (node : Node) (f : File) (at : ℕ) → IsOpenOf fd found node f → seek_place (seek_base f found.1.position whence) offset ≡ Some at → at ≤ most_size
      → P (λ z. Ok (position at, at_position t found.0 found.1 at))) where
    abbrev go : ℕ × OpenFile → ℕ → Effects
    go found at z = Ok (position at, at_position t found.0 found.1 at)

    abbrev seek_to : ℕ × OpenFile → ℕ → Effects
    seek_to found at z = refuse_if (nat_lt most_size at) EINVAL >>= λ _. go found at z

    abbrev seek_in : ℕ × OpenFile → Node → File → Effects
    seek_in found node f z = or_refuse (seek_place (seek_base f found.1.position whence) offset) EINVAL >>= λ at. seek_to found at z

    pub seek_each : P (λ z. seek t session fd whence offset)
    seek_each = opened_each fd (at_file seek_in EISDIR) (λ found opened.
        file_each fd seek_in EISDIR refl found opened (λ node f is.
        steps _ (or_refuse (seek_place (seek_base f found.1.position whence) offset) EINVAL) (seek_to found) (plain_or _ _ refl) (λ at place.
        steps _ (refuse_if (nat_lt most_size at) EINVAL) (λ _. go found at) (plain_refuse _ _ refl) (λ x fits.
        each found node f at is (was_there _ _ _ place) (ltb-false most_size at (passed _ _ x fits))))))

  -- Bytes that are read.
  module _ (fd count : ℕ)
      (each : (found : ℕ × OpenFile) (node : Node) (f : File) → IsOpenOf fd found node f
      → P (λ z. Ok (some_bytes (bytes_read f found.1.position count), at_position t found.0 found.1 (found.1.position + length (bytes_read f found.1.position count))))) where
    abbrev take : ℕ × OpenFile → File → Effects
    take found f z = Ok (some_bytes (bytes_read f found.1.position count), at_position t found.0 found.1 (found.1.position + length (bytes_read f found.1.position count)))

    abbrev read_in : ℕ × OpenFile → Node → File → Effects
    read_in found node f z = refuse_if (nat_lt most_bytes count) EINVAL >>= λ _. take found f z

    pub read_each : P (λ z. read t session fd count)
    read_each = opened_each fd (λ found z. refuse_if (not (reads found.1.flags)) EBADF >>= λ _. at_file read_in EISDIR found z) (λ found opened.
        steps _ (refuse_if (not (reads found.1.flags)) EBADF) (λ _. at_file read_in EISDIR found) (plain_refuse _ _ refl) (λ _ _.
        file_each fd read_in EISDIR refl found opened (λ node f is.
        steps _ (refuse_if (nat_lt most_bytes count) EINVAL) (λ _. take found f) (plain_refuse _ _ refl) (λ _ _. each found node f is))))

  -- Bytes that are written.
  abbrev pub start : OpenFile → File → ℕ
  start o f = if appends o.flags then f.size else o.position

  abbrev pub after_write : Geometry → ℕ → ℕ × OpenFile → Node → File → List ℕ → Tree
  after_write g now found node f bytes =
      at_position (with_node t found.1.inode (Some (with_body now (is_file (file_after_write g f (start found.1 f) bytes)) node))) found.0 found.1 (start found.1 f + length bytes)

  module _ (g : Geometry) (now fd : ℕ) (bytes : List ℕ)
      (nothing : (found : ℕ × OpenFile) (node : Node) (f : File) → IsOpenOf fd found node f → length bytes ≡ 0 → P (λ z. Ok (wrote 0, t)))
      (each : (found : ℕ × OpenFile) (node : Node) (f : File) → IsOpenOf fd found node f → node.symbolic ≡ false → length bytes ≤ most_bytes
      → start found.1 f + length bytes ≤ most_size
      → P (λ z. if_it_fits (with_zones z g) (wrote (length bytes)) (after_write g now found node f bytes))) where
    abbrev put_bytes : ℕ × OpenFile → Node → File → Effects
    put_bytes found node f z = if_it_fits (with_zones z g) (wrote (length bytes)) (after_write g now found node f bytes)

    abbrev put_any : ℕ × OpenFile → Node → File → Effects
    put_any found node f z = if length bytes == 0 then Ok (wrote 0, t) else put_bytes found node f z

    abbrev write_regular : ℕ × OpenFile → Node → File → Effects
    write_regular found node f z = refuse_if (nat_lt most_size (start found.1 f + length bytes)) EFBIG >>= λ _. put_any found node f z

    abbrev write_in : ℕ × OpenFile → Node → File → Effects
    write_in found node f z = refuse_if node.symbolic EBADF >>= λ _. write_regular found node f z

    abbrev write_few : ℕ × OpenFile → Effects
    write_few found z = refuse_if (nat_lt most_bytes (length bytes)) EINVAL >>= λ _. at_file write_in EBADF found z

    pub write_each : P (λ z. write (with_zones z g) t now session fd bytes)
    write_each = opened_each fd (λ found z. refuse_if (not (writes found.1.flags)) EBADF >>= λ _. write_few found z) (λ found opened.
        steps _ (refuse_if (not (writes found.1.flags)) EBADF) (λ _. write_few found) (plain_refuse _ _ refl) (λ _ _.
        steps _ (refuse_if (nat_lt most_bytes (length bytes)) EINVAL) (λ _. at_file write_in EBADF found) (plain_refuse _ _ refl) (λ y few.
        file_each fd write_in EBADF refl found opened (λ node f is.
        steps _ (refuse_if node.symbolic EBADF) (λ _. write_regular found node f) (plain_refuse _ _ refl) (λ u regular.
        steps _ (refuse_if (nat_lt most_size (start found.1 f + length bytes)) EFBIG) (λ _. put_any found node f) (plain_refuse _ _ refl) (λ x fits.
        at_test P (length bytes == 0) (λ z. Ok (wrote 0, t)) (put_bytes found node f) (λ none. nothing found node f is (eqb-true (length bytes) 0 none)) (λ _.
        each found node f is (passed _ _ u regular) (ltb-false most_bytes (length bytes) (passed _ _ y few))
        (ltb-false most_size (start found.1 f + length bytes) (passed _ _ x fits)))))))))
