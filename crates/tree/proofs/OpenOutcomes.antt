-- What holds of the refusals and of the successes of open holds of the call.
use Rattle.std.proofs.Common.{◌≡◌, ◌<◌, ◌≤◌, ℕ, false, refl}
use Rattle.std.specs.Prelude.{None, Some, Ok, Err, not, ◌&&◌, ◌||◌, nat_lt}
use Rattle.std.proofs.lemmas.Bool.{ltb-false, or_parts}
use Rattle.layout.specs.declared.Geometry.{Geometry}
use Rattle.errno.specs.declared.Errno.TheVariants.{ENOENT, EACCES, EEXIST, EISDIR, EINVAL, ENFILE, EMFILE, ELOOP, ENOSPC}
use Rattle.tree.specs.declared.PathFrom.{PathFrom}
use Rattle.tree.specs.declared.User.{User}
use Rattle.tree.specs.Flags.{reads, writes, creates, is_exclusive, bad_flags}
use Rattle.tree.specs.Tree.{Node, Tree, is_dir, with_node, most_descriptors, most_open_files, most_permissions}
use Rattle.tree.specs.Refusals.{◌>>=◌, refuse_if, free_place}
use Rattle.tree.specs.Walk.{read_path, node_at, Place, Found, is_there, is_missing, open_look_up, may_access, to_read, to_write, Way}
use Rattle.tree.specs.Changes.{new_node, empty_file, free_inode}
use Rattle.tree.specs.Answers.{descriptor, if_it_fits}
use Rattle.tree.specs.NameCalls.{with_entry}
use Rattle.tree.specs.FileCalls.{Slot, with_open, after_truncate_flag, open_found, open_path}
use Rattle.tree.proofs.Search.{free_place_is}
use Rattle.tree.proofs.Steps.{passed, was_there}
use Rattle.tree.proofs.Outcomes.{Effects, IsClosed, with_zones, IsFree, NoInodeFree, at_free_inode, plain_refuse, plain_free_place}
use Rattle.tree.proofs.Outcomes.{plain_node, plain_read, plain_open_look_up}

-- the tree with a new file, open
abbrev pub with_new_file : Tree → User → ℕ → ℕ → ℕ → Slot → Place → ℕ → Tree
with_new_file t user now flags mode slot place n =
    with_open (with_entry (with_node t n (Some (new_node now user mode 1 empty_file))) now place n) slot n flags

module _ (g : Geometry) (t : Tree) (user : User) (now session : ℕ) (path : PathFrom) (flags mode : ℕ) (P : Effects → Type 0) (steps : IsClosed P) where
  -- What open has asked before it looks at what it found.
  pub record IsAsked (slot : Slot) (parts : Way) (found : Found) : Type 0 where
    pub good : bad_flags flags ≡ false
    pub fits : mode ≤ most_permissions
    pub session_is : slot.session ≡ session
    pub fd : (slot.fd < most_descriptors) × (t.descriptors session slot.fd ≡ None)
    pub number : (slot.number < most_open_files) × (t.open_files slot.number ≡ None)
    pub read : read_path path ≡ Ok parts
    pub looked : open_look_up t user (creates flags && is_exclusive flags) parts ≡ Ok found

  -- A node that is there.
  pub record IsThere (slot : Slot) (n : ℕ) (node : Node) : Type 0 where
    pub parts : Way
    pub asked : IsAsked slot parts (is_there n)
    pub at_inode : t.nodes n ≡ Some node
    pub not_exclusive : (creates flags && is_exclusive flags) ≡ false
    pub no_link : node.symbolic ≡ false
    pub not_a_directory : (is_dir node && writes flags) ≡ false

  -- A name that is missing, and an inode for it.
  pub record IsMissing (slot : Slot) (place : Place) (n : ℕ) : Type 0 where
    pub parts : Way
    pub asked : IsAsked slot parts (is_missing place)
    pub inode : IsFree g t n

  -- Up to the inode, over any volumes: what holds of a node that is there, and of a missing name that asks for an inode, holds of the call.
  module _ (volumes : ℕ → Geometry)
      (there : (slot : Slot) (n : ℕ) (node : Node) → IsThere slot n node → P (λ z. Ok (descriptor slot.fd, with_open (after_truncate_flag (volumes z) t now flags n node) slot n flags)))
      (asks : (slot : Slot) (place : Place) (parts : Way) → IsAsked slot parts (is_missing place)
      → P (λ z. free_inode (volumes z) t >>= λ n. if_it_fits (volumes z) (descriptor slot.fd) (with_new_file t user now flags mode slot place n))) where
    abbrev open_node : Slot → ℕ → Node → Effects
    open_node slot n node z = Ok (descriptor slot.fd, with_open (after_truncate_flag (volumes z) t now flags n node) slot n flags)

    abbrev may_open : Slot → ℕ → Node → Effects
    may_open slot n node z = refuse_if ((reads flags && not (may_access user node to_read)) || (writes flags && not (may_access user node to_write))) EACCES >>= λ _. open_node slot n node z

    abbrev at_no_link : Slot → ℕ → Node → Effects
    at_no_link slot n node z = refuse_if (is_dir node && writes flags) EISDIR >>= λ _. may_open slot n node z

    abbrev at_node : Slot → ℕ → Node → Effects
    at_node slot n node z = refuse_if node.symbolic ELOOP >>= λ _. at_no_link slot n node z

    abbrev from_node : Slot → ℕ → Effects
    from_node slot n z = node_at t n >>= λ node. at_node slot n node z

    abbrev take_inode : Slot → Place → Effects
    take_inode slot place z = free_inode (volumes z) t >>= λ n. if_it_fits (volumes z) (descriptor slot.fd) (with_new_file t user now flags mode slot place n)

    abbrev at_parent : Slot → Place → Node → Effects
    at_parent slot place parent z = refuse_if (not (may_access user parent to_write)) EACCES >>= λ _. take_inode slot place z

    abbrev from_place : Slot → Place → Effects
    from_place slot place z = node_at t place.directory >>= λ parent. at_parent slot place parent z

    found_each : (slot : Slot) (parts : Way) (found : Found) → IsAsked slot parts found → P (λ z. open_found (volumes z) t user now slot flags mode found)
    found_each slot parts (is_there n) asked =
        steps _ (refuse_if (creates flags && is_exclusive flags) EEXIST) (λ _. from_node slot n) (plain_refuse _ _ refl) (λ y shared.
        steps _ (node_at t n) (at_node slot n) (plain_node t n) (λ node node_is.
        steps _ (refuse_if node.symbolic ELOOP) (λ _. at_no_link slot n node) (plain_refuse _ _ refl) (λ u plain.
        steps _ (refuse_if (is_dir node && writes flags) EISDIR) (λ _. may_open slot n node) (plain_refuse _ _ refl) (λ x file.
        steps _ (refuse_if ((reads flags && not (may_access user node to_read)) || (writes flags && not (may_access user node to_write))) EACCES) (λ _. open_node slot n node) (plain_refuse _ _ refl) (λ _ _.
        there slot n node
        (record {
          parts = parts;
          asked = asked;
          at_inode = was_there _ _ _ node_is;
          not_exclusive = passed _ _ y shared;
          no_link = passed _ _ u plain;
          not_a_directory = passed _ _ x file;
        }))))))
    found_each slot parts (is_missing place) asked =
        steps _ (refuse_if (not (creates flags)) ENOENT) (λ _. from_place slot place) (plain_refuse _ _ refl) (λ _ _.
        steps _ (node_at t place.directory) (at_parent slot place) (plain_node t place.directory) (λ parent _.
        steps _ (refuse_if (not (may_access user parent to_write)) EACCES) (λ _. take_inode slot place) (plain_refuse _ _ refl) (λ _ _.
        asks slot place parts asked)))

    abbrev slot_at : ℕ → ℕ → Slot
    slot_at fd k = record { session = session; fd = fd; number = k }

    abbrev at_found : ℕ → ℕ → Found → Effects
    at_found fd k found z = open_found (volumes z) t user now (slot_at fd k) flags mode found

    abbrev at_parts : ℕ → ℕ → Way → Effects
    at_parts fd k parts z = open_look_up t user (creates flags && is_exclusive flags) parts >>= λ found. at_found fd k found z

    abbrev at_slot : ℕ → ℕ → Effects
    at_slot fd k z = read_path path >>= λ parts. at_parts fd k parts z

    abbrev at_descriptor : ℕ → Effects
    at_descriptor fd z = free_place t.open_files most_open_files ENFILE >>= λ k. at_slot fd k z

    abbrev at_flags : Effects
    at_flags z = free_place (t.descriptors session) most_descriptors EMFILE >>= λ fd. at_descriptor fd z

    pub open_up_to_inode : P (λ z. open_path (volumes z) t user now session path flags mode)
    open_up_to_inode =
        steps _ (refuse_if (bad_flags flags || nat_lt most_permissions mode) EINVAL) (λ _. at_flags) (plain_refuse _ _ refl) (λ x good.
        steps _ (free_place (t.descriptors session) most_descriptors EMFILE) at_descriptor (plain_free_place _ _ _ refl) (λ fd free_fd.
        steps _ (free_place t.open_files most_open_files ENFILE) (at_slot fd) (plain_free_place _ _ _ refl) (λ k free_k.
        steps _ (read_path path) (at_parts fd k) (plain_read path) (λ parts read.
        steps _ (open_look_up t user (creates flags && is_exclusive flags) parts) (at_found fd k)
        (plain_open_look_up t user (creates flags && is_exclusive flags) parts) (λ found looked.
        let flags_and_mode = or_parts (bad_flags flags) (nat_lt most_permissions mode) (passed _ _ x good) in
        found_each (slot_at fd k) parts found (record {
          good = flags_and_mode.0;
          fits = ltb-false most_permissions mode flags_and_mode.1;
          session_is = refl;
          fd = free_place_is (t.descriptors session) most_descriptors EMFILE fd free_fd;
          number = free_place_is t.open_files most_open_files ENFILE k free_k;
          read = read;
          looked = looked;
        }))))))

  pub open_each : (NoInodeFree g t → P (λ z. Err ENOSPC))
      → ((slot : Slot) (n : ℕ) (node : Node) → IsThere slot n node → P (λ z. Ok (descriptor slot.fd, with_open (after_truncate_flag g t now flags n node) slot n flags)))
      → ((slot : Slot) (place : Place) (n : ℕ) → IsMissing slot place n → P (λ z. if_it_fits (with_zones z g) (descriptor slot.fd) (with_new_file t user now flags mode slot place n)))
      → P (λ z. open_path (with_zones z g) t user now session path flags mode)
  open_each full there missing =
      open_up_to_inode (λ z. with_zones z g) there (λ slot place parts asked.
      at_free_inode g t P (λ n z. if_it_fits (with_zones z g) (descriptor slot.fd) (with_new_file t user now flags mode slot place n)) full
      (λ n inode. missing slot place n (record { parts = parts; asked = asked; inode = inode })))
