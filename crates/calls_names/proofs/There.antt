-- A node that is there is opened, or not.
use Rattle.std.proofs.Common.{◌≡◌, ◌<◌, ◌≤◌, ◌-◌, ◌/◌, ◌^◌, ℕ, Bool, true, false, refl, sym, ap, subst, ◌∙◌, arith, Some, None, Ok, Err}
use Rattle.std.specs.Prelude.{IsTrue, Option, is_some, not, ◌&&◌, nat_le, if◌then◌else◌}
use Rattle.std.proofs.lemmas.Bool.{and_parts, cond-false, leb-true}
use Rattle.errno.specs.declared.Errno.{Errno}
use Rattle.errno.specs.declared.Errno.TheVariants.{EACCES, EEXIST, EISDIR, ELOOP, ENOENT}
use Rattle.layout.specs.declared.Geometry.{Geometry}
use Rattle.layout.specs.Places.{IsGeometry}
use Rattle.tree.specs.declared.User.{User}
use Rattle.tree.specs.Flags.{creates, is_exclusive, truncates, writes}
use Rattle.tree.specs.Tree.{Directory, File, Node, Tree, is_dir, is_directory, is_file, with_node}
use Rattle.tree.specs.Refusals.{◌>>=◌, or_refuse, refuse_if}
use Rattle.tree.specs.Walk.{is_there}
use Rattle.tree.specs.Changes.{file_after_resize, with_body}
use Rattle.tree.specs.Answers.{Answer, Effect, descriptor}
use Rattle.tree.specs.FileCalls.{Slot, after_truncate_flag, open_found, with_open}
use Rattle.tree.proofs.ByteCalls.{file_changed, file_fits}
use Rattle.tree.proofs.FileBodies.{resized_fits}
use Rattle.volume.specs.declared.Inode.{Inode}
use Rattle.volume.specs.Reading.{Disk, is_inode}
use Rattle.volume.specs.Pieces.{Pieces, pieces}
use Rattle.volume.specs.Nodes.{directory_of, entry_inode, is_directory_mode, is_link_mode, is_marked, names_in, node_of, permissions_in}
use Rattle.volume.specs.Holds.{HoldsVolume}
use Rattle.zone.specs.ZoneSteps.{node_from}
use Rattle.path.specs.Wishes.{IsWhose}
use Rattle.file.specs.PageChanges.{MayChange, file_at, stamped}
use Rattle.calls_attributes.proofs.Made.{node_there}
use Rattle.calls_attributes.proofs.Volumes.{may_change, no_directory, volume_changed}
use Rattle.inode_operations.specs.Sizes.{SetsSizeAt}
use Rattle.inode_operations.specs.Stands.{Stands}
use Rattle.inode_operations.proofs.Between.{kind_is, nothing_is_done}
use Rattle.calls_names.specs.Asking.{lacks_permission, only_makes, why_barred}
use Rattle.calls_names.specs.Opening.{IsReady, IsRefused}

-- the refusal, or what the call gives
abbrev told : Option Errno → Answer × Tree → Effect
told why last = elim why [ None ↦ Ok last | Some e ↦ Err e ]

abbrev first_of : Bool → Bool → Bool → Bool → Option Errno
first_of a l b c = if a then Some EEXIST else if l then Some ELOOP else if b then Some EISDIR else if c then Some EACCES else None

abbrev asked : Bool → Bool → Bool → Bool → Answer × Tree → Effect
asked a l b c last = refuse_if a EEXIST >>= λ _. refuse_if l ELOOP >>= λ _. refuse_if b EISDIR >>= λ _. refuse_if c EACCES >>= λ _. Ok last

-- nothing speaks against it, so it is no link
not_link : (a l b c : Bool) → first_of a l b c ≡ None → l ≡ false
not_link true l b c h = cc
not_link false true b c h = cc
not_link false false b c h = refl

asked_is : (a l b c : Bool) (last : Answer × Tree) → asked a l b c last ≡ told (first_of a l b c) last
asked_is true l b c last = refl
asked_is false true b c last = refl
asked_is false false true c last = refl
asked_is false false false true last = refl
asked_is false false false false last = refl

-- what the truncate flag leaves of a node, by its kind
module _ (g : Geometry) (t : Tree) (now n : ℕ) (node : Node) (dir : Directory) (h : File) where
  abbrev cut : Tree
  cut = with_node t n (Some (with_body now (is_file (file_after_resize g h 0)) node))

  abbrev left_by : Bool → Bool → Tree
  left_by flag kind = elim (if kind then is_directory dir else is_file h) [
    | is_file f ↦ if flag then with_node t n (Some (with_body now (is_file (file_after_resize g f 0)) node)) else t
    | is_directory d ↦ t
  ]

  kept_by : (flag kind : Bool) → (flag && not kind) ≡ false → left_by flag kind ≡ t
  kept_by flag true is = refl
  kept_by true false is = cc
  kept_by false false is = refl

  cut_by : (flag kind : Bool) → (flag && not kind) ≡ true → left_by flag kind ≡ cut
  cut_by true false is = refl
  cut_by false kind is = cc
  cut_by true true is = cc

  plain_by : (flag kind : Bool) → (flag && not kind) ≡ true → kind ≡ false
  plain_by flag false is = refl
  plain_by true true is = cc
  plain_by false true is = cc

module _ (g : Geometry) (ok : IsGeometry g) (d : Disk) (t : Tree) (holds : HoldsVolume g d t) (user : User) (now n flags : ℕ) (there : IsTrue (is_some (t.nodes n)))
    (i : Inode) (loaded : i ≡ (pieces g d).inodes n) (why : Option Errno)
    (barred : (node : Node) → IsWhose node (permissions_in i.mode) i.uid i.gid → why ≡ why_barred (is_link_mode i.mode) (is_directory_mode i.mode) (lacks_permission user node flags) flags) where
  abbrev v : Pieces
  v = pieces g d

  abbrev node : Node
  node = node_of g v (v.inodes n)

  abbrev dir : Directory
  dir = directory_of g v (v.inodes n)

  abbrev h : File
  h = file_at g v n

  at : (is_marked g v n ≡ true) × (t.nodes n ≡ Some node)
  at = node_there g d t n holds there

  within : n ≤ g.inodes
  within = leb-true n g.inodes (and_parts (nat_le 1 n) (nat_le n g.inodes) (and_parts (is_inode g n) (v.inode_map n) at.0).0).1

  kind : is_directory_mode i.mode ≡ is_directory_mode (v.inodes n).mode
  kind = ap (λ (j : Inode). is_directory_mode j.mode) loaded

  link : is_link_mode i.mode ≡ node.symbolic
  link = ap (λ (j : Inode). is_link_mode j.mode) loaded

  its_why : why ≡ why_barred node.symbolic (is_dir node) (lacks_permission user node flags) flags
  its_why =
      barred node (record {
        permissions_are = ap (λ (j : Inode). permissions_in j.mode) (sym loaded);
        owner = ap (λ (j : Inode). j.uid) (sym loaded);
        group = ap (λ (j : Inode). j.gid) (sym loaded);
      })
      ∙ ap (λ b. why_barred b (is_directory_mode i.mode) (lacks_permission user node flags) flags) link
      ∙ ap (λ b. why_barred node.symbolic b (lacks_permission user node flags) flags) (kind ∙ sym (kind_is g v n))

  abbrev call : ℕ → Slot → Effect
  call mode slot = open_found g t user now slot flags mode (is_there n)

  abbrev last : Slot → Answer × Tree
  last slot = (descriptor slot.fd, with_open (after_truncate_flag g t now flags n node) slot n flags)

  effect : (mode : ℕ) (slot : Slot) → call mode slot ≡ told why (last slot)
  effect mode slot =
      ap (λ o. refuse_if (creates flags && is_exclusive flags) EEXIST >>= λ _. or_refuse o ENOENT >>= λ x. refuse_if x.symbolic ELOOP >>= λ _.
      refuse_if (is_dir x && writes flags) EISDIR >>= λ _. refuse_if (lacks_permission user x flags) EACCES >>= λ _.
      Ok (descriptor slot.fd, with_open (after_truncate_flag g t now flags n x) slot n flags)) at.1
      ∙ asked_is (creates flags && is_exclusive flags) node.symbolic (is_dir node && writes flags) (lacks_permission user node flags) (last slot)
      ∙ ap (λ o. told o (last slot)) (sym its_why)

  -- it is refused
  pub there_refused : (e : Disk) (errno : Errno) → e ≡ d → why ≡ Some errno → (mode : ℕ) → IsRefused (call mode) d e errno
  there_refused e errno same is mode = record { same = same; refused = λ slot. effect mode slot ∙ ap (λ o. told o (last slot)) is }

  -- a file that is found may change
  pub there_may_change : MayChange g v n
  there_may_change = may_change g ok d t holds n at.0

  module _ (none : why ≡ None) (mode : ℕ) where
    opens : (slot : Slot) → call mode slot ≡ Ok (last slot)
    opens slot = effect mode slot ∙ ap (λ o. told o (last slot)) none

    -- it stays as it is
    pub there_kept : (e : Disk) → e ≡ d → (truncates flags && not (is_directory_mode i.mode)) ≡ false → IsReady g t (call mode) flags d e n
    there_kept e same is = record {
      tree = t;
      opens = λ slot. opens slot ∙ ap (λ (u : Tree). Ok (descriptor slot.fd, with_open u slot n flags))
          (kept_by g t now n node dir h (truncates flags) (is_directory_mode (v.inodes n).mode) (ap (λ b. truncates flags && not b) (sym kind) ∙ is));
      files = record { opened = refl; descriptors = refl };
      within = within;
      stands = subst (λ (z : Disk). Stands g d z t.nodes) (sym same) (nothing_is_done g d t holds);
    }

    -- or it is emptied
    module _ (emptied : (truncates flags && not (is_directory_mode i.mode)) ≡ true) (small : now < 2 ^ 32) (e : Disk)
        (s : SetsSizeAt g n 0 now d e) where
      abbrev new : File
      new = file_after_resize g h 0

      abbrev new_node : Node
      new_node = with_body now (is_file new) node

      its_flag : (truncates flags && not (is_directory_mode (v.inodes n).mode)) ≡ true
      its_flag = ap (λ b. truncates flags && not b) (sym kind) ∙ emptied

      plain : is_directory_mode (v.inodes n).mode ≡ false
      plain = plain_by g t now n node dir h (truncates flags) (is_directory_mode (v.inodes n).mode) its_flag

      body : node.body ≡ is_file h
      body = cond-false (is_directory_mode (v.inodes n).mode) (is_directory dir) (is_file h) plain

      no_link : node.symbolic ≡ false
      no_link = not_link (only_makes flags) node.symbolic (is_dir node && writes flags) (lacks_permission user node flags) (sym its_why ∙ none)

      held : HoldsVolume g e (with_node t n (Some new_node))
      held =
          let became = s.becomes there_may_change in
          volume_changed g ok d t holds n at.0 e (stamped now (v.inodes n)) new s.head became
          (no_directory g ok d t holds n at.0 e (stamped now (v.inodes n)) new s.head became plain)
          new_node
          (λ k. record (node_from (stamped now (v.inodes n)) new) {
            body = if plain k then is_directory (record { parent = entry_inode new.byte 1; names = names_in new.byte (new.size / 64 - 2) }) else is_file new;
          })
          (file_changed g t n now node h new small at.1 body no_link
          (resized_fits g h 0 (omega arith) (file_fits g node h (holds.nodes.tree.nodes.each n node at.1) body)) holds.nodes.tree)

      pub there_emptied : IsReady g t (call mode) flags d e n
      there_emptied = record {
        tree = with_node t n (Some new_node);
        opens = λ slot. opens slot ∙ ap (λ (u : Tree). Ok (descriptor slot.fd, with_open u slot n flags))
            (cut_by g t now n node dir h (truncates flags) (is_directory_mode (v.inodes n).mode) its_flag);
        files = record { opened = refl; descriptors = refl };
        within = within;
        stands = record { head = s.head; sound = held.nodes.sound; nodes = sym held.nodes.nodes };
      }
