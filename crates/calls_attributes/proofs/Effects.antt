-- What the calls on the attributes of a node do.
use Rattle.std.proofs.Common.{◌≡◌, ℕ, Bool, true, false, sym, ap, subst, ◌∙◌, Some, Ok, Err}
use Rattle.std.specs.Prelude.{IsTrue, Result}
use Rattle.errno.specs.declared.Errno.{Errno}
use Rattle.errno.specs.declared.Errno.TheVariants.{EPERM, ENOENT}
use Rattle.layout.specs.declared.Geometry.{Geometry}
use Rattle.layout.specs.Places.{IsGeometry}
use Rattle.tree.specs.declared.PathFrom.{PathFrom}
use Rattle.tree.specs.declared.User.{User}
use Rattle.tree.specs.Tree.{Body, is_file, is_directory, Node, Tree, is_dir, names_of, parent_of, with_node}
use Rattle.tree.specs.IsTree.{IsNode, IsTree}
use Rattle.tree.specs.Refusals.{◌>>=◌, or_refuse, refuse_if}
use Rattle.tree.specs.Walk.{walk, node_at}
use Rattle.tree.specs.Answers.{Effect, done, refused}
use Rattle.tree.proofs.Kept.{kept}
use Rattle.volume.specs.declared.Inode.{Inode}
use Rattle.volume.specs.Reading.{Disk, is_inode}
use Rattle.volume.specs.Pieces.{pieces}
use Rattle.volume.specs.Nodes.{is_mode, is_directory_mode, node_of}
use Rattle.volume.specs.Holds.{HoldsVolume}
use Rattle.descriptors.specs.Files.{Files, HasFiles}
use Rattle.block_store.specs.Volume.{Alters}
use Rattle.inode.specs.Table.{with_inode}
use Rattle.zone.specs.ZoneSteps.{node_from}
use Rattle.zone.proofs.ZoneInodes.{inode_is}
use Rattle.calls_attributes.specs.Does.{Does, IsHeld}
use Rattle.calls_attributes.proofs.Made.{refused_made, granted_made}
use Rattle.file.specs.PageChanges.{file_at}
use Rattle.calls_attributes.specs.Named.{IsVolume, Finds}
use Rattle.calls_attributes.proofs.Volumes.{attributes_changed}

-- a node that is the same but for its attributes
pub same_body : (g : Geometry) (t : Tree) (n : ℕ) (node changed : Node) → IsTree g t → t.nodes n ≡ Some node → changed.body ≡ node.body → changed.links ≡ node.links
    → IsNode g changed → IsTree g (with_node t n (Some changed))
same_body g t n node changed tree there body links fits =
    kept g t n node changed there
    (ap (λ b. is_dir (record node { body = b })) body) (ap (λ b. names_of (Some (record node { body = b }))) body) (ap (λ b. parent_of (Some (record node { body = b }))) body)
    links fits tree

-- a tree is held
pub volume_of : (g : Geometry) (d : Disk) (f : Files) → IsHeld g (HasFiles f) d → IsVolume g d
volume_of g d f h = record { tree = h.tree; holds = h.holds }

-- files stay open
pub files_stay : (f : Files) (t : Tree) (n : ℕ) (node : Node) → HasFiles f t → HasFiles f (with_node t n (Some node))
files_stay f t n node h = record { opened = h.opened; descriptors = h.descriptors }

-- a call that a node's owner may make, and changes the node
abbrev pub changing : User → PathFrom → (Node → Bool) → (Node → Node) → Tree → Effect
changing user path barred change t = walk t user path >>= λ n. node_at t n >>= λ node. refuse_if (barred node) EPERM >>= λ _. Ok (done, with_node t n (Some (change node)))

module _ (g : Geometry) (user : User) (path : PathFrom) (barred : Node → Bool) (change : Node → Node) where
  abbrev step : Tree → ℕ → Node → Effect
  step t n node = refuse_if (barred node) EPERM >>= λ _. Ok (done, with_node t n (Some (change node)))

  -- the walk is refused
  pub walk_refused : (d e : Disk) (error : Errno) (f : Files) → e ≡ d → Finds g d user path (Err error)
      → Does g (changing user path barred change) (refused error) (HasFiles f) (HasFiles f) d e
  walk_refused d e error f same finds = record {
    each = λ t holds files. refused_made g t (changing user path barred change t) error (HasFiles f) d e
        (ap (λ (r : Result ℕ Errno). r >>= λ n. node_at t n >>= step t n) (finds t holds)) same holds files;
  }

  module _ (d : Disk) (n : ℕ) (i : Inode) (finds : Finds g d user path (Ok (n, i))) where
    reached : (t : Tree) (holds : HoldsVolume g d t) → changing user path barred change t ≡ step t n (node_of g (pieces g d) ((pieces g d).inodes n))
    reached t holds =
        let x = finds t holds in
        ap (λ (r : Result ℕ Errno). r >>= λ n. node_at t n >>= step t n) x.walked ∙ ap (λ o. or_refuse o ENOENT >>= step t n) x.node

    -- the number is an inode's
    pub is_number : (f : Files) → IsHeld g (HasFiles f) d → IsTrue (is_inode g n)
    is_number f h = inode_is g (pieces g d) n (finds h.tree h.holds).marked

    -- the user is
    pub right_refused : (e : Disk) (f : Files) → e ≡ d → ((node : Node) → node.uid ≡ i.uid → barred node ≡ true)
        → Does g (changing user path barred change) (refused EPERM) (HasFiles f) (HasFiles f) d e
    right_refused e f same right = record {
      each = λ t holds files.
          let x = finds t holds in
          refused_made g t (changing user path barred change t) EPERM (HasFiles f) d e
          (reached t holds ∙ ap (λ b. refuse_if b EPERM >>= λ _. Ok (done, with_node t n (Some (change (node_of g (pieces g d) ((pieces g d).inodes n))))))
          (right _ (ap (λ (j : Inode). j.uid) (sym x.loaded)))) same holds files;
    }

    -- the node is changed
    pub node_changed : (x e : Disk) (f : Files) (edit : Inode → Inode) → IsGeometry g → x ≡ d → ((node : Node) → node.uid ≡ i.uid → barred node ≡ false)
        → ((j : Inode) → (edit j).size ≡ j.size) → ((j : Inode) → (edit j).zones ≡ j.zones) → ((j : Inode) → IsTrue (is_mode j.mode) → IsTrue (is_mode (edit j).mode))
        → ((j : Inode) → is_directory_mode (edit j).mode ≡ is_directory_mode j.mode)
        → ((j : Inode) (b : Rattle.tree.specs.Tree.File) → node_from (edit j) b ≡ change (node_from j b))
        → ((t : Tree) (node : Node) → IsTree g t → t.nodes n ≡ Some node → IsTree g (with_node t n (Some (change node))))
        → Alters g (with_inode (pieces g x) n (edit i)) x e
        → Does g (changing user path barred change) done (HasFiles f) (HasFiles f) d e
    node_changed x e f edit ok same right size zones mode kind node keeps a = record {
      each = λ t holds files.
          let y = finds t holds in
          let v = pieces g d in
          let old = node_of g v (v.inodes n) in
          granted_made g t (with_node t n (Some (change old))) (changing user path barred change t) done (HasFiles f) e
          (reached t holds ∙ ap (λ b. refuse_if b EPERM >>= λ _. Ok (done, with_node t n (Some (change old)))) (right old (ap (λ (j : Inode). j.uid) (sym y.loaded))))
          (attributes_changed g ok d t holds n y.marked x e (edit (v.inodes n)) same (size (v.inodes n)) (zones (v.inodes n))
          (mode (v.inodes n) (holds.nodes.sound.inodes n y.marked).mode) (kind (v.inodes n))
          (subst (λ (j : Inode). Alters g (with_inode (pieces g x) n (edit j)) x e) y.loaded a)
          (change old) (node (v.inodes n) (file_at g v n)) (keeps t old holds.nodes.tree y.node))
          (files_stay f t n (change old) files);
    }
