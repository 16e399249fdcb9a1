-- readlink, made on a volume.
use Rattle.std.proofs.Common.{◌≡◌, ℕ, List, length, sym, ap, ◌∙◌, Option, Some, None, Ok, Err, true, false}
use Rattle.std.specs.Prelude.{Result}
use Rattle.errno.specs.declared.Errno.{Errno}
use Rattle.errno.specs.declared.Errno.TheVariants.{EINVAL}
use Rattle.layout.specs.declared.Geometry.{Geometry}
use Rattle.tree.specs.declared.PathFrom.{PathFrom}
use Rattle.tree.specs.declared.User.{User}
use Rattle.tree.specs.declared.LinkTarget.{LinkTarget}
use Rattle.tree.specs.Tree.{Tree, target_of}
use Rattle.tree.specs.Refusals.{◌>>=◌, or_refuse}
use Rattle.tree.specs.Walk.{read_path, walk_to_last}
use Rattle.tree.specs.Answers.{Effect, refused, some_bytes, bytes_of_target}
use Rattle.tree.specs.NodeCalls.{readlink}
use Rattle.volume.specs.declared.Inode.{Inode}
use Rattle.volume.specs.Reading.{Disk}
use Rattle.volume.specs.Pieces.{pieces}
use Rattle.volume.specs.Nodes.{file_of, is_link_mode, node_of}
use Rattle.volume.specs.Holds.{HoldsVolume}
use Rattle.file.specs.Reading.{HasFileBytes, read_count}
use Rattle.path.proofs.Entering.{IsHeld}
use Rattle.path.proofs.Targets.{none_of, some_of}
use Rattle.descriptors.specs.Files.{Files, HasFiles}
use Rattle.calls_attributes.specs.Does.{Does}
use Rattle.calls_attributes.specs.Named.{FindsLast, last_walk}
use Rattle.calls_attributes.proofs.Made.{refused_made, looked_made}
use Rattle.calls_attributes.proofs.Naming.{after_read}

-- what is answered of a target, if there is one
abbrev told : Tree → Option (List ℕ) → Effect
told t o = or_refuse o EINVAL >>= λ target. Ok (some_bytes target, t)

-- by the walk
abbrev by_walk : Tree → Result ℕ Errno → Effect
by_walk t r = r >>= λ n. told t (target_of (t.nodes n))

module _ (g : Geometry) (user : User) (path : PathFrom) where
  begun : (t : Tree) → readlink t user path ≡ by_walk t (last_walk t user path)
  begun t = sym (after_read (read_path path) (walk_to_last t user) (λ n. told t (target_of (t.nodes n))))

  -- the walk is refused
  pub readlink_refused : (d e : Disk) (error : Errno) (f : Files) → e ≡ d → FindsLast g d user path (Err error)
      → Does g (λ t. readlink t user path) (refused error) (HasFiles f) (HasFiles f) d e
  readlink_refused d e error f same finds = record {
    each = λ t holds files. refused_made g t (readlink t user path) error (HasFiles f) d e
        (begun t ∙ ap (by_walk t) (finds t holds)) same holds files;
  }

  module _ (d : Disk) (n : ℕ) (i : Inode) (finds : FindsLast g d user path (Ok (n, i))) where
    reached : (t : Tree) → HoldsVolume g d t → (o : Option (List ℕ)) → target_of (t.nodes n) ≡ o → readlink t user path ≡ told t o
    reached t holds o is = begun t ∙ ap (by_walk t) (finds t holds).walked ∙ ap (told t) is

    held : (t : Tree) → HoldsVolume g d t → IsHeld g d t n i
    held t holds =
        let x = finds t holds in
        record { marked = x.marked; loaded = x.loaded; node = x.node ∙ ap (λ (j : Inode). Some (node_of g (pieces g d) j)) (sym x.loaded) }

    -- the node is no link
    pub readlink_plain : (e : Disk) (f : Files) → e ≡ d → is_link_mode i.mode ≡ false
        → Does g (λ t. readlink t user path) (refused EINVAL) (HasFiles f) (HasFiles f) d e
    readlink_plain e f same mode = record {
      each = λ t holds files. refused_made g t (readlink t user path) EINVAL (HasFiles f) d e
          (reached t holds None (none_of g d t n i (held t holds) mode)) same holds files;
    }

    -- or it is one, and these are its bytes
    pub readlink_done : (e : Disk) (f : Files) (x : LinkTarget) → e ≡ d → is_link_mode i.mode ≡ true → x.length ≡ read_count i.size 0 1023
        → length x.bytes ≡ 1023 → HasFileBytes (file_of g (pieces g d) i) 0 x.length x.bytes
        → Does g (λ t. readlink t user path) (some_bytes (bytes_of_target x)) (HasFiles f) (HasFiles f) d e
    readlink_done e f x same mode count long bytes = record {
      each = λ t holds files. looked_made g t (readlink t user path) (some_bytes (bytes_of_target x)) (HasFiles f) d e
          (reached t holds (Some (bytes_of_target x)) (some_of g d t n i x.length x.bytes holds.nodes (held t holds) mode count long bytes))
          same holds files;
    }
