-- What stands against a move.
use Rattle.std.proofs.Common.{◌≡◌, ◌≤◌, ℕ, Bool, true, false, Option, Some, None, Err, refl, sym, ap, subst, ◌∙◌}
use Rattle.std.specs.Prelude.{not, ◌&&◌, ◌==◌, nat_le, option_map, if◌then◌else◌}
use Rattle.lemmas.proofs.Options.{some_same}
use Rattle.errno.specs.declared.Errno.{Errno}
use Rattle.errno.specs.declared.Errno.TheVariants.{EBUSY, EINVAL, EISDIR, EMLINK, ENOENT, ENOTDIR, ENOTEMPTY}
use Rattle.layout.specs.declared.Geometry.{Geometry}
use Rattle.layout.specs.Places.{IsGeometry}
use Rattle.tree.specs.Tree.{Node, Tree, is_dir, is_open, most_links}
use Rattle.tree.specs.Refusals.{◌>>=◌, or_refuse, refuse_if}
use Rattle.tree.specs.Answers.{Effect}
use Rattle.tree.specs.NameCalls.{can_replace, has_room_for_link, is_empty, is_within}
use Rattle.lemmas.proofs.Maps.{not_nothing}
use Rattle.volume.specs.declared.Inode.{Inode}
use Rattle.volume.specs.Reading.{Disk}
use Rattle.volume.specs.Pieces.{Pieces, pieces}
use Rattle.volume.specs.Nodes.{is_directory_mode}
use Rattle.volume.specs.Holds.{HoldsVolume}
use Rattle.calls_rename.specs.Within.{SaysWithin}
use Rattle.descriptors.specs.Files.{Files, HasFiles, tree_with}
use Rattle.inode_operations.proofs.Between.{kind_is}
use Rattle.inode_operations.proofs.CallLawsEnding.{open_by_files}
use Rattle.inode_operations.specs.declared.moves.Move.{Move}
use Rattle.calls_rename.specs.declared.asked.Asked.{Asked}
use Rattle.calls_rename.specs.Asked.{AreFound, Rest, moving_at, new_at, old_at}
use Rattle.calls_rename.specs.Barred.{MayMoveOr, SaysBarred, SaysInside, Then, on_move, onto, other_at, why_full, why_kept}
use Rattle.calls_rename.proofs.Standing.{moving_kind, other_empty, other_low, other_there, to_is_dir}

-- Whether it would lie in itself.
pub file_inside : (g : Geometry) (d : Disk) (m : Move) → m.is_directory ≡ false → SaysInside g d m false
file_inside g d m is t holds dir = sym (ap (λ b. b && is_within g t m.to m.number) is)

pub asked_inside : (g : Geometry) (d : Disk) (m : Move) (b : Bool) → m.is_directory ≡ true → SaysWithin g d m.to m.number b → SaysInside g d m b
asked_inside g d m b is says t holds dir = says t holds dir ∙ sym (ap (λ k. k && is_within g t m.to m.number) is)

-- a refusal, if there is one
abbrev or_else : Effect → Option Errno → Effect
or_else effect None = effect
or_else effect (Some e) = Err e

-- the four tests of what loses its name
tests : (k s z o : Bool) (effect : Effect)
    → ((refuse_if (k && not s) ENOTDIR >>= λ _. refuse_if (not k && s) EISDIR >>= λ _. refuse_if (s && not z) ENOTEMPTY >>= λ _. refuse_if (s && o) EBUSY) >>= λ _. effect)
    ≡ or_else effect (if k && not s then Some ENOTDIR else if not k && s then Some EISDIR else if s && not z then Some ENOTEMPTY else if s && o then Some EBUSY else None)
tests true false z o effect = refl
tests false true z o effect = refl
tests false false z o effect = refl
tests true true false o effect = refl
tests true true true true effect = refl
tests true true true false effect = refl

-- whether it has names is asked of directories alone
asked_of : (s z w : Bool) → (s ≡ true → z ≡ w) → (s && not z) ≡ (s && not w)
asked_of false z w h = refl
asked_of true z w h = ap not (h refl)

-- what passes them is of the same kind
alike : (k s z o : Bool) → (if k && not s then Some ENOTDIR else if not k && s then Some EISDIR else if s && not z then Some ENOTEMPTY else if s && o then Some EBUSY else None) ≡ None
    → s ≡ k
alike true true z o e = refl
alike false false z o e = refl
alike true false z o e = absurd (not_nothing ENOTDIR (sym e))
alike false true z o e = absurd (not_nothing EISDIR (sym e))

module _ (g : Geometry) (f : Files) (d : Disk) (x : Asked) where
  abbrev v : Pieces
  v = pieces g d

  abbrev moves : Node
  moves = moving_at g d x

  abbrev going : Tree → Then → Effect
  going t rest = on_move g t (old_at g d x) (new_at g d x) x.what.number moves x.there rest

  module _ (b : Bool) (says : SaysInside g d x.what b) where
    inside : (t : Tree) (on : Rest → Effect) → HoldsVolume g d t → AreFound g d t on x → (is_dir moves && is_within g t x.what.to x.what.number) ≡ b
    inside t on holds y = ap (λ k. k && is_within g t x.what.to x.what.number) (moving_kind g d x t on holds y) ∙ sym (says t holds.nodes (to_is_dir g d x t on holds y))

    begun : (t : Tree) (on : Rest → Effect) → HoldsVolume g d t → AreFound g d t on x → (rest : Then)
        → going t rest ≡ (refuse_if b EINVAL >>= λ _. onto t (old_at g d x) (new_at g d x) moves x.there rest)
    begun t on holds y rest = ap (λ c. refuse_if c EINVAL >>= λ _. onto t (old_at g d x) (new_at g d x) moves x.there rest) (inside t on holds y)

  -- it would
  pub in_itself : SaysInside g d x.what true → SaysBarred g f d x (Some EINVAL)
  in_itself says t on holds files y rest = begun true says t on holds y rest

  module _ (says : SaysInside g d x.what false) where
    -- nothing has the new name
    module _ (is : x.there ≡ None) where
      abbrev is_full : Bool
      is_full = x.what.is_directory && not (x.what.from == x.what.to) && nat_le most_links x.to.links

      at_free : (t : Tree) (on : Rest → Effect) → HoldsVolume g d t → AreFound g d t on x → (rest : Then) (b : Bool) → is_full ≡ b
          → going t rest ≡ (refuse_if b EMLINK >>= λ _. rest None)
      at_free t on holds y rest b full =
          begun false says t on holds y rest
          ∙ ap (λ (o : Option ℕ). onto t (old_at g d x) (new_at g d x) moves o rest) is
          ∙ ap (λ (o : Option Node). or_refuse o ENOENT >>= λ parent. has_room_for_link moves x.what.from x.what.to parent >>= λ _. rest None) y.to_there
          ∙ ap (λ k. refuse_if (k && not (x.what.from == x.what.to) && nat_le most_links x.to.links) EMLINK >>= λ _. rest None) (moving_kind g d x t on holds y)
          ∙ ap (λ k. refuse_if k EMLINK >>= λ _. rest None) full

      by_full : (t : Tree) (on : Rest → Effect) → HoldsVolume g d t → AreFound g d t on x → (b : Bool) → is_full ≡ b → MayMoveOr g d t x (if b then Some EMLINK else None)
      by_full t on holds y true full = λ rest. at_free t on holds y rest true full
      by_full t on holds y false full = record {
        apart = inside false says t on holds y;
        kind = λ q there. absurd (not_nothing q (sym is ∙ there));
        goes_on = λ rest. at_free t on holds y rest false full ∙ sym (ap (λ (o : Option ℕ). rest (option_map (other_at g d) o)) is);
      }

      pub at_free_name : (r : Option Errno) → r ≡ why_full x → SaysBarred g f d x r
      at_free_name r why t on holds files y = subst (λ (o : Option Errno). MayMoveOr g d t x o) (sym why) (by_full t on holds y is_full refl)

    -- node q has it
    module _ (ok : IsGeometry g) (q : ℕ) (is : x.there ≡ Some q) (i : Inode) (loaded : i ≡ v.inodes q) where
      abbrev other : Node
      other = other_at g d q

      other_kind : is_dir other ≡ is_directory_mode i.mode
      other_kind = kind_is g v q ∙ ap (λ (j : Inode). is_directory_mode j.mode) (sym loaded)

      at_taken : (t : Tree) (on : Rest → Effect) → HoldsVolume g d t → HasFiles f t → AreFound g d t on x → (rest : Then)
          → going t rest ≡ or_else (rest (Some other)) (why_kept f x.what.is_directory q i)
      at_taken t on holds files y rest =
          let k = x.what.is_directory in
          let s = is_directory_mode i.mode in
          let next : Effect = rest (Some other) in
          begun false says t on holds y rest
          ∙ ap (λ (o : Option ℕ). onto t (old_at g d x) (new_at g d x) moves o rest) is
          ∙ ap (λ (o : Option Node). or_refuse o ENOENT >>= λ n. can_replace t moves q n >>= λ _. rest (Some n)) (other_there g d x t on holds y q is)
          ∙ ap (λ b. (refuse_if (b && not (is_dir other)) ENOTDIR >>= λ _. refuse_if (not b && is_dir other) EISDIR >>= λ _. refuse_if (is_dir other && not (is_empty other)) ENOTEMPTY
          >>= λ _. refuse_if (is_dir other && is_open t q) EBUSY) >>= λ _. next) (moving_kind g d x t on holds y)
          ∙ ap (λ b. (refuse_if (k && not (is_dir other)) ENOTDIR >>= λ _. refuse_if (not k && is_dir other) EISDIR >>= λ _. refuse_if b ENOTEMPTY
          >>= λ _. refuse_if (is_dir other && is_open t q) EBUSY) >>= λ _. next)
          (asked_of (is_dir other) (is_empty other) (i.size == 128) (λ dir. other_empty g d x t on holds y q is ok dir ∙ ap (λ (j : Inode). j.size == 128) (sym loaded)))
          ∙ ap (λ b. (refuse_if (k && not b) ENOTDIR >>= λ _. refuse_if (not k && b) EISDIR >>= λ _. refuse_if (b && not (i.size == 128)) ENOTEMPTY
          >>= λ _. refuse_if (b && is_open t q) EBUSY) >>= λ _. next) other_kind
          ∙ ap (λ b. (refuse_if (k && not s) ENOTDIR >>= λ _. refuse_if (not k && s) EISDIR >>= λ _. refuse_if (s && not (i.size == 128)) ENOTEMPTY
          >>= λ _. refuse_if (s && b) EBUSY) >>= λ _. next) (open_by_files f t q files)
          ∙ tests k s (i.size == 128) (is_open (tree_with f) q) next

      by_kept : (t : Tree) (on : Rest → Effect) → HoldsVolume g d t → HasFiles f t → AreFound g d t on x → (r : Option Errno) → why_kept f x.what.is_directory q i ≡ r
          → MayMoveOr g d t x r
      by_kept t on holds files y (Some e) why = λ rest. at_taken t on holds files y rest ∙ ap (or_else (rest (Some other))) why
      by_kept t on holds files y None why = record {
        apart = inside false says t on holds y;
        kind = λ p there.
            subst (λ (n : ℕ). is_dir (other_at g d n) ≡ x.what.is_directory) (some_same q p (sym is ∙ there))
            (other_kind ∙ alike x.what.is_directory (is_directory_mode i.mode) (i.size == 128) (is_open (tree_with f) q) why);
        goes_on = λ rest.
            at_taken t on holds files y rest ∙ ap (or_else (rest (Some other))) why ∙ sym (ap (λ (o : Option ℕ). rest (option_map (other_at g d) o)) is);
      }

      pub at_taken_name : (r : Option Errno) → (q ≤ 65535 → r ≡ why_kept f x.what.is_directory q i) → SaysBarred g f d x r
      at_taken_name r why t on holds files y = by_kept t on holds files y r (sym (why (other_low g d x t on holds y q is ok)))
