-- Rename keeps a tree a tree.
use Rattle.std.proofs.Common.{◌≡◌, ◌≢◌, ◌<◌, ◌^◌, ℕ, true, false, sym, ap, subst, ◌∙◌}
use mathlib.Core.Logic.{inl, inr}
use Rattle.std.specs.Prelude.{None, is_some, not, ◌&&◌}
use Rattle.std.specs.List.{All}
use Rattle.std.proofs.lemmas.Bool.{cases_Bool, cond-true, cond-false, not-false, not_from_false}
use Rattle.lemmas.proofs.Bools.{and_false_right}
use Rattle.layout.specs.declared.Geometry.{Geometry}
use Rattle.layout.specs.Places.{IsGeometry}
use Rattle.tree.specs.declared.PathFrom.{PathFrom}
use Rattle.tree.specs.declared.User.{User}
use Rattle.tree.specs.declared.Call.TheVariants.{Rename}
use Rattle.tree.specs.Names.{is_name}
use Rattle.tree.specs.Tree.{Node, Tree, is_dir, is_open, with_node, on_node}
use Rattle.tree.specs.IsTree.{IsTree, above}
use Rattle.tree.specs.Walk.{Place}
use Rattle.tree.specs.Changes.{fewer_links}
use Rattle.tree.specs.Answers.{done, if_it_fits}
use Rattle.tree.specs.NameCalls.{is_within, is_empty, with_name_lost, without_moved, with_moved, without_replaced, rename}
use Rattle.tree.specs.Effects.{user_of}
use Rattle.tree.specs.Keeps.{RenameKeeps}
use Rattle.tree.proofs.Steps.{tree_after}
use Rattle.tree.proofs.Places.{IsPlace, is_place}
use Rattle.tree.proofs.Shapes.{kind_of, shape_of}
use Rattle.tree.proofs.TreeOver.{place_kind}
use Rattle.tree.proofs.NewPlaces.{last_named}
use Rattle.tree.proofs.Gone.{empty_weighs}
use Rattle.tree.proofs.Pigeonhole.{never_above}
use Rattle.tree.proofs.RenameOutcomes.{IsMove, IsMoveToFree, IsMoveOnto, rename_each}
use Rattle.tree.proofs.MovedFile.{file_moved, file_moved_onto}
use Rattle.tree.proofs.MovedTree.{directory_moved, directory_moved_onto}
use Rattle.tree.proofs.Keeping.{Keeps, keeps_closed, as_it_is, in_session, taken_if_it_fits}

module _ (g : Geometry) (t : Tree) (user : User) (now : ℕ) (old_path new_path : PathFrom) (is : IsGeometry g) (small : now < 2 ^ 32)
    (bytes : All (λ b. b < 256) new_path.bytes.now) (tree : IsTree g t) where
  is_named : (old new : Place) (n : ℕ) (node : Node) → IsMove g t user now old_path new_path (Keeps g t) (keeps_closed g t tree) old new n node → is_name new.name ≡ true
  is_named old new n node move = last_named t user new_path move.new_parts new bytes move.read move.to move.last

  not_below : (new : Place) → IsPlace t new → (n : ℕ) (node : Node) → (is_dir node && is_within g t new.directory n) ≡ false → is_dir node ≡ true
      → (k : ℕ) → above t.nodes k new.directory ≢ n
  not_below new to n node within directory =
      never_above g t (shape_of g t.nodes tree.nodes) new.directory n (place_kind t new to) (and_false_right (is_dir node) (is_within g t new.directory n) within directory)

  to_free : (old new : Place) (n : ℕ) (node : Node) → IsMoveToFree g t user now old_path new_path (Keeps g t) (keeps_closed g t tree) old new n node
      → IsTree g (tree_after t (if_it_fits g done (with_moved (without_moved t now old node) now new n node)))
  to_free old new n node made =
      let move = made.move in
      let from = is_place t user move.old_parts old move.from in
      let to = is_place t user move.new_parts new move.to in
      let named = is_named old new n node move in
      taken_if_it_fits g t done (with_moved (without_moved t now old node) now new n node) tree (λ fits. elim (cases_Bool (is_dir node)) [
        | inl directory ↦ directory_moved g is t tree now small old new from to n node move.there move.found directory named
            (not_below new to n node made.not_within directory) made.free made.parent made.parent_there made.room fits
        | inr file ↦ file_moved g is t tree now small old new from to n node move.there move.found file named made.free fits
      ])

  onto : (old new : Place) (n : ℕ) (node : Node) (q : ℕ) (other : Node) → IsMoveOnto g t user now old_path new_path (Keeps g t) (keeps_closed g t tree) old new n node q other
      → IsTree g (tree_after t (if_it_fits g done (without_replaced (with_moved (without_moved t now old node) now new n node) now new q other)))
  onto old new n node q other made =
      let move = made.move in
      let from = is_place t user move.old_parts old move.from in
      let to = is_place t user move.new_parts new move.to in
      let named = is_named old new n node move in
      let moved = with_moved (without_moved t now old node) now new n node in
      let gone = with_node (on_node moved new.directory (fewer_links 1)) q None in
      let lost = with_name_lost moved now q in
      elim (cases_Bool (is_dir node)) [
        | inl directory ↦
            let other_directory = not-false _ (and_false_right (is_dir node) (not (is_dir other)) made.can.directory_onto directory) in
            let empty = not-false _ (and_false_right (is_dir other) (not (is_empty other)) made.can.empty other_directory) in
            let closed = and_false_right (is_dir other) (is_open t q) made.can.closed other_directory in
            subst (λ u. IsTree g (tree_after t (if_it_fits g done u))) (sym (cond-true (is_dir other) gone lost other_directory))
            (taken_if_it_fits g t done gone tree
            (directory_moved_onto g is t tree now small old new from to n node move.there move.found directory named
            (not_below new to n node made.not_within directory) q made.differs made.taken (ap kind_of made.other_there ∙ other_directory)
            (empty_weighs t q other made.other_there empty) closed))
        | inr file ↦
            let other_file = and_false_right (not (is_dir node)) (is_dir other) made.can.file_onto (not_from_false _ file) in
            subst (λ u. IsTree g (tree_after t (if_it_fits g done u))) (sym (cond-false (is_dir other) gone lost other_file))
            (taken_if_it_fits g t done lost tree
            (file_moved_onto g is t tree now small old new from to n node move.there move.found file named q made.differs made.taken
            (ap is_some made.other_there) (ap kind_of made.other_there ∙ other_file)))
      ]

-- rename
pub rename_keeps : RenameKeeps
rename_keeps g t who now old new is small bytes tree = in_session g t who now (Rename old new) tree (λ _.
    as_it_is g t (λ h. rename h t (user_of who) now old new)
    (rename_each g t (user_of who) now old new (Keeps g t) (keeps_closed g t tree) tree
    (to_free g t (user_of who) now old new is small bytes tree) (onto g t (user_of who) now old new is small bytes tree)))
