-- Close keeps a tree a tree: the descriptor goes, its open file with the last one, and a file without a name with its last open file.
use Rattle.std.proofs.Common.{◌≡◌, ◌≢◌, ℕ, true, false, refl, sym, ap, ◌∙◌}
use mathlib.Core.Logic.{inl, inr}
use Rattle.std.specs.Prelude.{Option, None, Some, is_some, IsTrue}
use Rattle.std.proofs.lemmas.Bool.{cases_eq, cond_both, eqb-true}
use Rattle.lemmas.proofs.Options.{some_same}
use Rattle.lemmas.proofs.Bools.{false_not_true}
use Rattle.layout.specs.declared.Geometry.{Geometry}
use Rattle.tree.specs.declared.Call.TheVariants.{Close}
use Rattle.tree.specs.Tree.{OpenFile, Tree, opens, is_open, has_descriptor, with_open_file, with_descriptor, most_open_files}
use Rattle.tree.specs.IsTree.{IsTree}
use Rattle.tree.specs.Changes.{without_unused, without_nameless}
use Rattle.tree.specs.Keeps.{CloseKeeps}
use Rattle.lemmas.proofs.Maps.{put-same, put-other, not_nothing}
use Rattle.tree.proofs.Search.{found_below, one_below}
use Rattle.tree.proofs.FileOutcomes.{close_each}
use Rattle.tree.proofs.Keeping.{Keeps, keeps_closed, in_session}
use Rattle.tree.proofs.OpenFiles.{holder, held, descriptor_cases, is_at_place, still_held}
use Rattle.tree.proofs.Freed.{IsTreeBut, without_nameless_is_tree}

-- an open file that is of a node
opens_is : (n : ℕ) (o : Option OpenFile) → opens n o ≡ true → (x : OpenFile) × (o ≡ Some x) × (x.inode ≡ n)
opens_is n None h = absurd (false_not_true h)
opens_is n (Some x) h = (x, refl, eqb-true x.inode n h)

module _ (g : Geometry) (t : Tree) (session fd k : ℕ) (o : OpenFile) (led : t.descriptors session fd ≡ Some k) (file : t.open_files k ≡ Some o) (tree : IsTree g t) where
  abbrev less : Tree
  less = with_descriptor t session fd None

  -- a descriptor that is left was there
  was : (s f j : ℕ) → less.descriptors s f ≡ Some j → t.descriptors s f ≡ Some j
  was s f j h = elim (descriptor_cases t session fd None s f) [
    | inl at ↦ absurd (not_nothing j (sym (is_at_place t session fd None s f at.0 at.1) ∙ h))
    | inr same ↦ sym same ∙ h
  ]

  others_held : (j : ℕ) → j ≢ k → IsTrue (is_some (t.open_files j)) → IsTrue (has_descriptor less j)
  others_held j d h = held less.descriptors j (still_held t session fd None j (λ e. d (some_same _ _ (sym e ∙ led))) (holder t.descriptors j (tree.open_files.in_use j h)))

  -- other descriptors are of the open file
  stays : has_descriptor less k ≡ true → IsTreeBut g less o.inode
  stays h = record {
    nodes = tree.nodes;
    open_files = record {
      numbers = tree.open_files.numbers;
      each = λ j x e. let old = tree.open_files.each j x e in record { node = old.node; position = old.position; flags = old.flags; not_a_directory = old.not_a_directory };
      descriptors = λ s f j e. tree.open_files.descriptors s f j (was s f j e);
      in_use = λ j e. elim (cases_eq j k) [ inl is ↦ ap (has_descriptor less) is ∙ h | inr d ↦ others_held j d e ];
    };
    nameless = λ m x e l _. tree.nameless m x e l;
  }

  abbrev unused : Tree
  unused = with_open_file less k None

  left : (j : ℕ) (x : OpenFile) → unused.open_files j ≡ Some x → (j ≢ k) × (t.open_files j ≡ Some x)
  left j x h = elim (cases_eq j k) [
    | inl e ↦ absurd (not_nothing x (sym (ap unused.open_files e ∙ put-same t.open_files k None) ∙ h))
    | inr d ↦ (d, sym (put-other t.open_files k None j d) ∙ h)
  ]

  some_left : (j : ℕ) → IsTrue (is_some (unused.open_files j)) → (j ≢ k) × IsTrue (is_some (t.open_files j))
  some_left j h = elim (cases_eq j k) [
    | inl e ↦ absurd (false_not_true (sym (ap (λ q. is_some (unused.open_files q)) e ∙ ap is_some (put-same t.open_files k None)) ∙ h))
    | inr d ↦ (d, ap is_some (sym (put-other t.open_files k None j d)) ∙ h)
  ]

  still_open : (m : ℕ) → m ≢ o.inode → IsTrue (is_open t m) → IsTrue (is_open unused m)
  still_open m d h =
      let one = one_below (λ j. opens m (t.open_files j)) most_open_files h in
      let it = opens_is m (t.open_files one.0) one.2 in
      found_below (λ j. opens m (unused.open_files j)) most_open_files one.0 one.1
      (ap (opens m) (put-other t.open_files k None one.0 (λ e. d (sym it.2 ∙ ap (λ y. y.inode) (some_same _ _ (sym it.1 ∙ ap t.open_files e ∙ file))))) ∙ one.2)

  goes : has_descriptor less k ≡ false → IsTreeBut g unused o.inode
  goes h = record {
    nodes = tree.nodes;
    open_files = record {
      numbers = λ j e. tree.open_files.numbers j (some_left j e).1;
      each = λ j x e. let old = tree.open_files.each j x (left j x e).1 in record { node = old.node; position = old.position; flags = old.flags; not_a_directory = old.not_a_directory };
      descriptors = λ s f j e.
          let old = tree.open_files.descriptors s f j (was s f j e) in (
            old.0,
            old.1,
            ap is_some (put-other t.open_files k None j (λ is.
                false_not_true (sym h ∙ held less.descriptors k (record { session = s; fd = f; session_in = old.0; fd_in = old.1; leads = e ∙ ap Some is })))) ∙ old.2,
          );
      in_use = λ j e. let it = some_left j e in others_held j it.0 it.1;
    };
    nameless = λ m x e l d. still_open m d (tree.nameless m x e l);
  }

  pub closed : IsTree g (without_nameless (without_unused less k) o.inode)
  closed = without_nameless_is_tree g (without_unused less k) o.inode (cond_both (has_descriptor less k) less unused (λ u. IsTreeBut g u o.inode) stays goes)

-- close
pub close_keeps : CloseKeeps
close_keeps g t who now fd tree = in_session g t who now (Close fd) tree (λ _.
    close_each t who.session (Keeps g t) (keeps_closed g t tree) fd (λ found opened.
    closed g t who.session fd found.0 found.1 opened.descriptor opened.file tree))
