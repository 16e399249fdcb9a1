-- A node that is opened, at a free number and a free descriptor, leaves a tree a tree.
use Rattle.std.proofs.Common.{◌≡◌, ◌≢◌, ◌<◌, ℕ, false, sym, ap, ◌∙◌, arith}
use mathlib.Core.Logic.{inl, inr}
use Rattle.std.specs.Prelude.{None, Some, is_some, IsTrue, not}
use Rattle.std.proofs.lemmas.Bool.{cases_eq}
use Rattle.lemmas.proofs.Bools.{false_not_true}
use Rattle.lemmas.proofs.Options.{some_same}
use Rattle.layout.specs.declared.Geometry.{Geometry}
use Rattle.tree.specs.Tree.{OpenFile, Tree, opens, is_open, with_open_file, most_sessions, most_descriptors, most_open_files}
use Rattle.tree.specs.Flags.{writes, bad_flags}
use Rattle.tree.specs.IsTree.{IsOpenFile, IsTree}
use Rattle.tree.specs.FileCalls.{Slot, with_open}
use Rattle.lemmas.proofs.Maps.{put-same, put-other, not_nothing}
use Rattle.tree.proofs.Search.{found_below, one_below}
use Rattle.tree.proofs.OpenFiles.{of_put, holder, held, descriptor_cases, at_place, is_at_place, still_held}
use Rattle.tree.proofs.Shapes.{kind_of}

-- a slot that is free
pub record IsFreeSlot (t : Tree) (slot : Slot) : Type 0 where
  pub session : slot.session < most_sessions
  pub fd : slot.fd < most_descriptors
  pub number : slot.number < most_open_files
  pub no_descriptor : t.descriptors slot.session slot.fd ≡ None
  pub no_file : t.open_files slot.number ≡ None

module _ (g : Geometry) (t : Tree) (tree : IsTree g t) (slot : Slot) (free : IsFreeSlot t slot) (n flags : ℕ) (there : IsTrue (is_some (t.nodes n)))
    (good : IsTrue (not (bad_flags flags))) (file : IsTrue (writes flags) → kind_of (t.nodes n) ≡ false) where
  abbrev o : OpenFile
  o = record { inode = n; position = 0; flags = flags }

  abbrev put_file : Tree
  put_file = with_open_file t slot.number (Some o)

  abbrev after : Tree
  after = with_open t slot n flags

  stays : (k : ℕ) → IsTrue (is_some (t.open_files k)) → IsTrue (is_some (after.open_files k))
  stays k h = ap is_some (put-other t.open_files slot.number (Some o) k (λ e. false_not_true (sym (ap is_some (ap t.open_files e ∙ free.no_file)) ∙ h))) ∙ h

  cases_some : (k : ℕ) → k ≢ slot.number → IsTrue (is_some (after.open_files k)) → IsTrue (is_some (t.open_files k))
  cases_some k d h = sym (ap is_some (put-other t.open_files slot.number (Some o) k d)) ∙ h

  still_open : (m : ℕ) → IsTrue (is_open t m) → IsTrue (is_open after m)
  still_open m h =
      let one = one_below (λ k. opens m (t.open_files k)) most_open_files h in
      found_below (λ k. opens m (after.open_files k)) most_open_files one.0 one.1
      (ap (opens m) (put-other t.open_files slot.number (Some o) one.0 (λ e. false_not_true (sym (ap (opens m) (ap t.open_files e ∙ free.no_file)) ∙ one.2))) ∙ one.2)

  pub opened_is_tree : IsTree g after
  opened_is_tree = record {
    nodes = tree.nodes;
    open_files = record {
      numbers = λ k h. elim (cases_eq k slot.number) [ inl e ↦ let within = free.number in omega (arith, e, within) | inr d ↦ tree.open_files.numbers k (cases_some k d h) ];
      each = of_put t.open_files slot.number o (λ k x. IsOpenFile after x)
          (record { node = there; position = omega arith; flags = good; not_a_directory = file })
          (λ k x d e. let old = tree.open_files.each k x e in record { node = old.node; position = old.position; flags = old.flags; not_a_directory = old.not_a_directory });
      descriptors = λ s f k h. elim (descriptor_cases put_file slot.session slot.fd (Some slot.number) s f) [
        | inl at ↦
            let is : slot.number ≡ k = some_same _ _ (sym (is_at_place put_file slot.session slot.fd (Some slot.number) s f at.0 at.1) ∙ h) in
            let s_in = free.session in
            let fd_in = free.fd in
            (omega (arith, s_in, at.0), omega (arith, fd_in, at.1), ap (λ q. is_some (after.open_files q)) (sym is) ∙ ap is_some (put-same t.open_files slot.number (Some o)))
        | inr same ↦ let old = tree.open_files.descriptors s f k (sym same ∙ h) in (old.0, old.1, stays k old.2)
      ];
      in_use = λ k h. elim (cases_eq k slot.number) [
        | inl e ↦ held after.descriptors k (record {
          session = slot.session;
          fd = slot.fd;
          session_in = free.session;
          fd_in = free.fd;
          leads = at_place put_file slot.session slot.fd (Some slot.number) ∙ ap Some (sym e);
        })
        | inr d ↦ held after.descriptors k (still_held put_file slot.session slot.fd (Some slot.number) k (λ e. not_nothing k (sym free.no_descriptor ∙ e)) (holder t.descriptors k (tree.open_files.in_use k (cases_some k d h))))
      ];
    };
    nameless = λ m node e l. still_open m (tree.nameless m node e l);
  }
