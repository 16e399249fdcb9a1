-- By the law of clean images, a verdict tells whether there is a tree.
use Rattle.std.proofs.Common.{◌≡◌, ◌<◌, ℕ, List, get_or, sym, subst, ◌∙◌, arith, w8, Fits}
use Rattle.std.specs.Prelude.{All}
use Rattle.std.proofs.lemmas.List.{get_or_default}
use Rattle.lemmas.proofs.Lists.{bytes_are_low}
use Rattle.tree.specs.Tree.{Tree}
use Rattle.volume.specs.declared.Finding.{Finding}
use Rattle.volume.specs.Verdict.{Clean, Found, HoldsClosed, verdict_of}
use Rattle.volume.proofs.CleanTree.{clean_is_a_tree}

module _ (image : List ℕ) (fits : (i : ℕ) → Fits w8 (get_or image i 0)) where
  -- a clean image holds a tree
  pub clean_tree : Clean ≡ verdict_of image → (t : Tree) × HoldsClosed image t
  clean_tree is = (clean_is_a_tree image (bytes_are_low image fits)).0 (sym is)

  -- an image with a finding holds none
  pub found_none : (f : Finding) → Found f ≡ verdict_of image → (t : Tree) → ¬ (HoldsClosed image t)
  found_none f is t h = let clean = is ∙ (clean_is_a_tree image (bytes_are_low image fits)).1 (t, h) in cc
