-- The targets of symbolic links, as they are read in an image.
use Rattle.std.proofs.Common.{◌≡◌, ◌≢◌, ◌<◌, ◌≤◌, ◌+◌, ℕ, zero, suc, List, length, take, slice_index, Bool, true, false, refl, sym, ap, ◌∙◌}
use Rattle.std.proofs.Common.{add-one, arith}
use lib.Dec.{eqb}
use Rattle.std.specs.Prelude.{◌&&◌, ◌||◌, ◌==◌, nat_lt}
use Rattle.std.specs.List.{list_any}
use Rattle.std.proofs.lemmas.Bool.{and_left, or_right, eq-eqb, ne_eqb, le-ltb}
use Rattle.std.proofs.lemmas.List.{take_all}
use Rattle.std.proofs.lemmas.List.Folds.{list_any_more}
use Rattle.lemmas.specs.Sums.{some_below}
use Rattle.tree.specs.Tree.{most_target}
use Rattle.volume.specs.declared.Inode.{Inode}
use Rattle.volume.specs.Reading.{is_data_zone}
use Rattle.volume.specs.Nodes.{file_byte, is_marked, page_zone}
use Rattle.volume.specs.Entries.{is_link_inode}
use Rattle.volume.specs.Findings.{has_bad_link, is_bad_link_size}
use Rattle.volume.proofs.Sums.{some_from, same_some}
use Rattle.image.specs.declared.Image.{Image}
use Rattle.image.specs.Targets.{IsTarget}
use Rattle.image.proofs.Contents.{g, v, blank_first, out_of_range}

-- whether one of the first bytes passes
any_first : (p : ℕ → Bool) (xs : List ℕ) (n : ℕ) → n ≤ length xs → list_any p (take n xs) ≡ some_below (λ k. p (slice_index xs k)) n
unfolding some_below
any_first p xs zero h = refl
any_first p xs (suc n) h =
    ap (λ m. list_any p (take m xs)) (sym (add-one n)) ∙ list_any_more p xs n 0 (omega arith)
    ∙ ap (λ b. b || p (slice_index xs n)) (any_first p xs n (omega arith))

-- whether one of all bytes passes
any_below : (p : ℕ → Bool) (xs : List ℕ) → list_any p xs ≡ some_below (λ k. p (slice_index xs k)) (length xs)
any_below p xs = ap (list_any p) (sym (take_all (length xs) xs (omega arith))) ∙ any_first p xs (length xs) (omega arith)

-- no number past the last is a link's
pub past_links : (i : Image) (n : ℕ) → (g i).inodes + 1 ≤ n → is_link_inode (g i) (v i) n ≡ false
past_links i n far = and_left (is_marked (g i) (v i) n) _ (out_of_range i n far)

module _ (i : Image) (n : ℕ) (is : is_link_inode (g i) (v i) n ≡ true) where
  -- the inode
  abbrev x : Inode
  x = (v i).inodes n

  -- it is of no size that a target has
  abbrev size_bad : Bool
  size_bad = is_bad_link_size (g i) (v i) x.size

  -- page 0 isn't held
  abbrev hole : Bool
  hole = page_zone (g i) (v i) x 0 == 0

  -- a byte is zero
  abbrev some_zero : Bool
  some_zero = some_below (λ p. file_byte (g i) (v i) x p == 0) x.size

  -- what holds of a link
  of_link : (b : Bool) → b ≡ is_link_inode (g i) (v i) n && b
  of_link b = sym (ap (λ d. d && b) is)

  -- without a data zone a byte is zero
  pub absent : x.size ≢ 0 → is_data_zone (g i) (page_zone (g i) (v i) x 0) ≡ false → true ≡ has_bad_link (g i) (v i) n
  absent some out =
      let first : 0 < x.size = omega (arith, some) in
      let zero = some_from (λ p. file_byte (g i) (v i) x p == 0) x.size 0 first (eq-eqb _ 0 (blank_first i x first out)) in
      sym (or_right (size_bad || hole) some_zero zero) ∙ of_link (size_bad || hole || some_zero)

  -- with one it is bad where a byte is zero
  pub held : x.size ≢ 0 → x.size ≤ most_target → (bytes : List ℕ) → IsTarget i x bytes
      → list_any (λ c. eqb c 0) bytes ≡ has_bad_link (g i) (v i) n
  held some few bytes target =
      let first : (x.size == 0) ≡ false = ne_eqb x.size 0 some in
      let most : nat_lt most_target x.size ≡ false = le-ltb most_target x.size few in
      let page : hole ≡ false = ne_eqb _ 0 target.held in
      any_below (λ c. c == 0) bytes
      ∙ ap (some_below (λ k. slice_index bytes k == 0)) target.size
      ∙ same_some _ _ x.size (λ k h. ap (λ b. b == 0) (target.each k h))
      ∙ sym (λ j. first j || most j || page j || some_zero)
      ∙ of_link (size_bad || hole || some_zero)
