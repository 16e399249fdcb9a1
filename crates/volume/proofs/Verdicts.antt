-- The verdict on an image is its least finding.
use Rattle.std.proofs.Common.{◌≡◌, ◌≤◌, ℕ, List, Bool, false, refl, sym, ap, subst, ◌∙◌, arith}
use mathlib.Core.Logic.{◌⊎◌, inl, inr}
use Rattle.std.specs.Prelude.{◌==◌, ◌&&◌, nat_le, nat_lt, Result, Ok, Err}
use Rattle.std.proofs.lemmas.Bool.{ne_eqb, eq-eqb, and_left, and_right, leb-true, ltb-true, false_from_ne_true}
use Rattle.layout.specs.declared.Geometry.{Geometry}
use Rattle.layout.specs.declared.LayoutRefusal.{LayoutRefusal}
use Rattle.layout.specs.Places.{geometry_of, refusal_number}
use Rattle.layout.proofs.Parsed.{geometry_fits}
use Rattle.volume.specs.Reading.{disk_of, is_inode, is_data_zone}
use Rattle.volume.specs.Pieces.{Pieces, pieces}
use Rattle.volume.specs.Nodes.{is_marked, is_directory_mode, is_link_mode}
use Rattle.volume.specs.Entries.{is_directory_inode, is_link_inode}
use Rattle.volume.specs.Verdict.{Verdict, Clean, Found, Test, found, tests, place_limit, verdict_of_pieces}
use Rattle.volume.specs.IsVerdict.{is_true_at, is_finding, IsVerdict, VerdictIsLeast}
use Rattle.volume.proofs.Least.{IsWithin, no_test, ◌⨾◌, IsFirstOf, first_is_least}

module _ (g : Geometry) (v : Pieces) (some_inode : 1 ≤ g.inodes) where
  -- no inode has a number so great
  unmarked : (n : ℕ) → place_limit g ≤ n → is_marked g v n ≡ false
  unmarked n h = and_left (is_inode g n) (v.inode_map n)
      (and_right (nat_le 1 n) (nat_le n g.inodes) (false_from_ne_true (nat_le n g.inodes) (λ e. let under = leb-true n g.inodes e in omega arith)))

  -- so none is a directory
  no_directory : (n : ℕ) → place_limit g ≤ n → is_directory_inode g v n ≡ false
  no_directory n h = and_left (is_marked g v n) (is_directory_mode (v.inodes n).mode) (unmarked n h)

  -- nor a link
  no_link : (n : ℕ) → place_limit g ≤ n → is_link_inode g v n ≡ false
  no_link n h = and_left (is_marked g v n) (is_link_mode (v.inodes n).mode) (unmarked n h)

  -- nor a data zone
  no_zone : (z : ℕ) → place_limit g ≤ z → is_data_zone g z ≡ false
  no_zone z h = and_right (nat_le g.first_zone z) (nat_lt z g.zones) (false_from_ne_true (nat_lt z g.zones) (λ e. let under = ltb-true z g.zones e in omega arith))

  -- so no finding is true there
  tests_within : IsWithin (place_limit g) (tests g v)
  tests_within =
      (λ p h. and_left (p == 0) _ (ne_eqb p 0 (λ e. omega arith)))
      ⨾ (λ p h. and_left (p == 0) _ (ne_eqb p 0 (λ e. omega arith)))
      ⨾ (λ p h. and_left (p == 1) _ (ne_eqb p 1 (λ e. omega arith)))
      ⨾ (λ p h. and_left (is_marked g v p) _ (unmarked p h))
      ⨾ (λ p h. and_left (is_marked g v p) _ (unmarked p h))
      ⨾ (λ p h. and_left (is_marked g v p) _ (unmarked p h))
      ⨾ (λ p h. and_left (is_data_zone g p) _ (no_zone p h))
      ⨾ (λ p h. and_left (is_data_zone g p) _ (no_zone p h))
      ⨾ (λ p h. and_left (is_marked g v p) _ (unmarked p h))
      ⨾ (λ p h. and_left (is_directory_inode g v p) _ (no_directory p h))
      ⨾ (λ p h. and_left (is_directory_inode g v p) _ (no_directory p h))
      ⨾ (λ p h. and_left (is_directory_inode g v p) _ (no_directory p h))
      ⨾ (λ p h. and_left (is_directory_inode g v p) _ (no_directory p h))
      ⨾ (λ p h. and_left (is_directory_inode g v p) _ (no_directory p h))
      ⨾ (λ p h. and_left (is_marked g v p) _ (unmarked p h))
      ⨾ (λ p h. and_left (is_link_inode g v p) _ (no_link p h))
      ⨾ no_test

-- an image is refused or read
either : (r : Result Geometry LayoutRefusal) → ((refusal : LayoutRefusal) × (r ≡ Err refusal)) ⊎ ((g : Geometry) × (r ≡ Ok g))
either (Err refusal) = inl (refusal, refl)
either (Ok g) = inr (g, refl)

-- where the findings of an image are those of some tests, the least of them is its verdict
from_tests : (image : List ℕ) (k : ℕ) (ts : List Test) → ((number place : ℕ) → is_finding image number place ≡ is_true_at k ts number place)
    → (v : Verdict) → IsFirstOf k ts v → IsVerdict image v
from_tests image k ts same Clean h = λ number place. same number place ∙ h number place
from_tests image k ts same (Found f) h = record {
  true_there = same f.number f.place ∙ h.true_there;
  no_lesser_number = λ number place under. same number place ∙ h.no_lesser_number number place under;
  no_lesser_place = λ place under. same f.number place ∙ h.no_lesser_place place under;
}

-- the verdict, by what the layout says
abbrev verdict_by : List ℕ → Result Geometry LayoutRefusal → Verdict
verdict_by image r = elim r [ Err refusal ↦ found 1 (refusal_number refusal) | Ok g ↦ verdict_of_pieces g (pieces g (disk_of g image)) ]

-- the findings, by what the layout says
abbrev finding_by : List ℕ → ℕ → ℕ → Result Geometry LayoutRefusal → Bool
finding_by image number place r = elim r [
  | Err refusal ↦ (number == 1) && (place == refusal_number refusal)
  | Ok g ↦ is_true_at 2 (tests g (pieces g (disk_of g image))) number place
]

-- the one finding of an image whose layout is refused
refused : (image : List ℕ) (refusal : LayoutRefusal) → geometry_of image ≡ Err refusal → IsVerdict image (found 1 (refusal_number refusal))
refused image refusal e =
    let same : (number place : ℕ) → is_finding image number place ≡ ((number == 1) && (place == refusal_number refusal)) = λ number place. ap (finding_by image number place) e in
    record {
      true_there = same 1 (refusal_number refusal) ∙ eq-eqb (refusal_number refusal) (refusal_number refusal) refl;
      no_lesser_number = λ number place under. same number place ∙ and_left (number == 1) _ (ne_eqb number 1 (λ is. omega arith));
      no_lesser_place = λ place under. same 1 place ∙ ne_eqb place (refusal_number refusal) (λ is. omega arith);
    }

-- the verdict on an image is its least finding
pub verdict_is_least : VerdictIsLeast
verdict_is_least image = elim (either (geometry_of image)) [
  | inl (refusal, e) ↦ subst (IsVerdict image) (sym (ap (verdict_by image) e)) (refused image refusal e)
  | inr (g, e) ↦
      let v = pieces g (disk_of g image) in
      subst (IsVerdict image) (sym (ap (verdict_by image) e))
      (from_tests image 2 (tests g v) (λ number place. ap (finding_by image number place) e) (verdict_of_pieces g v)
      (first_is_least (place_limit g) 2 (tests g v) (tests_within g v (geometry_fits image g e).0.some_inode)))
]
