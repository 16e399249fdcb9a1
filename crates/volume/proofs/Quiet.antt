-- A verdict is Clean exactly where no test holds anywhere.
use Rattle.std.proofs.Common.{◌≡◌, ◌+◌, ℕ, List, [], ◌∷◌, Bool, true, false, refl, sym, ◌∙◌}
use mathlib.Core.Logic.{inl, inr}
use Rattle.std.specs.Prelude.{◌&&◌}
use Rattle.std.proofs.lemmas.Bool.{cases_Bool, cond-true, cond-false}
use Rattle.layout.specs.declared.Geometry.{Geometry}
use Rattle.lemmas.specs.Sums.{some_below, least_below}
use Rattle.volume.specs.Pieces.{Pieces}
use Rattle.volume.specs.Findings.{lacks_inode_bit, lacks_zone_bit, lacks_root, has_bad_mode, has_bad_size, has_bad_number, is_used_twice}
use Rattle.volume.specs.Findings.{has_bad_bit, has_spare_zone, has_hole, has_bad_dots, has_bad_entry, has_bad_target, is_misplaced}
use Rattle.volume.specs.Findings.{has_bad_links, has_bad_link}
use Rattle.volume.specs.Verdict.{Clean, Test, found, first_found, tests, place_limit, verdict_of_pieces}

-- a test that is true nowhere
abbrev pub Never : Geometry → Test → Type 0
Never g test = some_below test (place_limit g) ≡ false

-- no finding, each by its name
pub record Quiet (g : Geometry) (v : Pieces) : Type 0 where
  pub inode_bit : Never g (lacks_inode_bit g v)
  pub zone_bit : Never g (lacks_zone_bit g v)
  pub root : Never g (lacks_root g v)
  pub modes : Never g (has_bad_mode g v)
  pub sizes : Never g (has_bad_size g v)
  pub numbers : Never g (has_bad_number g v)
  pub twice : Never g (is_used_twice g v)
  pub bits : Never g (has_bad_bit g v)
  pub ends : Never g (has_spare_zone g v)
  pub holes : Never g (has_hole g v)
  pub dots : Never g (has_bad_dots g v)
  pub entries : Never g (has_bad_entry g v)
  pub targets : Never g (has_bad_target g v)
  pub places : Never g (is_misplaced g v)
  pub links : Never g (has_bad_links g v)
  pub link_targets : Never g (has_bad_link g v)

-- tests that are all true nowhere
AllNever : Geometry → List Test → Type 0
AllNever g [] = Unit {0}
AllNever g (test ∷ rest) = (Never g test) × AllNever g rest

-- a clean verdict says so of all tests
clean_never : (g : Geometry) (k : ℕ) (all : List Test) → first_found (place_limit g) k all ≡ Clean → AllNever g all
unfolding AllNever
clean_never g k [] e = tt
clean_never g k (test ∷ rest) e = elim (cases_Bool (some_below test (place_limit g))) [
  | inl is ↦ let f = sym (cond-true (some_below test (place_limit g)) (found k (least_below test (place_limit g))) (first_found (place_limit g) (k + 1) rest) is) ∙ e in absurd (cc)
  | inr out ↦ (out, clean_never g (k + 1) rest (sym (cond-false (some_below test (place_limit g)) _ (first_found (place_limit g) (k + 1) rest) out) ∙ e))
]

-- and is clean where it is so
never_clean : (g : Geometry) (k : ℕ) (all : List Test) → AllNever g all → first_found (place_limit g) k all ≡ Clean
unfolding AllNever
never_clean g k [] q = refl
never_clean g k (test ∷ rest) q = cond-false (some_below test (place_limit g)) _ (first_found (place_limit g) (k + 1) rest) q.0 ∙ never_clean g (k + 1) rest q.1

-- a clean verdict finds nothing
pub clean_quiet : (g : Geometry) (v : Pieces) → verdict_of_pieces g v ≡ Clean → Quiet g v
unfolding AllNever
clean_quiet g v e =
    let q = clean_never g 2 (tests g v) e in
    let r = q.1.1.1.1.1 in
    let s = r.1.1.1.1.1 in
    let u = s.1.1.1.1.1 in
    record {
      inode_bit = q.0;
      zone_bit = q.1.0;
      root = q.1.1.0;
      modes = q.1.1.1.0;
      sizes = q.1.1.1.1.0;
      numbers = r.0;
      twice = r.1.0;
      bits = r.1.1.0;
      ends = r.1.1.1.0;
      holes = r.1.1.1.1.0;
      dots = s.0;
      entries = s.1.0;
      targets = s.1.1.0;
      places = s.1.1.1.0;
      links = s.1.1.1.1.0;
      link_targets = u.0;
    }

-- and where nothing is found it is clean
pub quiet_clean : (g : Geometry) (v : Pieces) → Quiet g v → verdict_of_pieces g v ≡ Clean
unfolding AllNever
quiet_clean g v q =
    let dots : AllNever g (has_bad_dots g v ∷ has_bad_entry g v ∷ has_bad_target g v ∷ is_misplaced g v ∷ has_bad_links g v
    ∷ has_bad_link g v ∷ []) = (q.dots, (q.entries, (q.targets, (q.places, (q.links, (q.link_targets, tt)))))) in
    never_clean g 2 (tests g v)
    (q.inode_bit, (q.zone_bit, (q.root, (q.modes, (q.sizes, (q.numbers, (q.twice, (q.bits, (q.ends, (q.holes, dots))))))))))

-- a guarded test is false where it is false under the guard
pub guard_false : (a b : Bool) → (a ≡ true → b ≡ false) → (a && b) ≡ false
guard_false true b h = h refl
guard_false false b h = refl
