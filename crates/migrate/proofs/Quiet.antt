-- A clean verdict of version 2 finds nothing.
use Rattle.std.proofs.Common.{◌≡◌, false, ◌∙◌}
use Rattle.std.specs.Prelude.{Option, None, Some}
use Rattle.layout.specs.declared.Geometry.{Geometry}
use Rattle.lemmas.specs.Sums.{some_below}
use Rattle.volume.specs.declared.Finding.{Finding}
use Rattle.volume.specs.Pieces.{Pieces}
use Rattle.volume.specs.Findings.{lacks_inode_bit, lacks_zone_bit, lacks_root, has_bad_mode, has_bad_number, is_used_twice, has_bad_bit}
use Rattle.volume.specs.Findings.{has_spare_zone, has_hole, has_bad_link}
use Rattle.volume.specs.Verdict.{Clean, Test, place_limit}
use Rattle.fsck.specs.Parts.{first_of}
use Rattle.fsck.proofs.Firsts.{verdict_from, first_verdict, none_first}
use Rattle.fsck.specs.Form.{version_2}
use Rattle.fsck.specs.Findings.{has_bad_size, has_bad_dots, has_bad_entry, has_bad_target, is_misplaced, has_bad_links}
use Rattle.fsck.specs.Verdict.{tests, verdict_of_pieces}

-- a test that is true nowhere
abbrev pub Never : Geometry → Test → Type 0
Never g test = some_below test (place_limit g) ≡ false

-- no finding of those on which the rules of the format rest, each by its name
pub record Quiet (g : Geometry) (v : Pieces) : Type 0 where
  pub inode_bit : Never g (lacks_inode_bit g v)
  pub zone_bit : Never g (lacks_zone_bit g v)
  pub modes : Never g (has_bad_mode g v)
  pub sizes : Never g (has_bad_size version_2 g v)
  pub numbers : Never g (has_bad_number g v)
  pub twice : Never g (is_used_twice g v)
  pub bits : Never g (has_bad_bit g v)
  pub ends : Never g (has_spare_zone g v)
  pub holes : Never g (has_hole g v)
  pub dots : Never g (has_bad_dots version_2 g v)
  pub entries : Never g (has_bad_entry version_2 g v)
  pub root : Never g (lacks_root g v)
  pub targets : Never g (has_bad_target version_2 g v)
  pub places : Never g (is_misplaced version_2 g v)
  pub links : Never g (has_bad_links version_2 g v)
  pub link_targets : Never g (has_bad_link g v)

-- a clean verdict is that of no finding
none_is : (o : Option Finding) → verdict_from o ≡ Clean → None ≡ o
none_is None e = λ i. None
none_is (Some f) e = absurd (cc)

-- so nothing is found
pub clean_quiet : (g : Geometry) (v : Pieces) → verdict_of_pieces version_2 g v ≡ Clean → Quiet g v
clean_quiet g v is =
    let l = place_limit g in
    let none = none_is (first_of l 2 (tests version_2 g v)) (first_verdict l 2 (tests version_2 g v) ∙ is) in
    let a = none_first l 2 (lacks_inode_bit g v) _ none in
    let b = none_first l 3 (lacks_zone_bit g v) _ a.1 in
    let c = none_first l 4 (lacks_root g v) _ b.1 in
    let d = none_first l 5 (has_bad_mode g v) _ c.1 in
    let e = none_first l 6 (has_bad_size version_2 g v) _ d.1 in
    let f = none_first l 7 (has_bad_number g v) _ e.1 in
    let h = none_first l 8 (is_used_twice g v) _ f.1 in
    let i = none_first l 9 (has_bad_bit g v) _ h.1 in
    let j = none_first l 10 (has_spare_zone g v) _ i.1 in
    let k = none_first l 11 (has_hole g v) _ j.1 in
    let m = none_first l 12 (has_bad_dots version_2 g v) _ k.1 in
    let n = none_first l 13 (has_bad_entry version_2 g v) _ m.1 in
    let o = none_first l 14 (has_bad_target version_2 g v) _ n.1 in
    let p = none_first l 15 (is_misplaced version_2 g v) _ o.1 in
    let q = none_first l 16 (has_bad_links version_2 g v) _ p.1 in
    let r = none_first l 17 (has_bad_link g v) _ q.1 in
    record {
      inode_bit = a.0;
      zone_bit = b.0;
      modes = d.0;
      sizes = e.0;
      numbers = f.0;
      twice = h.0;
      bits = i.0;
      ends = j.0;
      holes = k.0;
      dots = m.0;
      entries = n.0;
      root = c.0;
      targets = o.0;
      places = p.0;
      links = q.0;
      link_targets = r.0;
    }
