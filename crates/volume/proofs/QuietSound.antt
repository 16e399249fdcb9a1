-- Where the rules of the format hold, the findings on zones and on entries don't.
use Rattle.std.proofs.Common.{◌≡◌, ◌≢◌, ◌<◌, ◌+◌, ◌-◌, ℕ, suc, Bool, true, false, refl, ◌∙◌, arith}
use mathlib.Core.Logic.{inl, inr}
use Rattle.std.specs.Prelude.{not, ◌&&◌, ◌||◌, ◌==◌, nat_le}
use Rattle.std.proofs.lemmas.Bool.{cases_eq, cases_Bool, cases_lt, or_from, cond-true, cond-false, eq-eqb, ne_eqb, eqb-false, leb-true, ltb-true, le-ltb, not-true, not_from_true, both_ways, false_from_ne_true}
use Rattle.layout.specs.declared.Geometry.{Geometry}
use Rattle.lemmas.specs.Sums.{some_below}
use Rattle.tree.specs.ZonesNeeded.{page_limit}
use Rattle.tree.specs.Names.{same_name, dot, dot_dot}
use Rattle.tree.specs.Space.{pages_of, numbers_in_zone}
use Rattle.volume.specs.Reading.{is_data_zone}
use Rattle.volume.specs.Pieces.{Pieces}
use Rattle.volume.specs.Nodes.{page_zone, is_marked}
use Rattle.volume.specs.Places.{zone_at, uses}
use Rattle.volume.specs.Entries.{is_directory_inode, entry_count, name_at, target_at, is_field, is_name_field}
use Rattle.volume.specs.Findings.{has_bad_number, is_used_twice, has_bad_bit, has_spare_zone, has_hole, has_bad_dots, is_bad_entry, has_bad_entry}
use Rattle.volume.specs.Holds.{IsSound}
use Rattle.volume.proofs.Naming.{Place}
use Rattle.volume.proofs.Sums.{none_from}
use Rattle.volume.proofs.Once.{single_use, used_place, place_used}
use Rattle.volume.proofs.Bridge.{naming, uses_are, place_of_use, use_of_place}
use Rattle.volume.proofs.Quiet.{guard_false}
use Rattle.volume.proofs.Volumes.{IsVolume}
use Rattle.volume.proofs.Ranges.{marked_below, data_some, same_name_true}

-- the opposite of what is true is false
pub not_false_from : (b : Bool) → b ≡ true → not b ≡ false
not_false_from b e = not_from_true b e

module _ (g : Geometry) (v : Pieces) (ok : IsVolume g v) (s : IsSound g v) where
  -- at each place stands 0 or a data zone
  data_at : (n l k : ℕ) → is_marked g v n ≡ true → zone_at g v (v.inodes n) l k ≢ 0 → is_data_zone g (zone_at g v (v.inodes n) l k) ≡ true
  data_at n l k is some = s.zones.numbers (zone_at g v (v.inodes n) l k) some (record { inode = n; level = l; index = k; marked = is; names = refl })

  -- finding 7
  pub quiet_numbers : (n : ℕ) → has_bad_number g v n ≡ false
  quiet_numbers n = guard_false (is_marked g v n) _ (λ is.
      none_from _ 4 (λ l _. none_from _ (page_limit (numbers_in_zone g)) (λ k _.
      guard_false (not (zone_at g v (v.inodes n) l k == 0)) _ (λ some. not_false_from _ (data_at n l k is (eqb-false _ 0 (not-true _ some)))))))

  -- the places of a zone are one
  same_places : (z : ℕ) → z ≢ 0 → (p q : Place (naming g v) z) → (p.inode ≡ q.inode) × (p.height ≡ q.height) × (p.index ≡ q.index)
  same_places z some p q =
      let r = s.zones.once z some (use_of_place g v ok.sized z p) (use_of_place g v ok.sized z q) in
      let lp = ltb-true p.height 4 p.most in
      let lq = ltb-true q.height 4 q.most in
      (r.inode, omega (arith, r.level), r.index)

  -- finding 8
  pub quiet_uses : (z : ℕ) → is_used_twice g v z ≡ false
  quiet_uses z = guard_false (is_data_zone g z) _ (λ is.
      let e = uses_are g v ok.sized z in
      let one = single_use (naming g v) ok.sized (marked_below g v) ok.words z (same_places z (data_some g v ok.geometry z is)) in
      le-ltb 1 _ (omega arith))

  -- finding 9
  pub quiet_bits : (z : ℕ) → has_bad_bit g v z ≡ false
  quiet_bits z = guard_false (is_data_zone g z) _ (λ is.
      let bit = v.zone_map (z - g.first_zone + 1) in
      let some = data_some g v ok.geometry z is in
      let e = uses_are g v ok.sized z in
      elim (cases_Bool bit) [
        | inl set ↦
            let more = place_used (naming g v) ok.sized (marked_below g v) ok.words z some (place_of_use g v ok.sized z some ((s.zones.mapped z is).0 set)) in
            cond-true bit _ _ set ∙ ne_eqb _ 0 (λ none. absurd (omega arith))
        | inr clear ↦ cond-false bit _ _ clear ∙ elim (cases_lt 0 (uses g v z)) [
          | inl more ↦
              let set = (s.zones.mapped z is).1 (use_of_place g v ok.sized z (used_place (naming g v) ok.sized (marked_below g v) ok.words z (omega arith))) in
              absurd (both_ways bit clear set)
          | inr none ↦ le-ltb 0 _ none
        ]
      ])

  -- finding 10
  pub quiet_ends : (n : ℕ) → has_spare_zone g v n ≡ false
  quiet_ends n = guard_false (is_marked g v n) _ (λ is. or_from _ _
      (none_from _ (page_limit (numbers_in_zone g)) (λ p _. guard_false (nat_le (pages_of g (v.inodes n).size) p) _ (λ past.
      not_false_from _ (elim (cases_eq (page_zone g v (v.inodes n) p) 0) [
        | inl e ↦ eq-eqb _ 0 e
        | inr some ↦ let low = (s.inodes n is).inside p some in let high = leb-true _ p past in absurd (omega arith)
      ]))))
      (none_from _ 3 (λ l _. none_from _ (page_limit (numbers_in_zone g)) (λ k _. guard_false (not (zone_at g v (v.inodes n) (suc l) k == 0)) _ (λ some.
      not_false_from _ ((s.inodes n is).full l k (eqb-false _ 0 (not-true _ some))))))))

  -- finding 11
  pub quiet_holes : (n : ℕ) → has_hole g v n ≡ false
  quiet_holes n = guard_false (is_directory_inode g v n) _ (λ is. none_from _ (pages_of g (v.inodes n).size) (λ p low. ne_eqb _ 0 ((s.directories n is).whole p low)))

  -- finding 12
  pub quiet_dots : (n : ℕ) → has_bad_dots g v n ≡ false
  quiet_dots n = guard_false (is_directory_inode g v n) _ (λ is.
      let d = s.directories n is in
      or_from (not (is_field g v n 0 dot) || not (target_at g v n 0 == n)) (not (is_field g v n 1 dot_dot))
      (or_from (not (is_field g v n 0 dot)) (not (target_at g v n 0 == n)) (not_false_from _ d.dot_entry.0) (not_false_from _ (eq-eqb _ n d.dot_entry.1)))
      (not_false_from _ d.dot_dot_entry))

  -- an entry by the rules isn't bad
  quiet_entry : (n e : ℕ) → is_directory_inode g v n ≡ true → e < entry_count v n → is_bad_entry g v n e ≡ false
  quiet_entry n e is low =
      let d = s.directories n is in
      let t = target_at g v n e == 0 in
      let k = nat_le 2 e && not (is_name_field g v n e) in
      let o = some_below (λ f. same_name (name_at g v n f) (name_at g v n e)) e in
      or_from (t || k) o (or_from t k
      (ne_eqb (target_at g v n e) 0 (d.used e low))
      (guard_false (nat_le 2 e) _ (λ two. not_false_from (is_name_field g v n e) (d.names e (leb-true 2 e two) low))))
      (none_from (λ f. same_name (name_at g v n f) (name_at g v n e)) e (λ f less. false_from_ne_true _ (λ same. d.distinct f e less low (same_name_true _ _ same))))

  -- finding 13
  pub quiet_entries : (n : ℕ) → has_bad_entry g v n ≡ false
  quiet_entries n = guard_false (is_directory_inode g v n) _ (λ is. none_from (is_bad_entry g v n) (entry_count v n) (λ e low. quiet_entry n e is low))
