-- What the entered zones say of the inodes.
use Rattle.std.proofs.Common.{◌≡◌, ◌≢◌, ◌⊎◌, ◌<◌, ◌≤◌, ◌+◌, ◌-◌, ◌*◌, ℕ, zero, suc, List, length, set, get_or, slice_index_or, Bool, true, false, refl, sym, ap, subst, ◌∙◌, arith}
use mathlib.Core.Logic.{inl, inr}
use Rattle.std.specs.Prelude.{not, ◌&&◌, ◌||◌, ◌==◌, nat_lt}
use Rattle.std.proofs.lemmas.Bool.{cases_eq, cases_lt, cases_Bool, cond-true, cond-false, eq-eqb, ne_eqb, and_from, and_parts, and_left, and_right, not-true, both_ways, lt-ltb}
use Rattle.std.proofs.lemmas.Nat.{mul-add-lt, same_from_place}
use Rattle.std.proofs.lemmas.List.{length-set, get_or-set_same, get_or-set_other}
use Rattle.tree.specs.Space.{numbers_in_zone}
use Rattle.tree.specs.ZonesNeeded.{page_limit}
use Rattle.lemmas.specs.Sums.{some_below}
use Rattle.volume.specs.Reading.{is_data_zone}
use Rattle.volume.specs.Nodes.{word, slot, is_marked}
use Rattle.volume.specs.Places.{zone_at, is_entered}
use Rattle.volume.specs.Findings.{is_bad_zone, has_bad_number}
use Rattle.volume.proofs.Sums.{some_from, some_witness, none_from}
use Rattle.volume.proofs.Naming.{room, spot}
use Rattle.volume.proofs.Spots.{under, beside, Inner, Outer, seen_top, seen_next, entered_named, named_entered}
use Rattle.volume.proofs.Bridge.{no_index, zone_spot, entered_is}
use Rattle.std.proofs.Math.Nat.{mod-lt}
use Rattle.image.specs.declared.Image.{Image}
use Rattle.image.specs.Entered.{is_in, Keeps, level_of, numbers_at, IsNamed, IsFine, IsSwept, SlotsAreFine, HasBadPlace, AreEntered}
use Rattle.image.proofs.Contents.{g, v, m, sized, inside, bounded, data_some, zone_some, out_of_range, zero_unmarked}

module _ (i : Image) where
  -- a number but 0 that is no data zone's
  pub bad_zone : (z : ℕ) → z ≢ 0 → is_data_zone (g i) z ≡ false → is_bad_zone (g i) (v i) z ≡ true
  bad_zone z some out = and_from (not (z == 0)) (not (is_data_zone (g i) z)) (ap not (ne_eqb z 0 some)) (ap not out)

  -- what is fine stays so
  pub fine_keeps : (old new : List Bool) → Keeps old new → (level z : ℕ) → IsFine i old level z → IsFine i new level z
  fine_keeps old new keeps level z fine some = let f = fine some in (f.0, keeps (level * (g i).zones + z) f.1)

  module _ (entered : List Bool) (level z : ℕ) (low : level < 4) (below : z < (g i).zones) (swept : IsSwept i entered) (place : ℕ) (there : place ≡ level * (g i).zones + z) where
    -- the place of the zone lies in the list
    pub place_inside : place < length entered
    place_inside = let size = swept.size in let in_rows = mul-add-lt level (g i).zones z 4 low below in omega arith

    -- the list after it is entered
    abbrev after : List Bool
    after = set entered place true

    -- it is entered there
    pub is_entered_now : is_in i after level z ≡ true
    is_entered_now = ap (λ k. get_or after k false) (sym there) ∙ get_or-set_same entered place true false place_inside

    -- all others stay
    pub keeps_others : Keeps entered after
    keeps_others k is = elim (cases_eq k place) [
      | inl e ↦ ap (λ k. get_or after k false) (e ∙ there) ∙ is_entered_now
      | inr d ↦ get_or-set_other entered place k true false d ∙ is
    ]

    -- and it is the only one that came
    only : (l y : ℕ) → y < (g i).zones → is_in i after l y ≡ true → ((l ≡ level) × (y ≡ z)) ⊎ (is_in i entered l y ≡ true)
    only l y h is = elim (cases_eq (l * (g i).zones + y) place) [
      | inl e ↦ inl (same_from_place l y level z (g i).zones h below (e ∙ there))
      | inr d ↦ inr (sym (get_or-set_other entered place (l * (g i).zones + y) true false d) ∙ is)
    ]

    -- where what it names is entered, all is as it should be
    pub swept_more : is_data_zone (g i) z ≡ true → IsNamed i level z → ((k : ℕ) → k < numbers_at i level → IsFine i entered (level - 1) (word (v i) z k)) → IsSwept i after
    swept_more data_zone named fine = record {
      size = length-set entered place true ∙ swept.size;
      in_data = λ l y hl hy is. elim (only l y hy is) [
        | inl e ↦ ap (is_data_zone (g i)) e.1 ∙ data_zone
        | inr old ↦ swept.in_data l y hl hy old
      ];
      named = λ l y hl hy is. elim (only l y hy is) [
        | inl e ↦ (let P : ℕ → Type 0 = λ l. IsNamed i l y in let Q : ℕ → Type 0 = λ y. IsNamed i level y in subst P (sym e.0) (subst Q (sym e.1) named))
        | inr old ↦ swept.named l y hl hy old
      ];
      closed = λ l y j hl hy is hj. fine_keeps entered after keeps_others l (word (v i) y j) (elim (only (suc l) y hy is) [
        | inl e ↦
            let numbers : numbers_at i level ≡ numbers_in_zone (g i) = cond-false (level == 0) 0 (numbers_in_zone (g i)) (ne_eqb level 0 (λ o. absurd (omega (arith, e.0)))) in
            let less : level - 1 ≡ l = omega (arith, e.0) in
            let P : ℕ → Type 0 = λ l. IsFine i entered l (word (v i) y j) in
            let Q : ℕ → Type 0 = λ y. IsFine i entered (level - 1) (word (v i) y j) in
            subst P less (subst Q (sym e.1) (fine j (omega arith)))
        | inr old ↦ swept.closed l y j hl hy old hj
      ]);
    }

  -- where nothing is entered, all is as it should be
  pub swept_none : (entered : List Bool) → length entered ≡ 4 * (g i).zones → ((k : ℕ) → get_or entered k false ≡ false) → IsSwept i entered
  swept_none entered size none = record {
    size = size;
    in_data = λ l y hl hy is. absurd (both_ways _ (none (l * (g i).zones + y)) is);
    named = λ l y hl hy is. absurd (both_ways _ (none (l * (g i).zones + y)) is);
    closed = λ l y j hl hy is. absurd (both_ways _ (none (suc l * (g i).zones + y)) is);
  }

  module _ (entered : List Bool) (swept : IsSwept i entered) (n : ℕ) (slots : SlotsAreFine i entered n) where
    -- the number at a place of the inode
    abbrev at : ℕ → ℕ → ℕ
    at level k = zone_at (g i) (v i) ((v i).inodes n) level k

    -- all places of a level are fine
    abbrev AllFine : ℕ → Type 0
    AllFine level = (k z : ℕ) → at level k ≡ z → IsFine i entered level z

    -- a number in the inode
    of_slot : (s t level z : ℕ) → s ≡ t → t < 10 → level_of t ≡ level → slot ((v i).inodes n) s ≡ z → IsFine i entered level z
    of_slot s t level z e h l is =
        let P : ℕ → Type 0 = λ z. IsFine i entered (level_of t) z in
        let Q : ℕ → Type 0 = λ l. IsFine i entered l z in
        subst Q l (subst P (sym (ap (slot ((v i).inodes n)) e) ∙ is) (slots t h))

    -- a number in a block of the level above
    of_block : (level h k z : ℕ) → level < 3 → AllFine (suc level) → at (suc level) (under (m i) h k) ≡ spot (m i) n h (under (m i) h k) → Outer (m i) n h k z → IsFine i entered level z
    of_block level h k z low above same outer =
        let y = spot (m i) n h (under (m i) h k) in
        let up = above (under (m i) h k) y same outer.some in
        let P : ℕ → Type 0 = λ z. IsFine i entered level z in
        let j : beside (m i) h k < numbers_in_zone (g i) = mod-lt (k - room h) (sized i) in
        subst P outer.names (swept.closed level y (beside (m i) h k) low (data_some i y up.0) up.1 j)

    -- the triple's block
    fine_3 : AllFine 3
    fine_3 k z e some =
        let top = seen_top (m i) n k z (sym (zone_spot (g i) (v i) (sized i) n 3 k (omega arith)) ∙ e) some in
        of_slot 9 9 3 z refl (omega arith) refl top.1 some

    -- the blocks that name blocks
    fine_2 : AllFine 2
    fine_2 k z e some = elim (seen_next (m i) n 0 k z (sym (zone_spot (g i) (v i) (sized i) n 2 k (omega arith)) ∙ e) some) [
      | inl inner ↦ let first : 8 + k ≡ 8 = omega (arith, inner.low) in of_slot (8 + k) 8 2 z first (omega arith) refl inner.names some
      | inr outer ↦ of_block 2 0 k z (omega arith) fine_3 (zone_spot (g i) (v i) (sized i) n 3 _ (omega arith)) outer some
    ]

    -- the blocks that name pages
    fine_1 : AllFine 1
    fine_1 k z e some = elim (seen_next (m i) n 1 k z (sym (zone_spot (g i) (v i) (sized i) n 1 k (omega arith)) ∙ e) some) [
      | inl inner ↦ let first : 7 + k ≡ 7 = omega (arith, inner.low) in of_slot (7 + k) 7 1 z first (omega arith) refl inner.names some
      | inr outer ↦ of_block 1 1 k z (omega arith) fine_2 (zone_spot (g i) (v i) (sized i) n 2 _ (omega arith)) outer some
    ]

    -- the pages
    fine_0 : AllFine 0
    fine_0 k z e some = elim (seen_next (m i) n 2 k z (sym (zone_spot (g i) (v i) (sized i) n 0 k (omega arith)) ∙ e) some) [
      | inl inner ↦
          let first : 0 + k ≡ k = omega arith in
          let low : k < 7 = inner.low in
          of_slot (0 + k) k 0 z first (omega arith) (cond-true (nat_lt k 7) 0 (k - 6) (lt-ltb k 7 low)) inner.names some
      | inr outer ↦ of_block 0 2 k z (omega arith) fine_1 (zone_spot (g i) (v i) (sized i) n 1 _ (omega arith)) outer some
    ]

    -- the places of all levels
    pub fine_place : (level : ℕ) → level < 4 → AllFine level
    fine_place zero h = fine_0
    fine_place (suc zero) h = fine_1
    fine_place (suc (suc zero)) h = fine_2
    fine_place (suc (suc (suc zero))) h = fine_3
    fine_place (suc (suc (suc (suc level)))) h = absurd (omega arith)

    -- what is fine isn't bad
    not_bad : (z : ℕ) → (z ≢ 0 → is_data_zone (g i) z ≡ true) → is_bad_zone (g i) (v i) z ≡ false
    not_bad z fine = elim (cases_eq z 0) [
      | inl e ↦ and_left (not (z == 0)) (not (is_data_zone (g i) z)) (ap not (eq-eqb z 0 e))
      | inr some ↦ and_right (not (z == 0)) (not (is_data_zone (g i) z)) (ap not (fine some))
    ]

    -- so the inode has no bad number
    pub fine_inode : has_bad_number (g i) (v i) n ≡ false
    fine_inode =
        let limit = page_limit (numbers_in_zone (g i)) in
        and_right (is_marked (g i) (v i) n) _
        (none_from (λ l. some_below (λ k. is_bad_zone (g i) (v i) (at l k)) limit) 4
        (λ l h. none_from (λ k. is_bad_zone (g i) (v i) (at l k)) limit (λ k _. not_bad (at l k) (λ some. (fine_place l h k (at l k) refl some).0))))

  -- a bad place of a marked inode is found
  pub place_bad : (n : ℕ) → is_marked (g i) (v i) n ≡ true → HasBadPlace i n → has_bad_number (g i) (v i) n ≡ true
  place_bad n marked place =
      let limit = page_limit (numbers_in_zone (g i)) in
      let zone = zone_at (g i) (v i) ((v i).inodes n) in
      and_from (is_marked (g i) (v i) n) _ marked
      (some_from (λ l. some_below (λ k. is_bad_zone (g i) (v i) (zone l k)) limit) 4 place.level place.low (elim (cases_lt place.index limit) [
        | inl h ↦ some_from (λ k. is_bad_zone (g i) (v i) (zone place.level k)) limit place.index h place.bad
        | inr far ↦
            let none = no_index (g i) (v i) (sized i) n place.level place.index place.low far in
            let parts = and_parts (not (zone place.level place.index == 0)) _ place.bad in
            absurd (both_ways _ (not-true _ parts.0) (eq-eqb _ 0 none))
      ]))

  -- an inode that isn't marked has none
  pub unmarked : (n : ℕ) → is_marked (g i) (v i) n ≡ false → has_bad_number (g i) (v i) n ≡ false
  unmarked n out = and_left (is_marked (g i) (v i) n) _ out

  -- where all that marked inodes name is entered, the entered zones are those of the definition
  pub are_entered : (entered : List Bool) → IsSwept i entered → ((n : ℕ) → is_marked (g i) (v i) n ≡ true → SlotsAreFine i entered n) → AreEntered i entered
  are_entered entered swept slots k z h below = elim (cases_Bool (is_entered (g i) (v i) k z)) [
    | inl is ↦
        let at = entered_named (m i) k z h (sym (entered_is (g i) (v i) (sized i) k z) ∙ is) in
        let back : 3 - (3 - k) ≡ k = omega arith in
        let stands : zone_at (g i) (v i) ((v i).inodes at.inode) (3 - k) at.index ≡ z
        = zone_spot (g i) (v i) (sized i) at.inode (3 - k) at.index (omega arith) ∙ ap (λ h. spot (m i) at.inode h at.index) back ∙ at.names in
        (fine_place entered swept at.inode (slots at.inode at.marked) (3 - k) (omega arith) at.index z stands at.some).1 ∙ sym is
    | inr out ↦ elim (cases_Bool (is_in i entered (3 - k) z)) [
      | inl is ↦
          let at = swept.named (3 - k) z (omega arith) below is in
          let back : 3 - (3 - k) ≡ k = omega arith in
          let stands : spot (m i) at.inode k at.index ≡ z
          = ap (λ h. spot (m i) at.inode h at.index) (sym back) ∙ sym (zone_spot (g i) (v i) (sized i) at.inode (3 - k) at.index (omega arith)) ∙ at.names in
          let some = zone_some i z (swept.in_data (3 - k) z (omega arith) below is) in
          let back_in = entered_is (g i) (v i) (sized i) k z ∙ named_entered (m i) (sized i) (inside i) (bounded i) k at.inode at.index z h at.marked stands some in
          absurd (both_ways _ out back_in)
      | inr none ↦ none ∙ sym out
    ]
  ]

  -- past the last inode none is bad
  pub past_last : (n : ℕ) → (g i).inodes + 1 ≤ n → has_bad_number (g i) (v i) n ≡ false
  past_last n far = unmarked n (out_of_range i n far)

  -- nor is inode 0
  pub none_first : (n : ℕ) → n < 1 → has_bad_number (g i) (v i) n ≡ false
  none_first n h = unmarked n (zero_unmarked i n h)
