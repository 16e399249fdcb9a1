-- A zone is used at most once exactly where it has at most one place, and used exactly where it has one.
use Rattle.std.proofs.Common.{◌≡◌, ◌≢◌, ◌<◌, ◌≤◌, ◌+◌, ◌-◌, ◌*◌, ℕ, zero, suc, true, refl, sym, ap, ◌∙◌, arith}
use mathlib.Core.Logic.{inl, inr}
use Rattle.std.proofs.lemmas.Bool.{cases_eq, lt-ltb, ltb-true}
use Rattle.std.proofs.lemmas.Nat.{div-add-mod', same_from_place}
use Rattle.volume.proofs.Naming.{Naming, room, front, spot, uses, Place}
use Rattle.volume.proofs.Cube.{cube_at, cube_some, cube_same, cube_single}
use Rattle.volume.proofs.Mentions.{test, rows, cells, uses_cube, Mention, in_slot, in_word, kinds}
use Rattle.volume.proofs.Spots.{under, beside, front_below, front_same, spot_top, spot_slot, spot_word, seen_top, Inner, Outer, seen_next, Named, entered_named, named_entered}

-- a mention is counted
pub mentioned : (m : Naming) (z : ℕ) → Mention m z → 0 < uses m z
mentioned m z s = let more = cube_at (test m z) 4 (rows m) (cells m) s in let same = uses_cube m z in omega arith

-- what is counted is mentioned
pub mention_of_use : (m : Naming) (z : ℕ) → 0 < uses m z → Mention m z
mention_of_use m z h = let same = uses_cube m z in cube_some (test m z) 4 (rows m) (cells m) (omega arith)

-- what is counted once at most has one mention at most
pub same_mention : (m : Naming) (z : ℕ) → uses m z ≤ 1 → (s t : Mention m z) → (s.k ≡ t.k) × (s.y ≡ t.y) × (s.j ≡ t.j)
same_mention m z most s t = let same = uses_cube m z in cube_same (test m z) 4 (rows m) (cells m) (omega arith) s t

-- what has one mention at most is counted once at most
pub one_mention : (m : Naming) (z : ℕ) → ((s t : Mention m z) → (s.k ≡ t.k) × (s.y ≡ t.y) × (s.j ≡ t.j)) → uses m z ≤ 1
one_mention m z same = let e = uses_cube m z in let most = cube_single (test m z) 4 (rows m) (cells m) same in omega arith

module _ (m : Naming) (sized : 0 < m.width)
    (inside : (n : ℕ) → m.marked n ≡ true → n < m.inodes)
    (bounded : (y j : ℕ) → m.word y j ≢ 0 → y < m.zones) where
  -- the mention of a place of height 0
  top_mention : (n i z : ℕ) → m.marked n ≡ true → (i ≡ 0) × (m.slot n 9 ≡ z) → Mention m z
  top_mention n i z is at = in_slot m n 9 z (inside n is) (omega arith) is at.1

  -- the mention of a place in an inode
  inner_mention : (n h i z : ℕ) → h < 3 → m.marked n ≡ true → Inner m n h i z → Mention m z
  inner_mention n h i z l is at = let low = front_below h i l at.low in in_slot m n (front h + i) z (inside n is) (omega arith) is at.names

  -- the mention of a place in a zone
  outer_mention : (n h i z : ℕ) → h < 3 → m.marked n ≡ true → z ≢ 0 → Outer m n h i z → Mention m z
  outer_mention n h i z l is some at =
      in_word m h (spot m n h (under m h i)) (beside m h i) z l (bounded _ (beside m h i) (λ e. some (sym at.names ∙ e))) (omega arith)
      (named_entered m sized inside bounded h n (under m h i) _ l is refl at.some) at.names

  -- the mention of any place
  pub place_mention : (n h i z : ℕ) → h < 4 → m.marked n ≡ true → spot m n h i ≡ z → z ≢ 0 → Mention m z
  place_mention n zero i z l is e some = top_mention n i z is (seen_top m n i z e some)
  place_mention n (suc h) i z l is e some = elim (seen_next m n h i z e some) [
    | inl low ↦ inner_mention n h i z (omega arith) is low
    | inr up ↦ outer_mention n h i z (omega arith) is some up
  ]

  -- at most one use of every zone: at most one place of each
  module _ (single : (z : ℕ) → z ≢ 0 → uses m z ≤ 1) where
    -- two slots that name a zone are one
    by_slots : (n s n' s' z : ℕ) → z ≢ 0 → s < 10 → s' < 10 → m.marked n ≡ true → m.marked n' ≡ true
        → m.slot n s ≡ z → m.slot n' s' ≡ z → (n ≡ n') × (s ≡ s')
    by_slots n s n' s' z some l l' is is' e e' =
        let r = same_mention m z (single z some) (in_slot m n s z (inside n is) l is e) (in_slot m n' s' z (inside n' is') l' is' e') in (r.1, r.2)

    -- a slot and a word don't name one zone
    not_both : (n s h n' i' z : ℕ) → z ≢ 0 → s < 10 → m.marked n ≡ true → m.slot n s ≡ z
        → h < 3 → m.marked n' ≡ true → Outer m n' h i' z → ⊥
    not_both n s h n' i' z some l is e lh is' at =
        let r = same_mention m z (single z some) (in_slot m n s z (inside n is) l is e)
        (in_word m h (spot m n' h (under m h i')) (beside m h i') z lh (bounded _ (beside m h i') (λ e. some (sym at.names ∙ e))) (omega arith)
        (named_entered m sized inside bounded h n' (under m h i') _ lh is' refl at.some) at.names) in
        absurd (omega (arith, r.0))

    -- two words that name a zone are one
    by_words : (n h i n' h' i' z : ℕ) → z ≢ 0 → h < 3 → h' < 3 → m.marked n ≡ true → m.marked n' ≡ true
        → (u : Outer m n h i z) (v : Outer m n' h' i' z)
        → (h ≡ h') × (spot m n h (under m h i) ≡ spot m n' h' (under m h' i')) × (beside m h i ≡ beside m h' i')
    by_words n h i n' h' i' z some l l' is is' u v =
        same_mention m z (single z some)
        (in_word m h (spot m n h (under m h i)) (beside m h i) z l (bounded _ (beside m h i) (λ e. some (sym u.names ∙ e))) (omega arith)
        (named_entered m sized inside bounded h n (under m h i) _ l is refl u.some) u.names)
        (in_word m h' (spot m n' h' (under m h' i')) (beside m h' i') z l' (bounded _ (beside m h' i') (λ e. some (sym v.names ∙ e))) (omega arith)
        (named_entered m sized inside bounded h' n' (under m h' i') _ l' is' refl v.some) v.names)

    -- two places that name a zone are one
    pub same_place : (h n i h' n' i' z : ℕ) → h < 4 → h' < 4 → m.marked n ≡ true → m.marked n' ≡ true
        → spot m n h i ≡ z → spot m n' h' i' ≡ z → z ≢ 0 → (n ≡ n') × (h ≡ h') × (i ≡ i')
    same_place zero n i zero n' i' z l l' is is' e e' some =
        let a = seen_top m n i z e some in
        let b = seen_top m n' i' z e' some in
        let r = by_slots n 9 n' 9 z some (omega arith) (omega arith) is is' a.1 b.1 in
        (r.0, refl, a.0 ∙ sym b.0)
    same_place zero n i (suc h') n' i' z l l' is is' e e' some =
        let a = seen_top m n i z e some in
        elim (seen_next m n' h' i' z e' some) [
          | inl b ↦
              let at = front_below h' i' (omega arith) b.low in
              let r = by_slots n 9 n' (front h' + i') z some (omega arith) (omega arith) is is' a.1 b.names in absurd (omega (arith, r.1))
          | inr b ↦ absurd (not_both n 9 h' n' i' z some (omega arith) is a.1 (omega arith) is' b)
        ]
    same_place (suc h) n i zero n' i' z l l' is is' e e' some =
        let b = seen_top m n' i' z e' some in
        elim (seen_next m n h i z e some) [
          | inl a ↦
              let at = front_below h i (omega arith) a.low in
              let r = by_slots n (front h + i) n' 9 z some (omega arith) (omega arith) is is' a.names b.1 in absurd (omega (arith, r.1))
          | inr a ↦ absurd (not_both n' 9 h n i z some (omega arith) is' b.1 (omega arith) is a)
        ]
    same_place (suc h) n i (suc h') n' i' z l l' is is' e e' some =
        elim (seen_next m n h i z e some) [
          | inl a ↦ elim (seen_next m n' h' i' z e' some) [
            | inl b ↦
                let at = front_below h i (omega arith) a.low in
                let at' = front_below h' i' (omega arith) b.low in
                let r = by_slots n (front h + i) n' (front h' + i') z some (omega arith) (omega arith) is is' a.names b.names in
                let f = front_same h h' i i' (omega arith) (omega arith) a.low b.low r.1 in
                (r.0, ap suc f.0, f.1)
            | inr b ↦
                let at = front_below h i (omega arith) a.low in
                absurd (not_both n (front h + i) h' n' i' z some (omega arith) is a.names (omega arith) is' b)
          ]
          | inr a ↦ elim (seen_next m n' h' i' z e' some) [
            | inl b ↦
                let at' = front_below h' i' (omega arith) b.low in
                absurd (not_both n' (front h' + i') h n i z some (omega arith) is' b.names (omega arith) is a)
            | inr b ↦
                let r = by_words n h i n' h' i' z some (omega arith) (omega arith) is is' a b in
                let up = same_place h n (under m h i) h' n' (under m h' i') (spot m n h (under m h i)) (omega arith) (omega arith) is is' refl (sym r.1) a.some in
                let turn : under m h i * m.width ≡ under m h' i' * m.width = ap (λ q. q * m.width) up.2 in
                let whole : under m h i * m.width + beside m h i ≡ i - room h = div-add-mod' (i - room h) m.width in
                let whole' : under m h' i' * m.width + beside m h' i' ≡ i' - room h' = div-add-mod' (i' - room h') m.width in
                let rooms : room h ≡ room h' = ap room r.0 in
                let j = r.2 in
                let high = a.high in
                let high' = b.high in
                (up.0, ap suc r.0, omega arith)
          ]
        ]

  -- the slot of a place that stands in an inode
  abbrev code : ℕ → ℕ → ℕ
  code zero i = 9
  code (suc a) i = front a + i

  -- the place of a slot
  record At (n s z : ℕ) : Type 0 where
    height : ℕ
    index : ℕ
    low : height < 4
    names : spot m n height index ≡ z
    is_code : s ≡ code height index
    inner : (a : ℕ) → height ≡ suc a → index < room a

  -- each slot is that of a place
  slot_place : (n s z : ℕ) → s < 10 → m.slot n s ≡ z → At n s z
  slot_place n s z l e = elim (cases_eq s 9) [
    | inl o ↦ record { height = 0; index = 0; low = omega arith; names = spot_top m n 0 ∙ ap (m.slot n) (sym o) ∙ e; is_code = o; inner = λ a x. absurd (omega arith) }
    | inr d ↦ elim (cases_eq s 8) [
      | inl o ↦ record { height = 1; index = 0; low = omega arith; names = spot_slot m n 0 0 (omega arith) ∙ ap (m.slot n) (sym o) ∙ e; is_code = o; inner = λ a x. let y : a ≡ 0 = omega arith in omega (arith, ap room y) }
      | inr d' ↦ elim (cases_eq s 7) [
        | inl o ↦ record { height = 2; index = 0; low = omega arith; names = spot_slot m n 1 0 (omega arith) ∙ ap (m.slot n) (sym o) ∙ e; is_code = o; inner = λ a x. let y : a ≡ 1 = omega arith in omega (arith, ap room y) }
        | inr d'' ↦
            let zero_plus : front 2 + s ≡ s = omega arith in
            record { height = 3; index = s; low = omega arith; names = spot_slot m n 2 s (omega arith) ∙ ap (m.slot n) zero_plus ∙ e; is_code = sym zero_plus; inner = λ a x. let y : a ≡ 2 = omega arith in omega (arith, ap room y) }
      ]
    ]
  ]

  -- a mention is a place
  pub mention_place : (z : ℕ) → Mention m z → Place m z
  mention_place z s = elim (kinds m z s) [
    | inl d ↦ let at = slot_place s.y s.j z d.in_j d.names in
        record { inode = s.y; height = at.height; index = at.index; most = lt-ltb at.height 4 at.low; marked = d.marked; names = at.names }
    | inr b ↦ let up = entered_named m s.k s.y b.level b.is_entered in
        record {
          inode = up.inode;
          height = suc s.k;
          index = room s.k + (up.index * m.width + s.j);
          most = lt-ltb (suc s.k) 4 (omega (arith, b.level));
          marked = up.marked;
          names = spot_word m up.inode s.k up.index s.j s.y b.in_j up.names up.some ∙ b.names;
        }
  ]

  -- the place of a mention in a slot
  abbrev of_slot : (z n s : ℕ) → At n s z → m.marked n ≡ true → Place m z
  of_slot z n s at is = record { inode = n; height = at.height; index = at.index; most = lt-ltb at.height 4 at.low; marked = is; names = at.names }

  -- the place of a mention in a zone
  abbrev of_word : (z k y j : ℕ) → Named m k y → k < 3 → j < m.width → m.word y j ≡ z → Place m z
  of_word z k y j up l lj e =
      record {
        inode = up.inode;
        height = suc k;
        index = room k + (up.index * m.width + j);
        most = lt-ltb (suc k) 4 (omega arith);
        marked = up.marked;
        names = spot_word m up.inode k up.index j y lj up.names up.some ∙ e;
      }

  -- at most one place of a zone: at most one use
  pub single_use : (z : ℕ) → ((p q : Place m z) → (p.inode ≡ q.inode) × (p.height ≡ q.height) × (p.index ≡ q.index)) → uses m z ≤ 1
  single_use z same = one_mention m z (λ s t. elim (kinds m z s) [
    | inl a ↦ elim (kinds m z t) [
      | inl b ↦
          let u = slot_place s.y s.j z a.in_j a.names in
          let v = slot_place t.y t.j z b.in_j b.names in
          let r = same (of_slot z s.y s.j u a.marked) (of_slot z t.y t.j v b.marked) in
          (omega (arith, a.level, b.level), r.0, u.is_code ∙ (λ i. code (r.1 i) (r.2 i)) ∙ sym v.is_code)
      | inr b ↦
          let u = slot_place s.y s.j z a.in_j a.names in
          let up = entered_named m t.k t.y b.level b.is_entered in
          let r = same (of_slot z s.y s.j u a.marked) (of_word z t.k t.y t.j up b.level b.in_j b.names) in
          absurd (omega (arith, u.inner t.k r.1, r.2))
    ]
    | inr a ↦ elim (kinds m z t) [
      | inl b ↦
          let u = slot_place t.y t.j z b.in_j b.names in
          let up = entered_named m s.k s.y a.level a.is_entered in
          let r = same (of_slot z t.y t.j u b.marked) (of_word z s.k s.y s.j up a.level a.in_j a.names) in
          absurd (omega (arith, u.inner s.k r.1, r.2))
      | inr b ↦
          let up = entered_named m s.k s.y a.level a.is_entered in
          let vp = entered_named m t.k t.y b.level b.is_entered in
          let r = same (of_word z s.k s.y s.j up a.level a.in_j a.names) (of_word z t.k t.y t.j vp b.level b.in_j b.names) in
          let k : s.k ≡ t.k = omega (arith, r.1) in
          let rooms : room s.k ≡ room t.k = ap room k in
          let index = r.2 in
          let f = same_from_place up.index s.j vp.index t.j m.width a.in_j b.in_j (omega arith) in
          (k, sym up.names ∙ (λ i. spot m (r.0 i) (k i) (f.0 i)) ∙ vp.names, f.1)
    ]
  ])

  -- what is used has a place
  pub used_place : (z : ℕ) → 0 < uses m z → Place m z
  used_place z h = mention_place z (mention_of_use m z h)

  -- what has a place is used
  pub place_used : (z : ℕ) → z ≢ 0 → Place m z → 0 < uses m z
  place_used z some p = mentioned m z (place_mention p.inode p.height p.index z (ltb-true p.height 4 p.most) p.marked p.names some)
