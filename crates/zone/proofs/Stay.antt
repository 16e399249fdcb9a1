-- Where no number changes no place does: bytes of a page, and the attributes of an inode.
use Rattle.std.proofs.Common.{◌≡◌, ◌≢◌, ◌⊎◌, ◌<◌, ◌≤◌, ◌+◌, ◌*◌, ◌-◌, ◌/◌, ◌%◌, ℕ, zero, suc, Bool, true, false, refl, sym, ap, ◌∙◌, cond, subst, arith}
use mathlib.Core.Logic.{inl, inr, ◌↔◌}
use Rattle.std.specs.Prelude.{not, ◌&&◌, ◌==◌, nat_lt, IsTrue}
use Rattle.std.proofs.lemmas.Bool.{cases_eq, cases_lt, cond-true, cond-false, eq-eqb, ne_eqb, lt-ltb, le-ltb, ltb-true, ltb-false, cases_Bool}
use Rattle.layout.specs.declared.Geometry.{Geometry}
use Rattle.layout.specs.Places.{IsGeometry}
use Rattle.tree.specs.Space.{numbers_in_zone, pages_of}
use Rattle.volume.specs.Reading.{is_data_zone, is_inode}
use Rattle.volume.specs.Pieces.{Pieces}
use Rattle.volume.specs.Nodes.{word, number, slot, page_zone, page_byte, file_byte, file_of, is_marked, is_mode, is_directory_mode}
use Rattle.volume.specs.Places.{zone_at, Use, IsSamePlace, has_number}
use Rattle.volume.specs.Entries.{is_directory_inode}
use Rattle.volume.specs.Holds.{ZonesAgree, IsSoundDirectory}
use Rattle.volume.proofs.Naming.{room, front, spot}
use Rattle.volume.proofs.Bridge.{naming, zone_spot, no_level}
use Rattle.volume.proofs.Volumes.{numbers_sized}
use Rattle.zone.specs.ZoneSteps.{Same, IsSoundBut}
use Rattle.zone.specs.Raw.{KeepsNumbers, Writes, Resizes, PlacesStay, NumbersKeep, WriteKeepsNumbers, WrittenFile, WriteKeepsFiles, WriteKeeps, ResizedFile, ResizeKeeps}
use Rattle.zone.proofs.Change.{up, nth, read, others}
use Rattle.zone.proofs.OnePlaces.{branch, both_same, spot_zone}
use Rattle.zone.proofs.Full.{some_child, has_child, child}
use Rattle.zone.proofs.Files.{same_file, directory_kept, page_kept}
use Rattle.zone.proofs.Raw.{words_of}

module _ (g : Geometry) (sized : 0 < numbers_in_zone g) (v w : Pieces) (s : KeepsNumbers g v w) where
  cells_stay : (m h i : ℕ) → IsTrue (is_marked g v m) → h < 3
      → read g v w w m h i (spot (naming g v) m h (up g v w h i)) ≡ read g v w v m h i (spot (naming g v) m h (up g v w h i))
  cells_stay m h i is low =
      let q : ℕ = up g v w h i in
      let j : ℕ = nth g v w h i in
      let y = spot (naming g v) m h q in
      let at : y ≡ zone_at g v (v.inodes m) (3 - h) q = spot_zone g sized v m h q (omega arith) in
      let same : number w y j ≡ number v y j = branch (y == 0) 0 (word w y j) 0 (word v y j) (λ _. refl) (λ f.
      let some : y ≢ 0 = λ o. let t = eq-eqb y 0 o in absurd (cc) in
      ap (λ a. word w a j) at ∙ s.blocks m (3 - h) q j is (omega arith) (λ e. some (at ∙ e)) ∙ sym (ap (λ a. word v a j) at)) in
      λ t. cond (nat_lt i (room h)) (s.slots m (front h + i) t) (same t)

  pub stay : (m a i : ℕ) → IsTrue (is_marked g v m) → zone_at g w (w.inodes m) a i ≡ zone_at g v (v.inodes m) a i
  stay m a i is = elim (cases_lt a 4) [
    | inr far ↦ no_level g w sized m a i far ∙ sym (no_level g v sized m a i far)
    | inl low ↦
        zone_spot g w sized m a i low
        ∙ others g v w sized 0 9 0 (λ n yes_ _. s.slots n 9) (λ n h j yes_ less _. cells_stay n h j yes_ less)
        (λ h. absurd (omega arith)) (λ h. absurd (omega arith)) m (3 - a) i is (omega arith) (λ e. absurd (omega (arith, e.1)))
        ∙ sym (zone_spot g v sized m a i low)
  ]

  -- the marked inodes stay
  pub stay_back : (m : ℕ) → IsTrue (is_marked g w m) → IsTrue (is_marked g v m)
  stay_back m is = ap (λ (f : ℕ → Bool). is_inode g m && f m) (sym s.marks) ∙ is

  pub stay_on : (m : ℕ) → IsTrue (is_marked g v m) → IsTrue (is_marked g w m)
  stay_on m is = ap (λ (f : ℕ → Bool). is_inode g m && f m) s.marks ∙ is

  -- uses either way
  abbrev use_back : (y : ℕ) → Use g w y → Use g v y
  use_back y u = let is = stay_back u.inode u.marked in record { inode = u.inode; level = u.level; index = u.index; marked = is; names = sym (stay u.inode u.level u.index is) ∙ u.names }

  abbrev use_on : (y : ℕ) → Use g v y → Use g w y
  use_on y u = record { inode = u.inode; level = u.level; index = u.index; marked = stay_on u.inode u.marked; names = stay u.inode u.level u.index u.marked ∙ u.names }

  pub agree_stays : ZonesAgree g v → ZonesAgree g w
  agree_stays agree = record {
    inode_bit_0 = ap (λ (f : ℕ → Bool). f 0) s.marks ∙ agree.inode_bit_0;
    zone_bit_0 = ap (λ (f : ℕ → Bool). f 0) s.map ∙ agree.zone_bit_0;
    numbers = λ y some u. agree.numbers y some (use_back y u);
    once = λ y some a b. let r = agree.once y some (use_back y a) (use_back y b) in record { inode = r.inode; level = r.level; index = r.index };
    mapped = λ y is. let bit = ap (λ (f : ℕ → Bool). f (y - g.first_zone + 1)) s.map in (λ set. use_on y ((agree.mapped y is).0 (sym bit ∙ set)), λ u. bit ∙ (agree.mapped y is).1 (use_back y u));
  }

pub places_stay : PlacesStay
places_stay g v w m a i ok s is = stay g (numbers_sized g ok) v w s m a i is

pub numbers_keep : NumbersKeep
numbers_keep g v w n l k ok s modes inside directories b =
    let sized = numbers_sized g ok in record {
      zones = agree_stays g sized v w s b.zones;
      modes = λ m is. modes m (stay_back g sized v w s m is);
      inside = λ m p is some. let was = stay_back g sized v w s m is in inside m p was (λ none. some (stay g sized v w s m 0 p was ∙ none));
      full = λ m a i is apart some. elim (cases_lt a 3) [
        | inr far ↦ absurd (some (no_level g w sized m (suc a) i (omega arith)))
        | inl low ↦
            let was = stay_back g sized v w s m is in
            let here = stay g sized v w s m (suc a) i was in
            let x = some_child g sized v m a i low (λ none. some (here ∙ none)) (b.full m a i was apart (λ none. some (here ∙ none))) in
            has_child g sized w m a i x.0 low x.1 some (λ none. x.2 (sym (stay g sized v w s m a (child g a i x.0) was) ∙ none))
      ];
      directories = λ m is d. let h = directories m is d in directory_kept g v w m h.1 (b.directories m h.0 d);
    }

pub write_keeps_numbers : WriteKeepsNumbers
write_keeps_numbers g v w n p ok agree s = record {
  marks = s.marks;
  map = s.map;
  slots = λ m t. ap (λ f. slot (f m) t) s.inodes;
  blocks = λ m a i j is block some. words_of v w (zone_at g v (v.inodes m) a i) j (s.zones (zone_at g v (v.inodes m) a i) (λ e.
      let here : Use g v (page_zone g v (v.inodes n) p) = record { inode = n; level = 0; index = p; marked = s.marked; names = refl } in
      let there : Use g v (page_zone g v (v.inodes n) p) = record { inode = m; level = a; index = i; marked = is; names = e } in
      absurd (omega (arith, (agree.once (page_zone g v (v.inodes n) p) s.held there here).level, block))));
}

module _ (g : Geometry) (v w : Pieces) (n p : ℕ) (ok : IsGeometry g) (agree : ZonesAgree g v) (s : Writes g v w n p) where
  abbrev kept : (m q : ℕ) → IsTrue (is_marked g v m) → page_zone g w (w.inodes m) q ≡ page_zone g v (v.inodes m) q
  kept m q is = places_stay g v w m 0 q ok (write_keeps_numbers g v w n p ok agree s) is

  -- the bytes of another page
  other_page : (m q o : ℕ) → IsTrue (is_marked g v m) → ((m ≡ n) × (q ≡ p) → ⊥) → page_byte w (page_zone g w (w.inodes m) q) o ≡ page_byte v (page_zone g v (v.inodes m) q) o
  other_page m q o is apart =
      ap (λ y. page_byte w y o) (kept m q is)
      ∙ page_kept v w (page_zone g v (v.inodes m) q) o (λ some. s.zones (page_zone g v (v.inodes m) q) (λ e.
      let here : Use g v (page_zone g v (v.inodes n) p) = record { inode = n; level = 0; index = p; marked = s.marked; names = refl } in
      let there : Use g v (page_zone g v (v.inodes n) p) = record { inode = m; level = 0; index = q; marked = is; names = e } in
      let r = agree.once (page_zone g v (v.inodes n) p) s.held there here in
      apart (r.inode, r.index)))

  written_byte : (q : ℕ) → file_byte g w (w.inodes n) q ≡ cond (nat_lt q (v.inodes n).size && (q / g.block_size == p)) (w.zones (page_zone g v (v.inodes n) p) (q % g.block_size)) (file_byte g v (v.inodes n) q)
  written_byte q =
      let low = nat_lt q (v.inodes n).size in
      let z = page_zone g v (v.inodes n) p in
      let size : (w.inodes n).size ≡ (v.inodes n).size = ap (λ f. (f n).size) s.inodes in
      (λ i. cond (nat_lt q (size i)) (page_byte w (page_zone g w (w.inodes n) (q / g.block_size)) (q % g.block_size)) 0)
      ∙ elim (cases_eq (q / g.block_size) p) [
        | inl e ↦
            let here : page_byte w (page_zone g w (w.inodes n) (q / g.block_size)) (q % g.block_size) ≡ w.zones z (q % g.block_size) =
            ap (λ y. page_byte w y (q % g.block_size)) (kept n (q / g.block_size) s.marked ∙ ap (page_zone g v (v.inodes n)) e) ∙ cond-false (z == 0) 0 _ (ne_eqb z 0 s.held) in
            ap (λ x. cond low x 0) here ∙ joined low (q / g.block_size == p) _ _ (eq-eqb _ p e)
        | inr d ↦
            ap (λ x. cond low x 0) (other_page n (q / g.block_size) (q % g.block_size) s.marked (λ e. d e.1))
            ∙ sym (apart_ low (q / g.block_size == p) _ _ (ne_eqb _ p d))
      ]
    where
      joined : (a b : Bool) (x y : ℕ) → b ≡ true → cond a x 0 ≡ cond (a && b) x (cond a y 0)
      joined true b x y e = sym (cond-true b x y e)
      joined false b x y e = refl

      apart_ : (a b : Bool) (x y : ℕ) → b ≡ false → cond (a && b) x y ≡ y
      apart_ true b x y e = cond-false b x y e
      apart_ false b x y e = refl

pub written_file : WrittenFile
written_file g v w n p ok agree s =
    same_file _ _ (ap (λ f. (f n).size) s.inodes) (λ i q. written_byte g v w n p ok agree s q i)
    (λ i q. not (kept g v w n p ok agree s n q s.marked i == 0))

pub write_keeps_files : WriteKeepsFiles
write_keeps_files g v w n p m ok agree s is d =
    let size : (w.inodes m).size ≡ (v.inodes m).size = ap (λ f. (f m).size) s.inodes in
    same_file _ _ size
    (λ i q. cond (nat_lt q (size i)) (other_page g v w n p ok agree s m (q / g.block_size) (q % g.block_size) is (λ e. d e.0) i) 0)
    (λ i q. not (kept g v w n p ok agree s m q is i == 0))

pub write_keeps : WriteKeeps
write_keeps g v w n p l k ok s b =
    let same = write_keeps_numbers g v w n p ok b.zones s in
    numbers_keep g v w n l k ok same
    (λ m is. ap (λ f. is_mode (f m).mode) s.inodes ∙ b.modes m is)
    (λ m q is some. let low = b.inside m q is some in let wide : pages_of g (w.inodes m).size ≡ pages_of g (v.inodes m).size = ap (λ f. pages_of g (f m).size) s.inodes in omega arith)
    (λ m is d.
    let was : IsTrue (is_directory_inode g v m) = (λ i. is_inode g m && sym s.marks i m && is_directory_mode (sym s.inodes i m).mode) ∙ is in
    let marked = (Rattle.std.proofs.lemmas.Bool.and_parts (is_marked g v m) (is_directory_mode (v.inodes m).mode) was).0 in
    (was, write_keeps_files g v w n p m ok b.zones s marked d))
    b

-- no number
resize_numbers : (g : Geometry) (v w : Pieces) (n : ℕ) → Resizes g v w n → KeepsNumbers g v w
resize_numbers g v w n s = record {
  marks = s.marks;
  map = s.map;
  slots = λ m t. elim (cases_eq m n) [
    | inl e ↦ (λ i. slot (w.inodes (e i)) t) ∙ ap (λ zs. Rattle.std.specs.Prelude.slice_index zs t) s.slots ∙ sym (λ i. slot (v.inodes (e i)) t)
    | inr d ↦ ap (λ i. slot i t) (s.others m d)
  ];
  blocks = λ m a i j is block some. words_of v w (zone_at g v (v.inodes m) a i) j (ap (λ f. f (zone_at g v (v.inodes m) a i)) s.zones);
}

pub resized_file : ResizedFile
resized_file g v w n ok s padded =
    same_file _ _ refl (λ i q. each q i)
    (λ i q. not (places_stay g v w n 0 q ok (resize_numbers g v w n s) s.marked i == 0))
  where
    each : (q : ℕ) → file_byte g w (w.inodes n) q ≡ cond (nat_lt q (w.inodes n).size) (file_byte g v (v.inodes n) q) 0
    each q =
        let y = page_zone g v (v.inodes n) (q / g.block_size) in
        let o : ℕ = q % g.block_size in
        let same : page_byte w (page_zone g w (w.inodes n) (q / g.block_size)) o ≡ page_byte v y o =
        ap (λ a. page_byte w a o) (places_stay g v w n 0 (q / g.block_size) ok (resize_numbers g v w n s) s.marked) ∙ ap (λ f. cond (y == 0) 0 (f y o)) s.zones in
        ap (λ x. cond (nat_lt q (w.inodes n).size) x 0) (same ∙ elim (cases_lt q (v.inodes n).size) [
          | inl low ↦ sym (cond-true (nat_lt q (v.inodes n).size) _ 0 (lt-ltb q _ low))
          | inr far ↦
              branch (y == 0) 0 (v.zones y o) 0 0 (λ _. refl) (λ f. padded q far (λ e. let t = eq-eqb y 0 e in absurd (cc)))
              ∙ both_same (y == 0) 0 ∙ sym (cond-false (nat_lt q (v.inodes n).size) (page_byte v y o) 0 (le-ltb q _ far))
        ])

pub resize_keeps : ResizeKeeps
resize_keeps g v w n l k ok s b =
    numbers_keep g v w n l k ok (resize_numbers g v w n s)
    (λ m is. elim (cases_eq m n) [
      | inl e ↦ (λ i. is_mode (w.inodes (e i)).mode) ∙ s.mode
      | inr d ↦ ap (λ x. is_mode x.mode) (s.others m d) ∙ b.modes m is
    ])
    (λ m p is some. elim (cases_eq m n) [
      | inl e ↦
          let low = s.inside p (λ none. some ((λ i. page_zone g v (v.inodes (e i)) p) ∙ none)) in
          let wide : pages_of g (w.inodes m).size ≡ pages_of g (w.inodes n).size = λ i. pages_of g (w.inodes (e i)).size in
          omega arith
      | inr d ↦
          let low = b.inside m p is some in
          let wide : pages_of g (w.inodes m).size ≡ pages_of g (v.inodes m).size = ap (λ x. pages_of g x.size) (s.others m d) in
          omega arith
    ])
    (λ m is d.
    let was : IsTrue (is_directory_inode g v m) = (λ i. is_inode g m && sym s.marks i m && is_directory_mode (sym (s.others m d) i).mode) ∙ is in
    let marked = (Rattle.std.proofs.lemmas.Bool.and_parts (is_marked g v m) (is_directory_mode (v.inodes m).mode) was).0 in
    (was, resize_other g v w n ok s m marked d))
    b
  where
    resize_other : (g : Geometry) (v w : Pieces) (n : ℕ) → IsGeometry g → Resizes g v w n → (m : ℕ) → IsTrue (is_marked g v m) → m ≢ n → file_of g w (w.inodes m) ≡ file_of g v (v.inodes m)
    resize_other g v w n ok s m is d =
        let pages = λ (q : ℕ). places_stay g v w m 0 q ok (resize_numbers g v w n s) is in
        same_file _ _ (ap (λ x. x.size) (s.others m d))
        (λ i q. cond (nat_lt q (s.others m d i).size) (cond (pages (q / g.block_size) i == 0) 0 (s.zones i (pages (q / g.block_size) i) (q % g.block_size))) 0)
        (λ i q. not (pages q i == 0))
