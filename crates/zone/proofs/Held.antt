-- From the calls on slots and blocks to places that are held and let go.
use Rattle.std.proofs.Common.{◌≡◌, ◌≢◌, ◌<◌, ◌≤◌, ◌+◌, ◌-◌, ◌/◌, ◌%◌, ℕ, refl, sym, ap, subst, ◌∙◌, arith}
use mathlib.Core.Logic.{inl, inr}
use Rattle.std.specs.Prelude.{◌==◌, not, Option, None, Some}
use Rattle.std.proofs.lemmas.Bool.{cases_eq, cond-false, ne_eqb, not_from_false}
use Rattle.volume.proofs.Sums.{some_from}
use Rattle.volume.proofs.Volumes.{numbers_sized}
use Rattle.layout.specs.declared.Geometry.{Geometry}
use Rattle.tree.specs.Space.{numbers_in_zone}
use Rattle.volume.specs.Reading.{Disk}
use Rattle.volume.specs.Pieces.{Pieces, pieces}
use Rattle.volume.specs.Nodes.{word, slot, number}
use Rattle.volume.specs.Places.{zone_at}
use Rattle.zone.specs.ZoneSteps.{first_places, slot_of, IsBare, Links, Unlinks}
use Rattle.zone.specs.Composite.{Attached, Detached}
use Rattle.zone.proofs.ZoneInodes.{inode_is}
use Rattle.zone.specs.PlaceParts.{IsSomeNumber}
use Rattle.zone.specs.Steps.{HoldsSlot, MayHoldSlot, HoldsNumber, MayHoldNumber, DropsSlot, MayDropSlot, DropsNumber, MayDropNumber}
use Rattle.zone.specs.Pages.{MayHold, HoldsPlace, MayRelease, Releases}
use Rattle.zone.proofs.Levels.{zone_inner, found_outer}
use Rattle.zone.proofs.Filling.{ten, slot_filled_links, word_filled_links, inner_zone, inner_done, inner_room, inner_filled, here_above, outer_level, block_is, block_some, is_low, nth_is, marked_u, outer_zone, outer_done, outer_room, outer_filled, slot_cleared_unlinks, word_cleared_unlinks, released_inner, released_outer, released_on, may_release_above, block_there, its_place, walk_block}

module _ (g : Geometry) (d e : Disk) (n l k f s z : ℕ) (first : f ≡ first_places l) (near : k < f) (at : s ≡ slot_of l k) where
  abbrev v : Pieces
  v = pieces g d

  -- a place of the inode that is held
  pub slot_held : HoldsSlot g n s z d e → HoldsPlace g n l k z d e
  slot_held h = elim (cases_eq (slot (v.inodes n) s) 0) [
    | inr some ↦
        let t = h.there some in
        record {
          head = λ b low. ap (λ (x : Disk). x b) t.0;
          attached = λ may. subst (λ (x : Disk). Attached g v (pieces g x) n l k) (sym t.0) (inner_done g v n l k f s (slot (v.inodes n) s) may first near at refl some);
          names = λ may. ap (λ (x : Disk). zone_at g (pieces g x) ((pieces g x).inodes n) l k) t.0 ∙ inner_zone g v n l k f s (slot (v.inodes n) s) may first near at refl ∙ sym t.1;
        }
    | inl none ↦
        let t = h.fresh none in
        let links : MayHold g v n l k → Links g v (pieces g e) n l k z = λ may. slot_filled_links g v (pieces g e) n l k z may.geometry may.rules.zones may.marked may.level (omega arith)
        (ten g d n (inode_is g v n may.marked)) (inner_zone g v n l k f s 0 may first near at (sym none)) t.data_zone t.free
        (t.alters.pieces ∙ ap (λ a. Rattle.zone.specs.Parts.with_slot (Rattle.zone.specs.Parts.with_fresh g v z) n a z) at) in
        record {
          head = t.alters.head;
          attached = λ may. inner_filled g v (pieces g e) n l k f z may first near (links may);
          names = λ may. (links may).place.here;
        }
  ]

  pub may_hold_slot : MayHold g v n l k → MayHoldSlot g v n s
  may_hold_slot may = record { inode = inode_is g v n may.marked; room = λ none. inner_room g v n l k f s 0 may first near at (sym none) refl }

-- past the triple's block there is no place
pub no_place : (g : Geometry) (v : Pieces) (n l k f : ℕ) → f ≡ first_places l → f ≤ k → l ≡ 3 → MayHold g v n l k → ⊥
no_place g v n l k f first far is may = let low = outer_level g l k may.level (omega arith) may.place in absurd (omega arith)

module _ (g : Geometry) (d e h : Disk) (n l k f w b z : ℕ) (first : f ≡ first_places l) (wide : w ≡ numbers_in_zone g) (far : f ≤ k) (p : HoldsPlace g n (l + 1) ((k - f) / w) b d e) where
  abbrev x : Pieces
  x = pieces g d

  abbrev u : Pieces
  u = pieces g e

  abbrev j : ℕ
  j = (k - f) % w

  module _ (may : MayHold g x n l k) where
    up : Attached g x u n (l + 1) ((k - f) / w)
    up = p.attached (here_above g x n l k f w may first wide far)

    names : zone_at g u (u.inodes n) (l + 1) ((k - f) / w) ≡ b
    names = p.names (here_above g x n l k f w may first wide far)

    some_block : b ≢ 0
    some_block = block_some g x u n l k f w b may first wide far up names

    number_word : number u b j ≡ word u b j
    number_word = cond-false (b == 0) 0 (word u b j) (ne_eqb b 0 some_block)

    linked : number u b j ≡ 0 → (q : HoldsNumber g b j z e h) → Links g u (pieces g h) n l k z
    linked none q =
        let t = q.fresh none in
        word_filled_links g u (pieces g h) n l k b j z may.geometry up.rules.zones (marked_u g x u n l k f w b may first wide far up names)
        (is_low g x u n l k f w b may first wide far up names) (omega arith) (block_is g x u n l k f w b may first wide far up names) some_block
        (nth_is g x u n l k f w b may first wide far up names)
        (outer_zone g x u n l k f w b may first wide far up names 0 (sym none ∙ number_word)) t.data_zone t.free t.alters.pieces

  -- a place of a block that is held
  pub word_held : HoldsNumber g b j z e h → HoldsPlace g n l k z d h
  word_held q = elim (cases_eq (number u b j) 0) [
    | inr some ↦
        let t = q.there some in
        record {
          head = λ c low. ap (λ (y : Disk). y c) t.0 ∙ p.head c low;
          attached = λ may. subst (λ (y : Disk). Attached g x (pieces g y) n l k) (sym t.0)
              (outer_done g x u n l k f w b may first wide far (up may) (names may) (number u b j) (number_word may) some);
          names = λ may. ap (λ (y : Disk). zone_at g (pieces g y) ((pieces g y).inodes n) l k) t.0
              ∙ outer_zone g x u n l k f w b may first wide far (up may) (names may) (number u b j) (number_word may) ∙ sym t.1;
        }
    | inl none ↦
        let t = q.fresh none in
        record {
          head = λ c low. t.alters.head c low ∙ p.head c low;
          attached = λ may. outer_filled g x u n l k f w b may first wide far (up may) (names may) (pieces g h) z (linked may none q);
          names = λ may. (linked may none q).place.here;
        }
  ]

  pub may_hold_number : MayHold g x n l k → MayHoldNumber g u b j
  may_hold_number may = record {
    names = (up may).rules.zones.numbers b (some_block may) (record { inode = n; level = l + 1; index = (k - f) / w; marked = marked_u g x u n l k f w b may first wide far (up may) (names may); names = names may });
    room = λ none. outer_room g x u n l k f w b may first wide far (up may) (names may) 0 (sym none ∙ number_word may) refl;
  }

module _ (g : Geometry) (d e : Disk) (n l k f s : ℕ) (first : f ≡ first_places l) (near : k < f) (at : s ≡ slot_of l k) where
  -- what is let go stands in the slot
  in_slot : MayRelease g (pieces g d) n l k → zone_at g (pieces g d) ((pieces g d).inodes n) l k ≡ slot ((pieces g d).inodes n) s
  in_slot may = zone_inner g (pieces g d) ((pieces g d).inodes n) l k may.level (omega arith) ∙ ap (slot ((pieces g d).inodes n)) (sym at)

  -- a place of the inode that is let go
  pub slot_released : DropsSlot g n s d e → Releases g n l k d e
  slot_released h = record {
    head = h.head;
    detached = λ may. released_inner g (pieces g d) (pieces g e) n l k f _ may first near
        (slot_cleared_unlinks g (pieces g d) (pieces g e) n l k _ s may (omega arith) (ten g d n (inode_is g (pieces g d) n may.marked)) (in_slot may) at h.pieces);
  }

  pub may_drop_slot : MayRelease g (pieces g d) n l k → MayDropSlot g (pieces g d) n s
  may_drop_slot may = record {
    inode = inode_is g (pieces g d) n may.marked;
    zone = may.rules.zones.numbers _ (λ none. may.some (in_slot may ∙ none)) (record { inode = n; level = l; index = k; marked = may.marked; names = in_slot may });
  }

-- past the triple's block there is none
pub none_to_release : (g : Geometry) (v : Pieces) (n l k f : ℕ) → f ≡ first_places l → f ≤ k → l ≡ 3 → MayRelease g v n l k → ⊥
none_to_release g v n l k f first far is may = let low = outer_level g l k may.level (omega arith) may.place in absurd (omega arith)

module _ (g : Geometry) (d i e : Disk) (n l k f w b : ℕ) (low : l < 4) (apart : l ≢ 3) (first : f ≡ first_places l) (wide : w ≡ numbers_in_zone g) (far : f ≤ k)
    (same : i ≡ d) (up : b ≡ zone_at g (pieces g d) ((pieces g d).inodes n) (l + 1) ((k - f) / w)) where
  abbrev start : Pieces
  start = pieces g d

  abbrev nth : ℕ
  nth = (k - f) % w

  module _ (may : MayRelease g start n l k) where
    there : b ≢ 0
    there = block_there g start start n l k f w b 0 may first wide far (sym up)

    stands : zone_at g start (start.inodes n) l k ≡ number start b nth
    stands = sym (found_outer g start (start.inodes n) l k f w b (number start b nth) (numbers_sized g may.geometry) low apart first wide far up refl)

    pub may_drop_number : MayDropNumber g (pieces g i) b nth
    may_drop_number = subst (λ (x : Disk). MayDropNumber g (pieces g x) b nth) (sym same) (record {
      names = may.rules.zones.numbers b there (record { inode = n; level = l + 1; index = (k - f) / w; marked = may.marked; names = sym up });
      zone = may.rules.zones.numbers _ (λ none. may.some (stands ∙ none)) (record { inode = n; level = l; index = k; marked = may.marked; names = stands });
    })

    module _ (h : DropsNumber g b nth i e) where
      gone : DropsNumber g b nth d e
      gone = subst (λ (x : Disk). DropsNumber g b nth x e) same h

      unlinks : Unlinks g start (pieces g e) n l k (number start b nth)
      unlinks = word_cleared_unlinks g start (pieces g e) n l k _ b nth may (outer_level g l k may.level (omega arith) may.place) (omega arith) stands
          (walk_block g start n l k f w (its_place g start n l k may) first wide far b (sym up)) there (λ t. (k - first t) % wide t) gone.pieces

      pub may_release_up : IsBare g (pieces g e) b → MayRelease g (pieces g e) n (l + 1) ((k - f) / w)
      may_release_up none = may_release_above g start (pieces g e) n l k f w b _ may first wide far (sym up) unlinks none

      released_up : (z : Disk) → Releases g n (l + 1) ((k - f) / w) e z → IsBare g (pieces g e) b → Detached g start (pieces g z) n l k
      released_up z r none = released_on g start (pieces g e) n l k f w b _ may first wide far (sym up) unlinks (pieces g z) (r.detached (may_release_up none))

      released_here : (j : ℕ) → j < numbers_in_zone g → number (pieces g e) b j ≢ 0 → Detached g start (pieces g e) n l k
      released_here j under some = released_outer g start (pieces g e) n l k f w b _ may first wide far (sym up) unlinks
          (some_from (λ x. not (word (pieces g e) b x == 0)) (numbers_in_zone g) j under
          (not_from_false (word (pieces g e) b j == 0) (ne_eqb (word (pieces g e) b j) 0 (λ o. some (cond-false (b == 0) 0 (word (pieces g e) b j) (ne_eqb b 0 there) ∙ o)))))

  -- a place of a block that is let go, where the block has another number
  pub word_released : (x : Option ℕ) (j : ℕ) → x ≡ Some j → DropsNumber g b nth i e × IsSomeNumber g (pieces g e) b x → Releases g n l k d e
  word_released x j is h =
      let last = subst (λ (y : Option ℕ). IsSomeNumber g (pieces g e) b y) is h.1 in
      record { head = λ c under. h.0.head c under ∙ ap (λ (y : Disk). y c) same; detached = λ may. released_here may h.0 j last.0 last.1 }

  -- and where it has none
  pub word_released_on : (z : Disk) (x : Option ℕ) → x ≡ None → DropsNumber g b nth i e × IsSomeNumber g (pieces g e) b x
      → Releases g n (l + 1) ((k - f) / w) e z → Releases g n l k d z
  word_released_on z x is h r =
      let none = subst (λ (y : Option ℕ). IsSomeNumber g (pieces g e) b y) is h.1 in
      record { head = λ c under. r.head c under ∙ h.0.head c under ∙ ap (λ (y : Disk). y c) same; detached = λ may. released_up may h.0 z r none }

  pub may_go_on : (x : Option ℕ) → x ≡ None → DropsNumber g b nth i e × IsSomeNumber g (pieces g e) b x → MayRelease g start n l k
      → MayRelease g (pieces g e) n (l + 1) ((k - f) / w)
  may_go_on x is h may = may_release_up may h.0 (subst (λ (y : Option ℕ). IsSomeNumber g (pieces g e) b y) is h.1)
