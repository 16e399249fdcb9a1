-- The steps of an attach and of a detach keep the rules, up to one block without a number.
use Rattle.std.proofs.Common.{◌≡◌, ◌≢◌, ◌⊎◌, ◌<◌, ◌≤◌, ◌+◌, ◌-◌, ◌/◌, ℕ, zero, suc, Bool, true, false, refl, sym, ap, ◌∙◌, cond, subst, arith}
use mathlib.Core.Logic.{inl, inr}
use Rattle.std.specs.Prelude.{◌&&◌, ◌==◌, nat_lt, IsTrue}
use Rattle.std.proofs.lemmas.Bool.{cases_eq, cases_Bool, cond-true, and_parts, and_from}
use Rattle.layout.specs.declared.Geometry.{Geometry}
use Rattle.layout.specs.Places.{IsGeometry}
use Rattle.tree.specs.Space.{pages_of, numbers_in_zone}
use Rattle.volume.specs.Pieces.{Pieces}
use Rattle.volume.specs.Nodes.{page_zone, is_marked, is_mode, is_directory_mode}
use Rattle.volume.specs.Places.{zone_at, has_number}
use Rattle.volume.specs.Entries.{is_directory_inode}
use Rattle.volume.specs.Holds.{ZonesAgree, IsSoundInode, IsSoundDirectory, IsSound}
use Rattle.volume.proofs.Volumes.{numbers_sized}
use Rattle.zone.specs.ZoneSteps.{Same, SameInodes, Links, Unlinks, IsSoundBut, above_level, above, SoundIsSoundBut, SoundButIsSound, FullAgain, Weaker, LinkKeeps, UnlinkKeeps}
use Rattle.zone.proofs.Change.{same_or_not}
use Rattle.zone.proofs.Agree.{marked_back, marked_on, link_agrees, unlink_agrees}
use Rattle.zone.proofs.Full.{link_full, unlink_full}
use Rattle.zone.proofs.Files.{size_kept, mode_kept, link_keeps_files, unlink_keeps_files, directory_kept}

-- whole rules
pub sound_is_sound_but : SoundIsSoundBut
sound_is_sound_but g v n k s = record {
  zones = s.zones;
  modes = λ m is. (s.inodes m is).mode;
  inside = λ m p is. (s.inodes m is).inside p;
  full = λ m a i is apart. (s.inodes m is).full a i;
  directories = λ m is apart. s.directories m is;
}

pub sound_but_is_sound : SoundButIsSound
sound_but_is_sound g v n k b d = record {
  zones = b.zones;
  inodes = λ m is. record {
    mode = b.modes m is;
    inside = λ p. b.inside m p is;
    full = λ a i. b.full m a i is (λ e. absurd (omega (arith, e.1)));
  };
  directories = λ m is. elim (cases_eq m n) [
    | inl e ↦ subst (λ x. IsTrue (is_directory_inode g v x) → IsSoundDirectory g v x) (sym e) d is
    | inr apart ↦ b.directories m is apart
  ];
}

-- a block that may be without a number has one
pub full_again : FullAgain
full_again g v n l k j b has = record {
  zones = b.zones;
  modes = b.modes;
  inside = b.inside;
  full = λ m a i is _ some. elim (same_or_not n l k m (suc a) i) [
    | inl e ↦
        let back : zone_at g v (v.inodes m) (suc a) i ≡ zone_at g v (v.inodes n) l k = λ t. zone_at g v (v.inodes (e.0 t)) (e.1 t) (e.2 t) in
        ap (has_number g v) back ∙ has (let o = e.1 in omega arith) (λ none. some (back ∙ none))
    | inr d ↦ b.full m a i is d some
  ];
  directories = b.directories;
}

-- and where all have one, any may be without
pub weaker : Weaker
weaker g v n l k j b = record {
  zones = b.zones;
  modes = b.modes;
  inside = b.inside;
  full = λ m a i is _ some. b.full m a i is (λ e. absurd (omega (arith, e.1))) some;
  directories = b.directories;
}

module _ (g : Geometry) (v w : Pieces) (same : SameInodes g v w) where
  -- the directories stay
  pub dir_back : (m : ℕ) → IsTrue (is_directory_inode g w m) → IsTrue (is_directory_inode g v m)
  dir_back m is =
      let parts = and_parts (is_marked g w m) (is_directory_mode (w.inodes m).mode) is in
      and_from (is_marked g v m) (is_directory_mode (v.inodes m).mode) (marked_back g v w same m parts.0) (ap is_directory_mode (sym (mode_kept g v w same m)) ∙ parts.1)

  pub dir_marked : (m : ℕ) → IsTrue (is_directory_inode g w m) → IsTrue (is_marked g v m)
  dir_marked m is = marked_back g v w same m (and_parts (is_marked g w m) (is_directory_mode (w.inodes m).mode) is).0

-- down
pub link_keeps : LinkKeeps
link_keeps g v w n l k z ok s sized b = record {
  zones = link_agrees g ok v w n l k z s b.zones;
  modes = λ m is. ap is_mode (mode_kept g v w s.inodes m) ∙ b.modes m (marked_back g v w s.inodes m is);
  inside = λ m p is some. elim (same_or_not n l k m 0 p) [
    | inl e ↦
        let low = sized (sym e.1) in
        let wide : pages_of g (w.inodes m).size ≡ pages_of g (v.inodes n).size = ap (pages_of g) (size_kept g v w s.inodes m ∙ (λ i. (v.inodes (e.0 i)).size)) in
        omega (arith, e.2, low, wide)
    | inr d ↦
        let was = marked_back g v w s.inodes m is in
        let low = b.inside m p was (λ none. some (s.place.others m 0 p was d ∙ none)) in
        let wide : pages_of g (w.inodes m).size ≡ pages_of g (v.inodes m).size = ap (pages_of g) (size_kept g v w s.inodes m) in
        omega (arith, low, wide)
  ];
  full = link_full g ok (numbers_sized g ok) v w n l k z s b;
  directories = λ m is d. directory_kept g v w m (link_keeps_files g v w n l k z m ok s (dir_marked g v w s.inodes m is) (λ e. d e.0)) (b.directories m (dir_back g v w s.inodes m is) d);
}

-- up
pub unlink_keeps : UnlinkKeeps
unlink_keeps g v w n l k z ok s b = record {
  zones = unlink_agrees g ok v w n l k z s b.zones;
  modes = λ m is. ap is_mode (mode_kept g v w s.inodes m) ∙ b.modes m (marked_back g v w s.inodes m is);
  inside = λ m p is some. elim (same_or_not n l k m 0 p) [
    | inl e ↦ absurd (some ((λ i. zone_at g w (w.inodes (e.0 i)) (e.1 i) (e.2 i)) ∙ s.place.here))
    | inr d ↦
        let was = marked_back g v w s.inodes m is in
        let low = b.inside m p was (λ none. some (s.place.others m 0 p was d ∙ none)) in
        let wide : pages_of g (w.inodes m).size ≡ pages_of g (v.inodes m).size = ap (pages_of g) (size_kept g v w s.inodes m) in
        omega (arith, low, wide)
  ];
  full = unlink_full g ok (numbers_sized g ok) v w n l k z s b;
  directories = λ m is d. directory_kept g v w m (unlink_keeps_files g v w n l k z m ok b.zones s (dir_marked g v w s.inodes m is) (λ e. d e.0)) (b.directories m (dir_back g v w s.inodes m is) d);
}
