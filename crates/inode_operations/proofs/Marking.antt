-- A free inode is written and marked: the rules hold, and a file of no bytes stands there.
use Rattle.std.proofs.Common.{◌≡◌, ◌≢◌, ◌<◌, ◌≤◌, ◌+◌, ◌/◌, ◌%◌, ◌^◌, ℕ, true, false, refl, sym, ap, subst, ◌∙◌, arith, replicate}
use mathlib.Core.Logic.{inl, inr}
use Rattle.std.specs.Prelude.{◌||◌, ◌==◌, nat_lt, nat_le, not, IsTrue, None, Some, slice_index}
use Rattle.std.proofs.lemmas.Bool.{and_from, and_parts, cases_Bool, cond-false, cond-true, le-ltb, leb-true, lt-ltb}
use Rattle.lemmas.proofs.Lists.{zero_at}
use Rattle.lemmas.proofs.Bools.{false_not_true}
use Rattle.layout.specs.declared.Geometry.{Geometry}
use Rattle.layout.specs.Places.{IsGeometry}
use Rattle.tree.specs.declared.User.{User}
use Rattle.lemmas.specs.Sums.{put}
use Rattle.tree.specs.Tree.{File, Node, directory_type, file_type}
use Rattle.tree.specs.Changes.{empty_file, new_node}
use Rattle.lemmas.proofs.Maps.{not_nothing, put-same, put-other}
use Rattle.volume.specs.declared.Inode.{Inode}
use Rattle.volume.specs.Reading.{Disk, is_inode}
use Rattle.volume.specs.Pieces.{Pieces, pieces}
use Rattle.volume.specs.Nodes.{is_directory_mode, is_link_mode, is_marked, is_mode, node_of, nodes_of, page_byte, page_zone, permissions_in, slot, type_in}
use Rattle.volume.specs.Places.{zone_at}
use Rattle.volume.specs.Holds.{IsSound}
use Rattle.block_store.specs.Volume.{Alters}
use Rattle.zone.specs.ZoneSteps.{IsSoundBut, body_from, node_from}
use Rattle.zone.specs.Inodes.{ChangesInode}
use Rattle.zone.proofs.ZoneInodes.{change_keeps, changed_nodes, no_slots_no_places}
use Rattle.zone.proofs.Keeps.{sound_but_is_sound, sound_is_sound_but}
use Rattle.zone.proofs.Files.{same_file}
use Rattle.file.specs.PageChanges.{MayChange, file_at}
use Rattle.inode_operations.specs.Steps.{BecomesAt}
use Rattle.inode_operations.specs.NewNodes.{MakesFile, MayMakeFile, new_inode, with_new_inode}

-- a file of no bytes
abbrev pub nothing : File
nothing = record { size = 0; byte = λ p. 0; held = λ q. false }

-- its mode
module _ (permissions : ℕ) (few : permissions ≤ 511) where
  file_permissions : permissions_in (file_type + permissions) ≡ permissions
  file_permissions = omega (arith, few)

  file_kind : is_directory_mode (file_type + permissions) ≡ false
  file_kind = let t : type_in (file_type + permissions) ≡ 8 = omega (arith, few) in ap (λ x. x == 4) t

  file_mode : IsTrue (is_mode (file_type + permissions))
  file_mode =
      let t : type_in (file_type + permissions) ≡ 8 = omega (arith, few) in
      let low : (file_type + permissions) % 8 ^ 4 < 8 ^ 3 = omega (arith, few) in
      and_from _ _ (ap (λ x. (x == 4) || (x == 8) || (x == 10)) t) (lt-ltb _ _ low)

  pub file_no_link : is_link_mode (file_type + permissions) ≡ false
  file_no_link = let t : type_in (file_type + permissions) ≡ 8 = omega (arith, few) in ap (λ x. x == 10) t

  pub directory_no_link : is_link_mode (directory_type + permissions) ≡ false
  directory_no_link = let t : type_in (directory_type + permissions) ≡ 4 = omega (arith, few) in ap (λ x. x == 10) t

  pub directory_permissions : permissions_in (directory_type + permissions) ≡ permissions
  directory_permissions = omega (arith, few)

  pub directory_kind : is_directory_mode (directory_type + permissions) ≡ true
  directory_kind = let t : type_in (directory_type + permissions) ≡ 4 = omega (arith, few) in ap (λ x. x == 4) t

  pub directory_mode : IsTrue (is_mode (directory_type + permissions))
  directory_mode =
      let t : type_in (directory_type + permissions) ≡ 4 = omega (arith, few) in
      let low : (directory_type + permissions) % 8 ^ 4 < 8 ^ 3 = omega (arith, few) in
      and_from _ _ (ap (λ x. (x == 4) || (x == 8) || (x == 10)) t) (lt-ltb _ _ low)

module _ (g : Geometry) (v : Pieces) (n : ℕ) (i : Inode) (ok : IsGeometry g) (may : MayMakeFile g v n)
    (size : i.size ≡ 0) (zones : i.zones ≡ replicate 10 0) (mode : IsTrue (is_mode i.mode)) where
  abbrev w : Pieces
  w = with_new_inode v n i

  its : w.inodes n ≡ i
  its = put-same v.inodes n i

  pub some : n ≢ 0
  some none = let low = leb-true 1 n (and_parts (nat_le 1 n) (nat_le n g.inodes) may.number).0 in absurd (omega (arith, low, none))

  unmarked : is_marked g v n ≡ false
  unmarked = elim (cases_Bool (is_marked g v n)) [
    | inl is ↦ absurd (not_nothing _ (sym may.free ∙ cond-true (is_marked g v n) _ None is))
    | inr is ↦ is
  ]

  pub marked : IsTrue (is_marked g w n)
  marked = and_from (is_inode g n) (w.inode_map n) may.number (put-same v.inode_map n true)

  pub no_places : (a k : ℕ) → zone_at g w (w.inodes n) a k ≡ 0
  no_places = no_slots_no_places g w n ok (λ s low. ap (λ (x : Inode). slot x s) its ∙ ap (λ xs. slice_index xs s) zones ∙ zero_at 10 s)

  changes : ChangesInode g v w n
  changes = record {
    some = some;
    marks = λ m d. put-other v.inode_map n true m d;
    map = refl;
    zones = refl;
    others = λ m d. put-other v.inodes n i m d;
    before = λ is. absurd (false_not_true (sym unmarked ∙ is));
    after = λ is a k. no_places a k;
    mode = λ is. ap (λ (x : Inode). is_mode x.mode) its ∙ mode;
  }

  pub rules : IsSoundBut g w n 0 0
  rules = change_keeps g v w n 0 ok changes (sound_is_sound_but g v n 0 may.sound)

  -- its file may change
  pub may_change : MayChange g w n
  may_change = record { geometry = ok; marked = marked; rules = rules }

  -- and has no bytes
  pub its_file : file_at g w n ≡ nothing
  its_file = same_file _ _ (ap (λ (x : Inode). x.size) its ∙ size)
      (λ t q. byte q t) (λ t q. ap (λ z. not (z == 0)) (no_places 0 q) t)
    where
      byte : (q : ℕ) → (file_at g w n).byte q ≡ 0
      byte q =
          let small : (w.inodes n).size ≡ 0 = ap (λ (x : Inode). x.size) its ∙ size in
          cond-false (nat_lt q (w.inodes n).size) (page_byte w (page_zone g w (w.inodes n) (q / g.block_size)) (q % g.block_size)) 0 (le-ltb q (w.inodes n).size (omega (arith, small)))

  pub its_nodes : nodes_of g w ≡ put (nodes_of g v) n (Some (node_from i nothing))
  its_nodes = changed_nodes g v w n changes
      ∙ ap (put (nodes_of g v) n) (cond-true (is_marked g w n) (Some (node_of g w (w.inodes n))) None marked ∙ (λ t. Some (node_from (its t) (its_file t))))

  -- a file's rules are these
  pub file_sound : is_directory_mode i.mode ≡ false → IsSound g w
  file_sound kind = sound_but_is_sound g w n 0 rules (λ is.
      let d : is_directory_mode (w.inodes n).mode ≡ true = (and_parts (is_marked g w n) (is_directory_mode (w.inodes n).mode) is).1 in
      absurd (false_not_true (sym kind ∙ sym (ap (λ (x : Inode). is_directory_mode x.mode) its) ∙ d)))

-- a new file
pub file_made : (g : Geometry) (v : Pieces) (n now permissions : ℕ) (user : User) → IsGeometry g → permissions ≤ 511 → MayMakeFile g v n
    → BecomesAt g v (with_new_inode v n (new_inode file_type 1 user now permissions)) n (Some (new_node now user permissions 1 empty_file))
file_made g v n now permissions user ok few may =
    let i = new_inode file_type 1 user now permissions in
    let kind = file_kind permissions few in
    let mode = file_mode permissions few in
    record {
      sound = file_sound g v n i ok may refl refl mode kind;
      nodes = its_nodes g v n i ok may refl refl mode ∙ ap (λ (x : Node). put (nodes_of g v) n (Some x))
          (λ t. record {
            permissions = file_permissions permissions few t;
            symbolic = file_no_link permissions few t;
            uid = user.uid;
            gid = user.gid;
            links = 1;
            atime = now;
            mtime = now;
            ctime = now;
            body = plain kind t;
          });
    }
  where
    plain : is_directory_mode (file_type + permissions) ≡ false → body_from (new_inode file_type 1 user now permissions) nothing ≡ empty_file
    plain kind = cond-false (is_directory_mode (file_type + permissions)) _ _ kind

pub file_makes : (g : Geometry) (n now permissions : ℕ) (user : User) (d e : Disk) → IsGeometry g → permissions ≤ 511
    → Alters g (with_new_inode (pieces g d) n (new_inode file_type 1 user now permissions)) d e → MakesFile g n user now permissions d e
file_makes g n now permissions user d e ok few a = record {
  head = a.head;
  becomes = λ may. let v = pieces g d in
      subst (λ (w : Pieces). BecomesAt g v w n (Some (new_node now user permissions 1 empty_file))) (sym a.pieces) (file_made g v n now permissions user ok few may);
}
