-- From the bytes and zones of this layer to those of the client calls.
use Rattle.std.proofs.Common.{◌≡◌, ◌<◌, ◌≤◌, ◌+◌, ◌-◌, ℕ, zero, suc, List, [], ◌∷◌, length, refl, sym, ap, ◌∙◌, arith}
use mathlib.Core.Logic.{inl, inr}
use Rattle.std.specs.Prelude.{slice_index, Some, take}
use Rattle.std.proofs.lemmas.Bool.{cases_eq, cases_lt, cond-true, cond-false, lt-ltb, le-ltb}
use Rattle.layout.specs.declared.Geometry.{Geometry}
use Rattle.lemmas.specs.Sums.{put, sum_below}
use Rattle.tree.specs.Tree.{Node}
use Rattle.tree.specs.FileCalls.{bytes_from}
use Rattle.tree.specs.ZonesNeeded.{zones_needed}
use Rattle.tree.specs.Space.{numbers_in_zone, zones_of}
use Rattle.lemmas.proofs.Maps.{put-same, put-other, same_sum, sum_put}
use Rattle.volume.specs.Pieces.{Pieces}
use Rattle.volume.specs.declared.Inode.{Inode}
use Rattle.volume.specs.Nodes.{file_of, nodes_of}
use Rattle.volume.proofs.Ranges.{marked_below}
use Rattle.zone.specs.ZoneSteps.{node_from, marked_in}
use Rattle.zone.specs.Room.{taken_by}
use Rattle.zone.proofs.Room.{nodes_take_marked}
use Rattle.zone.proofs.Files.{nodes_change_with}
use Rattle.zone.proofs.Keeps.{sound_is_sound_but}
use Rattle.file.specs.Laws.{BytesAreRead, NodeTakesHeld, RoomIsSpace}
use Rattle.file.specs.Reading.{read_count}
use Rattle.file.proofs.Becoming.{plain, plain_inode, plain_sound, plain_takes}

-- the first bytes of a row, one by one
firsts : (byte : ℕ → ℕ) (n at : ℕ) (bytes : List ℕ) → n ≤ length bytes → ((k : ℕ) → k < n → slice_index bytes k ≡ byte (at + k)) → take n bytes ≡ bytes_from byte at n
firsts byte zero at bytes few h = refl
firsts byte (suc n) at [] few h = absurd (omega (arith, few))
firsts byte (suc n) at (b ∷ bytes) few h =
    let one : b ≡ byte at = h 0 (omega arith) ∙ ap byte (omega arith) in
    let rest = firsts byte n (suc at) bytes (omega (arith, few)) (λ k low. h (suc k) (omega (arith, low)) ∙ ap byte (omega arith)) in
    λ i. one i ∷ rest i

count_room : (size at room : ℕ) → read_count size at room ≤ room
count_room size at room = elim (cases_lt (size - at) room) [
  | inl low ↦ let e : read_count size at room ≡ size - at = cond-true _ _ _ (lt-ltb _ room low) in omega (arith, e, low)
  | inr far ↦ let e : read_count size at room ≡ room = cond-false _ _ _ (le-ltb _ room far) in omega (arith, e)
]

pub bytes_are_read : BytesAreRead
bytes_are_read f at bytes h = firsts f.byte (read_count f.size at (length bytes)) at bytes (count_room f.size at (length bytes)) h

-- the zones of the nodes, where one is another
pub put_taken : (g : Geometry) (v : Pieces) (n : ℕ) (x : Node) → n < g.inodes + 1
    → taken_by g (put (nodes_of g v) n (Some x)) + zones_of g (nodes_of g v n) ≡ taken_by g (nodes_of g v) + zones_of g (Some x)
put_taken g v n x low =
    let h : ℕ → ℕ = λ m. zones_of g (nodes_of g v m) in
    let same : taken_by g (put (nodes_of g v) n (Some x)) ≡ sum_below (put h n (zones_of g (Some x))) (g.inodes + 1) = same_sum _ _ (g.inodes + 1) (λ m _. elim (cases_eq m n) [
      | inl e ↦ ap (zones_of g) (ap (put (nodes_of g v) n (Some x)) e ∙ put-same (nodes_of g v) n (Some x)) ∙ sym (ap (put h n (zones_of g (Some x))) e ∙ put-same h n (zones_of g (Some x)))
      | inr d ↦ ap (zones_of g) (put-other (nodes_of g v) n (Some x) m d) ∙ sym (put-other h n (zones_of g (Some x)) m d)
    ]) in
    let whole = sum_put h n (zones_of g (Some x)) (g.inodes + 1) low in
    omega (arith, same, whole)

pub node_takes_held : NodeTakesHeld
node_takes_held g v n ok s is =
    let rules = sound_is_sound_but g v n 0 s in
    let w = plain v n in
    let i = w.inodes n in
    let nodes : nodes_of g w ≡ put (nodes_of g v) n (Some (node_from i (file_of g v i))) = nodes_change_with g v w n refl is
    (λ m d. let e = put-other v.inodes n (plain_inode (v.inodes n)) m d in e ∙ sym (ap (λ (x : Inode). record (v.inodes m) { zones = x.zones }) e))
    (λ m there d. ap (file_of g v) (put-other v.inodes n (plain_inode (v.inodes n)) m d)) in
    let all = nodes_take_marked g v ok s in
    let plain_all = nodes_take_marked g w ok (plain_sound g v n ok is rules) in
    let whole = put_taken g v n (node_from i (file_of g v i)) (marked_below g v n is) in
    let takes = plain_takes g v n ok is rules in
    let same : taken_by g (nodes_of g w) ≡ taken_by g (put (nodes_of g v) n (Some (node_from i (file_of g v i)))) = ap (taken_by g) nodes in
    let marked : marked_in g w ≡ marked_in g v = refl in
    omega (arith, all, plain_all, whole, takes, same, marked)

pub room_is_space : RoomIsSpace
room_is_space g v n x held ok s is same =
    let all = nodes_take_marked g v ok s in
    let here = node_takes_held g v n ok s is in
    let then_ : zones_of g (Some x) ≡ zones_needed (numbers_in_zone g) held = ap (zones_needed (numbers_in_zone g)) same in
    let whole = put_taken g v n x (marked_below g v n is) in
    (λ fits. omega (arith, fits, all, here, then_, whole), λ room. omega (arith, room, all, here, then_, whole))
