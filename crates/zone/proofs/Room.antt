-- Where the tree after a write fits, each page on the way has room.
use Rattle.std.proofs.Common.{◌≡◌, ◌<◌, ◌≤◌, ◌+◌, ℕ, true, false, refl, sym, ap, ◌∙◌, cond, arith}
use mathlib.Core.Logic.{inl, inr}
use Rattle.std.proofs.lemmas.Bool.{cases_eq, cond-true, cond-false}
use Rattle.std.specs.Prelude.{Some, None}
use Rattle.lemmas.specs.Sums.{put, sum_below}
use Rattle.tree.specs.Tree.{is_file}
use Rattle.tree.specs.ZonesNeeded.{zones_needed}
use Rattle.tree.specs.Space.{numbers_in_zone, zones_of, held_of}
use Rattle.lemmas.proofs.Maps.{put-same, put-other, same_sum, sum_put}
use Rattle.zone.proofs.Fewer.{need_less}
use Rattle.volume.specs.Nodes.{file_of, node_of, nodes_of, is_marked}
use Rattle.volume.proofs.Ranges.{marked_below}
use Rattle.volume.proofs.MarkedZones.{zones_are_marked}
use Rattle.volume.proofs.Volumes.{numbers_sized}
use Rattle.zone.specs.Room.{NodesTakeMarked, PageHasRoom}
use Rattle.zone.proofs.Keeps.{sound_is_sound_but}
use Rattle.zone.proofs.Missing.{page_takes_missing}

pub nodes_take_marked : NodesTakeMarked
nodes_take_marked g v ok s = zones_are_marked g v ok (numbers_sized g ok) s

pub page_has_room : PageHasRoom
page_has_room g v n p f x ok s is plain low body more fits =
    let w = numbers_in_zone g in
    let held = (file_of g v (v.inodes n)).held in
    let all = nodes_take_marked g v ok s in
    let h : ℕ → ℕ = λ m. zones_of g (nodes_of g v m) in
    let here : h n ≡ zones_needed w held =
    ap (zones_of g) (cond-true (is_marked g v n) (Some (node_of g v (v.inodes n))) None is)
    ∙ ap (λ b. zones_needed w (held_of g b)) (cond-false (Rattle.volume.specs.Nodes.is_directory_mode (v.inodes n).mode) _ _ plain) in
    let then_ : zones_of g (Some x) ≡ zones_needed w f.held = ap (λ b. zones_needed w (held_of g b)) body in
    let same : sum_below (λ m. zones_of g (put (nodes_of g v) n (Some x) m)) (g.inodes + 1) ≡ sum_below (put h n (zones_of g (Some x))) (g.inodes + 1) = same_sum _ _ (g.inodes + 1) (λ m _. elim (cases_eq m n) [
      | inl e ↦ ap (zones_of g) (ap (put (nodes_of g v) n (Some x)) e ∙ put-same (nodes_of g v) n (Some x)) ∙ sym (ap (put h n (zones_of g (Some x))) e ∙ put-same h n (zones_of g (Some x)))
      | inr d ↦ ap (zones_of g) (put-other (nodes_of g v) n (Some x) m d) ∙ sym (put-other h n (zones_of g (Some x)) m d)
    ]) in
    let whole = sum_put h n (zones_of g (Some x)) (g.inodes + 1) (marked_below g v n is) in
    let one = page_takes_missing g v n p 0 ok (sound_is_sound_but g v n 0 s) is low in
    let least = need_less w (put held p true) f.held more in
    omega arith
