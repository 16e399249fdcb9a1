-- The first page of a new node takes one zone.
use Rattle.std.proofs.Common.{◌≡◌, ◌<◌, ◌+◌, ℕ, Bool, true, refl, sym, ap, ◌∙◌, arith, replicate}
use Rattle.std.specs.Prelude.{◌==◌, IsTrue}
use Rattle.layout.specs.declared.Geometry.{Geometry}
use Rattle.layout.specs.Places.{IsGeometry}
use Rattle.lemmas.specs.Sums.{one_if, put}
use Rattle.tree.specs.Tree.{File}
use Rattle.tree.specs.Space.{data_zones, numbers_in_zone}
use Rattle.tree.specs.ZonesNeeded.{zones_needed}
use Rattle.volume.specs.declared.Inode.{Inode}
use Rattle.volume.specs.Pieces.{Pieces}
use Rattle.volume.specs.Nodes.{is_mode, nodes_of, page_zone}
use Rattle.zone.specs.ZoneSteps.{marked_in}
use Rattle.zone.specs.Missing.{missing}
use Rattle.zone.specs.Room.{taken_by}
use Rattle.zone.proofs.Missing.{page_takes_missing}
use Rattle.zone.proofs.Room.{nodes_take_marked}
use Rattle.file.specs.PageChanges.{file_at}
use Rattle.file.specs.Changing.{HasZonesFor}
use Rattle.inode_operations.specs.NewNodes.{MayMakeFile, with_new_inode}
use Rattle.inode_operations.proofs.Marking.{its_file, marked, no_places, nothing, rules}

module _ (g : Geometry) (v : Pieces) (n : ℕ) (i : Inode) (ok : IsGeometry g) (may : MayMakeFile g v n)
    (size : i.size ≡ 0) (zones : i.zones ≡ replicate 10 0) (mode : IsTrue (is_mode i.mode))
    (held : ℕ → Bool) (first : (q : ℕ) → held q ≡ put nothing.held 0 true q) where
  abbrev w : Pieces
  w = with_new_inode v n i

  abbrev needed : (ℕ → Bool) → ℕ
  needed pages = zones_needed (numbers_in_zone g) pages

  empty : file_at g w n ≡ nothing
  empty = its_file g v n i ok may size zones mode

  -- one zone is enough
  takes_one : needed held ≡ needed nothing.held + 1
  unfolding missing
  takes_one =
      let is = marked g v n i ok may size zones mode in
      let keeps = rules g v n i ok may size zones mode in
      let more : needed (put (file_at g w n).held 0 true) ≡ needed (file_at g w n).held + missing g w n 4 0 0 =
      page_takes_missing g w n 0 0 ok keeps is (omega arith) in
      let hole : page_zone g w (w.inodes n) 0 ≡ 0 = no_places g v n i ok may size zones mode 0 0 in
      let one : missing g w n 4 0 0 ≡ 1 = ap (λ z. one_if (z == 0) + 0) hole in
      let a : needed held ≡ needed (put (file_at g w n).held 0 true) =
      ap needed ((λ t q. first q t) ∙ ap (λ (f : File). put f.held 0 true) (sym empty)) in
      let b : needed (file_at g w n).held ≡ needed nothing.held = ap (λ (f : File). needed f.held) empty in
      omega (arith, more, one, a, b)

  -- and is there
  pub has_first_page : taken_by g (nodes_of g v) < data_zones g → HasZonesFor g w n held
  has_first_page free =
      let all = nodes_take_marked g v ok may.sound in
      let same : marked_in g w ≡ marked_in g v = refl in
      let b : needed (file_at g w n).held ≡ needed nothing.held = ap (λ (f : File). needed f.held) empty in
      let c = takes_one in
      omega (arith, all, free, same, b, c)
