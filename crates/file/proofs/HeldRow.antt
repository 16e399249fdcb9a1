-- Bytes are written into pages that are held, whose zones stand in a row.
use Rattle.std.proofs.Common.{◌≡◌, ◌≢◌, ◌<◌, ◌≤◌, ◌+◌, ◌-◌, ◌/◌, ◌%◌, ℕ, List, length, true, refl, sym, ap, subst, ◌∙◌, arith}
use Rattle.std.specs.Prelude.{not, slice_index}
use Rattle.std.proofs.lemmas.Bool.{ne_eqb}
use Rattle.std.proofs.lemmas.List.{get_or-take, take-append-drop}
use Rattle.std.proofs.Math.ListN.{take, drop, length-take, length-drop}
use Rattle.layout.specs.declared.Geometry.{Geometry}
use Rattle.lemmas.specs.Sums.{put}
use Rattle.tree.specs.Space.{numbers_in_zone}
use Rattle.tree.specs.ZonesNeeded.{zones_needed}
use Rattle.lemmas.proofs.Maps.{is_put}
use Rattle.volume.specs.declared.Inode.{Inode}
use Rattle.volume.specs.Reading.{Disk}
use Rattle.volume.specs.Pieces.{Pieces, pieces}
use Rattle.volume.specs.Nodes.{file_of, page_zone}
use Rattle.block_store.specs.Volume.{SameHead}
use Rattle.zone.specs.ZoneSteps.{with_page}
use Rattle.zone.specs.Composite.{Attached}
use Rattle.zone.proofs.Raw.{no_attributes}
use Rattle.zone.proofs.Stay.{places_stay, write_keeps_numbers}
use Rattle.zone.proofs.Files.{same_file}
use Rattle.zone.proofs.Keeps.{weaker}
use Rattle.zone.proofs.Missing.{page_takes_missing}
use Rattle.zone.specs.Pages.{MayHold}
use Rattle.zone.specs.Files.{AttachesPage}
use Rattle.zone.specs.PlaceParts.{HasZones}
use Rattle.zone.proofs.Attaching.{page_attached}
use Rattle.file.specs.Writing.{MayWrite, IsPageZone, WritesPage}
use Rattle.file.specs.Changing.{MayWriteInside, WritesInside, IsHeldRow}
use Rattle.file.proofs.Chunk.{may_write, writes_chunk, chunk_zone}
use Rattle.file.proofs.SoFar.{SoFar, so_far_none, may_front, may_go_on, goes_on, all_written}

-- A page that is held is attached by doing nothing.
module _ (g : Geometry) (v : Pieces) (n p : ℕ) (some : page_zone g v (v.inodes n) p ≢ 0) where
  same_held : (file_of g v (v.inodes n)).held ≡ put (file_of g v (v.inodes n)).held p true
  same_held = is_put (file_of g v (v.inodes n)).held (file_of g v (v.inodes n)).held p true (ap not (ne_eqb (page_zone g v (v.inodes n) p) 0 some)) (λ m differs. refl)

  pub is_attached : MayHold g v n 0 p → Attached g v v n 0 p
  is_attached may = record {
    rules = weaker g v n 0 p 0 may.rules;
    held = some;
    inodes = record { marks = refl; attributes = λ m. no_attributes v v refl m };
    below = λ a i low. refl;
    files = λ m is differs. refl;
    file = same_file (file_of g v (v.inodes n)) (with_page (file_of g v (v.inodes n)) p true) refl refl same_held;
    count =
        let one = page_takes_missing g v n p 0 may.geometry may.rules may.marked may.place in
        let needs = ap (zones_needed (numbers_in_zone g)) same_held in
        omega (arith, one, needs);
  }

pub already_held : (g : Geometry) (d : Disk) (n p z : ℕ) → page_zone g (pieces g d) ((pieces g d).inodes n) p ≡ z → z ≢ 0 → AttachesPage g n p z d d
already_held g d n p z names some = page_attached g n p z d d (record {
  head = λ b low. refl;
  attached = is_attached g (pieces g d) n p (λ none. some (sym names ∙ none));
  names = λ may. names;
})

-- Bytes of such a page are written.
module _ (g : Geometry) (d : Disk) (n at z : ℕ) (bytes : List ℕ) (some : 0 < length bytes) (end : at + length bytes ≤ 2147483647)
    (names : page_zone g (pieces g d) ((pieces g d).inodes n) (at / g.block_size) ≡ z) (held : z ≢ 0) where
  here : AttachesPage g n (at / g.block_size) z d d
  here = already_held g d n (at / g.block_size) z names held

  pub its_zone : MayWriteInside g (pieces g d) n at bytes → IsPageZone g (pieces g d) z
  its_zone may = chunk_zone g d d n at z bytes some end here may

  module _ (f : Disk) (h : WritesPage g n (at / g.block_size) z (at % g.block_size) bytes d f) where
    pub writes_there : at % g.block_size + length bytes ≤ g.block_size → WritesInside g n at bytes d f
    writes_there within = writes_chunk g d d f n at z bytes some end within here h

    -- and no page gets another zone
    pub zones_stay : MayWriteInside g (pieces g d) n at bytes → (q : ℕ) → page_zone g (pieces g f) ((pieces g f).inodes n) q ≡ page_zone g (pieces g d) ((pieces g d).inodes n) q
    zones_stay may q =
        let it : MayWrite g (pieces g d) n (at / g.block_size) z = may_write g d n at bytes some end may d z here in
        places_stay g (pieces g d) (pieces g f) n 0 q it.geometry
        (write_keeps_numbers g (pieces g d) (pieces g f) n (at / g.block_size) it.geometry it.rules.zones (h.written it).writes) it.marked

-- So many bytes are written into the pages of a row, where all of them may be, and the row stays.
pub record RowSoFar (g : Geometry) (n at : ℕ) (bytes : List ℕ) (page : ℕ) (row : List ℕ) (done : ℕ) (d e : Disk) : Type 0 where
  pub head : SameHead d e
  pub so : MayWriteInside g (pieces g d) n at bytes → SoFar g n at bytes done d e
  pub stays : MayWriteInside g (pieces g d) n at bytes → IsHeldRow g (pieces g e) n page row

pub row_none : (g : Geometry) (n at : ℕ) (bytes : List ℕ) (page : ℕ) (row : List ℕ) (d e : Disk) → e ≡ d → IsHeldRow g (pieces g d) n page row → RowSoFar g n at bytes page row 0 d e
row_none g n at bytes page row d e same is = record {
  head = λ b low. ap (λ (x : Disk). x b) same;
  so = λ may. so_far_none g n at bytes d e same;
  stays = λ may. subst (λ (x : Disk). IsHeldRow g (pieces g x) n page row) (sym same) is;
}

module _ (g : Geometry) (n at : ℕ) (bytes : List ℕ) (page : ℕ) (row : List ℕ) (done end index : ℕ) (up : done < end) (within : end ≤ length bytes) (all : at + length bytes ≤ 2147483647)
    (its : page + index ≡ (at + done) / g.block_size) (few : index < length row) (d e : Disk) (x : RowSoFar g n at bytes page row done d e) where
  abbrev part : List ℕ
  part = take (end - done) (drop done bytes)

  abbrev spot : ℕ
  spot = (at + done) / g.block_size

  abbrev zone : ℕ
  zone = slice_index row index

  part_length : length part ≡ end - done
  part_length = let a = length-take (end - done) (drop done bytes) in let b = length-drop done bytes in omega (arith, a, b, within)

  part_some : 0 < length part
  part_some = let l = part_length in omega (arith, l, up)

  part_end : at + done + length part ≤ 2147483647
  part_end = let l = part_length in omega (arith, l, up, within, all)

  module _ (may : MayWriteInside g (pieces g d) n at bytes) where
    next : MayWriteInside g (pieces g e) n (at + done) part
    next = may_go_on g n at bytes done end up within d e (x.so may) may

    names : page_zone g (pieces g e) ((pieces g e).inodes n) spot ≡ zone
    names = sym ((x.stays may).names index few ∙ ap (page_zone g (pieces g e) ((pieces g e).inodes n)) its)

    held : zone ≢ 0
    held = (x.stays may).held index few

    pub row_zone : IsPageZone g (pieces g e) zone
    row_zone = its_zone g e n (at + done) zone part part_some part_end names held next

  pub row_goes_on : (from : ℕ) → from ≡ (at + done) % g.block_size → from + (end - done) ≤ g.block_size → (f : Disk) → WritesPage g n spot zone from part e f
      → RowSoFar g n at bytes page row end d f
  row_goes_on from starts fit f w =
      let h : WritesPage g n spot zone ((at + done) % g.block_size) part e f = subst (λ o. WritesPage g n spot zone o part e f) starts w in
      record {
        head = λ b low. h.head b low ∙ x.head b low;
        so = λ may. goes_on g n at bytes done end up within d e (x.so may) f
            (writes_there g e n (at + done) zone part part_some part_end (names may) (held may) f h (let l = part_length in omega (arith, l, starts, fit)));
        stays = λ may. record {
          names = λ k low. (x.stays may).names k low
              ∙ sym (zones_stay g e n (at + done) zone part part_some part_end (names may) (held may) f h (next may) (page + k));
          held = (x.stays may).held;
        };
      }

-- in the end all are written
pub row_written : (g : Geometry) (n at : ℕ) (bytes : List ℕ) (page : ℕ) (row : List ℕ) (done : ℕ) (d e : Disk) → 0 < length bytes → length bytes ≤ done
    → RowSoFar g n at bytes page row done d e → WritesInside g n at bytes d e
row_written g n at bytes page row done d e some all x = record {
  head = x.head;
  becomes = λ may. (all_written g n at bytes done d e some all (x.so may)).becomes may;
}

-- The zones that were found, as far as they are held.
pub row_held : (g : Geometry) (d x y : Disk) (n page many held : ℕ) (i : Inode) (zones : List ℕ) → x ≡ d → y ≡ x → i ≡ (pieces g d).inodes n
    → HasZones g (pieces g x) i page many zones → held ≤ many → many ≤ length zones → ((k : ℕ) → k < held → slice_index (take many zones) k ≢ 0)
    → IsHeldRow g (pieces g y) n page (take held zones)
row_held g d x y n page many held i zones same still is names few room some = subst (λ (z : Disk). IsHeldRow g (pieces g z) n page (take held zones)) (sym still) (record {
  names = λ k low. let near : k < held = in_front k low in
      get_or-take held zones k 0 near ∙ names k (omega (arith, near, few)) ∙ ap (λ (j : Inode). page_zone g (pieces g x) j (page + k)) (is ∙ sym (ap (λ (z : Disk). (pieces g z).inodes n) same));
  held = λ k low none.
      let near : k < held = in_front k low in
      let inside : k < many = omega (arith, near, few) in
      some k near (get_or-take many zones k 0 inside ∙ sym (get_or-take held zones k 0 near) ∙ none);
})
  where
    in_front : (k : ℕ) → k < length (take held zones) → k < held
    in_front k low = let l = length-take held zones in omega (arith, l, low)

-- a write of the first bytes, after reads
pub first_written : (g : Geometry) (d x y f : Disk) (n at : ℕ) (bytes : List ℕ) → x ≡ d → y ≡ x → WritesInside g n at bytes y f → WritesInside g n at bytes d f
first_written g d x y f n at bytes same still h = subst (λ (z : Disk). WritesInside g n at bytes z f) (still ∙ same) h

pub may_write_first : (g : Geometry) (d x y : Disk) (n at count : ℕ) (bytes : List ℕ) → x ≡ d → y ≡ x → MayWriteInside g (pieces g d) n at bytes
    → MayWriteInside g (pieces g y) n at (take count bytes)
may_write_first g d x y n at count bytes same still may = subst (λ (z : Disk). MayWriteInside g (pieces g z) n at (take count bytes)) (sym (still ∙ same))
    (may_front g (pieces g d) n at (take count bytes) (drop count bytes) (subst (λ b. MayWriteInside g (pieces g d) n at b) (sym (take-append-drop count bytes)) may))
