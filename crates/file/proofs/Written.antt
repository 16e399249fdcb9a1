-- A page that is written.
use Rattle.std.proofs.Common.{◌≡◌, ◌≢◌, ℕ, List, sym, ap, ◌∙◌}
use Rattle.std.specs.Prelude.{IsTrue, Some}
use Rattle.layout.specs.declared.Geometry.{Geometry}
use Rattle.lemmas.specs.Sums.{put}
use Rattle.lemmas.proofs.Maps.{put-same, put-other}
use Rattle.volume.specs.Reading.{Disk, is_data_zone}
use Rattle.volume.specs.Pieces.{Pieces, pieces}
use Rattle.volume.specs.Nodes.{file_of, is_marked, nodes_of}
use Rattle.block_store.specs.Rows.{with_bytes}
use Rattle.block_store.specs.Volume.{Alters}
use Rattle.block_store.specs.Regions.{with_zone}
use Rattle.zone.specs.ZoneSteps.{SameInodes, node_from}
use Rattle.zone.specs.Raw.{Writes, with_bytes as with_page_bytes}
use Rattle.zone.proofs.Stay.{written_file, write_keeps, write_keeps_files, write_keeps_numbers, places_stay}
use Rattle.zone.proofs.Files.{nodes_change_at}
use Rattle.file.specs.Writing.{MayWrite, IsPageZone, with_chunk, PageIsWritten, WritesPage}

-- a zone in which a page lies is a data zone
pub page_in_zone : (g : Geometry) (v : Pieces) (z : ℕ) → IsPageZone g v z → IsTrue (is_data_zone g z)
page_in_zone g v z h = let may = h.2 in may.rules.zones.numbers z may.held (record { inode = h.0; level = 0; index = h.1; marked = may.marked; names = may.names })

module _ (g : Geometry) (v w : Pieces) (n p z from : ℕ) (bytes : List ℕ) (is : w ≡ with_zone v z (with_bytes from bytes (v.zones z))) (may : MayWrite g v n p z) where
  abbrev row : ℕ → ℕ
  row = with_bytes from bytes (v.zones z)

  one_page : Writes g v w n p
  one_page = record {
    marked = may.marked;
    held = λ e. may.held (sym may.names ∙ e);
    marks = ap (λ (u : Pieces). u.inode_map) is;
    map = ap (λ (u : Pieces). u.zone_map) is;
    inodes = ap (λ (u : Pieces). u.inodes) is;
    zones = λ y ne. ap (λ (u : Pieces). u.zones y) is ∙ put-other v.zones z row y (λ e. ne (e ∙ sym may.names));
  }

  in_zone : w.zones z ≡ row
  in_zone = ap (λ (u : Pieces). u.zones z) is ∙ put-same v.zones z row

  file_written : file_of g w (w.inodes n) ≡ with_chunk g v n p z from bytes
  file_written =
      written_file g v w n p may.geometry may.rules.zones one_page
      ∙ ap (λ r. with_page_bytes g.block_size (file_of g v (v.inodes n)) p r) (ap w.zones may.names ∙ in_zone)

  others : (m : ℕ) → IsTrue (is_marked g v m) → m ≢ n → file_of g w (w.inodes m) ≡ file_of g v (v.inodes m)
  others m marked ne = write_keeps_files g v w n p m may.geometry may.rules.zones one_page marked ne

  same : SameInodes g v w
  same = record { marks = one_page.marks; attributes = λ m. ap (λ (f : ℕ → _). f m) one_page.inodes ∙ sym (ap (λ (f : ℕ → _). record (v.inodes m) { zones = (f m).zones }) one_page.inodes) }

  pub page_written : PageIsWritten g v w n p z from bytes
  page_written = record {
    writes = one_page;
    row = in_zone;
    rules = write_keeps g v w n p 0 0 may.geometry one_page may.rules;
    names = places_stay g v w n 0 p may.geometry (write_keeps_numbers g v w n p may.geometry may.rules.zones one_page) may.marked ∙ may.names;
    files = others;
    file = file_written;
    nodes = nodes_change_at g v w n same may.marked others ∙ ap (λ f. put (nodes_of g v) n (Some (node_from (v.inodes n) f))) file_written;
  }

pub writes_page : (g : Geometry) (z from : ℕ) (bytes : List ℕ) (d e : Disk) → Alters g (with_zone (pieces g d) z (with_bytes from bytes ((pieces g d).zones z))) d e
    → (n p : ℕ) → WritesPage g n p z from bytes d e
writes_page g z from bytes d e a n p = record {
  head = a.head;
  written = λ may. page_written g (pieces g d) (pieces g e) n p z from bytes a.pieces may;
}
