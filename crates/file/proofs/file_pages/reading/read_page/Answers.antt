use Rattle.std.proofs.Common.{rules, ◌≡◌, ◌<◌, ℕ, length, slice_index, false, refl}
use Rattle.std.specs.Prelude.{IsTrue}
use Rattle.volume.specs.Reading.{is_data_zone}
use Rattle.block_store.proofs.Turns.{reads_none, reads_as, on_ok}
use Rattle.file.proofs.Pages.{bytes_inside, bytes_outside}
use Rattle.file.proofs.file_pages.reading.read_page.Goals as goal

pub returns-then-is_data_zone-clause-reads : goal.returns-then-is_data_zone-clause-reads
returns-then-is_data_zone-clause-reads g c =
    let a = c.args in
    let is : IsTrue (is_data_zone a.geometry.now a.zone) = search rules in
    reads_as _ _ _ _ _
    (λ d q. on_ok c.read_bytes.result _ _ (bytes_inside a.geometry.now c.requires.on.geometry d a.zone a.zone a.from c.read_bytes.new.into is refl) q)
    c.read_bytes.ensures.reads

pub returns-else-is_data_zone-clause-reads : goal.returns-else-is_data_zone-clause-reads
returns-else-is_data_zone-clause-reads g c =
    let a = c.args in
    let not : is_data_zone a.geometry.now a.zone ≡ false = search rules in
    let zeros : (k : ℕ) → k < length c.fill.new.self → slice_index c.fill.new.self k ≡ 0 = search rules in
    reads_none _ g.met.B.Blocks.lawful _ _ c.requires.on.ready
    (λ d. bytes_outside a.geometry.now d a.zone a.zone a.from c.fill.new.self not refl zeros)
