use Rattle.std.proofs.Common.{◌≡◌, ◌<◌, ◌+◌, ◌*◌, ◌/◌, ◌%◌, ◌-◌, ℕ, true, false, ◌∙◌, sym, ap, slice_index, drop, arith}
use Rattle.std.proofs.lemmas.List.{get_or-replicate, get_or-take, get_or-drop}
use Rattle.volume.specs.Reading.{is_data_zone}
use Rattle.volume.specs.Nodes.{page_zone}
use Rattle.image.specs.Contents.{contents}
use Rattle.image.proofs.Places.{entry_inside, entry_read, entry_blank}
use Rattle.image.proofs.Image.entry.Goals as goal

pub returns-then-not-is_data_zone-clause-bytes : goal.returns-then-not-is_data_zone-clause-bytes
unfolding contents
returns-then-not-is_data_zone-clause-bytes c = λ a h.
    let i = c.args.self.now in
    let zone = c.page_zone-zone.ensures ∙ ap (page_zone i.geometry (contents i) c.args.inode.now) c.parts_of_byte-page.ensures.block in
    let out : is_data_zone i.geometry (page_zone i.geometry (contents i) c.args.inode.now (64 * c.args.number / i.geometry.block_size)) ≡ false
    = ap (is_data_zone i.geometry) (sym zone) ∙ sym c.is_data_zone.ensures ∙ c.if-not-is_data_zone.true in
    get_or-replicate 64 a 0 0 h ∙ entry_blank i.bytes.now i.geometry i.parsed c.args.inode.now c.args.number a c.requires h out

pub overflow_add-at : goal.overflow_add-at
overflow_add-at c =
    let i = c.args.self.now in
    let place = c.parts_of_byte-page.ensures.place in
    let inside = entry_inside i.bytes.now i.geometry i.parsed c.page_zone-zone.result c.args.number (sym c.is_data_zone.ensures ∙ c.if-not-is_data_zone.false) in
    omega arith

pub overflow_add-result : goal.overflow_add-result
overflow_add-result c =
    let i = c.args.self.now in
    let place = c.parts_of_byte-page.ensures.place in
    let inside = entry_inside i.bytes.now i.geometry i.parsed c.page_zone-zone.result c.args.number (sym c.is_data_zone.ensures ∙ c.if-not-is_data_zone.false) in
    omega arith

pub slice_bounds-result-end-2 : goal.slice_bounds-result-end-2
slice_bounds-result-end-2 c =
    let i = c.args.self.now in
    let place = c.parts_of_byte-page.ensures.place in
    let inside = entry_inside i.bytes.now i.geometry i.parsed c.page_zone-zone.result c.args.number (sym c.is_data_zone.ensures ∙ c.if-not-is_data_zone.false) in
    omega arith

pub returns-clause-bytes : goal.returns-clause-bytes
unfolding contents
returns-clause-bytes c = λ a h.
    let i = c.args.self.now in
    let at : ℕ = c.page_zone-zone.result * i.geometry.block_size + c.parts_of_byte-page.result.1 in
    let z = page_zone i.geometry (contents i) c.args.inode.now (64 * c.args.number / i.geometry.block_size) in
    let zone = c.page_zone-zone.ensures ∙ ap (page_zone i.geometry (contents i) c.args.inode.now) c.parts_of_byte-page.ensures.block in
    let is : is_data_zone i.geometry z ≡ true
    = ap (is_data_zone i.geometry) (sym zone) ∙ sym c.is_data_zone.ensures ∙ c.if-not-is_data_zone.false in
    let part : a < at + 64 - at = omega arith in
    get_or-take (at + 64 - at) (drop at i.bytes.now) a 0 part ∙ get_or-drop at i.bytes.now a 0
    ∙ ap (λ o. slice_index i.bytes.now (c.page_zone-zone.result * i.geometry.block_size + o + a)) c.parts_of_byte-page.ensures.place
    ∙ ap (λ z. slice_index i.bytes.now (z * i.geometry.block_size + 64 * c.args.number % i.geometry.block_size + a)) zone
    ∙ entry_read i.bytes.now i.geometry i.parsed c.args.inode.now c.args.number a c.requires h is
