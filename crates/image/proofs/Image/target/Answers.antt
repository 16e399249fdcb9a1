use Rattle.std.proofs.Common.{◌≡◌, ◌+◌, ◌*◌, ◌-◌, ℕ, true, sym, ap, ◌∙◌, slice_index, drop, arith}
use Rattle.std.specs.Prelude.{◌<◌}
use Rattle.std.proofs.lemmas.List.{get_or-take, get_or-drop, length-take, length-drop}
use Rattle.volume.specs.Reading.{is_data_zone}
use Rattle.volume.specs.Nodes.{page_zone}
use Rattle.image.specs.Contents.{contents}
use Rattle.image.proofs.Places.{data_some, first_inside, first_read}
use Rattle.image.proofs.Image.target.Goals as goal

pub slice_bounds-result-end : goal.slice_bounds-result-end
slice_bounds-result-end c =
    let i = c.args.self.now in
    let is = sym c.is_data_zone.ensures ∙ c.if-not-is_data_zone.false in
    let inside = first_inside i.bytes.now i.geometry i.parsed c.page_zone-zone.result c.args.inode.now.size c.requires is in
    omega arith

pub returns : goal.returns
unfolding contents
returns c =
    let i = c.args.self.now in
    let x = c.args.inode.now in
    let at : ℕ = c.page_zone-zone.result * i.geometry.block_size in
    let zone : c.page_zone-zone.result ≡ page_zone i.geometry (contents i) x 0 = c.page_zone-zone.ensures in
    let same : is_data_zone i.geometry c.page_zone-zone.result ≡ true = sym c.is_data_zone.ensures ∙ c.if-not-is_data_zone.false in
    let is : is_data_zone i.geometry (page_zone i.geometry (contents i) x 0) ≡ true = ap (is_data_zone i.geometry) (sym zone) ∙ same in
    let inside = first_inside i.bytes.now i.geometry i.parsed c.page_zone-zone.result x.size c.requires same in
    record {
      held = (data_some i.bytes.now i.geometry i.parsed _ is).0;
      size = simp (length-take, length-drop) (omega arith);
      each = λ k h.
          let part : k < at + x.size - at = omega arith in
          get_or-take (at + x.size - at) (drop at i.bytes.now) k 0 part ∙ get_or-drop at i.bytes.now k 0
          ∙ ap (λ z. slice_index i.bytes.now (z * i.geometry.block_size + k)) zone
          ∙ first_read i.bytes.now i.geometry i.parsed x k h (omega (arith, c.requires)) is;
    }
