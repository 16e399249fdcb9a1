use Rattle.std.proofs.Common.{◌<◌, ◌+◌, ◌*◌, ◌-◌, ℕ, List, length, slice_index, sym, ap, ◌∙◌, drop, arith}
use Rattle.std.proofs.lemmas.List.{get_or-replicate, get_or-take, get_or-drop}
use Rattle.migrate.proofs.Blocks.{no_page, page_inside, page_read}
use Rattle.migrate.proofs.volume_blocks.VolumeBlocks.block.Goals as goal

pub returns-then-not-is_data_zone-clause-bytes : goal.returns-then-not-is_data_zone-clause-bytes
returns-then-not-is_data_zone-clause-bytes c = λ o h.
    get_or-replicate 1024 o 0 0 h ∙ sym (no_page c.args.self.now.image c.args.zone o
    (sym c.is_data_zone.ensures ∙ c.if-not-is_data_zone.true))

pub slice_bounds-result-end-2 : goal.slice_bounds-result-end-2
slice_bounds-result-end-2 c =
    let inside = page_inside c.args.self.now.image c.args.zone c.args.self.now.sized
    (sym c.is_data_zone.ensures ∙ c.if-not-is_data_zone.false) in
    let same = ap length c.args.self.now.same in
    omega arith

pub returns-clause-bytes : goal.returns-clause-bytes
returns-clause-bytes c = λ o h.
    let at : ℕ = c.args.zone * 1024 in
    let bytes = c.args.self.now.bytes.now in
    let part : o < at + 1024 - at = omega arith in
    get_or-take (at + 1024 - at) (drop at bytes) o 0 part ∙ get_or-drop at bytes o 0
    ∙ ap (λ (xs : List ℕ). slice_index xs (at + o)) (sym c.args.self.now.same)
    ∙ page_read c.args.self.now.image c.args.zone c.args.self.now.sized (sym c.is_data_zone.ensures ∙ c.if-not-is_data_zone.false) o h
