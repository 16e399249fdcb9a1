use Rattle.std.proofs.Common.{◌∙◌, ap}
use Rattle.cached_blocks.specs.declared.Stored.{Stored}
use Rattle.descriptors.specs.declared.table.Descriptors.{Descriptors}
use Rattle.descriptors.specs.Table.{files_of}
use Rattle.volume_mount.proofs.New.{new_over}
use Rattle.volume_mount.proofs.opening.over.Goals as goal

pub returns-clause-made : goal.returns-clause-made
returns-clause-made g c =
    let made = c.in_ok-cache.ensures in
    let s = c.new-4.ensures in
    let r = c.requires in
    new_over g.L.Link c.args.transfers c.args.minor c.args.geometry c.args.frames c.in_ok-cache.cache made.over made.ready made.made
    c.new-4.result (ap (λ (b : Stored _). b.cache) s.blocks ∙ c.new-3.ensures) s.geometry
    (ap (λ (d : Descriptors). files_of d) s.opens ∙ c.in-Ok.ensures)
    s.none_absorbed made.frames made.flush r.sizes r.live r.ids
