use Rattle.std.proofs.Common.{◌≡◌, ap, refl, rules, ◌∙◌}
use Rattle.layout.specs.declared.Geometry.{Geometry}
use Rattle.layout.proofs.Parsed.{geometry_fits}
use Rattle.block_store.specs.Memory.{disk_in}
use Rattle.release.specs.Giving.{GivesAllBack}
use Rattle.release.proofs.Remaining.{given_on, keeps}
use Rattle.release.proofs.remains.given_back.Goals as goal

pub give_all_back-requires : goal.give_all_back-requires
give_all_back-requires c = record {
  on = record {
    ready = tt;
    size = c.new-blocks.ensures.size ∙ ap (λ (g : Geometry). g.block_size) c.geometry-geometry.ensures;
    geometry = (geometry_fits c.args.image.now.bytes.now c.args.image.now.geometry c.args.image.now.parsed).0;
    inside = λ block low high. tt;
  };
}

pub returns-clause-tree : goal.returns-clause-tree
returns-clause-tree c =
    let i = c.args.image.now in
    let before = c.new-blocks.result in
    let after = c.give_all_back.new.blocks in
    let volume = c.args.volume.now in
    let size : before.block_size ≡ i.geometry.block_size = c.new-blocks.ensures.size ∙ ap (λ (g : Geometry). g.block_size) c.geometry-geometry.ensures in
    let bytes : before.image.items ≡ volume = c.new-blocks.ensures.image ∙ c.in_ok-to_vec.ensures.items_if_clones_equal (λ y h. search rules) in
    let turns = c.in_ok-count.ensures.turns in
    let given : GivesAllBack i (disk_in before.block_size before.image.items) (disk_in after.block_size after.image.items)
    = turns.related _ _ (refl, refl) in
    keeps i volume after.image.items c.requires.same (search rules)
    (given_on i before.block_size after.block_size before.image.items volume after.image.items size (turns.leads ∙ size) bytes given)
