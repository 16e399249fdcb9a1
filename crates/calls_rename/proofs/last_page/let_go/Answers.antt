use Rattle.std.proofs.Common.{◌/◌, ap, ◌∙◌, arith}
use Rattle.tree.specs.ZonesNeeded.{zones_needed}
use Rattle.calls_rename.specs.Sizes.{first_pages}
use Rattle.calls_rename.proofs.Pages.{kept_or_next}
use Rattle.calls_rename.proofs.last_page.let_go.Goals as goal

pub returns-then-size-geometry : goal.returns-then-size-geometry
returns-then-size-geometry c =
    let same = ap (λ p. zones_needed (c.args.geometry.now.block_size / 4) (first_pages p)) c.if-size-geometry.true in
    omega (arith, same)

pub zones_with-requires : goal.zones_with-requires
zones_with-requires c = record {
  geometry = c.requires.geometry;
  page = (kept_or_next c.args.geometry.now.block_size c.args.size c.requires.geometry.block_size c.requires.entry c.requires.end c.if-size-geometry.false).1;
}

pub returns : goal.returns
returns c =
    let next = (kept_or_next c.args.geometry.now.block_size c.args.size c.requires.geometry.block_size c.requires.entry c.requires.end c.if-size-geometry.false).0 in
    ap (λ p. zones_needed (c.args.geometry.now.block_size / 4) (first_pages p)) next ∙ c.zones_with.ensures
