use Rattle.std.proofs.Common.{sym, ap, ◌∙◌}
use Rattle.volume.specs.Verdict.{place_limit}
use Rattle.image.specs.Contents.{contents}
use Rattle.fsck.specs.Parts.{first_of, zone_tests, block_tests}
use Rattle.fsck.specs.Form.{form_of}
use Rattle.fsck.specs.Parts.{entry_tests, tree_tests}
use Rattle.fsck.proofs.Firsts.{or_else}
use Rattle.fsck.proofs.Firsts.{all_parts, sizes_good}
use Rattle.fsck.proofs.finding.Goals as goal

pub returns-in-Some : goal.returns-in-Some
returns-in-Some c =
    let form = form_of c.args.version in
    let i = c.args.image.now in
    let g = i.geometry in
    let v = contents i in
    let l = place_limit g in
    let trees = first_of l 15 (tree_tests form g v) in
    let names = or_else (first_of l 12 (entry_tests form g v)) trees in
    let blocks = or_else (first_of l 10 (block_tests g v)) names in
    let zones = or_else (first_of l 7 (zone_tests g v)) blocks in
    ap (λ o. or_else o zones) (c.in-Some.ensures)
    ∙ sym (all_parts form i)

pub returns-in-Some-2 : goal.returns-in-Some-2
returns-in-Some-2 c =
    let form = form_of c.args.version in
    let i = c.args.image.now in
    let g = i.geometry in
    let v = contents i in
    let l = place_limit g in
    let trees = first_of l 15 (tree_tests form g v) in
    let names = or_else (first_of l 12 (entry_tests form g v)) trees in
    let blocks = or_else (first_of l 10 (block_tests g v)) names in
    let zones = or_else (first_of l 7 (zone_tests g v)) blocks in
    (ap (λ o. or_else o blocks) (sym c.in-Some-2.is ∙ c.in_ok-finding.ensures)) ∙ ap (λ o. or_else o zones) (c.in_default.ensures)
    ∙ sym (all_parts form i)

pub returns-in-Some-blocks : goal.returns-in-Some-blocks
returns-in-Some-blocks c =
    let form = form_of c.args.version in
    let i = c.args.image.now in
    let g = i.geometry in
    let v = contents i in
    let l = place_limit g in
    let trees = first_of l 15 (tree_tests form g v) in
    let names = or_else (first_of l 12 (entry_tests form g v)) trees in
    let blocks = or_else (first_of l 10 (block_tests g v)) names in
    let zones = or_else (first_of l 7 (zone_tests g v)) blocks in
    ((ap (λ o. or_else o names) (c.in-Some-blocks.ensures)) ∙ ap (λ o. or_else o blocks) (sym c.in_default-2.is ∙ c.in_ok-finding.ensures))
    ∙ ap (λ o. or_else o zones) (c.in_default.ensures)
    ∙ sym (all_parts form i)

pub returns-in-Some-3 : goal.returns-in-Some-3
returns-in-Some-3 c =
    let form = form_of c.args.version in
    let i = c.args.image.now in
    let g = i.geometry in
    let v = contents i in
    let l = place_limit g in
    let trees = first_of l 15 (tree_tests form g v) in
    let names = or_else (first_of l 12 (entry_tests form g v)) trees in
    let blocks = or_else (first_of l 10 (block_tests g v)) names in
    let zones = or_else (first_of l 7 (zone_tests g v)) blocks in
    (((ap (λ o. or_else o trees) (sym c.in-Some-3.is ∙ c.in_ok-finding-2.ensures))
    ∙ ap (λ o. or_else o names) (c.in_default-blocks.ensures)) ∙ ap (λ o. or_else o blocks)
    (sym c.in_default-2.is ∙ c.in_ok-finding.ensures)) ∙ ap (λ o. or_else o zones) (c.in_default.ensures)
    ∙ sym (all_parts form i)

pub returns : goal.returns
returns c =
    let form = form_of c.args.version in
    let i = c.args.image.now in
    let g = i.geometry in
    let v = contents i in
    let l = place_limit g in
    let trees = first_of l 15 (tree_tests form g v) in
    let names = or_else (first_of l 12 (entry_tests form g v)) trees in
    let blocks = or_else (first_of l 10 (block_tests g v)) names in
    let zones = or_else (first_of l 7 (zone_tests g v)) blocks in
    ((((c.in_ok-tree.ensures) ∙ ap (λ o. or_else o trees) (sym c.in_default-3.is ∙ c.in_ok-finding-2.ensures))
    ∙ ap (λ o. or_else o names) (c.in_default-blocks.ensures)) ∙ ap (λ o. or_else o blocks)
    (sym c.in_default-2.is ∙ c.in_ok-finding.ensures)) ∙ ap (λ o. or_else o zones) (c.in_default.ensures)
    ∙ sym (all_parts form i)

pub entries-requires : goal.entries-requires
entries-requires c =
    let form = form_of c.args.version in
    sizes_good form c.args.image.now c.in_default.ensures

pub tree-requires : goal.tree-requires
tree-requires c =
    let form = form_of c.args.version in
    sizes_good form c.args.image.now c.in_default.ensures
