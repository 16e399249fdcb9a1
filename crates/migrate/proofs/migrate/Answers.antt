use Rattle.std.proofs.Common.{◌<◌, sym, ap, subst, ◌∙◌}
use Rattle.std.specs.Prelude.{All}
use Rattle.layout.specs.Places.{geometry_of}
use Rattle.migrate.proofs.SuperblockPut.{old_fits}
use Rattle.migrate.specs.Migrated.{IsRefused}
use Rattle.migrate.proofs.Verdicts.{err_same, sound_from, sizes_good, found_refused, many_refused, none_refused, cramped_refused}
use Rattle.migrate.proofs.Verdicts.{quiet, root_there, has_place, migrated}
use Rattle.migrate.proofs.WrittenHolds.{confirmed_so}
use Rattle.migrate.proofs.migrate.Goals as goal

pub unreachable-requires : goal.unreachable-requires
unreachable-requires c =
    let g = c.in-Ok.geometry in
    let parsed = sym c.in-Ok.ensures in
    c.in-None.ensures.none g (ap geometry_of c.deref.ensures.value ∙ c.in_ok-old_blocks.ensures.parsed)
    (old_fits c.args.old.now g parsed).block

pub returns-in-Some-2-clause-refused : goal.returns-in-Some-2-clause-refused
returns-in-Some-2-clause-refused c =
    let i = c.in-Some.volume.image in
    let old = c.args.old.now in
    let bytes = c.in_ok-old_blocks.old_blocks.items in
    let g = c.in-Ok.geometry in
    let same = c.in-Some.ensures.volume ∙ c.deref.ensures.value in
    let parsed = sym c.in-Ok.ensures in
    let stamped = c.in_ok-old_blocks.ensures in
    found_refused i old bytes c.args.blocks g same parsed stamped c.in-Some-2.found (sym c.in-Some-2.is ∙ c.in_ok-found.ensures)

pub returns-then-blocks-gt-MOST_BLOCKS-clause-refused : goal.returns-then-blocks-gt-MOST_BLOCKS-clause-refused
returns-then-blocks-gt-MOST_BLOCKS-clause-refused c =
    let i = c.in-Some.volume.image in
    let old = c.args.old.now in
    let bytes = c.in_ok-old_blocks.old_blocks.items in
    let g = c.in-Ok.geometry in
    let same = c.in-Some.ensures.volume ∙ c.deref.ensures.value in
    let parsed = sym c.in-Ok.ensures in
    let stamped = c.in_ok-old_blocks.ensures in
    let none = sym c.in_default.is ∙ c.in_ok-found.ensures in
    many_refused i old bytes c.args.blocks g same parsed stamped none c.if-blocks-gt-MOST_BLOCKS.true

pub empty_volume-requires-clause-sound : goal.empty_volume-requires-clause-sound
empty_volume-requires-clause-sound c =
    sound_from c.in-Some.volume.image (sym c.in_default.is ∙ c.in_ok-found.ensures)

pub empty_volume-requires-clause-good : goal.empty_volume-requires-clause-good
empty_volume-requires-clause-good c =
    sizes_good c.in-Some.volume.image (sym c.in_default.is ∙ c.in_ok-found.ensures)

pub returns-in_err-empty-clause-refused : goal.returns-in_err-empty-clause-refused
returns-in_err-empty-clause-refused c =
    let i = c.in-Some.volume.image in
    let old = c.args.old.now in
    let bytes = c.in_ok-old_blocks.old_blocks.items in
    let g = c.in-Ok.geometry in
    let same = c.in-Some.ensures.volume ∙ c.deref.ensures.value in
    let parsed = sym c.in-Ok.ensures in
    let stamped = c.in_ok-old_blocks.ensures in
    let none = sym c.in_default.is ∙ c.in_ok-found.ensures in
    let few = c.if-blocks-gt-MOST_BLOCKS.false in
    err_same c.from_residual-in_err-empty.result c.in_err-empty.field-0.0 (IsRefused old c.args.blocks) c.from_residual-in_err-empty.ensures
    (cramped_refused i old bytes c.args.blocks g same parsed stamped none few c.in_err-empty.field-0.0 c.in_err-empty.ensures.refused)

pub written-requires-clause-place : goal.written-requires-clause-place
written-requires-clause-place c =
    has_place c.in-Some.volume.image c.args.blocks c.in_ok-empty.empty.volume (sym c.in_default.is ∙ c.in_ok-found.ensures)
    c.in-Some.volume.sized c.in_ok-empty.ensures.sizes c.in_ok-empty.ensures.geometry c.in_ok-empty.ensures.fits

pub written-requires-clause-root : goal.written-requires-clause-root
written-requires-clause-root c =
    root_there c.in-Some.volume.image (sym c.in_default.is ∙ c.in_ok-found.ensures)

pub returns-clause-migrated : goal.returns-clause-migrated
returns-clause-migrated c =
    let i = c.in-Some.volume.image in
    let h = c.in_ok-empty.empty.volume in
    let old = c.args.old.now in
    let bytes = c.in_ok-old_blocks.old_blocks.items in
    let g = c.in-Ok.geometry in
    let same = c.in-Some.ensures.volume ∙ c.deref.ensures.value in
    let parsed = sym c.in-Ok.ensures in
    let stamped = c.in_ok-old_blocks.ensures in
    let none = sym c.in_default.is ∙ c.in_ok-found.ensures in
    let few = c.if-blocks-gt-MOST_BLOCKS.false in
    let place = has_place i c.args.blocks h none c.in-Some.volume.sized c.in_ok-empty.ensures.sizes c.in_ok-empty.ensures.geometry
    c.in_ok-empty.ensures.fits in
    migrated i old bytes c.in_ok-image.image.items c.args.blocks g h same parsed stamped none
    (none_refused i old bytes c.args.blocks g same parsed stamped none few c.in_ok-empty.ensures.room) c.in_ok-empty.ensures.sizes
    c.in_ok-image.ensures.whole
    (confirmed_so i h c.in_ok-image.image.items place (quiet i none)
    (subst (All (λ b. b < 256)) c.deref-2.ensures.value c.are_bytes.ensures) c.in_ok-image.ensures)
