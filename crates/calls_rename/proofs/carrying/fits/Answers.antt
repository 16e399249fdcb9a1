use Rattle.std.proofs.Common.{◌≡◌, ◌∙◌, true, false, sym}
use Rattle.std.specs.Prelude.{is_some}
use Rattle.block_store.proofs.Turns.{ends_as, reads_as, reads_none}
use Rattle.calls_rename.proofs.Carried.{can_move, fits_elsewhere, fits_in_place, fits_onto}
use Rattle.calls_rename.proofs.carrying.fits.Goals as goal

pub returns-then-is_some-clause-reads : goal.returns-then-is_some-clause-reads
returns-then-is_some-clause-reads g c =
    let a = c.args in
    let taken : is_some a.asked.now.there ≡ true = sym c.is_some.ensures ∙ c.if-is_some.true in
    reads_none _ g.met.B.Blocks.lawful _ _ c.requires.on.ready (λ d. fits_onto a.geometry.now c.requires.on.geometry d a.asked.now taken)

pub returns-then-asked-clause-reads : goal.returns-then-asked-clause-reads
returns-then-asked-clause-reads g c =
    let a = c.args in
    let free : is_some a.asked.now.there ≡ false = sym c.is_some.ensures ∙ c.if-is_some.false in
    reads_none _ g.met.B.Blocks.lawful _ _ c.requires.on.ready (λ d. fits_in_place a.geometry.now c.requires.on.geometry d a.asked.now free c.if-asked.true)

pub returns-clause-reads : goal.returns-clause-reads
returns-clause-reads g c =
    let a = c.args in
    let v = a.geometry.now in
    let ok = c.requires.on.geometry in
    let free : is_some a.asked.now.there ≡ false = sym c.is_some.ensures ∙ c.if-is_some.false in
    reads_as _ _ _ _ _
    (λ d p. ends_as c.has_room.result _ _ _ _ (λ b tells. fits_elsewhere v ok d a.asked.now free c.if-asked.false b tells) (λ h. can_move v ok d a.asked.now free c.if-asked.false h) p)
    c.has_room.ensures.reads
