use Rattle.std.proofs.Common.{◌≡◌, sym, ◌∙◌, ap, true}
use Rattle.media.specs.Entries.{has_signature}
use Rattle.media.specs.Refusals.{checked}
use Rattle.media.proofs.partition.parse.Goals as goal

pub returns-clause-value : goal.returns-clause-value
returns-clause-value c =
    let signed : has_signature c.args.sector.now ≡ true = sym c.has_signature.ensures ∙ c.if-not-has_signature.false in
    rw signed (c.checked.ensures.value ∙ ap (λ entries. checked (record { sectors = c.args.sectors; entries = entries })) c.entries_in.ensures)
