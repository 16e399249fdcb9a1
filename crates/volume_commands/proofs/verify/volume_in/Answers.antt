use Rattle.std.proofs.Common.{◌≡◌, ◌+◌, ◌*◌, ◌-◌, ◌%◌, ℕ, length, take, drop, sym, ap, ◌∙◌, arith}
use Rattle.std.specs.Prelude.{Ok}
use Rattle.std.proofs.lemmas.Bool.{eqb-true}
use Rattle.media.specs.Places.{volume_place}
use Rattle.volume_commands.specs.Verifying.{sectors_or}
use Rattle.volume_commands.proofs.Places.{at_place}
use Rattle.volume_commands.proofs.verify.volume_in.Goals as goal

pub returns-in-Ok-clause-volume : goal.returns-in-Ok-clause-volume
returns-in-Ok-clause-volume c =
    let bytes = c.args.bytes.now in
    let whole : length bytes % 512 ≡ 0 = sym c.as_chunks.ensures.back_len ∙ eqb-true (length c.as_chunks.result.1.now) 0 (sym c.is_empty.ensures ∙ c.if-not-is_empty.false) in
    let found = ap (λ s. volume_place s c.args.minor) (sym c.as_chunks.ensures.front) ∙ sym c.volume_place.ensures.place ∙ c.in-Ok.is in
    let place = 512 * c.in-Ok.first in
    at_place bytes c.args.minor c.if-minor-eq0.false whole (omega arith)
    ∙ ap (sectors_or bytes) found ∙ ap (λ (n : ℕ). Ok (take n (drop place bytes))) (let size : 512 * c.in-Ok.count ≡ place + 512 * c.in-Ok.count - place = omega arith in size)

pub returns-in-Err-clause-refused : goal.returns-in-Err-clause-refused
returns-in-Err-clause-refused c =
    let bytes = c.args.bytes.now in
    let whole : length bytes % 512 ≡ 0 = sym c.as_chunks.ensures.back_len ∙ eqb-true (length c.as_chunks.result.1.now) 0 (sym c.is_empty.ensures ∙ c.if-not-is_empty.false) in
    let found = ap (λ s. volume_place s c.args.minor) (sym c.as_chunks.ensures.front) ∙ sym c.volume_place.ensures.place ∙ c.in-Err.is in
    at_place bytes c.args.minor c.if-minor-eq0.false whole (omega arith) ∙ ap (sectors_or bytes) found
