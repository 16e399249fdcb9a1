use Rattle.std.proofs.Common.{◌≡◌, ◌+◌, length, take, ap, ◌∙◌, arith}
use Rattle.std.proofs.lemmas.List.{length-append}
use Rattle.std.specs.Prelude.{vec_capacity}
use Rattle.std.specs.List.{flat_map}
use Rattle.fields.specs.declared.putting.Part.TheVariants as part
use Rattle.fields.specs.Puts.{part_bytes}
use Rattle.fields.proofs.WritingLaws.{on_err, stands_first, no_room_for}
use Rattle.fields.proofs.putting.put_all.Goals as goal

pub returns-in_err-put-clause-kept : goal.returns-in_err-put-clause-kept
returns-in_err-put-clause-kept c =
    on_err _ _ (stands_first c.args.out.now.items c.loop-part.out.items c.put.new.out.items _ c.loop-part.invariant.put
    c.in_err-put.ensures.kept)

pub returns-in_err-put-clause-full : goal.returns-in_err-put-clause-full
returns-in_err-put-clause-full c =
    let before = flat_map part_bytes (take c.loop-part.part-index c.args.parts.now) in
    let long : length c.loop-part.out.items ≡ length c.args.out.now.items + length before =
    ap length c.loop-part.invariant.put ∙ length-append c.args.out.now.items before in
    on_err _ _ (no_room_for c.args.parts.now c.loop-part.part-index (length c.args.out.now.items) (vec_capacity c.args.out.now)
    (vec_capacity c.loop-part.out) (part.U16 0) (omega arith) c.loop-part.invariant.capacity
    (omega (arith, long, c.in_err-put.ensures.full)))
