use Rattle.std.proofs.Common.{◌≡◌, ◌+◌, ◌++◌, length, take, ap, ◌∙◌, arith}
use Rattle.std.proofs.lemmas.List.{length-append}
use Rattle.std.specs.Prelude.{vec_capacity}
use Rattle.std.specs.List.{flat_map}
use Rattle.ninep.specs.Fields.{Two, number_bytes, fields_bytes}
use Rattle.ninep.specs.Replies.{qid_fields}
use Rattle.ninep.proofs.WritingLaws.{on_err, stands_first, no_room, qid_length}
use Rattle.ninep.proofs.writing.put_qids.Goals as goal

pub returns-in_err-put_qid-clause-kept : goal.returns-in_err-put_qid-clause-kept
returns-in_err-put_qid-clause-kept c =
    on_err _ _ (stands_first c.args.out.now.items c.loop-qid.out.items c.put_qid.new.out.items _ c.loop-qid.invariant.put
    c.in_err-put_qid.ensures.kept)

pub returns-in_err-put_qid-clause-full : goal.returns-in_err-put_qid-clause-full
returns-in_err-put_qid-clause-full c =
    let head = number_bytes Two (length c.args.qids.now) in
    let done = fields_bytes (flat_map qid_fields (take c.loop-qid.qid-index c.args.qids.now)) in
    let long : length c.loop-qid.out.items ≡ length c.args.out.now.items + length (head ++ done) =
    ap length c.loop-qid.invariant.put ∙ length-append c.args.out.now.items (head ++ done) in
    on_err _ _ (no_room c.args.qids.now c.loop-qid.qid-index (length c.args.out.now.items) (vec_capacity c.args.out.now)
    (vec_capacity c.loop-qid.out) head (omega arith) c.loop-qid.invariant.capacity
    (omega (arith, long, simp qid_length at c.in_err-put_qid.ensures.full)))
