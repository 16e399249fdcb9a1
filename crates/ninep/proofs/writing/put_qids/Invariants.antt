use Rattle.std.proofs.Common.{◌≡◌, ◌≤◌, ◌++◌, length, take}
use Rattle.std.specs.Prelude.{vec_capacity}
use Rattle.std.specs.List.{flat_map}
use Rattle.ninep.specs.Fields.{Two, number_bytes, fields_bytes}
use Rattle.ninep.specs.Replies.{qid_fields}
use Rattle.ninep.proofs.writing.put_qids.Given as goal

abbrev pub invariant-loop-qid : goal.invariant-loop-qid
invariant-loop-qid l = record {
  put : l.out.items ≡ l.fn.out.items ++ (number_bytes Two (length l.qids) ++ fields_bytes (flat_map qid_fields (take l.qid-index l.qids)));
  capacity : vec_capacity l.fn.out ≤ vec_capacity l.out;
}
