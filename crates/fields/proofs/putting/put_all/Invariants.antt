use Rattle.std.proofs.Common.{◌≡◌, ◌≤◌, ◌++◌, take}
use Rattle.std.specs.Prelude.{vec_capacity}
use Rattle.std.specs.List.{flat_map}
use Rattle.fields.specs.Puts.{part_bytes}
use Rattle.fields.proofs.putting.put_all.Given as goal

abbrev pub invariant-loop-part : goal.invariant-loop-part
invariant-loop-part l = record {
  put : l.out.items ≡ l.fn.out.items ++ flat_map part_bytes (take l.part-index l.parts);
  capacity : vec_capacity l.fn.out ≤ vec_capacity l.out;
}
