use Rattle.std.proofs.Common.{◌≡◌, ◌++◌}
use Rattle.new_volume.specs.Image.{map_bytes}
use Rattle.new_volume.proofs.push_map.Given as goal

-- the bytes so far
abbrev pub invariant-loop-place : goal.invariant-loop-place
invariant-loop-place l = l.image.items ≡ l.fn.image.items ++ map_bytes l.last l.place
