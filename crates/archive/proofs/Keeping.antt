-- An archive from what it began as on.
use Rattle.std.proofs.Common.{List, ◌∷◌}
use Rattle.std.specs.Prelude.{Option, Some, None}
use Rattle.layout.specs.declared.Geometry.{Geometry}
use Rattle.records.specs.Opening.{Opening}
use Rattle.archive.specs.Kept.{IsKeptFrom, IsPutBehind}
use Rattle.archive.specs.Behind.{Puts}

-- one put more
pub put_more : {A : Type 0} (puts : Puts A) (g : Geometry) (v : Opening) (first : Option A) (s t : A) → IsKeptFrom puts g v first s
    → IsPutBehind puts g v s t → IsKeptFrom puts g v first t
put_more puts g v (Some first) s t (between, goes) put = (s ∷ between, (goes, put))
put_more puts g v None s t none put = absurd none
