-- What a message may ask, by what it is for.
use Rattle.std.proofs.Common.{◌≡◌, subst, sym}
use Rattle.fuse_server.specs.declared.work.Plan.{Plan}
use Rattle.fuse_server.specs.Plans.{Kind, May}

-- a message that is for this may ask what those may
pub by_plan : (p q : Plan) (k : Kind) → p ≡ q → May q k → May p k
by_plan p q k same may = let P : Plan → Type 0 = λ x. May x k in subst P (sym same) may
