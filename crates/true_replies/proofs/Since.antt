-- The requests that were issued since the last start.
use Rattle.std.proofs.Common.{◌≡◌, ◌≤◌, List, [], ◌∷◌, inl, inr, ap, arith}
use Rattle.message.specs.declared.BlockRequest.{BlockRequest}
use Rattle.records.specs.Marks.{Mark, Issued, Started, Answered, Flush, GaveUp, Took, Fault}
use Rattle.records.specs.Open.{greatest, IsIn}
use Rattle.true_replies.specs.Posted.{since_start}

-- each of their ids is at most the greatest
pub since_below : (marks : List Mark) (r : BlockRequest) → IsIn r (since_start marks) → r.id ≤ greatest marks
since_below [] r i = absurd i
since_below (Issued q e ∷ marks) r (inl same) = let h : r.id ≡ q.id = ap (λ (x : BlockRequest). x.id) same in omega (arith, h)
since_below (Issued q e ∷ marks) r (inr i) = let h : r.id ≤ greatest marks = since_below marks r i in omega (arith, h)
since_below (Answered a ∷ marks) r i = since_below marks r i
since_below (Started e ∷ marks) r i = absurd i
since_below (Flush ∷ marks) r i = since_below marks r i
since_below (GaveUp ∷ marks) r i = since_below marks r i
since_below (Took who now call answer ∷ marks) r i = since_below marks r i
since_below (Fault c cause ∷ marks) r i = since_below marks r i
