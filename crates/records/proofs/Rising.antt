-- Open requests stand in the rising order of their ids.
use Rattle.std.proofs.Common.{◌≡◌, ℕ, ◌<◌, ◌≤◌, List, [], ◌∷◌, ◌++◌, Bool, true, false, arith, refl}
use Rattle.std.proofs.lemmas.Bool.Decides.{nat_tests}
use Rattle.std.specs.Prelude.{nat_lt, is_some, ◌==◌, if◌then◌else◌}
use Rattle.message.specs.declared.BlockRequest.{BlockRequest}
use Rattle.records.specs.Marks.{Mark, Issued, Started, Answered, Flush, GaveUp, Took, Fault}
use Rattle.records.specs.Open.{greatest, open_requests, without_id, moved_by}
use Rattle.records.specs.Laws.{AllAbove, IsRising}
use Rattle.records.proofs.OpenRequests.{Below, below_open}

-- one more above all of them
above_push : (id : ℕ) (rs : List BlockRequest) (r : BlockRequest) → AllAbove id rs → id < r.id → AllAbove id (rs ++ r ∷ [])
above_push id [] r above less = (less, tt)
above_push id (s ∷ rs) r above less = (above.0, above_push id rs r above.1 less)

-- a request with a greater id at the end
rising_push : (g : ℕ) (rs : List BlockRequest) (r : BlockRequest) → IsRising rs → Below g rs → g < r.id → IsRising (rs ++ r ∷ [])
rising_push g [] r rising below less = (tt, tt)
rising_push g (s ∷ rs) r rising below less =
    let low : s.id ≤ g = below.0 in
    (above_push s.id rs r rising.0 (omega (arith, low, less)), rising_push g rs r rising.1 below.1 less)

-- one taken out or kept
above_kept : (b : Bool) (id : ℕ) (r : BlockRequest) (rs others : List BlockRequest) → id < r.id → AllAbove id rs → AllAbove id others
    → AllAbove id (if b then rs else r ∷ others)
above_kept true id r rs others less all rest = all
above_kept false id r rs others less all rest = (less, rest)

-- those that are left
above_without : (id out : ℕ) (rs : List BlockRequest) → AllAbove id rs → AllAbove id (without_id out rs)
above_without id out [] above = tt
above_without id out (r ∷ rs) above =
    above_kept (r.id == out) id r rs (without_id out rs) above.0 above.1 (above_without id out rs above.1)

-- the rest in rising order, with the first kept or not
rising_kept : (b : Bool) (r : BlockRequest) (rs others : List BlockRequest) → IsRising rs → AllAbove r.id others → IsRising others
    → IsRising (if b then rs else r ∷ others)
rising_kept true r rs others rising above rest = rising
rising_kept false r rs others rising above rest = (above, rest)

-- one id taken out
rising_without : (out : ℕ) (rs : List BlockRequest) → IsRising rs → IsRising (without_id out rs)
rising_without out [] rising = tt
rising_without out (r ∷ rs) rising =
    rising_kept (r.id == out) r rs (without_id out rs) rising.1 (above_without r.id out rs rising.0) (rising_without out rs rising.1)

-- after an issue, and after an answer
rising_opened : (b : Bool) (g : ℕ) (rs : List BlockRequest) (r : BlockRequest) → nat_lt g r.id ≡ b → IsRising rs → Below g rs
    → IsRising (if b then rs ++ r ∷ [] else rs)
rising_opened true g rs r new rising below = let less : g < r.id = grind (arith, nat_tests) in rising_push g rs r rising below less
rising_opened false g rs r new rising below = rising

-- an answer closes one, or none
rising_answered : (b : Bool) (id : ℕ) (rs : List BlockRequest) → IsRising rs → IsRising (if b then without_id id rs else rs)
rising_answered true id rs rising = rising_without id rs rising
rising_answered false id rs rising = rising

-- open requests stand in the rising order of their ids
pub open_are_rising : (marks : List Mark) → IsRising (open_requests marks)
open_are_rising [] = tt
open_are_rising (Started e ∷ marks) = open_are_rising marks
open_are_rising (Answered a ∷ marks) = rising_answered (is_some (moved_by a marks)) a.id (open_requests marks) (open_are_rising marks)
open_are_rising (Flush ∷ marks) = open_are_rising marks
open_are_rising (GaveUp ∷ marks) = open_are_rising marks
open_are_rising (Took who now call answer ∷ marks) = open_are_rising marks
open_are_rising (Issued r e ∷ marks) =
    rising_opened (nat_lt (greatest marks) r.id) (greatest marks) (open_requests marks) r refl (open_are_rising marks) (below_open marks)
open_are_rising (Fault e cause ∷ marks) = open_are_rising marks
