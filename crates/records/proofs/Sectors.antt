-- Places and sectors agree, since requests are for whole sectors.
use Rattle.std.specs.Prelude.{◌≡◌, ◌⊎◌, ℕ, ◌+◌, ◌*◌, ◌%◌, ◌<◌, List, [], ◌∷◌, ◌++◌, Bool, true, false, ◌==◌, nat_lt, nat_le, Option, Some, None, is_some, if◌then◌else◌, refl, Result, Ok, Err}
use Rattle.std.proofs.Common.{inl, inr, sym, arith, subst}
use Rattle.std.proofs.lemmas.Bool.Decides.{nat_tests}
use Rattle.message.specs.Good.{is_good, moved}
use Rattle.errno.specs.declared.Errno.{Errno}
use Rattle.message.specs.declared.BlockRequest.{BlockRequest}
use Rattle.message.specs.declared.BlockReply.{BlockReply}
use Rattle.records.specs.Marks.{Mark, Started, Answered, Flush, GaveUp, Took, Issued, Fault}
use Rattle.records.specs.Open.{IsWellFormed, IsNew, IsAgain, IsIn, open_requests, with_id, without_id, greatest, moved_of, asked_by, moved_by, IsWhole}
use Rattle.records.specs.Disk.{unsure, is_unsure, covers, settles}

-- each of these is for whole sectors
abbrev pub AllWhole : List BlockRequest → Type 0
AllWhole [] = Unit {0}
AllWhole (r ∷ rs) = IsWhole r × AllWhole rs

-- with one more at the end
whole_and : (rs : List BlockRequest) (r : BlockRequest) → AllWhole rs → IsWhole r → AllWhole (rs ++ r ∷ [])
whole_and [] r all whole = (whole, tt)
whole_and (s ∷ rs) r all whole = (all.0, whole_and rs r all.1 whole)

-- with the first kept or not
whole_kept : (b : Bool) (r : BlockRequest) (rs others : List BlockRequest) → IsWhole r → AllWhole rs → AllWhole others → AllWhole (if b then rs else r ∷ others)
whole_kept true r rs others whole all rest = all
whole_kept false r rs others whole all rest = (whole, rest)

-- with one id taken out
whole_without : (id : ℕ) (rs : List BlockRequest) → AllWhole rs → AllWhole (without_id id rs)
whole_without id [] all = tt
whole_without id (r ∷ rs) all = whole_kept (r.id == id) r rs (without_id id rs) all.0 all.1 (whole_without id rs all.1)

-- each request of the list
whole_in : (r : BlockRequest) (rs : List BlockRequest) → IsIn r rs → AllWhole rs → IsWhole r
whole_in r [] h all = absurd h
whole_in r (s ∷ rs) (inl e) all = subst IsWhole (sym e) all.0
whole_in r (s ∷ rs) (inr h) all = whole_in r rs h all.1

-- a request, if there is one, is for whole sectors
abbrev pub MaybeWhole : Option BlockRequest → Type 0
MaybeWhole None = Unit {0}
MaybeWhole (Some r) = IsWhole r

-- the first or one behind it
whole_found : (b : Bool) (r : BlockRequest) (o : Option BlockRequest) → IsWhole r → MaybeWhole o → MaybeWhole (if b then Some r else o)
whole_found true r o whole rest = whole
whole_found false r o whole rest = rest

-- the one with an id
whole_with : (id : ℕ) (rs : List BlockRequest) → AllWhole rs → MaybeWhole (with_id id rs)
whole_with id [] all = tt
whole_with id (r ∷ rs) all = whole_found (r.id == id) r (with_id id rs) all.0 (whole_with id rs all.1)

-- an issued request is for whole sectors: it is new, or open already
whole_issued : (marks : List Mark) (r : BlockRequest) → AllWhole (open_requests marks) → IsNew marks r ⊎ IsAgain marks r → IsWhole r
whole_issued marks r all (inl new) = new.whole
whole_issued marks r all (inr again) = whole_in r (open_requests marks) again.same all

-- after an issue
whole_opened : (b : Bool) (rs : List BlockRequest) (r : BlockRequest) → AllWhole rs → IsWhole r → AllWhole (if b then rs ++ r ∷ [] else rs)
whole_opened true rs r all whole = whole_and rs r all whole
whole_opened false rs r all whole = all

-- after an answer
whole_answered : (b : Bool) (id : ℕ) (rs : List BlockRequest) → AllWhole rs → AllWhole (if b then without_id id rs else rs)
whole_answered true id rs all = whole_without id rs all
whole_answered false id rs all = all

-- the open requests of a well-formed record are for whole sectors
pub open_whole : (marks : List Mark) → IsWellFormed marks → AllWhole (open_requests marks)
open_whole [] h = tt
open_whole (Started e ∷ marks) h = open_whole marks h.0
open_whole (Answered a ∷ marks) h = whole_answered (is_some (moved_by a marks)) a.id (open_requests marks) (open_whole marks h.0)
open_whole (Flush ∷ marks) h = open_whole marks h.0
open_whole (GaveUp ∷ marks) h = open_whole marks h.0
open_whole (Took who now call reply ∷ marks) h = open_whole marks h.0
open_whole (Issued r e ∷ marks) h =
    let all : AllWhole (open_requests marks) = open_whole marks h.0 in
    whole_opened (nat_lt (greatest marks) r.id) (open_requests marks) r all (whole_issued marks r all h.1.1)
open_whole (Fault e cause ∷ marks) h = open_whole marks h.0

-- a place of a sector is behind a border exactly where the first place is
same_le : (p s k : ℕ) → p % 512 ≡ 0 → k < 512 → nat_le p (512 * s + k) ≡ nat_le p (512 * s)
same_le p s k whole less = grind (arith, nat_tests)

-- and before one
same_lt : (p s k : ℕ) → p % 512 ≡ 0 → k < 512 → nat_lt (512 * s + k) p ≡ nat_lt (512 * s) p
same_lt p s k whole less = grind (arith, nat_tests)

-- the end of whole sectors is a border
whole_sum : (p c : ℕ) → p % 512 ≡ 0 → c % 512 ≡ 0 → (p + c) % 512 ≡ 0
whole_sum p c a b = omega arith

-- a request covers all places of a sector, or none
same_covers : (r : BlockRequest) (s k : ℕ) → IsWhole r → k < 512 → covers r (512 * s + k) ≡ covers r (512 * s)
same_covers r s k whole less =
    rw (same_le r.position s k whole.position less, same_lt (r.position + r.count) s k (whole_sum r.position r.count whole.position whole.count) less) refl

-- a good answer is for whole sectors
good_whole : (count : ℕ) (n : ℕ) → is_good count (Ok n) ≡ true → n % 512 ≡ 0
good_whole count n h = grind (arith, nat_tests)

-- a number of bytes, if there is one, is a multiple of 512
abbrev pub MaybeMultiple : Option ℕ → Type 0
MaybeMultiple None = Unit {0}
MaybeMultiple (Some n) = n % 512 ≡ 0

-- what an outcome moved
moved_whole : (count : ℕ) (outcome : Result ℕ Errno) → MaybeMultiple (moved count outcome)
moved_whole count (Err e) = tt
moved_whole count (Ok n) = at (is_good count (Ok n)) refl
  where
    at : (b : Bool) → is_good count (Ok n) ≡ b → MaybeMultiple (if b then Some n else None)
    at true h = good_whole count n h
    at false h = tt

-- what a reply moved
moved_of_whole : (o : Option BlockRequest) (a : BlockReply) → MaybeMultiple (moved_of o a)
moved_of_whole None a = tt
moved_of_whole (Some r) a = moved_whole r.count a.outcome

-- a good answer settles all places of a sector, or none
same_settles : (o : Option BlockRequest) (m : Option ℕ) (s k : ℕ) → MaybeWhole o → MaybeMultiple m → k < 512
    → settles o m (512 * s + k) ≡ settles o m (512 * s)
same_settles None m s k whole multiple less = refl
same_settles (Some r) None s k whole multiple less = refl
same_settles (Some r) (Some n) s k whole multiple less =
    rw (same_le r.position s k whole.position less, same_lt (r.position + n) s k (whole_sum r.position n whole.position multiple) less) refl

-- each byte of a sector is unsure where the sector is
pub unsure_by_sector : (marks : List Mark) (s k : ℕ) → IsWellFormed marks → k < 512 → unsure marks (512 * s + k) ≡ is_unsure marks s
unsure_by_sector [] s k h less = refl
unsure_by_sector (Started e ∷ marks) s k h less = unsure_by_sector marks s k h.0 less
unsure_by_sector (Answered a ∷ marks) s k h less =
    rw (
      same_settles (asked_by a marks) (moved_by a marks) s k (whole_with a.id (open_requests marks) (open_whole marks h.0)) (moved_of_whole (asked_by a marks) a) less,
      unsure_by_sector marks s k h.0 less,
    ) refl
unsure_by_sector (Flush ∷ marks) s k h less = unsure_by_sector marks s k h.0 less
unsure_by_sector (GaveUp ∷ marks) s k h less = unsure_by_sector marks s k h.0 less
unsure_by_sector (Took who now call reply ∷ marks) s k h less = unsure_by_sector marks s k h.0 less
unsure_by_sector (Issued r e ∷ marks) s k h less =
    rw (same_covers r s k (whole_issued marks r (open_whole marks h.0) h.1.1) less, unsure_by_sector marks s k h.0 less) refl
unsure_by_sector (Fault e cause ∷ marks) s k h less = unsure_by_sector marks s k h.0 less

-- each open request is for whole sectors
pub open_are_whole : (marks : List Mark) (r : BlockRequest) → IsWellFormed marks → IsIn r (open_requests marks) → IsWhole r
open_are_whole marks r h i = whole_in r (open_requests marks) i (open_whole marks h)
