-- Requests by their ids, and how many there are.
use Rattle.std.proofs.Common.{◌≡◌, ℕ, suc, ◌+◌, ◌<◌, ◌≤◌, List, [], ◌∷◌, ◌++◌, length, Bool, true, false, cond, refl, sym, ◌∙◌, ap, subst, arith}
use Rattle.std.specs.Prelude.{is_some, Option, Some, None, ◌==◌, ◌&&◌}
use Rattle.message.specs.declared.BlockRequest.{BlockRequest}
use Rattle.message.specs.declared.BlockReply.{BlockReply}
use Rattle.records.specs.Marks.{Mark, Answered}
use Rattle.records.specs.Open.{greatest, open_requests, without_id, with_id, moved_of, counts, IsIn}
use Rattle.records.specs.Acts.{without_answered, first_of}
use Rattle.records.proofs.OpenRequests.{cond_has, open_below, with_id_in}
use Rattle.conformance.proofs.FollowLaws.{same_number, other_number}

-- these have the ids from n on, one after the other
abbrev pub IsFrom : ℕ → List BlockRequest → Type 0
IsFrom n [] = Unit {0}
IsFrom n (r ∷ rs) = (r.id ≡ n) × IsFrom (suc n) rs

pub from_push : (n : ℕ) (rs : List BlockRequest) (r : BlockRequest) → IsFrom n rs → r.id ≡ n + length rs → IsFrom n (rs ++ r ∷ [])
from_push n [] r h is = (omega (arith, is), tt)
from_push n (s ∷ rs) r h is = (h.0, from_push (suc n) rs r h.1 (omega (arith, is)))

pub from_same : (n m : ℕ) (rs : List BlockRequest) → n ≡ m → IsFrom n rs → IsFrom m rs
from_same n m rs is h = subst (λ (k : ℕ). IsFrom k rs) is h

-- a lesser id is none of theirs
pub without_lower : (n id : ℕ) (rs : List BlockRequest) → IsFrom n rs → id < n → without_id id rs ≡ rs
without_lower n id [] h low = refl
without_lower n id (r ∷ rs) h low =
    ap (λ (b : Bool). cond b rs (r ∷ without_id id rs)) (other_number r.id id (λ same. absurd (none r.id h.0 same low)))
    ∙ ap (λ (l : List BlockRequest). r ∷ l) (without_lower (suc n) id rs h.1 (omega (arith, low))) where
      none : (k : ℕ) → k ≡ n → k ≡ id → id < n → ⊥
      none k is same low = omega (arith, is, same, low)

pub without_first : (r : BlockRequest) (rs : List BlockRequest) → without_id r.id (r ∷ rs) ≡ rs
without_first r rs = ap (λ (b : Bool). cond b rs (r ∷ without_id r.id rs)) (same_number r.id)

pub length_push : (rs : List BlockRequest) (r : BlockRequest) → length (rs ++ r ∷ []) ≡ suc (length rs)
length_push [] r = refl
length_push (s ∷ rs) r = ap suc (length_push rs r)

fewer_without : (id : ℕ) (rs : List BlockRequest) → length (without_id id rs) ≤ length rs
fewer_without id [] = omega arith
fewer_without id (r ∷ rs) = let rest : length (without_id id rs) ≤ length rs = fewer_without id rs in
    cond_has (λ (l : List BlockRequest). length l ≤ suc (length rs)) (r.id == id) rs (r ∷ without_id id rs) (omega arith) (omega (arith, rest))

-- an answer closes one request, or none
pub fewer_answered : (marks : List Mark) (a : BlockReply) → length (open_requests (Answered a ∷ marks)) ≤ length (open_requests marks)
fewer_answered marks a =
    cond_has (λ (l : List BlockRequest). length l ≤ length (open_requests marks)) (is_some (moved_of (with_id a.id (open_requests marks)) a))
    (without_id a.id (open_requests marks)) (open_requests marks) (fewer_without a.id (open_requests marks)) (omega arith)

-- an answer closes none that was never issued
pub never_answered : (marks : List Mark) (a : BlockReply) (never : List BlockRequest) → IsFrom (suc (greatest marks)) never → without_answered a marks never ≡ never
never_answered marks a never h = by (counts marks a) (with_id a.id (open_requests marks)) refl where
  by : (b : Bool) (asked : Option BlockRequest) → with_id a.id (open_requests marks) ≡ asked → cond (b && is_some (moved_of asked a)) (without_id a.id never) never ≡ never
  by false asked is = refl
  by true None is = refl
  by true (Some r) is =
      let found : IsIn r (open_requests marks) × (r.id ≡ a.id) = with_id_in a.id (open_requests marks) r is in
      let low : r.id ≤ greatest marks = open_below marks r found.0 in
      kept (is_some (moved_of (Some r) a)) (without_lower (suc (greatest marks)) a.id never h (omega (arith, low, found.1))) where
        kept : (g : Bool) → without_id a.id never ≡ never → cond (true && g) (without_id a.id never) never ≡ never
        kept true same = same
        kept false same = refl

-- a request of a list, by its first one
pub one_first : (r s : BlockRequest) (rest : List BlockRequest) → first_of (s ∷ rest) ≡ Some r → s ≡ r
one_first r s rest is = ap (λ (x : Option BlockRequest). request_or s x) is where
  request_or : BlockRequest → Option BlockRequest → BlockRequest
  request_or d None = d
  request_or d (Some x) = x

-- the first one taken out
pub record FirstOut (n : ℕ) (r : BlockRequest) (rs : List BlockRequest) : Type 0 where
  pub id : r.id ≡ n
  pub rest : IsFrom (suc n) (without_id r.id rs)
  pub fewer : length rs ≡ suc (length (without_id r.id rs))

pub first_out : (n : ℕ) (r : BlockRequest) (rs : List BlockRequest) → IsFrom n rs → first_of rs ≡ Some r → FirstOut n r rs
first_out n r [] h is = absurd (clash is) where
  clash : ◌≡◌ {A = Option BlockRequest} None (Some r) → ⊥
  clash e = cc
first_out n r (x ∷ rs) h is =
    let same : x ≡ r = one_first r x rs is in
    let without : without_id r.id (r ∷ rs) ≡ rs = without_first r rs in
    subst (λ (y : BlockRequest). FirstOut n r (y ∷ rs)) (sym same) (record {
      id = ap (λ (y : BlockRequest). y.id) (sym same) ∙ h.0;
      rest = subst (λ (l : List BlockRequest). IsFrom (suc n) l) (sym without) h.1;
      fewer = ap (λ (l : List BlockRequest). suc (length l)) (sym without);
    })
