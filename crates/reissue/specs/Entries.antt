-- Pending requests by their tickets and ids, and what holds of their bytes.
use Rattle.std.specs.Prelude.{◌≡◌, ◌≢◌, ◌⊎◌, ℕ, ◌+◌, ◌<◌, ◌≤◌, ◌==◌, ◌&&◌, nat_lt, Bool, List, [], ◌∷◌, Option, Some, None, if◌then◌else◌}
use Rattle.std.proofs.Common.{refl}
use Rattle.std.proofs.Math.Bridge.{le_prop}
use Rattle.message.specs.declared.BlockRequest.{BlockRequest}
use Rattle.records.specs.Area.{Area, LiesIn}
use Rattle.reissue.specs.Moves.{Begun, written_by}
use Rattle.reissue.specs.declared.pending.Pending.{Pending}

-- the request as it was begun
abbrev pub begun_of : Pending → Begun
begun_of p = record { start = p.start; size = p.size; written = written_by p.request.kind p.bytes }

-- the request for what is left
abbrev pub request_of : Pending → BlockRequest
request_of p = p.request

-- the requests as they were begun, by their tickets
abbrev pub pending_of : List Pending → ℕ → Option Begun
pending_of [] t = None
pending_of (p ∷ ps) t = if p.ticket == t then Some (begun_of p) else pending_of ps t

-- none of them has this ticket
abbrev pub IsFresh : ℕ → List Pending → Type 0
IsFresh t [] = Unit {0}
IsFresh t (p ∷ ps) = (p.ticket ≢ t) × IsFresh t ps

-- no two have one ticket
abbrev pub AreDistinct : List Pending → Type 0
AreDistinct [] = Unit {0}
AreDistinct (p ∷ ps) = IsFresh p.ticket ps × AreDistinct ps

-- no ticket is above this number
abbrev pub AreUpTo : ℕ → List Pending → Type 0
AreUpTo ids [] = Unit {0}
AreUpTo ids (p ∷ ps) = (p.ticket ≤ ids) × AreUpTo ids ps

-- the ids rise, from above the first number up to the second
abbrev pub AreRising : ℕ → ℕ → List Pending → Type 0
AreRising low ids [] = Unit {0}
AreRising low ids (p ∷ ps) = (low < p.request.id) × (p.request.id ≤ ids) × AreRising p.request.id ids ps

-- the tickets and ids of pending requests, after so many ids were given
pub record HasNumbers (ids : ℕ) (ps : List Pending) : Type 0 where
  pub distinct : AreDistinct ps
  pub up_to : AreUpTo ids ps
  pub rising : AreRising 0 ids ps

-- each of these facts has one proof at most
prop_fresh : (t : ℕ) (ps : List Pending) (x y : IsFresh t ps) → x ≡ y
prop_fresh t [] x y = refl
prop_fresh t (p ∷ ps) x y = λ i. (λ e. nothing (x.0 e) (y.0 e) i, prop_fresh t ps x.1 y.1 i) where
  nothing : (a b : ⊥) → a ≡ b
  nothing a b = absurd a

-- that no two have one ticket
prop_distinct : (ps : List Pending) (x y : AreDistinct ps) → x ≡ y
prop_distinct [] x y = refl
prop_distinct (p ∷ ps) x y = λ i. (prop_fresh p.ticket ps x.0 y.0 i, prop_distinct ps x.1 y.1 i)

-- that no ticket is above a number
prop_up_to : (ids : ℕ) (ps : List Pending) (x y : AreUpTo ids ps) → x ≡ y
prop_up_to ids [] x y = refl
prop_up_to ids (p ∷ ps) x y = λ i. (le_prop x.0 y.0 i, prop_up_to ids ps x.1 y.1 i)

-- that the ids rise
prop_rising : (low ids : ℕ) (ps : List Pending) (x y : AreRising low ids ps) → x ≡ y
prop_rising low ids [] x y = refl
prop_rising low ids (p ∷ ps) x y = λ i. (le_prop x.0 y.0 i, le_prop x.1 y.1 i, prop_rising p.request.id ids ps x.2 y.2 i)

-- there is one proof of it at most
pub prop_numbers : (ids : ℕ) (ps : List Pending) (x y : HasNumbers ids ps) → x ≡ y
prop_numbers ids ps x y = λ i. record {
  distinct = prop_distinct ps x.distinct y.distinct i;
  up_to = prop_up_to ids ps x.up_to y.up_to i;
  rising = prop_rising 0 ids ps x.rising y.rising i;
}

-- one of them
abbrev pub IsAmong : Pending → List Pending → Type 0
IsAmong q [] = ⊥
IsAmong q (p ∷ ps) = (q ≡ p) ⊎ IsAmong q ps

-- each is for this minor
abbrev pub AllOfMinor : ℕ → List Pending → Type 0
AllOfMinor minor [] = Unit {0}
AllOfMinor minor (p ∷ ps) = (p.request.minor ≡ minor) × AllOfMinor minor ps

-- each is for the area's minor, and if it writes, inside
abbrev pub AllIn : Area → List Pending → Type 0
AllIn area [] = Unit {0}
AllIn area (p ∷ ps) =
    ((p.request.minor ≡ area.minor) × LiesIn area p.request.kind p.request.position p.request.count) × AllIn area ps

-- the place is in what is left of one of them
abbrev pub IsLeft : List Pending → ℕ → Type 0
IsLeft [] place = ⊥
IsLeft (p ∷ ps) place = ((p.request.position ≤ place) × (place < p.start + p.size)) ⊎ IsLeft ps place

-- each still asks for something
abbrev pub AllAsk : List Pending → Type 0
AllAsk [] = Unit {0}
AllAsk (p ∷ ps) = (0 < p.request.count) × AllAsk ps

-- this range has a byte in common with the one that was asked for
abbrev pub meets : ℕ → ℕ → Pending → Bool
meets start size p = nat_lt start (p.start + p.size) && nat_lt p.start (start + size)
