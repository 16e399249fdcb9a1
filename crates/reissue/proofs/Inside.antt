-- Pending requests that lie in an area.
use Rattle.std.proofs.Common.{◌≡◌, ℕ, suc, zero, ◌+◌, ◌^◌, ◌<◌, ◌≤◌, List, [], ◌∷◌, ◌++◌, length, get_or, sym, ◌∙◌, subst, arith}
use Rattle.std.specs.Prelude.{remove}
use Rattle.message.specs.declared.Kind.{Kind}
use Rattle.message.specs.declared.Kind.TheVariants.{Read, Write}
use Rattle.records.specs.Area.{Area, LiesIn, FitsArea}
use Rattle.reissue.specs.declared.ask.Ask.{Ask}
use Rattle.reissue.specs.declared.pending.Pending.{Pending}
use Rattle.reissue.specs.Entries.{AllOfMinor, AllIn}
use Rattle.reissue.specs.Calls.{AsksIn}
use Rattle.reissue.specs.Moves.{IsRequestFor}
use Rattle.reissue.proofs.Steps.{fits_minor}

-- this one is for the area's minor, and if it writes, inside
abbrev pub IsIn : Area → Pending → Type 0
IsIn area p = (p.request.minor ≡ area.minor) × LiesIn area p.request.kind p.request.position p.request.count

-- what is for an area is for its minor
pub of_minor : (area : Area) (ps : List Pending) → AllIn area ps → AllOfMinor area.minor ps
of_minor area [] h = tt
of_minor area (p ∷ ps) h = (h.0.0, of_minor area ps h.1)

-- it fits the area
pub fits_area : (area : Area) (p : Pending) → IsIn area p → FitsArea area p.request
fits_area area p h = record { fits = fits_minor area.minor p h.0; lies = h.1 }

-- ---- lists

-- the others
pub in_rest : (area : Area) (ps : List Pending) (at : ℕ) → AllIn area ps → AllIn area (remove ps at)
in_rest area [] zero h = tt
in_rest area [] (suc at) h = tt
in_rest area (p ∷ ps) zero h = h.1
in_rest area (p ∷ ps) (suc at) h = (h.0, in_rest area ps at h.1)

-- one more
pub in_push : (area : Area) (ps : List Pending) (q : Pending) → AllIn area ps → IsIn area q → AllIn area (ps ++ q ∷ [])
in_push area [] q h e = (e, tt)
in_push area (p ∷ ps) q h e = (h.0, in_push area ps q h.1 e)

-- the one at a place
pub in_there : (area : Area) (ps : List Pending) (at : ℕ) (e : Pending) → at < length ps → e ≡ get_or ps at e → AllIn area ps → IsIn area e
in_there area [] at e lt is h = absurd (omega arith)
in_there area (p ∷ ps) zero e lt is h = subst (λ (x : Pending). IsIn area x) (sym is) h.0
in_there area (p ∷ ps) (suc at) e lt is h = in_there area ps at e (omega arith) is h.1

-- ---- one request

-- what is left lies where the whole does
lies_left : (area : Area) (k : Kind) (p c q d n : ℕ) → q ≡ p + n → d + n ≡ c → LiesIn area k p c → LiesIn area k q d
lies_left area Read p c q d n at left h = tt
lies_left area Write p c q d n at left h = (omega (arith, at, h.0), omega (arith, at, left, h.1))

-- so the rest of a request that is inside is inside
pub rest_is_in : (area : Area) (p q : Pending) (n : ℕ) → q.request.kind ≡ p.request.kind → q.request.minor ≡ p.request.minor
    → q.request.position ≡ p.request.position + n → q.request.count + n ≡ p.request.count → IsIn area p → IsIn area q
rest_is_in area p q n kind minor at left h = (
  minor ∙ h.0,
  subst (λ (k : Kind). LiesIn area k q.request.position q.request.count) (sym kind)
      (lies_left area p.request.kind p.request.position p.request.count q.request.position q.request.count n at left h.1),
)

-- the request for what is asked inside is inside
pub ask_is_in : (area : Area) (ask : Ask) (id : ℕ) (p : Pending) → IsRequestFor ask id p.request → AsksIn area ask → IsIn area p
ask_is_in area ask id p is h = (
  is.minor ∙ h.0,
  subst (λ (k : Kind). LiesIn area k p.request.position p.request.count) (sym is.kind)
      (lies_left area ask.kind ask.position ask.count p.request.position p.request.count 0 (omega (arith, is.position)) (omega (arith, is.count)) h.1),
)

-- ---- an area in which all of a minor is

-- the places of a minor
abbrev pub wide : ℕ → Area
wide minor = record { minor = minor; from = 0; to = 2 ^ 63 }

lies_wide : (minor : ℕ) (k : Kind) (position count : ℕ) → position + count ≤ 2 ^ 63 → LiesIn (wide minor) k position count
lies_wide minor Read position count le = tt
lies_wide minor Write position count le = (omega arith, le)

pub is_in_wide : (minor : ℕ) (p : Pending) → p.request.minor ≡ minor → IsIn (wide minor) p
is_in_wide minor p e = (e, lies_wide minor p.request.kind p.request.position p.request.count (omega (arith, p.bound, p.end)))

pub in_wide : (minor : ℕ) (ps : List Pending) → AllOfMinor minor ps → AllIn (wide minor) ps
in_wide minor [] h = tt
in_wide minor (p ∷ ps) h = (is_in_wide minor p h.0, in_wide minor ps h.1)
