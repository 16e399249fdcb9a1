-- What is kept, and what the record says then.
use Rattle.std.proofs.Common.{◌≡◌, ℕ, suc, ◌+◌, ◌<◌, ◌≤◌, List, [], ◌∷◌, length, get_or, Bool, true, false, cond, refl, sym, ◌∙◌, ap, subst, inl, inr, arith, Option, Some, None}
use Rattle.std.specs.Prelude.{map, is_some, ◌==◌, ◌&&◌, not, position, remove}
use Rattle.std.specs.List.{position_from}
use Rattle.std.proofs.lemmas.Iterator.Adapters.{position_from-zero}
use Rattle.std.proofs.lemmas.List.{length-map}
use Rattle.lemmas.proofs.Options.{cond_none}
use Rattle.message.specs.declared.endpoint.Endpoint.{Endpoint}
use Rattle.message.specs.declared.BlockRequest.{BlockRequest}
use Rattle.message.specs.declared.BlockReply.{BlockReply}
use Rattle.message.specs.Good.{moved}
use Rattle.records.specs.Marks.{Mark, Issued, Answered, last_started, is_endpoint}
use Rattle.records.specs.Open.{greatest, open_requests, with_id, without_id, moved_of, asked_by, counts, MayFollow}
use Rattle.records.proofs.OpenRequests.{open_below}
use Rattle.trace_digest.specs.declared.Asked.{Asked}
use Rattle.trace_digest.specs.declared.TraceDigest.{TraceDigest}
use Rattle.trace_digest.specs.Heard.{asked_for, IsHeard}

-- it has this id
abbrev pub has_id : ℕ → Asked → Bool
has_id id r = r.id == id

not_there_from : (id n : ℕ) (rs : List BlockRequest) → position_from (has_id id) n (map asked_for rs) ≡ None → with_id id rs ≡ None
not_there_from id n [] e = refl
not_there_from id n (r ∷ rs) e =
    cond_none (r.id == id) n r (position_from (has_id id) (n + 1) (map asked_for rs)) (with_id id rs) (not_there_from id (n + 1) rs) e

-- no request has the id
not_there : (id : ℕ) (rs : List BlockRequest) → position (has_id id) (map asked_for rs) ≡ None → with_id id rs ≡ None
not_there id rs e = not_there_from id 0 rs (sym (position_from-zero (has_id id) (map asked_for rs)) ∙ e)

-- a request with the id is at this place
pub record FoundAt (id : ℕ) (rs : List BlockRequest) (at : ℕ) : Type 0 where
  pub request : BlockRequest
  pub there : with_id id rs ≡ Some request
  pub here : (d : Asked) → get_or (map asked_for rs) at d ≡ asked_for request
  pub gone : remove (map asked_for rs) at ≡ map asked_for (without_id id rs)

found_by : (id n : ℕ) (r : BlockRequest) (rs : List BlockRequest) (at : ℕ)
    → (position_from (has_id id) (n + 1) (map asked_for rs) ≡ Some at → (i : ℕ) × (at ≡ n + 1 + i) × FoundAt id rs i)
    → (b : Bool) → (r.id == id) ≡ b → cond b (Some n) (position_from (has_id id) (n + 1) (map asked_for rs)) ≡ Some at
    → (i : ℕ) × (at ≡ n + i) × FoundAt id (r ∷ rs) i
found_by id n r rs at more true t e =
    let same : n ≡ at = cc in
    (0, omega (arith, same), record { request = r; there = rw t refl; here = λ d. refl; gone = rw t refl })
found_by id n r rs at more false t e =
    let m = more e in (
      suc m.0,
      omega (arith, m.1),
      record { request = m.2.request; there = rw t m.2.there; here = m.2.here; gone = rw t (ap (λ (l : List Asked). asked_for r ∷ l) m.2.gone) },
    )

found_from : (id n : ℕ) (rs : List BlockRequest) (at : ℕ) → position_from (has_id id) n (map asked_for rs) ≡ Some at
    → (i : ℕ) × (at ≡ n + i) × FoundAt id rs i
found_from id n [] at e = cc
found_from id n (r ∷ rs) at e = found_by id n r rs at (found_from id (n + 1) rs at) (r.id == id) refl e

-- the request that is found
found : (id : ℕ) (rs : List BlockRequest) (at : ℕ) → position (has_id id) (map asked_for rs) ≡ Some at → FoundAt id rs at
found id rs at e =
    let f = found_from id 0 rs at (sym (position_from-zero (has_id id) (map asked_for rs)) ∙ e) in
    let same : f.0 ≡ at = omega (arith, f.1) in
    subst (λ (k : ℕ). FoundAt id rs k) same f.2

-- the same of what is kept
pub heard_none : (h : TraceDigest) (marks : List Mark) (id : ℕ) → IsHeard h marks → position (has_id id) h.asked.items ≡ None
    → with_id id (open_requests marks) ≡ None
heard_none h marks id is e = not_there id (open_requests marks) (ap (position (has_id id)) (sym is.asked) ∙ e)

pub heard_found : (h : TraceDigest) (marks : List Mark) (id at : ℕ) → IsHeard h marks → position (has_id id) h.asked.items ≡ Some at
    → FoundAt id (open_requests marks) at
heard_found h marks id at is e = found id (open_requests marks) at (ap (position (has_id id)) (sym is.asked) ∙ e)

-- whether one is there
pub is_there : (h : TraceDigest) (marks : List Mark) (id : ℕ) (o : Option ℕ) → IsHeard h marks → o ≡ position (has_id id) h.asked.items
    → is_some o ≡ is_some (with_id id (open_requests marks))
is_there h marks id None is e = ap is_some (sym (heard_none h marks id is (sym e)))
is_there h marks id (Some at) is e = ap is_some (sym (heard_found h marks id at is (sym e)).there)

-- a reply counts if its request is open, where the device wasn't given up and it is from the driver of the last start
pub heard_counts : (h : TraceDigest) (marks : List Mark) (a : BlockReply) (o : Option ℕ) → IsHeard h marks → h.given_up ≡ false
    → is_endpoint a.from h.current ≡ true → o ≡ position (has_id a.id) h.asked.items → is_some o ≡ counts marks a
heard_counts h marks a o is live current search_is =
    is_there h marks a.id o is search_is
    ∙ sym (ap (λ (b : Bool). not b && is_endpoint a.from (last_started marks) && is_some (asked_by a marks)) (sym is.given_up ∙ live)
    ∙ ap (λ (b : Bool). b && is_some (asked_by a marks)) (ap (is_endpoint a.from) (sym is.current) ∙ current))

-- a reply whose request isn't open, or that isn't good, closes nothing
pub closes_none : (h new : TraceDigest) (marks : List Mark) (a : BlockReply) → IsHeard h marks → new ≡ h
    → is_some (moved_of (with_id a.id (open_requests marks)) a) ≡ false → IsHeard new (Answered a ∷ marks)
closes_none h new marks a is same bad =
    subst (λ (x : TraceDigest). IsHeard x (Answered a ∷ marks)) (sym same)
    (record { current = is.current; given_up = is.given_up; greatest = is.greatest; asked = rw bad is.asked })

-- a good one closes its request
pub closes_one : (h new : TraceDigest) (marks : List Mark) (a : BlockReply) (at : ℕ) → IsHeard h marks → position (has_id a.id) h.asked.items ≡ Some at
    → new.current ≡ h.current → new.given_up ≡ h.given_up → new.greatest ≡ h.greatest → new.asked.items ≡ remove h.asked.items at
    → is_some (moved_of (with_id a.id (open_requests marks)) a) ≡ true → IsHeard new (Answered a ∷ marks)
closes_one h new marks a at is e current given_up greatest asked good =
    let f = heard_found h marks a.id at is e in
    record {
      current = current ∙ is.current;
      given_up = given_up ∙ is.given_up;
      greatest = greatest ∙ is.greatest;
      asked = rw good (asked ∙ ap (λ (l : List Asked). remove l at) is.asked ∙ f.gone);
    }

-- what a reply moved, by the request at its place
pub moved_at : (h : TraceDigest) (marks : List Mark) (a : BlockReply) (at : ℕ) (x : Asked) (o : Option ℕ) → IsHeard h marks
    → position (has_id a.id) h.asked.items ≡ Some at → x ≡ get_or h.asked.items at x → o ≡ moved x.count a.outcome
    → moved_of (with_id a.id (open_requests marks)) a ≡ o
moved_at h marks a at x o is e here moves =
    let f = heard_found h marks a.id at is e in
    let same : x ≡ asked_for f.request = here ∙ ap (λ (l : List Asked). get_or l at x) is.asked ∙ f.here x in
    ap (λ (r : Option BlockRequest). moved_of r a) f.there ∙ sym (moves ∙ ap (λ (y : Asked). moved y.count a.outcome) same)

-- a request that may be issued under an id above the greatest is new: there is a place for it
pub has_place : (h : TraceDigest) (marks : List Mark) (r : BlockRequest) (to : Endpoint) → IsHeard h marks → MayFollow (Issued r to) marks
    → h.greatest < r.id → length h.asked.items < 16
has_place h marks r to is may above = elim may.1 [
  | inl new ↦ omega (arith, ap length is.asked, length-map (open_requests marks) asked_for, new.room)
  | inr again ↦
      let le : r.id ≤ greatest marks = open_below marks r again.same in
      absurd (omega (arith, le, above, is.greatest))
]
