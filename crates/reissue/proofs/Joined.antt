-- What each mark does to the bytes of good answers to reads.
use Rattle.std.proofs.Common.{◌≡◌, ◌⊎◌, ℕ, ◌+◌, ◌-◌, ◌<◌, ◌≤◌, List, [], ◌∷◌, ◌++◌, Bool, true, false, cond, refl, sym, ◌∙◌, ap, inl, inr, arith, Some}
use Rattle.std.proofs.lemmas.Bool.{cond-true}
use Rattle.std.proofs.lemmas.Bool.Decides.{leb_tells, nat_tests}
use Rattle.std.specs.Prelude.{nat_lt, nat_le, ◌&&◌, ◌||◌, not, slice_index}
use Rattle.message.specs.Good.{is_write}
use Rattle.message.specs.declared.BlockRequest.{BlockRequest}
use Rattle.message.specs.declared.BlockReply.{BlockReply}
use Rattle.records.specs.Marks.{Mark, Answered}
use Rattle.records.specs.Open.{asked_by, moved_by}
use Rattle.reissue.specs.declared.pending.Pending.{Pending}
use Rattle.records.specs.Disk.{fetches, bytes_read, is_read}
use Rattle.reissue.specs.Agrees.{ApartFromAll, IsJoined, AllJoined}
use Rattle.reissue.specs.Moves.{WasRead}

-- a place outside isn't covered
pub not_within : (w : Bool) (position n place : ℕ) → (place < position) ⊎ (position + n ≤ place)
    → (not w && nat_le position place && nat_lt place (position + n)) ≡ false
not_within false position n place h = grind (arith, nat_tests)
not_within true position n place h = refl

-- a place inside is covered
within : (w : Bool) (position n place : ℕ) → w ≡ false → position ≤ place → place < position + n
    → (not w && nat_le position place && nat_lt place (position + n)) ≡ true
within false position n place e h k = grind (arith, nat_tests)
within true position n place e h k = cc

-- at a place that the answer didn't cover
pub bytes_read_other : (marks : List Mark) (a : BlockReply) (r : BlockRequest) (n place : ℕ) → asked_by a marks ≡ Some r → moved_by a marks ≡ Some n
    → (place < r.position) ⊎ (r.position + n ≤ place) → bytes_read (Answered a ∷ marks) place ≡ bytes_read marks place
bytes_read_other marks a r n place w m o = rw (m, w) (kept o) where
  kept : (place < r.position) ⊎ (r.position + n ≤ place)
      → cond (fetches (Some r) (Some n) place) (slice_index a.bytes (place - r.position)) (bytes_read marks place) ≡ bytes_read marks place
  kept h = ap (λ (b : Bool). cond b (slice_index a.bytes (place - r.position)) (bytes_read marks place))
      (not_within (is_write r.kind) r.position n place h)

-- and at one that it did
bytes_read_here : (marks : List Mark) (a : BlockReply) (r : BlockRequest) (n place : ℕ) → asked_by a marks ≡ Some r → moved_by a marks ≡ Some n
    → is_write r.kind ≡ false → r.position ≤ place → place < r.position + n
    → bytes_read (Answered a ∷ marks) place ≡ slice_index a.bytes (place - r.position)
bytes_read_here marks a r n place w m read from to = rw (m, w)
    (cond-true (fetches (Some r) (Some n) place) (slice_index a.bytes (place - r.position)) (bytes_read marks place)
    (within (is_write r.kind) r.position n place read from to))

-- what was read before was read
read_on : (marks : List Mark) (a : BlockReply) (place : ℕ) → is_read marks place ≡ true → is_read (Answered a ∷ marks) place ≡ true
read_on marks a place e = rw e (by (fetches (asked_by a marks) (moved_by a marks) place)) where
  by : (b : Bool) → (b || true) ≡ true
  by true = refl
  by false = refl

-- a byte that the answer didn't cover
was_read_other : (marks : List Mark) (a : BlockReply) (r : BlockRequest) (n place byte : ℕ) → asked_by a marks ≡ Some r → moved_by a marks ≡ Some n
    → (place < r.position) ⊎ (r.position + n ≤ place) → WasRead marks place byte → WasRead (Answered a ∷ marks) place byte
was_read_other marks a r n place byte w m o h = (h.0 ∙ sym (bytes_read_other marks a r n place w m o), read_on marks a place h.1)

-- and one that it did
was_read_here : (marks : List Mark) (a : BlockReply) (r : BlockRequest) (n place byte : ℕ) → asked_by a marks ≡ Some r → moved_by a marks ≡ Some n
    → is_write r.kind ≡ false → r.position ≤ place → place < r.position + n
    → byte ≡ slice_index a.bytes (place - r.position) → WasRead (Answered a ∷ marks) place byte
was_read_here marks a r n place byte w m read from to e = (e ∙ sym (bytes_read_here marks a r n place w m read from to), rw (m, w) here) where
  here : (fetches (Some r) (Some n) place || is_read marks place) ≡ true
  here = ap (λ (b : Bool). b || is_read marks place) (within (is_write r.kind) r.position n place read from to)

-- marks that aren't good answers leave the bytes joined
pub joined_like : (marks more : List Mark) (ps : List Pending) → ((place byte : ℕ) → WasRead marks place byte → WasRead more place byte)
    → AllJoined marks ps → AllJoined more ps
joined_like marks more [] e h = tt
joined_like marks more (p ∷ ps) e h =
    (λ read. record { each = λ k lt. e (p.start + k) _ ((h.0 read).each k lt) }, joined_like marks more ps e h.1)

-- so does an answer to a request that is apart
pub joined_answered : (marks : List Mark) (a : BlockReply) (q : Pending) (n : ℕ) (ps : List Pending)
    → asked_by a marks ≡ Some q.request → moved_by a marks ≡ Some n → n ≤ q.request.count
    → ApartFromAll q ps → AllJoined marks ps → AllJoined (Answered a ∷ marks) ps
joined_answered marks a q n [] w m le ap' h = tt
joined_answered marks a q n (p ∷ ps) w m le ap' h = (
  λ read. record {
    each = λ k lt.
        let out : (p.start + k < q.request.position) ⊎ (q.request.position + n ≤ p.start + k) =
        elim (ap'.0.apart) [ inl l ↦ inr (omega (arith, l, q.end)) | inr l ↦ inl (omega (arith, l, p.end, q.from)) ] in
        was_read_other marks a q.request n (p.start + k) _ w m out ((h.0 read).each k lt);
  },
  joined_answered marks a q n ps w m le ap'.1 h.1,
)

-- what was read so far and behind it the answer's bytes
pub was_joined : (marks : List Mark) (a : BlockReply) (q : Pending) (n : ℕ) (bytes : List ℕ)
    → asked_by a marks ≡ Some q.request → moved_by a marks ≡ Some n
    → is_write q.request.kind ≡ false → IsJoined marks q
    → ((k : ℕ) → q.start + k < q.request.position → slice_index bytes k ≡ slice_index q.bytes k)
    → ((k : ℕ) → k < n → slice_index bytes (q.request.position - q.start + k) ≡ slice_index a.bytes k)
    → (k : ℕ) → q.start + k < q.request.position + n → WasRead (Answered a ∷ marks) (q.start + k) (slice_index bytes k)
was_joined marks a q n bytes w m read old before new k lt = elim (leb_tells (q.start + k + 1) q.request.position) [
  | inl h ↦
      let was = old.each k (omega (arith, h.1)) in
      was_read_other marks a q.request n (q.start + k) _ w m (inl (omega (arith, h.1))) (before k (omega (arith, h.1)) ∙ was.0, was.1)
  | inr h ↦
      let j = q.start + k - q.request.position in
      let at : q.request.position - q.start + j ≡ k = omega (arith, h.1, q.from) in
      let less : j < n = omega (arith, h.1, lt) in
      was_read_here marks a q.request n (q.start + k) _ w m read (omega (arith, h.1)) lt (ap (λ (x : ℕ). slice_index bytes x) (sym at) ∙ new j less)
]

-- of a request that goes on with them
pub joined_rest : (marks : List Mark) (a : BlockReply) (q r : Pending) (n : ℕ)
    → asked_by a marks ≡ Some q.request → moved_by a marks ≡ Some n
    → is_write q.request.kind ≡ false → IsJoined marks q
    → r.start ≡ q.start → r.request.position ≡ q.request.position + n
    → ((k : ℕ) → q.start + k < q.request.position → slice_index r.bytes k ≡ slice_index q.bytes k)
    → ((k : ℕ) → k < n → slice_index r.bytes (q.request.position - q.start + k) ≡ slice_index a.bytes k)
    → IsJoined (Answered a ∷ marks) r
joined_rest marks a q r n w m read old start position before new = record {
  each = λ k lt. rw start (was_joined marks a q n r.bytes w m read old before new k (omega (arith, lt, start, position)));
}

-- one more, and one less
pub joined_push : (marks : List Mark) (q : Pending) (ps : List Pending) → AllJoined marks ps
    → (is_write q.request.kind ≡ false → IsJoined marks q) → AllJoined marks (ps ++ q ∷ [])
joined_push marks q [] h r = (r, tt)
joined_push marks q (p ∷ ps) h r = (h.0, joined_push marks q ps h.1 r)

-- and one less
pub joined_out : (marks : List Mark) (q : Pending) (xs ys : List Pending) → AllJoined marks (xs ++ q ∷ ys)
    → AllJoined marks (xs ++ ys) × (is_write q.request.kind ≡ false → IsJoined marks q)
joined_out marks q [] ys h = (h.1, h.0)
joined_out marks q (x ∷ xs) ys h = let r = joined_out marks q xs ys h.1 in ((h.0, r.0), r.1)
