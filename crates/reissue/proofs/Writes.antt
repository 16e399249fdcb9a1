-- What each mark does to the bytes of pending writes, and to all other places. Of the record alone.
use Rattle.std.proofs.Common.{◌≡◌, ◌⊎◌, ℕ, ◌+◌, ◌-◌, ◌<◌, ◌≤◌, List, [], ◌∷◌, ◌++◌, Bool, true, false, cond, refl, sym, ◌∙◌, ap, subst, inl, inr, arith, Option, Some}
use Rattle.std.proofs.lemmas.Bool.{cond-true}
use Rattle.std.proofs.lemmas.Bool.Decides.{leb_tells, nat_tests}
use Rattle.std.specs.Prelude.{◌&&◌, ◌||◌, not, slice_index}
use Rattle.lemmas.proofs.Numbers.{outside_fails, within_holds}
use Rattle.lemmas.proofs.Bools.{or_neither}
use Rattle.message.specs.declared.endpoint.Endpoint.{Endpoint}
use Rattle.message.specs.declared.Kind.{Kind}
use Rattle.message.specs.declared.Kind.TheVariants as kind
use Rattle.message.specs.declared.BlockRequest.{BlockRequest}
use Rattle.message.specs.declared.BlockReply.{BlockReply}
use Rattle.reissue.specs.declared.pending.Pending.{Pending}
use Rattle.reissue.proofs.Tickets.{pending_among}
use Rattle.records.specs.Disk.{Contents, covers, disk_after, settles, unsure}
use Rattle.records.specs.Marks.{Answered, Issued, Mark}
use Rattle.records.specs.Open.{asked_by, moved_by}
use Rattle.message.specs.Good.{is_write}
use Rattle.reissue.specs.Agrees.{AllApart, AllWrote, Apart, ApartFromAll, Wrote}
use Rattle.reissue.specs.Entries.{AreDistinct, IsAmong, begun_of, pending_of}
use Rattle.reissue.specs.Moves.{Begun, DiskState, IsQuiet, Spares, state_after, written_by}

-- these bytes are the disk's in this range, and it is sure of them
pub record AreWritten (image : Contents) (marks : List Mark) (start size : ℕ) (bytes : List ℕ) : Type 0 where
  pub each : (k : ℕ) → k < size
      → (disk_after image marks (start + k) ≡ slice_index bytes k) × (unsure marks (start + k) ≡ false)

-- at a place that the answer didn't write, the disk and what is unsure of it stay
pub same_at : (image : Contents) (marks : List Mark) (a : BlockReply) (r : BlockRequest) (n place : ℕ)
    → asked_by a marks ≡ Some r → moved_by a marks ≡ Some n
    → (is_write r.kind ≡ false) ⊎ ((place < r.position) ⊎ (r.position + n ≤ place))
    → (unsure (Answered a ∷ marks) place ≡ unsure marks place)
    × (disk_after image (Answered a ∷ marks) place ≡ disk_after image marks place)
same_at image marks a r n place w m o =
    (rw (m, w) (sure o), rw (m, w) (kept o)) where
      sure : (is_write r.kind ≡ false) ⊎ ((place < r.position) ⊎ (r.position + n ≤ place))
          → (not (settles (Some r) (Some n) place) && unsure marks place) ≡ unsure marks place
      sure (inl h) = rw h refl
      sure (inr h) = ap (λ (b : Bool). not b && unsure marks place) (outside_fails (is_write r.kind) r.position n place h)

      kept : (is_write r.kind ≡ false) ⊎ ((place < r.position) ⊎ (r.position + n ≤ place))
          → cond (settles (Some r) (Some n) place) (slice_index r.bytes (place - r.position)) (disk_after image marks place) ≡ disk_after image marks place
      kept (inl h) = rw h refl
      kept (inr h) = ap (λ (b : Bool). cond b (slice_index r.bytes (place - r.position)) (disk_after image marks place))
          (outside_fails (is_write r.kind) r.position n place h)

-- an issue doesn't cover a place outside
not_touched : (r : BlockRequest) (place : ℕ) → (place < r.position) ⊎ (r.position + r.count ≤ place)
    → (is_write r.kind && covers r place) ≡ false
not_touched r place h = by (is_write r.kind) where
  none : covers r place ≡ false
  none = elim h [ inl l ↦ grind (arith, nat_tests) | inr l ↦ grind (arith, nat_tests) ]

  by : (b : Bool) → (b && covers r place) ≡ false
  by true = none
  by false = refl

-- an issue covers a place inside
touched : (w : Bool) (r : BlockRequest) (place : ℕ) → (w && covers r place) ≡ true
    → (w ≡ true) × (r.position ≤ place) × (place < r.position + r.count)
touched true r place e = (refl, grind (arith, nat_tests), grind (arith, nat_tests))
touched false r place e = cc

-- an issue makes no place unsure but its own
pub unsure_issued : (marks : List Mark) (r : BlockRequest) (to : Endpoint) (place : ℕ)
    → (place < r.position) ⊎ (r.position + r.count ≤ place)
    → unsure (Issued r to ∷ marks) place ≡ unsure marks place
unsure_issued marks r to place h = ap (λ (b : Bool). b || unsure marks place) (not_touched r place h)

-- the request is that of the entry, or of one that is apart
abbrev pub IsOneOf : Pending → List Pending → Type 0
IsOneOf q [] = Unit {0}
IsOneOf q (p ∷ ps) = ((q ≡ p) ⊎ Apart p q) × IsOneOf q ps

-- one that is apart from all
pub one_apart : (q : Pending) (ps : List Pending) → ApartFromAll q ps → IsOneOf q ps
one_apart q [] a = tt
one_apart q (p ∷ ps) a = (inr (record { apart = elim (a.0.apart) [ inl h ↦ inr h | inr h ↦ inl h ] }), one_apart q ps a.1)

-- one that is apart from one of them
apart_from : (p q : Pending) (ps : List Pending) → ApartFromAll p ps → IsAmong q ps → Apart p q
apart_from p q [] a i = absurd i
apart_from p q (x ∷ ps) a (inl e) = subst (Apart p) (sym e) a.0
apart_from p q (x ∷ ps) a (inr i) = apart_from p q ps a.1 i

-- one of those that are apart
pub one_among : (q : Pending) (ps : List Pending) → AllApart ps → IsAmong q ps → IsOneOf q ps
one_among q [] a i = absurd i
one_among q (p ∷ ps) a (inl e) = (inl e, subst (λ (x : Pending). IsOneOf x ps) (sym e) (one_apart p ps a.0))
one_among q (p ∷ ps) a (inr i) = (inr (apart_from p q ps a.0 i), one_among q ps a.1 i)

-- a request of the table is issued: nothing that was moved becomes unsure
wrote_issued : (image : Contents) (marks : List Mark) (q : Pending) (to : Endpoint) (p : Pending)
    → (q ≡ p) ⊎ Apart p q → Wrote image marks p → Wrote image (Issued q.request to ∷ marks) p
wrote_issued image marks q to p o h = record {
  moved = λ k lt.
      let m = h.moved k lt in
      (m.0, unsure_issued marks q.request to (p.start + k) (outside o k lt) ∙ m.1);
  left = h.left;
} where
  outside : (q ≡ p) ⊎ Apart p q → (k : ℕ) → p.start + k < p.request.position
      → (p.start + k < q.request.position) ⊎ (q.request.position + q.request.count ≤ p.start + k)
  outside (inl e) k lt = rw e (inl lt)
  outside (inr a) k lt = elim a.apart [ inl l ↦ inl (omega (arith, l, q.from, p.end)) | inr l ↦ inr (omega (arith, l, q.end)) ]

-- and of each of them
pub all_wrote_issued : (image : Contents) (marks : List Mark) (q : Pending) (to : Endpoint) (ps : List Pending)
    → IsOneOf q ps → AllWrote image marks ps → AllWrote image (Issued q.request to ∷ marks) ps
all_wrote_issued image marks q to [] o h = tt
all_wrote_issued image marks q to (p ∷ ps) o h =
    (λ w. wrote_issued image marks q to p o.0 (h.0 w), all_wrote_issued image marks q to ps o.1 h.1)

-- an answer to a request that is apart
pub all_wrote_answered : (image : Contents) (marks : List Mark) (a : BlockReply) (q : Pending) (n : ℕ) (ps : List Pending)
    → asked_by a marks ≡ Some q.request → moved_by a marks ≡ Some n
    → n ≤ q.request.count
    → ApartFromAll q ps → AllWrote image marks ps → AllWrote image (Answered a ∷ marks) ps
all_wrote_answered image marks a q n [] w m le ap' h = tt
all_wrote_answered image marks a q n (p ∷ ps) w m le ap' h = (
  λ is_w. let old = h.0 is_w in record {
    moved = λ k lt.
        let out : (p.start + k < q.request.position) ⊎ (q.request.position + n ≤ p.start + k) =
        elim (ap'.0.apart) [ inl l ↦ inr (omega (arith, l, q.end)) | inr l ↦ inl (omega (arith, l, p.end, q.from)) ] in
        let s = same_at image marks a q.request n (p.start + k) w m (inr out) in
        let x = old.moved k lt in
        (s.1 ∙ x.0, s.0 ∙ x.1);
    left = old.left;
  },
  all_wrote_answered image marks a q n ps w m le ap'.1 h.1,
)

-- at a place that the answer moved
pub moved_at : (image : Contents) (marks : List Mark) (a : BlockReply) (r : BlockRequest) (n place : ℕ)
    → asked_by a marks ≡ Some r → moved_by a marks ≡ Some n
    → is_write r.kind ≡ true → r.position ≤ place → place < r.position + n
    → (disk_after image (Answered a ∷ marks) place ≡ slice_index r.bytes (place - r.position))
    × (unsure (Answered a ∷ marks) place ≡ false)
moved_at image marks a r n place w m is_w from to =
    let t = within_holds (is_write r.kind) r.position n place is_w from to in (
      rw (m, w) (cond-true (settles (Some r) (Some n) place) (slice_index r.bytes (place - r.position)) (disk_after image marks place) t),
      rw (m, w) (ap (λ (b : Bool). not b && unsure marks place) t),
    )

-- a good answer to the write: what was moved so far and by it is the disk's
pub was_moved : (image : Contents) (marks : List Mark) (a : BlockReply) (q : Pending) (n : ℕ)
    → asked_by a marks ≡ Some q.request → moved_by a marks ≡ Some n
    → n ≤ q.request.count
    → is_write q.request.kind ≡ true
    → Wrote image marks q
    → (k : ℕ) → q.start + k < q.request.position + n
    → (disk_after image (Answered a ∷ marks) (q.start + k) ≡ slice_index q.bytes k) × (unsure (Answered a ∷ marks) (q.start + k) ≡ false)
was_moved image marks a q n w m le is_w old k lt = elim (leb_tells (q.start + k + 1) q.request.position) [
  | inl h ↦
      let s = same_at image marks a q.request n (q.start + k) w m (inr (inl (omega (arith, h.1)))) in
      let x = old.moved k (omega (arith, h.1)) in
      (s.1 ∙ x.0, s.0 ∙ x.1)
  | inr h ↦
      let j = q.start + k - q.request.position in
      let x = moved_at image marks a q.request n (q.start + k) w m is_w (omega (arith, h.1)) lt in
      let at : q.request.position - q.start + j ≡ k = omega (arith, h.1, q.from) in
      (x.0 ∙ old.left j (omega (arith, h.1, le)) ∙ ap (λ (x : ℕ). slice_index q.bytes x) at, x.1)
]

-- so it is of its rest
pub wrote_rest : (image : Contents) (marks : List Mark) (a : BlockReply) (q r : Pending) (n : ℕ)
    → asked_by a marks ≡ Some q.request → moved_by a marks ≡ Some n
    → n ≤ q.request.count
    → is_write q.request.kind ≡ true
    → Wrote image marks q
    → r.start ≡ q.start → r.request.position ≡ q.request.position + n → r.request.count + n ≡ q.request.count
    → ((k : ℕ) → slice_index r.bytes k ≡ slice_index q.bytes k)
    → ((k : ℕ) → k < r.request.count → slice_index r.request.bytes k ≡ slice_index q.request.bytes (n + k))
    → Wrote image (Answered a ∷ marks) r
wrote_rest image marks a q r n w m le is_w old start position count bytes left = record {
  moved = λ k lt. rw start (
      let x = was_moved image marks a q n w m le is_w old k (omega (arith, lt, start, position)) in
      (x.0 ∙ sym (bytes k), x.1)
      );
  left = λ k lt.
      let at : q.request.position - q.start + (n + k) ≡ r.request.position - r.start + k = omega (arith, q.from, start, position) in
      left k lt ∙ old.left (n + k) (omega (arith, count)) ∙ ap (λ (x : ℕ). slice_index q.bytes x) at
      ∙ sym (bytes (r.request.position - r.start + k));
}

-- what isn't a pending write's place stays
pub is_written : (k : Kind) (bytes : List ℕ) → is_write k ≡ true → written_by k bytes ≡ Some bytes
is_written kind.Write bytes e = refl
is_written kind.Read bytes e = cc

-- a quiet place is outside each pending write
quiet_at : (q : Pending) (ps : List Pending) (place : ℕ) → AreDistinct ps → IsAmong q ps → is_write q.request.kind ≡ true
    → IsQuiet (pending_of ps) place → (place < q.start) ⊎ (q.start + q.size ≤ place)
quiet_at q ps place d i w h =
    elim (leb_tells q.start place) [
      | inr l ↦ inl (omega (arith, l.1))
      | inl l ↦ elim (leb_tells (q.start + q.size) place) [
        | inl r ↦ inr r.1
        | inr r ↦ absurd (h.none q.ticket (begun_of q) q.bytes (pending_among q ps d i) (is_written q.request.kind q.bytes w)
            (record { from = l.1; to = omega (arith, r.1) }))
      ]
    ]

-- an issue spares what isn't pending
pub spares_issued : (image : Contents) (marks : List Mark) (q : Pending) (to : Endpoint) (ps : List Pending)
    → AreDistinct ps → IsAmong q ps
    → Spares (pending_of ps) (state_after image marks) (state_after image (Issued q.request to ∷ marks))
spares_issued image marks q to ps d i = record {
  disk = λ p h. refl;
  sure = λ p h s. or_neither (is_write q.request.kind && covers q.request p) (unsure marks p) (stays p h (is_write q.request.kind) refl) s;
} where
  stays : (p : ℕ) → IsQuiet (pending_of ps) p → (b : Bool) → is_write q.request.kind ≡ b → (is_write q.request.kind && covers q.request p) ≡ false
  stays p h true e = not_touched q.request p
      (elim (quiet_at q ps p d i e h) [ inl l ↦ inl (omega (arith, l, q.from)) | inr l ↦ inr (omega (arith, l, q.end)) ])
  stays p h false e = rw e refl

-- an answer spares what isn't pending
pub spares_answered : (image : Contents) (marks : List Mark) (a : BlockReply) (q : Pending) (n : ℕ) (ps : List Pending)
    → asked_by a marks ≡ Some q.request → moved_by a marks ≡ Some n
    → n ≤ q.request.count
    → AreDistinct ps → IsAmong q ps
    → Spares (pending_of ps) (state_after image marks) (state_after image (Answered a ∷ marks))
spares_answered image marks a q n ps w m le d i = record {
  disk = λ p h. (at p h).1;
  sure = λ p h s. (at p h).0 ∙ s;
} where
  out : (p : ℕ) → IsQuiet (pending_of ps) p → (b : Bool) → is_write q.request.kind ≡ b
      → (is_write q.request.kind ≡ false) ⊎ ((p < q.request.position) ⊎ (q.request.position + n ≤ p))
  out p h true e = inr (elim (quiet_at q ps p d i e h) [ inl l ↦ inl (omega (arith, l, q.from)) | inr l ↦ inr (omega (arith, l, le, q.end)) ])
  out p h false e = inl e

  at : (p : ℕ) → IsQuiet (pending_of ps) p
      → (unsure (Answered a ∷ marks) p ≡ unsure marks p) × (disk_after image (Answered a ∷ marks) p ≡ disk_after image marks p)
  at p h = same_at image marks a q.request n p w m (out p h (is_write q.request.kind) refl)

-- an answer that isn't good, or moved nothing, changes nothing
pub spares_same : (pending : ℕ → Option Begun) (image : Contents) (marks more : List Mark)
    → ((p : ℕ) → disk_after image more p ≡ disk_after image marks p) → ((p : ℕ) → unsure more p ≡ unsure marks p)
    → Spares pending (state_after image marks) (state_after image more)
spares_same pending image marks more d u = record { disk = λ p h. d p; sure = λ p h s. u p ∙ s }

-- one after the other
pub spares_then : (pending : ℕ → Option Begun) (u v w : DiskState) → Spares pending u v → Spares pending v w → Spares pending u w
spares_then pending u v w x y = record {
  disk = λ p h. y.disk p h ∙ x.disk p h;
  sure = λ p h s. y.sure p h (x.sure p h s);
}

-- other marks leave what was written
pub wrote_like : (image : Contents) (marks more : List Mark) (ps : List Pending)
    → ((place : ℕ) → unsure more place ≡ unsure marks place)
    → ((place : ℕ) → disk_after image more place ≡ disk_after image marks place)
    → AllWrote image marks ps → AllWrote image more ps
wrote_like image marks more [] u d h = tt
wrote_like image marks more (p ∷ ps) u d h = (
  λ w. let o = h.0 w in record {
    moved = λ k lt. let x = o.moved k lt in (d (p.start + k) ∙ x.0, u (p.start + k) ∙ x.1);
    left = o.left;
  },
  wrote_like image marks more ps u d h.1,
)

-- one more
pub wrote_push : (image : Contents) (marks : List Mark) (q : Pending) (ps : List Pending) → AllWrote image marks ps
    → (is_write q.request.kind ≡ true → Wrote image marks q) → AllWrote image marks (ps ++ q ∷ [])
wrote_push image marks q [] h r = (r, tt)
wrote_push image marks q (p ∷ ps) h r = (h.0, wrote_push image marks q ps h.1 r)

-- and one less
pub wrote_out : (image : Contents) (marks : List Mark) (q : Pending) (xs ys : List Pending) → AllWrote image marks (xs ++ q ∷ ys)
    → AllWrote image marks (xs ++ ys) × (is_write q.request.kind ≡ true → Wrote image marks q)
wrote_out image marks q [] ys h = (h.1, h.0)
wrote_out image marks q (x ∷ xs) ys h = let r = wrote_out image marks q xs ys h.1 in ((h.0, r.0), r.1)
