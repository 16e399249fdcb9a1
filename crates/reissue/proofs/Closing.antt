-- What an answer does to the pending requests as those who began them see them, and to the disk.
use Rattle.std.proofs.Common.{◌≡◌, ℕ, suc, zero, ◌+◌, ◌<◌, ◌≤◌, List, [], ◌∷◌, ◌++◌, length, get_or, Bool, true, false, cond, refl, sym, ◌∙◌, ap, subst, inl, inr, arith, Option, Some, None}
use Rattle.std.specs.Prelude.{◌==◌, slice_index, remove}
use Rattle.message.specs.declared.Kind.{Kind}
use Rattle.message.specs.declared.Kind.TheVariants as kind
use Rattle.message.specs.declared.BlockRequest.{BlockRequest}
use Rattle.message.specs.declared.BlockReply.{BlockReply}
use Rattle.reissue.specs.Settlements as settled
use Rattle.reissue.specs.declared.pending.Pending.{Pending}
use Rattle.reissue.specs.declared.table.Table.{Table}
use Rattle.reissue.proofs.Answering.{Taken, AreDisk}
use Rattle.reissue.proofs.Writes.{AreWritten, spares_same, is_written, was_moved}
use Rattle.reissue.proofs.Tickets.{rising_out, rising_push, pending_among, pending_removed, pending_rest, split_at, among_at, distinct_out, distinct_push, up_to_out, up_to_push}
use Rattle.records.specs.Disk.{Contents, HasTrueReplies}
use Rattle.records.specs.Marks.{Answered, Mark}
use Rattle.records.specs.Open.{asked_by, moved_by}
use Rattle.message.specs.Good.{is_write}
use Rattle.reissue.specs.Agrees.{ApartFromAll, Apart}
use Rattle.reissue.specs.Closing.{Closing, ReadsOn}
use Rattle.reissue.specs.Entries.{AreDistinct, HasNumbers, IsAmong, IsFresh, begun_of, pending_of}
use Rattle.reissue.proofs.Left.{reads_none}
use Rattle.reissue.specs.Moves.{Begun, Closes, Joins, IsQuiet, Spares, Tells, Touches, put, state_after, written_by, WasRead}

-- the entry at a place is one of them
pub among_here : (ps : List Pending) (at : ℕ) (e : Pending) → at < length ps → e ≡ get_or ps at e → IsAmong e ps
among_here ps at e lt is = subst (λ (x : Pending). IsAmong x ps) (sym is) (among_at ps at e lt)

-- the tickets and ids without one
pub tickets_out : (ids : ℕ) (ps : List Pending) (at : ℕ) (e : Pending) → at < length ps → e ≡ get_or ps at e
    → HasNumbers ids ps → HasNumbers ids (remove ps at) × IsFresh e.ticket (remove ps at) × (e.ticket ≤ ids)
tickets_out ids ps at e lt is h =
    let s = split_at ps at e lt is in
    let d = distinct_out e s.front s.back (rw (← s.whole) h.distinct) in
    let u = up_to_out ids e s.front s.back (rw (← s.whole) h.up_to) in
    (record { distinct = rw s.gone d.0; up_to = rw s.gone u.0; rising = rw s.gone (rising_out 0 ids e s.front s.back (rw (← s.whole) h.rising)) }, rw s.gone d.1, u.1)

-- the tickets and ids with one more
pub tickets_push : (ids : ℕ) (ps : List Pending) (q : Pending) → HasNumbers ids ps → IsFresh q.ticket ps → q.ticket ≤ ids + 1 → q.request.id ≡ ids + 1
    → HasNumbers (ids + 1) (ps ++ q ∷ [])
tickets_push ids ps q h f le e = record {
  distinct = distinct_push q ps h.distinct f;
  up_to = up_to_push ids q ps h.up_to le;
  rising = rising_push 0 ids q ps (omega arith) e h.rising;
}

-- without one, its ticket is free
removed_put : (ps : List Pending) (at : ℕ) (e : Pending) → at < length ps → e ≡ get_or ps at e → AreDistinct ps
    → pending_of (remove ps at) ≡ put (pending_of ps) e.ticket None
removed_put ps at e lt is d =
    let s = split_at ps at e lt is in
    ap pending_of s.gone ∙ pending_removed e s.front s.back (rw (← s.whole) d)
    ∙ ap (λ (l : List Pending). put (pending_of l) e.ticket None) (sym s.whole)

-- a read has no bytes to write
not_written : (k : Kind) (bytes : List ℕ) → is_write k ≡ false → written_by k bytes ≡ None
not_written kind.Read bytes e = refl
not_written kind.Write bytes e = cc

-- a write is settled
pub closes_written : (ps us : List Pending) (at t : ℕ) (e : Pending) (ids : ℕ) → at < length ps → e ≡ get_or ps at e → HasNumbers ids ps
    → us ≡ remove ps at → t ≡ e.ticket → is_write e.request.kind ≡ true
    → Closes (settled.Written t) (pending_of ps) (pending_of us)
closes_written ps us at t e ids lt is h items ticket w =
    rw (ticket, items) (
      begun_of e,
      e.bytes,
      pending_among e ps h.distinct (among_here ps at e lt is),
      is_written e.request.kind e.bytes w,
      removed_put ps at e lt is h.distinct,
    )

-- a read is settled
pub closes_read : (ps us : List Pending) (at t : ℕ) (bytes : List ℕ) (e : Pending) (ids : ℕ) → at < length ps → e ≡ get_or ps at e → HasNumbers ids ps
    → us ≡ remove ps at → t ≡ e.ticket → is_write e.request.kind ≡ false
    → Closes (settled.Read t bytes) (pending_of ps) (pending_of us)
closes_read ps us at t bytes e ids lt is h items ticket w =
    rw (ticket, items) (
      begun_of e,
      pending_among e ps h.distinct (among_here ps at e lt is),
      not_written e.request.kind e.bytes w,
      removed_put ps at e lt is h.distinct,
    )

-- a request as it was begun, by its parts
abbrev begun : ℕ → ℕ → Option (List ℕ) → Begun
begun s z w = record { start = s; size = z; written = w }

-- the same bytes to write
same_written : (k : Kind) (b c : List ℕ) → (is_write k ≡ true → b ≡ c) → written_by k b ≡ written_by k c
same_written kind.Read b c h = refl
same_written kind.Write b c h = ap (λ (l : List ℕ). Some l) (h refl)

-- the same request as it was begun
open_same : (e r : Pending) → r.start ≡ e.start → r.size ≡ e.size → r.request.kind ≡ e.request.kind
    → (is_write e.request.kind ≡ true → r.bytes ≡ e.bytes) → begun_of r ≡ begun_of e
open_same e r s z k b =
    ap (λ (x : ℕ). begun x r.size (written_by r.request.kind r.bytes)) s
    ∙ ap (λ (x : ℕ). begun e.start x (written_by r.request.kind r.bytes)) z
    ∙ ap (λ (x : Kind). begun e.start e.size (written_by x r.bytes)) k
    ∙ ap (λ (x : Option (List ℕ)). begun e.start e.size x) (same_written e.request.kind r.bytes e.bytes b)

-- a request goes on with its rest
pub closes_rest : (ps vs us : List Pending) (at : ℕ) (e r : Pending) (ids : ℕ) → at < length ps → e ≡ get_or ps at e → HasNumbers ids ps
    → vs ≡ remove ps at → us ≡ vs ++ r ∷ [] → r.ticket ≡ e.ticket
    → r.start ≡ e.start → r.size ≡ e.size → r.request.kind ≡ e.request.kind
    → (is_write e.request.kind ≡ true → r.bytes ≡ e.bytes)
    → Closes settled.Nothing (pending_of ps) (pending_of us)
closes_rest ps vs us at e r ids lt is h gone items t s z k b =
    let x = split_at ps at e lt is in
    ap pending_of (items ∙ ap (λ (l : List Pending). l ++ r ∷ []) (gone ∙ x.gone))
    ∙ pending_rest e r x.front x.back (rw (← x.whole) h.distinct) t (open_same e r s z k b)
    ∙ ap pending_of (sym x.whole)

-- what a settled request tells
pub tells_read : (ps : List Pending) (e : Pending) (image : Contents) (more : List Mark) (bytes : List ℕ)
    → AreDistinct ps → IsAmong e ps → AreDisk image more e.start e.size bytes
    → Tells (settled.Read e.ticket bytes) (pending_of ps) (state_after image more)
tells_read ps e image more bytes d i h = λ r is.
    let same : begun_of e ≡ r = some_same (sym (pending_among e ps d i) ∙ is) in
    subst (λ (x : Begun). (k : ℕ) → k < x.size → (state_after image more).unsure (x.start + k) ≡ false → slice_index bytes k ≡ (state_after image more).disk (x.start + k)) same h.each
  where
    some_same : {r : Begun} → Some (begun_of e) ≡ Some r → begun_of e ≡ r
    some_same h = cc

-- a settled read has the answers' bytes
pub joins_read : (ps : List Pending) (e : Pending) (more : List Mark) (bytes : List ℕ)
    → AreDistinct ps → IsAmong e ps → ((k : ℕ) → k < e.size → WasRead more (e.start + k) (slice_index bytes k))
    → Joins (settled.Read e.ticket bytes) (pending_of ps) more
joins_read ps e more bytes d i h = λ r is.
    let same : begun_of e ≡ r = some_same (sym (pending_among e ps d i) ∙ is) in
    subst (λ (x : Begun). (k : ℕ) → k < x.size → WasRead more (x.start + k) (slice_index bytes k)) same h
  where
    some_same : {r : Begun} → Some (begun_of e) ≡ Some r → begun_of e ≡ r
    some_same h = cc

-- a settled write is the disk's, and sure
pub tells_written : (ps : List Pending) (e : Pending) (image : Contents) (more : List Mark)
    → AreDistinct ps → IsAmong e ps → is_write e.request.kind ≡ true → AreWritten image more e.start e.size e.bytes
    → Tells (settled.Written e.ticket) (pending_of ps) (state_after image more)
tells_written ps e image more d i w h = λ r bytes is wr k lt.
    let same : begun_of e ≡ r = some_same (sym (pending_among e ps d i) ∙ is) in
    let b : e.bytes ≡ bytes = some_bytes (sym (is_written e.request.kind e.bytes w) ∙ ap (λ (x : Begun). x.written) same ∙ wr) in
    let s : e.start ≡ r.start = ap (λ (x : Begun). x.start) same in
    let z : e.size ≡ r.size = ap (λ (x : Begun). x.size) same in
    let x = h.each k (omega (arith, lt, z)) in
    rw (← s, ← b) x
  where
    some_same : {r : Begun} → Some (begun_of e) ≡ Some r → begun_of e ≡ r
    some_same h = cc

    some_bytes : {b : List ℕ} → Some e.bytes ≡ Some b → e.bytes ≡ b
    some_bytes h = cc

-- a place of an entry that is apart from all pending ones
pub quiet_apart : (e : Pending) (ps : List Pending) (place : ℕ) → ApartFromAll e ps → e.start ≤ place → place < e.start + e.size
    → IsQuiet (pending_of ps) place
quiet_apart e ps place a from to = record { none = λ t r bytes is w touch. none ps a t r is touch } where
  here : (q : Pending) (r : Begun) → Apart e q → begun_of q ≡ r → Touches r place → ⊥
  here q r a is touch =
      let s : q.start ≡ r.start = ap (λ (x : Begun). x.start) is in
      let z : q.size ≡ r.size = ap (λ (x : Begun). x.size) is in
      elim a.apart [ inl l ↦ omega (arith, l, s, z, touch.from, touch.to, from, to) | inr l ↦ omega (arith, l, s, z, touch.from, touch.to, from, to) ]

  by : (q : Pending) (rest : Option Begun) (r : Begun) (b : Bool) → Apart e q → cond b (Some (begun_of q)) rest ≡ Some r
      → (rest ≡ Some r → ⊥) → Touches r place → ⊥
  by q rest r true a is more touch = let same : begun_of q ≡ r = cc in here q r a same touch
  by q rest r false a is more touch = more is

  none : (ps : List Pending) → ApartFromAll e ps → (t : ℕ) (r : Begun) → pending_of ps t ≡ Some r → Touches r place → ⊥
  none [] a t r is touch = cc
  none (q ∷ qs) a t r is touch = by q (pending_of qs t) r (q.ticket == t) a.0 is (λ m. none qs a.1 t r m touch) touch

-- nothing is settled
pub closing_nothing : (ps us : List Pending) (marks more : List Mark)
    → ((image : Contents) → Spares (pending_of ps) (state_after image marks) (state_after image more))
    → ReadsOn ps us marks more → Closing settled.Nothing ps us marks more
closing_nothing ps us marks more s on = record { moves = λ image tr. record { spares = s image; tells = tt }; joins = tt; leaves = tt; reads = on }

-- a read is settled
pub closing_read : (ps us : List Pending) (marks more : List Mark) (e : Pending) (t : ℕ) (bytes : List ℕ)
    → AreDistinct ps → IsAmong e ps → t ≡ e.ticket
    → ((image : Contents) → Spares (pending_of ps) (state_after image marks) (state_after image more))
    → ((image : Contents) → HasTrueReplies image more → AreDisk image more e.start e.size bytes)
    → ((k : ℕ) → k < e.size → WasRead more (e.start + k) (slice_index bytes k))
    → ReadsOn ps us marks more → Closing (settled.Read t bytes) ps us marks more
closing_read ps us marks more e t bytes d i ticket s h j on = rw ticket (record {
  moves = λ image tr. record { spares = s image; tells = tells_read ps e image more bytes d i (h image tr) };
  joins = joins_read ps e more bytes d i j;
  leaves = tt;
  reads = on;
})

-- a write is settled
pub closing_written : (ps us : List Pending) (marks more : List Mark) (e : Pending) (t : ℕ)
    → AreDistinct ps → IsAmong e ps → t ≡ e.ticket → is_write e.request.kind ≡ true
    → ((image : Contents) → Spares (pending_of ps) (state_after image marks) (state_after image more))
    → ((image : Contents) → AreWritten image more e.start e.size e.bytes)
    → ApartFromAll e us → ReadsOn ps us marks more
    → Closing (settled.Written t) ps us marks more
closing_written ps us marks more e t d i ticket w s h a on = rw ticket (record {
  moves = λ image tr. record { spares = s image; tells = tells_written ps e image more d i w (h image) };
  joins = tt;
  leaves = λ r is place touch.
      let same : begun_of e ≡ r = some_same (sym (pending_among e ps d i) ∙ is) in
      let s : e.start ≡ r.start = ap (λ (x : Begun). x.start) same in
      let z : e.size ≡ r.size = ap (λ (x : Begun). x.size) same in
      quiet_apart e us place a (omega (arith, s, touch.from)) (omega (arith, s, z, touch.to));
  reads = on;
}) where
  some_same : {r : Begun} → Some (begun_of e) ≡ Some r → begun_of e ≡ r
  some_same h = cc

-- the entry at a place, whatever stands in for none
got_same : (ps : List Pending) (at : ℕ) (d e : Pending) → at < length ps → get_or ps at d ≡ get_or ps at e
got_same [] at d e lt = absurd (omega arith)
got_same (p ∷ ps) zero d e lt = refl
got_same (p ∷ ps) (suc at) d e lt = got_same ps at d e (omega arith)

-- without the one at a place
tickets_gone' : (ids : ℕ) (ps : List Pending) (at : ℕ) → at < length ps → HasNumbers ids ps → (d : Pending) → HasNumbers ids (remove ps at)
tickets_gone' ids ps at lt h d = (tickets_out ids ps at (get_or ps at d) lt (got_same ps at d (get_or ps at d) lt) h).0

-- the tickets and ids without the one at a place
pub tickets_gone : (ids : ℕ) (ps : List Pending) (at : ℕ) → at < length ps → HasNumbers ids ps → HasNumbers ids (remove ps at)
tickets_gone ids [] at lt h = absurd (omega arith)
tickets_gone ids (p ∷ ps) at lt h = tickets_gone' ids (p ∷ ps) at lt h p

-- an answer that isn't good
pub closing_bad : (ps : List Pending) (marks : List Mark) (a : BlockReply) (r : BlockRequest)
    → asked_by a marks ≡ Some r → moved_by a marks ≡ None
    → Closing settled.Nothing ps ps marks (Answered a ∷ marks)
closing_bad ps marks a r w m = closing_nothing ps ps marks (Answered a ∷ marks)
    (λ image. spares_same (pending_of ps) image marks (Answered a ∷ marks) (λ _. rw (m, w) refl) (λ _. rw (m, w) refl))
    (reads_none ps ps marks (Answered a ∷ marks) refl (λ _. rw (m, w) refl) (λ _. rw (m, w) refl))

-- a reply that is dropped
pub closing_dropped : (ps : List Pending) (marks : List Mark) → Closing settled.Nothing ps ps marks marks
closing_dropped ps marks = closing_nothing ps ps marks marks (λ image. spares_same (pending_of ps) image marks marks (λ _. refl) (λ _. refl))
    (reads_none ps ps marks marks refl (λ _. refl) (λ _. refl))

-- a write of which nothing is left is written
pub done_writes : (t v : Table) (marks : List Mark) (image : Contents) (a : BlockReply) (e : Pending) (n : ℕ)
    → Taken t v marks a e n → moved_by a marks ≡ Some n
    → is_write e.request.kind ≡ true → n ≡ e.request.count
    → AreWritten image (Answered a ∷ marks) e.start e.size e.bytes
done_writes t v marks image a e n x m w all = record {
  each = λ k lt. was_moved image marks a e n x.there m x.within w (x.writes image w) k (omega (arith, lt, all, e.end));
}
