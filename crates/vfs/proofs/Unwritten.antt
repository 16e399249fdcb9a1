-- Which blocks of a server over a cache are unwritten.
use Rattle.std.proofs.Common.{◌≡◌, ℕ, ◌+◌, ◌*◌, ◌<◌, ◌≤◌, List, [], ◌∷◌, ◌++◌, length, refl, sym, ap, subst, ◌∙◌, arith, Bool, true, false, Option, Some, None}
use mathlib.Core.Logic.{inl, inr}
use Rattle.std.specs.Prelude.{◌||◌, ◌==◌, IsSome, map, drop, take, nat_lt, slice_index}
use Rattle.std.specs.List.{list_any}
use Rattle.std.proofs.Math.Seq.{drop-append_seam}
use Rattle.std.proofs.Math.Nat.{le_trans, min-le_left}
use Rattle.std.proofs.lemmas.Bool.{cases_lt, cond-true, cond-false, lt-ltb, le-ltb}
use Rattle.std.proofs.lemmas.List.{get_or-take, get_or_past, length-take, map-append}
use Rattle.lemmas.proofs.Bools.{from_clash}
use Rattle.layout.specs.declared.Geometry.{Geometry}
use Rattle.message.specs.declared.BlockRequest.{BlockRequest}
use Rattle.message.specs.declared.Kind.{Kind}
use Rattle.message.specs.declared.Kind.TheVariants.{Read, Write}
use Rattle.message.specs.Good.{is_write}
use Rattle.volume.specs.Reading.{blocks_of}
use Rattle.records.specs.Marks.{Mark}
use Rattle.records.specs.Disk.{Contents, HasTrueReplies, disk_after}
use Rattle.records.specs.View.{frame_or, server_view}
use Rattle.records.specs.Flushes.{WritesFrames, pending_requests, may_have, may_write}
use Rattle.records.specs.ServerCall.{KnowsFrames}
use Rattle.reissue.specs.declared.pending.Pending.{Pending}
use Rattle.reissue.specs.declared.table.Table.{Table}
use Rattle.reissue.specs.Agrees.{Agrees}
use Rattle.reissue.specs.Entries.{begun_of, pending_of, request_of}
use Rattle.reissue.specs.Moves.{Begun, state_after, written_by}
use Rattle.reissue.specs.Rules.{outbox_of}
use Rattle.cache.specs.declared.slot.Slot.{Slot}
use Rattle.cache.specs.declared.state.State.{State}
use Rattle.cache.specs.declared.state.State.TheVariants.{Clean, Dirty, Writing, Changed}
use Rattle.cache.specs.Slots.{is_changed, is_changed_held, is_dirty, is_dirty_held, ticket_of}
use Rattle.cache.specs.Frames.{CacheAgrees, Tied, frame_of, frames_of}
use Rattle.cache.specs.Calls.{AbstractCache}
use Rattle.descriptors.specs.Files.{Files}
use Rattle.vfs.proofs.Framed.{frame_state, writes_frames}

-- the requests that are pending, as the record has them
pub pending_is : (t : Table) (marks : List Mark) → Agrees t marks → pending_requests marks (outbox_of t) ≡ map request_of t.pending
pending_is t marks k =
    let h = k.holds in
    let waiting : drop t.issued t.pending ≡ k.waiting = rw (h.issued, h.items) (drop-append_seam k.opened k.waiting) in
    sym (ap (map request_of) h.items ∙ map-append request_of k.opened k.waiting
    ∙ ap (λ (l : List BlockRequest). l ++ map request_of k.waiting) h.requests
    ∙ ap (λ (l : List Pending). pending_requests_by marks (map request_of l)) (sym waiting))
  where
    pending_requests_by : List Mark → List BlockRequest → List BlockRequest
    pending_requests_by marks l = pending_requests marks (record (outbox_of t) { never_issued = l })

-- a kind that has bytes writes
pub write_of : (k : Kind) (xs bytes : List ℕ) → written_by k xs ≡ Some bytes → is_write k ≡ true
write_of Read xs bytes e = cc
write_of Write xs bytes e = refl

-- a request that was begun for a range that has a byte of a block may have it
pub may_have_of : (size block : ℕ) (p : Pending) → block * size < p.start + p.size → p.start < block * size + size → may_have size block p.request ≡ true
may_have_of size block p lower upper =
    let end = p.end in
    let small = p.small in
    let f = lt-ltb (block * size) (p.request.position + p.request.count) (omega (arith, end, lower)) in
    let g = lt-ltb (p.request.position + p.request.count) (block * size + size + 4096) (omega (arith, end, small, upper)) in
    rw (f, g) refl

-- one of these is a write that may have the block
covers : (size block : ℕ) (ps : List Pending) (t : ℕ) (r : Begun) (bytes : List ℕ) → 0 < size → pending_of ps t ≡ Some r → r.written ≡ Some bytes
    → r.start ≤ block * size → block * size + size ≤ r.start + r.size → list_any (may_write size block) (map request_of ps) ≡ true
covers size block [] t r bytes some is written from to = cc
covers size block (p ∷ ps) t r bytes some is written from to =
    by (p.ticket == t) refl (λ rest. covers size block ps t r bytes some rest written from to)
  where
    here : begun_of p ≡ r → may_write size block p.request ≡ true
    here e =
        let start : p.start ≡ r.start = ap (λ (b : Begun). b.start) e in
        let whole : p.size ≡ r.size = ap (λ (b : Begun). b.size) e in
        let f = write_of p.request.kind p.bytes bytes (ap (λ (b : Begun). b.written) e ∙ written) in
        let g = may_have_of size block p (omega (arith, start, whole, some, to)) (omega (arith, start, some, from)) in
        rw (f, g) refl

    either : (x y : Bool) → y ≡ true → (x || y) ≡ true
    either true y e = refl
    either false y e = e

    by : (b : Bool) → (p.ticket == t) ≡ b → (pending_of ps t ≡ Some r → list_any (may_write size block) (map request_of ps) ≡ true)
        → list_any (may_write size block) (map request_of (p ∷ ps)) ≡ true
    by true e later =
        let one : Some (begun_of p) ≡ Some r = sym (cond-true (p.ticket == t) (Some (begun_of p)) (pending_of ps t) e) ∙ is in
        let same : begun_of p ≡ r = cc in
        rw (here same) refl
    by false e later =
        let rest : pending_of ps t ≡ Some r = sym (cond-false (p.ticket == t) (Some (begun_of p)) (pending_of ps t) e) ∙ is in
        either (may_write size block p.request) (list_any (may_write size block) (map request_of ps)) (later rest)

-- which they are
pub knows : (g : Geometry) (c : AbstractCache) (n : ℕ) (w : Bool) (f : Files) → 0 < g.block_size → c.size ≡ g.block_size
    → Tied c.size c.held (pending_of c.table.pending) → (image : Contents) (marks : List Mark) → Agrees c.table marks
    → (HasTrueReplies image marks → CacheAgrees c.size c.held (state_after image marks)) → KnowsFrames g (frame_state c) (outbox_of c.table) image marks
knows g c n w f some sized tied image marks k slots = record {
  framed = λ block is. framed (c.held block) is;
  others = λ tr block written none. by tr block none (c.held block) refl written;
  pending = subst (λ (size : ℕ). WritesFrames size (frame_state c) (pending_requests marks (outbox_of c.table))) sized
      (subst (λ (rs : List BlockRequest). WritesFrames c.size (frame_state c) rs) (sym (pending_is c.table marks k))
      (writes_frames c (rw sized some) tied marks k));
  under_way = λ block is. overtaken block (c.held block) refl is;
}
  where
    framed : (o : Option Slot) → is_dirty_held o ≡ true → IsSome (frame_of c.size o)
    framed None e = from_clash (sym e)
    framed (Some s) e = refl

    disk : ℕ → ℕ → ℕ
    disk = blocks_of g (disk_after image marks)

    -- a clean slot has the disk's bytes
    clean : HasTrueReplies image marks → (block : ℕ) (s : Slot) → c.held block ≡ Some s → s.state ≡ Clean
        → frame_or (Some (take c.size s.bytes.value)) (disk block) ≡ disk block
    clean tr block s is state = λ i o. at o i
      where
        short : (o : ℕ) → c.size ≤ o → length (take c.size s.bytes.value) ≤ o
        short o high = rw (length-take c.size s.bytes.value) (le_trans (min-le_left c.size (length s.bytes.value)) high)

        at : (o : ℕ) → slice_index (take c.size s.bytes.value) o ≡ disk block o
        at o = elim (cases_lt o c.size) [
          | inl low ↦
              let there : nat_lt o g.block_size ≡ true = lt-ltb o g.block_size (rw (sym sized) low) in
              let place : block * c.size + o ≡ block * g.block_size + o = ap (λ m. block * m + o) sized in
              get_or-take c.size s.bytes.value o 0 low ∙ ((slots tr).clean block s is state o low).byte_is ∙ ap (disk_after image marks) place
              ∙ sym (cond-true (nat_lt o g.block_size) (disk_after image marks (block * g.block_size + o)) 0 there)
          | inr high ↦
              let past : nat_lt o g.block_size ≡ false = le-ltb o g.block_size (rw (sym sized) high) in
              get_or_past (take c.size s.bytes.value) o 0 (short o high)
              ∙ sym (cond-false (nat_lt o g.block_size) (disk_after image marks (block * g.block_size + o)) 0 past)
        ]

    -- one whose write is under way has a pending write
    under : (block t : ℕ) (s : Slot) → c.held block ≡ Some s → ticket_of s.state ≡ Some t
        → list_any (may_write g.block_size block) (pending_requests marks (outbox_of c.table)) ≡ true
    under block t s is ticket =
        let x = tied.issued block t s is ticket in
        let some' : 0 < c.size = rw sized some in
        let y : list_any (may_write c.size block) (map request_of c.table.pending) ≡ true =
        covers c.size block c.table.pending t x.request x.bytes some' x.is x.write x.from x.to in
        ap (λ (l : List BlockRequest). list_any (may_write g.block_size block) l) (pending_is c.table marks k)
        ∙ ap (λ m. list_any (may_write m block) (map request_of c.table.pending)) (sym sized) ∙ y

    -- so has each that is overtaken
    overtaken : (block : ℕ) (o : Option Slot) → c.held block ≡ o → is_changed_held (c.held block) ≡ true
        → list_any (may_write g.block_size block) (pending_requests marks (outbox_of c.table)) ≡ true
    overtaken block None e is = from_clash (sym is ∙ ap is_changed_held e)
    overtaken block (Some s) e is = state s.state refl
      where
        here : is_changed s.state ≡ true
        here = sym (ap is_changed_held e) ∙ is

        state : (x : State) → s.state ≡ x → list_any (may_write g.block_size block) (pending_requests marks (outbox_of c.table)) ≡ true
        state Clean at = from_clash (sym here ∙ ap is_changed at)
        state Dirty at = from_clash (sym here ∙ ap is_changed at)
        state (Writing t) at = from_clash (sym here ∙ ap is_changed at)
        state (Changed t) at = under block t s e (ap ticket_of at)

    by : HasTrueReplies image marks → (block : ℕ) → list_any (may_write g.block_size block) (pending_requests marks (outbox_of c.table)) ≡ false
        → (o : Option Slot) → c.held block ≡ o → is_dirty_held (c.held block) ≡ false
        → server_view g (frames_of c.size c.held) image marks block ≡ disk block
    by tr block none None e clear = ap (λ (o : Option Slot). frame_or (frame_of c.size o) (disk block)) e
    by tr block none (Some s) e clear = ap (λ (o : Option Slot). frame_or (frame_of c.size o) (disk block)) e ∙ state s.state refl
      where
        state : (x : State) → s.state ≡ x → frame_or (Some (take c.size s.bytes.value)) (disk block) ≡ disk block
        state Clean is = clean tr block s e is
        state Dirty is = from_clash (sym (ap is_dirty_held e ∙ ap is_dirty is) ∙ clear)
        state (Writing t) is = from_clash (sym (under block t s e (ap ticket_of is)) ∙ none)
        state (Changed t) is = from_clash (sym (under block t s e (ap ticket_of is)) ∙ none)
