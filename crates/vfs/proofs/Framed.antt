-- That pending writes have the bytes of the frames of their blocks, and that a Flush keeps these.
use Rattle.std.proofs.Common.{◌≡◌, ℕ, ◌+◌, ◌-◌, ◌*◌, ◌<◌, ◌≤◌, List, [], ◌∷◌, refl, sym, ap, subst, ◌∙◌, arith, true, false, Option, Some}
use mathlib.Core.Logic.{inl, inr}
use Rattle.std.specs.Prelude.{map, take, slice_index, sum}
use Rattle.std.proofs.Math.Nat.{add-mul}
use Rattle.std.proofs.lemmas.List.{get_or-take}
use Rattle.lemmas.proofs.Bools.{from_clash}
use Rattle.message.specs.declared.BlockRequest.{BlockRequest}
use Rattle.message.specs.declared.Kind.{Kind}
use Rattle.message.specs.declared.Kind.TheVariants.{Read, Write}
use Rattle.message.specs.Good.{is_write}
use Rattle.records.specs.Marks.{Mark}
use Rattle.records.specs.Disk.{Contents}
use Rattle.records.specs.Flushes.{FrameState, HasByte, HasFrames, WritesFrames}
use Rattle.reissue.specs.declared.pending.Pending.{Pending}
use Rattle.reissue.specs.Agrees.{Agrees, AllWrote, Wrote}
use Rattle.reissue.specs.Entries.{IsAmong, begun_of, pending_of, request_of}
use Rattle.reissue.specs.Moves.{written_by}
use Rattle.reissue.proofs.Tickets.{pending_among}
use Rattle.cache.specs.declared.slot.Slot.{Slot}
use Rattle.cache.specs.Slots.{is_changed, is_changed_held, is_dirty_held}
use Rattle.cache.specs.Frames.{Tied, frame_of, frames_of}
use Rattle.cache.specs.Runs.{IssuesRun}
use Rattle.cache.specs.Calls.{AbstractCache}
use Rattle.cache.proofs.Tied.{within_or, in_run}
use Rattle.flusher.specs.Flushing.{WritesRuns}

-- ---- pending writes

-- what a write has
pub bytes_of : (k : Kind) (xs : List ℕ) → is_write k ≡ true → written_by k xs ≡ Some xs
bytes_of Read xs e = cc
bytes_of Write xs e = refl

-- the frames of a cache
abbrev pub frame_state : AbstractCache → FrameState
frame_state c = record {
  frames = frames_of c.size c.held;
  unwritten = λ block. is_dirty_held (c.held block);
  overtaken = λ block. is_changed_held (c.held block);
}

-- of each write among these, what is asked for is the rest of what was begun
wrote_among : (image : Contents) (marks : List Mark) (q : Pending) (ps : List Pending) → AllWrote image marks ps → IsAmong q ps
    → is_write q.request.kind ≡ true → Wrote image marks q
wrote_among image marks q [] wrote among write = absurd among
wrote_among image marks q (p ∷ ps) wrote (inl same) write =
    subst (λ (x : Pending). Wrote image marks x) (sym same) (wrote.0 (ap (λ (x : Pending). is_write x.request.kind) (sym same) ∙ write))
wrote_among image marks q (p ∷ ps) wrote (inr among) write = wrote_among image marks q ps wrote.1 among write

-- where a byte of a run's block lies in what was begun
in_begun : (first index size start position block place k : ℕ) → start ≡ first * size → start ≤ position → block ≡ first + index
    → block * size + place ≡ position + k → index * size + place ≡ position - start + k
in_begun first index size start position block place k from le is at =
    let whole : block * size ≡ first * size + index * size = ap (λ b. b * size) is ∙ add-mul first index size in
    omega (arith, whole, from, le, at)

-- a pending write has the bytes of its blocks' frames
has_frames : (c : AbstractCache) → 0 < c.size → Tied c.size c.held (pending_of c.table.pending) → (marks : List Mark) → Agrees c.table marks
    → (p : Pending) → IsAmong p c.table.pending → is_write p.request.kind ≡ true
    → HasFrames c.size (frame_state c) p.request
has_frames c some tied marks agrees p among write = record { each = each }
  where
    none : Contents
    none place = 0

    wrote : Wrote none marks p
    wrote = wrote_among none marks p c.table.pending
        (subst (λ (ps : List Pending). AllWrote none marks ps) (sym agrees.holds.items) (agrees.holds.writes none)) among write

    each : (block place k : ℕ) → place < c.size → k < p.request.count → block * c.size + place ≡ p.request.position + k
        → is_changed_held (c.held block) ≡ false → HasByte (frames_of c.size c.held) block place (slice_index p.request.bytes k)
    each block place k low lt at clear =
        let run = tied.writes p.ticket (begun_of p) p.bytes (pending_among p c.table.pending c.table.numbers.distinct among)
        (bytes_of p.request.kind p.bytes write) in
        let start = run.start in
        let whole = run.whole in
        let from = p.from in
        let end = p.end in
        let here = in_run block run.block run.count place c.size low (omega (arith, start, from, at)) (omega (arith, start, whole, end, at, lt)) in
        let y = run.each here.index here.below in
        let there : c.held block ≡ Some y.slot = ap c.held here.is ∙ y.holds in
        let seam : here.index * c.size + place ≡ p.request.position - p.start + k =
        in_begun run.block here.index c.size p.start p.request.position block place k start from here.is at in
        elim y.way.state [
          | inl changed ↦
              let e : is_changed_held (c.held block) ≡ true = ap is_changed_held there ∙ ap is_changed changed in
              from_clash (sym e ∙ clear)
          | inr writing ↦ record {
            bytes = take c.size y.slot.bytes.value;
            is = ap (frame_of c.size) there;
            there = get_or-take c.size y.slot.bytes.value place 0 low ∙ writing.1 place low ∙ ap (slice_index p.bytes) seam ∙ sym (wrote.left k lt);
          }
        ]

-- so have all
those : (c : AbstractCache) → 0 < c.size → Tied c.size c.held (pending_of c.table.pending) → (marks : List Mark) → Agrees c.table marks
    → (ps : List Pending) → ((p : Pending) → IsAmong p ps → IsAmong p c.table.pending)
    → WritesFrames c.size (frame_state c) (map request_of ps)
those c some tied marks agrees [] among = tt
those c some tied marks agrees (p ∷ ps) among =
    (has_frames c some tied marks agrees p (among p (inl refl)), those c some tied marks agrees ps (λ q h. among q (inr h)))

pub writes_frames : (c : AbstractCache) → 0 < c.size → Tied c.size c.held (pending_of c.table.pending) → (marks : List Mark) → Agrees c.table marks
    → WritesFrames c.size (frame_state c) (map request_of c.table.pending)
writes_frames c some tied marks agrees = those c some tied marks agrees c.table.pending (λ p h. h)

-- ---- what a Flush keeps

-- the frame of each block has its bytes still
run_keeps : (most size n : ℕ) (old new : ℕ → Option Slot) (ps qs : List BlockRequest) → IssuesRun most size n old new ps qs
    → (length b : ℕ) → frame_of length (new b) ≡ frame_of length (old b)
run_keeps most size n old new ps qs x length b = elim (within_or x.block n b) [
  | inl here ↦
      let y = x.run.begun.each here.index here.below in
      ap (λ k. frame_of length (new k)) here.is ∙ ap (frame_of length) y.after ∙ sym (ap (λ k. frame_of length (old k)) here.is ∙ ap (frame_of length) y.is)
  | inr out ↦ ap (frame_of length) (x.run.begun.others b out)
]

pub flush_keeps : (counts : List ℕ) (most size : ℕ) (old new : ℕ → Option Slot) (ps qs : List BlockRequest) → WritesRuns counts most size old new ps qs
    → (length b : ℕ) → frame_of length (new b) ≡ frame_of length (old b)
flush_keeps [] most size old new ps qs x length b = ap (λ (f : ℕ → Option Slot). frame_of length (f b)) x.0
flush_keeps (n ∷ counts) most size old new ps qs x length b =
    run_keeps (most - sum counts) size n x.0 new x.1 qs x.3 length b ∙ flush_keeps counts most size old x.0 ps x.1 x.2 length b
