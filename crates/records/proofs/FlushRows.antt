-- What a Flush makes pending, by three unwritten blocks of 1024 bytes, 5, 6 and 9; a dup that flushes, a look that loses a frame or
-- overtakes one, and a pending write beside its frame.
use Rattle.std.specs.Prelude.{◌≡◌, ℕ, ◌+◌, ◌*◌, ◌<◌, List, [], ◌∷◌, ◌++◌, sum, Bool, true, false, ◌&&◌, ◌||◌, ◌==◌, if◌then◌else◌, ◌≤◌, Option, Some, None, replicate, slice_index, refl}
use Rattle.std.proofs.Common.{arith, sym, ap, subst, ◌∙◌, inl, inr}
use Rattle.std.proofs.lemmas.List.{get_or-replicate}
use Rattle.std.proofs.lemmas.Bool.{cases_lt}
use Rattle.std.proofs.lemmas.Bool.Decides.{nat_tests}
use Rattle.message.specs.Good.{is_write}
use Rattle.message.specs.declared.Kind.{Kind}
use Rattle.message.specs.declared.Kind.TheVariants.{Read, Write}
use Rattle.message.specs.declared.BlockRequest.{BlockRequest}
use Rattle.tree.specs.declared.Who.{Who}
use Rattle.tree.specs.declared.Call.TheVariants.{Dup, Statfs}
use Rattle.tree.specs.Tree.{Tree}
use Rattle.message.specs.declared.Incoming.{Incoming}
use Rattle.records.specs.Marks.{Mark}
use Rattle.records.specs.Disk.{Contents, HasTrueReplies}
use Rattle.records.specs.Acts.{Began, empty_outbox, marks_after}
use Rattle.records.specs.Flushes.{Flushes, FrameState, HasByte, WritesFrames, WritesLowest, WritesRun, without_run}
use Rattle.records.specs.ServerCall.{Serving, Serves, Outcome, CallKeeps, AbsorbKeeps, KnowsFrames, LeavesView, state_of}
use Rattle.records.proofs.LegalRows.{small, zeros}

-- the unwritten blocks
abbrev three : ℕ → Bool
three b = (b == 5) || (b == 6) || (b == 9)

-- without the two neighbours, and without any
abbrev one_left : ℕ → Bool
one_left = without_run 5 2 three

abbrev none_left : ℕ → Bool
none_left = without_run 9 1 one_left

-- a request for so many blocks
abbrev request : Kind → ℕ → ℕ → BlockRequest
request kind block count = record { id = 1; kind = kind; minor = 0; position = block * 1024; count = count * 1024; bytes = replicate 4096 0 }

none_is_left : (b : ℕ) → none_left b ≡ false
none_is_left b = grind (arith, nat_tests)

below_five : (b : ℕ) → b < 5 → three b ≡ false
below_five b lt = grind (arith, nat_tests, lt)

below_nine : (b : ℕ) → b < 9 → one_left b ≡ false
below_nine b lt = grind (arith, nat_tests, lt)

of_two : (i : ℕ) → i < 2 → three (5 + i) ≡ true
of_two i lt = grind (arith, nat_tests, lt)

of_one : (i : ℕ) → i < 1 → one_left (9 + i) ≡ true
of_one i lt = grind (arith, nat_tests, lt)

-- right: the neighbours by one request, then the other block
two_requests : Flushes 1024 true three none_left [] (request Write 5 2 ∷ request Write 9 1 ∷ [])
two_requests = record {
  counts = 1 ∷ 2 ∷ [];
  writes = (
    one_left,
    request Write 5 2 ∷ [],
    (
      three,
      [],
      (refl, refl),
      record {
        request = request Write 5 2;
        block = 5;
        added = refl;
        write = refl;
        position = refl;
        bytes = refl;
        some = omega arith;
        lowest = below_five;
        unwritten = of_two;
        few = omega arith;
        end = inr refl;
        left = refl;
      },
    ),
    record {
      request = request Write 9 1;
      block = 9;
      added = refl;
      write = refl;
      position = refl;
      bytes = refl;
      some = omega arith;
      lowest = below_nine;
      unwritten = of_one;
      few = omega arith;
      end = inr refl;
      left = refl;
    },
  );
  all = λ live. inr (inl none_is_left);
}

-- a run behind a list is no empty list
no_end : (rs : List BlockRequest) (r : BlockRequest) → [] ≡ rs ++ r ∷ [] → ⊥
no_end [] r e = cc
no_end (x ∷ rs) r e = cc

-- refused: a Flush that is ignored
ignored : Flushes 1024 true three three [] [] → ⊥
ignored f = elim (f.all refl) [
  | inl all ↦ begun f.counts f.writes all
  | inr (inl none) ↦ clash (none 5)
  | inr (inr (inl full)) ↦ absurd (omega (arith, full))
  | inr (inr (inr read)) ↦ clash (sym read.2)
]
  where
    clash : true ≡ false → ⊥
    clash e = cc

    begun : (counts : List ℕ) → WritesLowest counts 16 1024 three three [] [] → sum counts ≡ 16 → ⊥
    begun [] w all = absurd (omega (arith, all))
    begun (n ∷ counts) w all = no_end w.1 w.3.request w.3.added

-- the run of the lowest unwritten block begins at block 5
begins_at_five : (n : ℕ) (new : ℕ → Bool) (pending pending' : List BlockRequest) (w : WritesRun 16 1024 n three new pending pending') → w.block ≡ 5
begins_at_five n new pending pending' w = by (three_are (w.block + 0) (w.unwritten 0 w.some))
  where
    high : 5 < w.block → ⊥
    high lt = let e : true ≡ false = w.lowest 5 lt in cc

    three_are : (b : ℕ) → three b ≡ true → 5 ≤ b
    three_are b is = elim (cases_lt b 5) [
      | inl lt ↦ absurd (let e : true ≡ false = sym is ∙ below_five b lt in cc)
      | inr le ↦ le
    ]

    by : 5 ≤ w.block + 0 → w.block ≡ 5
    by le = elim (cases_lt 5 w.block) [
      | inl lt ↦ absurd (high lt)
      | inr least ↦ omega (arith, le, least)
    ]

-- refused: block 5 alone, though 6 is unwritten too; so also the two by two requests
one_alone : (new : ℕ → Bool) (pending pending' : List BlockRequest) → WritesRun 16 1024 1 three new pending pending' → ⊥
one_alone new pending pending' w = elim w.end [
  | inl whole ↦ absurd (omega (arith, whole))
  | inr over ↦
      let e : three 6 ≡ false = ap (λ b. three (b + 1)) (sym (begins_at_five 1 new pending pending' w)) ∙ over in
      let f : true ≡ false = e in
      cc
]

-- refused: the highest block first
highest : (n : ℕ) (new : ℕ → Bool) (pending pending' : List BlockRequest) (w : WritesRun 16 1024 n three new pending pending') → w.block ≡ 9 → ⊥
highest n new pending pending' w is = let e = begins_at_five n new pending pending' w in absurd (omega (arith, e, is))

-- refused: a read in its place
reading : (n : ℕ) (new : ℕ → Bool) (pending pending' : List BlockRequest) (w : WritesRun 16 1024 n three new pending pending')
    → w.request ≡ request Read 5 2 → ⊥
reading n new pending pending' w is = let e : true ≡ false = sym w.write ∙ ap (λ (r : BlockRequest). is_write r.kind) is in cc

-- refused: a dup that begins a write
flushing_dup : (old new : Serving) (who : Who) (now fd : ℕ) (outcome : Outcome) (keeps : CallKeeps old who now (Dup fd) outcome new)
    → old.wanted ≡ false → keeps.acts ≡ Began (request Write 5 2) ∷ [] → ⊥
flushing_dup old new who now fd outcome keeps unwanted is =
    let e : [] ≡ Began (request Write 5 2) ∷ [] = sym (keeps.still fd refl unwanted) ∙ is in cc

-- refused: a statfs that overtakes a block, over true replies
overtaking_look : (old new : Serving) (who : Who) (now block : ℕ) (outcome : Outcome) (keeps : CallKeeps old who now Statfs outcome new)
    (image : Contents) (tree : Tree) (marks : List Mark) → Serves old image tree marks → HasTrueReplies image (marks_after keeps.acts marks)
    → old.overtaken block ≡ false → new.overtaken block ≡ true → ⊥
overtaking_look old new who now block outcome keeps image tree marks serves replies was is =
    let e : true ≡ false = sym ((keeps.looked image tree marks serves replies refl).none_overtaken block is) ∙ was in cc

-- refused: a message that does
overtaking_message : (old new : Serving) (message : Incoming) (block : ℕ) → AbsorbKeeps old message new
    → old.overtaken block ≡ false → new.overtaken block ≡ true → ⊥
overtaking_message old new message block keeps was is = let e : true ≡ false = sym (keeps.none_overtaken block is) ∙ was in cc

-- a server with ones in the frame of block 5 alone, or without frames
abbrev with_frame : Bool → Serving
with_frame has = record {
  geometry = record small { block_size = 1024 };
  minor = 0;
  Agrees = λ image tree marks. marks ≡ [];
  frames = λ block. if has && (block == 5) then Some (replicate 1024 1) else None;
  frame_count = 64;
  outbox = empty_outbox;
  is_busy = false;
  told = [];
  ended = false;
  settled = Unit {0};
  unwritten = λ block. false;
  overtaken = λ block. false;
  wanted = false;
}

-- refused: a look that takes that frame away, over a disk of zeros
frame_taken : LeavesView (with_frame true) (with_frame false) zeros [] [] → ⊥
frame_taken h = let e : 0 ≡ 1 = ap (λ (d : ℕ → ℕ → ℕ). d 5 0) h.same in absurd (omega (arith, e))

-- refused: that it has nothing to write
frame_unsaid : KnowsFrames (record small { block_size = 1024 }) (state_of (with_frame true)) empty_outbox zeros [] → ⊥
frame_unsaid h = let e : 1 ≡ 0 = ap (λ (row : ℕ → ℕ). row 0) (h.others tt 5 refl refl) in absurd (omega (arith, e))

-- a pending write of block 5, whose bytes are all this
abbrev written : ℕ → BlockRequest
written byte = record (request Write 5 1) { bytes = replicate 4096 byte }

-- that frame, changed since the write was begun or not
abbrev ones_at_five : Bool → FrameState
ones_at_five changed = record { frames = (with_frame true).frames; unwritten = λ block. false; overtaken = λ block. changed && (block == 5) }

-- right: the frame's bytes
frame_written : WritesFrames 1024 (ones_at_five false) (written 1 ∷ [])
frame_written = (λ write. record { each = λ block place k low lt at clear. each block place k low lt at }, tt)
  where
    each : (block place k : ℕ) → place < 1024 → k < 1024 → block * 1024 + place ≡ 5 * 1024 + k
        → HasByte (with_frame true).frames block place (slice_index (replicate 4096 1) k)
    each block place k low lt at =
        let five : 5 ≡ block = omega (arith, low, lt, at) in
        let far : k < 4096 = omega (arith, lt) in
        subst (λ (b : ℕ). HasByte (with_frame true).frames b place (slice_index (replicate 4096 1) k)) five
        (record { bytes = replicate 1024 1; is = refl; there = get_or-replicate 1024 place 1 0 low ∙ sym (get_or-replicate 4096 k 1 0 far) })

-- refused: zeros
zeros_written : WritesFrames 1024 (ones_at_five false) (written 0 ∷ []) → ⊥
zeros_written h =
    let x = (h.0 refl).each 5 0 0 (omega arith) (omega arith) refl refl in
    let e : 1 ≡ 0 = ap first_byte x.is ∙ x.there in absurd (omega (arith, e))
  where
    first_byte : Option (List ℕ) → ℕ
    first_byte None = 0
    first_byte (Some bytes) = slice_index bytes 0

-- right: zeros, where the frame was changed since
zeros_overtaken : WritesFrames 1024 (ones_at_five true) (written 0 ∷ [])
zeros_overtaken = (λ write. record { each = λ block place k low lt at clear. absurd (clash block place k low lt at clear) }, tt)
  where
    clash : (block place k : ℕ) → place < 1024 → k < 1024 → block * 1024 + place ≡ 5 * 1024 + k → (ones_at_five true).overtaken block ≡ false → ⊥
    clash block place k low lt at clear =
        let five : block ≡ 5 = omega (arith, low, lt, at) in
        let e : true ≡ false = ap (ones_at_five true).overtaken (sym five) ∙ clear in cc

-- refused: that it was changed since, where no write is pending
overtaken_by_none : KnowsFrames (record small { block_size = 1024 }) (ones_at_five true) empty_outbox zeros [] → ⊥
overtaken_by_none h = let e : false ≡ true = h.under_way 5 refl in cc
