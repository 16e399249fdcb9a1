-- Turns that no run has: a Flush at which nothing is begun, though a block is unwritten; a look that overtakes a block; a pending write of
-- other bytes than its frame's; a block that is overtaken where nothing is pending.
use Rattle.std.specs.Prelude.{◌≡◌, ℕ, suc, List, [], ◌∷◌, ◌++◌, length, Bool, true, false, cond, Option, Some, None, replicate, slice_index, sum, refl}
use Rattle.std.specs.List.{list_any}
use Rattle.std.proofs.Common.{arith, sym, ap, subst, ◌∙◌}
use mathlib.Core.Logic.{inl, inr}
use Rattle.layout.specs.declared.Geometry.{Geometry}
use Rattle.message.specs.declared.BlockRequest.{BlockRequest}
use Rattle.message.specs.declared.Kind.TheVariants.{Write}
use Rattle.message.specs.declared.Incoming.{Incoming}
use Rattle.message.specs.declared.Incoming.TheVariants as incoming
use Rattle.tree.specs.declared.Who.{Who}
use Rattle.tree.specs.declared.Call.{Call}
use Rattle.tree.specs.declared.Call.TheVariants.{Statfs}
use Rattle.tree.specs.Tree.{Tree}
use Rattle.tree.specs.Answers.{Answer}
use Rattle.records.specs.Marks.{Mark, Answered, Took}
use Rattle.records.specs.Open.{counts}
use Rattle.records.specs.Disk.{Contents, HasTrueReplies}
use Rattle.records.specs.Told.{Posted, Complained, Received, received}
use Rattle.records.specs.Acts.{Act, Began, Absorbed, AtLink, Outbox, marks_after}
use Rattle.records.specs.Area.{Area}
use Rattle.records.specs.Legal.{tree_after}
use Rattle.records.specs.Settled.{only_looks}
use Rattle.records.specs.Flushes.{FlushesOn, FrameState, WritesFrames, WritesLowest, may_write, pending_requests}
use Rattle.schedule.specs.Calls.{Arrival, taken}
use Rattle.simulated_link.specs.Moments.{Moment, record_of}
use Rattle.world.specs.Served.{FramesHold, Turn, Stays, Hears, Answers, Cuts}

no_last : (rs : List BlockRequest) (r : BlockRequest) → [] ≡ rs ++ r ∷ [] → ⊥
no_last [] r e = cc
no_last (q ∷ rs) r e = cc

-- where nothing was pending and nothing is, no write was begun
none_begun : (counts : List ℕ) (size : ℕ) (old new : ℕ → Bool) → WritesLowest counts 16 size old new [] [] → (counts ≡ []) × (new ≡ old)
none_begun [] size old new w = (refl, w.0)
none_begun (n ∷ counts) size old new w = absurd (no_last w.1 w.3.request w.3.added)

-- refused: a Flush that begins nothing, while the device isn't given up
nothing_flushed : (size block : ℕ) (old new : FrameState) → FlushesOn size true old new [] [] → old.unwritten block ≡ true → ⊥
nothing_flushed size block old new flushes unwritten =
    let w = none_begun flushes.writes.counts size old.unwritten new.unwritten flushes.writes.writes in
    let still : new.unwritten block ≡ true = ap (λ (u : ℕ → Bool). u block) w.1 ∙ unwritten in
    elim (flushes.writes.all refl) [
      | inl all ↦
          let e : 0 ≡ 16 = sym (ap sum w.0) ∙ all in
          absurd (omega (arith, e))
      | inr (inl none) ↦ let e : true ≡ false = sym still ∙ none block in cc
      | inr (inr (inl full)) ↦ absurd (omega (arith, full))
      | inr (inr (inr busy)) ↦ let e : false ≡ true = busy.2 in cc
    ]

-- a pending write of zeros to block 5 of blocks of 1024 bytes, whose frame has ones and wasn't changed since
abbrev zeros : BlockRequest
zeros = record { id = 1; kind = Write; minor = 0; position = 5120; count = 1024; bytes = replicate 4096 0 }

abbrev ones : FrameState
ones = record { frames = λ block. Some (replicate 1024 1); unwritten = λ block. false; overtaken = λ block. false }

-- refused, in each volume of such blocks
zeros_pending : (g : Geometry) (image : Contents) (tree : Tree) (marks : List Mark) (o : Outbox) → g.block_size ≡ 1024
    → pending_requests marks o ≡ zeros ∷ [] → FramesHold g image tree marks o ones → ⊥
zeros_pending g image tree marks o size is hold =
    let all = subst (λ (rs : List BlockRequest). WritesFrames g.block_size ones rs) is hold.known.pending in
    let here = subst (λ (n : ℕ). WritesFrames n ones (zeros ∷ [])) size all in
    let x = (here.0 refl).each 5 0 0 (omega arith) (omega arith) refl refl in
    let e : 1 ≡ 0 = ap first_byte x.is ∙ x.there in absurd (omega (arith, e))
  where
    first_byte : Option (List ℕ) → ℕ
    first_byte None = 0
    first_byte (Some bytes) = slice_index bytes 0

-- refused: a frame that was changed since its write was begun, where none is pending
none_under_way : (g : Geometry) (image : Contents) (tree : Tree) (marks : List Mark) (o : Outbox) (f : FrameState) (block : ℕ)
    → pending_requests marks o ≡ [] → f.overtaken block ≡ true → FramesHold g image tree marks o f → ⊥
none_under_way g image tree marks o f block none overtaken hold =
    let e : true ≡ false = sym (hold.known.under_way block overtaken)
    ∙ ap (λ (rs : List BlockRequest). list_any (may_write g.block_size block) rs) none in cc

-- acts take no call
taken_message : (m : Incoming) (marks : List Mark) → taken (received m marks) ≡ taken marks
taken_message (incoming.Reply a) marks = by (counts marks a) where
  by : (c : Bool) → taken (cond c (Answered a ∷ marks) marks) ≡ taken marks
  by true = refl
  by false = refl
taken_message (incoming.Started e) marks = refl
taken_message incoming.GaveUp marks = refl
taken_message incoming.Flush marks = refl
taken_message incoming.End marks = refl

taken_acts : (acts : List Act) (marks : List Mark) → taken (marks_after acts marks) ≡ taken marks
taken_acts [] marks = refl
taken_acts (Began r ∷ acts) marks = taken_acts acts marks
taken_acts (Absorbed m ∷ acts) marks = taken_message m (marks_after acts marks) ∙ taken_acts acts marks
taken_acts (AtLink (Posted to r true) ∷ acts) marks = taken_acts acts marks
taken_acts (AtLink (Posted to r false) ∷ acts) marks = taken_acts acts marks
taken_acts (AtLink (Complained e) ∷ acts) marks = taken_acts acts marks
taken_acts (AtLink (Received m) ∷ acts) marks = taken_message m (marks_after acts marks) ∙ taken_acts acts marks

no_more : (x : Arrival) (xs : List Arrival) → x ∷ xs ≡ xs → ⊥
no_more x xs same = let e : suc (length xs) ≡ length xs = ap (λ (l : List Arrival). length l) same in absurd (omega (arith, e))

-- the call that was taken last
abbrev last_taken : List Mark → Option Call
last_taken (Took who now call answer ∷ marks) = Some call
last_taken _ = None

-- refused: a statfs that overtakes a block, over true replies
look_overtakes : (area : Area) (g : Geometry) (image : Contents) (tree : Tree) (m n : Moment) (f h : FrameState) (who : Who)
    (now block : ℕ) (answer : Answer)
    → record_of n.run ≡ Took who now Statfs answer ∷ record_of m.run → HasTrueReplies image (record_of n.run)
    → f.overtaken block ≡ false → h.overtaken block ≡ true → Turn area g image tree m n f h → ⊥
look_overtakes area g image tree m n f h who now block a took replies was is (Stays runs same frames hold) =
    let e : true ≡ false = sym is ∙ ap (λ (k : FrameState). k.overtaken block) frames ∙ was in cc
look_overtakes area g image tree m n f h who now block a took replies was is (Hears message later runs record_is alone quiet none flushes hold) =
    let e : true ≡ false = sym (none block is) ∙ was in cc
look_overtakes area g image tree m n f h who now block a took replies was is (Answers call its acts runs record_is alone looks hold) =
    let same : Some call.call ≡ Some Statfs = ap last_taken (sym record_is ∙ took) in
    let it : call.call ≡ Statfs = cc in
    let only = ap (λ (c : Call). only_looks (tree_after g tree (record_of m.run)) call.who c) it in
    let e : true ≡ false = sym (looks replies only block is) ∙ was in cc
look_overtakes area g image tree m n f h who now block a took replies was is (Cuts acts runs record_is alone) =
    no_more (who, now, Statfs) (taken (record_of m.run))
    (ap taken (sym took ∙ record_is) ∙ taken_acts acts (record_of m.run))
