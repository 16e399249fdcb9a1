-- What is done at a link while a range is read, act by act.
use Rattle.std.proofs.Common.{◌≡◌, ◌⊎◌, ℕ, ◌+◌, ◌<◌, ◌≤◌, List, [], ◌∷◌, ◌++◌, Bool, true, false, cond, refl, sym, ◌∙◌, ap, subst, inl, inr, arith, append_assoc, Option, Some, None}
use Rattle.message.specs.declared.Kind.{Kind}
use Rattle.message.specs.declared.Kind.TheVariants.{Read, Write}
use Rattle.message.specs.Good.{is_write}
use Rattle.message.specs.declared.BlockRequest.{BlockRequest}
use Rattle.message.specs.declared.Incoming.{Incoming}
use Rattle.message.specs.declared.Incoming.TheVariants as incoming
use Rattle.records.specs.Marks.{Mark, Answered}
use Rattle.records.specs.Open.{counts}
use Rattle.records.specs.Disk.{Contents, HasTrueReplies, bytes_read, is_read}
use Rattle.records.specs.Opening.{Opening}
use Rattle.records.specs.Told.{Told, Posted, Complained, Received, received, grown}
use Rattle.records.specs.Acts.{Act, Began, Absorbed, AtLink, Outbox, told_of, has_absorbed, marks_after, outbox_after, KeepsRules}
use Rattle.records.proofs.ActLaws.{acts_compose}
use Rattle.records.specs.Area.{no_area}
use Rattle.records.specs.Mount.{OnlyReads}
use Rattle.reissue.specs.declared.pending.Pending.{Pending}
use Rattle.reissue.specs.declared.table.Table.{Table}
use Rattle.reissue.specs.Entries.{AreDistinct as HaveTickets, IsAmong, IsLeft, pending_of, begun_of, AllIn}
use Rattle.reissue.specs.Agrees.{Agrees}
use Rattle.reissue.specs.Moves.{Begun, IsQuiet, Spares, Touches, state_after, written_by}
use Rattle.reissue.specs.Posts.{OnlyPosts}
use Rattle.reissue.specs.Rules.{BeganAmong, KeepsRulesBy, outbox_of}
use Rattle.reissue.specs.Closing.{ReadsOn}
use Rattle.reissue.specs.Calls.{Truth}
use Rattle.reissue.proofs.Tickets.{pending_among}
use Rattle.volume_reading.specs.declared.sought.Sought.{Sought}
use Rattle.volume_reading.specs.Sought.{piece, piece_size, pieces_of, AreBefore}
use Rattle.volume_reading.specs.Reading.{LeavesDisk, Went, IsFilled, IsUntouched, GoesUpTo, KeepsElsewhere}
use Rattle.volume_reading.proofs.Searching.{piece_there, before_at}

-- neither has a handed message
pub none_both : (later acts : List Act) → has_absorbed later ≡ false → has_absorbed acts ≡ false → has_absorbed (later ++ acts) ≡ false
none_both [] acts x y = y
none_both (Began r ∷ later) acts x y = none_both later acts x y
none_both (Absorbed m ∷ later) acts x y = cc
none_both (AtLink t ∷ later) acts x y = none_both later acts x y

-- both only read
pub reads_both : (later acts : List Act) → OnlyReads later → OnlyReads acts → OnlyReads (later ++ acts)
reads_both [] acts x y = y
reads_both (Began r ∷ later) acts x y = (x.0, reads_both later acts x.1 y)
reads_both (Absorbed m ∷ later) acts x y = reads_both later acts x y
reads_both (AtLink t ∷ later) acts x y = reads_both later acts x y

-- replies that are true after a message were so before
pub true_received : (m : Incoming) (image : Contents) (marks : List Mark) → HasTrueReplies image (received m marks) → HasTrueReplies image marks
true_received (incoming.Reply a) image marks h = by (counts marks a) h where
  by : (b : Bool) → HasTrueReplies image (cond b (Answered a ∷ marks) marks) → HasTrueReplies image marks
  by true h = h.0
  by false h = h
true_received (incoming.Started e) image marks h = h
true_received incoming.GaveUp image marks h = h
true_received incoming.Flush image marks h = h
true_received incoming.End image marks h = h

-- and after posts
pub true_posted : (es : List Told) (image : Contents) (marks : List Mark) → OnlyPosts es → HasTrueReplies image (grown es marks) → HasTrueReplies image marks
true_posted [] image marks o h = h
true_posted (Posted to r true ∷ es) image marks o h = true_posted es image marks o h
true_posted (Posted to r false ∷ es) image marks o h = true_posted es image marks o h
true_posted (Complained e ∷ es) image marks o h = absurd o
true_posted (Received m ∷ es) image marks o h = absurd o

-- after a message and the posts on it
pub true_step : (es : List Told) (m : Incoming) (image : Contents) (marks : List Mark) → OnlyPosts es
    → HasTrueReplies image (grown es (received m marks)) → HasTrueReplies image marks
true_step es m image marks o h = true_received m image marks (true_posted es image (received m marks) o h)

-- and so of acts
pub true_before : (acts : List Act) (image : Contents) (marks : List Mark) → HasTrueReplies image (marks_after acts marks) → HasTrueReplies image marks
true_before [] image marks h = h
true_before (Began r ∷ acts) image marks h = true_before acts image marks h
true_before (Absorbed m ∷ acts) image marks h = true_before acts image marks (true_received m image (marks_after acts marks) h)
true_before (AtLink (Posted to r true) ∷ acts) image marks h = true_before acts image marks h
true_before (AtLink (Posted to r false) ∷ acts) image marks h = true_before acts image marks h
true_before (AtLink (Complained e) ∷ acts) image marks h = true_before acts image marks h
true_before (AtLink (Received m) ∷ acts) image marks h = true_before acts image marks (true_received m image (marks_after acts marks) h)

-- posts read nothing
pub posts_read : (es : List Told) (marks : List Mark) (place : ℕ) → OnlyPosts es
    → (bytes_read (grown es marks) place ≡ bytes_read marks place) × (is_read (grown es marks) place ≡ is_read marks place)
posts_read [] marks place o = (refl, refl)
posts_read (Posted to r true ∷ es) marks place o = posts_read es marks place o
posts_read (Posted to r false ∷ es) marks place o = posts_read es marks place o
posts_read (Complained e ∷ es) marks place o = absurd o
posts_read (Received m ∷ es) marks place o = absurd o

-- where no write is pending the disk stays
pub leaves_quiet : (image : Contents) (marks more : List Mark) (pending : ℕ → Option Begun) → ((place : ℕ) → IsQuiet pending place)
    → Spares pending (state_after image marks) (state_after image more) → LeavesDisk image marks more
leaves_quiet image marks more pending quiet s = record {
  disk = λ place. s.disk place (quiet place);
  sure = λ place sure. s.sure place (quiet place) sure;
}

-- both one after the other
pub leaves_both : (image : Contents) (first next last : List Mark) → LeavesDisk image first next → LeavesDisk image next last → LeavesDisk image first last
leaves_both image first next last a b = record {
  disk = λ place. b.disk place ∙ a.disk place;
  sure = λ place sure. b.sure place (a.sure place sure);
}

-- nothing was done
unfoldable pub went_none : (minor : ℕ) (t : Table) (told : List Told) (was : Truth) → t.pending ≡ [] → Went minor t t told told was was
went_none minor t told was none = record {
  acts = [];
  told = refl;
  none_absorbed = refl;
  only_reads = tt;
  minors = subst (λ (l : List Pending). AllIn (no_area minor) l) (sym none) tt;
  follows = λ marks h. record { keep = tt; owes = refl; agrees = h };
  leaves = λ image marks h true. record { disk = λ place. refl; sure = λ place sure. sure };
  truth = λ v marks same h k. k;
}

-- Further acts, from the table that was reached on.
pub record Further (minor : ℕ) (t u : Table) (between after : List Told) (mid is : Truth) : Type 0 where
  pub acts : List Act
  pub more : List Mark → List Mark
  pub told : after ≡ told_of acts ++ between
  pub none_absorbed : has_absorbed acts ≡ false
  pub only_reads : OnlyReads acts
  pub minors : AllIn (no_area minor) t.pending → AllIn (no_area minor) u.pending
  pub rules : (marks : List Mark) → Agrees t marks → AllIn (no_area minor) t.pending
      → KeepsRulesBy acts (no_area minor) t u between after marks (more marks)
  pub agrees : (marks : List Mark) → Agrees t marks → Agrees u (more marks)
  pub leaves : (image : Contents) (marks : List Mark) → Agrees t marks → HasTrueReplies image (more marks) → LeavesDisk image marks (more marks)
  pub before : (image : Contents) (marks : List Mark) → HasTrueReplies image (more marks) → HasTrueReplies image marks
  pub truth : (v : Opening) (marks : List Mark) → v.minor ≡ minor → Agrees t marks → AllIn (no_area minor) t.pending
      → mid v marks → is v (more marks)

-- the record after both
pub grows_on : (minor : ℕ) (s t u : Table) (before between after : List Told) (was mid is : Truth)
    (r : Went minor s t before between was mid) (x : Further minor t u between after mid is) (marks : List Mark) → Agrees s marks
    → marks_after (x.acts ++ r.acts) marks ≡ x.more (marks_after r.acts marks)
grows_on minor s t u before between after was mid is r x marks h =
    (acts_compose (no_area minor) x.acts r.acts marks (outbox_of s)).record_after
    ∙ (x.rules (marks_after r.acts marks) (r.follows marks h).agrees r.minors).grows

-- what was done, and then these
unfoldable pub went_on : (minor : ℕ) (s t u : Table) (before between after : List Told) (was mid is : Truth)
    → Went minor s t before between was mid → Further minor t u between after mid is → Went minor s u before after was is
went_on minor s t u before between after was mid is r x = record {
  acts = x.acts ++ r.acts;
  told = x.told ∙ ap (λ (l : List Told). told_of x.acts ++ l) r.told ∙ sym (append_assoc (told_of x.acts) (told_of r.acts) before)
      ∙ ap (λ (l : List Told). l ++ before) (sym (acts_compose (no_area minor) x.acts r.acts [] (outbox_of s)).told);
  none_absorbed = none_both x.acts r.acts x.none_absorbed r.none_absorbed;
  only_reads = reads_both x.acts r.acts x.only_reads r.only_reads;
  minors = x.minors r.minors;
  follows = λ marks h.
      let f = r.follows marks h in
      let k = x.rules (marks_after r.acts marks) f.agrees r.minors in
      let c = acts_compose (no_area minor) x.acts r.acts marks (outbox_of s) in
      let grows = grows_on minor s t u before between after was mid is r x marks h in
      record {
        keep = c.keep f.keep (subst (λ (o : Outbox). KeepsRules (no_area minor) x.acts (marks_after r.acts marks) o) (sym f.owes) k.keeps);
        owes = c.owed ∙ ap (λ (o : Outbox). outbox_after x.acts (marks_after r.acts marks) o) f.owes ∙ k.owes;
        agrees = subst (λ (ms : List Mark). Agrees u ms) (sym grows) (x.agrees (marks_after r.acts marks) f.agrees);
      };
  leaves = λ image marks h true.
      let f = r.follows marks h in
      let grows = grows_on minor s t u before between after was mid is r x marks h in
      let last : HasTrueReplies image (x.more (marks_after r.acts marks)) = subst (λ (ms : List Mark). HasTrueReplies image ms) grows true in
      subst (λ (ms : List Mark). LeavesDisk image marks ms) (sym grows)
      (leaves_both image marks (marks_after r.acts marks) (x.more (marks_after r.acts marks))
      (r.leaves image marks h (x.before image (marks_after r.acts marks) last)) (x.leaves image (marks_after r.acts marks) f.agrees last));
  truth = λ v marks same h k.
      let f = r.follows marks h in
      let grows = grows_on minor s t u before between after was mid is r x marks h in
      subst (λ (ms : List Mark). is v ms) (sym grows) (x.truth v (marks_after r.acts marks) same f.agrees r.minors (r.truth v marks same h k));
}

-- a read has no bytes to write
only_read : (k : Kind) (bytes : List ℕ) → None ≡ written_by k bytes → is_write k ≡ false
only_read Read bytes e = refl
only_read Write bytes e = cc

-- an entry is a piece of the range
pub piece_of : (start size : ℕ) (ps : List Pending) (asked : List Sought) → HaveTickets ps → pending_of ps ≡ pieces_of start size asked
    → (p : Pending) → IsAmong p ps → (at : ℕ) × (pieces_of start size asked p.ticket ≡ Some (piece start size at)) × (piece start size at ≡ begun_of p)
piece_of start size ps asked d same p i =
    let is : pieces_of start size asked p.ticket ≡ Some (begun_of p) = sym (ap (λ (f : ℕ → Option Begun). f p.ticket) same) ∙ pending_among p ps d i in
    let there = piece_there start size p.ticket (begun_of p) asked is in
    (there.0, is ∙ ap (λ (b : Begun). Some b) (sym there.2), there.2)

-- what becomes pending is read
pub began_reads : (start size : ℕ) (acts : List Act) (ps : List Pending) (asked : List Sought) → HaveTickets ps
    → pending_of ps ≡ pieces_of start size asked → BeganAmong acts ps → OnlyReads acts
began_reads start size [] ps asked d same b = tt
began_reads start size (Began r ∷ acts) ps asked d same b =
    let p = b.0.0 in
    let is = piece_of start size ps asked d same p b.0.1 in
    (ap (λ (q : BlockRequest). is_write q.kind) (sym b.0.2) ∙ only_read p.request.kind p.bytes (ap (λ (x : Begun). x.written) is.2), began_reads start size acts ps asked d same b.1)
began_reads start size (Absorbed m ∷ acts) ps asked d same b = began_reads start size acts ps asked d same b
began_reads start size (AtLink t ∷ acts) ps asked d same b = began_reads start size acts ps asked d same b

-- no piece is written
pub no_write : (start size : ℕ) (asked : List Sought) (t : ℕ) (r : Begun) (bytes : List ℕ) → pieces_of start size asked t ≡ Some r
    → r.written ≡ Some bytes → ⊥
no_write start size asked t r bytes is writes =
    let there = piece_there start size t r asked is in
    nothing (ap (λ (b : Begun). b.written) there.2 ∙ writes)
  where
    nothing : None ≡ Some bytes → ⊥
    nothing e = cc

-- so each place is quiet
pub quiet_pieces : (start size : ℕ) (ps : List Pending) (asked : List Sought) → pending_of ps ≡ pieces_of start size asked
    → (place : ℕ) → IsQuiet (pending_of ps) place
quiet_pieces start size ps asked same place = record {
  none = λ t r bytes is writes touch. no_write start size asked t r bytes (sym (ap (λ (f : ℕ → Option Begun). f t) same) ∙ is) writes;
}

-- what is left of a pending read is touched by it
pub left_touched : (start size next : ℕ) (ps all : List Pending) (asked : List Sought) (place : ℕ) → HaveTickets all
    → pending_of all ≡ pieces_of start size asked → ((p : Pending) → IsAmong p ps → IsAmong p all) → IsLeft ps place
    → (t : ℕ) × (at : ℕ) × (pieces_of start size asked t ≡ Some (piece start size at)) × Touches (piece start size at) place
left_touched start size next [] all asked place d same e l = absurd l
left_touched start size next (p ∷ ps) all asked place d same e l = elim l [
  | inl h ↦
      let is = piece_of start size all asked d same p (e p (inl refl)) in
      let from : start + is.0 ≡ p.start = ap (λ (x : Begun). x.start) is.2 in
      let many : piece_size size is.0 ≡ p.size = ap (λ (x : Begun). x.size) is.2 in
      (p.ticket, is.0, is.1, record { from = omega (arith, from, h.0, p.from); to = omega (arith, from, many, h.1) })
  | inr h ↦ left_touched start size next ps all asked place d same (λ q i. e q (inr i)) h
]

-- where no pending read has the place, nothing is left there
pub nothing_left : (start size : ℕ) (ps : List Pending) (asked : List Sought) (place : ℕ) → HaveTickets ps
    → pending_of ps ≡ pieces_of start size asked → IsUntouched (pieces_of start size asked) place → IsLeft ps place → ⊥
nothing_left start size ps asked place d same u l =
    let x = left_touched start size 0 ps ps asked place d same (λ p i. i) l in
    u.none x.0 (piece start size x.1) x.2 x.3

-- what is left lies in what was asked for
pub left_within : (start size next : ℕ) (ps : List Pending) (asked : List Sought) (place : ℕ) → HaveTickets ps
    → pending_of ps ≡ pieces_of start size asked → AreBefore size next asked → IsLeft ps place → (start ≤ place) × (place < start + next)
left_within start size next ps asked place d same w l =
    let x = left_touched start size next ps ps asked place d same (λ p i. i) l in
    let there = piece_there start size x.0 (piece start size x.1) asked x.2 in
    let b = before_at size next asked x.0 there.0 w there.1 in
    let from : start + there.0 ≡ start + x.1 = ap (λ (r : Begun). r.start) there.2 in
    let many : piece_size size there.0 ≡ piece_size size x.1 = ap (λ (r : Begun). r.size) there.2 in
    (omega (arith, x.3.from), omega (arith, x.3.to, b.1, from, many))

-- a filled place outside what is left stays filled
pub filled_on : (ps us : List Pending) (start : List Mark) (marks more : List Mark) (place byte : ℕ) → ReadsOn ps us marks more
    → ((image : Contents) → HasTrueReplies image more → HasTrueReplies image marks) → (IsLeft ps place → ⊥)
    → IsFilled start marks place byte → IsFilled start more place byte
filled_on ps us start marks more place byte on before none f =
    let o = on.others place none in
    record { read = (f.read.0 ∙ sym o.0, o.1 ∙ f.read.1); is_disk = λ image tr. f.is_disk image (before image tr) }

-- what wasn't read yet, after a message
pub goes_on : (start size next : ℕ) (ps us : List Pending) (asked : List Sought) (marks more : List Mark) → HaveTickets ps
    → pending_of ps ≡ pieces_of start size asked → AreBefore size next asked → ReadsOn ps us marks more
    → GoesUpTo start next ps marks → GoesUpTo start next us more
goes_on start size next ps us asked marks more d same w on g = record {
  asks = on.ask g.asks;
  left = λ place l. let o = on.left place l in o.1 ∙ g.left place o.0;
  beyond = record {
    each = λ place le.
        (on.others place (λ l. omega (arith, (left_within start size next ps asked place d same w l).1, le))).1 ∙ g.beyond.each place le;
  };
}

-- what was read elsewhere stays, after a message
pub elsewhere_on : (start size next : ℕ) (ps us : List Pending) (asked : List Sought) (first marks more : List Mark) → HaveTickets ps
    → pending_of ps ≡ pieces_of start size asked → AreBefore size next asked → ReadsOn ps us marks more
    → KeepsElsewhere start (start + next) first marks → KeepsElsewhere start (start + next) first more
elsewhere_on start size next ps us asked first marks more d same w on k = record {
  each = λ place out.
      let b = k.each place out in
      let o = on.others place (λ l. inside place (left_within start size next ps asked place d same w l) out) in
      (o.0 ∙ b.0, o.1 ∙ b.1);
}
  where
    inside : (place : ℕ) → (start ≤ place) × (place < start + next) → (place < start) ⊎ (start + next ≤ place) → ⊥
    inside place i (inl x) = omega (arith, i.0, x)
    inside place i (inr x) = omega (arith, i.1, x)
