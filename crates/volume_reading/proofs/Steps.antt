-- A range that is being read, from one message to the next.
use Rattle.std.proofs.Common.{◌≡◌, ◌⊎◌, ℕ, ◌+◌, ◌-◌, ◌<◌, ◌≤◌, List, [], ◌∷◌, length, true, false, refl, sym, ◌∙◌, ap, subst, inl, inr, arith, Option, Some, None, Ok, Err}
use Rattle.std.specs.Prelude.{slice_index, ◌==◌}
use Rattle.std.proofs.lemmas.Bool.Decides.{leb_tells, nat_tests}
use Rattle.std.proofs.lemmas.Bool.{cases_eq}
use Rattle.message.specs.declared.Kind.{Kind}
use Rattle.message.specs.declared.Kind.TheVariants.{Read}
use Rattle.records.specs.Marks.{Mark}
use Rattle.records.specs.Disk.{Contents, HasTrueReplies, disk_after, unsure}
use Rattle.records.specs.Told.{Told, received, grown, took_end}
use Rattle.records.specs.Acts.{marks_after}
use Rattle.records.specs.Area.{LiesIn, no_area}
use Rattle.reissue.specs.declared.ask.Ask.{Ask}
use Rattle.reissue.specs.Settlements.{Settlement}
use Rattle.reissue.specs.Settlements as settled
use Rattle.reissue.specs.declared.link.Link.{Ghosts as LinkWords}
use Rattle.reissue.specs.declared.pending.Pending.{Pending}
use Rattle.reissue.specs.declared.table.Table.{Table}
use Rattle.reissue.specs.declared.transfers.Transfers.{Transfers}
use Rattle.reissue.specs.Entries.{AllAsk, AllOfMinor, IsLeft, pending_of}
use Rattle.reissue.specs.Agrees.{Agrees}
use Rattle.reissue.specs.Moves.{Begun, IsBusy, WasRead, begun_by, written_by, put}
use Rattle.reissue.specs.Closing.{Closing}
use Rattle.reissue.specs.Calls.{Truth, AsksIn, Begins, Steps}
use Rattle.reissue.proofs.Inside.{of_minor}
use Rattle.reissue.specs.Transfers.{table_of, link_of}
use Rattle.reissue.proofs.Maps.{put-same, put_cases}
use Rattle.reissue.proofs.Tickets.{pending_here}
use Rattle.reissue.proofs.Left.{ask_push, left_back}
use Rattle.volume_reading.specs.declared.sought.Sought.{Sought}
use Rattle.volume_reading.specs.declared.reading.Stop.TheVariants.{OutOfMemory, GaveUp, Ended}
use Rattle.volume_reading.specs.Sought.{piece, piece_at, piece_size, pieces_of, place_of, without_ticket, AreBefore, AreDistinct as SoughtDistinct, PutsAt, PutsPiece}
use Rattle.volume_reading.specs.Reading.{LeavesDisk, IsFilled, IsUntouched, IsUnread, IsCutShort, AreFilled, GoesUpTo, KeepsBelow, KeepsElsewhere, Midway, BeginsNext, ReadsRange}
use Rattle.volume_reading.proofs.Searching.{before_gone, before_later, before_new, distinct_gone, distinct_new, no_piece, piece_there, pieces_gone, pieces_new, place_here, place_stays}
use Rattle.volume_reading.proofs.Going.{Further, began_reads, elsewhere_on, filled_on, goes_on, grows_on, leaves_both, leaves_quiet, left_within, no_write, nothing_left, posts_read, quiet_pieces, true_posted, true_step, went_none, went_on}

-- what is begun, by its parts
abbrev begun : ℕ → ℕ → Option (List ℕ) → Begun
begun s z w = record { start = s; size = z; written = w }

-- a read of a piece
pub begun_piece : (ask : Ask) (start size at : ℕ) → ask.kind ≡ Read → ask.position ≡ start + at → ask.count ≡ piece_size size at
    → begun_by ask ≡ piece start size at
begun_piece ask start size at k p n =
    ap (λ (x : ℕ). begun x ask.count (written_by ask.kind ask.bytes.now)) p
    ∙ ap (λ (x : ℕ). begun (start + at) x (written_by ask.kind ask.bytes.now)) n
    ∙ ap (λ (x : Kind). begun (start + at) (piece_size size at) (written_by x ask.bytes.now)) k

-- a range of which nothing was asked for yet
pub midway_none : (minor start size : ℕ) (bytes : List ℕ) (t : Table) (told : List Told) (was : Truth) → t.pending ≡ []
    → Midway minor start size 0 [] bytes t t told told was was
unfolding went_none
midway_none minor start size bytes t told was none = record {
  went = went_none minor t told was none;
  pending = ap pending_of none;
  distinct = tt;
  within = tt;
  filled = λ marks h k lt u. absurd (omega (arith, lt));
  goes = λ marks h unread. record {
    asks = subst (λ (l : List Pending). AllAsk l) (sym none) tt;
    left = λ place l. absurd (subst (λ (x : List Pending). IsLeft x place) none l);
    beyond = record { each = λ place le. unread.each place (omega (arith, le)) };
  };
  elsewhere = λ marks h. record { each = λ place out. (refl, refl) };
}

-- what a begun read is as further acts
begins_further : (minor start size : ℕ) (asked : List Sought) (ask : Ask) (t u : Table) (between after : List Told) (mid is : Truth)
    → ask.minor ≡ minor → ask.kind ≡ Read → pending_of u.pending ≡ pieces_of start size asked → Begins ask t u between after mid is
    → Further minor t u between after mid is
begins_further minor start size asked ask t u between after mid is m kind same b = record {
  acts = b.acts;
  more = λ marks. grown b.posts marks;
  told = b.told;
  none_absorbed = b.none_absorbed;
  only_reads = began_reads start size b.acts u.pending asked u.numbers.distinct same b.began;
  minors = λ h. b.minors (no_area minor) asks h;
  rules = λ marks h all. b.rules (no_area minor) marks h all asks;
  agrees = b.agrees;
  leaves = λ image marks h true. leaves_quiet image marks (grown b.posts marks) (pending_of u.pending) (quiet_pieces start size u.pending asked same) (b.spares image marks h);
  before = λ image marks h. true_posted b.posts image marks b.only_posts h;
  truth = λ v marks same h all k. b.truth v marks h (m ∙ sym same)
      (subst (λ (n : ℕ). AllOfMinor n t.pending) (sym same) (of_minor (no_area minor) t.pending all)) k;
}
  where
    asks : AsksIn (no_area minor) ask
    asks = (m, subst (λ (k : Kind). LiesIn (no_area minor) k ask.position ask.count) (sym kind) tt)

-- what a message is as further acts
steps_further : (minor start size : ℕ) (asked more : List Sought) (res : Settlement) (t u : Table) (between after : List Told) (mid is : Truth)
    → pending_of t.pending ≡ pieces_of start size asked → pending_of u.pending ≡ pieces_of start size more
    → IsBusy (pending_of t.pending) → t.given_up ≡ false → Steps res t u between after mid is → Further minor t u between after mid is
steps_further minor start size asked more res t u between after mid is same now busy live x = record {
  acts = x.acts;
  more = λ marks. grown x.posts (received x.message marks);
  told = x.told;
  none_absorbed = x.none_absorbed;
  only_reads = began_reads start size x.acts u.pending more u.numbers.distinct now x.began;
  minors = λ h. x.minors (no_area minor) h;
  rules = λ marks h all. x.rules (no_area minor) marks h all busy live;
  agrees = x.agrees;
  leaves = λ image marks h true. leaves_quiet image marks (grown x.posts (received x.message marks)) (pending_of t.pending)
      (quiet_pieces start size t.pending asked same) ((x.closing marks h).moves image true).spares;
  before = λ image marks h. true_step x.posts x.message image marks x.only_posts h;
  truth = λ v marks same h all k. x.truth v marks h
      (subst (λ (n : ℕ). AllOfMinor n t.pending) (sym same) (of_minor (no_area minor) t.pending all)) k;
}

-- Midway, after further acts.
pub midway_on : (minor start size next after : ℕ) (asked more : List Sought) (bytes then : List ℕ) (s t u : Table) (before between told : List Told)
    (was mid is : Truth) (m : Midway minor start size next asked bytes s t before between was mid) (x : Further minor t u between told mid is)
    → pending_of u.pending ≡ pieces_of start size more → SoughtDistinct more → AreBefore size after more
    → ((marks : List Mark) → Agrees s marks → AreFilled start after (pieces_of start size more) then marks (x.more (marks_after m.went.acts marks)))
    → ((marks : List Mark) → Agrees s marks → KeepsElsewhere start (start + after) marks (x.more (marks_after m.went.acts marks)))
    → ((marks : List Mark) → Agrees s marks → IsUnread start marks → GoesUpTo start after u.pending (x.more (marks_after m.went.acts marks)))
    → Midway minor start size after more then s u before told was is
unfolding went_on
midway_on minor start size next after asked more bytes then s t u before between told was mid is m x pending distinct within filled elsewhere goes = record {
  went = went_on minor s t u before between told was mid is m.went x;
  pending = pending;
  distinct = distinct;
  within = within;
  filled = λ marks h. subst (λ (ms : List Mark). AreFilled start after (pieces_of start size more) then marks ms)
      (sym (grows_on minor s t u before between told was mid is m.went x marks h)) (filled marks h);
  elsewhere = λ marks h. subst (λ (ms : List Mark). KeepsElsewhere start (start + after) marks ms)
      (sym (grows_on minor s t u before between told was mid is m.went x marks h)) (elsewhere marks h);
  goes = λ marks h unread. subst (λ (ms : List Mark). GoesUpTo start after u.pending ms)
      (sym (grows_on minor s t u before between told was mid is m.went x marks h)) (goes marks h unread);
}

-- a read is begun
pub midway_begins : {L : Type 0} (link : LinkWords L) (minor start size next after : ℕ) (asked more : List Sought) (bytes : List ℕ) (s : Table)
    (old new : Transfers L) (before : List Told) (was : Truth)
    → Midway minor start size next asked bytes s (table_of old) before (link.history (link_of old)) was (link.truth (link_of old))
    → BeginsNext link minor start size next after asked more old new
    → Midway minor start size after more bytes s (table_of new) before (link.history (link_of new)) was (link.truth (link_of new))
unfolding begins_further
midway_begins {L} link minor start size next after asked more bytes s old new before was m x =
    midway_on minor start size next after asked more bytes bytes s (table_of old) (table_of new) before (link.history (link_of old)) (link.history (link_of new))
    was (link.truth (link_of old)) (link.truth (link_of new)) m
    (begins_further minor start size more x.ask (table_of old) (table_of new) (link.history (link_of old)) (link.history (link_of new))
    (link.truth (link_of old)) (link.truth (link_of new)) x.minor_is x.kind same x.begins)
    same (subst SoughtDistinct (sym x.sought) (distinct_new asked sought free m.distinct))
    (subst (AreBefore size after) (sym x.sought) (before_new size after asked sought (before_later size next after asked (omega (arith, x.after_is)) m.within)
    (omega (arith, x.within)) (omega (arith, x.after_is))))
    filled elsewhere goes
  where
    sought : Sought
    sought = record { ticket = x.ticket; at = next }

    none : pieces_of start size asked x.ticket ≡ None
    none = sym (ap (λ (f : ℕ → Option Begun). f x.ticket) m.pending) ∙ x.opens.0

    free : place_of asked x.ticket ≡ None
    free = no_piece start size x.ticket asked none

    grows : pieces_of start size more ≡ put (pieces_of start size asked) x.ticket (Some (piece start size next))
    grows = ap (pieces_of start size) x.sought ∙ pieces_new start size asked sought free

    same : pending_of (table_of new).pending ≡ pieces_of start size more
    same = x.opens.1 ∙ ap (λ (f : ℕ → Option Begun). put f x.ticket (Some (piece start size next))) m.pending ∙ sym grows

    here : pieces_of start size more x.ticket ≡ Some (piece start size next)
    here = ap (λ (f : ℕ → Option Begun). f x.ticket) grows ∙ put-same (pieces_of start size asked) x.ticket (Some (piece start size next))

    none_some : {r : Begun} → None ≡ Some r → ⊥
    none_some h = cc

    there : (t : ℕ) (r : Begun) → pieces_of start size asked t ≡ Some r → pieces_of start size more t ≡ Some r
    there t r is = elim (put_cases (pieces_of start size asked) x.ticket (Some (piece start size next)) t) [
      | inl e ↦ absurd (none_some (sym none ∙ ap (pieces_of start size asked) (sym e.0) ∙ is))
      | inr e ↦ ap (λ (f : ℕ → Option Begun). f t) grows ∙ e.1 ∙ is
    ]

    filled : (marks : List Mark) → Agrees s marks
        → AreFilled start after (pieces_of start size more) bytes marks (grown x.begins.posts (marks_after m.went.acts marks))
    filled marks h k lt un =
        let low : k < next = elim (leb_tells next k) [
          | inl e ↦ absurd (un.none x.ticket (piece start size next) here (record { from = omega (arith, e.1); to = omega (arith, lt, x.after_is) }))
          | inr e ↦ e.1
        ] in
        let f = m.filled marks h k low (record { none = λ t r is touch. un.none t r (there t r is) touch }) in
        let p = posts_read x.begins.posts (marks_after m.went.acts marks) (start + k) x.begins.only_posts in
        record {
          read = (f.read.0 ∙ sym p.0, p.1 ∙ f.read.1);
          is_disk = λ image tr. f.is_disk image (true_posted x.begins.posts image (marks_after m.went.acts marks) x.begins.only_posts tr);
        }

    elsewhere : (marks : List Mark) → Agrees s marks
        → KeepsElsewhere start (start + after) marks (grown x.begins.posts (marks_after m.went.acts marks))
    elsewhere marks h = record {
      each = λ place out.
          let b = (m.elsewhere marks h).each place (before_it place out) in
          let p = posts_read x.begins.posts (marks_after m.went.acts marks) place x.begins.only_posts in
          (p.0 ∙ b.0, p.1 ∙ b.1);
    }
      where
        before_it : (place : ℕ) → (place < start) ⊎ (start + after ≤ place) → (place < start) ⊎ (start + next ≤ place)
        before_it place (inl o) = inl o
        before_it place (inr o) = inr (omega (arith, o, x.after_is))

    goes : (marks : List Mark) → Agrees s marks → IsUnread start marks
        → GoesUpTo start after (table_of new).pending (grown x.begins.posts (marks_after m.went.acts marks))
    goes marks h unread =
        let g = m.goes marks h unread in
        let entry = x.adds.entry in
        let at : entry.request.position ≡ start + next = x.adds.request.position ∙ x.position in
        let count : entry.request.count ≡ x.ask.count = x.adds.request.count in
        let posts = λ (place : ℕ). posts_read x.begins.posts (marks_after m.went.acts marks) place x.begins.only_posts in
        record {
          asks = subst (λ (l : List Pending). AllAsk l) (sym x.adds.pending) (ask_push (table_of old).pending entry g.asks (omega (arith, count, x.ask.least)));
          left = λ place l. (posts place).1
              ∙ elim (left_back (table_of old).pending entry place (subst (λ (q : List Pending). IsLeft q place) x.adds.pending l)) [
                | inl k ↦ g.left place k
                | inr k ↦ g.beyond.each place (omega (arith, k.0, at))
              ];
          beyond = record { each = λ place le. (posts place).1 ∙ g.beyond.each place (omega (arith, le, x.after_is)) };
        }

-- the first read that is sought
piece_first : (start size : ℕ) (x : Sought) (asked : List Sought) → pieces_of start size (x ∷ asked) x.ticket ≡ Some (piece start size x.at)
piece_first start size x asked = ap (piece_at start size) (place_here x asked x.ticket refl)

-- some read is sought
pub busy_sought : (start size : ℕ) (ps : List Pending) (asked : List Sought) → pending_of ps ≡ pieces_of start size asked → 0 < length asked
    → IsBusy (pending_of ps)
busy_sought start size ps [] same some = absurd (omega (arith, some))
busy_sought start size ps (x ∷ asked) same some = record {
  ticket = x.ticket;
  request = piece start size x.at;
  is = ap (λ (f : ℕ → Option Begun). f x.ticket) same ∙ piece_first start size x asked;
}

-- a message that settles nothing
pub midway_step : (minor start size next : ℕ) (asked : List Sought) (bytes : List ℕ) (res : Settlement) (s t u : Table) (before between after : List Told)
    (was mid is : Truth) → Midway minor start size next asked bytes s t before between was mid → pending_of u.pending ≡ pending_of t.pending
    → 0 < length asked → t.given_up ≡ false → Steps res t u between after mid is
    → Midway minor start size next asked bytes s u before after was is
unfolding steps_further
midway_step minor start size next asked bytes res s t u before between after was mid is m stays some live x =
    midway_on minor start size next next asked asked bytes bytes s t u before between after was mid is m
    (steps_further minor start size asked asked res t u between after mid is m.pending (stays ∙ m.pending)
    (busy_sought start size t.pending asked m.pending some) live x)
    (stays ∙ m.pending) m.distinct m.within
    (λ marks h k lt un.
    let old = marks_after m.went.acts marks in
    let c = x.closing old (m.went.follows marks h).agrees in
    filled_on t.pending u.pending marks old (grown x.posts (received x.message old)) (start + k) (slice_index bytes k) c.reads
    (λ image tr. true_step x.posts x.message image old x.only_posts tr)
    (nothing_left start size t.pending asked (start + k) t.numbers.distinct m.pending un) (m.filled marks h k lt un))
    (λ marks h.
    let old = marks_after m.went.acts marks in
    let c = x.closing old (m.went.follows marks h).agrees in
    elsewhere_on start size next t.pending u.pending asked marks old (grown x.posts (received x.message old)) t.numbers.distinct m.pending m.within c.reads
    (m.elsewhere marks h))
    (λ marks h unread.
    let old = marks_after m.went.acts marks in
    let c = x.closing old (m.went.follows marks h).agrees in
    goes_on start size next t.pending u.pending asked old (grown x.posts (received x.message old)) t.numbers.distinct m.pending m.within c.reads
    (m.goes marks h unread))

-- a read is settled: its bytes stand in their places
pub midway_read : (minor start size next n : ℕ) (asked : List Sought) (got bytes then : List ℕ) (s t u : Table) (before between after : List Told)
    (was mid is : Truth) → Midway minor start size next asked bytes s t before between was mid → length bytes ≡ size
    → PutsAt (place_of asked n) got bytes then
    → 0 < length asked → t.given_up ≡ false → Steps (settled.Read n got) t u between after mid is
    → Midway minor start size next (without_ticket n asked) then s u before after was is
unfolding steps_further
midway_read minor start size next n asked got bytes then s t u before between after was mid is m many puts some live x =
    midway_on minor start size next next asked (without_ticket n asked) bytes then s t u before between after was mid is m
    (steps_further minor start size asked (without_ticket n asked) (settled.Read n got) t u between after mid is m.pending now
    (busy_sought start size t.pending asked m.pending some) live x)
    now (distinct_gone asked n m.distinct) (before_gone size next asked n m.within) filled
    (λ marks h.
    let old = marks_after m.went.acts marks in
    let c = x.closing old (m.went.follows marks h).agrees in
    elsewhere_on start size next t.pending u.pending asked marks old (grown x.posts (received x.message old)) t.numbers.distinct m.pending m.within c.reads
    (m.elsewhere marks h))
    (λ marks h unread.
    let old = marks_after m.went.acts marks in
    let c = x.closing old (m.went.follows marks h).agrees in
    goes_on start size next t.pending u.pending asked old (grown x.posts (received x.message old)) t.numbers.distinct m.pending m.within c.reads
    (m.goes marks h unread))
  where
    now : pending_of u.pending ≡ pieces_of start size (without_ticket n asked)
    now = x.closes.3 ∙ ap (λ (f : ℕ → Option Begun). put f n None) m.pending ∙ sym (pieces_gone start size asked n m.distinct)

    there : (at : ℕ) × (place_of asked n ≡ Some at) × (piece start size at ≡ x.closes.0)
    there = piece_there start size n x.closes.0 asked (sym (ap (λ (f : ℕ → Option Begun). f n) m.pending) ∙ x.closes.1)

    at : ℕ
    at = there.0

    put_there : PutsPiece at got bytes then
    put_there = subst (λ (o : Option ℕ). PutsAt o got bytes then) there.1 puts

    from : start + at ≡ x.closes.0.start
    from = ap (λ (r : Begun). r.start) there.2

    size_is : piece_size size at ≡ x.closes.0.size
    size_is = ap (λ (r : Begun). r.size) there.2

    some_same : {a b : Begun} → Some a ≡ Some b → a ≡ b
    some_same e = cc

    filled : (marks : List Mark) → Agrees s marks
        → AreFilled start next (pieces_of start size (without_ticket n asked)) then marks (grown x.posts (received x.message (marks_after m.went.acts marks)))
    filled marks h k lt un = elim (leb_tells at k) [
      | inl a ↦ elim (leb_tells (at + piece_size size at) k) [ inl b ↦ outside (inr b.1) | inr b ↦ inside a.1 b.1 ]
      | inr a ↦ outside (inl a.1)
    ]
      where
        old : List Mark
        old = marks_after m.went.acts marks

        more : List Mark
        more = grown x.posts (received x.message old)

        c : Closing (settled.Read n got) t.pending u.pending old more
        c = x.closing old (m.went.follows marks h).agrees

        inside : at ≤ k → k < at + piece_size size at → IsFilled marks more (start + k) (slice_index then k)
        inside low high =
            let j = k - at in
            let within : j < piece_size (length bytes) at = rw many (omega (arith, low, high)) in
            let less : j < x.closes.0.size = omega (arith, low, high, size_is) in
            let place : x.closes.0.start + j ≡ start + k = omega (arith, low, from) in
            let index : at + j ≡ k = omega (arith, low) in
            let byte : slice_index then k ≡ slice_index got j = ap (slice_index then) (sym index) ∙ put_there.inside j within in
            let r = c.joins x.closes.0 x.closes.1 j less in
            let w : WasRead more (start + k) (slice_index got j) = subst (λ (p : ℕ). WasRead more p (slice_index got j)) place r in
            record {
              read = (byte ∙ w.0, w.1);
              is_disk = λ image tr sure.
                  let d = (c.moves image tr).tells x.closes.0 x.closes.1 j less in
                  let l = last_leaves image tr in
                  byte ∙ d (ap (λ (p : ℕ). unsure more p) place ∙ l.sure (start + k) sure)
                  ∙ ap (λ (p : ℕ). disk_after image more p) place ∙ l.disk (start + k);
            }
          where
            last_leaves : (image : Contents) → HasTrueReplies image more → LeavesDisk image marks more
            last_leaves image tr =
                leaves_both image marks old more (m.went.leaves image marks h (true_step x.posts x.message image old x.only_posts tr))
                (leaves_quiet image old more (pending_of t.pending) (quiet_pieces start size t.pending asked m.pending) (c.moves image tr).spares)

        outside : (k < at) ⊎ (at + piece_size size at ≤ k) → IsFilled marks more (start + k) (slice_index then k)
        outside out =
            let same : slice_index then k ≡ slice_index bytes k = put_there.outside k (subst (λ (z : ℕ). (k < at) ⊎ (at + piece_size z at ≤ k)) (sym many) out) in
            subst (λ (b : ℕ). IsFilled marks more (start + k) b) (sym same)
            (filled_on t.pending u.pending marks old more (start + k) (slice_index bytes k) c.reads
            (λ image tr. true_step x.posts x.message image old x.only_posts tr)
            (nothing_left start size t.pending asked (start + k) t.numbers.distinct m.pending before_too) (m.filled marks h k lt before_too))
          where
            before_too : IsUntouched (pieces_of start size asked) (start + k)
            before_too = record {
              none = λ q r is touch. elim (cases_eq q n) [
                | inl e ↦
                    let same : r ≡ piece start size at = some_same (sym is ∙ ap (pieces_of start size asked) e
                    ∙ ap (piece_at start size) there.1) in
                    let f : r.start ≡ start + at = ap (λ (b : Begun). b.start) same in
                    let z : r.size ≡ piece_size size at = ap (λ (b : Begun). b.size) same in
                    elim out [ inl o ↦ omega (arith, o, f, touch.from) | inr o ↦ omega (arith, o, f, z, touch.to) ]
                | inr e ↦ un.none q r (ap (piece_at start size) (place_stays asked n q e) ∙ is) touch
              ];
            }

-- where no ticket names a request, none is pending
cleared : (ps : List Pending) → ((t : ℕ) → pending_of ps t ≡ None) → ps ≡ []
cleared [] h = refl
cleared (p ∷ ps) h = absurd (nothing (sym (h p.ticket) ∙ pending_here p ps p.ticket refl)) where
  nothing : {r : Begun} → None ≡ Some r → ⊥
  nothing e = cc

-- what was read below a range is elsewhere
below_of : (start end : ℕ) (marks more : List Mark) → KeepsElsewhere start end marks more → KeepsBelow start marks more
below_of start end marks more k = record { each = λ place lt. k.each place (inl lt) }

-- what is outside the whole range is outside its front
wider : (start next size : ℕ) (marks more : List Mark) → next ≤ size → KeepsElsewhere start (start + next) marks more
    → KeepsElsewhere start (start + size) marks more
wider start next size marks more le k = record { each = λ place out. k.each place (narrow place out) } where
  narrow : (place : ℕ) → (place < start) ⊎ (start + size ≤ place) → (place < start) ⊎ (start + next ≤ place)
  narrow place (inl o) = inl o
  narrow place (inr o) = inr (omega (arith, o, le))

-- all is read
pub range_done : (minor start size next : ℕ) (bytes : List ℕ) (s u : Table) (before after : List Told) (was is : Truth) (asked : List Sought)
    → Midway minor start size next asked bytes s u before after was is → length asked ≡ 0 → size ≤ next → next ≤ size
    → took_end after ≡ false → u.given_up ≡ false → ReadsRange (Ok tt) minor start size bytes s u before after was is
range_done minor start size next bytes s u before after was is (a ∷ asked) m none all within unended live = absurd (omega (arith, none))
range_done minor start size next bytes s u before after was is [] m none all within unended live = record {
  went = m.went;
  below = λ marks h unread. below_of start (start + next) marks (marks_after m.went.acts marks) (m.elsewhere marks h);
  beyond = λ marks h unread. record { each = λ place le. (m.goes marks h unread).beyond.each place (omega (arith, le, within)) };
  elsewhere = λ marks h. wider start next size marks (marks_after m.went.acts marks) within (m.elsewhere marks h);
  end = (
    unended,
    live,
    cleared u.pending (λ t. ap (λ (f : ℕ → Option Begun). f t) m.pending),
    λ marks h k lt. m.filled marks h k (omega (arith, lt, all)) (record { none = λ t r is touch. cc }),
  );
}

-- something is left of a pending read
first_left : (ps : List Pending) → IsBusy (pending_of ps) → AllAsk ps → (place : ℕ) × IsLeft ps place
first_left [] b a = absurd (nothing b.is) where
  nothing : {r : Begun} → None ≡ Some r → ⊥
  nothing e = cc
first_left (p ∷ ps) b a = (p.request.position, inl (omega arith, omega (arith, p.end, a.0)))

-- where a read is pending, some byte wasn't read
pub cut_short : (minor start size next : ℕ) (asked : List Sought) (bytes : List ℕ) (s u : Table) (before after : List Told) (was is : Truth)
    (m : Midway minor start size next asked bytes s u before after was is) → 0 < length asked → next ≤ size
    → (marks : List Mark) → Agrees s marks → IsUnread start marks → IsCutShort start size (marks_after m.went.acts marks)
cut_short minor start size next asked bytes s u before after was is m some within marks h unread =
    let g = m.goes marks h unread in
    let f = first_left u.pending (busy_sought start size u.pending asked m.pending some) g.asks in
    let b = left_within start size next u.pending asked f.0 u.numbers.distinct m.pending m.within f.1 in
    record { place = f.0; from = b.0; to = omega (arith, b.1, within); unread = g.left f.0 f.1 }

-- the device is given up
pub range_given_up : (minor start size next : ℕ) (asked : List Sought) (bytes : List ℕ) (s u : Table) (before after : List Told) (was is : Truth)
    → Midway minor start size next asked bytes s u before after was is → 0 < length asked → next ≤ size
    → took_end after ≡ false → u.given_up ≡ true → ReadsRange (Err GaveUp) minor start size bytes s u before after was is
range_given_up minor start size next asked bytes s u before after was is m some within unended gone = record {
  went = m.went;
  below = λ marks h unread. below_of start (start + next) marks (marks_after m.went.acts marks) (m.elsewhere marks h);
  beyond = λ marks h unread. record { each = λ place le. (m.goes marks h unread).beyond.each place (omega (arith, le, within)) };
  elsewhere = λ marks h. wider start next size marks (marks_after m.went.acts marks) within (m.elsewhere marks h);
  end = (unended, gone, cut_short minor start size next asked bytes s u before after was is m some within);
}

-- the link ends
pub range_ended : (minor start size next : ℕ) (asked : List Sought) (bytes : List ℕ) (s u : Table) (before after : List Told) (was is : Truth)
    → Midway minor start size next asked bytes s u before after was is → 0 < length asked → next ≤ size
    → took_end after ≡ true → u.given_up ≡ false → ReadsRange (Err Ended) minor start size bytes s u before after was is
range_ended minor start size next asked bytes s u before after was is m some within ended live = record {
  went = m.went;
  below = λ marks h unread. below_of start (start + next) marks (marks_after m.went.acts marks) (m.elsewhere marks h);
  beyond = λ marks h unread. record { each = λ place le. (m.goes marks h unread).beyond.each place (omega (arith, le, within)) };
  elsewhere = λ marks h. wider start next size marks (marks_after m.went.acts marks) within (m.elsewhere marks h);
  end = (ended, live, cut_short minor start size next asked bytes s u before after was is m some within);
}

-- no memory
pub range_none : (minor start size : ℕ) (bytes : List ℕ) (t : Table) (told : List Told) (was : Truth) → t.pending ≡ []
    → ReadsRange (Err OutOfMemory) minor start size bytes t t told told was was
unfolding went_none
range_none minor start size bytes t told was none = record {
  went = went_none minor t told was none;
  below = λ marks h unread. record { each = λ place lt. (refl, refl) };
  beyond = λ marks h unread. record { each = λ place le. unread.each place (omega (arith, le)) };
  elsewhere = λ marks h. record { each = λ place out. (refl, refl) };
  end = (refl, refl);
}

-- where nothing was begun all is as before
pub midway_same : {L : Type 0} (link : LinkWords L) (minor start size next : ℕ) (asked more : List Sought) (bytes : List ℕ) (s : Table)
    (old new : Transfers L) (before : List Told) (was : Truth) → new ≡ old → more ≡ asked
    → Midway minor start size next asked bytes s (table_of old) before (link.history (link_of old)) was (link.truth (link_of old))
    → Midway minor start size next more bytes s (table_of new) before (link.history (link_of new)) was (link.truth (link_of new))
midway_same {L} link minor start size next asked more bytes s old new before was same sought m =
    subst (λ (n : Transfers L). Midway minor start size next more bytes s (table_of n) before (link.history (link_of n)) was (link.truth (link_of n))) (sym same)
    (subst (λ (a : List Sought). Midway minor start size next a bytes s (table_of old) before (link.history (link_of old)) was (link.truth (link_of old))) (sym sought) m)

-- putting bytes into their places keeps the length
pub puts_length : (o : Option ℕ) (got before after : List ℕ) → PutsAt o got before after → length after ≡ length before
puts_length None got before after e = ap length e
puts_length (Some at) got before after p = p.same_length

-- tests against 0
pub none_is : (n : ℕ) → (n == 0) ≡ true → n ≡ 0
none_is n e = grind (arith, nat_tests)

pub some_is : (n : ℕ) → (n == 0) ≡ false → 0 < n
some_is n e = grind (arith, nat_tests)

-- nothing was asked for yet
pub midway_first : (minor start size : ℕ) (asked : List Sought) (bytes : List ℕ) (t : Table) (told : List Told) (was : Truth) → asked ≡ [] → t.pending ≡ []
    → Midway minor start size 0 asked bytes t t told told was was
midway_first minor start size asked bytes t told was e none =
    subst (λ (a : List Sought). Midway minor start size 0 a bytes t t told told was was) (sym e) (midway_none minor start size bytes t told was none)

-- a read is settled
pub midway_put : (minor start size next n : ℕ) (asked more : List Sought) (got bytes then : List ℕ) (s t u : Table) (before between after : List Told)
    (was mid is : Truth) → Midway minor start size next asked bytes s t before between was mid → more ≡ without_ticket n asked → length bytes ≡ size
    → PutsAt (place_of asked n) got bytes then
    → 0 < length asked → t.given_up ≡ false → Steps (settled.Read n got) t u between after mid is
    → Midway minor start size next more then s u before after was is
midway_put minor start size next n asked more got bytes then s t u before between after was mid is m left many puts some live x =
    subst (λ (a : List Sought). Midway minor start size next a then s u before after was is) (sym left)
    (midway_read minor start size next n asked got bytes then s t u before between after was mid is m many puts some live x)

-- no write is pending
pub midway_unwritten : (minor start size next n : ℕ) (asked : List Sought) (bytes given : List ℕ) (r : Begun) (s t : Table) (before between : List Told) (was mid : Truth)
    → Midway minor start size next asked bytes s t before between was mid → pending_of t.pending n ≡ Some r → r.written ≡ Some given → ⊥
midway_unwritten minor start size next n asked bytes given r s t before between was mid m is writes =
    no_write start size asked n r given (sym (ap (λ (f : ℕ → Option Begun). f n) m.pending) ∙ is) writes

-- where nothing is sought and nothing could be begun, all was asked for
pub all_asked : (minor start size next : ℕ) (asked more : List Sought) (bytes : List ℕ) (s t : Table) (before between : List Told) (was mid : Truth)
    → Midway minor start size next asked bytes s t before between was mid → more ≡ asked → length more ≡ 0
    → (size ≤ next) ⊎ ((16 ≤ length asked) ⊎ IsBusy (pending_of t.pending)) → size ≤ next
all_asked minor start size next asked more bytes s t before between was mid m same none why = elim why [
  | inl le ↦ le
  | inr w ↦ elim w [
    | inl full ↦ absurd (let e = ap (λ (a : List Sought). length a) same in omega (arith, e, none, full))
    | inr b ↦ absurd (idle asked m.pending (ap (λ (a : List Sought). length a) (sym same) ∙ none) b)
  ]
]
  where
    nothing : {r : Begun} → None ≡ Some r → ⊥
    nothing e = cc

    idle : (a : List Sought) → pending_of t.pending ≡ pieces_of start size a → length a ≡ 0 → IsBusy (pending_of t.pending) → ⊥
    idle [] p e b = nothing (sym (ap (λ (f : ℕ → Option Begun). f b.ticket) p) ∙ b.is)
    idle (x ∷ a) p e b = omega (arith, e)

-- what is the same where nothing was begun
pub live_same : {L : Type 0} (old new : Transfers L) → new ≡ old → (table_of old).given_up ≡ false → (table_of new).given_up ≡ false
live_same {L} old new e h = ap (λ (x : Transfers L). (table_of x).given_up) e ∙ h

pub unended_same : {L : Type 0} (link : LinkWords L) (old new : Transfers L) → new ≡ old → took_end (link.history (link_of old)) ≡ false
    → took_end (link.history (link_of new)) ≡ false
unended_same {L} link old new e h = ap (λ (x : Transfers L). took_end (link.history (link_of x))) e ∙ h

pub ids_same : {L : Type 0} (old new : Transfers L) → new ≡ old → (table_of new).ids ≡ (table_of old).ids
ids_same {L} old new e = ap (λ (x : Transfers L). (table_of x).ids) e
