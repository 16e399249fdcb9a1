-- What a message does to agreement with the record.
use Rattle.std.proofs.Common.{◌≡◌, ℕ, ◌+◌, List, [], ◌∷◌, ◌++◌, Bool, true, false, cond, refl, sym, ◌∙◌, ap, Some, None}
use Rattle.std.specs.Prelude.{◌||◌}
use Rattle.message.specs.declared.endpoint.Endpoint.{Endpoint}
use Rattle.message.specs.declared.BlockReply.{BlockReply}
use Rattle.message.specs.declared.Incoming.{Incoming}
use Rattle.message.specs.declared.Incoming.TheVariants as incoming
use Rattle.records.specs.Marks.{Mark, Started, Flush, GaveUp, gave_up}
use Rattle.records.specs.Disk.{Contents, unsure, disk_after}
use Rattle.records.specs.Told.{Told, Complained, received, grown, took_end, took_nothing}
use Rattle.records.specs.Settled.{PostsReads}
use Rattle.reissue.specs.declared.pending.Pending.{Pending}
use Rattle.reissue.specs.declared.table.Table.{Table}
use Rattle.reissue.specs.declared.table.AnswerEffect.{AnswerEffect}
use Rattle.reissue.specs.declared.table.AnswerEffect.TheVariants as answer
use Rattle.reissue.specs.Settlements.{Settlement}
use Rattle.reissue.specs.Settlements as settled
use Rattle.records.specs.Opening.{Opening}
use Rattle.reissue.specs.Moves.{Closes}
use Rattle.records.specs.Area.{Area}
use Rattle.reissue.specs.Entries.{pending_of, AllIn}
use Rattle.reissue.specs.Agrees.{Agrees, AllReadDisk}
use Rattle.reissue.specs.Hears.{HearsStart, HearsAnswer, counted_move}
use Rattle.records.specs.Acts.{complaint_due, target}
use Rattle.reissue.specs.Answers.{complaints_about, is_bad, settled_of, complained}
use Rattle.reissue.specs.Closing.{Closing, ReadsOn}
use Rattle.reissue.specs.Calls.{Truth, TakesIn, gives_up}
use Rattle.reissue.proofs.Writes.{wrote_like}
use Rattle.reissue.proofs.Joined.{joined_like}
use Rattle.reissue.proofs.Left.{reads_none}

-- marks that leave the disk and what is sure of it leave what was read true
pub reads_like : (image : Contents) (marks more : List Mark) (ps : List Pending)
    → ((place : ℕ) → unsure more place ≡ unsure marks place)
    → ((place : ℕ) → disk_after image marks place ≡ disk_after image more place)
    → AllReadDisk image marks ps → AllReadDisk image more ps
reads_like image marks more [] u d h = tt
reads_like image marks more (p ∷ ps) u d h = (
  λ is_read. record { each = λ k lt sure. (h.0 is_read).each k lt (sym (u (p.start + k)) ∙ sure) ∙ d (p.start + k) },
  reads_like image marks more ps u d h.1,
)

-- where requests go after a start, given whether the device was given up before
started_target : (t u : Table) (marks : List Mark) (e : Endpoint) (b : Bool) → t.given_up ≡ b → t.given_up ≡ gave_up marks
    → t.current ≡ target marks → u.current ≡ cond b t.current (Some e) → u.current ≡ target (Started e ∷ marks)
started_target t u marks e true g h current new = rw (← h, g) (new ∙ current ∙ rw (← h, g) refl)
started_target t u marks e false g h current new = rw (← h, g) new

-- a start
agrees_started : (t u : Table) (marks : List Mark) (e : Endpoint) → Agrees t marks
    → u.pending ≡ t.pending → u.issued ≡ t.issued → u.ids ≡ t.ids → u.current ≡ cond t.given_up t.current (Some e)
    → u.given_up ≡ t.given_up → Agrees u (Started e ∷ marks)
agrees_started t u marks e h items issued ids current given_up =
    let s = h.holds in
    record {
      opened = h.opened;
      waiting = h.waiting;
      holds = record {
        items = items ∙ s.items;
        issued = issued ∙ s.issued;
        requests = s.requests;
        numbered = s.numbered;
        ids = ids ∙ s.ids;
        well_formed = (s.well_formed, tt);
        current = started_target t u marks e t.given_up refl s.given_up s.current current;
        given_up = given_up ∙ s.given_up;
        apart = s.apart;
        joined = joined_like marks (Started e ∷ marks) (h.opened ++ h.waiting) (λ _ _ h. h) s.joined;
        reads = λ image tr. reads_like image marks (Started e ∷ marks) (h.opened ++ h.waiting) (λ _. refl) (λ _. refl) (s.reads image tr);
        writes = λ image. wrote_like image marks (Started e ∷ marks) (h.opened ++ h.waiting) (λ _. refl) (λ _. refl) (s.writes image);
      };
    }

-- a flush
agrees_flushed : (t : Table) (marks : List Mark) → Agrees t marks → Agrees t (Flush ∷ marks)
agrees_flushed t marks h =
    let s = h.holds in
    record {
      opened = h.opened;
      waiting = h.waiting;
      holds = record {
        items = s.items;
        issued = s.issued;
        requests = s.requests;
        numbered = s.numbered;
        ids = s.ids;
        well_formed = (s.well_formed, tt);
        current = s.current;
        given_up = s.given_up;
        apart = s.apart;
        joined = joined_like marks (Flush ∷ marks) (h.opened ++ h.waiting) (λ _ _ h. h) s.joined;
        reads = λ image tr. reads_like image marks (Flush ∷ marks) (h.opened ++ h.waiting) (λ _. refl) (λ _. refl) (s.reads image tr);
        writes = λ image. wrote_like image marks (Flush ∷ marks) (h.opened ++ h.waiting) (λ _. refl) (λ _. refl) (s.writes image);
      };
    }

-- the device is given up
agrees_gave_up : (t u : Table) (marks : List Mark) → Agrees t marks
    → u.pending ≡ t.pending → u.issued ≡ t.issued → u.ids ≡ t.ids → u.current ≡ None → u.given_up ≡ true → Agrees u (GaveUp ∷ marks)
agrees_gave_up t u marks h items issued ids current given_up =
    let s = h.holds in
    record {
      opened = h.opened;
      waiting = h.waiting;
      holds = record {
        items = items ∙ s.items;
        issued = issued ∙ s.issued;
        requests = s.requests;
        numbered = s.numbered;
        ids = ids ∙ s.ids;
        well_formed = (s.well_formed, tt);
        current = current;
        given_up = given_up;
        apart = s.apart;
        joined = joined_like marks (GaveUp ∷ marks) (h.opened ++ h.waiting) (λ _ _ h. h) s.joined;
        reads = λ image tr. reads_like image marks (GaveUp ∷ marks) (h.opened ++ h.waiting) (λ _. refl) (λ _. refl) (s.reads image tr);
        writes = λ image. wrote_like image marks (GaveUp ∷ marks) (h.opened ++ h.waiting) (λ _. refl) (λ _. refl) (s.writes image);
      };
    }

-- a complaint adds nothing to the record
complaint_silent : (b : Bool) (e : Endpoint) (marks : List Mark) → grown (cond b (Complained e ∷ []) []) marks ≡ marks
complaint_silent true e marks = refl
complaint_silent false e marks = refl

-- it takes no message
complaint_quiet : (b : Bool) (e : Endpoint) → took_nothing (cond b (Complained e ∷ []) []) ≡ true
complaint_quiet true e = refl
complaint_quiet false e = refl

-- it asks for nothing
complaint_unasked : (b : Bool) (e : Endpoint) → PostsReads (cond b (Complained e ∷ []) [])
complaint_unasked true e = tt
complaint_unasked false e = tt

-- nor does it end anything
complaint_ends_none : (b : Bool) (e : Endpoint) (before : List Told) → took_end (cond b (Complained e ∷ []) [] ++ before) ≡ took_end before
complaint_ends_none true e before = refl
complaint_ends_none false e before = refl

-- no answer gives the device up
reply_gives_none_up : (r : AnswerEffect) (bytes : List ℕ) → gives_up (settled_of r bytes) ≡ false
reply_gives_none_up answer.Dropped bytes = refl
reply_gives_none_up answer.Bad bytes = refl
reply_gives_none_up answer.Rest bytes = refl
reply_gives_none_up (answer.Read t) bytes = refl
reply_gives_none_up (answer.Written t) bytes = refl

-- a reply
pub takes_reply : (message : Incoming) (a : BlockReply) (r : AnswerEffect) (bytes : List ℕ) (t u : Table) (before after : List Told) (was is : Truth)
    → message ≡ incoming.Reply a
    → ((marks : List Mark) → Agrees t marks → Agrees u (received (incoming.Reply a) marks))
    → ((marks : List Mark) → Agrees t marks → HearsAnswer t u a.id (counted_move marks a))
    → ((marks : List Mark) → Agrees t marks → complained r a ≡ complaints_about (complaint_due a marks))
    → Closes (settled_of r bytes) (pending_of t.pending) (pending_of u.pending)
    → ((marks : List Mark) → Agrees t marks → Closing (settled_of r bytes) t.pending u.pending marks (received (incoming.Reply a) marks))
    → ((area : Area) → AllIn area t.pending → AllIn area u.pending)
    → u.current ≡ t.current → u.given_up ≡ t.given_up
    → after ≡ complained r a ++ before
    → ((opening : Opening) (marks : List Mark) → was opening marks → is opening marks)
    → TakesIn message (settled_of r bytes) t u before after was is
takes_reply message a r bytes t u before after was is same agrees hears due closes closing minors current up told truth =
    rw same (record {
      given_up = up ∙ ap (λ (b : Bool). b || t.given_up) (sym (reply_gives_none_up r bytes));
      ended = ap took_end told ∙ complaint_ends_none (is_bad r) a.from before;
      complaints = complained r a;
      history = told;
      quiet = complaint_quiet (is_bad r) a.from;
      unasked = complaint_unasked (is_bad r) a.from;
      silent = λ marks. complaint_silent (is_bad r) a.from marks;
      due = due;
      hears = λ marks h. (hears marks h, current);
      agrees = agrees;
      closes = closes;
      closing = closing;
      minors = minors;
      truth = truth;
    })

-- the disk and what is sure stay
closing_same : (result : Settlement) (ps us : List Pending) (marks more : List Mark)
    → ((image : Contents) (p : ℕ) → disk_after image more p ≡ disk_after image marks p) → ((p : ℕ) → unsure more p ≡ unsure marks p)
    → ReadsOn ps us marks more → Closing settled.Nothing ps us marks more
closing_same result ps us marks more d u on = record {
  moves = λ image tr. record { spares = record { disk = λ p q. d image p; sure = λ p q s. u p ∙ s }; tells = tt };
  joins = tt;
  leaves = tt;
  reads = on;
}

-- what a start does, given whether the device was given up before
started_hears : (t u : Table) (e : Endpoint) (b : Bool) → u.pending ≡ t.pending → u.ids ≡ t.ids
    → u.posted ≡ cond b t.posted 0 → u.issued ≡ t.issued → u.current ≡ cond b t.current (Some e) → (b ≡ true → t.current ≡ None) → HearsStart t u e b
started_hears t u e true items ids posted issued current none = (record { pending = items; ids = ids; posted = posted; issued = issued }, current ∙ none refl)
started_hears t u e false items ids posted issued current none = (items, ids, posted, issued, current)

-- once the device was given up there is nowhere to post to
pub nowhere : (t : Table) (marks : List Mark) → Agrees t marks → t.given_up ≡ true → t.current ≡ None
nowhere t marks h g = h.holds.current ∙ rw (← h.holds.given_up, g) refl

-- a start
pub takes_started : (message : Incoming) (e : Endpoint) (t u : Table) (history : List Told) (was : Truth)
    → message ≡ incoming.Started e
    → u.pending ≡ t.pending → u.posted ≡ cond t.given_up t.posted 0 → u.issued ≡ t.issued → u.ids ≡ t.ids
    → u.current ≡ cond t.given_up t.current (Some e) → u.given_up ≡ t.given_up
    → TakesIn message settled.Nothing t u history history was was
takes_started message e t u history was is items posted issued ids current given_up =
    rw is (record {
      given_up = given_up;
      ended = refl;
      complaints = [];
      history = refl;
      quiet = refl;
      unasked = tt;
      silent = λ _. refl;
      due = λ _ _. refl;
      hears = λ marks h. started_hears t u e t.given_up items ids posted issued current (nowhere t marks h);
      agrees = λ marks h. agrees_started t u marks e h items issued ids current given_up;
      closes = ap pending_of items;
      closing = λ marks h. closing_same settled.Nothing t.pending u.pending marks (Started e ∷ marks) (λ _ _. refl) (λ _. refl)
          (reads_none t.pending u.pending marks (Started e ∷ marks) items (λ _. refl) (λ _. refl));
      minors = λ area h. rw items h;
      truth = λ opening marks k. k;
    })

-- a flush
pub takes_flush : (message : Incoming) (t : Table) (history : List Told) (was : Truth) → message ≡ incoming.Flush
    → TakesIn message settled.Flush t t history history was was
takes_flush message t history was is =
    rw is (record {
      given_up = refl;
      ended = refl;
      complaints = [];
      history = refl;
      quiet = refl;
      unasked = tt;
      silent = λ _. refl;
      due = λ _ _. refl;
      hears = λ marks h. (record { pending = refl; ids = refl; posted = refl; issued = refl }, refl);
      agrees = λ marks h. agrees_flushed t marks h;
      closes = refl;
      closing = λ marks h. record { moves = λ image tr. record { spares = record { disk = λ p q. refl; sure = λ p q s. s }; tells = tt }; joins = tt; leaves = tt; reads = reads_none t.pending t.pending marks (Flush ∷ marks) refl (λ _. refl) (λ _. refl) };
      minors = λ area h. h;
      truth = λ opening marks k. k;
    })

-- the device is given up
pub takes_gave_up : (message : Incoming) (t u : Table) (history : List Told) (was : Truth) → message ≡ incoming.GaveUp
    → u.pending ≡ t.pending → u.posted ≡ t.posted → u.issued ≡ t.issued → u.ids ≡ t.ids → u.current ≡ None → u.given_up ≡ true
    → TakesIn message settled.GaveUp t u history history was was
takes_gave_up message t u history was is items posted issued ids current given_up =
    rw is (record {
      given_up = given_up;
      ended = refl;
      complaints = [];
      history = refl;
      quiet = refl;
      unasked = tt;
      silent = λ _. refl;
      due = λ _ _. refl;
      hears = λ marks h. (record { pending = items; ids = ids; posted = posted; issued = issued }, current);
      agrees = λ marks h. agrees_gave_up t u marks h items issued ids current given_up;
      closes = ap pending_of items;
      closing = λ marks h. record { moves = λ image tr. record { spares = record { disk = λ p q. refl; sure = λ p q s. s }; tells = tt }; joins = tt; leaves = tt; reads = reads_none t.pending u.pending marks (GaveUp ∷ marks) items (λ _. refl) (λ _. refl) };
      minors = λ area h. rw items h;
      truth = λ opening marks k. k;
    })

-- nothing comes any more
pub takes_end : (message : Incoming) (t : Table) (history : List Told) (was : Truth) → message ≡ incoming.End
    → TakesIn message settled.End t t history history was was
takes_end message t history was is =
    rw is (record {
      given_up = refl;
      ended = refl;
      complaints = [];
      history = refl;
      quiet = refl;
      unasked = tt;
      silent = λ _. refl;
      due = λ _ _. refl;
      hears = λ marks h. (record { pending = refl; ids = refl; posted = refl; issued = refl }, refl);
      agrees = λ marks h. h;
      closes = refl;
      closing = λ marks h. record { moves = λ image tr. record { spares = record { disk = λ p q. refl; sure = λ p q s. s }; tells = tt }; joins = tt; leaves = tt; reads = reads_none t.pending t.pending marks marks refl (λ _. refl) (λ _. refl) };
      minors = λ area h. h;
      truth = λ opening marks k. k;
    })
