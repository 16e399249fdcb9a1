-- A server's volume, read back through its link.
use Rattle.std.proofs.Common.{◌≡◌, ℕ, List, [], ◌∷◌, ◌++◌, refl, sym, subst, ◌∙◌, Result, Ok, Err}
use Rattle.std.specs.Prelude.{OnOk}
use Rattle.tree.specs.declared.Who.{Who}
use Rattle.tree.specs.declared.Call.{Call}
use Rattle.tree.specs.Answers.{Answer}
use Rattle.tree.specs.Tree.{Tree}
use Rattle.records.specs.Marks.{Mark, Took}
use Rattle.records.specs.Opening.{contents_at}
use Rattle.records.specs.ServerCall.{Outcome, Replied, with_outcome}
use Rattle.records.specs.ServerCall as server_call
use Rattle.reissue.proofs.Writes.{wrote_like}
use Rattle.reissue.proofs.Joined.{joined_like}
use Rattle.records.specs.Disk.{Contents}
use Rattle.records.specs.Told.{Told, grown, took_end}
use Rattle.reissue.specs.declared.link.Link.{Ghosts as LinkWords}
use Rattle.reissue.specs.Agrees.{Agrees, AllReadDisk}
use Rattle.reissue.specs.declared.pending.Pending.{Pending}
use Rattle.reissue.specs.declared.table.Table.{Table}
use Rattle.reissue.specs.declared.transfers.Transfers.{Transfers}
use Rattle.reissue.specs.Transfers.{link_of, table_of}
use Rattle.cached_blocks.specs.declared.Stored.{Stored}
use Rattle.volume_reading.specs.declared.reading.Stop.{Stop}
use Rattle.volume_reading.specs.declared.reading.Stop.TheVariants as stop
use Rattle.volume_reading.specs.declared.place.Place.{Place}
use Rattle.volume_reading.specs.Pieces.{HaveBytes, Piece}
use Rattle.volume_reading.specs.Places.{AreAt}
use Rattle.volume_reading.specs.ReadBack.{AreFor, IsOver, IsBack, AreBack, ReadsBack as RangeReadsBack}
use Rattle.volume_reading.proofs.Pieces.{have_map}
use Rattle.file_server.specs.Back.{AgreesUpToCall, IsReadBack, ReadsBack, is_cut, is_given_up}
use Rattle.file_server.specs.declared.ReadEnd.{ReadEnd}
use Rattle.file_server.specs.declared.ReadEnd.TheVariants.{Read, GivenUp, Cut}
use Rattle.vfs.specs.declared.server.Server.{Server}
use Rattle.vfs.specs.OverLink.{IsReadyOver, caching_of, line_of, serving_over, transfers_of}
use Rattle.vfs.specs.Back.{end_of}

-- how it ended, by what the link and the table say then
ended_so : (result : Result (Unit {0}) Stop) (t : Table) (after : List Told) → IsOver result t after → took_end after ≡ is_cut (end_of result)
ended_so (Ok u) t after over = over.0
ended_so (Err stop.GaveUp) t after over = over.0
ended_so (Err stop.Ended) t after over = over.0
ended_so (Err stop.OutOfMemory) t after over = absurd over

given_up_so : (result : Result (Unit {0}) Stop) (t : Table) (after : List Told) → IsOver result t after → t.given_up ≡ is_given_up (end_of result)
given_up_so (Ok u) t after over = over.1
given_up_so (Err stop.GaveUp) t after over = over.1
given_up_so (Err stop.Ended) t after over = over.1
given_up_so (Err stop.OutOfMemory) t after over = absurd over

-- what was read is the disk's as well before a call's mark
reads_before : (image : Contents) (marks : List Mark) (who : Who) (now : ℕ) (call : Call) (answer : Answer) (ps : List Pending)
    → AllReadDisk image (Took who now call answer ∷ marks) ps → AllReadDisk image marks ps
reads_before image marks who now call answer [] h = tt
reads_before image marks who now call answer (p ∷ ps) h =
    (λ is. record { each = (h.0 is).each }, reads_before image marks who now call answer ps h.1)

-- the table agrees with a record that a call's mark is taken from
before_took : (t : Table) (marks : List Mark) (who : Who) (now : ℕ) (call : Call) (answer : Answer) → Agrees t (Took who now call answer ∷ marks)
    → Agrees t marks
before_took t marks who now call answer h =
    let s = h.holds in
    let more = Took who now call answer ∷ marks in
    record {
      opened = h.opened;
      waiting = h.waiting;
      holds = record {
        items = s.items;
        issued = s.issued;
        requests = s.requests;
        numbered = s.numbered;
        ids = s.ids;
        well_formed = s.well_formed.0;
        current = s.current;
        given_up = s.given_up;
        apart = s.apart;
        joined = joined_like more marks (h.opened ++ h.waiting) (λ _ _ h. h) s.joined;
        reads = λ image tr. reads_before image marks who now call answer (h.opened ++ h.waiting) (s.reads image tr);
        writes = λ image. wrote_like image more marks (h.opened ++ h.waiting) (λ _. refl) (λ _. refl) (s.writes image);
      };
    }

before_call : (t : Table) (marks : List Mark) (who : Who) (now : ℕ) (call : Call) (outcome : Outcome)
    → Agrees t (with_outcome who now call outcome marks) → Agrees t marks
before_call t marks who now call (Replied answer) h = before_took t marks who now call answer h
before_call t marks who now call server_call.Cut h = h

-- reading it back, by what reading its range says
pub back_over : {L : Type 0} (words : LinkWords L) (s : Server (Stored L)) (t : Transfers L) (result : Result (Unit {0}) Stop) (pieces : List Piece)
    → RangeReadsBack result s.blocks.cache.shape.minor pieces (table_of (transfers_of s)) (table_of t) (words.history (line_of s)) (words.history (link_of t))
    (words.truth (line_of s)) (words.truth (link_of t))
    → ReadsBack (serving_over words s) (end_of result) pieces (words.history (link_of t)) (words.truth (line_of s)) (words.truth (link_of t))
back_over {L} words s t result pieces x = record {
  told = x.told;
  history = x.goes.history;
  ended = ended_so result (table_of t) (words.history (link_of t)) x.over;
  given_up = λ image tree marks a. sym (x.goes.agrees marks (table image tree marks a)).holds.given_up ∙ given_up_so result (table_of t) (words.history (link_of t)) x.over;
  truth = λ v tree marks same a k. x.goes.truth v marks same (table (contents_at v) tree marks a) k;
  leaves = λ settled image tree marks a true. x.goes.leaves (record { none = settled.no_write }) image marks (table image tree marks a) true;
  back = λ is image tree marks a. by result x.back is marks (table image tree marks a);
}
  where
    old : Table
    old = table_of (transfers_of s)

    table : (image : Contents) (tree : Tree) (marks : List Mark) → AgreesUpToCall (serving_over words s) image tree marks → Agrees old marks
    table image tree marks a = before_call old marks a.who a.now a.call a.outcome a.agrees.table

    by : (q : Result (Unit {0}) Stop) → AreBack q pieces old x.told → end_of q ≡ Read → (marks : List Mark) → Agrees old marks
        → HaveBytes (IsReadBack (serving_over words s).settled marks (grown x.told marks)) pieces
    by (Ok u) back is marks h =
        have_map (IsBack old marks (grown x.told marks)) (IsReadBack (serving_over words s).settled marks (grown x.told marks)) pieces (back marks h)
        (λ k b i. record {
          read = i.read;
          is_disk = λ settled image replies sure. i.is_disk (record { none = settled.no_write }) image replies sure;
        })
    by (Err stop.GaveUp) back is marks h = cc
    by (Err stop.Ended) back is marks h = cc
    by (Err stop.OutOfMemory) back is marks h = cc

-- pieces that are at their places if all were read
pub at_places : (result : Result (Unit {0}) Stop) (end : ReadEnd) (places : List Place) (pieces : List Piece) → OnOk result (AreAt places pieces)
    → end ≡ end_of result → end ≡ Read → AreAt places pieces
at_places (Ok u) end places pieces h is read = h
at_places (Err stop.GaveUp) end places pieces h is read = absurd (other (sym is ∙ read)) where
  other : GivenUp ≡ Read → ⊥
  other e = cc
at_places (Err stop.Ended) end places pieces h is read = absurd (other (sym is ∙ read)) where
  other : Cut ≡ Read → ⊥
  other e = cc
at_places (Err stop.OutOfMemory) end places pieces h is read = absurd (other (sym is ∙ read)) where
  other : GivenUp ≡ Read → ⊥
  other e = cc

-- its requests are for its minor
pub are_for : {L : Type 0} (words : LinkWords L) (s : Server (Stored L)) → IsReadyOver words s
    → AreFor s.blocks.cache.shape.minor (table_of (transfers_of s)).pending
are_for words s ready = record { area = (caching_of words s).area; minor_is = refl; all = ready.may.ready.minors }

-- the same by what the parts of the server are
pub are_for_so : {L : Type 0} (words : LinkWords L) (s : Server (Stored L)) (n : ℕ) (t : Transfers L) → n ≡ s.blocks.cache.shape.minor
    → t ≡ transfers_of s → IsReadyOver words s → AreFor n (table_of t).pending
are_for_so {L} words s n t is same ready =
    subst (λ (x : Transfers L). AreFor n (table_of x).pending) (sym same)
    (subst (λ (m : ℕ). AreFor m (table_of (transfers_of s)).pending) (sym is) (are_for words s ready))

pub back_so : {L : Type 0} (words : LinkWords L) (s : Server (Stored L)) (n : ℕ) (t u : Transfers L) (l : L) (result : Result (Unit {0}) Stop) (end : ReadEnd)
    (pieces : List Piece) → n ≡ s.blocks.cache.shape.minor → t ≡ transfers_of s
    → RangeReadsBack result n pieces (table_of t) (table_of u) (words.history (link_of t)) (words.history (link_of u)) (words.truth (link_of t)) (words.truth (link_of u))
    → end ≡ end_of result → l ≡ link_of u
    → ReadsBack (serving_over words s) end pieces (words.history l) (words.truth (line_of s)) (words.truth l)
back_so {L} words s n t u l result end pieces is same x ends at =
    subst (λ (m : L). ReadsBack (serving_over words s) end pieces (words.history m) (words.truth (line_of s)) (words.truth m)) (sym at)
    (subst (λ (e : ReadEnd). ReadsBack (serving_over words s) e pieces (words.history (link_of u)) (words.truth (line_of s)) (words.truth (link_of u))) (sym ends)
    (back_over words s u result pieces
    (subst (λ (y : Transfers L). RangeReadsBack result s.blocks.cache.shape.minor pieces (table_of y) (table_of u) (words.history (link_of y)) (words.history (link_of u))
    (words.truth (link_of y)) (words.truth (link_of u))) same
    (subst (λ (m : ℕ). RangeReadsBack result m pieces (table_of t) (table_of u) (words.history (link_of t)) (words.history (link_of u))
    (words.truth (link_of t)) (words.truth (link_of u))) is x))))
