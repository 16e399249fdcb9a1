-- What the record of a service says once its volume was read back, behind a last sync that was answered ok.
use Rattle.std.proofs.Common.{◌≡◌, ℕ, length, ◌≤◌, ◌<◌, ◌/◌, List, [], ◌∷◌, Bool, true, false, refl, sym, ◌∙◌, ap, subst, arith}
use Rattle.std.specs.Prelude.{◌↔◌, if◌then◌else◌}
use Rattle.std.proofs.lemmas.Bool.{false≢true}
use Rattle.layout.specs.declared.Geometry.{Geometry}
use Rattle.message.specs.declared.BlockReply.{BlockReply}
use Rattle.message.specs.declared.Incoming.{Incoming}
use Rattle.message.specs.declared.Incoming.TheVariants as incoming
use Rattle.tree.specs.declared.Call.{Call}
use Rattle.tree.specs.declared.Call.TheVariants.{Sync}
use Rattle.tree.specs.Tree.{Tree}
use Rattle.tree.specs.Answers.{Answer, done}
use Rattle.volume.specs.Reading.{blocks_of}
use Rattle.volume.specs.Holds.{HoldsVolume}
use Rattle.bdev.specs.DriverState.{DriverState}
use Rattle.reincarnate.specs.declared.policy.Policy.{Policy}
use Rattle.records.specs.Marks.{Mark, Answered, Issued, Took, gave_up, IsBeginning}
use Rattle.records.specs.Open.{counts}
use Rattle.records.specs.Disk.{Contents, HasTrueReplies, disk_after}
use Rattle.records.specs.Acts.{marks_after}
use Rattle.records.specs.Opening.{Opening, contents_at}
use Rattle.records.specs.Told.{Told, Posted, Complained, Received, received, grown}
use Rattle.records.specs.Legal.{IsAtFirst, IsSynced, tree_after, tree_after_answer}
use Rattle.records.specs.ServerCall.{Serving, Serves, Outcome, Replied, Cut}
use Rattle.reissue.specs.declared.link.Link.{Ghosts as LinkWords}
use Rattle.reissue.specs.Calls.{Truth}
use Rattle.reissue.specs.Moves.{WasRead}
use Rattle.changes.specs.Units.{Covers, is_marked}
use Rattle.volume_reading.specs.Reading.{LeavesDisk}
use Rattle.volume_reading.specs.Pieces.{Piece}
use Rattle.volume_reading.proofs.Pieces.{have_map}
use Rattle.file_server.specs.Over.{CallSpecification}
use Rattle.file_server.specs.Back.{AgreesUpToCall, IsReadBack, ReadsBack, is_cut, is_given_up}
use Rattle.file_server.specs.declared.ReadEnd.{ReadEnd}
use Rattle.file_server.specs.declared.ReadEnd.TheVariants as read
use Rattle.board.specs.declared.counting.parameters.ServiceParameters.{Ghosts as RoomWords}
use Rattle.board.specs.Written.{AreWritten, DiskStaysUnwritten, is_written}
use Rattle.board.specs.Keeper.{begins_itself, begins_before, begins_further}
use Rattle.shared_server.specs.Held.{IsHeld}
use Rattle.shared_server.specs.Finishing.{ArePiecesOf, end_of}
use Rattle.shared_server.specs.Stopping.{syncer, SyncEnd, Went, WasNotRead, has_ended, SyncTells, AreOnDisk, IsFinished, IsLastLine}
use Rattle.shared_server.specs.Descriptors.{succeeded}
use Rattle.file_server.specs.Leaving.{IsEndLast}
use Rattle.shared_server.proofs.HeldLaws.{Kept, done_is, kept_if_cut, legal_from, true_before}
use Rattle.shared_server.proofs.StoppingLaws.{acts_go_on, message_goes_on, outcome_tells}

-- a record goes on with what a link was told and gave
told_goes_on : (told : List Told) (marks : List Mark) → IsBeginning marks (grown told marks)
told_goes_on [] marks = begins_itself marks
told_goes_on (Posted to r true ∷ told) marks =
    begins_further marks (grown told marks) _ (told_goes_on told marks) (begins_before (Issued r to) (grown told marks) _ refl)
told_goes_on (Posted to r false ∷ told) marks = told_goes_on told marks
told_goes_on (Complained about ∷ told) marks = told_goes_on told marks
told_goes_on (Received message ∷ told) marks =
    begins_further marks (grown told marks) _ (told_goes_on told marks) (message_goes_on message (grown told marks))

-- replies that are true then were so before
true_if : (b : Bool) (a : BlockReply) (image : Contents) (marks : List Mark) → HasTrueReplies image (if b then Answered a ∷ marks else marks)
    → HasTrueReplies image marks
true_if true a image marks h = h.0
true_if false a image marks h = h

true_received : (message : Incoming) (image : Contents) (marks : List Mark) → HasTrueReplies image (received message marks) → HasTrueReplies image marks
true_received (incoming.Reply a) image marks h = true_if (counts marks a) a image marks h
true_received (incoming.Started e) image marks h = h
true_received incoming.GaveUp image marks h = h
true_received incoming.Flush image marks h = h
true_received incoming.End image marks h = h

true_told : (told : List Told) (image : Contents) (marks : List Mark) → HasTrueReplies image (grown told marks) → HasTrueReplies image marks
true_told [] image marks h = h
true_told (Posted to r true ∷ told) image marks h = true_told told image marks h
true_told (Posted to r false ∷ told) image marks h = true_told told image marks h
true_told (Complained about ∷ told) image marks h = true_told told image marks h
true_told (Received message ∷ told) image marks h = true_told told image marks (true_received message image (grown told marks) h)

-- no call is answered meanwhile
tree_if : (b : Bool) (a : BlockReply) (g : Geometry) (tree : Tree) (marks : List Mark)
    → tree_after g tree (if b then Answered a ∷ marks else marks) ≡ tree_after g tree marks
tree_if true a g tree marks = refl
tree_if false a g tree marks = refl

tree_received : (message : Incoming) (g : Geometry) (tree : Tree) (marks : List Mark) → tree_after g tree (received message marks) ≡ tree_after g tree marks
tree_received (incoming.Reply a) g tree marks = tree_if (counts marks a) a g tree marks
tree_received (incoming.Started e) g tree marks = refl
tree_received incoming.GaveUp g tree marks = refl
tree_received incoming.Flush g tree marks = refl
tree_received incoming.End g tree marks = refl

tree_told : (told : List Told) (g : Geometry) (tree : Tree) (marks : List Mark) → tree_after g tree (grown told marks) ≡ tree_after g tree marks
tree_told [] g tree marks = refl
tree_told (Posted to r true ∷ told) g tree marks = tree_told told g tree marks
tree_told (Posted to r false ∷ told) g tree marks = tree_told told g tree marks
tree_told (Complained about ∷ told) g tree marks = tree_told told g tree marks
tree_told (Received message ∷ told) g tree marks = tree_received message g tree (grown told marks) ∙ tree_told told g tree marks

-- so the sync moves the tree as before, while the device isn't given up
synced_tree : (told : List Told) (g : Geometry) (tree : Tree) (marks : List Mark) → gave_up marks ≡ false → gave_up (grown told marks) ≡ false
    → tree_after g tree (Took syncer 0 Sync done ∷ grown told marks) ≡ tree_after g tree (Took syncer 0 Sync done ∷ marks)
synced_tree told g tree marks live still =
    ap (λ (b : Bool). if b then tree_after g tree (grown told marks) else tree_after_answer g (tree_after g tree (grown told marks)) syncer 0 Sync done) still
    ∙ ap (λ (t : Tree). tree_after_answer g t syncer 0 Sync done) (tree_told told g tree marks)
    ∙ sym (ap (λ (b : Bool). if b then tree_after g tree marks else tree_after_answer g (tree_after g tree marks) syncer 0 Sync done) live)

-- what was synced is so still
synced_still : (g : Geometry) (image : Contents) (marks more : List Mark) (now later : Tree) → LeavesDisk image marks more → now ≡ later
    → IsSynced g image marks now → IsSynced g image more later
synced_still g image marks more now later leaves same s = record {
  sure = record { each = λ place. leaves.sure place (s.sure.each place) };
  holds = subst (λ (t : Tree). HoldsVolume g (blocks_of g (disk_after image more)) t) same
      (subst (λ (disk : Contents). HoldsVolume g (blocks_of g disk) now) (λ i place. sym (leaves.disk place) i) s.holds);
}

-- A server that answered a last sync ok, and the record that its link guarantees.
pub record WasSynced (s : Serving) (truth : Truth) (g : Geometry) (v : Opening) (seen marks : List Mark) : Type 0 where
  pub minor : v.minor ≡ s.minor
  pub own : Tree
  pub knows : AgreesUpToCall s (contents_at v) own marks
  pub guaranteed : truth v marks
  pub goes_on : IsBeginning seen marks
  pub tells : (tree : Tree) → IsAtFirst g (contents_at v) tree → SyncTells Went g v tree marks
  pub at_first : HasTrueReplies (contents_at v) marks → IsAtFirst g (contents_at v) own
  pub settled : HasTrueReplies (contents_at v) marks → s.settled

-- the units are marked in which writes have bytes, and in those of a range of this size that aren't the disk is as it was handed in
abbrev IsSameElsewhere : Opening → ℕ → List Mark → List Bool → Type 0
IsSameElsewhere v size marks units =
    AreWritten units marks × ((k : ℕ) → k < size → is_marked units (k / 4096) ≡ false → disk_after (contents_at v) marks k ≡ contents_at v k)

-- what the record says once all was read back, or not all
module _ (s : Serving) (end : ReadEnd) (pieces : List Piece) (after : List Told) (was is : Truth) (g : Geometry) (v : Opening) (seen marks : List Mark)
    (k : WasSynced s was g v seen marks) (x : ReadsBack s end pieces after was is) where
  abbrev more : List Mark
  more = grown x.told marks

  true_then : HasTrueReplies (contents_at v) more → HasTrueReplies (contents_at v) marks
  true_then tr = true_told x.told (contents_at v) marks tr

  gone : gave_up more ≡ is_given_up end
  gone = x.given_up (contents_at v) k.own marks k.knows

  pub back_tells : (e : ReadEnd) → e ≡ end → (tree : Tree) → IsAtFirst g (contents_at v) tree → SyncTells (end_of e) g v tree more
  back_tells read.Read same tree first =
      let still : gave_up more ≡ false = gone ∙ sym (ap is_given_up same) in
      let tells = k.tells tree first in (
        still,
        λ true.
            synced_still g (contents_at v) marks more (tree_after g tree (Took syncer 0 Sync done ∷ marks)) (tree_after g tree (Took syncer 0 Sync done ∷ more))
            (x.leaves (k.settled (true_then true)) (contents_at v) k.own marks k.knows true)
            (sym (synced_tree x.told g tree marks tells.0 still)) (tells.1 (true_then true)),
      )
  back_tells read.GivenUp same tree first = λ true. gone ∙ sym (ap is_given_up same)
  back_tells read.Cut same tree first = gone ∙ sym (ap is_given_up same)

  -- and of the pieces that were read, beside which the disk is as it was handed in
  pub back_pieces : (size : ℕ) (units : List Bool) → ArePiecesOf units size pieces → IsSameElsewhere v size more units → end ≡ read.Read
      → AreOnDisk v size more units pieces
  back_pieces size units of elsewhere is = record {
    ordered = of.ordered;
    all = of.all;
    only = of.only;
    read = have_map (IsReadBack s.settled marks more) (WasRead more) pieces (x.back is (contents_at v) k.own marks k.knows) (λ n b r. r.read);
    is_disk = λ true.
        let first = true_then true in
        have_map (IsReadBack s.settled marks more) (λ n b. b ≡ disk_after (contents_at v) more n) pieces
        (x.back is (contents_at v) k.own marks k.knows)
        (λ n b r. r.is_disk (k.settled first) (contents_at v) true (((k.tells k.own (k.at_first first)).1 first).sure.each n));
    written = elsewhere.0;
    elsewhere = elsewhere.1;
  }

-- a link has ended where the reading was cut
ended_is : (e : ReadEnd) → is_cut e ≡ has_ended (end_of e)
ended_is read.Read = refl
ended_is read.GivenUp = refl
ended_is read.Cut = refl

-- so the server is let go with its link
last_back : {L : Type 0} (link : LinkWords L) (g : Geometry) (v : Opening) (seen marks : List Mark) (s : Serving) (end : ReadEnd) (pieces : List Piece)
    (mid l : L) → WasSynced s (link.truth mid) g v seen marks → ReadsBack s end pieces (link.history l) (link.truth mid) (link.truth l)
    → IsLastLine link g v seen (end_of end) l
last_back link g v seen marks s end pieces mid l k x = record {
  ended = x.ended ∙ ended_is end;
  marks = grown x.told marks;
  guaranteed = x.truth v k.own marks k.minor k.knows k.guaranteed;
  goes_on = begins_further seen marks (grown x.told marks) k.goes_on (told_goes_on x.told marks);
  tells = back_tells s end pieces (link.history l) (link.truth mid) (link.truth l) g v seen marks k x end refl;
}

-- a link after which nothing was read back, or not all
pub unread_line : {L : Type 0} (link : LinkWords L) (g : Geometry) (v : Opening) (seen : List Mark) (l : L) → IsLastLine link g v seen Went l
    → IsLastLine link g v seen WasNotRead l
unread_line link g v seen l last =
    record { ended = last.ended; marks = last.marks; guaranteed = last.guaranteed; goes_on = last.goes_on; tells = last.tells }

-- what was read back of a range of this size, and the record that its link keeps
finished_back : {L : Type 0} (link : LinkWords L) (numbers : L → List ℕ) (record_in : L → List Mark) (g : Geometry) (v : Opening)
    (seen marks : List Mark) (used : List ℕ) (s : Serving) (end : ReadEnd) (size : ℕ) (units : List Bool) (pieces : List Piece) (mid l : L)
    → WasSynced s (link.truth mid) g v seen marks → ReadsBack s end pieces (link.history l) (link.truth mid) (link.truth l)
    → ((older : List Mark) → link.truth l v older → record_in l ≡ older) → numbers l ≡ used → end ≡ read.Read
    → ArePiecesOf units size pieces → IsSameElsewhere v size (record_in l) units → IsFinished link numbers g v seen used Went size units pieces
unfolding last_back
finished_back link numbers record_in g v seen marks used s end size units pieces mid l k x is_record same is of elsewhere =
    let so : ReadsBack s read.Read pieces (link.history l) (link.truth mid) (link.truth l) =
    subst (λ (e : ReadEnd). ReadsBack s e pieces (link.history l) (link.truth mid) (link.truth l)) is x in
    let last = last_back link g v seen marks s read.Read pieces mid l k so in
    record {
      line = l;
      last = last;
      back = back_pieces s read.Read pieces (link.history l) (link.truth mid) (link.truth l) g v seen marks k so size units of
          (subst (λ (ms : List Mark). IsSameElsewhere v size ms units) (is_record last.marks last.guaranteed) elsewhere) refl;
      same = same;
    }

-- a call that was answered leaves a link that hasn't ended
pub not_ended : (b : Bool) (answer : Answer) → (b ≡ true → Replied answer ≡ Cut) → b ≡ false
not_ended true answer cut = let no = cut refl in cc
not_ended false answer cut = refl

-- a server that was held, after a last sync that was answered ok
module _ {N S L : Type 0} (room : RoomWords N) (link : LinkWords L) (serving : S → Serving) (line : S → L) (is_ready : S → Type 0)
    (knows : Call → Type 0) (runs_on : L → Policy → List DriverState → Type 0) (record_in : L → List Mark)
    (old mid : S) (kept : Kept room link serving line runs_on record_in)
    (held : IsHeld room link serving line is_ready knows runs_on record_in old)
    (c : CallSpecification (serving old) (serving mid) (link.truth (line old)) (link.truth (line mid)) syncer 0 Sync (Replied done)) where
  abbrev marks : List Mark
  marks = record_in (line old)

  abbrev here : List Mark
  here = marks_after c.keeps.acts marks

  served : Serves (serving mid) (contents_at room.opening) held.tree (Took syncer 0 Sync done ∷ here)
  served = c.keeps.serves (contents_at room.opening) held.tree marks held.stands.serves

  guaranteed : link.truth (line mid) room.opening here
  guaranteed = c.truth room.opening held.tree marks held.stands.minor held.stands.serves.agrees held.stands.truth

  first_of : HasTrueReplies (contents_at room.opening) here
      → ((serving old).geometry ≡ room.geometry) × IsAtFirst room.geometry (contents_at room.opening) held.tree
  first_of tr = held.at_first (true_before c.keeps.acts (contents_at room.opening) marks tr)

  pub was_synced : WasSynced (serving mid) (link.truth (line mid)) room.geometry room.opening marks here
  was_synced = record {
    minor = held.stands.minor ∙ sym c.keeps.leads.minor;
    own = held.tree;
    knows = record { who = syncer; now = 0; call = Sync; outcome = Replied done; agrees = served.agrees };
    guaranteed = guaranteed;
    goes_on = acts_go_on c.keeps.acts marks;
    tells = λ tree first.
        outcome_tells room.geometry room.opening tree here (Replied done)
        (c.keeps.once_given_up (contents_at room.opening) held.tree marks held.stands.serves.agrees)
        (kept_if_cut serving link.truth old mid (line old) (line mid) syncer 0 Sync (Replied done) room.opening held.tree marks c
        (subst IsEndLast (sym (kept.tells mid)) (kept.end_last (line mid) here guaranteed)) held.stands held.either)
        (λ replies.
        legal_from room.geometry (serving mid).geometry (contents_at room.opening) held.tree tree (Took syncer 0 Sync done ∷ here)
        (c.keeps.leads.geometry ∙ (first_of replies).0, (first_of replies).1) first (served.legal replies));
    at_first = λ true. (first_of true).1;
    settled = λ true. (served.settled true (not_ended (serving mid).ended done c.keeps.cut.1) refl).settled;
  }

-- the same by an outcome that is a success: what the link says of itself
pub line_back : {N S L : Type 0} (room : RoomWords N) (link : LinkWords L) (serving : S → Serving) (line : S → L) (is_ready : S → Type 0)
    (knows : Call → Type 0) (runs_on : L → Policy → List DriverState → Type 0) (record_in : L → List Mark) (old mid : S) (l m : L)
    (outcome : Outcome) (end : ReadEnd) (how : SyncEnd) (pieces : List Piece) → line old ≡ l → Kept room link serving line runs_on record_in
    → IsHeld room link serving line is_ready knows runs_on record_in old
    → CallSpecification (serving old) (serving mid) (link.truth (line old)) (link.truth (line mid)) syncer 0 Sync outcome
    → succeeded outcome ≡ true → ReadsBack (serving mid) end pieces (link.history m) (link.truth (line mid)) (link.truth m)
    → end_of end ≡ how → IsLastLine link room.geometry room.opening (record_in l) how m
line_back {L = L} room link serving line is_ready knows runs_on record_in old mid l m outcome end how pieces same kept held c is x to =
    let d = subst (λ (o : Outcome). CallSpecification (serving old) (serving mid) (link.truth (line old)) (link.truth (line mid)) syncer 0 Sync o)
    (done_is outcome is) c in
    subst (λ (n : L). IsLastLine link room.geometry room.opening (record_in n) how m) same
    (subst (λ (h : SyncEnd). IsLastLine link room.geometry room.opening (record_in (line old)) h m) to
    (last_back link room.geometry room.opening (record_in (line old)) (marks_after d.keeps.acts (record_in (line old))) (serving mid) end pieces
    (line mid) m (was_synced room link serving line is_ready knows runs_on record_in old mid kept held d) x))

-- and what was read back
pub synced_by : {N S L : Type 0} (room : RoomWords N) (link : LinkWords L) (serving : S → Serving) (line : S → L) (is_ready : S → Type 0)
    (knows : Call → Type 0) (runs_on : L → Policy → List DriverState → Type 0) (record_in : L → List Mark) (numbers : L → List ℕ)
    (used : List ℕ) (old mid : S) (l m : L) (outcome : Outcome) (end : ReadEnd) (size : ℕ) (units : List Bool) (pieces : List Piece)
    → line old ≡ l
    → Kept room link serving line runs_on record_in → IsHeld room link serving line is_ready knows runs_on record_in old
    → CallSpecification (serving old) (serving mid) (link.truth (line old)) (link.truth (line mid)) syncer 0 Sync outcome
    → succeeded outcome ≡ true → ReadsBack (serving mid) end pieces (link.history m) (link.truth (line mid)) (link.truth m)
    → numbers m ≡ used → end ≡ read.Read → ArePiecesOf units size pieces → IsSameElsewhere room.opening size (record_in m) units
    → IsFinished link numbers room.geometry room.opening (record_in l) used Went size units pieces
synced_by {L = L} room link serving line is_ready knows runs_on record_in numbers used old mid l m outcome end size units pieces same kept held c is
    x at all of elsewhere =
    let d = subst (λ (o : Outcome). CallSpecification (serving old) (serving mid) (link.truth (line old)) (link.truth (line mid)) syncer 0 Sync o)
    (done_is outcome is) c in
    subst (λ (n : L). IsFinished link numbers room.geometry room.opening (record_in n) used Went size units pieces) same
    (finished_back link numbers record_in room.geometry room.opening (record_in (line old)) (marks_after d.keeps.acts (record_in (line old))) used
    (serving mid) end size units pieces (line mid) m (was_synced room link serving line is_ready knows runs_on record_in old mid kept held d) x
    (kept.is_record m) at all of elsewhere)

-- what holds of a Bool and can't be true
not_true : (b : Bool) → (b ≡ true → ⊥) → b ≡ false
not_true true never = absurd (never refl)
not_true false never = refl

-- marks that cover each other are the same
same_mark : (units written : List Bool) (n : ℕ) → Covers units written → Covers written units → is_marked units n ≡ is_marked written n
same_mark units written n over under = by (is_marked units n) refl where
  by : (b : Bool) → is_marked units n ≡ b → b ≡ is_marked written n
  by true there = sym (under n there)
  by false none = sym (not_true (is_marked written n) (λ there. false≢true (sym none ∙ over n there)))

-- where the units are marked that writes have bytes in
pub same_elsewhere : (v : Opening) (size : ℕ) (marks : List Mark) (units written : List Bool) (same : Bool) → DiskStaysUnwritten
    → size ≤ 67108864 → length units ≡ 16384 → AreWritten written marks
    → ((same ≡ true) ↔ (Covers units written × Covers written units)) → same ≡ true → IsSameElsewhere v size marks units
same_elsewhere v size marks units written same stays most long are covers is =
    let each : (n : ℕ) → n < 16384 → is_marked units n ≡ is_written marks n =
    λ n low. same_mark units written n (covers.0 is).0 (covers.0 is).1 ∙ are.each n low in (
      record { number = long; each = each },
      λ k low off. stays (contents_at v) marks k (sym (each (k / 4096) (omega (arith, low, most))) ∙ off),
    )
