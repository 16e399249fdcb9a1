-- A run by the rules keeps what the link guarantees, while its record is well formed.
use Rattle.std.proofs.Common.{◌≡◌, ◌⊎◌, inl, inr, ℕ, ◌+◌, ◌<◌, List, [], ◌∷◌, Bool, true, false, cond, refl, sym, ◌∙◌, ap, subst, length}
use Rattle.std.specs.Prelude.{Some, None, Result, is_ok, is_some, IsTrue}
use Rattle.message.specs.declared.endpoint.Endpoint.{Endpoint}
use Rattle.message.specs.declared.BlockRequest.{BlockRequest}
use Rattle.message.specs.declared.Incoming.{Incoming}
use Rattle.message.specs.declared.Incoming.TheVariants as incoming
use Rattle.tree.specs.Answers.{answer_of}
use Rattle.records.specs.Area.{Area}
use Rattle.records.specs.Marks.{Mark, Answered, Issued, Started, Took, Flush, GaveUp, Fault}
use Rattle.records.specs.Open.{IsWellFormed, IsNew, IsAgain, IsIn, MissesAll, MayFollow, with_id, counts}
use Rattle.records.specs.Opening.{Opening, Fits, FitsMinor}
use Rattle.records.specs.Told.{Told, Posted, Complained, Received, received, with_told}
use Rattle.records.specs.Acts.{AtLink, Outbox, MayAct}
use Rattle.reissue.specs.declared.link.LinkRefusal.{LinkRefusal}
use Rattle.schedule.specs.Faultless.{without_faults, FaultsChangeNothing}
use Rattle.schedule.proofs.FaultlessLaws.{faults_change_nothing}
use Rattle.schedule.specs.declared.log.LogEntry.TheVariants as entry
use Rattle.schedule.proofs.NotedLaws.{mark_in}
use Rattle.simulated_link.specs.Disks.{Disks, LinesUp, NoneIsThere, LineIsFull, IsLinedUp}
use Rattle.simulated_link.specs.Ruling.{is_fault}
use Rattle.simulated_link.specs.StateView as link
use Rattle.simulated_link.specs.StateView.{RunState, RunTruth, Turn, Still, Further, HandsEvent, HandsNone, noting, paid, posted, ruling_at}
use Rattle.simulated_link.specs.Laws.{RunsKeepTruth, MediaAreHeldThroughout}
use Rattle.simulated_link.specs.Moments.{Moment, record_of, Step, Begins, Tells, Takes, Settles, Brings, BringsNone, Pays, HandsCall, Replies, Runs, Starts, Then}
use Rattle.simulated_link.proofs.Guarantee.{media_held}
use Rattle.simulated_link.proofs.Leading.{servers_lead_on, asides_lead_on, calls_lead_on}
use Rattle.simulated_link.proofs.MovingLaws.{next_heard, far_heard, received_true, handed_true, owed_heard, end_true, took_true, refused_true, complained_true, posted_true, accepted_at}
use Rattle.simulated_link.proofs.Running.{next_record, handed_record, turn_record}

-- ---- a run only adds to the record

-- what holds of a record holds of what stood in it before
module _ (P : List Mark → Type 0) (back : (x : Mark) (marks : List Mark) → P (x ∷ marks) → P marks) where
  received_back : (m : Incoming) (marks : List Mark) → P (received m marks) → P marks
  received_back (incoming.Reply a) marks h = by (counts marks a) h where
    by : (c : Bool) → P (cond c (Answered a ∷ marks) marks) → P marks
    by true h = back (Answered a) marks h
    by false h = h
  received_back (incoming.Started e) marks h = back (Started e) marks h
  received_back incoming.GaveUp marks h = back GaveUp marks h
  received_back incoming.Flush marks h = back Flush marks h
  received_back incoming.End marks h = h

  told_back : (t : Told) (marks : List Mark) → P (with_told t marks) → P marks
  told_back (Posted to r true) marks h = back (Issued r to) marks h
  told_back (Posted to r false) marks h = h
  told_back (Complained about) marks h = h
  told_back (Received m) marks h = received_back m marks h

  step_back : (area : Area) (m a : Moment) → Step area m a → P (record_of a.run) → P (record_of m.run)
  step_back area m _ (Begins r busy may) h = h
  step_back area m _ (Tells told a busy quiet may turn) h = told_back told (record_of m.run) (subst P (turn_record m.run a told turn) h)
  step_back area m _ (Takes message call a answers may turn) h =
      received_back message (record_of m.run) (subst P (turn_record m.run a (Received message) turn) h)
  step_back area m _ (Settles message hears rest) h = h
  step_back area m _ (Brings message a between none next) h =
      subst P (next_record m.run a (Some message) next) (received_back message (record_of a) (subst P (handed_record message a) h))
  step_back area m _ (BringsNone a between none next) h = subst P (next_record m.run a None next) h
  step_back area m _ (Pays between owed first) h =
      received_back incoming.GaveUp (record_of m.run) (subst P (handed_record incoming.GaveUp (paid m.run)) h)
  step_back area m _ (HandsCall call a between paid hands) h = subst P (ap record_of hands.after) h
  step_back area m _ (Replies call reply answers live rest) h =
      let mark = Took call.who call.now call.call (answer_of reply) in
      back mark (record_of m.run) (subst P (ap without_faults (mark_in mark m.run.scene.noted)) h)

  pub runs_back : (area : Area) (b a : Moment) → Runs area b a → P (record_of a.run) → P (record_of b.run)
  runs_back area b _ Starts h = h
  runs_back area b a (Then m _ before last) h = runs_back area b m before (step_back area m a last h)

step_formed : (area : Area) (m a : Moment) → Step area m a → IsWellFormed (record_of a.run) → IsWellFormed (record_of m.run)
step_formed = step_back IsWellFormed (λ x marks h. h.0)

pub runs_formed : (area : Area) (b a : Moment) → Runs area b a → IsWellFormed (record_of a.run) → IsWellFormed (record_of b.run)
runs_formed = runs_back IsWellFormed (λ x marks h. h.0)

-- the server's record is well formed where the run's is
module _ (marks : List Mark) where
  abbrev f : FaultsChangeNothing marks
  f = faults_change_nothing marks

  new_without : (r : BlockRequest) → IsNew marks r → IsNew (without_faults marks) r
  new_without r n = record {
    next = n.next ∙ ap (λ (k : ℕ). k + 1) (sym f.greatest_is);
    whole = n.whole;
    room = subst (λ (o : List BlockRequest). length o < 16) (sym f.opened_same) n.room;
    apart = subst (λ (o : List BlockRequest). MissesAll r o) (sym f.opened_same) n.apart;
  }

  issued_without : (r : BlockRequest) (e : Endpoint) → MayFollow (Issued r e) marks → MayFollow (Issued r e) (without_faults marks)
  issued_without r e h = (f.started ∙ h.0, either h.1) where
    either : IsNew marks r ⊎ IsAgain marks r → IsNew (without_faults marks) r ⊎ IsAgain (without_faults marks) r
    either (inl n) = inl (new_without r n)
    either (inr a) = inr (record { same = subst (λ (o : List BlockRequest). IsIn r o) (sym f.opened_same) a.same })

pub formed_without : (marks : List Mark) → IsWellFormed marks → IsWellFormed (without_faults marks)
formed_without [] h = h
formed_without (Fault e cause ∷ marks) h = formed_without marks h.0
formed_without (Started e ∷ marks) h = (formed_without marks h.0, tt)
formed_without (Answered a ∷ marks) h =
    let f : FaultsChangeNothing marks = faults_change_nothing marks in (
      formed_without marks h.0,
      (f.started ∙ h.1.0, subst (λ (o : List BlockRequest). IsTrue (is_some (with_id a.id o))) (sym f.opened_same) h.1.1),
    )
formed_without (Flush ∷ marks) h = (formed_without marks h.0, tt)
formed_without (GaveUp ∷ marks) h = (formed_without marks h.0, tt)
formed_without (Took who now call answer ∷ marks) h = (formed_without marks h.0, tt)
formed_without (Issued r e ∷ marks) h = (formed_without marks h.0, issued_without marks r e h.1)

-- ---- the guarantee goes on

-- it is of the run's own record
pub own_truth : (v : Opening) (p : RunState) (marks : List Mark) → RunTruth v p.scene marks → RunTruth v p.scene (record_of p)
own_truth v p marks h = subst (λ (l : List Mark). RunTruth v p.scene l) (sym h.is) h

post_holds : (v : Opening) (b : RunState) (to : Endpoint) (r : BlockRequest) (result : Result (Unit {0}) LinkRefusal) (d : Disks)
    → LinesUp to r b.scene.disks result d → Fits v r → IsWellFormed (record_of (posted to r (is_ok result) d b))
    → RunTruth v b.scene (record_of b)
    → RunTruth v (posted to r (is_ok result) d b).scene (with_told (Posted to r (is_ok result)) (record_of b))
post_holds v b to r _ _ (NoneIsThere none) fits formed h = refused_true v b.scene b.scene.disks _ (record_of b) to r refl refl h
post_holds v b to r _ _ (LineIsFull there full) fits formed h = refused_true v b.scene b.scene.disks _ (record_of b) to r refl refl h
post_holds v b to r _ d (IsLinedUp there few) fits formed h =
    let at = accepted_at to r b.scene.disks d (IsLinedUp there few) in
    posted_true v b.scene d _ (record_of b) to r at.0 at.1 refl h
    (subst IsWellFormed (ap without_faults (mark_in (Issued r to) b.scene.noted)) formed).1 fits

turn_holds : (v : Opening) (area : Area) (o : Outbox) (b a : RunState) (told : Told) → area.minor ≡ v.minor
    → MayAct area (record_of b) o (AtLink told) → Turn b told a → IsWellFormed (record_of a) → RunTruth v b.scene (record_of b) → RunTruth v a.scene (with_told told (record_of b))
turn_holds v area o b _ _ same may (link.Takes message a far) formed h =
    received_true v a.scene _ (record_of b) message refl (far_heard v b a (Some message) (record_of b) far h)
turn_holds v area o b _ _ same may (link.TakesOwed live owed first) formed h =
    received_true v b.scene _ (record_of b) incoming.GaveUp refl (owed_heard v b.scene (record_of b) h)
turn_holds v area o b _ _ same may (link.TakesEnd a live ends) formed h = end_true v b a b.scene _ (record_of b) ends refl refl h
turn_holds v area o b _ _ same may (link.Posts to r result d unended lines) formed h =
    post_holds v b to r result d lines (subst (λ (n : ℕ). FitsMinor n r) same may.fits.fits) formed h
turn_holds v area o b _ _ same may (link.Complains about) formed h =
    complained_true v b.scene _ _ (record_of b) about (is_fault (ruling_at about b.scene)) refl h

step_holds : (v : Opening) (area : Area) (m a : Moment) → area.minor ≡ v.minor → Step area m a → IsWellFormed (record_of a.run)
    → RunTruth v m.run.scene (record_of m.run) → RunTruth v a.run.scene (record_of a.run)
step_holds v area m _ same (Begins r busy may) formed h = h
step_holds v area m _ same (Tells told a busy quiet may turn) formed h =
    own_truth v a (with_told told (record_of m.run)) (turn_holds v area m.outbox m.run a told same may turn formed h)
step_holds v area m _ same (Takes message call a answers may turn) formed h =
    own_truth v a (received message (record_of m.run)) (turn_holds v area m.outbox m.run a (Received message) same may turn formed h)
step_holds v area m _ same (Settles message hears rest) formed h = h
step_holds v area m _ same (Brings message a between none next) formed h =
    own_truth v (noting (entry.Handed message) a) (received message (record_of m.run))
    (handed_true v a.scene _ (record_of m.run) message refl (next_heard v m.run a (Some message) (record_of m.run) next h))
step_holds v area m _ same (BringsNone a between none next) formed h =
    own_truth v a (record_of m.run) (next_heard v m.run a None (record_of m.run) next h)
step_holds v area m _ same (Pays between owed first) formed h =
    own_truth v (noting (entry.Handed incoming.GaveUp) (paid m.run)) (received incoming.GaveUp (record_of m.run))
    (handed_true v m.run.scene _ (record_of m.run) incoming.GaveUp refl (owed_heard v m.run.scene (record_of m.run) h))
step_holds v area m _ same (HandsCall call a between paid hands) formed h =
    subst (λ (p : RunState). RunTruth v p.scene (record_of p)) (sym hands.after) h
step_holds v area m _ same (Replies call reply answers live rest) formed h =
    own_truth v (noting (entry.Took call.who call.now call.call reply) m.run) _
    (took_true v m.run.scene _ (record_of m.run) call.who call.now call.call reply refl h)

pub runs_keep_truth : RunsKeepTruth
runs_keep_truth v area b _ same Starts formed h = h
runs_keep_truth v area b a same (Then m _ before last) formed h =
    step_holds v area m a same last formed (runs_keep_truth v area b m same before (step_formed area m a last formed) h)

pub media_throughout : MediaAreHeldThroughout
media_throughout v area b m a same before after formed h =
    media_held v m.run.scene (record_of m.run) (runs_keep_truth v area b m same before (runs_formed area m a after formed) h)

-- ---- the media stay as large

step_sectors : (area : Area) (m a : Moment) → Step area m a
    → length a.run.scene.disks.media.sectors ≡ length m.run.scene.disks.media.sectors
step_sectors area m _ (Begins r busy may) = refl
step_sectors area m _ (Tells told a busy quiet may turn) = (servers_lead_on m.run a (Further m.run a told Still turn)).sectors
step_sectors area m _ (Takes message call a answers may turn) =
    (servers_lead_on m.run a (Further m.run a (Received message) Still turn)).sectors
step_sectors area m _ (Settles message hears rest) = refl
step_sectors area m _ (Brings message a between none next) = (asides_lead_on m.run _ _ (HandsEvent message a next)).leads.sectors
step_sectors area m _ (BringsNone a between none next) = (asides_lead_on m.run a _ (HandsNone a next)).leads.sectors
step_sectors area m _ (Pays between owed first) = refl
step_sectors area m _ (HandsCall call a between paid hands) = (calls_lead_on m.run a (Some call) hands).leads.sectors
step_sectors area m _ (Replies call reply answers live rest) = refl

pub runs_sectors : (area : Area) (b a : Moment) → Runs area b a
    → length a.run.scene.disks.media.sectors ≡ length b.run.scene.disks.media.sectors
runs_sectors area b _ Starts = refl
runs_sectors area b a (Then m _ before last) = step_sectors area m a last ∙ runs_sectors area b m before
