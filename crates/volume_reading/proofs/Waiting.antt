-- What is told and given at a link while all that is pending is waited for, and then pieces of a range are read.
use Rattle.std.proofs.Common.{◌≡◌, ℕ, ◌+◌, ◌<◌, List, [], ◌∷◌, ◌++◌, length, true, false, refl, sym, ◌∙◌, ap, subst, append_assoc, inl, inr, Option, Some, None, Result, Ok, Err}
use Rattle.std.specs.Prelude.{slice_index}
use Rattle.message.specs.declared.Incoming.{Incoming}
use Rattle.message.specs.declared.Incoming.TheVariants as incoming
use Rattle.records.specs.Marks.{Mark}
use Rattle.records.specs.Disk.{Contents, HasTrueReplies, disk_after}
use Rattle.records.specs.Told.{Told, Posted, Complained, Received, received, grown, heard, took_end}
use Rattle.records.specs.Acts.{marks_after, told_of}
use Rattle.records.proofs.ActLaws.{marks_are_told}
use Rattle.reissue.specs.declared.pending.Pending.{Pending}
use Rattle.reissue.specs.declared.table.Table.{Table}
use Rattle.reissue.specs.Settlements.{Settlement}
use Rattle.reissue.specs.Settlements as settled
use Rattle.reissue.specs.Entries.{pending_of, AllOfMinor}
use Rattle.reissue.specs.Agrees.{Agrees}
use Rattle.reissue.specs.Moves.{Begun, IsQuiet, Closes, WasRead, put}
use Rattle.reissue.specs.Calls.{Truth, Steps}
use Rattle.reissue.proofs.Inside.{of_minor}
use Rattle.reissue.proofs.Joining.{grown_append}
use Rattle.reissue.proofs.Maps.{put_cases}
use Rattle.volume_reading.specs.declared.reading.Stop.{Stop}
use Rattle.volume_reading.specs.declared.reading.Stop.TheVariants.{OutOfMemory, GaveUp, Ended}
use Rattle.volume_reading.specs.Pieces.{HaveBytes, IsIn, Piece}
use Rattle.volume_reading.specs.Reading.{LeavesDisk, Went, ReadsRange}
use Rattle.volume_reading.specs.ReadBack.{AreFor, AreReads, GoesOn, IsOver, Waits, IsBack, AreBack, ReadsBack}
use Rattle.volume_reading.proofs.Pieces.{have_in, have_map, have_more}
use Rattle.volume_reading.proofs.Going.{leaves_both, leaves_quiet, true_received}

-- replies that are true after all of these were so before
true_told : (es : List Told) (image : Contents) (marks : List Mark) → HasTrueReplies image (grown es marks) → HasTrueReplies image marks
true_told [] image marks h = h
true_told (Posted to r true ∷ es) image marks h = true_told es image marks h
true_told (Posted to r false ∷ es) image marks h = true_told es image marks h
true_told (Complained e ∷ es) image marks h = true_told es image marks h
true_told (Received m ∷ es) image marks h = true_told es image marks (true_received m image (grown es marks) h)

-- a link that hasn't ended notes each message
heard_live : (m : Incoming) (told : List Told) → took_end told ≡ false → heard m told ≡ Received m ∷ told
heard_live (incoming.Reply a) told live = refl
heard_live (incoming.Started e) told live = refl
heard_live incoming.GaveUp told live = refl
heard_live incoming.Flush told live = refl
heard_live incoming.End told live = rw live refl

-- nothing was done
goes_none : (minor : ℕ) (t : Table) (told : List Told) (was : Truth) → GoesOn minor [] t t told told was was
goes_none minor t told was = record {
  history = refl;
  agrees = λ marks h. h;
  truth = λ v marks same h k. k;
  leaves = λ reads image marks h true. record { disk = λ place. refl; sure = λ place sure. sure };
}

-- one after the other
goes_both : (minor : ℕ) (first then : List Told) (s t u : Table) (before between after : List Told) (was mid is : Truth)
    → (AreReads s.pending → AreReads t.pending) → GoesOn minor first s t before between was mid → GoesOn minor then t u between after mid is
    → GoesOn minor (then ++ first) s u before after was is
goes_both minor first then s t u before between after was mid is quiet a b = record {
  history = b.history ∙ ap (λ (l : List Told). then ++ l) a.history ∙ sym (append_assoc then first before);
  agrees = λ marks h. subst (λ (ms : List Mark). Agrees u ms) (sym (grown_append then first marks)) (b.agrees (grown first marks) (a.agrees marks h));
  truth = λ v marks same h k.
      subst (λ (ms : List Mark). is v ms) (sym (grown_append then first marks))
      (b.truth v (grown first marks) same (a.agrees marks h) (a.truth v marks same h k));
  leaves = λ reads image marks h true.
      let last : HasTrueReplies image (grown then (grown first marks)) = subst (λ (ms : List Mark). HasTrueReplies image ms) (grown_append then first marks) true in
      subst (λ (ms : List Mark). LeavesDisk image marks ms) (sym (grown_append then first marks))
      (leaves_both image marks (grown first marks) (grown then (grown first marks))
      (a.leaves reads image marks h (true_told then image (grown first marks) last))
      (b.leaves (quiet reads) image (grown first marks) (a.agrees marks h) last));
}

-- no pending write has a place where there is none
quiet_reads : (ps : List Pending) → AreReads ps → (place : ℕ) → IsQuiet (pending_of ps) place
quiet_reads ps reads place = record { none = λ t r bytes is writes touch. reads.none t r bytes is writes }

-- a message that was taken
step_goes : (minor : ℕ) (res : Settlement) (t u : Table) (between after : List Told) (mid is : Truth) → AreFor minor t.pending
    → took_end between ≡ false → (x : Steps res t u between after mid is)
    → GoesOn minor (x.posts ++ (x.complaints ++ Received x.message ∷ [])) t u between after mid is
step_goes minor res t u between after mid is for live x = record {
  history = x.history ∙ ap (λ (l : List Told). x.posts ++ (x.complaints ++ l)) (heard_live x.message between live)
      ∙ ap (λ (l : List Told). x.posts ++ l) (sym (append_assoc x.complaints (Received x.message ∷ []) between))
      ∙ sym (append_assoc x.posts (x.complaints ++ Received x.message ∷ []) between);
  agrees = λ marks h. subst (λ (ms : List Mark). Agrees u ms) (sym (x.grows marks)) (x.agrees marks h);
  truth = λ v marks same h k.
      subst (λ (ms : List Mark). is v ms) (sym (x.grows marks))
      (x.truth v marks h (subst (λ (n : ℕ). AllOfMinor n t.pending) (for.minor_is ∙ sym same) (of_minor for.area t.pending for.all)) k);
  leaves = λ reads image marks h true.
      let last : HasTrueReplies image (grown x.posts (received x.message marks)) = subst (λ (ms : List Mark). HasTrueReplies image ms) (x.grows marks) true in
      subst (λ (ms : List Mark). LeavesDisk image marks ms) (sym (x.grows marks))
      (leaves_quiet image marks (grown x.posts (received x.message marks)) (pending_of t.pending) (quiet_reads t.pending reads)
      ((x.closing marks h).moves image last).spares);
}

-- a map without one of its entries has no others
gone_reads : (ps qs : List Pending) (n : ℕ) → pending_of qs ≡ put (pending_of ps) n None → AreReads ps → AreReads qs
gone_reads ps qs n gone reads = record {
  none = λ t r bytes is writes.
      let at : put (pending_of ps) n None t ≡ Some r = sym (ap (λ (f : ℕ → Option Begun). f t) gone) ∙ is in
      elim (put_cases (pending_of ps) n None t) [
        | inl e ↦ nothing (sym e.1 ∙ at)
        | inr e ↦ reads.none t r bytes (sym e.1 ∙ at) writes
      ];
}
  where
    nothing : {r : Begun} → None ≡ Some r → ⊥
    nothing e = cc

same_reads : (ps qs : List Pending) → pending_of qs ≡ pending_of ps → AreReads ps → AreReads qs
same_reads ps qs same reads = record {
  none = λ t r bytes is writes. reads.none t r bytes (sym (ap (λ (f : ℕ → Option Begun). f t) same) ∙ is) writes;
}

-- a message makes no write pending
closed_reads : (res : Settlement) (ps qs : List Pending) → Closes res (pending_of ps) (pending_of qs) → AreReads ps → AreReads qs
closed_reads (settled.Read t bytes) ps qs c reads = gone_reads ps qs t c.3 reads
closed_reads (settled.Written t) ps qs c reads = gone_reads ps qs t c.4 reads
closed_reads settled.Nothing ps qs c reads = same_reads ps qs c reads
closed_reads settled.Flush ps qs c reads = same_reads ps qs c reads
closed_reads settled.GaveUp ps qs c reads = same_reads ps qs c reads
closed_reads settled.End ps qs c reads = same_reads ps qs c reads

-- Messages were taken while something was pending.
pub record Waited (minor : ℕ) (old new : Table) (before after : List Told) (was is : Truth) : Type 0 where
  pub told : List Told
  pub goes : GoesOn minor told old new before after was is
  pub for : AreFor minor new.pending
  pub reads : AreReads old.pending → AreReads new.pending

-- none yet
pub waited_first : (minor : ℕ) (t : Table) (told : List Told) (was : Truth) → AreFor minor t.pending → Waited minor t t told told was was
waited_first minor t told was for = record { told = []; goes = goes_none minor t told was; for = for; reads = λ r. r }

-- and one more
pub waited_step : (minor : ℕ) (res : Settlement) (s t u : Table) (before between after : List Told) (was mid is : Truth)
    → took_end between ≡ false → Steps res t u between after mid is
    → Waited minor s t before between was mid → Waited minor s u before after was is
waited_step minor res s t u before between after was mid is live x w = record {
  told = (x.posts ++ (x.complaints ++ Received x.message ∷ [])) ++ w.told;
  goes = goes_both minor w.told (x.posts ++ (x.complaints ++ Received x.message ∷ [])) s t u before between after was mid is w.reads w.goes
      (step_goes minor res t u between after mid is w.for live x);
  for = record { area = w.for.area; minor_is = w.for.minor_is; all = x.minors w.for.area w.for.all };
  reads = λ r. closed_reads res t.pending u.pending x.closes (w.reads r);
}

-- so it ends
pub waits_so : (minor : ℕ) (result : Result (Unit {0}) Stop) (s u : Table) (before after : List Told) (was is : Truth)
    → Waited minor s u before after was is → IsOver result u after → Waits result minor s u before after was is
waits_so minor result s u before after was is w over = record { told = w.told; goes = w.goes; over = over }

-- nothing is pending, so no write is
none_reads : (ps : List Pending) → ps ≡ [] → AreReads ps
none_reads ps none = record { none = λ t r bytes is writes. nothing (sym (ap (λ (l : List Pending). pending_of l t) none) ∙ is) } where
  nothing : {r : Begun} → None ≡ Some r → ⊥
  nothing e = cc

-- a range was read then
range_goes : (minor : ℕ) (t u : Table) (between after : List Told) (mid is : Truth) (w : Went minor t u between after mid is)
    → GoesOn minor (told_of w.acts) t u between after mid is
range_goes minor t u between after mid is w = record {
  history = w.told;
  agrees = λ marks h. subst (λ (ms : List Mark). Agrees u ms) (grows marks) (w.follows marks h).agrees;
  truth = λ v marks same h k. subst (λ (ms : List Mark). is v ms) (grows marks) (w.truth v marks same h k);
  leaves = λ reads image marks h true.
      subst (λ (ms : List Mark). LeavesDisk image marks ms) (grows marks)
      (w.leaves image marks h (subst (λ (ms : List Mark). HasTrueReplies image ms) (sym (grows marks)) true));
}
  where
    grows : (marks : List Mark) → marks_after w.acts marks ≡ grown (told_of w.acts) marks
    grows marks = marks_are_told w.acts marks w.none_absorbed

-- how that ended
range_over : (result : Result (Unit {0}) Stop) (minor start size : ℕ) (bytes : List ℕ) (t u : Table) (between after : List Told) (mid is : Truth)
    → ReadsRange result minor start size bytes t u between after mid is → (result ≡ Err OutOfMemory → ⊥) → IsOver result u after
range_over (Ok a) minor start size bytes t u between after mid is x memory = (x.end.0, x.end.1, x.end.2)
range_over (Err OutOfMemory) minor start size bytes t u between after mid is x memory = absurd (memory refl)
range_over (Err GaveUp) minor start size bytes t u between after mid is x memory = (x.end.0, x.end.1)
range_over (Err Ended) minor start size bytes t u between after mid is x memory = (x.end.0, x.end.1)

-- nothing was read yet
pub back_none : (minor : ℕ) (t : Table) (told : List Told) (was : Truth) → took_end told ≡ false → t.given_up ≡ false → t.pending ≡ []
    → ReadsBack (Ok tt) minor [] t t told told was was
back_none minor t told was unended live idle = record {
  told = [];
  goes = goes_none minor t told was;
  over = (unended, live, idle);
  back = λ marks h. tt;
}

-- and one more piece, behind the others
pub back_more : (minor : ℕ) (done : List Piece) (q : Piece) (s t u : Table) (before between after : List Told) (was mid is : Truth)
    → ReadsBack (Ok tt) minor done s t before between was mid
    → ReadsRange (Ok tt) minor q.start (length q.bytes) q.bytes t u between after mid is
    → ((place : ℕ) → IsIn done place → place < q.start)
    → ReadsBack (Ok tt) minor (done ++ q ∷ []) s u before after was is
back_more minor done q s t u before between after was mid is r x apart = record {
  told = told_of x.went.acts ++ r.told;
  goes = goes_both minor r.told (told_of x.went.acts) s t u before between after was mid is (λ w. none_reads t.pending r.over.2) r.goes
      (range_goes minor t u between after mid is x.went);
  over = (x.end.0, x.end.1, x.end.2);
  back = λ marks h.
      have_more (IsBack s marks (last marks)) done q
      (have_in (IsBack s marks (grown r.told marks)) (IsBack s marks (last marks)) done (r.back marks h) (λ k b i. kept marks h k b i))
      (λ k lt. read marks h k lt);
}
  where
    last : List Mark → List Mark
    last marks = grown (told_of x.went.acts ++ r.told) marks

    grows : (marks : List Mark) → marks_after x.went.acts (grown r.told marks) ≡ last marks
    grows marks = marks_are_told x.went.acts (grown r.told marks) x.went.none_absorbed ∙ sym (grown_append (told_of x.went.acts) r.told marks)

    so : (marks : List Mark) (image : Contents) → HasTrueReplies image (last marks)
        → HasTrueReplies image (marks_after x.went.acts (grown r.told marks))
    so marks image replies = subst (λ (ms : List Mark). HasTrueReplies image ms) (sym (grows marks)) replies

    first : (marks : List Mark) (image : Contents) → HasTrueReplies image (last marks) → HasTrueReplies image (grown r.told marks)
    first marks image replies = true_told (told_of x.went.acts) image (grown r.told marks)
        (subst (λ (ms : List Mark). HasTrueReplies image ms) (grown_append (told_of x.went.acts) r.told marks) replies)

    stays : (marks : List Mark) → Agrees s marks → (image : Contents) → HasTrueReplies image (last marks) → (place : ℕ)
        → disk_after image (grown r.told marks) place ≡ disk_after image (last marks) place
    stays marks h image replies place =
        sym ((x.went.leaves image (grown r.told marks) (r.goes.agrees marks h) (so marks image replies)).disk place)
        ∙ ap (λ (ms : List Mark). disk_after image ms place) (grows marks)

    kept : (marks : List Mark) → Agrees s marks → (k b : ℕ) → IsIn done k → IsBack s marks (grown r.told marks) k b → IsBack s marks (last marks) k b
    kept marks h k b i old =
        let e = (x.elsewhere (grown r.told marks) (r.goes.agrees marks h)).each k (inl (apart k i)) in
        record {
          read = subst (λ (ms : List Mark). WasRead ms k b) (grows marks) (old.read.0 ∙ sym e.0, e.1 ∙ old.read.1);
          is_disk = λ reads image replies sure. old.is_disk reads image (first marks image replies) sure ∙ stays marks h image replies k;
        }

    read : (marks : List Mark) → Agrees s marks → (k : ℕ) → k < length q.bytes
        → IsBack s marks (last marks) (q.start + k) (slice_index q.bytes k)
    read marks h k lt =
        let f = x.end.3 (grown r.told marks) (r.goes.agrees marks h) k lt in
        record {
          read = subst (λ (ms : List Mark). WasRead ms (q.start + k) (slice_index q.bytes k)) (grows marks) f.read;
          is_disk = λ reads image replies sure.
              f.is_disk image (so marks image replies) ((r.goes.leaves reads image marks h (first marks image replies)).sure (q.start + k) sure)
              ∙ stays marks h image replies (q.start + k);
        }

-- reading a further one ended otherwise
pub back_cut : (stop : Stop) (minor start size : ℕ) (bytes : List ℕ) (done pieces : List Piece) (s t u : Table) (before between after : List Told)
    (was mid is : Truth) → ReadsBack (Ok tt) minor done s t before between was mid
    → ReadsRange (Err stop) minor start size bytes t u between after mid is → (◌≡◌ {A = Result (Unit {0}) Stop} (Err stop) (Err OutOfMemory) → ⊥)
    → ReadsBack (Err stop) minor pieces s u before after was is
back_cut stop minor start size bytes done pieces s t u before between after was mid is r x memory = record {
  told = told_of x.went.acts ++ r.told;
  goes = goes_both minor r.told (told_of x.went.acts) s t u before between after was mid is (λ w. none_reads t.pending r.over.2) r.goes
      (range_goes minor t u between after mid is x.went);
  over = range_over (Err stop) minor start size bytes t u between after mid is x memory;
  back = tt;
}

-- the pieces were read once all had come
pub back_is : (result : Result (Unit {0}) Stop) (minor : ℕ) (pieces : List Piece) (s t u : Table) (before between after : List Told) (was mid is : Truth)
    → Waits (Ok tt) minor s t before between was mid → ReadsBack result minor pieces t u between after mid is
    → ReadsBack result minor pieces s u before after was is
back_is result minor pieces s t u before between after was mid is w x = record {
  told = x.told ++ w.told;
  goes = goes_both minor w.told x.told s t u before between after was mid is (λ r. none_reads t.pending w.over.2) w.goes x.goes;
  over = x.over;
  back = by result x.back;
}
  where
    by : (q : Result (Unit {0}) Stop) → AreBack q pieces t x.told → AreBack q pieces s (x.told ++ w.told)
    by (Err stop) y = tt
    by (Ok a) y = λ marks h.
        let grows : grown x.told (grown w.told marks) ≡ grown (x.told ++ w.told) marks = sym (grown_append x.told w.told marks) in
        subst (λ (ms : List Mark). HaveBytes (IsBack s marks ms) pieces) grows
        (have_map (IsBack t (grown w.told marks) (grown x.told (grown w.told marks))) (IsBack s marks (grown x.told (grown w.told marks))) pieces
        (y (grown w.told marks) (w.goes.agrees marks h))
        (λ k b i. record {
          read = i.read;
          is_disk = λ reads image true sure.
              i.is_disk (none_reads t.pending w.over.2) image true
              ((w.goes.leaves reads image marks h (true_told x.told image (grown w.told marks) true)).sure k sure);
        }))

-- where waiting ended otherwise
pub back_stopped : (stop : Stop) (minor : ℕ) (pieces : List Piece) (s u : Table) (before after : List Told) (was is : Truth)
    → Waits (Err stop) minor s u before after was is → ReadsBack (Err stop) minor pieces s u before after was is
back_stopped stop minor pieces s u before after was is w = record { told = w.told; goes = w.goes; over = w.over; back = tt }

-- where the device was given up before nothing is done
pub back_given_up : (minor : ℕ) (pieces : List Piece) (t : Table) (told : List Told) (was : Truth) → took_end told ≡ false → t.given_up ≡ true
    → ReadsBack (Err GaveUp) minor pieces t t told told was was
back_given_up minor pieces t told was live gone = record { told = []; goes = goes_none minor t told was; over = (live, gone); back = tt }

-- none of these ends is for want of memory
pub no_memory : (stop : Stop) (t : Table) (after : List Told) → IsOver (Err stop) t after
    → ◌≡◌ {A = Result (Unit {0}) Stop} (Err stop) (Err OutOfMemory) → ⊥
no_memory OutOfMemory t after over is = over
no_memory GaveUp t after over is = cc
no_memory Ended t after over is = cc
