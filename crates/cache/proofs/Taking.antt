-- What a message taken does to the frames.
use Rattle.std.proofs.Common.{◌≡◌, ◌≢◌, ℕ, ◌+◌, ◌^◌, ◌<◌, ◌≤◌, List, length, refl, sym, ap, subst, ◌∙◌, arith, true, false, Option, Some, None, Result, Ok, Err, IsErr}
use mathlib.Core.Logic.{inl, inr}
use Rattle.std.proofs.lemmas.Bool.{eq-eqb}
use Rattle.reissue.specs.Settlements.{Settlement}
use Rattle.reissue.specs.Settlements as settled
use Rattle.reissue.specs.Moves.{DiskState, Begun, put, Closes, Moves, Tells, IsBusy}
use Rattle.reissue.specs.Entries.{pending_of, AllIn}
use Rattle.message.specs.declared.Incoming.{Incoming}
use Rattle.message.specs.declared.Incoming.TheVariants as incoming
use Rattle.reissue.specs.Posts.{HasRoom, is_message}
use Rattle.reissue.specs.Calls.{Steps, Absorbs, more_may_come}
use Rattle.reissue.proofs.Maps.{put-other, put_cases}
use Rattle.cache.specs.declared.slot.Slot.{Slot}
use Rattle.cache.specs.declared.settling.Took.{Took}
use Rattle.cache.specs.Settling.{Taking, Settles, taking_in, took_of, is_ended_by}
use Rattle.block_store.specs.declared.Cut.{Cut}
use Rattle.cache.specs.Slots.{held}
use Rattle.cache.specs.Edits.{Leaves}
use Rattle.cache.specs.Frames.{Tied, AllInside, CacheAgrees, view}
use Rattle.cache.specs.Calls.{AbstractCache, IsReady, Serves, Runs, HandsOver}
use Rattle.records.specs.Area.{Area}
use Rattle.records.specs.Told.{took_nothing}
use Rattle.records.specs.Acts.{Act, told_of}
use Rattle.cache.proofs.Handing.{Done, done_on}
use Rattle.cache.specs.Takes.{read_into, Takes, ReadTells, ReadsStay, NoReadBegun, IsHandedOut, is_read_of}
use Rattle.cache.proofs.Tied.{tied_read_settled, tied_written, same_begun}
use Rattle.cache.proofs.Inside.{inside_settled, inside_still}
use Rattle.cache.proofs.Agreeing.{agrees_moved, view_moved, agrees_written, view_written}
use Rattle.cache.proofs.Overtaking.{overtakes_after}
use Rattle.cache.proofs.Edits.{leaves_none}
use Rattle.cache.proofs.Runs.{step_runs, absorb_runs}

-- where nothing is settled
tied_same : (size : ℕ) (old new : List Slot) (pending pending' : ℕ → Option Begun) → pending' ≡ pending → new ≡ old
    → Tied size (held old) pending → Tied size (held new) pending'
tied_same size old new pending pending' e same k =
    subst (λ (l : List Slot). Tied size (held l) pending') (sym same) (subst (λ (o : ℕ → Option Begun). Tied size (held old) o) (sym e) k)

-- slots and pending requests stay tied
pub tied_settled : (size : ℕ) (res : Settlement) (old new : List Slot) (pending pending' : ℕ → Option Begun)
    → Closes res pending pending' → Settles res old new → Tied size (held old) pending → Tied size (held new) pending'
tied_settled size (settled.Read n bytes) old new pending pending' closes same k =
    subst (λ (l : List Slot). Tied size (held l) pending') (sym same)
    (subst (λ (o : ℕ → Option Begun). Tied size (held old) o) (sym closes.3) (tied_read_settled size (held old) pending n closes.0 closes.1 closes.2 k))
tied_settled size (settled.Written n) old new pending pending' closes ack k =
    subst (λ (o : ℕ → Option Begun). Tied size (held new) o) (sym closes.4) (tied_written size (held old) (held new) pending n ack.slots k)
tied_settled size settled.Nothing old new pending pending' closes same k = tied_same size old new pending pending' closes same k
tied_settled size settled.Flush old new pending pending' closes same k = tied_same size old new pending pending' closes same k
tied_settled size settled.GaveUp old new pending pending' closes same k = tied_same size old new pending pending' closes same k
tied_settled size settled.End old new pending pending' closes same k = tied_same size old new pending pending' closes same k

-- as said of a cache
tied_after : (res : Settlement) (old new : AbstractCache) (items items' : List Slot)
    → Closes res (pending_of old.table.pending) (pending_of new.table.pending) → Settles res items items'
    → old.held ≡ held items → new.held ≡ held items' → new.size ≡ old.size
    → Tied old.size old.held (pending_of old.table.pending) → Tied new.size new.held (pending_of new.table.pending)
tied_after res old new items items' closes settles here there size k =
    subst (λ (n : ℕ). Tied n new.held (pending_of new.table.pending)) (sym size)
    (subst (λ (h : ℕ → Option Slot). Tied old.size h (pending_of new.table.pending)) (sym there)
    (tied_settled old.size res items items' (pending_of old.table.pending) (pending_of new.table.pending) closes settles
    (subst (λ (h : ℕ → Option Slot). Tied old.size h (pending_of old.table.pending)) here k)))

-- what isn't clean lies in the area still
inside_after : (res : Settlement) (old new : AbstractCache) (items items' : List Slot) → Settles res items items'
    → old.held ≡ held items → new.held ≡ held items' → new.area ≡ old.area → new.size ≡ old.size
    → AllInside old.area old.size old.held → AllInside new.area new.size new.held
inside_after res old new items items' settles here there area size k =
    inside_still old.area new.area old.size new.size (held items') new.held area size there
    (inside_settled old.area old.size res items items' settles
    (inside_still old.area old.area old.size old.size old.held (held items) refl refl (sym here) k))

-- what holds of slots and the disk after a message
record Moved (size : ℕ) (old new : ℕ → Option Slot) (w v : DiskState) : Type 0 where
  agrees : CacheAgrees size old w → CacheAgrees size new v
  same : CacheAgrees size old w → view size new v ≡ view size old w

-- where the slots stay
moved_same : (size : ℕ) (old new : List Slot) (pending : ℕ → Option Begun) (res : Settlement) (w v : DiskState)
    → Moves res pending w v → new ≡ old → Tied size (held old) pending → Moved size (held old) (held new) w v
moved_same size old new pending res w v m same k = subst (λ (l : List Slot). Moved size (held old) (held l) w v) (sym same) (record {
  agrees = λ a. agrees_moved size (held old) pending w v m.spares k a;
  same = λ a. view_moved size (held old) pending w v m.spares k;
})

-- and in each case
moved_settled : (size : ℕ) (res : Settlement) (old new : List Slot) (pending pending' : ℕ → Option Begun) (w v : DiskState)
    → Closes res pending pending' → Settles res old new → Tied size (held old) pending → Moves res pending w v
    → Moved size (held old) (held new) w v
moved_settled size (settled.Written n) old new pending pending' w v closes ack k m = record {
  agrees = λ agrees. agrees_written size (held old) (held new) pending v n closes.0 closes.1 ack.slots closes.2 closes.3
      (m.tells closes.0 closes.1 closes.2 closes.3) k (agrees_moved size (held old) pending w v m.spares k agrees);
  same = λ agrees. view_written size (held old) (held new) v n ack.slots ∙ view_moved size (held old) pending w v m.spares k;
}
moved_settled size (settled.Read n bytes) old new pending pending' w v closes same k m = moved_same size old new pending (settled.Read n bytes) w v m same k
moved_settled size settled.Nothing old new pending pending' w v closes same k m = moved_same size old new pending settled.Nothing w v m same k
moved_settled size settled.Flush old new pending pending' w v closes same k m = moved_same size old new pending settled.Flush w v m same k
moved_settled size settled.GaveUp old new pending pending' w v closes same k m = moved_same size old new pending settled.GaveUp w v m same k
moved_settled size settled.End old new pending pending' w v closes same k m = moved_same size old new pending settled.End w v m same k

-- as said of a cache
pub serves_settled : (res : Settlement) (old new : AbstractCache) (items items' : List Slot) (w v : DiskState)
    → Closes res (pending_of old.table.pending) (pending_of new.table.pending) → Settles res items items'
    → old.held ≡ held items → new.held ≡ held items' → new.size ≡ old.size
    → Tied old.size old.held (pending_of old.table.pending) → Moves res (pending_of old.table.pending) w v → Serves old new w v
serves_settled res old new items items' w v closes settles here there size k m =
    let x = moved_settled old.size res items items' (pending_of old.table.pending) (pending_of new.table.pending) w v closes settles
    (subst (λ (h : ℕ → Option Slot). Tied old.size h (pending_of old.table.pending)) here k) m in
    let y : Moved old.size old.held new.held w v = subst (λ (h : ℕ → Option Slot). Moved old.size h new.held w v) (sym here)
    (subst (λ (h : ℕ → Option Slot). Moved old.size (held items) h w v) (sym there) x) in
    record {
      agrees = λ a. subst (λ (n : ℕ). CacheAgrees n new.held v) (sym size) (y.agrees a);
      same = λ a. ap (λ (n : ℕ). view n new.held v) size ∙ y.same a;
      none_overtaken = overtakes_after res items items' old.held new.held settles here there;
    }

-- a settled read tells the disk's bytes
read_tells : (res : Settlement) (pending : ℕ → Option Begun) (v : DiskState) → Tells res pending v → ReadTells (Ok (took_of res)) pending v
read_tells (settled.Read t bytes) pending v h = λ r is. record { each = h r is }
read_tells (settled.Written t) pending v h = tt
read_tells settled.Nothing pending v h = tt
read_tells settled.Flush pending v h = tt
read_tells settled.GaveUp pending v h = tt
read_tells settled.End pending v h = tt

-- what is pending where one was taken out
unless : (pending pending' : ℕ → Option Begun) (u t : ℕ) (r : Begun) → pending' ≡ put pending u None → pending' t ≡ Some r → pending t ≡ Some r
unless pending pending' u t r e is =
    let here : put pending u None t ≡ Some r = ap (λ (f : ℕ → Option Begun). f t) (sym e) ∙ is in
    elim (put_cases pending u None t) [
      | inl p ↦ absurd (let z : None ≡ Some r = sym p.1 ∙ here in cc)
      | inr p ↦ sym p.1 ∙ here
    ]

-- a message begins nothing
pub none_begun : (res : Settlement) (pending pending' : ℕ → Option Begun) → Closes res pending pending' → NoReadBegun pending pending'
none_begun (settled.Read u bytes) pending pending' closes t r is read = unless pending pending' u t r closes.3 is
none_begun (settled.Written u) pending pending' closes t r is read = unless pending pending' u t r closes.4 is
none_begun settled.Nothing pending pending' closes t r is read = ap (λ (f : ℕ → Option Begun). f t) (sym closes) ∙ is
none_begun settled.Flush pending pending' closes t r is read = ap (λ (f : ℕ → Option Begun). f t) (sym closes) ∙ is
none_begun settled.GaveUp pending pending' closes t r is read = ap (λ (f : ℕ → Option Begun). f t) (sym closes) ∙ is
none_begun settled.End pending pending' closes t r is read = ap (λ (f : ℕ → Option Begun). f t) (sym closes) ∙ is

-- reads stay pending until they are handed out
pub reads_stay : (res : Settlement) (pending pending' : ℕ → Option Begun) → Closes res pending pending' → ReadsStay (Ok (took_of res)) pending pending'
reads_stay res pending pending' closes =
    record { stays = by res closes; none_begun = none_begun res pending pending' closes; handed_out = handed res closes }
  where
    handed : (x : Settlement) → Closes x pending pending' → IsHandedOut (Ok (took_of x)) pending
    handed (settled.Read u bytes) closes = (closes.0, closes.1, closes.2)
    handed (settled.Written u) closes = tt
    handed settled.Nothing closes = tt
    handed settled.Flush closes = tt
    handed settled.GaveUp closes = tt
    handed settled.End closes = tt

    by : (x : Settlement) → Closes x pending pending' → (t : ℕ) (r : Begun) → pending t ≡ Some r → r.written ≡ None
        → is_read_of (Ok (took_of x)) t ≡ false → pending' t ≡ Some r
    by (settled.Read u bytes) closes t r is read other =
        let ne : t ≢ u = λ e. (let z : true ≡ false = sym (eq-eqb u t (sym e)) ∙ other in cc) in
        ap (λ (f : ℕ → Option Begun). f t) closes.3 ∙ put-other pending u None t ne ∙ is
    by (settled.Written u) closes t r is read other =
        let ne : t ≢ u = λ e.
        let same : closes.0 ≡ r = same_begun (pending u) closes.0 r closes.2 (sym (ap pending e) ∙ is) in
        let z : Some closes.1 ≡ None = sym closes.3 ∙ ap (λ (x : Begun). x.written) same ∙ read in
        cc in
        ap (λ (f : ℕ → Option Begun). f t) closes.4 ∙ put-other pending u None t ne ∙ is
    by settled.Nothing closes t r is read other = ap (λ (f : ℕ → Option Begun). f t) closes ∙ is
    by settled.Flush closes t r is read other = ap (λ (f : ℕ → Option Begun). f t) closes ∙ is
    by settled.GaveUp closes t r is read other = ap (λ (f : ℕ → Option Begun). f t) closes ∙ is
    by settled.End closes t r is read other = ap (λ (f : ℕ → Option Begun). f t) closes ∙ is

-- what the slots leave
pub leaves_settled : (res : Settlement) (old new : List Slot) → Settles res old new → Leaves old new
leaves_settled (settled.Written t) old new h = h.leaves
leaves_settled (settled.Read t bytes) old new h = subst (λ (l : List Slot). Leaves old l) (sym h) (leaves_none old)
leaves_settled settled.Nothing old new h = subst (λ (l : List Slot). Leaves old l) (sym h) (leaves_none old)
leaves_settled settled.Flush old new h = subst (λ (l : List Slot). Leaves old l) (sym h) (leaves_none old)
leaves_settled settled.GaveUp old new h = subst (λ (l : List Slot). Leaves old l) (sym h) (leaves_none old)
leaves_settled settled.End old new h = subst (λ (l : List Slot). Leaves old l) (sym h) (leaves_none old)

-- unless it ended, more may come
pub goes : (res : Settlement) → is_ended_by res ≡ false → more_may_come res ≡ true
goes (settled.Written t) h = refl
goes (settled.Read t bytes) h = refl
goes settled.Nothing h = refl
goes settled.Flush h = refl
goes settled.GaveUp h = refl
goes settled.End h = cc

-- a message taken, as a call
pub takes_one : (res : Settlement) (old new : AbstractCache) (items items' : List Slot)
    → Steps res old.table new.table old.told new.told old.truth new.truth
    → Settles res items items' → old.held ≡ held items → new.held ≡ held items'
    → IsReady old → IsBusy (pending_of old.table.pending) → old.ended ≡ false → old.table.given_up ≡ false
    → new.area ≡ old.area → new.size ≡ old.size → new.ended ≡ is_ended_by res
    → (more_may_come res ≡ true → new.budget < old.budget) → (more_may_come res ≡ true → HasRoom new.table new.room)
    → new.table.ids + length old.table.pending ≤ old.table.ids + length new.table.pending + 1
    → Runs None old new (λ w v. Takes (Ok (took_of res)) old new w v)
takes_one res old new items items' x settles here there ready busy alive going area size ended budget room ids =
    step_runs res old new (λ w v. Takes (Ok (took_of res)) old new w v) x now ready.minors busy going area size alive ended
    (λ e. budget (goes res e)) ids (λ w v m. record {
      serves = serves_settled res old new items items' w v x.closes settles here there size ready.tied m;
      tells = read_tells res (pending_of old.table.pending) v m.tells;
    })
  where
    now : IsReady new
    now = record {
      minors = subst (λ (r : Area). AllIn r new.table.pending) (sym area) (x.minors old.area ready.minors);
      tied = tied_after res old new items items' x.closes settles here there size ready.tied;
      inside = inside_after res old new items items' settles here there area size ready.inside;
      room = λ e. room (goes res (sym ended ∙ e));
      ids = λ e. let less = budget (goes res (sym ended ∙ e)) in let was = ready.ids alive in omega (arith, less, was, ids);
    }

-- a call that was cut before it took anything
pub takes_none : (r : Result Taking Cut) (c : AbstractCache) (w : DiskState) → IsErr r → Takes r c c w w
takes_none (Err cut) c w h = record { serves = record { agrees = λ a. a; same = λ a. refl; none_overtaken = λ block is. is }; tells = tt }
takes_none (Ok t) c w h = cc

-- a take that was cut
pub cut_off : (r : Result Took Cut) (bytes : List ℕ) → IsErr r → IsErr (taking_in r bytes)
cut_off (Ok t) bytes h = cc
cut_off (Err cut) bytes h = h

-- and a read
pub read_cut_off : (r : Result (Unit {0}) Cut) (bytes : List ℕ) → IsErr r → IsErr (read_into r bytes)
read_cut_off (Ok done) bytes h = cc
read_cut_off (Err cut) bytes h = h

-- a message that is handed over, as a call
pub absorbs_one : (m : Incoming) (res : Settlement) (old new : AbstractCache) (items items' : List Slot)
    → Absorbs m res old.table new.table old.told new.told old.truth new.truth
    → Settles res items items' → old.held ≡ held items → new.held ≡ held items'
    → IsReady old → (old.ended ≡ false → old.table.ids + old.budget + 17 < 2 ^ 60 + length old.table.pending)
    → new.area ≡ old.area → new.size ≡ old.size → new.ended ≡ old.ended → new.budget ≤ old.budget
    → (new.ended ≡ false → HasRoom new.table new.room)
    → new.table.ids + length old.table.pending ≤ old.table.ids + length new.table.pending + 1
    → (m ≡ incoming.End → new.told ≡ old.told) → HandsOver m old new
absorbs_one m res old new items items' x settles here there ready spare area size ended budget room ids stays = record {
  runs = both.0;
  none_taken = ap (λ (l : List Act). took_nothing (told_of l)) both.1 ∙ d.none_taken;
  none_overtaken = overtakes_after res items items' old.held new.held settles here there;
  no_effect = λ e. both.1 ∙ d.no_effect e;
}
  where
    d : Done m old.table new.table old.told new.told x.posts
    d = done_on m res old.table new.table old.told new.told old.truth new.truth stays x

    now : IsReady new
    now = record {
      minors = subst (λ (r : Area). AllIn r new.table.pending) (sym area) (x.minors old.area ready.minors);
      tied = tied_after res old new items items' x.closes settles here there size ready.tied;
      inside = inside_after res old new items items' settles here there area size ready.inside;
      room = room;
      ids = λ e. let was = spare (sym ended ∙ e) in omega (arith, was, ids, budget);
    }

    both : (r : Runs (Some m) old new (λ w v. Serves old new w v)) × (r.acts ≡ d.acts)
    both = absorb_runs m res old new (λ w v. Serves old new w v) x now ready.minors area size ended budget ids d
        (λ w v m. serves_settled res old new items items' w v x.closes settles here there size ready.tied m)

-- after each message but End there is room for more; End changes nothing
pub room_after : (m : Incoming) (P : Type 0) → (is_message m ≡ true → P) → (m ≡ incoming.End → P) → P
room_after (incoming.Reply a) P f g = f refl
room_after (incoming.Started e) P f g = f refl
room_after incoming.GaveUp P f g = f refl
room_after incoming.Flush P f g = f refl
room_after incoming.End P f g = g refl
