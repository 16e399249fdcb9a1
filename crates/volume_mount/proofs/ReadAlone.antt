-- Where only reads were asked for, nothing but the image is read.
use Rattle.std.proofs.Common.{◌≡◌, ◌≤◌, ◌<◌, ◌+◌, ◌-◌, ℕ, List, [], ◌∷◌, ◌++◌, Bool, true, false, refl, sym, ap, ◌∙◌, subst, arith, inl, inr}
use Rattle.std.specs.Prelude.{Option, Some, None, not, ◌&&◌, ◌||◌, ◌==◌, nat_le, nat_lt, is_some, if◌then◌else◌}
use Rattle.std.proofs.lemmas.Bool.{and_parts, cases_Bool, cond-true, cond-false, leb-true, ltb-true}
use Rattle.message.specs.Good.{is_write}
use Rattle.message.specs.declared.BlockRequest.{BlockRequest}
use Rattle.message.specs.declared.BlockReply.{BlockReply}
use Rattle.message.specs.declared.Incoming.{Incoming}
use Rattle.message.specs.declared.Incoming.TheVariants as incoming
use Rattle.records.specs.Marks.{Mark, Started, Answered, Flush, GaveUp, Took, Issued, Fault, gave_up}
use Rattle.records.specs.Open.{asked_by, counts, greatest, moved_by, open_requests, with_id, without_id}
use Rattle.records.specs.Disk.{Contents, HasTrueReplies, IsTrueAnswer, byte_of, bytes_read, covers, disk_after, fetches, is_read, settles, unsure}
use Rattle.records.specs.Told.{Posted, Complained, Received, received}
use Rattle.records.specs.Acts.{Act, Began, Absorbed, AtLink, KeepsRules, Outbox, empty_outbox, first_of, marks_after, outbox_after, owed_after_message}
use Rattle.records.specs.Area.{Area}
use Rattle.records.specs.Mount.{OnlyReads}
use Rattle.records.specs.Settled.{none_written}
use Rattle.records.proofs.Quiet.{read_issued}

-- what both are one of them is
one_of : {X : Type 0} (P : X → Type 0) (b : Bool) (x y : X) → P x → P y → P (if b then x else y)
one_of P true x y p q = p
one_of P false x y p q = q

-- ---- lists of reads

-- each of these requests is a read
abbrev AreReads : List BlockRequest → Type 0
AreReads [] = Unit {0}
AreReads (r ∷ rs) = (is_write r.kind ≡ false) × AreReads rs

-- this one is, if there is one
abbrev IsReadIfAny : Option BlockRequest → Type 0
IsReadIfAny None = Unit {0}
IsReadIfAny (Some r) = is_write r.kind ≡ false

both : (rs ss : List BlockRequest) → AreReads rs → AreReads ss → AreReads (rs ++ ss)
both [] ss a b = b
both (r ∷ rs) ss a b = (a.0, both rs ss a.1 b)

without : (id : ℕ) (rs : List BlockRequest) → AreReads rs → AreReads (without_id id rs)
without id [] a = tt
without id (r ∷ rs) a = one_of AreReads (r.id == id) rs (r ∷ without_id id rs) a.1 (a.0, without id rs a.1)

with_one : (id : ℕ) (rs : List BlockRequest) → AreReads rs → IsReadIfAny (with_id id rs)
with_one id [] a = tt
with_one id (r ∷ rs) a = one_of IsReadIfAny (r.id == id) (Some r) (with_id id rs) a.0 (with_one id rs a.1)

first_read : (rs : List BlockRequest) (r : BlockRequest) → AreReads rs → first_of rs ≡ Some r → is_write r.kind ≡ false
first_read [] r a e = absurd (let no : ⊥ = cc in no)
first_read (s ∷ rs) r a e = let same : s ≡ r = cc in subst (λ (q : BlockRequest). is_write q.kind ≡ false) same a.0

-- ---- records in which only reads were issued

abbrev OnlyReadsIssued : List Mark → Type 0
OnlyReadsIssued [] = Unit {0}
OnlyReadsIssued (Issued r e ∷ marks) = (is_write r.kind ≡ false) × OnlyReadsIssued marks
OnlyReadsIssued (_ ∷ marks) = OnlyReadsIssued marks

open_reads : (marks : List Mark) → OnlyReadsIssued marks → AreReads (open_requests marks)
open_reads [] h = tt
open_reads (Issued r e ∷ marks) h =
    let here = open_reads marks h.1 in
    one_of AreReads (nat_lt (greatest marks) r.id) (open_requests marks ++ r ∷ []) (open_requests marks)
    (both (open_requests marks) (r ∷ []) here (h.0, tt)) here
open_reads (Answered a ∷ marks) h =
    let here = open_reads marks h in
    one_of AreReads (is_some (moved_by a marks)) (without_id a.id (open_requests marks)) (open_requests marks) (without a.id (open_requests marks) here) here
open_reads (Started e ∷ marks) h = open_reads marks h
open_reads (Flush ∷ marks) h = open_reads marks h
open_reads (GaveUp ∷ marks) h = open_reads marks h
open_reads (Took who now call answer ∷ marks) h = open_reads marks h
open_reads (Fault e cause ∷ marks) h = open_reads marks h

asked_read : (a : BlockReply) (marks : List Mark) → OnlyReadsIssued marks → IsReadIfAny (asked_by a marks)
asked_read a marks h = with_one a.id (open_requests marks) (open_reads marks h)

-- a read settles no write
settles_none : (o : Option BlockRequest) (n : Option ℕ) (place : ℕ) → IsReadIfAny o → settles o n place ≡ false
settles_none None n place h = refl
settles_none (Some r) None place h = refl
settles_none (Some r) (Some n) place h = ap (λ (b : Bool). b && nat_le r.position place && nat_lt place (r.position + n)) h

disk_stays : (image : Contents) (marks : List Mark) → OnlyReadsIssued marks → (place : ℕ) → disk_after image marks place ≡ image place
disk_stays image [] h place = refl
disk_stays image (Answered a ∷ marks) h place =
    cond-false (settles (asked_by a marks) (moved_by a marks) place) _ (disk_after image marks place)
    (settles_none (asked_by a marks) (moved_by a marks) place (asked_read a marks h)) ∙ disk_stays image marks h place
disk_stays image (Issued r e ∷ marks) h place = disk_stays image marks h.1 place
disk_stays image (Started e ∷ marks) h place = disk_stays image marks h place
disk_stays image (Flush ∷ marks) h place = disk_stays image marks h place
disk_stays image (GaveUp ∷ marks) h place = disk_stays image marks h place
disk_stays image (Took who now call answer ∷ marks) h place = disk_stays image marks h place
disk_stays image (Fault e cause ∷ marks) h place = disk_stays image marks h place

sure : (marks : List Mark) → OnlyReadsIssued marks → (place : ℕ) → unsure marks place ≡ false
sure [] h place = refl
sure (Issued r e ∷ marks) h place = ap (λ (b : Bool). (b && covers r place) || unsure marks place) h.0 ∙ sure marks h.1 place
sure (Answered a ∷ marks) h place =
    ap (λ (b : Bool). not b && unsure marks place) (settles_none (asked_by a marks) (moved_by a marks) place (asked_read a marks h)) ∙ sure marks h place
sure (Started e ∷ marks) h place = sure marks h place
sure (Flush ∷ marks) h place = sure marks h place
sure (GaveUp ∷ marks) h place = sure marks h place
sure (Took who now call answer ∷ marks) h place = sure marks h place
sure (Fault e cause ∷ marks) h place = sure marks h place

-- what an answer to a read gives is the image's
fetched : (image : Contents) (marks : List Mark) → OnlyReadsIssued marks → (a : BlockReply) (o : Option BlockRequest) (n : Option ℕ) → IsReadIfAny o
    → IsTrueAnswer image marks o n a.bytes → (place : ℕ) → fetches o n place ≡ true → byte_of o a place ≡ image place
fetched image marks h a None n read is place f = absurd (let no : ⊥ = cc in no)
fetched image marks h a (Some r) None read is place f = absurd (let no : ⊥ = cc in no)
fetched image marks h a (Some r) (Some n) read is place f =
    let p = and_parts (not (is_write r.kind) && nat_le r.position place) (nat_lt place (r.position + n)) f in
    let from : r.position ≤ place = leb-true _ _ (and_parts (not (is_write r.kind)) (nat_le r.position place) p.0).1 in
    let to : place < r.position + n = ltb-true _ _ p.1 in
    let at : r.position + (place - r.position) ≡ place = omega (arith, from) in
    let less : place - r.position < n = omega (arith, from, to) in
    (is read).each (place - r.position) less (sure marks h (r.position + (place - r.position)))
    ∙ disk_stays image marks h (r.position + (place - r.position)) ∙ ap image at

read_is : (image : Contents) (marks : List Mark) → OnlyReadsIssued marks → HasTrueReplies image marks → (place : ℕ) → is_read marks place ≡ true
    → bytes_read marks place ≡ image place
read_is image [] h t place r = absurd (let no : ⊥ = cc in no)
read_is image (Answered a ∷ marks) h t place r = elim (cases_Bool (fetches (asked_by a marks) (moved_by a marks) place)) [
  | inl e ↦
      cond-true (fetches (asked_by a marks) (moved_by a marks) place) (byte_of (asked_by a marks) a place) (bytes_read marks place) e
      ∙ fetched image marks h a (asked_by a marks) (moved_by a marks) (asked_read a marks h) t.1 place e
  | inr e ↦
      cond-false (fetches (asked_by a marks) (moved_by a marks) place) (byte_of (asked_by a marks) a place) (bytes_read marks place) e
      ∙ read_is image marks h t.0 place (sym (ap (λ (b : Bool). b || is_read marks place) e) ∙ r)
]
read_is image (Issued q e ∷ marks) h t place r = read_is image marks h.1 t place r
read_is image (Started e ∷ marks) h t place r = read_is image marks h t place r
read_is image (Flush ∷ marks) h t place r = read_is image marks h t place r
read_is image (GaveUp ∷ marks) h t place r = read_is image marks h t place r
read_is image (Took who now call answer ∷ marks) h t place r = read_is image marks h t place r
read_is image (Fault e cause ∷ marks) h t place r = read_is image marks h t place r

-- ---- what was done

-- only reads were issued, and only reads are owed
record OnlyOwes (marks : List Mark) (o : Outbox) : Type 0 where
  pub issued : OnlyReadsIssued marks
  pub never : AreReads o.never_issued
  pub unposted : AreReads o.unposted

-- a message leaves it so
received_reads : (message : Incoming) (marks : List Mark) → OnlyReadsIssued marks → OnlyReadsIssued (received message marks)
received_reads (incoming.Reply a) marks h = one_of OnlyReadsIssued (counts marks a) (Answered a ∷ marks) marks h h
received_reads (incoming.Started e) marks h = h
received_reads incoming.GaveUp marks h = h
received_reads incoming.Flush marks h = h
received_reads incoming.End marks h = h

owed_reads : (message : Incoming) (marks : List Mark) (o : Outbox) → OnlyOwes marks o → OnlyOwes (received message marks) (owed_after_message message marks o)
owed_reads (incoming.Reply a) marks o h = record {
  issued = received_reads (incoming.Reply a) marks h.issued;
  never = h.never;
  unposted = one_of AreReads (counts marks a && is_some (moved_by a marks)) (without_id a.id o.unposted) o.unposted
      (without a.id o.unposted h.unposted) h.unposted;
}
owed_reads (incoming.Started e) marks o h =
    one_of (OnlyOwes (Started e ∷ marks)) (gave_up marks) (record o { stopped = false })
    (record o { unposted = open_requests marks ++ o.never_issued; stopped = false })
    (record { issued = h.issued; never = h.never; unposted = h.unposted })
    (record { issued = h.issued; never = h.never; unposted = both (open_requests marks) o.never_issued (open_reads marks h.issued) h.never })
owed_reads incoming.GaveUp marks o h = record { issued = h.issued; never = h.never; unposted = h.unposted }
owed_reads incoming.Flush marks o h = record { issued = h.issued; never = h.never; unposted = h.unposted }
owed_reads incoming.End marks o h = h

-- where only reads became pending, only reads are issued
only_owes : (area : Area) (acts : List Act) → OnlyReads acts → KeepsRules area acts [] empty_outbox
    → OnlyOwes (marks_after acts []) (outbox_after acts [] empty_outbox)
only_owes area [] only keep = record { issued = tt; never = tt; unposted = tt }
only_owes area (Began r ∷ acts) only keep =
    let h = only_owes area acts only.1 keep.0 in
    record { issued = h.issued; never = both _ (r ∷ []) h.never (only.0, tt); unposted = both _ (r ∷ []) h.unposted (only.0, tt) }
only_owes area (Absorbed message ∷ acts) only keep = owed_reads message _ _ (only_owes area acts only keep.0)
only_owes area (AtLink (Posted to r true) ∷ acts) only keep =
    let h = only_owes area acts only keep.0 in
    record { issued = (first_read _ r h.unposted keep.1.first, h.issued); never = without r.id _ h.never; unposted = without r.id _ h.unposted }
only_owes area (AtLink (Posted to r false) ∷ acts) only keep =
    let h = only_owes area acts only keep.0 in record { issued = h.issued; never = h.never; unposted = h.unposted }
only_owes area (AtLink (Complained about) ∷ acts) only keep =
    let h = only_owes area acts only keep.0 in record { issued = h.issued; never = h.never; unposted = h.unposted }
only_owes area (AtLink (Received message) ∷ acts) only keep = owed_reads message _ _ (only_owes area acts only keep.0)

-- so no write was issued
no_writes : (marks : List Mark) → OnlyReadsIssued marks → none_written marks ≡ true
no_writes [] h = refl
no_writes (Issued r e ∷ marks) h = read_issued (is_write r.kind) (none_written marks) h.0 (no_writes marks h.1)
no_writes (Answered a ∷ marks) h = no_writes marks h
no_writes (Started e ∷ marks) h = no_writes marks h
no_writes (Flush ∷ marks) h = no_writes marks h
no_writes (GaveUp ∷ marks) h = no_writes marks h
no_writes (Took who now call answer ∷ marks) h = refl
no_writes (Fault e cause ∷ marks) h = no_writes marks h

pub writes_none : (area : Area) (acts : List Act) → OnlyReads acts → KeepsRules area acts [] empty_outbox
    → none_written (marks_after acts []) ≡ true
writes_none area acts only keep = no_writes (marks_after acts []) (only_owes area acts only keep).issued

pub reads_alone : (area : Area) (acts : List Act) (image : Contents) → OnlyReads acts → KeepsRules area acts [] empty_outbox
    → HasTrueReplies image (marks_after acts []) → (place : ℕ) → is_read (marks_after acts []) place ≡ true
    → bytes_read (marks_after acts []) place ≡ image place
reads_alone area acts image only keep true_replies place read =
    read_is image (marks_after acts []) (only_owes area acts only keep).issued true_replies place read
