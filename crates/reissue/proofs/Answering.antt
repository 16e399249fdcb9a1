-- What an answer does to agreement with the record.
use Rattle.std.proofs.Common.{◌≡◌, ◌⊎◌, ℕ, ◌+◌, ◌-◌, ◌<◌, ◌≤◌, ◌%◌, List, [], ◌∷◌, ◌++◌, length, take, map, get_or, Bool, true, false, cond, refl, sym, ◌∙◌, ap, inl, inr, arith, append_assoc, Option, Some, None, Result, Ok, Err}
use Rattle.std.proofs.lemmas.List.{length-append, take_at, get_or_at}
use Rattle.std.proofs.lemmas.Bool.Decides.{leb_tells, nat_tests}
use Rattle.std.proofs.lemmas.Iterator.Adapters.{position_from-zero}
use Rattle.std.specs.List.{position_from, list_any}
use Rattle.std.specs.Prelude.{nat_lt, nat_le, is_some, ◌==◌, ◌&&◌, ◌||◌, not, position, slice_index, remove}
use Rattle.lemmas.proofs.Options.{cond_some}
use Rattle.lemmas.proofs.Bools.{and_left, and_right, and_with_false}
use Rattle.message.specs.declared.endpoint.Endpoint.{Endpoint}
use Rattle.errno.specs.declared.Errno.{Errno}
use Rattle.message.specs.declared.BlockRequest.{BlockRequest}
use Rattle.message.specs.declared.BlockReply.{BlockReply}
use Rattle.message.specs.declared.Incoming.TheVariants as incoming
use Rattle.reissue.specs.declared.pending.Pending.{Pending}
use Rattle.reissue.specs.declared.table.Table.{Table}
use Rattle.reissue.specs.Hears.{counted_move}
use Rattle.reissue.proofs.Joined.{joined_like, joined_answered, was_joined, joined_rest, joined_push, joined_out}
use Rattle.reissue.proofs.Writes.{same_at, all_wrote_answered, wrote_rest, wrote_like, wrote_push, wrote_out}
use Rattle.records.specs.Disk.{Contents, HasTrueReplies, IsTrueOf, disk_after, unsure}
use Rattle.records.specs.Marks.{gave_up, last_started, Answered, Mark, is_endpoint, last_started}
use Rattle.records.specs.Open.{asked_by, counts, greatest, moved_by, open_requests, with_id, without_id}
use Rattle.records.specs.Told.{received}
use Rattle.message.specs.Good.{is_write, moved}
use Rattle.records.specs.Acts.{complaint_due, target}
use Rattle.reissue.specs.Moves.{WasRead}
use Rattle.reissue.specs.Agrees.{AreNumbered, IsJoined, Agrees, AllApart, AllReadDisk, Apart, ApartFromAll, Holds, ReadsDisk, Wrote}
use Rattle.reissue.specs.Entries.{meets, request_of}

-- an endpoint to post to is that of the last start
pub started_at : (marks : List Mark) (o : Option Endpoint) (to : Endpoint) → o ≡ target marks → o ≡ Some to → last_started marks ≡ Some to
started_at marks o to e f = by (gave_up marks) (sym e ∙ f) where
  by : (b : Bool) → cond b None (last_started marks) ≡ Some to → last_started marks ≡ Some to
  by true h = cc
  by false h = h

-- the first entry with this id, with those before and after it
pub record Found (id n : ℕ) (os : List Pending) (at : ℕ) : Type 0 where
  pub front : List Pending
  pub entry : Pending
  pub back : List Pending
  pub split : os ≡ front ++ entry ∷ back
  pub place : n + length front ≡ at
  pub there : with_id id (map request_of os) ≡ Some entry.request
  pub gone : without_id id (map request_of os) ≡ map request_of (front ++ back)

-- the first entry passes the test or not
found_by_test : (id n : ℕ) (p : Pending) (os : List Pending) (at : ℕ) (b : Bool) → (p.request.id == id) ≡ b
    → (position_from (λ (p : Pending). p.request.id == id) (n + 1) os ≡ Some at → Found id (n + 1) os at)
    → cond b (Some n) (position_from (λ (p : Pending). p.request.id == id) (n + 1) os) ≡ Some at
    → Found id n (p ∷ os) at
found_by_test id n p os at true q rest e =
    let here : n ≡ at = cc in
    record {
      front = [];
      entry = p;
      back = os;
      split = refl;
      place = omega arith;
      there = rw q refl;
      gone = rw q refl;
    }
found_by_test id n p os at false q rest e =
    let r : Found id (n + 1) os at = rest e in
    record {
      front = p ∷ r.front;
      entry = r.entry;
      back = r.back;
      split = ap (λ (l : List Pending). p ∷ l) r.split;
      place = omega (arith, r.place);
      there = rw q r.there;
      gone = rw q (ap (λ (l : List BlockRequest). p.request ∷ l) r.gone);
    }

-- counted from n on
found_from : (id n : ℕ) (os : List Pending) (at : ℕ)
    → position_from (λ (p : Pending). p.request.id == id) n os ≡ Some at → Found id n os at
found_from id n [] at e = cc
found_from id n (p ∷ os) at e =
    found_by_test id n p os at (p.request.id == id) refl (λ h. found_from id (n + 1) os at h) e

-- the entry at the place that was found
pub found : (id : ℕ) (os : List Pending) (at : ℕ)
    → position (λ (p : Pending). p.request.id == id) os ≡ Some at → Found id 0 os at
found id os at e = found_from id 0 os at (sym (position_from-zero (λ (p : Pending). p.request.id == id) os) ∙ e)

-- one that is apart from others
apart_sym : (p q : Pending) → Apart p q → Apart q p
apart_sym p q a = record { apart = elim a.apart [ inl h ↦ inr h | inr h ↦ inl h ] }

-- apart from all, also without one
apart_less : (p q : Pending) (xs ys : List Pending) → ApartFromAll p (xs ++ q ∷ ys) → Apart p q × ApartFromAll p (xs ++ ys)
apart_less p q [] ys h = (h.0, h.1)
apart_less p q (x ∷ xs) ys h = let r = apart_less p q xs ys h.1 in (r.0, (h.0, r.1))

-- one taken out: the others are apart, and it from them
pub apart_out : (q : Pending) (xs ys : List Pending) → AllApart (xs ++ q ∷ ys) → AllApart (xs ++ ys) × ApartFromAll q (xs ++ ys)
apart_out q [] ys h = (h.1, h.0)
apart_out q (x ∷ xs) ys h =
    let here = apart_less x q xs ys h.0 in
    let rest = apart_out q xs ys h.1 in
    ((here.1, rest.0), (apart_sym x q here.0, rest.1))

-- one more that is apart
pub apart_push : (q : Pending) (xs : List Pending) → AllApart xs → ApartFromAll q xs → AllApart (xs ++ q ∷ [])
apart_push q [] h a = (tt, tt)
apart_push q (x ∷ xs) h a = (further x xs h.0 (apart_sym q x a.0), apart_push q xs h.1 a.1) where
  further : (x : Pending) (xs : List Pending) → ApartFromAll x xs → Apart x q → ApartFromAll x (xs ++ q ∷ [])
  further x [] h a = (a, tt)
  further x (y ∷ ys) h a = (h.0, further x ys h.1 a)

-- the same range is apart from the same
pub apart_like : (q r : Pending) (xs : List Pending) → r.start ≡ q.start → r.size ≡ q.size → ApartFromAll q xs → ApartFromAll r xs
apart_like q r [] s z h = tt
apart_like q r (x ∷ xs) s z h = (
  record { apart = elim (h.0.apart) [ inl l ↦ inl (omega (arith, l, s, z)) | inr l ↦ inr (omega (arith, l, s, z)) ] },
  apart_like q r xs s z h.1,
)

-- a good answer moves something, and no more than was asked for
pub moved_le : (count n : ℕ) (o : Result ℕ Errno) → moved count o ≡ Some n → (n ≤ count) × (0 < n)
moved_le count n (Ok m) e =
    let h = cond_some ((m % 512 == 0) && nat_lt 0 m && nat_le m count) m n e in
    let le : nat_le m count ≡ true = and_right ((m % 512 == 0) && nat_lt 0 m) (nat_le m count) h.0 in
    let lt : nat_lt 0 m ≡ true = and_right (m % 512 == 0) (nat_lt 0 m) (and_left ((m % 512 == 0) && nat_lt 0 m) (nat_le m count) h.0) in
    let at : m ≡ n = h.1 in
    (grind (arith, nat_tests), grind (arith, nat_tests))
moved_le count n (Err x) e = cc

-- the entry behind these is taken out
remove_front : (front : List Pending) (q : Pending) (rest : List Pending)
    → remove (front ++ q ∷ rest) (length front) ≡ front ++ rest
remove_front [] q rest = refl
remove_front (p ∷ front) q rest = ap (λ (l : List Pending). p ∷ l) (remove_front front q rest)

-- what was read true, without one
reads_out : (image : Contents) (marks : List Mark) (q : Pending) (xs ys : List Pending)
    → AllReadDisk image marks (xs ++ q ∷ ys)
    → AllReadDisk image marks (xs ++ ys) × (is_write q.request.kind ≡ false → ReadsDisk image marks q)
reads_out image marks q [] ys h = (h.1, h.0)
reads_out image marks q (x ∷ xs) ys h = let r = reads_out image marks q xs ys h.1 in ((h.0, r.0), r.1)

-- an answer to a request that is apart leaves what was read true
reads_answered : (image : Contents) (marks : List Mark) (a : BlockReply) (q : Pending) (n : ℕ) (ps : List Pending)
    → asked_by a marks ≡ Some q.request → moved_by a marks ≡ Some n
    → n ≤ q.request.count
    → ApartFromAll q ps → AllReadDisk image marks ps → AllReadDisk image (Answered a ∷ marks) ps
reads_answered image marks a q n [] w m le ap' h = tt
reads_answered image marks a q n (p ∷ ps) w m le ap' h = (
  λ is_read. record {
    each = λ k lt sure.
        let out : (p.start + k < q.request.position) ⊎ (q.request.position + n ≤ p.start + k) =
        elim (ap'.0.apart) [ inl l ↦ inr (omega (arith, l)) | inr l ↦ inl (omega (arith, l)) ] in
        let s = same_at image marks a q.request n (p.start + k) w m (inr out) in
        (h.0 is_read).each k lt (sym s.0 ∙ sure) ∙ sym s.1;
  },
  reads_answered image marks a q n ps w m le ap'.1 h.1,
)

-- the endpoint of a slot and a generation
abbrev endpoint : ℕ → ℕ → Endpoint
endpoint s g = record { slot = s; generation = g }

-- an endpoint that is there is that one
same_true : (o : Option Endpoint) (e : Endpoint) → is_endpoint e o ≡ true → o ≡ Some e
same_true None e h = cc
same_true (Some d) e h =
    let s : (d.slot == e.slot) ≡ true = and_left (d.slot == e.slot) (d.generation == e.generation) h in
    let g : (d.generation == e.generation) ≡ true = and_right (d.slot == e.slot) (d.generation == e.generation) h in
    let s' : d.slot ≡ e.slot = grind (arith, nat_tests) in
    let g' : d.generation ≡ e.generation = grind (arith, nat_tests) in
    ap (λ (x : ℕ). Some (endpoint x d.generation)) s' ∙ ap (λ (x : ℕ). Some (endpoint e.slot x)) g'

-- an answer from where requests are posted is from the endpoint of the last start
pub started_by : (t : Table) (marks : List Mark) (e : Endpoint) → t.current ≡ target marks → is_endpoint e t.current ≡ true
    → last_started marks ≡ Some e
started_by t marks e current from = started_at marks t.current e current (same_true t.current e from)

-- an answer that settles the request or part of it takes its entry out
pub answered_out : (t u : Table) (marks : List Mark) (a : BlockReply) (opened waiting : List Pending) (at n : ℕ)
    (f : Found a.id 0 opened at) → Holds t marks opened waiting
    → is_endpoint a.from t.current ≡ true → moved_by a marks ≡ Some n
    → u.pending ≡ remove t.pending at → u.issued + 1 ≡ t.issued → u.ids ≡ t.ids → u.current ≡ t.current → u.given_up ≡ t.given_up
    → Holds u (Answered a ∷ marks) (f.front ++ f.back) waiting
    × ApartFromAll f.entry ((f.front ++ f.back) ++ waiting)
    × (asked_by a marks ≡ Some f.entry.request)
    × (n ≤ f.entry.request.count)
    × ((image : Contents) → HasTrueReplies image marks → is_write f.entry.request.kind ≡ false → ReadsDisk image marks f.entry)
    × ((image : Contents) → is_write f.entry.request.kind ≡ true → Wrote image marks f.entry)
    × (is_write f.entry.request.kind ≡ false → IsJoined marks f.entry)
answered_out t u marks a opened waiting at n f h from m items issued ids current given_up =
    let w : asked_by a marks ≡ Some f.entry.request = rw (← h.requests) f.there in
    let good : moved f.entry.request.count a.outcome ≡ Some n = rw w at m in
    let le = moved_le f.entry.request.count n a.outcome good in
    let lists : opened ++ waiting ≡ f.front ++ f.entry ∷ (f.back ++ waiting) =
    ap (λ (l : List Pending). l ++ waiting) f.split ∙ append_assoc f.front (f.entry ∷ f.back) waiting in
    let joined : (f.front ++ f.back) ++ waiting ≡ f.front ++ (f.back ++ waiting) = append_assoc f.front f.back waiting in
    let out = apart_out f.entry f.front (f.back ++ waiting) (rw (← lists) h.apart) in
    let count : length opened ≡ length (f.front ++ f.back) + 1 =
    ap (λ (l : List Pending). length l) f.split ∙ omega (arith, length-append f.front (f.entry ∷ f.back), length-append f.front f.back) in
    let place : length f.front ≡ at = omega (arith, f.place) in
    let removed : remove (opened ++ waiting) at ≡ (f.front ++ f.back) ++ waiting =
    rw (lists, ← place, joined) (remove_front f.front f.entry (f.back ++ waiting)) in
    let number : u.issued ≡ length (f.front ++ f.back) = omega (arith, h.issued) in
    let rest = λ (image : Contents) (tr : HasTrueReplies image marks).
    reads_out image marks f.entry f.front (f.back ++ waiting) (rw (← lists) (h.reads image tr)) in
    let left = λ (image : Contents). wrote_out image marks f.entry f.front (f.back ++ waiting) (rw (← lists) (h.writes image)) in
    let bytes = joined_out marks f.entry f.front (f.back ++ waiting) (rw (← lists) h.joined) in (
      record {
        items = items ∙ ap (λ (l : List Pending). remove l at) h.items ∙ removed;
        issued = number;
        requests = rw m (sym f.gone ∙ ap (λ (l : List BlockRequest). without_id a.id l) h.requests);
        numbered = h.numbered;
        ids = ids ∙ h.ids;
        well_formed = (h.well_formed, (started_by t marks a.from h.current from, rw w refl));
        current = current ∙ h.current;
        given_up = given_up ∙ h.given_up;
        apart = rw joined out.0;
        joined = rw joined (joined_answered marks a f.entry n (f.front ++ (f.back ++ waiting)) w m le.0 out.1 bytes.0);
        reads = λ image tr. rw joined (reads_answered image marks a f.entry n (f.front ++ (f.back ++ waiting)) w m le.0 out.1 (rest image tr.0).0);
        writes = λ image. rw joined (all_wrote_answered image marks a f.entry n (f.front ++ (f.back ++ waiting)) w m le.0 out.1 (left image).0);
      },
      rw joined out.1,
      w,
      le.0,
      λ image tr. (rest image tr).1,
      λ image. (left image).1,
      bytes.1,
    )

-- an entry under the next id goes to the end
pub holds_push : (t u : Table) (marks : List Mark) (opened waiting : List Pending) (q : Pending)
    → Holds t marks opened waiting
    → u.pending ≡ t.pending ++ q ∷ [] → u.ids ≡ t.ids + 1 → q.request.id ≡ t.ids + 1
    → u.posted ≡ t.posted → u.issued ≡ t.issued → u.current ≡ t.current → u.given_up ≡ t.given_up
    → length opened + length waiting < 16
    → ApartFromAll q (opened ++ waiting)
    → (is_write q.request.kind ≡ false → IsJoined marks q)
    → ((image : Contents) → HasTrueReplies image marks → is_write q.request.kind ≡ false → ReadsDisk image marks q)
    → ((image : Contents) → is_write q.request.kind ≡ true → Wrote image marks q)
    → Holds u marks opened (waiting ++ q ∷ [])
holds_push t u marks opened waiting q h items ids number posted issued current given_up few apart bytes reads writes =
    let lists : opened ++ (waiting ++ q ∷ []) ≡ (opened ++ waiting) ++ q ∷ [] = sym (append_assoc opened waiting (q ∷ [])) in
    let len : length (waiting ++ q ∷ []) ≡ length waiting + 1 = grind (arith, length-append {A = Pending}) in
    record {
      items = rw lists (items ∙ ap (λ (l : List Pending). l ++ q ∷ []) h.items);
      issued = issued ∙ h.issued;
      requests = h.requests;
      numbered = numbered_push (greatest marks + 1) waiting h.numbered (omega (arith, h.ids));
      ids = omega (arith, h.ids);
      well_formed = h.well_formed;
      current = current ∙ h.current;
      given_up = given_up ∙ h.given_up;
      apart = rw lists (apart_push q (opened ++ waiting) h.apart apart);
      joined = rw lists (joined_push marks q (opened ++ waiting) h.joined bytes);
      reads = λ image tr. rw lists (reads_push image marks q (opened ++ waiting) (h.reads image tr) (reads image tr));
      writes = λ image. rw lists (wrote_push image marks q (opened ++ waiting) (h.writes image) (writes image));
    } where
      numbered_push : (next : ℕ) (ws : List Pending) → AreNumbered next (map request_of ws) → q.request.id ≡ next + length ws → AreNumbered next (map request_of (ws ++ q ∷ []))
      numbered_push next [] h e = (omega arith, tt)
      numbered_push next (w ∷ ws) h e = (h.0, numbered_push (next + 1) ws h.1 (omega arith))

      reads_push : (image : Contents) (marks : List Mark) (q : Pending) (ps : List Pending) → AllReadDisk image marks ps
          → (is_write q.request.kind ≡ false → ReadsDisk image marks q) → AllReadDisk image marks (ps ++ q ∷ [])
      reads_push image marks q [] h r = (r, tt)
      reads_push image marks q (p ∷ ps) h r = (h.0, reads_push image marks q ps h.1 r)

-- these bytes are the disk's in this range, where the disk is sure
pub record AreDisk (image : Contents) (marks : List Mark) (start size : ℕ) (bytes : List ℕ) : Type 0 where
  pub each : (k : ℕ) → k < size → unsure marks (start + k) ≡ false
      → slice_index bytes k ≡ disk_after image marks (start + k)

-- what was read so far and behind it the answer's bytes are the disk's
joined_reads : (image : Contents) (marks : List Mark) (a : BlockReply) (q : Pending) (n : ℕ) (bytes : List ℕ)
    → asked_by a marks ≡ Some q.request → moved_by a marks ≡ Some n
    → HasTrueReplies image (Answered a ∷ marks)
    → is_write q.request.kind ≡ false
    → ReadsDisk image marks q
    → ((k : ℕ) → q.start + k < q.request.position → slice_index bytes k ≡ slice_index q.bytes k)
    → ((k : ℕ) → k < n → slice_index bytes (q.request.position - q.start + k) ≡ slice_index a.bytes k)
    → (k : ℕ) → q.start + k < q.request.position + n → unsure (Answered a ∷ marks) (q.start + k) ≡ false
    → slice_index bytes k ≡ disk_after image (Answered a ∷ marks) (q.start + k)
joined_reads image marks a q n bytes w m tr read old before new k lt sure =
    let s = same_at image marks a q.request n (q.start + k) w m (inl read) in
    let sure' : unsure marks (q.start + k) ≡ false = sym s.0 ∙ sure in
    elim (leb_tells (q.start + k + 1) q.request.position) [
      | inl h ↦ before k (omega (arith, h.1)) ∙ old.each k (omega (arith, h.1)) sure' ∙ sym s.1
      | inr h ↦
          let j = q.start + k - q.request.position in
          let here : q.request.position - q.start + j ≡ k = omega (arith, h.1, q.from) in
          let there : q.request.position + j ≡ q.start + k = omega (arith, h.1) in
          let less : j < n = omega (arith, h.1, lt) in
          let told : IsTrueOf image marks q.request n a.bytes = answer_true read in
          let byte : slice_index bytes k ≡ slice_index a.bytes j = ap (λ (x : ℕ). slice_index bytes x) (sym here) ∙ new j less in
          let disk_at : slice_index a.bytes j ≡ disk_after image marks (q.start + k) =
          told.each j less (ap (λ (x : ℕ). unsure marks x) there ∙ sure') ∙ ap (λ (x : ℕ). disk_after image marks x) there in
          byte ∙ disk_at ∙ sym s.1
    ] where
      answer_true : is_write q.request.kind ≡ false → IsTrueOf image marks q.request n a.bytes
      answer_true = rw (m, w) at tr.1

-- so are those of a request that goes on with them
rest_reads : (image : Contents) (marks : List Mark) (a : BlockReply) (q r : Pending) (n : ℕ)
    → asked_by a marks ≡ Some q.request → moved_by a marks ≡ Some n
    → HasTrueReplies image (Answered a ∷ marks)
    → is_write q.request.kind ≡ false
    → ReadsDisk image marks q
    → r.start ≡ q.start → r.request.position ≡ q.request.position + n
    → ((k : ℕ) → q.start + k < q.request.position → slice_index r.bytes k ≡ slice_index q.bytes k)
    → ((k : ℕ) → k < n → slice_index r.bytes (q.request.position - q.start + k) ≡ slice_index a.bytes k)
    → ReadsDisk image (Answered a ∷ marks) r
rest_reads image marks a q r n w m tr read old start position before new = record {
  each = λ k lt sure.
      let at : q.start + k ≡ r.start + k = omega (arith, start) in
      joined_reads image marks a q n r.bytes w m tr read old before new k (omega (arith, lt, start, position))
      (ap (λ (x : ℕ). unsure (Answered a ∷ marks) x) at ∙ sure)
      ∙ ap (λ (x : ℕ). disk_after image (Answered a ∷ marks) x) at;
}

-- what holds of the entry that was answered
pub record Taken (t v : Table) (marks : List Mark) (a : BlockReply) (e : Pending) (n : ℕ) : Type 0 where
  pub opened : List Pending
  pub waiting : List Pending
  pub holds : Holds v (Answered a ∷ marks) opened waiting
  pub room : length opened + length waiting < 16
  pub apart : ApartFromAll e (opened ++ waiting)
  pub there : asked_by a marks ≡ Some e.request
  pub reads : (image : Contents) → HasTrueReplies image marks → is_write e.request.kind ≡ false → ReadsDisk image marks e
  pub writes : (image : Contents) → is_write e.request.kind ≡ true → Wrote image marks e
  pub within : n ≤ e.request.count
  pub joined : is_write e.request.kind ≡ false → IsJoined marks e

-- the entry that is taken out on an answer
pub taken : (t v : Table) (marks : List Mark) (a : BlockReply) (e : Pending) (at n : ℕ)
    → Agrees t marks → position (λ (p : Pending). p.request.id == a.id) (take t.issued t.pending) ≡ Some at
    → moved_by a marks ≡ Some n
    → is_endpoint a.from t.current ≡ true
    → e ≡ get_or t.pending at e
    → v.pending ≡ remove t.pending at → v.issued + 1 ≡ t.issued → v.ids ≡ t.ids → v.current ≡ t.current → v.given_up ≡ t.given_up
    → Taken t v marks a e n
taken t v marks a e at n h place m from is items issued ids current given_up =
    let front : take t.issued t.pending ≡ h.opened =
    rw h.holds.items (take_at h.opened h.waiting t.issued (sym h.holds.issued)) in
    let f : Found a.id 0 h.opened at = found a.id h.opened at (rw (← front) place) in
    let o = answered_out t v marks a h.opened h.waiting at n f h.holds from m items issued ids current given_up in
    let lists : t.pending ≡ f.front ++ f.entry ∷ (f.back ++ h.waiting) =
    h.holds.items ∙ ap (λ (l : List Pending). l ++ h.waiting) f.split ∙ append_assoc f.front (f.entry ∷ f.back) h.waiting in
    let same : e ≡ f.entry =
    is ∙ ap (λ (l : List Pending). get_or l at e) lists
    ∙ get_or_at f.front f.entry (f.back ++ h.waiting) e at (omega (arith, f.place)) in
    record {
      opened = f.front ++ f.back;
      waiting = h.waiting;
      holds = o.0;
      room = omega (arith, t.few, ap (λ (l : List Pending). length l) h.holds.items, length-append h.opened h.waiting, ap (λ (l : List Pending). length l) f.split, length-append f.front (f.entry ∷ f.back), length-append f.front f.back);
      apart = rw same o.1;
      there = rw same o.2;
      reads = rw same o.4;
      writes = rw same o.5;
      within = rw same o.3;
      joined = rw same o.6;
    }

-- a further part goes on
pub agrees_rest : (t v u : Table) (marks : List Mark) (a : BlockReply) (e r : Pending) (n : ℕ)
    → Taken t v marks a e n → moved_by a marks ≡ Some n
    → u.pending ≡ v.pending ++ r ∷ [] → u.ids ≡ v.ids + 1 → r.request.id ≡ v.ids + 1
    → u.posted ≡ v.posted → u.issued ≡ v.issued → u.current ≡ v.current → u.given_up ≡ v.given_up
    → r.start ≡ e.start → r.size ≡ e.size → r.request.kind ≡ e.request.kind → r.request.position ≡ e.request.position + n
    → (is_write e.request.kind ≡ false → (k : ℕ) → e.start + k < e.request.position → slice_index r.bytes k ≡ slice_index e.bytes k)
    → (is_write e.request.kind ≡ false → (k : ℕ) → k < n → slice_index r.bytes (e.request.position - e.start + k) ≡ slice_index a.bytes k)
    → r.request.count + n ≡ e.request.count
    → (is_write e.request.kind ≡ true → (k : ℕ) → slice_index r.bytes k ≡ slice_index e.bytes k)
    → (is_write e.request.kind ≡ true → (k : ℕ) → k < r.request.count → slice_index r.request.bytes k ≡ slice_index e.request.bytes (n + k))
    → Agrees u (Answered a ∷ marks)
agrees_rest t v u marks a e r n x m items ids number posted issued current given_up start size kind position before new count bytes left =
    record {
      opened = x.opened;
      waiting = x.waiting ++ r ∷ [];
      holds = holds_push v u (Answered a ∷ marks) x.opened x.waiting r x.holds items ids number posted issued current given_up x.room
          (apart_like e r (x.opened ++ x.waiting) start size x.apart)
          (λ read.
          let read' : is_write e.request.kind ≡ false = rw (← kind) read in
          joined_rest marks a e r n x.there m read' (x.joined read') start position (before read') (new read'))
          (λ image tr read.
          let read' : is_write e.request.kind ≡ false = rw (← kind) read in
          rest_reads image marks a e r n x.there m tr read' (x.reads image tr.0 read') start position (before read') (new read'))
          (λ image is_w.
          let w' : is_write e.request.kind ≡ true = rw (← kind) is_w in
          wrote_rest image marks a e r n x.there m x.within w' (x.writes image w') start position count (bytes w') (left w'));
    }

-- nothing is left of the request
pub agrees_done : (t v : Table) (marks : List Mark) (a : BlockReply) (e : Pending) (n : ℕ)
    → Taken t v marks a e n → Agrees v (Answered a ∷ marks)
agrees_done t v marks a e n x = record { opened = x.opened; waiting = x.waiting; holds = x.holds }

-- a read that is settled has the disk's bytes
pub done_reads : (t v : Table) (marks : List Mark) (image : Contents) (a : BlockReply) (e : Pending) (n : ℕ) (bytes : List ℕ)
    → Taken t v marks a e n → moved_by a marks ≡ Some n
    → HasTrueReplies image (Answered a ∷ marks) → is_write e.request.kind ≡ false → n ≡ e.request.count
    → ((k : ℕ) → e.start + k < e.request.position → slice_index bytes k ≡ slice_index e.bytes k)
    → ((k : ℕ) → k < n → slice_index bytes (e.request.position - e.start + k) ≡ slice_index a.bytes k)
    → AreDisk image (Answered a ∷ marks) e.start e.size bytes
done_reads t v marks image a e n bytes x m tr read all before new = record {
  each = λ k lt sure.
      joined_reads image marks a e n bytes x.there m tr read (x.reads image tr.0 read) before new k (omega (arith, lt, all, e.end)) sure;
}

-- and the bytes of the answers to it, joined
pub done_joined : (t v : Table) (marks : List Mark) (a : BlockReply) (e : Pending) (n : ℕ) (bytes : List ℕ)
    → Taken t v marks a e n → moved_by a marks ≡ Some n → is_write e.request.kind ≡ false → n ≡ e.request.count
    → ((k : ℕ) → e.start + k < e.request.position → slice_index bytes k ≡ slice_index e.bytes k)
    → ((k : ℕ) → k < n → slice_index bytes (e.request.position - e.start + k) ≡ slice_index a.bytes k)
    → (k : ℕ) → k < e.size → WasRead (Answered a ∷ marks) (e.start + k) (slice_index bytes k)
done_joined t v marks a e n bytes x m read all before new k lt =
    was_joined marks a e n bytes x.there m read (x.joined read) before new k (omega (arith, lt, all, e.end))

-- an answer that doesn't count
prefix_none : (id n : ℕ) (os : List Pending) → position_from (λ (p : Pending). p.request.id == id) n os ≡ None
    → with_id id (map request_of os) ≡ None
prefix_none id n [] e = refl
prefix_none id n (p ∷ os) e =
    none_by_test id n p os (p.request.id == id) refl (λ h. prefix_none id (n + 1) os h) e where
      none_by_test : (id n : ℕ) (p : Pending) (os : List Pending) (b : Bool) → (p.request.id == id) ≡ b
          → (position_from (λ (p : Pending). p.request.id == id) (n + 1) os ≡ None → with_id id (map request_of os) ≡ None)
          → cond b (Some n) (position_from (λ (p : Pending). p.request.id == id) (n + 1) os) ≡ None
          → with_id id (map request_of (p ∷ os)) ≡ None
      none_by_test id n p os true q rest e = cc
      none_by_test id n p os false q rest e = rw q (rest e)

-- an id that isn't found isn't open
not_found : (t : Table) (marks : List Mark) (id : ℕ) → Agrees t marks
    → position (λ (p : Pending). p.request.id == id) (take t.issued t.pending) ≡ None
    → with_id id (open_requests marks) ≡ None
not_found t marks id h e =
    let front : take t.issued t.pending ≡ h.opened =
    rw h.holds.items (take_at h.opened h.waiting t.issued (sym h.holds.issued)) in
    rw (← h.holds.requests)
    (prefix_none id 0 h.opened (sym (position_from-zero (λ (p : Pending). p.request.id == id) h.opened) ∙ rw (← front) e))

-- a reply with an id that isn't open doesn't count
counts_none : (marks : List Mark) (a : BlockReply) → asked_by a marks ≡ None → counts marks a ≡ false
counts_none marks a e = rw e (and_with_false (not (gave_up marks) && is_endpoint a.from (last_started marks)))

-- whether a reply is from where requests are posted
from_target : (t : Table) (marks : List Mark) (e : Endpoint) → Agrees t marks
    → (not (gave_up marks) && is_endpoint e (last_started marks)) ≡ is_endpoint e t.current
from_target t marks e h = by (gave_up marks) ∙ ap (λ (o : Option Endpoint). is_endpoint e o) (sym h.holds.current) where
  by : (b : Bool) → (not b && is_endpoint e (last_started marks)) ≡ is_endpoint e (cond b None (last_started marks))
  by true = refl
  by false = refl

-- a reply from elsewhere doesn't count
counts_other : (t : Table) (marks : List Mark) (a : BlockReply) → Agrees t marks → is_endpoint a.from t.current ≡ false → counts marks a ≡ false
counts_other t marks a h e = ap (λ (b : Bool). b && is_some (asked_by a marks)) (from_target t marks a.from h ∙ e)

-- a reply from there with an open id counts
counts_found : (t : Table) (marks : List Mark) (a : BlockReply) (r : BlockRequest) → Agrees t marks → is_endpoint a.from t.current ≡ true
    → asked_by a marks ≡ Some r → counts marks a ≡ true
counts_found t marks a r h e w =
    ap (λ (b : Bool). b && is_some (asked_by a marks)) (from_target t marks a.from h ∙ e) ∙ rw w refl

-- the entry that was found is that of the open request
pub entry_found : (t : Table) (marks : List Mark) (id at : ℕ) (e : Pending) → Agrees t marks
    → position (λ (p : Pending). p.request.id == id) (take t.issued t.pending) ≡ Some at
    → e ≡ get_or t.pending at e
    → with_id id (open_requests marks) ≡ Some e.request
entry_found t marks id at e h place is =
    let front : take t.issued t.pending ≡ h.opened =
    rw h.holds.items (take_at h.opened h.waiting t.issued (sym h.holds.issued)) in
    let f : Found id 0 h.opened at = found id h.opened at (rw (← front) place) in
    let lists : t.pending ≡ f.front ++ f.entry ∷ (f.back ++ h.waiting) =
    h.holds.items ∙ ap (λ (l : List Pending). l ++ h.waiting) f.split ∙ append_assoc f.front (f.entry ∷ f.back) h.waiting in
    let same : e ≡ f.entry =
    is ∙ ap (λ (l : List Pending). get_or l at e) lists
    ∙ get_or_at f.front f.entry (f.back ++ h.waiting) e at (omega (arith, f.place)) in
    rw (same, ← h.holds.requests) f.there

-- an answer that isn't good leaves what was read true
reads_bad : (image : Contents) (marks : List Mark) (a : BlockReply) (r : BlockRequest) (ps : List Pending)
    → asked_by a marks ≡ Some r → moved_by a marks ≡ None
    → AllReadDisk image marks ps → AllReadDisk image (Answered a ∷ marks) ps
reads_bad image marks a r [] w m h = tt
reads_bad image marks a r (p ∷ ps) w m h = (
  λ is_read. record { each = λ k lt sure. (h.0 is_read).each k lt (sym (still (p.start + k)) ∙ sure) ∙ rw (m, w) refl },
  reads_bad image marks a r ps w m h.1,
) where
  still : (place : ℕ) → unsure (Answered a ∷ marks) place ≡ unsure marks place
  still place = rw (m, w) refl

-- an answer that isn't good changes nothing in the table
pub agrees_bad : (t : Table) (marks : List Mark) (a : BlockReply) (r : BlockRequest) → Agrees t marks
    → is_endpoint a.from t.current ≡ true
    → asked_by a marks ≡ Some r → moved_by a marks ≡ None
    → Agrees t (Answered a ∷ marks)
agrees_bad t marks a r h from w m =
    let s = h.holds in
    record {
      opened = h.opened;
      waiting = h.waiting;
      holds = record {
        items = s.items;
        issued = s.issued;
        requests = rw m s.requests;
        numbered = s.numbered;
        ids = s.ids;
        well_formed = (s.well_formed, (started_by t marks a.from s.current from, rw w refl));
        current = s.current;
        given_up = s.given_up;
        apart = s.apart;
        joined = joined_like marks (Answered a ∷ marks) (h.opened ++ h.waiting) (λ _ _ h. rw (m, w) h) s.joined;
        reads = λ image tr. reads_bad image marks a r (h.opened ++ h.waiting) w m (s.reads image tr.0);
        writes = λ image. wrote_like image marks (Answered a ∷ marks) (h.opened ++ h.waiting) (λ _. rw (m, w) refl) (λ _. rw (m, w) refl) (s.writes image);
      };
    }

-- a reply that is dropped leaves no mark and asks for no complaint
pub record Dropped (marks : List Mark) (a : BlockReply) : Type 0 where
  pub stays : received (incoming.Reply a) marks ≡ marks
  pub due : complaint_due a marks ≡ None
  pub moves : counted_move marks a ≡ None

-- a reply that doesn't count
dropped : (marks : List Mark) (a : BlockReply) → counts marks a ≡ false → Dropped marks a
dropped marks a e = record { stays = rw e refl; due = rw e refl; moves = rw e refl }

-- one from elsewhere
pub dropped_other : (t : Table) (marks : List Mark) (a : BlockReply) → Agrees t marks → is_endpoint a.from t.current ≡ false → Dropped marks a
dropped_other t marks a h e = dropped marks a (counts_other t marks a h e)

-- one whose id isn't open
pub dropped_unknown : (t : Table) (marks : List Mark) (a : BlockReply) → Agrees t marks
    → position (λ (p : Pending). p.request.id == a.id) (take t.issued t.pending) ≡ None → Dropped marks a
dropped_unknown t marks a h e = dropped marks a (counts_none marks a (not_found t marks a.id h e))

-- a reply that counts leaves its mark, and asks for a complaint where it isn't good
pub record Counted (marks : List Mark) (a : BlockReply) (m : Option ℕ) : Type 0 where
  pub grows : received (incoming.Reply a) marks ≡ Answered a ∷ marks
  pub due : complaint_due a marks ≡ cond (not (is_some m)) (Some a.from) None
  pub moves : moved_by a marks ≡ m
  pub counted : counted_move marks a ≡ m

-- a reply to the entry that was found
pub counted : (t : Table) (marks : List Mark) (a : BlockReply) (e : Pending) (at : ℕ) (m : Option ℕ) → Agrees t marks
    → is_endpoint a.from t.current ≡ true
    → position (λ (p : Pending). p.request.id == a.id) (take t.issued t.pending) ≡ Some at
    → e ≡ get_or t.pending at e
    → moved e.request.count a.outcome ≡ m
    → Counted marks a m
counted t marks a e at m h from place is good =
    let w = entry_found t marks a.id at e h place is in
    let c = counts_found t marks a e.request h from w in
    let moves : moved_by a marks ≡ m = rw w good in
    record { grows = rw c refl; due = rw (c, moves) refl; moves = moves; counted = rw c moves }

-- where no byte of a range is pending, it is apart from those that are
apart_new : (q : Pending) (ps : List Pending) → list_any (meets q.start q.size) ps ≡ false → ApartFromAll q ps
apart_new q [] e = tt
apart_new q (p ∷ ps) e = (
  by (nat_lt q.start (p.start + p.size)) (nat_lt p.start (q.start + q.size)) refl refl,
  apart_new q ps (or_right (meets q.start q.size p) (list_any (meets q.start q.size) ps) e),
) where
  or_right : (a b : Bool) → (a || b) ≡ false → b ≡ false
  or_right true b e = cc
  or_right false b e = e

  or_left : (a b : Bool) → (a || b) ≡ false → a ≡ false
  or_left true b e = cc
  or_left false b e = refl

  none : meets q.start q.size p ≡ false
  none = or_left (meets q.start q.size p) (list_any (meets q.start q.size) ps) e

  by : (a b : Bool) → nat_lt q.start (p.start + p.size) ≡ a → nat_lt p.start (q.start + q.size) ≡ b → Apart q p
  by false b f g = record { apart = inr (let le : p.start + p.size ≤ q.start = grind (arith, nat_tests) in le) }
  by true false f g = record { apart = inl (let le : q.start + q.size ≤ p.start = grind (arith, nat_tests) in le) }
  by true true f g =
      let x : meets q.start q.size p ≡ true = rw (f, g) refl in
      let y : true ≡ false = sym x ∙ none in
      cc

-- a request that becomes pending
pub agrees_add : (t u : Table) (marks : List Mark) (q : Pending) → Agrees t marks
    → u.pending ≡ t.pending ++ q ∷ [] → u.ids ≡ t.ids + 1 → q.request.id ≡ t.ids + 1
    → u.posted ≡ t.posted → u.issued ≡ t.issued → u.current ≡ t.current → u.given_up ≡ t.given_up
    → length t.pending < 16
    → q.request.position ≡ q.start
    → (is_write q.request.kind ≡ true → (k : ℕ) → slice_index q.request.bytes k ≡ slice_index q.bytes k)
    → list_any (meets q.start q.size) t.pending ≡ false
    → Agrees u marks
agrees_add t u marks q h items ids number posted issued current given_up few begins bytes free =
    let few' : length h.opened + length h.waiting < 16 =
    omega (arith, ap (λ (l : List Pending). length l) h.holds.items, length-append h.opened h.waiting) in
    record {
      opened = h.opened;
      waiting = h.waiting ++ q ∷ [];
      holds = holds_push t u marks h.opened h.waiting q h.holds items ids number posted issued current given_up few'
          (rw (← h.holds.items) (apart_new q t.pending free))
          (λ read. record { each = λ k lt. absurd (omega arith) })
          (λ image tr read. record { each = λ k lt sure. absurd (omega arith) })
          (λ image w. record {
            moved = λ k lt. absurd (omega arith);
            left = λ k lt. let at : k ≡ q.request.position - q.start + k = omega (arith, begins) in
                bytes w k ∙ ap (λ (x : ℕ). slice_index q.bytes x) at;
          });
    }
