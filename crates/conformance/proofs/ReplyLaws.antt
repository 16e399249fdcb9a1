-- The replies of each driver are those that it gave as it stands.
use Rattle.std.proofs.Common.{◌≡◌, ℕ, ◌+◌, ◌<◌, ◌≤◌, List, [], ◌∷◌, length, Bool, true, false, refl, sym, ◌∙◌, ap, subst, arith, ◌⊎◌, inl, inr}
use Rattle.std.proofs.lemmas.Bool.Decides.{nat_tests}
use Rattle.std.specs.Prelude.{◌&&◌, ◌||◌, ◌==◌, not, max, nat_le, nat_lt, if◌then◌else◌, Option, Some, None, IfSome, is_some}
use Rattle.lemmas.proofs.Bools.{and_left, and_right, true_not_false}
use Rattle.message.specs.declared.endpoint.Endpoint.{Endpoint}
use Rattle.message.specs.declared.BlockRequest.{BlockRequest}
use Rattle.bdev.specs.DriverState.{DriverState, Work}
use Rattle.reincarnate.specs.Watch.{driver}
use Rattle.records.specs.Marks.{Mark, Started, Answered, Flush, GaveUp, Took, Issued, Fault}
use Rattle.records.specs.Open.{IsIn, IsNew, IsAgain, IsWellFormed, greatest, moved_of, open_requests}
use Rattle.records.proofs.OpenRequests.{open_below, open_after_issue, open_answered, one_id}
use Rattle.schedule.specs.declared.Sent.{Sent}
use Rattle.schedule.specs.Groups.{Group, marks_of, Each}
use Rattle.schedule.specs.Drivers.{requests_issued_to}
use Rattle.schedule.specs.Replies.{issued_with, is_good_reply, bad_of, replies_of, is_working_on, is_done_with, IsRepliedTo, IsOfItsDriver, are_ids_rising, RepliesOf}
use Rattle.conformance.proofs.FollowLaws.{same_number, other_number}
use Rattle.conformance.specs.Said.{core_of}
use Rattle.conformance.specs.Took.{replies_from}
use Rattle.conformance.specs.TookLaws.{RunsKeepReplies}
use Rattle.conformance.proofs.Small.{number_is, each_on}
use Rattle.conformance.proofs.EachDriver.{HoldsOf}
use Rattle.conformance.proofs.HoldingLaws.{HoldsSoFar}
use Rattle.conformance.proofs.TakingLaws.{has_id, runs_hold, each_driver}
use Rattle.conformance.proofs.Answering.{limit, limit_of, rise_from}
use Rattle.conformance.proofs.InPlace.{AreInPlace, all_in_place}
use Rattle.conformance.proofs.Leading.{times}
use Rattle.conformance.proofs.Counting.{request_with, is_good_in, bad_among, Counts, counts_keeps}

-- an id is done with where it is below the limit
done_limit : (work : Option Work) (last id : ℕ) → IfSome work (λ w. w.request.id ≡ last)
    → (nat_le id last && not (is_working_on work id)) ≡ true
    → id < limit_of work last
done_limit None last id own done = let most : nat_le id last ≡ true = and_left (nat_le id last) true done in grind (arith, nat_tests, most)
done_limit (Some w) last id own done = less (and_left (nat_le id last) (not (w.request.id == id)) done)
    (other (w.request.id == id) refl done) where
      other : (c : Bool) → (w.request.id == id) ≡ c → (nat_le id last && not c) ≡ true → last ≡ id → ⊥
      other true is h same = true_not_false (sym (and_right (nat_le id last) false h))
      other false is h same = true_not_false (sym (ap (λ (n : ℕ). n == id) (own ∙ same) ∙ same_number id) ∙ is)

      less : nat_le id last ≡ true → (last ≡ id → ⊥) → id < last
      less most different = grind (arith, nat_tests, most, different)

limit_done : (work : Option Work) (last id : ℕ) → IfSome work (λ w. w.request.id ≡ last) → id < limit_of work last
    → (nat_le id last && not (is_working_on work id)) ≡ true
limit_done None last id own low = let most : nat_le id last ≡ true = grind (arith, nat_tests, low) in ap (λ (b : Bool). b && true) most
limit_done (Some w) last id own low =
    let most : nat_le id last ≡ true = grind (arith, nat_tests, low) in
    ap (λ (b : Bool). b && not (w.request.id == id)) most
    ∙ ap not (ap (λ (n : ℕ). n == id) own ∙ other_number last id (λ e. not_both last id e low)) where
      not_both : (m n : ℕ) → m ≡ n → n < m → ⊥
      not_both m n e less = omega (arith, e, less)

own_work : (issued : List BlockRequest) (last : ℕ) (work : Option Work) → IfSome work (λ w. (w.request.id ≡ last) × IsIn w.request issued)
    → IfSome work (λ w. w.request.id ≡ last)
own_work issued last None h = tt
own_work issued last (Some w) h = h.0

-- the replies of one driver
own_replies : (g : ℕ) (d : DriverState) (sent : List Sent) → Each (λ a. is_done_with d a.id ≡ true) (replies_from g sent)
    → Each (IsOfItsDriver g d) sent
own_replies g d [] h = tt
own_replies g d (s ∷ sent) h = by (λ k. own_replies g d sent k) (s.reply.from.generation == g) refl h where
  other : (s.reply.from.generation == g) ≡ false → s.reply.from.generation ≡ g → ⊥
  other is e = true_not_false (sym (ap (λ (n : ℕ). n == g) e ∙ same_number g) ∙ is)

  by : (Each (λ a. is_done_with d a.id ≡ true) (replies_from g sent) → Each (IsOfItsDriver g d) sent) → (b : Bool)
      → (s.reply.from.generation == g) ≡ b
      → Each (λ a. is_done_with d a.id ≡ true) (if b then s.reply ∷ replies_from g sent else replies_from g sent)
      → Each (IsOfItsDriver g d) (s ∷ sent)
  by later true is k = (record { done = λ e. k.0 }, later k.1)
  by later false is k = (record { done = λ e. absurd (other is e) }, later k)

rising_replies : (g id : ℕ) (sent : List Sent) → are_ids_rising g id sent ≡ rise_from id (replies_from g sent)
rising_replies g id [] = refl
rising_replies g id (s ∷ sent) =
    by (s.reply.from.generation == g) (rising_replies g s.reply.id sent) (rising_replies g id sent) where
      by : (b : Bool) → are_ids_rising g s.reply.id sent ≡ rise_from s.reply.id (replies_from g sent)
          → are_ids_rising g id sent ≡ rise_from id (replies_from g sent)
          → (if b then nat_lt id s.reply.id && are_ids_rising g s.reply.id sent else are_ids_rising g id sent)
          ≡ rise_from id (if b then s.reply ∷ replies_from g sent else replies_from g sent)
      by true own other = ap (λ (c : Bool). nat_lt id s.reply.id && c) own
      by false own other = other

times_replies : (g id : ℕ) (sent : List Sent) → replies_of g id sent ≡ times id (replies_from g sent)
times_replies g id [] = refl
times_replies g id (s ∷ sent) =
    ap (λ (n : ℕ). if (s.reply.from.generation == g) && (s.reply.id == id) then n + 1 else n) (times_replies g id sent)
    ∙ by (s.reply.from.generation == g) where
      by : (b : Bool) → (if b && (s.reply.id == id) then times id (replies_from g sent) + 1 else times id (replies_from g sent))
          ≡ times id (if b then s.reply ∷ replies_from g sent else replies_from g sent)
      by true = refl
      by false = refl

-- what was issued to one driver
one_reply : (g : ℕ) (d : DriverState) (sent : List Sent) (marks : List Mark)
    → Each (λ r. is_done_with d r.id ≡ true → replies_of g r.id sent ≡ 1) (requests_issued_to g marks) → Each (IsRepliedTo g d sent) marks
one_reply g d sent [] h = tt
one_reply g d sent (Started e ∷ marks) h = (tt, one_reply g d sent marks h)
one_reply g d sent (Answered a ∷ marks) h = (tt, one_reply g d sent marks h)
one_reply g d sent (Flush ∷ marks) h = (tt, one_reply g d sent marks h)
one_reply g d sent (GaveUp ∷ marks) h = (tt, one_reply g d sent marks h)
one_reply g d sent (Took who now call reply ∷ marks) h = (tt, one_reply g d sent marks h)
one_reply g d sent (Fault e cause ∷ marks) h = (tt, one_reply g d sent marks h)
one_reply g d sent (Issued r e ∷ marks) h =
    by (λ k. one_reply g d sent marks k) ((e.slot == 1) && (e.generation == g)) refl h where
      at : e ≡ driver g → ((e.slot == 1) && (e.generation == g)) ≡ true
      at is = ap (λ (x : Endpoint). (x.slot == 1) && (x.generation == g)) is ∙ ap (λ (b : Bool). b) (same_number g)

      other : ((e.slot == 1) && (e.generation == g)) ≡ false → e ≡ driver g → ⊥
      other none is = true_not_false (sym (at is) ∙ none)

      by : (Each (λ x. is_done_with d x.id ≡ true → replies_of g x.id sent ≡ 1) (requests_issued_to g marks)
          → Each (IsRepliedTo g d sent) marks)
          → (b : Bool) → ((e.slot == 1) && (e.generation == g)) ≡ b
          → Each (λ x. is_done_with d x.id ≡ true
          → replies_of g x.id sent ≡ 1) (if b then r ∷ requests_issued_to g marks else requests_issued_to g marks)
          → Each (IsRepliedTo g d sent) (Issued r e ∷ marks)
      by later true is k = (λ same done. k.0 done, later k.1)
      by later false is k = (λ same done. absurd (other is same), later k)

-- a request whose id isn't above the greatest is issued again
again_where_low : (marks : List Mark) (r : BlockRequest) → r.id ≤ greatest marks → IsNew marks r ⊎ IsAgain marks r → IsAgain marks r
again_where_low marks r low (inl new) = absurd (not_both r.id (greatest marks) low new.next) where
  not_both : (m n : ℕ) → m ≤ n → m ≡ n + 1 → ⊥
  not_both m n low is = omega (arith, low, is)
again_where_low marks r low (inr again) = again

-- in a well-formed record the last request with an open one's id is that one
open_issued : (marks : List Mark) (q : BlockRequest) → IsWellFormed marks → IsIn q (open_requests marks) → issued_with q.id marks ≡ Some q
open_issued [] q w is = absurd is
open_issued (Started e ∷ marks) q w is = open_issued marks q w.0 is
open_issued (Answered a ∷ marks) q w is = open_issued marks q w.0 (open_answered marks a q is)
open_issued (Flush ∷ marks) q w is = open_issued marks q w.0 is
open_issued (GaveUp ∷ marks) q w is = open_issued marks q w.0 is
open_issued (Took who now call reply ∷ marks) q w is = open_issued marks q w.0 is
open_issued (Fault e cause ∷ marks) q w is = open_issued marks q w.0 is
open_issued (Issued r e ∷ marks) q w is =
    by (λ k. open_issued marks q w.0 k) (r.id == q.id) refl ((open_after_issue marks r e w.1.1).only q is) w.1.1 where
      same_one : IsIn q (open_requests marks) → r.id ≡ q.id → IsNew marks r ⊎ IsAgain marks r → r ≡ q
      same_one k e how =
          let low : r.id ≤ greatest marks = subst (λ (n : ℕ). n ≤ greatest marks) (sym e) (open_below marks q k) in
          one_id marks w.0 r q (again_where_low marks r low how).same k e

      differ : (r.id == q.id) ≡ false → q ≡ r → ⊥
      differ is e = true_not_false (sym (ap (λ (x : BlockRequest). r.id == x.id) e ∙ same_number r.id) ∙ is)

      by : (IsIn q (open_requests marks) → issued_with q.id marks ≡ Some q) → (b : Bool) → (r.id == q.id) ≡ b
          → IsIn q (open_requests marks) ⊎ ((q ≡ r) × (r.id ≡ greatest marks + 1)) → IsNew marks r ⊎ IsAgain marks r
          → (if b then Some r else issued_with q.id marks) ≡ Some q
      by later true is (inl k) how = ap (λ (x : BlockRequest). Some x) (same_one k (number_is r.id q.id is) how)
      by later true is (inr k) how = ap (λ (x : BlockRequest). Some x) (sym k.0)
      by later false is (inl k) how = later k
      by later false is (inr k) how = absurd (differ is k.0)

-- an id that was issued to a driver is that of one request
issued_low : (g id : ℕ) (marks : List Mark) → has_id id (requests_issued_to g marks) ≡ true → id ≤ greatest marks
issued_low g id [] has = cc
issued_low g id (Started e ∷ marks) has = issued_low g id marks has
issued_low g id (Answered a ∷ marks) has = issued_low g id marks has
issued_low g id (Flush ∷ marks) has = issued_low g id marks has
issued_low g id (GaveUp ∷ marks) has = issued_low g id marks has
issued_low g id (Took who now call reply ∷ marks) has = issued_low g id marks has
issued_low g id (Fault e cause ∷ marks) has = issued_low g id marks has
issued_low g id (Issued r e ∷ marks) has =
    by (λ k. issued_low g id marks k) ((e.slot == 1) && (e.generation == g)) (r.id == id) refl has where
      own : (r.id == id) ≡ true → id ≤ greatest (Issued r e ∷ marks)
      own is = low (number_is r.id id is) (greatest marks) where
        low : r.id ≡ id → (n : ℕ) → id ≤ max n r.id
        low same n = omega (arith, same)

      older : id ≤ greatest marks → id ≤ greatest (Issued r e ∷ marks)
      older k = low (greatest marks) k where
        low : (n : ℕ) → id ≤ n → id ≤ max n r.id
        low n h = omega (arith, h)

      by : (has_id id (requests_issued_to g marks) ≡ true → id ≤ greatest marks) → (a b : Bool) → (r.id == id) ≡ b
          → has_id id (if a then r ∷ requests_issued_to g marks else requests_issued_to g marks) ≡ true → id ≤ greatest (Issued r e ∷ marks)
      by later true true is k = own is
      by later true false is k = older (later (sym (ap (λ (t : Bool). t || has_id id (requests_issued_to g marks)) is) ∙ k))
      by later false b is k = older (later k)

same_request : (g id : ℕ) (marks : List Mark) → IsWellFormed marks → has_id id (requests_issued_to g marks) ≡ true
    → issued_with id marks ≡ request_with id (requests_issued_to g marks)
same_request g id [] w has = cc
same_request g id (Started e ∷ marks) w has = same_request g id marks w.0 has
same_request g id (Answered a ∷ marks) w has = same_request g id marks w.0 has
same_request g id (Flush ∷ marks) w has = same_request g id marks w.0 has
same_request g id (GaveUp ∷ marks) w has = same_request g id marks w.0 has
same_request g id (Took who now call reply ∷ marks) w has = same_request g id marks w.0 has
same_request g id (Fault e cause ∷ marks) w has = same_request g id marks w.0 has
same_request g id (Issued r e ∷ marks) w has =
    by (λ k. same_request g id marks w.0 k) ((e.slot == 1) && (e.generation == g)) (r.id == id) refl has where
      again : (r.id == id) ≡ true → has_id id (requests_issued_to g marks) ≡ true → IsNew marks r ⊎ IsAgain marks r
          → Some r ≡ issued_with id marks
      again is k how =
          let same : r.id ≡ id = number_is r.id id is in
          let low : r.id ≤ greatest marks = subst (λ (n : ℕ). n ≤ greatest marks) (sym same) (issued_low g id marks k) in
          sym (ap (λ (n : ℕ). issued_with n marks) (sym same) ∙ open_issued marks r w.0 (again_where_low marks r low how).same)

      by : (has_id id (requests_issued_to g marks) ≡ true → issued_with id marks ≡ request_with id (requests_issued_to g marks))
          → (a b : Bool)
          → (r.id == id) ≡ b → has_id id (if a then r ∷ requests_issued_to g marks else requests_issued_to g marks) ≡ true
          → (if b then Some r else issued_with id marks)
          ≡ request_with id (if a then r ∷ requests_issued_to g marks else requests_issued_to g marks)
      by later true true is k = sym (ap (λ (t : Bool). if t then Some r else request_with id (requests_issued_to g marks)) is)
      by later true false is k =
          later (sym (ap (λ (t : Bool). t || has_id id (requests_issued_to g marks)) is) ∙ k)
          ∙ sym (ap (λ (t : Bool). if t then Some r else request_with id (requests_issued_to g marks)) is)
      by later false true is k = again is k w.1.1 ∙ later k
      by later false false is k = later k

bad_replies : (g : ℕ) (marks : List Mark) (sent : List Sent) → IsWellFormed marks
    → Each (λ a. has_id a.id (requests_issued_to g marks) ≡ true) (replies_from g sent)
    → bad_of g marks sent ≡ bad_among (requests_issued_to g marks) (replies_from g sent)
bad_replies g marks [] w asked = refl
bad_replies g marks (s ∷ sent) w asked = by (λ k. bad_replies g marks sent w k) (s.reply.from.generation == g) asked where
  good : has_id s.reply.id (requests_issued_to g marks) ≡ true
      → is_good_reply marks s.reply ≡ is_good_in (requests_issued_to g marks) s.reply
  good has = ap (λ (o : Option BlockRequest). is_some (moved_of o s.reply)) (same_request g s.reply.id marks w has)

  by : (Each (λ a. has_id a.id (requests_issued_to g marks) ≡ true) (replies_from g sent)
      → bad_of g marks sent ≡ bad_among (requests_issued_to g marks) (replies_from g sent)) → (b : Bool)
      → Each (λ a. has_id a.id (requests_issued_to g marks) ≡ true) (if b then s.reply ∷ replies_from g sent else replies_from g sent)
      → (if b && not (is_good_reply marks s.reply) then bad_of g marks sent + 1 else bad_of g marks sent)
      ≡ bad_among (requests_issued_to g marks) (if b then s.reply ∷ replies_from g sent else replies_from g sent)
  by later true k =
      ap (λ (n : ℕ). if not (is_good_reply marks s.reply) then n + 1 else n) (later k.1)
      ∙ ap (λ (t : Bool). if not t then bad_among (requests_issued_to g marks) (replies_from g sent) + 1
      else bad_among (requests_issued_to g marks) (replies_from g sent)) (good k.0)
  by later false k = later k

replies_stand : (marks : List Mark) (sent : List Sent) (g : ℕ) (d : DriverState) (line : List BlockRequest) → IsWellFormed marks
    → Counts (requests_issued_to g marks) (replies_from g sent) d line → RepliesOf marks sent g d
replies_stand marks sent g d line w h =
    let issued : List BlockRequest = requests_issued_to g marks in
    let own : IfSome d.work (λ x. x.request.id ≡ d.last) = own_work issued d.last d.work h.leads.replied.taken.work in
    record {
      bad = bad_replies g marks sent w h.asked ∙ sym h.bad;
      one = one_reply g d sent marks (each_on (λ r. r.id < limit d → times r.id (replies_from g sent) ≡ 1)
          (λ r. is_done_with d r.id ≡ true → replies_of g r.id sent ≡ 1) issued
          (λ r k done. times_replies g r.id sent ∙ k (done_limit d.work d.last r.id own done)) h.leads.one);
      rising = rising_replies g 0 sent ∙ h.leads.replied.rising;
      own = own_replies g d sent (each_on (λ a. a.id < limit d) (λ a. is_done_with d a.id ≡ true) (replies_from g sent)
          (λ a low. limit_done d.work d.last a.id own low) h.leads.replied.done);
    }

pub runs_keep_replies : RunsKeepReplies
runs_keep_replies media rules supply events area b a new fresh o rests runs placed w =
    let groups : List Group = a.run.scene.noted.groups in
    let h : HoldsSoFar AreInPlace Counts counts_keeps (length supply) a.run.next groups (core_of a.run) =
    runs_hold AreInPlace Counts counts_keeps media rules supply events area b a new fresh o rests runs in
    each_driver (HoldsOf AreInPlace Counts counts_keeps (marks_of groups) a.run.scene.disks.sent)
    (RepliesOf (marks_of groups) a.run.scene.disks.sent)
    (λ g s k. replies_stand (marks_of groups) a.run.scene.disks.sent g s.state s.line w k) a.run.scene.disks h.issued.numbered
    (h.slots (all_in_place groups placed w))
