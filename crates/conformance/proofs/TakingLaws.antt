-- What stands with a driver was issued to it.
use Rattle.std.proofs.Common.{◌≡◌, ℕ, zero, suc, ◌+◌, ◌≤◌, List, [], ◌∷◌, ◌++◌, length, Bool, true, false, refl, sym, ◌∙◌, ap, subst, arith, ◌⊎◌, inl, inr}
use Rattle.std.specs.Prelude.{◌&&◌, ◌||◌, ◌==◌, if◌then◌else◌, map, Option, Some, None, IfSome, IsSomeAnd, slice_get}
use Rattle.lemmas.proofs.Bools.{or_right}
use Rattle.message.specs.declared.BlockRequest.{BlockRequest}
use Rattle.message.specs.declared.BlockReply.{BlockReply}
use Rattle.media.specs.Contents.{MediaState}
use Rattle.bdev.specs.DriverState.{DriverState, Work}
use Rattle.bdev.specs.Promises.{requests_in_work}
use Rattle.reincarnate.specs.declared.policy.Policy.{Policy}
use Rattle.reincarnate.specs.Watch.{new_watch}
use Rattle.records.specs.Area.{Area}
use Rattle.records.specs.Marks.{Mark, Started, Answered, Flush, GaveUp, Took, Issued, Fault}
use Rattle.records.specs.Open.{IsIn}
use Rattle.schedule.specs.declared.Sent.{Sent}
use Rattle.schedule.specs.declared.Event.{Event}
use Rattle.schedule.specs.Groups.{Group, marks_of, Each}
use Rattle.schedule.specs.Drivers.{state_of, is_issued_to, requests_issued_to, TookItsOwn}
use Rattle.simulated_link.specs.Disks.{Disks, Slot}
use Rattle.simulated_link.specs.StateView.{IsOpened}
use Rattle.simulated_link.specs.Moments.{Moment, Resting, Runs}
use Rattle.conformance.specs.Core.{Core}
use Rattle.conformance.specs.Seen.{core_at}
use Rattle.conformance.specs.Steady.{IsKept, AllSlots, state_in, drivers_of}
use Rattle.conformance.proofs.FollowLaws.{same_number}
use Rattle.conformance.proofs.SlotLaws.{push_get, same_slot}
use Rattle.conformance.specs.Said.{core_of}
use Rattle.conformance.proofs.SaidLaws.{runs_said}
use Rattle.conformance.proofs.OpeningLaws.{opened_scene, opened_said, opened_follows, begins_before, calm_before}
use Rattle.conformance.specs.Took.{TookNothing, replies_from, IssuedSoFar, SlotTook, TookSoFar}
use Rattle.conformance.specs.TookLaws.{TookIsKept, RunsGiveTook, RunsKeepTook}
use Rattle.conformance.proofs.Small.{each_push, each_on}
use Rattle.conformance.proofs.Moves.{answers_of}
use Rattle.conformance.proofs.DriverMoves.{Handing, Leaves, IsOld, IsTaken, handing, Stepping, Idles, GoesOn, Ends, stepping}
use Rattle.conformance.proofs.EachDriver.{Keeps, HoldsOf, slots_as}
use Rattle.conformance.proofs.HoldingLaws.{HoldsSoFar, holds_kept}

-- whether one of these has this id
abbrev pub has_id : ℕ → List BlockRequest → Bool
has_id id [] = false
has_id id (r ∷ rs) = (r.id == id) || has_id id rs

pub in_has : (r : BlockRequest) (rs : List BlockRequest) → IsIn r rs → has_id r.id rs ≡ true
in_has r [] h = absurd h
in_has r (q ∷ rs) (inl e) =
    ap (λ (b : Bool). b || has_id r.id rs) (ap (λ (x : BlockRequest). x.id == r.id) (sym e) ∙ same_number r.id)
in_has r (q ∷ rs) (inr h) = or_right (q.id == r.id) (has_id r.id rs) (in_has r rs h)

-- by what was issued to it
pub record Taken (issued : List BlockRequest) (replies : List BlockReply) (d : DriverState) (line : List BlockRequest) : Type 0 where
  pub last : ((d.last == 0) || has_id d.last issued) ≡ true
  pub work : IfSome d.work (λ w. (w.request.id ≡ d.last) × IsIn w.request issued)
  pub waits : Each (λ r. IsIn r issued) line

-- a new driver has no work, and no reply of it was bad
pub record IsIdle (d : DriverState) : Type 0 where
  pub work : d.work ≡ None
  pub bad : d.bad ≡ 0

pub new_idle : (d : DriverState) → TookNothing d → IsIdle d
new_idle d new = record { work = by d.work refl; bad = none } where
  none : d.bad ≡ 0
  none = let few : d.bad + requests_in_work d.work ≤ d.last = new.driver.bad_is_few in
      let last : d.last ≡ 0 = new.unused in omega (arith, few, last)

  clash : (n : ℕ) → d.bad + 1 ≤ n → n ≡ 0 → ⊥
  clash n few is = omega (arith, few, is)

  by : (w : Option Work) → d.work ≡ w → d.work ≡ None
  by None is = is
  by (Some w) is =
      absurd (clash d.last (subst (λ (o : Option Work). d.bad + requests_in_work o ≤ d.last) is new.driver.bad_is_few) new.unused)

pub taken_first : (d : DriverState) → TookNothing d → Taken [] [] d []
taken_first d new = record {
  last = ap (λ (n : ℕ). (n == 0) || false) new.unused;
  work = subst (λ (o : Option Work). IfSome o (λ w. (w.request.id ≡ d.last) × IsIn w.request [])) (sym (new_idle d new).work) tt;
  waits = tt;
}

taken_as : (issued : List BlockRequest) (replies : List BlockReply) (b a : DriverState) (line : List BlockRequest) → a ≡ b
    → Taken issued replies b line
    → Taken issued replies a line
taken_as issued replies b a line is h = subst (λ (x : DriverState). Taken issued replies x line) (sym is) h

pub some_if : (o : Option Work) (P Q : Work → Type 0) → ((w : Work) → P w → Q w) → IsSomeAnd o P → IfSome o Q
some_if None P Q on h = tt
some_if (Some w) P Q on h = on w h

pub taken_hands : (issued : List BlockRequest) (replies : List BlockReply) (b a : DriverState) (line left : List BlockRequest)
    → Handing b a line left
    → Taken issued replies b line → Taken issued replies a left
taken_hands issued replies b a line _ (Leaves _ is) h = taken_as issued replies b a line is h
taken_hands issued replies b a _ _ (IsOld q rest low is) h =
    taken_as issued replies b a rest is (record { last = h.last; work = h.work; waits = h.waits.1 })
taken_hands issued replies b a _ _ (IsTaken q rest none above takes) h = record {
  last = or_right (a.last == 0) (has_id a.last issued) (ap (λ (n : ℕ). has_id n issued) takes.last ∙ in_has q issued h.waits.0);
  work = some_if a.work (λ w. (w.request ≡ q) × ((k : ℕ) → w.moved k ≡ false)) (λ w. (w.request.id ≡ a.last) × IsIn w.request issued)
      (λ w is.
      (ap (λ (r : BlockRequest). r.id) is.0 ∙ sym takes.last, subst (λ (r : BlockRequest). IsIn r issued) (sym is.0) h.waits.0)) takes.work;
  waits = h.waits.1;
}

pub taken_steps : (issued : List BlockRequest) (replies : List BlockReply) (line : List BlockRequest) (g : ℕ) (b a : DriverState)
    (answers : List BlockReply)
    → Stepping g b a answers → Taken issued replies b line → Taken issued (replies ++ answers) a line
taken_steps issued replies line g b a _ (Idles was now last bad) h = record {
  last = ap (λ (n : ℕ). (n == 0) || has_id n issued) last ∙ h.last;
  work = subst (λ (o : Option Work). IfSome o (λ w. (w.request.id ≡ a.last) × IsIn w.request issued)) (sym now) tt;
  waits = h.waits;
}
taken_steps issued replies line g b a _ (GoesOn w w' was now same last bad) h = record {
  last = ap (λ (n : ℕ). (n == 0) || has_id n issued) last ∙ h.last;
  work = subst (λ (o : Option Work). IfSome o (λ x. (x.request.id ≡ a.last) × IsIn x.request issued)) (sym now)
      (by (subst (λ (o : Option Work). IfSome o (λ x. (x.request.id ≡ b.last) × IsIn x.request issued)) was h.work));
  waits = h.waits;
} where
  by : (w.request.id ≡ b.last) × IsIn w.request issued → (w'.request.id ≡ a.last) × IsIn w'.request issued
  by k = (ap (λ (r : BlockRequest). r.id) same ∙ k.0 ∙ sym last, subst (λ (r : BlockRequest). IsIn r issued) (sym same) k.1)
taken_steps issued replies line g b a _ (Ends w answer was now id last bad) h = record {
  last = ap (λ (n : ℕ). (n == 0) || has_id n issued) last ∙ h.last;
  work = subst (λ (o : Option Work). IfSome o (λ x. (x.request.id ≡ a.last) × IsIn x.request issued)) (sym now) tt;
  waits = h.waits;
}

pub taken_again : (issued : List BlockRequest) (replies : List BlockReply) (d : DriverState) (line : List BlockRequest)
    (r : BlockRequest) → IsIn r issued
    → Taken issued replies d line → Taken issued replies d (line ++ r ∷ [])
taken_again issued replies d line r is h = record { last = h.last; work = h.work; waits = each_push (λ q. IsIn q issued) line r is h.waits }

-- what was issued stays issued
pub taken_more : (issued : List BlockRequest) (replies : List BlockReply) (d : DriverState) (line : List BlockRequest) (r : BlockRequest)
    → Taken issued replies d line → Taken (r ∷ issued) replies d line
taken_more issued replies d line r h = record {
  last = by (d.last == 0) (r.id == d.last) (has_id d.last issued) h.last;
  work = some_still d.work (λ w. (w.request.id ≡ d.last) × IsIn w.request issued)
      (λ w. (w.request.id ≡ d.last) × IsIn w.request (r ∷ issued))
      (λ w k. (k.0, inr k.1)) h.work;
  waits = each_on (λ q. IsIn q issued) (λ q. IsIn q (r ∷ issued)) line (λ q is. inr is) h.waits;
} where
  by : (a b c : Bool) → (a || c) ≡ true → (a || (b || c)) ≡ true
  by true b c k = refl
  by false true c k = refl
  by false false c k = k

  some_still : (o : Option Work) (P Q : Work → Type 0) → ((w : Work) → P w → Q w) → IfSome o P → IfSome o Q
  some_still None P Q on k = tt
  some_still (Some w) P Q on k = on w k

pub taken_issues : (issued : List BlockRequest) (replies : List BlockReply) (d : DriverState) (line : List BlockRequest) (r : BlockRequest)
    → Taken issued replies d line → Taken (r ∷ issued) replies d (line ++ r ∷ [])
taken_issues issued replies d line r h = taken_again (r ∷ issued) replies d line r (inl refl) (taken_more issued replies d line r h)

abbrev pub AnyRecord : List Mark → Type 0
AnyRecord marks = Unit {0}

pub taken_keeps : Keeps AnyRecord Taken
taken_keeps = record {
  shorter = λ m marks fit. tt;
  at_first = taken_first;
  steps = λ issued replies b line handed left m g step a m' hands driver steps h.
      taken_steps issued replies left g handed a (answers_of g step) (stepping handed m g step a m' steps)
      (taken_hands issued replies b handed line left (handing b line handed left hands) h);
  again = taken_again;
  issues = λ marks r to replies d line fit since h. taken_issues (requests_issued_to to.generation marks) replies d line r h;
}

-- the same by the record's own words
pub issued_same : (g id : ℕ) (marks : List Mark) → is_issued_to g id marks ≡ has_id id (requests_issued_to g marks)
issued_same g id [] = refl
issued_same g id (Started e ∷ marks) = issued_same g id marks
issued_same g id (Answered a ∷ marks) = issued_same g id marks
issued_same g id (Flush ∷ marks) = issued_same g id marks
issued_same g id (GaveUp ∷ marks) = issued_same g id marks
issued_same g id (Took who now call reply ∷ marks) = issued_same g id marks
issued_same g id (Fault e cause ∷ marks) = issued_same g id marks
issued_same g id (Issued r e ∷ marks) =
    ap (λ (b : Bool). ((e.slot == 1) && (e.generation == g) && (r.id == id)) || b) (issued_same g id marks)
    ∙ by (e.slot == 1) (e.generation == g) where
      by : (a b : Bool) → ((a && b && (r.id == id)) || has_id id (requests_issued_to g marks))
          ≡ has_id id (if a && b then r ∷ requests_issued_to g marks else requests_issued_to g marks)
      by true true = refl
      by true false = refl
      by false b = refl

pub took_its_own : (marks : List Mark) (g : ℕ) (replies : List BlockReply) (d : DriverState) (line : List BlockRequest)
    → Taken (requests_issued_to g marks) replies d line → TookItsOwn marks g d
took_its_own marks g replies d line h = record {
  last = ap (λ (b : Bool). (d.last == 0) || b) (issued_same g d.last marks)
      ∙ h.last;
  work = h.work;
}

slot_taken : (groups : List Group) (sent : List Sent) (g : ℕ) (s : Slot) → SlotTook groups g s
    → HoldsOf AnyRecord Taken taken_keeps (marks_of groups) sent g s
slot_taken groups sent g s h = record {
  last = ap (λ (b : Bool). (s.state.last == 0) || b) (sym (issued_same g s.state.last (marks_of groups))) ∙ h.took.last;
  work = h.took.work;
  waits = h.line;
}

slot_took : (groups : List Group) (sent : List Sent) (g : ℕ) (s : Slot) → HoldsOf AnyRecord Taken taken_keeps (marks_of groups) sent g s
    → SlotTook groups g s
slot_took groups sent g s h = record {
  took = took_its_own (marks_of groups) g (replies_from g sent) s.state s.line h;
  line = h.waits;
}

took_so_far : (drivers place : ℕ) (groups : List Group) (c : Core) → HoldsSoFar AnyRecord Taken taken_keeps drivers place groups c
    → TookSoFar drivers place groups c
took_so_far drivers place groups c h = record {
  issued = h.issued;
  slots = slots_as (HoldsOf AnyRecord Taken taken_keeps (marks_of groups) c.disks.sent) (SlotTook groups) c.disks
      (λ g s k. slot_took groups c.disks.sent g s k) (h.slots tt);
}

taken_so_far : (drivers place : ℕ) (groups : List Group) (c : Core) → TookSoFar drivers place groups c
    → HoldsSoFar AnyRecord Taken taken_keeps drivers place groups c
taken_so_far drivers place groups c h = record {
  issued = h.issued;
  slots = λ fit. slots_as (SlotTook groups) (HoldsOf AnyRecord Taken taken_keeps (marks_of groups) c.disks.sent) c.disks
      (λ g s k. slot_taken groups c.disks.sent g s k) h.slots;
}

pub took_kept : TookIsKept
took_kept drivers =
    let kept : IsKept (HoldsSoFar AnyRecord Taken taken_keeps drivers) = holds_kept AnyRecord Taken taken_keeps drivers in
    record {
      begins = λ place groups c a event marks paid begins h. took_so_far drivers (place + 1) ((event, marks) ∷ groups) a
          (kept.begins place groups c a event marks paid begins (taken_so_far drivers place groups c h));
      adds = λ place event group earlier c a marks adds h. took_so_far drivers place ((event, marks ++ group) ∷ earlier) a
          (kept.adds place event group earlier c a marks adds (taken_so_far drivers place ((event, group) ∷ earlier) c h));
    }

-- before the first event nothing was issued
pub opened_issued : (media : MediaState) (rules : Policy) (supply : List DriverState) (first : DriverState) (rest : List DriverState)
    → media.generation ≡ 0
    → supply ≡ first ∷ rest → Each TookNothing rest
    → IssuedSoFar (length supply) [] (core_at (opened_scene media rules (length supply) first rest) false false)
opened_issued media rules supply first rest new spare fresh = record {
  follows = opened_follows media rules supply first rest new spare;
  numbered = omega (arith, new);
  new = fresh;
  posts = tt;
  since = refl;
  unstarted = λ h low. refl;
  silent = λ h low. refl;
}

-- what each driver keeps holds of each at each moment of a run
module _ (Fit : List Mark → Type 0) (Holds : List BlockRequest → List BlockReply → DriverState → List BlockRequest → Type 0)
    (keeps : Keeps Fit Holds) where
  pub runs_hold : (media : MediaState) (rules : Policy) (supply : List DriverState) (events : List Event) (area : Area) (b a : Moment)
      → media.generation ≡ 0 → Each TookNothing supply → IsOpened media rules (new_watch (length supply)) supply events b.run → b.doing ≡ Resting
      → Runs area b a → HoldsSoFar Fit Holds keeps (length supply) a.run.next a.run.scene.noted.groups (core_of a.run)
  runs_hold media rules supply events area b a new fresh o rests runs =
      let n : ℕ = length supply in
      let all : Each TookNothing (o.scene.first ∷ o.scene.rest) = subst (λ (l : List DriverState). Each TookNothing l) o.scene.spare fresh in
      (runs_said (HoldsSoFar Fit Holds keeps n) (holds_kept Fit Holds keeps n) area b a runs (calm_before media rules supply events b o)
      (begins_before media rules supply events b o rests)
      (opened_said (HoldsSoFar Fit Holds keeps n) media rules supply events b.run o (record {
        issued = opened_issued media rules supply o.scene.first o.scene.rest new o.scene.spare all.1;
        slots = λ fit. record { older = λ at s there. cc; current = keeps.at_first o.scene.first all.0 };
      }))).said

pub runs_give_took : RunsGiveTook
runs_give_took media rules supply events area b a new fresh o rests runs =
    took_so_far (length supply) a.run.next a.run.scene.noted.groups (core_of a.run)
    (runs_hold AnyRecord Taken taken_keeps media rules supply events area b a new fresh o rests runs)

states_stand : (slots : List Slot) (Good : ℕ → DriverState → Type 0) → ((k : ℕ) (s : Slot) → slice_get slots k ≡ Some s
    → Good k s.state) → (k : ℕ)
    → IfSome (slice_get (map state_in slots) k) (Good k)
states_stand [] Good f k = tt
states_stand (s ∷ slots) Good f zero = f zero s refl
states_stand (s ∷ slots) Good f (suc k) = states_stand slots (λ (j : ℕ). Good (suc j)) (λ j t there. f (suc j) t there) k

-- what holds of all slots holds of each driver by its number
pub each_driver : (Stands : ℕ → Slot → Type 0) (Good : ℕ → DriverState → Type 0) → ((g : ℕ) (s : Slot) → Stands g s → Good g s.state)
    → (d : Disks)
    → length d.older + 1 ≡ d.media.generation → AllSlots Stands d → (g : ℕ) → IfSome (state_of (drivers_of d) g) (Good g)
each_driver Stands Good on d number h zero = tt
each_driver Stands Good on d number h (suc g) =
    states_stand (d.older ++ d.current ∷ []) (λ (j : ℕ). Good (suc j)) (λ k s there. by k s (push_get d.older k d.current s there)) g where
      as_number : (k : ℕ) → k + 1 ≡ suc k
      as_number k = omega arith

      by : (k : ℕ) (s : Slot) → (slice_get d.older k ≡ Some s) ⊎ ((k ≡ length d.older) × (Some d.current ≡ Some s)) → Good (suc k) s.state
      by k s (inl there) = subst (λ (n : ℕ). Good n s.state) (as_number k) (on (k + 1) s (h.older k s there))
      by k s (inr last) =
          let same : d.media.generation ≡ suc k = omega (arith, number, last.0) in
          subst (λ (n : ℕ). Good n s.state) same
          (subst (λ (t : Slot). Good d.media.generation t.state) (same_slot d.current s last.1) (on d.media.generation d.current h.current))

pub runs_keep_took : RunsKeepTook
runs_keep_took media rules supply events area b a new fresh o rests runs =
    let h : TookSoFar (length supply) a.run.next a.run.scene.noted.groups (core_of a.run) =
    runs_give_took media rules supply events area b a new fresh o rests runs in
    each_driver (SlotTook a.run.scene.noted.groups) (TookItsOwn (marks_of a.run.scene.noted.groups))
    (λ g s k. k.took) a.run.scene.disks h.issued.numbered h.slots
