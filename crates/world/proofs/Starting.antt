-- A run from its start.
use Rattle.std.proofs.Common.{◌≡◌, ℕ, ◌+◌, ◌<◌, List, [], ◌∷◌, ◌++◌, length, Bool, true, false, refl, sym, ◌∙◌, ap, subst, arith}
use Rattle.std.specs.Prelude.{take, map, reverse, not, ◌&&◌, is_some}
use Rattle.layout.specs.declared.Geometry.{Geometry}
use Rattle.tree.specs.Tree.{Tree}
use Rattle.message.specs.declared.BlockRequest.{BlockRequest}
use Rattle.message.specs.declared.Incoming.TheVariants as incoming
use Rattle.reincarnate.specs.Watch.{driver}
use Rattle.records.specs.Marks.{Mark, Started}
use Rattle.records.specs.Disk.{Contents}
use Rattle.records.specs.Opening.{contents_at}
use Rattle.records.specs.Open.{has_none}
use Rattle.records.specs.Told.{Told, took_end}
use Rattle.records.specs.Acts.{Act, Began, Absorbed, AtLink, Outbox, told_of, has_absorbed, marks_after, empty_outbox, outbox_after, target, is_post_due, IsAtRest}
use Rattle.records.specs.ServerCall.{Serving, AbsorbKeeps}
use Rattle.reissue.specs.Calls.{Truth}
use Rattle.schedule.specs.declared.Event.{Event}
use Rattle.schedule.specs.Groups.{schedule_of}
use Rattle.schedule.specs.Calls.{arrived, taken}
use Rattle.schedule.specs.Noted.{Noted, marks_in}
use Rattle.schedule.specs.declared.arrived.Arrived.{Arrived}
use Rattle.simulated_link.specs.StateView.{RunState, GoesOn, work_left}
use Rattle.simulated_link.specs.Laws.{IsSound, LeadsOn, IsToldOfEnd}
use Rattle.simulated_link.specs.Waiting.{arrival_of, HasCalls}
use Rattle.simulated_link.specs.Moments.{Resting}
use Rattle.simulated_link.proofs.Leading.{servers_lead_on}
use Rattle.simulated_link.proofs.Running.{history_of, none_told}
use Rattle.file_server.specs.Over.{AbsorbsOver, Stands}
use Rattle.world.proofs.Standing.{absorbed_live}
use Rattle.world.specs.Runs.{IsIdle, moment}
use Rattle.world.specs.Ends.{RunStands, RunsOut}
use Rattle.world.specs.Starts.{IsBeforeFirst, at_first, RunsAll}

none_taken : (events : List Event) → take 0 events ≡ []
none_taken [] = refl
none_taken (e ∷ events) = refl

pub sound_at_first : (p : RunState) → IsBeforeFirst p → IsSound p
sound_at_first p first = record {
  schedule = ap (λ (n : Noted). schedule_of n.groups) first.noted ∙ sym (none_taken p.events) ∙ ap (λ (n : ℕ). take n p.events) (sym first.next);
}

calls_at_first : (p : RunState) → IsBeforeFirst p → HasCalls [] p
calls_at_first p first = record {
  order = ap (λ (n : Noted). arrived n.groups) first.noted
      ∙ sym (ap (λ (n : Noted). taken (marks_in n)) first.noted)
      ∙ ap (λ (q : List Arrived). reverse (map arrival_of q) ++ taken (marks_in p.scene.noted)) (sym first.queue);
}

told_at_first : (p : RunState) → IsBeforeFirst p → IsToldOfEnd p
told_at_first p first = record { is = ap (λ (n : Noted). took_end n.history) first.noted ∙ sym first.live }

-- the first start was handed over
pub idle_at_first : (s t : Serving) (was is : Truth) (b a : RunState) → AbsorbsOver s t was is (incoming.Started (driver 1)) → GoesOn b a → s.ended ≡ false
    → IsBeforeFirst b → s.told ≡ history_of b → t.told ≡ history_of a → IsIdle t a
idle_at_first s t was is b a absorbs on live first before after =
    absorbed_live s t was is b a (incoming.Started (driver 1)) absorbs on (told_at_first b first) live first.live (calls_at_first b first) before after

pub sound_after : (b a : RunState) → GoesOn b a → IsBeforeFirst b → IsSound a
sound_after b a on first = (servers_lead_on b a on).sound (sound_at_first b first)

pub work_after : (b a : RunState) (n m : ℕ) → GoesOn b a → m < n + 2 → n + work_left b + 1 < 281474976710656 → m + work_left a < 281474976710656
work_after b a n m on few bound = let h : LeadsOn b a = servers_lead_on b a on in omega (arith, h.work, few, bound)

-- what is heard of the first start, and acts after it
abbrev heard : List Act → List Act
heard later = later ++ Absorbed (incoming.Started (driver 1)) ∷ []

-- where the link is told nothing, requests begin at most
silent_marks : (later : List Act) → told_of later ≡ [] → has_absorbed later ≡ false → marks_after (heard later) [] ≡ Started (driver 1) ∷ []
silent_marks [] told none = refl
silent_marks (Began r ∷ later) told none = silent_marks later told none
silent_marks (Absorbed message ∷ later) told none = cc
silent_marks (AtLink x ∷ later) told none = cc

silent_stopped : (later : List Act) → told_of later ≡ [] → has_absorbed later ≡ false → (outbox_after (heard later) [] empty_outbox).stopped ≡ false
silent_stopped [] told none = refl
silent_stopped (Began r ∷ later) told none = silent_stopped later told none
silent_stopped (Absorbed message ∷ later) told none = cc
silent_stopped (AtLink x ∷ later) told none = cc

some_last : (rs : List BlockRequest) (r : BlockRequest) → has_none (rs ++ r ∷ []) ≡ false
some_last [] r = refl
some_last (x ∷ rs) r = refl

post_due : (marks : List Mark) (o : Outbox) → marks ≡ Started (driver 1) ∷ [] → o.stopped ≡ false → has_none o.unposted ≡ false → is_post_due marks o ≡ true
post_due marks o only going some =
    ap (λ (l : List Mark). is_some (target l) && not o.stopped && not (has_none o.unposted)) only
    ∙ ap (λ (b : Bool). not b && not (has_none o.unposted)) going ∙ ap (λ (b : Bool). not b) some

-- a server at rest began none: a post would be due
none_begun : (later : List Act) → told_of later ≡ [] → has_absorbed later ≡ false
    → IsAtRest (marks_after (heard later) []) (outbox_after (heard later) [] empty_outbox) → later ≡ []
none_begun [] told none rest = refl
none_begun (Began r ∷ later) told none rest = absurd (clash (sym rest.post ∙ post_due (marks_after (heard (Began r ∷ later)) [])
    (outbox_after (heard (Began r ∷ later)) [] empty_outbox) (silent_marks later told none) (silent_stopped later told none)
    (some_last (outbox_after (heard later) [] empty_outbox).unposted r))) where
      clash : ◌≡◌ {A = Bool} false true → ⊥
      clash e = cc
none_begun (Absorbed message ∷ later) told none rest = cc
none_begun (AtLink x ∷ later) told none rest = cc

-- what stands before the same is nothing
none_before : (xs ys : List Told) → xs ++ ys ≡ ys → xs ≡ []
none_before xs ys same = by xs (longer xs ys ∙ ap length same) where
  longer : (xs ys : List Told) → length xs + length ys ≡ length (xs ++ ys)
  longer [] ys = omega arith
  longer (x ∷ xs) ys = let h : length xs + length ys ≡ length (xs ++ ys) = longer xs ys in omega (arith, h)

  by : (xs : List Told) → length xs + length ys ≡ length ys → xs ≡ []
  by [] h = refl
  by (x ∷ xs) h = absurd (omega (arith, h))

told_silent : (later : List Act) → told_of (heard later) ≡ [] → told_of later ≡ []
told_silent [] h = refl
told_silent (Began r ∷ later) h = told_silent later h
told_silent (Absorbed message ∷ later) h = told_silent later h
told_silent (AtLink x ∷ later) h = cc

-- the server owes its link nothing after it
owes_none : (s m : Serving) (absorbs : AbsorbKeeps s (incoming.Started (driver 1)) m) → s.outbox ≡ empty_outbox → m.told ≡ s.told
    → (image : Contents) (tree : Tree) → s.Agrees image tree [] → IsAtRest (marks_after (heard absorbs.later) []) m.outbox → m.outbox ≡ empty_outbox
owes_none s m absorbs empty same image tree agrees rest =
    let told : told_of absorbs.later ≡ [] = told_silent absorbs.later (none_before (told_of (heard absorbs.later)) s.told (sym absorbs.leads.told ∙ same)) in
    let is : m.outbox ≡ outbox_after (heard absorbs.later) [] empty_outbox =
    (absorbs.rules image tree [] agrees).outbox ∙ ap (λ (o : Outbox). outbox_after (heard absorbs.later) [] o) empty in
    is ∙ ap (λ (l : List Act). outbox_after (heard l) [] empty_outbox)
    (none_begun absorbs.later told absorbs.none_absorbed (subst (λ (o : Outbox). IsAtRest (marks_after (heard absorbs.later) []) o) is rest))

-- nothing was done at the link; and then the run was run out
pub runs_all : (s m t : Serving) (was then : Truth) (b c a : RunState) (unanswered : ℕ) → AbsorbsOver s m was then (incoming.Started (driver 1)) → GoesOn b c
    → IsBeforeFirst b → history_of c ≡ history_of b → s.told ≡ history_of b → m.told ≡ history_of c → RunsOut m t then c a unanswered
    → RunsAll s t was b a unanswered
runs_all s m t was then b c a unanswered absorbs on first silent before after out =
    let same : c ≡ b = none_told b c on (told_at_first b first) silent in
    record {
      schedule = out.schedule ∙ (servers_lead_on b c on).events;
      spent = out.spent;
      last = out.last;
      ends = out.ends;
      left = out.left;
      left_is = out.left_is;
      order = out.order;
      number = out.number;
      cut = out.cut;
      sectors = out.sectors ∙ (servers_lead_on b c on).sectors;
      frame_count = out.frame_count ∙ absorbs.keeps.leads.frame_count;
      holds = λ v tree empty hears.
          let stands : Stands m then v tree (marks_after (heard absorbs.keeps.later) []) = record {
            minor = hears.minor ∙ sym absorbs.keeps.leads.minor;
            serves = absorbs.keeps.serves (contents_at v) tree [] hears.serves;
            truth = absorbs.truth v tree [] hears.minor hears.serves.agrees hears.truth;
          } in
          let x : RunStands m.geometry t.frames m.minor v tree (moment m c Resting) (moment t a out.last) unanswered =
          out.holds v tree (marks_after (heard absorbs.keeps.later) []) stands in
          let none : m.outbox ≡ empty_outbox =
          owes_none s m absorbs.keeps empty (after ∙ silent ∙ sym before) (contents_at v) tree hears.serves.agrees stands.serves.at_rest in
          subst (λ (g : Geometry). RunStands g t.frames s.minor v tree (at_first b) (moment t a out.last) unanswered) absorbs.keeps.leads.geometry
          (subst (λ (n : ℕ). RunStands m.geometry t.frames n v tree (at_first b) (moment t a out.last) unanswered) absorbs.keeps.leads.minor
          (subst (λ (p : RunState). RunStands m.geometry t.frames m.minor v tree (at_first p) (moment t a out.last) unanswered) same
          (subst (λ (o : Outbox). RunStands m.geometry t.frames m.minor v tree (record { run = c; outbox = o; doing = Resting }) (moment t a out.last) unanswered)
          none x)));
    }
