-- The run of the first two events of the row of a death begins that row; and what no beginning of it is.
use Rattle.std.specs.Prelude.{◌≡◌, ℕ, ◌+◌, ◌≤◌, List, [], ◌∷◌, ◌++◌, length, take, None, refl}
use Rattle.std.specs.List.{concat}
use Rattle.std.proofs.Common.{arith, ap, sym, ◌∙◌, subst, lit≤, inl, length-append}
use Rattle.tree.specs.declared.Call.TheVariants.{Close, Sync}
use Rattle.reincarnate.specs.Policy.{default_policy}
use Rattle.reincarnate.specs.Watch.{driver}
use Rattle.records.specs.Marks.{Mark, Answered, Flush, Fault, GaveUp, Issued, Started, Took}
use Rattle.schedule.specs.declared.Event.{Event}
use Rattle.schedule.specs.declared.Event.TheVariants as event
use Rattle.schedule.specs.declared.Sent.{Sent}
use Rattle.schedule.specs.Calls.{Arrival, taken}
use Rattle.schedule.specs.Groups.{Group, Each}
use Rattle.schedule.specs.Headline.{Transcript}
use Rattle.simulated_link.specs.StateView.{Stays}
use Rattle.simulated_link.specs.Waiting.{arrival_of}
use Rattle.world.specs.Exact.{IsExact}
use Rattle.world.specs.FirstEvents.{AsItStands, Comes, BeginsWith}
use Rattle.tests_exact.proofs.Small.{sizes, sectors_with, new_0, old_1, image, setup, supply, write_both, sync, close}
use Rattle.tests_exact.proofs.Drivers.{at_second}
use Rattle.tests_exact.proofs.Beginning.{start, half_written, opened, writes_half}
use Rattle.tests_exact.proofs.DeathRow.{later, events, half, answered, sync_done, transcript, death_is_exact, from_half}

-- the flush, and half of its write
abbrev two : List Event
two = event.Flush ∷ event.Step 1 ∷ []

abbrev half_transcript : Transcript
half_transcript = record {
  marks = Issued write_both (driver 1) ∷ Flush ∷ Started (driver 1) ∷ [];
  sent = [];
  drivers = at_second ∷ [];
  frames = λ block. None;
  unanswered = 0;
  image = concat (sectors_with new_0 old_1);
}

half_is_exact : IsExact sizes image (setup default_policy) supply two half_transcript
half_is_exact = record {
  first = (start default_policy two).run;
  opened = opened default_policy two;
  last = half_written default_policy [];
  steps = writes_half default_policy [];
  over = record { spent = record { events = lit≤ tt; paid = refl }; calm = refl; ends = inl (refl, refl) };
  read_off = record { marks = refl; sent = refl; drivers = refl; image = refl; unanswered = refl };
}

-- the row begins with it
abbrev Beginning : ℕ → Type 0
Beginning = BeginsWith sizes image (setup default_policy) supply events transcript death_is_exact

half_begins : Beginning 2
unfolding half_is_exact death_is_exact
half_begins = record {
  start = half_transcript;
  exact = half_is_exact;
  moment = half;
  comes = Comes half half.run (writes_half default_policy later) Stays;
  ends = AsItStands;
  goes_on = from_half;
  later = take 6 sync_done.run.scene.noted.groups;
  groups = refl;
  marks = record { later = take 5 transcript.marks; is = refl };
  later_sent = answered ∷ [];
  sent = refl;
  places = (lit≤ tt, tt);
}

-- the calls answered in some marks and in earlier ones
taken_in : (later marks : List Mark) → taken (later ++ marks) ≡ taken later ++ taken marks
taken_in [] marks = refl
taken_in (Took who now call answer ∷ later) marks = ap (λ (l : List Arrival). (who, now, call) ∷ l) (taken_in later marks)
taken_in (Started e ∷ later) marks = taken_in later marks
taken_in (Answered reply ∷ later) marks = taken_in later marks
taken_in (Flush ∷ later) marks = taken_in later marks
taken_in (GaveUp ∷ later) marks = taken_in later marks
taken_in (Issued r to ∷ later) marks = taken_in later marks
taken_in (Fault e cause ∷ later) marks = taken_in later marks

-- they differ
close_isnt_sync : arrival_of close ≡ arrival_of sync → ⊥
close_isnt_sync same = let h : Close 0 ≡ Sync = ap (λ (a : Arrival). a.2) same in cc

-- Another call is answered.
another_call : (n : ℕ) (b : Beginning n) → taken b.start.marks ≡ arrival_of close ∷ [] → ⊥
another_call n b other = no (taken b.marks.later) (ap taken b.marks.is ∙ taken_in b.marks.later b.start.marks
    ∙ ap (λ (l : List Arrival). taken b.marks.later ++ l) other) where
      first : arrival_of sync ∷ [] ≡ arrival_of close ∷ [] → arrival_of close ≡ arrival_of sync
      first same = cc

      no : (later : List Arrival) → arrival_of sync ∷ [] ≡ later ++ (arrival_of close ∷ []) → ⊥
      no [] same = close_isnt_sync (first same)
      no (x ∷ later) same =
          let h : 1 ≡ length (x ∷ later) + 1 = ap length same ∙ length-append (x ∷ later) (arrival_of close ∷ []) in omega (arith, h)

-- how many marks the first event left
abbrev first_marks : List Group → ℕ
first_marks [] = 0
first_marks (g ∷ []) = length g.1
first_marks (g ∷ h ∷ groups) = first_marks (h ∷ groups)

first_marks_in : (later : List Group) (g : Group) (groups : List Group) → first_marks (later ++ g ∷ groups) ≡ first_marks (g ∷ groups)
first_marks_in [] g groups = refl
first_marks_in (x ∷ []) g groups = refl
first_marks_in (x ∷ y ∷ later) g groups = first_marks_in (y ∷ later) g groups

-- Its flush begins no write.
write_left_out : (b : Beginning 2) → b.exact.last.run.scene.noted.groups ≡ (event.Step 1, []) ∷ (event.Flush, Flush ∷ []) ∷ [] → ⊥
unfolding death_is_exact
write_left_out b less =
    let h : 2 ≡ 1 = ap first_marks (b.groups ∙ ap (λ (l : List Group). b.later ++ l) less)
    ∙ first_marks_in b.later (event.Step 1, []) ((event.Flush, Flush ∷ []) ∷ []) in
    omega (arith, h)

-- The reply that was sent at event 5 is missing.
reply_left_out : (b : Beginning 6) → b.start.sent ≡ [] → ⊥
reply_left_out b none =
    let same : b.later_sent ≡ answered ∷ [] = sym (b.sent ∙ ap (λ (l : List Sent). l ++ b.later_sent) none) in
    let h : 6 ≤ 5 = (subst (λ (l : List Sent). Each (λ reply. 6 ≤ reply.place) l) same b.places).0 in
    omega (arith, h)
