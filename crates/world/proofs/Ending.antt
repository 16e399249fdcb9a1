-- A run that was run out holds.
use Rattle.std.proofs.Common.{◌≡◌, ◌⊎◌, inl, inr, ℕ, zero, suc, ◌+◌, ◌*◌, ◌<◌, ◌≤◌, List, [], ◌∷◌, ◌++◌, Bool, true, false, refl, sym, ◌∙◌, ap, subst, arith, length}
use Rattle.std.specs.Prelude.{if◌then◌else◌, map, reverse, take}
use Rattle.std.proofs.lemmas.List.{append_assoc, length-append, length-reverse}
use Rattle.layout.specs.declared.Geometry.{Geometry}
use Rattle.tree.specs.Tree.{Tree}
use Rattle.records.specs.Marks.{Mark, gave_up}
use Rattle.records.specs.Open.{IsWellFormed}
use Rattle.records.specs.Disk.{HasTrueReplies}
use Rattle.records.specs.Opening.{Opening, contents_at}
use Rattle.records.specs.Legal.{IsLegal}
use Rattle.records.specs.View.{Frames, ReadsBack}
use Rattle.records.specs.Settled.{LookingWritesNothing, is_settled, none_written}
use Rattle.records.specs.ServerCall.{Serving, HasTree, IsQuiet, state_of}
use Rattle.records.specs.Area.{WritesInside}
use Rattle.reissue.specs.Calls.{Truth}
use Rattle.schedule.specs.Faultless.{without_faults, FaultsChangeNothing}
use Rattle.schedule.proofs.FaultlessLaws.{faults_change_nothing}
use Rattle.schedule.specs.declared.Event.{Event}
use Rattle.schedule.specs.Calls.{taken}
use Rattle.schedule.specs.Headline.{Transcript, RepliesHold}
use Rattle.schedule.specs.Noted.{marks_in}
use Rattle.simulated_link.specs.Scene.{Scene}
use Rattle.schedule.specs.declared.arrived.Arrived.{Arrived}
use Rattle.simulated_link.specs.StateView.{RunState, RunTruth, IsSpent, work_left}
use Rattle.simulated_link.specs.Laws.{IsSound, MediaHeld}
use Rattle.simulated_link.specs.Waiting.{arrival_of}
use Rattle.simulated_link.specs.Moments.{Doing, Resting, Answering}
use Rattle.simulated_link.proofs.Guarantee.{media_held}
use Rattle.simulated_link.proofs.Needing.{runs_end_needing}
use Rattle.file_server.specs.Over.{Stands}
use Rattle.world.specs.Runs.{area_at, moment, RunsOn, StandsAfter, EndsAs}
use Rattle.world.specs.Ends.{RunStands, RunsOut}

-- the record of the run is well formed, its replies are true, it is legal, and the tree would be read back
replies_hold : (s : Serving) (is : Truth) (v : Opening) (tree : Tree) (marks : List Mark) (c : Scene) (t : Transcript) → t.marks ≡ marks_in c.noted
    → t.frames ≡ s.frames → (t.unanswered ≡ 0 → s.ended ≡ false) → Stands s is v tree marks → RunTruth v c marks
    → RepliesHold s.geometry (contents_at v) tree t
replies_hold s is v tree marks c t noted frames answered stood kept =
    let f : FaultsChangeNothing t.marks = faults_change_nothing t.marks in
    let same : marks ≡ without_faults t.marks = sym kept.is ∙ ap without_faults (sym noted) in
    let true_here : HasTrueReplies (contents_at v) marks = kept.kept.disks.true_replies in
    record {
      well_formed = f.well_formed (subst (λ (m : List Mark). IsWellFormed m) same stood.serves.well_formed);
      inside = f.inside s.geometry (subst (λ (m : List Mark). WritesInside s.geometry m) same stood.serves.inside);
      true_replies = f.true_replies (contents_at v) (subst (λ (m : List Mark). HasTrueReplies (contents_at v) m) same true_here);
      legal = f.legal s.geometry (contents_at v) tree
          (subst (λ (m : List Mark). IsLegal s.geometry (contents_at v) tree m) same (stood.serves.legal true_here));
      looking = f.looking s.geometry tree
          (subst (λ (m : List Mark). LookingWritesNothing s.geometry tree m) same (stood.serves.looking true_here));
      quiet = λ none settled.
          let quiet : IsQuiet s marks = stood.serves.settled true_here (answered none)
          (ap (is_settled s.geometry tree) same ∙ f.settled s.geometry tree ∙ settled) in
          sym f.written ∙ sym (ap none_written same) ∙ quiet.none_written;
      reads_back = λ live none.
          let had : HasTree s (contents_at v) tree marks = stood.serves.has_tree true_here (answered none) (ap gave_up same ∙ f.given_up ∙ live) in
          subst (λ (x : Frames). ReadsBack s.geometry x (contents_at v) tree t.marks) (sym frames)
          (f.reads_back s.geometry s.frames (contents_at v) tree
          (subst (λ (m : List Mark). ReadsBack s.geometry s.frames (contents_at v) tree m) same had.reads_back));
    }

-- the media hold what the record of the run says of the disk
pub media_hold : (v : Opening) (c : Scene) (marks : List Mark) → RunTruth v c marks → MediaHeld v c (marks_in c.noted)
media_hold v c marks kept =
    let f : FaultsChangeNothing (marks_in c.noted) = faults_change_nothing (marks_in c.noted) in
    let held : MediaHeld v c (without_faults (marks_in c.noted)) =
    subst (λ (m : List Mark). MediaHeld v c m) (sym kept.is) (media_held v c marks kept) in
    record {
      inside = record {
        each = λ k o low within sure. held.inside.each k o low within (f.sure (512 * k + o) ∙ sure) ∙ f.disk (contents_at v) (512 * k + o);
      };
      outside = held.outside;
    }

take_all : (events : List Event) (n : ℕ) → length events ≤ n → take n events ≡ events
take_all [] zero past = refl
take_all [] (suc n) past = refl
take_all (e ∷ events) zero past = absurd (omega (arith, past))
take_all (e ∷ events) (suc n) past = ap (λ (l : List Event). e ∷ l) (take_all events n (omega (arith, past)))

mapped : (queue : List Arrived) → length (map arrival_of queue) ≡ length queue
mapped [] = refl
mapped (x ∷ queue) = let h : length (map arrival_of queue) ≡ length queue = mapped queue in omega (arith, h)

waiting_is : (queue : List Arrived) → length (reverse (map arrival_of queue)) ≡ length queue
waiting_is queue = length-reverse (map arrival_of queue) ∙ mapped queue

-- over a volume that the server stood with at first
holds : (s t : Serving) (was is : Truth) (b a : RunState) (last : Doing) (unanswered : ℕ) → RunsOn s t was is b a Resting last → b.over ≡ false
    → ((v : Opening) (marks : List Mark) → is v marks → RunTruth v a.scene marks) → (unanswered ≡ 0 → t.ended ≡ false)
    → (v : Opening) (tree : Tree) (marks : List Mark) → Stands s was v tree marks
    → RunStands s.geometry t.frames s.minor v tree (moment s b Resting) (moment t a last) unanswered
holds s t was is b a last unanswered runs live guarantees answered v tree marks stood =
    let later : StandsAfter (area_at s) s.geometry (state_of s) t is v tree (moment s b Resting) (moment t a last) = runs.stands v tree marks stood in
    let kept : RunTruth v a.scene later.marks = guarantees v later.marks later.stands.truth in
    record {
      holds = record {
        replies = λ x noted frames number.
            subst (λ (g : Geometry). RepliesHold g (contents_at v) tree x) runs.geometry
            (replies_hold t is v tree later.marks a.scene x noted frames (λ none. answered (sym number ∙ none)) later.stands kept);
        media = media_hold v a.scene later.marks kept;
      };
      runs = later.runs;
      served = record { first = state_of s; last = state_of t; frames_are = refl; turns = later.turns };
      calm = later.stands.serves.at_rest.complaint;
      needs = λ over. runs_end_needing (area_at s) (moment s b Resting) (moment t a last) later.runs live over;
    }

pub runs_out : (cut : Bool) (s t : Serving) (was is : Truth) (b a : RunState) (waiting unanswered : ℕ) → EndsAs cut s t was is b a
    → IsSound b → b.over ≡ false → IsSpent a → waiting ≡ length a.queue → unanswered ≡ (if cut then waiting + 1 else waiting)
    → ((v : Opening) (marks : List Mark) → is v marks → RunTruth v a.scene marks) → RunsOut s t was b a unanswered
runs_out false s t was is b a waiting unanswered ends sound live spent length_is number guarantees =
    let none : reverse (map arrival_of a.queue) ++ [] ≡ [] = ap (λ (q : List Arrived). reverse (map arrival_of q) ++ []) ends.out.queue in
    record {
      schedule = (ends.runs.leads.sound sound).schedule ∙ take_all a.events a.next spent.events ∙ ends.runs.leads.events;
      spent = spent;
      last = Resting;
      ends = (ends.idle.ended, ends.idle.live, ends.out.queue);
      left = reverse (map arrival_of a.queue) ++ [];
      left_is = refl;
      order = ends.idle.calls.order ∙ sym (append_assoc (reverse (map arrival_of a.queue)) [] (taken (marks_in a.scene.noted)));
      number = number ∙ length_is ∙ ap length ends.out.queue ∙ sym (ap length none);
      cut = λ some. absurd (some none);
      sectors = ends.runs.leads.sectors;
      frame_count = ends.runs.frame_count;
      holds = λ v tree marks stood. holds s t was is b a Resting unanswered ends.runs live guarantees (λ no. ends.idle.ended) v tree marks stood;
    }
runs_out true s t was is b a waiting unanswered ends sound live spent length_is number guarantees =
    record {
      schedule = (ends.runs.leads.sound sound).schedule ∙ take_all a.events a.next spent.events ∙ ends.runs.leads.events;
      spent = spent;
      last = Answering ends.call;
      ends = (ends.cut.ended, ends.cut.over);
      left = reverse (map arrival_of a.queue) ++ (arrival_of ends.call ∷ []);
      left_is = refl;
      order = ends.cut.calls.order ∙ sym (append_assoc (reverse (map arrival_of a.queue)) (arrival_of ends.call ∷ []) (taken (marks_in a.scene.noted)));
      number = (let all : length (reverse (map arrival_of a.queue) ++ (arrival_of ends.call ∷ [])) ≡ length (reverse (map arrival_of a.queue)) + 1
          = length-append (reverse (map arrival_of a.queue)) (arrival_of ends.call ∷ []) in
          let own : length (reverse (map arrival_of a.queue)) ≡ length a.queue = waiting_is a.queue in
          omega (arith, all, own, number, length_is));
      cut = λ some. ends.cut.ended;
      sectors = ends.runs.leads.sectors;
      frame_count = ends.runs.frame_count;
      holds = λ v tree marks stood.
          holds s t was is b a (Answering ends.call) unanswered ends.runs live guarantees (λ none. absurd (some waiting unanswered number none)) v tree marks stood;
    } where
      some : (n m : ℕ) → m ≡ n + 1 → m ≡ 0 → ⊥
      some n m is none = omega (arith, is, none)

pub few_wait : (cut : Bool) (s t : Serving) (was is : Truth) (b a : RunState) (n waiting : ℕ) → EndsAs cut s t was is b a → waiting ≡ length a.queue
    → n + work_left b < 281474976710656 → waiting < 281474976710656
few_wait false s t was is b a n waiting ends same few = omega (arith, ends.runs.leads.work, same, few)
few_wait true s t was is b a n waiting ends same few = omega (arith, ends.runs.leads.work, same, few)

-- where something is left, memory was wanted
pub left_starved : (cut : Bool) (s t : Serving) (was is : Truth) (b a : RunState) → EndsAs cut s t was is b a → (IsSpent a → ⊥) → a.starved ≡ true
left_starved false s t was is b a ends some = absurd (some (record { events = ends.out.events; paid = ends.out.paid }))
left_starved true s t was is b a ends some = by ends.cut.why where
  by : (a.starved ≡ true) ⊎ IsSpent a → a.starved ≡ true
  by (inl starved) = starved
  by (inr spent) = absurd (some spent)
