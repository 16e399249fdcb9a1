-- What the link guarantees goes on through events, posts, complaints, takes and answers.
use Rattle.bdev.specs.DriverState.{DriverState}
use Rattle.synchronous_driver.specs.Inline.{IsReady}
use Rattle.media.specs.Contents.{MediaState}
use Rattle.std.proofs.Common.{◌≡◌, ◌⊎◌, ℕ, zero, suc, ◌+◌, ◌-◌, ◌<◌, ◌≤◌, List, [], ◌∷◌, ◌++◌, Bool, true, false, cond, refl, sym, ◌∙◌, ap, subst, inl, inr, arith, length, get_or}
use Rattle.std.specs.Prelude.{All, Option, Some, None, Ok, slice_get, ◌&&◌, ◌==◌}
use Rattle.lemmas.proofs.Bools.{true_not_false}
use Rattle.message.specs.declared.endpoint.Endpoint.{Endpoint}
use Rattle.message.specs.declared.BlockRequest.{BlockRequest}
use Rattle.message.specs.declared.Incoming.{Incoming}
use Rattle.message.specs.declared.Incoming.TheVariants as incoming
use Rattle.tree.specs.declared.Who.{Who}
use Rattle.tree.specs.declared.Call.{Call}
use Rattle.tree.specs.declared.Reply.{Reply}
use Rattle.tree.specs.Answers.{answer_of}
use Rattle.reincarnate.specs.Watch as restart
use Rattle.reincarnate.specs.declared.policy.Policy.{Policy}
use Rattle.reincarnate.specs.Watch.{Watch, driver}
use Rattle.records.specs.Marks.{Mark, Issued, Fault, Answered, Started, GaveUp, Flush, Took}
use Rattle.records.specs.declared.marks.Cause.TheVariants.{Complaint}
use Rattle.records.specs.Open.{MayFollow, IsIn, counts}
use Rattle.records.specs.Opening.{Opening, Fits, contents_at}
use Rattle.records.specs.Told.{Told, Received, received, heard}
use Rattle.schedule.specs.declared.Event.{Event}
use Rattle.schedule.specs.declared.Event.TheVariants as event
use Rattle.schedule.specs.declared.Sent.{Sent}
use Rattle.bdev.specs.declared.Step.{Step}
use Rattle.bdev.specs.declared.Step.TheVariants.{Working, Idle, Done, Failed}
use Rattle.true_replies.specs.Posted.{since_start}
use Rattle.true_replies.specs.Events.{opening_media, IsOnMedia, IssuedNow}
use Rattle.true_replies.proofs.Keeps.{next_keeps}
use Rattle.schedule.specs.Faultless.{without_faults}
use Rattle.schedule.proofs.FaultlessLaws.{leave_same_mark}
use Rattle.schedule.specs.declared.log.Post.{Post}
use Rattle.schedule.specs.declared.log.LogEntry.{LogEntry}
use Rattle.schedule.specs.declared.log.LogEntry.TheVariants as entry
use Rattle.schedule.specs.Posts.{post_of}
use Rattle.schedule.specs.Noted.{Noted, marks_in, with_mark, with_message, with_entry, with_end, noted_of}
use Rattle.schedule.proofs.NotedLaws.{mark_in, message_in, said_end}
use Rattle.simulated_link.specs.Disks.{Disks, seen, lined_up, LinesUp, IsLinedUp}
use Rattle.simulated_link.specs.Scene.{Scene, Opens, told_of_ruling, told_of_action, AfterStep, AfterDeath, delivered, Occurs}
use Rattle.simulated_link.specs.declared.events.ruling.Ruling.{Ruling}
use Rattle.simulated_link.specs.declared.events.ruling.Ruling.TheVariants as ruling
use Rattle.simulated_link.specs.Kept.{IsPost, PostsKept, SceneKept, with_next, IsLatest}
use Rattle.simulated_link.proofs.Keeping.{opening_keeps, events_keep, events_note_aside, kept_same, kept_noted, posts_entry, history_same}
use Rattle.schedule.specs.declared.arrived.Arrived.{Arrived}
use Rattle.simulated_link.specs.RunState.{RunState, first_noted, begun, RunsEvent, Advances, Stays, Goes, ComesToEnd, IsRunOut, IsStarved, Heard, RunTruth, left_of}
use Rattle.schedule.specs.ArrivingCalls.{calls_of}

-- a note that is no accepted post changes nothing of the drivers
pub noted_keeps : (v : Opening) (e : LogEntry) (s : Scene) (marks : List Mark) → post_of e ≡ [] → SceneKept v s marks
    → SceneKept v (record s { noted = with_entry e s.noted }) marks
noted_keeps v e s marks none k = kept_same v s (record s { noted = with_entry e s.noted }) marks refl (posts_entry e s.noted none) refl k

-- an event is run
pub next_heard : (v : Opening) (b a : RunState) (result : Option Incoming) (marks : List Mark) → RunsEvent b result a → RunTruth v b.scene marks
    → Heard v a.scene marks (with_next result marks)
next_heard v b a result marks p h = record {
  is = (events_note_aside b.next p.event (begun p.event b.scene) a.scene result p.plays).marks ∙ h.is;
  kept = events_keep v b.next p.event (begun p.event b.scene) a.scene result marks p.latest p.plays
      (noted_keeps v (entry.Begun p.event) b.scene marks refl h.kept);
}

pub far_heard : (v : Opening) (b a : RunState) (result : Option Incoming) (marks : List Mark) → Advances b result a → RunTruth v b.scene marks
    → Heard v a.scene marks (with_next result marks)
far_heard v b _ _ marks Stays h = h
far_heard v b a _ marks (Goes m _ result before last) h = next_heard v m a result marks last (far_heard v b m None marks before h)

-- the same scene
pub true_of : (v : Opening) (b a : Scene) (marks : List Mark) → a ≡ b → RunTruth v b marks → RunTruth v a marks
true_of v b a marks is h = subst (λ (s : Scene). RunTruth v s marks) (sym is) h

to_end_heard : (v : Opening) (b a : RunState) (marks : List Mark) → ComesToEnd b a → RunTruth v b.scene marks → RunTruth v a.scene marks
to_end_heard v b a marks (IsRunOut _ far spent) h = far_heard v b a None marks far h
to_end_heard v b _ marks (IsStarved a far) h = far_heard v b a None marks far h

-- a message that was heard is noted, as received or handed
pub message_true : (v : Opening) (s : Scene) (n : Noted) (e : LogEntry) (marks : List Mark) (m : Incoming) → n ≡ with_entry e s.noted → post_of e ≡ []
    → marks_in (with_entry e s.noted) ≡ marks_in (with_message m s.noted) → Heard v s marks (received m marks)
    → RunTruth v (record s { noted = n }) (received m marks)
message_true v s n e marks m is none same h =
    subst (λ (x : Noted). RunTruth v (record s { noted = x }) (received m marks)) (sym is) (record {
      is = ap without_faults (same ∙ message_in m s.noted) ∙ leave_same_mark m (marks_in s.noted) ∙ ap (received m) h.is;
      kept = noted_keeps v e s (received m marks) none h.kept;
    })

pub received_true : (v : Opening) (s : Scene) (n : Noted) (marks : List Mark) (m : Incoming) → n ≡ with_entry (entry.Received m) s.noted
    → Heard v s marks (received m marks) → RunTruth v (record s { noted = n }) (received m marks)
received_true v s n marks m is h = message_true v s n (entry.Received m) marks m is refl refl h

pub handed_true : (v : Opening) (s : Scene) (n : Noted) (marks : List Mark) (m : Incoming) → n ≡ with_entry (entry.Handed m) s.noted
    → Heard v s marks (received m marks) → RunTruth v (record s { noted = n }) (received m marks)
handed_true v s n marks m is h = message_true v s n (entry.Handed m) marks m is refl refl h

-- the device was given up by a complaint
pub owed_heard : (v : Opening) (s : Scene) (marks : List Mark) → RunTruth v s marks → Heard v s marks (received incoming.GaveUp marks)
owed_heard v s marks h = record { is = h.is; kept = kept_noted v s GaveUp marks tt refl h.kept }

-- the link ends
pub ended_true : (v : Opening) (s : Scene) (n : Noted) (marks : List Mark) → n ≡ with_end s.noted → RunTruth v s marks → RunTruth v (record s { noted = n }) marks
ended_true v s n marks is h = subst (λ (x : Noted). RunTruth v (record s { noted = x }) marks) (sym is) (record {
  is = h.is;
  kept = kept_same v s (record s { noted = with_end s.noted }) marks refl refl refl h.kept;
})

-- a call was answered
pub took_true : (v : Opening) (s : Scene) (n : Noted) (marks : List Mark) (who : Who) (now : ℕ) (call : Call) (reply : Reply)
    → n ≡ with_entry (entry.Took who now call reply) s.noted → RunTruth v s marks
    → RunTruth v (record s { noted = n }) (Took who now call (answer_of reply) ∷ marks)
took_true v s n marks who now call reply is h =
    let m = Took who now call (answer_of reply) in
    subst (λ (x : Noted). RunTruth v (record s { noted = x }) (m ∷ marks)) (sym is) (record {
      is = ap without_faults (mark_in m s.noted) ∙ ap (λ (l : List Mark). m ∷ l) h.is;
      kept = noted_keeps v (entry.Took who now call reply) s (m ∷ marks) refl (kept_noted v s m marks tt refl h.kept);
    })

-- a refused post
pub refused_true : (v : Opening) (s : Scene) (d : Disks) (n : Noted) (marks : List Mark) (to : Endpoint) (r : BlockRequest) → d ≡ s.disks
    → n ≡ with_entry (entry.Posted to r false) s.noted → RunTruth v s marks → RunTruth v (record s { disks = d; noted = n }) marks
refused_true v s d n marks to r same is h =
    subst (λ (x : Disks). RunTruth v (record s { disks = x; noted = n }) marks) (sym same)
    (subst (λ (x : Noted). RunTruth v (record s { noted = x }) marks) (sym is) (record {
      is = h.is;
      kept = noted_keeps v (entry.Posted to r false) s marks refl h.kept;
    }))

pub complaint_marks : (b : Bool) (about : Endpoint) (n : Noted) → without_faults (marks_in (with_entry (entry.Complained about b) n)) ≡ without_faults (marks_in n)
complaint_marks true about n = ap without_faults (mark_in (Fault about Complaint) n)
complaint_marks false about n = refl

complaint_posts : (b : Bool) (about : Endpoint) → post_of (entry.Complained about b) ≡ []
complaint_posts b about = refl

-- a complaint
pub complained_true : (v : Opening) (s : Scene) (w : Watch) (n : Noted) (marks : List Mark) (about : Endpoint) (fault : Bool)
    → n ≡ with_entry (entry.Complained about fault) s.noted → RunTruth v s marks → RunTruth v (record s { watch = w; noted = n }) marks
complained_true v s w n marks about fault is h =
    subst (λ (x : Noted). RunTruth v (record s { watch = w; noted = x }) marks) (sym is) (record {
      is = complaint_marks fault about s.noted ∙ h.is;
      kept = kept_same v s (record s { watch = w; noted = with_entry (entry.Complained about fault) s.noted }) marks refl
          (posts_entry (entry.Complained about fault) s.noted refl) refl h.kept;
    })

-- an accepted post is one more
is_last : (p q : Post) (posts : List Post) → IsPost p (posts ++ q ∷ []) → (p ≡ q) ⊎ IsPost p posts
is_last p q [] (inl is) = inl is
is_last p q [] (inr none) = absurd none
is_last p q (x ∷ posts) (inl is) = inr (inl is)
is_last p q (x ∷ posts) (inr was) = by (is_last p q posts was) where
  by : (p ≡ q) ⊎ IsPost p posts → (p ≡ q) ⊎ IsPost p (x ∷ posts)
  by (inl is) = inl is
  by (inr there) = inr (inr there)

posts_more : (g : ℕ) (posts : List Post) (marks : List Mark) (to : Endpoint) (r : BlockRequest) → to.generation ≡ g → PostsKept g posts marks
    → PostsKept g (posts ++ record { to = to; request = r } ∷ []) (Issued r to ∷ marks)
posts_more g posts marks to r at k = record {
  before = λ p was. low p (is_last p (record { to = to; request = r }) posts was);
  since = λ p was here. issued p here (is_last p (record { to = to; request = r }) posts was);
} where
  low : (p : Post) → (p ≡ record { to = to; request = r }) ⊎ IsPost p posts → p.to.generation ≤ g
  low p (inl is) = let h : p.to.generation ≡ to.generation = ap (λ (x : Post). x.to.generation) is in omega (arith, h, at)
  low p (inr was) = k.before p was

  issued : (p : Post) → p.to.generation ≡ g → (p ≡ record { to = to; request = r }) ⊎ IsPost p posts → IsIn p.request (since_start (Issued r to ∷ marks))
  issued p here (inl is) = inl (ap (λ (x : Post). x.request) is)
  issued p here (inr was) = inr (k.since p was here)

-- an accepted post
pub posted_true : (v : Opening) (s : Scene) (d : Disks) (n : Noted) (marks : List Mark) (to : Endpoint) (r : BlockRequest)
    → d ≡ lined_up r s.disks → to.generation ≡ s.disks.media.generation → n ≡ with_entry (entry.Posted to r true) s.noted
    → RunTruth v s marks → MayFollow (Issued r to) marks → Fits v r → RunTruth v (record s { disks = d; noted = n }) (Issued r to ∷ marks)
posted_true v s d n marks to r lined at is h may fits =
    subst (λ (x : Noted). RunTruth v (record s { disks = d; noted = x }) (Issued r to ∷ marks)) (sym is)
    (subst (λ (x : Disks). RunTruth v (record s { disks = x; noted = with_entry (entry.Posted to r true) s.noted }) (Issued r to ∷ marks)) (sym lined)
    (record {
      is = ap without_faults (mark_in (Issued r to) s.noted) ∙ ap (λ (l : List Mark). Issued r to ∷ l) h.is;
      kept = record {
        disks = next_keeps v (contents_at v) (opening_media v) (seen s.disks marks) _ h.kept.disks (IssuedNow r to may fits);
        posts = posts_more s.disks.media.generation s.noted.posts marks to r at h.kept.posts;
        supply = h.kept.supply;
      };
    }))

-- a post that was accepted is on the line of the last driver
pub accepted_at : (to : Endpoint) (r : BlockRequest) (b d : Disks) → LinesUp to r b (Ok tt) d → (d ≡ lined_up r b) × (to.generation ≡ b.media.generation)
accepted_at to r b _ (IsLinedUp there few) = (refl, at (to.slot == 1) b.current.live there) where
  at : (slot live : Bool) → (slot && (to.generation == b.media.generation) && live) ≡ true → to.generation ≡ b.media.generation
  at slot live h = grind (arith, h)

-- what stands there is got
pub there : {A : Type 0} (xs : List A) (n : ℕ) (x : A) → n < length xs → x ≡ get_or xs n x → slice_get xs n ≡ Some x
there [] n x low is = absurd (omega (arith, low))
there {A} (y ∷ xs) zero x low is = ap (λ (z : A). Some z) (sym is)
there (y ∷ xs) (suc n) x low is = there xs n x (omega (arith, low)) is

-- the next event is run, by its parts
pub runs_event : (b a : RunState) (result : Option Incoming) (e : Event) (n : Noted) → b.over ≡ false → b.owed ≡ false → slice_get b.events b.next ≡ Some e
    → IsLatest b.scene → n ≡ with_entry (entry.Begun e) b.scene.noted → Occurs b.next e (record (b.scene) { noted = n }) result a.scene
    → a.queue ≡ b.queue ++ calls_of e
    → a.events ≡ b.events → a.next ≡ b.next + 1 → a.owed ≡ b.owed → a.told ≡ b.told → a.over ≡ b.over → a.starved ≡ b.starved
    → RunsEvent b result a
runs_event b a result e n live paid is latest begins plays queue events next owed told over starved = record {
  event = e;
  live = live;
  paid = paid;
  is = is;
  latest = latest;
  plays = subst (λ (x : Noted). Occurs b.next e (record (b.scene) { noted = x }) result a.scene) begins plays;
  queue = queue;
  events = events;
  next = next;
  owed = owed;
  told = told;
  over = over;
  starved = starved;
}

-- events were run, and then room was made
pub advanced : (b m : RunState) (scene : Scene) (queue : List Arrived) (over : Bool) → Advances b None m → scene ≡ m.scene → queue ≡ m.queue → over ≡ m.over
    → Advances b None (record m { scene = scene; queue = queue; over = over })
advanced b m scene queue over before s q o =
    subst (λ (p : RunState). Advances b None p) (λ i. record m { scene = sym s i; queue = sym q i; over = sym o i }) before

-- one event more
pub advanced_more : (b m a : RunState) (result : Option Incoming) → Advances b None m → RunsEvent m result a → Advances b result a
advanced_more b m a result before last = Goes m a result before last

-- the message isn't End
abbrev pub IsNoEnd : Option Incoming → Type 0
IsNoEnd None = Unit {0}
IsNoEnd (Some incoming.End) = ⊥
IsNoEnd (Some (incoming.Reply a)) = Unit {0}
IsNoEnd (Some (incoming.Started e)) = Unit {0}
IsNoEnd (Some incoming.GaveUp) = Unit {0}
IsNoEnd (Some incoming.Flush) = Unit {0}

exits_no_end : (r : Ruling) → IsNoEnd (told_of_ruling r)
exits_no_end ruling.Ignored = tt
exits_no_end ruling.Fault = tt
exits_no_end ruling.GivesUp = tt

acts_no_end : (a : restart.Action) → IsNoEnd (told_of_action a)
acts_no_end restart.Nothing = tt
acts_no_end (restart.WaitUntil tick) = tt
acts_no_end (restart.Start e) = tt
acts_no_end restart.GiveUp = tt

delivers_no_end : (o : Option Sent) → IsNoEnd (delivered o)
delivers_no_end None = tt
delivers_no_end (Some s) = tt

no_end : (r told : Option Incoming) → r ≡ told → IsNoEnd told → IsNoEnd r
no_end r told is h = subst (λ (x : Option Incoming). IsNoEnd x) (sym is) h

step_no_end : (step : Option Step) (g : ℕ) (b a : Scene) (r : Option Incoming) → AfterStep step g b r a → IsNoEnd r
step_no_end (Some Failed) g b a r x = no_end r (told_of_ruling x.ruling) x.tells (exits_no_end x.ruling)
step_no_end (Some Working) g b a r x = no_end r None x.0 tt
step_no_end (Some Idle) g b a r x = no_end r None x.0 tt
step_no_end (Some (Done answer)) g b a r x = no_end r None x.0 tt
step_no_end None g b a r x = no_end r None x.0 tt

death_no_end : (died : Bool) (g : ℕ) (b a : Scene) (r : Option Incoming) → AfterDeath died g b r a → IsNoEnd r
death_no_end true g b a r x = no_end r (told_of_ruling x.ruling) x.tells (exits_no_end x.ruling)
death_no_end false g b a r x = no_end r None x.0 tt

runs_no_end : (place : ℕ) (e : Event) (b a : Scene) (r : Option Incoming) → Occurs place e b r a → IsNoEnd r
runs_no_end place (event.Arrive who now call) b a r p = no_end r None p.0 tt
runs_no_end place event.Flush b a r p = no_end r (Some incoming.Flush) p.0 tt
runs_no_end place event.Tick b a r p = no_end r (told_of_action p.action) p.tells (acts_no_end p.action)
runs_no_end place (event.Step g) b a r p = step_no_end p.step g (record b { disks = p.disks }) a r p.after
runs_no_end place (event.Die g bytes) b a r p = death_no_end p.died g (record b { disks = p.disks }) a r p.after
runs_no_end place (event.Hang g) b a r p = no_end r None p.tells tt
runs_no_end place (event.Deliver n) b a r p = no_end r (delivered (slice_get b.disks.sent n)) p.0 (delivers_no_end (slice_get b.disks.sent n))
runs_no_end place (event.Repeat n) b a r p = no_end r None p.tells tt

pub far_no_end : (b a : RunState) (r : Option Incoming) → Advances b r a → IsNoEnd r
far_no_end b _ _ Stays = tt
far_no_end b a _ (Goes m _ r before last) = runs_no_end m.next last.event (begun last.event m.scene) a.scene r last.plays

-- what was told to the link stays, while events are run
pub far_history : (b a : RunState) (r : Option Incoming) → Advances b r a → a.scene.noted.history ≡ b.scene.noted.history
far_history b _ _ Stays = refl
far_history b a _ (Goes m _ r before last) =
    (events_note_aside m.next last.event (begun last.event m.scene) a.scene r last.plays).history ∙ far_history b m None before

far_told : (b a : RunState) (r : Option Incoming) → Advances b r a → a.told ≡ b.told
far_told b _ _ Stays = refl
far_told b a _ (Goes m _ r before last) = last.told ∙ far_told b m None before

far_events : (b a : RunState) (r : Option Incoming) → Advances b r a → a.events ≡ b.events
far_events b _ _ Stays = refl
far_events b a _ (Goes m _ r before last) = last.events ∙ far_events b m None before

pub message_history : (m : Incoming) (n : Noted) → (with_message m n).history ≡ n.history
message_history (incoming.Reply a) n = by (counts (marks_in n) a) where
  by : (c : Bool) → (cond c (with_mark (Answered a) n) n).history ≡ n.history
  by true = history_same (Answered a) n
  by false = refl
message_history (incoming.Started e) n = history_same (Started e) n
message_history incoming.GaveUp n = history_same GaveUp n
message_history incoming.Flush n = history_same Flush n
message_history incoming.End n = refl

heard_no_end : (m : Incoming) (told : List Told) → IsNoEnd (Some m) → Received m ∷ told ≡ heard m told
heard_no_end (incoming.Reply a) told h = refl
heard_no_end (incoming.Started e) told h = refl
heard_no_end incoming.GaveUp told h = refl
heard_no_end incoming.Flush told h = refl
heard_no_end incoming.End told h = absurd h

-- a take: what the link was told and gave
pub take_told : (m a : RunState) (b : Scene) (msg : Incoming) (n : Noted) → Advances m (Some msg) a → n ≡ with_entry (entry.Received msg) a.scene.noted
    → m.scene ≡ b → n.history ≡ heard msg b.noted.history
take_told m a b msg n far is same =
    ap (λ (x : Noted). x.history) is ∙ ap (λ (l : List Told). Received msg ∷ l) (message_history msg a.scene.noted ∙ far_history m a (Some msg) far
    ∙ ap (λ (s : Scene). s.noted.history) same)
    ∙ heard_no_end msg b.noted.history (far_no_end m a (Some msg) far)

pub to_end_history : (b a : RunState) → ComesToEnd b a → a.scene.noted.history ≡ b.scene.noted.history
to_end_history b a (IsRunOut _ far spent) = far_history b a None far
to_end_history b _ (IsStarved a far) = far_history b a None far

-- a link that has ended gives End again
pub end_again : (over : Bool) (entries : List LogEntry) → over ≡ true → (noted_of over entries).history ≡ heard incoming.End (noted_of over entries).history
end_again true entries is = ap (λ (n : Noted). n.history) (said_end true entries)
end_again false entries is = cc

pub end_told : (m a : RunState) (b : Scene) (n : Noted) → ComesToEnd m a → n ≡ with_end a.scene.noted → m.scene ≡ b
    → n.history ≡ heard incoming.End b.noted.history
end_told m a b n far is same =
    ap (λ (x : Noted). x.history) is
    ∙ ap (λ (l : List Told). heard incoming.End l) (to_end_history m a far ∙ ap (λ (s : Scene). s.noted.history) same)

falls : (o p t u : Bool) (len more n m : ℕ) → o ≡ false → p ≡ false → u ≡ t → more ≡ len → n < m → m ≤ more
    → left_of p (more - m) u < left_of o (len - n) t
falls true p t u len more n m e f same is low within = absurd (true_not_false e)
falls false true t u len more n m e f same is low within = absurd (true_not_false f)
falls false false true true len more n m e f same is low within = omega (arith, is, low, within)
falls false false true false len more n m e f same is low within = absurd (true_not_false (sym same))
falls false false false true len more n m e f same is low within = absurd (true_not_false same)
falls false false false false len more n m e f same is low within = omega (arith, is, low, within)

-- and how much it still gives
pub take_falls : (m a : RunState) (r : Option Incoming) (o p t : Bool) (len n : ℕ) → Advances m r a → o ≡ false → p ≡ false → m.told ≡ t → length m.events ≡ len
    → n < a.next → a.next ≤ length a.events → left_of p (length a.events - a.next) a.told < left_of o (len - n) t
take_falls m a r o p t len n far live over told same low within =
    falls o p t a.told len (length a.events) n a.next live over (far_told m a r far ∙ told) (ap length (far_events m a r far) ∙ same) low within

pub take_spent : (left more : ℕ) (A : Type 0) → more < left → left ≡ 0 → A
take_spent left more A low none = absurd (omega (arith, low, none))

pub take_true : (v : Opening) (m a : RunState) (b : Scene) (msg : Incoming) (n : Noted) (marks : List Mark) → Advances m (Some msg) a
    → n ≡ with_entry (entry.Received msg) a.scene.noted → m.scene ≡ b → RunTruth v b marks → RunTruth v (record (a.scene) { noted = n }) (received msg marks)
take_true v m a b msg n marks far is same h = received_true v a.scene n marks msg is (far_heard v m a (Some msg) marks far (true_of v b m.scene marks same h))

pub end_true : (v : Opening) (m a : RunState) (b : Scene) (n : Noted) (marks : List Mark) → ComesToEnd m a → n ≡ with_end a.scene.noted → m.scene ≡ b
    → RunTruth v b marks → RunTruth v (record (a.scene) { noted = n }) marks
end_true v m a b n marks far is same h = ended_true v a.scene n marks is (to_end_heard v m a marks far (true_of v b m.scene marks same h))

-- between two calls
pub aside_true : (v : Opening) (m a : RunState) (b : Scene) (r : Option Incoming) (msg : Incoming) (n : Noted) (marks : List Mark) → RunsEvent m r a → r ≡ Some msg
    → n ≡ with_entry (entry.Handed msg) a.scene.noted → m.scene ≡ b → RunTruth v b marks → RunTruth v (record (a.scene) { noted = n }) (with_next r marks)
aside_true v m a b r msg n marks next came is same h =
    subst (λ (x : Option Incoming). RunTruth v (record (a.scene) { noted = n }) (with_next x marks)) (sym came)
    (handed_true v a.scene n marks msg is
    (subst (λ (x : Option Incoming). Heard v a.scene marks (with_next x marks)) came
    (next_heard v m a r marks next (true_of v b m.scene marks same h))))

pub quiet_true : (v : Opening) (m a : RunState) (b : Scene) (r : Option Incoming) (marks : List Mark) → RunsEvent m r a → r ≡ None → m.scene ≡ b
    → RunTruth v b marks → RunTruth v a.scene (with_next r marks)
quiet_true v m a b r marks next none same h =
    subst (λ (x : Option Incoming). RunTruth v a.scene (with_next x marks)) (sym none)
    (subst (λ (x : Option Incoming). Heard v a.scene marks (with_next x marks)) none
    (next_heard v m a r marks next (true_of v b m.scene marks same h)))

-- before the first event
pub opened_true : (v : Opening) (media : MediaState) (rules : Policy) (watch : Watch) (supply : List DriverState) (n : Noted) (s : Scene) → IsOnMedia v
    → media ≡ opening_media v → All (IsReady v) supply → n ≡ first_noted → s.noted ≡ n → Opens media rules watch supply n s
    → RunTruth v s (Started (driver 1) ∷ [])
opened_true v media rules watch supply n s on is ready first same opens = record {
  is = ap (λ (x : Noted). without_faults (marks_in x)) (same ∙ first);
  kept = opening_keeps v rules watch supply n s on ready (ap (λ (x : Noted). x.posts) first)
      (subst (λ (m : MediaState). Opens m rules watch supply n s) is opens);
}
