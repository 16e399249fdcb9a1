-- What an event does to each driver that was started.
use Rattle.std.proofs.Common.{◌≡◌, ℕ, zero, suc, ◌+◌, ◌<◌, List, [], ◌∷◌, ◌++◌, length, Bool, true, false, refl, sym, ◌∙◌, ap, subst, arith, ◌⊎◌, inl, inr}
use Rattle.std.proofs.lemmas.List.{append-nil}
use Rattle.std.proofs.lemmas.Option.{slice_get_within}
use Rattle.std.specs.Prelude.{◌&&◌, ◌||◌, ◌==◌, max, Option, Some, None, Result, slice_get, slice_set}
use Rattle.message.specs.declared.endpoint.Endpoint.{Endpoint}
use Rattle.message.specs.declared.BlockRequest.{BlockRequest}
use Rattle.media.specs.Contents.{MediaState}
use Rattle.bdev.specs.declared.Step.{Step}
use Rattle.bdev.specs.declared.Step.TheVariants.{Working, Idle, Done, Failed}
use Rattle.bdev.specs.DriverState.{DriverState}
use Rattle.schedule.specs.declared.Sent.{Sent}
use Rattle.schedule.specs.Replies.{has_sent_at}
use Rattle.reissue.specs.declared.link.LinkRefusal.{LinkRefusal}
use Rattle.simulated_link.specs.Disks.{Disks, Slot, SlotSteps, IsOlder, sent_at, lined, dead_slot, hung_slot, started, Steps, NoStep, CurrentSteps, OlderSteps, Dies, NoneDies, CurrentDies, OlderDies, Hangs, NoneHangs, CurrentHangs, OlderHangs, LinesUp, NoneIsThere, LineIsFull, IsLinedUp, LinesUpAgain, NoneLinesUp, CurrentLinesUp, OlderLinesUp}
use Rattle.conformance.specs.Steady.{AllSlots}
use Rattle.conformance.proofs.DiskMoves.{steps_generation, dies_generation}
use Rattle.conformance.proofs.FollowLaws.{other_number}
use Rattle.conformance.proofs.SlotLaws.{push_get, same_slot}
use Rattle.conformance.proofs.SlotWork.{replies_at}

-- each driver is the one with its number before, and this holds of it before and after
pub record Follow (R : ℕ → Slot → Slot → Type 0) (b a : Disks) : Type 0 where
  pub older : (at : ℕ) (t : Slot) → slice_get a.older at ≡ Some t → (s : Slot) × (slice_get b.older at ≡ Some s) × R (at + 1) s t
  pub current : R b.media.generation b.current a.current
  pub same : a.media.generation ≡ b.media.generation

pub follow_all : (Was Now : ℕ → Slot → Type 0) (R : ℕ → Slot → Slot → Type 0) (b a : Disks) → ((h : ℕ) (s t : Slot) → R h s t → Was h s → Now h t) → Follow R b a
    → AllSlots Was b → AllSlots Now a
follow_all Was Now R b a on f h = record {
  older = λ at t there. let was : (s : Slot) × (slice_get b.older at ≡ Some s) × R (at + 1) s t = f.older at t there in
      on (at + 1) was.0 t was.2 (h.older at was.0 was.1);
  current = subst (λ (n : ℕ). Now n a.current) (sym f.same) (on b.media.generation b.current a.current f.current h.current);
}

-- a list with one thing changed
set_get : (xs : List Slot) (at k : ℕ) (a t : Slot) → slice_get (slice_set xs at a) k ≡ Some t → ((k ≡ at) × (t ≡ a)) ⊎ ((k ≡ at → ⊥) × (slice_get xs k ≡ Some t))
set_get [] at k a t there = cc
set_get (x ∷ xs) zero zero a t there = inl (refl, same_slot t a (sym there))
set_get (x ∷ xs) zero (suc k) a t there = inr (λ e. cc, there)
set_get (x ∷ xs) (suc at) zero a t there = inr (λ e. cc, there)
set_get (x ∷ xs) (suc at) (suc k) a t there = by (set_get xs at k a t there) where
  by : ((k ≡ at) × (t ≡ a)) ⊎ ((k ≡ at → ⊥) × (slice_get xs k ≡ Some t)) → ((suc k ≡ suc at) × (t ≡ a)) ⊎ ((suc k ≡ suc at → ⊥) × (slice_get xs k ≡ Some t))
  by (inl h) = inl (ap suc h.0, h.1)
  by (inr h) = inr (λ e. h.0 (omega (arith, e)), h.1)

module _ (R : ℕ → Slot → Slot → Type 0) (b : Disks) where
  pub follow_none : ((h : ℕ) (s : Slot) → R h s s) → Follow R b b
  follow_none all = record { older = λ at t there. (t, there, all (at + 1) t); current = all b.media.generation b.current; same = refl }

  -- the one that was started last changes
  pub follow_current : (a : Disks) → length b.older + 1 ≡ b.media.generation → ((h : ℕ) (s : Slot) → (h ≡ b.media.generation → ⊥) → R h s s)
      → R b.media.generation b.current a.current → a.older ≡ b.older → a.media.generation ≡ b.media.generation → Follow R b a
  follow_current a number others own older same = record {
    older = λ at t there.
        let was : slice_get b.older at ≡ Some t = ap (λ (l : List Slot). slice_get l at) (sym older) ∙ there in
        let within : at < length b.older = slice_get_within b.older at t was in
        (t, was, others (at + 1) t (λ e. none at (length b.older) b.media.generation within number e));
    current = own;
    same = same;
  } where
    none : (at l m : ℕ) → at < l → l + 1 ≡ m → at + 1 ≡ m → ⊥
    none at l m within number e = omega (arith, within, number, e)

  -- one that was started before it
  pub follow_older : (a : Disks) (g at : ℕ) (was new : Slot) → ((h : ℕ) (s : Slot) → (h ≡ g → ⊥) → R h s s) → IsOlder g b at was → R g was new
      → a.older ≡ slice_set b.older at new → a.current ≡ b.current → a.media.generation ≡ b.media.generation → Follow R b a
  follow_older a g at was new others is own older current same = record {
    older = λ k t there. by k t (set_get b.older at k new t (ap (λ (l : List Slot). slice_get l k) (sym older) ∙ there));
    current = subst (λ (x : Slot). R b.media.generation b.current x) (sym current) (others b.media.generation b.current (λ e. none b.media.generation g is.older e));
    same = same;
  } where
    none : (m n : ℕ) → n < m → m ≡ n → ⊥
    none m n low e = omega (arith, low, e)

    by : (k : ℕ) (t : Slot) → ((k ≡ at) × (t ≡ new)) ⊎ ((k ≡ at → ⊥) × (slice_get b.older k ≡ Some t)) → (s : Slot) × (slice_get b.older k ≡ Some s) × R (k + 1) s t
    by k t (inl h) =
        let there : slice_get b.older k ≡ Some was = ap (λ (n : ℕ). slice_get b.older n) h.0 ∙ is.there in
        let number : g ≡ k + 1 = is.number ∙ ap (λ (n : ℕ). n + 1) (sym h.0) in
        (was, there, subst (λ (n : ℕ). R n was t) number (subst (λ (x : Slot). R g was x) (sym h.1) own))
    by k t (inr h) = (t, h.1, others (k + 1) t (λ e. h.0 (omega (arith, e, is.number))))

-- what an event that sends these replies, and to these drivers' lines a request, does to the driver with this number
pub data Goes (Lined : ℕ → BlockRequest → Type 0) (place : ℕ) (more : List Sent) (h : ℕ) (s : Slot) : Slot → Type 0 where
  Stays : (t : Slot) → t.state ≡ s.state → t.line ≡ s.line → (t.live ≡ true → s.live ≡ true) → (t.live ≡ true → has_sent_at h place more ≡ false)
      → Goes Lined place more h s t
  Lines : (r : BlockRequest) → Lined h r → has_sent_at h place more ≡ false → Goes Lined place more h s (lined r s)

-- no request goes to any line
abbrev pub Nobodys : ℕ → BlockRequest → Type 0
Nobodys h r = ⊥

rests : (Lined : ℕ → BlockRequest → Type 0) (place : ℕ) (h : ℕ) (s : Slot) → Goes Lined place [] h s s
rests Lined place h s = Stays s refl refl (λ alive. alive) (λ alive. refl)

pub dies_goes : (place g : ℕ) (bytes : Option (List ℕ)) (b a : Disks) (died : Bool) → length b.older + 1 ≡ b.media.generation → Dies g bytes b died a
    → Follow (Goes Nobodys place []) b a
dies_goes place g bytes b _ _ number (NoneDies none) = follow_none (Goes Nobodys place []) b (rests Nobodys place)
dies_goes place g bytes b a _ number (CurrentDies is live) =
    follow_current (Goes Nobodys place []) b a number (λ h s other. rests Nobodys place h s)
    (Stays (dead_slot b.current) refl refl (λ alive. absurd (clash alive)) (λ alive. refl)) refl
    (dies_generation g bytes b a true (CurrentDies is live)) where
      clash : ◌≡◌ {A = Bool} false true → ⊥
      clash e = cc
dies_goes place g bytes b a _ number (OlderDies at was older live) =
    follow_older (Goes Nobodys place []) b a g at was (dead_slot was) (λ h s other. rests Nobodys place h s) older
    (Stays (dead_slot was) refl refl (λ alive. absurd (clash alive)) (λ alive. refl)) refl refl refl where
      clash : ◌≡◌ {A = Bool} false true → ⊥
      clash e = cc

pub hangs_goes : (place g : ℕ) (b a : Disks) → length b.older + 1 ≡ b.media.generation → Hangs g b a → Follow (Goes Nobodys place []) b a
hangs_goes place g b _ number (NoneHangs none) = follow_none (Goes Nobodys place []) b (rests Nobodys place)
hangs_goes place g b a number (CurrentHangs is) =
    follow_current (Goes Nobodys place []) b a number (λ h s other. rests Nobodys place h s)
    (Stays (hung_slot b.current) refl refl (λ alive. alive) (λ alive. refl)) refl refl
hangs_goes place g b a number (OlderHangs at was older) =
    follow_older (Goes Nobodys place []) b a g at was (hung_slot was) (λ h s other. rests Nobodys place h s) older
    (Stays (hung_slot was) refl refl (λ alive. alive) (λ alive. refl)) refl refl refl

-- this request goes to the line of this driver
abbrev pub OnlyTo : ℕ → BlockRequest → ℕ → BlockRequest → Type 0
OnlyTo g r h q = (h ≡ g) × (q ≡ r)

pub again_goes : (place g : ℕ) (r : BlockRequest) (b a : Disks) → length b.older + 1 ≡ b.media.generation → LinesUpAgain g r b a
    → Follow (Goes (OnlyTo g r) place []) b a
again_goes place g r b _ number (NoneLinesUp none) = follow_none (Goes (OnlyTo g r) place []) b (rests (OnlyTo g r) place)
again_goes place g r b a number (CurrentLinesUp is live few) =
    follow_current (Goes (OnlyTo g r) place []) b a number (λ h s other. rests (OnlyTo g r) place h s) (Lines r (sym is, refl) refl) refl refl
again_goes place g r b a number (OlderLinesUp at was older live few) =
    follow_older (Goes (OnlyTo g r) place []) b a g at was (lined r was) (λ h s other. rests (OnlyTo g r) place h s) older (Lines r (refl, refl) refl) refl refl refl

-- a post goes to the line of the driver that was started last
pub lines_goes : (place : ℕ) (to : Endpoint) (r : BlockRequest) (b a : Disks) (result : Result (Unit {0}) LinkRefusal) → length b.older + 1 ≡ b.media.generation
    → LinesUp to r b result a → Follow (Goes (OnlyTo b.media.generation r) place []) b a
lines_goes place to r b _ _ number (NoneIsThere none) = follow_none (Goes (OnlyTo b.media.generation r) place []) b (rests (OnlyTo b.media.generation r) place)
lines_goes place to r b _ _ number (LineIsFull there full) = follow_none (Goes (OnlyTo b.media.generation r) place []) b (rests (OnlyTo b.media.generation r) place)
lines_goes place to r b a _ number (IsLinedUp there few) =
    follow_current (Goes (OnlyTo b.media.generation r) place []) b a number (λ h s other. rests (OnlyTo b.media.generation r) place h s) (Lines r (refl, refl) refl) refl refl

-- where a driver stands
pub data IsSlot (b : Disks) (g : ℕ) (s : Slot) : Type 0 where
  TheCurrent : g ≡ b.media.generation → s ≡ b.current → IsSlot b g s
  AnOlder : (at : ℕ) → IsOlder g b at s → IsSlot b g s

pub slot_is : (Was : ℕ → Slot → Type 0) (b : Disks) (g : ℕ) (s : Slot) → IsSlot b g s → AllSlots Was b → Was g s
slot_is Was b g s (TheCurrent number is) h = subst (λ (n : ℕ). Was n s) (sym number) (subst (λ (x : Slot). Was b.media.generation x) (sym is) h.current)
slot_is Was b g s (AnOlder at is) h = subst (λ (n : ℕ). Was n s) (sym is.number) (h.older at s is.there)

-- it is this slot before and after, or another one that this leaves
abbrev pub OwnOr : ℕ → Slot → Slot → (ℕ → Slot → Slot → Type 0) → ℕ → Slot → Slot → Type 0
OwnOr g was new R h s t = ((h ≡ g) × (s ≡ was) × (t ≡ new)) ⊎ R h s t

-- a step of a driver that lives
pub record LiveStep (place g : ℕ) (b : Disks) (step : Step) (a : Disks) : Type 0 where
  pub was : Slot
  pub new : Slot
  pub media : MediaState
  pub slot : IsSlot b g was
  pub live : was.live ≡ true
  pub steps : SlotSteps g was b.media step new media
  pub sent : a.sent ≡ b.sent ++ replies_at place g step
  pub others : Follow (OwnOr g was new (Goes Nobodys place (replies_at place g step))) b a

sent_more : (place g : ℕ) (step : Step) (sent : List Sent) → sent_at place g step sent ≡ sent ++ replies_at place g step
sent_more place g (Done answer) sent = refl
sent_more place g Working sent = sym (append-nil sent)
sent_more place g Idle sent = sym (append-nil sent)
sent_more place g Failed sent = sym (append-nil sent)

other_rests : (place g : ℕ) (step : Step) (h : ℕ) (s : Slot) → (h ≡ g → ⊥) → Goes Nobodys place (replies_at place g step) h s s
other_rests place g Working h s other = rests Nobodys place h s
other_rests place g Idle h s other = rests Nobodys place h s
other_rests place g Failed h s other = rests Nobodys place h s
other_rests place g (Done answer) h s other =
    Stays s refl refl (λ alive. alive) (λ alive. ap (λ (b : Bool). (b && (place == place)) || false) (other_number g h (λ e. other (sym e))))

-- what a step does: nothing, or it is one of a driver that lives
pub data StepDone (place g : ℕ) (b : Disks) : Option Step → Disks → Type 0 where
  DidNothing : StepDone place g b None b
  DidStep : (step : Step) (a : Disks) → LiveStep place g b step a → StepDone place g b (Some step) a

pub step_done : (place g : ℕ) (b a : Disks) (result : Option Step) → length b.older + 1 ≡ b.media.generation → Steps place g b result a → StepDone place g b result a
step_done place g b _ _ number (NoStep none) = DidNothing
step_done place g b a _ number (CurrentSteps step t m is live s) = DidStep step a (record {
  was = b.current;
  new = t;
  media = m;
  slot = TheCurrent is refl;
  live = live;
  steps = s;
  sent = sent_more place g step b.sent;
  others = follow_current (OwnOr g b.current t (Goes Nobodys place (replies_at place g step))) b a number
      (λ h x other. inr (other_rests place g step h x (λ e. other (e ∙ is)))) (inl (sym is, refl, refl)) refl
      (steps_generation place g b a (Some step) (CurrentSteps step t m is live s));
})
step_done place g b a _ number (OlderSteps at was t step m older live s) = DidStep step a (record {
  was = was;
  new = t;
  media = m;
  slot = AnOlder at older;
  live = live;
  steps = s;
  sent = sent_more place g step b.sent;
  others = follow_older (OwnOr g was t (Goes Nobodys place (replies_at place g step))) b a g at was t
      (λ h x other. inr (other_rests place g step h x other)) older (inl (refl, refl, refl)) refl refl
      (steps_generation place g b a (Some step) (OlderSteps at was t step m older live s));
})

-- a start: the others are as they were
pub started_all : (Was Now : ℕ → Slot → Type 0) (g : ℕ) (d : DriverState) (b : Disks) → length b.older + 1 ≡ b.media.generation → g ≡ b.media.generation + 1
    → ((h : ℕ) (s : Slot) → Was h s → Now h s) → ((s : Slot) → s.state ≡ d → s.line ≡ [] → Now g s) → AllSlots Was b → AllSlots Now (started g d b)
started_all Was Now g d b number next stay new h = record {
  older = λ at s there. by at s (push_get b.older at b.current s there);
  current = subst (λ (n : ℕ). Now n (record { state = d; live = true; hung = false; line = [] })) (greater b.media.generation g next)
      (new (record { state = d; live = true; hung = false; line = [] }) refl refl);
} where
  greater : (m n : ℕ) → n ≡ m + 1 → n ≡ max m n
  greater m n is = omega (arith, is)

  by : (at : ℕ) (s : Slot) → (slice_get b.older at ≡ Some s) ⊎ ((at ≡ length b.older) × (Some b.current ≡ Some s)) → Now (at + 1) s
  by at s (inl there) = stay (at + 1) s (h.older at s there)
  by at s (inr k) =
      let same : b.media.generation ≡ at + 1 = sym number ∙ ap (λ (n : ℕ). n + 1) (sym k.0) in
      subst (λ (n : ℕ). Now n s) same
      (subst (λ (x : Slot). Now b.media.generation x) (same_slot b.current s k.1) (stay b.media.generation b.current h.current))
