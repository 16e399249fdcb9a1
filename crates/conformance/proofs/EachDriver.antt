-- What each driver keeps over its own moves, all drivers keep over a run.
use Rattle.std.proofs.Common.{◌≡◌, ℕ, zero, suc, ◌+◌, ◌<◌, List, [], ◌∷◌, ◌++◌, length, true, false, refl, sym, ◌∙◌, ap, subst, arith, ◌⊎◌, inl, inr}
use Rattle.std.proofs.lemmas.Option.{slice_get_within}
use Rattle.std.specs.Prelude.{Option, Some, None, slice_get, slice_set}
use Rattle.message.specs.declared.endpoint.Endpoint.{Endpoint}
use Rattle.message.specs.declared.BlockRequest.{BlockRequest}
use Rattle.message.specs.declared.BlockReply.{BlockReply}
use Rattle.media.specs.Contents.{MediaState}
use Rattle.bdev.specs.declared.Step.{Step}
use Rattle.bdev.specs.DriverState.{DriverState}
use Rattle.bdev.specs.Promises.{StepKeeps, IsDriver}
use Rattle.records.specs.Marks.{Mark, Started, Issued}
use Rattle.records.specs.Open.{IsIn}
use Rattle.schedule.specs.declared.Sent.{Sent}
use Rattle.schedule.specs.Groups.{Each}
use Rattle.schedule.specs.Drivers.{requests_issued_to}
use Rattle.synchronous_driver.specs.Steps.{HandsOver}
use Rattle.true_replies.specs.Posted.{since_start}
use Rattle.schedule.specs.declared.log.Post.{Post}
use Rattle.simulated_link.specs.Disks.{Disks, Slot, started, is_at, lined_up}
use Rattle.conformance.specs.Core.{Core}
use Rattle.conformance.specs.Steady.{AllSlots}
use Rattle.conformance.proofs.SlotLaws.{push_get, same_slot}
use Rattle.conformance.specs.Took.{TookNothing, replies_from}
use Rattle.conformance.proofs.Small.{none_more}
use Rattle.conformance.proofs.Moves.{answers_of, SlotMoves, Turns, StepsSo, Again, Touches, TheLast, AnOlder, Move, Stays, OneMoves, Issues, StartsOne}
use Rattle.conformance.proofs.IssuedLaws.{PostsWere, Known, ToLast, to_last, issued_own, issued_other, next_generation}

-- a list with one thing changed
set_get : (xs : List Slot) (at k : ℕ) (a s : Slot) → slice_get (slice_set xs at a) k ≡ Some s
    → ((k ≡ at) × (s ≡ a)) ⊎ ((k ≡ at → ⊥) × (slice_get xs k ≡ Some s))
set_get [] at k a s there = cc
set_get (x ∷ xs) zero zero a s there = inl (refl, sym (same_slot a s there))
set_get (x ∷ xs) zero (suc k) a s there = inr (λ e. cc, there)
set_get (x ∷ xs) (suc at) zero a s there = inr (λ e. cc, there)
set_get (x ∷ xs) (suc at) (suc k) a s there = by (set_get xs at k a s there) where
  by : ((k ≡ at) × (s ≡ a)) ⊎ ((k ≡ at → ⊥) × (slice_get xs k ≡ Some s)) → ((suc k ≡ suc at) × (s ≡ a)) ⊎ ((suc k ≡ suc at
      → ⊥) × (slice_get xs k ≡ Some s))
  by (inl h) = inl (ap suc h.0, h.1)
  by (inr h) = inr (λ e. h.0 (omega (arith, e)), h.1)

module _ (Was Now : ℕ → Slot → Type 0) where
  -- the last driver alone is changed
  last_changed : (b a : Disks) → length b.older + 1 ≡ b.media.generation → ((h : ℕ) (s : Slot) → (h ≡ b.media.generation → ⊥) → Was h s
      → Now h s)
      → (Was b.media.generation b.current → Now b.media.generation a.current) → a.older ≡ b.older → a.media.generation ≡ b.media.generation
      → AllSlots Was b → AllSlots Now a
  last_changed b a number others own older same h = record {
    older = λ at s there.
        let was : slice_get b.older at ≡ Some s = ap (λ (l : List Slot). slice_get l at) (sym older) ∙ there in
        let within : at < length b.older = slice_get_within b.older at s was in
        others (at + 1) s (λ e. none at (length b.older) b.media.generation within number e) (h.older at s was);
    current = subst (λ (n : ℕ). Now n a.current) (sym same) (own h.current);
  } where
    none : (at l m : ℕ) → at < l → l + 1 ≡ m → at + 1 ≡ m → ⊥
    none at l m within number e = omega (arith, within, number, e)

  touched_slots : (R : Slot → Slot → Type 0) (g : ℕ) (b a : Disks) → Touches R g b a → length b.older + 1 ≡ b.media.generation
      → ((h : ℕ) (s : Slot) → (h ≡ g → ⊥) → Was h s → Now h s) → ((s t : Slot) → R s t → Was g s → Now g t) → AllSlots Was b
      → AllSlots Now a
  touched_slots R g b a (TheLast is r older same) number others own h =
      last_changed b a number (λ k s other was. others k s (λ e. other (e ∙ is)) was)
      (λ was. subst (λ (n : ℕ). Now n a.current) is (own b.current a.current r
      (subst (λ (n : ℕ). Was n b.current) (sym is) was))) older same h
  touched_slots R g b a (AnOlder at was new is r older current same) number others own h = record {
    older = λ k s there. by k s (set_get b.older at k new s (ap (λ (l : List Slot). slice_get l k) (sym older) ∙ there));
    current = subst (λ (n : ℕ). Now n a.current) (sym same)
        (subst (λ (s : Slot). Now b.media.generation s) (sym current)
        (others b.media.generation b.current (λ e. none b.media.generation g is.older e) h.current));
  } where
    none : (m n : ℕ) → n < m → m ≡ n → ⊥
    none m n low e = omega (arith, low, e)

    by : (k : ℕ) (s : Slot) → ((k ≡ at) × (s ≡ new)) ⊎ ((k ≡ at → ⊥) × (slice_get b.older k ≡ Some s)) → Now (k + 1) s
    by k s (inl e) =
        let number_is : g ≡ k + 1 = is.number ∙ ap (λ (n : ℕ). n + 1) (sym e.0) in
        let was_there : Was g was = subst (λ (n : ℕ). Was n was) (sym is.number) (h.older at was is.there) in
        subst (λ (n : ℕ). Now n s) number_is (subst (λ (t : Slot). Now g t) (sym e.1) (own was new r was_there))
    by k s (inr e) = others (k + 1) s (λ same_is. e.0 (omega (arith, same_is, is.number))) (h.older k s e.1)

  pub slots_as : (d : Disks) → ((h : ℕ) (s : Slot) → Was h s → Now h s) → AllSlots Was d → AllSlots Now d
  slots_as d on h = record { older = λ at s there. on (at + 1) s (h.older at s there); current = on d.media.generation d.current h.current }

  -- the next driver is started
  started_slots : (b : Disks) (d : DriverState) → length b.older + 1 ≡ b.media.generation → ((h : ℕ) (s : Slot) → Was h s → Now h s)
      → Now (b.media.generation + 1) (record { state = d; live = true; hung = false; line = [] }) → AllSlots Was b
      → AllSlots Now (started (b.media.generation + 1) d b)
  started_slots b d number on first h = record {
    older = λ at s there. by at s (push_get b.older at b.current s there);
    current = subst (λ (n : ℕ). Now n (record { state = d; live = true; hung = false; line = [] })) (sym (next_generation b d)) first;
  } where
    by : (at : ℕ) (s : Slot) → (slice_get b.older at ≡ Some s) ⊎ ((at ≡ length b.older) × (Some b.current ≡ Some s)) → Now (at + 1) s
    by at s (inl there) = on (at + 1) s (h.older at s there)
    by at s (inr k) =
        let same : b.media.generation ≡ at + 1 = sym number ∙ ap (λ (n : ℕ). n + 1) (sym k.0) in
        subst (λ (n : ℕ). Now n s) same
        (subst (λ (x : Slot). Now b.media.generation x) (same_slot b.current s k.1)
        (on b.media.generation b.current h.current))

-- the accepted post with this number
post_there : (marks : List Mark) (posts : List Post) (n : ℕ) (p : Post) → slice_get posts n ≡ Some p → PostsWere marks posts
    → IsIn p.request (requests_issued_to p.to.generation marks)
post_there marks [] n p there h = cc
post_there marks (q ∷ posts) zero p there h = subst (λ (o : Option Post). Was o) there h.0 where
  Was : Option Post → Type 0
  Was None = ⊥
  Was (Some x) = IsIn x.request (requests_issued_to x.to.generation marks)
post_there marks (q ∷ posts) (suc n) p there h = post_there marks posts n p there h.1

-- what holds of a driver, by what was issued to it, its replies, what is known of it and its line, while the record fits
pub record Keeps (Fit : List Mark → Type 0)
    (Holds : List BlockRequest → List BlockReply → DriverState → List BlockRequest → Type 0) : Type 0 where
  pub shorter : (m : Mark) (marks : List Mark) → Fit (m ∷ marks) → Fit marks
  pub at_first : (d : DriverState) → TookNothing d → Holds [] [] d []
  pub steps : (issued : List BlockRequest) (replies : List BlockReply) (b : DriverState) (line : List BlockRequest) (handed : DriverState)
      (left : List BlockRequest) (m : MediaState) (g : ℕ) (step : Step) (a : DriverState) (m' : MediaState) → HandsOver b line handed left
      → IsDriver handed → StepKeeps handed m g step a m' → Holds issued replies b line → Holds issued (replies ++ answers_of g step) a left
  pub again : (issued : List BlockRequest) (replies : List BlockReply) (d : DriverState) (line : List BlockRequest) (r : BlockRequest)
      → IsIn r issued
      → Holds issued replies d line → Holds issued replies d (line ++ r ∷ [])
  pub issues : (marks : List Mark) (r : BlockRequest) (to : Endpoint) (replies : List BlockReply) (d : DriverState)
      (line : List BlockRequest)
      → Fit (Issued r to ∷ marks) → requests_issued_to to.generation marks ≡ since_start marks
      → Holds (requests_issued_to to.generation marks) replies d line
      → Holds (r ∷ requests_issued_to to.generation marks) replies d (line ++ r ∷ [])

module _ (Fit : List Mark → Type 0) (Holds : List BlockRequest → List BlockReply → DriverState → List BlockRequest → Type 0)
    (keeps : Keeps Fit Holds) where
  abbrev pub HoldsOf : List Mark → List Sent → ℕ → Slot → Type 0
  HoldsOf marks sent g s = Holds (requests_issued_to g marks) (replies_from g sent) s.state s.line

  fit_before : (marks before : List Mark) → Fit (marks ++ before) → Fit before
  fit_before [] before fit = fit
  fit_before (m ∷ marks) before fit = fit_before marks before (keeps.shorter m (marks ++ before) fit)

  holds_as : (i j : List BlockRequest) (p q : List BlockReply) (s t : Slot) → j ≡ i → q ≡ p → t.state ≡ s.state → t.line ≡ s.line
      → Holds i p s.state s.line → Holds j q t.state t.line
  holds_as i j p q s t issued replies state line h =
      subst (λ (x : List BlockRequest). Holds x q t.state t.line) (sym issued)
      (subst (λ (x : List BlockReply). Holds i x t.state t.line) (sym replies)
      (subst (λ (x : DriverState). Holds i p x t.line) (sym state) (subst (λ (x : List BlockRequest). Holds i p s.state x) (sym line) h)))

  moved : (before : List Mark) (posts : List Post) (g : ℕ) (s t : Slot) (answers replies : List BlockReply) → SlotMoves posts g s t answers
      → PostsWere before posts → Holds (requests_issued_to g before) replies s.state s.line
      → Holds (requests_issued_to g before) (replies ++ answers) t.state t.line
  moved before posts g s t _ replies (Turns state line) were h = holds_as _ _ replies _ s t refl (sym (none_more replies)) state line h
  moved before posts g s t _ replies (StepsSo m m' step steps) were h =
      keeps.steps (requests_issued_to g before) replies s.state s.line steps.handed t.line m g step t.state m' steps.hands
      steps.driver steps.steps h
  moved before posts g s t _ replies (Again n p there to state line) were h =
      let was : IsIn p.request (requests_issued_to g before) =
      subst (λ (x : ℕ). IsIn p.request (requests_issued_to x before)) to (post_there before posts n p there were) in
      let more : Holds (requests_issued_to g before) replies s.state (s.line ++ p.request ∷ []) =
      keeps.again (requests_issued_to g before) replies s.state s.line p.request was h in
      holds_as _ _ replies _ (record s { line = s.line ++ p.request ∷ [] }) t refl (sym (none_more replies)) state line more

  -- the last start's driver has a request more on its line
  issued_slots : (before : List Mark) (r : BlockRequest) (to : Endpoint) (b : Disks) (supply : List DriverState) (posts : List Post)
      → is_at to b ≡ true
      → Known before b supply posts → Fit (Issued r to ∷ before) → AllSlots (HoldsOf before b.sent) b
      → AllSlots (HoldsOf (Issued r to ∷ before) b.sent) (lined_up r b)
  issued_slots before r to b supply posts there k fit h =
      let last : ToLast to b = to_last to b there in
      last_changed (HoldsOf before b.sent) (HoldsOf (Issued r to ∷ before) b.sent) b (lined_up r b) k.numbered
      (λ n s other was. holds_as _ _ _ _ s s (issued_other n r to before (λ e. other (e ∙ last.generation))) refl refl refl was)
      (λ was. here last.generation last.slot was) refl refl h where
        now : ℕ → Type 0
        now n = Holds (requests_issued_to n (Issued r to ∷ before)) (replies_from n b.sent) b.current.state (b.current.line ++ r ∷ [])

        was_so : ℕ → Type 0
        was_so n = Holds (requests_issued_to n before) (replies_from n b.sent) b.current.state b.current.line

        own : to.slot ≡ 1 → requests_issued_to to.generation before ≡ since_start before → was_so to.generation → now to.generation
        own slot since was = holds_as _ _ _ _ (record (b.current) { line = b.current.line ++ r ∷ [] })
            (record (b.current) { line = b.current.line ++ r ∷ [] })
            (issued_own to.generation r to before slot refl) refl refl refl
            (keeps.issues before r to (replies_from to.generation b.sent) b.current.state b.current.line fit since was)

        here : to.generation ≡ b.media.generation → to.slot ≡ 1 → was_so b.media.generation → now b.media.generation
        here at slot was = subst (λ (n : ℕ). now n) at (own slot (ap (λ (n : ℕ). requests_issued_to n before) at
            ∙ k.since) (subst (λ (n : ℕ). was_so n) (sym at) was))

  pub slots_move : (before : List Mark) (c a : Core) (marks : List Mark) → Move c a marks → Known before c.disks c.supply c.posts
      → (Fit before → AllSlots (HoldsOf before c.disks.sent) c.disks) → Fit (marks ++ before)
      → AllSlots (HoldsOf (marks ++ before) a.disks.sent) a.disks
  slots_move before c a _ (Stays marks quiet disks supply posts) k h fit =
      subst (λ (d : Disks). AllSlots (HoldsOf (marks ++ before) d.sent) d) (sym disks)
      (slots_as (HoldsOf before c.disks.sent) (HoldsOf (marks ++ before) c.disks.sent) c.disks
      (λ n s was. holds_as _ _ _ _ s s (quiet.none n before) refl refl refl was) (h (fit_before marks before fit)))
  slots_move before c a _ (OneMoves marks g answers quiet touches sent supply posts) k h fit =
      touched_slots (HoldsOf before c.disks.sent) (HoldsOf (marks ++ before) a.disks.sent)
      (λ s t. SlotMoves c.posts g s t answers) g c.disks a.disks touches
      k.numbered (λ n s other was. holds_as _ _ _ _ s s (quiet.none n before) (sent.others n other) refl refl was)
      (λ s t moves was. holds_as _ _ _ _ t t (quiet.none g before) sent.own refl refl
      (moved before c.posts g s t answers (replies_from g c.disks.sent) moves k.posted was))
      (h (fit_before marks before fit))
  slots_move before c a _ (Issues r to there disks supply posts) k h fit =
      subst (λ (d : Disks). AllSlots (HoldsOf (Issued r to ∷ before) d.sent) d) (sym disks)
      (issued_slots before r to c.disks c.supply c.posts there k fit (h (keeps.shorter (Issued r to) before fit)))
  slots_move before c a _ (StartsOne e d rest spare supply disks posts) k h fit =
      subst (λ (x : Disks). AllSlots (HoldsOf (Started e ∷ before) x.sent) x) (sym disks)
      (started_slots (HoldsOf before c.disks.sent) (HoldsOf (Started e ∷ before) c.disks.sent) c.disks d k.numbered (λ n s was. was)
      (holds_as _ _ _ _ first first (k.unstarted (c.disks.media.generation + 1) (omega arith))
      (k.silent (c.disks.media.generation + 1) (omega arith)) refl refl
      (keeps.at_first d (subst (λ (l : List DriverState). Each TookNothing l) spare k.new).0))
      (h (keeps.shorter (Started e) before fit))) where
        first : Slot
        first = record { state = d; live = true; hung = false; line = [] }
