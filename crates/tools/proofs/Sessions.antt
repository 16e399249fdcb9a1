-- Sessions whose calls were made at one time, and that then meet.
use Rattle.std.proofs.Common.{◌≡◌, ℕ, suc, take, ◌-◌, ◌<◌, ◌≤◌, arith, List, [], ◌∷◌, ◌++◌, length, length-append, map, refl, sym, ap, ◌∙◌}
use Rattle.std.proofs.Common.{append-nil, append_assoc, subst, Result, Ok, inl, inr, ◌⊎◌, reverse}
use Rattle.std.specs.Prelude.{slice_index_or}
use Rattle.std.proofs.lemmas.List.{reverse-append}
use Rattle.tree.specs.Tree.{most_sessions}
use Rattle.tree.specs.declared.Who.{Who}
use Rattle.records.specs.Marks.{Mark, IsBeginning}
use Rattle.records.specs.Session.{SessionState, SessionGoesOn, MeetKeeps, caller_of, calls_of}
use Rattle.call_text.specs.declared.scripts.timed.TimedCall.{TimedCall}
use Rattle.call_text.specs.Scripts.{plain_timed}
use Rattle.reply_text.specs.declared.answers.Played.{Played}
use Rattle.tools.specs.Made.{Plays, calls_made}
use Rattle.tools.specs.declared.scripts.turns.Turn.{Turn}
use Rattle.tools.specs.declared.scripts.turns.Taken.{Taken}
use Rattle.tools.specs.Turns.{ArePlayed, AreResults, AreTaken, EachIn, HaveEnded, HaveMet, HaveSeen, IsTaken, IsTurn, IsUnplayed, asked}
use Rattle.tools.proofs.Later.{begins_self, begins_through, same_caller}

-- ---- a session

-- what was vouched for of both is of the longer
either : (Vouches : List Mark → Type 0) (a b longer : List Mark) → ((longer ≡ a) × IsBeginning b a) ⊎ ((longer ≡ b) × IsBeginning a b)
    → Vouches a → Vouches b → Vouches longer
either Vouches a b longer (inl h) v w = subst Vouches (sym h.0) v
either Vouches a b longer (inr h) v w = subst Vouches (sym h.0) w

-- what came of a script, once its calls were made
pub is_turn : (Vouches Ended : List Mark → Type 0) (before last : SessionState) (calls : List TimedCall) (played : Played)
    → IsUnplayed Vouches before → Plays Vouches Ended before calls played.outcomes.items last → played.number ≡ before.knows.number
    → IsTurn Vouches Ended (before.uid, before.gid, map plain_timed calls) played last
is_turn Vouches Ended before last calls played h plays numbered =
    let caller : caller_of last ≡ caller_of before = plays.later.caller in
    let own : last.knows.mine ≡ calls_of last.knows.number last.knows.place last.knows.seen = plays.later.own (h.none ∙ sym h.none_seen) in
    let mine : last.knows.mine ≡ calls_made (caller_of last) calls played.outcomes.items [] =
    plays.mine ∙ ap (λ (older : List Mark). calls_made (caller_of before) calls played.outcomes.items older) h.none
    ∙ ap (λ (w : Who). calls_made w calls played.outcomes.items []) (sym caller) in
    record {
      user = ap (λ (w : Who). w.uid) caller;
      group = ap (λ (w : Who). w.gid) caller;
      number = ap (λ (w : Who). w.session) caller ∙ sym numbered;
      low = subst (λ (n : ℕ). n < most_sessions) (sym numbered) h.low;
      made = calls;
      asked = refl;
      each = plays.each;
      cuts = plays.cuts_last;
      mine = mine;
      calls = sym own ∙ mine;
      vouched = plays.vouched h.vouched;
      at_end = last.knows.seen;
      begins = begins_self last.knows.seen;
      ended = plays.ended;
    }

-- a session that learns more, and makes no call
turn_later : (Vouches Ended : List Mark → Type 0) (script : ℕ × ℕ × List TimedCall) (p : Played) (a b : SessionState)
    → IsTurn Vouches Ended script p a
    → SessionGoesOn a b → b.knows.mine ≡ a.knows.mine → Vouches b.knows.seen → IsTurn Vouches Ended script p b
turn_later Vouches Ended script p a b t goes same vouched =
    let caller : caller_of b ≡ caller_of a = same_caller a b goes in
    let mine : b.knows.mine ≡ calls_made (caller_of b) t.made p.outcomes.items [] =
    same ∙ t.mine ∙ ap (λ (w : Who). calls_made w t.made p.outcomes.items []) (sym caller) in
    record {
      user = goes.user ∙ t.user;
      group = goes.group ∙ t.group;
      number = goes.learns.number ∙ t.number;
      low = t.low;
      made = t.made;
      asked = t.asked;
      each = t.each;
      cuts = t.cuts;
      mine = mine;
      calls = sym goes.learns.own ∙ mine;
      vouched = vouched;
      at_end = t.at_end;
      begins = begins_through t.at_end a.knows.seen b.knows.seen t.begins goes.learns.beginning;
      ended = t.ended;
    }

-- two that meet
met_first : (Vouches Ended : List Mark → Type 0) (script : ℕ × ℕ × List TimedCall) (p : Played) (a b newer_a newer_b : SessionState)
    → IsTurn Vouches Ended script p a → Vouches b.knows.seen → MeetKeeps a b newer_a newer_b → IsTurn Vouches Ended script p newer_a
met_first Vouches Ended script p a b newer_a newer_b t vouched m =
    turn_later Vouches Ended script p a newer_a t m.first m.first_own
    (either Vouches a.knows.seen b.knows.seen newer_a.knows.seen m.longer t.vouched vouched)

met_second : (Vouches Ended : List Mark → Type 0) (script : ℕ × ℕ × List TimedCall) (p : Played) (a b newer_a newer_b : SessionState)
    → IsTurn Vouches Ended script p b → Vouches a.knows.seen → MeetKeeps a b newer_a newer_b → IsTurn Vouches Ended script p newer_b
met_second Vouches Ended script p a b newer_a newer_b t vouched m =
    turn_later Vouches Ended script p b newer_b t m.second m.second_own
    (subst Vouches m.same (either Vouches a.knows.seen b.knows.seen newer_a.knows.seen m.longer vouched t.vouched))

-- ---- records

-- two records that each begin with the other are one
none_later : (later a b : List Mark) → b ≡ later ++ a → length b ≤ length a → b ≡ a
none_later [] a b is short = is
none_later (m ∷ later) a b is short =
    let l : length b ≡ length ((m ∷ later) ++ a) = ap length is in absurd (omega (arith, l, short, length-append later a))

begins_length : (a b : List Mark) → IsBeginning a b → length a ≤ length b
begins_length a b h = let l : length b ≡ length (h.later ++ a) = ap length h.is in omega (arith, l, length-append h.later a)

one_record : (a b : List Mark) → IsBeginning a b → IsBeginning b a → b ≡ a
one_record a b h k = none_later h.later a b h.is (begins_length b a k)

-- a session that meets one which has seen a beginning of what it has sees no more
longer_is : (a b longer : List Mark) → ((longer ≡ a) × IsBeginning b a) ⊎ ((longer ≡ b) × IsBeginning a b) → IsBeginning b a → longer ≡ a
longer_is a b longer (inl h) begins = h.0
longer_is a b longer (inr h) begins = h.0 ∙ one_record a b h.1 begins

-- ---- lists

module _ {C E : Type 0} (Vouches Ended : List Mark → Type 0) (state : C → SessionState) where
  -- what came of each but the last, and of the last
  pub results_last : (scripts : List (ℕ × ℕ × List TimedCall)) (rest : List (Result (Taken C) E)) (r : Result (Taken C) E)
      → AreResults Vouches Ended state scripts (rest ++ r ∷ [])
      → (done : List (ℕ × ℕ × List TimedCall)) × (script : ℕ × ℕ × List TimedCall) × (scripts ≡ done ++ script ∷ [])
      × AreResults Vouches Ended state done rest × IsTaken Vouches Ended state script r
  results_last [] [] r h = absurd h
  results_last [] (x ∷ rest) r h = absurd h
  results_last (s ∷ []) [] r h = ([], s, refl, tt, h.0)
  results_last (s ∷ t ∷ scripts) [] r h = absurd h.1
  results_last (s ∷ scripts) (x ∷ rest) r h =
      let k = results_last scripts rest r h.1 in
      (s ∷ k.0, k.1, ap (λ (l : List (ℕ × ℕ × List TimedCall)). s ∷ l) k.2, (h.0, k.3), k.4)

  pub results_none : (scripts : List (ℕ × ℕ × List TimedCall)) (results : List (Result (Taken C) E)) → results ≡ []
      → AreResults Vouches Ended state scripts results → scripts ≡ []
  results_none [] results none h = refl
  results_none (s ∷ scripts) [] none h = absurd h
  results_none (s ∷ scripts) (r ∷ results) none h = absurd (let l = ap length none in omega (arith, l))

module _ {C : Type 0} (Vouches Ended : List Mark → Type 0) (state : C → SessionState) where
  -- each has seen a beginning of a longer record, too
  pub seen_further : (taken : List (Taken C)) (seen longer : List Mark) → IsBeginning seen longer → HaveSeen state taken seen
      → HaveSeen state taken longer
  seen_further [] seen longer begins h = tt
  seen_further (t ∷ taken) seen longer begins h =
      (begins_through (state t.client).knows.seen seen longer h.0 begins, seen_further taken seen longer begins h.1)

  -- one more turn, in a record that all have seen
  pub each_more : (seen : List Mark) (scripts : List (ℕ × ℕ × List TimedCall)) (played : List Played) (script : ℕ × ℕ × List TimedCall)
      (p : Played) (s : SessionState)
      → EachIn Vouches Ended seen scripts played → IsTurn Vouches Ended script p s → s.knows.seen ≡ seen
      → EachIn Vouches Ended seen (scripts ++ script ∷ []) (played ++ p ∷ [])
  each_more seen [] [] script p s h t same = ((s, t, same), tt)
  each_more seen [] (q ∷ played) script p s h t same = absurd h
  each_more seen (x ∷ scripts) [] script p s h t same = absurd h
  each_more seen (x ∷ scripts) (q ∷ played) script p s h t same = (h.0, each_more seen scripts played script p s h.1 t same)

-- a list with one more, in reverse
pub reverse_more : {X : Type 0} (xs : List X) (x : X) → reverse (xs ++ x ∷ []) ≡ x ∷ reverse xs
reverse_more xs x = reverse-append xs (x ∷ [])

-- ---- sessions that meet one, from the last on

-- what was met so far, and what is left, for any script of the one that meets and any of the others
pub record Meeting {C E : Type 0} (Vouches Ended : List Mark → Type 0) (state : C → SessionState) (script : ℕ × ℕ × List TimedCall)
    (played : Played)
    (scripts : List (ℕ × ℕ × List TimedCall)) (now : SessionState) (left : List (Result (Taken C) E))
    (others : List (Taken C)) : Type 0 where
  pub done : List (ℕ × ℕ × List TimedCall)
  pub tail : List (ℕ × ℕ × List TimedCall)
  pub split : scripts ≡ done ++ tail
  pub leads : IsTurn Vouches Ended script played now
  pub rest : AreResults Vouches Ended state done left
  pub taken : AreTaken Vouches Ended state tail (reverse others)
  pub seen : HaveSeen state (reverse others) now.knows.seen

module _ {C E : Type 0} (Vouches Ended : List Mark → Type 0) (state : C → SessionState) (script : ℕ × ℕ × List TimedCall) (played : Played)
    (scripts : List (ℕ × ℕ × List TimedCall)) where
  pub meeting_none : (now : SessionState) (left : List (Result (Taken C) E)) (others : List (Taken C)) → others ≡ []
      → IsTurn Vouches Ended script played now
      → AreResults Vouches Ended state scripts left → Meeting Vouches Ended state script played scripts now left others
  meeting_none now left others none t h = record {
    done = scripts;
    tail = [];
    split = sym (append-nil scripts);
    leads = t;
    rest = h;
    taken = subst (λ (l : List (Taken C)). AreTaken Vouches Ended state [] (reverse l)) (sym none) tt;
    seen = subst (λ (l : List (Taken C)). HaveSeen state (reverse l) now.knows.seen) (sym none) tt;
  }

  pub meeting_more : (old new : SessionState) (left rest : List (Result (Taken C) E)) (others grown : List (Taken C)) (other met : Taken C)
      → left ≡ rest ++ Ok other ∷ [] → grown ≡ others ++ met ∷ [] → met.played ≡ other.played
      → MeetKeeps old (state other.client) new (state met.client) → Meeting Vouches Ended state script played scripts old left others
      → Meeting Vouches Ended state script played scripts new rest grown
  meeting_more old new left rest others grown other met is grows same m h =
      let last = results_last Vouches Ended state h.done rest (Ok other)
      (subst (λ (l : List (Result (Taken C) E)). AreResults Vouches Ended state h.done l) is h.rest) in
      let back : reverse grown ≡ met ∷ reverse others = ap reverse grows ∙ reverse_more others met in
      let there : IsTurn Vouches Ended last.1 other.played (state met.client) =
      met_second Vouches Ended last.1 other.played old (state other.client) new (state met.client) last.4 h.leads.vouched m in
      record {
        done = last.0;
        tail = last.1 ∷ h.tail;
        split =
            h.split ∙ ap (λ (l : List (ℕ × ℕ × List TimedCall)). l ++ h.tail) last.2 ∙ append_assoc last.0 (last.1 ∷ []) h.tail;
        leads = met_first Vouches Ended script played old (state other.client) new (state met.client) h.leads last.4.vouched m;
        rest = last.3;
        taken = subst (λ (l : List (Taken C)). AreTaken Vouches Ended state (last.1 ∷ h.tail) l) (sym back)
            (subst (λ (p : Played). IsTurn Vouches Ended last.1 p (state met.client)) (sym same) there, h.taken);
        seen = subst (λ (l : List (Taken C)). HaveSeen state l new.knows.seen) (sym back) (
          subst (λ (seen : List Mark). IsBeginning (state met.client).knows.seen seen) (sym m.same)
              (begins_self (state met.client).knows.seen),
          seen_further Vouches Ended state (reverse others) old.knows.seen new.knows.seen m.first.learns.beginning h.seen,
        );
      }

  pub meeting_all : (now : SessionState) (left : List (Result (Taken C) E)) (others : List (Taken C)) → left ≡ []
      → Meeting Vouches Ended state script played scripts now left others
      → IsTurn Vouches Ended script played now × AreTaken Vouches Ended state scripts (reverse others)
      × HaveSeen state (reverse others) now.knows.seen
  meeting_all now left others none h =
      let all : scripts ≡ h.tail =
      h.split ∙ ap (λ (l : List (ℕ × ℕ × List TimedCall)). l ++ h.tail) (results_none Vouches Ended state h.done left none h.rest) in
      (h.leads, subst (λ (l : List (ℕ × ℕ × List TimedCall)). AreTaken Vouches Ended state l (reverse others)) (sym all) h.taken, h.seen)

-- ---- sessions that meet one again, from the first on, and end

-- what was met so far, and what is left
pub record Ending {C : Type 0} (Vouches Ended : List Mark → Type 0) (state : C → SessionState) (script : ℕ × ℕ × List TimedCall)
    (played : Played)
    (scripts : List (ℕ × ℕ × List TimedCall)) (seen : List Mark) (now : SessionState) (left : List (Taken C))
    (all : List Played) : Type 0 where
  pub done : List (ℕ × ℕ × List TimedCall)
  pub tail : List (ℕ × ℕ × List TimedCall)
  pub split : scripts ≡ done ++ tail
  pub leads : IsTurn Vouches Ended script played now
  pub same : now.knows.seen ≡ seen
  pub each : EachIn Vouches Ended seen done all
  pub taken : AreTaken Vouches Ended state tail (reverse left)
  pub begun : HaveSeen state (reverse left) seen

module _ {C : Type 0} (Vouches Ended : List Mark → Type 0) (state : C → SessionState) (script : ℕ × ℕ × List TimedCall) (played : Played)
    (scripts : List (ℕ × ℕ × List TimedCall)) where
  pub ending_none : (now : SessionState) (left : List (Taken C)) (all : List Played) → all ≡ [] → IsTurn Vouches Ended script played now
      → AreTaken Vouches Ended state scripts (reverse left) → HaveSeen state (reverse left) now.knows.seen
      → Ending Vouches Ended state script played scripts now.knows.seen now left all
  ending_none now left all none t taken seen = record {
    done = [];
    tail = scripts;
    split = refl;
    leads = t;
    same = refl;
    each = subst (λ (l : List Played). EachIn Vouches Ended now.knows.seen [] l) (sym none) tt;
    taken = taken;
    begun = seen;
  }

  -- the first of those that stand in reverse
  taken_first : (tail : List (ℕ × ℕ × List TimedCall)) (t : Taken C) (rest : List (Taken C)) → AreTaken Vouches Ended state tail (t ∷ rest)
      → (s : ℕ × ℕ × List TimedCall) × (more : List (ℕ × ℕ × List TimedCall)) × (tail ≡ s ∷ more)
      × IsTurn Vouches Ended s t.played (state t.client)
      × AreTaken Vouches Ended state more rest
  taken_first [] t rest h = absurd h
  taken_first (s ∷ more) t rest h = (s, more, refl, h.0, h.1)

  taken_none : (tail : List (ℕ × ℕ × List TimedCall)) → AreTaken Vouches Ended state tail [] → tail ≡ []
  taken_none [] h = refl
  taken_none (s ∷ more) h = absurd h

  pub ending_more : (seen : List Mark) (old new : SessionState) (left rest : List (Taken C)) (all grown : List Played) (other : Taken C)
      (met : SessionState)
      → left ≡ rest ++ other ∷ [] → grown ≡ all ++ other.played ∷ [] → MeetKeeps old (state other.client) new met
      → Ending Vouches Ended state script played scripts seen old left all
      → Ending Vouches Ended state script played scripts seen new rest grown
  ending_more seen old new left rest all grown other met is grows m h =
      let back : reverse left ≡ other ∷ reverse rest = ap reverse is ∙ reverse_more rest other in
      let first = taken_first h.tail other (reverse rest)
      (subst (λ (l : List (Taken C)). AreTaken Vouches Ended state h.tail l) back h.taken) in
      let begun = subst (λ (l : List (Taken C)). HaveSeen state l seen) back h.begun in
      let begins : IsBeginning (state other.client).knows.seen old.knows.seen =
      subst (λ (s : List Mark). IsBeginning (state other.client).knows.seen s) (sym h.same) begun.0 in
      let stays : new.knows.seen ≡ old.knows.seen =
      longer_is old.knows.seen (state other.client).knows.seen new.knows.seen m.longer begins in
      let there : IsTurn Vouches Ended first.0 other.played met =
      met_second Vouches Ended first.0 other.played old (state other.client) new met first.3 h.leads.vouched m in
      record {
        done = h.done ++ first.0 ∷ [];
        tail = first.1;
        split =
            h.split ∙ ap (λ (l : List (ℕ × ℕ × List TimedCall)). h.done ++ l) first.2 ∙ sym (append_assoc h.done (first.0 ∷ []) first.1);
        leads = met_first Vouches Ended script played old (state other.client) new met h.leads first.3.vouched m;
        same = stays ∙ h.same;
        each = subst (λ (l : List Played). EachIn Vouches Ended seen (h.done ++ first.0 ∷ []) l) (sym grows)
            (each_more Vouches Ended state seen h.done all first.0 other.played met h.each there (sym m.same ∙ stays ∙ h.same));
        taken = first.4;
        begun = begun.1;
      }

  pub ending_all : (seen : List Mark) (now : SessionState) (left : List (Taken C)) (all : List Played) → left ≡ []
      → Ending Vouches Ended state script played scripts seen now left all
      → IsTurn Vouches Ended script played now × EachIn Vouches Ended now.knows.seen scripts all
  ending_all seen now left all none h =
      let over : h.tail ≡ [] =
      taken_none h.tail (subst (λ (l : List (Taken C)). AreTaken Vouches Ended state h.tail (reverse l)) none h.taken) in
      let all_of : scripts ≡ h.done = h.split ∙ ap (λ (l : List (ℕ × ℕ × List TimedCall)). h.done ++ l) over ∙ append-nil h.done in (
        h.leads,
        subst (λ (s : List Mark). EachIn Vouches Ended s scripts all) (sym h.same)
            (subst (λ (l : List (ℕ × ℕ × List TimedCall)). EachIn Vouches Ended seen l all) (sym all_of) h.each),
      )

-- a list from which nothing was taken is empty
pub none_popped : {X : Type 0} (old new : List X) (count : ℕ) → old ≡ new ++ [] → count ≡ 0 → new ≡ take (count - 1) old → old ≡ []
none_popped old new count items zero rest = items ∙ append-nil new ∙ rest ∙ ap (λ (n : ℕ). take (n - 1) old) zero

no_scripts : (done : List (ℕ × ℕ × List TimedCall)) (script : ℕ × ℕ × List TimedCall) → done ++ script ∷ [] ≡ [] → ⊥
no_scripts done script none = let l = ap length none in omega (arith, l, length-append done (script ∷ []))

-- ---- all of them

module _ {C E : Type 0} (Vouches Ended : List Mark → Type 0) (state : C → SessionState) where
  -- a result for each, from what is said of each by its index
  pub results_of : (turns : List (Turn C)) (results : List (Result (Taken C) E)) → length results ≡ length turns
      → ((i : ℕ) (t : Turn C) (r : Result (Taken C) E) → i < length turns
      → IsTaken Vouches Ended state (asked state (slice_index_or turns i t)) (slice_index_or results i r))
      → AreResults Vouches Ended state (map (asked state) turns) results
  results_of [] [] same each = tt
  results_of [] (r ∷ results) same each = absurd (omega (arith, same))
  results_of (t ∷ turns) [] same each = absurd (omega (arith, same))
  results_of (t ∷ turns) (r ∷ results) same each = (
    each 0 t r (omega arith),
    results_of turns results (omega (arith, same)) (λ i d e inside. each (suc i) d e (omega (arith, inside))),
  )

  -- there was none
  pub none_played : (scripts : List (ℕ × ℕ × List TimedCall)) (results : List (Result (Taken C) E)) (played : List Played) → results ≡ []
      → played ≡ []
      → AreResults Vouches Ended state scripts results → ArePlayed Vouches Ended scripts played []
  none_played scripts results played none empty h =
      let same : scripts ≡ [] = results_none Vouches Ended state scripts results none h in
      record {
        each = subst (λ (l : List (ℕ × ℕ × List TimedCall)). EachIn Vouches Ended [] l played) (sym same)
            (subst (λ (l : List Played). EachIn Vouches Ended [] [] l) (sym empty) tt);
        none = λ is. refl;
      }

  -- all met the last one, twice
  pub all_played : (scripts : List (ℕ × ℕ × List TimedCall)) (results rest : List (Result (Taken C) E)) (last : Taken C)
      (met ended : SessionState)
      (others : List (Taken C)) (all grown : List Played) → results ≡ rest ++ Ok last ∷ [] → grown ≡ all ++ last.played ∷ []
      → AreResults Vouches Ended state scripts results → HaveMet Vouches Ended state (state last.client) rest met others
      → HaveEnded Vouches Ended state met others ended all → ArePlayed Vouches Ended scripts grown ended.knows.seen
  all_played scripts results rest last met ended others all grown is grows h first second =
      let parts = results_last Vouches Ended state scripts rest (Ok last)
      (subst (λ (l : List (Result (Taken C) E)). AreResults Vouches Ended state scripts l) is h) in
      let one = first parts.1 last.played parts.0 parts.4 parts.3 in
      let two = second parts.1 last.played parts.0 one.0 one.1 one.2 in
      record {
        each = subst (λ (l : List (ℕ × ℕ × List TimedCall)). EachIn Vouches Ended ended.knows.seen l grown) (sym parts.2)
            (subst (λ (l : List Played). EachIn Vouches Ended ended.knows.seen (parts.0 ++ parts.1 ∷ []) l) (sym grows)
            (each_more Vouches Ended state ended.knows.seen parts.0 all parts.1 last.played ended two.1 two.0 refl));
        none = λ no. absurd (no_scripts parts.0 parts.1 (sym parts.2 ∙ no));
      }
