-- One call after others, in a session.
use Rattle.std.proofs.Common.{◌≡◌, ℕ, ◌+◌, ◌<◌, get_or, take, List, [], ◌∷◌, ◌++◌, length, Bool, true, false, refl, sym, ap, ◌∙◌, arith}
use Rattle.std.proofs.Common.{length-append, subst}
use Rattle.std.proofs.lemmas.List.{take_more}
use Rattle.tree.specs.declared.Who.{Who}
use Rattle.tree.specs.declared.Outcome.{Outcome}
use Rattle.tree.specs.declared.Outcome.TheVariants.{Reply, Cut}
use Rattle.records.specs.Marks.{Mark}
use Rattle.records.specs.Session.{SessionState, caller_of}
use Rattle.call_text.specs.declared.scripts.timed.TimedCall.{TimedCall}
use Rattle.tools.specs.Made.{call_made, calls_made, cuts, some_cut, all_cut, cuts_last, Plays, Calls}
use Rattle.tools.proofs.Later.{goes_later, later_self, later_through}

-- one call more
calls_made-more : (who : Who) (calls : List TimedCall) (outcomes : List Outcome) (timed : TimedCall) (outcome : Outcome) (older : List Mark)
    → length outcomes ≡ length calls
    → calls_made who (calls ++ timed ∷ []) (outcomes ++ outcome ∷ []) older
    ≡ call_made who timed.time timed.call outcome (calls_made who calls outcomes older)
calls_made-more who [] [] timed outcome older same = refl
calls_made-more who [] (o ∷ outcomes) timed outcome older same = absurd (omega arith)
calls_made-more who (t ∷ calls) [] timed outcome older same = absurd (omega arith)
calls_made-more who (t ∷ calls) (o ∷ outcomes) timed outcome older same = calls_made-more who calls outcomes timed outcome _ (omega arith)

all_cut-more : (outcomes : List Outcome) → all_cut outcomes ≡ true → all_cut (outcomes ++ Cut ∷ []) ≡ true
all_cut-more [] h = refl
all_cut-more (Cut ∷ outcomes) h = all_cut-more outcomes h
all_cut-more (Reply r ∷ outcomes) h = h

cuts_last-cut : (outcomes : List Outcome) → cuts_last outcomes ≡ true → cuts_last (outcomes ++ Cut ∷ []) ≡ true
cuts_last-cut [] h = refl
cuts_last-cut (Cut ∷ outcomes) h = all_cut-more outcomes h
cuts_last-cut (Reply r ∷ outcomes) h = cuts_last-cut outcomes h

cuts_last-reply : (outcomes : List Outcome) (r : _) → some_cut outcomes ≡ false → cuts_last (outcomes ++ Reply r ∷ []) ≡ true
cuts_last-reply [] r none = refl
cuts_last-reply (Cut ∷ outcomes) r none = cc
cuts_last-reply (Reply s ∷ outcomes) r none = cuts_last-reply outcomes r none

some_cut-cut : (outcomes : List Outcome) → some_cut (outcomes ++ Cut ∷ []) ≡ true
some_cut-cut [] = refl
some_cut-cut (Cut ∷ outcomes) = refl
some_cut-cut (Reply r ∷ outcomes) = some_cut-cut outcomes

some_cut-reply : (outcomes : List Outcome) (r : _) → some_cut (outcomes ++ Reply r ∷ []) ≡ some_cut outcomes
some_cut-reply [] r = refl
some_cut-reply (Cut ∷ outcomes) r = refl
some_cut-reply (Reply s ∷ outcomes) r = some_cut-reply outcomes r

module _ (Vouches Ended : List Mark → Type 0) (old : SessionState) where
  -- no call was made
  pub plays_none : Plays Vouches Ended old [] [] old
  plays_none = record { later = later_self old; each = refl; cuts_last = refl; mine = refl; vouched = λ v. v; ended = λ is. absurd (cc) }

  module _ (mid new : SessionState) (calls : List TimedCall) (outcomes : List Outcome) (timed : TimedCall)
      (plays : Plays Vouches Ended old calls outcomes mid) where
    counts_more : (outcome : Outcome) → length (outcomes ++ outcome ∷ []) ≡ length (calls ++ timed ∷ [])
    counts_more outcome = omega (arith, length-append outcomes (outcome ∷ []), length-append calls (timed ∷ []), plays.each)

    -- a call more
    called : (outcome : Outcome) → cuts_last (outcomes ++ outcome ∷ []) ≡ true
        → (some_cut (outcomes ++ outcome ∷ []) ≡ true → cuts outcome ≡ true)
        → Calls Vouches Ended mid false timed outcome new → Plays Vouches Ended old (calls ++ timed ∷ []) (outcomes ++ outcome ∷ []) new
    called outcome last only c = record {
      later = later_through old mid new plays.later (goes_later mid new (c.goes_on refl));
      each = counts_more outcome;
      cuts_last = last;
      mine =
          c.mine refl ∙ ap (λ (who : Who). call_made who timed.time timed.call outcome mid.knows.mine) plays.later.caller
          ∙ ap (λ (older : List Mark). call_made (caller_of old) timed.time timed.call outcome older) plays.mine
          ∙ sym (calls_made-more (caller_of old) calls outcomes timed outcome old.knows.mine plays.each);
      vouched = λ v. c.vouched refl;
      ended = λ is. c.ended refl (only is);
    }

    plays_called : (outcome : Outcome) → some_cut outcomes ≡ false → Calls Vouches Ended mid false timed outcome new
        → Plays Vouches Ended old (calls ++ timed ∷ []) (outcomes ++ outcome ∷ []) new
    plays_called (Reply r) none c = called (Reply r) (cuts_last-reply outcomes r none)
        (λ is. sym none ∙ sym (some_cut-reply outcomes r) ∙ is) c
    plays_called Cut none c = called Cut (cuts_last-cut outcomes plays.cuts_last) (λ is. refl) c

    -- a call that wasn't made, since an earlier one was cut
    plays_cut : (outcome : Outcome) → true ≡ some_cut outcomes → Calls Vouches Ended mid true timed outcome new
        → Plays Vouches Ended old (calls ++ timed ∷ []) (outcomes ++ outcome ∷ []) new
    plays_cut outcome was c =
        let both = c.after_cut refl in
        subst (λ (o : Outcome). Plays Vouches Ended old (calls ++ timed ∷ []) (outcomes ++ o ∷ []) new) (sym both.0)
        (subst (λ (s : SessionState). Plays Vouches Ended old (calls ++ timed ∷ []) (outcomes ++ Cut ∷ []) s) (sym both.1) (record {
          later = plays.later;
          each = counts_more Cut;
          cuts_last = cuts_last-cut outcomes plays.cuts_last;
          mine = plays.mine ∙ sym (calls_made-more (caller_of old) calls outcomes timed Cut old.knows.mine plays.each);
          vouched = plays.vouched;
          ended = λ is. plays.ended (sym was);
        }))

    pub plays_more : (cut : Bool) (outcome : Outcome) → cut ≡ some_cut outcomes → Calls Vouches Ended mid cut timed outcome new
        → Plays Vouches Ended old (calls ++ timed ∷ []) (outcomes ++ outcome ∷ []) new
    plays_more true outcome is c = plays_cut outcome is c
    plays_more false outcome is c = plays_called outcome (sym is) c

-- from the first that is cut on all are, so the last tells whether one was
pub cut_more : (Vouches Ended : List Mark → Type 0) (mid new : SessionState) (outcomes : List Outcome) (timed : TimedCall) (cut : Bool)
    (outcome : Outcome)
    → cut ≡ some_cut outcomes → Calls Vouches Ended mid cut timed outcome new → cuts outcome ≡ some_cut (outcomes ++ outcome ∷ [])
cut_more Vouches Ended mid new outcomes timed cut Cut is c = sym (some_cut-cut outcomes)
cut_more Vouches Ended mid new outcomes timed true (Reply r) is c = let no = (c.after_cut refl).0 in cc
cut_more Vouches Ended mid new outcomes timed false (Reply r) is c = is ∙ sym (some_cut-reply outcomes r)

-- the next of the calls
pub plays_next : (Vouches Ended : List Mark → Type 0) (old mid new : SessionState) (calls : List TimedCall) (i : ℕ) (d : TimedCall)
    (outcomes : List Outcome) → i < length calls
    → Plays Vouches Ended old (take i calls) outcomes mid → (cut : Bool) (outcome : Outcome) → cut ≡ some_cut outcomes
    → Calls Vouches Ended mid cut (get_or calls i d) outcome new
    → Plays Vouches Ended old (take (i + 1) calls) (outcomes ++ outcome ∷ []) new
plays_next Vouches Ended old mid new calls i d outcomes inside plays cut outcome is c =
    subst (λ (cs : List TimedCall). Plays Vouches Ended old cs (outcomes ++ outcome ∷ []) new) (sym (take_more calls i d inside))
    (plays_more Vouches Ended old mid new (take i calls) outcomes (get_or calls i d) plays cut outcome is c)
