-- Loads of the tally and marks added to the record keep the rule, and tell what they say.
use Rattle.std.proofs.Common.{◌≡◌, ◌≢◌, ℕ, zero, suc, ◌+◌, ◌%◌, ◌^◌, ◌<◌, ◌≤◌, ◌⊎◌, true, false, List, [], ◌∷◌, length, set, slice_index, slice_set, Some, refl, ap, sym, ◌∙◌, subst, inl, inr, ⊎_elim, arith, zero-le}
use Rattle.std.proofs.Math.Nat.{mod-add-mod}
use mathlib.Core.Option.{some, none, some-injective, some-ne-none}
use lib.ListN.{get_elem?}
use Rattle.atomic_table.specs.Table.{State, Me, keeps, step, Allows}
use Rattle.atomic_table.proofs.Lists.{at_set}
use Rattle.records.specs.Marks.{Mark, is_counted, counted, gave_up, IsBeginning}
use Rattle.records.specs.LegalLaws.{is_call}
use Rattle.records.specs.Session.{calls_of, tally_of, went_on}
use Rattle.board.specs.View.{View, opener, is_used}
use Rattle.board.specs.Rule.{BoardState, words_of, DeviceIs, KeepsRecord, HasNumber, Fits, Kept}
use Rattle.board.specs.Steps.{SessionLearns, SeesMore, Looked, IsEvent, IsCallOf, OwnsCalls, Noted, Called}
use Rattle.board.proofs.Records.{begins_self, begins_with, begins_length, between, skips, no_later_call, uncounted_is_no_call, counts_one, counts_none, call_counts, call_is_own, call_is_no_other, gave_up_with, call_goes_on}
use Rattle.board.proofs.Lists.{new_at}

-- a board that keeps the rule, as the steps of a table see it
abbrev pub Ruled : {S : Type 0} → State S View → Type 0
Ruled s = Kept s.words s.views

-- no two seats have one number
pub apart : (words : List ℕ) (views : List View) (i j n : ℕ) (v w : View) → Kept words views → get_elem? views i ≡ some v → get_elem? views j ≡ some w
    → v.number ≡ Some n → w.number ≡ Some n → i ≡ j
apart words views i j n v w k e e' is is' = sym ((k.fits i v e).number n is).owner ∙ ((k.fits j w e').number n is').owner

-- one seat's view changes, and the words
pub moved : (words words' : List ℕ) (views : List View) (id : ℕ) (v w : View) (k : Kept words views) (b : BoardState)
    → b.owner ≡ k.board.owner → b.used ≡ k.board.used → get_elem? views id ≡ some v → w.number ≡ v.number
    → words' ≡ words_of b → DeviceIs b → b.generation < 2 ^ 32 → length b.editions < 2 ^ 64
    → ((j : ℕ) (u : View) → get_elem? views j ≡ some u → j ≢ id → Fits b j u) → Fits b id w → Kept words' (set views id w)
moved words words' views id v w k b owners uses at same eq device small few others own = record {
  board = b;
  words_are = eq;
  device = device;
  small = small;
  few = few;
  fits = λ j u e.
      ⊎_elim
      (λ t. let is : j ≡ id = t.0 in let wu : w ≡ u = t.1 in
      subst (λ (x : View). Fits b j x) wu (subst (λ (i : ℕ). Fits b i w) (sym is) own))
      (λ t. others j u t.1 t.0) (at_set views id j w u e);
  held = λ n h.
      let o = k.held n (ap (is_used n) (sym uses) ∙ h) in
      let t = new_at (λ (x : View). x.number) views id (k.board.owner n) v w o.0 at same o.1 in
      (t.0, subst (λ (f : ℕ → ℕ). get_elem? (set views id w) (f n) ≡ some t.0) (sym owners) t.1, t.2 ∙ o.2);
}

-- what a seat knows under a larger generation and a larger pulse
pub risen : (b : BoardState) (generation pulse id : ℕ) (v : View) → b.generation ≤ generation → b.pulse ≤ pulse → Fits b id v
    → Fits (record b { generation = generation; pulse = pulse }) id v
risen b generation pulse id v up up' f = record {
  seen = f.seen;
  told = f.told;
  keeper = λ r. let h = f.keeper r in record { seat = h.seat; all = h.all; used = h.used; given_up = h.given_up };
  number = λ n e. let h = f.number n e in record { owner = h.owner; used = h.used; place = h.place; session = h.session; all = h.all };
  generation = let h = f.generation in omega arith;
  pulse = let h = f.pulse in omega arith;
  edition = f.edition;
  heard = f.heard;
}

-- a seat that has seen the whole record
pub seen_more : (b : BoardState) (id : ℕ) (v : View) → Fits b id v → Fits b id (record v { seen = b.marks })
seen_more b id v f = record {
  seen = begins_self b.marks;
  told = f.told;
  keeper = λ r. let h = f.keeper r in record { seat = h.seat; all = refl; used = h.used; given_up = h.given_up };
  number = λ n e. let h = f.number n e in record {
    owner = h.owner;
    used = h.used;
    place = let a = h.place in let l = begins_length v.seen b.marks f.seen in omega arith;
    session = record { beginning = begins_self b.marks; own = h.all };
    all = h.all;
  };
  generation = f.generation;
  pulse = f.pulse;
  edition = f.edition;
  heard = f.heard;
}

-- the session of a seat that has then seen a record between what it had seen and the whole
pub session_learns : (b : BoardState) (id : ℕ) (v w : View) → Fits b id v → w.place ≡ v.place → w.mine ≡ v.mine → IsBeginning v.seen w.seen → IsBeginning w.seen b.marks
    → SessionLearns v w
session_learns b id v w f place mine more less n e =
    let h = f.number n e in
    let own : v.mine ≡ calls_of n v.place w.seen = between n v.place v.mine v.seen w.seen b.marks more less h.session.own h.all in record {
      number = refl;
      place = place;
      beginning = more;
      own = mine ∙ (own ∙ ap (λ (p : ℕ). calls_of n p w.seen) (sym place));
    }

pub sees : (b : BoardState) (id : ℕ) (v : View) → Fits b id v → SeesMore v (record v { seen = b.marks })
sees b id v f = record {
  same = refl;
  beginning = f.seen;
  whole = λ r. sym (f.keeper r).all;
  session = session_learns b id v (record v { seen = b.marks }) f refl refl f.seen (begins_self b.marks);
}

-- a load of the tally
pub looks : {S : Type 0} (slots id : ℕ) (me : Me S View) → Allows {S = S} Ruled slots id me 0 (λ n. n) (Looked (step slots 0 0 0 none) me)
looks slots id me s k sized at small =
    let b = k.board in
    let f = k.fits id me.0 at in (
      record me.0 { seen = b.marks },
      keeps,
      tt,
      moved s.words (slice_set s.words 0 (slice_index s.words 0)) s.views id me.0 (record me.0 { seen = b.marks }) k b refl refl at refl
          (ap (λ (ws : List ℕ). slice_set ws 0 (slice_index ws 0)) k.words_are)
          k.device k.small k.few (λ j u e ne. k.fits j u e) (seen_more b id me.0 f),
      (refl, sees b id me.0 f, ap (λ (ws : List ℕ). slice_index ws 0) k.words_are),
    )

-- a mark more in the record, which is no call of this seat's number
pub further : (b : BoardState) (m : Mark) (id : ℕ) (v : View) → v.keeps ≢ true
    → ((n : ℕ) → v.number ≡ Some n → calls_of n v.place (m ∷ b.marks) ≡ calls_of n v.place b.marks) → Fits b id v
    → Fits (record b { marks = m ∷ b.marks }) id v
further b m id v other skip f = record {
  seen = begins_with m v.seen b.marks f.seen;
  told = begins_with m v.told b.marks f.told;
  keeper = λ r. absurd (other r);
  number = λ n e. let h = f.number n e in record {
    owner = h.owner;
    used = h.used;
    place = h.place;
    session = record { beginning = begins_with m v.seen b.marks f.seen; own = h.session.own };
    all = h.all ∙ sym (skip n e);
  };
  generation = f.generation;
  pulse = f.pulse;
  edition = f.edition;
  heard = f.heard;
}

-- the record's seat, with these calls of its guest
abbrev pub added : Mark → List Mark → View → View
added m mine v = record v { seen = m ∷ v.seen; mine = mine }

-- what is known of the number of the record's guest after a mark more
abbrev pub GuestGrows : Mark → List Mark → View → Type 0
GuestGrows m mine v = (n : ℕ) (marks : List Mark) → v.number ≡ Some n → v.place ≤ length marks → v.mine ≡ calls_of n v.place marks → mine ≡ calls_of n v.place (m ∷ marks)

grown_number : (b : BoardState) (m : Mark) (mine : List Mark) (id n : ℕ) (v : View) → v.seen ≡ b.marks → GuestGrows m mine v → v.number ≡ Some n → HasNumber b id n v
    → HasNumber (record b { marks = m ∷ b.marks }) id n (added m mine v)
grown_number b m mine id n v all grows e h =
    let grown : mine ≡ calls_of n v.place (m ∷ v.seen) = grows n v.seen e h.place h.session.own in record {
      owner = h.owner;
      used = h.used;
      place = let p = h.place in omega arith;
      session = record { beginning = record { later = []; is = ap (λ (ms : List Mark). m ∷ ms) (sym all) }; own = grown };
      all = grown ∙ ap (λ (ms : List Mark). calls_of n v.place (m ∷ ms)) all;
    }

grown_fits : (b : BoardState) (m : Mark) (mine : List Mark) (id : ℕ) (v : View) → KeepsRecord b id v → GuestGrows m mine v → Fits b id v
    → Fits (record b { marks = m ∷ b.marks }) id (added m mine v)
grown_fits b m mine id v own grows f = record {
  seen = record { later = []; is = ap (λ (ms : List Mark). m ∷ ms) (sym own.all) };
  told = begins_with m v.told b.marks f.told;
  keeper = λ r. record { seat = own.seat; all = ap (λ (ms : List Mark). m ∷ ms) own.all; used = own.used; given_up = own.given_up };
  number = λ n e. grown_number b m mine id n v own.all grows e (f.number n e);
  generation = f.generation;
  pulse = f.pulse;
  edition = f.edition;
  heard = f.heard;
}

-- what a step that adds a mark tells
abbrev pub Added : {S : Type 0} → Mark → List Mark → Me S View → ℕ → Me S View → Type 0
Added m mine v n w =
    (w.1 ≡ v.1) × (w.0 ≡ added m mine v.0) × (n ≡ tally_of v.0.seen) × IsBeginning v.0.told v.0.seen × OwnsCalls w.0

-- a mark more: the tally follows, no number but the guest's has a call more, and no call comes after a giving up before the device word is set
pub adds : {S : Type 0} (slots id : ℕ) (f' : ℕ → ℕ) (me : Me S View) (m : Mark) (mine : List Mark) → me.0.keeps ≡ true
    → ((marks : List Mark) → f' (tally_of marks) ≡ tally_of (m ∷ marks))
    → ((n place : ℕ) (marks : List Mark) → me.0.number ≢ Some n → calls_of n place (m ∷ marks) ≡ calls_of n place marks)
    → GuestGrows m mine me.0
    → ((marks : List Mark) → went_on (m ∷ marks) ≡ true → me.0.seen ≡ marks → (went_on marks ≡ true) ⊎ (me.0.given_up ≡ true))
    → Allows {S = S} Ruled slots id me 0 f' (Added m mine me)
adds slots id f' me m mine is counts skip grows after s k sized at small =
    let v : View = me.0 in
    let b = k.board in
    let f = k.fits id v at in
    let own = f.keeper is in
    let new : BoardState = record b { marks = m ∷ b.marks } in
    let w : View = added m mine v in
    let fit = grown_fits b m mine id v own grows f in (
      w,
      keeps,
      tt,
      moved s.words (slice_set s.words 0 (f' (slice_index s.words 0))) s.views id v w k new refl refl at refl
          (ap (λ (ws : List ℕ). slice_set ws 0 (f' (slice_index ws 0))) k.words_are
          ∙ ap (λ (n : ℕ). n ∷ b.generation ∷ b.device ∷ b.pulse ∷ length b.editions ∷ []) (counts b.marks))
          record {
            bit = k.device.bit;
            only = λ h. gave_up_with m b.marks (k.device.only h);
            stays = k.device.stays;
            after = λ h. ⊎_elim (λ g. k.device.after g) (λ g. sym own.given_up ∙ g) (after b.marks h own.all);
          }
          k.small k.few
          (λ j u e ne. further b m j u (λ r. ne (((k.fits j u e).keeper r).seat ∙ sym own.seat))
          (λ n is. skip n u.place b.marks (λ is'. ne (apart s.words s.views j id n u v k e at is is')))
          (k.fits j u e))
          fit,
      (
        refl,
        refl,
        ap (λ (ws : List ℕ). slice_index ws 0) k.words_are ∙ ap (λ (ms : List Mark). tally_of ms) (sym own.all),
        subst (λ (ms : List Mark). IsBeginning v.told ms) (sym own.all) f.told,
        (λ n e. (fit.number n e).session.own),
      ),
    )

-- the rest of what a step tells
pub weaker : {S : Type 0} (slots id i : ℕ) (f' : ℕ → ℕ) (me : Me S View) (told less : ℕ → Me S View → Type 0) → ((n : ℕ) (w : Me S View) → told n w → less n w)
    → Allows {S = S} Ruled slots id me i f' told → Allows {S = S} Ruled slots id me i f' less
weaker slots id i f' me told less from a s k sized at small = let r = a s k sized at small in (r.0, r.1, r.2, r.3, from _ _ r.4)

-- a mark that is no call
notes_by : {S : Type 0} (slots id a : ℕ) (f' : ℕ → ℕ) (me : Me S View) (m : Mark) → me.0.keeps ≡ true → is_call m ≡ false
    → ((marks : List Mark) → f' (tally_of marks) ≡ tally_of (m ∷ marks))
    → Allows {S = S} Ruled slots id me 0 f' (Noted m (step slots 0 a 0 none) me)
notes_by {S = S} slots id a f' me m is plain counts =
    weaker slots id 0 f' me (Added m me.0.mine me) (Noted m (step slots 0 a 0 none) me) (λ n w t. (t.0, t.1, t.2))
    (adds slots id f' me m me.0.mine is counts (λ n place marks ne. skips m plain n place marks)
    (λ n marks e le own. own ∙ sym (skips m plain n me.0.place marks)) (λ marks h all. inl (sym (no_later_call m plain marks) ∙ h)))

tally_one : (m : Mark) → is_counted m ≡ true → (marks : List Mark) → (tally_of marks + 1) % 2 ^ 64 ≡ tally_of (m ∷ marks)
tally_one m is marks = mod-add-mod (counted marks) (2 ^ 64) 1 ∙ ap (λ (n : ℕ). n % 2 ^ 64) (sym (counts_one m marks is))

-- one counted mark that is no call
pub notes : {S : Type 0} (slots id : ℕ) (me : Me S View) (m : Mark) → me.0.keeps ≡ true → IsEvent m
    → Allows {S = S} Ruled slots id me 0 (λ n. (n + 1) % 2 ^ 64) (Noted m (step slots 0 1 0 none) me)
notes slots id me m is event = notes_by slots id 1 (λ n. (n + 1) % 2 ^ 64) me m is event.no_call (tally_one m event.counts)

-- one mark that isn't counted
pub notes_uncounted : {S : Type 0} (slots id : ℕ) (me : Me S View) (m : Mark) → me.0.keeps ≡ true → is_counted m ≡ false
    → Allows {S = S} Ruled slots id me 0 (λ n. n) (Noted m (step slots 0 0 0 none) me)
notes_uncounted slots id me m is plain =
    notes_by slots id 0 (λ n. n) me m is (uncounted_is_no_call m plain) (λ marks. ap (λ (n : ℕ). n % 2 ^ 64) (sym (counts_none m marks plain)))

-- a call of the guest
pub calls : {S : Type 0} (slots id : ℕ) (me : Me S View) (m : Mark) → me.0.keeps ≡ true → IsCallOf me.0.number m
    → (gave_up me.0.seen ≡ true → me.0.given_up ≡ true)
    → Allows {S = S} Ruled slots id me 0 (λ n. (n + 1) % 2 ^ 64) (Called m (step slots 0 1 0 none) me)
calls slots id me m is call living =
    adds slots id (λ n. (n + 1) % 2 ^ 64) me m (m ∷ me.0.mine) is (tally_one m (call_counts m me.0.number call))
    (λ n place marks ne. call_is_no_other m me.0.number call n place marks ne)
    (λ n marks e le own. ap (λ (ms : List Mark). m ∷ ms) own ∙ sym (call_is_own m me.0.number call n me.0.place marks e le))
    (λ marks h all. inr (living (ap gave_up all ∙ call_goes_on m me.0.number call marks h)))

-- the rule at the start
pub starts : Kept (0 ∷ 0 ∷ 0 ∷ 0 ∷ 0 ∷ []) (opener ∷ [])
starts = record {
  board = first;
  words_are = refl;
  device = record { bit = omega arith; only = λ h. absurd (omega arith); stays = λ h. cc; after = λ h. cc };
  small = omega arith;
  few = omega arith;
  held = λ n h. absurd cc;
  fits = starts_fits;
}
  where
    first : BoardState
    first = record { keeper = 0; owner = λ n. 0; marks = []; used = []; given_up = false; generation = 0; device = 0; pulse = 0; editions = [] }

    starts_fits : (id : ℕ) (v : View) → get_elem? (opener ∷ []) id ≡ some v → Fits first id v
    starts_fits zero v e = subst (λ (x : View). Fits first 0 x) (some-injective opener v e) record {
      seen = begins_self [];
      told = begins_self [];
      keeper = λ r. record { seat = refl; all = refl; used = refl; given_up = refl };
      number = λ n is. absurd cc;
      generation = zero-le;
      pulse = zero-le;
      edition = tt;
      heard = tt;
    }
    starts_fits (suc i) v e = absurd (some-ne-none v (sym e))
