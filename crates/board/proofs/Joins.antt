-- Each cut of a view and each join of two keeps the rule.
use Rattle.std.proofs.Common.{◌≡◌, ◌≢◌, ℕ, true, false, List, [], ◌∷◌, ◌++◌, length, set, Some, None, refl, ap, sym, ◌∙◌, subst, ⊎_elim, arith, le_refl, zero-le}
use Rattle.std.proofs.lemmas.List.{length-set}
use Rattle.std.proofs.Math.Nat.{max-le}
use mathlib.Core.Option.{some, some-injective}
use lib.ListN.{get_elem?}
use Rattle.atomic_table.specs.Table.{Splits, Joins}
use Rattle.atomic_table.proofs.Lists.{set_else, at_longer, at_last}
use Rattle.records.specs.Marks.{Mark, IsBeginning}
use Rattle.records.specs.Session.{calls_of, IsNewSession, LearnsMore, IsLonger}
use Rattle.board.specs.View.{View, session_of, nobody, is_used, without, other_of, new_caller, with_used, hosting, alone, guest_of, spending, telling, hearing, called, caller_after}
use Rattle.board.specs.Rule.{BoardState, HasNumber, Fits, Kept}
use Rattle.message.specs.declared.Incoming.{Incoming}
use Rattle.message.specs.declared.Incoming.TheVariants as incoming
use Rattle.board.specs.Words.{mark_of}
use Rattle.board.specs.Steps.{SessionLearns, IsEvent, OwnsCalls, Meets, SessionsMeet, SessionIsNew}
use Rattle.board.proofs.Records.{begins_self, begins_all, begins_with, begins_length, calls_none}
use Rattle.board.proofs.Lists.{at_parted, at_joined, at_here, new_at, shift, shift_here, shift_else, is_number, used_here, used_more, used_rest, used_without, used_left}
use Rattle.board.proofs.Moves.{Ruled, apart}
use Rattle.board.proofs.Editions.{heard_fits}

-- the same board, with these numbers in use and these seats of theirs
abbrev pub numbered : BoardState → (ℕ → ℕ) → List ℕ → BoardState
numbered b owner used = record b { owner = owner; used = used }

-- each number in use is that of a seat
abbrev pub Held : (ℕ → ℕ) → List ℕ → List View → Type 0
Held owner used views = (n : ℕ) → is_used n used ≡ true → (v : View) × (get_elem? views (owner n) ≡ some v) × (v.number ≡ Some n)

-- one seat's view changes, and a seat comes
pub parted : (words : List ℕ) (views : List View) (id : ℕ) (l r : View) (owner : ℕ → ℕ) (used : List ℕ) (k : Kept words views)
    → Held owner used (set views id l ++ r ∷ [])
    → ((j : ℕ) (u : View) → get_elem? views j ≡ some u → j ≢ id → Fits (numbered k.board owner used) j u)
    → Fits (numbered k.board owner used) id l → Fits (numbered k.board owner used) (length views) r
    → Kept words (set views id l ++ r ∷ [])
parted words views id l r owner used k hold others fl fr = record {
  board = numbered k.board owner used;
  words_are = k.words_are;
  device = record { bit = k.device.bit; only = k.device.only; stays = k.device.stays; after = k.device.after };
  small = k.small;
  few = k.few;
  held = hold;
  fits = λ j u e.
      let F : ℕ → View → Type 0 = λ i x. Fits (numbered k.board owner used) i x in
      ⊎_elim (λ t. subst (λ (x : View). F j x) t.1 (subst (λ (i : ℕ). F i l) (sym t.0) fl))
      (λ h. ⊎_elim (λ t. others j u t.1 t.0) (λ t. subst (λ (x : View). F j x) t.1 (subst (λ (i : ℕ). F i r) (sym t.0) fr)) h)
      (at_parted views id j l r u e);
}

-- two seats' views change
pub joined : (words : List ℕ) (views : List View) (id other : ℕ) (a c : View) (owner : ℕ → ℕ) (used : List ℕ) (k : Kept words views)
    → Held owner used (set (set views id a) other c)
    → ((j : ℕ) (u : View) → get_elem? views j ≡ some u → j ≢ id → j ≢ other → Fits (numbered k.board owner used) j u)
    → Fits (numbered k.board owner used) id a → Fits (numbered k.board owner used) other c
    → Kept words (set (set views id a) other c)
joined words views id other a c owner used k hold others fa fc = record {
  board = numbered k.board owner used;
  words_are = k.words_are;
  device = record { bit = k.device.bit; only = k.device.only; stays = k.device.stays; after = k.device.after };
  small = k.small;
  few = k.few;
  held = hold;
  fits = λ j u e.
      let F : ℕ → View → Type 0 = λ i x. Fits (numbered k.board owner used) i x in
      ⊎_elim (λ t. subst (λ (x : View). F j x) t.1 (subst (λ (i : ℕ). F i a) (sym t.0) fa))
      (λ h. ⊎_elim (λ t. others j u t.2 t.0 t.1) (λ t. subst (λ (x : View). F j x) t.1 (subst (λ (i : ℕ). F i c) (sym t.0) fc)) h)
      (at_joined views id other j a c u e);
}

-- a seat that was spent knows nothing
pub nobody_fits : (b : BoardState) (id : ℕ) → Fits b id nobody
nobody_fits b id = record {
  seen = begins_all b.marks;
  told = begins_all b.marks;
  keeper = λ r. absurd cc;
  number = λ n e. absurd cc;
  generation = zero-le;
  pulse = zero-le;
  edition = tt;
  heard = tt;
}

-- a seat that has seen as much, and has no number
pub other_fits : (b : BoardState) (owner : ℕ → ℕ) (used : List ℕ) (id new : ℕ) (v : View) → Fits b id v → Fits (numbered b owner used) new (other_of v)
other_fits b owner used id new v f = record {
  seen = f.seen;
  told = begins_all b.marks;
  keeper = λ r. absurd cc;
  number = λ n e. absurd cc;
  generation = f.generation;
  pulse = f.pulse;
  edition = f.edition;
  heard = tt;
}

-- what is so of a seat's number where it keeps its seat
pub same_number : (b : BoardState) (owner : ℕ → ℕ) (used : List ℕ) (id n : ℕ) (v : View) → (owner n ≡ b.owner n) × (is_used n used ≡ true) → HasNumber b id n v
    → HasNumber (numbered b owner used) id n v
same_number b owner used id n v stay h = record { owner = stay.0 ∙ h.owner; used = stay.1; place = h.place; session = h.session; all = h.all }

-- what is so of a seat, not the record's, whose number keeps its seat
pub kept_by : (b : BoardState) (owner : ℕ → ℕ) (used : List ℕ) (id : ℕ) (v : View) → v.keeps ≢ true
    → ((n : ℕ) → v.number ≡ Some n → is_used n b.used ≡ true → (owner n ≡ b.owner n) × (is_used n used ≡ true))
    → Fits b id v → Fits (numbered b owner used) id v
kept_by b owner used id v other stay f = record {
  seen = f.seen;
  told = f.told;
  keeper = λ r. absurd (other r);
  number = λ n e. let h = f.number n e in same_number b owner used id n v (stay n e h.used) h;
  generation = f.generation;
  pulse = f.pulse;
  edition = f.edition;
  heard = f.heard;
}

-- a further seat without a number
pub copies : {S : Type 0} (id : ℕ) (v : View) → Splits {S = S} Ruled id v v (other_of v)
copies id v s k at =
    let b = k.board in
    let f = k.fits id v at in
    parted s.words s.views id v (other_of v) b.owner b.used k
    (λ n h.
    let o = k.held n h in
    let t = new_at (λ (x : View). x.number) s.views id (b.owner n) v v o.0 at refl o.1 in
    (t.0, at_longer (set s.views id v) (other_of v ∷ []) (b.owner n) t.0 t.1, t.2 ∙ o.2))
    (λ j u e ne. k.fits j u e) f (other_fits b b.owner b.used id (length s.views) v f)

-- the seat of a new number
fresh_number : (b : BoardState) (owner : ℕ → ℕ) (used : List ℕ) (id n m : ℕ) (v : View) → v.seen ≡ b.marks → n ≡ m → owner m ≡ id → is_used m used ≡ true
    → HasNumber (numbered b owner used) id m (new_caller n v)
fresh_number b owner used id n m v all same there in_use = record {
  owner = there;
  used = in_use;
  place = le_refl (length v.seen);
  session = record { beginning = record { later = []; is = sym all }; own = sym (calls_none m v.seen) };
  all = sym (ap (λ (ms : List Mark). calls_of m (length ms) b.marks) all ∙ calls_none m b.marks);
}

-- a further seat with a number
pub gives : {S : Type 0} (id n : ℕ) (v : View) → v.keeps ≡ true → is_used n v.used ≡ false → Splits {S = S} Ruled id v (with_used n v) (new_caller n v)
gives id n v is fresh s k at =
    let b = k.board in
    let f = k.fits id v at in
    let own = f.keeper is in
    let new : ℕ = length s.views in
    let owner : ℕ → ℕ = shift (Some n) new b.owner in
    let used : List ℕ = n ∷ b.used in
    let free : (m : ℕ) → is_used m b.used ≡ true → Some n ≢ Some m = λ m h e.
    let same : n ≡ m = cc in
    let h' : is_used n v.used ≡ true = ap (λ (xs : List ℕ). is_used n xs) own.used ∙ (ap (λ (x : ℕ). is_used x b.used) same ∙ h) in cc in
    let V : ℕ → View → Type 0 = λ i x. get_elem? (set s.views id (with_used n v) ++ new_caller n v ∷ []) i ≡ some x in
    parted s.words s.views id (with_used n v) (new_caller n v) owner used k
    (λ m h. ⊎_elim
    (λ e. (
      new_caller n v,
      subst (λ (i : ℕ). V i (new_caller n v)) (sym (shift_here (Some n) m new b.owner e))
          (at_last (set s.views id (with_used n v)) (new_caller n v) new (length-set s.views id (with_used n v))),
      e,
    ))
    (λ ne.
    let o = k.held m (used_rest n m b.used ne h) in
    let t = new_at (λ (x : View). x.number) s.views id (b.owner m) v (with_used n v) o.0 at refl o.1 in (
      t.0,
      subst (λ (i : ℕ). V i t.0) (sym (shift_else (Some n) m new b.owner ne))
          (at_longer (set s.views id (with_used n v)) (new_caller n v ∷ []) (b.owner m) t.0 t.1),
      t.2 ∙ o.2,
    ))
    (is_number (Some n) m))
    (λ j u e ne. kept_by b owner used j u (λ r. ne (((k.fits j u e).keeper r).seat ∙ sym own.seat))
    (λ m is h. (shift_else (Some n) m new b.owner (free m h), used_more n m b.used h)) (k.fits j u e))
    record {
      seen = f.seen;
      told = f.told;
      keeper = λ r. record { seat = own.seat; all = own.all; used = ap (λ (xs : List ℕ). n ∷ xs) own.used; given_up = own.given_up };
      number = λ m e. let h = f.number m e in record {
        owner = shift_else (Some n) m new b.owner (free m h.used) ∙ h.owner;
        used = used_more n m b.used h.used;
        place = h.place;
        session = h.session;
        all = h.all;
      };
      generation = f.generation;
      pulse = f.pulse;
      edition = f.edition;
      heard = f.heard;
    }
    record {
      seen = f.seen;
      told = begins_all b.marks;
      keeper = λ r. absurd cc;
      number = λ m e. let same : n ≡ m = cc in fresh_number b owner used new n m v own.all same (shift_here (Some n) m new b.owner e) (used_here n m b.used same);
      generation = f.generation;
      pulse = f.pulse;
      edition = f.edition;
      heard = tt;
    }

-- the guest gets a seat of its own
pub releases : {S : Type 0} (id : ℕ) (v : View) → v.keeps ≡ true → Splits {S = S} Ruled id v (alone v) (guest_of v)
releases id v is s k at =
    let b = k.board in
    let f = k.fits id v at in
    let own = f.keeper is in
    let new : ℕ = length s.views in
    let owner : ℕ → ℕ = shift v.number new b.owner in
    let V : ℕ → View → Type 0 = λ i x. get_elem? (set s.views id (alone v) ++ guest_of v ∷ []) i ≡ some x in
    parted s.words s.views id (alone v) (guest_of v) owner b.used k
    (λ m h. ⊎_elim
    (λ e. (
      guest_of v,
      subst (λ (i : ℕ). V i (guest_of v)) (sym (shift_here v.number m new b.owner e))
          (at_last (set s.views id (alone v)) (guest_of v) new (length-set s.views id (alone v))),
      e,
    ))
    (λ ne.
    let o = k.held m h in
    let off : b.owner m ≢ id = λ e.
    ne (ap (λ (x : View). x.number) (some-injective v o.0 (sym at ∙ (ap (λ (i : ℕ). get_elem? s.views i) (sym e) ∙ o.1))) ∙ o.2) in (
      o.0,
      subst (λ (i : ℕ). V i o.0) (sym (shift_else v.number m new b.owner ne))
          (at_longer (set s.views id (alone v)) (guest_of v ∷ []) (b.owner m) o.0 (set_else s.views id (b.owner m) (alone v) off ∙ o.1)),
      o.2,
    ))
    (is_number v.number m))
    (λ j u e ne. kept_by b owner b.used j u (λ r. ne (((k.fits j u e).keeper r).seat ∙ sym own.seat))
    (λ m is h. (shift_else v.number m new b.owner (λ is'. ne (apart s.words s.views j id m u v k e at is is')), h)) (k.fits j u e))
    record {
      seen = f.seen;
      told = begins_all b.marks;
      keeper = λ r. record { seat = own.seat; all = own.all; used = own.used; given_up = own.given_up };
      number = λ n e. absurd cc;
      generation = f.generation;
      pulse = f.pulse;
      edition = f.edition;
      heard = f.heard;
    }
    record {
      seen = f.seen;
      told = begins_all b.marks;
      keeper = λ r. absurd cc;
      number = λ m e. let h = f.number m e in record {
        owner = shift_here v.number m new b.owner e;
        used = h.used;
        place = h.place;
        session = h.session;
        all = h.all;
      };
      generation = f.generation;
      pulse = f.pulse;
      edition = tt;
      heard = tt;
    }

-- where a view that was replaced stands with a number, it is that view's own
replaced : (views : List View) (i j : ℕ) (n : ℕ) (v u : View) → get_elem? views j ≡ some v → get_elem? views i ≡ some u → u.number ≡ Some n → v.number ≢ Some n → i ≢ j
replaced views i j n v u at there is ne e =
    ne (ap (λ (x : View). x.number) (some-injective v u (sym at ∙ (ap (λ (k : ℕ). get_elem? views k) (sym e) ∙ there))) ∙ is)

-- the record's seat takes a caller's as its guest
pub hosts : {S : Type 0} (id other : ℕ) (v w : View) → v.keeps ≡ true → v.number ≡ None → Joins {S = S} Ruled id v other w (hosting v w) nobody
hosts id other v w is none' s k at apart' at' =
    let b = k.board in
    let f = k.fits id v at in
    let own = f.keeper is in
    let both : View = hosting v w in
    let there : get_elem? s.views other ≡ some w = sym (set_else s.views id other both apart') ∙ at' in
    let g = k.fits other w there in
    let owner : ℕ → ℕ = shift w.number id b.owner in
    let V : ℕ → View → Type 0 = λ i x. get_elem? (set (set s.views id both) other nobody) i ≡ some x in
    joined s.words s.views id other both nobody owner b.used k
    (λ m h.
    let o = k.held m h in
    let off : b.owner m ≢ id = replaced s.views (b.owner m) id m v o.0 at o.1 o.2 (λ e. let e' : None ≡ Some m = sym none' ∙ e in cc) in
    ⊎_elim
    (λ e. (
      both,
      subst (λ (i : ℕ). V i both) (sym (shift_here w.number m id b.owner e))
          (set_else (set s.views id both) other id nobody (λ q. apart' (sym q)) ∙ at_here s.views id v both at),
      e,
    ))
    (λ ne. (
      o.0,
      subst (λ (i : ℕ). V i o.0) (sym (shift_else w.number m id b.owner ne))
          (set_else (set s.views id both) other (b.owner m) nobody (replaced s.views (b.owner m) other m w o.0 there o.1 o.2 ne)
          ∙ (set_else s.views id (b.owner m) both off ∙ o.1)),
      o.2,
    ))
    (is_number w.number m))
    (λ j u e ne ne'. kept_by b owner b.used j u (λ r. ne (((k.fits j u e).keeper r).seat ∙ sym own.seat))
    (λ m is h. (shift_else w.number m id b.owner (λ is'. ne' (apart s.words s.views j other m u w k e there is is')), h)) (k.fits j u e))
    record {
      seen = f.seen;
      told = g.seen;
      keeper = λ r. record { seat = own.seat; all = own.all; used = own.used; given_up = own.given_up };
      number = λ m e. let h = g.number m e in record {
        owner = shift_here w.number m id b.owner e;
        used = h.used;
        place = let p = h.place in let l = begins_length w.seen b.marks g.seen in let c = ap (λ (ms : List Mark). length ms) own.all in omega arith;
        session = record { beginning = f.seen; own = h.all ∙ ap (λ (ms : List Mark). calls_of m w.place ms) (sym own.all) };
        all = h.all;
      };
      generation = max-le f.generation g.generation;
      pulse = max-le f.pulse g.pulse;
      edition = f.edition;
      heard = f.heard;
    }
    (nobody_fits (numbered b owner b.used) other)

-- a caller's seat ends
pub spends : {S : Type 0} (id other : ℕ) (v w : View) → v.keeps ≡ true → Joins {S = S} Ruled id v other w (spending v w) nobody
spends id other v w is s k at apart' at' =
    let b = k.board in
    let f = k.fits id v at in
    let own = f.keeper is in
    let both : View = spending v w in
    let there : get_elem? s.views other ≡ some w = sym (set_else s.views id other both apart') ∙ at' in
    let g = k.fits other w there in
    let used : List ℕ = without w.number b.used in
    let left : (j m : ℕ) (u : View) → get_elem? s.views j ≡ some u → j ≢ other → u.number ≡ Some m → is_used m b.used ≡ true → is_used m used ≡ true =
    λ j m u e ne is h. used_without w.number m b.used (λ is'. ne (apart s.words s.views j other m u w k e there is is')) h in
    joined s.words s.views id other both nobody b.owner used k
    (λ n h.
    let l = used_left w.number n b.used h in
    let o = k.held n l.0 in
    let t = new_at (λ (x : View). x.number) s.views id (b.owner n) v both o.0 at refl o.1 in
    (t.0, set_else (set s.views id both) other (b.owner n) nobody (replaced s.views (b.owner n) other n w o.0 there o.1 o.2 l.1) ∙ t.1, t.2 ∙ o.2))
    (λ j u e ne ne'. kept_by b b.owner used j u (λ r. ne (((k.fits j u e).keeper r).seat ∙ sym own.seat))
    (λ m is h. (refl, left j m u e ne' is h)) (k.fits j u e))
    record {
      seen = f.seen;
      told = f.told;
      keeper = λ r. record { seat = own.seat; all = own.all; used = ap (without w.number) own.used; given_up = own.given_up };
      number = λ m e. let h = f.number m e in record {
        owner = h.owner;
        used = left id m v at (λ same. apart' (sym same)) e h.used;
        place = h.place;
        session = h.session;
        all = h.all;
      };
      generation = max-le f.generation g.generation;
      pulse = max-le f.pulse g.pulse;
      edition = f.edition;
      heard = f.heard;
    }
    (nobody_fits (numbered b b.owner used) other)

-- a seat takes in what another knows, which has no number and is spent
takes_in : {S : Type 0} (id other : ℕ) (v w both : View) → w.number ≡ None → both.number ≡ v.number
    → ((b : BoardState) → Fits b id v → Fits b other w → Fits b id both) → Joins {S = S} Ruled id v other w both nobody
takes_in id other v w both none' same fits s k at apart' at' =
    let b = k.board in
    let there : get_elem? s.views other ≡ some w = sym (set_else s.views id other both apart') ∙ at' in
    joined s.words s.views id other both nobody b.owner b.used k
    (λ n h.
    let o = k.held n h in
    let t = new_at (λ (x : View). x.number) s.views id (b.owner n) v both o.0 at same o.1 in (
      t.0,
      set_else (set s.views id both) other (b.owner n) nobody
          (replaced s.views (b.owner n) other n w o.0 there o.1 o.2 (λ e. let e' : None ≡ Some n = sym none' ∙ e in cc)) ∙ t.1,
      t.2 ∙ o.2,
    ))
    (λ j u e ne ne'. k.fits j u e) (fits b (k.fits id v at) (k.fits other w there)) (nobody_fits b other)

-- a seat is told what another has seen
pub tells : {S : Type 0} (id other : ℕ) (v w : View) → w.number ≡ None → Joins {S = S} Ruled id v other w (telling v w) nobody
tells id other v w none' = takes_in id other v w (telling v w) none' refl (λ b f g. record {
  seen = f.seen;
  told = g.seen;
  keeper = λ r. let h = f.keeper r in record { seat = h.seat; all = h.all; used = h.used; given_up = h.given_up };
  number = λ n e. let h = f.number n e in record { owner = h.owner; used = h.used; place = h.place; session = h.session; all = h.all };
  generation = max-le f.generation g.generation;
  pulse = max-le f.pulse g.pulse;
  edition = f.edition;
  heard = f.heard;
})

-- a seat hears of the edition that another knows
pub hears : {S : Type 0} (id other : ℕ) (v w : View) → w.number ≡ None → Joins {S = S} Ruled id v other w (hearing v w) nobody
hears id other v w none' =
    takes_in id other v w (hearing v w) none' refl (λ b f g. heard_fits b id v w.edition g.edition f)

-- the session of a seat with a new number
pub new_session : (n : ℕ) (v w : View) → w ≡ new_caller n v → SessionIsNew n w v.seen
new_session n v w e = (
  ap (λ (x : View). x.number) e,
  ap (λ (x : View). x.seen) e,
  subst (λ (x : View). IsNewSession (session_of n x) v.seen) (sym e)
      record { beginning = begins_self v.seen; here = refl; none = refl; saw_all = calls_none n v.seen },
)

-- the session of a caller whose call was counted
pub caller_learns : (m : Mark) (v w u : View) → u ≡ caller_after m v w → IsBeginning w.seen v.seen → OwnsCalls (called m (hosting v w)) → SessionLearns w u
caller_learns m v w u e beginning owns n is =
    subst (λ (x : View). LearnsMore (session_of n w) (session_of n x)) (sym e)
    record { number = refl; place = refl; beginning = begins_with m w.seen v.seen beginning; own = owns n is }

-- the sessions of two seats that have met
pub sessions_meet : (a b c d : View) → Meets a c → Meets b d → c.seen ≡ d.seen → IsLonger c.seen a.seen b.seen → SessionsMeet a b c d
sessions_meet a b c d first second same longer m n uid gid other_uid other_gid is is' = record {
  first = record { user = refl; group = refl; learns = first.session m is };
  second = record { user = refl; group = refl; learns = second.session n is' };
  same = same;
  longer = longer;
  first_own = ap (λ (x : View). x.mine) first.same;
  second_own = ap (λ (x : View). x.mine) second.same;
}

-- the mark of a message is counted, and no call
pub message_is_event : (message : Incoming) → IsEvent (mark_of message)
message_is_event (incoming.Reply a) = record { counts = refl; no_call = refl }
message_is_event (incoming.Started e) = record { counts = refl; no_call = refl }
message_is_event incoming.GaveUp = record { counts = refl; no_call = refl }
message_is_event incoming.Flush = record { counts = refl; no_call = refl }
message_is_event incoming.End = record { counts = refl; no_call = refl }
