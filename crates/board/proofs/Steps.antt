-- The steps on the generation, the device word and the pulse, and what a seat learns of another, keep the rule and tell what they say.
use Rattle.std.proofs.Common.{◌≡◌, ℕ, zero, suc, ◌^◌, ◌<◌, ◌≤◌, true, List, [], ◌∷◌, length, set, slice_index, slice_set, max, bit_or, refl, ap, sym, ◌∙◌, subst, inl, inr, arith, le_refl, lt_of_not-le}
use Rattle.std.proofs.Math.Nat.{le-max_left}
use mathlib.Core.Option.{some, none}
use native.Mathlib.Decide.{dec_le}
use lib.ListN.{get_elem?}
use Rattle.atomic_table.specs.Table.{State, Me, keeps, step, Allows}
use Rattle.records.specs.Marks.{Mark, gave_up, IsBeginning}
use Rattle.records.specs.Session.{tally_of, IsLonger}
use Rattle.board.specs.View.{View}
use Rattle.board.specs.Rule.{BoardState, DeviceIs, Fits, Kept}
use Rattle.board.specs.Steps.{SessionLearns, Found, Started, Felt, Beaten, Asked, GivenUp, Learned}
use Rattle.board.proofs.Records.{begins_self, begins_all, begins_length, begins_shorter, begins_both, went_on_longer}
use Rattle.board.proofs.Moves.{Ruled, moved, risen, seen_more, session_learns, sees}

-- what is so of a seat with another generation and another pulse
pub with_both : (b : BoardState) (generation pulse id : ℕ) (v : View) → generation ≤ b.generation → pulse ≤ b.pulse → Fits b id v
    → Fits b id (record v { generation = generation; pulse = pulse })
with_both b generation pulse id v up up' f = record {
  seen = f.seen;
  told = f.told;
  keeper = λ r. let h = f.keeper r in record { seat = h.seat; all = h.all; used = h.used; given_up = h.given_up };
  number = λ n e. let h = f.number n e in record { owner = h.owner; used = h.used; place = h.place; session = h.session; all = h.all };
  generation = up;
  pulse = up';
  edition = f.edition;
  heard = f.heard;
}

-- the device word is as it was under another generation and another pulse
device_same : (b : BoardState) (generation pulse : ℕ) → DeviceIs b → DeviceIs (record b { generation = generation; pulse = pulse })
device_same b generation pulse d = record { bit = d.bit; only = d.only; stays = d.stays; after = d.after }

pub finds : {S : Type 0} (slots id : ℕ) (me : Me S View) → Allows {S = S} Ruled slots id me 1 (λ n. n) (Found (step slots 1 0 0 none) me)
finds slots id me s k sized at small =
    let b = k.board in
    let f = k.fits id me.0 at in
    let e : slice_index s.words 1 ≡ b.generation = ap (λ (ws : List ℕ). slice_index ws 1) k.words_are in (
      record me.0 { generation = b.generation },
      keeps,
      tt,
      moved s.words (slice_set s.words 1 (slice_index s.words 1)) s.views id me.0 (record me.0 { generation = b.generation }) k b refl refl at refl
          (ap (λ (ws : List ℕ). slice_set ws 1 (slice_index ws 1)) k.words_are) k.device k.small k.few (λ j u e ne. k.fits j u e)
          (with_both b b.generation me.0.pulse id me.0 (le_refl b.generation) f.pulse f),
      (
        refl,
        ap (λ (n : ℕ). record me.0 { generation = n }) (sym e),
        subst (λ (n : ℕ). me.0.generation ≤ n) (sym e) f.generation,
        subst (λ (n : ℕ). n < 2 ^ 32) (sym e) k.small,
      ),
    )

pub starts_at : {S : Type 0} (slots id g : ℕ) (me : Me S View) → g < 2 ^ 32 → Allows {S = S} Ruled slots id me 1 (λ n. max n g) (Started (step slots 1 g 0 none) me)
starts_at slots id g me fits s k sized at small =
    let b = k.board in
    let f = k.fits id me.0 at in
    let top : ℕ = max b.generation g in
    let e : slice_index s.words 1 ≡ b.generation = ap (λ (ws : List ℕ). slice_index ws 1) k.words_are in
    let up : b.generation ≤ top = le-max_left b.generation g in
    let new : BoardState = record b { generation = top } in (
      record me.0 { generation = top },
      keeps,
      tt,
      moved s.words (slice_set s.words 1 (max (slice_index s.words 1) g)) s.views id me.0 (record me.0 { generation = top }) k new refl refl at refl
          (ap (λ (ws : List ℕ). slice_set ws 1 (max (slice_index ws 1) g)) k.words_are) (device_same b top b.pulse k.device) (let a = k.small in omega arith) k.few
          (λ j u e ne. risen b top b.pulse j u up (le_refl b.pulse) (k.fits j u e))
          (with_both new top me.0.pulse id me.0 (le_refl top) f.pulse (risen b top b.pulse id me.0 up (le_refl b.pulse) f)),
      (refl, ap (λ (n : ℕ). record me.0 { generation = max n g }) (sym e), subst (λ (n : ℕ). me.0.generation ≤ n) (sym e) f.generation),
    )

pub feels : {S : Type 0} (slots id : ℕ) (me : Me S View) → Allows {S = S} Ruled slots id me 3 (λ n. n) (Felt (step slots 3 0 0 none) me)
feels slots id me s k sized at small =
    let b = k.board in
    let f = k.fits id me.0 at in
    let e : slice_index s.words 3 ≡ b.pulse = ap (λ (ws : List ℕ). slice_index ws 3) k.words_are in (
      record me.0 { pulse = b.pulse },
      keeps,
      tt,
      moved s.words (slice_set s.words 3 (slice_index s.words 3)) s.views id me.0 (record me.0 { pulse = b.pulse }) k b refl refl at refl
          (ap (λ (ws : List ℕ). slice_set ws 3 (slice_index ws 3)) k.words_are) k.device k.small k.few (λ j u e ne. k.fits j u e)
          (with_both b me.0.generation b.pulse id me.0 f.generation (le_refl b.pulse) f),
      (refl, ap (λ (n : ℕ). record me.0 { pulse = n }) (sym e), subst (λ (n : ℕ). me.0.pulse ≤ n) (sym e) f.pulse),
    )

pub beats : {S : Type 0} (slots id p : ℕ) (me : Me S View) → Allows {S = S} Ruled slots id me 3 (λ n. max n p) (Beaten (step slots 3 p 0 none) me)
beats slots id p me s k sized at small =
    let b = k.board in
    let f = k.fits id me.0 at in
    let top : ℕ = max b.pulse p in
    let e : slice_index s.words 3 ≡ b.pulse = ap (λ (ws : List ℕ). slice_index ws 3) k.words_are in
    let up : b.pulse ≤ top = le-max_left b.pulse p in
    let new : BoardState = record b { pulse = top } in (
      record me.0 { pulse = top },
      keeps,
      tt,
      moved s.words (slice_set s.words 3 (max (slice_index s.words 3) p)) s.views id me.0 (record me.0 { pulse = top }) k new refl refl at refl
          (ap (λ (ws : List ℕ). slice_set ws 3 (max (slice_index ws 3) p)) k.words_are) (device_same b b.generation top k.device) k.small k.few
          (λ j u e ne. risen b b.generation top j u (le_refl b.generation) up (k.fits j u e))
          (with_both new me.0.generation top id me.0 f.generation (le_refl top) (risen b b.generation top id me.0 (le_refl b.generation) up f)),
      (refl, ap (λ (n : ℕ). record me.0 { pulse = max n p }) (sym e), subst (λ (n : ℕ). me.0.pulse ≤ n) (sym e) f.pulse),
    )

pub asks : {S : Type 0} (slots id : ℕ) (me : Me S View) → Allows {S = S} Ruled slots id me 2 (λ n. n) (Asked (step slots 2 0 0 none) me)
asks slots id me s k sized at small =
    let v : View = me.0 in
    let b = k.board in
    let f = k.fits id v at in
    let e : slice_index s.words 2 ≡ b.device = ap (λ (ws : List ℕ). slice_index ws 2) k.words_are in
    let d = k.device in (
      record v { seen = b.marks },
      keeps,
      tt,
      moved s.words (slice_set s.words 2 (slice_index s.words 2)) s.views id v (record v { seen = b.marks }) k b refl refl at refl
          (ap (λ (ws : List ℕ). slice_set ws 2 (slice_index ws 2)) k.words_are) k.device k.small k.few (λ j u e ne. k.fits j u e) (seen_more b id v f),
      (
        refl,
        sees b id v f,
        subst (λ (n : ℕ). n < 2) (sym e) d.bit,
        (λ h. d.only (sym e ∙ h)),
        (λ h. e ∙ d.stays (d.after (went_on_longer v.seen b.marks f.seen h))),
      ),
    )

or_one : (n : ℕ) → n < 2 → bit_or n 1 ≡ 1
or_one zero lt = refl
or_one (suc zero) lt = refl
or_one (suc (suc n)) lt = absurd (omega arith)

pub gives_up : {S : Type 0} (slots id : ℕ) (me : Me S View) → me.0.keeps ≡ true → gave_up me.0.seen ≡ true
    → Allows {S = S} Ruled slots id me 2 (λ n. bit_or n 1) (GivenUp (step slots 2 1 0 none) me)
gives_up slots id me is ended s k sized at small =
    let v : View = me.0 in
    let b = k.board in
    let f = k.fits id v at in
    let own = f.keeper is in
    let new : BoardState = record b { given_up = true; device = 1 } in (
      record v { given_up = true },
      keeps,
      tt,
      moved s.words (slice_set s.words 2 (bit_or (slice_index s.words 2) 1)) s.views id v (record v { given_up = true }) k new refl refl at refl
          (ap (λ (ws : List ℕ). slice_set ws 2 (bit_or (slice_index ws 2) 1)) k.words_are
          ∙ ap (λ (n : ℕ). tally_of b.marks ∷ b.generation ∷ n ∷ b.pulse ∷ length b.editions ∷ []) (or_one b.device k.device.bit))
          record { bit = omega arith; only = λ h. ap gave_up (sym own.all) ∙ ended; stays = λ h. refl; after = λ h. refl }
          k.small k.few
          (λ j u e ne. let g = k.fits j u e in record {
            seen = g.seen;
            told = g.told;
            keeper = λ r. absurd (ne ((g.keeper r).seat ∙ sym own.seat));
            number = λ n e. let h = g.number n e in record { owner = h.owner; used = h.used; place = h.place; session = h.session; all = h.all };
            generation = g.generation;
            pulse = g.pulse;
            edition = g.edition;
            heard = g.heard;
          })
          record {
            seen = f.seen;
            told = f.told;
            keeper = λ r. record { seat = own.seat; all = own.all; used = own.used; given_up = refl };
            number = λ n e. let h = f.number n e in record { owner = h.owner; used = h.used; place = h.place; session = h.session; all = h.all };
            generation = f.generation;
            pulse = f.pulse;
            edition = f.edition;
            heard = f.heard;
          },
      (refl, refl),
    )

-- a seat takes l for what it has seen, which lies between what it had seen and the record
taken : {S : Type 0} (slots id : ℕ) (me : Me S View) (l : List Mark) (s : State S View) (k : Kept s.words s.views) → get_elem? s.views id ≡ some me.0
    → (me.0.keeps ≡ true → l ≡ k.board.marks) → IsLonger l me.0.seen me.0.told → IsBeginning me.0.seen l → IsBeginning l k.board.marks
    → (w : View) × Kept (slice_set s.words 0 (slice_index s.words 0)) (set s.views id w)
    × Learned (step slots 0 0 0 none) me (slice_index s.words 0) (w, me.1)
taken slots id me l s k at all longer more less =
    let v : View = me.0 in
    let b = k.board in
    let f = k.fits id v at in
    let w : View = record v { seen = l; told = [] } in
    let learns : SessionLearns v w = session_learns b id v w f refl refl more less in (
      w,
      moved s.words (slice_set s.words 0 (slice_index s.words 0)) s.views id v w k b refl refl at refl
          (ap (λ (ws : List ℕ). slice_set ws 0 (slice_index ws 0)) k.words_are) k.device k.small k.few (λ j u e ne. k.fits j u e)
          record {
            seen = less;
            told = begins_all b.marks;
            keeper = λ r. let h = f.keeper r in record { seat = h.seat; all = all r; used = h.used; given_up = h.given_up };
            number = λ n e. let h = f.number n e in record {
              owner = h.owner;
              used = h.used;
              place = let p = h.place in let q = begins_length v.seen l more in omega arith;
              session = record { beginning = less; own = (learns n e).own };
              all = h.all;
            };
            generation = f.generation;
            pulse = f.pulse;
            edition = f.edition;
            heard = f.heard;
          },
      (refl, record { same = refl; longer = longer; whole = λ r. all r ∙ sym (f.keeper r).all; session = learns }),
    )

-- a load by a seat that was told what another has seen
pub learns : {S : Type 0} (slots id : ℕ) (me : Me S View) → Allows {S = S} Ruled slots id me 0 (λ n. n) (Learned (step slots 0 0 0 none) me)
learns {S = S} slots id me s k sized at small = let t = go (dec_le (length me.0.seen) (length me.0.told)) in (t.0, keeps, tt, t.1, t.2)
  where
    f : Fits k.board id me.0
    f = k.fits id me.0 at

    go : Dec (length me.0.seen ≤ length me.0.told)
        → (w : View) × Kept (slice_set s.words 0 (slice_index s.words 0)) (set s.views id w)
        × Learned (step slots 0 0 0 none) me (slice_index s.words 0) (w, me.1)
    go (yes d) =
        let p = begins_shorter me.0.seen me.0.told k.board.marks f.seen f.told d in
        taken slots id me me.0.told s k at
        (λ r. begins_both me.0.told k.board.marks f.told (subst (λ (ms : List Mark). IsBeginning ms me.0.told) (f.keeper r).all p))
        (inr (refl, p)) p f.told
    go (no d) =
        let p = begins_shorter me.0.told me.0.seen k.board.marks f.told f.seen (let h = lt_of_not-le d in omega arith) in
        taken slots id me me.0.seen s k at (λ r. (f.keeper r).all) (inl (refl, p)) (begins_self me.0.seen) f.seen
