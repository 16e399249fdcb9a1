-- Editions are numbered in the order in which they came, so one number is that of one edition; and the steps by which seats get to
-- know them keep the rule.
use Rattle.std.proofs.Common.{◌≡◌, ◌≢◌, ℕ, ◌+◌, ◌^◌, ◌<◌, ◌==◌, List, [], ◌∷◌, ◌++◌, length, slice_index, slice_set, Option, Some, None, refl, ap, sym, ◌∙◌, subst, arith}
use Rattle.std.proofs.lemmas.List.{length-append}
use mathlib.Core.Option.{none}
use prog.Atomic.{either}
use Rattle.atomic_table.specs.Table.{State, Me, Act, keeps, step, stepped, carried_after, Valid, Allows}
use Rattle.atomic_table.proofs.Lists.{exchanged}
use Rattle.records.specs.Session.{tally_of}
use Rattle.board.specs.View.{View}
use Rattle.board.specs.Rule.{BoardState, IsEdition, IsKnown, Fits}
use Rattle.board.specs.Steps.{Published, AreOneEdition, Compared}
use Rattle.board.proofs.Moves.{Ruled, moved}

-- an edition stays one when one is added
pub stays_known : (editions : List (List (List ℕ))) (added : List (List ℕ)) (known : Option (ℕ × List (List ℕ))) → IsKnown editions known
    → IsKnown (added ∷ editions) known
stays_known editions added None h = tt
stays_known editions added (Some e) h =
    record { later = added ∷ h.later; older = h.older; is = ap (λ (l : List (List (List ℕ))). added ∷ l) h.is; before = h.before }

one_place : (later later' older older' : List (List (List ℕ))) (s t : List (List ℕ)) → later ++ s ∷ older ≡ later' ++ t ∷ older'
    → length older ≡ length older' → s ≡ t
one_place [] [] older older' s t e n = cc e
one_place [] (x ∷ later') older older' s t e n = let l = ap length e in let m = length-append later' (t ∷ older') in absurd (omega arith)
one_place (x ∷ later) [] older older' s t e n = let l = ap length e in let m = length-append later (s ∷ older) in absurd (omega arith)
one_place (x ∷ later) (y ∷ later') older older' s t e n = one_place later later' older older' s t (cc e) n

-- two editions of one number are the same sectors
pub one_edition : (editions : List (List (List ℕ))) (n : ℕ) (s t : List (List ℕ)) → IsEdition editions n s → IsEdition editions n t → s ≡ t
one_edition editions n s t h k = one_place h.later k.later h.older k.older s t (sym h.is ∙ k.is) (h.before ∙ sym k.before)

-- an edition's number is one of those that were given
pub number_given : (editions : List (List (List ℕ))) (n : ℕ) (s : List (List ℕ)) → IsEdition editions n s → n < length editions
number_given editions n s h = let l = ap length h.is in let m = length-append h.later (s ∷ h.older) in let e = h.before in omega arith

pub are_one : (editions : List (List (List ℕ))) (known other : Option (ℕ × List (List ℕ))) → IsKnown editions known → IsKnown editions other
    → AreOneEdition known other
are_one editions known other h k n s t e e' = one_edition editions n s t (subst (IsKnown editions) e h) (subst (IsKnown editions) e' k)

-- the same board, with one edition more
abbrev with_edition : BoardState → List (List ℕ) → BoardState
with_edition b sectors = record b { editions = sectors ∷ b.editions }

-- what is so of a seat when an edition is added
edition_added : (b : BoardState) (sectors : List (List ℕ)) (id : ℕ) (v : View) → Fits b id v → Fits (with_edition b sectors) id v
edition_added b sectors id v f = record {
  seen = f.seen;
  told = f.told;
  keeper = λ r. let h = f.keeper r in record { seat = h.seat; all = h.all; used = h.used; given_up = h.given_up };
  number = λ n e. let h = f.number n e in record { owner = h.owner; used = h.used; place = h.place; session = h.session; all = h.all };
  generation = f.generation;
  pulse = f.pulse;
  edition = stays_known b.editions sectors v.edition f.edition;
  heard = stays_known b.editions sectors v.heard f.heard;
}

-- and of the seat that adds it
edition_own : (b : BoardState) (sectors : List (List ℕ)) (id number : ℕ) (v : View) → length b.editions ≡ number → Fits b id v
    → Fits (with_edition b sectors) id (record v { edition = Some (number, sectors) })
edition_own b sectors id number v before f = record {
  seen = f.seen;
  told = f.told;
  keeper = λ r. let h = f.keeper r in record { seat = h.seat; all = h.all; used = h.used; given_up = h.given_up };
  number = λ n e. let h = f.number n e in record { owner = h.owner; used = h.used; place = h.place; session = h.session; all = h.all };
  generation = f.generation;
  pulse = f.pulse;
  edition = record { later = []; older = b.editions; is = refl; before = before };
  heard = stays_known b.editions sectors v.heard f.heard;
}

-- what is so of a seat with something else that it heard
pub heard_fits : (b : BoardState) (id : ℕ) (v : View) (heard : Option (ℕ × List (List ℕ))) → IsKnown b.editions heard → Fits b id v
    → Fits b id (record v { heard = heard })
heard_fits b id v heard known f = record {
  seen = f.seen;
  told = f.told;
  keeper = λ r. let h = f.keeper r in record { seat = h.seat; all = h.all; used = h.used; given_up = h.given_up };
  number = λ n e. let h = f.number n e in record { owner = h.owner; used = h.used; place = h.place; session = h.session; all = h.all };
  generation = f.generation;
  pulse = f.pulse;
  edition = f.edition;
  heard = known;
}

-- what a step on the last word leaves where it becomes n
abbrev Goes : {S : Type 0} → State S View → ℕ → Me S View → (ℕ → Me S View → Type 0) → ℕ → Type 0
Goes {S = S} s id me then n = (w : View) × (a : Act S) × Valid s.homes me.1 a × Ruled (stepped s 4 n id me.1 w a)
    × then (slice_index s.words 4) (w, carried_after me.1 a)

-- the number is that of the sectors, where it still is the one to be given next
pub publishes : {S : Type 0} (slots id number : ℕ) (me : Me S View) (sectors : List (List ℕ)) → number + 1 < 2 ^ 64
    → Allows {S = S} Ruled slots id me 4 (λ n. either (n == number) (number + 1) n)
    (Published sectors (step slots 4 number (number + 1) none) me)
publishes {S = S} slots id number me sectors more s k sized at small =
    exchanged (slice_index s.words 4) number (number + 1) (Goes s id me (Published sectors (step slots 4 number (number + 1) none) me))
    given kept
  where
    b : BoardState
    b = k.board

    f : Fits b id me.0
    f = k.fits id me.0 at

    word : slice_index s.words 4 ≡ length b.editions
    word = ap (λ (ws : List ℕ). slice_index ws 4) k.words_are

    given : slice_index s.words 4 ≡ number → Goes s id me (Published sectors (step slots 4 number (number + 1) none) me) (number + 1)
    given hit =
        let before : length b.editions ≡ number = sym word ∙ hit in
        let longer : number + 1 ≡ length (sectors ∷ b.editions) = omega (arith, before) in
        let w : View = record me.0 { edition = Some (number, sectors) } in (
          w,
          keeps,
          tt,
          moved s.words (slice_set s.words 4 (number + 1)) s.views id me.0 w k (with_edition b sectors) refl refl at refl
              (ap (λ (ws : List ℕ). slice_set ws 4 (number + 1)) k.words_are
              ∙ ap (λ (n : ℕ). tally_of b.marks ∷ b.generation ∷ b.device ∷ b.pulse ∷ n ∷ []) longer)
              record { bit = k.device.bit; only = k.device.only; stays = k.device.stays; after = k.device.after }
              k.small (subst (λ (n : ℕ). n < 2 ^ 64) longer more)
              (λ j u e ne. edition_added b sectors j u (k.fits j u e)) (edition_own b sectors id number me.0 before f),
          (refl, (λ e. refl), (λ miss. absurd (miss hit))),
        )

    kept : slice_index s.words 4 ≢ number
        → Goes s id me (Published sectors (step slots 4 number (number + 1) none) me) (slice_index s.words 4)
    kept miss = (
      me.0,
      keeps,
      tt,
      moved s.words (slice_set s.words 4 (slice_index s.words 4)) s.views id me.0 me.0 k b refl refl at refl
          (ap (λ (ws : List ℕ). slice_set ws 4 (slice_index ws 4)) k.words_are) k.device k.small k.few (λ j u e ne. k.fits j u e) f,
      (refl, (λ hit. absurd (miss hit)), (λ e. refl)),
    )

-- a load by a seat that heard of an edition
pub compares : {S : Type 0} (slots id : ℕ) (me : Me S View)
    → Allows {S = S} Ruled slots id me 4 (λ n. n) (Compared (step slots 4 0 0 none) me)
compares slots id me s k sized at small =
    let b = k.board in
    let f = k.fits id me.0 at in
    let w : View = record me.0 { heard = None } in (
      w,
      keeps,
      tt,
      moved s.words (slice_set s.words 4 (slice_index s.words 4)) s.views id me.0 w k b refl refl at refl
          (ap (λ (ws : List ℕ). slice_set ws 4 (slice_index ws 4)) k.words_are) k.device k.small k.few (λ j u e ne. k.fits j u e)
          (heard_fits b id me.0 None tt f),
      (refl, refl, are_one b.editions me.0.edition me.0.heard f.edition f.heard),
    )
