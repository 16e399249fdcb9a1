-- While no step may write, the sectors are what they were published as.
use Rattle.std.proofs.Common.{◌≡◌, ℕ, ◌+◌, refl, sym, ◌∙◌, subst, ap, inl, inr, Bool, true, false, Option, Some, None}
use Rattle.message.specs.declared.Kind.{Kind}
use Rattle.message.specs.declared.Kind.TheVariants.{Read, Write}
use Rattle.media.specs.Contents.{MediaState, accepts}
use Rattle.bdev.specs.declared.Step.{Step}
use Rattle.bdev.specs.declared.Run.{Run}
use Rattle.bdev.specs.DriverState.{DriverState, Work}
use Rattle.bdev.specs.Promises.{StepKeeps, StepsAt, MovesBytes, IsNext}
use Rattle.atomic_table.specs.Seated.{TableId}
use Rattle.shared_media.specs.declared.edition.Edition.{Edition}
use Rattle.shared_media.specs.Editions.{AreKnown, kept_unless, may_write, number_of}

-- the media accept a sector or don't
accepted_or_not : false ≡ true → ⊥
accepted_or_not is = cc

-- where no sector may be written, none is
moved : (b : DriverState) (w w' : Work) (run : Run) (j : ℕ) (m : MediaState) (g : ℕ) (m' : MediaState) (kind : Kind)
    → may_write m g b.in_work ≡ false → accepts m g (run.first + j) ≡ true → w.request.kind ≡ kind → IsNext b w run j
    → MovesBytes kind w m g (run.first + j) j w' m' → m' ≡ m
moved b w w' run j m g m' Read not accepted is next bytes = bytes.0
moved b w w' run j m g m' Write not accepted is next bytes =
    absurd (accepted_or_not (sym not ∙ ap (λ (o : Option ℕ). may_write m g o) (next.named is) ∙ accepted))

-- so the step of such a driver leaves the media
stepped : (b : DriverState) (work : Option Work) (m : MediaState) (g : ℕ) (step : Step) (a : DriverState) (m' : MediaState)
    → may_write m g b.in_work ≡ false → StepsAt b work m g step a m' → m' ≡ m
stepped b None m g step a m' not s = s.0
stepped b (Some w) m g step a m' not s = elim s.1 [
  | inl n ↦ n.same_media
  | inr p ↦ moved b w s.0 p.run p.number m g m' w.request.kind not p.accepted refl p.next p.bytes
]

-- what is known of sectors is known where they stay
still_known : (table : TableId) (edition : Option Edition) (m m' : MediaState) → m' ≡ m → AreKnown table edition m.sectors
    → AreKnown table edition m'.sectors
still_known table edition m m' same known = subst (λ (x : MediaState). AreKnown table edition x.sectors) (sym same) known

-- what is left of an edition is known
by_step : (table : TableId) (writes : Bool) (edition : Option Edition) (b : DriverState) (m : MediaState) (g : ℕ) (step : Step)
    (a : DriverState) (m' : MediaState) → may_write m g b.in_work ≡ writes → StepKeeps b m g step a m'
    → AreKnown table edition m.sectors → AreKnown table (kept_unless writes edition) m'.sectors
by_step table false edition b m g step a m' is keeps known =
    still_known table edition m m' (stepped b b.work m g step a m' is keeps.steps) known
by_step table true edition b m g step a m' is keeps known = tt

pub known_stepped : (table : TableId) (writes : Bool) (edition edition' : Option Edition) (b : DriverState) (m : MediaState) (g : ℕ)
    (step : Step) (a : DriverState) (m' : MediaState) → writes ≡ may_write m g b.in_work → edition' ≡ kept_unless writes edition
    → StepKeeps b m g step a m' → AreKnown table edition m.sectors → AreKnown table edition' m'.sectors
known_stepped table writes edition edition' b m g step a m' may is keeps known =
    subst (λ (e : Option Edition). AreKnown table e m'.sectors) (sym is) (by_step table writes edition b m g step a m' (sym may) keeps known)

-- the number of what is left is what is left of the number
number_left : (writes : Bool) (edition : Option Edition) → number_of (kept_unless writes edition) ≡ kept_unless writes (number_of edition)
number_left false edition = refl
number_left true edition = refl

pub number_kept : (writes writes' : Bool) (edition edition' : Option Edition) (number : Option ℕ) → edition' ≡ kept_unless writes edition
    → writes ≡ writes' → number_of edition ≡ number → number_of edition' ≡ kept_unless writes' number
number_kept writes writes' edition edition' number is may from =
    ap number_of is ∙ number_left writes edition ∙ ap (λ (o : Option ℕ). kept_unless writes o) from
    ∙ ap (λ (w : Bool). kept_unless w number) may
