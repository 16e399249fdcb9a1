use Rattle.std.proofs.Common.{◌≡◌, ◌≢◌, ◌<◌, ◌+◌, ◌*◌, ◌-◌, ℕ, Bool, true, false, sym, ap, subst, ◌∙◌, below_more, arith}
use Rattle.std.specs.Prelude.{not, ◌==◌, ◌&&◌}
use Rattle.std.proofs.lemmas.Bool.{false≢true, ne_eqb}
use Rattle.volume.specs.Reading.{is_data_zone}
use Rattle.volume.specs.Nodes.{word, number}
use Rattle.volume.specs.Findings.{is_bad_zone}
use Rattle.image.specs.Contents.{contents}
use Rattle.image.specs.Entered.{IsNamed, IsFine, is_in}
use Rattle.image.proofs.Contents.{data_some, child_of, number_is, numbers_low}
use Rattle.image.proofs.Sweep.{bad_zone, fine_keeps, place_inside, is_entered_now, keeps_others, swept_more}
use Rattle.image.proofs.enter.+enter.Goals as goal

pub returns-then-not-is_data_zone-clause-bad : goal.returns-then-not-is_data_zone-clause-bad
returns-then-not-is_data_zone-clause-bad t c = λ _ n k e.
    let i = c.args.image.now in
    record {
      level = c.args.level;
      index = k;
      low = c.requires.low;
      bad = ap (is_bad_zone i.geometry (contents i)) e ∙ bad_zone i c.args.zone c.if-zone-eq0.false (sym c.is_data_zone.ensures ∙ c.if-not-is_data_zone.true);
    }

pub bounds-entered-place : goal.bounds-entered-place
bounds-entered-place t c =
    let i = c.args.image.now in
    place_inside i c.args.entered.now c.args.level c.args.zone c.requires.low
    (data_some i c.args.zone (sym c.is_data_zone.ensures ∙ c.if-not-is_data_zone.false)) c.requires.swept _
    (ap (λ g. c.args.level * g.zones + c.args.zone) c.geometry.ensures)

pub enter-requires : goal.enter-requires
enter-requires t c =
    let i = c.args.image.now in
    let low = numbers_low i c.args.level c.loop-j.j (omega (arith, c.numbers_at-j-end.ensures)) in
    let named = c.requires.named in
    let is : word (contents i) c.args.zone c.loop-j.j ≡ c.number.result = sym (c.number.ensures ∙ number_is i c.args.zone c.loop-j.j c.if-zone-eq0.false) in (
      omega (arith, low.0),
      (
        omega (arith, c.requires.low),
        (
          record {
            inode = named.inode;
            index = _;
            marked = named.marked;
            names = child_of i named.inode c.args.level named.index c.loop-j.j c.args.zone low.0 c.requires.low low.1 named.names c.if-zone-eq0.false ∙ is;
          },
          c.loop-j.invariant.swept,
        ),
      ),
    )

pub returns-then-not-enter-clause-keeps : goal.returns-then-not-enter-clause-keeps
returns-then-not-enter-clause-keeps t c = λ k is. c.enter.ensures.keeps k (c.loop-j.invariant.keeps k is)

pub returns-then-not-enter-clause-bad : goal.returns-then-not-enter-clause-bad
returns-then-not-enter-clause-bad t c = λ _ n k e.
    let i = c.args.image.now in
    let low = numbers_low i c.args.level c.loop-j.j (omega (arith, c.numbers_at-j-end.ensures)) in
    let is : word (contents i) c.args.zone c.loop-j.j ≡ c.number.result = sym (c.number.ensures ∙ number_is i c.args.zone c.loop-j.j c.if-zone-eq0.false) in
    c.enter.ensures.bad c.if-not-enter.true n _ (child_of i n c.args.level k c.loop-j.j c.args.zone low.0 c.requires.low low.1 e c.if-zone-eq0.false ∙ is)

pub loop-j-preserved : goal.loop-j-preserved
loop-j-preserved t c =
    let i = c.args.image.now in
    let is : c.number.result ≡ word (contents i) c.args.zone c.loop-j.j = c.number.ensures ∙ number_is i c.args.zone c.loop-j.j c.if-zone-eq0.false in
    let Fine : ℕ → Type 0 = λ k. IsFine i c.enter.new.entered (c.args.level - 1) (word (contents i) c.args.zone k) in
    let At : ℕ → Type 0 = λ w. IsFine i c.enter.new.entered (c.args.level - 1) w in
    record {
      swept = c.enter.ensures.swept;
      keeps = λ k is. c.enter.ensures.keeps k (c.loop-j.invariant.keeps k is);
      fine = below_more Fine c.loop-j.j
          (λ k h. fine_keeps i c.loop-j.entered c.enter.new.entered c.enter.ensures.keeps (c.args.level - 1) (word (contents i) c.args.zone k) (c.loop-j.invariant.fine k h))
          (subst At is (c.enter.ensures.fine c.if-not-enter.false));
    }

pub bounds-entered-place-2 : goal.bounds-entered-place-2
bounds-entered-place-2 t c =
    let i = c.args.image.now in
    place_inside i c.loop-j.entered c.args.level c.args.zone c.requires.low
    (data_some i c.args.zone (sym c.is_data_zone.ensures ∙ c.if-not-is_data_zone.false)) c.loop-j.invariant.swept _
    (ap (λ g. c.args.level * g.zones + c.args.zone) c.geometry.ensures)

pub returns-clause-swept : goal.returns-clause-swept
returns-clause-swept t c =
    let i = c.args.image.now in
    swept_more i c.loop-j.entered c.args.level c.args.zone c.requires.low
    (data_some i c.args.zone (sym c.is_data_zone.ensures ∙ c.if-not-is_data_zone.false)) c.loop-j.invariant.swept _
    (ap (λ g. c.args.level * g.zones + c.args.zone) c.geometry.ensures)
    (sym c.is_data_zone.ensures ∙ c.if-not-is_data_zone.false) c.requires.named (λ k h. c.loop-j.invariant.fine k (omega (arith, c.numbers_at-j-end.ensures)))

pub returns-clause-keeps : goal.returns-clause-keeps
returns-clause-keeps t c = λ k is.
    let i = c.args.image.now in
    keeps_others i c.loop-j.entered c.args.level c.args.zone c.requires.low
    (data_some i c.args.zone (sym c.is_data_zone.ensures ∙ c.if-not-is_data_zone.false)) c.loop-j.invariant.swept _
    (ap (λ g. c.args.level * g.zones + c.args.zone) c.geometry.ensures) k (c.loop-j.invariant.keeps k is)

pub returns-clause-fine : goal.returns-clause-fine
returns-clause-fine t c = λ _ some.
    let i = c.args.image.now in (
      sym c.is_data_zone.ensures ∙ c.if-not-is_data_zone.false,
      is_entered_now i c.loop-j.entered c.args.level c.args.zone c.requires.low
          (data_some i c.args.zone (sym c.is_data_zone.ensures ∙ c.if-not-is_data_zone.false)) c.loop-j.invariant.swept _
          (ap (λ g. c.args.level * g.zones + c.args.zone) c.geometry.ensures),
    )
