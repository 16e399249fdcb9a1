use Rattle.std.proofs.Common.{◌≡◌, ◌<◌, ◌≤◌, ◌+◌, ℕ, Bool, true, false, refl, sym, ap, subst, ◌∙◌, slice_index_or, below_more, arith}
use mathlib.Core.Logic.{inl, inr}
use Rattle.std.specs.Prelude.{not}
use Rattle.std.proofs.lemmas.Bool.{cases_lt, both_ways, not-true, not-false}
use Rattle.volume.specs.Nodes.{slot, is_marked}
use Rattle.volume.specs.Findings.{has_bad_number}
use Rattle.volume.specs.Verdict.{place_limit}
use Rattle.image.specs.Contents.{contents}
use Rattle.image.proofs.Leasts.{some_least, none_least}
use Rattle.image.specs.Entered.{IsFine, SlotsAreFine, level_of}
use Rattle.image.proofs.Contents.{inside, zero_unmarked}
use Rattle.image.proofs.Sweep.{fine_keeps, swept_none, are_entered, past_last, none_first}
use Rattle.image.proofs.enter.bad_number.Goals as goal

pub returns-then-not-enter_inode-clause-least : goal.returns-then-not-enter_inode-clause-least
returns-then-not-enter_inode-clause-least c =
    let i = c.args.image.now in
    let e : c.geometry-n-end.result.inodes ≡ i.geometry.inodes = ap (λ g. g.inodes) c.geometry-n-end.ensures in
    some_least (has_bad_number i.geometry (contents i)) (place_limit i.geometry) c.loop-n.n (omega arith)
    (not-false _ (sym c.enter_inode.ensures.bad ∙ c.if-not-enter_inode.true)) c.loop-n.invariant.none

pub loop-n-init : goal.loop-n-init
loop-n-init c =
    let i = c.args.image.now in
    record {
      swept = swept_none i c.args.entered.now c.requires.size c.requires.fresh;
      slots = λ k h is. absurd (both_ways _ (zero_unmarked i k h) is);
      none = λ k h. none_first i k h;
    }

pub loop-n-preserved : goal.loop-n-preserved
loop-n-preserved c =
    let i = c.args.image.now in
    let Slots : ℕ → Type 0 = λ k. is_marked i.geometry (contents i) k ≡ true → SlotsAreFine i c.enter_inode.new.entered k in
    let None : ℕ → Type 0 = λ k. has_bad_number i.geometry (contents i) k ≡ false in
    record {
      swept = c.enter_inode.ensures.swept;
      slots = below_more Slots c.loop-n.n
          (λ k h is s l. fine_keeps i c.loop-n.entered c.enter_inode.new.entered c.enter_inode.ensures.keeps (level_of s) (slot ((contents i).inodes k) s) (c.loop-n.invariant.slots k h is s l))
          (c.enter_inode.ensures.slots c.if-not-enter_inode.false);
      none = below_more None c.loop-n.n c.loop-n.invariant.none (not-true _ (sym c.enter_inode.ensures.bad ∙ c.if-not-enter_inode.false));
    }

pub returns-clause-least : goal.returns-clause-least
returns-clause-least c =
    let i = c.args.image.now in
    let e : c.geometry-n-end.result.inodes ≡ i.geometry.inodes = ap (λ g. g.inodes) c.geometry-n-end.ensures in
    none_least (has_bad_number i.geometry (contents i)) (place_limit i.geometry)
    (λ k h. elim (cases_lt k c.loop-n.n) [ inl low ↦ c.loop-n.invariant.none k low | inr far ↦ past_last i k (omega arith) ])

pub returns-clause-entered : goal.returns-clause-entered
returns-clause-entered c = λ _.
    let i = c.args.image.now in
    let e : c.geometry-n-end.result.inodes ≡ i.geometry.inodes = ap (λ g. g.inodes) c.geometry-n-end.ensures in
    are_entered i c.loop-n.entered c.loop-n.invariant.swept (λ n is. c.loop-n.invariant.slots n (let low = inside i n is in omega arith) is)
