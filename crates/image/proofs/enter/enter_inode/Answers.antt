use Rattle.std.proofs.Common.{◌≡◌, ◌<◌, ◌+◌, ℕ, Bool, true, false, refl, sym, ap, subst, ◌∙◌, slice_index_or, below_more, arith}
use Rattle.std.specs.Prelude.{not}
use Rattle.volume.specs.Nodes.{slot, is_marked}
use Rattle.volume.specs.Places.{zone_at}
use Rattle.image.specs.Contents.{contents}
use Rattle.image.specs.Entered.{IsNamed, IsFine, level_of}
use Rattle.image.proofs.Contents.{index_of, slot_place}
use Rattle.image.proofs.Sweep.{fine_keeps, fine_inode, place_bad, unmarked}
use Rattle.image.proofs.enter.enter_inode.Goals as goal

pub enter-requires-clause-named : goal.enter-requires-clause-named
enter-requires-clause-named c =
    let i = c.args.image.now in
    let n = c.args.n in
    let s = c.loop-s.s in
    record {
      inode = n;
      index = index_of i s;
      marked = sym c.is_marked.ensures ∙ c.if-not-is_marked.false;
      names = ap (λ l. zone_at i.geometry (contents i) ((contents i).inodes n) l (index_of i s)) c.level_of.ensures
          ∙ slot_place i n s c.loop-s-test.true ∙ ap (λ x. slot x s) (sym c.inode-inode.ensures);
    }

pub returns-then-not-enter-clause-keeps : goal.returns-then-not-enter-clause-keeps
returns-then-not-enter-clause-keeps c = λ k is. c.enter.ensures.keeps k (c.loop-s.invariant.keeps k is)

pub returns-then-not-is_marked-clause-bad : goal.returns-then-not-is_marked-clause-bad
returns-then-not-is_marked-clause-bad c = sym (ap not (unmarked c.args.image.now c.args.n (sym c.is_marked.ensures ∙ c.if-not-is_marked.true)))

pub returns-then-not-enter-clause-bad : goal.returns-then-not-enter-clause-bad
returns-then-not-enter-clause-bad c =
    let i = c.args.image.now in
    let n = c.args.n in
    let s = c.loop-s.s in
    sym (ap not (place_bad i n (sym c.is_marked.ensures ∙ c.if-not-is_marked.false)
    (c.enter.ensures.bad c.if-not-enter.true n (index_of i s)
    (ap (λ l. zone_at i.geometry (contents i) ((contents i).inodes n) l (index_of i s)) c.level_of.ensures
    ∙ slot_place i n s c.loop-s-test.true ∙ ap (λ x. slot x s) (sym c.inode-inode.ensures)))))

pub loop-s-preserved : goal.loop-s-preserved
loop-s-preserved c =
    let i = c.args.image.now in
    let n = c.args.n in
    let Fine : ℕ → Type 0 = λ k. IsFine i c.enter.new.entered (level_of k) (slot ((contents i).inodes n) k) in
    let P : ℕ → Type 0 = λ l. IsFine i c.enter.new.entered l (slot c.inode-inode.result c.loop-s.s) in
    let Q : ℕ → Type 0 = λ z. IsFine i c.enter.new.entered (level_of c.loop-s.s) z in
    record {
      swept = c.enter.ensures.swept;
      keeps = λ k is. c.enter.ensures.keeps k (c.loop-s.invariant.keeps k is);
      fine = below_more Fine c.loop-s.s
          (λ k h. fine_keeps i c.loop-s.entered c.enter.new.entered c.enter.ensures.keeps (level_of k) (slot ((contents i).inodes n) k) (c.loop-s.invariant.fine k h))
          (subst Q (ap (λ x. slot x c.loop-s.s) c.inode-inode.ensures) (subst P c.level_of.ensures (c.enter.ensures.fine c.if-not-enter.false)));
    }

pub returns-clause-slots : goal.returns-clause-slots
returns-clause-slots c = λ _ _ s h. c.loop-s.invariant.fine s (omega arith)

pub returns-clause-bad : goal.returns-clause-bad
returns-clause-bad c = sym (ap not (fine_inode c.args.image.now c.loop-s.entered c.loop-s.invariant.swept c.args.n (λ s h. c.loop-s.invariant.fine s (omega arith))))
