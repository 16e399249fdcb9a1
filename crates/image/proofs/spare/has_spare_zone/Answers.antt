use Rattle.std.proofs.Common.{◌≡◌, ◌<◌, ◌≤◌, ◌+◌, ◌-◌, ◌^◌, ℕ, Bool, true, false, sym, ap, subst, ◌∙◌, below_more, arith}
use Rattle.tree.specs.Space.{pages_of}
use Rattle.volume.specs.Nodes.{slot}
use Rattle.volume.specs.Places.{zone_at}
use Rattle.image.specs.Contents.{contents}
use Rattle.image.specs.Entered.{level_of}
use Rattle.image.proofs.Contents.{slot_place}
use Rattle.image.specs.Spare.{index_of, is_spare}
use Rattle.image.proofs.Spares.{no_spare, some_spare, unmarked_spare, slot_near}
use Rattle.image.proofs.spare.has_spare_zone.Goals as goal

pub is_spare-requires : goal.is_spare-requires
is_spare-requires c =
    let i = c.args.image.now in
    let n = c.args.n in
    let s = c.loop-s.s in
    let near = slot_near s c.loop-s-test.true in
    let P : ℕ → Type 0 = λ l. (l < 4) × (index_of s + 8 ≤ 1024 ^ (4 - l)) in
    let here : P c.level_of.result = subst P (sym c.level_of.ensures) near in
    let k = c.index_of.ensures in
    record {
      low = here.0;
      near = omega (arith, here.1);
      pages = c.pages-pages.ensures ∙ ap (λ x. pages_of i.geometry x.size) c.inode-inode.ensures;
      zone = ap (λ x. slot x s) c.inode-inode.ensures ∙ sym (slot_place i n s c.loop-s-test.true)
          ∙ (λ x. zone_at i.geometry (contents i) ((contents i).inodes n) (sym c.level_of.ensures x) (sym c.index_of.ensures x));
    }

pub returns-then-not-is_marked : goal.returns-then-not-is_marked
returns-then-not-is_marked c = sym (unmarked_spare c.args.image.now c.args.n (sym c.is_marked.ensures ∙ c.if-not-is_marked.true))

pub returns-then-is_spare : goal.returns-then-is_spare
returns-then-is_spare c =
    let i = c.args.image.now in
    let n = c.args.n in
    let s = c.loop-s.s in
    sym (some_spare i n (sym c.is_marked.ensures ∙ c.if-not-is_marked.false) (level_of s) (index_of s) (slot_near s c.loop-s-test.true).0
    ((λ x. is_spare i n (sym c.level_of.ensures x) (sym c.index_of.ensures x)) ∙ sym c.is_spare.ensures ∙ c.if-is_spare.true))

pub loop-s-preserved : goal.loop-s-preserved
loop-s-preserved c =
    let i = c.args.image.now in
    let P : ℕ → Type 0 = λ s. is_spare i c.args.n (level_of s) (index_of s) ≡ false in
    below_more P c.loop-s.s c.loop-s.invariant
    ((λ x. is_spare i c.args.n (sym c.level_of.ensures x) (sym c.index_of.ensures x)) ∙ sym c.is_spare.ensures ∙ c.if-is_spare.false)

pub returns : goal.returns
returns c = sym (no_spare c.args.image.now c.args.n (λ s h. c.loop-s.invariant s (omega arith)))
