use Rattle.std.proofs.Common.{◌≡◌, ◌≤◌, ℕ, ◌+◌, List, length, sym, ap, subst, ◌∙◌, arith}
use Rattle.cache.specs.Uses.{AllBelow, IsNewest, KeepsOrder}
use Rattle.cache.proofs.Order.{Numbered, numbered_all, rank_most, numbered_below, numbered_order, newest_keeps}
use Rattle.cache.proofs.uses.Uses.renumber.Goals as goal

pub invariant_of-self-2 : goal.invariant_of-self-2
invariant_of-self-2 c =
    let s = c.loop-at.self in
    let old = c.args.self.now.numbers.items in
    let new = c.loop-at.self.spare.items in
    let i = c.loop-at.invariant in
    let same : c.loop-at.self.numbers.items ≡ old = ap (λ v. v.items) i.numbers in
    let h : Numbered old new (length old) =
    numbered_all old new c.loop-at.at i.within (omega (arith, c.loop-at-test.false, c.len-at-end.ensures)) i.numbered in
    let x : c.swap.new.x.items ≡ new = ap (λ v. v.items) c.swap.ensures.x_after in
    let y : c.swap.new.y.items ≡ old = ap (λ v. v.items) c.swap.ensures.y_after ∙ same in
    let count : length c.swap.new.x.items ≡ length old = ap (λ (l : List ℕ). length l) x ∙ h.count in
    let is : c.len.result ≡ length old = omega (arith, c.len.ensures, c.swap.new.x.ok, count) in
    let few : length old ≤ s.limit = let n = ap (λ (l : List ℕ). length l) same in let k = s.few in omega (arith, n, k) in
    let most : s.limit ≤ 4096 = s.most in
    record {
      below = subst (λ (n : ℕ). AllBelow c.swap.new.x.items (n + 1)) (sym is)
          (subst (λ (l : List ℕ). AllBelow l (length old + 1)) (sym x) (numbered_below old new h));
      bound = omega (arith, is, few, most);
      few = omega (arith, count, few);
      most = most;
      paired = ap (λ (l : List ℕ). length l) y ∙ sym count;
      last = subst (λ (l : List ℕ). IsNewest l s.newest) (sym x)
          (newest_keeps old new s.newest (numbered_order old new h) (subst (λ (l : List ℕ). IsNewest l s.newest) same s.last));
    }

pub returns-clause-order : goal.returns-clause-order
returns-clause-order c =
    let old = c.args.self.now.numbers.items in
    let new = c.loop-at.self.spare.items in
    let i = c.loop-at.invariant in
    let h : Numbered old new (length old) =
    numbered_all old new c.loop-at.at i.within (omega (arith, c.loop-at-test.false, c.len-at-end.ensures)) i.numbered in
    let x : c.swap.new.x.items ≡ new = ap (λ v. v.items) c.swap.ensures.x_after in
    subst (λ (l : List ℕ). KeepsOrder old l) (sym x) (numbered_order old new h)

pub overflow_add-rank : goal.overflow_add-rank
overflow_add-rank c =
    let few = rank_most c.index.result.now c.deref.result.now in
    let same : length c.deref.result.now ≡ length c.loop-at.self.numbers.items = ap (λ (l : List ℕ). length l) c.deref.ensures.value in
    let ok = c.loop-at.self.numbers.ok in
    let small = c.loop-at.self.numbers.small in
    omega (arith, c.rank.ensures, few, same)
