use Rattle.std.proofs.Common.{◌≡◌, ◌∙◌, length, refl, arith}
use Rattle.cache.specs.Uses.{IsLonger}
use Rattle.cache.proofs.Order.{longer_by, below_longer, newest_longer}
use Rattle.cache.proofs.uses.Uses.longer.Goals as goal

pub invariant_of-result : goal.invariant_of-result
invariant_of-result c =
    let s = c.args.self.now in
    let new = c.resize.new.self in
    let same : c.in_ok-numbers.numbers.items ≡ s.numbers.items = c.in_ok-numbers.ensures.items ∙ c.deref.ensures.value in
    let many : c.in_ok-numbers.numbers.len ≡ length s.numbers.items = omega (arith, c.in_ok-numbers.ensures.len, c.deref.ensures.len, s.numbers.ok) in
    let count : length new.items ≡ c.args.count = omega (arith, new.ok, c.in_ok-resize.ensures.len) in
    let by = c.in_ok-resize.ensures.by_index in
    let l : IsLonger s.numbers.items new.items c.args.count =
    longer_by s.numbers.items c.in_ok-numbers.numbers.items new.items _ c.args.count same many c.requires.more count
    (λ k d lt here. by.0 k d lt here) (λ k d le lt. by.1 k d refl le lt) in
    record {
      below = below_longer s.numbers.items new.items c.args.count s.next c.requires.some l s.below;
      bound = s.bound;
      few = omega (arith, count, c.requires.few);
      most = s.most;
      paired = omega (arith, count, c.in_ok-vec.field-0.ok, c.in_ok-vec.ensures.len);
      last = newest_longer s.numbers.items new.items c.args.count s.newest c.requires.some l s.last;
    }
