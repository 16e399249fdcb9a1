use Rattle.std.proofs.Common.{◌-◌, ◌≡◌, ◌<◌, ◌≤◌, ◌^◌, ℕ, Some, length}
use Rattle.std.specs.Prelude.{slice_get}
use Rattle.cache.specs.declared.index.Entry.{Entry}
use Rattle.cache.proofs.Halves.{Left}
use Rattle.cache.proofs.index.Index.look.Given as goal

abbrev pub invariant-halves : goal.invariant-halves
invariant-halves l = record {
  order : l.low ≤ l.high;
  within : l.high ≤ length l.self.entries.items;
  below : (i : ℕ) (e : Entry) → i < l.low → slice_get l.self.entries.items i ≡ Some e → e.block < l.block;
  above : (i : ℕ) (e : Entry) → l.high ≤ i → slice_get l.self.entries.items i ≡ Some e → l.block < e.block;
  left : (k : ℕ) → length l.self.entries.items < 2 ^ k → Left (l.high - l.low) l.fn.steps l.steps k;
}

abbrev pub decreases-halves : goal.decreases-halves
decreases-halves l = l.high - l.low
