use Rattle.std.proofs.Common.{◌≡◌, ◌+◌, ◌*◌, take, drop, [], arith, sym, ap, ◌∙◌, slice_index}
use mathlib.Core.Logic.{inl, inr}
use Rattle.std.proofs.lemmas.Bool.{cases_lt}
use Rattle.std.proofs.lemmas.List.{take_all, drop_all, append-nil, get_or_past}
use Rattle.volume.specs.Reading.{inode_in}
use Rattle.inode.proofs.RoundTrip.{Fits, read_back}
use Rattle.inode.proofs.encode.Goals as goal

pub returns-clause-bytes : goal.returns-clause-bytes
returns-clause-bytes c =
    let t : take (24 + 4 * c.loop-k.k) c.loop-k.bytes ≡ c.loop-k.bytes = take_all (24 + 4 * c.loop-k.k) c.loop-k.bytes (omega arith) in
    let d : drop c.loop-k.k c.args.inode.now.zones ≡ [] = drop_all c.loop-k.k c.args.inode.now.zones (omega arith) in
    sym (append-nil _) ∙ (rw (t, d) at c.loop-k.invariant.whole)

pub returns-clause-reads : goal.returns-clause-reads
returns-clause-reads c =
    let i = c.args.inode.now in
    let fitting : Fits i = record {
      mode = omega arith;
      links = omega arith;
      uid = omega arith;
      gid = omega arith;
      size = omega arith;
      atime = omega arith;
      mtime = omega arith;
      ctime = omega arith;
      ten = omega arith;
      zones = λ k. elim (cases_lt k 10) [
        | inl low ↦ c.loop-k.invariant.fit k (omega arith)
        | inr past ↦ let none = get_or_past i.zones k 0 (omega arith) in omega arith
      ];
    } in
    ap (λ bytes. inode_in (slice_index bytes) 0) (returns-clause-bytes c) ∙ read_back i fitting
