use Rattle.std.proofs.Common.{◌≡◌, ◌<◌, ◌+◌, ℕ, sym, ap, subst, ◌∙◌, arith}
use mathlib.Core.Logic.{inl, inr}
use Rattle.std.proofs.lemmas.Bool.{cases_lt}
use Rattle.std.specs.Prelude.{min}
use Rattle.lemmas.specs.Sums.{sum_below}
use Rattle.fsck.specs.Findings.{names_in_of}
use Rattle.image.specs.Contents.{contents}
use Rattle.fsck.proofs.Counts.{sum_more, no_sum}
use Rattle.fsck.proofs.scan.tables.count_names.Goals as goal
use Rattle.fsck.specs.Form.{form_of}

pub loop-n-init : goal.loop-n-init
loop-n-init c =
    let form = form_of c.args.version in
    record {
      most = λ m. omega (arith, c.requires.fresh m);
      named_size = c.requires.named_size;
      namer_size = c.requires.namer_size;
      counted = λ m h. let none = no_sum (λ n. names_in_of form c.args.image.now.geometry (contents c.args.image.now) n m) in
          omega (arith, c.requires.fresh m);
      noted = λ m h some. let none = no_sum (λ n. names_in_of form c.args.image.now.geometry (contents c.args.image.now) n m) in
          absurd (omega arith);
    }

pub loop-n-preserved : goal.loop-n-preserved
loop-n-preserved c =
    let form = form_of c.args.version in
    let i = c.args.image.now in
    let n = c.loop-n.n in
    let f : ℕ → ℕ → ℕ = λ n m. names_in_of form i.geometry (contents i) n m in
    let before = c.loop-n.invariant in
    let more = c.count_names_in.ensures.more in
    record {
      most = c.count_names_in.ensures.most;
      named_size = more.named_size ∙ before.named_size;
      namer_size = more.namer_size ∙ before.namer_size;
      counted = λ m h. omega (arith, before.counted m h, more.counted m (omega (arith, before.named_size)), sum_more (λ n. f n m) n);
      noted = λ m h some.
          let inside = before.named_size in
          let l : m < _ = omega arith in
          let P : ℕ → Type 0 = λ k. 0 < f k m in
          elim (cases_lt 0 (f n m)) [
            | inl now ↦ subst P (sym (more.noted m l now)) now
            | inr none ↦
                let sum = sum_more (λ n. f n m) n in
                let zero : f n m ≡ 0 = omega arith in
                subst P (sym (more.kept m l zero)) (before.noted m h (omega arith))
          ];
    }

pub returns : goal.returns
returns c =
    let form = form_of c.args.version in
    let i = c.args.image.now in
    let e : c.geometry-n-end.result.inodes ≡ i.geometry.inodes = ap (λ g. g.inodes) c.geometry-n-end.ensures in
    let all : c.loop-n.n ≡ i.geometry.inodes + 1 = omega arith in
    let done = c.loop-n.invariant in
    record {
      named_size = done.named_size;
      namer_size = done.namer_size;
      counted = λ m h. done.counted m h ∙ ap (λ k. min 32768 (sum_below (λ n. names_in_of form i.geometry (contents i) n m) k)) all;
      noted = λ m h some. done.noted m h (let same = ap (sum_below (λ n. names_in_of form i.geometry (contents i) n m)) all
          in omega arith);
    }
