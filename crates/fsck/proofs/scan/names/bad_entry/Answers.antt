use Rattle.std.proofs.Common.{◌≡◌, ℕ, false, sym, ap, ◌∙◌, below_more, arith}
use mathlib.Core.Logic.{inl, inr}
use Rattle.std.proofs.lemmas.Bool.{cases_lt}
use Rattle.fsck.specs.Findings.{has_bad_entry}
use Rattle.volume.specs.Verdict.{place_limit}
use Rattle.image.specs.Contents.{contents}
use Rattle.image.proofs.Leasts.{some_least, none_least}
use Rattle.fsck.proofs.Directories.{no_directory, past_directories}
use Rattle.fsck.proofs.scan.names.bad_entry.Goals as goal
use Rattle.fsck.specs.Form.{form_of}

pub returns-then-branch : goal.returns-then-branch
returns-then-branch c =
    let form = form_of c.args.version in
    let i = c.args.image.now in
    let e : c.geometry-n-end.result.inodes ≡ i.geometry.inodes = ap (λ g. g.inodes) c.geometry-n-end.ensures in
    some_least (has_bad_entry form i.geometry (contents i)) (place_limit i.geometry) c.loop-n.n (omega arith)
    (sym c.in_ok-has_bad_entry.ensures ∙ c.if-branch.true) c.loop-n.invariant

pub loop-n-preserved : goal.loop-n-preserved
loop-n-preserved c =
    let form = form_of c.args.version in
    let i = c.args.image.now in
    let P : ℕ → Type 0 = λ k. has_bad_entry form i.geometry (contents i) k ≡ false in
    below_more P c.loop-n.n c.loop-n.invariant (sym c.in_ok-has_bad_entry.ensures ∙ c.if-branch.false)

pub returns : goal.returns
returns c =
    let form = form_of c.args.version in
    let i = c.args.image.now in
    let e : c.geometry-n-end.result.inodes ≡ i.geometry.inodes = ap (λ g. g.inodes) c.geometry-n-end.ensures in
    none_least (has_bad_entry form i.geometry (contents i)) (place_limit i.geometry)
    (λ k h. elim (cases_lt k c.loop-n.n) [
      | inl low ↦ c.loop-n.invariant k low
      | inr far ↦ sym
          (no_directory i k _ (past_directories i k (omega arith)))
    ])
