use Rattle.std.proofs.Common.{◌≡◌, ap, ◌∙◌, None, ℕ, arith, replicate}
use Rattle.tree.specs.Tree.{most_sessions, most_descriptors}
use Rattle.descriptors.proofs.Made.{made_table, made_files}
use Rattle.descriptors.proofs.table.Descriptors.new.Goals as goal

pub invariant_of-result : goal.invariant_of-result
invariant_of-result c = made_table _ _ c.in_ok-new.ensures (let all : c.loop-session._session ≡ most_sessions = omega arith in c.loop-session.invariant ∙ ap (λ (n : ℕ). replicate n (replicate most_descriptors None)) all)

pub returns : goal.returns
returns c = made_files _ _ c.in_ok-new.ensures (let all : c.loop-session._session ≡ most_sessions = omega arith in c.loop-session.invariant ∙ ap (λ (n : ℕ). replicate n (replicate most_descriptors None)) all)
