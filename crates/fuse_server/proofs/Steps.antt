-- What is known goes on by what becomes of nodes, and by nothing else.
use Rattle.std.proofs.Common.{◌≡◌, ℕ, Option, subst, sym}
use Rattle.fuse_nodes.specs.Known.{Known}
use Rattle.fuse_nodes.specs.Changes.{told, forgotten, opened, closed, without_descriptor, with_descriptor, lost}
use Rattle.fuse_nodes.specs.Laws.{Step, Steps}
use Rattle.fuse_nodes.specs.Laws.Step.{Told, Forgotten, Opened, Closed, Given, Got, Lost}
use Rattle.fuse_nodes.specs.Laws.Steps.{Starts, Then}
use Rattle.fuse_nodes.specs.declared.node.Descriptor.{Descriptor}
use Rattle.fuse_nodes.specs.declared.node.NodeKind.{NodeKind}

-- steps behind others
pub steps_on : {k l m : Known} → Steps k l → Steps l m → Steps k m
steps_on first Starts = first
steps_on first (Then l m before last) = Then l m (steps_on first before) last

-- none
pub no_step : {k l : Known} → l ≡ k → Steps k l
no_step {k} same = let P : Known → Type 0 = λ x. Steps k x in subst P (sym same) Starts

-- one
one_step : {k l m : Known} → m ≡ l → Step k l → Steps k m
one_step {k} {l} same step = let P : Known → Type 0 = λ x. Steps k x in subst P (sym same) (Then k l Starts step)

pub step_forgotten : {k l : Known} (id count : ℕ) → l ≡ forgotten k id count → Steps k l
step_forgotten id count same = one_step same (Forgotten id count)

pub step_opened : {k l : Known} (id : ℕ) (descriptor : Option Descriptor) → l ≡ opened k id descriptor → Steps k l
step_opened id descriptor same = one_step same (Opened id descriptor)

pub step_closed : {k l : Known} (id : ℕ) → l ≡ closed k id → Steps k l
step_closed id same = one_step same (Closed id)

pub step_given : {k l : Known} (id : ℕ) → l ≡ without_descriptor k id → Steps k l
step_given id same = one_step same (Given id)

pub step_got : {k l : Known} (id : ℕ) (descriptor : Descriptor) → l ≡ with_descriptor k id descriptor → Steps k l
step_got id descriptor same = one_step same (Got id descriptor)

pub step_lost : {k l : Known} (inode : ℕ) → l ≡ lost k inode → Steps k l
step_lost inode same = one_step same (Lost inode)

pub step_told : {k l : Known} (inode : ℕ) (kind : NodeKind) → l ≡ told k inode kind → Steps k l
step_told inode kind same = one_step same (Told inode kind)
