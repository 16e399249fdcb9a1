use Rattle.std.proofs.Common.{◌<◌, ◌^◌, Err, refl, sym, ap, subst, ◌∙◌, arith, rules}
use Rattle.std.specs.Prelude.{Result, ℕ}
use Rattle.errno.specs.declared.Errno.{Errno}
use Rattle.tree.specs.IsCall.{IsBytes}
use Rattle.tree.specs.Answers.{answer_of, refused}
use Rattle.tree.specs.FileCalls.{open_path}
use Rattle.calls_attributes.specs.Does.{Does, IsHeld}
use Rattle.block_store.specs.declared.Halt.{Halt}
use Rattle.block_store.specs.Halts.{Ends}
use Rattle.descriptors.specs.Files.{HasFiles}
use Rattle.descriptors.specs.Table.{files_of}
use Rattle.block_store.proofs.Turns.{turns_as, turns_none}
use Rattle.path.specs.declared.stop.Stop.{Stop}
use Rattle.path.specs.Stops.{Answers}
use Rattle.calls_names.specs.Opening.{IsPut, Readies, open_named}
use Rattle.calls_names.proofs.Slots.{is_begun}
use Rattle.calls_names.proofs.OpenBody.{begin_refused, not_large, open_done, open_halted, ready_refused}
use Rattle.calls_names.proofs.opening.«open».Goals as goal

pub returns-in-Err-clause-turns : goal.returns-in-Err-clause-turns
returns-in-Err-clause-turns g c =
    let a = c.args in
    turns_as _ _ _ _ _
    (λ d e same. begin_refused a.geometry.now c.requires.on.geometry a.user a.now a.session a.path a.flags a.mode (files_of a.opens.now) d e (files_of a.opens.now) c.in-Err.errno same refl
    (sym c.in-Err.ensures.asked))
    (turns_none _ g.met.B.Blocks.lawful _ c.requires.on.ready)

pub returns-in-Ok-try_from-clause-turns : goal.returns-in-Ok-try_from-clause-turns
returns-in-Ok-try_from-clause-turns g c =
    let a = c.args in
    let f = files_of a.opens.now in
    let begun = is_begun f a.session a.flags.0 a.mode (sym c.in_default.ensures.asked) in
    let small : a.now < 2 ^ 32 = (let k = c.ranges.now.fits in omega (arith, k)) in
    let uid : a.user.uid < 2 ^ 16 = search rules in
    let gid : a.user.gid < 2 ^ 16 = search rules in
    let bytes : IsBytes a.path.bytes.now = c.are_bytes.ensures in
    turns_as _ _ _ _ _
    (λ d e p. open_done a.geometry.now c.requires.on.geometry a.user a.now a.session a.path a.flags a.mode f begun d e c.in-Ok.number p (files_of c.put.new.opens) (answer_of c.put.new.reply)
    (subst (λ n. IsPut f a.session n a.flags.0 (answer_of c.put.new.reply) (files_of c.put.new.opens)) c.in-Ok-try_from.ensures.1 c.put.ensures)
    c.requires.session small uid gid bytes)
    c.in-Ok.ensures.turns

pub returns-in-Err-try_from-clause-turns : goal.returns-in-Err-try_from-clause-turns
returns-in-Err-try_from-clause-turns g c =
    let a = c.args in
    let f = files_of a.opens.now in
    let begun = is_begun f a.session a.flags.0 a.mode (sym c.in_default.ensures.asked) in
    let big : 65535 < c.in-Ok.number = search rules in
    turns_as _ _ _ _ _
    (λ d e p held. not_large a.geometry.now c.requires.on.geometry a.user a.now a.session a.path a.flags a.mode f begun d e c.in-Ok.number p big held)
    c.in-Ok.ensures.turns

pub returns-in-Err-Refused-clause-turns : goal.returns-in-Err-Refused-clause-turns
returns-in-Err-Refused-clause-turns g c =
    let a = c.args in
    let v = a.geometry.now in
    let f = files_of a.opens.now in
    let begun = is_begun f a.session a.flags.0 a.mode (sym c.in_default.ensures.asked) in
    turns_as _ _ _ _ _
    (λ d e p. subst (λ (x : Errno). Does v (λ t. open_path v t a.user a.now a.session a.path a.flags.0 a.mode) (refused x) (HasFiles f) (HasFiles f) d e) (sym c.in-Err-Refused.errno-is)
    (ready_refused v c.requires.on.geometry a.user a.now a.session a.path a.flags a.mode f begun d e f c.in-Err-Refused.errno refl
    (λ t holds. subst (λ (s : Result ℕ Stop). Answers s (Readies v t (open_named v t a.user a.now a.path a.flags.0 a.mode) a.flags.0 d e))
    (c.in-Err-Refused.is ∙ ap (λ x. Err x) c.in-Err-Refused.field-0-is) (p t holds))))
    c.ready.ensures.turns

pub returns-in-Err-Halted-clause-turns : goal.returns-in-Err-Halted-clause-turns
returns-in-Err-Halted-clause-turns g c =
    let a = c.args in
    let v = a.geometry.now in
    let f = files_of a.opens.now in
    turns_as _ _ _ _ _
    (λ d e p. subst (λ (h : Halt). Ends (Err h) (λ (u : Unit {0}). Does v (λ t. open_path v t a.user a.now a.session a.path a.flags.0 a.mode) (answer_of a.reply.now) (HasFiles f) (HasFiles f) d e)
    (IsHeld v (HasFiles f) d)) (sym c.in-Err-Halted.halt-is)
    (open_halted v (HasFiles f) d c.in-Err-Halted.halt (λ (u : Unit {0}). Does v (λ t. open_path v t a.user a.now a.session a.path a.flags.0 a.mode) (answer_of a.reply.now) (HasFiles f) (HasFiles f) d e) (λ t. Readies v t (open_named v t a.user a.now a.path a.flags.0 a.mode) a.flags.0 d e)
    (λ t holds. subst (λ (s : Result ℕ Stop). Answers s (Readies v t (open_named v t a.user a.now a.path a.flags.0 a.mode) a.flags.0 d e))
    (c.in-Err-Halted.is ∙ ap (λ x. Err x) c.in-Err-Halted.field-0-is) (p t holds))))
    c.ready.ensures.turns
