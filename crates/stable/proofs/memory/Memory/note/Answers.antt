use Rattle.std.proofs.Common.{inr, List, [], ◌∷◌, ◌++◌, refl, ◌∙◌, ap, Some, Bool, ◌==◌, not}
use Rattle.std.proofs.lemmas.Bool.Decides.{Decides-eqb}
use Rattle.stable.specs.declared.memory.Happening.{Happening}
use Rattle.stable.specs.Disk.{Event, Failed, restarted}
use Rattle.stable.specs.Runs.{Known}
use Rattle.stable.specs.Memory.{contents_of, step_of}
use Rattle.stable.proofs.Writes.{noted_failure}
use Rattle.stable.proofs.memory.Memory.note.Goals as goal

pub returns-else-done : goal.returns-else-done
returns-else-done c =
    let history : List Happening = c.args.self.now.history.items in
    let done : Bool = not (c.len.result == c.args.self.now.fails_at) in
    let item : Happening = record { asked = c.args.asked; done = done } in
    let whole = noted_failure history c.push_reserved.new.self.items c.args.asked done
    (c.push_reserved.ensures.items ∙ ap (λ (l : List Happening). l ++ item ∷ []) c.in_ok-reserve.ensures.items)
    (ap not ((Decides-eqb c.len.result c.args.self.now.fails_at).1 c.if-done.false)) in (
      Failed (step_of c.args.asked) ∷ [],
      inr (record { before = []; at = step_of c.args.asked; after = []; parts = refl; events_are = refl }),
      ap (λ (es : List Event). let k : Known = record { first = restarted (contents_of c.args.self.now.log.items) (contents_of c.args.self.now.image.items); events = es } in Some k) whole,
    )
