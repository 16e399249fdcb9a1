use Rattle.std.proofs.Common.{◌≡◌, refl, ◌∙◌, ap}
use Rattle.message.specs.declared.Incoming.TheVariants as incoming
use Rattle.records.specs.Told.{heard}
use Rattle.reissue.specs.Notes.{history_of}
use Rattle.reissue.specs.Grows.{grows_heard}
use Rattle.reissue.proofs.list_link.ListLinkLink.take.Goals.{then-self-via-then-self, then-self-via-else-self+then-self-eq0, then-self-via-else-self+else-self-eq0+then-not-make_room}
use Rattle.reissue.proofs.list_link.ListLinkLink.take.Goals as goal

pub returns-then-self-clause-goes : goal.returns-then-self-clause-goes
returns-then-self-clause-goes c =
    let was = c.args.self.now.notes in
    let mid = c.then-self.self.notes in
    let same : history_of mid.ended mid.items.items ≡ history_of was.ended was.items.items = elim c.then-self.branch [
      | then-self-via-then-self w ↦ rw w.self-is refl
      | then-self-via-else-self+then-self-eq0 w ↦ rw w.self-is refl
      | then-self-via-else-self+else-self-eq0+then-not-make_room w ↦ rw w.self-is w.make_room.ensures.history
    ] in
    grows_heard incoming.End _ _ (c.end.ensures.history ∙ ap (heard incoming.End) same)

pub returns-clause-goes : goal.returns-clause-goes
returns-clause-goes c = grows_heard c.unwrap_or-message.result _ _ (c.heard.ensures.history ∙ ap (heard c.unwrap_or-message.result) c.make_room.ensures.history)
