use Rattle.reissue.proofs.NotesLaws.{unended_push, told_room}
use Rattle.reissue.proofs.list_link.note.Notes.told.Goals as goal

pub invariant_of-self : goal.invariant_of-self
invariant_of-self c = record { unended = unended_push c.args.self.now.items.items c.push_reserved.new.self.items c.args.note c.push_reserved.ensures.items c.requires.kind c.args.self.now.unended }

pub returns-clause-history : goal.returns-clause-history
returns-clause-history c = told_room c.args.self.now.ended _ _ c.args.self.now.items.items c.push_reserved.new.self.items c.args.note c.requires.room c.push_reserved.ensures.items
