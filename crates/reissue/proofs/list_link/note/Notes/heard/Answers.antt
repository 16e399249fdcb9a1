use Rattle.std.proofs.Common.{refl}
use Rattle.reissue.specs.declared.list_link.note.Note.TheVariants as note
use Rattle.reissue.proofs.NotesLaws.{unended_push, heard_push}
use Rattle.reissue.proofs.list_link.note.Notes.heard.Goals as goal

pub invariant_of-self : goal.invariant_of-self
invariant_of-self c = record { unended = unended_push c.args.self.now.items.items c.push_reserved.new.self.items (note.Received c.args.message) c.push_reserved.ensures.items (rw c.in-Reply.is refl) c.args.self.now.unended }

pub returns-in-Reply-clause-history : goal.returns-in-Reply-clause-history
returns-in-Reply-clause-history c = heard_push c.args.self.now.ended c.args.self.now.items.items c.push_reserved.new.self.items c.args.message c.requires.live (rw c.in-Reply.is refl) c.push_reserved.ensures.items

pub invariant_of-self-in-Started : goal.invariant_of-self-in-Started
invariant_of-self-in-Started c = record { unended = unended_push c.args.self.now.items.items c.push_reserved-in-Started.new.self.items (note.Received c.args.message) c.push_reserved-in-Started.ensures.items (rw c.in-Started.is refl) c.args.self.now.unended }

pub returns-in-Started-clause-history : goal.returns-in-Started-clause-history
returns-in-Started-clause-history c = heard_push c.args.self.now.ended c.args.self.now.items.items c.push_reserved-in-Started.new.self.items c.args.message c.requires.live (rw c.in-Started.is refl) c.push_reserved-in-Started.ensures.items

pub invariant_of-self-in-GaveUp : goal.invariant_of-self-in-GaveUp
invariant_of-self-in-GaveUp c = record { unended = unended_push c.args.self.now.items.items c.push_reserved-in-GaveUp.new.self.items (note.Received c.args.message) c.push_reserved-in-GaveUp.ensures.items (rw c.in-GaveUp.is refl) c.args.self.now.unended }

pub returns-in-GaveUp-clause-history : goal.returns-in-GaveUp-clause-history
returns-in-GaveUp-clause-history c = heard_push c.args.self.now.ended c.args.self.now.items.items c.push_reserved-in-GaveUp.new.self.items c.args.message c.requires.live (rw c.in-GaveUp.is refl) c.push_reserved-in-GaveUp.ensures.items

pub invariant_of-self-in-Flush : goal.invariant_of-self-in-Flush
invariant_of-self-in-Flush c = record { unended = unended_push c.args.self.now.items.items c.push_reserved-in-Flush.new.self.items (note.Received c.args.message) c.push_reserved-in-Flush.ensures.items (rw c.in-Flush.is refl) c.args.self.now.unended }

pub returns-in-Flush-clause-history : goal.returns-in-Flush-clause-history
returns-in-Flush-clause-history c = heard_push c.args.self.now.ended c.args.self.now.items.items c.push_reserved-in-Flush.new.self.items c.args.message c.requires.live (rw c.in-Flush.is refl) c.push_reserved-in-Flush.ensures.items
