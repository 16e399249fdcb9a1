use Rattle.std.proofs.Common.{refl, arith, ap}
use Rattle.message.specs.declared.Incoming.{Incoming}
use Rattle.schedule.specs.declared.log.LogEntry.TheVariants as entry
use Rattle.schedule.proofs.NotedLaws.{has_room}
use Rattle.schedule.proofs.KeptLaws.{same_ones, said_more, within_more, accepted_same}
use Rattle.schedule.proofs.log.Log.note_received.Goals as goal

pub invariant_of-self : goal.invariant_of-self
invariant_of-self c = let l = c.args.self.now in record {
  listed = accepted_same _ _ _ _ l.listed c.push_reserved.ensures.items refl;
  within = within_more _ _ _ _ _ _ _ c.keep_message-kept.ensures.grown (same_ones l.replies.items) l.within c.push_reserved.ensures.items
      (c.keep_message-kept.ensures.within, omega arith);
}

pub returns-clause-said : goal.returns-clause-said
returns-clause-said c = let l = c.args.self.now in
    said_more _ _ _ _ _ _ _ _ _ (has_room _ _ c.requires) c.keep_message-kept.ensures.grown (same_ones l.replies.items) l.within
    c.push_reserved.ensures.items (ap (λ (m : Incoming). entry.Received m) c.keep_message-kept.ensures.message)
