use Rattle.std.proofs.Common.{refl, arith}
use Rattle.schedule.proofs.NotedLaws.{has_room}
use Rattle.schedule.proofs.KeptLaws.{same_ones, said_more, within_more, accepted_same}
use Rattle.schedule.proofs.log.Log.note_fault.Goals as goal

pub invariant_of-self : goal.invariant_of-self
invariant_of-self c = let l = c.args.self.now in record {
  listed = accepted_same _ _ _ _ l.listed c.push_reserved.ensures.items refl;
  within = within_more _ _ _ _ _ _ _ (same_ones l.bytes.items) (same_ones l.replies.items) l.within c.push_reserved.ensures.items
      (omega arith, omega arith);
}

pub returns-clause-said : goal.returns-clause-said
returns-clause-said c = let l = c.args.self.now in
    said_more _ _ _ _ _ _ _ _ _ (has_room _ _ c.requires) (same_ones l.bytes.items) (same_ones l.replies.items) l.within
    c.push_reserved.ensures.items refl
