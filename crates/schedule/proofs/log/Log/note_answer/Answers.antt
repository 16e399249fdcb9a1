use Rattle.std.proofs.Common.{◌≡◌, refl, arith, rules, length, [], ◌∷◌}
use Rattle.schedule.proofs.NotedLaws.{has_room}
use Rattle.schedule.proofs.KeptLaws.{same_ones, said_more, within_more, accepted_same, answer_is, last_within}
use Rattle.schedule.proofs.log.Log.note_answer.Goals as goal

pub invariant_of-self : goal.invariant_of-self
invariant_of-self c = let l = c.args.self.now in
    let last : c.len-at.result ≡ length l.replies.items = search rules in
    record {
      listed = accepted_same _ _ _ _ l.listed c.push_reserved-2.ensures.items refl;
      within = within_more _ _ _ _ _ _ _ (same_ones l.bytes.items) (c.args.reply ∷ [], c.push_reserved.ensures.items) l.within
          c.push_reserved-2.ensures.items (omega arith, last_within _ _ c.args.reply _ last c.push_reserved.ensures.items);
    }

pub returns-clause-said : goal.returns-clause-said
returns-clause-said c = let l = c.args.self.now in
    let last : c.len-at.result ≡ length l.replies.items = search rules in
    said_more _ _ _ _ _ _ _ _ _ (has_room _ _ c.requires) (same_ones l.bytes.items) (c.args.reply ∷ [], c.push_reserved.ensures.items)
    l.within c.push_reserved-2.ensures.items (answer_is _ _ _ _ _ c.args.reply _ last c.push_reserved.ensures.items)
