use Rattle.std.proofs.Common.{[], refl}
use Rattle.reissue.specs.declared.table.AnswerEffect.TheVariants as answer
use Rattle.reissue.proofs.Messages.{takes_reply, takes_started, takes_flush, takes_gave_up, takes_end}
use Rattle.reissue.proofs.transfers.Transfers.take_in.Goals as goal

pub returns-in-Dropped-clause-takes : goal.returns-in-Dropped-clause-takes
returns-in-Dropped-clause-takes g c = let e = c.in-Dropped.ensures in
    takes_reply _ c.in-Reply.reply answer.Dropped [] _ _ _ _ _ _ c.in-Reply.is e.agrees e.hears e.due e.closes e.closing e.minors e.current e.given_up refl (λ opening marks k. k)

pub returns-in-Rest-clause-takes : goal.returns-in-Rest-clause-takes
returns-in-Rest-clause-takes g c = let e = c.in-Rest.ensures in
    takes_reply _ c.in-Reply.reply answer.Rest [] _ _ _ _ _ _ c.in-Reply.is e.agrees e.hears e.due e.closes e.closing e.minors e.current e.given_up refl (λ opening marks k. k)

pub returns-in-Bad-clause-takes : goal.returns-in-Bad-clause-takes
returns-in-Bad-clause-takes g c = let e = c.in-Bad.ensures in
    takes_reply _ c.in-Reply.reply answer.Bad [] _ _ _ _ _ _ c.in-Reply.is e.agrees e.hears e.due e.closes e.closing e.minors e.current e.given_up c.complain.ensures.told c.complain.ensures.truth

pub returns-in-Read-clause-takes : goal.returns-in-Read-clause-takes
returns-in-Read-clause-takes g c = let e = c.in-Read.ensures in
    takes_reply _ c.in-Reply.reply (answer.Read c.in-Read.ticket) _ _ _ _ _ _ _ c.in-Reply.is e.agrees e.hears e.due e.closes e.closing e.minors e.current e.given_up refl (λ opening marks k. k)

pub returns-in-Written-clause-takes : goal.returns-in-Written-clause-takes
returns-in-Written-clause-takes g c = let e = c.in-Written.ensures in
    takes_reply _ c.in-Reply.reply (answer.Written c.in-Written.ticket) [] _ _ _ _ _ _ c.in-Reply.is e.agrees e.hears e.due e.closes e.closing e.minors e.current e.given_up refl (λ opening marks k. k)

pub returns-in-Started-clause-takes : goal.returns-in-Started-clause-takes
returns-in-Started-clause-takes g c = let e = c.restart.ensures in
    takes_started _ c.in-Started.endpoint _ _ _ _ c.in-Started.is e.items e.posted e.issued e.ids e.current e.given_up

pub returns-in-GaveUp-clause-takes : goal.returns-in-GaveUp-clause-takes
returns-in-GaveUp-clause-takes g c = let e = c.give_up.ensures in
    takes_gave_up _ _ _ _ _ c.in-GaveUp.is e.items e.posted e.issued e.ids e.current e.given_up

pub returns-in-Flush-clause-takes : goal.returns-in-Flush-clause-takes
returns-in-Flush-clause-takes g c = takes_flush _ _ _ _ c.in-Flush.is

pub returns-in-End-clause-takes : goal.returns-in-End-clause-takes
returns-in-End-clause-takes g c = takes_end _ _ _ _ c.in-End.is
