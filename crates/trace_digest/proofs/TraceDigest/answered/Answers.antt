use Rattle.std.proofs.Common.{refl, sym, ◌∙◌, ap, Option}
use Rattle.std.specs.Prelude.{is_some}
use Rattle.message.specs.declared.BlockRequest.{BlockRequest}
use Rattle.records.specs.Open.{moved_of}
use Rattle.trace_digest.proofs.HeardLaws.{heard_none, moved_at, closes_none, closes_one}
use Rattle.trace_digest.proofs.TraceDigest.answered.Goals as goal

pub returns-in_default : goal.returns-in_default
returns-in_default c = λ marks is.
    closes_none c.args.self.now c.args.self.now marks c.args.reply.now is refl
    (ap (λ (o : Option BlockRequest). is_some (moved_of o c.args.reply.now)) (heard_none c.args.self.now marks c.args.reply.now.id is (sym c.in_default.ensures)))

pub returns-then-is_some : goal.returns-then-is_some
returns-then-is_some c = λ marks is.
    closes_one c.args.self.now _ marks c.args.reply.now c.in-Some.at is (sym c.in-Some.ensures) refl refl refl c.remove.ensures.items
    (ap is_some (moved_at c.args.self.now marks c.args.reply.now c.in-Some.at c.index.result.now c.moved_bytes.result is (sym c.in-Some.ensures)
    c.index.ensures c.moved_bytes.ensures)
    ∙ sym c.is_some.ensures ∙ c.if-is_some.true)

pub returns-else-is_some : goal.returns-else-is_some
returns-else-is_some c = λ marks is.
    closes_none c.args.self.now c.args.self.now marks c.args.reply.now is refl
    (ap is_some (moved_at c.args.self.now marks c.args.reply.now c.in-Some.at c.index.result.now c.moved_bytes.result is (sym c.in-Some.ensures)
    c.index.ensures c.moved_bytes.ensures)
    ∙ sym c.is_some.ensures ∙ c.if-is_some.false)
