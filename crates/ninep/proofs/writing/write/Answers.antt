use Rattle.std.proofs.Common.{rules, ◌≡◌, ◌+◌, ◌-◌, ◌∙◌, ◌++◌, length, sym, ap, take, arith}
use Rattle.ninep.specs.Fields.{Four, number_bytes}
use Rattle.ninep.specs.Requests.{rest_bytes}
use Rattle.ninep.specs.Replies.{replied}
use Rattle.ninep.proofs.WritingLaws.{answer_size, cut_back, put_behind, put_length_is}
use Rattle.ninep.proofs.writing.write.Goals as goal

pub returns-then-size-limit-clause-long : goal.returns-then-size-limit-clause-long
returns-then-size-limit-clause-long c = λ same.
    let rest = rest_bytes (replied c.args.tag c.args.reply.now) in
    let put = c.in-Ok.ensures.ok in
    let at : length c.args.out.now.items ≡ c.len-at.result = search rules in
    let end : length c.put_message.new.out.items ≡ c.len.result = search rules in
    let long = put_length_is c.args.out.now.items c.put_message.new.out.items rest put in
    let size = answer_size c.args.tag c.args.reply.now in (
      omega (arith, at, end, long, size, c.if-size-limit.true),
      c.truncate-then-size-limit.ensures.items ∙ ap (λ n. take n c.put_message.new.out.items) (sym at)
          ∙ cut_back c.args.out.now.items c.put_message.new.out.items rest put,
    )

pub returns-then-size-limit-clause-kept : goal.returns-then-size-limit-clause-kept
returns-then-size-limit-clause-kept c =
    let rest = rest_bytes (replied c.args.tag c.args.reply.now) in
    let at : length c.args.out.now.items ≡ c.len-at.result = search rules in
    c.truncate-then-size-limit.ensures.items ∙ ap (λ n. take n c.put_message.new.out.items) (sym at)
    ∙ cut_back c.args.out.now.items c.put_message.new.out.items rest c.in-Ok.ensures.ok

pub returns-clause-ok : goal.returns-clause-ok
returns-clause-ok c =
    let rest = rest_bytes (replied c.args.tag c.args.reply.now) in
    let put = c.in-Ok.ensures.ok in
    let at : length c.args.out.now.items ≡ c.len-at.result = search rules in
    let end : length c.put_message.new.out.items ≡ c.len.result = search rules in
    let long = put_length_is c.args.out.now.items c.put_message.new.out.items rest put in
    let size = answer_size c.args.tag c.args.reply.now in
    let own : c.len.result - c.len-at.result ≡ 4 + length rest = omega (arith, at, end, long) in
    let made = c.put_length.ensures c.args.out.now.items rest (put_behind c.args.out.now.items c.put_message.new.out.items rest put) at in (
      omega (arith, own, size, c.if-size-limit.false),
      made ∙ ap (λ n. c.args.out.now.items ++ (number_bytes Four n ++ rest)) own,
    )

pub returns-in_default-clause-full : goal.returns-in_default-clause-full
returns-in_default-clause-full c = λ same.
    omega (arith, answer_size c.args.tag c.args.reply.now, c.in_default.ensures.full)
