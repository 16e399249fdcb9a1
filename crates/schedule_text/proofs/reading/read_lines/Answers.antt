use Rattle.std.proofs.Common.{◌≡◌, ◌∷◌, [], ◌++◌, rules}
use Rattle.schedule_text.proofs.Events.{none_so_far, line_read, line_not_read, line_to_keep, all_read}
use Rattle.schedule_text.proofs.reading.read_lines.Goals as goal

pub loop-rest-init : goal.loop-rest-init
loop-rest-init c = record {
  says = none_so_far c.args.text.now c.new-lines.result.items c.new-lines.ensures.items;
  few = search rules;
}

pub returns-in_default-read_numbered-clause-err : goal.returns-in_default-read_numbered-clause-err
returns-in_default-read_numbered-clause-err c =
    line_not_read c.args.text.now c.loop-rest.rest.now c.in-Some.line.now c.in-Some.after.now c.loop-rest.lines.items c.len.result (search rules) c.loop-rest.invariant.says
    (search rules) (search rules)

pub loop-rest-preserved : goal.loop-rest-preserved
loop-rest-preserved c =
    let items : c.push.new.self.items ≡ c.loop-rest.lines.items ++ c.in-Some-read_numbered.read ∷ [] = search rules in
    record {
      says = line_read c.args.text.now c.loop-rest.rest.now c.in-Some.line.now c.in-Some.after.now c.loop-rest.lines.items c.push.new.self.items
          c.in-Some-read_numbered.read c.len.result (search rules) items c.loop-rest.invariant.says (search rules) (search rules);
      few = search rules;
    }

pub returns-then-is_err-clause-err : goal.returns-then-is_err-clause-err
returns-then-is_err-clause-err c =
    line_to_keep c.args.text.now c.loop-rest.rest.now c.in-Some.line.now c.in-Some.after.now c.loop-rest.lines.items c.in-Some-read_numbered.read c.len.result (search rules)
    c.loop-rest.invariant.says (search rules) (search rules)

pub returns-clause-ok : goal.returns-clause-ok
returns-clause-ok c = all_read c.args.text.now c.loop-rest.rest.now c.loop-rest.lines.items c.loop-rest.invariant.says (search rules)
