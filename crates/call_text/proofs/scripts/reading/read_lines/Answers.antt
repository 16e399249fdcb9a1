use Rattle.std.proofs.Common.{◌≡◌, ◌∷◌, [], ◌++◌, Some, rules}
use Rattle.call_text.proofs.ScriptLines.{script_starts, script_goes_on, script_bad, has_call_read, script_ends}
use Rattle.call_text.proofs.scripts.reading.read_lines.Goals as goal

pub loop-rest-init : goal.loop-rest-init
loop-rest-init c =
    script_starts c.args.text.now c.in-Some.first.now c.in-Some.rest.now c.in-Some-read_user.uid c.in-Some-read_user.gid c.new-lines.result.items c.new-lines.ensures.items
    (search rules) (search rules)

pub returns-in_default-read_timed-clause-err : goal.returns-in_default-read_timed-clause-err
returns-in_default-read_timed-clause-err c =
    script_bad c.args.text.now c.in-Some-read_user.uid c.in-Some-read_user.gid c.loop-rest.lines.items c.loop-rest.rest.now c.in-Some-cut.line.now c.in-Some-cut.after.now
    c.len.result (search rules) c.loop-rest.invariant (search rules) (search rules)

pub loop-rest-preserved : goal.loop-rest-preserved
loop-rest-preserved c =
    let items : c.push.new.self.items ≡ c.loop-rest.lines.items ++ c.in-Some-read_timed.timed ∷ [] = search rules in
    script_goes_on c.args.text.now (Some (c.in-Some-read_user.uid, c.in-Some-read_user.gid)) c.loop-rest.lines.items c.push.new.self.items c.loop-rest.rest.now c.in-Some-cut.line.now c.in-Some-cut.after.now c.in-Some-read_timed.timed items
    c.loop-rest.invariant (search rules) (search rules)

pub returns-then-is_err-clause-err : goal.returns-then-is_err-clause-err
returns-then-is_err-clause-err c =
    has_call_read c.args.text.now c.in-Some-read_user.uid c.in-Some-read_user.gid c.loop-rest.lines.items c.loop-rest.rest.now c.in-Some-cut.line.now c.in-Some-cut.after.now
    c.in-Some-read_timed.timed c.loop-rest.invariant (search rules) (search rules)

pub returns-clause-ok : goal.returns-clause-ok
returns-clause-ok c =
    script_ends c.args.text.now c.in-Some-read_user.uid c.in-Some-read_user.gid c.loop-rest.lines.items c.loop-rest.rest.now c.loop-rest.invariant (search rules)
