use Rattle.std.proofs.Common.{◌≡◌, ◌∷◌, [], ◌++◌, ◌∙◌, ap, map, refl, sym, rules, arith}
use Rattle.std.proofs.lemmas.Grind.{common_steps}
use Rattle.std.proofs.lemmas.List.{map-append}
use Rattle.call_text.specs.Said.{said}
use Rattle.call_text.specs.Files.{scripts_in}
use Rattle.call_text.proofs.ScriptFilesReading.{bad_file, scripts_after-nil, file_read, script_takes, takes_here}
use Rattle.call_text.proofs.scripts.script_files.read_scripts.Goals as goal

pub loop-file-init : goal.loop-file-init
loop-file-init c = rw c.new-scripts.ensures.items (record { so_far = sym (scripts_after-nil (scripts_in c.args.files.now)); count = refl; takes = λ none. absurd (omega arith) })

pub loop-file-preserved : goal.loop-file-preserved
loop-file-preserved c =
    let done = c.loop-file.scripts.items in
    let script = c.in-Ok.script in
    let items : c.push.new.self.items ≡ done ++ script ∷ [] = search rules in
    record {
      so_far = file_read c.args.files.now c.loop-file.file-index _ (map said done) (map said c.push.new.self.items) (said script) c.loop-file-test.true c.loop-file.invariant.so_far
          c.in-Ok.ensures.ok (ap (map said) items ∙ map-append said done (script ∷ []));
      count = grind (arith, common_steps);
      takes = λ some. takes_here c.args.files.now c.loop-file.file-index _ c.loop-file-test.true c.loop-file.invariant.takes
          (script_takes _ (said script) c.in-Ok.ensures.ok);
    }

pub returns-in-Err-clause-err : goal.returns-in-Err-clause-err
returns-in-Err-clause-err c =
    bad_file c.args.files.now c.loop-file.file-index _ (map said c.loop-file.scripts.items) _ c.loop-file-test.true (search rules) c.loop-file.invariant.takes
    c.loop-file.invariant.so_far c.in-Err.ensures.err

pub returns-then-is_err-clause-err : goal.returns-then-is_err-clause-err
returns-then-is_err-clause-err c = (
  search rules,
  takes_here c.args.files.now c.loop-file.file-index _ c.loop-file-test.true c.loop-file.invariant.takes (script_takes _ (said c.in-Ok.script) c.in-Ok.ensures.ok),
)
