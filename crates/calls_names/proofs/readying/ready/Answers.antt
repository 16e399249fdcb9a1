use Rattle.std.proofs.Common.{◌≡◌, Bool, Err, Ok, sym, subst}
use Rattle.std.specs.Prelude.{IsTrue, is_some}
use Rattle.tree.specs.IsCall.{IsBytes}
use Rattle.tree.specs.Tree.{Tree}
use Rattle.tree.specs.Walk.{is_there, open_look_up, read_path}
use Rattle.volume.specs.Holds.{HoldsVolume}
use Rattle.volume.specs.Reading.{Disk}
use Rattle.block_store.proofs.Turns.{turns_as, turns_none, turns_then}
use Rattle.path.specs.declared.place.Found.{Found}
use Rattle.path.specs.Stops.{Answers}
use Rattle.path.proofs.Ending.{answers_as, answers_exit}
use Rattle.path.specs.Places.{place_of}
use Rattle.calls_names.specs.Asking.{only_makes}
use Rattle.calls_names.specs.Making.{MakesFileOr}
use Rattle.calls_names.specs.Vacant.{IsVacant}
use Rattle.calls_names.proofs.Ending.{answers_refused}
use Rattle.calls_names.proofs.Vacancies.{parent_node}
use Rattle.calls_names.specs.Opening.{FindsToOpen, Readies, ReadiesThere, open_named}
use Rattle.calls_names.proofs.LastLinks.{look_missing}
use Rattle.calls_names.proofs.Missing.{file_readies, missing_vacant, not_looked_up, not_read, ready_as, refused_as}
use Rattle.calls_names.proofs.readying.ready.Goals as goal

pub returns-in_err-path-clause-turns : goal.returns-in_err-path-clause-turns
returns-in_err-path-clause-turns g c =
    let a = c.args in
    let v = a.geometry.now in
    turns_as _ _ _ _ _
    (λ d e same t holds. answers_refused _ c.in_err-path.field-0.0 _ c.from_residual.ensures.1
    (not_read v t a.user a.now a.path a.flags.0 a.mode d e c.in_err-path.field-0.0 same (sym c.in_err-path.ensures.parsed)))
    (turns_none _ g.met.B.Blocks.lawful _ c.requires.on.ready)

pub returns-in_err-number-clause-turns : goal.returns-in_err-number-clause-turns
returns-in_err-number-clause-turns g c =
    let a = c.args in
    let v = a.geometry.now in
    let way = c.in_ok-path.path in
    let read : read_path a.path ≡ Ok way = sym c.in_ok-path.ensures.parsed in
    turns_as _ _ _ _ _
    (λ d e p t holds. answers_exit _ _ (FindsToOpen v d t a.user c.only_makes.result way)
    (Readies v t (open_named v t a.user a.now a.path a.flags.0 a.mode) a.flags.0 d e) c.from_residual-in_err-number.ensures.1
    (λ errno is. not_looked_up v t a.user a.now a.path a.flags.0 a.mode d e way read errno p.0
    (subst (λ (b : Bool). open_look_up t a.user b way ≡ Err errno) c.only_makes.ensures is)) (p.1 t holds))
    c.in_err-number.ensures.reads.turns

pub returns-in_err-ready_there-in-There-clause-turns : goal.returns-in_err-ready_there-in-There-clause-turns
returns-in_err-ready_there-in-There-clause-turns g c =
    let a = c.args in
    let v = a.geometry.now in
    let n = c.in-There.number in
    let why = c.in_err-ready_there-in-There.field-0.0 in
    let way = c.in_ok-path.path in
    let read : read_path a.path ≡ Ok way = sym c.in_ok-path.ensures.parsed in
    turns_then _ g.met.B.Blocks.lawful _ _ _ _ _ _
    (λ d e f p q t holds.
    let looked = subst (λ (x : Found). FindsToOpen v d t a.user (only_makes a.flags.0) way (Ok x)) c.in-There.is
    (subst (λ (b : Bool). FindsToOpen v d t a.user b way (Ok c.in_ok-number.field-0)) c.only_makes.ensures (p.1 t holds)) in
    let readied = subst (λ (z : Disk). (u : Tree) → HoldsVolume v z u → IsTrue (is_some (u.nodes n))
    → Answers (Err why) (ReadiesThere v u a.user a.now n a.flags.0 z f)) p.0 q in
    answers_exit _ _ (ReadiesThere v t a.user a.now n a.flags.0 d f) (Readies v t (open_named v t a.user a.now a.path a.flags.0 a.mode) a.flags.0 d f)
    c.from_residual-in_err-ready_there-in-There.ensures.1
    (λ errno x. refused_as v t a.user a.now a.path a.flags.0 a.mode d f way read (is_there n) looked.found errno (x a.mode))
    (readied t holds looked.there))
    c.in_ok-number.ensures.reads.turns c.in_err-ready_there-in-There.ensures.turns

pub returns-in_ok-ready_there-in-There-clause-turns : goal.returns-in_ok-ready_there-in-There-clause-turns
returns-in_ok-ready_there-in-There-clause-turns g c =
    let a = c.args in
    let v = a.geometry.now in
    let n = c.in-There.number in
    let way = c.in_ok-path.path in
    let read : read_path a.path ≡ Ok way = sym c.in_ok-path.ensures.parsed in
    turns_then _ g.met.B.Blocks.lawful _ _ _ _ _ _
    (λ d e f p q t holds.
    let looked = subst (λ (x : Found). FindsToOpen v d t a.user (only_makes a.flags.0) way (Ok x)) c.in-There.is
    (subst (λ (b : Bool). FindsToOpen v d t a.user b way (Ok c.in_ok-number.field-0)) c.only_makes.ensures (p.1 t holds)) in
    let readied = subst (λ (z : Disk). (u : Tree) → HoldsVolume v z u → IsTrue (is_some (u.nodes n))
    → ReadiesThere v u a.user a.now n a.flags.0 z f (Ok tt)) p.0 q in
    ready_as v t a.user a.now a.path a.flags.0 a.mode d f way read (is_there n) looked.found n
    (readied t holds looked.there a.mode))
    c.in_ok-number.ensures.reads.turns c.in_ok-ready_there-in-There.ensures.turns

pub returns-in-Missing-clause-turns : goal.returns-in-Missing-clause-turns
returns-in-Missing-clause-turns g c =
    let a = c.args in
    let v = a.geometry.now in
    let place = c.in-Missing.place in
    let way = c.in_ok-path.path in
    let read : read_path a.path ≡ Ok way = sym c.in_ok-path.ensures.parsed in
    let bytes : IsBytes a.path.bytes.now = c.are_bytes.ensures in
    turns_then _ g.met.B.Blocks.lawful _ _ _ _ _ _
    (λ d e f p q t holds.
    let looked = subst (λ (x : Found). FindsToOpen v d t a.user c.only_makes.result way (Ok x)) c.in-Missing.is (p.1 t holds) in
    let parent = parent_node v d t a.user way place holds looked.1 in
    let vacant : IsVacant v d t place parent = missing_vacant v d t a.user a.path way place holds looked.1 bytes read looked.0 in
    let made = subst (λ (z : Disk). (u : Tree) (x : Rattle.tree.specs.Tree.Node) → HoldsVolume v z u → IsVacant v z u place x
    → Answers c.make_file.result (λ r. MakesFileOr v u a.user c.creates.result a.now a.mode place z f r)) p.0 q in
    answers_as c.make_file.result (λ r. MakesFileOr v t a.user c.creates.result a.now a.mode place d f r)
    (Readies v t (open_named v t a.user a.now a.path a.flags.0 a.mode) a.flags.0 d f)
    (λ r h. file_readies v c.requires.on.geometry t a.user a.now a.flags.0 a.mode d f place parent vacant a.path way r read
    (look_missing t a.user (only_makes a.flags.0) way (place_of v d place) looked.0)
    (subst (λ (b : Bool). MakesFileOr v t a.user b a.now a.mode place d f r) c.creates.ensures h))
    (made t parent holds vacant))
    c.in_ok-number.ensures.reads.turns c.make_file.ensures.turns
