-- Each moment of a commit.
use Rattle.std.proofs.Common.{◌≡◌, ◌⊎◌, inl, inr, ⊎_elim, ℕ, ◌+◌, ◌*◌, ◌^◌, ◌<◌, ◌≤◌, List, [], ◌∷◌, ◌++◌, length, map, refl, sym, ◌∙◌, ap, subst, arith, append_assoc, length-append, Bool, true, false, Option, Some, None}
use Rattle.std.specs.List.{AllByRecursion}
use Rattle.std.specs.Str.{bytes_eq}
use Rattle.std.proofs.lemmas.Slice.Eq.{bytes_eq-Decides}
use Rattle.std.proofs.lemmas.Bool.{cases_eq, cases_lt}
use Rattle.std.proofs.lemmas.List.{length-map, map-append}
use Rattle.stable.specs.declared.Which.TheVariants.{Log, Image}
use Rattle.stable.specs.Disk.{Contents, Changes, Step, Write, Sync, numbered, set, put, Touches, Held, FileState, Keeps, Disk, MayLeave, Leaves, done}
use Rattle.redo.specs.Record.{head, closed, body, directory, directory_units, first_data, record_units, record_standing, from, most, recovered, Nothing}
use Rattle.redo.specs.Runs.{Run, singly, by_sixteen, spread}
use Rattle.redo.specs.Plans.{run_write, runs_of, body_writes, to_write, to_gate, to_image, log_plan}
use Rattle.redo.specs.UnderWay.{Fits, AnyHow, changes_of, place, IsRecord, AreRecords, Begins, IsSure, IsAtRest, Makes, IsShut, IsLogged, IsWritten, IsEither, IsUnderWay, IsUnderWayBy, IsCurrent}
use Rattle.redo.specs.Laws.{IsImage, Finds, FindsEither}
use Rattle.redo.proofs.Units.{set_same, set_other, put_agrees, put_other, put-append, put_or_touches, touches_or_not, touches_first, touches_last, touched, not_below, numbered-append, put_append_last, spread_singly, spread_sixteen, spread-append}
use Rattle.redo.proofs.Spelled.{length-directory, length-body, standing_closed, standing_other, open_same, record_written}
use Rattle.redo.proofs.Records.{found_so, place-append, changes_last, records_more, record_behind, records_few}
use Rattle.redo.proofs.Moments.{all_done, Reaches, reaches_then, Moves, Within, along, all_moves, all_then, log_within, image_within, log_kept, image_kept}

pub leaves_kept : (f : FileState) (left : Contents) (n : ℕ) (v : List ℕ) → MayLeave f left → Keeps f n v → left n ≡ v
leaves_kept f left n v leaves k = leaves n k.sure ∙ k.is

-- what a crash leaves of the image is what it is to be, once the changes are done
pub remade : (changes : Changes) (image : Contents) (f : FileState) (left : Contents) → Makes changes image f → MayLeave f left → (n : ℕ) → put changes left n ≡ image n
remade changes image f left makes leaves n = elim (put_or_touches changes left n) [
  | inr touched ↦ makes.made n touched left
  | inl same ↦ elim (makes.rest n) [
    | inr touched ↦ makes.made n touched left
    | inl keeps ↦ same ∙ leaves_kept f left n (image n) leaves keeps
  ]
]

-- behind a gate that is shut nothing is asked for
pub shut_nothing : (name at : ℕ) (f : FileState) (log : Contents) → IsShut at f → MayLeave f log → record_standing name (from at log) ≡ Nothing
shut_nothing name at f log (inl keeps) leaves =
    standing_closed name (from at log) (ap log (let e : at + 0 ≡ at = omega arith in e) ∙ leaves_kept f log at closed leaves keeps)
shut_nothing name at f log (inr (gate, first, some, keeps, behind, other)) leaves =
    standing_other name (from at log)
    (ap (λ (g : List ℕ). bytes_eq g (log (at + 1))) (ap log (let e : at + 0 ≡ at = omega arith in e) ∙ leaves_kept f log at gate leaves keeps)
    ∙ ap (λ (h : List ℕ). bytes_eq gate h) (leaves_kept f log (at + 1) first leaves behind)
    ∙ other)

-- what is found by records that a log begins with
pub found_by : (name : ℕ) (records : List Changes) (image : Contents) (f : FileState) (log left : Contents) → AreRecords name log 0 records → record_standing name (from (place records) log) ≡ Nothing → length records ≤ most
    → Makes (changes_of records) image f → MayLeave f left → IsImage (recovered name log left) image
found_by name records image f log left are none few makes leaves =
    subst (λ r. IsImage r image) (sym (found_so records name log left are none few)) (remade (changes_of records) image f left makes leaves)

pub logged_finds : (name : ℕ) (records : List Changes) (image : Contents) (d : Disk) → IsLogged name records image d → Finds name image d
logged_finds name records image d l log left leaves =
    found_by name records image d.image log left (l.says log (λ n lt. leaves_kept d.log log n (l.log n) leaves.log_left (l.sure n lt)))
    (shut_nothing name (place records) d.log log l.shut leaves.log_left) l.few l.makes leaves.image_left

-- an open record lies at the gate
some_place : (others : List Changes) → 0 < length others → 2 ≤ place others
some_place others some = omega (arith, records_few others)

gate_behind : (name : ℕ) (first others : List Changes) (log : Contents) → 0 < length others → AreRecords name log 0 (first ++ others) → log (place first) ≡ log (place first + 1)
gate_behind name first [] log some are = absurd (omega arith)
gate_behind name first (c ∷ others) log some are =
    let is = record_behind first c others name log 0 are in
    let p : ℕ = place first in
    ap log (let e : p ≡ 0 + p + 0 = omega arith in e) ∙ open_same name c (from (0 + p) log) is.0 ∙ ap log (let e : 0 + p + 1 ≡ p + 1 = omega arith in e)

module _ {G : Held → Type 0} (name : ℕ) (first others : List Changes) (x y : Contents) (d : Disk) (w : IsWritten G name first others x y d) where
  abbrev gate : ℕ
  gate = place first

  abbrev end : ℕ
  end = place (first ++ others)

  pub far : gate + 2 ≤ end
  far = omega (arith, place-append first others, some_place others w.some)

  -- units that a crash leaves, but for the gate
  left_sure : (log : Contents) → MayLeave d.log log → (n : ℕ) → n < end → (n ≡ gate → ⊥) → log n ≡ w.log n
  left_sure log leaves n lt other = leaves_kept d.log log n (w.log n) leaves (w.sure n lt other)

  -- where the gate is open, all are said
  pub left_all : (log : Contents) → MayLeave d.log log → bytes_eq (log gate) (log (gate + 1)) ≡ true → (n : ℕ) → n < end → log n ≡ w.log n
  left_all log leaves is n lt = elim (cases_eq n gate) [
    | inr other ↦ left_sure log leaves n lt other
    | inl here ↦
        ap log here
        ∙ (bytes_eq-Decides (log gate) (log (gate + 1))).0 is
        ∙ left_sure log leaves (gate + 1) (omega (arith, far)) (λ same. omega arith)
        ∙ sym (gate_behind name first others w.log w.some (w.says w.log (λ k less. refl)))
        ∙ ap w.log (sym here)
  ]

  pub first_left : (log : Contents) → MayLeave d.log log → AreRecords name log 0 first
  first_left log leaves = w.says_first log (λ n lt. left_sure log leaves n (omega (arith, far)) (λ same. omega arith))

  pub few_first : length first ≤ most
  few_first = omega (arith, length-append first others, w.few)

  pub gate_other : (log : Contents) → bytes_eq (log gate) (log (gate + 1)) ≡ false → record_standing name (from gate log) ≡ Nothing
  gate_other log is = standing_other name (from gate log) (ap (λ (k : ℕ). bytes_eq (log k) (log (gate + 1))) (let e : gate + 0 ≡ gate = omega arith in e) ∙ is)

  written_by : (log left : Contents) → Leaves d log left → (b : Bool) → bytes_eq (log gate) (log (gate + 1)) ≡ b → IsImage (recovered name log left) x ⊎ IsImage (recovered name log left) y
  written_by log left leaves true is =
      inr (found_by name (first ++ others) y d.image log left (w.says log (left_all log leaves.log_left is)) (shut_nothing name end d.log log w.shut leaves.log_left) w.few w.makes_after leaves.image_left)
  written_by log left leaves false is =
      inl (found_by name first x d.image log left (first_left log leaves.log_left) (gate_other log is) few_first w.makes_before leaves.image_left)

  pub written_finds : FindsEither name x y d
  written_finds log left leaves = written_by log left leaves (bytes_eq (log gate) (log (gate + 1))) refl

pub image_as : (r : Option Contents) (x y : Contents) → ((n : ℕ) → x n ≡ y n) → IsImage r x → IsImage r y
image_as None x y same h = h
image_as (Some found) x y same h = λ n. h n ∙ same n

pub image_either : (r : Option Contents) (x before after : Contents) → IsEither x before after → IsImage r x → IsImage r before ⊎ IsImage r after
image_either r x before after either h = ⊎_elim (λ is. inl (image_as r x before is h)) (λ is. inr (image_as r x after is h)) either

-- how it stands says what is found
pub finds_either : (G : Held → Type 0) (name : ℕ) (before after : Contents) (d : Disk) → IsUnderWayBy G name before after d → FindsEither name before after d
finds_either G name before after d (inl (image, records, either, l)) log left leaves = image_either (recovered name log left) image before after either (logged_finds name records image d l log left leaves)
finds_either G name before after d (inr (x, y, first, others, is_x, is_y, w)) log left leaves = ⊎_elim
    (λ h. image_either (recovered name log left) x before after is_x h) (λ h. image_either (recovered name log left) y before after is_y h)
    (written_finds name first others x y d w log left leaves)

-- what stays where other units are written

pub makes_still : (changes : Changes) (image : Contents) (L I : Changes) (d e : Disk) → Moves L I d e → ((n : ℕ) → Touches I n → Touches changes n) → Makes changes image d.image → Makes changes image e.image
makes_still changes image L I d e m in_it makes = record {
  made = makes.made;
  rest = λ n. elim (touches_or_not changes n) [
    | inl touched ↦ inr touched
    | inr none ↦ ⊎_elim (λ k. inl (m.image_keeps n (image n) (λ t. none (in_it n t)) k)) (λ t. inr t) (makes.rest n)
  ];
}

pub shut_still : (at : ℕ) (L I : Changes) (d e : Disk) → Moves L I d e → ((n : ℕ) → at ≤ n → Touches L n → ⊥) → IsShut at d.log → IsShut at e.log
shut_still at L I d e m apart (inl keeps) = inl (m.log_keeps at closed (apart at (omega arith)) keeps)
shut_still at L I d e m apart (inr (gate, first, some, keeps, behind, other)) =
    inr (gate, first, some, m.log_keeps at gate (apart at (omega arith)) keeps, m.log_keeps (at + 1) first (apart (at + 1) (omega arith)) behind, other)

-- the records stay while what is behind them is written, or units of the image that they set
pub logged_still : (name : ℕ) (records : List Changes) (image : Contents) (L I : Changes) (d e : Disk) → Moves L I d e → ((n : ℕ) → n < place records → Touches L n → ⊥) → ((n : ℕ) → Touches I n → Touches (changes_of records) n)
    → IsShut (place records) e.log → IsLogged name records image d → IsLogged name records image e
logged_still name records image L I d e m apart in_it shut l = record {
  log = l.log;
  says = l.says;
  few = l.few;
  sure = λ n lt. m.log_keeps n (l.log n) (apart n lt) (l.sure n lt);
  shut = shut;
  makes = makes_still (changes_of records) image L I d e m in_it l.makes;
}

-- the same where a gate isn't sure, while that is written
pub written_still : (G H : Held → Type 0) (name : ℕ) (first others : List Changes) (x y : Contents) (L : Changes) (d e : Disk) → Moves L [] d e → ((n : ℕ) → (n ≡ place first → ⊥) → Touches L n → ⊥) → H (e.log.held (place first))
    → IsWritten G name first others x y d → IsWritten H name first others x y e
written_still G H name first others x y L d e m apart gate w =
    let far : place first + 2 ≤ place (first ++ others) = far name first others x y d w in
    record {
      log = w.log;
      says_first = w.says_first;
      says = w.says;
      some = w.some;
      few = w.few;
      gate = gate;
      sure = λ n lt other. m.log_keeps n (w.log n) (apart n other) (w.sure n lt other);
      shut = shut_still (place (first ++ others)) L [] d e m (λ n le t. apart n (λ same. omega arith) t) w.shut;
      makes_before = makes_still (changes_of first) x L [] d e m (λ n t. absurd t) w.makes_before;
      makes_after = makes_still (changes_of (first ++ others)) y L [] d e m (λ n t. absurd t) w.makes_after;
    }

-- no step that is done makes a file fail
pub sound_still : (steps : List Step) (d : Disk) → (all_done d steps).log.failed ≡ d.log.failed
sound_still [] d = refl
sound_still (Write Log at units ∷ steps) d = sound_still steps (done d (Write Log at units))
sound_still (Write Image at units ∷ steps) d = sound_still steps (done d (Write Image at units))
sound_still (Sync Log ∷ steps) d = sound_still steps (done d (Sync Log))
sound_still (Sync Image ∷ steps) d = sound_still steps (done d (Sync Image))

-- the runs that a record is written by
abbrev pub body_runs : ℕ → ℕ → List ℕ → List (List ℕ) → List Run
body_runs name at ns units =
    (at + 1, head name (length ns) ∷ []) ∷ singly (numbered (at + 2) (directory (directory_units (length ns)) ns))
    ++ (by_sixteen (runs_of (length units)) (at + first_data (length ns)) units ++ (at + record_units (length ns), closed ∷ []) ∷ [])

pub body_runs_are : (name at : ℕ) (ns : List ℕ) (units : List (List ℕ)) → body_writes name at ns units ≡ map (run_write Log) (body_runs name at ns units)
body_runs_are name at ns units =
    let dirs : List Run = singly (numbered (at + 2) (directory (directory_units (length ns)) ns)) in
    let data_runs : List Run = by_sixteen (runs_of (length units)) (at + first_data (length ns)) units in
    let gate : List Run = (at + record_units (length ns), closed ∷ []) ∷ [] in
    ap (λ (l : List Step). Write Log (at + 1) (head name (length ns) ∷ []) ∷ (map (run_write Log) dirs ++ l)) (sym (map-append (run_write Log) data_runs gate))
    ∙ ap (λ (l : List Step). Write Log (at + 1) (head name (length ns) ∷ []) ∷ l) (sym (map-append (run_write Log) dirs (data_runs ++ gate)))

-- the units of a record behind its gate, and the gate behind it
abbrev pub behind : ℕ → ℕ → Changes → Changes
behind name at changes = numbered (at + 1) (body name changes ++ closed ∷ [])

pub body_spread : (name at : ℕ) (changes : Changes) → spread (body_runs name at (map (λ w. w.0) changes) (map (λ w. w.1) changes)) ≡ behind name at changes
body_spread name at changes =
    let ns : List ℕ = map (λ (w : ℕ × List ℕ). w.0) changes in
    let units : List (List ℕ) = map (λ (w : ℕ × List ℕ). w.1) changes in
    let count : ℕ = length changes in
    let counted : length ns ≡ count = length-map changes (λ (w : ℕ × List ℕ). w.0) in
    let dirs : List (List ℕ) = directory (directory_units count) ns in
    let long : length dirs ≡ directory_units count = length-directory (directory_units count) ns in
    let all : length units ≡ count = length-map changes (λ (w : ℕ × List ℕ). w.1) in
    let data_runs : List Run = by_sixteen (runs_of (length units)) (at + first_data count) units in
    let gate : List Run = (at + record_units count, closed ∷ []) ∷ [] in
    let few : length units ≤ 16 * runs_of (length units) = omega arith in
    ap (λ (k : ℕ). (at + 1, head name k) ∷ spread (singly (numbered (at + 2) (directory (directory_units k) ns)) ++ (by_sixteen (runs_of (length units)) (at + first_data k) units ++ (at + record_units k, closed ∷ []) ∷ []))) counted
    ∙ ap (λ (l : Changes). (at + 1, head name count) ∷ l) (
    spread-append (singly (numbered (at + 2) dirs)) (data_runs ++ gate)
    ∙ ap (λ (l : Changes). l ++ spread (data_runs ++ gate)) (spread_singly (numbered (at + 2) dirs))
    ∙ ap (λ (l : Changes). numbered (at + 2) dirs ++ l) (spread-append data_runs gate ∙ ap (λ (l : Changes). l ++ (at + record_units count, closed) ∷ []) (spread_sixteen (runs_of (length units)) (at + first_data count) units few))
    ∙ ap (λ (k : ℕ). numbered (at + 2) dirs ++ (numbered k units ++ (at + record_units count, closed) ∷ [])) (let e : at + first_data count ≡ at + 2 + length dirs = omega (arith, long) in e)
    ∙ ap (λ (k : ℕ). numbered (at + 2) dirs ++ (numbered (at + 2 + length dirs) units ++ (k, closed) ∷ [])) (let e : at + record_units count ≡ at + 2 + length dirs + length units = omega (arith, long, all) in e)
    ∙ ap (λ (l : Changes). numbered (at + 2) dirs ++ l) (sym (numbered-append units (closed ∷ []) (at + 2 + length dirs)))
    ∙ sym (numbered-append dirs (units ++ closed ∷ []) (at + 2))
    ∙ ap (λ (l : List (List ℕ)). numbered (at + 2) l) (sym (append_assoc dirs units (closed ∷ [])))
    ∙ ap (λ (k : ℕ). numbered k ((dirs ++ units) ++ closed ∷ [])) (let e : at + 2 ≡ at + 1 + 1 = omega arith in e)
    )

only_gate : (at n : ℕ) (bytes : List ℕ) → (n ≡ at → ⊥) → Touches (numbered at (bytes ∷ [])) n → ⊥
only_gate at n bytes other (inl here) = other (sym here)
only_gate at n bytes other (inr none) = none

gate_kept : (at : ℕ) (bytes : List ℕ) (d : Disk) → Keeps (all_done d (to_gate at bytes)).log at bytes
gate_kept at bytes d =
    let c : Contents = λ n. [] in
    subst (Keeps (all_done d (to_gate at bytes)).log at) (set_same c (at, bytes) at refl) (log_kept ((at, bytes ∷ []) ∷ []) d c at (inl refl))

module _ (name : ℕ) (before after : Contents) where
  abbrev P : Disk → Type 0
  P = IsUnderWay name before after

  -- a gate that isn't sure is written
  pub gate_written : (first others : List Changes) (x y : Contents) → IsEither x before after → IsEither y before after → (bytes : List ℕ) (d : Disk) (w : IsWritten AnyHow name first others x y d)
      → Reaches P d (to_gate (place first) bytes) (λ e. (v : IsWritten AnyHow name first others x y e) × ((n : ℕ) → v.log n ≡ w.log n) × Keeps e.log (place first) bytes)
  unfolding written_still
  gate_written first others x y is_x is_y bytes d w =
      let at : ℕ = place first in
      let L : Changes = numbered at (bytes ∷ []) in
      let in_it : AllByRecursion (Within L []) (to_gate at bytes) = ((λ n t. t), (tt, tt)) in
      let m = all_moves L [] d (to_gate at bytes) in_it in
      record {
        along = along P L [] d (to_gate at bytes) in_it (λ e m. inr (x, y, first, others, is_x, is_y, written_still AnyHow AnyHow name first others x y L d e m (λ n other t. only_gate at n bytes other t) tt w));
        ends = (written_still AnyHow AnyHow name first others x y L d (all_done d (to_gate at bytes)) m (λ n other t. only_gate at n bytes other t) tt w, (λ n. refl), gate_kept at bytes d);
      }

  -- the image is written while the log says its changes
  image_written : (records : List Changes) (image : Contents) → IsEither image before after → (runs : List Run) → spread runs ≡ changes_of records → (d : Disk) → IsLogged name records image d
      → Reaches P d (map (run_write Image) runs ++ Sync Image ∷ []) (λ e. IsLogged name records image e × IsSure e.image image)
  image_written records image either runs is d l =
      let changes : Changes = changes_of records in
      let steps : List Step = map (run_write Image) runs ++ Sync Image ∷ [] in
      let in_it : AllByRecursion (Within [] changes) steps = all_then (Within [] changes) (map (run_write Image) runs) (Sync Image ∷ []) (image_within [] changes runs (λ n t. subst (λ (l : Changes). Touches l n) is t)) (tt, tt) in
      let still : (e : Disk) → Moves [] changes d e → IsLogged name records image e = λ e m. logged_still name records image [] changes d e m (λ n lt none. none) (λ n t. t) (shut_still (place records) [] changes d e m (λ n le none. none) l.shut) l in
      let m = all_moves [] changes d steps in_it in
      let e = all_done d steps in
      record {
        along = along P [] changes d steps in_it (λ e m. inl (image, records, either, still e m));
        ends = (
          still e m,
          λ n. elim (touches_or_not changes n) [
            | inl touched ↦ subst (Keeps e.image n) (ap (λ (l : Changes). put l image n) is ∙ l.makes.made n touched image) (image_kept runs d image n (subst (λ (l : Changes). Touches l n) (sym is) touched))
            | inr none ↦ elim (l.makes.rest n) [
              | inl keeps ↦ m.image_keeps n (image n) none keeps
              | inr touched ↦ absurd (none touched)
            ]
          ],
        );
      }

  pub sure_makes : (image : Contents) (f : FileState) → IsSure f image → Makes [] image f
  sure_makes image f sure = record { made = λ n t c. absurd t; rest = λ n. inl (sure n) }

  pub made_sure : (image : Contents) (f : FileState) → Makes [] image f → IsSure f image
  made_sure image f makes n = elim (makes.rest n) [
    | inl keeps ↦ keeps
    | inr none ↦ absurd none
  ]

  -- the first gate may be closed, where the image has the changes
  closes_from : (records : List Changes) (image : Contents) (d : Disk) → 0 < length records → IsLogged name records image d → IsSure d.image image → IsWritten AnyHow name [] records image image d
  closes_from records image d some l sure = record {
    log = l.log;
    says_first = λ other same. tt;
    says = l.says;
    some = some;
    few = l.few;
    gate = tt;
    sure = λ n lt other. l.sure n lt;
    shut = l.shut;
    makes_before = sure_makes image d.image sure;
    makes_after = l.makes;
  }

  -- the image is written, and the first gate closed
  pub settled : (records : List Changes) (image : Contents) → IsEither image before after → (runs : List Run) → spread runs ≡ changes_of records → (d : Disk) → d.log.failed ≡ false → 0 < length records → IsLogged name records image d
      → Reaches P d (to_image runs) (IsAtRest image)
  settled records image either runs is d sound some l =
      let writes : List Step = map (run_write Image) runs ++ Sync Image ∷ [] in
      let Q : Disk → Type 0 = λ e. IsLogged name records image e × IsSure e.image image × (e.log.failed ≡ false) in
      let first = image_written records image either runs is d l in
      let closes : (e : Disk) → Q e → Reaches P e (to_gate 0 closed) (IsAtRest image) = λ e h.
      let r = gate_written [] records image image either either closed e (closes_from records image e some h.0 h.1) in
      record { along = r.along; ends = record { gate = r.ends.2; image_is = made_sure image _ r.ends.0.makes_before; sound = sound_still (to_gate 0 closed) e ∙ h.2 } } in
      subst (λ (l : List Step). Reaches P d l (IsAtRest image)) (append_assoc (map (run_write Image) runs) (Sync Image ∷ []) (to_gate 0 closed))
      (reaches_then P Q (IsAtRest image) d writes (to_gate 0 closed) (record { along = first.along; ends = (first.ends.0, first.ends.1, sound_still writes d ∙ sound) }) closes)

-- changes behind others

touches_either : (xs ys : Changes) (n : ℕ) → Touches (xs ++ ys) n → Touches xs n ⊎ Touches ys n
touches_either [] ys n t = inr t
touches_either (x ∷ xs) ys n (inl here) = inl (inl here)
touches_either (x ∷ xs) ys n (inr later) = ⊎_elim (λ t. inl (inr t)) (λ t. inr t) (touches_either xs ys n later)

makes_more : (xs ys : Changes) (image : Contents) (f : FileState) → Makes xs image f → Makes (xs ++ ys) (put ys image) f
makes_more xs ys image f makes = record {
  made = λ n t c.
      ap (λ (d : Contents). d n) (put-append xs ys c)
      ∙ put_agrees ys (put xs c) image n (⊎_elim (λ first. inl (makes.made n first c)) (λ last. inr last) (touches_either xs ys n t));
  rest = λ n. elim (touches_or_not ys n) [
    | inl touched ↦ inr (touches_last xs ys n touched)
    | inr none ↦ ⊎_elim (λ k. inl (subst (Keeps f n) (sym (put_other ys image n none)) k)) (λ t. inr (touches_first xs ys n t)) (makes.rest n)
  ];
}

module _ (name : ℕ) (small : name < 2 ^ 64) (records : List Changes) (changes : Changes) (fits : Fits changes) (image : Contents) where
  abbrev after : Contents
  after = put changes image

  abbrev at : ℕ
  at = place records

  abbrev L : Changes
  L = behind name at changes

  place_next : place (records ++ changes ∷ []) ≡ at + record_units (length changes)
  place_next = omega (arith, place-append records (changes ∷ []))

  not_behind : (n : ℕ) → n ≤ at → Touches L n → ⊥
  not_behind n le t = not_below (body name changes ++ closed ∷ []) (at + 1) n (omega arith) t

  -- what the log holds then, with its gate open
  abbrev with_record : Contents → Contents
  with_record log = put L (set log (at, head name (length changes)))

  with_front : (log : Contents) (n : ℕ) → n < at → with_record log n ≡ log n
  with_front log n lt = put_other L (set log (at, head name (length changes))) n (not_behind n (omega arith)) ∙ set_other log (at, head name (length changes)) n (λ same. omega arith)

  with_gate : (log : Contents) → with_record log at ≡ head name (length changes)
  with_gate log = put_other L (set log (at, head name (length changes))) at (not_behind at (omega arith)) ∙ set_same log (at, head name (length changes)) at refl

  begins_with : (log : Contents) → Begins name records log → Begins name (records ++ changes ∷ []) (with_record log)
  begins_with log says other same =
      let base : Contents = set log (at, head name (length changes)) in
      records_more records changes name other 0
      (says other (λ n lt. same n (omega (arith, place_next)) ∙ with_front log n lt))
      (subst (λ (p : ℕ). IsRecord name other p changes) (let e : at ≡ 0 + at = omega arith in e)
      (record_written name changes other base at small fits (same at (omega (arith, place_next)) ∙ with_gate log) (λ n le lt. same (at + n) (omega (arith, place_next)))))

  long : length (body name changes ++ closed ∷ []) ≡ record_units (length changes)
  long = omega (arith, length-append (body name changes) (closed ∷ []), length-body name changes)

  -- the record is written behind its closed gate
  body_written : at < most → (d : Disk) (l : IsLogged name records image d) → Keeps d.log at closed
      → Reaches (IsUnderWay name image after) d (to_write name at changes) (λ e. (w : IsWritten AnyHow name records (changes ∷ []) image after e) × (w.log at ≡ head name (length changes)) × Keeps e.log (at + record_units (length changes)) closed)
  body_written room d l gate =
      let ns : List ℕ = map (λ (w : ℕ × List ℕ). w.0) changes in
      let units : List (List ℕ) = map (λ (w : ℕ × List ℕ). w.1) changes in
      let runs : List Run = body_runs name at ns units in
      let steps : List Step = map (run_write Log) runs ++ Sync Log ∷ [] in
      let P : Disk → Type 0 = IsUnderWay name image after in
      let Q : Disk → Type 0 = λ e. (w : IsWritten AnyHow name records (changes ∷ []) image after e) × (w.log at ≡ head name (length changes)) × Keeps e.log (at + record_units (length changes)) closed in
      let in_it : AllByRecursion (Within L []) steps = all_then (Within L []) (map (run_write Log) runs) (Sync Log ∷ []) (log_within L [] runs (λ n t. subst (λ (l : Changes). Touches l n) (body_spread name at changes) t)) (tt, tt) in
      let m = all_moves L [] d steps in_it in
      let e = all_done d steps in
      let base : Contents = set l.log (at, head name (length changes)) in
      let written : (n : ℕ) → Touches L n → Keeps e.log n (put L base n) = λ n t. subst (λ (l : Changes). Keeps e.log n (put l base n)) (body_spread name at changes) (log_kept runs d base n (subst (λ (l : Changes). Touches l n) (sym (body_spread name at changes)) t)) in
      let last : ℕ = place (records ++ changes ∷ []) in
      let end_touched : Touches L last = touched (body name changes ++ closed ∷ []) (at + 1) last (omega (arith, place_next)) (omega (arith, place_next, long)) in
      let end_closed : put L base last ≡ closed = put_append_last (body name changes) closed (at + 1) last base (omega (arith, place_next, length-body name changes)) in
      subst (λ (l : List Step). Reaches P d (l ++ Sync Log ∷ []) Q) (sym (body_runs_are name at ns units))
      (record {
        along = along P L [] d steps in_it (λ e m. inl (image, records, inl (λ n. refl), logged_still name records image L [] d e m (λ n lt t. not_behind n (omega arith) t) (λ n t. absurd t) (inl (m.log_keeps at closed (not_behind at (omega arith)) gate)) l));
        ends = (
          record {
            log = with_record l.log;
            says_first = λ other same. l.says other (λ n lt. same n lt ∙ with_front l.log n lt);
            says = begins_with l.log l.says;
            some = omega arith;
            few = omega (arith, length-append records (changes ∷ []), records_few records);
            gate = tt;
            sure = λ n lt other. elim (cases_lt n at) [
              | inl front ↦ subst (Keeps e.log n) (sym (with_front l.log n front)) (m.log_keeps n (l.log n) (not_behind n (omega arith)) (l.sure n front))
              | inr back ↦ written n (touched (body name changes ++ closed ∷ []) (at + 1) n (let lower : at + 1 ≤ n = elim (cases_eq n at) [
                | inl same ↦ absurd (other same)
                | inr apart ↦ omega arith
              ] in lower) (omega (arith, place_next, long)))
            ];
            shut = inl (subst (Keeps e.log last) end_closed (written last end_touched));
            makes_before = makes_still (changes_of records) image L [] d e m (λ n t. absurd t) l.makes;
            makes_after = subst (λ (l : Changes). Makes l after e.image) (sym (changes_last records changes)) (makes_more (changes_of records) changes image e.image (makes_still (changes_of records) image L [] d e m (λ n t. absurd t) l.makes));
          },
          with_gate l.log,
          subst (λ (k : ℕ). Keeps e.log k closed) place_next (subst (Keeps e.log last) end_closed (written last end_touched)),
        );
      })

  -- a commit, from its first step to its last
  pub committed : at < most → (d : Disk) → IsLogged name records image d → Keeps d.log at closed → d.log.failed ≡ false
      → Reaches (IsUnderWay name image after) d (log_plan name at changes) (IsCurrent name (at + record_units (length changes)) after)
  committed room d l gate sound =
      let h : List ℕ = head name (length changes) in
      let P : Disk → Type 0 = IsUnderWay name image after in
      let last : ℕ = at + record_units (length changes) in
      let Q : Disk → Type 0 = λ e. (w : IsWritten AnyHow name records (changes ∷ []) image after e) × (w.log at ≡ h) × Keeps e.log last closed × (e.log.failed ≡ false) in
      let first = body_written room d l gate in
      let R : Disk → Type 0 = IsCurrent name last after in
      let opens : (e : Disk) → Q e → Reaches P e (to_gate at h) R = λ e q.
      let r = gate_written name image after records (changes ∷ []) image after (inl (λ n. refl)) (inr (λ n. refl)) h e q.0 in
      let f : Disk = all_done e (to_gate at h) in
      let v = r.ends.0 in
      let m = all_moves (numbered at (h ∷ [])) [] e (to_gate at h) ((λ n t. t), (tt, tt)) in
      record {
        along = r.along;
        ends = record {
          records = records ++ changes ∷ [];
          at_is = place_next;
          logged = record {
            log = v.log;
            says = v.says;
            few = v.few;
            sure = λ n lt. elim (cases_eq n at) [
              | inl here ↦ subst (λ (k : ℕ). Keeps f.log k (v.log k)) (sym here) (subst (Keeps f.log at) (sym (r.ends.1 at ∙ q.1)) r.ends.2)
              | inr other ↦ v.sure n lt other
            ];
            shut = v.shut;
            makes = v.makes_after;
          };
          gate = m.log_keeps last closed (only_gate at last h (λ same. omega arith)) q.2;
          sound = sound_still (to_gate at h) e ∙ q.3;
        };
      } in
      reaches_then P Q R d (to_write name at changes) (to_gate at h)
      (record { along = first.along; ends = (first.ends.0, first.ends.1, first.ends.2, sound_still (to_write name at changes) d ∙ sound) }) opens

-- at rest the log says what makes the image, by no record
pub rest_current : (name : ℕ) (image : Contents) (d : Disk) → IsAtRest image d → IsCurrent name 0 image d
rest_current name image d rest = record {
  records = [];
  at_is = refl;
  logged = record {
    log = λ n. [];
    says = λ other same. tt;
    few = omega arith;
    sure = λ n lt. absurd (omega arith);
    shut = inl rest.gate;
    makes = sure_makes name image image image d.image rest.image_is;
  };
  gate = rest.gate;
  sound = rest.sound;
}

pub current_committed : (name : ℕ) → name < 2 ^ 64 → (begin : ℕ) → begin < most → (changes : Changes) → Fits changes → (image : Contents) (d : Disk) → IsCurrent name begin image d
    → Reaches (IsUnderWay name image (put changes image)) d (log_plan name begin changes) (IsCurrent name (begin + record_units (length changes)) (put changes image))
current_committed name small begin room changes fits image d c =
    subst (λ (p : ℕ). Reaches (IsUnderWay name image (put changes image)) d (log_plan name p changes) (IsCurrent name (p + record_units (length changes)) (put changes image))) c.at_is
    (committed name small c.records changes fits image (subst (λ (p : ℕ). p < most) (sym c.at_is) room) d c.logged (subst (λ (p : ℕ). Keeps d.log p closed) (sym c.at_is) c.gate) c.sound)
