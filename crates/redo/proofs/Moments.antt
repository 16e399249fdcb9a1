-- What holds at each moment of some steps.
use Rattle.std.proofs.Common.{◌≡◌, inl, inr, ℕ, List, [], ◌∷◌, ◌++◌, map, refl, sym, ◌∙◌, ap, subst}
use Rattle.std.specs.List.{AllByRecursion}
use Rattle.stable.specs.declared.Which.TheVariants.{Log, Image}
use Rattle.stable.specs.Disk.{Contents, Changes, Step, Write, Sync, numbered, put, Touches, Keeps, Event, Did, Failed, FileState, Disk, file_written, file_synced, done, broken, happened, run}
use Rattle.stable.specs.Runs.{IsMoment}
use Rattle.redo.specs.Runs.{Run, spread}
use Rattle.redo.specs.Plans.{run_write}
use Rattle.redo.proofs.Units.{keeps_written, keeps_spoilt, keeps_synced, keeps_unsynced, written_synced, written_twice, touches_first, touches_last}

pub run-append : (first more : List Event) (d : Disk) → run (first ++ more) d ≡ run more (run first d)
run-append [] more d = refl
run-append (e ∷ first) more d = run-append first more (happened d e)

-- P holds at each moment of these steps from a disk on, and after each failure
abbrev pub Along : (Disk → Type 0) → Disk → List Step → Type 0
Along P d [] = P d
Along P d (s ∷ steps) = P d × P (broken d s) × Along P (done d s) steps

abbrev pub all_done : Disk → List Step → Disk
all_done d [] = d
all_done d (s ∷ steps) = all_done (done d s) steps

-- P holds all along, and Q at the end
pub record Reaches (P : Disk → Type 0) (d : Disk) (steps : List Step) (Q : Disk → Type 0) : Type 0 where
  pub along : Along P d steps
  pub ends : Q (all_done d steps)

along-append : (P : Disk → Type 0) (d : Disk) (xs ys : List Step) → Along P d xs → Along P (all_done d xs) ys → Along P d (xs ++ ys)
along-append P d [] ys h k = k
along-append P d (x ∷ xs) ys h k = (h.0, h.1, along-append P (done d x) xs ys h.2 k)

all_done-append : (d : Disk) (xs ys : List Step) → all_done d (xs ++ ys) ≡ all_done (all_done d xs) ys
all_done-append d [] ys = refl
all_done-append d (x ∷ xs) ys = all_done-append (done d x) xs ys

-- one part behind the other
pub reaches_then : (P Q R : Disk → Type 0) (d : Disk) (xs ys : List Step) → Reaches P d xs Q → ((e : Disk) → Q e → Reaches P e ys R) → Reaches P d (xs ++ ys) R
reaches_then P Q R d xs ys h k =
    let next = k (all_done d xs) h.ends in
    record { along = along-append P d xs ys h.along next.along; ends = subst R (sym (all_done-append d xs ys)) next.ends }

pub run_all : (steps : List Step) (d : Disk) → run (map Did steps) d ≡ all_done d steps
run_all [] d = refl
run_all (s ∷ steps) d = run_all steps (done d s)

at_first : (P : Disk → Type 0) (d : Disk) (steps : List Step) → Along P d steps → P d
at_first P d [] h = h
at_first P d (s ∷ steps) h = h.0

at_done : (P : Disk → Type 0) (d : Disk) (before after : List Step) → Along P d (before ++ after) → P (run (map Did before) d)
at_done P d [] after h = at_first P d after h
at_done P d (s ∷ before) after h = at_done P (done d s) before after h.2

at_failed : (P : Disk → Type 0) (d : Disk) (before after : List Step) (s : Step) → Along P d (before ++ s ∷ after) → P (run (map Did before ++ Failed s ∷ []) d)
at_failed P d [] after s h = h.1
at_failed P d (b ∷ before) after s h = at_failed P (done d b) before after s h.2

pub at_moment : (P : Disk → Type 0) (d : Disk) (plan : List Step) (events : List Event) → Along P d plan → IsMoment plan events → P (run events d)
at_moment P d plan events h (inl m) = subst (λ (es : List Event). P (run es d)) (sym m.3) (at_done P d m.0 m.1 (subst (Along P d) m.2 h))
at_moment P d plan events h (inr m) = subst (λ (es : List Event). P (run es d)) (sym m.events_are) (at_failed P d m.before m.after m.at (subst (Along P d) m.parts h))

-- What is kept stays so, but for these units of the log and those of the image.
pub record Moves (log image : List (ℕ × List ℕ)) (d e : Disk) : Type 0 where
  pub log_keeps : (n : ℕ) (v : List ℕ) → (Touches log n → ⊥) → Keeps d.log n v → Keeps e.log n v
  pub image_keeps : (n : ℕ) (v : List ℕ) → (Touches image n → ⊥) → Keeps d.image n v → Keeps e.image n v

pub moves_not : (L I : Changes) (d : Disk) → Moves L I d d
moves_not L I d = record { log_keeps = λ n v none k. k; image_keeps = λ n v none k. k }

pub moves_then : (L I : Changes) (d e f : Disk) → Moves L I d e → Moves L I e f → Moves L I d f
moves_then L I d e f h k = record {
  log_keeps = λ n v none keeps. k.log_keeps n v none (h.log_keeps n v none keeps);
  image_keeps = λ n v none keeps. k.image_keeps n v none (h.image_keeps n v none keeps);
}

-- a step that writes no other units
abbrev pub Within : Changes → Changes → Step → Type 0
Within L I (Write Log at units) = (n : ℕ) → Touches (numbered at units) n → Touches L n
Within L I (Write Image at units) = (n : ℕ) → Touches (numbered at units) n → Touches I n
Within L I (Sync file) = Unit {0}

done_moves : (L I : Changes) (d : Disk) (s : Step) → Within L I s → Moves L I d (done d s)
done_moves L I d (Write Log at units) in_it = record { log_keeps = λ n v none k. keeps_written d.log (numbered at units) n v (λ t. none (in_it n t)) k; image_keeps = λ n v none k. k }
done_moves L I d (Write Image at units) in_it = record { log_keeps = λ n v none k. k; image_keeps = λ n v none k. keeps_written d.image (numbered at units) n v (λ t. none (in_it n t)) k }
done_moves L I d (Sync Log) in_it = record { log_keeps = λ n v none k. keeps_synced d.log n v k; image_keeps = λ n v none k. k }
done_moves L I d (Sync Image) in_it = record { log_keeps = λ n v none k. k; image_keeps = λ n v none k. keeps_synced d.image n v k }

broken_moves : (L I : Changes) (d : Disk) (s : Step) → Within L I s → Moves L I d (broken d s)
broken_moves L I d (Write Log at units) in_it = record { log_keeps = λ n v none k. keeps_spoilt d.log (numbered at units) n v (λ t. none (in_it n t)) k; image_keeps = λ n v none k. k }
broken_moves L I d (Write Image at units) in_it = record { log_keeps = λ n v none k. k; image_keeps = λ n v none k. keeps_spoilt d.image (numbered at units) n v (λ t. none (in_it n t)) k }
broken_moves L I d (Sync Log) in_it = record { log_keeps = λ n v none k. keeps_unsynced d.log n v k; image_keeps = λ n v none k. k }
broken_moves L I d (Sync Image) in_it = record { log_keeps = λ n v none k. k; image_keeps = λ n v none k. keeps_unsynced d.image n v k }

-- what holds wherever steps within these units lead holds along them
pub along : (P : Disk → Type 0) (L I : Changes) (d : Disk) (steps : List Step) → AllByRecursion (Within L I) steps → ((e : Disk) → Moves L I d e → P e) → Along P d steps
along P L I d [] in_it here = here d (moves_not L I d)
along P L I d (s ∷ steps) in_it here = (
  here d (moves_not L I d),
  here (broken d s) (broken_moves L I d s in_it.0),
  along P L I (done d s) steps in_it.1 (λ e m. here e (moves_then L I d (done d s) e (done_moves L I d s in_it.0) m)),
)

pub all_moves : (L I : Changes) (d : Disk) (steps : List Step) → AllByRecursion (Within L I) steps → Moves L I d (all_done d steps)
all_moves L I d [] in_it = moves_not L I d
all_moves L I d (s ∷ steps) in_it = moves_then L I d (done d s) (all_done (done d s) steps) (done_moves L I d s in_it.0) (all_moves L I (done d s) steps in_it.1)

pub all_then : (Q : Step → Type 0) (xs ys : List Step) → AllByRecursion Q xs → AllByRecursion Q ys → AllByRecursion Q (xs ++ ys)
all_then Q [] ys h k = k
all_then Q (x ∷ xs) ys h k = (h.0, all_then Q xs ys h.1 k)

-- runs are written within what they set
pub log_within : (L I : Changes) (runs : List Run) → ((n : ℕ) → Touches (spread runs) n → Touches L n) → AllByRecursion (Within L I) (map (run_write Log) runs)
log_within L I [] in_it = tt
log_within L I (r ∷ runs) in_it = (λ n t. in_it n (touches_first (numbered r.0 r.1) (spread runs) n t), log_within L I runs (λ n t. in_it n (touches_last (numbered r.0 r.1) (spread runs) n t)))

pub image_within : (L I : Changes) (runs : List Run) → ((n : ℕ) → Touches (spread runs) n → Touches I n) → AllByRecursion (Within L I) (map (run_write Image) runs)
image_within L I [] in_it = tt
image_within L I (r ∷ runs) in_it = (λ n t. in_it n (touches_first (numbered r.0 r.1) (spread runs) n t), image_within L I runs (λ n t. in_it n (touches_last (numbered r.0 r.1) (spread runs) n t)))

-- runs leave a file written
log_runs : (runs : List Run) (d : Disk) → all_done d (map (run_write Log) runs) ≡ (let e : Disk = record { log = file_written d.log (spread runs); image = d.image } in e)
log_runs [] d = refl
log_runs (r ∷ runs) d =
    log_runs runs (done d (Write Log r.0 r.1))
    ∙ ap (λ (f : FileState). let e : Disk = record { log = f; image = d.image } in e) (written_twice d.log (numbered r.0 r.1) (spread runs))

image_runs : (runs : List Run) (d : Disk) → all_done d (map (run_write Image) runs) ≡ (let e : Disk = record { log = d.log; image = file_written d.image (spread runs) } in e)
image_runs [] d = refl
image_runs (r ∷ runs) d =
    image_runs runs (done d (Write Image r.0 r.1))
    ∙ ap (λ (f : FileState). let e : Disk = record { log = d.log; image = f } in e) (written_twice d.image (numbered r.0 r.1) (spread runs))

-- runs that were written and synced are kept
pub log_kept : (runs : List Run) (d : Disk) (c : Contents) (n : ℕ) → Touches (spread runs) n → Keeps (all_done d (map (run_write Log) runs ++ Sync Log ∷ [])).log n (put (spread runs) c n)
log_kept runs d c n t =
    subst (λ (e : Disk). Keeps e.log n (put (spread runs) c n)) (sym (all_done-append d (map (run_write Log) runs) (Sync Log ∷ [])))
    (subst (λ (e : Disk). Keeps (file_synced e.log) n (put (spread runs) c n)) (sym (log_runs runs d)) (written_synced d.log (spread runs) c n t))

pub image_kept : (runs : List Run) (d : Disk) (c : Contents) (n : ℕ) → Touches (spread runs) n → Keeps (all_done d (map (run_write Image) runs ++ Sync Image ∷ [])).image n (put (spread runs) c n)
image_kept runs d c n t =
    subst (λ (e : Disk). Keeps e.image n (put (spread runs) c n)) (sym (all_done-append d (map (run_write Image) runs) (Sync Image ∷ [])))
    (subst (λ (e : Disk). Keeps (file_synced e.image) n (put (spread runs) c n)) (sym (image_runs runs d)) (written_synced d.image (spread runs) c n t))
