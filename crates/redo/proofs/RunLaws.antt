-- Commits and settlings one behind the other.
use Rattle.std.proofs.Common.{ℕ, ◌+◌, ◌^◌, ◌<◌, List, [], ◌∷◌, map, length, sym, subst}
use Rattle.stable.specs.Disk.{Contents, Changes, put, Did, Disk, run}
use Rattle.redo.specs.Record.{record_units, most}
use Rattle.redo.specs.Plans.{log_plan, recover_plan}
use Rattle.redo.specs.UnderWay.{Fits, AnyHow, IsUnderWay, IsCurrent}
use Rattle.redo.specs.Laws.{Act, Put, Settle, AreFit, disk_after, place_after, image_after, LoggingIsSafe, CommitsAreSafe, RunsAreSafe}
use Rattle.redo.proofs.Moments.{at_moment, run_all}
use Rattle.redo.proofs.CommitLaws.{current_committed, rest_current, finds_either}
use Rattle.redo.proofs.RecoverLaws.{settling_is_safe}

logging_is_safe : (name at : ℕ) → name < 2 ^ 64 → at < most → (changes : Changes) → Fits changes → (image : Contents) (d : Disk) → IsCurrent name at image d → LoggingIsSafe name at changes image d
logging_is_safe name at small room changes fits image d c =
    let P : Disk → Type 0 = IsUnderWay name image (put changes image) in
    let plan = log_plan name at changes in
    let r = current_committed name small at room changes fits image d c in
    record {
      each_moment = λ events moment. finds_either AnyHow name image (put changes image) (run events d) (at_moment P d plan events r.along moment);
      under_way = λ events moment. at_moment P d plan events r.along moment;
      current = subst (IsCurrent name (at + record_units (length changes)) (put changes image)) (sym (run_all plan d)) r.ends;
    }

pub commits_are_safe : CommitsAreSafe
commits_are_safe = record { begins = rest_current; logging = logging_is_safe; settling = settling_is_safe }

all_current : (name : ℕ) → name < 2 ^ 64 → (acts : List Act) (at : ℕ) → AreFit acts at → (image : Contents) (d : Disk) → IsCurrent name at image d → IsCurrent name (place_after acts at) (image_after acts image) (disk_after name acts at d)
all_current name small [] at fits image d c = c
all_current name small (Put changes ∷ acts) at fits image d c =
    all_current name small acts (at + record_units (length changes)) fits.2 (put changes image) (run (map Did (log_plan name at changes)) d)
    (logging_is_safe name at small fits.0 changes fits.1 image d c).current
all_current name small (Settle ∷ acts) at fits image d c =
    let e : Disk = run (map Did (recover_plan name d.log.shows)) d in
    all_current name small acts 0 fits image e (rest_current name image e (settling_is_safe name at image d c).rest)

pub runs_are_safe : RunsAreSafe
runs_are_safe name small acts fits image d rest =
    let e : Disk = disk_after name acts 0 d in
    let c = all_current name small acts 0 fits image d (rest_current name image d rest) in
    let settling = settling_is_safe name (place_after acts 0) (image_after acts image) e c in
    record {
      finds = settling.finds;
      logging = λ next fit. (logging_is_safe name (place_after acts 0) small fit.0 next fit.1 (image_after acts image) e c).each_moment;
      settling = settling.each_moment;
    }
