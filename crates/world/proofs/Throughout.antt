-- At each moment of a run the media hold what its record says.
use Rattle.std.proofs.Common.{◌≡◌, ◌+◌, ◌*◌, List, [], ◌∷◌, length, ◌∙◌}
use Rattle.layout.specs.declared.Geometry.{Geometry}
use Rattle.records.specs.Marks.{Mark, Answered, Issued, Started, Took, Flush, GaveUp, Fault}
use Rattle.records.specs.Area.{Area, WritesInside}
use Rattle.records.specs.Laws.{Stays}
use Rattle.records.specs.Open.{IsWellFormed}
use Rattle.records.specs.Opening.{Opening, contents_at, opening_range}
use Rattle.records.proofs.Inside.{head_and_tail_stay}
use Rattle.records.proofs.Sectors.{unsure_by_sector}
use Rattle.true_replies.specs.Events.{opening_media}
use Rattle.schedule.specs.Faultless.{without_faults, FaultsChangeNothing}
use Rattle.schedule.specs.Noted.{marks_in}
use Rattle.schedule.proofs.FaultlessLaws.{faults_change_nothing}
use Rattle.simulated_link.specs.StateView.{RunTruth}
use Rattle.simulated_link.specs.Laws.{MediaHeld}
use Rattle.simulated_link.specs.Moments.{Moment, Runs, record_of}
use Rattle.simulated_link.proofs.Holding.{formed_without, own_truth, runs_back, runs_formed, runs_keep_truth, runs_sectors}
use Rattle.world.specs.Throughout.{MediaHoldAt}
use Rattle.world.proofs.Ending.{media_hold}

-- ---- the server's record writes inside where the run's does

inside_without : (g : Geometry) (marks : List Mark) → WritesInside g marks → WritesInside g (without_faults marks)
inside_without g [] h = h
inside_without g (Fault e cause ∷ marks) h = inside_without g marks h
inside_without g (Started e ∷ marks) h = inside_without g marks h
inside_without g (Answered a ∷ marks) h = inside_without g marks h
inside_without g (Flush ∷ marks) h = inside_without g marks h
inside_without g (GaveUp ∷ marks) h = inside_without g marks h
inside_without g (Took who now call answer ∷ marks) h = inside_without g marks h
inside_without g (Issued r e ∷ marks) h = (h.0, inside_without g marks h.1)

inside_back : (g : Geometry) (x : Mark) (marks : List Mark) → WritesInside g (x ∷ marks) → WritesInside g marks
inside_back g (Fault e cause) marks h = h
inside_back g (Started e) marks h = h
inside_back g (Answered a) marks h = h
inside_back g Flush marks h = h
inside_back g GaveUp marks h = h
inside_back g (Took who now call answer) marks h = h
inside_back g (Issued r e) marks h = h.1

-- ---- at a moment

held_at : (g : Geometry) (v : Opening) (m : Moment) → length m.run.scene.disks.media.sectors ≡ length (opening_media v).sectors
    → WritesInside g (record_of m.run) → RunTruth v m.run.scene (record_of m.run) → MediaHoldAt g (opening_range v) v.media m
held_at g v m size inside h =
    let marks = marks_in m.run.scene.noted in
    let f : FaultsChangeNothing marks = faults_change_nothing marks in
    let held : MediaHeld v m.run.scene marks = media_hold v m.run.scene (record_of m.run) h in
    record {
      size = size;
      inside = λ n k low within sure.
          held.inside.each n k low within (unsure_by_sector marks n k (f.well_formed h.kept.disks.well_formed) within ∙ sure);
      ends = λ n k low within there.
          let stays : Stays (contents_at v) marks (512 * n + k) =
          head_and_tail_stay g (contents_at v) marks (512 * n + k) (f.inside g inside) there in
          held.inside.each n k low within stays.sure ∙ stays.same;
      outside = λ n out. held.outside.each n out;
    }

-- on the way to a moment whose record the headline holds of
pub held_throughout : (g : Geometry) (v : Opening) (area : Area) (b a : Moment) → area.minor ≡ v.minor → (marks : List Mark)
    → RunTruth v b.run.scene marks → length b.run.scene.disks.media.sectors ≡ length (opening_media v).sectors
    → IsWellFormed (marks_in a.run.scene.noted) → WritesInside g (marks_in a.run.scene.noted)
    → (m : Moment) → Runs area b m → Runs area m a → MediaHoldAt g (opening_range v) v.media m
held_throughout g v area b a same marks first size formed inside m before after =
    held_at g v m (runs_sectors area b m before ∙ size)
    (runs_back (WritesInside g) (inside_back g) area m a after (inside_without g (marks_in a.run.scene.noted) inside))
    (runs_keep_truth v area b m same before (runs_formed area m a after (formed_without (marks_in a.run.scene.noted) formed))
    (own_truth v b.run marks first))
