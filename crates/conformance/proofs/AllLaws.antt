-- All that is justified of a run.
use Rattle.conformance.specs.RunLaws.{RunsKeepAll}
use Rattle.conformance.proofs.OpeningLaws.{runs_are_justified}
use Rattle.conformance.proofs.ComplaintLaws.{runs_keep_complaints}
use Rattle.conformance.proofs.AfterFaultLaws.{runs_keep_after_fault}
use Rattle.conformance.proofs.OrderLaws.{runs_keep_order}

pub runs_keep_all : RunsKeepAll
runs_keep_all media rules supply events area b a new ready o rests none runs = record {
  events = runs_are_justified media rules supply events area b a new ready o rests runs;
  complaints = λ none_now. runs_keep_complaints media rules supply events area b a new o rests none runs none_now;
  after_fault = runs_keep_after_fault media rules supply events area b a new o rests none runs;
  ordered = runs_keep_order media rules supply events area b a o rests runs;
}
