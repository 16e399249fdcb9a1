pub mod Beginnings
pub mod GoingOn
pub mod OneRefusal
pub mod Making
pub mod Small
pub mod WorkedRuns
pub mod GivenUp
pub mod RightRun
mod LegalRows
mod InsideRows
mod WrongFaults
mod WrongIssues
mod WrongStarts
mod WrongReplies
mod WrongCalls
mod RightTransfers
mod WrongDrivers
mod WrongActs
mod RefusalRows
pub mod FaultlessLaws
pub mod NotedLaws
mod KeptLaws
