pub mod Record
pub mod Runs
pub mod Plans
pub mod UnderWay
pub mod Laws
pub mod Costs
pub mod Asked
