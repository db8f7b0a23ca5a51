mod Runs
mod TypedRuns
mod RowsOfRuns
mod Cuts
mod WorkedCuts
mod Bodies
