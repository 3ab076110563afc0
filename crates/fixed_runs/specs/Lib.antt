pub mod FixedRuns
