-- The numbers that refuse in this layer, after document 01's list. 5 stands with the elementary functions, 11 with the series, 1 with the plan. Definitions only.
pub use Rattle.series.specs.Refusals.{numerical}
pub use Rattle.plan.specs.Refusals.{configuration}
