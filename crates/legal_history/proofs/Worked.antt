-- Worked rows: what closed bases, stories and sessions come to, by computation.
mod BranchRows
mod BuildRefusals
mod CheckoutRows
mod DueRows
mod EmptiedRows
mod FaultRows
mod FirstBuild
mod LabelRows
mod LongPaths
mod MergeRows
mod NoSteps
mod QueryRows
mod RecordRows
mod Replies
mod RefusalRows
mod ReuseRows
mod ScrubRows
mod Selection
mod SideBySide
mod StoryParts
mod StoryRows
mod TimeRows
pub mod TwoViews
mod UnitLines
mod UnlawfulBuilds
mod UnlawfulRows
