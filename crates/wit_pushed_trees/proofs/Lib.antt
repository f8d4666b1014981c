mod Types
mod Parts
mod Texts
mod Graphs
mod Spans
mod Asking
mod Names
pub mod Finding
mod Given
mod Owning
mod Tables
mod Apart
mod Owned
mod Resolved
mod Agreeing
mod Knowing
mod Giving
mod Wholes
mod Meant
pub mod MeantWorlds
mod SaidResources
mod SaidItems
mod Said
mod Staying
mod Gates
mod StayingWorlds
mod StayingPaths
mod StayingIncludes
mod StayingInner
mod There
pub mod Passed
