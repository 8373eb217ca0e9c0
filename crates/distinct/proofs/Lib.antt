pub mod CountLaws
mod Merging
mod Backing
mod RunLaws
mod BothEnds
mod Ahead
mod Passing
mod ShortRuns
mod Sorted
mod Rises
