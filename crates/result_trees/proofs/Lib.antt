mod LeafTrees
mod Behind
mod Commands
mod Sources
mod Shared
