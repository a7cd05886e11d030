mod Built
mod Orders
mod Trees
mod Outs
mod Whole
mod Ready
