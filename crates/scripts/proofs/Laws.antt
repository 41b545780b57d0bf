-- Generic laws: two runs whose literals correspond answer alike; ways through the trees of the index.
pub mod Correspondence
pub mod SearchTree
