-- The definitions of trees, of their texts and of tables of labels.
pub mod Written
pub mod Machine
pub mod Shape
pub mod Grows
pub mod LabelTexts
pub mod Nodes
pub mod Lines
pub mod File
pub mod Trees
pub mod Meaning
pub mod Pairs
pub mod Growth
pub mod TreeView
pub mod Filled
pub mod Printed
pub mod TreesText
pub mod Laws
pub mod Recent
pub mod Shaped
-- The order of trees.
pub mod Order
-- The definitions of files of one tree.
pub mod OneTree
pub mod OneTreeLaws
pub mod TreesRead
