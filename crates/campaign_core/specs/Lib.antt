pub mod Nodes
pub mod Earlier
pub mod Campaign
pub mod Views
pub mod Standing
pub mod Printed
pub mod Changes
