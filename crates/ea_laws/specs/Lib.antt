pub mod Kinds
pub mod Kept
pub mod Spots
pub mod InOrder
pub mod ChoiceLaws
pub mod InstanceLaws
pub mod PlanLaws
