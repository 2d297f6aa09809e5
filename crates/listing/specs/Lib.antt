pub mod PlanFor
pub mod Fronts
