pub mod Fronts
pub mod PlanFor
pub mod Lists
