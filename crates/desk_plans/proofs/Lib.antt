pub mod RowsPut
pub mod Sound
pub mod PlanCalls
pub mod PlansLeft
