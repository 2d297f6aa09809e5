pub mod CallLaws
pub mod Ready
