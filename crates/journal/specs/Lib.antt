pub mod Records
pub mod Ready
pub mod Grammar
