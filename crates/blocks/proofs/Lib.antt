pub mod Laws
pub mod Budget
