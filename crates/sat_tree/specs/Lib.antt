pub mod Shape
pub mod Cut
pub mod Flaw
pub mod Laws
pub mod PlanLine
