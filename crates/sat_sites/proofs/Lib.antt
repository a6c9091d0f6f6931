pub mod Sets
pub mod Below
