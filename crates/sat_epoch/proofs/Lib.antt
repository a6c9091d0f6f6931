pub mod AllBelow
