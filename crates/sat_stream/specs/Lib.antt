pub mod Reading
pub mod Stream
pub mod Coming
pub mod Laws
