pub mod Beats
pub mod Rising
