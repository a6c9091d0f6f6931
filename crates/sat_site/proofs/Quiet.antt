-- What is sent of a label, and that no other answer sends one.
pub use Rattle.sat_hub.proofs.Quiet.{target-some, some-target-here}
