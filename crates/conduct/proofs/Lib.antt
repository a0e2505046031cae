-- Laws of an accepted tick, for what is proved of sequences of ticks.
pub mod Lives
pub mod Idle
pub mod Ready
pub mod Begin
pub mod Starting
pub mod Lemma1
pub mod Moves
pub mod Laws
pub mod GoOn
