-- What a member has built, counted.
pub use Rattle.checkpoint_core.specs.Checkpoints.{transactions_in}
