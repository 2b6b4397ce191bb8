-- The laws of a text that is written piece by piece, passed on.
pub use Rattle.tib_io.specs.Writing.{HasWritten, no_failure, wrote_none, wrote_more, wrote_less, wrote_as, wrote_same, joined, cut_off, goes_on, stopped}
