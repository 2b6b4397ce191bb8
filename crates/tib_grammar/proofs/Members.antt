-- Members of lists, from tib_lex.
pub use Rattle.tib_lex.proofs.Members.{each_has, each_of, has_at, at_has, has_left, has_right, has_either, distinct_more, each_more}
