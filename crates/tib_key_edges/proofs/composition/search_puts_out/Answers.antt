use Rattle.tib_key_edges.proofs.Flattened.{search_puts_out}
use Rattle.tib_key_edges.proofs.composition.search_puts_out.Goals as goal

pub returns : goal.returns
returns c = λ two p f m n ps kids rest choice z xs h t. search_puts_out two p f m n ps kids rest choice z xs h t
