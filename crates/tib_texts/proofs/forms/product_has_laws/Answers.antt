use Rattle.tib_texts.proofs.forms.product_has_laws.Goals as goal

pub returns : goal.returns
returns g c = g.met.S.Semiring.laws
