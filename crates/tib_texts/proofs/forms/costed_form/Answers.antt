use Rattle.tib_texts.proofs.forms.costed_form.Goals as goal

pub returns-in-Ok-trim_with_insides-clause-printable : goal.returns-in-Ok-trim_with_insides-clause-printable
returns-in-Ok-trim_with_insides-clause-printable g c labels printable =
    c.trimmed_is_printable.ensures g.S.Semiring.product g.S.Semiring.SCALE labels c.in-Ok.normal c.in-Ok-trim_with_insides.trimmed.0 c.in-Ok-trim_with_insides.ensures.trimmed
    (c.normal_forms_are_printable.ensures g.S.Semiring.SCALE labels c.args.grammar.now c.in-Ok.normal c.in-Ok.ensures.form printable)

pub returns-in-Ok-trim_with_insides-clause-below : goal.returns-in-Ok-trim_with_insides-clause-below
returns-in-Ok-trim_with_insides-clause-below g c =
    c.trimmed_has_trees.ensures c.in-Ok.normal c.in-Ok-trim_with_insides.trimmed.0 c.grammar.ensures.normal.normal c.grammar-in-Ok-trim_with_insides.ensures.normal.normal c.in-Ok-trim_with_insides.ensures.trimmed c.in-Ok-trim_with_insides.ensures.each

pub returns-in-Ok-trim_with_insides-clause-names : goal.returns-in-Ok-trim_with_insides-clause-names
returns-in-Ok-trim_with_insides-clause-names g c =
    (record { normal = c.in-Ok.normal; form = c.in-Ok.ensures.form; trimmed = c.in-Ok-trim_with_insides.ensures.trimmed }, c.in-Ok.ensures.names)
