use Rattle.tib_hunted_texts.proofs.count.text_of.Goals as goal

pub returns-in-Ok-counted_text-clause-text : goal.returns-in-Ok-counted_text-clause-text
returns-in-Ok-counted_text-clause-text c =
    let kept = c.in-Ok.ensures in (
      record { states = c.in-Ok.kept.states; rules = c.in-Ok.kept.rules; runs = c.in-Ok.kept.runs; trees = c.args.trees },
      record { trimmed = kept.0; is_trimmed = kept.1; states = kept.2; rules = kept.3; runs = kept.4; trees = c.requires.trees },
      c.in-Ok-counted_text.ensures,
    )
