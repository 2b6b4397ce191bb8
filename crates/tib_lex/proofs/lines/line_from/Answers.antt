use Rattle.std.proofs.Common.{◌+◌, ◌≡◌, ◌-◌, length, drop, take, ap, ◌∙◌, ℕ, List, arith, inl, inr, refl}
use Rattle.std.specs.List.{prefix_len}
use Rattle.std.proofs.lemmas.List.{take_all, length-drop}
use Rattle.tib_lex.specs.Lines.{not_feed}
use Rattle.tib_lex.proofs.LinesRead.{line_found}
use Rattle.tib_lex.proofs.lines.line_from.Goals as goal

rest_is : (xs : List ℕ) (at n : ℕ) → n ≡ prefix_len not_feed (take (length xs - at) (drop at xs)) → n ≡ prefix_len not_feed (drop at xs)
rest_is xs at n e = let l = length-drop at xs in e ∙ ap (prefix_len not_feed) (take_all (length xs - at) (drop at xs) (omega arith))

pub returns-then-end-bytes : goal.returns-then-end-bytes
returns-then-end-bytes c =
    line_found c.args.bytes.now c.args.number c.args.at c.line_length.result (c.args.at + c.line_length.result + 1) c.requires.place (rest_is c.args.bytes.now c.args.at c.line_length.result c.line_length.ensures.count) (omega arith)
    (inl (c.if-end-bytes.true, refl)) (omega arith) (omega arith)

pub returns-else-end-bytes : goal.returns-else-end-bytes
returns-else-end-bytes c =
    let l = length-drop c.args.at c.args.bytes.now in
    line_found c.args.bytes.now c.args.number c.args.at c.line_length.result (c.args.at + c.line_length.result) c.requires.place (rest_is c.args.bytes.now c.args.at c.line_length.result c.line_length.ensures.count) (omega (arith, l, c.line_length.ensures.within))
    (inr (omega (arith, l, c.line_length.ensures.within), refl)) (omega arith) (omega arith)
