use Rattle.std.proofs.Common.{arith, ◌∙◌, sym, ap, subst, refl, length, List, ◌+◌}
use Rattle.std.specs.List.{All, list_any}
use Rattle.tib_grammar_file.specs.Found.{text_at}
use Rattle.tib_transducer_file.specs.Forms.{is_stray}
use Rattle.std.proofs.lemmas.List.{take_rest}
use Rattle.std.proofs.lemmas.List.Elements.{All-drop}
use Rattle.tib_lex.specs.Line.{Lies}
use Rattle.tib_lex.specs.declared.token.Token.{Token}
use Rattle.tib_tree.specs.Shape.{PlaceLies, items_back}
use Rattle.tib_tree.specs.declared.shape.Place.{Place}
use Rattle.tib_tree.proofs.Steps.{accepted, refused}
use Rattle.tib_grammar_file.proofs.PartsRead.{all_front}
use Rattle.tib_transducer_file.proofs.PartsFound.{no_arrow_found, split_found, right_found, no_left, some_left, no_right, stray_right, both_found, found_in}
use Rattle.tib_transducer_file.proofs.parts.find_parts.Goals as goal

pub returns-then-arrow-tokens-clause-parts : goal.returns-then-arrow-tokens-clause-parts
returns-then-arrow-tokens-clause-parts g c = no_arrow_found g.R.RightReader.reads c.args.line.now c.args.tokens.now c.arrow_at-arrow.result c.arrow_at-arrow.ensures.place c.if-arrow-tokens.true

pub returns-in_default-clause-parts : goal.returns-in_default-clause-parts
returns-in_default-clause-parts g c =
    no_left c.args.line.now c.read_left.new.reader.places.items _ c.in_ok-root.field-0 _ _ c.in_ok-root.ensures.left c.in_default.is
    (split_found g.R.RightReader.reads c.args.line.now c.args.tokens.now _ _ c.arrow_at-arrow.result c.arrow_at-arrow.ensures.place (omega (arith, c.arrow_at-arrow.ensures.within, c.if-arrow-tokens.false)) refl refl)

pub returns-then-not-branch-clause-parts : goal.returns-then-not-branch-clause-parts
returns-then-not-branch-clause-parts g c =
    let l = some_left c.args.line.now c.read_left.new.reader.places.items _ c.in_ok-root.field-0 c.in-Some.root c.in_ok-root.ensures.left c.in-Some.is in
    no_right c.args.line.now c.read_left.new.reader.places.items c.in-Some.root _ _ _ l
    (split_found g.R.RightReader.reads c.args.line.now c.args.tokens.now _ _ c.arrow_at-arrow.result c.arrow_at-arrow.ensures.place (omega (arith, c.arrow_at-arrow.ensures.within, c.if-arrow-tokens.false)) refl (take_rest c.args.tokens.now (c.arrow_at-arrow.result + 1)))
    (right_found g.R.RightReader.reads c.args.line.now _ c.tree_tokens.result.now c.weight_of-weight.result _ (c.weight_of-weight.ensures.weight c.args.line.now) c.tree_tokens.ensures (refused c.in_ok-read_right.field-0 _ _ c.if-not-branch.true c.in_ok-read_right.ensures.items))

pub read_right-requires-clause-lie : goal.read_right-requires-clause-lie
read_right-requires-clause-lie g c =
    all_front (length c.args.line.now) c.weight_of-weight.result _ c.tree_tokens.result.now c.tree_tokens.ensures
    (subst (λ (ts : List Token). All (Lies (length c.args.line.now)) ts) (sym (take_rest c.args.tokens.now (c.arrow_at-arrow.result + 1))) (All-drop (Lies (length c.args.line.now)) (c.arrow_at-arrow.result + 1) c.args.tokens.now c.requires.lie))

pub has_stray-requires : goal.has_stray-requires
has_stray-requires g c = subst (λ (ps : List Place). All (PlaceLies (length c.args.line.now)) ps) (sym c.places.ensures) (c.in_ok-read_right.ensures.lie c.if-not-branch.false)

pub returns-then-has_stray-clause-parts : goal.returns-then-has_stray-clause-parts
returns-then-has_stray-clause-parts g c =
    let l = some_left c.args.line.now c.read_left.new.reader.places.items _ c.in_ok-root.field-0 c.in-Some.root c.in_ok-root.ensures.left c.in-Some.is in
    stray_right c.args.line.now c.read_left.new.reader.places.items (g.R.RightReader.places_of c.read_right.new.self) c.in-Some.root _ _ (text_at c.args.line.now c.weight_of-weight.result) _ l
    (split_found g.R.RightReader.reads c.args.line.now c.args.tokens.now _ _ c.arrow_at-arrow.result c.arrow_at-arrow.ensures.place (omega (arith, c.arrow_at-arrow.ensures.within, c.if-arrow-tokens.false)) refl (take_rest c.args.tokens.now (c.arrow_at-arrow.result + 1)))
    (right_found g.R.RightReader.reads c.args.line.now _ c.tree_tokens.result.now c.weight_of-weight.result _ (c.weight_of-weight.ensures.weight c.args.line.now) c.tree_tokens.ensures (accepted c.in_ok-read_right.field-0 _ _ c.if-not-branch.false c.in_ok-read_right.ensures.items))
    (ap (λ (ps : List Place). list_any is_stray (items_back c.args.line.now ps)) (sym c.places.ensures) ∙ sym c.has_stray.ensures ∙ c.if-has_stray.true)

pub returns-clause-parts : goal.returns-clause-parts
returns-clause-parts g c =
    let l = some_left c.args.line.now c.read_left.new.reader.places.items _ c.in_ok-root.field-0 c.in-Some.root c.in_ok-root.ensures.left c.in-Some.is in
    both_found c.args.line.now c.read_left.new.reader.places.items (g.R.RightReader.places_of c.read_right.new.self) c.in-Some.root _ _ c.weight_of-weight.result _ l
    (split_found g.R.RightReader.reads c.args.line.now c.args.tokens.now _ _ c.arrow_at-arrow.result c.arrow_at-arrow.ensures.place (omega (arith, c.arrow_at-arrow.ensures.within, c.if-arrow-tokens.false)) refl (take_rest c.args.tokens.now (c.arrow_at-arrow.result + 1)))
    (right_found g.R.RightReader.reads c.args.line.now _ c.tree_tokens.result.now c.weight_of-weight.result _ (c.weight_of-weight.ensures.weight c.args.line.now) c.tree_tokens.ensures (accepted c.in_ok-read_right.field-0 _ _ c.if-not-branch.false c.in_ok-read_right.ensures.items))
    (ap (λ (ps : List Place). list_any is_stray (items_back c.args.line.now ps)) (sym c.places.ensures) ∙ sym c.has_stray.ensures ∙ c.if-has_stray.false)

pub returns-clause-lies : goal.returns-clause-lies
returns-clause-lies g c =
    let l = some_left c.args.line.now c.read_left.new.reader.places.items _ c.in_ok-root.field-0 c.in-Some.root c.in_ok-root.ensures.left c.in-Some.is in
    let back : All (Lies (length c.args.line.now)) _ =
    subst (λ (ts : List Token). All (Lies (length c.args.line.now)) ts) (sym (take_rest c.args.tokens.now (c.arrow_at-arrow.result + 1))) (All-drop (Lies (length c.args.line.now)) (c.arrow_at-arrow.result + 1) c.args.tokens.now c.requires.lie)
    in
    found_in c.args.line.now c.read_left.new.reader.places.items (g.R.RightReader.places_of c.read_right.new.self) c.in-Some.root _ c.weight_of-weight.result l
    (c.weight_of-weight.ensures.lies (length c.args.line.now) back)
    (c.in_ok-read_right.ensures.lie c.if-not-branch.false)

pub returns-clause-right : goal.returns-clause-right
returns-clause-right g c = c.in_ok-read_right.ensures.right c.if-not-branch.false
