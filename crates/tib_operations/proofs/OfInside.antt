-- What `inside` writes: one text, and that there is none cannot be.
use Rattle.tib_cost.specs.declared.Scale.{Scale}
use Rattle.std.proofs.Common.{◌≡◌, ℕ, ◌<◌, List, [], ◌∷◌, length, get_or, refl, ap, sym, ◌∙◌, arith, suc, Option}
use Rattle.std.specs.Prelude.{None}
use Rattle.tib_cost.proofs.Least.{IsLeast-unique}
use Rattle.tib_grammar.specs.GrammarOf.{GrammarOf}
use Rattle.tib_grammar_file.specs.ByText.{AgreeByText}
use Rattle.tib_inside.specs.Inside.{AreInsides}
use Rattle.tib_canon.proofs.Inhabited.{insides_are}
use Rattle.tib_canon.proofs.InsidesByText.{insides_by_text}
use Rattle.tib_operations.specs.Text.{inside_lines}
use Rattle.tib_operations.specs.Inside.{HasInsides}

-- lists with the same value at each place
costs_same : (vs ws : List (Option ℕ)) → length vs ≡ length ws → ((q : ℕ) → q < length vs → get_or vs q None ≡ get_or ws q None) → vs ≡ ws
costs_same [] [] long each = refl
costs_same [] (w ∷ ws) long each = absurd (omega arith)
costs_same (v ∷ vs) [] long each = absurd (omega arith)
costs_same (v ∷ vs) (w ∷ ws) long each =
    ap (λ (x : Option ℕ). x ∷ vs) (each 0 (omega arith)) ∙ ap (λ (xs : List (Option ℕ)). w ∷ xs) (costs_same vs ws (omega arith) (λ q h. each (suc q) (omega arith)))

pub insides_once :
    (scale : Scale) (product : ℕ → ℕ → ℕ) (labels others : List (List ℕ)) (g h : GrammarOf) (text other : List ℕ) → AgreeByText labels others g h → HasInsides scale product g text →
    HasInsides scale product h other → text ≡ other
insides_once scale product labels others g h text other agree a b =
    let long : length a.costs ≡ length b.costs = a.counted ∙ ap length agree.names ∙ sym b.counted in
    let moved : AreInsides product h.rules a.costs = insides_by_text product labels others g h a.costs agree a.insides in
    let costs : a.costs ≡ b.costs = costs_same a.costs b.costs long (λ q l. IsLeast-unique (moved q l) (b.insides q (omega (arith, l, long)))) in
    a.are ∙ ap (λ (ns : List (List ℕ)). inside_lines scale ns a.costs) agree.names ∙ ap (inside_lines scale h.names) costs ∙ sym b.are

pub insides_there : (scale : Scale) (product : ℕ → ℕ → ℕ) (g : GrammarOf) → ((text : List ℕ) → HasInsides scale product g text → ⊥) → ⊥
insides_there scale product g never =
    insides_are product g.rules (length g.names) (λ costs long are. never (inside_lines scale g.names costs) (record { costs = costs; counted = long; insides = are; are = refl }))
