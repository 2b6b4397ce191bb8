-- What parsing reaches does not depend on the numbers of labels.
use Rattle.std.proofs.Common.{◌≡◌, ℕ, ◌<◌, List, length, map, get_or, refl, sym, ap, ◌∙◌, subst, arith}
use Rattle.std.proofs.lemmas.List.{length-map}
use Rattle.tib_tree.specs.Trees.{only, relabel_tree}
use Rattle.tib_grammar.specs.Sides.{Symbol, label, hole, Side as SideFor, side_map}
use Rattle.tib_grammar.specs.declared.Rule.{Rule}
use Rattle.tib_expand.specs.Reached.{IsReachedSet}
use Rattle.tib_transducer.specs.declared.Variable.{Variable}
use Rattle.tib_strings.specs.Rules.{string_rule, pairs_of}
use Rattle.tib_strings.specs.declared.StringRule.{StringRule}
use Rattle.tib_strings.specs.Cuts.{IsCut, spans}
use Rattle.tib_apply.specs.Restrictions.{Admits}
use Rattle.tib_image.specs.Restrictions.{restricted_labels}
use Rattle.tib_image.specs.Parsing.{first_key, parse_key, IsParseEdge}
use Rattle.tib_image.specs.ParseOperation.{parse}
use Rattle.tib_canon.proofs.EdgesByText.{key_with, edge_with, holes_kept}
use Rattle.tib_canon.proofs.ReachedAlike.{AreProblemsAlike, reached_alike}
use Rattle.tib_canon.proofs.Relabelled.{left_with}
use Rattle.tib_operations.proofs.WordsByText.{word_rule_with, words_with, word_at, cut_to, cut_from, words_admit, words_admitted, parse_side}

module _ (f : ℕ → ℕ) (apart : (i j : ℕ) → f i ≡ f j → i ≡ j) where
  -- what is a label under the other numbers is one
  label_back : (s : Symbol ℕ Variable) (k : ℕ) → left_with f s ≡ label k → (g : ℕ) × (s ≡ label g) × (f g ≡ k)
  label_back (label g) k e = let same : f g ≡ k = cc e in (g, refl, same)
  label_back (hole x) k e = absurd (cc e)

  module _ (moves : List (StringRule ℕ)) (string : List ℕ) where
    parse_to : (key : ℕ × ℕ × ℕ × ℕ) (o : ℕ × List ℕ) (e : Rule (ℕ × ℕ × ℕ × ℕ)) → IsParseEdge moves string key o e → IsParseEdge (words_with f moves) (map f string) key o (edge_with f e)
    parse_to key o e h =
        let r : StringRule ℕ = string_rule moves o.0 in
        let a : string_rule (words_with f moves) o.0 ≡ word_rule_with f r = word_at f moves o.0 h.below in
        record {
          below = omega (arith, h.below, length-map moves (word_rule_with f));
          state = ap (λ (x : StringRule ℕ). x.state) a ∙ h.state;
          root = f h.root;
          is_root = ap (λ (x : StringRule ℕ). x.left.label) a ∙ ap (left_with f) h.is_root;
          admitted = words_admit f apart moves key.3 h.root h.admitted;
          is_cut = subst (λ (x : StringRule ℕ). IsCut (map f string) x.right key.1 key.2 o.1) (sym a) (cut_to f string r.right key.1 key.2 o.1 h.is_cut);
          left = h.left;
          right =
              ap (relabel_tree (key_with f)) h.right ∙ sym (parse_side f apart moves r key.1 o.1)
              ∙ sym (ap (λ (x : StringRule ℕ). side_map (parse_key (restricted_labels (words_with f moves)) (pairs_of x.right) (spans x.right key.1 o.1)) x.left) a);
          costs = h.costs ∙ sym (ap (λ (x : StringRule ℕ). x.cost) a);
        }

    parse_from :
        (key : ℕ × ℕ × ℕ × ℕ) (o : ℕ × List ℕ) (e : Rule (ℕ × ℕ × ℕ × ℕ)) → IsParseEdge (words_with f moves) (map f string) key o e →
        (old : Rule (ℕ × ℕ × ℕ × ℕ)) × (e ≡ edge_with f old) × IsParseEdge moves string key o old
    parse_from key o e h =
        let below : o.0 < length moves = omega (arith, h.below, length-map moves (word_rule_with f)) in
        let r : StringRule ℕ = string_rule moves o.0 in
        let a : string_rule (words_with f moves) o.0 ≡ word_rule_with f r = word_at f moves o.0 below in
        let root = label_back r.left.label h.root (sym (ap (λ (x : StringRule ℕ). x.left.label) a) ∙ h.is_root) in
        let old : SideFor ℕ (ℕ × ℕ × ℕ × ℕ) = side_map (parse_key (restricted_labels moves) (pairs_of r.right) (spans r.right key.1 o.1)) r.left in
        let right : e.right ≡ relabel_tree (key_with f) old =
        h.right ∙ ap (λ (x : StringRule ℕ). side_map (parse_key (restricted_labels (words_with f moves)) (pairs_of x.right) (spans x.right key.1 o.1)) x.left) a
        ∙ parse_side f apart moves r key.1 o.1
        in (
          record { left = e.left; right = old; cost = e.cost },
          ap (λ (s : SideFor ℕ (ℕ × ℕ × ℕ × ℕ)). record { left = e.left; right = s; cost = e.cost }) right,
          record {
            below = below;
            state = sym (ap (λ (x : StringRule ℕ). x.state) a) ∙ h.state;
            root = root.0;
            is_root = root.1;
            admitted = words_admitted f apart moves key.3 root.0 (subst (λ (k : ℕ). Admits (restricted_labels (words_with f moves)) key.3 k) (sym root.2) h.admitted);
            is_cut = cut_from f apart string r.right key.1 key.2 o.1 (subst (λ (x : StringRule ℕ). IsCut (map f string) x.right key.1 key.2 o.1) a h.is_cut);
            left = h.left;
            right = refl;
            costs = h.costs ∙ ap (λ (x : StringRule ℕ). x.cost) a;
          },
        )

    parse_alike : AreProblemsAlike (edge_with f) (parse moves string) (parse (words_with f moves) (map f string))
    parse_alike =
        let one : first_key (length (map f string)) ≡ first_key (length string) = ap first_key (length-map string f) in
        record {
          cmp = refl;
          seed_to = λ k h. h ∙ sym one;
          seed_from = λ k h. h ∙ one;
          seed_edges = record { to = λ o e h. h; from = λ o e h. absurd h };
          edges = λ order n. record {
            to = λ o e h.
                subst (λ (k : ℕ × ℕ × ℕ × ℕ). IsParseEdge (words_with f moves) (map f string) (get_or order n k) o (edge_with f e)) (sym one)
                (parse_to (get_or order n (first_key (length string))) o e h);
            from = λ o e h.
                parse_from (get_or order n (first_key (length string))) o e
                (subst (λ (k : ℕ × ℕ × ℕ × ℕ). IsParseEdge (words_with f moves) (map f string) (get_or order n k) o e) one h);
          };
          ends = λ e. holes_kept f (only e.right);
        }

    -- what is reached under the other numbers
    pub parse_given :
        (order : List (ℕ × ℕ × ℕ × ℕ)) (es : List (Rule (ℕ × ℕ × ℕ × ℕ))) → IsReachedSet (parse moves string) order es →
        IsReachedSet (parse (words_with f moves) (map f string)) order (map (edge_with f) es)
    parse_given order es reached = reached_alike (edge_with f) (parse moves string) (parse (words_with f moves) (map f string)) parse_alike order es reached
