-- The walk through all translations, step by step.
use Rattle.std.specs.Prelude.{◌≡◌, ℕ, ◌+◌, ◌<◌, ◌≤◌, Bool, true, false, List, [], ◌∷◌, ◌++◌, length, map, reverse, take, drop, Option, None, Some, refl, if◌then◌else◌}
use Rattle.std.specs.Option.{is_some}
use Rattle.std.proofs.Common.{zero, suc, arith, ap, sym, ◌∙◌, subst, get_or, append-nil, append_assoc, inl, inr}
use Rattle.std.proofs.lemmas.List.{drop_more}
use Rattle.std.specs.Global.{Vec}
use Rattle.tib_lex.specs.Lists.{Has, total}
use Rattle.tib_tree.specs.Trees.{Trees, preorder_of, count, IsOneTree}
use Rattle.tib_cost.specs.Semiring.{most, cut, ProductLaws}
use Rattle.tib_cost.specs.Least.{times}
use Rattle.tib_lex.proofs.Numbers.{nat_le_cases}
use Rattle.tib_grammar.specs.Sides.{Symbol, Side as SideFor}
use Rattle.tib_grammar.specs.Items.{pairs_of}
use Rattle.tib_grammar.specs.declared.Item.{Item}
use Rattle.tib_transducer.specs.Rules.{transducer_rule}
use Rattle.tib_transducer.specs.declared.Pair.{Pair}
use Rattle.tib_transducer.specs.declared.Variable.{Variable}
use Rattle.tib_transducer.specs.declared.TransducerRule.{TransducerRule}
use Rattle.tib_key_edges.specs.Choices.{reads_label}
use Rattle.tib_key_edges.specs.Composition.{edge_parts}
use Rattle.tib_key_edges.specs.Pieces.{Piece as PieceOf, Result, results, pieces_of}
use Rattle.tib_compose.specs.Branches.{IsAdvanced}
use Rattle.tib_compose.specs.CompositionListing.{edge_of, IsListing, IsAdded, IsTooMuch}
use Rattle.tib_compose.specs.Pending.{BoundsAll, Holds, Stands, Extends}
use Rattle.tib_compose.specs.PieceViews.{kids_there}
use Rattle.tib_compose.specs.Readers.{readers, readers_with}
use Rattle.tib_compose.specs.Searches.{affordable, all_of, AreOneTrees, reader_results, turn_results, AreTurns, Remains, turn_at, tried_more, Meets}
use Rattle.tib_compose.specs.Sources.{IsSource, PutsPieces}
use Rattle.tib_compose.specs.Walk.{AreReady, result_edges, ReadComes, IsRead, IsUnderway, IsOnBranch}
use Rattle.tib_compose.specs.declared.branch.Branch.{Branch}
use Rattle.tib_compose.specs.declared.branch.Reading.{Reading}
use Rattle.tib_compose.specs.declared.listing.CompositionListing.{CompositionListing}
use Rattle.tib_compose.specs.declared.pending.PendingPiece.{PendingPiece}
use Rattle.tib_compose.specs.declared.search.ReturnPoint.{ReturnPoint}
use Rattle.tib_compose.specs.declared.search.Search.{Search}
use Rattle.tib_compose.specs.declared.source.Source.{Source}
use Rattle.tib_compose.proofs.Listed.{listing_added, listing_overruns}
use Rattle.tib_compose.proofs.Walking.{affordable_one, dear_branch, dear_rest, by_readers, is_reader, known_from, kids_count, turns_longer, turn_tried, turn_new, turns_reverse, turn_over, drop_past, has_there, total_front}

not_some : (c : ℕ) → ◌≡◌ {A = Option ℕ} None (Some c) → ⊥
not_some c e = cc

is_the : (n c : ℕ) → ◌≡◌ {A = Option ℕ} (Some n) (Some c) → n ≡ c
is_the n c e = cc

pub some_cut : (n c : ℕ) → cut n ≡ Some c → n ≡ c
some_cut n c e = elim (nat_le_cases n most) [
  | inl k ↦ is_the n c (subst (λ b. (if b then Some n else None) ≡ Some c) k.1 e)
  | inr k ↦ absurd (not_some c (subst (λ b. (if b then Some n else None) ≡ Some c) k.1 e))
]

none_cut : (n : ℕ) → cut n ≡ None → most < n
none_cut n e = elim (nat_le_cases n most) [ inl k ↦ absurd (not_some n (sym (subst (λ b. (if b then Some n else None) ≡ None) k.1 e))) | inr k ↦ k.0 ]

-- a branch reads a label by a rule

module _ {levelled weighted : Bool} {product : ℕ → ℕ → ℕ} (laws : ProductLaws levelled weighted product) (two : List (TransducerRule ℕ)) (source : Source) (t : ReturnPoint) (m : ℕ) where
  -- at a cost above the greatest
  pub read_dear : (b : Branch) → cut (product t.cost (transducer_rule two m).cost) ≡ None → IsRead product two source t m b b false
  read_dear b e = record {
    done = refl;
    tasks = ([], sym (append-nil b.pending.tasks.items));
    nodes = λ ready known low reads at h. h;
    comes = λ ready known low reads ws h. dear_branch laws two (product t.cost (transducer_rule two m).cost) (pairs_of b.done.items) (pieces_of (preorder_of (transducer_rule two m).right) (kids_there (pairs_of source.items.now) t.reading.node t.reading.rank) ++ ws) (none_cut (product t.cost (transducer_rule two m).cost) e);
  }

  module _ (old new : Branch) (right : List (Item (Pair ℕ))) (cost : ℕ) (b : Option ℕ) where
    -- at a cost within it
    pub read_on :
        cut (product t.cost (transducer_rule two m).cost) ≡ Some cost → new.cost ≡ cost → new.done ≡ old.done → PutsPieces product right source t.reading.node old.pending new.pending →
        pairs_of right ≡ preorder_of (transducer_rule two m).right →
        ((ws : List PieceOf) → Holds product two (pairs_of source.items.now) new.pending ws → BoundsAll product two ws b) → (v : Option ℕ) → times product (Some cost) b ≡ v →
        IsRead product two source t m old new (is_some v)
    read_on e costs done puts right_is bounds v at = record {
      done = done;
      tasks = puts.tasks;
      nodes = λ ready known low reads at h.
          puts.nodes two known t.reading.label t.reading.rank at.1 (known_from two ready.shaped t.reading.state t.reading.label t.reading.rank m low reads right right_is) h;
      comes = λ ready known low reads ws h.
          let kids = kids_there (pairs_of source.items.now) t.reading.node t.reading.rank in
          let rest : List PieceOf = pieces_of (pairs_of right) kids ++ ws in
          let stands : Holds product two (pairs_of source.items.now) new.pending rest =
          puts.pieces two known t.reading.rank (known_from two ready.shaped t.reading.state t.reading.label t.reading.rank m low reads right right_is) ws h
          in
          let same : affordable (results product two new.cost (pairs_of new.done.items) rest) ≡ reader_results product two t.cost (pairs_of old.done.items) kids ws m =
          ap (λ k. affordable (results product two k (pairs_of new.done.items) rest)) (costs ∙ sym (some_cut (product t.cost (transducer_rule two m).cost) cost e))
          ∙ ap (λ (d : Vec (Item (Pair (ℕ × ℕ)))). affordable (results product two (product t.cost (transducer_rule two m).cost) (pairs_of d.items) rest)) done
          ∙ ap (λ xs. affordable (results product two (product t.cost (transducer_rule two m).cost) (pairs_of old.done.items) (pieces_of xs kids ++ ws))) right_is
          in
          by_case v at ws rest stands same (bounds rest stands);
    }
      where
        by_case :
            (v : Option ℕ) → times product (Some cost) b ≡ v → (ws rest : List PieceOf) → Holds product two (pairs_of source.items.now) new.pending rest →
            affordable (results product two new.cost (pairs_of new.done.items) rest)
            ≡ reader_results product two t.cost (pairs_of old.done.items) (kids_there (pairs_of source.items.now) t.reading.node t.reading.rank) ws m →
            BoundsAll product two rest b → ReadComes product two source t m old new ws (is_some v)
        by_case (Some k) at ws rest stands same bound = (rest, stands, same)
        by_case None at ws rest stands same bound =
            sym same ∙ dear_rest laws two new.cost (pairs_of new.done.items) rest b bound (subst (λ k. times product (Some k) b ≡ None) (sym costs) at)

-- a branch goes on

module _ (source : Source) (left : SideFor ℕ Variable) (product : ℕ → ℕ → ℕ) (two : List (TransducerRule ℕ)) (ready : AreReady product two) (known : IsSource product two source)
    (order : List (ℕ × ℕ)) (key : ℕ × ℕ) (all : List (TransducerRule (ℕ × ℕ))) where
  abbrev pairs : List (Symbol ℕ (Pair ℕ) × ℕ)
  pairs = pairs_of source.items.now

  -- the turns below stay while a branch goes on
  turns_stay : (old : Search) (b : Branch) (rs : List Result) → b.pending.tasks ≡ old.branch.pending.tasks → Extends old.branch.done.items b.done.items → Remains product two pairs old rs →
      AreTurns product two pairs (reverse old.turns.items) b.done.items b.pending.tasks.items rs
  turns_stay old b rs e d h =
      let tasks : b.pending.tasks.items ≡ old.branch.pending.tasks.items ++ [] = ap (λ (v : Vec PendingPiece). v.items) e ∙ sym (append-nil old.branch.pending.tasks.items) in
      subst (λ xs. AreTurns product two pairs (reverse old.turns.items) xs b.pending.tasks.items rs) (sym d.1)
      (subst (λ xs. AreTurns product two pairs (reverse old.turns.items) (old.branch.done.items ++ d.0) xs rs) (sym tasks)
      (turns_longer product two pairs (reverse old.turns.items) old.branch.done.items d.0 old.branch.pending.tasks.items [] rs h))

  -- up to a label
  pub on_to_label :
      (old new : Search) (b : Branch) (r : Reading) (before : CompositionListing) → IsAdvanced source.items.now old.branch b (Some r) → Meets r (record { branch = b; turns = old.turns }) new →
      IsOnBranch product two source left order key all old before → IsUnderway product two source left order key all new before
  on_to_label old new b r before a meets h =
      let kids = kids_there pairs r.node r.rank in
      let come = a.comes product two ready.goes h.pieces h.holds in
      let u : ReturnPoint = turn_at r (record { branch = b; turns = old.turns }) in
      let many : count kids ≡ r.rank = kids_count source.items.now r.node r.label r.rank known.children a.at.0 a.at.1 in
      let same : affordable (results product two old.branch.cost (pairs_of old.branch.done.items) h.pieces) ≡ turn_results product two pairs u (pairs_of b.done.items) come.0 =
      ap affordable come.2
      ∙ by_readers product two b.cost (pairs_of b.done.items) r.label r.state kids come.0 (length two)
      ∙ ap (λ n. all_of (reader_results product two b.cost (pairs_of b.done.items) kids come.0) (readers two r.state r.label n (length two))) many
      in
      let turns : AreTurns product two pairs (u ∷ reverse old.turns.items) b.done.items b.pending.tasks.items (turn_results product two pairs u (pairs_of b.done.items) come.0 ++ h.left_over) =
      turn_new product two pairs u (reverse old.turns.items) b.done.items b.pending.tasks.items come.0 h.left_over refl refl come.1 (turns_stay old b h.left_over a.puts.tasks a.puts.done h.remains)
      in
      record {
        listed = h.listed;
        left_over = turn_results product two pairs u (pairs_of b.done.items) come.0 ++ h.left_over;
        lists = h.lists;
        remains = subst (λ (x : Branch). AreTurns product two pairs (reverse new.turns.items) x.done.items x.pending.tasks.items (turn_results product two pairs u (pairs_of b.done.items) come.0 ++ h.left_over)) (sym meets.branch)
            (subst (λ ts. AreTurns product two pairs ts b.done.items b.pending.tasks.items (turn_results product two pairs u (pairs_of b.done.items) come.0 ++ h.left_over))
            (sym (turns_reverse old.turns.items new.turns.items u meets.turns)) turns);
        trees = subst (λ rs. AreOneTrees (rs ++ h.left_over)) same h.trees;
        whole = subst (λ rs. h.listed ++ result_edges key left (rs ++ h.left_over) ≡ all) same h.whole;
      }

  -- up to the end
  module _ (old new : Search) (before : CompositionListing) (a : IsAdvanced source.items.now old.branch new.branch None) (cheap : new.branch.cost ≤ most) (h : IsOnBranch product two source left order key all old before) where
    abbrev edge_here : TransducerRule (ℕ × ℕ)
    edge_here = edge_of key left (pairs_of new.branch.done.items) new.branch.cost

    one_result : affordable (results product two old.branch.cost (pairs_of old.branch.done.items) h.pieces) ≡ (new.branch.cost, pairs_of new.branch.done.items) ∷ []
    one_result =
        ap affordable (a.comes product two ready.goes h.pieces h.holds ∙ ap (λ c. (c, pairs_of new.branch.done.items) ∷ []) (sym a.puts.cost))
        ∙ affordable_one (new.branch.cost, pairs_of new.branch.done.items) cheap

    one_tree : AreOneTrees ((new.branch.cost, pairs_of new.branch.done.items) ∷ h.left_over)
    one_tree = subst (λ rs. AreOneTrees (rs ++ h.left_over)) one_result h.trees

    one_more : (h.listed ++ edge_here ∷ []) ++ result_edges key left h.left_over ≡ all
    one_more =
        append_assoc h.listed (edge_here ∷ []) (result_edges key left h.left_over)
        ∙ subst (λ rs. h.listed ++ result_edges key left (rs ++ h.left_over) ≡ all) one_result h.whole

    -- what was put out is one tree
    pub on_to_tree : IsOneTree (pairs_of new.branch.done.items)
    on_to_tree = one_tree.0

    pub on_to_end : (after : CompositionListing) → new.turns ≡ old.turns → IsAdded left new.branch.done.items new.branch.cost before after → IsUnderway product two source left order key all new after
    on_to_end after turns added = record {
      listed = h.listed ++ edge_here ∷ [];
      left_over = h.left_over;
      lists = listing_added order key h.listed left new.branch.done.items new.branch.cost before after added h.lists;
      remains = subst (λ (ts : Vec ReturnPoint). AreTurns product two pairs (reverse ts.items) new.branch.done.items new.branch.pending.tasks.items h.left_over) (sym turns)
          (turns_stay old new.branch h.left_over a.puts.tasks a.puts.done h.remains);
      trees = one_tree.1;
      whole = one_more;
    }

    pub on_too_far : IsTooMuch left new.branch.done.items before → before.budget < total edge_parts all
    on_too_far much =
        let over : before.budget < total edge_parts (h.listed ++ edge_here ∷ []) = listing_overruns order key h.listed left new.branch.done.items new.branch.cost before much h.lists in
        let front : total edge_parts (h.listed ++ edge_here ∷ []) ≤ total edge_parts all =
        subst (λ es. total edge_parts (h.listed ++ edge_here ∷ []) ≤ total edge_parts es) one_more (total_front (h.listed ++ edge_here ∷ []) (result_edges key left h.left_over))
        in
        omega (arith, over, front)

  -- a turn is taken
  module _ (old : Search) (before : CompositionListing) (h : IsUnderway product two source left order key all old before) (ts : List ReturnPoint) (t : ReturnPoint) (is : old.turns.items ≡ ts ++ t ∷ []) where
    below : AreTurns product two pairs (t ∷ reverse ts) old.branch.done.items old.branch.pending.tasks.items h.left_over
    below = subst (λ us. AreTurns product two pairs us old.branch.done.items old.branch.pending.tasks.items h.left_over) (turns_reverse ts old.turns.items t is) h.remains

    -- at which no rule is left
    pub turn_ends : (new : Search) → new.branch ≡ old.branch → new.turns.items ≡ ts → length (readers_with (t.reading.state, t.reading.label, t.reading.rank) two) ≤ t.tried → IsUnderway product two source left order key all new before
    turn_ends new same turns past =
        let nothing : turn_results product two pairs t (pairs_of (take t.done old.branch.done.items)) below.0 ≡ [] =
        ap (all_of (reader_results product two t.cost (pairs_of (take t.done old.branch.done.items)) (kids_there pairs t.reading.node t.reading.rank) below.0))
        (drop_past t.tried (readers_with (t.reading.state, t.reading.label, t.reading.rank) two) past)
        in
        let rest : h.left_over ≡ below.1 = below.5 ∙ ap (λ zs. zs ++ below.1) nothing in
        record {
          listed = h.listed;
          left_over = h.left_over;
          lists = h.lists;
          remains = subst (λ (x : Branch). AreTurns product two pairs (reverse new.turns.items) x.done.items x.pending.tasks.items h.left_over) (sym same)
              (subst (λ us. AreTurns product two pairs (reverse us) old.branch.done.items old.branch.pending.tasks.items h.left_over) (sym turns)
              (subst (AreTurns product two pairs (reverse ts) old.branch.done.items old.branch.pending.tasks.items) (sym rest)
              (turn_over product two pairs (reverse ts) t.done t.tasks old.branch.done.items old.branch.pending.tasks.items below.1 below.6)));
          trees = h.trees;
          whole = h.whole;
        }

    -- by one of its rules
    module _ (m : ℕ) (low : t.tried < length (readers_with (t.reading.state, t.reading.label, t.reading.rank) two)) (at : get_or (readers_with (t.reading.state, t.reading.label, t.reading.rank) two) t.tried 0 ≡ m)
        (start b : Branch) (done : start.done.items ≡ take t.done old.branch.done.items) (tasks : start.pending.tasks.items ≡ take t.tasks old.branch.pending.tasks.items) (next : start.pending.next ≡ t.next)
        (new : Search) (is_branch : new.branch ≡ b) (is_turns : new.turns.items ≡ ts ++ tried_more t ∷ []) where
      abbrev kids_here : Trees (Symbol ℕ (Pair ℕ))
      kids_here = kids_there pairs t.reading.node t.reading.rank

      reads_here : (m < length two) × (reads_label t.reading.state t.reading.label t.reading.rank (transducer_rule two m) ≡ true)
      reads_here =
          is_reader two t.reading.state t.reading.label t.reading.rank (length two) m (omega arith)
          (subst (Has (readers_with (t.reading.state, t.reading.label, t.reading.rank) two)) at (has_there t.tried (readers_with (t.reading.state, t.reading.label, t.reading.rank) two) 0 low))

      abbrev left_now : List Result
      left_now = turn_results product two pairs (tried_more t) (pairs_of start.done.items) below.0 ++ below.1

      split : h.left_over ≡ reader_results product two t.cost (pairs_of start.done.items) kids_here below.0 m ++ left_now
      split =
          let f : List (Item (Pair (ℕ × ℕ))) → ℕ → List Result = λ d. reader_results product two t.cost (pairs_of d) kids_here below.0 in
          let first : List (Item (Pair (ℕ × ℕ))) = take t.done old.branch.done.items in
          let rs : List ℕ = readers_with (t.reading.state, t.reading.label, t.reading.rank) two in
          below.5
          ∙ ap (λ ms. all_of (f first) ms ++ below.1) (drop_more rs t.tried 0 low ∙ ap (λ n. n ∷ drop (t.tried + 1) rs) at)
          ∙ append_assoc (f first m) (all_of (f first) (drop (t.tried + 1) rs)) below.1
          ∙ ap (λ d. f d m ++ (all_of (f d) (drop (t.tried + 1) rs) ++ below.1)) (sym done)

      starts : Holds product two pairs start.pending below.0
      starts = subst (λ n. Stands product two pairs start.pending.tasks.items n below.0) (sym next) (subst (λ xs. Stands product two pairs xs t.next below.0) (sym tasks) below.4)

      remains_now : {alive : Bool} → IsRead product two source t m start b alive → Remains product two pairs new left_now
      remains_now {alive} read =
          let first : List (Item (Pair (ℕ × ℕ))) = take t.done old.branch.done.items in
          let there : List PendingPiece = take t.tasks old.branch.pending.tasks.items in
          let u : List ReturnPoint = tried_more t ∷ reverse ts in
          let a : AreTurns product two pairs u first there (turn_results product two pairs (tried_more t) (pairs_of first) below.0 ++ below.1) =
          turn_tried product two pairs t (tried_more t) (reverse ts) old.branch.done.items old.branch.pending.tasks.items below.0 below.1 refl refl refl below.2 below.3 below.4 below.6
          in
          let c : AreTurns product two pairs u start.done.items start.pending.tasks.items left_now =
          subst (λ xs. AreTurns product two pairs u start.done.items xs left_now) (sym tasks)
          (subst (λ xs. AreTurns product two pairs u xs there (turn_results product two pairs (tried_more t) (pairs_of xs) below.0 ++ below.1)) (sym done) a)
          in
          let grown : AreTurns product two pairs u (start.done.items ++ []) (start.pending.tasks.items ++ read.tasks.0) left_now = turns_longer product two pairs u start.done.items [] start.pending.tasks.items read.tasks.0 left_now c in
          let out : start.done.items ++ [] ≡ b.done.items = append-nil start.done.items ∙ sym (ap (λ (v : Vec (Item (Pair (ℕ × ℕ)))). v.items) read.done) in
          let on : AreTurns product two pairs u b.done.items b.pending.tasks.items left_now =
          subst (λ xs. AreTurns product two pairs u b.done.items xs left_now) (sym read.tasks.1) (subst (λ xs. AreTurns product two pairs u xs (start.pending.tasks.items ++ read.tasks.0) left_now) out grown)
          in
          subst (λ (x : Branch). AreTurns product two pairs (reverse new.turns.items) x.done.items x.pending.tasks.items left_now) (sym is_branch)
          (subst (λ us. AreTurns product two pairs us b.done.items b.pending.tasks.items left_now) (sym (turns_reverse ts new.turns.items (tried_more t) is_turns)) on)

      -- that comes to something
      pub turn_alive : IsRead product two source t m start b true → IsOnBranch product two source left order key all new before
      turn_alive read =
          let come = read.comes ready known reads_here.0 reads_here.1 below.0 starts in
          record {
            listed = h.listed;
            pieces = come.0;
            left_over = left_now;
            lists = h.lists;
            holds = subst (λ (x : Branch). Holds product two pairs x.pending come.0) (sym is_branch) come.1;
            remains = remains_now read;
            trees = subst (λ (x : Branch). AreOneTrees (affordable (results product two x.cost (pairs_of x.done.items) come.0) ++ left_now)) (sym is_branch)
                (subst (λ rs. AreOneTrees (rs ++ left_now)) (sym come.2) (subst AreOneTrees split h.trees));
            whole = subst (λ (x : Branch). h.listed ++ result_edges key left (affordable (results product two x.cost (pairs_of x.done.items) come.0) ++ left_now) ≡ all) (sym is_branch)
                (subst (λ rs. h.listed ++ result_edges key left (rs ++ left_now) ≡ all) (sym come.2) (subst (λ rs. h.listed ++ result_edges key left rs ≡ all) split h.whole));
          }

      -- or to nothing
      pub turn_dead : IsRead product two source t m start b false → IsUnderway product two source left order key all new before
      turn_dead read =
          let come = read.comes ready known reads_here.0 reads_here.1 below.0 starts in
          record {
            listed = h.listed;
            left_over = left_now;
            lists = h.lists;
            remains = remains_now read;
            trees = subst (λ rs. AreOneTrees (rs ++ left_now)) come (subst AreOneTrees split h.trees);
            whole = subst (λ rs. h.listed ++ result_edges key left (rs ++ left_now) ≡ all) come (subst (λ rs. h.listed ++ result_edges key left rs ≡ all) split h.whole);
          }
