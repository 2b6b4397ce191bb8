-- A branch goes on to the next label that is to be read.
use Rattle.std.specs.Prelude.{◌≡◌, ℕ, ◌<◌, List, [], ◌∷◌, ◌++◌, length, Option, None, Some, refl}
use Rattle.std.proofs.Common.{ap, sym, ◌∙◌, subst}
use Rattle.tib_grammar.specs.Items.{pairs_of}
use Rattle.tib_grammar.specs.declared.Item.{Item}
use Rattle.tib_transducer.specs.declared.Pair.{Pair}
use Rattle.tib_transducer.specs.declared.TransducerRule.{TransducerRule}
use Rattle.tib_key_edges.specs.Pieces.{Piece as PieceOf, results, results_by, GoesByPieces}
use Rattle.tib_compose.specs.Pending.{Holds, TakesNext}
use Rattle.tib_compose.specs.PieceViews.{piece_of, kids_there}
use Rattle.tib_compose.specs.Branches.{OnlyPutsOut, IsTaken, IsAdvanced, reading_results}
use Rattle.tib_compose.specs.declared.pending.Piece.{Piece}
use Rattle.tib_compose.specs.declared.pending.Pending.{Pending}
use Rattle.tib_compose.specs.declared.branch.Reading.{Reading}
use Rattle.tib_compose.specs.declared.branch.Branch.{Branch}
use Rattle.tib_compose.proofs.Left.{puts_both, stands_moved}

abbrev pub with_left : Branch → Pending → Branch
with_left b p = record { cost = b.cost; done = b.done; pending = p }

module _ (items : List (Item (Pair ℕ))) (first now new : Branch) (left : Pending) (piece : Piece) where
  -- what comes of the first branch comes of the present one
  abbrev pub StillComes : Branch → Type 0
  StillComes b =
      (product : ℕ → ℕ → ℕ) (two : List (TransducerRule ℕ)) → GoesByPieces product two → (ws : List PieceOf) → Holds product two (pairs_of items) first.pending ws →
      (rest : List PieceOf) × Holds product two (pairs_of items) b.pending rest
      × (results product two first.cost (pairs_of first.done.items) ws ≡ results product two first.cost (pairs_of b.done.items) rest)

  puts_now : (reading : Option Reading) → OnlyPutsOut first now → left.tasks ≡ now.pending.tasks → IsTaken items piece (with_left now left) new reading → OnlyPutsOut first new
  puts_now reading puts same taken =
      puts_both first now new puts (record { cost = taken.puts.cost; tasks = taken.puts.tasks ∙ same; done = taken.puts.done })

  -- one piece is put out
  pub step_puts : OnlyPutsOut first now → TakesNext now.pending left (Some piece) → IsTaken items piece (with_left now left) new None → OnlyPutsOut first new
  step_puts puts next taken = puts_now None puts next.0 taken

  pub step_comes : OnlyPutsOut first now → StillComes now → TakesNext now.pending left (Some piece) → IsTaken items piece (with_left now left) new None → StillComes new
  step_comes puts comes next taken product two goes ws h =
      let a = comes product two goes ws h in
      let b = next.2 product two (pairs_of items) a.0 a.1 in (
        b.0,
        stands_moved product two (pairs_of items) left new.pending b.0 taken.puts.tasks taken.next b.2,
        a.2
            ∙ ap (results product two first.cost (pairs_of now.done.items)) b.1
            ∙ subst (λ k. results product two k (pairs_of now.done.items) (piece_of (pairs_of items) piece ∷ b.0) ≡ results product two k (pairs_of new.done.items) b.0) puts.cost (taken.comes product two goes b.0),
      )

  -- a label is to be read
  pub label_met : (r : Reading) → OnlyPutsOut first now → StillComes now → TakesNext now.pending left (Some piece) → IsTaken items piece (with_left now left) new (Some r) → IsAdvanced items first new (Some r)
  label_met r puts comes next taken = record {
    puts = puts_now (Some r) puts next.0 taken;
    at = taken.at;
    comes = λ product two goes ws h.
        let a = comes product two goes ws h in
        let b = next.2 product two (pairs_of items) a.0 a.1 in (
          b.0,
          stands_moved product two (pairs_of items) left new.pending b.0 taken.puts.tasks taken.next b.2,
          a.2
              ∙ ap (results product two first.cost (pairs_of now.done.items)) b.1
              ∙ subst (λ k. results product two k (pairs_of now.done.items) (piece_of (pairs_of items) piece ∷ b.0) ≡ reading_results product two items new r b.0) puts.cost (taken.comes product two goes b.0),
        );
  }

  -- nothing is left
  pub all_out : OnlyPutsOut first now → StillComes now → TakesNext now.pending left None → IsAdvanced items first (with_left now left) None
  all_out puts comes next = record {
    puts = record { cost = puts.cost; tasks = next.0 ∙ puts.tasks; done = puts.done };
    at = tt;
    comes = λ product two goes ws h.
        let a = comes product two goes ws h in
        a.2
        ∙ ap (results product two first.cost (pairs_of now.done.items)) (next.1 product two (pairs_of items) a.0 a.1)
        ∙ goes.at_end first.cost (pairs_of now.done.items);
  }
