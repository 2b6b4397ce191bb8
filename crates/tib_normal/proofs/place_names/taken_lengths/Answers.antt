use Rattle.std.proofs.Common.{ℕ, ◌+◌, ◌-◌, ◌<◌, List, [], ◌∷◌, ◌++◌, length, take, arith, sym, subst, ap}
use Rattle.tib_normal.specs.PlaceNames.{AreTaken}
use Rattle.tib_normal.proofs.Lengths.{taken-more, taken-beyond}
use Rattle.tib_normal.proofs.PlaceNames.{first_names}
use Rattle.tib_normal.proofs.place_names.taken_lengths.Goals as goal
use Rattle.tib_normal.proofs.place_names.taken_lengths.Goals.{then-length-ge9+then-length-len, else-length-ge9, else-length-ge9-via-then-length-ge9+else-length-len, else-length-ge9-via-else-length-ge9}

pub loop-state-preserved : goal.loop-state-preserved
loop-state-preserved c =
    let names : List (List ℕ) = c.args.names.now in
    let before : List (List ℕ) = take c.loop-state.state names in
    let text : List ℕ = c.text-length.result.now in
    let low : c.loop-state.state < length names = omega arith in
    let grown : AreTaken (before ++ text ∷ []) (length names + 1) c.if-length-ge9.taken.items = elim c.if-length-ge9.branch [
      | then-length-ge9+then-length-len w ↦
          taken-more before (length names + 1) c.loop-state.taken.items c.if-length-ge9.taken.items text (length text - 9) c.loop-state.invariant (omega arith) (omega (arith, c.loop-state.invariant.long, c.loop-state.taken.ok)) (ap (λ v. v.items) w.taken-is)
      | else-length-ge9 w ↦
          subst (λ z. AreTaken (before ++ text ∷ []) (length names + 1) z) (ap (λ v. v.items) (sym w.taken-is))
          (taken-beyond before (length names + 1) c.loop-state.taken.items text c.loop-state.invariant (λ n long short. elim w.else-length-ge9.branch [
            | else-length-ge9-via-then-length-ge9+else-length-len v ↦ omega (arith, c.loop-state.invariant.long, c.loop-state.taken.ok)
            | else-length-ge9-via-else-length-ge9 v ↦ omega arith
          ]))
    ] in
    subst (λ z. AreTaken z (length names + 1) c.if-length-ge9.taken.items) (sym (first_names names c.loop-state.state text low c.text-length.ensures)) grown
