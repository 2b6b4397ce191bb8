use Rattle.tib_list_tests.proofs.outsides.+context_cost.Given as goal

abbrev pub decreases-context_cost : goal.decreases-context_cost
decreases-context_cost l = l.levels
