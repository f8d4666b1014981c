use Rattle.wit_resolved_scopes.proofs.scope.fill_sorted.Goals as goal

pub returns-then-branch-clause-kept : goal.returns-then-branch-clause-kept
returns-then-branch-clause-kept c = (c.in_ok-are_sorted.ensures.yes c.if-branch.true).1
