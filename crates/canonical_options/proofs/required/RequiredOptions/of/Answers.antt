use Rattle.canonical_options.proofs.Flags.{are_put}
use Rattle.canonical_options.proofs.required.RequiredOptions.of.Goals as goal

pub returns : goal.returns
returns c = are_put _ _ _ _ _ _ _ (c.empty-options.ensures tt) (c.set.ensures tt) (c.set-2.ensures tt) (c.set-3.ensures tt)
