use Rattle.std.proofs.Common.{map, take}
use Rattle.link_table.specs.Apart.{HaveNoPostReturns}
use Rattle.link_table.specs.Linking.{linking_value}
use Rattle.link_table.proofs.lookup.Lookup.check_post_returns.Given as goal

abbrev pub invariant-loop-function : goal.invariant-loop-function
invariant-loop-function l = HaveNoPostReturns (linking_value l.self.linking) (map (λ f. f.now) (take l.function-index l.functions))
