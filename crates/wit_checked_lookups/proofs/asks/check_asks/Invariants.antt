use Rattle.std.proofs.Common.{map, take}
use Rattle.std.specs.Prelude.{bytes_eq}
use Rattle.indexmap.specs.IndexMap.{get_by}
use Rattle.wit_checked_lookups.specs.AskView as seen
use Rattle.wit_lookups.proofs.Asking.{AskedSoFar}
use Rattle.wit_checked_lookups.proofs.asks.check_asks.Given as goal

abbrev pub invariant-loop-ask : goal.invariant-loop-ask
invariant-loop-ask l = AskedSoFar (map seen.ask (take l.ask-index l.asks)) (λ t. get_by (λ k. bytes_eq t k.now) l.known)
