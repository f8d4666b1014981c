use Rattle.wit_reach.specs.Types.{IsMadeOf}
use Rattle.wit_reach.specs.Made.{IsMadeOfWithin}
use Rattle.wit_reach.proofs.Seen.{path_over}
use Rattle.wit_reach.proofs.made.law_seen_is_made.Goals as goal

pub returns : goal.returns
returns c = λ by ds i j r. (r.0, path_over (IsMadeOfWithin by ds) (IsMadeOf ds) (λ a b u. (u.0, u.1, u.3)) i r.0 j r.1)
