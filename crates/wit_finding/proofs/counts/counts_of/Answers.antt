use Rattle.std.proofs.Common.{ap, ◌∙◌, List}
use Rattle.wit_finding.specs.Asks.{ItemEntry}
use Rattle.wit_finding.specs.Foreign.{with_deps}
use Rattle.wit_finding.proofs.Named.{map_map}
use Rattle.wit_finding.proofs.counts.counts_of.Goals as goal

pub returns : goal.returns
returns g c =
    let all = rw c.in-None.ensures.steps.0 at c.loop-items.invariant in
    all ∙ ap (λ (ds : List (List ItemEntry)). with_deps (record { interfaces = 0; worlds = 0 }) ds) (map_map (λ e. e.1) (λ d. d.entries) c.args.deps.now.entries)
