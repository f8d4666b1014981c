use Rattle.std.proofs.Common.{◌≡◌, map, take}
use Rattle.wit_rules.specs.View as seen
use Rattle.wit_checked_files.proofs.checked.check_paths.Given as goal

abbrev pub invariant-loop-path : goal.invariant-loop-path
invariant-loop-path l = map (λ t. t.now) l.texts.items ≡ map (λ p. p.text) (map seen.label (take l.path-index l.paths))
