use Rattle.std.proofs.Common.{◌≡◌, map, take}
use Rattle.wit_words.specs.NameKey.{name_key}
use Rattle.wit_rules.specs.View as seen
use Rattle.wit_checked_files.proofs.checked.check_names.Given as goal

abbrev pub invariant-loop-name : goal.invariant-loop-name
invariant-loop-name l = l.keys.items ≡ map (λ n. name_key n.text) (map seen.label (take l.name-index l.names))
