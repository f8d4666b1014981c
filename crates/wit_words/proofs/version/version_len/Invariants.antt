use Rattle.std.proofs.Common.{◌≡◌, ◌≤◌, drop, IfSome}
use Rattle.wit_words.specs.Version.{len_from, version_len}
use Rattle.wit_words.proofs.Versions.{so_far}
use Rattle.wit_words.proofs.version.version_len.Given as goal

abbrev pub invariant-loop-at : goal.invariant-loop-at
invariant-loop-at l = (so_far l.longest l.at (len_from l.state (drop l.at l.text)) ≡ version_len l.text) × IfSome l.longest (λ n. (1 ≤ n) × (n ≤ l.at))
