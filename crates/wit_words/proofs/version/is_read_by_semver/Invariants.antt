use Rattle.std.proofs.Common.{◌≡◌, drop}
use Rattle.std.specs.Prelude.{is_ok}
use Rattle.semver.specs.Parse.{version_parts}
use Rattle.wit_words.specs.Version.{reads}
use Rattle.wit_words.proofs.version.is_read_by_semver.Given as goal

abbrev pub invariant-loop-byte : goal.invariant-loop-byte
invariant-loop-byte l = is_ok (version_parts l.text) ≡ reads l.state (drop l.byte-index l.text)
