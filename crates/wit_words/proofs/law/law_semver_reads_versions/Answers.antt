use Rattle.wit_words.proofs.Versions.{semver_reads}
use Rattle.wit_words.proofs.law.law_semver_reads_versions.Goals as goal

pub returns : goal.returns
returns c = semver_reads
