-- Each interface and each world of a package that keeps its rules is ready behind those in front of it.
use Rattle.wit_readiness.proofs.Ready.{packages_are_ready}
use Rattle.wit_readiness.proofs.law.law_kept_packages_are_ready.Goals as goal

pub returns : goal.returns
returns c = packages_are_ready
