-- Packages that keep their rules are ready.
use Rattle.wit_readiness.specs.Readiness.{KeptPackagesAreReady}
use Rattle.wit_readiness.proofs.Interfaces.{interfaces_ready}
use Rattle.wit_readiness.proofs.Worlds.{worlds_ready}

pub packages_are_ready : KeptPackagesAreReady
packages_are_ready files me scopes sorted others declared kept are finds = record {
  interfaces = interfaces_ready files me scopes sorted others declared kept are finds;
  worlds = worlds_ready files me scopes sorted others declared kept are finds;
}
