-- What stays needs what doesn't (WIT, Feature Gates).
use Rattle.std.specs.Prelude.{◌≡◌, ◌⊎◌, true, false, List}
use Rattle.wit_finding.specs.Passed.wit_types-declared-interface-Interface.{Interface}
use Rattle.wit_finding.specs.Passed.wit_types-declared-world-World.{World}
use Rattle.wit_finding.specs.Passed.wit_types-declared-world-WorldInclude.{WorldInclude}
use Rattle.wit_finding.specs.Passed.wit_features-Features.{FeatureSet, stays}
use Rattle.wit_finding.specs.Passed.wit_moves-declared-plan-MoveFault.{MoveFault}
use Rattle.wit_finding.specs.Passed.wit_moves-declared-plan-MoveFault-TheVariants.{ItemNotFound, OutOfMemory}
use Rattle.wit_finding.specs.Passed.wit_moves-Breaks.{Breaks, AnyOf}
use Rattle.wit_finding.specs.Passed.wit_moves-Moved.{Places, is_placed}
use Rattle.wit_finding.specs.Passed.wit_moves-Interfaces.{FunctionsBreak}
use Rattle.wit_finding.specs.Passed.wit_moves-Worlds.{SideBreaks}

-- where types, interfaces and worlds stand
pub record Standing : Type 0 where
  pub types : Places
  pub interfaces : Places
  pub worlds : Places

-- an interface that stays has a function that stays and takes or gives what doesn't
abbrev pub InterfaceBreaks : FeatureSet → Standing → Interface → Breaks
InterfaceBreaks features s d at = (stays features d.stability ≡ true) × FunctionsBreak features s.types d.functions.entries at

-- an include that stays, of a world that doesn't or isn't there
abbrev pub IncludeBreaks : FeatureSet → Standing → WorldInclude → Breaks
IncludeBreaks features s n at = (stays features n.stability ≡ true) × (is_placed s.worlds n.id ≡ false) × (n.span ≡ at)

abbrev pub SidesBreak : FeatureSet → Standing → World → Breaks
SidesBreak features s w at = SideBreaks features s.types s.interfaces w.imports.entries at ⊎ SideBreaks features s.types s.interfaces w.exports.entries at

-- a world that stays, by what it imports, exports or includes
abbrev pub WorldBreaks : FeatureSet → Standing → World → Breaks
WorldBreaks features s w at = (stays features w.stability ≡ true) × (SidesBreak features s w at ⊎ AnyOf (IncludeBreaks features s) w.includes.items at)

abbrev pub PartsBreak : FeatureSet → Standing → List Interface → List World → Breaks
PartsBreak features s interfaces worlds at = AnyOf (InterfaceBreaks features s) interfaces at ⊎ AnyOf (WorldBreaks features s) worlds at

-- the sentence of a refusal
abbrev pub IsCauseOf : Breaks → MoveFault → Type 0
IsCauseOf breaks (ItemNotFound at) = breaks at
IsCauseOf breaks OutOfMemory = ⊥
